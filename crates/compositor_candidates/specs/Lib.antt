-- What a reader must believe of `candidates`: the rows "candidates" and "header, 1" of document 01's table "Where a
-- frame is turned away", and its BandIndex: "rows + 1 u32 starts, then entries".
pub mod Table

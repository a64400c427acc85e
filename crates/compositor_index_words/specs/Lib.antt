-- What a reader must believe of the band index: document 01's BandIndex, from "A command of positive area stands" to "the last start
-- is their number" (`Index`), and painting in order (`Painting`).
pub mod Index
pub mod Painting

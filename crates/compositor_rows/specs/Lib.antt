-- What a reader must believe of band rows: document 01's "BandIndex".
pub mod Rows

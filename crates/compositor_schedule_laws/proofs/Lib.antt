-- The laws of a schedule: S1, S2, S3 and the order (`AllBands`), S4 (`Alike`, and by runs of columns `Runs`), S5 (`Own`), and
-- of them all for boxes (`Boxes`).
pub mod OneBand
pub mod AllBands
pub mod Alike
pub mod Runs
pub mod Sifts
pub mod Own
pub mod Boxes
pub mod Examples

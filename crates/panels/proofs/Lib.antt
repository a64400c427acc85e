-- What the reader and the entries must give (`Plans`), that the panels then agree (`Panels`), and that the entries give it (`Strips`, `Entries`).
pub mod Plans
pub mod Panels
pub mod Examples
pub mod Strips
pub mod Entries
pub mod Rows
pub mod Frames

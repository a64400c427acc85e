-- Agreement in two parts (`Agreement`) is agreement in every field (`Fields`), of what is read with nothing assumed (`Strips`). What agrees has as many
-- items (`Counts`) and is planned alike (`Plans`).
pub mod Agreement
pub mod Fields
pub mod Strips
pub mod Counts
pub mod Plans
pub mod Examples

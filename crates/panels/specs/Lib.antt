-- What a reader must believe of the two panels: document 01's section of that name, over any planner (`Panels`) and for the two entries (`Entries`).
pub mod Panels
pub mod Entries
pub mod Rows

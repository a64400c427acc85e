-- Laws of the definitions in specs/, for the crates above.
pub mod Keys
pub mod Alike
pub mod Schedules
pub mod Fewer
pub mod Inside
pub mod Examples
pub mod InkedRules
pub mod GlyphRules

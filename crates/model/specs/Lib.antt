pub mod Sheets
pub mod Darts
pub mod Streets
pub mod Statements

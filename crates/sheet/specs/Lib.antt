pub mod Sheet
pub mod SheetTheorems

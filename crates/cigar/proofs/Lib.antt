pub mod Among
pub mod Signed
pub mod Totals

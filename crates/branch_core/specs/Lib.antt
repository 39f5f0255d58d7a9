pub mod StockLists
pub mod Agreed
pub mod Decided
pub mod Marked
pub mod Consigned

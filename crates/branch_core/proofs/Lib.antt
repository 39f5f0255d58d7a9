pub mod StockLemmas
pub mod RentalLemmas
pub mod FilmLemmas
pub mod ConsignmentLemmas
pub mod ReceiptLemmas
pub mod MarkLemmas
pub mod ConsignedBooks
pub mod MadeRows

pub mod Keys
pub mod Searches
pub mod Bags
pub mod ShopLemmas
pub mod Canon
pub mod Transfer
pub mod GroupLemmas
pub mod JoinLemmas
pub mod Standing
pub mod Maps
pub mod Tests
pub mod LastLemmas
pub mod OwnLemmas
pub mod OrderedLemmas
pub mod MarkLemmas
pub mod CustodyLemmas
pub mod OfBooks
mod BranchLemmas
mod CatalogueLemmas
mod ConsignmentLemmas
mod PartLemmas
mod PlaceLemmas
mod SoundLemmas

pub mod Requests
pub mod Replies
pub mod Exchanges
pub mod Sealing
pub mod Laws

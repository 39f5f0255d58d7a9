pub mod Joining
pub mod OneReply
pub mod OneRequest
pub mod OneTalk
pub mod SoleMessages

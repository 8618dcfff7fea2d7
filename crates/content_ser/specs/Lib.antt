pub mod Calls
pub mod Grammar
pub mod Serializers
pub mod Scripts
pub mod Sending
pub mod Laws

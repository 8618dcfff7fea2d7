pub mod Values
pub mod Images
pub mod Errors
pub mod Printed
pub mod Orders
pub mod Memory
pub mod Laws

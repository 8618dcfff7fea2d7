-- By which calls a tree is sent.
pub mod Loose
pub mod TreeScript
pub mod Places
pub mod Aside
pub mod Canonical
pub mod StaticNames

-- Laws of the definitions.
pub mod Lists
pub mod ScriptsInTurn
pub mod Fits
pub mod StandardScripts
pub mod Arrays
pub mod TreeScripts
pub mod OwnScripts
pub mod Durations
pub mod Addresses

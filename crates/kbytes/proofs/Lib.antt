pub mod Octets
pub mod Places
pub mod Integers
pub mod Groups
pub mod Varints
pub mod Grouped
pub mod Sized
pub mod Written
pub mod RoundTrips
pub mod Laws
-- items of lists, by their places
mod ListItems

-- passes and sources by their places
pub mod Crews

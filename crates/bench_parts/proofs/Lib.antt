-- a seat as it is made
pub mod Fresh

-- a pass between two calls
pub mod Ready

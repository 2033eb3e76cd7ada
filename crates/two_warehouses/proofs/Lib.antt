-- what a room is made with
pub mod Fresh

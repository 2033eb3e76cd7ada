-- sums and joined lists over the views of all passes
pub mod Sums
-- each call keeps the rule
pub mod Keeping

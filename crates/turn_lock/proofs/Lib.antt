-- what the proofs of other crates may cite
pub mod Laws
-- sums over the passes of all views, where one view or two change
pub mod Totals
-- each step of the lock keeps the rule of its table
pub mod Steps
-- the lock's first state, and its last
pub mod Ends
-- lists of passes, as they are made and as they are taken apart
pub mod Rows

-- the standing of a replica as its history grows by one entry
pub mod Growing
-- what is kept of all followers, as their history grows by one entry
pub mod Kept
-- the first of the followers that lags
pub mod Late
-- those that lag, as they leave one after the other
pub mod Leaving
-- who is in sync, and the high watermark, as a history grows
pub mod History
-- how many are in sync
pub mod Counting
-- what proofs of other crates may cite
pub mod Laws

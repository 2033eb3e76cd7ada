-- rows in rising order of id: a place, and what stands before and after it
pub mod Rows
-- the rows of a shard, one changed
pub mod Shards
-- who is listed, after a change
pub mod Listed

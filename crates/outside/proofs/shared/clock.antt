-- the greatest of the moments that were told
pub mod Greatest
-- a pass after a turn of the lock
pub mod Asking
-- the passes of a new clock, and their keys
pub mod KeysMade
-- the keys at the close
pub mod Closing

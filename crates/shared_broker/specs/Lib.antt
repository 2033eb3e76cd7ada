-- ==== the words of public contracts

-- what a clause sees of the broker and of a pass
pub mod Passes
-- what is so of a pass between any two calls
pub mod Standing
-- the passes of a new broker
pub mod Making
-- a transcript that is begun or ended, and the clock that is moved
pub mod Sessions
-- what `handle` answers, and why
pub mod Calling
-- what `collect` answers, and why
pub mod Collecting
-- what `find` answers
pub mod Finding
-- how a broker is closed
pub mod Closing
-- ==== the words of private functions

-- passes taken apart for the close
pub mod Closed
-- a transcript takes its place after those that are ended
pub mod Moved
-- a pass that is made
pub mod Fresh
-- a call that is served or completed
pub mod Serving

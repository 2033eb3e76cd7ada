-- ==== the words of public contracts

-- a queue and its passes
pub mod QueueViews
-- the passes of a new queue, and what each call makes of a pass
pub mod Passes
-- ==== the words of private functions

-- what the queue under a rule knows of a pass
pub mod Hands
-- the rule of the queue
pub mod Balanced

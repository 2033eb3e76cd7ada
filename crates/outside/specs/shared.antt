-- ==== the words of public contracts

-- the clock that threads share; clock.antt says what is in it
pub mod clock
-- the port that threads share; port.antt says what is in it
pub mod port
-- the queue of links; queue.antt says what is in it
pub mod queue

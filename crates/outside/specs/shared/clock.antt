-- ==== the words of public contracts

-- the moments that were told, and what one adds
pub mod Moments
-- what is behind the lock
pub mod Desk
-- a shared clock, and its passes
pub mod ClockViews
-- the passes of a new clock
pub mod Fresh
-- what a pass is after it asked
pub mod Asked
-- ==== the words of private functions

-- a pass by its pass of the lock
pub mod Keys

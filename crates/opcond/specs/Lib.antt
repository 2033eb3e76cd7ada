-- ==== the words of public contracts

-- an operation: its needs, the least tally that satisfies it, and its deadline
pub mod Operation
-- what counts of a value for a need, and the sum over the needs
pub mod Tally
-- values that rose
pub mod Rising

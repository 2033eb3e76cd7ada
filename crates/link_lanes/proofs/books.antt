-- a session over a link, from what its pass knows
mod Over
-- numbers in lists
mod Counting
-- the account's transcripts are those of the books
mod Gathered
-- a link that is served and retired
mod Booked
-- the books of all lanes
mod Closed
-- numbers that stand once at most
mod Apart

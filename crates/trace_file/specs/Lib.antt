-- ==== the words of public contracts

-- the text of one line of a trace
pub mod IsLine
-- what the lines of a trace say
pub mod Contents
-- the order of a trace's lines
pub mod IsInOrder
-- the text of a trace
pub mod Trace
-- what is wrong with a line
pub mod LineFaults
-- the first bad line of a text
pub mod FirstBad
-- what was read of a text that comes in parts
pub mod TextRead
-- one line that is written
pub mod PrintedLine
-- ==== the words of private functions

-- what a refusal to take a line tells
pub mod Refusals
-- what is kept of the lines so far
pub mod Sees
-- what is read of a text in shares
pub mod Shares
-- the tables by which digits are written and read
pub mod DigitTables

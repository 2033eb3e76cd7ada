-- what the crates above may cite
pub mod Laws
-- hex digits that are put out, part by part
pub mod HexParts
-- digits that are written and read by tables
pub mod DigitTables
-- decimal digits and their number
pub mod Numbers
-- a text that is cut at a byte
pub mod Cuts
-- words that are filled
pub mod Filled
-- the words of a line, and the one line that they spell
pub mod Lines
-- what may come after the lines so far
pub mod Orders
-- a text that is read line by line
pub mod TextSoFar
-- a text that is cut after line feeds, and read in shares
pub mod Sharing
-- the lines that were read of a text, and those of the part that comes next
pub mod Taking
-- the whole lines of a text, and the one that has begun
pub mod Begun
-- what a session receives is within the text
pub mod FewBytes
-- lines at the front of a trace
pub mod Fronts
-- what is wrong with a piece of text is one thing
pub mod Faults
-- a text has one first bad line at most
pub mod OneFault
-- what a refusal tells, in other words
pub mod Refused
-- a line that is written is read back
pub mod ReadBack
-- what is written, part by part
pub mod Written

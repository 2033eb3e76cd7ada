-- what the crates above may cite
pub mod Laws
-- items of lists, and what holds of all of them
mod Lists
-- what stays as histories go on
mod Growing
-- how transcripts follow on, and calls end
mod Ending
-- the books of all passes come to a lawful account
mod Closing
-- which entries are a pass's own, as entries come
mod Owning
-- the moments of a pass's own entries
mod Timing
-- the book of a pass that has done nothing
mod Opening
-- what comes between two turns of a pass
mod Coming
-- a book amid a call
mod Underways
-- a call is accepted
mod Acceptings
-- a delayed request asks some partition
mod Asking
-- a delayed call comes to its end
mod Finishings
-- what others do changes nothing that a pass knows
mod Passing
-- a pass takes the turn of one partition
mod Turning
-- the reply of a call
mod Replying
-- how many of a book's calls each winner completed
mod Winning
-- the worked books
mod WorkedBooks
-- the books of three passes that waited
mod WorkedWaits
-- the book of a pass that took a follower out
mod WorkedLeaves

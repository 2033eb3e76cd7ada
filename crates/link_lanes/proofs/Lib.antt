-- how often a number stands in lists that are joined
mod Counting
-- a server that enters something at the port, serves, puts and takes
mod Served
-- a lane that goes on
mod Gone
-- the last server serves what is left in the queue
mod Finished
-- servers and lanes as they are made
mod Made
-- the lanes once their threads are joined
mod Joined
-- the lanes as they are lent to threads
mod Lent
-- sums over lists, and over the parts that passes have of a history
mod PartSums
-- how often numbers stand in lists
mod NumberTimes
-- what is found in a list and in parts of it
mod FoundParts
-- the history of a closed port, as its passes have it
mod PortParts
-- the books of all servers, once the port, the clock and the broker are closed
mod AllBooks
-- a run of lanes that is over
mod RunOver
-- lanes go to threads, and share their hall
mod Sent
-- a lane that is dismissed
mod Dismissed
-- the passes of servers, as their hall is closed
mod OfHall

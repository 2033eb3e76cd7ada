-- Worked histories of a partition with one follower, written out: a wrong word among the definitions would break what is
-- shown of them. In the first each step is the one before it and what came then.
use Rattle.std.specs.Prelude.{List, [], ◌∷◌, ◌++◌}
use Rattle.partlog.specs.in_sync.ReplicaEvent.{ReplicaEvent, Appended, Fetched, Left}

-- a record, which the follower doesn't fetch
abbrev pub one_record : List ReplicaEvent
one_record = Appended 1 ∷ []

-- after 30 seconds the follower is taken out of the set
abbrev pub taken_out : List ReplicaEvent
taken_out = one_record ++ Left 1 30000 ∷ []

-- a second record
abbrev pub without_it : List ReplicaEvent
without_it = taken_out ++ Appended 1 ∷ []

-- it fetches the second record, and so has the first alone
abbrev pub still_out : List ReplicaEvent
still_out = without_it ++ Fetched 1 1 30000 ∷ []

-- it fetches from the log end
abbrev pub back_in : List ReplicaEvent
back_in = still_out ++ Fetched 1 2 30000 ∷ []

-- a third record, which it has still to fetch
abbrev pub third_record : List ReplicaEvent
third_record = back_in ++ Appended 1 ∷ []

-- ==== another one, of which the follower's next fetch is left open

-- it fetched when there were two records, for the last time at the moment 1000, and then five more came
abbrev pub asked_once : List ReplicaEvent
asked_once = Appended 2 ∷ Fetched 1 0 900 ∷ Fetched 1 1 1000 ∷ Appended 5 ∷ []

-- A history in which no replica was taken out of the set.
use Rattle.std.specs.Prelude.{List, [], ◌∷◌, ⊤}
use Rattle.partlog.specs.in_sync.ReplicaEvent.{ReplicaEvent, Appended, Fetched, Left}

abbrev pub NobodyLeft : List ReplicaEvent → Type 0
NobodyLeft [] = ⊤
NobodyLeft (Appended count ∷ events) = NobodyLeft events
NobodyLeft (Fetched replica offset t ∷ events) = NobodyLeft events
NobodyLeft (Left replica t ∷ events) = ⊥

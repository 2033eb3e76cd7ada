-- What became of the partitions that a request names, as it decides whether the request waits: one result for each, in
-- order over all topics. The partitions whose logs were asked are different ones.
use Rattle.std.specs.Prelude.{◌≡◌, ℕ, ◌+◌, ◌^◌, ◌<◌, ◌≤◌, ◌≢◌, List, length, All, AllPairs, Option, Some, None, ⊤}
use Rattle.std.specs.List.{filter_map}
use Rattle.kwire.specs.declared.config.TheConstants.{MOST_PARTITIONS}
use Rattle.kwire.specs.declared.request.Ask.{Ask}
use Rattle.kwire.specs.declared.request.TheConstants.{MOST_NAMED}
use Rattle.kanswer.specs.declared.accepted.Accepted.{Accepted}
use Rattle.kanswer.specs.declared.accepted.Accepted.TheVariants.{Refused, Appended, Seen}
use Rattle.kanswer.specs.LogReadings.{named_count}

-- there is such a partition, and a batch that was appended has records, with offsets that the wire can carry
abbrev pub IsBounded : Accepted → Type 0
IsBounded (Refused code) = ⊤
IsBounded (Appended part base count) = (part < MOST_PARTITIONS) × (0 < count) × (base + count < 2 ^ 63)
IsBounded (Seen part start) = part < MOST_PARTITIONS

-- the partition whose log was asked
abbrev pub part_asked : Accepted → Option ℕ
part_asked (Refused code) = None
part_asked (Appended part base count) = Some part
part_asked (Seen part start) = Some part

abbrev pub parts_asked : List Accepted → List ℕ
parts_asked results = filter_map part_asked results

pub record AreResults (ask : Ask) (results : List Accepted) : Type 0 where
  pub few : named_count ask ≤ MOST_NAMED
  pub each : length results ≡ named_count ask
  pub bounded : All IsBounded results
  pub once : AllPairs (λ a b. a ≢ b) (parts_asked results)

-- How often an exchange stands in a winner's wins, among what its pass has taken, and in the pass's word.
use Rattle.std.specs.Prelude.{ℕ, ◌-◌, Bool, true, false, ◌&&◌, ◌==◌, nat_lt, if◌then◌else◌, List, count_by}
use Rattle.room_core.specs.Numbers.{scanner_numbers}
use Rattle.room_core.specs.declared.event.How.{How}
use Rattle.room_core.specs.declared.event.How.TheVariants.{Satisfied, Expired}
use Rattle.room_core.specs.declared.parts.Phase.{Phase}
use Rattle.room_core.specs.declared.parts.Phase.TheVariants.{Open, Won}
use Rattle.room_core.specs.declared.parts.Session.{Session}
use Rattle.room_core.specs.declared.parts.Prize.{Prize}
use Rattle.room_core.specs.declared.parts.Taken.{Taken}
use Rattle.room_core.specs.State.{Caller, Scanner}

abbrev pub same_how : How → How → Bool
same_how Satisfied Satisfied = true
same_how Satisfied Expired = false
same_how Expired Satisfied = false
same_how Expired Expired = true

abbrev pub is_prize : ℕ → ℕ → How → Prize → Bool
is_prize pass generation how prize = (prize.pass == pass) && ((prize.generation == generation) && same_how prize.how how)

-- in a winner's wins
unfoldable pub prizes_as : List Prize → ℕ → ℕ → How → ℕ
prizes_as wins pass generation how = count_by (is_prize pass generation how) wins

abbrev pub is_taken_as : ℕ → How → ℕ → Taken → Bool
is_taken_as generation how by item = (item.generation == generation) && (same_how item.how how && (item.by == by))

-- among what was taken
unfoldable pub taken_as : List Taken → ℕ → How → ℕ → ℕ
taken_as taken generation how by = count_by (is_taken_as generation how by) taken

abbrev pub is_won_as : Phase → How → ℕ → Bool
is_won_as (Won how by) as_how as_by = same_how how as_how && (by == as_by)
is_won_as Phase.Idle as_how as_by = false
is_won_as Open as_how as_by = false

-- in the word
unfoldable pub won_as : Session → ℕ → How → ℕ → ℕ
won_as session generation how by = if (session.generation == generation) && is_won_as session.phase how by then 1 else 0

abbrev pub is_won : Phase → Bool
is_won (Won how by) = true
is_won Phase.Idle = false
is_won Open = false

-- how often a generation was taken, and whether the word is won at it
unfoldable pub taken_at : List Taken → ℕ → ℕ
taken_at taken generation = count_by (λ item. item.generation == generation) taken

unfoldable pub won_at : Session → ℕ → ℕ
won_at session generation = if (session.generation == generation) && is_won session.phase then 1 else 0

-- winners are numbered: the scanners by their own numbers, and pass p is 17 + p
unfoldable pub wins_of : (ℕ → Scanner) → (ℕ → Caller) → ℕ → List Prize
wins_of scanner caller by = if nat_lt by scanner_numbers then (scanner by).wins else (caller (by - scanner_numbers)).wins

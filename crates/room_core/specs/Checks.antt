-- The events of a check, which a pass makes of its own operation, and a scanner of one that it has met: it reads gauges, and
-- then leaves the operation or wins it.
use Rattle.std.specs.Prelude.{◌≡◌, ◌≢◌, ◌⊎◌, ℕ, ◌+◌, ◌*◌, ◌<◌, ◌≤◌, max, Bool, true, false, ◌||◌, ◌==◌, nat_le, if◌then◌else◌, Option, Some, None, is_some, IsSome, List, [], ◌∷◌, ◌++◌}
use Rattle.room_core.specs.Numbers.{most_needs, clock_scanner, scanner_numbers}
use Rattle.room_core.specs.declared.shape.Shape.{Shape}
use Rattle.room_core.specs.declared.event.How.{How}
use Rattle.room_core.specs.declared.event.How.TheVariants.{Satisfied, Expired}
use Rattle.room_core.specs.declared.parts.Phase.TheVariants.{Won}
use Rattle.room_core.specs.declared.parts.Session.{Session}
use Rattle.room_core.specs.declared.parts.Stage.{Stage}
use Rattle.room_core.specs.declared.parts.Stage.TheVariants.{Listing, Checking, Waiting, Over}
use Rattle.room_core.specs.declared.parts.Duty.{Duty}
use Rattle.room_core.specs.declared.parts.Prize.{Prize}
use Rattle.room_core.specs.declared.parts.Entry.{Entry}
use Rattle.room_core.specs.Put.{put}
use Rattle.room_core.specs.Gauges.{IsGauge, IsPass, IsScanner, clock_of}
use Rattle.room_core.specs.Description.{needs_of, least_of, deadline_of, gauge_of, tally, IsSatisfied, IsOverdue}
use Rattle.room_core.specs.Readings.{unread, read_only}
use Rattle.room_core.specs.State.{State, Caller, Scanner}
use Rattle.room_core.specs.Passes.{peeked}
use Rattle.room_core.specs.Meetings.{IsMet, IsLearned, generation_met, is_live, words_of}

abbrev pub is_checking : Stage → Bool
is_checking Checking = true
is_checking Stage.Idle = false
is_checking Listing = false
is_checking Waiting = false
is_checking (Over how by) = false

-- Read: a caller keeps the greatest value that it has read of the gauge; in a check the reading is taken.
abbrev pub caller_reads : Caller → ℕ → ℕ → Caller
caller_reads caller gauge value = record caller {
  greatest = put caller.greatest gauge (max (caller.greatest gauge) value);
  readings = if is_checking caller.stage then put caller.readings gauge (Some value) else caller.readings;
}

abbrev pub scanner_reads : Scanner → ℕ → ℕ → Scanner
scanner_reads scanner gauge value = record scanner {
  readings = if is_some scanner.meeting then put scanner.readings gauge (Some value) else scanner.readings;
}

abbrev pub CanReadPass : State → ℕ → ℕ → Type 0
CanReadPass s pass gauge = IsPass s.shape pass × IsGauge s.shape gauge

abbrev pub CanReadScanner : State → ℕ → ℕ → Type 0
CanReadScanner s scanner gauge = IsScanner s.shape scanner × IsGauge s.shape gauge

abbrev pub pass_reading : State → ℕ → ℕ → State
pass_reading s pass gauge = record s { caller = put s.caller pass (caller_reads (s.caller pass) gauge (s.value gauge)) }

abbrev pub scanner_reading : State → ℕ → ℕ → State
scanner_reading s scanner gauge = record s { scanner = put s.scanner scanner (scanner_reads (s.scanner scanner) gauge (s.value gauge)) }

-- the gauge was read, or it is the one that is read last
abbrev pub IsRead : (ℕ → Option ℕ) → ℕ → ℕ → Type 0
IsRead readings last gauge = IsSome (readings gauge) ⊎ (gauge ≡ last)

-- so was each need's
abbrev pub AreRead : (ℕ → Option ℕ) → ℕ → (ℕ → ℕ) → Type 0
AreRead readings last words = (i : ℕ) → i < needs_of words → IsRead readings last (gauge_of words i)

abbrev pub is_satisfied : (ℕ → ℕ) → (ℕ → Option ℕ) → Bool
is_satisfied words readings = nat_le (least_of words) (tally words (read_only readings))

abbrev pub is_overdue : Shape → (ℕ → ℕ) → (ℕ → Option ℕ) → Bool
is_overdue shape words readings = nat_le (deadline_of words) (read_only readings (clock_of shape))

-- Leave, by the owner: its check has every reading of its needs' gauges and of the clock, but perhaps this one. The reading is
-- taken. Where the readings then don't make the operation answerable, it is Waiting.
abbrev pub caller_leaves : Shape → Caller → ℕ → ℕ → Caller
caller_leaves shape caller gauge value =
    let readings = put caller.readings gauge (Some value) in
    record caller {
      greatest = put caller.greatest gauge (max (caller.greatest gauge) value);
      readings = readings;
      stage = if is_satisfied caller.description readings || is_overdue shape caller.description readings then Checking else Waiting;
    }

abbrev pub OwnerMayLeave : Shape → ℕ → Caller → ℕ → Type 0
OwnerMayLeave shape pass caller gauge =
    IsPass shape pass × IsGauge shape gauge × (caller.stage ≡ Checking) ×
    AreRead caller.readings gauge caller.description ×
    IsRead caller.readings gauge (clock_of shape)

abbrev pub CanLeavePass : State → ℕ → ℕ → Type 0
CanLeavePass s pass gauge = OwnerMayLeave s.shape pass (s.caller pass) gauge

abbrev pub pass_leaving : State → ℕ → ℕ → State
pass_leaving s pass gauge = record s { caller = put s.caller pass (caller_leaves s.shape (s.caller pass) gauge (s.value gauge)) }

-- a duty of this generation
abbrev pub IsDuty : Option Duty → ℕ → Type 0
IsDuty None generation = ⊥
IsDuty (Some duty) generation = duty.generation ≡ generation

-- the number of needs was learned, and every word of theirs
pub record IsAllLearned (scanner : Scanner) : Type 0 where
  pub few : needs_of (words_of scanner) ≤ most_needs
  pub words : (at : ℕ) → at < 3 + 3 * needs_of (words_of scanner) → IsLearned scanner at

-- the scanner has met the pass, has a duty on the operation that it met, and has learned it
pub record IsOnCheck (scanner : Scanner) (pass : ℕ) : Type 0 where
  pub met : IsMet scanner.meeting pass
  pub duty : IsDuty (scanner.duties pass) (generation_met scanner.meeting)
  pub learned : IsAllLearned scanner

-- Leave, by a scanner: a shard's wants each need's gauge, the clock's wants the clock. Where the readings then don't make the
-- operation answerable, it loses this duty and its meeting.
abbrev pub scanner_answers : Shape → ℕ → (ℕ → ℕ) → (ℕ → Option ℕ) → Bool
scanner_answers shape k words readings = if k == clock_scanner then is_overdue shape words readings else is_satisfied words readings

abbrev pub scanner_lets_go : Scanner → ℕ → Scanner
scanner_lets_go scanner pass = record scanner { duties = put scanner.duties pass None; meeting = None; learned = unread; readings = unread }

abbrev pub scanner_takes : Scanner → ℕ → ℕ → Scanner
scanner_takes scanner gauge value = record scanner { readings = put scanner.readings gauge (Some value) }

abbrev pub scanner_leaves : Shape → ℕ → Scanner → ℕ → ℕ → ℕ → Scanner
scanner_leaves shape k scanner pass gauge value =
    if scanner_answers shape k (words_of scanner) (put scanner.readings gauge (Some value)) then scanner_takes scanner gauge value else scanner_lets_go scanner pass

abbrev pub ScannerMayLeave : Shape → ℕ → Scanner → ℕ → ℕ → Type 0
ScannerMayLeave shape k scanner pass gauge =
    IsScanner shape k × IsPass shape pass × IsGauge shape gauge × IsOnCheck scanner pass ×
    (k ≢ clock_scanner → AreRead scanner.readings gauge (words_of scanner)) ×
    (k ≡ clock_scanner → IsRead scanner.readings gauge (clock_of shape))

abbrev pub CanLeaveScanner : State → ℕ → ℕ → ℕ → Type 0
CanLeaveScanner s scanner pass gauge = ScannerMayLeave s.shape scanner (s.scanner scanner) pass gauge

abbrev pub scanner_leaving : State → ℕ → ℕ → ℕ → State
scanner_leaving s scanner pass gauge = record s {
  scanner = put s.scanner scanner (scanner_leaves s.shape scanner (s.scanner scanner) pass gauge (s.value gauge));
}

-- Satisfied: the tally over the readings is at least the least. Expired: the clock was read, at the deadline or past it.
abbrev pub IsWon : Shape → How → (ℕ → ℕ) → (ℕ → Option ℕ) → Type 0
IsWon shape Satisfied words readings = IsSatisfied words (read_only readings)
IsWon shape Expired words readings = IsSome (readings (clock_of shape)) × IsOverdue words (read_only readings (clock_of shape))

-- the word after an exchange from open at this generation
unfoldable pub exchanged : Session → ℕ → How → ℕ → Session
exchanged session generation how by = if is_live session generation then record { generation = session.generation; phase = Won how by } else session

-- one prize more, where the exchange was made
unfoldable pub with_prize : Session → ℕ → List Prize → Prize → List Prize
with_prize session generation wins prize = if is_live session generation then wins ++ prize ∷ [] else wins

-- Win, by the owner: its readings satisfy the operation, or its reading of the clock is at the deadline. Where the word is open
-- at the generation, it is won by the pass, which has one win more. In either case the pass is Over, as the word then says.
abbrev pub caller_wins : Caller → ℕ → How → Session → Caller
caller_wins caller pass how session = record caller {
  stage = peeked (exchanged session caller.generation how (scanner_numbers + pass)).phase caller.stage;
  wins = with_prize session caller.generation caller.wins (record { pass = pass; generation = caller.generation; how = how });
}

abbrev pub OwnerMayWin : Shape → ℕ → Caller → How → Type 0
OwnerMayWin shape pass caller how = IsPass shape pass × (caller.stage ≡ Checking) × IsWon shape how caller.description caller.readings

abbrev pub CanWinPass : State → ℕ → How → Type 0
CanWinPass s pass how = OwnerMayWin s.shape pass (s.caller pass) how

abbrev pub pass_winning : State → ℕ → How → State
pass_winning s pass how = record s {
  session = put s.session pass (exchanged (s.session pass) (s.caller pass).generation how (scanner_numbers + pass));
  caller = put s.caller pass (caller_wins (s.caller pass) pass how (s.session pass));
}

-- Win, by a scanner: Satisfied by a shard's, Expired by the clock's. In either case it drops the entry of its duty, the duty
-- and the meeting.
abbrev pub gauge_of_duty : Option Duty → ℕ
gauge_of_duty None = 0
gauge_of_duty (Some duty) = duty.gauge

unfoldable pub other_entry : Option Entry → ℕ → Option Entry
other_entry None generation = None
other_entry (Some entry) generation = if entry.generation == generation then None else Some entry

abbrev pub MayWin : ℕ → How → Type 0
MayWin scanner Satisfied = scanner ≢ clock_scanner
MayWin scanner Expired = scanner ≡ clock_scanner

abbrev pub scanner_wins : Scanner → ℕ → How → Session → Scanner
scanner_wins scanner pass how session =
    let generation = generation_met scanner.meeting in
    let gauge = gauge_of_duty (scanner.duties pass) in
    record scanner {
      listing = put scanner.listing gauge (put (scanner.listing gauge) pass (other_entry (scanner.listing gauge pass) generation));
      duties = put scanner.duties pass None;
      meeting = None;
      learned = unread;
      readings = unread;
      wins = with_prize session generation scanner.wins (record { pass = pass; generation = generation; how = how });
    }

abbrev pub ScannerMayWin : Shape → ℕ → Scanner → ℕ → How → Type 0
ScannerMayWin shape k scanner pass how =
    IsScanner shape k × IsPass shape pass × IsOnCheck scanner pass × MayWin k how ×
    IsWon shape how (words_of scanner) scanner.readings

abbrev pub CanWinScanner : State → ℕ → ℕ → How → Type 0
CanWinScanner s scanner pass how = ScannerMayWin s.shape scanner (s.scanner scanner) pass how

abbrev pub scanner_winning : State → ℕ → ℕ → How → State
scanner_winning s scanner pass how = record s {
  session = put s.session pass (exchanged (s.session pass) (generation_met (s.scanner scanner).meeting) how scanner);
  scanner = put s.scanner scanner (scanner_wins (s.scanner scanner) pass how (s.session pass));
}

-- Who has the duty to find an open operation answerable, and who finds it so: by what it has read, and by the present values
-- of the gauges that it hasn't read.
use Rattle.std.specs.Prelude.{◌≡◌, ◌⊎◌, ℕ, ◌<◌, ◌≤◌, Bool, false, ◌==◌, if◌then◌else◌, Option, Some, None, ⊤}
use Rattle.room_core.specs.Numbers.{clock_scanner}
use Rattle.room_core.specs.declared.shape.Shape.{Shape}
use Rattle.room_core.specs.declared.parts.Phase.TheVariants.{Open}
use Rattle.room_core.specs.declared.parts.Stage.{Stage}
use Rattle.room_core.specs.declared.parts.Stage.TheVariants.{Listing, Checking, Waiting, Over}
use Rattle.room_core.specs.declared.parts.Meeting.{Meeting}
use Rattle.room_core.specs.declared.parts.Session.{Session}
use Rattle.room_core.specs.Gauges.{clock_of}
use Rattle.room_core.specs.Description.{least_of, deadline_of, needs_of, gauge_of, tally, IsSatisfied, IsOverdue}
use Rattle.room_core.specs.Readings.{unread, known}
use Rattle.room_core.specs.Checks.{is_checking, IsDuty}
use Rattle.room_core.specs.State.{State, Caller, Scanner}

-- an owner has the duty while Listing or Checking
abbrev pub IsOnDuty : Stage → Type 0
IsOnDuty Listing = ⊤
IsOnDuty Checking = ⊤
IsOnDuty Stage.Idle = ⊥
IsOnDuty Waiting = ⊥
IsOnDuty (Over how by) = ⊥

-- an owner's readings are those of its check
unfoldable pub owner_readings : Stage → (ℕ → Option ℕ) → ℕ → Option ℕ
owner_readings stage readings = if is_checking stage then readings else unread

abbrev pub is_met : Option Meeting → ℕ → Bool
is_met None pass = false
is_met (Some meeting) pass = meeting.pass == pass

-- a scanner's readings are those of its meeting of the pass
unfoldable pub met_readings : Option Meeting → (ℕ → Option ℕ) → ℕ → ℕ → Option ℕ
met_readings meeting readings pass = if is_met meeting pass then readings else unread

-- the owner has the duty, and finds the operation by its readings
pub record OwnerFinds (finds : (ℕ → Option ℕ) → Type 0) (caller : Caller) : Type 0 where
  pub on_duty : IsOnDuty caller.stage
  pub found : finds (owner_readings caller.stage caller.readings)

-- a scanner has a duty on the operation of this generation, and finds it by its readings
pub record ScannerFinds (finds : (ℕ → Option ℕ) → Type 0) (scanner : Scanner) (pass generation : ℕ) : Type 0 where
  pub on_duty : IsDuty (scanner.duties pass) generation
  pub found : finds (met_readings scanner.meeting scanner.readings pass)

-- a shard's scanner does
pub record ShardFinds (finds : (ℕ → Option ℕ) → Type 0) (scanner : ℕ → Scanner) (pass generation : ℕ) : Type 0 where
  pub number : ℕ
  pub shard : number < clock_scanner
  pub here : ScannerFinds finds (scanner number) pass generation

-- the tally over readings and present values is reached
abbrev pub FindsTally : (ℕ → ℕ) → (ℕ → ℕ) → (ℕ → Option ℕ) → Type 0
FindsTally words value readings = least_of words ≤ tally words (known readings value)

-- the clock's reading, or else its present value, is at least the deadline
abbrev pub FindsTime : Shape → (ℕ → ℕ) → (ℕ → ℕ) → (ℕ → Option ℕ) → Type 0
FindsTime shape words value readings = deadline_of words ≤ known readings value (clock_of shape)

-- the word of a pass is open
abbrev pub IsOpenIn : (ℕ → Session) → ℕ → Type 0
IsOpenIn session_at pass = (session_at pass).phase ≡ Open

abbrev pub IsOpen : State → ℕ → Type 0
IsOpen s pass = IsOpenIn s.session pass

-- a tally duty finds the operation
abbrev pub IsFoundByTally : State → ℕ → Type 0
IsFoundByTally s pass =
    OwnerFinds (FindsTally (s.description pass) s.value) (s.caller pass) ⊎
    ShardFinds (FindsTally (s.description pass) s.value) s.scanner pass (s.session pass).generation

-- a time duty finds the operation
abbrev pub IsFoundByTime : State → ℕ → Type 0
IsFoundByTime s pass =
    OwnerFinds (FindsTime s.shape (s.description pass) s.value) (s.caller pass) ⊎
    ScannerFinds (FindsTime s.shape (s.description pass) s.value) (s.scanner clock_scanner) pass (s.session pass).generation

-- a need's gauge has a value for which no scan was begun
pub record IsLate (words value begun : ℕ → ℕ) : Type 0 where
  pub need : ℕ
  pub within : need < needs_of words
  pub late : begun (gauge_of words need) < value (gauge_of words need)

-- the operation of a pass is satisfied, or overdue, by the present values
abbrev pub IsSatisfiedNow : State → ℕ → Type 0
IsSatisfiedNow s pass = IsSatisfied (s.description pass) s.value

abbrev pub IsOverdueNow : State → ℕ → Type 0
IsOverdueNow s pass = IsOverdue (s.description pass) (s.value (clock_of s.shape))

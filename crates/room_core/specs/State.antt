-- The state of the room. The words come first, each of which all threads see; then a part for each source, caller and
-- scanner, which its own thread alone sees. All tables are by number.
use Rattle.std.specs.Prelude.{ℕ, Bool, List, Option}
use Rattle.room_core.specs.declared.shape.Shape.{Shape}
use Rattle.room_core.specs.declared.parts.Session.{Session}
use Rattle.room_core.specs.declared.parts.Stage.{Stage}
use Rattle.room_core.specs.declared.parts.Source.{Source}
use Rattle.room_core.specs.declared.parts.Heard.{Heard}
use Rattle.room_core.specs.declared.parts.Entry.{Entry}
use Rattle.room_core.specs.declared.parts.Duty.{Duty}
use Rattle.room_core.specs.declared.parts.Meeting.{Meeting}
use Rattle.room_core.specs.declared.parts.Prize.{Prize}
use Rattle.room_core.specs.declared.parts.Taken.{Taken}

-- what a pass knows as the owner of its operation
pub record Caller : Type 0 where
  -- its operation's generation and description, as its own steps left them
  pub generation : ℕ
  pub description : ℕ → ℕ
  pub stage : Stage
  -- while Listing: the marks seen, by a need's number, 64 being the clock's
  pub seen : ℕ → Bool
  -- while Checking: what was read of each gauge
  pub readings : ℕ → Option ℕ
  -- of each gauge the greatest value read, and the number up to which a scan is owed, 0 for none
  pub greatest : ℕ → ℕ
  pub owed : ℕ → ℕ
  pub wins : List Prize
  pub taken : List Taken

-- what a scanner knows
pub record Scanner : Type 0 where
  pub heard : Option Heard
  -- of each of its gauges the greatest number with which it began
  pub began : ℕ → ℕ
  -- by gauge and pass
  pub listing : ℕ → ℕ → Option Entry
  -- by pass
  pub duties : ℕ → Option Duty
  pub meeting : Option Meeting
  -- in a meeting: the words of the description learned, and what was read of each gauge
  pub learned : ℕ → Option ℕ
  pub readings : ℕ → Option ℕ
  pub wins : List Prize

pub record State : Type 0 where
  pub shape : Shape
  -- by gauge: its value, up to which value a scan is asked for, and up to which one was begun
  pub value : ℕ → ℕ
  pub asked : ℕ → ℕ
  pub begun : ℕ → ℕ
  -- by pass: its session word; the words of its description; its marks, by a need's number, 64 being the clock's
  pub session : ℕ → Session
  pub description : ℕ → ℕ → ℕ
  pub marks : ℕ → ℕ → ℕ
  pub source : ℕ → Source
  pub caller : ℕ → Caller
  pub scanner : ℕ → Scanner

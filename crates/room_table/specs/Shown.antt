-- The rule of the table, which holds between any two steps: the words and what the seats know show a state of the room's machine
-- that meets what it carries, and no part of it stands in two seats.
use Rattle.std.specs.Prelude.{◌≡◌, ℕ, ◌+◌, ◌≤◌, Bool, cond, ◌==◌, List, length, sum_by, slice_index, All}
use mathlib.Core.Option.{some}
use lib.ListN.{get_elem?}
use Rattle.atomic_table.specs.Table as board
use Rattle.room_core.specs.declared.shape.Shape.{Shape}
use Rattle.room_core.specs.declared.word.Word.{Word}
use Rattle.room_core.specs.Carried.{IsCarried}
use Rattle.room_core.specs.Gauges.{IsGauge, IsPass, IsScanner}
use Rattle.room_core.specs.State.{State}
use Rattle.room_core.specs.Words.{IsWord, word_at}
use Rattle.room_table.specs.declared.part.Part.{Part}
use Rattle.room_table.specs.Layout.{place_of, size_of}
use Rattle.room_table.specs.Parts.{source_of, caller_of, scanner_of}

-- the state has this part, as its steps left it
abbrev pub Shows : State → Part → Type 0
Shows s (Part.Source shape gauge steps) = (shape ≡ s.shape) × IsGauge shape gauge × (s.source gauge ≡ source_of steps)
Shows s (Part.Caller shape pass steps) = (shape ≡ s.shape) × IsPass shape pass × (s.caller pass ≡ caller_of shape pass steps)
Shows s (Part.Scanner shape k steps) = (shape ≡ s.shape) × IsScanner shape k × (s.scanner k ≡ scanner_of shape k steps)

-- parts are numbered: the sources, then the passes, then the scanners
abbrev pub number_of : Part → ℕ
number_of (Part.Source shape gauge steps) = gauge
number_of (Part.Caller shape pass steps) = shape.gauges + pass
number_of (Part.Scanner shape k steps) = shape.gauges + shape.passes + k

abbrev pub one_if : Bool → ℕ
one_if b = cond b 1 0

-- how often a part of this number stands in the seats
abbrev pub times : ℕ → List (List Part) → ℕ
times number views = sum_by (sum_by (λ part. one_if (number_of part == number))) views

-- the words are those of the state
pub record AreWords (s : State) (words : List ℕ) : Type 0 where
  pub size : length words ≡ size_of s.shape
  pub each : (word : Word) → IsWord s.shape word → slice_index words (place_of s.shape word) ≡ word_at s word

pub record IsShown (room : Shape) (s : board.State ℕ (List Part)) : Type 0 where
  pub state : State
  pub shape : state.shape ≡ room
  pub carried : IsCarried state
  pub words : AreWords state s.words
  pub parts : (id : ℕ) (view : List Part) → get_elem? s.views id ≡ some view → All (Shows state) view
  pub once : (number : ℕ) → times number s.views ≤ 1

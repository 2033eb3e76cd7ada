-- What each step on the table tells: a seat of one part has made one step more, and what it found.
use Rattle.std.specs.Prelude.{◌≡◌, ◌≢◌, ℕ, ◌%◌, ◌^◌, ◌<◌, ◌≤◌, List, [], ◌∷◌, Option, Some, None}
use Rattle.atomic_table.specs.Table.{Me, Step}
use Rattle.room_core.specs.declared.event.How.{How}
use Rattle.room_core.specs.declared.parts.Entry.{Entry}
use Rattle.room_core.specs.declared.parts.Meeting.{Meeting}
use Rattle.room_core.specs.declared.parts.Phase.{Phase}
use Rattle.room_core.specs.declared.parts.Source.{Source}
use Rattle.room_core.specs.declared.shape.Shape.{Shape}
use Rattle.room_core.specs.declared.word.Word.{Word}
use Rattle.room_core.specs.Gauges.{IsGaugeOf}
use Rattle.room_core.specs.Meetings.{generation_met}
use Rattle.room_core.specs.Packing.{packed, unpacked, winner_number, how_number}
use Rattle.room_core.specs.State.{Caller, Scanner}
use Rattle.room_core.specs.Start.{idle_caller, idle_scanner}
use Rattle.room_table.specs.declared.part.Part.{Part}
use Rattle.room_table.specs.declared.part.SourceStep.{SourceStep}
use Rattle.room_table.specs.declared.part.CallerStep.{CallerStep}
use Rattle.room_table.specs.declared.part.ScannerStep.{ScannerStep}
use Rattle.room_table.specs.Layout.{place_of}
use Rattle.room_table.specs.Parts.{source_of, caller_of, scanner_of}

abbrev pub Sat : Type 0
Sat = Me ℕ (List Part)

abbrev pub shape_in : List Part → Shape
shape_in [] = record { gauges = 0; passes = 0; scanners = 0 }
shape_in (Part.Source shape gauge steps ∷ rest) = shape
shape_in (Part.Caller shape pass steps ∷ rest) = shape
shape_in (Part.Scanner shape k steps ∷ rest) = shape

-- the steps of the first part, and what it has come to by them
abbrev pub source_steps : List Part → List SourceStep
source_steps (Part.Source shape gauge steps ∷ rest) = steps
source_steps other = []

abbrev pub caller_steps : List Part → List CallerStep
caller_steps (Part.Caller shape pass steps ∷ rest) = steps
caller_steps other = []

abbrev pub scanner_steps : List Part → List ScannerStep
scanner_steps (Part.Scanner shape k steps ∷ rest) = steps
scanner_steps other = []

abbrev pub source_in : List Part → Source
source_in view = source_of (source_steps view)

abbrev pub caller_in : List Part → Caller
caller_in (Part.Caller shape pass steps ∷ rest) = caller_of shape pass steps
caller_in other = idle_caller

abbrev pub scanner_in : List Part → Scanner
scanner_in (Part.Scanner shape k steps ∷ rest) = scanner_of shape k steps
scanner_in other = idle_scanner

-- the number of the first part
abbrev pub pass_in : List Part → ℕ
pass_in (Part.Caller shape pass steps ∷ rest) = pass
pass_in other = 0

abbrev pub scanner_number_in : List Part → ℕ
scanner_number_in (Part.Scanner shape k steps ∷ rest) = k
scanner_number_in other = 0

-- the pass of a meeting
abbrev pub pass_met : Option Meeting → ℕ
pass_met None = 0
pass_met (Some meeting) = meeting.pass

-- the one part of a seat, with a step more
abbrev pub source_made : SourceStep → List Part → List Part
source_made step (Part.Source shape gauge steps ∷ rest) = Part.Source shape gauge (step ∷ steps) ∷ []
source_made step other = other

abbrev pub caller_made : CallerStep → List Part → List Part
caller_made step (Part.Caller shape pass steps ∷ rest) = Part.Caller shape pass (step ∷ steps) ∷ []
caller_made step other = other

abbrev pub scanner_made : ScannerStep → List Part → List Part
scanner_made step (Part.Scanner shape k steps ∷ rest) = Part.Scanner shape k (step ∷ steps) ∷ []
scanner_made step other = other

-- the step is on this word
abbrev pub IsOn : Step ℕ → Sat → Word → Type 0
IsOn st m word = st.word ≡ place_of (shape_in m.0) word

-- the number is a session word's: it is that of the word that it unpacks to, and a scanner or a pass won it
pub record IsSessionWord (word : ℕ) : Type 0 where
  pub again : packed (unpacked word) ≡ word
  pub generation : (unpacked word).generation < 2 ^ 32
  pub winner : winner_number (unpacked word).phase < 97

-- a pass's own word: it is of its generation, and open or won
pub record IsOwnWord (caller : Caller) (word : ℕ) : Type 0 where
  pub session : IsSessionWord word
  pub own : (unpacked word).generation ≡ caller.generation
  pub busy : (unpacked word).phase ≢ Phase.Idle

-- a scanner's look at a pass finds no generation before those of its entries of the pass
abbrev pub IsNewest : Scanner → ℕ → ℕ → Type 0
IsNewest scanner pass word = (gauge : ℕ) (entry : Entry) → scanner.listing gauge pass ≡ Some entry → entry.generation ≤ (unpacked word).generation

-- a source stores
abbrev pub stored : Step ℕ → Sat → ℕ → Sat → Type 0
stored st m found m' = m' ≡ (source_made (SourceStep.Stored st.first) m.0, m.1)

-- a source finds no more asked than it stored
abbrev pub hushed : Step ℕ → Sat → ℕ → Sat → Type 0
hushed st m found m' = (m' ≡ (source_made (SourceStep.Hushed found) m.0, m.1)) × (found ≤ (source_in m.0).stored)

abbrev pub asked : Step ℕ → Sat → ℕ → Sat → Type 0
asked st m found m' = (gauge : ℕ) → IsOn st m (Word.Asked gauge) → m' ≡ (caller_made (CallerStep.Asked gauge st.first) m.0, m.1)

abbrev pub relieved : Step ℕ → Sat → ℕ → Sat → Type 0
relieved st m found m' = (gauge : ℕ) → IsOn st m (Word.Begun gauge) → m' ≡ (caller_made (CallerStep.Relieved gauge found) m.0, m.1)

abbrev pub described : Step ℕ → Sat → ℕ → Sat → Type 0
described st m found m' = (at : ℕ) → IsOn st m (Word.Description (pass_in m.0) at) → m' ≡ (caller_made (CallerStep.Described at st.first) m.0, m.1)

-- a pass finds a word of its description as it knows it, and nothing changes
abbrev pub recalled : Step ℕ → Sat → ℕ → Sat → Type 0
recalled st m found m' = (at : ℕ) → IsOn st m (Word.Description (pass_in m.0) at) → (m' ≡ m) × (found ≡ (caller_in m.0).description at)

abbrev pub opened : Step ℕ → Sat → ℕ → Sat → Type 0
opened st m found m' = m' ≡ (caller_made CallerStep.Opened m.0, m.1)

-- a mark is of no later generation
abbrev pub saw_mark : Step ℕ → Sat → ℕ → Sat → Type 0
saw_mark st m found m' = (at : ℕ) → IsOn st m (Word.Mark (pass_in m.0) at) → (m' ≡ (caller_made (CallerStep.SawMark at found) m.0, m.1)) × (found ≤ (caller_in m.0).generation)

-- a pass finds no less than it has read or owes
abbrev pub caller_read : Step ℕ → Sat → ℕ → Sat → Type 0
caller_read st m found m' = (gauge : ℕ) → IsOn st m (Word.Value gauge)
    → (m' ≡ (caller_made (CallerStep.Read gauge found) m.0, m.1)) × ((caller_in m.0).greatest gauge ≤ found) × ((caller_in m.0).owed gauge ≤ found)

abbrev pub caller_left : Step ℕ → Sat → ℕ → Sat → Type 0
caller_left st m found m' = (gauge : ℕ) → IsOn st m (Word.Value gauge)
    → (m' ≡ (caller_made (CallerStep.Left gauge found) m.0, m.1)) × ((caller_in m.0).greatest gauge ≤ found) × ((caller_in m.0).owed gauge ≤ found)

abbrev pub caller_won : Step ℕ → Sat → ℕ → Sat → Type 0
caller_won st m found m' = (how : How) → st.second % 4 ≡ how_number how
    → (m' ≡ (caller_made (CallerStep.Won how (unpacked found)) m.0, m.1)) × IsOwnWord (caller_in m.0) found

abbrev pub peeked_own : Step ℕ → Sat → ℕ → Sat → Type 0
peeked_own st m found m' = (m' ≡ (caller_made (CallerStep.Peeked (unpacked found)) m.0, m.1)) × IsOwnWord (caller_in m.0) found

abbrev pub idled : Step ℕ → Sat → ℕ → Sat → Type 0
idled st m found m' = m' ≡ (caller_made CallerStep.Idled m.0, m.1)

-- a scanner finds no less asked than it has begun
abbrev pub heard : Step ℕ → Sat → ℕ → Sat → Type 0
heard st m found m' = (gauge : ℕ) → IsOn st m (Word.Asked gauge) → (m' ≡ (scanner_made (ScannerStep.Heard gauge found) m.0, m.1)) × ((scanner_in m.0).began gauge ≤ found)

-- a scan was begun up to what the scanner itself had begun
abbrev pub began : Step ℕ → Sat → ℕ → Sat → Type 0
began st m found m' = (gauge : ℕ) → IsOn st m (Word.Begun gauge) → (m' ≡ (scanner_made (ScannerStep.Began gauge found) m.0, m.1)) × (found ≡ (scanner_in m.0).began gauge)

abbrev pub met_word : Step ℕ → Sat → ℕ → Sat → Type 0
met_word st m found m' = (pass : ℕ) → IsOn st m (Word.Session pass)
    → (m' ≡ (scanner_made (ScannerStep.Met pass (unpacked found)) m.0, m.1)) × IsSessionWord found × IsNewest (scanner_in m.0) pass found

abbrev pub learned_word : Step ℕ → Sat → ℕ → Sat → Type 0
learned_word st m found m' = (at : ℕ) → IsOn st m (Word.Description (pass_met (scanner_in m.0).meeting) at) → m' ≡ (scanner_made (ScannerStep.Learned at found) m.0, m.1)

abbrev pub marked_word : Step ℕ → Sat → ℕ → Sat → Type 0
marked_word st m found m' = (at : ℕ) → IsOn st m (Word.Mark (pass_met (scanner_in m.0).meeting) at)
    → m' ≡ (scanner_made (ScannerStep.Listed (pass_met (scanner_in m.0).meeting) at) m.0, m.1)

-- a scanner finds no less of a gauge of its own than it has begun
abbrev pub scanner_read : Step ℕ → Sat → ℕ → Sat → Type 0
scanner_read st m found m' = (gauge : ℕ) → IsOn st m (Word.Value gauge)
    → (m' ≡ (scanner_made (ScannerStep.Read gauge found) m.0, m.1)) × (IsGaugeOf (shape_in m.0) (scanner_number_in m.0) gauge → (scanner_in m.0).began gauge ≤ found)

abbrev pub scanner_left : Step ℕ → Sat → ℕ → Sat → Type 0
scanner_left st m found m' = (gauge : ℕ) → IsOn st m (Word.Value gauge)
    → (m' ≡ (scanner_made (ScannerStep.Left (pass_met (scanner_in m.0).meeting) gauge found) m.0, m.1))
    × (IsGaugeOf (shape_in m.0) (scanner_number_in m.0) gauge → (scanner_in m.0).began gauge ≤ found)

abbrev pub scanner_won : Step ℕ → Sat → ℕ → Sat → Type 0
scanner_won st m found m' = (pass : ℕ) (how : How) → IsOn st m (Word.Session pass) → st.second % 4 ≡ how_number how
    → (m' ≡ (scanner_made (ScannerStep.Won pass how (unpacked found)) m.0, m.1)) × IsSessionWord found × (generation_met (scanner_in m.0).meeting ≤ (unpacked found).generation)

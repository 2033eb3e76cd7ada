-- What was read of a text that comes in parts.
use Rattle.std.specs.Prelude.{ℕ, ◌≡◌, ◌+◌, ◌<◌, ◌≤◌, ◌==◌, ◌⊎◌, Bool, true, List, [], ◌∷◌, ◌++◌, length, take, is_some, Option, Some, None}
use Rattle.std.specs.List.{count_by, AllZip}
use Rattle.trace_file.specs.declared.line.Line.{Line}
use Rattle.trace_file.specs.declared.line.LineKind.{LineKind}
use Rattle.trace_file.specs.declared.line.TheConstants.{MOST_TRACE_BYTES}
use Rattle.trace_file.specs.declared.reading.PartLines.{PartLines}
use Rattle.trace_file.specs.declared.reading.Reading.{Reading}
use Rattle.trace_file.specs.declared.trace_reader.TraceReader.{TraceReader}
use Rattle.trace_file.specs.IsLine.{IsLine}
use Rattle.trace_file.specs.LineFaults.{IsLineFault, IsPieceFault}
use Rattle.trace_file.specs.Sees.{AreRead}
use Rattle.trace_file.specs.Trace.{pieces_of}

-- the lines of the pieces before one that is bad
pub record StopsAt (IsBad : List ℕ → Type 0) (pieces : List (List ℕ)) (lines : List Line) : Type 0 where
  pub before : List (List ℕ)
  pub piece : List ℕ
  pub after : List (List ℕ)
  pub parts : pieces ≡ before ++ piece ∷ after
  pub spelled : AllZip IsLine before lines
  pub bad : IsBad piece

-- the lines of these pieces, up to the first bad one if one is, and what is wrong with that
abbrev pub AreUpToBad : (List ℕ → LineKind → Type 0) → List (List ℕ) → List Line → Option LineKind → Type 0
AreUpToBad IsBad pieces lines None = AllZip IsLine pieces lines
AreUpToBad IsBad pieces lines (Some kind) = StopsAt (λ piece. IsBad piece kind) pieces lines

-- a part of a text has these pieces; its lines are bad by their text alone
abbrev pub AreLinesOf : List (List ℕ) → PartLines → Type 0
AreLinesOf pieces part = AreUpToBad IsLineFault pieces part.lines part.fault

-- these pieces were taken, the lines of a trace or of topics alone
pub record HasRead (only_topics : Bool) (pieces : List (List ℕ)) (reading : Reading) : Type 0 where
  pub only : reading.only_topics ≡ only_topics
  pub read : AreRead only_topics reading
  pub lines : AreUpToBad (IsPieceFault only_topics reading.lines) pieces reading.lines reading.fault

-- a text that ends where a line does: what follows it begins with another line
abbrev pub EndsLine : List ℕ → Type 0
EndsLine front = (behind : List ℕ) → pieces_of (front ++ behind) ≡ pieces_of front ++ pieces_of behind

-- it ends with a line feed
abbrev pub EndsWithFeed : List ℕ → Type 0
EndsWithFeed text = (line : List ℕ) × (text ≡ line ++ 10 ∷ [])

-- how many lines of a text are ended
abbrev pub feeds_in : List ℕ → ℕ
feeds_in text = count_by (λ byte. byte == 10) text

-- Whole lines, each ended, and the one that has begun.
pub record IsCut (text front begun : List ℕ) : Type 0 where
  pub whole : text ≡ front ++ begun
  pub ends : EndsLine front
  pub lines : length (pieces_of front) ≡ feeds_in front
  pub open_line : feeds_in begun ≡ 0

-- The parts so far make this text, which isn't too long. Once a line is bad, the line feeds are counted.
pub record IsShort (only_topics : Bool) (text : List ℕ) (reader : TraceReader) : Type 0 where
  pub size : length text ≤ MOST_TRACE_BYTES
  pub length_is : reader.length ≡ length text
  pub front : List ℕ
  pub cut : IsCut text front reader.begun
  pub read : HasRead only_topics (pieces_of front) reader.reading
  pub counted : is_some reader.reading.fault ≡ true → reader.feeds ≡ feeds_in text

-- they make a text that is too long
pub record IsLong (text : List ℕ) (reader : TraceReader) : Type 0 where
  pub size : MOST_TRACE_BYTES < length text
  pub length_is : reader.length ≡ MOST_TRACE_BYTES + 1
  pub counted : reader.feeds ≡ feeds_in (take MOST_TRACE_BYTES text)

-- The parts so far make this text. It is to be that of a trace, or of topics alone.
abbrev pub HasTaken : Bool → List ℕ → TraceReader → Type 0
HasTaken only_topics text reader = IsShort only_topics text reader ⊎ IsLong text reader

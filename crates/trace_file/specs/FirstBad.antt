-- The first bad line of a text, counted from 1, and its kind.
use Rattle.std.specs.Prelude.{ℕ, ◌≡◌, ◌+◌, ◌<◌, ◌≤◌, ◌==◌, ◌⊎◌, Bool, List, ◌∷◌, ◌++◌, length, take, Contains, IsTrue}
use Rattle.std.specs.List.{count_by, All, AllPairs, AllZip}
use Rattle.trace_file.specs.declared.line.Line.{Line}
use Rattle.trace_file.specs.declared.line.Line.TheVariants.{End}
use Rattle.trace_file.specs.declared.line.LineFault.{LineFault}
use Rattle.trace_file.specs.declared.line.LineKind.TheVariants.{NoEnd, TooLong}
use Rattle.trace_file.specs.declared.line.TraceFault.{TraceFault}
use Rattle.trace_file.specs.declared.line.TraceFault.TheVariants.{Bad, NoMemory}
use Rattle.trace_file.specs.declared.line.TheConstants.{MOST_TRACE_BYTES}
use Rattle.trace_file.specs.IsInOrder.{MayFollow, AreNewTopics, DeclaresOrEnds}
use Rattle.trace_file.specs.IsLine.{IsLine}
use Rattle.trace_file.specs.LineFaults.{IsPieceFault}
use Rattle.trace_file.specs.Trace.{pieces_of, IsTrace}

-- a trace, or where topics alone are declared, one that has nothing but them and its end
pub record IsTraceRead (text : List ℕ) (only_topics : Bool) (lines : List Line) : Type 0 where
  pub trace : IsTrace text lines
  pub declares : IsTrue only_topics → All DeclaresOrEnds lines

-- lines that may stand at the front of such a trace
pub record MayBegin (only_topics : Bool) (lines : List Line) : Type 0 where
  pub pairs : AllPairs MayFollow lines
  pub topics : AreNewTopics lines
  pub declares : IsTrue only_topics → All DeclaresOrEnds lines

-- the text is too long: the line is the one that holds the first byte past the most
pub record IsTooLong (text : List ℕ) (fault : LineFault) : Type 0 where
  pub long : MOST_TRACE_BYTES < length text
  pub line : fault.line ≡ count_by (λ byte. byte == 10) (take MOST_TRACE_BYTES text) + 1
  pub kind : fault.kind ≡ TooLong

-- a line is bad, by its text or its place, and those before it are good
pub record IsBadLine (text : List ℕ) (only_topics : Bool) (fault : LineFault) : Type 0 where
  pub size : length text ≤ MOST_TRACE_BYTES
  pub before : List (List ℕ)
  pub piece : List ℕ
  pub after : List (List ℕ)
  pub parts : pieces_of text ≡ before ++ piece ∷ after
  pub lines : List Line
  pub spelled : AllZip IsLine before lines
  pub good : MayBegin only_topics lines
  pub line : fault.line ≡ length before + 1
  pub kind : IsPieceFault only_topics lines piece fault.kind

-- no line is bad, and none is the end
pub record HasNoEnd (text : List ℕ) (only_topics : Bool) (fault : LineFault) : Type 0 where
  pub size : length text ≤ MOST_TRACE_BYTES
  pub lines : List Line
  pub spelled : AllZip IsLine (pieces_of text) lines
  pub good : MayBegin only_topics lines
  pub endless : ¬ Contains lines End
  pub line : fault.line ≡ length lines + 1
  pub kind : fault.kind ≡ NoEnd

abbrev pub IsFirstBad : List ℕ → Bool → LineFault → Type 0
IsFirstBad text only_topics fault = IsTooLong text fault ⊎ IsBadLine text only_topics fault ⊎ HasNoEnd text only_topics fault

-- what a refusal tells: the first bad line, or that no memory was left
abbrev pub TellsFirstBad : List ℕ → Bool → TraceFault → Type 0
TellsFirstBad text only_topics (Bad fault) = IsFirstBad text only_topics fault
TellsFirstBad text only_topics NoMemory = Unit {0}

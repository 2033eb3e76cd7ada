-- What is written of lines, if they were played to the last and if they weren't.
use Rattle.std.specs.Prelude.{ℕ, ◌≡◌, ◌++◌, List, take, Option}
use Rattle.std.specs.Io.KnownBytes.{Appends}
use Rattle.trace_file.specs.declared.line.Line.{Line}
use Rattle.audit.specs.broker.Board.{Board}
use Rattle.audit.specs.broker.Turns.{Turned}
use Rattle.audit.specs.broker.Play.{Plays}
use Rattle.lone_broker.specs.Kept.{Kept, StandsFor}

-- a prefix of what the first of these lines print
pub record IsLinesFront (start : Board) (lines : List Line) (written : List ℕ) : Type 0 where
  pub done : List Line
  pub more : List Line
  pub parts : lines ≡ done ++ more
  pub last : Turned
  pub played : Plays start done last
  pub count : ℕ
  pub front : written ≡ take count last.text

-- from each board that the broker represents the lines are played to one that it then represents, and what they print is written
abbrev pub LinesPlayed : Option (List ℕ) → Option (List ℕ) → Kept → Kept → List Line → Type 0
LinesPlayed before after kept later lines =
    (start : Board) → StandsFor kept start → (last : Turned) × Plays start lines last × StandsFor later last.board × Appends before after last.text

-- such a prefix is written
abbrev pub LinesFront : Option (List ℕ) → Option (List ℕ) → Kept → List Line → Type 0
LinesFront before after kept lines =
    (start : Board) → StandsFor kept start → (written : List ℕ) × IsLinesFront start lines written × Appends before after written

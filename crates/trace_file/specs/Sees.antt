-- What is kept of the lines so far, to tell which may come.
use Rattle.std.specs.Prelude.{ℕ, ◌≡◌, ◌<◌, Bool, true, false, max, List, [], ◌∷◌, length, slice_index_or}
use Rattle.std.specs.List.{flat_map, list_any}
use Rattle.trace_file.specs.declared.line.Line.{Line}
use Rattle.trace_file.specs.declared.line.Line.TheVariants.{Topic, Feed, Shut, Clock, End}
use Rattle.trace_file.specs.declared.order.Order.{Order}
use Rattle.trace_file.specs.declared.reading.Reading.{Reading}
use Rattle.trace_file.specs.declared.line.TheConstants.{MOST_SESSIONS}
use Rattle.trace_file.specs.Contents.{topic_in, is_shut}
use Rattle.trace_file.specs.FirstBad.{MayBegin}

abbrev pub is_end : Line → Bool
is_end (Topic name partitions followers least) = false
is_end (Feed session bytes) = false
is_end (Shut session) = false
is_end (Clock t) = false
is_end End = true

abbrev pub is_no_topic : Line → Bool
is_no_topic (Topic name partitions followers least) = false
is_no_topic (Feed session bytes) = true
is_no_topic (Shut session) = true
is_no_topic (Clock t) = true
is_no_topic End = true

-- the moment of a line, or 0
abbrev pub moment_in : Line → ℕ
moment_in (Topic name partitions followers least) = 0
moment_in (Feed session bytes) = 0
moment_in (Shut session) = 0
moment_in (Clock t) = t
moment_in End = 0

-- the greatest moment, or 0
abbrev pub moment_of : List Line → ℕ
moment_of [] = 0
moment_of (line ∷ lines) = max (moment_in line) (moment_of lines)

pub record Sees (order : Order) (lines : List Line) : Type 0 where
  pub ended : order.ended ≡ list_any is_end lines
  pub begun : order.begun ≡ list_any is_no_topic lines
  pub moment : order.moment ≡ moment_of lines
  pub room : length order.closed ≡ MOST_SESSIONS
  pub closed : (session : ℕ) → session < MOST_SESSIONS → slice_index_or order.closed session false ≡ is_shut session lines

-- the session that a line names is one of those that there may be
abbrev pub NamesOne : Line → Type 0
NamesOne (Topic name partitions followers least) = Unit {0}
NamesOne (Feed session bytes) = session < MOST_SESSIONS
NamesOne (Shut session) = session < MOST_SESSIONS
NamesOne (Clock t) = Unit {0}
NamesOne End = Unit {0}

-- these lines were read, and they may begin a trace
pub record AreRead (only_topics : Bool) (reading : Reading) : Type 0 where
  pub good : MayBegin only_topics reading.lines
  pub config : reading.config.topics ≡ flat_map topic_in reading.lines
  pub sees : Sees reading.order reading.lines

-- What the one-thread broker keeps, and the board of the definition that this represents. Of a request that waits it keeps what
-- became of each partition that it names, and its operation; the request itself is in the frame of its session's last call.
use Rattle.std.specs.Prelude.{ℕ, ◌≡◌, ◌<◌, ◌≤◌, List, [], ◌∷◌, ◌++◌, length, map, ◌==◌, Option, Some, None, unwrap_or, slice_get}
use Rattle.std.specs.List.{AllByRecursion, find}
use Rattle.partlog.specs.declared.clock_event.TheConstants.{MOST_MOMENT}
use Rattle.kanswer.specs.Results.{AreResults}
use Rattle.kanswer.specs.Waiting.{operation_of}
use Rattle.kwire.specs.Configuration.{followers_of, partitions_of}
use Rattle.kwire.specs.IsRequest.{IsRequest}
use Rattle.audit.specs.declared.account.Call.{Call}
use Rattle.trace_file.specs.declared.line.Line.{Line}
use Rattle.trace_file.specs.declared.line.Line.TheVariants as lines
use Rattle.audit.specs.broker.Board.{Board, Waiting, most_sessions, transcript_at}
use Rattle.kwire.specs.DeclaredTopics.{AreDeclared}
use Rattle.audit.specs.broker.Turns.{Turned}
use Rattle.lone_broker.specs.Replying.{HasLog}
use Rattle.lone_broker.specs.declared.parked.Parked.{Parked}

pub record Kept : Type 0 where
  -- the configuration, the histories and the sessions, with no request in its list of those that wait
  pub board : Board
  -- for each session what is kept of its request that waits, if one does
  pub parked : List (Option Parked)

abbrev pub parked_at : Kept → ℕ → Option Parked
parked_at kept session = unwrap_or (slice_get kept.parked session) None

abbrev pub last_frame : List Call → List ℕ
last_frame [] = []
last_frame (call ∷ []) = call.frame
last_frame (call ∷ next ∷ calls) = last_frame (next ∷ calls)

-- this is kept of a request that waits and has this frame, with `parts` partitions
pub record IsKeptOf (parts : ℕ) (frame : List ℕ) (parked : Parked) (w : Waiting) : Type 0 where
  pub asked : IsRequest frame w.request
  pub results : map (λ step. step.result) w.steps ≡ parked.accepted
  pub operation : w.operation ≡ parked.op
  pub moment : ℕ
  pub made : parked.op ≡ operation_of w.request.ask parked.accepted moment
  pub listed : AreResults w.request.ask parked.accepted
  pub there : AllByRecursion (HasLog parts) parked.accepted

abbrev pub MatchesWaiting : ℕ → List ℕ → Option Parked → Option Waiting → Type 0
MatchesWaiting parts frame None None = Unit {0}
MatchesWaiting parts frame None (Some w) = ⊥
MatchesWaiting parts frame (Some parked) None = ⊥
MatchesWaiting parts frame (Some parked) (Some w) = IsKeptOf parts frame parked w

-- the request of a session that waits, if one does
abbrev pub waiting_in : List Waiting → ℕ → Option Waiting
waiting_in waiting session = find (λ w. w.session == session) waiting

abbrev pub with_waiting : Kept → List Waiting → Board
with_waiting kept waiting = record kept.board { waiting = waiting }

-- these requests wait, and of each this is kept
pub record AreKept (kept : Kept) (waiting : List Waiting) : Type 0 where
  pub waits : (session : ℕ) → MatchesWaiting (partitions_of kept.board.config.topics) (last_frame (transcript_at kept.board session).calls) (parked_at kept session) (waiting_in waiting session)
  pub seats : length kept.board.seats ≡ most_sessions
  pub parked : length kept.parked ≡ most_sessions
  pub followers : map (λ h. h.followers) kept.board.parts ≡ followers_of kept.board.config.topics
  pub declared : AreDeclared kept.board.config.topics

-- what is kept represents the board
pub record StandsFor (kept : Kept) (board : Board) : Type 0 where
  pub same : board ≡ with_waiting kept board.waiting
  pub kept_of : AreKept kept board.waiting

abbrev pub Stands : Kept → Type 0
Stands kept = (board : Board) × StandsFor kept board

-- Each board that `before` represents turns so, `after` represents what it turns to, and `more` is `text` and then what is printed.
abbrev pub TurnsBy : (Board → Turned → Type 0) → Kept → Kept → List ℕ → List ℕ → Type 0
TurnsBy turns before after text more =
    (board : Board) → StandsFor before board
    → (turned : Turned) × turns board turned × StandsFor after turned.board × (more ≡ text ++ turned.text)

-- the session of a line is one that there may be, and its moment one that a clock shows
abbrev pub IsPlayable : Line → Type 0
IsPlayable (lines.Topic name partitions followers least) = Unit {0}
IsPlayable (lines.Feed session bytes) = session < most_sessions
IsPlayable (lines.Shut session) = session < most_sessions
IsPlayable (lines.Clock t) = t ≤ MOST_MOMENT
IsPlayable lines.End = Unit {0}

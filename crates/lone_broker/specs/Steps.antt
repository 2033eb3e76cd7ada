-- What a step of one session leaves as it was: the sessions and the requests that wait of all others, the clock's moment, and the
-- histories of the partitions that it didn't ask.
use Rattle.std.specs.Prelude.{ℕ, ◌≡◌, ◌≢◌, ◌+◌, ◌^◌, ◌<◌, ◌≤◌, ◌⊎◌, List, [], ◌∷◌, length, map, not, ◌&&◌, Bool, Option, Some, None, is_some}
use Rattle.partlog.specs.Moment.{moment_of}
use Rattle.partlog.specs.State.{state_of}
use Rattle.opcond.specs.Operation.{Operation}
use Rattle.opcond.specs.Tally.{tally}
use Rattle.audit.specs.declared.account.Call.{Call}
use Rattle.audit.specs.declared.account.Point.{Point}
use Rattle.trace_file.specs.declared.line.Line.{Line}
use Rattle.trace_file.specs.declared.line.Line.TheVariants as lines
use Rattle.audit.specs.broker.Acting.{has_work}
use Rattle.audit.specs.broker.Board.{history_at, next_call, seat_at, transcript_at}
use Rattle.lone_broker.specs.Kept.{Kept, parked_at}
use Rattle.audit.specs.broker.Board.{gauge_now}
use Rattle.lone_broker.specs.declared.parked.Parked.{Parked}

-- the points of the entries that the last of these calls left as it was accepted
abbrev pub last_points : List Call → List Point
last_points [] = []
last_points (call ∷ []) = call.accept
last_points (call ∷ next ∷ calls) = last_points (next ∷ calls)

-- one of these points is of this partition
abbrev pub HasPart : ℕ → List Point → Type 0
HasPart part [] = ⊥
HasPart part (point ∷ points) = (point.part ≡ part) ⊎ HasPart part points

-- no request of the session waits, and it has something to do
abbrev pub is_ready : Kept → ℕ → Bool
is_ready kept session = not (is_some (parked_at kept session)) && has_work (seat_at kept.board session)

-- all but one session, and the moment; and no call is forgotten
pub record IsAlone (session : ℕ) (before after : Kept) : Type 0 where
  pub seats : (s : ℕ) → s ≢ session → seat_at after.board s ≡ seat_at before.board s
  pub parked : (s : ℕ) → s ≢ session → parked_at after s ≡ parked_at before s
  pub moment : moment_of after.board.clock ≡ moment_of before.board.clock
  pub calls : (s : ℕ) → next_call before.board s ≤ next_call after.board s

-- only the session's seat changed
pub record IsReseated (session : ℕ) (before after : Kept) : Type 0 where
  pub alone : IsAlone session before after
  pub slot : parked_at after session ≡ parked_at before session
  pub parts : after.board.parts ≡ before.board.parts

-- The session's request waits from now on: the logs as they are don't satisfy it, its deadline is near, and its call is a new one.
pub record IsLeft (session : ℕ) (before after : Kept) (parked : Parked) : Type 0 where
  pub unreached : tally parked.op.needs (map (gauge_now after.board.parts) parked.op.needs) < parked.op.least
  pub near : parked.op.deadline < moment_of after.board.clock + 2 ^ 31
  pub counted : next_call before.board session < next_call after.board session

-- where it waits
abbrev pub AnyLeft : ℕ → Kept → Kept → Option Parked → Type 0
AnyLeft session before after None = Unit {0}
AnyLeft session before after (Some parked) = IsLeft session before after parked

-- the operation of a session's request that waits
abbrev pub operation_in : Option Parked → Option Operation
operation_in None = None
operation_in (Some parked) = Some parked.op

abbrev pub operation_at : Kept → ℕ → Option Operation
operation_at kept session = operation_in (parked_at kept session)

-- the session acted: the histories changed where its last call left an entry, and its request may wait from now on
pub record IsActed (session : ℕ) (before after : Kept) : Type 0 where
  pub alone : IsAlone session before after
  pub size : length after.board.parts ≡ length before.board.parts
  pub asked : (part : ℕ) → (history_at after.board.parts part ≡ history_at before.board.parts part) ⊎ HasPart part (last_points (transcript_at after.board session).calls)
  pub left : AnyLeft session before after (parked_at after session)

-- the session's request was answered: it waits no more, and every state is as it was
pub record IsFreed (session : ℕ) (before after : Kept) : Type 0 where
  pub alone : IsAlone session before after
  pub size : length after.board.parts ≡ length before.board.parts
  pub states : (part : ℕ) → state_of (history_at after.board.parts part) ≡ state_of (history_at before.board.parts part)
  pub free : parked_at after session ≡ None

-- only the clock and the histories changed, and its moment didn't fall
pub record IsTicked (before after : Kept) : Type 0 where
  pub seats : after.board.seats ≡ before.board.seats
  pub parked : after.parked ≡ before.parked
  pub size : length after.board.parts ≡ length before.board.parts
  pub later : moment_of before.board.clock ≤ moment_of after.board.clock

-- what a line brings
abbrev pub IsBrought : Line → Kept → Kept → Type 0
IsBrought (lines.Topic name partitions followers least) before after = after ≡ before
IsBrought (lines.Feed session bytes) before after = IsReseated session before after
IsBrought (lines.Shut session) before after = IsReseated session before after
IsBrought (lines.Clock t) before after = IsTicked before after
IsBrought lines.End before after = after ≡ before

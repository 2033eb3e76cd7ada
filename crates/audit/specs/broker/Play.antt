-- The one-thread broker, line by line: what a trace comes to. After each line the waiting requests are scanned and the least
-- session that can act acts once, until neither has anything left to do.
use Rattle.std.specs.Prelude.{ℕ, zero, suc, ◌≡◌, Bool, true, List, [], ◌∷◌, ◌++◌, map, nat_lt, slice_set, if◌then◌else◌, Some, None}
use Rattle.partlog.specs.declared.clock_event.ClockEvent.TheVariants as clocks
use Rattle.partlog.specs.Moment.{moment_of}
use Rattle.partlog.specs.Shrunk.{all_shrunk}
use Rattle.audit.specs.declared.account.Account.{Account}
use Rattle.trace_file.specs.declared.line.Line.{Line}
use Rattle.trace_file.specs.declared.line.Line.TheVariants.{Topic, Feed, Shut, Clock, End}
use Rattle.kwire.specs.Configuration.{Configuration}
use Rattle.audit.specs.Printed.{summary_of}
use Rattle.audit.specs.broker.Board.{Board, seat_at, transcript_at, opening, account_of}
use Rattle.audit.specs.broker.Turns.{Turned}
use Rattle.audit.specs.broker.Completing.{scanned}
use Rattle.audit.specs.broker.Acting.{is_there, next_to_act, Acts}

-- a line names its session
abbrev pub with_seat : Board → ℕ → List ℕ → Bool → Board
with_seat board session inbox is_shut =
    record board { seats = slice_set board.seats session (record { inbox = inbox; is_shut = is_shut; transcript = Some (transcript_at board session) }) }

-- the clock was told a moment, and then in each partition every follower that lags at it leaves, the least first
abbrev pub ticked : Board → ℕ → Board
ticked board t = record board { clock = board.clock ++ clocks.Tick t ∷ []; parts = map (λ h. all_shrunk h 0 t) board.parts }

-- what a line brings, before anything is done with it; what comes for a session that ended is dropped
abbrev pub brought : Board → Line → Board
brought board (Topic name partitions followers least) = board
brought board (Feed session bytes) =
    let seat = seat_at board session in
    with_seat board session (if is_there (transcript_at board session).end then seat.inbox else seat.inbox ++ bytes) seat.is_shut
brought board (Shut session) = with_seat board session (seat_at board session).inbox true
brought board (Clock t) = if nat_lt (moment_of board.clock) t then ticked board t else board
brought board End = board

-- After so many acts the broker is at rest.
abbrev pub Rests : ℕ → Board → Turned → Type 0
Rests zero board turned = (next_to_act (scanned board).board ≡ None) × (turned ≡ scanned board)
Rests (suc acts) board turned =
    (session : ℕ) × (act : Turned) × (rest : Turned) × (next_to_act (scanned board).board ≡ Some session)
    × Acts (scanned board).board session act × Rests acts act.board rest
    × (turned ≡ record { board = rest.board; text = (scanned board).text ++ (act.text ++ rest.text) })

abbrev pub PlaysLine : Board → Line → Turned → Type 0
PlaysLine board line turned = (acts : ℕ) × Rests acts (brought board line) turned

-- the lines come one after the other
abbrev pub Plays : Board → List Line → Turned → Type 0
Plays board [] turned = turned ≡ record { board = board; text = [] }
Plays board (line ∷ lines) turned =
    (here : Turned) × (rest : Turned) × PlaysLine board line here × Plays here.board lines rest
    × (turned ≡ record { board = rest.board; text = here.text ++ rest.text })

-- a trace's account and all that is printed: what each line prints, and the summary after the last
pub record IsPlay (config : Configuration) (lines : List Line) (account : Account) (text : List ℕ) : Type 0 where
  pub last : Turned
  pub played : Plays (opening config) lines last
  pub accounted : account ≡ account_of last.board
  pub printed : text ≡ last.text ++ summary_of account

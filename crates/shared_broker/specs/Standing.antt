-- What is so of a pass between any two calls.
use Rattle.std.specs.Prelude.{◌≡◌, ℕ, ◌≤◌, All, Option, Some, None, IsSome, map, ⊤}
use Rattle.audit.specs.declared.account.TheConstants.{MOST_CALLS}
use Rattle.audit.specs.declared.account.Transcript.{Transcript}
use Rattle.audit.specs.LawfulCall.{Step}
use Rattle.kanswer.specs.LogReadings.{IsCarriable}
use Rattle.kanswer.specs.Results.{AreResults}
use Rattle.kanswer.specs.Waiting.{operation_of}
use Rattle.kwire.specs.Configuration.{followers_of}
use Rattle.audit.specs.broker.books.Book.{Book}
use Rattle.audit.specs.broker.books.IsBook.{IsBook}
use Rattle.audit.specs.broker.books.Together.{won_by}
use Rattle.audit.specs.broker.Board.{Waiting}
use Rattle.kwire.specs.DeclaredTopics.{AreDeclared}
use Rattle.purgatory.specs.Going.{OwesNothing}
use Rattle.room_core.specs.declared.parts.Stage.{Stage}
use Rattle.room_core.specs.Described.{operation_of as described}
use Rattle.room_core.specs.State.{Caller}
use Rattle.room_table.specs.Seats.{caller_now}
use Rattle.shared_broker.specs.declared.parked.Parked.{Parked}
use Rattle.shared_broker.specs.Passes.{PassView, book_of, calls_made}
use Rattle.shared_logs.specs.Closing.{taken_from}
use Rattle.shared_logs.specs.Seen.{HasSeen}
use Rattle.shared_logs.specs.Shared.{followers_in}

-- what is kept of a request that waits is that of the book's last call
pub record IsKeptOf (book : Book) (parked : Parked) : Type 0 where
  pub w : Waiting
  pub book_is : IsBook book (Some w)
  pub operation : w.operation ≡ parked.op
  pub results : map (λ (step : Step). step.result) w.steps ≡ parked.accepted
  pub moment : ℕ
  pub became : parked.op ≡ operation_of w.request.ask parked.accepted moment
  pub listed : AreResults w.request.ask parked.accepted
  pub carriable : All IsCarriable parked.accepted

abbrev pub HoldsBook : Book → Option Parked → Type 0
HoldsBook book None = IsBook book None
HoldsBook book (Some parked) = IsKeptOf book parked

-- it waits in the room with that request's operation, or is idle there
abbrev pub Sits : Caller → Option Parked → Type 0
Sits caller None = caller.stage ≡ Stage.Idle
Sits caller (Some parked) = (caller.stage ≡ Stage.Waiting) × (described caller.description ≡ parked.op)

-- the transcript that is going has no end, and those before it have one
abbrev pub IsGoing : Option Transcript → Type 0
IsGoing None = ⊤
IsGoing (Some transcript) = transcript.end ≡ None

-- the request that waits is of the transcript that is going
abbrev pub IsOfGoing : Option Parked → Option Transcript → Type 0
IsOfGoing None going = ⊤
IsOfGoing (Some parked) going = IsSome going

pub record Stands (pass : PassView) : Type 0 where
  pub seen : HasSeen pass.logs
  pub topics : AreDeclared pass.config.topics
  pub followers : followers_in pass.logs.made ≡ followers_of pass.config.topics
  pub book : HoldsBook (book_of pass) pass.waits
  pub going : IsGoing pass.going
  pub ended : All (λ (transcript : Transcript). IsSome transcript.end) pass.ended
  pub begun : IsOfGoing pass.waits pass.going
  pub sits : Sits (caller_now pass.logs.seat) pass.waits
  pub paid : OwesNothing (caller_now pass.logs.seat)
  -- it has opened no more operations than it made calls, and of each winner has taken what its calls name
  pub few : calls_made pass ≤ MOST_CALLS
  pub opened : (caller_now pass.logs.seat).generation ≤ calls_made pass
  pub taken : (by : ℕ) → taken_from by pass.logs.seat ≡ won_by by (book_of pass)

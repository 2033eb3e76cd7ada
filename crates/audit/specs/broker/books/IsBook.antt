-- What holds of a book: the entries that name its pass are those of its calls, or took a replica out, at moments that the pass knew of;
-- and each call is lawful in every account that goes on from what the pass saw, or waits.
use Rattle.std.specs.Prelude.{◌≡◌, List, [], ◌∷◌, ◌++◌, map, Option, Some, None}
use Rattle.std.specs.List.{AllByRecursion}
use Rattle.partlog.specs.declared.clock_event.ClockEvent.{ClockEvent}
use Rattle.partlog.specs.History.{History}
use Rattle.audit.specs.declared.account.Call.{Call}
use Rattle.audit.specs.declared.account.CallHow.TheVariants.{Parked}
use Rattle.audit.specs.declared.account.Transcript.{Transcript}
use Rattle.audit.specs.Histories.{calls_in, points_of}
use Rattle.audit.specs.IsLawful.{FollowOn}
use Rattle.audit.specs.LawfulCall.{IsLawfulCall}
use Rattle.kwire.specs.Configuration.{Configuration}
use Rattle.audit.specs.broker.Board.{Waiting}
use Rattle.audit.specs.broker.GoesOn.{Carried}
use Rattle.audit.specs.broker.Kept.{owners_at}
use Rattle.audit.specs.broker.Sound.{AreHistories, IsWaiting}
use Rattle.audit.specs.broker.Timely.{IsTimely}
use Rattle.audit.specs.broker.books.Book.{Book}
use Rattle.audit.specs.broker.books.Owned.{AreOwn}
use Rattle.audit.specs.broker.books.Told.{told}

-- a call that doesn't wait, and is lawful whatever comes after; running out of memory may have cut it off
pub record IsFinished (config : Configuration) (parts : List History) (clock : List ClockEvent) (call : Call) : Type 0 where
  pub unparked : call.how ≡ Parked → ⊥
  pub lawful : Carried config parts clock (λ account. IsLawfulCall account call)

abbrev pub AreFinished : Configuration → List History → List ClockEvent → List Call → Type 0
AreFinished config parts clock calls = AllByRecursion (IsFinished config parts clock) calls

-- the transcripts of a pass, with one call more in the last of them
abbrev pub with_call : List Transcript → Transcript → Call → List Transcript
with_call front transcript call = front ++ record transcript { calls = transcript.calls ++ call ∷ [] } ∷ []

-- the last call of the last transcript waits, and that transcript goes on
pub record WaitsLast (book : Book) (w : Waiting) : Type 0 where
  pub front : List Transcript
  pub transcript : Transcript
  pub call : Call
  pub transcripts : book.transcripts ≡ with_call front transcript call
  pub going : transcript.end ≡ None
  pub earlier : AreFinished book.config book.parts book.clock (calls_in front ++ transcript.calls)
  pub waits : IsWaiting book.config book.parts book.clock w call
  pub own : w.session ≡ book.number

-- the calls of a pass, of which this request waits or none
abbrev pub Stand : Book → Option Waiting → Type 0
Stand book None = AreFinished book.config book.parts book.clock (calls_in book.transcripts)
Stand book (Some w) = WaitsLast book w

pub record IsBook (book : Book) (waits : Option Waiting) : Type 0 where
  pub histories : AreHistories book.config book.parts book.clock
  pub own : AreOwn (owners_at book.parts book.clock) book.number (map points_of (calls_in book.transcripts))
  -- the moments of its entries are those of the clock, as the pass had seen it
  pub timely : IsTimely book.number book.parts book.clock (map points_of (calls_in book.transcripts))
  pub calls : Stand book waits
  -- the calls are numbered through, and each transcript ends as its last call says, which running out of memory may have cut off just now
  pub ends : FollowOn 0 (map told book.transcripts)

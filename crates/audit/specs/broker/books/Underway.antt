-- A pass amid a call, which it has written down already, as cut off: so the call is lawful wherever running out of memory stops it.
use Rattle.std.specs.Prelude.{ℕ, ◌≡◌, List, [], ◌∷◌, ◌++◌, length, map, None}
use Rattle.std.specs.List.{AllByRecursion}
use Rattle.partlog.specs.declared.clock_event.ClockEvent.{ClockEvent}
use Rattle.partlog.specs.History.{History}
use Rattle.audit.specs.declared.account.Call.{Call}
use Rattle.audit.specs.declared.account.CallHow.{CallHow}
use Rattle.audit.specs.declared.account.CallHow.TheVariants.{Quiet, AtOnce, Satisfied, Expired, Parked, Cut}
use Rattle.audit.specs.declared.account.Transcript.{Transcript}
use Rattle.audit.specs.Histories.{calls_in, points_of}
use Rattle.audit.specs.IsLawful.{FollowOn}
use Rattle.kwire.specs.Configuration.{Configuration}
use Rattle.audit.specs.broker.Kept.{owners_at}
use Rattle.audit.specs.broker.Sound.{AreHistories}
use Rattle.audit.specs.broker.Timely.{IsTimely}
use Rattle.audit.specs.broker.books.Book.{Book}
use Rattle.audit.specs.broker.books.IsBook.{AreFinished, with_call}
use Rattle.audit.specs.broker.books.Owned.{AreOwn}
use Rattle.audit.specs.broker.books.Told.{told}

pub record Underway : Type 0 where
  pub config : Configuration
  pub number : ℕ
  pub parts : List History
  pub clock : List ClockEvent
  -- the transcripts before that of the call, and that one as it was before the call
  pub front : List Transcript
  pub transcript : Transcript
  pub call : Call

abbrev pub book_amid : Underway → Book
book_amid u = record {
  config = u.config;
  number = u.number;
  parts = u.parts;
  clock = u.clock;
  transcripts = with_call u.front u.transcript u.call;
}

-- a call of this frame was written down just now
abbrev pub begun_amid : Book → List Transcript → Transcript → List ℕ → Underway
begun_amid book front transcript frame = record {
  config = book.config;
  number = book.number;
  parts = book.parts;
  clock = book.clock;
  front = front;
  transcript = transcript;
  call = record { frame = frame; accept = []; finish = []; how = Cut None };
}

-- the call came to its end so
abbrev pub with_end : Underway → CallHow → Underway
with_end u how = record u { call = record u.call { how = how } }

abbrev pub earlier_calls : Underway → List Call
earlier_calls u = calls_in u.front ++ u.transcript.calls

-- the call's number
abbrev pub seq_of : Underway → ℕ
seq_of u = length (earlier_calls u)

-- it waits no more, and wasn't cut off
abbrev pub IsPast : CallHow → Type 0
IsPast Quiet = Unit {0}
IsPast AtOnce = Unit {0}
IsPast (Satisfied by) = Unit {0}
IsPast (Expired by) = Unit {0}
IsPast Parked = ⊥
IsPast (Cut won) = ⊥

-- what holds of the book but for the call itself, whose points are its pass's last entries
pub record IsUnderway (u : Underway) : Type 0 where
  pub histories : AreHistories u.config u.parts u.clock
  pub own : AreOwn (owners_at u.parts u.clock) u.number (map points_of (earlier_calls u) ++ points_of u.call ∷ [])
  pub timely : IsTimely u.number u.parts u.clock (map points_of (earlier_calls u) ++ points_of u.call ∷ [])
  pub earlier : AreFinished u.config u.parts u.clock (earlier_calls u)
  pub past : AllByRecursion (λ call. IsPast call.how) u.transcript.calls
  pub follow : FollowOn 0 (map told u.front)
  pub first : u.transcript.first ≡ length (calls_in u.front)
  pub going : u.transcript.end ≡ None

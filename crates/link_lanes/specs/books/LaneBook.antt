-- The book of a lane: its pass of the broker, the greatest moment that it was told, the numbers of the links that it accepted, put into the queue and took from
-- it, and those that it retired, each with the link as it then was.
use Rattle.std.specs.Prelude.{◌≡◌, ◌≢◌, ◌≤◌, ◌+◌, ℕ, List, None, Some, IsSome, map}
use Rattle.std.specs.List.{AllZip}
use Rattle.audit.specs.declared.account.SessionEnd.TheVariants.{Refused}
use Rattle.audit.specs.declared.account.Transcript.{Transcript}
use Rattle.audit.specs.broker.GoesOn.{Carried}
use Rattle.kwire.specs.declared.frame.WireFault.TheVariants.{NoMemory as OutOfMemory}
use Rattle.link_lanes.specs.books.LinkSession.{IsSessionOver}
use Rattle.link_lanes.specs.books.Shown.{ShownLink}
use Rattle.link_lanes.specs.books.Times.{times}
use Rattle.session.specs.Onwards.{latest}
use Rattle.shared_broker.specs.Passes.{BrokerView, PassView, made_with}

pub record LaneBook : Type 0 where
  pub pass : PassView
  pub told : ℕ
  pub accepted : List ℕ
  pub put : List ℕ
  pub taken : List ℕ
  pub retired : List (ℕ × ShownLink)

abbrev pub retired_numbers : LaneBook → List ℕ
retired_numbers book = map (λ (one : ℕ × ShownLink). one.0) book.retired

-- the transcript is that of a link of this number, in every account that goes on from what the pass has seen
pub record IsTranscriptOf (pass : PassView) (served : ℕ × ShownLink) (transcript : Transcript) : Type 0 where
  pub number : transcript.number ≡ served.0
  pub ended : IsSome transcript.end
  pub told : transcript.end ≢ Some (Refused OutOfMemory)
  pub over : Carried pass.config pass.logs.parts pass.logs.clock (λ account. IsSessionOver account served.1 transcript)

-- Between two links, with these in hand: the pass is the broker's and has no transcript open, and it ticked no moment past those that it was told. It has one
-- transcript of each link that it retired, in order. What came into its hands went out of them: the links that it accepted or took are those that it put into
-- the queue, that it retired, and that it has in hand.
pub record IsLaneBook (broker : BrokerView) (held : List ℕ) (book : LaneBook) : Type 0 where
  pub made : made_with book.pass ≡ broker
  pub idle : book.pass.going ≡ None
  pub quiet : book.pass.waits ≡ None
  pub ticked : latest book.pass ≤ book.told
  pub served : AllZip (IsTranscriptOf book.pass) book.retired book.pass.ended
  pub balanced : (n : ℕ) → times n book.accepted + times n book.taken ≡ times n book.put + times n (retired_numbers book) + times n held

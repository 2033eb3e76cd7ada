-- The books of all passes, as a run is closed, and the account that they come to.
use Rattle.std.specs.Prelude.{ℕ, ◌≡◌, ◌<◌, List, map, length, count_by, Option, Some, unwrap_or, slice_get}
use Rattle.std.specs.List.{flat_map}
use Rattle.partlog.specs.declared.clock_event.ClockEvent.{ClockEvent}
use Rattle.partlog.specs.declared.event.PartEvent.{PartEvent}
use Rattle.partlog.specs.History.{History}
use Rattle.partlog.specs.Lagging.{LeftLate}
use Rattle.partlog.specs.Moment.{moment_of}
use Rattle.audit.specs.declared.account.Account.{Account}
use Rattle.audit.specs.declared.account.Call.{Call}
use Rattle.audit.specs.Histories.{calls_in}
use Rattle.audit.specs.IsLawful.{is_won_by}
use Rattle.audit.specs.LawfulCall.{Step, part_in}
use Rattle.kanswer.specs.Waiting.{Shown, values_of}
use Rattle.kwire.specs.Configuration.{Configuration}
use Rattle.opcond.specs.Tally.{IsAnswerable}
use Rattle.audit.specs.Histories.{part_account}
use Rattle.audit.specs.broker.Board.{Waiting}
use Rattle.audit.specs.broker.Completing.{present}
use Rattle.audit.specs.broker.GoesOn.{HaveGrown, the_owner}
use Rattle.audit.specs.broker.Kept.{owners_at}
use Rattle.audit.specs.broker.Sound.{AreHistories}
use Rattle.audit.specs.broker.Timely.{events_at, pass_of}
use Rattle.audit.specs.broker.books.Book.{Book}
use Rattle.audit.specs.broker.books.Owned.{OwnWithin}
use Rattle.audit.specs.broker.books.Told.{told}

abbrev pub all_calls_in : List Book → List Call
all_calls_in books = flat_map (λ book. calls_in book.transcripts) books

-- how many of a book's calls this winner completed
abbrev pub won_by : ℕ → Book → ℕ
won_by winner book = count_by (is_won_by winner) (calls_in book.transcripts)

-- what became of each named partition, with its state at the end of these histories
abbrev pub shown_in : List History → List Step → List Shown
shown_in parts steps = map (λ step. record { result = step.result; state = present parts (part_in step.result) }) steps

-- these histories and this moment answer it
abbrev pub IsAnswerableIn : List History → List ClockEvent → Waiting → Type 0
IsAnswerableIn parts clock w = IsAnswerable w.operation (values_of w.request.ask (shown_in parts w.steps)) (moment_of clock)

-- the k-th book is that of pass k, and goes with these final histories
pub record GoesWith (config : Configuration) (finals : List History) (clock : List ClockEvent)
    (k : ℕ) (book : Book) (waits : Option Waiting) : Type 0 where
  pub number : book.number ≡ k
  pub same : book.config ≡ config
  -- they go on from what the pass saw, and it added nothing behind that
  pub grown : HaveGrown book.parts book.clock finals clock
  pub within : OwnWithin k book.parts book.clock finals clock
  -- what waits isn't answerable
  pub still : (w : Waiting) → waits ≡ Some w → IsAnswerableIn finals clock w → ⊥

pub record AreTogether (config : Configuration) (books : List Book) (waits : ℕ → Option Waiting)
    (finals : List History) (clock : List ClockEvent) (wins : List ℕ) : Type 0 where
  pub histories : AreHistories config finals clock
  pub each : (k : ℕ) (book : Book) → slice_get books k ≡ Some book → GoesWith config finals clock k book (waits k)
  -- every entry names a pass that there is, whether a call left it or not
  pub known : (part place by seq : ℕ) → slice_get (owners_at finals clock part) place ≡ Some (the_owner by seq) → by < length books
  pub known_entries : (part place : ℕ) (event : PartEvent) → slice_get (events_at finals part) place ≡ Some event → pass_of event < length books
  -- whoever was taken out lagged then
  pub late : (part : ℕ) (h : History) → slice_get finals part ≡ Some h → LeftLate h.followers h.events
  -- each winner's number is that of the calls that it completed
  pub counts : (winner : ℕ) → unwrap_or (slice_get wins winner) 0 ≡ count_by (is_won_by winner) (all_calls_in books)

abbrev pub account_of : Configuration → List Book → List History → List ClockEvent → List ℕ → Account
account_of config books finals clock wins = record {
  config = config;
  parts = map part_account finals;
  clock = clock;
  passes = map (λ book. map told book.transcripts) books;
  wins = wins;
}

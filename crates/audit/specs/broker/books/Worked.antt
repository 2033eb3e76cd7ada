-- Two passes, written out: a produce that waits for its follower, and the follower's fetch. A wrong word among those that say what a
-- book is, or which books go together, would break what is shown of them.
use Rattle.std.specs.Prelude.{ℕ, zero, suc, pos, List, [], ◌∷◌, length, Option, Some, None}
use Rattle.kbatch.specs.Stamp.{stamped}
use Rattle.partlog.specs.declared.clock_event.ClockEvent.{ClockEvent}
use Rattle.partlog.specs.declared.clock_event.ClockEvent.TheVariants as clocks
use Rattle.partlog.specs.declared.event.PartEvent.{PartEvent}
use Rattle.partlog.specs.declared.event.PartEvent.TheVariants.{Append, Follow, Look}
use Rattle.partlog.specs.History.{History}
use Rattle.audit.specs.declared.account.CallHow.{CallHow}
use Rattle.audit.specs.declared.account.CallHow.TheVariants.{AtOnce, Satisfied, Parked}
use Rattle.audit.specs.declared.account.Point.{Point}
use Rattle.audit.specs.declared.account.SessionEnd.TheVariants.{Closed}
use Rattle.audit.specs.Worked.{at, followed}
use Rattle.audit.specs.broker.Board.{Waiting}
use Rattle.audit.specs.broker.Worked.{produced, waits_for_all}
use Rattle.audit.specs.broker.WorkedPlay.{batch}
use Rattle.audit.specs.broker.books.Book.{Book}

-- a partition into which one batch was put
abbrev pub one_put : List PartEvent → History
one_put events = record { log = stamped 0 batch; followers = 1; events = Append 0 0 1 (length batch) ∷ events }

-- the follower fetched behind the batch, and that was seen
abbrev pub fetched : List PartEvent
fetched = Follow 1 0 (pos 1) 1 0 ∷ []

abbrev pub looked : List PartEvent
looked = Follow 1 0 (pos 1) 1 0 ∷ Look 0 0 ∷ []

abbrev pub clock_looked : List ClockEvent
clock_looked = clocks.Look 0 0 ∷ []

-- the pass that put it first, and saw this behind it
abbrev pub producer : List ℕ → List PartEvent → List Point → CallHow → Book
producer all events finish how = record {
  config = followed;
  number = 0;
  parts = one_put events ∷ [];
  clock = clock_looked;
  transcripts = record { number = 7; first = 0; calls = produced all finish how ∷ []; end = None } ∷ [];
}

-- the pass of the follower, which never saw the clock
abbrev pub follower : List ℕ → Book
follower frame = record {
  config = followed;
  number = 1;
  parts = one_put fetched ∷ [];
  clock = [];
  transcripts = record {
    number = 9;
    first = 0;
    calls = record { frame = frame; accept = at 0 1 ∷ []; finish = []; how = AtOnce } ∷ [];
    end = Some Closed;
  } ∷ [];
}

-- the produce waits, and nothing else; or nothing does
abbrev pub first_waits : ℕ → Option Waiting
first_waits zero = Some (waits_for_all 0 batch)
first_waits (suc k) = None

abbrev pub none_waits : ℕ → Option Waiting
none_waits k = None

-- the follower's fetch won the produce, which was satisfied
abbrev pub satisfied_books : List ℕ → List ℕ → List Book
satisfied_books all frame = producer all looked (at 0 2 ∷ []) (Satisfied 1) ∷ follower frame ∷ []

-- before it did, and where the produce ended so
abbrev pub books_before : List ℕ → CallHow → List Book
books_before all how = producer all [] [] how ∷ []

-- the follower fetched, and the produce waits on
abbrev pub waiting_books : List ℕ → List ℕ → List Book
waiting_books all frame = producer all fetched [] Parked ∷ follower frame ∷ []

-- Two passes, written out: one put a batch and was cut off, and the other told the clock a moment and took the follower out.
use Rattle.std.specs.Prelude.{ℕ, pos, List, [], ◌∷◌, None}
use Rattle.partlog.specs.declared.clock_event.ClockEvent.{ClockEvent}
use Rattle.partlog.specs.declared.clock_event.ClockEvent.TheVariants as clocks
use Rattle.partlog.specs.declared.event.PartEvent.{PartEvent}
use Rattle.partlog.specs.declared.event.PartEvent.TheVariants.{Shrink}
use Rattle.audit.specs.declared.account.CallHow.TheVariants.{Cut}
use Rattle.audit.specs.Worked.{followed}
use Rattle.audit.specs.broker.books.Book.{Book}
use Rattle.audit.specs.broker.books.Worked.{one_put, producer}

-- the follower was taken out at this moment
abbrev pub left_at : ℕ → List PartEvent
left_at t = Shrink 1 (pos 1) t ∷ []

-- the producer looked at the clock, which was then told this moment
abbrev pub clock_told : ℕ → List ClockEvent
clock_told t = clocks.Look 0 0 ∷ clocks.Tick t ∷ []

-- the pass that told it, and saw this behind the batch
abbrev pub ticker : ℕ → List PartEvent → Book
ticker t events = record {
  config = followed;
  number = 1;
  parts = one_put events ∷ [];
  clock = clock_told t;
  transcripts = [];
}

-- with that of the producer
abbrev pub leave_books : List ℕ → Book → List Book
leave_books all book = producer all [] [] (Cut None) ∷ book ∷ []

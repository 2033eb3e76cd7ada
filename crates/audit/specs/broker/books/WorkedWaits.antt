-- The books of three passes that waited: one expired, one waits still, and one was cut off behind the first of its looks. Each saw another
-- front of the histories.
use Rattle.std.specs.Prelude.{ℕ, zero, suc, List, [], ◌∷◌, map, Option, Some, None}
use Rattle.partlog.specs.declared.clock_event.ClockEvent.{ClockEvent}
use Rattle.partlog.specs.declared.clock_event.ClockEvent.TheVariants as clocks
use Rattle.partlog.specs.declared.event.PartEvent.TheVariants.{Look}
use Rattle.partlog.specs.History.{History}
use Rattle.audit.specs.declared.account.Call.{Call}
use Rattle.audit.specs.Worked.{at, cut_call, expired_call, fetch_one, parked_call, two_parts}
use Rattle.kanswer.specs.declared.accepted.Accepted.TheVariants.{Seen}
use Rattle.kanswer.specs.Waiting.{operation_of}
use Rattle.audit.specs.broker.Board.{Waiting}
use Rattle.audit.specs.broker.books.Book.{Book}

-- looks by these passes
abbrev pub looks_by : List ℕ → History
looks_by passes = record { log = []; followers = 0; events = map (λ by. Look by 0) passes }

-- the clock was looked at by two passes, told 100, and was looked at by these
abbrev pub clock_at : List ℕ → List ClockEvent
clock_at passes = clocks.Look 0 0 ∷ clocks.Look 2 0 ∷ clocks.Tick 100 ∷ map (λ by. clocks.Look by 0) passes

-- a pass whose one call goes on, or was cut off just now
abbrev pub one_call : ℕ → List ℕ → List ℕ → List ℕ → Call → Book
one_call number first second behind call = record {
  config = two_parts;
  number = number;
  parts = looks_by first ∷ looks_by second ∷ [];
  clock = clock_at behind;
  transcripts = record { number = number; first = 0; calls = call ∷ []; end = None } ∷ [];
}

abbrev pub expired_book : List ℕ → Book
expired_book one = one_call 0 (0 ∷ 2 ∷ 0 ∷ []) [] (0 ∷ []) (expired_call one)

abbrev pub parked_book : List ℕ → Book
parked_book one = one_call 1 (0 ∷ 2 ∷ 0 ∷ 2 ∷ 1 ∷ []) [] (0 ∷ 2 ∷ 1 ∷ []) (parked_call one)

abbrev pub cut_book : List ℕ → Book
cut_book both = one_call 2 (0 ∷ 2 ∷ 0 ∷ 2 ∷ []) (2 ∷ []) (0 ∷ 2 ∷ []) (cut_call both)

abbrev pub three_books : List ℕ → List ℕ → List Book
three_books one both = expired_book one ∷ parked_book one ∷ cut_book both ∷ []

-- the histories at the end
abbrev pub last_parts : List History
last_parts = looks_by (0 ∷ 2 ∷ 0 ∷ 2 ∷ 1 ∷ []) ∷ looks_by (2 ∷ []) ∷ []

abbrev pub last_clock : List ClockEvent
last_clock = clock_at (0 ∷ 2 ∷ 1 ∷ [])

-- the fetch that waits still, from the moment 100
abbrev pub fetch_waits : Waiting
fetch_waits = record {
  session = 1;
  request = fetch_one;
  steps = record { result = Seen 0 0; point = Some (at 0 4) } ∷ [];
  operation = operation_of fetch_one.ask (Seen 0 0 ∷ []) 100;
}

abbrev pub second_waits : ℕ → Option Waiting
second_waits zero = None
second_waits (suc zero) = Some fetch_waits
second_waits (suc (suc k)) = None

-- The book of a pass: what it has seen, and what it did.
use Rattle.std.specs.Prelude.{ℕ, List, [], length, map, None}
use Rattle.partlog.specs.declared.clock_event.ClockEvent.{ClockEvent}
use Rattle.partlog.specs.History.{History}
use Rattle.audit.specs.declared.account.Transcript.{Transcript}
use Rattle.audit.specs.Histories.{calls_in}
use Rattle.kwire.specs.Configuration.{Configuration, followers_of}
use Rattle.audit.specs.broker.Board.{empty_history}

pub record Book : Type 0 where
  pub config : Configuration
  -- the number of the pass
  pub number : ℕ
  -- of each partition's history, and of the clock's, the front that the pass saw last
  pub parts : List History
  pub clock : List ClockEvent
  -- in the order in which they were begun
  pub transcripts : List Transcript

-- one that is begun behind these
abbrev pub begun_behind : List Transcript → ℕ → Transcript
begun_behind transcripts number = record { number = number; first = length (calls_in transcripts); calls = []; end = None }

-- of a pass that has seen nothing and done nothing
abbrev pub opening_book : Configuration → ℕ → Book
opening_book config number = record {
  config = config;
  number = number;
  parts = map empty_history (followers_of config.topics);
  clock = [];
  transcripts = [];
}

-- What a clause sees of the broker that threads share, and of a pass.
use Rattle.std.specs.Prelude.{ℕ, List, ◌++◌, Option, length, option_to_list}
use Rattle.audit.specs.declared.account.Transcript.{Transcript}
use Rattle.audit.specs.Histories.{calls_in}
use Rattle.kwire.specs.Configuration.{Configuration}
use Rattle.audit.specs.broker.books.Book.{Book}
use Rattle.shared_broker.specs.declared.parked.Parked.{Parked}
use Rattle.shared_logs.specs.Shared.{LogPassView, SharedView}

-- the topics, and the logs with their room
pub record BrokerView : Type 0 where
  pub config : Configuration
  pub logs : SharedView

-- A pass: the topics and logs with which it was made, what it saw and where it sits in the room; its transcripts that are ended, in the order
-- in which they were begun; the one that is going, if one is; and what is kept of the request that waits, if one does.
pub record PassView : Type 0 where
  pub config : Configuration
  pub logs : LogPassView
  pub ended : List Transcript
  pub going : Option Transcript
  pub waits : Option Parked

abbrev pub made_with : PassView → BrokerView
made_with pass = record { config = pass.config; logs = pass.logs.made }

abbrev pub transcripts_of : PassView → List Transcript
transcripts_of pass = pass.ended ++ option_to_list pass.going

-- what it knows of what it saw and did
abbrev pub book_of : PassView → Book
book_of pass = record {
  config = pass.config;
  number = pass.logs.number;
  parts = pass.logs.parts;
  clock = pass.logs.clock;
  transcripts = transcripts_of pass;
}

-- how many calls it has made
abbrev pub calls_made : PassView → ℕ
calls_made pass = length (calls_in (transcripts_of pass))

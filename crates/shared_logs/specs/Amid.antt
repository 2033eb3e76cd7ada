-- A pass amid a call: what it has seen, and the call as it stands behind the earlier ones.
use Rattle.std.specs.Prelude.{List}
use Rattle.audit.specs.declared.account.Call.{Call}
use Rattle.audit.specs.declared.account.Transcript.{Transcript}
use Rattle.kwire.specs.Configuration.{Configuration}
use Rattle.audit.specs.broker.books.Underway.{Underway}
use Rattle.shared_logs.specs.Shared.{LogPassView}

abbrev pub amid : Configuration → List Transcript → Transcript → LogPassView → Call → Underway
amid config front transcript pass call = record {
  config = config;
  number = pass.number;
  parts = pass.parts;
  clock = pass.clock;
  front = front;
  transcript = transcript;
  call = call;
}

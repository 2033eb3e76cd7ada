-- The passes of a new broker.
use Rattle.std.specs.Prelude.{ℕ, List, [], None, map}
use Rattle.std.specs.List.{range_with_len}
use Rattle.shared_broker.specs.Passes.{BrokerView, PassView}
use Rattle.shared_logs.specs.Making.{fresh_pass as fresh_log_pass}

-- a pass that has seen and done nothing
abbrev pub fresh_pass : BrokerView → ℕ → PassView
fresh_pass broker number = record {
  config = broker.config;
  logs = fresh_log_pass broker.logs number;
  ended = [];
  going = None;
  waits = None;
}

-- by their numbers
abbrev pub fresh_passes : BrokerView → ℕ → List PassView
fresh_passes broker passes = map (fresh_pass broker) (range_with_len 0 passes)

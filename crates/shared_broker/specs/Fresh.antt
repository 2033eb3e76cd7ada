-- A pass that is made.
use Rattle.std.specs.Prelude.{◌≡◌, [], None}
use Rattle.kwire.specs.Configuration.{Configuration, followers_of}
use Rattle.shared_broker.specs.Passes.{PassView}
use Rattle.shared_logs.specs.Making.{fresh_pass}
use Rattle.shared_logs.specs.Shared.{LogPassView, followers_in}

-- it has made no step and seen nothing
abbrev pub IsFresh : LogPassView → Type 0
IsFresh logs = logs ≡ fresh_pass logs.made logs.number

-- and its logs have these topics' followers
pub record IsNewOf (config : Configuration) (logs : LogPassView) : Type 0 where
  pub fresh : IsFresh logs
  pub followers : followers_in logs.made ≡ followers_of config.topics

abbrev pub pass_with : Configuration → LogPassView → PassView
pass_with config logs = record { config = config; logs = logs; ended = []; going = None; waits = None }

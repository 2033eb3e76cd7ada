-- What a storm comes to.
use Rattle.std.specs.Prelude.{ℕ, ◌≡◌, ◌↔◌, ◌⊎◌, List, take, true, Option, IfSome, IsSome}
use Rattle.std.specs.Io.KnownBytes.{Appends, Keeps}
use Rattle.audit.specs.declared.account.Account.{Account}
use Rattle.audit.specs.Printed.{storm_summary_of}
use Rattle.storm.specs.Lines.{storm_lines}
use Rattle.trace_file.specs.declared.line.TheConstants.{REPLAY_PORT}
use Rattle.trace_workers.specs.WorkerRun.{IsWorkerRun}
use Rattle.commands.specs.declared.command.Load.{Load}

-- By the exit code: the account, and what the sink had before and after, if it shows its bytes.
pub record IsStormed (load : Load) (code : ℕ) (account : Option Account) (before after : Option (List ℕ)) : Type 0 where
  pub codes : (code ≡ 0) ⊎ (code ≡ 4) ⊎ (code ≡ 6)
  pub there : IsSome account ↔ ((code ≡ 0) ⊎ (code ≡ 4))
  -- it is that of a run of the load's lines on workers, which is drained: the clock goes on by the second until nobody waits
  pub run : IfSome account (IsWorkerRun (storm_lines load.seed load.requests) REPLAY_PORT true)
  -- what a storm prints of it was written, after a write fault a prefix of that, and nothing where memory ran out
  pub told : code ≡ 0 → IfSome account (λ a. Appends before after (storm_summary_of a))
  pub told_in_part : code ≡ 4 → IfSome account (λ a. (count : ℕ) × Appends before after (take count (storm_summary_of a)))
  pub untold : code ≡ 6 → Keeps before after

-- What a replay on workers gives: its account is that of a run of the trace that was read.
use Rattle.std.specs.Prelude.{ℕ, ◌≡◌, List, Option, false, IfSome}
use Rattle.audit.specs.declared.account.Account.{Account}
use Rattle.trace_file.specs.declared.line.Line.{Line}
use Rattle.trace_file.specs.declared.line.TheConstants.{REPLAY_PORT}
use Rattle.trace_file.specs.Trace.{IsTrace}
use Rattle.trace_workers.specs.WorkerRun.{IsWorkerRun}

-- The lines are those of the text that was read; `left` is what the source had, if it shows its bytes, and that is this text. Nothing
-- is drained: what waits after the last line still waits.
pub record IsWorked (left : Option (List ℕ)) (account : Account) : Type 0 where
  pub lines : List Line
  pub read : List ℕ
  pub trace : IsTrace read lines
  pub told : IfSome left (λ had. had ≡ read)
  pub run : IsWorkerRun lines REPLAY_PORT false account

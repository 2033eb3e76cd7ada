-- What a replay on workers comes to, from what was read and how it was run.
use Rattle.std.proofs.Common.{◌≡◌, ℕ, false, List, Option, IfSome, subst}
use Rattle.audit.specs.declared.account.Account.{Account}
use Rattle.trace_file.specs.declared.line.Line.{Line}
use Rattle.trace_file.specs.declared.line.TheConstants.{REPLAY_PORT}
use Rattle.trace_file.specs.Trace.{IsTrace}
use Rattle.trace_workers.specs.WorkerRun.{IsWorkerRun}
use Rattle.commands.specs.Worked.{IsWorked}

-- what the lines that were read came to
pub worked_of : (left : Option (List ℕ)) (text : List ℕ) (lines slice : List Line) (account : Account) → IsTrace text lines → slice ≡ lines → IfSome left (λ had. had ≡ text)
    → IsWorkerRun slice REPLAY_PORT false account → IsWorked left account
worked_of left text lines slice account trace same told h =
    record { lines = lines; read = text; trace = trace; told = told; run = subst (λ (ls : List Line). IsWorkerRun ls REPLAY_PORT false account) same h }

-- The account of lines that workers played can be told again.
use Rattle.std.proofs.Common.{◌≡◌, ℕ, Bool, List, [], ◌∷◌, refl, sym, subst}
use Rattle.audit.specs.declared.account.Account.{Account}
use Rattle.audit.specs.retelling.Tellable.{IsTellable}
use Rattle.audit.proofs.retelling.Laws.{run_tellable}
use Rattle.trace_file.specs.declared.line.Line.{Line}
use Rattle.trace_file.specs.Trace.{IsTrace}
use Rattle.trace_workers.specs.WorkerRun.{IsWorkerRun}
use Rattle.trace_workers.specs.Playable.{AreTraced}

pub tellable : (lines slice : List Line) (port : ℕ) (drain : Bool) (account : Account) → AreTraced lines → slice ≡ lines → IsWorkerRun slice port drain account → IsTellable account
tellable lines slice port drain account traced same worked =
    run_tellable traced.0 slice port ([] ∷ []) worked.added account (subst (λ (ls : List Line). IsTrace traced.0 ls) (sym same) traced.1) worked.lawful worked.run (refl, tt)

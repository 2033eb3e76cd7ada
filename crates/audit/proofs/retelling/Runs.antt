-- The account of a trace's run can be printed session by session.
use Rattle.std.proofs.Common.{◌≡◌, ◌^◌, ℕ, List, [], arith}
use Rattle.std.specs.List.{AllByRecursion}
use Rattle.audit.specs.declared.account.Account.{Account}
use Rattle.audit.specs.declared.account.Transcript.{Transcript}
use Rattle.audit.specs.IsLawful.{IsLawful}
use Rattle.audit.specs.RunOf.{IsRunOf}
use Rattle.audit.specs.retelling.Tellable.{IsTellable}
use Rattle.audit.proofs.retelling.Printing.{printable, numbers_below}
use Rattle.trace_file.specs.declared.line.Line.{Line}
use Rattle.trace_file.specs.Trace.{IsTrace}
use Rattle.trace_file.proofs.Laws.{few_sessions}

-- where the passes behind its sessions have no transcript
pub run_tellable : (text : List ℕ) (lines : List Line) (port : ℕ) (further : List (List Transcript)) (added : List ℕ) (account : Account) → IsTrace text lines → IsLawful account
    → IsRunOf lines port further added account → AllByRecursion (λ ts. ts ≡ []) further → IsTellable account
run_tellable text lines port further added account trace lawful run bare = record {
  printable = printable lines port further added account lawful run bare;
  numbered = numbers_below (2 ^ 32) lines port further added account run bare (λ session named. omega (arith, few_sessions text lines session trace named));
}

use Rattle.std.proofs.Common.{◌≤◌, ◌∷◌, [], arith, subst, sym}
use Rattle.trace_file.specs.Contents.{sessions_of}
use Rattle.trace_file.specs.declared.line.Line.{Line}
use Rattle.trace_workers.proofs.Counting.{counted_more, few_counted}
use Rattle.trace_workers.proofs.runs.sessions_of.Goals as goal

pub session_past-requires : goal.session_past-requires
session_past-requires c =
    let lines = c.args.lines.now in
    let line = c.line-item.result in
    subst (λ (l : Line). sessions_of (l ∷ []) ≤ 64) (sym c.line-item.is)
    (omega (arith, c.loop-line.invariant, counted_more lines c.loop-line.line-index line c.loop-line-test.true, few_counted lines c.requires))

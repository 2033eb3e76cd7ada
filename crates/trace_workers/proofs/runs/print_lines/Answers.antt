use Rattle.std.proofs.Common.{[], ◌∷◌, refl}
use Rattle.audit.proofs.retelling.Laws.{run_tellable}
use Rattle.trace_workers.proofs.runs.print_lines.Goals as goal

pub print_parts-requires-clause-printable : goal.print_parts-requires-clause-printable
print_parts-requires-clause-printable g c =
    let traced = c.requires.traced in
    let run = c.in_ok-account.ensures.run in
    (run_tellable traced.0 c.args.lines c.args.port ([] ∷ []) run.added c.in_ok-account.field-0.account traced.1 run.lawful run.run (refl, tt)).printable

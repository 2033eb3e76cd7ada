use Rattle.std.proofs.Common.{List, subst, sym}
use Rattle.std.specs.List.{AllByRecursion}
use Rattle.audit.specs.declared.account.Transcript.{Transcript}
use Rattle.audit.specs.retelling.Shares.{sessions_in}
use Rattle.audit.specs.retelling.Tellable.{IsTold}
use Rattle.audit.proofs.retelling.Tellings.{all_told}
use Rattle.audit.proofs.retelling.telling.print_workers.Goals as goal

pub passes_text-requires-clause-told : goal.passes_text-requires-clause-told
passes_text-requires-clause-told c =
    let account = c.args.account.now in
    subst (λ (passes : List (List Transcript)). AllByRecursion (IsTold account) (sessions_in passes)) (sym c.as_slice-2.ensures) (all_told account c.requires.printable.lawful c.requires.numbered)

use Rattle.std.proofs.Common.{List, sym, subst}
use Rattle.kanswer.specs.declared.accepted.Reading.{Reading}
use Rattle.kanswer.specs.LogReadings.{AreReadings}
use Rattle.kwire.specs.IsSpellable.{IsSpellable}
use Rattle.kanswer.proofs.Laws.{answer_spellable}
use Rattle.audit.proofs.retelling.Reread.{if_ok_then}
use Rattle.audit.proofs.retelling.reply.answer_at.Goals as goal

pub returns-clause-framed : goal.returns-clause-framed
returns-clause-framed c =
    let config = c.args.scene.now.config.now in
    let request = c.args.request.now in
    let accepted = c.args.accepted.now in
    let readings = c.in_ok-readings.readings in
    if_ok_then c.answer.result c.answer.ensures (λ reply e shown are.
    let read = c.in_ok-readings.ensures.read shown are in
    subst IsSpellable (sym (e shown (subst (λ (l : List Reading). AreReadings request.ask accepted l shown) (sym c.as_slice.ensures) read)))
    (answer_spellable config request c.requires.asked.0 accepted readings shown c.parts.ensures.declared c.requires.asked.1 read c.in_ok-readings.ensures.room))

use Rattle.std.proofs.Common.{◌≡◌, ◌+◌, [], ◌∷◌, ◌++◌, List, get_or, take, sym, ap, subst, ◌∙◌}
use Rattle.std.proofs.lemmas.List.{take_more}
use Rattle.std.proofs.lemmas.Option.{slice_get-get_or}
use Rattle.partlog.specs.declared.event.PartEvent.{PartEvent}
use Rattle.partlog.specs.declared.event.PartEvent.TheVariants.{Append}
use Rattle.audit.proofs.Tracking.{can_enter}
use Rattle.audit.proofs.numbers.high_watermark.Goals as goal

pub enter-requires : goal.enter-requires
enter-requires c =
    let es = c.args.events.now in
    let i = c.loop-event.event-index in
    let d : PartEvent = Append 0 0 0 0 in
    can_enter c.loop-event.replicas c.args.followers es i c.requires c.loop-event.invariant (get_or es i d) (slice_get-get_or es i d c.loop-event-test.true)

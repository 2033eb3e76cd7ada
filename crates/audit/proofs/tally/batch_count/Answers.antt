use Rattle.std.proofs.Common.{◌≡◌, ◌+◌, ◌∷◌, [], List, length, take, get_or, arith, ap, ◌∙◌}
use Rattle.std.proofs.lemmas.List.{take_more}
use Rattle.partlog.specs.declared.event.PartEvent.{PartEvent}
use Rattle.partlog.specs.declared.event.PartEvent.TheVariants.{Append}
use Rattle.partlog.specs.Batches.{batches_of}
use Rattle.audit.proofs.Tallies.{batches_more}
use Rattle.audit.proofs.tally.batch_count.Goals as goal

pub loop-event-preserved : goal.loop-event-preserved
loop-event-preserved c =
    let es = c.args.events.now in
    let i = c.loop-event.event-index in
    let d : PartEvent = Append 0 0 0 0 in
    let e = get_or es i d in
    record {
      few = omega (arith, c.put-count.ensures.few);
      counted = λ log.
          let more : length (batches_of (take (i + 1) es) log) ≡ length (batches_of (take i es) log) + length (batches_of (e ∷ []) log) =
          ap (λ (xs : List PartEvent). length (batches_of xs log)) (take_more es i d c.loop-event-test.true) ∙ batches_more [] (take i es) e log in
          omega (arith, more, c.loop-event.invariant.counted log, c.put-count.ensures.counted log);
    }

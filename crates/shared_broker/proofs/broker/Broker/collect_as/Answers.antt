use Rattle.std.proofs.Common.{refl, ap, ◌∙◌}
use Rattle.shared_broker.specs.Passes.{BrokerView, PassView}
use Rattle.shared_broker.proofs.KeptPass.{still_stands}
use Rattle.shared_broker.proofs.broker.Broker.collect_as.Goals as goal

pub invariant_of-pass : goal.invariant_of-pass
invariant_of-pass g c =
    let v : PassView = record { config = c.pass.inside.config.value; logs = c.pass.inside.logs; ended = c.pass.inside.ended; going = c.pass.inside.going; waits = c.pass.inside.waits } in
    (still_stands v c.pass.invariant.0 c.poll.new.pass c.poll.ensures.stepped c.in_default.ensures.step c.poll.ensures.seen.1, c.pass.invariant.1)

pub invariant_of-pass-2 : goal.invariant_of-pass-2
invariant_of-pass-2 g c =
    let v : PassView = record { config = c.pass.inside.config.value; logs = c.pass.inside.logs; ended = c.pass.inside.ended; going = c.pass.inside.going; waits = c.pass.inside.waits } in (
      c.complete_won-collected.ensures.stands v (record {
        config_is = ap (λ (p : PassView). p.config) c.pass.view_is ∙ ap (λ (b : BrokerView). b.config) c.requires.made;
        stood = c.pass.invariant.0;
        first_is = c.pass.invariant.1;
        waited = c.in-Some-waits.is;
        going_is = refl;
        stepped = c.poll.ensures.stepped;
        polled = c.in-Some.ensures.step;
        taken = c.in-Some.ensures.some;
      }),
      c.pass.invariant.1,
    )

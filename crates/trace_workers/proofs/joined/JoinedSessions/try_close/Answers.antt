use Rattle.std.proofs.Common.{◌≡◌, List, sym, subst}
use Rattle.std.specs.Prelude.{All}
use Rattle.shared_broker.specs.Closing.{HasClosed as HasEnded}
use Rattle.shared_broker.specs.Passes.{PassView, made_with}
use Rattle.trace_workers.proofs.Sessions.{all_made}
use Rattle.trace_workers.proofs.joined.JoinedSessions.try_close.Goals as goal

pub close-requires-clause-made : goal.close-requires-clause-made
close-requires-clause-made g c =
    let broker = c.args.broker in
    let r = c.requires.whole in
    subst (λ (passes : List PassView). All (λ (pass : PassView). made_with pass ≡ broker) passes) (sym c.in_ok-passes.ensures.passes) (all_made broker r.0 r.1 c.args.self r.2)

pub after_close-requires : goal.after_close-requires
after_close-requires g c =
    let broker = c.args.broker in
    let parts = c.in_ok-passes.ensures in
    (broker, c.args.self, subst (λ (passes : List PassView). HasEnded broker passes c.close.result) parts.passes c.close.ensures, parts.desks)

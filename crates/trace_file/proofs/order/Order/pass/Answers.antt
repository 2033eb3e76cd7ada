use Rattle.std.proofs.Common.{◌++◌, ◌∷◌, [], true, set, subst, sym}
use Rattle.trace_file.specs.declared.line.Line.{Line}
use Rattle.trace_file.specs.Sees.{Sees, NamesOne}
use Rattle.trace_file.proofs.Orders.{passed_topic, passed_feed, passed_shut, passed_clock, passed_end}
use Rattle.trace_file.proofs.order.Order.pass.Goals as goal

pub returns-in-Topic : goal.returns-in-Topic
returns-in-Topic c = λ lines sees.
    let order = c.args.self.now in
    subst (λ (line : Line). Sees order (lines ++ line ∷ [])) (sym c.in-Topic.is)
    (passed_topic order lines c.in-Topic.name c.in-Topic.partitions c.in-Topic.followers c.in-Topic.min_insync sees)

pub returns-in-Feed : goal.returns-in-Feed
returns-in-Feed c = λ lines sees.
    let order = c.args.self.now in
    subst (λ (line : Line). Sees (record { ended = order.ended; begun = true; moment = order.moment; closed = order.closed }) (lines ++ line ∷ [])) (sym c.in-Feed.is)
    (passed_feed order lines c.in-Feed.session c.in-Feed.bytes sees)

pub returns-in-Shut : goal.returns-in-Shut
returns-in-Shut c = λ lines sees.
    let order = c.args.self.now in
    let session = c.in-Shut.session in
    subst (λ (line : Line). Sees (record { ended = order.ended; begun = true; moment = order.moment; closed = set order.closed session true }) (lines ++ line ∷ [])) (sym c.in-Shut.is)
    (passed_shut order lines session (subst NamesOne c.in-Shut.is c.requires) sees)

pub returns-in-Clock : goal.returns-in-Clock
returns-in-Clock c = λ lines sees.
    let order = c.args.self.now in
    let t = c.in-Clock.t in
    subst (λ (line : Line). Sees (record { ended = order.ended; begun = true; moment = c.max-self.result; closed = order.closed }) (lines ++ line ∷ [])) (sym c.in-Clock.is)
    (passed_clock order lines t c.max-self.result c.max-self.ensures sees)

pub returns-in-End : goal.returns-in-End
returns-in-End c = λ lines sees.
    let order = c.args.self.now in
    subst (λ (line : Line). Sees (record { ended = true; begun = true; moment = order.moment; closed = order.closed }) (lines ++ line ∷ [])) (sym c.in-End.is)
    (passed_end order lines sees)

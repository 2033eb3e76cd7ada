use Rattle.std.proofs.Common.{◌∙◌, ℕ, ◌+◌, ◌<◌, [], ◌∷◌, ◌++◌, Option, ap, arith, refl, subst}
use Rattle.std.specs.Option.{SomeIff}
use Rattle.outside.specs.declared.shared.port.port_entry.PortEntry.{PortEntry}
use Rattle.outside.specs.declared.shared.port.port_entry.PortEntry.TheVariants.{Retired}
use Rattle.outside.specs.shared.port.Desk.{Desk}
use Rattle.outside.specs.shared.port.History.{PortFacts, Terms}
use Rattle.outside.specs.shared.port.Tallies.{Tally}
use Rattle.outside.proofs.shared.port.Added.{one_added}
use Rattle.outside.proofs.shared.port.Tallied.{keeps_retired}
use Rattle.outside.proofs.shared.port.port_desk.PortDesk.retire.Goals as goal

pub returns-clause-retired : goal.returns-clause-retired
returns-clause-retired g c =
    (c.of.result, c.of.ensures, c.in_ok-push.ensures.items ∙ ap (λ (d : Desk g.row.P.Denot g.row.P-Link.Denot). d.entries ++ Retired c.args.by c.args.number c.of.result ∷ []) c.self.view_is)

pub returns-clause-added : goal.returns-clause-added
returns-clause-added g c =
    let is = c.in_ok-push.ensures.items ∙ ap (λ (d : Desk g.row.P.Denot g.row.P-Link.Denot). d.entries ++ Retired c.args.by c.args.number c.of.result ∷ []) c.self.view_is in
    one_added c.args.by c.args.self.now.entries (Retired c.args.by c.args.number c.of.result) c.push.new.self.items is refl

pub invariant_of-self-2 : goal.invariant_of-self-2
invariant_of-self-2 g c =
    let before = c.self.inside.port in
    let after = c.retire.new.self in
    let L : Type 0 = g.row.P-Link.Denot in
    let terms : Terms = record { before = g.P.Port.faults c.self.inside.start.value; most = c.self.inside.most } in
    let old : PortFacts L = record { faults = g.P.Port.faults before; opened_with = g.P.Port.opened_with before; given = g.P.Port.given before; is_ended = g.P.Port.is_ended before; retired_count = g.P.Port.retired_count before; retired = g.P.Port.retired before } in
    let new : PortFacts L = record { faults = g.P.Port.faults after; opened_with = g.P.Port.opened_with after; given = g.P.Port.given after; is_ended = g.P.Port.is_ended after; retired_count = g.P.Port.retired_count after; retired = g.P.Port.retired after } in
    let tally : Tally = record { given = c.self.inside.given; retired = c.self.inside.retired; is_ended = c.self.inside.is_ended; is_faulted = c.self.inside.is_faulted } in
    let es = c.self.inside.entries.items in
    let e : PortEntry L = Retired c.args.by c.args.number c.of.result in
    let counted = c.self.invariant.history.count in
    let held = c.self.invariant.retired in
    let more = c.retire.ensures.count in
    let next = subst (λ (o : Option ℕ). SomeIff o (c.self.inside.retired + 1 < 18446744073709551616) (c.self.inside.retired + 1)) c.in_ok-retired.ensures.ok_part c.checked_add.ensures in
    keeps_retired terms old new es c.push.new.self.items tally c.self.invariant e (c.args.number, c.args.link) c.in_ok-retired.retired c.in_ok-push.ensures.items
    (ap (λ (link : L). (c.args.number, link) ∷ []) c.of.ensures) refl refl refl refl next.1 c.retire.ensures.opened c.retire.ensures.given c.retire.ensures.ended (omega (arith, counted, held, more, next.0)) c.retire.ensures.retired c.retire.ensures.faults

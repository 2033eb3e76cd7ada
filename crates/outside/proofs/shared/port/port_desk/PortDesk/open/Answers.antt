use Rattle.std.proofs.Common.{◌∙◌, List, [], ◌∷◌, ◌++◌, ap}
use Rattle.outside.specs.declared.shared.port.port_entry.PortEntry.{PortEntry}
use Rattle.outside.specs.declared.shared.port.port_entry.PortEntry.TheVariants.{Opened, Faulted}
use Rattle.outside.specs.shared.port.History.{PortFacts, Terms}
use Rattle.outside.specs.shared.port.Tallies.{Tally}
use Rattle.outside.proofs.shared.port.Tallied.{keeps_faulted, keeps_opened}
use Rattle.outside.proofs.shared.port.port_desk.PortDesk.open.Goals as goal

pub invariant_of-self-in-Ok : goal.invariant_of-self-in-Ok
invariant_of-self-in-Ok g c =
    let before = c.self.inside.port in
    let after = c.open.new.self in
    let L : Type 0 = g.row.P-Link.Denot in
    let terms : Terms = record { before = g.P.Port.faults c.self.inside.start.value; most = c.self.inside.most } in
    let old : PortFacts L = record { faults = g.P.Port.faults before; opened_with = g.P.Port.opened_with before; given = g.P.Port.given before; is_ended = g.P.Port.is_ended before; retired_count = g.P.Port.retired_count before; retired = g.P.Port.retired before } in
    let new : PortFacts L = record { faults = g.P.Port.faults after; opened_with = g.P.Port.opened_with after; given = g.P.Port.given after; is_ended = g.P.Port.is_ended after; retired_count = g.P.Port.retired_count after; retired = g.P.Port.retired after } in
    let tally : Tally = record { given = c.self.inside.given; retired = c.self.inside.retired; is_ended = c.self.inside.is_ended; is_faulted = c.self.inside.is_faulted } in
    let es = c.self.inside.entries.items in
    let told = c.in-Ok.ensures in
    let is = c.enter.ensures.entered ∙ ap (λ (l : List (PortEntry L)). l ++ Opened c.args.by c.args.number ∷ []) c.reserve.ensures.items in
    keeps_opened terms old new es c.enter.new.entries.items tally c.self.invariant c.args.by c.args.number is told.opened told.given told.ended told.count told.retired told.cause.later

pub invariant_of-self-in-Err : goal.invariant_of-self-in-Err
invariant_of-self-in-Err g c =
    let before = c.self.inside.port in
    let after = c.open.new.self in
    let L : Type 0 = g.row.P-Link.Denot in
    let terms : Terms = record { before = g.P.Port.faults c.self.inside.start.value; most = c.self.inside.most } in
    let old : PortFacts L = record { faults = g.P.Port.faults before; opened_with = g.P.Port.opened_with before; given = g.P.Port.given before; is_ended = g.P.Port.is_ended before; retired_count = g.P.Port.retired_count before; retired = g.P.Port.retired before } in
    let new : PortFacts L = record { faults = g.P.Port.faults after; opened_with = g.P.Port.opened_with after; given = g.P.Port.given after; is_ended = g.P.Port.is_ended after; retired_count = g.P.Port.retired_count after; retired = g.P.Port.retired after } in
    let tally : Tally = record { given = c.self.inside.given; retired = c.self.inside.retired; is_ended = c.self.inside.is_ended; is_faulted = c.self.inside.is_faulted } in
    let es = c.self.inside.entries.items in
    let told = c.in-Err.ensures in
    let is = c.enter-in-Err.ensures.entered ∙ ap (λ (l : List (PortEntry L)). l ++ Faulted c.args.by ∷ []) c.reserve.ensures.items in
    keeps_faulted terms old new es c.enter-in-Err.new.entries.items tally c.self.invariant c.args.by is told.failed told.given told.ended told.count told.retired told.cause.failed told.cause.later

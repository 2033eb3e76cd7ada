use Rattle.std.proofs.Common.{◌≡◌, true, false, Ok, ◌∙◌, ◌<◌, List, [], ◌∷◌, ◌++◌, Option, ap, arith, length, subst, sym}
use Rattle.outside.specs.declared.shared.port.port_entry.PortEntry.{PortEntry}
use Rattle.outside.specs.declared.shared.port.port_entry.PortEntry.TheVariants.{Accepted, Ended, Faulted}
use Rattle.outside.specs.shared.port.Desk.{Desk}
use Rattle.outside.specs.shared.port.Entries.{accepted, has_ended, has_faulted}
use Rattle.outside.specs.shared.port.History.{PortFacts, Terms}
use Rattle.outside.specs.shared.port.Tallies.{Tally}
use Rattle.outside.proofs.shared.port.Answered.{below, end_came, ended_before, fault_came, faulted_before, link_came, may_ask}
use Rattle.outside.proofs.shared.port.Tallied.{keeps_accepted, keeps_ended, keeps_faulted}
use Rattle.outside.proofs.shared.port.port_desk.PortDesk.accept.Goals as goal
use Rattle.outside.specs.declared.failed.Failed.{Failed}
use Rattle.outside.specs.Accepting.{Accepts}
use Rattle.outside.specs.Count.{one_more}

pub returns-then-self-2-clause-answer : goal.returns-then-self-2-clause-answer
returns-then-self-2-clause-answer g c =
    let before = c.self.inside.port in
    let L : Type 0 = g.row.P-Link.Denot in
    let terms : Terms = record { before = g.P.Port.faults c.self.inside.start.value; most = c.self.inside.most } in
    let old : PortFacts L = record { faults = g.P.Port.faults before; opened_with = g.P.Port.opened_with before; given = g.P.Port.given before; is_ended = g.P.Port.is_ended before; retired_count = g.P.Port.retired_count before; retired = g.P.Port.retired before } in
    let tally : Tally = record { given = c.self.inside.given; retired = c.self.inside.retired; is_ended = c.self.inside.is_ended; is_faulted = c.self.inside.is_faulted } in
    let es = c.self.inside.entries.items in
    subst (λ (d : Desk g.row.P.Denot g.row.P-Link.Denot). (length (accepted d.entries) < d.terms.most) × (has_ended d.entries ≡ true)) c.self.view_is (ended_before terms old es tally c.self.invariant c.if-self.false c.if-self-2.true)

pub returns-then-self-3-clause-answer : goal.returns-then-self-3-clause-answer
returns-then-self-3-clause-answer g c =
    let before = c.self.inside.port in
    let L : Type 0 = g.row.P-Link.Denot in
    let terms : Terms = record { before = g.P.Port.faults c.self.inside.start.value; most = c.self.inside.most } in
    let old : PortFacts L = record { faults = g.P.Port.faults before; opened_with = g.P.Port.opened_with before; given = g.P.Port.given before; is_ended = g.P.Port.is_ended before; retired_count = g.P.Port.retired_count before; retired = g.P.Port.retired before } in
    let tally : Tally = record { given = c.self.inside.given; retired = c.self.inside.retired; is_ended = c.self.inside.is_ended; is_faulted = c.self.inside.is_faulted } in
    let es = c.self.inside.entries.items in
    subst (λ (d : Desk g.row.P.Denot g.row.P-Link.Denot). (length (accepted d.entries) < d.terms.most) × (has_ended d.entries ≡ false) × (has_faulted d.entries ≡ true)) c.self.view_is (faulted_before terms old es tally c.self.invariant c.if-self.false c.if-self-2.false c.if-self-3.true)

pub returns-then-is_err-clause-answer : goal.returns-then-is_err-clause-answer
returns-then-is_err-clause-answer g c =
    let before = c.self.inside.port in
    let L : Type 0 = g.row.P-Link.Denot in
    let terms : Terms = record { before = g.P.Port.faults c.self.inside.start.value; most = c.self.inside.most } in
    let old : PortFacts L = record { faults = g.P.Port.faults before; opened_with = g.P.Port.opened_with before; given = g.P.Port.given before; is_ended = g.P.Port.is_ended before; retired_count = g.P.Port.retired_count before; retired = g.P.Port.retired before } in
    let tally : Tally = record { given = c.self.inside.given; retired = c.self.inside.retired; is_ended = c.self.inside.is_ended; is_faulted = c.self.inside.is_faulted } in
    let es = c.self.inside.entries.items in
    subst (λ (l : List (PortEntry L)). (length (accepted l) < terms.most) × (has_ended l ≡ false) × (has_faulted l ≡ false)) (sym c.reserve.ensures.items) (may_ask terms old es tally c.self.invariant c.if-self.false c.if-self-2.false c.if-self-3.false)

pub invariant_of-self-in-Ok-Some : goal.invariant_of-self-in-Ok-Some
invariant_of-self-in-Ok-Some g c =
    let before = c.self.inside.port in
    let after = c.accept.new.self in
    let L : Type 0 = g.row.P-Link.Denot in
    let terms : Terms = record { before = g.P.Port.faults c.self.inside.start.value; most = c.self.inside.most } in
    let old : PortFacts L = record { faults = g.P.Port.faults before; opened_with = g.P.Port.opened_with before; given = g.P.Port.given before; is_ended = g.P.Port.is_ended before; retired_count = g.P.Port.retired_count before; retired = g.P.Port.retired before } in
    let new : PortFacts L = record { faults = g.P.Port.faults after; opened_with = g.P.Port.opened_with after; given = g.P.Port.given after; is_ended = g.P.Port.is_ended after; retired_count = g.P.Port.retired_count after; retired = g.P.Port.retired after } in
    let tally : Tally = record { given = c.self.inside.given; retired = c.self.inside.retired; is_ended = c.self.inside.is_ended; is_faulted = c.self.inside.is_faulted } in
    let es = c.self.inside.entries.items in
    let told = c.in-Ok-Some.ensures in
    let is = c.enter.ensures.entered ∙ ap (λ (l : List (PortEntry L)). l ++ Accepted c.args.by c.self.inside.given ∷ []) c.reserve.ensures.items in
    let less = below terms old es tally c.self.invariant c.if-self.false in
    let held = c.self.invariant.given in
    let accepts : (g.P.Port.given after ≡ one_more (g.P.Port.given before)) × (g.P.Port.is_ended before ≡ false) × (g.P.Port.is_ended after ≡ false) = subst (λ (r : Option L). Accepts {E = Failed} (g.P.Port.given before) (g.P.Port.given after) (g.P.Port.is_ended before) (g.P.Port.is_ended after) (Ok r)) c.in-Ok-Some.field-0-is told.accepts in
    let given = accepts.0 in
    let bound = c.self.ranges.1.1.0.1 in
    keeps_accepted terms old new es c.enter.new.entries.items tally c.self.invariant c.args.by is less told.opened (omega (arith, given, held, less, bound)) (accepts.2 ∙ sym accepts.1) told.count told.retired told.cause.later

pub invariant_of-self-in-Ok-None : goal.invariant_of-self-in-Ok-None
invariant_of-self-in-Ok-None g c =
    let before = c.self.inside.port in
    let after = c.accept.new.self in
    let L : Type 0 = g.row.P-Link.Denot in
    let terms : Terms = record { before = g.P.Port.faults c.self.inside.start.value; most = c.self.inside.most } in
    let old : PortFacts L = record { faults = g.P.Port.faults before; opened_with = g.P.Port.opened_with before; given = g.P.Port.given before; is_ended = g.P.Port.is_ended before; retired_count = g.P.Port.retired_count before; retired = g.P.Port.retired before } in
    let new : PortFacts L = record { faults = g.P.Port.faults after; opened_with = g.P.Port.opened_with after; given = g.P.Port.given after; is_ended = g.P.Port.is_ended after; retired_count = g.P.Port.retired_count after; retired = g.P.Port.retired after } in
    let tally : Tally = record { given = c.self.inside.given; retired = c.self.inside.retired; is_ended = c.self.inside.is_ended; is_faulted = c.self.inside.is_faulted } in
    let es = c.self.inside.entries.items in
    let told = c.in-Ok-None.ensures in
    let is = c.enter-in-Ok-None.ensures.entered ∙ ap (λ (l : List (PortEntry L)). l ++ Ended c.args.by ∷ []) c.reserve.ensures.items in
    let accepts : (g.P.Port.given after ≡ g.P.Port.given before) × (g.P.Port.is_ended after ≡ true) = subst (λ (r : Option L). Accepts {E = Failed} (g.P.Port.given before) (g.P.Port.given after) (g.P.Port.is_ended before) (g.P.Port.is_ended after) (Ok r)) c.in-Ok-None.field-0-is told.accepts in
    keeps_ended terms old new es c.enter-in-Ok-None.new.entries.items tally c.self.invariant c.args.by is told.opened accepts.0 accepts.1 told.count told.retired told.cause.later

pub invariant_of-self-in-Err : goal.invariant_of-self-in-Err
invariant_of-self-in-Err g c =
    let before = c.self.inside.port in
    let after = c.accept.new.self in
    let L : Type 0 = g.row.P-Link.Denot in
    let terms : Terms = record { before = g.P.Port.faults c.self.inside.start.value; most = c.self.inside.most } in
    let old : PortFacts L = record { faults = g.P.Port.faults before; opened_with = g.P.Port.opened_with before; given = g.P.Port.given before; is_ended = g.P.Port.is_ended before; retired_count = g.P.Port.retired_count before; retired = g.P.Port.retired before } in
    let new : PortFacts L = record { faults = g.P.Port.faults after; opened_with = g.P.Port.opened_with after; given = g.P.Port.given after; is_ended = g.P.Port.is_ended after; retired_count = g.P.Port.retired_count after; retired = g.P.Port.retired after } in
    let tally : Tally = record { given = c.self.inside.given; retired = c.self.inside.retired; is_ended = c.self.inside.is_ended; is_faulted = c.self.inside.is_faulted } in
    let es = c.self.inside.entries.items in
    let told = c.in-Err.ensures in
    let is = c.enter-in-Err.ensures.entered ∙ ap (λ (l : List (PortEntry L)). l ++ Faulted c.args.by ∷ []) c.reserve.ensures.items in
    let accepts : (g.P.Port.given after ≡ g.P.Port.given before) × (g.P.Port.is_ended after ≡ g.P.Port.is_ended before) = told.accepts in
    keeps_faulted terms old new es c.enter-in-Err.new.entries.items tally c.self.invariant c.args.by is told.opened accepts.0 accepts.1 told.count told.retired told.cause.failed told.cause.later

pub returns-in-Ok-Some-clause-answer : goal.returns-in-Ok-Some-clause-answer
returns-in-Ok-Some-clause-answer g c =
    let before = c.self.inside.port in
    let L : Type 0 = g.row.P-Link.Denot in
    let terms : Terms = record { before = g.P.Port.faults c.self.inside.start.value; most = c.self.inside.most } in
    let old : PortFacts L = record { faults = g.P.Port.faults before; opened_with = g.P.Port.opened_with before; given = g.P.Port.given before; is_ended = g.P.Port.is_ended before; retired_count = g.P.Port.retired_count before; retired = g.P.Port.retired before } in
    let tally : Tally = record { given = c.self.inside.given; retired = c.self.inside.retired; is_ended = c.self.inside.is_ended; is_faulted = c.self.inside.is_faulted } in
    let es = c.self.inside.entries.items in
    let is = c.enter.ensures.entered ∙ ap (λ (l : List (PortEntry L)). l ++ Accepted c.args.by c.self.inside.given ∷ []) c.reserve.ensures.items in
    link_came terms old es tally c.self.invariant c.if-self.false c.if-self-2.false c.if-self-3.false c.args.by c.enter.new.entries.items is

pub returns-in-Ok-None-clause-answer : goal.returns-in-Ok-None-clause-answer
returns-in-Ok-None-clause-answer g c =
    let before = c.self.inside.port in
    let L : Type 0 = g.row.P-Link.Denot in
    let terms : Terms = record { before = g.P.Port.faults c.self.inside.start.value; most = c.self.inside.most } in
    let old : PortFacts L = record { faults = g.P.Port.faults before; opened_with = g.P.Port.opened_with before; given = g.P.Port.given before; is_ended = g.P.Port.is_ended before; retired_count = g.P.Port.retired_count before; retired = g.P.Port.retired before } in
    let tally : Tally = record { given = c.self.inside.given; retired = c.self.inside.retired; is_ended = c.self.inside.is_ended; is_faulted = c.self.inside.is_faulted } in
    let es = c.self.inside.entries.items in
    let is = c.enter-in-Ok-None.ensures.entered ∙ ap (λ (l : List (PortEntry L)). l ++ Ended c.args.by ∷ []) c.reserve.ensures.items in
    end_came terms old es tally c.self.invariant c.if-self.false c.if-self-2.false c.if-self-3.false c.args.by c.enter-in-Ok-None.new.entries.items is

pub returns-in-Err-clause-answer : goal.returns-in-Err-clause-answer
returns-in-Err-clause-answer g c =
    let before = c.self.inside.port in
    let L : Type 0 = g.row.P-Link.Denot in
    let terms : Terms = record { before = g.P.Port.faults c.self.inside.start.value; most = c.self.inside.most } in
    let old : PortFacts L = record { faults = g.P.Port.faults before; opened_with = g.P.Port.opened_with before; given = g.P.Port.given before; is_ended = g.P.Port.is_ended before; retired_count = g.P.Port.retired_count before; retired = g.P.Port.retired before } in
    let tally : Tally = record { given = c.self.inside.given; retired = c.self.inside.retired; is_ended = c.self.inside.is_ended; is_faulted = c.self.inside.is_faulted } in
    let es = c.self.inside.entries.items in
    let is = c.enter-in-Err.ensures.entered ∙ ap (λ (l : List (PortEntry L)). l ++ Faulted c.args.by ∷ []) c.reserve.ensures.items in
    fault_came terms old es tally c.self.invariant c.if-self.false c.if-self-2.false c.if-self-3.false c.args.by c.enter-in-Err.new.entries.items is

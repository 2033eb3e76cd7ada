use Rattle.std.proofs.Common.{inl, inr, ◌≡◌, ◌≢◌, ◌∙◌, ◌+◌, ◌*◌, ap, arith, length-set, refl, subst, sym}
use Rattle.room_core.specs.declared.parts.Session.{Session}
use Rattle.room_core.specs.Gauges.{IsGaugeOf, IsPass, clock_of}
use Rattle.room_core.specs.Meetings.{IsMet, MayMark, generation_met}
use Rattle.room_core.specs.Scans.{HasNoDuty}
use Rattle.room_table.specs.declared.part.ScannerStep.{ScannerStep}
use Rattle.room_table.specs.Seats.{ScanView, TableView, scanner_did, scanner_now}
use Rattle.watch_lists.specs.Watches.{IsListed, Watches, keys_of}
use Rattle.purgatory.specs.scans.Desks.{ShardView}
use Rattle.purgatory.specs.scans.ShardKeeps.{gauge_of_key}
use Rattle.purgatory.proofs.scans.Goes.{goes_by, met_then, one_step}
use Rattle.purgatory.proofs.scans.Marking.{may_mark, shelf_marked}
use Rattle.purgatory.proofs.scans.Purging.{meets_no_duty}
use Rattle.purgatory.proofs.scans.Sessions.{is_open_at}
use Rattle.purgatory.proofs.scans.Watching.{meeting_is}
use Rattle.purgatory.proofs.scans.shard_listing.ShardListing.list.Goals as goal

pub learn-needs-requires-clause-met : goal.learn-needs-requires-clause-met
learn-needs-requires-clause-met c =
    let a = c.args.self.now in
    let inside = c.self.inside in
    let pass = c.args.pass in
    let at = c.args.at in
    let found = c.meet-found.result in
    let mid = c.make_room.new.self.seat in
    let step = ap (λ (v : ShardView). v.seat) c.self.view_is ∙ c.meet-found.ensures.step in
    let same = sym c.open_generation.ensures ∙ c.if-open_generation-generation.false in
    let meeting = meeting_is mid inside.scanner pass c.args.generation found c.requires.generation step same in
    subst (λ m. IsMet m pass) (sym meeting) refl

pub learn-gauge-requires-clause-met : goal.learn-gauge-requires-clause-met
learn-gauge-requires-clause-met c =
    let a = c.args.self.now in
    let inside = c.self.inside in
    let pass = c.args.pass in
    let at = c.args.at in
    let found = c.meet-found.result in
    let mid = c.make_room.new.self.seat in
    let step = ap (λ (v : ShardView). v.seat) c.self.view_is ∙ c.meet-found.ensures.step in
    let same = sym c.open_generation.ensures ∙ c.if-open_generation-generation.false in
    let meeting = meeting_is mid inside.scanner pass c.args.generation found c.requires.generation step same in
    subst (λ (v : ScanView). IsMet (scanner_now v).meeting pass) (sym c.learn-needs.ensures) (subst (λ m. IsMet m pass) (sym meeting) refl)

pub mark-requires-clause-may : goal.mark-requires-clause-may
mark-requires-clause-may c =
    let a = c.args.self.now in
    let inside = c.self.inside in
    let pass = c.args.pass in
    let at = c.args.at in
    let found = c.meet-found.result in
    let mid = c.make_room.new.self.seat in
    let step = ap (λ (v : ShardView). v.seat) c.self.view_is ∙ c.meet-found.ensures.step in
    let same = sym c.open_generation.ensures ∙ c.if-open_generation-generation.false in
    let meeting = meeting_is mid inside.scanner pass c.args.generation found c.requires.generation step same in
    let first = c.learn-needs.new.self in
    let second = c.learn-gauge.new.self in
    let needs = c.learn-needs.result in
    let gauge = c.learn-gauge.result in
    let learned : second ≡ scanner_did (scanner_did inside.scanner (ScannerStep.Learned 2 needs)) (ScannerStep.Learned (3 + 3 * at) gauge) =
    c.learn-gauge.ensures ∙ ap (λ (v : ScanView). scanner_did v (ScannerStep.Learned (3 + 3 * at) gauge)) c.learn-needs.ensures in
    let number = c.self.invariant.number in
    let scanners = c.self.invariant.scanners in
    let table = ap (λ (v : ScanView). v.table) step ∙ c.make_room.ensures.went.table ∙ c.requires.table in
    let there = subst (λ (t : TableView). IsPass t.shape pass) (sym table) c.requires.pass in
    let within = c.if-from-needs.false in
    let is = c.from.ensures in
    let own = c.in-Some.ensures.own in
    let mine = subst (λ (v : ScanView). IsGaugeOf v.table.shape v.scanner gauge) learned own.0 in
    let other = subst (λ (v : ScanView). gauge ≢ clock_of v.table.shape) learned own.1 in
    subst (λ (v : ScanView). MayMark v.table.shape v.scanner (scanner_now v) pass at) (sym learned)
    (may_mark (scanner_now inside.scanner) at needs gauge inside.scanner.table.shape inside.scanner.scanner pass (inl (omega (arith, number, scanners))) there
    (subst (λ m. IsMet m pass) (sym meeting) refl) c.requires.need (omega (arith, within, is)) mine other)

pub mark-requires-clause-generation : goal.mark-requires-clause-generation
mark-requires-clause-generation c =
    let a = c.args.self.now in
    let inside = c.self.inside in
    let pass = c.args.pass in
    let at = c.args.at in
    let found = c.meet-found.result in
    let mid = c.make_room.new.self.seat in
    let step = ap (λ (v : ShardView). v.seat) c.self.view_is ∙ c.meet-found.ensures.step in
    let same = sym c.open_generation.ensures ∙ c.if-open_generation-generation.false in
    let meeting = meeting_is mid inside.scanner pass c.args.generation found c.requires.generation step same in
    let first = c.learn-needs.new.self in
    let second = c.learn-gauge.new.self in
    let needs = c.learn-needs.result in
    let gauge = c.learn-gauge.result in
    let learned : second ≡ scanner_did (scanner_did inside.scanner (ScannerStep.Learned 2 needs)) (ScannerStep.Learned (3 + 3 * at) gauge) =
    c.learn-gauge.ensures ∙ ap (λ (v : ScanView). scanner_did v (ScannerStep.Learned (3 + 3 * at) gauge)) c.learn-needs.ensures in
    sym (ap (λ (v : ScanView). generation_met (scanner_now v).meeting) learned ∙ ap generation_met meeting)

pub returns-then-open_generation-generation-clause-no_duty : goal.returns-then-open_generation-generation-clause-no_duty
returns-then-open_generation-generation-clause-no_duty c none =
    subst (λ (v : ScanView). HasNoDuty (scanner_now v)) (sym c.meet-found.ensures.step) (meets_no_duty (scanner_now c.make_room.new.self.seat) c.args.pass c.meet-found.result (c.make_room.ensures.no_duty none))

pub returns-then-open_generation-generation-clause-purged : goal.returns-then-open_generation-generation-clause-purged
returns-then-open_generation-generation-clause-purged c full p there =
    let mid = c.make_room.new.self.seat in
    met_then p c.args.self.now.seat mid c.meet-found.new.self.seat (c.make_room.ensures.purged full p there) (one_step mid c.meet-found.new.self.seat (ScannerStep.Met c.args.pass c.meet-found.result) c.meet-found.ensures.step)

pub returns-then-from-needs-clause-no_duty : goal.returns-then-from-needs-clause-no_duty
returns-then-from-needs-clause-no_duty c none =
    let a = c.args.self.now in
    let inside = c.self.inside in
    let pass = c.args.pass in
    let at = c.args.at in
    let found = c.meet-found.result in
    let mid = c.make_room.new.self.seat in
    let step = ap (λ (v : ShardView). v.seat) c.self.view_is ∙ c.meet-found.ensures.step in
    let same = sym c.open_generation.ensures ∙ c.if-open_generation-generation.false in
    let meeting = meeting_is mid inside.scanner pass c.args.generation found c.requires.generation step same in
    let first = c.learn-needs.new.self in
    let second = c.learn-gauge.new.self in
    let needs = c.learn-needs.result in
    let gauge = c.learn-gauge.result in
    let learned : second ≡ scanner_did (scanner_did inside.scanner (ScannerStep.Learned 2 needs)) (ScannerStep.Learned (3 + 3 * at) gauge) =
    c.learn-gauge.ensures ∙ ap (λ (v : ScanView). scanner_did v (ScannerStep.Learned (3 + 3 * at) gauge)) c.learn-needs.ensures in
    subst (λ (v : ScanView). HasNoDuty (scanner_now v)) (sym learned)
    (subst (λ (v : ScanView). HasNoDuty (scanner_now v)) (sym step) (meets_no_duty (scanner_now mid) pass found (c.make_room.ensures.no_duty none)))

pub returns-then-from-needs-clause-purged : goal.returns-then-from-needs-clause-purged
returns-then-from-needs-clause-purged c full p there =
    let a = c.args.self.now in
    let inside = c.self.inside in
    let pass = c.args.pass in
    let at = c.args.at in
    let found = c.meet-found.result in
    let mid = c.make_room.new.self.seat in
    let step = ap (λ (v : ShardView). v.seat) c.self.view_is ∙ c.meet-found.ensures.step in
    let same = sym c.open_generation.ensures ∙ c.if-open_generation-generation.false in
    let meeting = meeting_is mid inside.scanner pass c.args.generation found c.requires.generation step same in
    let first = c.learn-needs.new.self in
    let second = c.learn-gauge.new.self in
    let needs = c.learn-needs.result in
    let gauge = c.learn-gauge.result in
    let learned : second ≡ scanner_did (scanner_did inside.scanner (ScannerStep.Learned 2 needs)) (ScannerStep.Learned (3 + 3 * at) gauge) =
    c.learn-gauge.ensures ∙ ap (λ (v : ScanView). scanner_did v (ScannerStep.Learned (3 + 3 * at) gauge)) c.learn-needs.ensures in
    met_then p a.seat mid second (c.make_room.ensures.purged full p there)
    (goes_by mid first second (ScannerStep.Learned (3 + 3 * at) gauge) (goes_by mid inside.scanner first (ScannerStep.Learned 2 needs) (one_step mid inside.scanner (ScannerStep.Met pass found) step) c.learn-needs.ensures) c.learn-gauge.ensures)

pub returns-clause-no_duty : goal.returns-clause-no_duty
returns-clause-no_duty c none =
    let a = c.args.self.now in
    let inside = c.self.inside in
    let pass = c.args.pass in
    let at = c.args.at in
    let found = c.meet-found.result in
    let mid = c.make_room.new.self.seat in
    let step = ap (λ (v : ShardView). v.seat) c.self.view_is ∙ c.meet-found.ensures.step in
    let same = sym c.open_generation.ensures ∙ c.if-open_generation-generation.false in
    let meeting = meeting_is mid inside.scanner pass c.args.generation found c.requires.generation step same in
    let first = c.learn-needs.new.self in
    let second = c.learn-gauge.new.self in
    let needs = c.learn-needs.result in
    let gauge = c.learn-gauge.result in
    let learned : second ≡ scanner_did (scanner_did inside.scanner (ScannerStep.Learned 2 needs)) (ScannerStep.Learned (3 + 3 * at) gauge) =
    c.learn-gauge.ensures ∙ ap (λ (v : ScanView). scanner_did v (ScannerStep.Learned (3 + 3 * at) gauge)) c.learn-needs.ensures in
    subst (λ (v : ScanView). HasNoDuty (scanner_now v)) (sym c.mark.ensures)
    (subst (λ (v : ScanView). HasNoDuty (scanner_now v)) (sym learned)
    (subst (λ (v : ScanView). HasNoDuty (scanner_now v)) (sym step) (meets_no_duty (scanner_now mid) pass found (c.make_room.ensures.no_duty none))))

pub returns-clause-purged : goal.returns-clause-purged
returns-clause-purged c full p there =
    let a = c.args.self.now in
    let inside = c.self.inside in
    let pass = c.args.pass in
    let at = c.args.at in
    let found = c.meet-found.result in
    let mid = c.make_room.new.self.seat in
    let step = ap (λ (v : ShardView). v.seat) c.self.view_is ∙ c.meet-found.ensures.step in
    let same = sym c.open_generation.ensures ∙ c.if-open_generation-generation.false in
    let meeting = meeting_is mid inside.scanner pass c.args.generation found c.requires.generation step same in
    let first = c.learn-needs.new.self in
    let second = c.learn-gauge.new.self in
    let needs = c.learn-needs.result in
    let gauge = c.learn-gauge.result in
    let learned : second ≡ scanner_did (scanner_did inside.scanner (ScannerStep.Learned 2 needs)) (ScannerStep.Learned (3 + 3 * at) gauge) =
    c.learn-gauge.ensures ∙ ap (λ (v : ScanView). scanner_did v (ScannerStep.Learned (3 + 3 * at) gauge)) c.learn-needs.ensures in
    met_then p a.seat mid c.mark.new.self (c.make_room.ensures.purged full p there)
    (goes_by mid second c.mark.new.self (ScannerStep.Listed pass at)
    (goes_by mid first second (ScannerStep.Learned (3 + 3 * at) gauge) (goes_by mid inside.scanner first (ScannerStep.Learned 2 needs) (one_step mid inside.scanner (ScannerStep.Met pass found) step) c.learn-needs.ensures) c.learn-gauge.ensures)
    c.mark.ensures)

pub returns-in_default-clause-no_duty : goal.returns-in_default-clause-no_duty
returns-in_default-clause-no_duty c none =
    let a = c.args.self.now in
    let inside = c.self.inside in
    let pass = c.args.pass in
    let at = c.args.at in
    let found = c.meet-found.result in
    let mid = c.make_room.new.self.seat in
    let step = ap (λ (v : ShardView). v.seat) c.self.view_is ∙ c.meet-found.ensures.step in
    let same = sym c.open_generation.ensures ∙ c.if-open_generation-generation.false in
    let meeting = meeting_is mid inside.scanner pass c.args.generation found c.requires.generation step same in
    let first = c.learn-needs.new.self in
    let second = c.learn-gauge.new.self in
    let needs = c.learn-needs.result in
    let gauge = c.learn-gauge.result in
    let learned : second ≡ scanner_did (scanner_did inside.scanner (ScannerStep.Learned 2 needs)) (ScannerStep.Learned (3 + 3 * at) gauge) =
    c.learn-gauge.ensures ∙ ap (λ (v : ScanView). scanner_did v (ScannerStep.Learned (3 + 3 * at) gauge)) c.learn-needs.ensures in
    subst (λ (v : ScanView). HasNoDuty (scanner_now v)) (sym learned)
    (subst (λ (v : ScanView). HasNoDuty (scanner_now v)) (sym step) (meets_no_duty (scanner_now mid) pass found (c.make_room.ensures.no_duty none)))

pub returns-in_default-clause-purged : goal.returns-in_default-clause-purged
returns-in_default-clause-purged c full p there =
    let a = c.args.self.now in
    let inside = c.self.inside in
    let pass = c.args.pass in
    let at = c.args.at in
    let found = c.meet-found.result in
    let mid = c.make_room.new.self.seat in
    let step = ap (λ (v : ShardView). v.seat) c.self.view_is ∙ c.meet-found.ensures.step in
    let same = sym c.open_generation.ensures ∙ c.if-open_generation-generation.false in
    let meeting = meeting_is mid inside.scanner pass c.args.generation found c.requires.generation step same in
    let first = c.learn-needs.new.self in
    let second = c.learn-gauge.new.self in
    let needs = c.learn-needs.result in
    let gauge = c.learn-gauge.result in
    let learned : second ≡ scanner_did (scanner_did inside.scanner (ScannerStep.Learned 2 needs)) (ScannerStep.Learned (3 + 3 * at) gauge) =
    c.learn-gauge.ensures ∙ ap (λ (v : ScanView). scanner_did v (ScannerStep.Learned (3 + 3 * at) gauge)) c.learn-needs.ensures in
    met_then p a.seat mid second (c.make_room.ensures.purged full p there)
    (goes_by mid first second (ScannerStep.Learned (3 + 3 * at) gauge) (goes_by mid inside.scanner first (ScannerStep.Learned 2 needs) (one_step mid inside.scanner (ScannerStep.Met pass found) step) c.learn-needs.ensures) c.learn-gauge.ensures)

pub returns-then-from-needs-clause-listed : goal.returns-then-from-needs-clause-listed
returns-then-from-needs-clause-listed c =
    let a = c.args.self.now in
    let inside = c.self.inside in
    let pass = c.args.pass in
    let at = c.args.at in
    let found = c.meet-found.result in
    let mid = c.make_room.new.self.seat in
    let step = ap (λ (v : ShardView). v.seat) c.self.view_is ∙ c.meet-found.ensures.step in
    let same = sym c.open_generation.ensures ∙ c.if-open_generation-generation.false in
    let meeting = meeting_is mid inside.scanner pass c.args.generation found c.requires.generation step same in
    let first = c.learn-needs.new.self in
    let second = c.learn-gauge.new.self in
    let needs = c.learn-needs.result in
    let gauge = c.learn-gauge.result in
    let learned : second ≡ scanner_did (scanner_did inside.scanner (ScannerStep.Learned 2 needs)) (ScannerStep.Learned (3 + 3 * at) gauge) =
    c.learn-gauge.ensures ∙ ap (λ (v : ScanView). scanner_did v (ScannerStep.Learned (3 + 3 * at) gauge)) c.learn-needs.ensures in
    let met = step ∙ ap (λ (w : Session). scanner_did mid (ScannerStep.Met pass w)) (is_open_at found c.args.generation c.requires.generation same) in
    let few = c.if-from-needs.true in
    let is = c.from.ensures in
    inr (inr (record {
      before = mid;
      needs = needs;
      gauge = gauge;
      came = c.make_room.ensures.went;
      steps = learned ∙ ap (λ (v : ScanView). scanner_did (scanner_did v (ScannerStep.Learned 2 needs)) (ScannerStep.Learned (3 + 3 * at) gauge)) met;
      need = λ n. let there = n.there in absurd (omega (arith, few, is, there));
    }))

pub returns-clause-listed : goal.returns-clause-listed
returns-clause-listed c =
    let a = c.args.self.now in
    let inside = c.self.inside in
    let pass = c.args.pass in
    let at = c.args.at in
    let found = c.meet-found.result in
    let mid = c.make_room.new.self.seat in
    let step = ap (λ (v : ShardView). v.seat) c.self.view_is ∙ c.meet-found.ensures.step in
    let same = sym c.open_generation.ensures ∙ c.if-open_generation-generation.false in
    let meeting = meeting_is mid inside.scanner pass c.args.generation found c.requires.generation step same in
    let first = c.learn-needs.new.self in
    let second = c.learn-gauge.new.self in
    let needs = c.learn-needs.result in
    let gauge = c.learn-gauge.result in
    let learned : second ≡ scanner_did (scanner_did inside.scanner (ScannerStep.Learned 2 needs)) (ScannerStep.Learned (3 + 3 * at) gauge) =
    c.learn-gauge.ensures ∙ ap (λ (v : ScanView). scanner_did v (ScannerStep.Learned (3 + 3 * at) gauge)) c.learn-needs.ensures in
    let met = step ∙ ap (λ (w : Session). scanner_did mid (ScannerStep.Met pass w)) (is_open_at found c.args.generation c.requires.generation same) in
    let within = c.if-from-needs.false in
    let is = c.from.ensures in
    let own = c.in-Some.ensures.own in
    let table = ap (λ (v : ScanView). v.table) learned ∙ ap (λ (v : ScanView). v.table) step ∙ c.make_room.ensures.went.table in
    let number = ap (λ (v : ScanView). v.scanner) learned ∙ ap (λ (v : ScanView). v.scanner) step ∙ c.make_room.ensures.went.scanner in
    inl (record {
      before = mid;
      needs = needs;
      gauge = gauge;
      came = c.make_room.ensures.went;
      steps = c.mark.ensures ∙ ap (λ (v : ScanView). scanner_did v (ScannerStep.Listed pass at))
          (learned ∙ ap (λ (v : ScanView). scanner_did (scanner_did v (ScannerStep.Learned 2 needs)) (ScannerStep.Learned (3 + 3 * at) gauge)) met);
      need = record {
        there = omega (arith, within, is);
        own = subst (λ (t : TableView). IsGaugeOf t.shape a.seat.scanner gauge) table (subst (λ k. IsGaugeOf second.table.shape k gauge) number own.0);
        no_clock = subst (λ (t : TableView). gauge ≢ clock_of t.shape) table own.1;
      };
    })

pub invariant_of-self-2 : goal.invariant_of-self-2
invariant_of-self-2 c =
    let a = c.args.self.now in
    let inside = c.self.inside in
    let pass = c.args.pass in
    let at = c.args.at in
    let found = c.meet-found.result in
    let mid = c.make_room.new.self.seat in
    let step = ap (λ (v : ShardView). v.seat) c.self.view_is ∙ c.meet-found.ensures.step in
    let same = sym c.open_generation.ensures ∙ c.if-open_generation-generation.false in
    let meeting = meeting_is mid inside.scanner pass c.args.generation found c.requires.generation step same in
    let first = c.learn-needs.new.self in
    let second = c.learn-gauge.new.self in
    let needs = c.learn-needs.result in
    let gauge = c.learn-gauge.result in
    let learned : second ≡ scanner_did (scanner_did inside.scanner (ScannerStep.Learned 2 needs)) (ScannerStep.Learned (3 + 3 * at) gauge) =
    c.learn-gauge.ensures ∙ ap (λ (v : ScanView). scanner_did v (ScannerStep.Learned (3 + 3 * at) gauge)) c.learn-needs.ensures in
    let inv = c.self.invariant in
    let own = c.in-Some.ensures.own in
    let kept = inv.kept in
    let there = c.requires.pass in
    let passes = ap (λ (v : ScanView). v.table.shape.passes) step ∙ ap (λ (t : TableView). t.shape.passes) (c.make_room.ensures.went.table ∙ c.requires.table) in
    let watches = ap (λ (v : ShardView). v.watches) c.self.view_is in
    shelf_marked inside.generations.items inside.scanner c.mark.new.self inside.shard c.list.new.self pass c.args.generation at needs gauge c.in-Some.key inv
    (c.mark.ensures ∙ ap (λ (v : ScanView). scanner_did v (ScannerStep.Listed pass at)) learned)
    c.requires.need (omega (arith, kept, there, passes)) c.requires.generation (ap generation_met meeting)
    (c.in-Some.ensures.key.0 ∙ ap (λ (v : ScanView). gauge_of_key v.scanner c.in-Some.key) learned)
    (subst (λ (v : ScanView). IsGaugeOf v.table.shape v.scanner gauge) learned own.0)
    (ap (λ (w : Watches). w.ids) c.list.ensures.rest)
    (ap keys_of c.list.ensures.rest ∙ length-set inside.shard.rows c.in-Some.key _)
    c.list.ensures.listed
    c.list.ensures.others
    (λ key n h. c.meet-found.ensures.live key n (subst (λ (w : Watches). IsListed w key pass n) watches h) ∙ same)

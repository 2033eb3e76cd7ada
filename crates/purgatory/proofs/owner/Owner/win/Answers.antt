use Rattle.std.proofs.Common.{◌≡◌, ◌∙◌, ◌+◌, ap, refl}
use Rattle.room_core.specs.declared.parts.Stage.TheVariants.{Checking}
use Rattle.room_core.specs.Meetings.{is_live}
use Rattle.room_core.specs.Packing.{unpacked}
use Rattle.room_table.specs.declared.part.CallerStep.{CallerStep}
use Rattle.room_table.specs.Seats.{CallerView, caller_now}
use Rattle.purgatory.proofs.Counted.{counts_miss, counts_win, dead}
use Rattle.purgatory.proofs.Owners.{owner_steps}
use Rattle.purgatory.proofs.owner.Owner.win.Goals as goal

pub invariant_of-self : goal.invariant_of-self
invariant_of-self c =
    let i = c.self.inside in
    let v = c.self.invariant in
    let w = c.win.ensures in
    let checking : (caller_now i.seat).stage ≡ Checking = ap (λ (s : CallerView). (caller_now s).stage) c.self.view_is ∙ c.requires.checking in
    owner_steps i.number i.generation i.wins i.taken i.generation (i.wins + 1) i.taken i.owed i.seat c.win.new.who (CallerStep.Won c.args.how (unpacked w.0)) v w.1 v.generation_is refl
    (counts_win i.wins i.taken (caller_now i.seat) v.counts checking i.seat.pass c.args.how (unpacked w.0) (w.3.0 c.if-win.true))

pub invariant_of-self-else-win : goal.invariant_of-self-else-win
invariant_of-self-else-win c =
    let i = c.self.inside in
    let v = c.self.invariant in
    let w = c.win.ensures in
    let checking : (caller_now i.seat).stage ≡ Checking = ap (λ (s : CallerView). (caller_now s).stage) c.self.view_is ∙ c.requires.checking in
    owner_steps i.number i.generation i.wins i.taken i.generation i.wins i.taken i.owed i.seat c.win.new.who (CallerStep.Won c.args.how (unpacked w.0)) v w.1 v.generation_is refl
    (counts_miss i.wins i.taken (caller_now i.seat) v.counts checking i.seat.pass c.args.how (unpacked w.0) (dead (is_live (unpacked w.0) (caller_now i.seat).generation) c.win.result w.3 c.if-win.false))

use Rattle.std.proofs.Common.{◌≢◌, ◌∙◌, ◌+◌, ap, arith, refl, sym}
use Rattle.room_core.specs.declared.parts.Session.{Session}
use Rattle.room_core.specs.declared.parts.Stage.{Stage}
use Rattle.room_core.specs.Packing.{unpacked}
use Rattle.room_table.specs.declared.part.CallerStep.{CallerStep}
use Rattle.room_table.specs.Seats.{CallerView, TableView, caller_now}
use Rattle.room_table.proofs.Laws.{session_small}
use Rattle.purgatory.proofs.Counted.{counts_idle, counts_peek}
use Rattle.purgatory.proofs.Owners.{owner_steps}
use Rattle.purgatory.proofs.Words.{won_over}
use Rattle.purgatory.proofs.owner.Owner.poll.Goals as goal

pub unpacked-requires : goal.unpacked-requires
unpacked-requires c = session_small c.peek_own-word.result c.peek_own-word.ensures.word.session

pub idle-requires-clause-may : goal.idle-requires-clause-may
idle-requires-clause-may c =
    let there = c.self.invariant.there in
    let step = c.peek_own-word.ensures.step in
    let passes = ap (λ (v : CallerView). v.table.shape.passes) c.self.view_is ∙ ap (λ (t : TableView). t.shape.passes) c.requires.table in
    let pass = ap (λ (v : CallerView). v.pass) step in
    let won = ap (λ (w : Session). w.phase) (sym c.unpacked.ensures) ∙ c.in-Won.is in
    (omega (arith, there, passes, pass), won_over c.self.inside.seat c.peek_own-word.new.caller (unpacked c.peek_own-word.result) _ _ step won)

pub invariant_of-self : goal.invariant_of-self
invariant_of-self c =
    let i = c.self.inside in
    let v = c.self.invariant in
    let found = unpacked c.peek_own-word.result in
    let busy : (caller_now i.seat).stage ≢ Stage.Idle = λ e. c.requires.busy (sym (ap (λ (s : CallerView). (caller_now s).stage) c.self.view_is) ∙ e) in
    owner_steps i.number i.generation i.wins i.taken i.generation i.wins i.taken i.owed i.seat c.peek_own-word.new.caller (CallerStep.Peeked found) v c.peek_own-word.ensures.step v.generation_is refl
    (counts_peek i.wins i.taken (caller_now i.seat) v.counts found.phase busy)

pub invariant_of-self-2 : goal.invariant_of-self-2
invariant_of-self-2 c =
    let i = c.self.inside in
    let v = c.self.invariant in
    let found = unpacked c.peek_own-word.result in
    let seen = c.peek_own-word.new.caller in
    let step = c.peek_own-word.ensures.step in
    let busy : (caller_now i.seat).stage ≢ Stage.Idle = λ e. c.requires.busy (sym (ap (λ (s : CallerView). (caller_now s).stage) c.self.view_is) ∙ e) in
    let then = owner_steps i.number i.generation i.wins i.taken i.generation i.wins i.taken i.owed i.seat seen (CallerStep.Peeked found) v step v.generation_is refl
    (counts_peek i.wins i.taken (caller_now i.seat) v.counts found.phase busy) in
    let won = ap (λ (w : Session). w.phase) (sym c.unpacked.ensures) ∙ c.in-Won.is in
    owner_steps i.number i.generation i.wins i.taken i.generation i.wins (i.taken + 1) i.owed seen c.idle.new.caller CallerStep.Idled then c.idle.ensures then.generation_is refl
    (counts_idle i.wins i.taken (caller_now seen) then.counts (won_over i.seat seen found _ _ step won))

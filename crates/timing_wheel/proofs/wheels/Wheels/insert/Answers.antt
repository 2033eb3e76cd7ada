use Rattle.std.proofs.Common.{List, Option, None, Some, set, length, ap, ◌∙◌, arith}
use Rattle.std.proofs.lemmas.List.{set-set}
use Rattle.timing_wheel.specs.declared.timer.Timer.{Timer}
use Rattle.timing_wheel.specs.Timers.{Timers, with_entry}
use Rattle.timing_wheel.proofs.Levels.{waits_when_put}
use Rattle.timing_wheel.proofs.Waiting.{AllWait-take, AllWait-put}
use Rattle.timing_wheel.proofs.wheels.Wheels.insert.Goals as goal

pub invariant_of-self : goal.invariant_of-self
invariant_of-self c = rw c.take.ensures.rest (AllWait-take c.self.inside.moment c.self.inside.entries c.args.id c.self.invariant)

pub invariant_of-self-2 : goal.invariant_of-self-2
invariant_of-self-2 c =
    let moment = c.self.inside.moment in
    let slots = c.self.inside.entries in
    let timer : Timer = record { deadline = c.args.deadline; put = moment } in
    let same_moment = ap (λ (w : Timers). w.moment) c.self.view_is in
    let same_ids = ap (λ (w : Timers). length w.slots) c.self.view_is in
    let past = c.if-deadline-self.false in
    let near = c.requires.near (omega arith) in
    let waits = waits_when_put timer (record { past = past; near = omega arith }) in
    let new = c.put.ensures ∙ ap (λ xs. set xs c.args.id (Some timer)) c.take.ensures.rest ∙ set-set slots c.args.id None (Some timer) in
    rw new (AllWait-put moment slots c.args.id timer (omega arith) waits c.self.invariant)

pub returns-clause-entry : goal.returns-clause-entry
returns-clause-entry c =
    let moment = c.self.inside.moment in
    let slots = c.self.inside.entries in
    let timer : Timer = record { deadline = c.args.deadline; put = moment } in
    let new = c.put.ensures ∙ ap (λ xs. set xs c.args.id (Some timer)) c.take.ensures.rest ∙ set-set slots c.args.id None (Some timer) in
    let view = λ (xs : List (Option Timer)). let w : Timers = record { moment = moment; slots = xs } in w in
    ap view new ∙ ap (λ (w : Timers). with_entry w c.args.id (Some (record { deadline = c.args.deadline; put = w.moment }))) c.self.view_is

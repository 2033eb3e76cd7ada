use Rattle.std.proofs.Common.{ap, ◌∙◌, arith}
use Rattle.timing_wheel.specs.Timers.{Timers, entry_of}
use Rattle.timing_wheel.proofs.Turns.{waits_past, waits_ahead}
use Rattle.timing_wheel.proofs.Waiting.{listed_waits}
use Rattle.timing_wheel.proofs.wheels.Wheels.entries_wait.Goals as goal

pub returns-clause-past : goal.returns-clause-past
returns-clause-past c = λ id e is.
    let moment = ap (λ (w : Timers). w.moment) c.self.view_is in
    let slot = ap (λ (w : Timers). entry_of w id) c.self.view_is in
    let w = waits_past c.self.inside.moment e (listed_waits c.self.inside.moment c.self.inside.entries id e c.self.invariant (slot ∙ is)) in
    omega arith

pub returns-clause-ahead : goal.returns-clause-ahead
returns-clause-ahead c = λ id e is.
    let moment = ap (λ (w : Timers). w.moment) c.self.view_is in
    let slot = ap (λ (w : Timers). entry_of w id) c.self.view_is in
    let w = waits_ahead c.self.inside.moment e (listed_waits c.self.inside.moment c.self.inside.entries id e c.self.invariant (slot ∙ is)) in
    omega arith

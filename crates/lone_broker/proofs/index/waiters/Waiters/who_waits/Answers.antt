use Rattle.std.proofs.Common.{ℕ, ◌≡◌, ◌≤◌, ◌<◌, Some, get_or, subst}
use Rattle.lone_broker.specs.index.Index.{Index, IsSuspect, WaitsFor, coming_of, generation_of, moment_of}
use Rattle.lone_broker.proofs.index.Deadlines.{coming_past}
use Rattle.lone_broker.proofs.index.waiters.Waiters.who_waits.Goals as goal

pub returns-clause-gauges : goal.returns-clause-gauges
returns-clause-gauges c =
    subst (λ (i : Index). (session gauge : ℕ) → WaitsFor i session gauge → 1 ≤ generation_of i session) c.self.view_is
    (λ session gauge h. (c.self.invariant.0.listed gauge session (get_or c.self.inside.live session 0) h).0)

pub returns-clause-coming : goal.returns-clause-coming
returns-clause-coming c =
    subst (λ (i : Index). (session deadline : ℕ) → coming_of i session ≡ Some deadline → 1 ≤ generation_of i session) c.self.view_is c.self.invariant.1.coming

pub returns-clause-past : goal.returns-clause-past
returns-clause-past c =
    subst (λ (i : Index). (session deadline : ℕ) → coming_of i session ≡ Some deadline → moment_of i < deadline) c.self.view_is
    (λ session deadline is. coming_past c.self.inside.wheels session deadline (c.entries_wait.ensures.past session) is)

pub returns-clause-suspects : goal.returns-clause-suspects
returns-clause-suspects c =
    subst (λ (i : Index). (session : ℕ) → IsSuspect i session → 1 ≤ generation_of i session) c.self.view_is c.self.invariant.1.suspected

use Rattle.std.proofs.Common.{◌↔◌, ◌≢◌, inl, ap, subst}
use Rattle.lone_broker.specs.index.Sessions.{Has}
use Rattle.lone_broker.specs.index.Index.{Index, IsSuspect, moment_of}
use Rattle.lone_broker.specs.index.Waiting.{WaitsOn}
use Rattle.lone_broker.proofs.index.Sessions.{index_of, waits_on}
use Rattle.lone_broker.proofs.index.Waits.{waiting_suspects}
use Rattle.lone_broker.proofs.index.waiters.Waiters.clear.Goals as goal

pub invariant_of-self : goal.invariant_of-self
invariant_of-self c =
    let s = c.self.inside in
    (c.self.invariant.0, waiting_suspects s.wheels s.wheels s.live s.suspects c.remove.new.self c.self.invariant.1 (λ session deadline is. is) (λ session h. inl ((c.remove.ensures session).0 h).0))

pub returns-clause-suspects : goal.returns-clause-suspects
returns-clause-suspects c = λ other.
    subst (λ (i : Index). Has c.remove.new.self other ↔ (IsSuspect i other × (other ≢ c.args.session))) c.self.view_is (c.remove.ensures other)

pub returns-clause-sessions : goal.returns-clause-sessions
returns-clause-sessions c = λ other.
    let s = c.self.inside in
    subst (λ (i : Index). WaitsOn i (index_of s.shelves s.wheels s.live s.last c.remove.new.self) other) c.self.view_is
    (waits_on s.shelves s.shelves s.wheels s.live s.last s.suspects c.remove.new.self (λ gauge id n h. h) (λ gauge id h. h) other)

pub returns-clause-moment : goal.returns-clause-moment
returns-clause-moment c = ap (λ (i : Index). moment_of i) c.self.view_is

use Rattle.std.proofs.Common.{◌↔◌, ◌⊎◌, inl, inr, ⊎_elim, get_or, ap, subst}
use Rattle.lone_broker.specs.index.Sessions.{Has}
use Rattle.lone_broker.specs.index.Index.{Index, IsSuspect, IsWatching, WaitsFor, moment_of}
use Rattle.lone_broker.specs.index.Waiting.{WaitsOn}
use Rattle.lone_broker.proofs.index.Sessions.{index_of, kept_by_fewer, waits_on}
use Rattle.lone_broker.proofs.index.Waits.{waiting_suspects}
use Rattle.lone_broker.proofs.index.waiters.Waiters.rise.Goals as goal

pub invariant_of-self : goal.invariant_of-self
invariant_of-self c =
    let s = c.self.inside in (
      kept_by_fewer s.shelves c.walk.new.shelves s.wheels s.due s.live s.last c.self.invariant.0 c.walk.ensures.fewer,
      waiting_suspects s.wheels s.wheels s.live s.suspects c.walk.new.found c.self.invariant.1 (λ session deadline is. is)
          (λ session h.
          ⊎_elim
          (λ (old : Has s.suspects session). inl old)
          (λ (waits : IsWatching s.shelves c.args.gauge session (get_or s.live session 0)). inr (c.self.invariant.0.listed c.args.gauge session (get_or s.live session 0) waits).0)
          ((c.walk.ensures.found session).0 h)),
    )

pub returns-clause-suspects : goal.returns-clause-suspects
returns-clause-suspects c = λ session.
    subst (λ (i : Index). Has c.walk.new.found session ↔ (IsSuspect i session ⊎ WaitsFor i session c.args.gauge)) c.self.view_is (c.walk.ensures.found session)

pub returns-clause-sessions : goal.returns-clause-sessions
returns-clause-sessions c = λ session.
    let s = c.self.inside in
    subst (λ (i : Index). WaitsOn i (index_of c.walk.new.shelves s.wheels s.live s.last c.walk.new.found) session) c.self.view_is
    (waits_on s.shelves c.walk.new.shelves s.wheels s.live s.last s.suspects c.walk.new.found c.walk.ensures.fewer c.walk.ensures.kept session)

pub returns-clause-moment : goal.returns-clause-moment
returns-clause-moment c = ap (λ (i : Index). moment_of i) c.self.view_is

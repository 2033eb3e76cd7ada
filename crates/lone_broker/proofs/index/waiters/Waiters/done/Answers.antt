use Rattle.std.proofs.Common.{◌≡◌, ◌↔◌, ◌≢◌, ⊎_elim, None, ap, sym, ◌∙◌, set, refl, subst, arith, false, true}
use Rattle.std.proofs.lemmas.Bool.{cases_eq}
use Rattle.timing_wheel.specs.Timers.{Timers}
use Rattle.lone_broker.specs.index.Sessions.{Has}
use Rattle.lone_broker.specs.index.Index.{Index, IsSuspect, moment_of}
use Rattle.lone_broker.specs.index.Kept.{IsIndex}
use Rattle.lone_broker.specs.index.Waiting.{WaitsNoMore, WaitsOn}
use Rattle.lone_broker.proofs.index.Sessions.{index_of, ends_waiting, others_stay, kept_when_ended}
use Rattle.lone_broker.proofs.index.Waits.{waiting_ended}
use Rattle.lone_broker.proofs.index.waiters.Waiters.done.Goals as goal

pub invariant_of-self : goal.invariant_of-self
invariant_of-self c =
    let s = c.self.inside in
    let live = c.self.invariant.0.live_each in
    let timers = c.self.invariant.0.timer_each in
    let low = c.requires in (
      subst (λ (t : Timers). IsIndex s.shelves t s.due (set s.live c.args.session 0) s.last) (sym c.remove.ensures.none)
          (kept_when_ended s.shelves s.wheels s.due s.live s.last s.suspects c.put.new.self c.args.session c.self.invariant.0 c.requires),
      waiting_ended s.wheels c.remove.new.self s.live s.suspects c.put.new.self c.args.session 0 None c.self.invariant.1 c.remove.ensures.none c.put.ensures.others (omega arith) refl
          (λ h. let is : false ≡ true = c.put.ensures.same.0 h in absurd cc),
    )

pub returns-clause-done : goal.returns-clause-done
returns-clause-done c =
    let s = c.self.inside in
    subst (λ (i : Index). WaitsNoMore i (index_of s.shelves c.remove.new.self (set s.live c.args.session 0) s.last c.put.new.self) c.args.session) c.self.view_is
    (subst (λ (t : Timers). WaitsNoMore (index_of s.shelves s.wheels s.live s.last s.suspects) (index_of s.shelves t (set s.live c.args.session 0) s.last c.put.new.self) c.args.session) (sym c.remove.ensures.none)
    (ends_waiting s.shelves s.wheels s.due s.live s.last s.suspects c.put.new.self c.args.session c.self.invariant.0 c.requires))

pub returns-clause-others : goal.returns-clause-others
returns-clause-others c = λ other differs.
    let s = c.self.inside in
    subst (λ (i : Index). WaitsOn i (index_of s.shelves c.remove.new.self (set s.live c.args.session 0) s.last c.put.new.self) other) c.self.view_is
    (subst (λ (t : Timers). WaitsOn (index_of s.shelves s.wheels s.live s.last s.suspects) (index_of s.shelves t (set s.live c.args.session 0) s.last c.put.new.self) other) (sym c.remove.ensures.none)
    (others_stay s.shelves s.wheels s.due s.live s.last s.suspects c.put.new.self c.args.session c.self.invariant.0 c.requires other differs))

pub returns-clause-suspects : goal.returns-clause-suspects
returns-clause-suspects c = λ other.
    subst (λ (i : Index). Has c.put.new.self other ↔ (IsSuspect i other × (other ≢ c.args.session))) c.self.view_is
    (⊎_elim
    (λ (same : other ≡ c.args.session). (
      (λ h. absurd (let is : false ≡ true = c.put.ensures.same.0 (subst (λ n. Has c.put.new.self n) same h) in cc)),
      (λ h. absurd (h.1 same)),
    ))
    (λ (differs : other ≢ c.args.session).
    let stays = c.put.ensures.others other differs in
    ((λ h. (stays.0 h, differs)), (λ h. stays.1 h.0)))
    (cases_eq other c.args.session))

pub returns-clause-moment : goal.returns-clause-moment
returns-clause-moment c = ap (λ (t : Timers). t.moment) c.remove.ensures.none ∙ ap (λ (i : Index). moment_of i) c.self.view_is

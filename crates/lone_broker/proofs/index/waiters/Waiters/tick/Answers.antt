use Rattle.std.proofs.Common.{◌≡◌, ◌↔◌, ◌⊎◌, ◌<◌, inl, inr, ⊎_elim, Some, ap, sym, ◌∙◌, subst}
use Rattle.std.proofs.lemmas.List.{length-map}
use Rattle.std.specs.Prelude.{Contains}
use Rattle.timing_wheel.specs.Timers.{Timers, deadline_of, ids_of}
use Rattle.timing_wheel.specs.Turn.{IsDue}
use Rattle.timing_wheel.specs.DueList.{DueList}
use Rattle.lone_broker.specs.index.Sessions.{Has}
use Rattle.lone_broker.specs.index.Index.{ComesBy, Index, IsSuspect, coming_of}
use Rattle.lone_broker.specs.index.Waiting.{WatchesOn}
use Rattle.lone_broker.proofs.index.Deadlines.{all_within, due_comes}
use Rattle.lone_broker.proofs.index.Sessions.{index_of, watches_on}
use Rattle.lone_broker.proofs.index.Waits.{waiting_suspects}
use Rattle.lone_broker.proofs.index.waiters.Waiters.tick.Goals as goal

pub insert_all-requires : goal.insert_all-requires
insert_all-requires c =
    let s = c.self.inside in
    all_within c.args.t s.wheels c.ids.result.now c.self.invariant.0.timer_each
    (λ id. subst (λ ids. Contains ids id ↔ IsDue c.args.t s.wheels id) (sym c.ids.ensures) (c.pop_due.ensures.due id))

pub invariant_of-self : goal.invariant_of-self
invariant_of-self c =
    let s = c.self.inside in
    let is = c.self.invariant.0 in (
      record {
        live_each = is.live_each;
        last_each = is.last_each;
        timer_each = ap (λ (t : Timers). ids_of t) c.pop_due.ensures.rest ∙ length-map _ _ ∙ is.timer_each;
        none_due = ap (λ (d : DueList). d.ids) c.clear.ensures;
        room = ap (λ (d : DueList). d.room) c.clear.ensures ∙ c.pop_due.ensures.room ∙ is.room;
        listed = is.listed;
      },
      waiting_suspects s.wheels c.pop_due.new.self s.live s.suspects c.insert_all.new.self c.self.invariant.1 (λ session deadline h. ((c.pop_due.ensures.others session deadline).0 h).0)
          (λ session h.
          ⊎_elim
          (λ (old : Has s.suspects session). inl old)
          (λ (new : Contains c.ids.result.now session).
          let comes = (due_comes c.args.t s.wheels session).0 ((c.pop_due.ensures.due session).0 (subst (λ ids. Contains ids session) c.ids.ensures new)) in
          inr (c.self.invariant.1.coming session comes.0 comes.1))
          ((c.insert_all.ensures session).0 h)),
    )

pub returns-clause-suspects : goal.returns-clause-suspects
returns-clause-suspects c = λ session.
    let s = c.self.inside in
    let more = c.insert_all.ensures session in
    let due = c.pop_due.ensures.due session in
    let comes = due_comes c.args.t s.wheels session in
    subst (λ (i : Index). Has c.insert_all.new.self session ↔ (IsSuspect i session ⊎ ComesBy c.args.t i session)) c.self.view_is (
      (λ (h : Has c.insert_all.new.self session).
          ⊎_elim
          (λ (old : Has s.suspects session). inl old)
          (λ (new : Contains c.ids.result.now session). inr (comes.0 (due.0 (subst (λ ids. Contains ids session) c.ids.ensures new))))
          (more.0 h)),
      (λ (h : Has s.suspects session ⊎ ComesBy c.args.t (index_of s.shelves s.wheels s.live s.last s.suspects) session).
          ⊎_elim
          (λ (old : Has s.suspects session). more.1 (inl old))
          (λ (new : ComesBy c.args.t (index_of s.shelves s.wheels s.live s.last s.suspects) session).
          more.1 (inr (subst (λ ids. Contains ids session) (sym c.ids.ensures) (due.1 (comes.1 new)))))
          h),
    )

pub returns-clause-watches : goal.returns-clause-watches
returns-clause-watches c = λ session.
    let s = c.self.inside in
    subst (λ (i : Index). WatchesOn i (index_of s.shelves c.pop_due.new.self s.live s.last c.insert_all.new.self) session) c.self.view_is
    (watches_on s.shelves s.shelves s.wheels c.pop_due.new.self s.live s.last s.suspects c.insert_all.new.self (λ gauge id n h. h) (λ gauge id h. h) session)

pub returns-clause-coming : goal.returns-clause-coming
returns-clause-coming c = λ session deadline.
    subst (λ (i : Index). (deadline_of c.pop_due.new.self session ≡ Some deadline) ↔ ((coming_of i session ≡ Some deadline) × (c.args.t < deadline))) c.self.view_is
    (c.pop_due.ensures.others session deadline)

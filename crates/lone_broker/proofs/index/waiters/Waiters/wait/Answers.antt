use Rattle.std.proofs.Common.{◌≡◌, ◌↔◌, ◌<◌, get_or, ap, sym, ◌∙◌, set, subst, arith, length-set, get_or-set_same}
use Rattle.timing_wheel.specs.Timers.{Timers}
use Rattle.lone_broker.specs.index.Sessions.{Has}
use Rattle.lone_broker.specs.index.Index.{Index, IsSuspect, last_of, moment_of}
use Rattle.lone_broker.specs.index.Waiting.{WaitsOn}
use Rattle.lone_broker.proofs.index.Deadlines.{inserted, come_unlisted}
use Rattle.lone_broker.proofs.index.Sessions.{index_of, begins_waiting, others_wait_on, kept_when_begun}
use Rattle.lone_broker.proofs.index.Waits.{waiting_begun}
use Rattle.lone_broker.proofs.index.waiters.Waiters.wait.Goals as goal

pub list_all-requires-clause-live : goal.list_all-requires-clause-live
list_all-requires-clause-live c = length-set _ _ _ ∙ c.self.invariant.0.live_each

pub list_all-requires-clause-generation : goal.list_all-requires-clause-generation
list_all-requires-clause-generation c =
    let s = c.self.inside in
    let long = c.self.invariant.0.live_each in
    let now : get_or (set s.live c.args.session c.args.generation) c.args.session 0 ≡ c.args.generation = get_or-set_same s.live c.args.session c.args.generation 0 (let low = c.requires.session in omega arith) in
    let later = c.requires.generation in
    omega arith

pub invariant_of-self : goal.invariant_of-self
invariant_of-self c =
    let s = c.self.inside in
    let low : get_or s.last c.args.session 0 < c.args.generation = let same = ap (λ (i : Index). last_of i c.args.session) c.self.view_is in let later = c.requires.generation in omega arith in
    let wheels = inserted s.wheels c.insert-is_ahead.new.self c.args.session c.deadline.result c.insert-is_ahead.result c.insert-is_ahead.ensures.listed c.insert-is_ahead.ensures.entry c.insert-is_ahead.ensures.none in
    let long = c.self.invariant.0.live_each in
    let within = c.requires.session in (
      kept_when_begun s.shelves c.list_all.new.shelves s.wheels c.insert-is_ahead.new.self s.due s.live s.last s.suspects c.put.new.self c.args.session c.args.generation c.deadline.result c.needs.result.now
          c.self.invariant.0 c.requires.session low c.list_all.ensures.listed c.list_all.ensures.within wheels,
      waiting_begun s.wheels c.insert-is_ahead.new.self s.live s.suspects c.put.new.self c.args.session c.args.generation wheels.slot c.self.invariant.1 wheels.changed c.put.ensures.others (omega arith) (omega arith),
    )

pub returns-clause-waits : goal.returns-clause-waits
returns-clause-waits c =
    let s = c.self.inside in
    let low : get_or s.last c.args.session 0 < c.args.generation = let same = ap (λ (i : Index). last_of i c.args.session) c.self.view_is in let later = c.requires.generation in omega arith in
    let wheels = inserted s.wheels c.insert-is_ahead.new.self c.args.session c.deadline.result c.insert-is_ahead.result c.insert-is_ahead.ensures.listed c.insert-is_ahead.ensures.entry c.insert-is_ahead.ensures.none in
    begins_waiting s.shelves c.list_all.new.shelves s.wheels c.insert-is_ahead.new.self s.due s.live s.last s.suspects c.put.new.self c.args.session c.args.generation c.deadline.result c.needs.result.now
    c.self.invariant.0 c.requires.session low c.list_all.ensures.listed c.list_all.ensures.within wheels c.args.op.now (sym c.needs.ensures.items) (sym c.deadline.ensures)

pub returns-clause-others : goal.returns-clause-others
returns-clause-others c = λ other differs.
    let s = c.self.inside in
    let low : get_or s.last c.args.session 0 < c.args.generation = let same = ap (λ (i : Index). last_of i c.args.session) c.self.view_is in let later = c.requires.generation in omega arith in
    let wheels = inserted s.wheels c.insert-is_ahead.new.self c.args.session c.deadline.result c.insert-is_ahead.result c.insert-is_ahead.ensures.listed c.insert-is_ahead.ensures.entry c.insert-is_ahead.ensures.none in
    subst (λ (i : Index). WaitsOn i (index_of c.list_all.new.shelves c.insert-is_ahead.new.self (set s.live c.args.session c.args.generation) (set s.last c.args.session c.args.generation) c.put.new.self) other) c.self.view_is
    (others_wait_on s.shelves c.list_all.new.shelves s.wheels c.insert-is_ahead.new.self s.due s.live s.last s.suspects c.put.new.self c.args.session c.args.generation c.deadline.result c.needs.result.now
    c.self.invariant.0 c.requires.session low c.list_all.ensures.listed c.list_all.ensures.within wheels other differs)

pub returns-clause-moment : goal.returns-clause-moment
returns-clause-moment c =
    let s = c.self.inside in
    let wheels = inserted s.wheels c.insert-is_ahead.new.self c.args.session c.deadline.result c.insert-is_ahead.result c.insert-is_ahead.ensures.listed c.insert-is_ahead.ensures.entry c.insert-is_ahead.ensures.none in
    ap (λ (t : Timers). t.moment) wheels.changed ∙ ap (λ (i : Index). moment_of i) c.self.view_is

pub returns-clause-suspect : goal.returns-clause-suspect
returns-clause-suspect c =
    let s = c.self.inside in
    let come = come_unlisted s.wheels.moment c.deadline.result c.insert-is_ahead.result c.insert-is_ahead.ensures.listed in
    let is = c.put.ensures.same in
    let moment = ap (λ (i : Index). moment_of i) c.self.view_is in
    let deadline = c.deadline.ensures in (
      (λ h. let l = come.0 (is.0 h) in omega arith),
      (λ l. is.1 (come.1 (omega arith))),
    )

pub returns-clause-suspects : goal.returns-clause-suspects
returns-clause-suspects c = λ other differs.
    subst (λ (i : Index). Has c.put.new.self other ↔ IsSuspect i other) c.self.view_is (c.put.ensures.others other differs)

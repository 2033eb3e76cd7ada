use Rattle.std.proofs.Common.{ℕ, ◌⊎◌, ⊎_elim, ap, sym, ◌∙◌, get_or}
use Rattle.lone_broker.specs.index.Sessions.{Has}
use Rattle.lone_broker.specs.index.Index.{IsWatching}
use Rattle.lone_broker.proofs.index.Watchers.{left_by_stale, passed_stay}
use Rattle.lone_broker.proofs.index.walk.walk.Goals as goal

pub loop-watch-smaller : goal.loop-watch-smaller
loop-watch-smaller c = left_by_stale c.loop-watch.shelves c.drop_stale.new.self c.args.gauge c.loop-watch.at c.in-Some.watch c.in-Some.ensures.place c.drop_stale.ensures.row

pub loop-watch-preserved : goal.loop-watch-preserved
loop-watch-preserved c =
    let before = c.loop-watch.invariant in
    let live = c.args.live.now in
    let watch = c.in-Some.watch in
    let is_stale = c.if-live-watch.false in
    record {
      fewer = λ g id generation h. before.fewer g id generation ((c.drop_stale.ensures.listed g id generation).0 h).0;
      kept = λ g id h. (c.drop_stale.ensures.listed g id (get_or live id 0)).1 (before.kept g id h, λ here same is. is_stale (ap (λ (i : ℕ). get_or live i 0) (sym same) ∙ is));
      passed = passed_stay c.loop-watch.shelves c.drop_stale.new.self live c.args.gauge c.loop-watch.found c.loop-watch.at watch before.passed is_stale c.drop_stale.ensures.row;
      more = before.more;
      only = before.only;
    }

pub returns-clause-found : goal.returns-clause-found
returns-clause-found c = λ id.
    let before = c.loop-watch.invariant in
    let n : ℕ = get_or c.args.live.now id 0 in (
      before.only id,
      (λ (h : Has c.args.found.now id ⊎ IsWatching c.args.shelves.now c.args.gauge id n).
          ⊎_elim
          (λ (old : Has c.args.found.now id). before.more id old)
          (λ (waits : IsWatching c.args.shelves.now c.args.gauge id n).
          let there = c.in_default.ensures.all id n (before.kept c.args.gauge id waits) in
          (before.passed there.0 _ there.1 there.2).0)
          h),
    )

pub returns-clause-swept : goal.returns-clause-swept
returns-clause-swept c = λ id generation h.
    let there = c.in_default.ensures.all id generation h in
    (c.loop-watch.invariant.passed there.0 _ there.1 there.2).1

use Rattle.std.proofs.Common.{◌≡◌, ◌↔◌, ◌⊎◌, inl, inr, ⊎_elim, get_or, length, subst, arith}
use Rattle.opcond.specs.declared.need.Need.{Need}
use Rattle.lone_broker.specs.index.Index.{IsWatching}
use Rattle.lone_broker.specs.index.Waiting.{Names}
use Rattle.lone_broker.proofs.index.Logic.{joined, with_both}
use Rattle.lone_broker.proofs.index.Firsts.{NamesFirst, names_more, names_all}
use Rattle.lone_broker.proofs.index.walk.list_all.Goals as goal

pub loop-i-preserved : goal.loop-i-preserved
loop-i-preserved c =
    let needs = c.args.needs.now in
    let none : Need = record { gauge = 0; start = 0; cap = 0 } in
    let before = c.loop-i.invariant in
    record {
      listed = λ gauge id. joined (before.listed gauge id) (c.list.ensures.listed gauge id) (with_both (names_more needs gauge c.loop-i.i none c.loop-i-test.true));
      within = λ gauge id generation h.
          ⊎_elim
          (λ (old : IsWatching c.loop-i.shelves gauge id generation). before.within gauge id generation old)
          (λ (new : (id ≡ c.args.session) × (generation ≡ get_or c.args.live.now c.args.session 0)). inr new)
          (c.list.ensures.within gauge id generation h);
    }

pub returns-clause-listed : goal.returns-clause-listed
returns-clause-listed c = λ gauge id.
    let needs = c.args.needs.now in
    let live = c.args.live.now in
    let test = c.loop-i-test.false in
    let end = c.loop-i.auto.i-end in
    let at : c.loop-i.i ≡ length needs = omega arith in
    let so_far = subst (λ n. IsWatching c.loop-i.shelves gauge id (get_or live id 0) ↔ (IsWatching c.args.shelves.now gauge id (get_or live id 0) ⊎ (NamesFirst n needs gauge × (id ≡ c.args.session)))) at (c.loop-i.invariant.listed gauge id) in
    let all = names_all needs gauge in (
      (λ (h : IsWatching c.loop-i.shelves gauge id (get_or live id 0)).
          ⊎_elim
          (λ (old : IsWatching c.args.shelves.now gauge id (get_or live id 0)). inl old)
          (λ (new : NamesFirst (length needs) needs gauge × (id ≡ c.args.session)). inr (all.0 new.0, new.1))
          (so_far.0 h)),
      (λ (h : IsWatching c.args.shelves.now gauge id (get_or live id 0) ⊎ (Names needs gauge × (id ≡ c.args.session))).
          ⊎_elim
          (λ (old : IsWatching c.args.shelves.now gauge id (get_or live id 0)). so_far.1 (inl old))
          (λ (new : Names needs gauge × (id ≡ c.args.session)). so_far.1 (inr (all.1 new.0, new.1)))
          h),
    )

use Rattle.std.proofs.Common.{⊎_elim, ◌∙◌, ◌<◌, ◌≤◌, arith, refl}
use Rattle.std.proofs.lemmas.Bool.{cases_lt}
use Rattle.purgatory.proofs.scans.Rows.{lower_far, lower_same}
use Rattle.purgatory.proofs.scans.Shelves.{listed_within}
use Rattle.purgatory.proofs.scans.shard_listing.drop_watchers.Goals as goal

pub loop-key-init : goal.loop-key-init
loop-key-init c = record {
  ids = refl;
  keys = c.requires.keys;
  listed = λ k i g. (λ h. (h, λ l. absurd (omega (arith, l))), λ h. h.0);
  lower = lower_same c.args.pass c.args.shard.now;
}

pub drop_from-requires : goal.drop_from-requires
drop_from-requires c =
    let keys = c.loop-key.invariant.keys in
    let ids = c.loop-key.invariant.ids in
    let pass = c.requires.pass in
    let test = c.loop-key.key in
    record { key = omega (arith, keys); pass = omega (arith, ids, pass) }

pub loop-key-preserved : goal.loop-key-preserved
loop-key-preserved c =
    let old = c.args.shard.now in
    let now = c.loop-key.shard in
    let new = c.drop_from.new.shard in
    let key = c.loop-key.key in
    let i = c.loop-key.invariant in
    record {
      ids = c.drop_from.ensures.same.0 ∙ i.ids;
      keys = c.drop_from.ensures.same.1 ∙ i.keys;
      listed = λ k p g. (
        λ h.
            let mid = (c.drop_from.ensures.others k p g).0 h in
            let was = (i.listed k p g).0 mid.0 in
            (was.0, λ l e. ⊎_elim (λ (low : k < key). was.1 low e) (λ (high : key ≤ k). mid.1 (omega (arith, l, high)) e) (cases_lt k key)),
        λ h. (c.drop_from.ensures.others k p g).1 ((i.listed k p g).1 (h.0, λ l e. h.1 (omega (arith, l)) e), λ same e. h.1 (omega (arith, same)) e),
      );
      lower = lower_far c.args.pass old now new i.lower c.drop_from.ensures.lower;
    }

pub returns-clause-listed : goal.returns-clause-listed
returns-clause-listed c = λ k p g.
    let i = c.loop-key.invariant in
    let keys = c.requires.keys in (
      λ h.
          let was = (i.listed k p g).0 h in
          let within = listed_within c.args.shard.now k p g was.0 in
          (was.0, λ e. was.1 (omega (arith, within, keys)) e),
      λ h. (i.listed k p g).1 (h.0, λ l e. h.1 e),
    )

-- The batches of all blocks before a block, one block after the other.
use Rattle.std.proofs.Common.{◌≡◌, ℕ, ◌+◌, ◌*◌, ◌/◌, ◌%◌, Bool, true, false, eqb, refl, arith}
use Rattle.std.specs.Prelude.{if◌then◌else◌}
use Rattle.std.proofs.lemmas.Bool.{eqb-true}
use Rattle.storm.specs.declared.kind.Kind.TheVariants.{AwaitedProduce, FollowerFetch, PromptProduce, ConsumerFetch}
use Rattle.storm.specs.Places.{batches_before, batches_by, kind_of}

pub one_block_more : (block : ℕ) → batches_before (block + 1) ≡ batches_before block + batches_by (kind_of block)
one_block_more block = by_tests (eqb (block % 4) 0) (eqb (block % 4) 1) (eqb (block % 4) 2) refl refl refl
  where
    by_tests : (a b c : Bool) → eqb (block % 4) 0 ≡ a → eqb (block % 4) 1 ≡ b → eqb (block % 4) 2 ≡ c
        → 2 * ((block + 1 + 1) / 2) ≡ 2 * ((block + 1) / 2) + batches_by (if a then AwaitedProduce else if b then FollowerFetch else if c then PromptProduce else ConsumerFetch)
    by_tests true b c x y z = omega (arith, eqb-true _ _ x)
    by_tests false true c x y z = omega (arith, eqb-true _ _ y)
    by_tests false false true x y z = omega (arith, eqb-true _ _ z)
    by_tests false false false x y z = let e : block % 4 ≡ 3 = grind (arith, x, y, z) in omega (arith, e)

-- Batches that follow each other: one more of them, and that they end at one place.
use Rattle.std.proofs.Common.{◌≡◌, ℕ, ◌+◌, ◌<◌, ◌≤◌, ◌^◌, ℤ, pos, negsuc, List, [], ◌∷◌, ◌++◌, length, drop, refl, sym, ap, ◌∙◌, append_assoc, append-nil, arith, length-append}
use Rattle.std.proofs.lemmas.Grind.{flat_map-append}
use Rattle.std.specs.Prelude.{FitsSigned}
use Rattle.std.specs.Int.{w64, cast_unsigned}
use Rattle.std.proofs.lemmas.List.{drop_at}
use Rattle.kbatch.specs.Kept.{count_of}
use Rattle.follower.specs.Checking.{HasReached}
use Rattle.follower.specs.Logs.{FollowOn, IsSomeBatch, base_of, joined}

pub follow_push : (from end : ℕ) (batches : List (List ℕ)) (batch : List ℕ) → FollowOn from batches end → IsSomeBatch batch → base_of batch ≡ pos end → FollowOn from (batches ++ batch ∷ []) (end + count_of batch)
follow_push from end [] batch all is base = (is, base ∙ ap pos (sym all), ap (λ (n : ℕ). n + count_of batch) all)
follow_push from end (first ∷ batches) batch all is base = (all.0, all.1, follow_push (from + count_of first) end batches batch all.2 is base)

pub joined_push : (batches : List (List ℕ)) (batch : List ℕ) → joined (batches ++ batch ∷ []) ≡ joined batches ++ batch
joined_push batches batch = flat_map-append (λ (b : List ℕ). b) batches (batch ∷ []) ∙ ap (λ (bytes : List ℕ). joined batches ++ bytes) (append-nil batch)

-- none was checked yet
pub reached_none : (from : ℕ) (records : List ℕ) → HasReached from records 0 from records
reached_none from records = record { reached = record { batches = []; each = refl; parts = refl }; count_is = refl; dense = omega arith; few = omega arith }

-- one more was checked
pub reached_on : (from : ℕ) (records : List ℕ) (count end : ℕ) (rest batch after : List ℕ) → HasReached from records count end rest → rest ≡ batch ++ after → IsSomeBatch batch → base_of batch ≡ pos end → count_of batch < length batch → 1 ≤ count_of batch
    → HasReached from records (count + 1) (end + count_of batch) after
reached_on from records count end rest batch after reached parts is base below some =
    let len : length rest ≡ length batch + length after = ap (λ (bytes : List ℕ). length bytes) parts ∙ length-append batch after in
    record {
      reached = record {
        batches = reached.reached.batches ++ batch ∷ [];
        each = follow_push from end reached.reached.batches batch reached.reached.each is base;
        parts = reached.reached.parts ∙ ap (λ (bytes : List ℕ). joined reached.reached.batches ++ bytes) parts ∙ sym (append_assoc (joined reached.reached.batches) batch after)
            ∙ ap (λ (bytes : List ℕ). bytes ++ after) (sym (joined_push reached.reached.batches batch));
      };
      count_is = omega (arith, reached.count_is, length-append reached.reached.batches (batch ∷ []));
      dense = omega (arith, len, below, reached.dense);
      few = omega (arith, len, below, some, reached.few);
    }

-- an offset that is told in 64 bits
pub small_offset : (z : ℤ) (n : ℕ) → FitsSigned w64 z → n < 2 ^ 63 → cast_unsigned w64 z ≡ n → z ≡ pos n
small_offset (pos m) n fits small is = ap pos is
small_offset (negsuc m) n fits small is = absurd (omega (arith, fits.sfits, small, is))

-- what is behind a part of bytes
pub behind_part : (rest part batch after : List ℕ) → rest ≡ batch ++ after → part ≡ batch → after ≡ drop (length part) rest
behind_part rest part batch after parts same =
    let size : length part ≡ length batch = ap (λ (bytes : List ℕ). length bytes) same in
    sym (ap (drop (length part)) parts ∙ drop_at batch after (length part) (sym size))

-- the part lies within
pub part_within : (rest part batch after : List ℕ) → rest ≡ batch ++ after → part ≡ batch → length part ≤ length rest
part_within rest part batch after parts same =
    let size : length part ≡ length batch = ap (λ (bytes : List ℕ). length bytes) same in
    let len : length rest ≡ length batch + length after = ap (λ (bytes : List ℕ). length bytes) parts ∙ length-append batch after in
    omega (arith, size, len)

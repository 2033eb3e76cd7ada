-- A copy of a log that takes some of the log's batches goes on to be a copy of it: their base offsets leave one place for them.
use Rattle.std.proofs.Common.{◌≡◌, ℕ, ◌+◌, ◌≤◌, ℤ, pos, List, [], ◌∷◌, ◌++◌, length, take, refl, sym, ap, subst, ◌∙◌, append_assoc, append-nil, arith}
use Rattle.std.proofs.lemmas.List.{take_at}
use Rattle.kbatch.proofs.Laws.{batch_count}
use Rattle.kbatch.specs.Kept.{count_of}
use Rattle.follower.specs.Copies.{Copy}
use Rattle.follower.specs.CopyOf.{IsCopyOf, IsRunOf}
use Rattle.follower.specs.Logs.{FollowOn, IsSomeBatch, base_of, joined}
use Rattle.follower.specs.Verdict.{HasTaken, IsPiece}
use Rattle.follower.proofs.Taking.{follow_append, follow_grows, joined_append}
use Rattle.follower.proofs.Verdicts.{batch_piece, same_piece, same_rows}

pub some_count : (batch : List ℕ) → IsSomeBatch batch → 1 ≤ count_of batch
some_count batch is = omega (arith, batch_count batch is.0 is.1, is.1.some_record)

-- ---- rows of batches with one beginning

heads : (x y : List ℕ) (xs ys : List (List ℕ)) → x ∷ xs ≡ y ∷ ys → x ≡ y
heads x y xs ys e = cc

tails : (x y : List ℕ) (xs ys : List (List ℕ)) → x ∷ xs ≡ y ∷ ys → xs ≡ ys
tails x y xs ys e = cc

-- two fronts of one row that end at one offset are the same
same_front : (from end : ℕ) (xs ys back rest : List (List ℕ)) → FollowOn from xs end → FollowOn from ys end → xs ++ back ≡ ys ++ rest → xs ≡ ys
same_front from end [] [] back rest p q same = refl
same_front from end [] (y ∷ ys) back rest p q same = absurd (omega (arith, p, some_count y q.0, follow_grows (from + count_of y) end ys q.2))
same_front from end (x ∷ xs) [] back rest p q same = absurd (omega (arith, q, some_count x p.0, follow_grows (from + count_of x) end xs p.2))
same_front from end (x ∷ xs) (y ∷ ys) back rest p q same =
    let first : x ≡ y = heads x y (xs ++ back) (ys ++ rest) same in
    let others : FollowOn (from + count_of x) ys end = subst (λ (b : List ℕ). FollowOn (from + count_of b) ys end) (sym first) q.2 in
    ap (λ (b : List ℕ). b ∷ xs) first ∙ ap (λ (bs : List (List ℕ)). y ∷ bs) (same_front (from + count_of x) end xs ys back rest p.2 others (tails x y (xs ++ back) (ys ++ rest) same))

-- a front and a back of batches that follow on
pub record IsSplit (from : ℕ) (xs ys : List (List ℕ)) (end : ℕ) : Type 0 where
  pub mid : ℕ
  pub front : FollowOn from xs mid
  pub back : FollowOn mid ys end

pub split : (from end : ℕ) (xs ys : List (List ℕ)) → FollowOn from (xs ++ ys) end → IsSplit from xs ys end
split from end [] ys all = record { mid = from; front = refl; back = all }
split from end (x ∷ xs) ys all =
    let rest = split (from + count_of x) end xs ys all.2 in
    record { mid = rest.mid; front = (all.0, all.1, rest.front); back = rest.back }

-- ---- batches that were taken, and batches of the log

same_pos : (n m : ℕ) → pos n ≡ pos m → n ≡ m
same_pos n m e = cc

-- where some batch was taken, both begin at one offset
same_start : (from base end last : ℕ) (x : List ℕ) (xs run : List (List ℕ)) → FollowOn from (x ∷ xs) end → FollowOn base run last → joined (x ∷ xs) ≡ joined run → from ≡ base
same_start from base end last x xs [] p q same =
    let piece : IsPiece (joined (x ∷ xs)) (length x) = batch_piece (joined (x ∷ xs)) x (joined xs) refl p.0 in
    let none : length (joined (x ∷ xs)) ≡ 0 = ap (λ (bytes : List ℕ). length bytes) same in
    absurd (omega (arith, piece.head, none))
same_start from base end last x xs (r ∷ run) p q same =
    let whole = joined (r ∷ run) in
    let one : IsPiece whole (length x) = batch_piece whole x (joined xs) (sym same) p.0 in
    let two : IsPiece whole (length r) = batch_piece whole r (joined run) refl q.0 in
    let size : length x ≡ length r = same_piece whole (length x) (length r) one two in
    let first : x ≡ r = sym (take_at x (joined xs) (length r) size) ∙ ap (take (length r)) same ∙ take_at r (joined run) (length r) refl in
    same_pos from base (sym p.1 ∙ ap base_of first ∙ q.1)

goes_on : (batches : List (List ℕ)) (last : ℕ) (copy : Copy) (end high : ℕ) (records : List ℕ) (xs : List (List ℕ)) → FollowOn 0 batches last → IsCopyOf batches copy → FollowOn copy.end xs end → records ≡ joined xs
    → IsRunOf batches records → IsCopyOf batches (record copy { log = copy.log ++ records; end = end; high = high })
goes_on batches last copy end high records [] all is taken bytes run = record {
  front = is.front;
  back = is.back;
  parts = is.parts;
  log = ap (λ (more : List ℕ). copy.log ++ more) bytes ∙ append-nil copy.log ∙ is.log;
  each = subst (FollowOn 0 is.front) taken is.each;
}
goes_on batches last copy end high records (x ∷ xs) all is taken bytes run =
    let behind = run.run ++ run.after in
    let outer = split 0 last run.before behind (subst (λ (bs : List (List ℕ)). FollowOn 0 bs last) run.parts all) in
    let inner = split outer.mid last run.run run.after outer.back in
    let same : joined (x ∷ xs) ≡ joined run.run = sym bytes ∙ run.bytes in
    let start : copy.end ≡ outer.mid = same_start copy.end outer.mid end inner.mid x xs run.run taken inner.front same in
    let front : is.front ≡ run.before =
    same_front 0 copy.end is.front run.before is.back behind is.each (subst (FollowOn 0 run.before) (sym start) outer.front) (sym is.parts ∙ run.parts) in
    let row : (x ∷ xs ≡ run.run) × (end ≡ inner.mid) =
    same_rows copy.end (x ∷ xs) end run.run inner.mid taken (subst (λ (n : ℕ). FollowOn n run.run inner.mid) (sym start) inner.front) same in
    let ended : FollowOn copy.end run.run end = subst (λ (bs : List (List ℕ)). FollowOn copy.end bs end) row.0 taken in
    record {
      front = is.front ++ run.run;
      back = run.after;
      parts = run.parts ∙ ap (λ (bs : List (List ℕ)). bs ++ behind) (sym front) ∙ sym (append_assoc is.front run.run run.after);
      log = ap (λ (log : List ℕ). log ++ records) is.log ∙ ap (λ (more : List ℕ). joined is.front ++ more) run.bytes ∙ sym (joined_append is.front run.run);
      each = follow_append 0 copy.end end is.front run.run is.each ended;
    }

pub taken_on : (batches : List (List ℕ)) (last : ℕ) (copy new : Copy) (correlation : ℤ) (body : List ℕ) (count : ℕ) → FollowOn 0 batches last → IsCopyOf batches copy → (taken : HasTaken copy correlation body count new)
    → IsRunOf batches taken.brings.told.records → IsCopyOf batches new
taken_on batches last copy new correlation body count all is taken run =
    let way = taken.reached in
    let bytes = way.parts ∙ append-nil (joined way.batches) in
    subst (IsCopyOf batches) (sym taken.new_is) (goes_on batches last copy taken.end _ taken.brings.told.records way.batches all is way.each bytes run)

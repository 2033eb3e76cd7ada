-- A copy whose bytes are the first of a log's holds the first of its batches, and the other way round.
use Rattle.std.proofs.Common.{◌≡◌, ℕ, ◌+◌, List, [], ◌∷◌, ◌++◌, length, take, refl, sym, ap, subst, ◌∙◌, append_assoc, arith, length-append}
use Rattle.std.proofs.lemmas.List.{append_cancel_left, take_at}
use Rattle.kbatch.specs.Kept.{count_of}
use Rattle.partlog.specs.Batches.{StoredBatch}
use Rattle.follower.specs.Copies.{Copy}
use Rattle.follower.specs.CopyOf.{IsCopyOf}
use Rattle.follower.specs.Logs.{FollowOn, IsLog, joined}
use Rattle.follower.specs.Verdict.{IsPiece}
use Rattle.follower.proofs.Stored.{AreStored, follow_rows, rows}
use Rattle.follower.proofs.Taking.{joined_append}
use Rattle.follower.proofs.Verdicts.{batch_piece, batch_size, same_piece}

front_rows : (from end last : ℕ) (xs ys : List (List ℕ)) (rest : List ℕ) → FollowOn from xs end → FollowOn from ys last → joined ys ≡ joined xs ++ rest → (back : List (List ℕ)) × (ys ≡ xs ++ back)
front_rows from end last [] ys rest p q same = (ys, refl)
front_rows from end last (x ∷ xs) [] rest p q same =
    let size : 0 ≡ length ((x ++ joined xs) ++ rest) = ap (λ (bytes : List ℕ). length bytes) same in
    absurd (omega (arith, size, length-append (x ++ joined xs) rest, length-append x (joined xs), batch_size x p.0))
front_rows from end last (x ∷ xs) (y ∷ ys) rest p q same =
    let whole = joined (y ∷ ys) in
    let parts : whole ≡ x ++ (joined xs ++ rest) = same ∙ append_assoc x (joined xs) rest in
    let one : IsPiece whole (length x) = batch_piece whole x (joined xs ++ rest) parts p.0 in
    let two : IsPiece whole (length y) = batch_piece whole y (joined ys) refl q.0 in
    let size : length x ≡ length y = same_piece whole (length x) (length y) one two in
    let first : x ≡ y = sym (take_at x (joined xs ++ rest) (length y) size) ∙ ap (take (length y)) (sym parts) ∙ take_at y (joined ys) (length y) refl in
    let behind : joined ys ≡ joined xs ++ rest = append_cancel_left y (joined ys) (joined xs ++ rest) (parts ∙ ap (λ (b : List ℕ). b ++ (joined xs ++ rest)) first) in
    let others : FollowOn (from + count_of x) ys last = subst (λ (b : List ℕ). FollowOn (from + count_of b) ys last) (sym first) q.2 in
    let later = front_rows (from + count_of x) end last xs ys rest p.2 others behind in
    (later.0, ap (λ (b : List ℕ). b ∷ ys) (sym first) ∙ ap (λ (bs : List (List ℕ)). x ∷ bs) later.1)

pub copy_of_prefix : (copy : Copy) (bs : List StoredBatch) (last : ℕ) (rest : List ℕ) → IsLog copy.log copy.end → AreStored 0 bs last → joined (rows bs) ≡ copy.log ++ rest → IsCopyOf (rows bs) copy
copy_of_prefix copy bs last rest is all same =
    let front = front_rows 0 copy.end last is.batches (rows bs) rest is.each (follow_rows 0 last bs all) (same ∙ ap (λ (bytes : List ℕ). bytes ++ rest) is.bytes) in
    record { front = is.batches; back = front.0; parts = front.1; log = is.bytes; each = is.each }

pub prefix_of_copy : (copy : Copy) (bs : List StoredBatch) (log : List ℕ) → IsCopyOf (rows bs) copy → joined (rows bs) ≡ log → (rest : List ℕ) × (log ≡ copy.log ++ rest)
prefix_of_copy copy bs log is whole =
    (joined is.back, sym whole ∙ ap joined is.parts ∙ joined_append is.front is.back ∙ ap (λ (bytes : List ℕ). bytes ++ joined is.back) (sym is.log))

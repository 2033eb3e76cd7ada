-- Bounds on the numbers of a history.
use Rattle.std.proofs.Common.{◌≡◌, ℕ, ◌+◌, ◌≤◌, List, [], ◌∷◌, filter, sum_by, cond, Bool, true, false, All, arith}
use Rattle.std.proofs.lemmas.List.Sums.{sum_by-cons}
use Rattle.std.proofs.lemmas.List.Elements.{All-tail}
use Rattle.partlog.specs.declared.event.PartEvent.{PartEvent}
use Rattle.partlog.specs.declared.event.PartEvent.TheVariants.{Append, Follow, Look, Shrink}
use Rattle.partlog.specs.Added.{added_count, added_bytes, log_end_of, bytes_of}
use Rattle.partlog.specs.Kept.{IsDense}

pub sum_by-filter-le : {X : Type 0} (f : X → ℕ) (p : X → Bool) (xs : List X) → sum_by f (filter p xs) ≤ sum_by f xs
sum_by-filter-le f p [] = omega arith
sum_by-filter-le f p (x ∷ xs) =
    let less : sum_by f (filter p xs) ≤ sum_by f xs = sum_by-filter-le f p xs in
    let all : sum_by f (x ∷ xs) ≡ f x + sum_by f xs = sum_by-cons f x xs in
    let kept : sum_by f (x ∷ filter p xs) ≡ f x + sum_by f (filter p xs) = sum_by-cons f x (filter p xs) in
    elim (p x) as (λ keeps. sum_by f (cond keeps (x ∷ filter p xs) (filter p xs)) ≤ sum_by f (x ∷ xs)) [ true ↦ omega arith | false ↦ omega arith ]

dense-at : (e : PartEvent) → IsDense e → added_count e ≤ added_bytes e
dense-at (Append by seq count len) dense = omega arith
dense-at (Follow by seq replica offset t) dense = omega arith
dense-at (Look by seq) dense = omega arith
dense-at (Shrink by replica t) dense = omega arith

-- no log end is above the number of bytes
pub log_end-le-bytes : (es : List PartEvent) → All IsDense es → log_end_of es ≤ bytes_of es
log_end-le-bytes [] dense = omega arith
log_end-le-bytes (e ∷ es) dense =
    let here : added_count e ≤ added_bytes e = dense-at e (dense 0 e (omega arith)) in
    let rest : log_end_of es ≤ bytes_of es = log_end-le-bytes es (All-tail IsDense e es dense) in
    let count : log_end_of (e ∷ es) ≡ added_count e + log_end_of es = sum_by-cons added_count e es in
    let bytes : bytes_of (e ∷ es) ≡ added_bytes e + bytes_of es = sum_by-cons added_bytes e es in
    omega arith

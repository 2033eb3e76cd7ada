-- Batches that follow each other in a log.
use Rattle.std.proofs.Common.{◌≡◌, ℕ, ◌+◌, ◌≤◌, List, [], ◌∷◌, ◌++◌, length, take, drop, All, arith, sym, ap, subst, ◌∙◌, refl, length-drop}
use Rattle.std.proofs.Math.Seq.{take-add}
use Rattle.std.proofs.lemmas.List.{length-take-le}
use Rattle.std.proofs.lemmas.List.Sums.{sum_by-cons, sum_by_push}
use Rattle.std.proofs.lemmas.List.Elements.{All-tail}
use Rattle.partlog.specs.declared.event.PartEvent.{PartEvent}
use Rattle.partlog.specs.declared.event.PartEvent.TheVariants.{Append, Follow, Look, Shrink}
use Rattle.partlog.specs.Added.{added_count, added_bytes, log_end_of, bytes_of}
use Rattle.partlog.specs.Batches.{batches_after}
use Rattle.partlog.specs.Kept.{IsDense}
use Rattle.partlog.specs.Taken.{joined}
pub use Rattle.partlog.specs.Rows.{IsFull, IsRising}

pub full-batches : (before es : List PartEvent) (log : List ℕ) → All IsDense es → bytes_of es ≤ length log → IsFull (batches_after before es log)
full-batches before [] log dense fits = tt
full-batches before (Append by seq count len ∷ es) log dense fits =
    let e : PartEvent = Append by seq count len in
    let here : IsDense e = dense 0 e (omega arith) in
    let total : bytes_of (e ∷ es) ≡ len + bytes_of es = sum_by-cons added_bytes e es in
    let size : length (take len log) ≡ len = length-take-le len log (omega (arith, fits, total)) in
    (omega (arith, here.0, here.1, size), full-batches (before ++ e ∷ []) es (drop len log) (All-tail IsDense e es dense) (omega (arith, fits, total, length-drop len log)))
full-batches before (Follow by seq replica offset t ∷ es) log dense fits =
    let e : PartEvent = Follow by seq replica offset t in
    full-batches (before ++ e ∷ []) es log (All-tail IsDense e es dense) (omega (arith, fits, sum_by-cons added_bytes e es))
full-batches before (Look by seq ∷ es) log dense fits =
    let e : PartEvent = Look by seq in
    full-batches (before ++ e ∷ []) es log (All-tail IsDense e es dense) (omega (arith, fits, sum_by-cons added_bytes e es))
full-batches before (Shrink by replica t ∷ es) log dense fits =
    let e : PartEvent = Shrink by replica t in
    full-batches (before ++ e ∷ []) es log (All-tail IsDense e es dense) (omega (arith, fits, sum_by-cons added_bytes e es))

pub rising-batches : (before es : List PartEvent) (log : List ℕ) → All IsDense es → IsRising (log_end_of before) (batches_after before es log)
rising-batches before [] log dense = tt
rising-batches before (Append by seq count len ∷ es) log dense =
    let e : PartEvent = Append by seq count len in
    let here : IsDense e = dense 0 e (omega arith) in
    let Rises : ℕ → Type 0 = λ base. IsRising base (batches_after (before ++ e ∷ []) es (drop len log)) in
    (refl, here.0, subst Rises (sum_by_push added_count before e) (rising-batches (before ++ e ∷ []) es (drop len log) (All-tail IsDense e es dense)))
rising-batches before (Follow by seq replica offset t ∷ es) log dense =
    let e : PartEvent = Follow by seq replica offset t in
    let Rises : ℕ → Type 0 = λ base. IsRising base (batches_after (before ++ e ∷ []) es log) in
    subst Rises (sum_by_push added_count before e ∙ omega arith) (rising-batches (before ++ e ∷ []) es log (All-tail IsDense e es dense))
rising-batches before (Look by seq ∷ es) log dense =
    let e : PartEvent = Look by seq in
    let Rises : ℕ → Type 0 = λ base. IsRising base (batches_after (before ++ e ∷ []) es log) in
    subst Rises (sum_by_push added_count before e ∙ omega arith) (rising-batches (before ++ e ∷ []) es log (All-tail IsDense e es dense))
rising-batches before (Shrink by replica t ∷ es) log dense =
    let e : PartEvent = Shrink by replica t in
    let Rises : ℕ → Type 0 = λ base. IsRising base (batches_after (before ++ e ∷ []) es log) in
    subst Rises (sum_by_push added_count before e ∙ omega arith) (rising-batches (before ++ e ∷ []) es log (All-tail IsDense e es dense))

-- together they are what the log has of them
pub joined-batches : (before es : List PartEvent) (log : List ℕ) → joined (batches_after before es log) ≡ take (bytes_of es) log
joined-batches before [] log = refl
joined-batches before (Append by seq count len ∷ es) log =
    let e : PartEvent = Append by seq count len in
    ap (λ l. take len log ++ l) (joined-batches (before ++ e ∷ []) es (drop len log)) ∙ sym (take-add len (bytes_of es) log) ∙ ap (λ n. take n log) (sym (sum_by-cons added_bytes e es))
joined-batches before (Follow by seq replica offset t ∷ es) log =
    let e : PartEvent = Follow by seq replica offset t in
    joined-batches (before ++ e ∷ []) es log ∙ ap (λ n. take n log) (omega (arith, sum_by-cons added_bytes e es))
joined-batches before (Look by seq ∷ es) log =
    let e : PartEvent = Look by seq in
    joined-batches (before ++ e ∷ []) es log ∙ ap (λ n. take n log) (omega (arith, sum_by-cons added_bytes e es))
joined-batches before (Shrink by replica t ∷ es) log =
    let e : PartEvent = Shrink by replica t in
    joined-batches (before ++ e ∷ []) es log ∙ ap (λ n. take n log) (omega (arith, sum_by-cons added_bytes e es))

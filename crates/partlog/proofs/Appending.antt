-- What the batches of a history become as it goes on.
use Rattle.std.proofs.Common.{◌≡◌, ℕ, ◌+◌, ◌≤◌, List, [], ◌∷◌, ◌++◌, length, take, drop, sym, ap, ◌∙◌, refl, arith, append_assoc, append-nil, length-drop}
use Rattle.std.proofs.lemmas.List.{drop-drop, length-take-le}
use Rattle.std.proofs.lemmas.List.Sums.{sum_by-cons}
use Rattle.partlog.specs.declared.event.PartEvent.{PartEvent}
use Rattle.partlog.specs.declared.event.PartEvent.TheVariants.{Append, Follow, Look, Shrink}
use Rattle.partlog.specs.Added.{added_bytes, log_end_of, bytes_of}
use Rattle.partlog.specs.Batches.{StoredBatch, batches_after}
use Rattle.partlog.specs.Gauges.{bytes_in}

rest_same : (before es fs : List PartEvent) (e : PartEvent) (log : List ℕ) → batches_after ((before ++ e ∷ []) ++ es) fs (drop (bytes_of es) (drop (added_bytes e) log)) ≡ batches_after (before ++ e ∷ es) fs (drop (bytes_of (e ∷ es)) log)
rest_same before es fs e log =
    ap (λ b. batches_after b fs (drop (bytes_of es) (drop (added_bytes e) log))) (append_assoc before (e ∷ []) es)
    ∙ ap (λ l. batches_after (before ++ e ∷ es) fs l) (drop-drop (bytes_of es) (added_bytes e) log ∙ ap (λ n. drop n log) (sym (sum_by-cons added_bytes e es)))

pub batches-append : (before es fs : List PartEvent) (log : List ℕ) → batches_after before (es ++ fs) log ≡ batches_after before es log ++ batches_after (before ++ es) fs (drop (bytes_of es) log)
batches-append before [] fs log = ap (λ b. batches_after b fs log) (sym (append-nil before))
batches-append before (Append by seq count len ∷ es) fs log =
    let e : PartEvent = Append by seq count len in
    let now : StoredBatch = record { base = log_end_of before; count = count; bytes = take len log } in
    ap (λ bs. now ∷ bs) (batches-append (before ++ e ∷ []) es fs (drop len log) ∙ ap (λ bs. batches_after (before ++ e ∷ []) es (drop len log) ++ bs) (rest_same before es fs e log))
batches-append before (Follow by seq replica offset t ∷ es) fs log =
    let e : PartEvent = Follow by seq replica offset t in
    batches-append (before ++ e ∷ []) es fs log ∙ ap (λ bs. batches_after (before ++ e ∷ []) es log ++ bs) (rest_same before es fs e log)
batches-append before (Look by seq ∷ es) fs log =
    let e : PartEvent = Look by seq in
    batches-append (before ++ e ∷ []) es fs log ∙ ap (λ bs. batches_after (before ++ e ∷ []) es log ++ bs) (rest_same before es fs e log)
batches-append before (Shrink by replica t ∷ es) fs log =
    let e : PartEvent = Shrink by replica t in
    batches-append (before ++ e ∷ []) es fs log ∙ ap (λ bs. batches_after (before ++ e ∷ []) es log ++ bs) (rest_same before es fs e log)

one_plus : (a b c d : ℕ) → a ≡ c → b ≡ d → a + b ≡ c + d
one_plus a b c d p q = omega arith

-- all batches have the bytes that the entries added
pub bytes_in-batches : (before es : List PartEvent) (log : List ℕ) → bytes_of es ≤ length log → bytes_in (batches_after before es log) ≡ bytes_of es
bytes_in-batches before [] log fits = refl
bytes_in-batches before (Append by seq count len ∷ es) log fits =
    let e : PartEvent = Append by seq count len in
    let more : List StoredBatch = batches_after (before ++ e ∷ []) es (drop len log) in
    let now : StoredBatch = record { base = log_end_of before; count = count; bytes = take len log } in
    let total : bytes_of (e ∷ es) ≡ len + bytes_of es = sum_by-cons added_bytes e es in
    sum_by-cons (λ b. length b.bytes) now more ∙ one_plus (length (take len log)) (bytes_in more) len (bytes_of es) (length-take-le len log (omega (arith, fits, total))) (bytes_in-batches (before ++ e ∷ []) es (drop len log) (omega (arith, fits, total, length-drop len log))) ∙ sym total
bytes_in-batches before (Follow by seq replica offset t ∷ es) log fits = bytes_in-batches (before ++ Follow by seq replica offset t ∷ []) es log fits
bytes_in-batches before (Look by seq ∷ es) log fits = bytes_in-batches (before ++ Look by seq ∷ []) es log fits
bytes_in-batches before (Shrink by replica t ∷ es) log fits = bytes_in-batches (before ++ Shrink by replica t ∷ []) es log fits

-- What a replica may read of a log, and the bytes of what is taken of it.
use Rattle.std.proofs.Common.{◌≡◌, ℕ, ◌<◌, ℤ, pos, negsuc, Bool, true, false, cond, not, ltb, List, [], ◌∷◌, length, take, filter, length-append, refl, sym, ap, ◌∙◌, arith}
use Rattle.std.proofs.lemmas.Bool.{lt-ltb}
use Rattle.std.specs.Prelude.{if◌then◌else◌}
use Rattle.partlog.specs.Batches.{StoredBatch}
use Rattle.partlog.specs.State.{PartState}
use Rattle.partlog.specs.Gauges.{gauges_of}
use Rattle.partlog.specs.Readable.{IsReadable}
use Rattle.partlog.specs.Taken.{batches_past, batches_upto, fitting, taken, joined}
use Rattle.partlog.proofs.Laws.{IsFull, full-past, full-fitting}
use Rattle.kwire.specs.declared.request.FetchPart.{FetchPart}
use Rattle.kanswer.specs.declared.accepted.Budget.{Budget}
use Rattle.kanswer.specs.Waiting.{is_consumer}
use Rattle.kanswer.specs.Answer.{is_readable, read_of}

filter_none : {X : Type 0} (xs : List X) → filter (λ _. true) xs ≡ xs
filter_none [] = refl
filter_none (x ∷ xs) = ap (λ (ys : List _). x ∷ ys) (filter_none xs)

-- up to the visible bytes or the end bytes, as the replica may
pub replica_reads : (replica : ℤ) (start : ℕ) (state : PartState) → IsReadable state.batches state
    → batches_past start (batches_upto (if is_consumer replica then (gauges_of state).visible else (gauges_of state).bytes) state.batches) ≡ filter (is_readable replica state) (batches_past start state.batches)
replica_reads (pos n) start state readable = readable.all start ∙ sym (filter_none (batches_past start state.batches))
replica_reads (negsuc n) start state readable = readable.visible start

pub not_not : (b : Bool) → not (not b) ≡ b
not_not true = refl
not_not false = refl

full_filter : (p : StoredBatch → Bool) (bs : List StoredBatch) → IsFull bs → IsFull (filter p bs)
full_filter p [] full = tt
full_filter p (b ∷ bs) full =
    let rest = full_filter p bs full.1 in
    elim (p b) as (λ keeps. IsFull (cond keeps (b ∷ filter p bs) (filter p bs))) [ true ↦ (full.0, rest) | false ↦ rest ]

full_first : (bs : List StoredBatch) → IsFull bs → IsFull (take 1 bs)
full_first [] full = tt
full_first (b ∷ bs) full = (full.0, tt)

full_taken : (limit : ℕ) (any : Bool) (bs : List StoredBatch) → IsFull bs → IsFull (taken limit any bs)
full_taken limit true bs full = full-fitting limit bs full
full_taken limit false bs full =
    elim (ltb 0 (length (fitting limit bs))) as (λ some. IsFull (cond some (fitting limit bs) (take 1 bs))) [ true ↦ full-fitting limit bs full | false ↦ full_first bs full ]

pub full_read : (replica : ℤ) (asked : FetchPart) (start : ℕ) (state : PartState) (budget : Budget) → IsFull state.batches → IsFull (read_of replica asked start state budget)
full_read replica asked start state budget full =
    full_taken _ budget.any (filter (is_readable replica state) (batches_past start state.batches)) (full_filter (is_readable replica state) (batches_past start state.batches) (full-past start state.batches full))

some_joined : (b : StoredBatch) (bs : List StoredBatch) → 0 < length b.bytes → 0 < length (joined (b ∷ bs))
some_joined b bs some = omega (arith, length-append b.bytes (joined bs))

-- some bytes are there exactly where some batch is
pub some_bytes : (bs : List StoredBatch) → IsFull bs → ltb 0 (length (joined bs)) ≡ ltb 0 (length bs)
some_bytes [] full = refl
some_bytes (b ∷ bs) full =
    lt-ltb 0 (length (joined (b ∷ bs))) (some_joined b bs full.0) ∙ sym (lt-ltb 0 (length (b ∷ bs)) (omega arith))

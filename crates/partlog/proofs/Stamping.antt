-- A batch that is put at the end of a log, and stamped where it stands.
use Rattle.std.proofs.Common.{◌≡◌, ℕ, ◌+◌, ◌-◌, ◌≤◌, ◌<◌, List, [], ◌∷◌, ◌++◌, length, take, drop, refl, sym, ap, ◌∙◌, arith, append-nil, length-append}
use Rattle.std.proofs.Math.Seq.{take-append_seam, drop-append_seam, take-length}
use Rattle.std.proofs.lemmas.List.Sums.{sum_by_push}
use Rattle.std.proofs.lemmas.List.Elements.{All-push}
use Rattle.partlog.specs.declared.event.PartEvent.{PartEvent}
use Rattle.partlog.specs.declared.event.PartEvent.TheVariants.{Append}
use Rattle.partlog.specs.Added.{added_bytes, bytes_of}
use Rattle.partlog.specs.Kept.{IsDense, IsKept}

-- what stands in the log once the lent part was written
pub relaid : (log bytes ext all w post : List ℕ) (start : ℕ) → ext ≡ log ++ bytes → all ≡ ext → start ≡ length log → length w ≡ length bytes → length post ≡ 0 → take (length ext) ((take start all ++ (w ++ post)) ++ drop (length (take start all ++ (w ++ post))) ext) ≡ log ++ w
relaid log bytes ext all w post start is lent from size none =
    let front : take start all ≡ log = ap (λ n. take n all) from ∙ ap (take (length log)) (lent ∙ is) ∙ take-append_seam log bytes in
    let back : w ++ post ≡ w = ap (λ l. w ++ l) (nothing post none) ∙ append-nil w in
    let whole : take start all ++ (w ++ post) ≡ log ++ w = ap (λ l. l ++ (w ++ post)) front ∙ ap (λ l. log ++ l) back in
    let same : length ext ≡ length (log ++ w) = ap length is ∙ length-append log bytes ∙ ap (λ n. length log + n) (sym size) ∙ sym (length-append log w) in
    ap (λ l. take (length ext) (l ++ drop (length l) ext)) whole ∙ ap (λ n. take n ((log ++ w) ++ drop (length (log ++ w)) ext)) same ∙ take-append_seam (log ++ w) (drop (length (log ++ w)) ext)
  where
    nothing : (l : List ℕ) → length l ≡ 0 → l ≡ []
    nothing [] e = refl
    nothing (x ∷ l) e = absurd (omega arith)

-- one more batch
pub kept-push : (log w : List ℕ) (events : List PartEvent) (by seq count len : ℕ) → IsKept log events → 0 < count → count < len → length w ≡ len → length log + len ≤ 67108864 → IsKept (log ++ w) (events ++ Append by seq count len ∷ [])
kept-push log w events by seq count len kept some dense size room =
    let e : PartEvent = Append by seq count len in
    let total : bytes_of (events ++ e ∷ []) ≡ bytes_of events + len = sum_by_push added_bytes events e in
    let long : length (log ++ w) ≡ length log + length w = length-append log w in
    record {
      whole = omega (arith, total, long, size, kept.whole);
      bounded = omega (arith, long, size, room);
      dense = All-push IsDense events e kept.dense (some, dense);
    }

-- an entry that adds nothing
pub kept-none : (log : List ℕ) (events : List PartEvent) (e : PartEvent) → added_bytes e ≡ 0 → IsDense e → IsKept log events → IsKept log (events ++ e ∷ [])
kept-none log events e nothing dense kept = record {
  whole = sum_by_push added_bytes events e ∙ omega (arith, nothing, kept.whole);
  bounded = kept.bounded;
  dense = All-push IsDense events e kept.dense dense;
}

-- the part that is lent for it is what was put there
pub lent_part : (log bytes ext all : List ℕ) (start : ℕ) → ext ≡ log ++ bytes → all ≡ ext → start ≡ length log → take (length all - start) (drop start all) ≡ bytes
lent_part log bytes ext all start is lent from =
    let rest : drop start all ≡ bytes = ap (λ n. drop n all) from ∙ ap (drop (length log)) (lent ∙ is) ∙ drop-append_seam log bytes in
    let size : length all - start ≡ length bytes = omega (arith, ap length lent, ap length is, length-append log bytes, from) in
    ap (λ l. take (length all - start) l) rest ∙ ap (λ n. take n bytes) size ∙ take-length bytes

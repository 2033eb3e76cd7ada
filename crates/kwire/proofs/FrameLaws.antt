-- A whole frame at the front of a stream, both ways.
use Rattle.std.proofs.Common.{◌≡◌, ℕ, ◌+◌, ◌-◌, ◌≤◌, false, cond, ltb, ℤ, pos, negsuc, List, ◌++◌, length, take, drop, refl, sym, ap, subst, ◌∙◌, append_assoc, arith, inl, inr}
use Rattle.std.specs.Prelude.{FitsSigned}
use Rattle.std.specs.Int.{w32, from_be_bytes, cast_signed, cast_unsigned}
use Rattle.std.proofs.lemmas.Bool.{cases_lt, lt-ltb, le-ltb}
use Rattle.std.proofs.lemmas.Int.{to_z-of_z}
use Rattle.std.proofs.lemmas.List.{length-take, length-drop, length-append, take_at, drop-drop, take-append-drop}
use Rattle.std.proofs.Math.Facts.{Fits-of_z}
use Rattle.kbytes.specs.Field.{integer}
use Rattle.kbytes.specs.Octets.{IsBytes}
use Rattle.kbytes.proofs.Laws.{IsBytes-take, wide_32, integer_back}
use Rattle.kwire.specs.declared.frame.Frame.TheVariants.{Whole, NotYet, TooLong}
use Rattle.kwire.specs.Frames.{framed, IsFrameBody, frame_of_size, next_frame_of}
use Rattle.kwire.specs.declared.framing.TheConstants.{MOST_FRAME_BYTES}

-- the frame of a body stands at the front
pub whole_frame : (body rest : List ℕ) → IsFrameBody body → next_frame_of (framed body ++ rest) ≡ Whole (4 + length body)
whole_frame body rest small =
    let n = length body in
    let head = integer w32 (pos n) in
    let stream = framed body ++ rest in
    let fits : FitsSigned w32 (pos n) = record { sfits = omega arith } in
    let len : length head ≡ 4 = wide_32.len n in
    let parts : stream ≡ head ++ (body ++ rest) = append_assoc head body rest in
    let all : length stream ≡ 4 + (n + length rest) = ap length parts ∙ length-append head (body ++ rest) ∙ omega (arith, len, length-append body rest) in
    let enough : ltb (length stream) 4 ≡ false = le-ltb (length stream) 4 (omega (arith, all)) in
    let front : take 4 stream ≡ head = ap (take 4) parts ∙ take_at head (body ++ rest) 4 len in
    let size : cast_signed w32 (from_be_bytes w32 (take 4 stream)) ≡ pos n =
    ap (λ (t : List ℕ). cast_signed w32 (from_be_bytes w32 t)) front ∙ ap (cast_signed w32) (wide_32.again (cast_unsigned w32 (pos n)) (Fits-of_z fits).fits) ∙ to_z-of_z w32 (pos n) fits in
    let allowed : ltb MOST_FRAME_BYTES n ≡ false = le-ltb MOST_FRAME_BYTES n small in
    let there : ltb (length stream) (4 + n) ≡ false = le-ltb (length stream) (4 + n) (omega (arith, all)) in
    let by_size : next_frame_of stream ≡ frame_of_size (length stream) (pos n) = rw enough (ap (frame_of_size (length stream)) size) in
    by_size ∙ rw (allowed, there) refl

-- the parts of a stream that begins with a whole frame
pub record IsParted (stream : List ℕ) (end : ℕ) : Type 0 where
  pub ends : end ≡ 4 + length (take (end - 4) (drop 4 stream))
  pub within : end ≤ length stream
  pub small : IsFrameBody (take (end - 4) (drop 4 stream))
  pub parts : stream ≡ framed (take (end - 4) (drop 4 stream)) ++ drop end stream

same_end : (m end : ℕ) → Whole m ≡ Whole end → m ≡ end
same_end m end e = cc

parted_at : (stream : List ℕ) (n : ℕ) → IsBytes stream → 4 + n ≤ length stream → n ≤ MOST_FRAME_BYTES → cast_signed w32 (from_be_bytes w32 (take 4 stream)) ≡ pos n → IsParted stream (4 + n)
parted_at stream n fits within small size =
    let body = take n (drop 4 stream) in
    let same : 4 + n - 4 ≡ n = omega arith in
    let len : length body ≡ n = omega (arith, length-take n (drop 4 stream), length-drop 4 stream) in
    let four : length (take 4 stream) ≡ 4 = omega (arith, length-take 4 stream) in
    let head : integer w32 (pos n) ≡ take 4 stream = ap (integer w32) (sym size) ∙ integer_back w32 wide_32 (take 4 stream) four (IsBytes-take 4 stream fits) in
    let front : framed body ≡ take 4 stream ++ body = ap (λ (k : ℕ). integer w32 (pos k) ++ body) len ∙ ap (λ (t : List ℕ). t ++ body) head in
    let back : drop 4 stream ≡ body ++ drop (4 + n) stream = sym (take-append-drop n (drop 4 stream)) ∙ ap (λ (t : List ℕ). body ++ t) (drop-drop n 4 stream) in
    let whole : stream ≡ framed body ++ drop (4 + n) stream =
    sym (take-append-drop 4 stream) ∙ ap (λ (t : List ℕ). take 4 stream ++ t) back ∙ sym (append_assoc (take 4 stream) body (drop (4 + n) stream)) ∙ ap (λ (t : List ℕ). t ++ drop (4 + n) stream) (sym front) in
    let made : (k : ℕ) → k ≡ n → ((4 + n ≡ 4 + length (take k (drop 4 stream))) × (IsFrameBody (take k (drop 4 stream)) × (stream ≡ framed (take k (drop 4 stream)) ++ drop (4 + n) stream))) =
    λ k e. subst (λ (j : ℕ). ((4 + n ≡ 4 + length (take j (drop 4 stream))) × (IsFrameBody (take j (drop 4 stream)) × (stream ≡ framed (take j (drop 4 stream)) ++ drop (4 + n) stream)))) (sym e) (omega (arith, len), (omega (arith, len), whole)) in
    let got = made (4 + n - 4) same in
    record { ends = got.0; within = within; small = got.1.0; parts = got.1.1 }

by_bounds : (stream : List ℕ) (n end : ℕ) → IsBytes stream → cast_signed w32 (from_be_bytes w32 (take 4 stream)) ≡ pos n → frame_of_size (length stream) (pos n) ≡ Whole end → IsParted stream end
by_bounds stream n end fits size is =
    elim (cases_lt MOST_FRAME_BYTES n) [
      | inl large ↦ let other : TooLong (pos n) ≡ Whole end = rw (lt-ltb MOST_FRAME_BYTES n large) at is in absurd cc
      | inr small ↦
          let here : cond (ltb (length stream) (4 + n)) NotYet (Whole (4 + n)) ≡ Whole end = rw (le-ltb MOST_FRAME_BYTES n small) at is in
          elim (cases_lt (length stream) (4 + n)) [
            | inl few ↦ let other : NotYet ≡ Whole end = rw (lt-ltb (length stream) (4 + n) few) at here in absurd cc
            | inr enough ↦
                let same : Whole (4 + n) ≡ Whole end = rw (le-ltb (length stream) (4 + n) enough) at here in
                subst (IsParted stream) (same_end (4 + n) end same) (parted_at stream n fits enough small size)
          ]
    ]

by_size : (stream : List ℕ) (z : ℤ) (end : ℕ) → IsBytes stream → cast_signed w32 (from_be_bytes w32 (take 4 stream)) ≡ z → frame_of_size (length stream) z ≡ Whole end → IsParted stream end
by_size stream (pos n) end fits size is = by_bounds stream n end fits size is
by_size stream (negsuc n) end fits size is = let other : TooLong (negsuc n) ≡ Whole end = is in absurd cc

-- a whole frame at the front is the frame of the bytes after its size
pub whole_parts : (stream : List ℕ) (end : ℕ) → IsBytes stream → next_frame_of stream ≡ Whole end → IsParted stream end
whole_parts stream end fits is =
    elim (cases_lt (length stream) 4) [
      | inl few ↦ let other : NotYet ≡ Whole end = rw (lt-ltb (length stream) 4 few) at is in absurd cc
      | inr enough ↦ by_size stream (cast_signed w32 (from_be_bytes w32 (take 4 stream))) end fits refl (rw (le-ltb (length stream) 4 enough) at is)
    ]

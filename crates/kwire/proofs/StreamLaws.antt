-- Streams that are whole frames, one after the other: what stands at the front of them, or of as much of them as came.
use Rattle.std.proofs.Common.{◌≡◌, ◌≢◌, ℕ, ◌+◌, ◌-◌, ◌≤◌, true, false, cond, ltb, ℤ, pos, negsuc, List, [], ◌∷◌, ◌++◌, length, take, drop, refl, sym, ap, ◌∙◌, append_assoc, arith, inl, inr, length-append}
use Rattle.std.specs.Int.{w32, from_be_bytes, cast_signed}
use Rattle.std.specs.List.{flat_map, AllByRecursion}
use Rattle.std.proofs.lemmas.Bool.{cases_lt, lt-ltb, le-ltb}
use Rattle.std.proofs.lemmas.List.{take-append-le, drop-append-le, take_at, drop_at, length-drop, length-take}
use Rattle.kbytes.specs.Field.{integer}
use Rattle.kbytes.proofs.Laws.{wide_32}
use Rattle.kwire.specs.declared.frame.Frame.{Frame}
use Rattle.kwire.specs.declared.frame.Frame.TheVariants.{Whole, NotYet, TooLong}
use Rattle.kwire.specs.Frames.{framed, IsFrameBody, frame_of_size, next_frame_of}
use Rattle.kwire.proofs.FrameLaws.{whole_frame}
use Rattle.kwire.specs.declared.framing.TheConstants.{MOST_FRAME_BYTES}

-- ---- more bytes change nothing of what shows

size_kept : (few many : ℕ) (size : ℤ) (frame : Frame) → few ≤ many → frame ≢ NotYet → frame_of_size few size ≡ frame → frame_of_size many size ≡ frame
size_kept few many (negsuc n) frame le shows e = e
size_kept few many (pos n) frame le shows e =
    elim (cases_lt MOST_FRAME_BYTES n) [
      | inl large ↦
          let far : ltb MOST_FRAME_BYTES n ≡ true = lt-ltb MOST_FRAME_BYTES n large in
          let this : TooLong (pos n) ≡ frame = rw far at e in
          rw far this
      | inr small ↦
          let near : ltb MOST_FRAME_BYTES n ≡ false = le-ltb MOST_FRAME_BYTES n small in
          let this : cond (ltb few (4 + n)) NotYet (Whole (4 + n)) ≡ frame = rw near at e in
          elim (cases_lt few (4 + n)) [
            | inl short ↦ let other : NotYet ≡ frame = rw (lt-ltb few (4 + n) short) at this in absurd (shows (sym other))
            | inr enough ↦
                let whole : Whole (4 + n) ≡ frame = rw (le-ltb few (4 + n) enough) at this in
                let there : ltb many (4 + n) ≡ false = le-ltb many (4 + n) (omega (arith, le, enough)) in
                rw near (rw there whole)
          ]
    ]

pub frame_kept : (inbox later : List ℕ) (frame : Frame) → frame ≢ NotYet → next_frame_of inbox ≡ frame → next_frame_of (inbox ++ later) ≡ frame
frame_kept inbox later frame shows e =
    elim (cases_lt (length inbox) 4) [
      | inl few ↦ let other : NotYet ≡ frame = rw (lt-ltb (length inbox) 4 few) at e in absurd (shows (sym other))
      | inr enough ↦
          let size : ℤ = cast_signed w32 (from_be_bytes w32 (take 4 inbox)) in
          let here : frame_of_size (length inbox) size ≡ frame = rw (le-ltb (length inbox) 4 enough) at e in
          let more : length inbox ≤ length (inbox ++ later) = omega (arith, length-append inbox later) in
          let front : take 4 (inbox ++ later) ≡ take 4 inbox = take-append-le 4 inbox later enough in
          let there : ltb (length (inbox ++ later)) 4 ≡ false = le-ltb (length (inbox ++ later)) 4 (omega (arith, more, enough)) in
          let same : frame_of_size (length (inbox ++ later)) (cast_signed w32 (from_be_bytes w32 (take 4 (inbox ++ later)))) ≡ frame =
          ap (λ (t : List ℕ). frame_of_size (length (inbox ++ later)) (cast_signed w32 (from_be_bytes w32 t))) front ∙ size_kept (length inbox) (length (inbox ++ later)) size frame more shows here in
          rw there same
    ]

-- ---- a whole frame within its bytes

size_within : (available : ℕ) (size : ℤ) (end : ℕ) → frame_of_size available size ≡ Whole end → end ≤ available
size_within available (negsuc n) end e = absurd cc
size_within available (pos n) end e =
    elim (cases_lt MOST_FRAME_BYTES n) [
      | inl large ↦ let other : TooLong (pos n) ≡ Whole end = rw (lt-ltb MOST_FRAME_BYTES n large) at e in absurd cc
      | inr small ↦
          let this : cond (ltb available (4 + n)) NotYet (Whole (4 + n)) ≡ Whole end = rw (le-ltb MOST_FRAME_BYTES n small) at e in
          elim (cases_lt available (4 + n)) [
            | inl short ↦ let other : NotYet ≡ Whole end = rw (lt-ltb available (4 + n) short) at this in absurd cc
            | inr enough ↦
                let whole : Whole (4 + n) ≡ Whole end = rw (le-ltb available (4 + n) enough) at this in
                omega (arith, enough, same_end (4 + n) end whole)
          ]
    ]
  where
    same_end : (m end : ℕ) → Whole m ≡ Whole end → m ≡ end
    same_end m end e = cc

pub whole_within : (stream : List ℕ) (end : ℕ) → next_frame_of stream ≡ Whole end → end ≤ length stream
whole_within stream end e =
    elim (cases_lt (length stream) 4) [
      | inl few ↦ let other : NotYet ≡ Whole end = rw (lt-ltb (length stream) 4 few) at e in absurd cc
      | inr enough ↦ size_within (length stream) (cast_signed w32 (from_be_bytes w32 (take 4 stream))) end (rw (le-ltb (length stream) 4 enough) at e)
    ]

size_before : (available : ℕ) (size : ℤ) (end : ℕ) → frame_of_size available size ≡ Whole end → 4 ≤ end
size_before available (negsuc n) end e = absurd cc
size_before available (pos n) end e =
    elim (cases_lt MOST_FRAME_BYTES n) [
      | inl large ↦ let other : TooLong (pos n) ≡ Whole end = rw (lt-ltb MOST_FRAME_BYTES n large) at e in absurd cc
      | inr small ↦
          let this : cond (ltb available (4 + n)) NotYet (Whole (4 + n)) ≡ Whole end = rw (le-ltb MOST_FRAME_BYTES n small) at e in
          elim (cases_lt available (4 + n)) [
            | inl short ↦ let other : NotYet ≡ Whole end = rw (lt-ltb available (4 + n) short) at this in absurd cc
            | inr enough ↦
                let whole : Whole (4 + n) ≡ Whole end = rw (le-ltb available (4 + n) enough) at this in
                let ends : 4 + n ≡ end = cc in
                omega (arith, ends)
          ]
    ]

-- its size stands before its body
pub whole_before : (stream : List ℕ) (end : ℕ) → next_frame_of stream ≡ Whole end → 4 ≤ end
whole_before stream end e =
    elim (cases_lt (length stream) 4) [
      | inl few ↦ let other : NotYet ≡ Whole end = rw (lt-ltb (length stream) 4 few) at e in absurd cc
      | inr enough ↦ size_before (length stream) (cast_signed w32 (from_be_bytes w32 (take 4 stream))) end (rw (le-ltb (length stream) 4 enough) at e)
    ]

-- its end is after its body
pub whole_ends : (inbox : List ℕ) (end : ℕ) → next_frame_of inbox ≡ Whole end → end ≡ 4 + length (take (end - 4) (drop 4 inbox))
whole_ends inbox end whole = omega (arith, whole_within inbox end whole, whole_before inbox end whole, length-take (end - 4) (drop 4 inbox), length-drop 4 inbox)

-- ---- streams of frames, of which these bytes came and those come later

frames_front : (body : List ℕ) (bodies : List (List ℕ)) → IsFrameBody body → next_frame_of (flat_map framed (body ∷ bodies)) ≡ Whole (4 + length body)
frames_front body bodies small = whole_frame body (flat_map framed bodies) small

nothing_came : (inbox later : List ℕ) → inbox ++ later ≡ [] → inbox ≡ []
nothing_came [] later e = refl
nothing_came (x ∷ inbox) later e = absurd cc

-- the first body of a stream, and what stands after its frame
pub record IsNextBody (inbox later : List ℕ) (bodies : List (List ℕ)) (end : ℕ) : Type 0 where
  pub others : List (List ℕ)
  pub bodies_are : bodies ≡ take (end - 4) (drop 4 inbox) ∷ others
  pub rest : drop end inbox ++ later ≡ flat_map framed others

next_of : (inbox later body : List ℕ) (others : List (List ℕ)) (end : ℕ) → inbox ++ later ≡ flat_map framed (body ∷ others) → end ≡ 4 + length body → end ≤ length inbox → IsNextBody inbox later (body ∷ others) end
next_of inbox later body others end e ends within =
    let head = integer w32 (pos (length body)) in
    let len : length head ≡ 4 = wide_32.len (length body) in
    let behind = flat_map framed others in
    let all : length (framed body) ≡ end = omega (arith, ends, len, length-append head body) in
    let rest : drop end inbox ++ later ≡ behind = sym (drop-append-le end inbox later within) ∙ ap (drop end) e ∙ drop_at (framed body) behind end all in
    let tail : drop 4 inbox ++ later ≡ body ++ behind =
    sym (drop-append-le 4 inbox later (omega (arith, ends, within))) ∙ ap (drop 4) (e ∙ append_assoc head body behind) ∙ drop_at head (body ++ behind) 4 len in
    let size : end - 4 ≡ length body = omega (arith, ends) in
    let first : take (end - 4) (drop 4 inbox) ≡ body =
    sym (take-append-le (end - 4) (drop 4 inbox) later (omega (arith, within, length-drop 4 inbox))) ∙ ap (take (end - 4)) tail ∙ take_at body behind (end - 4) (sym size) in
    record { others = others; bodies_are = ap (λ (b : List ℕ). b ∷ others) (sym first); rest = rest }

pub next_body : (inbox later : List ℕ) (bodies : List (List ℕ)) (end : ℕ) → inbox ++ later ≡ flat_map framed bodies → AllByRecursion IsFrameBody bodies → next_frame_of inbox ≡ Whole end
    → IsNextBody inbox later bodies end
next_body inbox later [] end e each whole =
    let other : next_frame_of [] ≡ Whole end = ap next_frame_of (sym (nothing_came inbox later e)) ∙ whole in
    absurd cc
next_body inbox later (body ∷ bodies) end e each whole =
    let same : Whole (4 + length body) ≡ Whole end = sym (ap next_frame_of e ∙ frames_front body bodies each.0) ∙ frame_kept inbox later (Whole end) (λ f. absurd cc) whole in
    let ends : end ≡ 4 + length body = cc in
    next_of inbox later body bodies end e ends (whole_within inbox end whole)

pub not_too_long : (inbox later : List ℕ) (bodies : List (List ℕ)) (size : ℤ) → inbox ++ later ≡ flat_map framed bodies → AllByRecursion IsFrameBody bodies → next_frame_of inbox ≡ TooLong size → ⊥
not_too_long inbox later [] size e each long =
    let other : next_frame_of [] ≡ TooLong size = ap next_frame_of (sym (nothing_came inbox later e)) ∙ long in
    absurd cc
not_too_long inbox later (body ∷ bodies) size e each long =
    let other : Whole (4 + length body) ≡ TooLong size = sym (ap next_frame_of e ∙ frames_front body bodies each.0) ∙ frame_kept inbox later (TooLong size) (λ f. absurd cc) long in
    absurd cc

-- where no whole frame is at the front of such a stream, nothing is
pub nothing_left : (inbox : List ℕ) (bodies : List (List ℕ)) → inbox ≡ flat_map framed bodies → AllByRecursion IsFrameBody bodies → next_frame_of inbox ≡ NotYet → inbox ≡ []
nothing_left inbox [] e each none = e
nothing_left inbox (body ∷ bodies) e each none =
    let other : Whole (4 + length body) ≡ NotYet = sym (ap next_frame_of e ∙ frames_front body bodies each.0) ∙ none in
    absurd cc

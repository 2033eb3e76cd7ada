-- What the rest of an input shows is one end, and fits it.
use Rattle.std.proofs.Common.{◌≡◌, ℕ, ◌+◌, ◌<◌, ℤ, pos, Bool, true, false, cond, eqb, List, [], ◌∷◌, ◌++◌, length, take, Option, Some, None, refl, sym, ap, subst, ◌∙◌, arith, length-append}
use Rattle.std.proofs.lemmas.List.{append_cancel_left, take_at}
use Rattle.std.specs.Int.{w32}
use Rattle.kbytes.specs.Field.{integer}
use Rattle.kbytes.proofs.Laws.{wide_32}
use Rattle.std.specs.Io.KnownBytes.{IsAtEnd}
use Rattle.audit.specs.declared.account.SessionEnd.{SessionEnd}
use Rattle.audit.specs.declared.account.SessionEnd.TheVariants.{Closed, Truncated, FrameTooLong, Refused, CallsFull, ReadFault, WriteFault, NoMemory}
use Rattle.audit.specs.declared.account.TheConstants.{MOST_CALLS}
use Rattle.audit.specs.declared.account.Transcript.{Transcript}
use Rattle.audit.specs.Fits.{BeginsRefused, EndFits, end_of_input}
use Rattle.kwire.specs.declared.frame.Frame.TheVariants.{Whole, NotYet, TooLong}
use Rattle.kwire.specs.declared.frame.WireFault.{WireFault}
use Rattle.kwire.specs.Frames.{BeginsWhole, framed, next_frame_of}
use Rattle.kwire.specs.Refusal.{IsRefused}
use Rattle.kwire.proofs.Laws.{same_refusal, whole_frame}
use Rattle.session.specs.Causes.{HasItsCause, IsShown}
use Rattle.session.specs.Flows.{HasEndedSo}

-- ---- what stands at the front

empty_front : (rest : List ℕ) → rest ≡ [] → next_frame_of rest ≡ NotYet
empty_front rest none = ap next_frame_of none

empty_whole : (rest : List ℕ) → rest ≡ [] → BeginsWhole rest → ⊥
empty_whole rest none whole = let e : NotYet ≡ Whole whole.0 = sym (empty_front rest none) ∙ whole.1 in absurd cc

empty_long : (rest : List ℕ) (size : ℤ) → rest ≡ [] → next_frame_of rest ≡ TooLong size → ⊥
empty_long rest size none long = let e : NotYet ≡ TooLong size = sym (empty_front rest none) ∙ long in absurd cc

empty_some : (rest : List ℕ) (got : ℕ) → rest ≡ [] → length rest ≡ got → 0 < got → ⊥
empty_some rest got none size some = let e : length rest ≡ 0 = ap (λ (bs : List ℕ). length bs) none in omega (arith, e, size, some)

whole_long : (rest : List ℕ) (size : ℤ) → BeginsWhole rest → next_frame_of rest ≡ TooLong size → ⊥
whole_long rest size whole long = let e : Whole whole.0 ≡ TooLong size = sym whole.1 ∙ long in absurd cc

refused_whole : (rest : List ℕ) (why : WireFault) → BeginsRefused rest why → BeginsWhole rest
refused_whole rest why r = (4 + length r.0, ap next_frame_of r.2 ∙ whole_frame r.0 r.1 r.3)

-- a frame at the front has one body
same_size : (n m : ℕ) → Whole (4 + n) ≡ Whole (4 + m) → n ≡ m
same_size n m e = let ends : 4 + n ≡ 4 + m = cc in omega (arith, ends)

same_long : (a b : ℤ) → TooLong a ≡ TooLong b → a ≡ b
same_long a b e = cc

framed_size : (body : List ℕ) → length (framed body) ≡ 4 + length body
framed_size body = let head = integer w32 (pos (length body)) in omega (arith, wide_32.len (length body), length-append head body)

-- two bodies of one size, each framed at the front of the same bytes
same_framed : (body other more rest : List ℕ) → framed body ++ more ≡ framed other ++ rest → length body ≡ length other → body ≡ other
same_framed body other more rest same size =
    let n = 4 + length body in
    let fronts : framed body ≡ framed other =
    sym (take_at (framed body) more n (framed_size body)) ∙ ap (take n) same ∙ take_at (framed other) rest n (framed_size other ∙ ap (λ (k : ℕ). 4 + k) (sym size)) in
    let head : integer w32 (pos (length other)) ≡ integer w32 (pos (length body)) = ap (λ (k : ℕ). integer w32 (pos k)) (sym size) in
    append_cancel_left (integer w32 (pos (length body))) body other (fronts ∙ ap (λ (h : List ℕ). h ++ other) head)

same_why : (rest : List ℕ) (v w : WireFault) → BeginsRefused rest v → BeginsRefused rest w → v ≡ w
same_why rest v w p q =
    let size : length p.0 ≡ length q.0 =
    same_size (length p.0) (length q.0) (sym (ap next_frame_of p.2 ∙ whole_frame p.0 p.1 p.3) ∙ ap next_frame_of q.2 ∙ whole_frame q.0 q.1 q.3) in
    let body : p.0 ≡ q.0 = same_framed p.0 q.0 p.1 q.1 (sym p.2 ∙ q.2) size in
    same_refusal q.0 v w (subst (λ (b : List ℕ). IsRefused b v) body p.4) q.4

-- ---- one end is shown

module _ (rest : List ℕ) (ended : Bool) (t : Transcript) where
  few_full : t.first + length t.calls < MOST_CALLS → t.first + length t.calls ≡ MOST_CALLS → ⊥
  few_full few full = absurd (omega (arith, few, full))

  closed_one : (other : SessionEnd) → rest ≡ [] → IsShown rest ended t other → Closed ≡ other
  closed_one Closed none h = refl
  closed_one (Truncated got) none h = absurd (empty_some rest got none h.1 h.2)
  closed_one (FrameTooLong size) none h = absurd (empty_long rest size none h)
  closed_one (Refused why) none h = absurd (empty_whole rest none (refused_whole rest why h.0))
  closed_one CallsFull none h = absurd (empty_whole rest none h.0)
  closed_one ReadFault none h = absurd h
  closed_one WriteFault none h = absurd h
  closed_one NoMemory none h = absurd h

  truncated_one : (got : ℕ) (other : SessionEnd) → IsShown rest ended t (Truncated got) → IsShown rest ended t other → Truncated got ≡ other
  truncated_one got Closed u h = absurd (empty_some rest got h.1 u.1 u.2)
  truncated_one got (Truncated other) u h = ap (λ (n : ℕ). Truncated n) (sym u.1 ∙ h.1)
  truncated_one got (FrameTooLong size) u h = absurd (u.3.not_too_long (size, h))
  truncated_one got (Refused why) u h = absurd (u.3.not_whole (refused_whole rest why h.0))
  truncated_one got CallsFull u h = absurd (u.3.not_whole h.0)
  truncated_one got ReadFault u h = absurd h
  truncated_one got WriteFault u h = absurd h
  truncated_one got NoMemory u h = absurd h

  long_one : (size : ℤ) (other : SessionEnd) → next_frame_of rest ≡ TooLong size → IsShown rest ended t other → FrameTooLong size ≡ other
  long_one size Closed long h = absurd (empty_long rest size h.1 long)
  long_one size (Truncated got) long h = absurd (h.3.not_too_long (size, long))
  long_one size (FrameTooLong other) long h = ap (λ (n : ℤ). FrameTooLong n) (same_long size other (sym long ∙ h))
  long_one size (Refused why) long h = absurd (whole_long rest size (refused_whole rest why h.0) long)
  long_one size CallsFull long h = absurd (whole_long rest size h.0 long)
  long_one size ReadFault long h = absurd h
  long_one size WriteFault long h = absurd h
  long_one size NoMemory long h = absurd h

  refused_one : (why : WireFault) (other : SessionEnd) → IsShown rest ended t (Refused why) → IsShown rest ended t other → Refused why ≡ other
  refused_one why Closed r h = absurd (empty_whole rest h.1 (refused_whole rest why r.0))
  refused_one why (Truncated got) r h = absurd (h.3.not_whole (refused_whole rest why r.0))
  refused_one why (FrameTooLong size) r h = absurd (whole_long rest size (refused_whole rest why r.0) h)
  refused_one why (Refused other) r h = ap (λ (w : WireFault). Refused w) (same_why rest why other r.0 h.0)
  refused_one why CallsFull r h = absurd (few_full r.1 h.1)
  refused_one why ReadFault r h = absurd h
  refused_one why WriteFault r h = absurd h
  refused_one why NoMemory r h = absurd h

  full_one : (other : SessionEnd) → IsShown rest ended t CallsFull → IsShown rest ended t other → CallsFull ≡ other
  full_one Closed f h = absurd (empty_whole rest h.1 f.0)
  full_one (Truncated got) f h = absurd (h.3.not_whole f.0)
  full_one (FrameTooLong size) f h = absurd (whole_long rest size f.0 h)
  full_one (Refused why) f h = absurd (few_full h.1 f.1)
  full_one CallsFull f h = refl
  full_one ReadFault f h = absurd h
  full_one WriteFault f h = absurd h
  full_one NoMemory f h = absurd h

  one_shown : (end other : SessionEnd) → IsShown rest ended t end → IsShown rest ended t other → end ≡ other
  one_shown Closed other g h = closed_one other g.1 h
  one_shown (Truncated got) other g h = truncated_one got other g h
  one_shown (FrameTooLong size) other g h = long_one size other g h
  one_shown (Refused why) other g h = refused_one why other g h
  one_shown CallsFull other g h = full_one other g h
  one_shown ReadFault other g h = absurd g
  one_shown WriteFault other g h = absurd g
  one_shown NoMemory other g h = absurd g

  -- and fits
  pub shown_fits : (end : SessionEnd) → IsShown rest ended t end → EndFits rest ended t (Some end)
  shown_fits Closed h = h
  shown_fits (Truncated got) h = h
  shown_fits (FrameTooLong size) h = h
  shown_fits (Refused why) h = h.0
  shown_fits CallsFull h = h
  shown_fits ReadFault h = absurd h
  shown_fits WriteFault h = absurd h
  shown_fits NoMemory h = absurd h

  -- ---- each end has its cause

  module _ (rose : Type 0) where
    pub shown_cause : (end : SessionEnd) → IsShown rest ended t end → HasItsCause rest ended t rose end
    shown_cause end h = record {
      read = λ is. absurd (subst (IsShown rest ended t) is h);
      write = λ is. absurd (subst (IsShown rest ended t) is h);
      shown = λ quiet memory other. (λ same. subst (IsShown rest ended t) same h, λ there. one_shown end other h there);
    }

    pub read_cause : rose → HasItsCause rest ended t rose ReadFault
    read_cause up = record { read = λ is. up; write = λ is. up; shown = λ quiet. absurd (quiet up) }

    pub write_cause : rose → HasItsCause rest ended t rose WriteFault
    write_cause up = record { read = λ is. up; write = λ is. up; shown = λ quiet. absurd (quiet up) }

    pub memory_cause : HasItsCause rest ended t rose NoMemory
    memory_cause = record { read = λ is. absurd cc; write = λ is. absurd cc; shown = λ quiet memory. absurd (memory refl) }

-- ---- the input has ended

shown_end : (t : Transcript) (rest : List ℕ) (end : SessionEnd) (none : Bool) → end ≡ cond none Closed (Truncated (length rest)) → EndFits rest true t (Some end) → IsShown rest true t end
shown_end t rest end true is fits = subst (IsShown rest true t) (sym is) (subst (λ (e : SessionEnd). EndFits rest true t (Some e)) is fits)
shown_end t rest end false is fits = subst (IsShown rest true t) (sym is) (subst (λ (e : SessionEnd). EndFits rest true t (Some e)) is fits)

pub ends_shown : (t : Transcript) (rest : List ℕ) (end : SessionEnd) → end ≡ end_of_input (length rest) → EndFits rest true t (Some end) → IsShown rest true t end
ends_shown t rest end is fits = shown_end t rest end (eqb (length rest) 0) is fits

-- as the link reports it
abbrev pub has_ended : Option (List ℕ) → Bool
has_ended None = false
has_ended (Some []) = true
has_ended (Some (x ∷ xs)) = false

pub ended_is : (left : Option (List ℕ)) → HasEndedSo left (has_ended left)
ended_is None = tt
ended_is (Some []) = (λ e. refl, λ e. refl)
ended_is (Some (x ∷ xs)) = (λ e. absurd cc, λ e. absurd cc)

pub ended_now : (left : Option (List ℕ)) → IsAtEnd left → HasEndedSo left true
ended_now None h = tt
ended_now (Some xs) h = (λ e. h, λ e. refl)

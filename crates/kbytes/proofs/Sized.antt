-- Lengths and the bytes behind them: what is read is spelled so, and each refusal.
use Rattle.std.proofs.Common.{◌≡◌, ◌↔◌, ℕ, zero, suc, ◌+◌, ◌≤◌, ℤ, pos, negsuc, ◌<ℤ◌, true, ltb, List, ◌++◌, length, take, Option, Some, None, Result, Ok, Err, refl, sym, ap, subst, ◌∙◌, append_assoc, arith, inl, inr}
use Rattle.std.specs.Prelude.{IfOk}
use Rattle.std.specs.Int.{Width, w16, byte_len}
use Rattle.std.proofs.lemmas.Bool.{cases_lt, lt-ltb, le-ltb}
use Rattle.std.proofs.lemmas.Int.{ints}
use Rattle.std.proofs.lemmas.List.{length-take, length-append, drop-drop, take-append-drop}
use Rattle.kbytes.specs.declared.fault.ByteFault.{ByteFault}
use Rattle.kbytes.specs.declared.fault.ByteFault.TheVariants.{Short, BadLength}
use Rattle.kbytes.specs.Octets.{IsBytes}
use Rattle.kbytes.specs.Cursor.{Cursor, rest_of, moved}
use Rattle.kbytes.specs.Field.{Field, field, integer, sized, String}
use Rattle.kbytes.specs.Fronts.{Leads, HasLength, EndWithinSized}
use Rattle.kbytes.specs.Reading.{◌>>=◌, Gives, Spells, integer_at, not_null, sized_at, string_at}
use Rattle.kbytes.proofs.Integers.{IsWide, wide_16, cut, whole, front_of, integer_again, Leads-spells}

-- what a reader gave, so that its type shows
abbrev pub Read : Type 0 → Type 0
Read A = Result (A × Cursor) ByteFault

abbrev got : {A : Type 0} → A → Cursor → Read A
got x d = Ok (x, d)

abbrev fault : {A : Type 0} → ByteFault → Read A
fault e = Err e

-- a reader refuses exactly as reading does
pub refuses : {X Y : Type 0} (view : X → Y) (old new : Cursor) (r : Result X ByteFault) (read : Result (Y × Cursor) ByteFault) (e : ByteFault) → Gives view old new r read → (r ≡ Err e) ↔ (read ≡ Err e)
refuses {X} {Y} view old new (Ok x) read e is =
    let value : Result X ByteFault = Ok x in
    let wrong : Result X ByteFault = Err e in
    (λ (h : value ≡ wrong). absurd cc, λ (h : read ≡ fault e). let other : got (view x) new ≡ fault e = sym is ∙ h in absurd cc)
refuses {X} {Y} view old new (Err d) read e is =
    let one : Result X ByteFault = Err d in
    let other : Result X ByteFault = Err e in
    (λ (h : one ≡ other). let same : d ≡ e = cc in is.0 ∙ ap fault same, λ (h : read ≡ fault e). let both : fault {A = Y} d ≡ fault e = sym is.0 ∙ h in let same : d ≡ e = cc in let g : one ≡ other = cc in g)

pub reads : {X Y : Type 0} (view : X → Y) (old new : Cursor) (r : Result X ByteFault) (read : Result (Y × Cursor) ByteFault) (P : Y → Type 0) → Gives view old new r read → ((y : Y) → read ≡ Ok (y, new) → P y) → IfOk r (λ x. P (view x))
reads view old new (Ok x) read P is f = f (view x) is
reads view old new (Err e) read P is f = tt

pub both : {A B C : Type 0} → A ↔ B → B ↔ C → A ↔ C
both f g = (λ a. g.0 (f.0 a), λ c. f.1 (g.1 c))

-- ---- the length, and what follows from it

-- the bytes behind a length
data Held (w : Width) (c : Cursor) : Type 0 where
  ends : EndWithinSized w (rest_of c) → sized_at w c ≡ Err (Short c.at) → Held w c
  bad : (k : ℕ) → HasLength w (negsuc (suc k)) (rest_of c) → sized_at w c ≡ Err (BadLength c.at (negsuc (suc k))) → Held w c
  null : Leads w (negsuc 0) (rest_of c) (rest_of (moved c (byte_len w))) → sized_at w c ≡ Ok (None, moved c (byte_len w)) → Held w c
  held : (n : ℕ) → Leads w (pos n) (rest_of c) (rest_of (moved c (byte_len w))) → n ≤ length (rest_of (moved c (byte_len w))) → sized_at w c ≡ Ok (Some (take n (rest_of (moved c (byte_len w)))), moved (moved c (byte_len w)) n) → Held w c

held_from : (w : Width) (c : Cursor) (z : ℤ) → Leads w z (rest_of c) (rest_of (moved c (byte_len w))) → integer_at w c ≡ Ok (z, moved c (byte_len w)) → Held w c
unfolding sized_at
held_from w c (pos n) leads is =
    let d = moved c (byte_len w) in
    elim (cases_lt (length (rest_of d)) n) [
      | inl lt ↦ ends (inr (n, rest_of d, leads, lt)) (rw is (rw (lt-ltb (length (rest_of d)) n lt) refl))
      | inr le ↦ held n leads le (rw is (rw (le-ltb (length (rest_of d)) n le) refl))
    ]
held_from w c (negsuc zero) leads is = null leads (rw is refl)
held_from w c (negsuc (suc k)) leads is = bad k (rest_of (moved c (byte_len w)), leads) (rw is refl)

held_of : (w : Width) → IsWide w → (c : Cursor) → IsBytes (rest_of c) → Held w c
unfolding sized_at
held_of w wide c fits =
    elim (front_of w wide c fits) [
      | cut lt is ↦ ends (inl lt) (rw is refl)
      | whole z leads is ↦ held_from w c z leads is
    ]

-- ---- the field

same_got : {A : Type 0} (x y : A) (c d : Cursor) → got x c ≡ got y d → (x ≡ y) × (c ≡ d)
same_got {A} x y c d e =
    let pair : A → Cursor → A × Cursor = λ a b. (a, b) in
    let pairs : pair x c ≡ pair y d = cc in
    (ap (λ (p : A × Cursor). p.0) pairs, ap (λ (p : A × Cursor). p.1) pairs)

held_spells : (w : Width) → IsWide w → (c : Cursor) (n : ℕ) (f : Field) → field f ≡ sized w (Some (take n (rest_of (moved c (byte_len w))))) → Leads w (pos n) (rest_of c) (rest_of (moved c (byte_len w))) → n ≤ length (rest_of (moved c (byte_len w))) → Spells c (moved (moved c (byte_len w)) n) f
held_spells w wide c n f text leads le =
    let d = moved c (byte_len w) in
    let part = take n (rest_of d) in
    let after = rest_of (moved d n) in
    let len : length part ≡ n = omega (arith, length-take n (rest_of d)) in
    let head = integer w (pos n) in
    let whole_text : field f ≡ head ++ part = text ∙ ap (λ (k : ℕ). integer w (pos k) ++ part) len in
    let whole_len : length (field f) ≡ byte_len w + n = ap length whole_text ∙ length-append head part ∙ omega (arith, wide.len n, len) in
    let behind : rest_of d ≡ part ++ after = sym (take-append-drop n (rest_of d)) ∙ ap (λ (t : List ℕ). part ++ t) (drop-drop n d.at c.bytes) in
    record {
      bytes = refl;
      at = omega (arith, whole_len);
      parts = leads.parts ∙ ap (λ (t : List ℕ). head ++ t) behind ∙ sym (append_assoc head part after) ∙ ap (λ (t : List ℕ). t ++ after) (sym whole_text);
    }

pub sized_spells : (w : Width) → IsWide w → (old new : Cursor) (value : Option (List ℕ)) (f : Field) → field f ≡ sized w value → IsBytes (rest_of old) → sized_at w old ≡ Ok (value, new) → Spells old new f
sized_spells w wide old new value f text fits is =
    elim (held_of w wide old fits) [
      | ends h e ↦ let other : got value new ≡ fault (Short old.at) = sym is ∙ e in absurd cc
      | bad k h e ↦ let other : got value new ≡ fault (BadLength old.at (negsuc (suc k))) = sym is ∙ e in absurd cc
      | null leads e ↦
          let same = same_got None value (moved old (byte_len w)) new (sym e ∙ is) in
          subst (λ (d : Cursor). Spells old d f) same.1 (Leads-spells w wide old (negsuc 0) f (text ∙ ap (sized w) (sym same.0)) leads)
      | held n leads le e ↦
          let d = moved old (byte_len w) in
          let same = same_got (Some (take n (rest_of d))) value (moved d n) new (sym e ∙ is) in
          subst (λ (d : Cursor). Spells old d f) same.1 (held_spells w wide old n f (text ∙ ap (sized w) (sym same.0)) leads le)
    ]

-- ---- refusals

ends_short : (w : Width) → IsWide w → (c : Cursor) → EndWithinSized w (rest_of c) → sized_at w c ≡ Err (Short c.at)
unfolding sized_at
ends_short w wide c (inl lt) = rw (lt-ltb (length (rest_of c)) (byte_len w) lt) refl
ends_short w wide c (inr (n, after, leads, lt)) =
    let again = integer_again w wide c (pos n) after leads in
    let few : ltb (length (rest_of (moved c (byte_len w)))) n ≡ true = lt-ltb (length (rest_of (moved c (byte_len w)))) n (omega (arith, ap length again.1, lt)) in
    rw again.0 (rw few refl)

-- a length below -1
bad_again : (w : Width) → IsWide w → (c : Cursor) (v : ℤ) → HasLength w v (rest_of c) → v <ℤ negsuc 0 → sized_at w c ≡ Err (BadLength c.at v)
unfolding sized_at
bad_again w wide c (pos n) has lt = absurd (omega (arith, ints, lt))
bad_again w wide c (negsuc zero) has lt = absurd (omega (arith, ints, lt))
bad_again w wide c (negsuc (suc k)) has lt = rw ((integer_again w wide c (negsuc (suc k)) has.0 has.1).0) refl

pub null_again : (w : Width) → IsWide w → (c : Cursor) → HasLength w (negsuc 0) (rest_of c) → sized_at w c ≡ Ok (None, moved c (byte_len w))
unfolding sized_at
null_again w wide c has = rw ((integer_again w wide c (negsuc 0) has.0 has.1).0) refl

pub sized_short : (w : Width) → IsWide w → (c : Cursor) → IsBytes (rest_of c) → (sized_at w c ≡ Err (Short c.at)) ↔ EndWithinSized w (rest_of c)
sized_short w wide c fits = (
  λ is. elim (held_of w wide c fits) [
    | ends h e ↦ h
    | bad k h e ↦ let other : fault {A = Option (List ℕ)} (Short c.at) ≡ fault (BadLength c.at (negsuc (suc k))) = sym is ∙ e in absurd cc
    | null leads e ↦ let other : fault (Short c.at) ≡ got None (moved c (byte_len w)) = sym is ∙ e in absurd cc
    | held n leads le e ↦ let other : fault (Short c.at) ≡ got (Some (take n (rest_of (moved c (byte_len w))))) (moved (moved c (byte_len w)) n) = sym is ∙ e in absurd cc
  ],
  ends_short w wide c,
)

same_bad : {A : Type 0} (at : ℕ) (u v : ℤ) → fault {A = A} (BadLength at u) ≡ fault (BadLength at v) → u ≡ v
same_bad at u v e = cc

below_null : (k : ℕ) → negsuc (suc k) <ℤ negsuc 0
below_null k = omega (arith, ints)

pub sized_bad : (w : Width) → IsWide w → (c : Cursor) → IsBytes (rest_of c) → (v : ℤ) → (sized_at w c ≡ Err (BadLength c.at v)) ↔ (HasLength w v (rest_of c) × (v <ℤ negsuc 0))
sized_bad w wide c fits v = (
  λ is. elim (held_of w wide c fits) [
    | ends h e ↦ let other : fault {A = Option (List ℕ)} (BadLength c.at v) ≡ fault (Short c.at) = sym is ∙ e in absurd cc
    | bad k has e ↦
        let same = same_bad {A = Option (List ℕ)} c.at (negsuc (suc k)) v (sym e ∙ is) in
        subst (λ (u : ℤ). HasLength w u (rest_of c) × (u <ℤ negsuc 0)) same (has, below_null k)
    | null leads e ↦ let other : fault (BadLength c.at v) ≡ got None (moved c (byte_len w)) = sym is ∙ e in absurd cc
    | held n leads le e ↦ let other : fault (BadLength c.at v) ≡ got (Some (take n (rest_of (moved c (byte_len w))))) (moved (moved c (byte_len w)) n) = sym is ∙ e in absurd cc
  ],
  λ h. bad_again w wide c v h.0 h.1,
)

-- ---- strings, where null isn't allowed

abbrev pub then_not_null : Cursor → Read (Option (List ℕ)) → Read (List ℕ)
then_not_null c read = read >>= not_null c

pub string_from : (c : Cursor) (read : Read (Option (List ℕ))) → sized_at w16 c ≡ read → string_at c ≡ then_not_null c read
unfolding string_at
string_from c read is = rw is refl

string_ok : (c new : Cursor) (part : List ℕ) (read : Read (Option (List ℕ))) → then_not_null c read ≡ Ok (part, new) → read ≡ Ok (Some part, new)
string_ok c new part (Err e) is = let other : fault e ≡ got part new = is in absurd cc
string_ok c new part (Ok (None, d)) is = let other : fault (BadLength c.at (negsuc 0)) ≡ got part new = is in absurd cc
string_ok c new part (Ok (Some p, d)) is =
    let same = same_got p part d new is in
    subst (λ (x : Cursor). got (Some p) d ≡ got (Some part) x) same.1 (ap (λ (q : List ℕ). got (Some q) d) same.0)

pub string_spells : (old new : Cursor) (part : List ℕ) → IsBytes (rest_of old) → string_at old ≡ Ok (part, new) → Spells old new (String part)
string_spells old new part fits is =
    sized_spells w16 wide_16 old new (Some part) (String part) refl fits (string_ok old new part (sized_at w16 old) (sym (string_from old (sized_at w16 old) refl) ∙ is))

pub string_short : (c : Cursor) → IsBytes (rest_of c) → (string_at c ≡ Err (Short c.at)) ↔ EndWithinSized w16 (rest_of c)
string_short c fits = (
  λ is. elim (held_of w16 wide_16 c fits) [
    | ends h e ↦ h
    | bad k h e ↦ let other : fault {A = List ℕ} (Short c.at) ≡ fault (BadLength c.at (negsuc (suc k))) = sym is ∙ string_from c _ e in absurd cc
    | null leads e ↦ let other : fault {A = List ℕ} (Short c.at) ≡ fault (BadLength c.at (negsuc 0)) = sym is ∙ string_from c _ e in absurd cc
    | held n leads le e ↦ let other : fault (Short c.at) ≡ got (take n (rest_of (moved c 2))) (moved (moved c 2) n) = sym is ∙ string_from c _ e in absurd cc
  ],
  λ h. string_from c _ (ends_short w16 wide_16 c h),
)

string_bad_again : (c : Cursor) (v : ℤ) → HasLength w16 v (rest_of c) → v <ℤ pos 0 → string_at c ≡ Err (BadLength c.at v)
string_bad_again c (pos n) has lt = absurd (omega (arith, ints, lt))
string_bad_again c (negsuc zero) has lt = string_from c _ (null_again w16 wide_16 c has)
string_bad_again c (negsuc (suc k)) has lt = string_from c _ (bad_again w16 wide_16 c (negsuc (suc k)) has (below_null k))

below_zero : (k : ℕ) → negsuc k <ℤ pos 0
below_zero k = omega (arith, ints)

pub string_bad : (c : Cursor) → IsBytes (rest_of c) → (v : ℤ) → (string_at c ≡ Err (BadLength c.at v)) ↔ (HasLength w16 v (rest_of c) × (v <ℤ pos 0))
string_bad c fits v = (
  λ is. elim (held_of w16 wide_16 c fits) [
    | ends h e ↦ let other : fault {A = List ℕ} (BadLength c.at v) ≡ fault (Short c.at) = sym is ∙ string_from c _ e in absurd cc
    | bad k has e ↦
        let same = same_bad {A = List ℕ} c.at (negsuc (suc k)) v (sym (string_from c _ e) ∙ is) in
        subst (λ (u : ℤ). HasLength w16 u (rest_of c) × (u <ℤ pos 0)) same (has, below_zero (suc k))
    | null leads e ↦
        let same = same_bad {A = List ℕ} c.at (negsuc 0) v (sym (string_from c _ e) ∙ is) in
        subst (λ (u : ℤ). HasLength w16 u (rest_of c) × (u <ℤ pos 0)) same ((rest_of (moved c 2), leads), below_zero 0)
    | held n leads le e ↦ let other : fault (BadLength c.at v) ≡ got (take n (rest_of (moved c 2))) (moved (moved c 2) n) = sym is ∙ string_from c _ e in absurd cc
  ],
  λ h. string_bad_again c v h.0 h.1,
)

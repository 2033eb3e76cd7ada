-- A field that stands at the front of bytes is the one that is read there.
use Rattle.std.proofs.Common.{◌≡◌, ℕ, ◌<◌, ◌^◌, ℤ, pos, negsuc, zero, suc, Bool, true, false, cond, ltb, List, ◌++◌, length, take, Option, Some, None, Result, Ok, Err, refl, sym, ap, subst, ◌∙◌, arith}
use Rattle.std.specs.Prelude.{FitsSigned, IfSome}
use Rattle.std.specs.Int.{Width, w32, byte_len, from_be_bytes, cast_signed}
use borrow.Author.Gap.{read_sfits}
use Rattle.std.proofs.lemmas.List.{length-take}
use Rattle.kbytes.specs.declared.fault.ByteFault.{ByteFault}
use Rattle.kbytes.specs.declared.fault.ByteFault.TheVariants.{Short, BadLength}
use Rattle.kbytes.specs.Cursor.{Cursor, rest_of, moved}
use Rattle.kbytes.specs.FitsField.{FitsField}
use Rattle.kbytes.specs.Field.{Field, field, integer}
use Rattle.kbytes.specs.Reading.{◌>>=◌, Gives, integer_at, sized_at, after_length}
use Rattle.kbytes.proofs.Laws.{IsWide, integer_reads}

abbrev got : {A : Type 0} → A → Cursor → Result (A × Cursor) ByteFault
got x d = Ok (x, d)

same_got : {A : Type 0} (x y : A) (c d : Cursor) → got x c ≡ got y d → x ≡ y
same_got {A} x y c d e =
    let pair : A → Cursor → A × Cursor = λ a b. (a, b) in
    let pairs : pair x c ≡ pair y d = cc in
    ap (λ (p : A × Cursor). p.0) pairs

-- where reading gives a value, the reader gave it
pub must_read : {X Y : Type 0} (view : X → Y) (old new d : Cursor) (r : Result X ByteFault) (read : Result (Y × Cursor) ByteFault) (y : Y) → Gives view old new r read → read ≡ Ok (y, d)
    → (x : X) × (r ≡ Ok x) × (view x ≡ y)
must_read view old new d (Ok x) read y is e = (x, refl, same_got (view x) y new d (sym is ∙ e))
must_read {X} {Y} view old new d (Err fault) read y is e =
    let refused : Result (Y × Cursor) ByteFault = Err fault in
    let other : refused ≡ got y d = sym is.0 ∙ e in
    absurd cc

-- what is read is what stands there
pub read_same : {Y : Type 0} (read : Result (Y × Cursor) ByteFault) (x y : Y) (c d : Cursor) → read ≡ Ok (x, c) → read ≡ Ok (y, d) → x ≡ y
read_same read x y c d one two = same_got x y c d (sym one ∙ two)

-- where nothing is read, nothing of the kind stands there
pub read_none : {Y : Type 0} (read : Result (Y × Cursor) ByteFault) (e : ByteFault) (y : Y) (d : Cursor) → read ≡ Err e → read ≡ Ok (y, d) → ⊥
read_none {Y} read e y d one two =
    let refused : Result (Y × Cursor) ByteFault = Err e in
    let other : refused ≡ got y d = sym one ∙ two in
    absurd cc

-- ---- the bytes after a length of four bytes are fewer than its integers can say

held_by_test : (c e d : Cursor) (n : ℕ) (value : Option (List ℕ)) (b : Bool) (fault : ByteFault) → n < 2 ^ 31
    → cond b (Err fault) (got (Some (take n (rest_of e))) (moved e n)) ≡ got value d → IfSome value (λ bytes. length bytes < 2 ^ 31)
held_by_test c e d n value true fault small is = absurd cc
held_by_test c e d n value false fault small is =
    let within : length (take n (rest_of e)) < 2 ^ 31 = omega (arith, length-take n (rest_of e)) in
    subst (λ (v : Option (List ℕ)). IfSome v (λ bytes. length bytes < 2 ^ 31)) (same_got (Some (take n (rest_of e))) value (moved e n) d is) within

abbrev refused_as : {A : Type 0} → ByteFault → Result (A × Cursor) ByteFault
refused_as e = Err e

held_short : (c d : Cursor) (value : Option (List ℕ)) (read : Result (ℤ × Cursor) ByteFault) → ((z : ℤ) (e : Cursor) → read ≡ got z e → FitsSigned w32 z)
    → (read >>= after_length c) ≡ got value d → IfSome value (λ bytes. length bytes < 2 ^ 31)
held_short c d value (Err e) fits is = let other : refused_as e ≡ got value d = is in absurd cc
held_short c d value (Ok (pos n, e)) fits is = held_by_test c e d n value (ltb (length (rest_of e)) n) (Short c.at) (fits (pos n) e refl).sfits is
held_short c d value (Ok (negsuc zero, e)) fits is =
    let none : Option (List ℕ) = None in
    subst (λ (v : Option (List ℕ)). IfSome v (λ bytes. length bytes < 2 ^ 31)) (same_got none value e d is) tt
held_short c d value (Ok (negsuc (suc k), e)) fits is = let other : refused_as (BadLength c.at (negsuc (suc k))) ≡ got value d = is in absurd cc

integer_by_test : (w : Width) (n : ℕ) (e : ByteFault) (c d : Cursor) (z : ℤ) (b : Bool) → cond b (refused_as e) (got (cast_signed w n) c) ≡ got z d → FitsSigned w z
integer_by_test w n e c d z true is = absurd cc
integer_by_test w n e c d z false is = subst (FitsSigned w) (same_got (cast_signed w n) z c d is) (read_sfits w n)

pub integer_fits : (w : Width) (c d : Cursor) (z : ℤ) → integer_at w c ≡ Ok (z, d) → FitsSigned w z
integer_fits w c d z is =
    integer_by_test w (from_be_bytes w (take (byte_len w) (rest_of c))) (Short c.at) (moved c (byte_len w)) d z (ltb (length (rest_of c)) (byte_len w)) is

pub records_short : (c d : Cursor) (bytes : List ℕ) → sized_at w32 c ≡ Ok (Some bytes, d) → length bytes < 2 ^ 31
unfolding sized_at
records_short c d bytes is = held_short c d (Some bytes) (integer_at w32 c) (λ z e read. integer_fits w32 c e z read) is

-- where no integer is read, none stands there
pub none_integer : (w : Width) → IsWide w → (make : ℤ → Field) → ((z : ℤ) → field (make z) ≡ integer w z) → ((z : ℤ) → FitsField (make z) → FitsSigned w z) → (c : Cursor) (e : ByteFault)
    → integer_at w c ≡ Err e → (f : Field) (after : List ℕ) → rest_of c ≡ field f ++ after → FitsField f → ((z : ℤ) × (f ≡ make z)) → ⊥
none_integer w wide make spelled fits c e none f after stands fit may =
    let z = may.0 in
    let here : rest_of c ≡ integer w z ++ after = stands ∙ ap (λ (g : Field). field g ++ after) may.1 ∙ ap (λ (bytes : List ℕ). bytes ++ after) (spelled z) in
    let range : FitsSigned w z = fits z (subst FitsField may.1 fit) in
    read_none (integer_at w c) e z _ none (integer_reads w wide z c after range here)

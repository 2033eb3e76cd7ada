-- Varints read at a place: from what reading gives to what stands there.
use Rattle.std.proofs.Common.{◌≡◌, ℕ, suc, ◌^◌, ◌<◌, ◌≤◌, ◌⊎◌, ◌↔◌, ℤ, pos, negsuc, List, ◌++◌, length, Result, Ok, Err, refl, sym, ap, ◌∙◌, arith, inl, inr, lit≤}
use Rattle.std.specs.Prelude.{FitsSigned, IfOk, IfErr}
use Rattle.std.specs.Int.{Width, w32, w64}
use Rattle.std.proofs.lemmas.Bool.{cases_lt, lt-ltb, le-ltb}
use Rattle.kbytes.specs.declared.fault.ByteFault.{ByteFault}
use Rattle.kbytes.specs.declared.fault.ByteFault.TheVariants.{Short, LongVarint}
use Rattle.kbytes.specs.Octets.{IsBytes}
use Rattle.kbytes.specs.Cursor.{Cursor, rest_of, moved}
use Rattle.kbytes.specs.Field.{Field, Varint, Varlong, field, zigzag, groups}
use Rattle.kbytes.specs.Fronts.{EndWithinVarint, BeginWith}
use Rattle.kbytes.specs.Reading.{Gives, Spells, groups_at, grouped_at, unzigzag}
use Rattle.kbytes.proofs.Groups.{found, failed}
use Rattle.kbytes.proofs.Places.{Spells-from_front}
use Rattle.kbytes.proofs.Varints.{AreGroups, zigzag-unzigzag, unzigzag-zigzag, groups_again, groups_takes, groups_refused, short_from, short_to}

-- what is known of each kind of varint: its field, and the integers that have one
pub record IsVarint (w : Width) (kind : ℤ → Field) (more limit : ℕ) : Type 0 where
  pub text : (z : ℤ) → field (kind z) ≡ groups more (zigzag z)
  pub room : limit ≤ 128 ^ suc more
  pub below : (z : ℤ) → FitsSigned w z → zigzag z < limit
  pub fits : (z : ℤ) → zigzag z < limit → FitsSigned w z

abbrev stood : ℤ → Cursor → Result (ℤ × Cursor) ByteFault
stood z c = Ok (z, c)

abbrev refused : ByteFault → Result (ℤ × Cursor) ByteFault
refused e = Err e

abbrev value : ℤ → Result ℤ ByteFault
value z = Ok z

abbrev fault : ByteFault → Result ℤ ByteFault
fault e = Err e

abbrev pair : ℤ → Cursor → ℤ × Cursor
pair z c = (z, c)

same_stood : (y z : ℤ) (c d : Cursor) → stood y c ≡ stood z d → (y ≡ z) × (c ≡ d)
same_stood y z c d e =
    let pairs : pair y c ≡ pair z d = cc in
    (ap (λ (p : ℤ × Cursor). p.0) pairs, ap (λ (p : ℤ × Cursor). p.1) pairs)

-- a number that was read is in range, or is refused
grouped_found : (more limit n k : ℕ) (c : Cursor) → groups_at c.at more (rest_of c) ≡ found n k → n < limit → grouped_at more limit c ≡ stood (unzigzag n) (moved c k)
grouped_found more limit n k c read lt = rw read (rw (lt-ltb n limit lt) refl)

grouped_past : (more limit n k : ℕ) (c : Cursor) → groups_at c.at more (rest_of c) ≡ found n k → limit ≤ n → grouped_at more limit c ≡ refused (LongVarint c.at)
grouped_past more limit n k c read le = rw read (rw (le-ltb n limit le) refl)

grouped_failed : (more limit : ℕ) (e : ByteFault) (c : Cursor) → groups_at c.at more (rest_of c) ≡ failed e → grouped_at more limit c ≡ refused e
grouped_failed more limit e c read = rw read refl

-- what the number at the front is
data Front (more limit : ℕ) (c : Cursor) : Type 0 where
  within : (n k : ℕ) → AreGroups more n k (rest_of c) → n < limit → grouped_at more limit c ≡ stood (unzigzag n) (moved c k) → Front more limit c
  past : grouped_at more limit c ≡ refused (LongVarint c.at) → Front more limit c
  short : EndWithinVarint (suc more) (rest_of c) → grouped_at more limit c ≡ refused (Short c.at) → Front more limit c

front_from : (more limit : ℕ) (c : Cursor) (read : Result (ℕ × ℕ) ByteFault) → IsBytes (rest_of c) → groups_at c.at more (rest_of c) ≡ read → Front more limit c
front_from more limit c (Ok x) fits is =
    elim (cases_lt x.0 limit) [
      | inl lt ↦ within x.0 x.1 (groups_takes c.at more x.0 x.1 (rest_of c) fits is) lt (grouped_found more limit x.0 x.1 c is lt)
      | inr le ↦ past (grouped_past more limit x.0 x.1 c is le)
    ]
front_from more limit c (Err e) fits is =
    elim (groups_refused c.at more (rest_of c) e is) [
      | inl s ↦
          let same : groups_at c.at more (rest_of c) ≡ failed (Short c.at) = is ∙ ap failed s in
          short (short_to c.at more (rest_of c) same) (grouped_failed more limit (Short c.at) c same)
      | inr l ↦ past (grouped_failed more limit (LongVarint c.at) c (is ∙ ap failed l))
    ]

front_of : (more limit : ℕ) (c : Cursor) → IsBytes (rest_of c) → Front more limit c
front_of more limit c fits = front_from more limit c (groups_at c.at more (rest_of c)) fits refl

-- ---- what is spelled is read

pub grouped_again : (more limit : ℕ) (z : ℤ) (c : Cursor) (rest : List ℕ) → limit ≤ 128 ^ suc more → zigzag z < limit → rest_of c ≡ groups more (zigzag z) ++ rest → grouped_at more limit c ≡ Ok (z, moved c (length (groups more (zigzag z))))
grouped_again more limit z c rest room lt is =
    let n = zigzag z in
    let read : groups_at c.at more (rest_of c) ≡ found n (length (groups more n)) = ap (groups_at c.at more) is ∙ groups_again c.at more n rest (omega (arith, lt, room)) in
    grouped_found more limit n (length (groups more n)) c read lt ∙ ap (λ (y : ℤ). stood y (moved c (length (groups more n)))) (unzigzag-zigzag z)

-- ---- the clauses of a reader, from what it gives

module _ (w : Width) (kind : ℤ → Field) (more limit : ℕ) (v : IsVarint w kind more limit) where
  pub grouped_read : (old new : Cursor) (z : ℤ) → IsBytes (rest_of old) → grouped_at more limit old ≡ Ok (z, new) → Spells old new (kind z) × (zigzag z < limit)
  grouped_read old new z fits is =
      elim (front_of more limit old fits) [
        | within n k are lt made ↦
            let same = same_stood (unzigzag n) z (moved old k) new (sym made ∙ is) in
            let number : zigzag z ≡ n = ap zigzag (sym same.0) ∙ zigzag-unzigzag n in
            (Spells-from_front old new (kind z) k are.within (v.text z ∙ ap (groups more) number ∙ are.text) (sym same.1), rw number lt)
        | past none ↦ let other : stood z new ≡ refused (LongVarint old.at) = sym is ∙ none in absurd cc
        | short ends none ↦ let other : stood z new ≡ refused (Short old.at) = sym is ∙ none in absurd cc
      ]

  -- reading what ends within a varint
  at_end : (c : Cursor) → EndWithinVarint (suc more) (rest_of c) → grouped_at more limit c ≡ refused (Short c.at)
  at_end c ends = grouped_failed more limit (Short c.at) c (short_from c.at more (rest_of c) ends)

  -- reading what begins with the field of an integer
  at_field : (c : Cursor) → BeginWith w kind (rest_of c) → (z : ℤ) × (d : Cursor) × (grouped_at more limit c ≡ stood z d)
  at_field c b =
      (b.0, moved c (length (groups more (zigzag b.0))), grouped_again more limit b.0 c b.2.0 v.room (v.below b.0 b.1) (b.2.1 ∙ ap (λ (t : List ℕ). t ++ b.2.0) (v.text b.0)))

  pub varint_read : (old new : Cursor) (r : Result ℤ ByteFault) → IsBytes (rest_of old) → Gives (λ z. z) old new r (grouped_at more limit old) → IfOk r (λ z. Spells old new (kind z))
  varint_read old new (Ok z) fits is = (grouped_read old new z fits is).0
  varint_read old new (Err e) fits is = tt

  pub varint_short : (old new : Cursor) (r : Result ℤ ByteFault) → IsBytes (rest_of old) → Gives (λ z. z) old new r (grouped_at more limit old) → (r ≡ Err (Short old.at)) ↔ EndWithinVarint (suc more) (rest_of old)
  varint_short old new (Ok z) fits is =
      (λ (e : value z ≡ fault (Short old.at)). absurd cc, λ ends. let other : stood z new ≡ refused (Short old.at) = sym is ∙ at_end old ends in absurd cc)
  varint_short old new (Err e) fits is =
      elim (front_of more limit old fits) [
        | within n k are lt made ↦ let other : stood (unzigzag n) (moved old k) ≡ refused e = sym made ∙ is.0 in absurd cc
        | past long ↦
            let same : refused e ≡ refused (LongVarint old.at) = sym is.0 ∙ long in
            (λ (s : fault e ≡ fault (Short old.at)). absurd cc, λ ends. let other : refused e ≡ refused (Short old.at) = sym is.0 ∙ at_end old ends in absurd cc)
        | short ends made ↦
            let same : refused e ≡ refused (Short old.at) = sym is.0 ∙ made in
            (λ s. ends, λ s. let one : fault e ≡ fault (Short old.at) = cc in one)
      ]

  pub varint_long : (old new : Cursor) (r : Result ℤ ByteFault) → IsBytes (rest_of old) → Gives (λ z. z) old new r (grouped_at more limit old) → (r ≡ Err (LongVarint old.at)) ↔ ((EndWithinVarint (suc more) (rest_of old) → ⊥) × (BeginWith w kind (rest_of old) → ⊥))
  varint_long old new (Ok z) fits is =
      let read = grouped_read old new z fits is in
      (λ (e : value z ≡ fault (LongVarint old.at)). absurd cc, λ none. absurd (none.1 (z, v.fits z read.1, (rest_of new, read.0.parts))))
  varint_long old new (Err e) fits is =
      elim (front_of more limit old fits) [
        | within n k are lt made ↦ let other : stood (unzigzag n) (moved old k) ≡ refused e = sym made ∙ is.0 in absurd cc
        | past long ↦
            let same : refused e ≡ refused (LongVarint old.at) = sym is.0 ∙ long in
            (λ s. (λ ends. let other : refused e ≡ refused (Short old.at) = sym is.0 ∙ at_end old ends in absurd cc, λ begins. let a = at_field old begins in let other : stood a.0 a.1 ≡ refused e = sym a.2 ∙ is.0 in absurd cc), λ none. let one : fault e ≡ fault (LongVarint old.at) = cc in one)
        | short ends made ↦
            let same : refused e ≡ refused (Short old.at) = sym is.0 ∙ made in
            (λ (s : fault e ≡ fault (LongVarint old.at)). absurd cc, λ none. absurd (none.0 ends))
      ]

  pub varint_place : (old new : Cursor) (r : Result ℤ ByteFault) → IsBytes (rest_of old) → Gives (λ z. z) old new r (grouped_at more limit old) → IfErr r (λ e. (e ≡ Short old.at) ⊎ (e ≡ LongVarint old.at))
  varint_place old new (Ok z) fits is = tt
  varint_place old new (Err e) fits is =
      elim (front_of more limit old fits) [
        | within n k are lt made ↦ let other : stood (unzigzag n) (moved old k) ≡ refused e = sym made ∙ is.0 in absurd cc
        | past long ↦ let same : refused e ≡ refused (LongVarint old.at) = sym is.0 ∙ long in inr cc
        | short ends made ↦ let same : refused e ≡ refused (Short old.at) = sym is.0 ∙ made in inl cc
      ]

-- ---- the two kinds

pub below_32 : (z : ℤ) → FitsSigned w32 z → zigzag z < 2 ^ 32
below_32 (pos n) fits = omega (arith, fits.sfits)
below_32 (negsuc n) fits = omega (arith, fits.sfits)

fits_32 : (z : ℤ) → zigzag z < 2 ^ 32 → FitsSigned w32 z
fits_32 (pos n) lt = record { sfits = omega arith }
fits_32 (negsuc n) lt = record { sfits = omega arith }

pub below_64 : (z : ℤ) → FitsSigned w64 z → zigzag z < 2 ^ 64
below_64 (pos n) fits = omega (arith, fits.sfits)
below_64 (negsuc n) fits = omega (arith, fits.sfits)

fits_64 : (z : ℤ) → zigzag z < 2 ^ 64 → FitsSigned w64 z
fits_64 (pos n) lt = record { sfits = omega arith }
fits_64 (negsuc n) lt = record { sfits = omega arith }

pub varint_kind : IsVarint w32 Varint 4 (2 ^ 32)
varint_kind = record { text = λ z. refl; room = lit≤ tt; below = below_32; fits = fits_32 }

pub varlong_kind : IsVarint w64 Varlong 9 (2 ^ 64)
varlong_kind = record { text = λ z. refl; room = lit≤ tt; below = below_64; fits = fits_64 }

-- What a fetch asks of one partition, as it is read: where the asker's log starts is told in some versions only.
use Rattle.std.proofs.Common.{◌≡◌, ℕ, Bool, true, false, ℤ, negsuc, List, [], ◌∷◌, Result, Ok, Err, refl, subst}
use Rattle.std.specs.Int.{w32, w64}
use Rattle.kbytes.specs.declared.fault.ByteFault.{ByteFault}
use Rattle.kbytes.specs.Cursor.{Cursor}
use Rattle.kbytes.specs.Reading.{integer_at}
use Rattle.kbytes.specs.Field.{Field, Int32, Int64}
use Rattle.kwire.specs.declared.frame.WireFault.{WireFault}
use Rattle.kwire.specs.declared.frame.WireFault.TheVariants.{BadRequest}
use Rattle.kwire.specs.Layouts.{INT32, INT64, Layout, End, ◌⨾◌}
use Rattle.kwire.specs.Apis.{only}
use Rattle.kwire.specs.IsRequest.{only_field}
use Rattle.kwire.proofs.ItemLoops.{fault_on}
use Rattle.kwire.specs.Reading.{ReadFields, place_of_fault, field_at, layout_at, IsFaultOf, Reads}

abbrev pub layout_by : Bool → Layout
layout_by b = INT32 ⨾ INT64 ⨾ only b INT64 (INT32 ⨾ End)

-- what reading where the asker's log starts gave
abbrev pub Told : Bool → Cursor → Cursor → Result ℤ WireFault → Type 0
Told b old new read = b ≡ true → Reads Int64 new read (field_at INT64 old)

abbrev pub Untold : Bool → Cursor → Cursor → Result ℤ WireFault → Type 0
Untold b old new read = b ≡ false → (read ≡ Ok (negsuc 0)) × (new ≡ old)

module _ (named : ℕ) (c d e f : Cursor) (index offset : ℤ) (one : integer_at w32 c ≡ Ok (index, d)) (two : integer_at w64 d ≡ Ok (offset, e)) where
  abbrev given : List Field → Cursor → ReadFields
  given fs g = Ok (fs, named, g)

  pub part_read : (b : Bool) (start most : ℤ) (g : Cursor) → Told b e f (Ok start) → Untold b e f (Ok start) → integer_at w32 f ≡ Ok (most, g)
      → layout_at (layout_by b) named c ≡ given (Int32 index ∷ Int64 offset ∷ only_field b (Int64 start) (Int32 most ∷ [])) g
  unfolding layout_at
  part_read true start most g told untold four = rw (one, two, told refl, four) refl
  part_read false start most g told untold four =
      let last : integer_at w32 e ≡ Ok (most, g) = subst (λ (x : Cursor). integer_at w32 x ≡ Ok (most, g)) (untold refl).1 four in
      rw (one, two, last) refl

  -- the same with a fault of the last field
  pub most_refused : (b : Bool) (start : ℤ) (why : ByteFault) → Told b e f (Ok start) → Untold b e f (Ok start) → integer_at w32 f ≡ Err why → layout_at (layout_by b) named c ≡ Err (BadRequest (place_of_fault why))
  unfolding layout_at
  most_refused true start why told untold four = rw (one, two, told refl, four) refl
  most_refused false start why told untold four =
      let last : integer_at w32 e ≡ Err why = subst (λ (x : Cursor). integer_at w32 x ≡ Err why) (untold refl).1 four in
      rw (one, two, last) refl

  start_stops : (why : WireFault) → field_at INT64 e ≡ Err why → layout_at (layout_by true) named c ≡ Err why
  unfolding layout_at
  start_stops why three = rw (one, two, three) refl

  -- and of where the asker's log starts
  pub start_refused : (b : Bool) (why : WireFault) → Told b e f (Err why) → Untold b e f (Err why) → IsFaultOf (layout_at (layout_by b) named c) why
  start_refused true why told untold = fault_on (field_at INT64 e) (layout_at (layout_by true) named c) start_stops why (told refl)
  start_refused false why told untold = let other = (untold refl).0 in absurd cc

abbrev found : ℤ → Result ℤ WireFault
found z = Ok z

pub given_same : (a b : ℤ) → found a ≡ found b → a ≡ b
given_same a b e = cc

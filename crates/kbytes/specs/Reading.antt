-- Reading a field from the left: its value and the place after it, or the first fault. That this is the field's
-- spelling read backwards is said by `Spells` in the contract of each reader.
use Rattle.std.specs.Prelude.{◌≡◌, ℕ, zero, suc, ◌+◌, ◌-◌, ◌*◌, ◌^◌, ◌/◌, ◌%◌, ℤ, pos, negsuc, List, [], ◌∷◌, ◌++◌, length, take, Option, Some, None, Result, Ok, Err, nat_lt, ◌==◌, if◌then◌else◌}
use Rattle.std.specs.Int.{Width, w16, w32, byte_len, from_be_bytes, cast_signed}
use Rattle.kbytes.specs.declared.fault.ByteFault.{ByteFault}
use Rattle.kbytes.specs.declared.fault.ByteFault.TheVariants.{Short, BadLength, LongVarint}
use Rattle.kbytes.specs.Cursor.{Cursor, rest_of, moved}
use Rattle.kbytes.specs.Field.{Field, field}

infixl 10 ◌>>=◌
abbrev pub ◌>>=◌ : {A B E : Type 0} → Result A E → (A → Result B E) → Result B E
(Ok x) >>= f = f x
(Err e) >>= f = Err e

-- A field of this spelling stands at the place of the cursor old, and new is behind it.
pub record Spells (old new : Cursor) (f : Field) : Type 0 where
  pub bytes : new.bytes ≡ old.bytes
  pub at : new.at ≡ old.at + length (field f)
  pub parts : rest_of old ≡ field f ++ rest_of new

-- What a reader answered, its value seen by `view`, and where it then stands, is what reading gives. A refused read
-- leaves it as it was.
abbrev pub Gives : {X Y E : Type 0} → (X → Y) → Cursor → Cursor → Result X E → Result (Y × Cursor) E → Type 0
Gives view old new (Ok x) read = read ≡ Ok (view x, new)
Gives view old new (Err e) read = (read ≡ Err e) × (new ≡ old)

abbrev pub unsigned_at : Width → Cursor → Result (ℕ × Cursor) ByteFault
unsigned_at w c =
    if nat_lt (length (rest_of c)) (byte_len w) then Err (Short c.at) else Ok (from_be_bytes w (take (byte_len w) (rest_of c)), moved c (byte_len w))

abbrev pub integer_at : Width → Cursor → Result (ℤ × Cursor) ByteFault
integer_at w c =
    if nat_lt (length (rest_of c)) (byte_len w) then Err (Short c.at) else Ok (cast_signed w (from_be_bytes w (take (byte_len w) (rest_of c))), moved c (byte_len w))

-- the bytes after a length that was read at `c`
abbrev pub after_length : Cursor → ℤ × Cursor → Result (Option (List ℕ) × Cursor) ByteFault
after_length c (pos n, d) = if nat_lt (length (rest_of d)) n then Err (Short c.at) else Ok (Some (take n (rest_of d)), moved d n)
after_length c (negsuc zero, d) = Ok (None, d)
after_length c (negsuc (suc k), d) = Err (BadLength c.at (negsuc (suc k)))

unfoldable pub sized_at : Width → Cursor → Result (Option (List ℕ) × Cursor) ByteFault
sized_at w c = integer_at w c >>= after_length c

-- the same where null isn't allowed
abbrev pub not_null : Cursor → Option (List ℕ) × Cursor → Result (List ℕ × Cursor) ByteFault
not_null c (None, d) = Err (BadLength c.at (negsuc 0))
not_null c (Some bytes, d) = Ok (bytes, d)

abbrev pub counted_after : Cursor → ℤ × Cursor → Result (List ℕ × Cursor) ByteFault
counted_after c led = after_length c led >>= not_null c

unfoldable pub string_at : Cursor → Result (List ℕ × Cursor) ByteFault
string_at c = sized_at w16 c >>= not_null c

abbrev pub count_from : Cursor → ℤ × Cursor → Result (Option ℕ × Cursor) ByteFault
count_from c (pos n, d) = Ok (Some n, d)
count_from c (negsuc zero, d) = Ok (None, d)
count_from c (negsuc (suc k), d) = Err (BadLength c.at (negsuc (suc k)))

unfoldable pub array_at : Cursor → Result (Option ℕ × Cursor) ByteFault
array_at c = integer_at w32 c >>= count_from c

-- 0, 1, 2, 3, 4 and so on stand for 0, -1, 1, -2, 2
abbrev pub unzigzag : ℕ → ℤ
unzigzag n = if n % 2 == 0 then pos (n / 2) else negsuc (n / 2)

-- the number of groups of seven bits at the front, at most `more` + 1 bytes, and how many bytes it takes
unfoldable pub groups_at : ℕ → ℕ → List ℕ → Result (ℕ × ℕ) ByteFault
groups_at place more [] = Err (Short place)
groups_at place zero (b ∷ bs) = if nat_lt b 128 then Ok (b, 1) else Err (LongVarint place)
groups_at place (suc more) (b ∷ bs) =
    if nat_lt b 128 then Ok (b, 1)
    else (groups_at place more bs >>= λ high. if high.0 == 0 then Err (LongVarint place) else Ok (b - 128 + 128 * high.0, high.1 + 1))

abbrev pub in_range : ℕ → Cursor → ℕ × ℕ → Result (ℤ × Cursor) ByteFault
in_range limit c number = if nat_lt number.0 limit then Ok (unzigzag number.0, moved c number.1) else Err (LongVarint c.at)

-- a number below the limit in groups, at most `more` + 1 bytes
abbrev pub grouped_at : ℕ → ℕ → Cursor → Result (ℤ × Cursor) ByteFault
grouped_at more limit c = groups_at c.at more (rest_of c) >>= in_range limit c

unfoldable pub varint_at : Cursor → Result (ℤ × Cursor) ByteFault
varint_at c = grouped_at 4 (2 ^ 32) c

unfoldable pub varlong_at : Cursor → Result (ℤ × Cursor) ByteFault
varlong_at c = grouped_at 9 (2 ^ 64) c

-- What has a spelling: the value lies in the range of its field.
use Rattle.std.specs.Prelude.{◌<◌, ◌^◌, length, IfSome, FitsSigned}
use Rattle.std.specs.Int.{w8, w16, w32, w64}
use Rattle.kbytes.specs.Field.{Field, Int8, Int16, Int32, Uint32, Int64, String, NullableString, Records, Array, Varint, Varlong}

abbrev pub FitsField : Field → Type 0
FitsField (Int8 z) = FitsSigned w8 z
FitsField (Int16 z) = FitsSigned w16 z
FitsField (Int32 z) = FitsSigned w32 z
FitsField (Uint32 n) = n < 2 ^ 32
FitsField (Int64 z) = FitsSigned w64 z
FitsField (String bytes) = length bytes < 2 ^ 15
FitsField (NullableString bytes) = IfSome bytes (λ b. length b < 2 ^ 15)
FitsField (Records bytes) = IfSome bytes (λ b. length b < 2 ^ 31)
FitsField (Array count) = IfSome count (λ n. n < 2 ^ 31)
FitsField (Varint z) = FitsSigned w32 z
FitsField (Varlong z) = FitsSigned w64 z

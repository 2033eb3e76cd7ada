-- Which replies have a frame: each field is in its range, and the frame has fewer than 2,147,483,648 bytes after its size.
use Rattle.std.specs.Prelude.{◌+◌, ◌<◌, ◌^◌, List, length, IfSome, ⊤}
use Rattle.std.specs.List.{AllByRecursion}
use Rattle.kbytes.specs.Field.{Field, Int8, Int16, Int32, Uint32, Int64, String, NullableString, Records, Array, Varint, Varlong}
use Rattle.kwire.specs.Spelling.{told_fields, spelling}
use Rattle.kwire.specs.declared.reply.Reply.{Reply}

-- a length or a count that its prefix can say; an integer of a reply is in the range of its type anyway
abbrev pub HasShortLength : Field → Type 0
HasShortLength (Int8 z) = ⊤
HasShortLength (Int16 z) = ⊤
HasShortLength (Int32 z) = ⊤
HasShortLength (Uint32 n) = ⊤
HasShortLength (Int64 z) = ⊤
HasShortLength (String bytes) = length bytes < 2 ^ 15
HasShortLength (NullableString bytes) = IfSome bytes (λ b. length b < 2 ^ 15)
HasShortLength (Records bytes) = IfSome bytes (λ b. length b < 2 ^ 31)
HasShortLength (Array count) = IfSome count (λ n. n < 2 ^ 31)
HasShortLength (Varint z) = ⊤
HasShortLength (Varlong z) = ⊤

-- names have at most 32,767 bytes, counts and lengths of records are below 2,147,483,648
abbrev pub AreInRange : List Field → Type 0
AreInRange all = AllByRecursion HasShortLength all

pub record IsSpellable (reply : Reply) : Type 0 where
  pub in_range : AreInRange (told_fields reply.told)
  pub short : length (spelling reply) < 2 ^ 31 + 4

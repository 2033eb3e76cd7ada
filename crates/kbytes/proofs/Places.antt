-- A field stands at a place where the bytes from there begin with its spelling.
use Rattle.std.proofs.Common.{◌≡◌, ℕ, ◌≤◌, length, take, drop, sym, ap, ◌∙◌, arith}
use Rattle.std.proofs.lemmas.List.{take-append-drop, length-take, drop-drop}
use Rattle.kbytes.specs.Cursor.{Cursor, rest_of, moved}
use Rattle.kbytes.specs.Field.{Field, field}
use Rattle.kbytes.specs.Reading.{Spells}

pub Spells-from_front : (old new : Cursor) (f : Field) (count : ℕ) → count ≤ length (rest_of old) → field f ≡ take count (rest_of old) → new ≡ moved old count → Spells old new f
Spells-from_front old new f count le text e =
    let long : length (field f) ≡ count = rw text (omega (arith, length-take count (rest_of old))) in
    let rest : rest_of new ≡ drop count (rest_of old) = ap rest_of e ∙ sym (drop-drop count old.at old.bytes) in
    record {
      bytes = ap (λ (c : Cursor). c.bytes) e;
      at = rw long (ap (λ (c : Cursor). c.at) e);
      parts = rw (text, rest) (sym (take-append-drop count (rest_of old)));
    }

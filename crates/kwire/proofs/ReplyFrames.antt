-- A reply's frame that was begun, with its fields after the beginning.
use Rattle.std.proofs.Common.{◌≡◌, ℕ, ◌+◌, ◌<◌, ◌≤◌, ◌^◌, pos, List, [], ◌∷◌, ◌++◌, length, drop, ap, ◌∙◌, arith}
use Rattle.kbytes.specs.Field.{Int32, fields}
use Rattle.kwire.specs.Frames.{framed}
use Rattle.kwire.specs.Spelling.{told_fields, spelling}
use Rattle.kwire.specs.IsSpellable.{IsSpellable}
use Rattle.kwire.specs.declared.reply.Reply.{Reply}
use Rattle.kwire.proofs.Spelled.{Put}

module _ (reply : Reply) (begun whole : List ℕ) (first : begun ≡ fields (Int32 (pos 0) ∷ Int32 reply.correlation ∷ [])) (next : Put begun whole (told_fields reply.told)) where
  abbrev told : List ℕ
  told = fields (told_fields reply.told)

  parts : whole ≡ fields (Int32 (pos 0) ∷ Int32 reply.correlation ∷ []) ++ told
  parts = next ∙ ap (λ (bytes : List ℕ). bytes ++ told) first

  frame_length : length whole ≡ 8 + length told
  frame_length = omega (arith, ap length parts)

  pub has_size : 4 ≤ length whole
  has_size = omega (arith, frame_length)

  pub frame_short : IsSpellable reply → length whole < 2 ^ 31 + 4
  frame_short is = omega (arith, frame_length, is.short)

  pub frame_spelled : framed (drop 4 whole) ≡ spelling reply
  frame_spelled = ap (λ (bytes : List ℕ). framed (drop 4 bytes)) parts

-- A frame that was begun, with its body after the size.
use Rattle.std.proofs.Common.{◌≡◌, ℕ, ◌+◌, pos, List, ◌++◌, length, drop, ap, ◌∙◌, arith}
use Rattle.kbytes.specs.Field.{Int32, field}
use Rattle.kwire.specs.Frames.{framed}

module _ (begun whole body : List ℕ) (first : begun ≡ field (Int32 (pos 0))) (next : whole ≡ begun ++ body) where
  parts : whole ≡ field (Int32 (pos 0)) ++ body
  parts = next ∙ ap (λ (bytes : List ℕ). bytes ++ body) first

  pub frame_length : length whole ≡ 4 + length body
  frame_length = omega (arith, ap length parts)

  pub frame_of_body : framed (drop 4 whole) ≡ framed body
  frame_of_body = ap (λ (bytes : List ℕ). framed (drop 4 bytes)) parts

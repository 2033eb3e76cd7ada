use Rattle.std.proofs.Common.{◌≡◌, ℕ, ◌<◌, ◌^◌, List, get_or, arith, ap, sym, ◌∙◌}
use Rattle.std.specs.Int.Bits.{bit_xor}
use Rattle.std.proofs.lemmas.Nat.{xor_lt}
use Rattle.kbatch.specs.Zeros.{after_zeros}
use Rattle.kbatch.proofs.Slices.{eight-added, eight-bytes, number-eight, number_of}
use Rattle.kbatch.proofs.crc.after_eight.Goals as goal

pub returns : goal.returns
returns c =
    let bs = c.args.part.now in
    let x : ℕ = bit_xor c.from_le_bytes-word.result c.from.result in
    let word : c.from_le_bytes-word.result ≡ number_of bs = c.from_le_bytes-word.ensures ∙ number-eight bs c.requires in
    let is : x ≡ bit_xor (number_of bs) c.args.remainder = ap (λ n. bit_xor n c.from.result) word ∙ ap (bit_xor (number_of bs)) c.from.ensures in
    let lt : x < 2 ^ 64 = xor_lt 64 c.from_le_bytes-word.result c.from.result (omega arith) (omega arith) in
    let low : (i : ℕ) → get_or bs i 0 < 256 = λ i. omega (arith, c.type_inv.part i) in
    let at = λ (n i : ℕ). ap (λ (l : List ℕ). after_zeros n (get_or l i 0)) c.to_le_bytes.ensures in
    rw (c.remainder_of.ensures ∙ at 64 0, c.remainder_of-2.ensures ∙ at 56 1, c.remainder_of-3.ensures ∙ at 48 2, c.remainder_of-4.ensures ∙ at 40 3, c.remainder_of-5.ensures ∙ at 32 4, c.remainder_of-6.ensures ∙ at 24 5, c.remainder_of-7.ensures ∙ at 16 6, c.remainder_of-8.ensures ∙ at 8 7)
    (sym (eight-bytes x lt) ∙ eight-added c.args.remainder x bs low c.requires is lt)

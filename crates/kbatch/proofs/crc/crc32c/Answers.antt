use Rattle.std.proofs.Common.{◌≡◌, ◌+◌, [], ◌∷◌, ◌++◌, ℕ, get_or, take, drop, fold, ap, sym, ◌∙◌}
use Rattle.std.specs.Int.Bits.{bit_xor}
use Rattle.std.proofs.lemmas.List.{take-append-drop, drop_more}
use Rattle.std.proofs.Math.ListN.{drop_of_length-le}
use Rattle.kbatch.specs.Crc.{after_bit, all_ones, message_bits, crc32c_of}
use Rattle.kbatch.proofs.Slices.{parts-added}
use Rattle.kbatch.proofs.crc.crc32c.Goals as goal

pub loop-rest-preserved : goal.loop-rest-preserved
loop-rest-preserved c =
    let rest = c.loop-rest.rest.now in
    let front = c.split_at.result.0.now in
    let back = c.split_at.result.1.now in
    let all : front ++ back ≡ rest = ap (λ l. l ++ back) c.split_at.ensures.front ∙ ap (λ l. take 8 rest ++ l) c.split_at.ensures.back ∙ take-append-drop 8 rest in
    ap (λ r. fold after_bit r (message_bits back)) c.after_eight-remainder.ensures ∙ parts-added c.loop-rest.remainder front back rest all ∙ c.loop-rest.invariant

pub loop-byte-preserved : goal.loop-byte-preserved
loop-byte-preserved c =
    let rest = c.loop-rest.rest.now in
    let i = c.loop-byte.byte-index in
    let byte : ℕ = get_or rest i 0 in
    let all : (byte ∷ []) ++ drop (i + 1) rest ≡ drop i rest = sym (drop_more rest i 0 c.loop-byte-test.true) in
    ap (λ r. fold after_bit r (message_bits (drop (i + 1) rest))) c.after_byte-remainder.ensures ∙ parts-added c.loop-byte.remainder (byte ∷ []) (drop (i + 1) rest) (drop i rest) all ∙ c.loop-byte.invariant

pub returns : goal.returns
unfolding crc32c_of
returns c =
    let rest = c.loop-rest.rest.now in
    let none : drop c.loop-byte.byte-index rest ≡ [] = drop_of_length-le rest c.loop-byte-test.false in
    let done : c.loop-byte.remainder ≡ fold after_bit all_ones (message_bits c.args.bytes.now) = ap (λ l. fold after_bit c.loop-byte.remainder (message_bits l)) (sym none) ∙ c.loop-byte.invariant in
    ap (λ r. bit_xor r all_ones) done

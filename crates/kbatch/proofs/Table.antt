-- The table has the remainders of bytes with zeros behind them: a computed test.
use Rattle.std.proofs.Common.{◌≡◌, ℕ, zero, suc, ◌+◌, ◌*◌, ◌<◌, List, [], ◌∷◌, length, map, get_or, refl, ap, ◌∙◌, arith}
use Rattle.std.specs.List.{range_with_len}
use Rattle.std.proofs.lemmas.List.{get_or-map, length-map}
use Rattle.std.proofs.lemmas.List.FromFn.{get_or-range_with_len}
use Rattle.kbatch.specs.Crc.{after_bit}
use Rattle.kbatch.specs.Zeros.{after_zeros}
use Rattle.kbatch.proofs.Slices.{zeros-add}
use Rattle.kbatch.specs.declared.remainders.TheConstants.{REMAINDERS}

-- each row is the one before it with eight more zeros
abbrev pub rows_from : ℕ → List ℕ → List (List ℕ)
rows_from zero row = []
rows_from (suc more) row = let next : List ℕ = map (after_zeros 8) row in next ∷ rows_from more next

pub table-is : REMAINDERS ≡ rows_from 8 (range_with_len 0 256)
unfolding after_zeros after_bit
table-is = refl

size_of : (row : List ℕ) → length (map (after_zeros 8) row) ≡ length row
size_of row = length-map row (after_zeros 8)

rows-at : (d : List ℕ) (n k i : ℕ) (row : List ℕ) → k < n → i < length row → get_or (get_or (rows_from n row) k d) i 0 ≡ after_zeros (8 * (k + 1)) (get_or row i 0)
rows-at d zero k i row lt within = absurd (omega arith)
rows-at d (suc n) zero i row lt within = get_or-map (after_zeros 8) row i 0 0 within
rows-at d (suc n) (suc k) i row lt within =
    let next : List ℕ = map (after_zeros 8) row in
    let size : 8 + 8 * (k + 1) ≡ 8 * (suc k + 1) = omega arith in
    rows-at d n k i next (omega arith) (omega (arith, size_of row))
    ∙ ap (after_zeros (8 * (k + 1))) (get_or-map (after_zeros 8) row i 0 0 within)
    ∙ zeros-add 8 (8 * (k + 1)) (get_or row i 0) ∙ ap (λ m. after_zeros m (get_or row i 0)) size

pub entry-is : (d : List ℕ) (zeros byte : ℕ) → zeros < 8 → byte < 256 → get_or (get_or REMAINDERS zeros d) byte 0 ≡ after_zeros (8 * (zeros + 1)) byte
entry-is d zeros byte few low =
    ap (λ t. get_or (get_or t zeros d) byte 0) table-is
    ∙ rows-at d 8 zeros byte (range_with_len 0 256) few low
    ∙ ap (after_zeros (8 * (zeros + 1))) (get_or-range_with_len 0 256 byte 0 low ∙ omega arith)

-- What the bits of a message leave, by zeros: the remainder after bits is that of zeros, once the bits were added to it.
use Rattle.std.proofs.Common.{◌≡◌, ◌≢◌, ℕ, zero, suc, ◌+◌, ◌*◌, ◌/◌, ◌%◌, ◌^◌, ◌<◌, ◌⊎◌, inl, inr, List, [], ◌∷◌, ◌++◌, length, get_or, fold, refl, ap, sym, ◌∙◌, arith, append-nil}
use Rattle.std.specs.Int.{from_le_bytes, w64}
use Rattle.std.specs.Int.Bits.{bit_xor}
use Rattle.std.proofs.lemmas.Bool.{cases_lt}
use Rattle.std.proofs.lemmas.Bool.Decides.{nat_tests}
use Rattle.std.proofs.lemmas.List.Sums.{fold-append}
use Rattle.std.proofs.lemmas.Grind.{flat_map-append}
use Rattle.std.proofs.lemmas.Nat.{xor_comm, xor_shr, xor_mod}
use Rattle.std.proofs.Math.Nat.{mul_assoc, pow-suc}
use lib.Bits.{xor_assoc, xor_self, xor_shifted, xor_zero_r}
use Rattle.kbatch.specs.Crc.{after_bit, bits_of, message_bits, polynomial}
use Rattle.kbatch.specs.Zeros.{after_zeros}

parity : (n : ℕ) → (n % 2 ≡ 0) ⊎ (n % 2 ≡ 1)
parity n = elim (cases_lt (n % 2) 1) [ inl low ↦ inl (omega arith) | inr high ↦ inr (omega arith) ]

same : (r bit : ℕ) → r % 2 ≡ bit → after_bit r bit ≡ r / 2
unfolding after_bit
same r bit e = grind (arith, nat_tests)

other : (r bit : ℕ) → r % 2 ≢ bit → after_bit r bit ≡ bit_xor (r / 2) polynomial
unfolding after_bit
other r bit e = grind (arith, nat_tests)

swap : (a b c : ℕ) → bit_xor (bit_xor a b) c ≡ bit_xor (bit_xor a c) b
swap a b c = xor_assoc a b c ∙ ap (bit_xor a) (xor_comm b c) ∙ sym (xor_assoc a c b)

twice : (a b : ℕ) → bit_xor (bit_xor a b) b ≡ a
twice a b = xor_assoc a b b ∙ ap (bit_xor a) (xor_self b) ∙ xor_zero_r a

-- a bit may be added to the remainder, and the bits behind it too
turn : (r m : ℕ) → after_bit (bit_xor r m) 0 ≡ bit_xor (after_bit r (m % 2)) (m / 2)
turn r m = elim (parity r) [
  | inl even ↦ elim (parity m) [
    | inl zero_bit ↦ alike (even ∙ sym zero_bit) (ap (λ x. bit_xor x (m % 2)) even ∙ zero_bit)
    | inr one_bit ↦ unlike (λ e. absurd (omega (arith, e, even, one_bit))) (ap (λ x. bit_xor x (m % 2)) even ∙ one_bit)
  ]
  | inr odd ↦ elim (parity m) [
    | inl zero_bit ↦ unlike (λ e. absurd (omega (arith, e, odd, zero_bit))) (ap (λ x. bit_xor x (m % 2)) odd ∙ ap (bit_xor 1) zero_bit)
    | inr one_bit ↦ alike (odd ∙ sym one_bit) (ap (λ x. bit_xor x (m % 2)) odd ∙ ap (bit_xor 1) one_bit)
  ]
]
  where
    alike : r % 2 ≡ m % 2 → bit_xor (r % 2) (m % 2) ≡ 0 → after_bit (bit_xor r m) 0 ≡ bit_xor (after_bit r (m % 2)) (m / 2)
    alike e low = same (bit_xor r m) 0 (xor_mod r m 1 ∙ low) ∙ xor_shr r m 1 ∙ ap (λ x. bit_xor x (m / 2)) (sym (same r (m % 2) e))

    unlike : r % 2 ≢ m % 2 → bit_xor (r % 2) (m % 2) ≡ 1 → after_bit (bit_xor r m) 0 ≡ bit_xor (after_bit r (m % 2)) (m / 2)
    unlike e low =
        let high : bit_xor r m % 2 ≡ 1 = xor_mod r m 1 ∙ low in
        other (bit_xor r m) 0 (λ z. absurd (omega (arith, z, high))) ∙ ap (λ x. bit_xor x polynomial) (xor_shr r m 1) ∙ swap (r / 2) (m / 2) polynomial ∙ ap (λ x. bit_xor x (m / 2)) (sym (other r (m % 2) e))

flip : (r : ℕ) → after_bit r 1 ≡ bit_xor (after_bit r 0) polynomial
flip r = elim (parity r) [
  | inl even ↦ other r 1 (λ e. absurd (omega (arith, e, even))) ∙ ap (λ x. bit_xor x polynomial) (sym (same r 0 even))
  | inr odd ↦ same r 1 odd ∙ sym (ap (λ x. bit_xor x polynomial) (other r 0 (λ e. absurd (omega (arith, e, odd)))) ∙ twice (r / 2) polynomial)
]

linear : (a b : ℕ) → after_bit (bit_xor a b) 0 ≡ bit_xor (after_bit a 0) (after_bit b 0)
linear a b = elim (parity b) [
  | inl even ↦ turn a b ∙ ap (λ x. bit_xor (after_bit a x) (b / 2)) even ∙ ap (bit_xor (after_bit a 0)) (sym (same b 0 even))
  | inr odd ↦
      turn a b ∙ ap (λ x. bit_xor (after_bit a x) (b / 2)) odd ∙ ap (λ x. bit_xor x (b / 2)) (flip a) ∙ xor_assoc (after_bit a 0) polynomial (b / 2)
      ∙ ap (bit_xor (after_bit a 0)) (xor_comm polynomial (b / 2) ∙ sym (other b 0 (λ e. absurd (omega (arith, e, odd)))))
]

zeros-xor : (n a b : ℕ) → after_zeros n (bit_xor a b) ≡ bit_xor (after_zeros n a) (after_zeros n b)
unfolding after_zeros
zeros-xor zero a b = refl
zeros-xor (suc n) a b = ap (after_zeros n) (linear a b) ∙ zeros-xor n (after_bit a 0) (after_bit b 0)

pub zeros-add : (m n r : ℕ) → after_zeros n (after_zeros m r) ≡ after_zeros (m + n) r
unfolding after_zeros
zeros-add zero n r = let all : n ≡ 0 + n = omega arith in ap (λ k. after_zeros k r) all
zeros-add (suc m) n r =
    let more : suc (m + n) ≡ suc m + n = omega arith in
    zeros-add m n (after_bit r 0) ∙ ap (λ k. after_zeros k r) more

zeros-shift : (k high : ℕ) → after_zeros k (high * 2 ^ k) ≡ high
unfolding after_zeros
zeros-shift zero high = omega arith
zeros-shift (suc k) high =
    let double : high * 2 ^ suc k ≡ high * 2 ^ k * 2 = ap (λ x. high * x) (pow-suc 2 k) ∙ sym (mul_assoc high (2 ^ k) 2) in
    let half : high * 2 ^ k * 2 / 2 ≡ high * 2 ^ k = omega arith in
    let even : high * 2 ^ k * 2 % 2 ≡ 0 = omega arith in
    ap (after_zeros k) (ap (λ x. after_bit x 0) double ∙ same (high * 2 ^ k * 2) 0 even ∙ half) ∙ zeros-shift k high

-- the bits of a number that has no more of them
bits-added : (n r m : ℕ) → m < 2 ^ n → fold after_bit r (bits_of n m) ≡ after_zeros n (bit_xor r m)
unfolding after_zeros bits_of
bits-added zero r m lt =
    let none : 0 ≡ m = omega (arith, lt) in
    sym (xor_zero_r r) ∙ ap (bit_xor r) none
bits-added (suc n) r m lt =
    let double : 2 ^ suc n ≡ 2 ^ n * 2 = pow-suc 2 n in
    bits-added n (after_bit r (m % 2)) (m / 2) (omega arith) ∙ ap (after_zeros n) (sym (turn r m))

-- the lowest byte of what is added, and those above it
pub lowest : (n x : ℕ) → after_zeros (8 * (n + 1)) x ≡ bit_xor (after_zeros (8 * (n + 1)) (x % 256)) (after_zeros (8 * n) (x / 256))
lowest n x =
    let high : ℕ = x / 256 in
    let parts : x ≡ bit_xor (high * 256) (x % 256) = sym (xor_shifted high 8 (x % 256) (omega arith) ∙ omega arith) in
    let size : 8 * (n + 1) ≡ 8 + 8 * n = omega arith in
    let above : after_zeros (8 * (n + 1)) (high * 256) ≡ after_zeros (8 * n) high = ap (λ k. after_zeros k (high * 256)) size ∙ sym (zeros-add 8 (8 * n) (high * 256)) ∙ ap (after_zeros (8 * n)) (zeros-shift 8 high) in
    ap (after_zeros (8 * (n + 1))) parts ∙ zeros-xor (8 * (n + 1)) (high * 256) (x % 256) ∙ ap (λ y. bit_xor y (after_zeros (8 * (n + 1)) (x % 256))) above ∙ xor_comm (after_zeros (8 * n) high) (after_zeros (8 * (n + 1)) (x % 256))

-- a byte
pub one-added : (r b : ℕ) → b < 256 → bit_xor (after_zeros 8 (bit_xor r b % 256)) (bit_xor r b / 256) ≡ fold after_bit r (bits_of 8 b ++ [])
unfolding after_zeros
one-added r b low = sym (ap (fold after_bit r) (append-nil (bits_of 8 b)) ∙ bits-added 8 r b low ∙ lowest 0 (bit_xor r b))

-- a number by its bytes, the lowest first
abbrev pub number_of : List ℕ → ℕ
number_of [] = 0
number_of (b ∷ bs) = number_of bs * 256 + b

pub message-added : (r : ℕ) (bs : List ℕ) → ((i : ℕ) → get_or bs i 0 < 256) → fold after_bit r (message_bits bs) ≡ after_zeros (8 * length bs) (bit_xor r (number_of bs))
unfolding after_zeros
message-added r [] low = sym (xor_zero_r r)
message-added r (b ∷ bs) low =
    let high : ℕ = number_of bs in
    let first : ℕ = after_zeros 8 (bit_xor r b) in
    let size : 8 + 8 * length bs ≡ 8 * length (b ∷ bs) = omega arith in
    let whole : bit_xor (bit_xor r b) (high * 256) ≡ bit_xor r (high * 256 + b) = xor_assoc r b (high * 256) ∙ ap (bit_xor r) (xor_comm b (high * 256) ∙ xor_shifted high 8 b (low 0)) in
    fold-append after_bit r (bits_of 8 b) (message_bits bs)
    ∙ ap (λ x. fold after_bit x (message_bits bs)) (bits-added 8 r b (low 0))
    ∙ message-added first bs (λ i. low (suc i))
    ∙ ap (after_zeros (8 * length bs)) (ap (bit_xor first) (sym (zeros-shift 8 high)) ∙ sym (zeros-xor 8 (bit_xor r b) (high * 256)) ∙ ap (after_zeros 8) whole)
    ∙ zeros-add 8 (8 * length bs) (bit_xor r (high * 256 + b)) ∙ ap (λ k. after_zeros k (bit_xor r (high * 256 + b))) size

-- one more byte of those that are left
more : (acc n x y : ℕ) → x / 256 ≡ y → bit_xor acc (after_zeros (8 * (n + 1)) x) ≡ bit_xor (bit_xor acc (after_zeros (8 * (n + 1)) (x % 256))) (after_zeros (8 * n) y)
more acc n x y e = ap (bit_xor acc) (lowest n x ∙ ap (λ z. bit_xor (after_zeros (8 * (n + 1)) (x % 256)) (after_zeros (8 * n) z)) e) ∙ sym (xor_assoc acc (after_zeros (8 * (n + 1)) (x % 256)) (after_zeros (8 * n) y))

pub eight-bytes : (x : ℕ) → x < 2 ^ 64 → after_zeros 64 x ≡ bit_xor (bit_xor (bit_xor (bit_xor (bit_xor (bit_xor (bit_xor (after_zeros 64 (x % 256)) (after_zeros 56 (x / 256 ^ 1 % 256))) (after_zeros 48 (x / 256 ^ 2 % 256))) (after_zeros 40 (x / 256 ^ 3 % 256))) (after_zeros 32 (x / 256 ^ 4 % 256))) (after_zeros 24 (x / 256 ^ 5 % 256))) (after_zeros 16 (x / 256 ^ 6 % 256))) (after_zeros 8 (x / 256 ^ 7 % 256))
unfolding after_zeros
eight-bytes x lt =
    let none : x / 256 ^ 7 / 256 ≡ 0 = omega arith in
    lowest 7 x
    ∙ more (after_zeros 64 (x % 256)) 6 (x / 256 ^ 1) (x / 256 ^ 2) (omega arith)
    ∙ more (bit_xor (after_zeros 64 (x % 256)) (after_zeros 56 (x / 256 ^ 1 % 256))) 5 (x / 256 ^ 2) (x / 256 ^ 3) (omega arith)
    ∙ more (bit_xor (bit_xor (after_zeros 64 (x % 256)) (after_zeros 56 (x / 256 ^ 1 % 256))) (after_zeros 48 (x / 256 ^ 2 % 256))) 4 (x / 256 ^ 3) (x / 256 ^ 4) (omega arith)
    ∙ more (bit_xor (bit_xor (bit_xor (after_zeros 64 (x % 256)) (after_zeros 56 (x / 256 ^ 1 % 256))) (after_zeros 48 (x / 256 ^ 2 % 256))) (after_zeros 40 (x / 256 ^ 3 % 256))) 3 (x / 256 ^ 4) (x / 256 ^ 5) (omega arith)
    ∙ more (bit_xor (bit_xor (bit_xor (bit_xor (after_zeros 64 (x % 256)) (after_zeros 56 (x / 256 ^ 1 % 256))) (after_zeros 48 (x / 256 ^ 2 % 256))) (after_zeros 40 (x / 256 ^ 3 % 256))) (after_zeros 32 (x / 256 ^ 4 % 256))) 2 (x / 256 ^ 5) (x / 256 ^ 6) (omega arith)
    ∙ more (bit_xor (bit_xor (bit_xor (bit_xor (bit_xor (after_zeros 64 (x % 256)) (after_zeros 56 (x / 256 ^ 1 % 256))) (after_zeros 48 (x / 256 ^ 2 % 256))) (after_zeros 40 (x / 256 ^ 3 % 256))) (after_zeros 32 (x / 256 ^ 4 % 256))) (after_zeros 24 (x / 256 ^ 5 % 256))) 1 (x / 256 ^ 6) (x / 256 ^ 7) (omega arith)
    ∙ more (bit_xor (bit_xor (bit_xor (bit_xor (bit_xor (bit_xor (after_zeros 64 (x % 256)) (after_zeros 56 (x / 256 ^ 1 % 256))) (after_zeros 48 (x / 256 ^ 2 % 256))) (after_zeros 40 (x / 256 ^ 3 % 256))) (after_zeros 32 (x / 256 ^ 4 % 256))) (after_zeros 24 (x / 256 ^ 5 % 256))) (after_zeros 16 (x / 256 ^ 6 % 256))) 0 (x / 256 ^ 7) 0 none
    ∙ xor_zero_r _

pub number-eight : (bs : List ℕ) → length bs ≡ 8 → from_le_bytes w64 (get_or bs 0 0 ∷ get_or bs 1 0 ∷ get_or bs 2 0 ∷ get_or bs 3 0 ∷ get_or bs 4 0 ∷ get_or bs 5 0 ∷ get_or bs 6 0 ∷ get_or bs 7 0 ∷ []) ≡ number_of bs
number-eight (a ∷ b ∷ c ∷ d ∷ e ∷ f ∷ g ∷ h ∷ []) size = omega arith
number-eight bs size = absurd (omega arith)

-- eight bytes, from the number that they and the remainder make
pub eight-added : (r x : ℕ) (bs : List ℕ) → ((i : ℕ) → get_or bs i 0 < 256) → length bs ≡ 8 → x ≡ bit_xor (number_of bs) r → x < 2 ^ 64 → after_zeros 64 x ≡ fold after_bit r (message_bits bs)
eight-added r x bs low size is lt =
    let all : 64 ≡ 8 * length bs = omega arith in
    ap (after_zeros 64) (is ∙ xor_comm (number_of bs) r) ∙ ap (λ k. after_zeros k (bit_xor r (number_of bs))) all ∙ sym (message-added r bs low)

-- a message is taken part by part
pub parts-added : (r : ℕ) (front back all : List ℕ) → front ++ back ≡ all → fold after_bit (fold after_bit r (message_bits front)) (message_bits back) ≡ fold after_bit r (message_bits all)
parts-added r front back all e =
    sym (fold-append after_bit r (message_bits front) (message_bits back)) ∙ ap (fold after_bit r) (sym (flat_map-append (bits_of 8) front back)) ∙ ap (λ l. fold after_bit r (message_bits l)) e

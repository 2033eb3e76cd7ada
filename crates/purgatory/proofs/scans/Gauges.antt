-- A shard's gauges, and their keys.
use Rattle.std.proofs.Common.{◌≡◌, ◌≢◌, ◌∙◌, ℕ, ◌-◌, ◌/◌, ◌%◌, ◌<◌, ◌≤◌, cond, ap, refl, sym, arith}
use Rattle.std.proofs.lemmas.Bool.{eq-eqb, ne_eqb}
use Rattle.room_core.specs.declared.shape.Shape.{Shape}
use Rattle.room_core.specs.Gauges.{IsGaugeOf, IsShape, clock_of, scanner_of}
use Rattle.room_core.specs.Numbers.{clock_scanner}
use Rattle.purgatory.specs.scans.ShardKeeps.{gauge_of_key}

-- which scanner has a gauge that isn't the clock
scanner_is : (shape : Shape) (gauge : ℕ) → shape.scanners ≡ 17 → gauge ≢ clock_of shape → scanner_of shape gauge ≡ gauge % 16
unfolding scanner_of
scanner_is shape gauge all n =
    ap (λ b. cond b clock_scanner (gauge % (shape.scanners - 1))) (ne_eqb gauge (shape.gauges - 1) n) ∙ ap (λ s. gauge % (s - 1)) all

pub clock_is : (shape : Shape) → scanner_of shape (clock_of shape) ≡ clock_scanner
unfolding scanner_of
clock_is shape = ap (λ b. cond b clock_scanner (clock_of shape % (shape.scanners - 1))) (eq-eqb (clock_of shape) (clock_of shape) refl)

pub gauge_owned : (shape : Shape) (k gauge : ℕ) → shape.scanners ≡ 17 → gauge < shape.gauges - 1 → gauge % 16 ≡ k → IsGaugeOf shape k gauge × (gauge ≢ clock_of shape)
gauge_owned shape k gauge all less is =
    let n : gauge ≢ clock_of shape = λ e. omega (arith, e, less) in
    (record { there = omega (arith, less); scans = scanner_is shape gauge all n ∙ is }, n)

pub owner_is : (shape : Shape) (k gauge : ℕ) → shape.scanners ≡ 17 → IsGaugeOf shape k gauge → gauge ≢ clock_of shape → gauge % 16 ≡ k
owner_is shape k gauge all own n = sym (scanner_is shape gauge all n) ∙ own.scans

-- a shard's gauge isn't the clock
pub not_clock : (shape : Shape) (k gauge : ℕ) → k < clock_scanner → IsGaugeOf shape k gauge → gauge ≢ clock_of shape
not_clock shape k gauge few own e =
    let is : k ≡ 16 = sym own.scans ∙ ap (scanner_of shape) e ∙ clock_is shape in
    omega (arith, is, few)

-- its key
pub key_is : (shape : Shape) (k gauge : ℕ) → shape.scanners ≡ 17 → k < clock_scanner → IsGaugeOf shape k gauge → gauge ≡ gauge_of_key k (gauge / 16)
key_is shape k gauge all few own =
    let is = owner_is shape k gauge all own (not_clock shape k gauge few own) in
    omega (arith, is)

less_one : (gauge gauges : ℕ) → gauge < gauges → gauge ≢ gauges - 1 → gauges ≤ 193 → gauge < 192
less_one gauge gauges less n few = omega (arith, less, n, few)

pub key_few : (shape : Shape) (k gauge : ℕ) → IsShape shape → k < clock_scanner → IsGaugeOf shape k gauge → gauge / 16 < 12
key_few shape k gauge s few own =
    let n = not_clock shape k gauge few own in
    let there = own.there in
    let most = s.few_gauges in
    let below : gauge < 192 = less_one gauge shape.gauges there n most in
    omega (arith, below)

-- the clock is its scanner's
pub clock_own : (shape : Shape) → IsShape shape → IsGaugeOf shape clock_scanner (clock_of shape)
clock_own shape s = let some = s.some_gauges in record { there = omega (arith, some); scans = clock_is shape }

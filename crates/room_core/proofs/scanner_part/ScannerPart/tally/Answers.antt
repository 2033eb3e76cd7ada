use Rattle.std.proofs.Common.{◌≡◌, ℕ, ◌+◌, add-one, arith, refl, ap, sym, subst, ◌∙◌}
use Rattle.opcond.specs.Tally.{counted}
use Rattle.room_core.specs.Description.{gauge_of, need_of, tally_below}
use Rattle.room_core.specs.Meetings.{words_of}
use Rattle.room_core.specs.Readings.{read_only}
use Rattle.room_core.specs.ScannerTables.{scanner_of}
use Rattle.room_core.proofs.scanner_part.ScannerPart.tally.Goals as goal

below_none : (words value : ℕ → ℕ) → 0 ≡ tally_below words value 0
unfolding tally_below
below_none words value = refl

below_more : (words value : ℕ → ℕ) (n sum count : ℕ) → sum ≡ tally_below words value n → count ≡ counted (need_of words n) (value (gauge_of words n)) → sum + count ≡ tally_below words value (n + 1)
unfolding tally_below
below_more words value n sum count e f =
    subst (λ m. sum + count ≡ tally_below words value m) (sym (add-one n))
    (ap (λ s. s + count) e ∙ ap (λ k. tally_below words value n + k) f)

pub loop-need-init : goal.loop-need-init
loop-need-init c = (below_none (words_of (scanner_of c.args.self.now)) (read_only (scanner_of c.args.self.now).readings), omega arith)

pub loop-need-preserved : goal.loop-need-preserved
loop-need-preserved c =
    let inv = c.loop-need.invariant in (
      below_more (words_of (scanner_of c.args.self.now)) (read_only (scanner_of c.args.self.now).readings) c.loop-need.need c.loop-need.sum c.from-sum.result inv.0 (c.from-sum.ensures ∙ c.counts.ensures),
      omega (arith, inv.1, c.from-sum.ensures),
    )

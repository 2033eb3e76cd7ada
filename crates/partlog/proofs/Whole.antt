-- The batches of a log and its history.
use Rattle.std.proofs.Common.{◌≡◌, ℕ, ◌+◌, ◌-◌, ◌≤◌, Bool, List, [], length, take, drop, nat_le, arith, sym, ap, ◌∙◌}
use Rattle.std.proofs.Math.Seq.{take-length}
use Rattle.partlog.specs.declared.event.PartEvent.{PartEvent}
use Rattle.partlog.specs.Added.{log_end_of}
use Rattle.partlog.specs.Batches.{batches_of, next_offset}
use Rattle.partlog.specs.Boundary.{IsBoundary}
use Rattle.partlog.specs.Gauges.{bytes_in, batches_below}
use Rattle.partlog.specs.Kept.{IsKept}
use Rattle.partlog.specs.Taken.{batches_past, batches_upto, joined, taken}
use Rattle.partlog.proofs.Appending.{bytes_in-batches}
use Rattle.partlog.proofs.Below.{below-boundary}
use Rattle.partlog.proofs.Bounds.{log_end-le-bytes, sum_by-filter-le}
use Rattle.partlog.proofs.Rows.{IsFull, IsRising, full-batches, rising-batches, joined-batches}
use Rattle.partlog.proofs.Taking.{taken-bytes, taken-within}

module _ (log : List ℕ) (events : List PartEvent) (kept : IsKept log events) where
  pub kept-full : IsFull (batches_of events log)
  kept-full = full-batches [] events log kept.dense (omega (arith, kept.whole))

  pub kept-rising : IsRising 0 (batches_of events log)
  kept-rising = rising-batches [] events log kept.dense

  pub kept-bytes : bytes_in (batches_of events log) ≡ length log
  kept-bytes = bytes_in-batches [] events log (omega (arith, kept.whole)) ∙ kept.whole

  pub kept-joined : joined (batches_of events log) ≡ log
  kept-joined = joined-batches [] events log ∙ ap (λ n. take n log) kept.whole ∙ take-length log

  pub kept-end : log_end_of events ≤ 67108864
  kept-end = omega (arith, log_end-le-bytes events kept.dense, kept.whole, kept.bounded)

  pub kept-boundary : (high place : ℕ) → place ≡ bytes_in (batches_below high (batches_of events log)) → IsBoundary place (batches_of events log)
  kept-boundary high place is =
      let at = below-boundary high 0 (batches_of events log) kept-full kept-rising in
      (at.0, is ∙ at.1)

  pub kept-below : (high place : ℕ) → place ≡ bytes_in (batches_below high (batches_of events log)) → place ≤ length log
  kept-below high place is =
      omega (arith, is, kept-bytes, sum_by-filter-le (λ b. length b.bytes) (λ b. nat_le (next_offset b) high) (batches_of events log))

  module _ (from start upto limit end : ℕ) (any : Bool) (at : start + bytes_in (batches_past from (batches_of events log)) ≡ length log) (ends : end ≡ start + bytes_in (taken limit any (batches_past from (batches_upto upto (batches_of events log))))) where
    pub read-within : (start ≤ end) × (end ≤ length log)
    read-within =
        let within = taken-within (batches_of events log) from start upto limit kept-full (at ∙ sym kept-bytes) any in
        let all = kept-bytes in
        (omega arith, omega arith)

    pub read-bytes : take (end - start) (drop start log) ≡ joined (taken limit any (batches_past from (batches_upto upto (batches_of events log))))
    read-bytes =
        let size : end - start ≡ bytes_in (taken limit any (batches_past from (batches_upto upto (batches_of events log)))) = omega arith in
        ap (λ n. take n (drop start log)) size
        ∙ ap (λ l. take (bytes_in (taken limit any (batches_past from (batches_upto upto (batches_of events log))))) (drop start l)) (sym kept-joined)
        ∙ sym (taken-bytes (batches_of events log) from start upto limit kept-full (at ∙ sym kept-bytes) any)

-- The numbers of a history, from what the scans of it give.
use Rattle.std.proofs.Common.{◌≡◌, ℕ, ◌≤◌, List, [], length, nat_le, arith, sym, ap, ◌∙◌}
use Rattle.partlog.specs.in_sync.InSync.{high_watermark_of, count_of}
use Rattle.partlog.specs.declared.event.PartEvent.{PartEvent}
use Rattle.partlog.specs.declared.numbers.Numbers.{Numbers}
use Rattle.partlog.specs.Added.{log_end_of, bytes_of}
use Rattle.partlog.specs.Batches.{batches_of, next_offset}
use Rattle.partlog.specs.Replicas.{replica_events}
use Rattle.partlog.specs.State.{state_of}
use Rattle.partlog.specs.Gauges.{bytes_in, batches_below, numbers_of}
use Rattle.partlog.specs.Kept.{IsKept}
use Rattle.partlog.proofs.Appending.{bytes_in-batches}
use Rattle.partlog.proofs.Bounds.{sum_by-filter-le}

same_numbers : (m n : Numbers) → m.end ≡ n.end → m.high ≡ n.high → m.visible ≡ n.visible → m.bytes ≡ n.bytes → m.insync ≡ n.insync → m ≡ n
same_numbers m n end high visible bytes insync =
    let a : m ≡ record m { end = n.end } = ap (λ (x : ℕ). record m { end = x }) end in
    let b : record m { end = n.end } ≡ record m { end = n.end; high = n.high } = ap (λ (x : ℕ). record m { end = n.end; high = x }) high in
    let c : record m { end = n.end; high = n.high } ≡ record m { end = n.end; high = n.high; visible = n.visible } = ap (λ (x : ℕ). record m { end = n.end; high = n.high; visible = x }) visible in
    let d : record m { end = n.end; high = n.high; visible = n.visible } ≡ record n { insync = m.insync } = ap (λ (x : ℕ). record n { bytes = x; insync = m.insync }) bytes in
    a ∙ b ∙ c ∙ d ∙ ap (λ (x : ℕ). record n { insync = x }) insync

-- what the scans give
pub record IsScanned (log : List ℕ) (followers : ℕ) (events : List PartEvent) (n : Numbers) : Type 0 where
  pub end : n.end ≡ log_end_of events
  pub high : n.high ≡ high_watermark_of followers (replica_events events)
  pub visible : n.visible ≡ bytes_in (batches_below n.high (batches_of events log))
  pub bytes : n.bytes ≡ length log
  pub insync : n.insync ≡ count_of followers (replica_events events)

pub numbers_are : (log : List ℕ) (followers : ℕ) (events : List PartEvent) (n : Numbers) → IsKept log events → IsScanned log followers events n → n ≡ numbers_of (state_of (record { log = log; followers = followers; events = events }))
numbers_are log followers events n kept seen =
    let visible : n.visible ≡ bytes_in (batches_below (high_watermark_of followers (replica_events events)) (batches_of events log)) = seen.visible ∙ ap (λ h. bytes_in (batches_below h (batches_of events log))) seen.high in
    let bytes : n.bytes ≡ bytes_in (batches_of events log) = seen.bytes ∙ sym kept.whole ∙ sym (bytes_in-batches [] events log (omega (arith, kept.whole))) in
    same_numbers n (numbers_of (state_of (record { log = log; followers = followers; events = events }))) seen.end seen.high visible bytes seen.insync

pub visible_within : (log : List ℕ) (followers : ℕ) (events : List PartEvent) (n : Numbers) → IsKept log events → IsScanned log followers events n → n.visible ≤ n.bytes
visible_within log followers events n kept seen =
    let within : bytes_in (batches_below n.high (batches_of events log)) ≤ bytes_in (batches_of events log) = sum_by-filter-le (λ b. length b.bytes) (λ b. nat_le (next_offset b) n.high) (batches_of events log) in
    let all : bytes_in (batches_of events log) ≡ bytes_of events = bytes_in-batches [] events log (omega (arith, kept.whole)) in
    omega (arith, within, all, seen.visible, seen.bytes, kept.whole)

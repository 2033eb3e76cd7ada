-- In a sound and quiet state value, asked and begun agree, and nobody has a duty: so no open operation is answerable.
use Rattle.std.proofs.Common.{⊎_elim, ◌≡◌, ℕ, ◌<◌, ◌≤◌, true, false, arith}
use Rattle.std.proofs.lemmas.Bool.{cases_lt}
use Rattle.room_core.specs.Gauges.{clock_of}
use Rattle.room_core.specs.Description.{gauge_of}
use Rattle.room_core.specs.Duty.{IsOpen, IsSatisfiedNow, IsOverdueNow, IsFoundByTally, IsLate, OwnerFinds, ShardFinds, ScannerFinds, FindsTally, FindsTime}
use Rattle.room_core.specs.Sound.{IsSound, IsOwed}
use Rattle.room_core.specs.Quiet.{IsQuiet}
use Rattle.room_core.specs.State.{State}
use Rattle.room_core.proofs.Dropping.{no_duty}

module _ (s : State) (h : IsSound s) (q : IsQuiet s) where
  heard : (gauge : ℕ) → s.value gauge ≤ s.asked gauge
  heard gauge =
      ⊎_elim
      (λ (l : s.asked gauge < s.value gauge). let e : (s.source gauge).loud ≡ true = h.values.loud gauge l in let f : (s.source gauge).loud ≡ false = q.sources gauge in absurd (cc))
      (λ (l : s.value gauge ≤ s.asked gauge). l)
      (cases_lt (s.asked gauge) (s.value gauge))

  begun : (gauge : ℕ) → s.asked gauge ≤ s.begun gauge
  begun gauge =
      ⊎_elim
      (λ (l : s.begun gauge < s.asked gauge).
      let o : IsOwed s.caller gauge (s.asked gauge) = h.debts.someone gauge l in
      absurd (omega (arith, o.owes, q.debts o.pass gauge)))
      (λ (l : s.asked gauge ≤ s.begun gauge). l)
      (cases_lt (s.begun gauge) (s.asked gauge))

  pub settled : (gauge : ℕ) → s.value gauge ≤ s.begun gauge
  settled gauge = omega (arith, heard gauge, begun gauge)

  pub unsatisfied : (pass : ℕ) → IsOpen s pass → IsSatisfiedNow s pass → ⊥
  unsatisfied pass o sat =
      ⊎_elim
      (λ (f : IsFoundByTally s pass).
      ⊎_elim
      (λ (own : OwnerFinds (FindsTally (s.description pass) s.value) (s.caller pass)). q.owners pass own.on_duty)
      (λ (shard : ShardFinds (FindsTally (s.description pass) s.value) s.scanner pass (s.session pass).generation).
      no_duty _ _ (q.scanners shard.number pass) shard.here.on_duty)
      f)
      (λ (l : IsLate (s.description pass) s.value s.begun). absurd (omega (arith, l.late, settled (gauge_of (s.description pass) l.need))))
      (h.tally pass o sat)

  pub in_time : (pass : ℕ) → IsOpen s pass → IsOverdueNow s pass → ⊥
  in_time pass o d =
      ⊎_elim
      (λ (own : OwnerFinds (FindsTime s.shape (s.description pass) s.value) (s.caller pass)). q.owners pass own.on_duty)
      (λ (clock : ScannerFinds (FindsTime s.shape (s.description pass) s.value) (s.scanner 16) pass (s.session pass).generation).
      no_duty _ _ (q.scanners 16 pass) clock.on_duty)
      (h.time pass o (omega (arith, d, settled (clock_of s.shape))))

-- An inspector that leaves or wins: what the code kept says what the scanner knows.
use Rattle.std.proofs.Common.{◌≡◌, ◌≢◌, ◌∙◌, ℕ, ◌-◌, ◌<◌, List, Bool, true, false, Some, set, ap, subst, sym}
use Rattle.std.specs.Prelude.{nat_le, slice_index}
use Rattle.room_core.specs.declared.event.How.TheVariants.{Expired, Satisfied}
use Rattle.room_core.specs.declared.shape.Shape.{Shape}
use Rattle.room_core.specs.Checks.{AreRead, IsOnCheck, ScannerMayWin, scanner_answers, scanner_leaves}
use Rattle.room_core.specs.Description.{needs_of, tally_below}
use Rattle.room_core.specs.Gauges.{IsPass, IsScanner, clock_of}
use Rattle.room_core.specs.Meetings.{words_of}
use Rattle.room_core.specs.Numbers.{clock_scanner}
use Rattle.room_core.specs.Put.{put}
use Rattle.room_table.specs.declared.part.ScannerStep.{ScannerStep}
use Rattle.room_table.specs.Seats.{ScanView, scanner_did, scanner_now}
use Rattle.purgatory.specs.scans.Checked.{HasLetGo, HasLooked}
use Rattle.purgatory.specs.scans.Inspected.{IsInspector}
use Rattle.purgatory.proofs.scans.Leaving.{lets_go, may_expire, may_satisfy, overdue_is, satisfied_is, takes_looked}

module _ (shape : Shape) (number : ℕ) (words values : List ℕ) (wins : ℕ) (now new : ScanView) (i : IsInspector shape number words values wins now) (pass : ℕ) where
  is_scanner : IsScanner now.table.shape now.scanner
  is_scanner = subst (λ (sh : Shape). IsScanner sh now.scanner) i.shape_is (subst (λ k. IsScanner shape k) i.number_is i.is_scanner)

  -- the clock's check
  module _ (moment : ℕ) (step : new ≡ scanner_did now (ScannerStep.Left pass (shape.gauges - 1) moment)) (clock : now.scanner ≡ clock_scanner) (on : IsOnCheck (scanner_now now) pass) where
    clock_left : scanner_now new ≡ scanner_leaves now.table.shape now.scanner (scanner_now now) pass (clock_of now.table.shape) moment
    clock_left = ap scanner_now step ∙ ap (λ (sh : Shape). scanner_leaves now.table.shape now.scanner (scanner_now now) pass (sh.gauges - 1) moment) i.shape_is

    clock_asks : (late : Bool) → nat_le (slice_index words 1) moment ≡ late
        → scanner_answers now.table.shape now.scanner (words_of (scanner_now now)) (put (scanner_now now).readings (clock_of now.table.shape) (Some moment)) ≡ late
    clock_asks late e = overdue_is now.table.shape now.scanner (scanner_now now) words moment clock i.learned on.learned ∙ e

    pub clock_looked : nat_le (slice_index words 1) moment ≡ true → HasLooked (scanner_now now) (scanner_now new)
    clock_looked e = takes_looked now.table.shape now.scanner (scanner_now now) (scanner_now new) pass (clock_of now.table.shape) moment clock_left (clock_asks true e)

    pub clock_may : IsPass now.table.shape pass → nat_le (slice_index words 1) moment ≡ true → ScannerMayWin now.table.shape now.scanner (scanner_now new) pass Expired
    clock_may there e = may_expire now.table.shape now.scanner (scanner_now now) (scanner_now new) pass moment clock_left is_scanner there on clock (clock_asks true e)

    pub clock_lets_go : nat_le (slice_index words 1) moment ≡ false → HasLetGo pass (scanner_now now) (scanner_now new)
    clock_lets_go e = lets_go now.table.shape now.scanner (scanner_now now) (scanner_now new) pass (clock_of now.table.shape) moment clock_left (clock_asks false e)

  -- a shard's check
  module _ (last value needs : ℕ) (step : new ≡ scanner_did now (ScannerStep.Left pass last value)) (less : last < shape.gauges) (shard : now.scanner ≢ clock_scanner)
      (on : IsOnCheck (scanner_now now) pass) (read : AreRead (scanner_now now).readings last (words_of (scanner_now now))) (count : needs ≡ needs_of (words_of (scanner_now now))) where
    needs_left : scanner_now new ≡ scanner_leaves now.table.shape now.scanner (scanner_now now) pass last value
    needs_left = ap scanner_now step

    -- what the code finds
    abbrev pub found : Bool
    found = nat_le (slice_index words 0) (tally_below (slice_index words) (slice_index (set values last value)) needs)

    needs_ask : (enough : Bool) → found ≡ enough
        → scanner_answers now.table.shape now.scanner (words_of (scanner_now now)) (put (scanner_now now).readings last (Some value)) ≡ enough
    needs_ask enough e =
        satisfied_is now.table.shape now.scanner (scanner_now now) words values last value needs i.learned i.read on.learned count
        (subst (λ n. last < n) (sym i.values_size) less) shard read ∙ e

    pub needs_looked : found ≡ true → HasLooked (scanner_now now) (scanner_now new)
    needs_looked e = takes_looked now.table.shape now.scanner (scanner_now now) (scanner_now new) pass last value needs_left (needs_ask true e)

    pub needs_may : IsPass now.table.shape pass → found ≡ true → ScannerMayWin now.table.shape now.scanner (scanner_now new) pass Satisfied
    needs_may there e = may_satisfy now.table.shape now.scanner (scanner_now now) (scanner_now new) pass last value needs_left is_scanner there on shard (needs_ask true e)

    pub needs_let_go : found ≡ false → HasLetGo pass (scanner_now now) (scanner_now new)
    needs_let_go e = lets_go now.table.shape now.scanner (scanner_now now) (scanner_now new) pass last value needs_left (needs_ask false e)

-- A check that is left, or that found the operation answerable.
use Rattle.std.proofs.Common.{⊎_elim, ◌≡◌, ◌≢◌, ◌∙◌, ℕ, ◌+◌, ◌*◌, ◌<◌, List, Bool, true, false, Option, Some, cond, set, length, ap, refl, subst, sym, arith}
use Rattle.std.specs.Prelude.{IsSome, nat_le, slice_index}
use Rattle.std.proofs.lemmas.Bool.{leb-true, ne_eqb}
use Rattle.room_core.specs.declared.event.How.TheVariants.{Expired, Satisfied}
use Rattle.room_core.specs.declared.shape.Shape.{Shape}
use Rattle.room_core.specs.Checks.{AreRead, IsAllLearned, IsOnCheck, ScannerMayWin, scanner_answers, scanner_leaves, scanner_lets_go, scanner_takes}
use Rattle.room_core.specs.Description.{gauge_of, needs_of, tally, tally_below}
use Rattle.room_core.specs.Gauges.{IsPass, IsScanner, clock_of}
use Rattle.room_core.specs.Meetings.{words_of}
use Rattle.room_core.specs.Numbers.{clock_scanner}
use Rattle.room_core.specs.Put.{put}
use Rattle.room_core.specs.Readings.{read_only}
use Rattle.room_core.specs.State.{Scanner}
use Rattle.room_core.proofs.Laws.{put_here}
use Rattle.purgatory.specs.scans.Checked.{HasLetGo, HasLooked}
use Rattle.purgatory.specs.scans.Inspected.{Mirrors}
use Rattle.purgatory.proofs.scans.Sums.{tally_same}
use Rattle.purgatory.proofs.scans.Tables.{mirror_is, mirrors_more, some_here, some_more}

module _ (shape : Shape) (k : ℕ) (s t : Scanner) (pass gauge value : ℕ) (is : t ≡ scanner_leaves shape k s pass gauge value) where
  abbrev answers : Bool
  answers = scanner_answers shape k (words_of s) (put s.readings gauge (Some value))

  pub takes : answers ≡ true → t ≡ scanner_takes s gauge value
  takes e = is ∙ ap (λ b. cond b (scanner_takes s gauge value) (scanner_lets_go s pass)) e

  pub takes_looked : answers ≡ true → HasLooked s t
  takes_looked e = subst (HasLooked s) (sym (takes e)) (record { began = refl; listing = refl; duties = refl; meeting = refl })

  pub lets_go : answers ≡ false → HasLetGo pass s t
  lets_go e = subst (HasLetGo pass s) (sym (is ∙ ap (λ b. cond b (scanner_takes s gauge value) (scanner_lets_go s pass)) e)) (record { began = refl; listing = refl; duties = refl })

  takes_on : IsOnCheck s pass → IsOnCheck (scanner_takes s gauge value) pass
  takes_on on = record { met = on.met; duty = on.duty; learned = record { few = on.learned.few; words = on.learned.words } }

  -- a shard's check that found the needs satisfied
  pub may_satisfy : IsScanner shape k → IsPass shape pass → IsOnCheck s pass → k ≢ clock_scanner → answers ≡ true → ScannerMayWin shape k t pass Satisfied
  may_satisfy scanner there on shard e =
      let readings = put s.readings gauge (Some value) in
      let satisfied : nat_le (words_of s 0) (tally (words_of s) (read_only readings)) ≡ true =
      sym (ap (λ b. cond b (nat_le (words_of s 1) (read_only readings (clock_of shape))) (nat_le (words_of s 0) (tally (words_of s) (read_only readings)))) (ne_eqb k 16 shard)) ∙ e in
      subst (λ (x : Scanner). ScannerMayWin shape k x pass Satisfied) (sym (takes e)) (scanner, there, takes_on on, shard, leb-true _ _ satisfied)

-- the clock's check
clock_answers : (shape : Shape) (s : Scanner) (moment : ℕ)
    → scanner_answers shape clock_scanner (words_of s) (put s.readings (clock_of shape) (Some moment)) ≡ nat_le (words_of s 1) moment
clock_answers shape s moment = ap (λ (o : Option ℕ). nat_le (words_of s 1) (read_only (λ i. o) 0)) (put_here s.readings (clock_of shape) (Some moment))

pub overdue_is : (shape : Shape) (k : ℕ) (s : Scanner) (words : List ℕ) (moment : ℕ) → k ≡ clock_scanner → Mirrors s.learned words → IsAllLearned s
    → scanner_answers shape k (words_of s) (put s.readings (clock_of shape) (Some moment)) ≡ nat_le (slice_index words 1) moment
overdue_is shape k s words moment clock m all =
    ap (λ n. scanner_answers shape n (words_of s) (put s.readings (clock_of shape) (Some moment))) clock
    ∙ clock_answers shape s moment
    ∙ ap (λ n. nat_le n moment) (sym (mirror_is s.learned words m 1 (all.words 1 (omega arith))))

pub may_expire : (shape : Shape) (k : ℕ) (s t : Scanner) (pass moment : ℕ) → t ≡ scanner_leaves shape k s pass (clock_of shape) moment
    → IsScanner shape k → IsPass shape pass → IsOnCheck s pass → k ≡ clock_scanner
    → scanner_answers shape k (words_of s) (put s.readings (clock_of shape) (Some moment)) ≡ true
    → ScannerMayWin shape k t pass Expired
may_expire shape k s t pass moment is scanner there on clock e =
    let readings = put s.readings (clock_of shape) (Some moment) in
    let overdue : nat_le (words_of s 1) (read_only readings (clock_of shape)) ≡ true =
    sym (ap (λ n. scanner_answers shape n (words_of s) readings) clock) ∙ e in
    subst (λ (x : Scanner). ScannerMayWin shape k x pass Expired) (sym (takes shape k s t pass (clock_of shape) moment is e))
    (scanner, there, takes_on shape k s t pass (clock_of shape) moment is on, clock, (some_here s.readings (clock_of shape) moment, leb-true _ _ overdue))

-- what the words and the values that are kept come to
module _ (shape : Shape) (k : ℕ) (s : Scanner) (words values : List ℕ) (last value needs : ℕ) (m : Mirrors s.learned words) (r : Mirrors s.readings values)
    (all : IsAllLearned s) (count : needs ≡ needs_of (words_of s)) where
  pub word_is : (at : ℕ) → at < 3 + 3 * needs → slice_index words at ≡ words_of s at
  word_is at less = mirror_is s.learned words m at (all.words at (subst (λ n. at < 3 + 3 * n) count less))

  pub gauges_there : length values ≡ shape.gauges → ((i : ℕ) → i < needs → gauge_of (words_of s) i < shape.gauges)
      → (i : ℕ) → i < needs → gauge_of (slice_index words) i < length values
  gauges_there size there i less =
      let is = word_is (3 + 3 * i) (omega (arith, less)) in
      let below = there i less in
      omega (arith, is, below, size)

  pub satisfied_is : last < length values → k ≢ clock_scanner → AreRead s.readings last (words_of s)
      → scanner_answers shape k (words_of s) (put s.readings last (Some value))
      ≡ nat_le (slice_index words 0) (tally_below (slice_index words) (slice_index (set values last value)) needs)
  satisfied_is less shard read =
      let readings = put s.readings last (Some value) in
      let kept = set values last value in
      let mirrored = mirrors_more s.readings values last value less r in
      let gauge_is : (i : ℕ) → i < needs → gauge_of (slice_index words) i ≡ gauge_of (words_of s) i = λ i l. word_is (3 + 3 * i) (omega (arith, l)) in
      let there : (i : ℕ) → i < needs → IsSome (readings (gauge_of (words_of s) i)) = λ i l.
      ⊎_elim
      (λ (was : IsSome (s.readings (gauge_of (words_of s) i))). some_more s.readings last value (gauge_of (words_of s) i) was)
      (λ (is : gauge_of (words_of s) i ≡ last). subst (λ g. IsSome (readings g)) (sym is) (some_here s.readings last value))
      (read i (subst (λ n. i < n) count l)) in
      let sums : tally_below (slice_index words) (slice_index kept) needs ≡ tally_below (words_of s) (read_only readings) needs =
      tally_same (slice_index words) (words_of s) (slice_index kept) (read_only readings) needs word_is
      (λ i l. mirror_is readings kept mirrored (gauge_of (slice_index words) i) (subst (λ g. IsSome (readings g)) (sym (gauge_is i l)) (there i l))) in
      ap (λ b. cond b (nat_le (words_of s 1) (read_only readings (clock_of shape))) (nat_le (words_of s 0) (tally (words_of s) (read_only readings)))) (ne_eqb k 16 shard)
      ∙ ap (λ n. nat_le (words_of s 0) (tally_below (words_of s) (read_only readings) n)) (sym count)
      ∙ ap (λ sum. nat_le (words_of s 0) sum) (sym sums)
      ∙ ap (λ n. nat_le n (tally_below (slice_index words) (slice_index kept) needs)) (sym (word_is 0 (omega arith)))

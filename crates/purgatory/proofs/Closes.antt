-- A room that was closed: the state at the close, and what the numbers of the winners are there.
use Rattle.std.proofs.Common.{⊎_elim, ◌≡◌, ◌≢◌, ◌∙◌, ℕ, suc, ◌+◌, ◌-◌, ◌<◌, ◌≤◌, List, [], ◌∷◌, cond, eqb, get_or, inl, inr, length, ap, refl, subst, sym, arith}
use Rattle.std.specs.Prelude.{All, count_by, false, slice_index}
use Rattle.std.proofs.lemmas.Bool.{cases_lt, eq-eqb, le-ltb}
use Rattle.std.proofs.lemmas.Option.{slice_get-get_or}
use Rattle.room_core.specs.declared.event.How.{How}
use Rattle.room_core.specs.declared.parts.Phase.{Phase}
use Rattle.room_core.specs.declared.parts.Phase.TheVariants.{Open, Won}
use Rattle.room_core.specs.declared.parts.Source.{Source}
use Rattle.room_core.specs.declared.parts.Stage.{Stage}
use Rattle.room_core.specs.declared.parts.Taken.{Taken}
use Rattle.room_core.specs.declared.shape.Shape.{Shape}
use Rattle.room_core.specs.Counts.{is_won_by, sum_below, taken_by, won_by}
use Rattle.room_core.specs.Description.{deadline_of, least_of, tally}
use Rattle.room_core.specs.Duty.{IsOnDuty, IsOpen}
use Rattle.room_core.specs.Gauges.{IsScanner, clock_of}
use Rattle.room_core.specs.Quiet.{IsQuiet}
use Rattle.room_core.specs.Scans.{HasNoDuty}
use Rattle.room_core.specs.Sound.{Agree}
use Rattle.room_core.specs.Start.{idle_caller}
use Rattle.room_core.specs.State.{Caller, Scanner, State}
use Rattle.room_core.specs.Wins.{prizes_as, wins_of}
use Rattle.room_table.specs.Handed.{AreShown}
use Rattle.room_core.proofs.Laws.{in_time, no_prizes, stands, sum_same, taken_stands, tally_is, unsatisfied, wins_counted, wins_of-pass, wins_of-scanner}
use Rattle.room_table.specs.Closing.{ClosingView}
use Rattle.room_table.specs.Seats.{CallerView, ScanView, SourceView, caller_now, scanner_now, source_now}
use Rattle.room_table.proofs.Laws.{all_counted, sum_both, term_le}
use Rattle.purgatory.specs.Closed.{IsClosed, IsLeftOpen, IsUnanswerable, stored_in}
use Rattle.purgatory.specs.Ends.{IsScannerSeat, exchanges_of, taken_of, won_by_passes, won_by_scanners}
use Rattle.purgatory.specs.Going.{IsAtRest}
use Rattle.purgatory.specs.Making.{AreFrom}
use Rattle.purgatory.specs.Noted.{IsNoted}
use Rattle.purgatory.specs.Still.{IsKept, IsSettledSeat, still_view}
use Rattle.purgatory.proofs.Added.{by_number, sum_from, sum_keyed, sum_split, sum_swap, terms_le}
use Rattle.purgatory.proofs.Made.{from_at}

rest_off_duty : (stage : Stage) → IsAtRest stage → IsOnDuty stage → ⊥
rest_off_duty stage (inl idle) on = subst IsOnDuty idle on
rest_off_duty stage (inr waits) on = subst IsOnDuty waits on

both_from : {A : Type 0} (P Q R : ℕ → A → Type 0) → ((k : ℕ) (x : A) → P k x → Q k x → R k x) → (first : ℕ) (xs : List A) → AreFrom P first xs → AreFrom Q first xs → AreFrom R first xs
both_from P Q R f first [] a b = tt
both_from P Q R f first (x ∷ xs) a b = (f first x a.0 b.0, both_from P Q R f (first + 1) xs a.1 b.1)

-- what holds of every item, with the numbers from the first one on
all_from : {A : Type 0} (P : A → Type 0) (first : ℕ) (xs : List A) → All P xs → AreFrom (λ k x. P x) first xs
all_from P first [] all = tt
all_from P first (x ∷ xs) all = (all 0 x (omega arith), all_from P (first + 1) xs (λ k d less. all (suc k) d (omega (arith, less))))

module _ (closing : ClosingView) (numbers : List ℕ) (k : IsKept closing numbers) (sources : List SourceView) (quiet : All (λ (source : SourceView). (source_now source).loud ≡ false) sources) (words : List ℕ)
    (shown : AreShown closing.table sources closing.callers closing.scanners words) where
  abbrev s : State
  s = shown.state

  abbrev passes : ℕ
  passes = closing.table.shape.passes

  passes_are : s.shape.passes ≡ passes
  passes_are = ap (λ (x : Shape). x.passes) shown.shape

  abbrev all_wins : ℕ → ℕ
  all_wins by = length (wins_of s.scanner s.caller by)

  -- the scanners' seats, with what is noted and with what the state shows of them
  abbrev IsSeat : ℕ → ScanView → Type 0
  IsSeat by seat = (s.scanner by ≡ scanner_now seat) × HasNoDuty (scanner_now seat) × (slice_index numbers by ≡ length (scanner_now seat).wins)

  seats_are : AreFrom IsSeat 0 closing.scanners
  seats_are =
      let P : ℕ → ScanView → Type 0 = λ by seat. IsScannerSeat closing.table by seat × IsNoted numbers by seat in
      both_from P (λ by seat. s.scanner seat.scanner ≡ scanner_now seat) IsSeat
      (λ by seat a b. (sym (ap s.scanner a.0.number) ∙ b, a.0.no_duty, a.1)) 0 closing.scanners
      (both_from (IsScannerSeat closing.table) (IsNoted numbers) P (λ by seat a b. (a, b)) 0 closing.scanners k.each k.noted)
      (all_from (λ (seat : ScanView). s.scanner seat.scanner ≡ scanner_now seat) 0 closing.scanners shown.scanner)

  abbrev nobody : ScanView
  nobody = record { table = closing.table; scanner = 0; steps = [] }

  seat_of : (by : ℕ) → by < 17 → IsSeat by (get_or closing.scanners by nobody)
  seat_of by less =
      let all = k.scanners in
      subst (λ n. IsSeat n (get_or closing.scanners by nobody)) (omega arith) (from_at IsSeat 0 closing.scanners seats_are by nobody (omega (arith, less, all)))

  one_caller : (pass : ℕ) → pass < passes → 1 ≤ count_by (λ (seat : CallerView). eqb seat.pass pass) closing.callers
  one_caller pass less = let one = shown.one_caller pass less in omega (arith, one)

  scanner_won : (by : ℕ) → by < 17 → slice_index numbers by ≡ all_wins by
  scanner_won by less =
      let seat = seat_of by less in
      seat.2 ∙ ap (λ (x : Scanner). length x.wins) (sym seat.0) ∙ sym (ap (λ xs. length xs) (wins_of-scanner s.scanner s.caller by less))

  pass_won : (pass : ℕ) → pass < passes → slice_index numbers (17 + pass) ≡ all_wins (17 + pass)
  pass_won pass less =
      k.passes_noted (λ p. length (s.caller p).wins) (λ i d l. ap (λ (x : Caller). length x.wins) (sym (shown.caller i d l))) pass (one_caller pass less)
      ∙ sym (ap (λ xs. length xs) (wins_of-pass s.scanner s.caller pass))

  won : (by : ℕ) → by < 17 + passes → slice_index numbers by ≡ all_wins by
  won by less =
      ⊎_elim
      (λ (few : by < 17). scanner_won by few)
      (λ (many : 17 ≤ by).
      let is : 17 + (by - 17) ≡ by = omega (arith, many) in
      subst (λ n. slice_index numbers n ≡ all_wins n) is (pass_won (by - 17) (omega (arith, less, many))))
      (cases_lt by 17)

  won_from : (first : ℕ) (xs : List ScanView) → first + length xs ≤ 17 → AreFrom IsSeat first xs → AreFrom (λ by seat. length (scanner_now seat).wins ≡ all_wins by) first xs
  won_from first [] few a = tt
  won_from first (x ∷ xs) few a = (
    ap (λ (y : Scanner). length y.wins) (sym a.0.0) ∙ sym (ap (λ ys. length ys) (wins_of-scanner s.scanner s.caller first (omega (arith, few)))),
    won_from (first + 1) xs (omega (arith, few)) a.1,
  )

  -- none before the first
  none_before : sum_below all_wins 0 ≡ 0
  unfolding sum_below
  none_before = refl

  -- all exchanges, by the numbers of the winners
  exchanges_are : exchanges_of closing.scanners closing.callers ≡ sum_below all_wins (17 + passes)
  exchanges_are =
      let all = k.scanners in
      let scanners : sum_below all_wins 0 + won_by_scanners closing.scanners ≡ sum_below all_wins (0 + length closing.scanners) =
      sum_from all_wins (λ (seat : ScanView). length (scanner_now seat).wins) 0 closing.scanners (won_from 0 closing.scanners (omega (arith, all)) seats_are) in
      let seventeen : 0 + length closing.scanners ≡ 17 = omega (arith, all) in
      let count : sum_below all_wins (0 + length closing.scanners) ≡ sum_below all_wins 17 = ap (sum_below all_wins) seventeen in
      let callers : won_by_passes closing.callers ≡ sum_below (λ p. all_wins (17 + p)) passes =
      sum_keyed (λ (seat : CallerView). seat.pass) (λ p. all_wins (17 + p)) passes closing.callers (λ (seat : CallerView). length (caller_now seat).wins) shown.passes
      (λ i d l. ap (λ (x : Caller). length x.wins) (sym (shown.caller i d l)) ∙ sym (ap (λ xs. length xs) (wins_of-pass s.scanner s.caller (get_or closing.callers i d).pass)))
      shown.one_caller in
      omega (arith, none_before, scanners, count, callers, sum_split all_wins 17 passes)

  -- who won, or is named by an item taken, is there
  beyond_none : (by : ℕ) → 17 + passes ≤ by → wins_of s.scanner s.caller by ≡ []
  unfolding wins_of
  beyond_none by past =
      let same = passes_are in
      ap (λ b. cond b (s.scanner by).wins (s.caller (by - 17)).wins) (le-ltb by 17 (omega (arith, past)))
      ∙ ap (λ (x : Caller). x.wins) (shown.carried.within.passes.caller (by - 17) (omega (arith, past, same)))

  is_there : (by pass generation : ℕ) (how : How) → prizes_as (wins_of s.scanner s.caller by) pass generation how ≡ 1 → by < 17 + passes
  is_there by pass generation how one =
      ⊎_elim
      (λ (less : by < 17 + passes). less)
      (λ (past : 17 + passes ≤ by).
      let none = ap (λ xs. prizes_as xs pass generation how) (beyond_none by past) ∙ no_prizes pass generation how in
      absurd (omega (arith, one, none)))
      (cases_lt by (17 + passes))

  items_there : (pass : ℕ) → All (λ (item : Taken). item.by < 17 + passes) (s.caller pass).taken
  items_there pass i d less =
      let item = get_or (s.caller pass).taken i d in
      is_there item.by pass item.generation item.how (taken_stands s shown.carried.sound pass i item (slice_get-get_or (s.caller pass).taken i d less))

  -- what was taken, by the numbers of the winners
  abbrev items_of : ℕ → ℕ → ℕ
  items_of pass by = count_by (λ (item : Taken). eqb item.by by) (s.caller pass).taken

  taken_is : (by : ℕ) → sum_below (λ pass. items_of pass by) passes ≡ taken_by s by
  taken_is by = ap (sum_below (λ pass. items_of pass by)) (sym passes_are)

  taken_few : taken_of closing.callers ≤ sum_below (taken_by s) (17 + passes)
  taken_few =
      let taken : ℕ → ℕ = λ pass. length (s.caller pass).taken in
      let all : taken_of closing.callers ≡ sum_below taken passes =
      sum_keyed (λ (seat : CallerView). seat.pass) taken passes closing.callers (λ (seat : CallerView). length (caller_now seat).taken) shown.passes
      (λ i d l. ap (λ (x : Caller). length x.taken) (sym (shown.caller i d l))) shown.one_caller in
      let each : sum_below taken passes ≤ sum_below (λ pass. sum_below (items_of pass) (17 + passes)) passes =
      terms_le taken (λ pass. sum_below (items_of pass) (17 + passes)) passes (λ pass less. all_counted (λ (item : Taken). item.by) (17 + passes) (s.caller pass).taken (items_there pass)) in
      let swapped : sum_below (λ pass. sum_below (items_of pass) (17 + passes)) passes ≡ sum_below (λ by. sum_below (λ pass. items_of pass by) passes) (17 + passes) = sum_swap items_of passes (17 + passes) in
      let same : sum_below (λ by. sum_below (λ pass. items_of pass by) passes) (17 + passes) ≡ sum_below (taken_by s) (17 + passes) =
      sum_same (λ by. sum_below (λ pass. items_of pass by) passes) (taken_by s) (17 + passes) (λ by less. taken_is by) in
      omega (arith, all, each, swapped, same)

  -- so no word is won
  none_left : (by : ℕ) → by < 17 + passes → won_by s by ≡ 0
  none_left by less =
      let both : sum_below all_wins (17 + passes) ≡ sum_below (taken_by s) (17 + passes) + sum_below (won_by s) (17 + passes) =
      sum_both (taken_by s) (won_by s) all_wins (17 + passes) (λ i. wins_counted s shown.carried i) in
      let one = term_le (won_by s) (17 + passes) by less in
      let taken = k.taken in
      omega (arith, exchanges_are, taken, taken_few, both, one)

  taken : (by : ℕ) → by < 17 + passes → slice_index numbers by ≡ taken_by s by
  taken by less =
      let counted = wins_counted s shown.carried by in
      omega (arith, won by less, counted, none_left by less)

  not_won : (pass : ℕ) → pass < passes → (how : How) (by : ℕ) → (s.session pass).phase ≡ Won how by → ⊥
  not_won pass less how by e =
      let same = passes_are in
      let there = is_there by pass (s.session pass).generation how (stands s shown.carried.sound pass how by e) in
      let term : ℕ → ℕ = λ p. cond (is_won_by (s.session p).phase by) 1 0 in
      let one : term pass ≡ 1 = ap (λ p. cond (is_won_by p by) 1 0) e ∙ ap (λ b. cond b 1 0) (eq-eqb by by refl) in
      let most : term pass ≤ won_by s by = term_le term s.shape.passes pass (omega (arith, less, same)) in
      omega (arith, none_left by there, one, most)

  open_by : (pass : ℕ) → pass < passes → (phase : Phase) → (s.session pass).phase ≡ phase → phase ≢ Phase.Idle → (s.session pass).phase ≡ Open
  open_by pass less Open e n = e
  open_by pass less Phase.Idle e n = absurd (n refl)
  open_by pass less (Won how by) e n = absurd (not_won pass less how by e)

  -- the word of a pass that waits is open
  waits_open : (pass : ℕ) → pass < passes → (s.caller pass).stage ≡ Stage.Waiting → (s.session pass).phase ≡ Open
  waits_open pass less waits = open_by pass less (s.session pass).phase refl (subst (λ stage. Agree stage (s.session pass).phase) waits (shown.carried.sound.owners.stage pass))

  -- and nothing is left to do
  sources_quiet : (gauge : ℕ) → (s.source gauge).loud ≡ false
  sources_quiet gauge =
      ⊎_elim
      (λ (less : gauge < closing.table.shape.gauges).
      let one = shown.one_source gauge less in
      by_number (λ g. (s.source g).loud ≡ false) (λ (seat : SourceView). seat.gauge) sources (λ i d l. ap (λ (x : Source). x.loud) (shown.source i d l) ∙ quiet i d l) gauge (omega (arith, one)))
      (λ (past : closing.table.shape.gauges ≤ gauge).
      let same = ap (λ (x : Shape). x.gauges) shown.shape in
      ap (λ (x : Source). x.loud) (shown.carried.within.gauges.source gauge (omega (arith, past, same))))
      (cases_lt gauge closing.table.shape.gauges)

  -- what is so of each seat and of a pass that isn't there is so of each pass
  each_pass : (P : Caller → Type 0) → ((seat : CallerView) → IsSettledSeat seat → P (caller_now seat)) → P idle_caller → (pass : ℕ) → P (s.caller pass)
  each_pass P here there pass =
      ⊎_elim
      (λ (less : pass < passes).
      by_number (λ p. P (s.caller p)) (λ (seat : CallerView). seat.pass) closing.callers
      (λ i d l. subst P (sym (shown.caller i d l)) (here (get_or closing.callers i d) (k.settled i d l))) pass (one_caller pass less))
      (λ (past : passes ≤ pass). let same = passes_are in subst P (sym (shown.carried.within.passes.caller pass (omega (arith, past, same)))) there)
      (cases_lt pass passes)

  scanners_free : (by : ℕ) → HasNoDuty (s.scanner by)
  scanners_free by =
      ⊎_elim
      (λ (less : by < 17). let seat = seat_of by less in subst HasNoDuty (sym seat.0) seat.1)
      (λ (past : 17 ≤ by).
      let few = shown.carried.shape.few_scanners in
      let none : IsScanner s.shape by → ⊥ = λ is. ⊎_elim (λ (less : by < s.shape.scanners - 1). absurd (omega (arith, less, few, past))) (λ (clock : by ≡ 16). absurd (omega (arith, clock, past))) is in
      subst HasNoDuty (sym (shown.carried.within.scanners.scanner by none)) (λ pass. refl))
      (cases_lt by 17)

  is_quiet : IsQuiet s
  is_quiet = record {
    sources = sources_quiet;
    debts = λ pass gauge. each_pass (λ caller. caller.owed gauge ≡ 0) (λ seat settled. settled.paid gauge) refl pass;
    owners = each_pass (λ caller. IsOnDuty caller.stage → ⊥) (λ seat settled. rest_off_duty (caller_now seat).stage settled.rests) (λ on. on);
    scanners = scanners_free;
  }

  values_stored : s.value ≡ stored_in s
  values_stored = λ i gauge. shown.carried.sound.values.stored gauge i

  -- the operation of a pass that waits can't be answered
  unanswerable : (pass : ℕ) → IsOpen s pass → IsUnanswerable s (s.description pass)
  unanswerable pass is_open = record {
    unsatisfied = λ satisfied.
        unsatisfied s shown.carried.sound is_quiet pass is_open
        (subst (λ n. least_of (s.description pass) ≤ n) (tally_is (s.description pass) (stored_in s) ∙ ap (tally (s.description pass)) (sym values_stored)) satisfied);
    early =
        ⊎_elim
        (λ (less : stored_in s (clock_of s.shape) < deadline_of (s.description pass)). less)
        (λ (late : deadline_of (s.description pass) ≤ stored_in s (clock_of s.shape)).
        absurd (in_time s shown.carried.sound is_quiet pass is_open (subst (λ (f : ℕ → ℕ). deadline_of (s.description pass) ≤ f (clock_of s.shape)) (sym values_stored) late)))
        (cases_lt (stored_in s (clock_of s.shape)) (deadline_of (s.description pass)));
  }

  left_open : (seat : CallerView) → s.caller seat.pass ≡ caller_now seat → seat.pass < passes → (caller_now seat).stage ≡ Stage.Waiting → IsLeftOpen s seat
  left_open seat is less waits =
      let is_open = waits_open seat.pass less (ap (λ (x : Caller). x.stage) is ∙ waits) in
      let generation = shown.carried.sound.owners.generation seat.pass ∙ ap (λ (x : Caller). x.generation) is in
      let words : s.description seat.pass ≡ (caller_now seat).description = λ i at. (shown.carried.sound.owners.description seat.pass at ∙ ap (λ (x : Caller). x.description at) is) i in
      record { word = λ i. record { generation = generation i; phase = is_open i }; unanswerable = subst (IsUnanswerable s) words (unanswerable seat.pass is_open) }

  pub closed_so : (closed : IsClosed (still_view closing) sources numbers) × (closed.words ≡ words)
  closed_so = (
    record {
      words = words;
      shown = shown;
      waiting = λ i d l waits. left_open (get_or closing.callers i d) (shown.caller i d l) (shown.passes i d l) waits;
      size = k.size;
      won = won;
      taken = taken;
    },
    refl,
  )

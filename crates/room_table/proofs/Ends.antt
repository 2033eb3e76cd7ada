-- The seats that come back, and what they show.
use Rattle.std.proofs.Common.{◌≡◌, ◌≢◌, ℕ, zero, suc, ◌+◌, ◌-◌, ◌≤◌, List, [], ◌∷◌, ◌++◌, Option, Some, None, eqb, refl, sym, ap, ◌∙◌, subst, inl, inr, ⊎_elim, arith}
use Rattle.std.specs.Prelude.{All, sum_by, count_by, slice_index_or, if◌then◌else◌}
use Rattle.std.specs.List.{filter_map, cons_option}
use Rattle.std.proofs.lemmas.Bool.{cases_eq, eq-eqb, ne_eqb}
use Rattle.std.proofs.lemmas.List.Sums.{sum_by-cons}
use Rattle.std.proofs.lemmas.List.Elements.{All-nil, All-cons, All-head, All-tail}
use mathlib.Core.List.{append_assoc}
use mathlib.Core.Option.{some, some-injective, some-ne-none}
use lib.ListN.{get_elem?}
use Rattle.atomic_table.specs.Seated.{TableId}
use Rattle.atomic_table.specs.Table.{Final, Seen}
use Rattle.room_core.specs.declared.shape.Shape.{Shape}
use Rattle.room_core.specs.Gauges.{IsGauge, IsPass, IsScanner, IsShape}
use Rattle.room_core.specs.State.{State}
use Rattle.room_table.specs.declared.part.Part.{Part}
use Rattle.room_table.specs.Closing.{ClosingView, with_source, with_caller, with_scanner, AreAllBack, source_seat, caller_seat, scan_seat, closing_view}
use Rattle.room_table.specs.Handed.{AreShown, source_part, caller_part, scanner_part}
use Rattle.room_table.specs.Seats.{TableView, table_view, SourceView, CallerView, ScanView, source_view, caller_view, scan_view, source_now, caller_now, scanner_now, HasSource, HasCaller, HasScanner}
use Rattle.room_table.specs.Shown.{Shows, number_of, one_if, AreWords, IsShown}
use Rattle.room_table.specs.Tells.{Sat}
use Rattle.room_table.proofs.Pigeons.{IsPlaced, each_once}
use Rattle.room_core.proofs.Laws.{one_at_most}
use Rattle.room_table.proofs.Sums.{one_le}

module _ {A : Type 0} where
  pub all_front : (P : A → Type 0) (xs ys : List A) → All P (xs ++ ys) → All P xs
  all_front P [] ys all = All-nil P
  all_front P (x ∷ xs) ys all = All-cons P x xs (All-head P x (xs ++ ys) all) (all_front P xs ys (All-tail P x (xs ++ ys) all))

  pub all_back : (P : A → Type 0) (xs ys : List A) → All P (xs ++ ys) → All P ys
  all_back P [] ys all = all
  all_back P (x ∷ xs) ys all = all_back P xs ys (All-tail P x (xs ++ ys) all)

  -- the last of the first ones is the first of the last ones
  pub shifted : (all first before after : List A) (x : A) → all ≡ first ++ after → first ≡ before ++ x ∷ [] → all ≡ before ++ x ∷ after
  shifted all first before after x is last = is ∙ (ap (λ z. z ++ after) last ∙ append_assoc before (x ∷ []) after)

  pub in_middle : (P : A → Type 0) (before after : List A) (x : A) → All P (before ++ x ∷ after) → P x
  in_middle P before after x all = All-head P x after (all_back P before (x ∷ after) all)

  pub at_index : (xs : List A) (i : ℕ) (x d : A) → get_elem? xs i ≡ some x → x ≡ slice_index_or xs i d
  at_index [] i x d e = absurd (some-ne-none x (sym e))
  at_index (y ∷ ys) zero x d e = sym (some-injective y x e)
  at_index (y ∷ ys) (suc i) x d e = at_index ys i x d e

-- a seat comes back to a table of which some parts are back
module _ (table : TableView) (mine back : Sat) (now : ClosingView) (was : closing_view table mine.0 ≡ now) (m : Sat) (told : back ≡ (m.0 ++ mine.0, mine.1)) where
  back_with : (parts : List Part) → m ≡ (parts, []) → closing_view table back.0 ≡ closing_view table (parts ++ mine.0)
  back_with parts came = ap (λ (z : Sat). closing_view table z.0) told ∙ ap (λ (z : Sat). closing_view table (z.0 ++ mine.0)) came

  pub source_back : (id : TableId) (gauge : ℕ) (seat : SourceView) → HasSource gauge m → source_view id gauge m.0 ≡ seat → seat.table ≡ now.table → closing_view table back.0 ≡ with_source now seat
  source_back id gauge seat has is same =
      let own : seat.table ≡ table = same ∙ sym (ap (λ c. c.table) was) in
      back_with (source_part seat ∷ []) (has ∙ ap (λ v. (source_part v ∷ [], [])) is)
      ∙ (ap (λ (t : TableView). with_source (closing_view table mine.0) (record { table = table_view t.id seat.table.shape; gauge = seat.gauge; steps = seat.steps })) (sym own)
      ∙ ap (λ c. with_source c seat) was)

  pub caller_back : (id : TableId) (pass : ℕ) (seat : CallerView) → HasCaller pass m → caller_view id pass m.0 ≡ seat → seat.table ≡ now.table → closing_view table back.0 ≡ with_caller now seat
  caller_back id pass seat has is same =
      let own : seat.table ≡ table = same ∙ sym (ap (λ c. c.table) was) in
      back_with (caller_part seat ∷ []) (has ∙ ap (λ v. (caller_part v ∷ [], [])) is)
      ∙ (ap (λ (t : TableView). with_caller (closing_view table mine.0) (record { table = table_view t.id seat.table.shape; pass = seat.pass; steps = seat.steps })) (sym own)
      ∙ ap (λ c. with_caller c seat) was)

  pub scanner_back : (id : TableId) (k : ℕ) (seat : ScanView) → HasScanner k m → scan_view id k m.0 ≡ seat → seat.table ≡ now.table → closing_view table back.0 ≡ with_scanner now seat
  scanner_back id k seat has is same =
      let own : seat.table ≡ table = same ∙ sym (ap (λ c. c.table) was) in
      back_with (scanner_part seat ∷ []) (has ∙ ap (λ v. (scanner_part v ∷ [], [])) is)
      ∙ (ap (λ (t : TableView). with_scanner (closing_view table mine.0) (record { table = table_view t.id seat.table.shape; scanner = seat.scanner; steps = seat.steps })) (sym own)
      ∙ ap (λ c. with_scanner c seat) was)

-- the first scanner that comes back
pub first_back : (table : TableView) (id : TableId) (k : ℕ) (m : Sat) (seat : ScanView) → HasScanner k m → scan_view id k m.0 ≡ seat → seat.table ≡ table
    → closing_view table m.0 ≡ with_scanner (closing_view table []) seat
first_back table id k m seat has is own =
    ap (λ (z : Sat). closing_view table z.0) (has ∙ ap (λ v. (scanner_part v ∷ [], [])) is)
    ∙ ap (λ (t : TableView). with_scanner (closing_view table []) (record { table = table_view t.id seat.table.shape; scanner = seat.scanner; steps = seat.steps })) (sym own)

-- what a state says of a part's seat
source_shown : (s : State) (id : TableId) (part : Part) (seat : SourceView) → Shows s part → source_seat id part ≡ Some seat
    → IsGauge s.shape seat.gauge × (s.source seat.gauge ≡ source_now seat) × (number_of part ≡ seat.gauge)
source_shown s id (Part.Source shape gauge steps) seat shows e =
    let x : SourceView = record { table = table_view id shape; gauge = gauge; steps = steps } in
    let same : x ≡ seat = cc in
    let P : SourceView → Type 0 = λ v. IsGauge s.shape v.gauge × (s.source v.gauge ≡ source_now v) × (gauge ≡ v.gauge) in
    subst P same (subst (λ z. IsGauge z gauge) shows.0 shows.1, shows.2, refl)
source_shown s id (Part.Caller shape pass steps) seat shows e = absurd (cc)
source_shown s id (Part.Scanner shape k steps) seat shows e = absurd (cc)

caller_shown : (s : State) (id : TableId) (part : Part) (seat : CallerView) → Shows s part → caller_seat id part ≡ Some seat
    → IsPass s.shape seat.pass × (s.caller seat.pass ≡ caller_now seat) × (number_of part ≡ s.shape.gauges + seat.pass)
caller_shown s id (Part.Caller shape pass steps) seat shows e =
    let x : CallerView = record { table = table_view id shape; pass = pass; steps = steps } in
    let same : x ≡ seat = cc in
    let P : CallerView → Type 0 = λ v. IsPass s.shape v.pass × (s.caller v.pass ≡ caller_now v) × (shape.gauges + pass ≡ s.shape.gauges + v.pass) in
    subst P same (subst (λ z. IsPass z pass) shows.0 shows.1, shows.2, ap (λ z. z.gauges + pass) shows.0)
caller_shown s id (Part.Source shape gauge steps) seat shows e = absurd (cc)
caller_shown s id (Part.Scanner shape k steps) seat shows e = absurd (cc)

scanner_shown : (s : State) (id : TableId) (part : Part) (seat : ScanView) → Shows s part → scan_seat id part ≡ Some seat
    → IsScanner s.shape seat.scanner × (s.scanner seat.scanner ≡ scanner_now seat) × (number_of part ≡ s.shape.gauges + s.shape.passes + seat.scanner)
scanner_shown s id (Part.Scanner shape k steps) seat shows e =
    let x : ScanView = record { table = table_view id shape; scanner = k; steps = steps } in
    let same : x ≡ seat = cc in
    let P : ScanView → Type 0 = λ v. IsScanner s.shape v.scanner × (s.scanner v.scanner ≡ scanner_now v) × (shape.gauges + shape.passes + k ≡ s.shape.gauges + s.shape.passes + v.scanner) in
    subst P same (subst (λ z. IsScanner z k) shows.0 shows.1, shows.2, ap (λ z. z.gauges + z.passes + k) shows.0)
scanner_shown s id (Part.Source shape gauge steps) seat shows e = absurd (cc)
scanner_shown s id (Part.Caller shape pass steps) seat shows e = absurd (cc)

-- seats of parts, of each of which P holds
module _ {A : Type 0} (seat_of : Part → Option A) (P : Part → Type 0) where
  one_more : (Q : A → Type 0) (o : Option A) (xs : List A) → ((a : A) → o ≡ Some a → Q a) → All Q xs → All Q (cons_option o xs)
  one_more Q None xs here all = all
  one_more Q (Some a) xs here all = All-cons Q a xs (here a refl) all

  all_seats : (Q : A → Type 0) → ((part : Part) (a : A) → P part → seat_of part ≡ Some a → Q a) → (parts : List Part) → All P parts → All Q (filter_map seat_of parts)
  all_seats Q each [] all = All-nil Q
  all_seats Q each (part ∷ parts) all =
      one_more Q (seat_of part) (filter_map seat_of parts) (λ a e. each part a (All-head P part parts all) e) (all_seats Q each parts (All-tail P part parts all))

  one_if_le : (a b c d : ℕ) → (a ≡ b → c ≡ d) → one_if (eqb a b) ≤ one_if (eqb c d)
  one_if_le a b c d same = ⊎_elim
      (λ (e : a ≡ b). omega (arith, one_at_most (eqb a b), ap one_if (eq-eqb c d (same e))))
      (λ (m : a ≢ b). omega (arith, ap one_if (ne_eqb a b m)))
      (cases_eq a b)

  few_more : (key : A → ℕ) (n most : ℕ) (o : Option A) (xs : List A) → ((a : A) → o ≡ Some a → one_if (eqb (key a) n) ≤ most)
      → count_by (λ a. eqb (key a) n) (cons_option o xs) ≤ most + count_by (λ a. eqb (key a) n) xs
  few_more key n most None xs here = omega arith
  few_more key n most (Some a) xs here = omega (arith, sum_by-cons (λ b. one_if (eqb (key b) n)) a xs, here a refl)

  -- no more seats of a number than parts of it
  few_seats : (key : A → ℕ) (n m : ℕ) → ((part : Part) (a : A) → P part → seat_of part ≡ Some a → key a ≡ n → number_of part ≡ m) → (parts : List Part) → All P parts
      → count_by (λ a. eqb (key a) n) (filter_map seat_of parts) ≤ sum_by (λ part. one_if (eqb (number_of part) m)) parts
  few_seats key n m each [] all = omega arith
  few_seats key n m each (part ∷ parts) all =
      let here : All P (part ∷ parts) = all in
      omega (
        arith,
        sum_by-cons (λ q. one_if (eqb (number_of q) m)) part parts,
        few_more key n (one_if (eqb (number_of part) m)) (seat_of part) (filter_map seat_of parts)
            (λ a e. one_if_le (key a) n (number_of part) m (λ q. each part a (All-head P part parts here) e q)),
        few_seats key n m each parts (All-tail P part parts all),
      )

-- the scanners by their places: the clock's is the last
scanner_at : Shape → ℕ → ℕ
scanner_at shape i = if eqb i (shape.scanners - 1) then 16 else i

scanner_placed : (shape : Shape) (k : ℕ) → IsShape shape → IsScanner shape k → IsPlaced (scanner_at shape) shape.scanners k
unfolding scanner_at
scanner_placed shape k h (inl shard) =
    let few = h.some_scanners in
    record { place = k; below = omega arith; is = ap (λ b. if b then 16 else k) (ne_eqb k (shape.scanners - 1) (λ e. absurd (omega arith))) }
scanner_placed shape k h (inr clock) =
    let few = h.some_scanners in
    record { place = shape.scanners - 1; below = omega arith; is = ap (λ b. if b then 16 else shape.scanners - 1) (eq-eqb (shape.scanners - 1) (shape.scanners - 1) refl) ∙ sym clock }

-- what the last state says of the words and of the seats
pub closes : (key shape : Shape) (id : ℕ) (table : TableId) (m : Sat) (words slots : List ℕ) → key ≡ shape → AreAllBack (closing_view (table_view table shape) m.0)
    → Final (Seen (IsShown key) id m.0) words slots
    → AreShown (table_view table shape) (filter_map (source_seat table) m.0) (filter_map (caller_seat table) m.0) (filter_map (scan_seat table) m.0) words
closes key shape id table m words slots rule back final =
    let r : IsShown key final.0 = final.1.0 in
    let same : r.state.shape ≡ shape = r.shape ∙ rule in
    let P : Part → Type 0 = Shows r.state in
    let all : All P m.0 = r.parts id m.0 final.1.1 in
    let few : (number : ℕ) → sum_by (λ part. one_if (eqb (number_of part) number)) m.0 ≤ 1
    = λ number. omega (arith, one_le (sum_by (λ part. one_if (eqb (number_of part) number))) final.0.views id m.0 final.1.1, r.once number) in
    let h : IsShape shape = subst IsShape same r.carried.shape in
    let gauges : All (λ seat. IsGauge shape seat.gauge) (filter_map (source_seat table) m.0)
    = all_seats (source_seat table) P (λ seat. IsGauge shape seat.gauge) (λ part seat shows e. subst (λ z. IsGauge z seat.gauge) same (source_shown r.state table part seat shows e).0) m.0 all in
    let passes : All (λ seat. IsPass shape seat.pass) (filter_map (caller_seat table) m.0)
    = all_seats (caller_seat table) P (λ seat. IsPass shape seat.pass) (λ part seat shows e. subst (λ z. IsPass z seat.pass) same (caller_shown r.state table part seat shows e).0) m.0 all in
    let numbers : All (λ seat. IsScanner shape seat.scanner) (filter_map (scan_seat table) m.0)
    = all_seats (scan_seat table) P (λ seat. IsScanner shape seat.scanner) (λ part seat shows e. subst (λ z. IsScanner z seat.scanner) same (scanner_shown r.state table part seat shows e).0) m.0 all in
    record {
      state = r.state;
      shape = same;
      carried = r.carried;
      words = subst (AreWords r.state) final.2 r.words;
      source = all_seats (source_seat table) P (λ seat. r.state.source seat.gauge ≡ source_now seat) (λ part seat shows e. (source_shown r.state table part seat shows e).1) m.0 all;
      caller = all_seats (caller_seat table) P (λ seat. r.state.caller seat.pass ≡ caller_now seat) (λ part seat shows e. (caller_shown r.state table part seat shows e).1) m.0 all;
      scanner = all_seats (scan_seat table) P (λ seat. r.state.scanner seat.scanner ≡ scanner_now seat) (λ part seat shows e. (scanner_shown r.state table part seat shows e).1) m.0 all;
      gauges = gauges;
      passes = passes;
      numbers = numbers;
      one_source = λ gauge there. each_once (λ (seat : SourceView). seat.gauge) (λ i. i) shape.gauges (filter_map (source_seat table) m.0) back.sources
          (λ k d l. record { place = (slice_index_or (filter_map (source_seat table) m.0) k d).gauge; below = gauges k d l; is = refl })
          (λ n. omega (arith, few n, few_seats (source_seat table) P (λ (seat : SourceView). seat.gauge) n n (λ part seat shows e q. (source_shown r.state table part seat shows e).2 ∙ q) m.0 all))
          gauge (record { place = gauge; below = there; is = refl });
      one_caller = λ pass there. each_once (λ (seat : CallerView). seat.pass) (λ i. i) shape.passes (filter_map (caller_seat table) m.0) back.callers
          (λ k d l. record { place = (slice_index_or (filter_map (caller_seat table) m.0) k d).pass; below = passes k d l; is = refl })
          (λ n. omega (
            arith,
            few (r.state.shape.gauges + n),
            few_seats (caller_seat table) P (λ (seat : CallerView). seat.pass) n (r.state.shape.gauges + n)
                (λ part seat shows e q. (caller_shown r.state table part seat shows e).2 ∙ ap (λ p. r.state.shape.gauges + p) q) m.0 all,
          ))
          pass (record { place = pass; below = there; is = refl });
      one_scanner = λ k there. each_once (λ (seat : ScanView). seat.scanner) (scanner_at shape) shape.scanners (filter_map (scan_seat table) m.0) back.scanners
          (λ i d l. scanner_placed shape (slice_index_or (filter_map (scan_seat table) m.0) i d).scanner h (numbers i d l))
          (λ n. omega (
            arith,
            few (r.state.shape.gauges + r.state.shape.passes + n),
            few_seats (scan_seat table) P (λ (seat : ScanView). seat.scanner) n (r.state.shape.gauges + r.state.shape.passes + n)
                (λ part seat shows e q. (scanner_shown r.state table part seat shows e).2 ∙ ap (λ p. r.state.shape.gauges + r.state.shape.passes + p) q) m.0 all,
          ))
          k (scanner_placed shape k h there);
    }

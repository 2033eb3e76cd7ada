-- What is read again of the partitions of a call is what its reply needs.
use Rattle.std.proofs.Common.{◌≡◌, ◌<◌, ◌+◌, ◌-◌, ℕ, zero, suc, ℤ, List, [], ◌∷◌, ◌++◌, length, get_or, take, Option, Some, Result, Ok, Err, IfOk, refl, sym, ap, subst, ◌∙◌, arith, sum_by, length-append}
use Rattle.std.proofs.lemmas.List.Sums.{sum_by-cons}
use Rattle.std.specs.Prelude.{unwrap_or, slice_get}
use Rattle.std.proofs.lemmas.Option.{slice_get-get_or}
use Rattle.kbytes.proofs.Laws.{some_is}
use Rattle.partlog.specs.History.{History}
use Rattle.partlog.specs.State.{PartState, state_at}
use Rattle.partlog.specs.Gauges.{numbers_of}
use Rattle.partlog.specs.Taken.{joined}
use Rattle.kwire.specs.declared.request.Ask.{Ask}
use Rattle.kwire.specs.declared.request.Ask.TheVariants.{Produce, Fetch, Metadata, Versions}
use Rattle.kwire.specs.declared.request.FetchPart.{FetchPart}
use Rattle.kwire.specs.declared.request.FetchTopic.{FetchTopic}
use Rattle.audit.specs.broker.Board.{history_at, empty_history}
use Rattle.kanswer.specs.declared.accepted.Accepted.{Accepted}
use Rattle.kanswer.specs.declared.accepted.Accepted.TheVariants.{Appended, Seen}
use Rattle.kanswer.specs.declared.accepted.Reading.{Reading}
use Rattle.kanswer.specs.declared.accepted.Budget.{Budget}
use Rattle.kanswer.specs.Waiting.{Shown}
use Rattle.kanswer.specs.Answer.{asked_parts, read_of, batches_as, budget_after, budget_behind}
use Rattle.kanswer.specs.LogReadings.{AreReadings, HasNumbers, HasRecords, FetchReadings, ProduceReadings, budget_of, named_count}
use Rattle.audit.specs.retelling.WasShown.{AreShown, HasPast, IsShownAt}
use Rattle.audit.proofs.retelling.LawfulParts.{one_more}

pub if_ok_both : {T E : Type 0} {P Q R : T → Type 0} (r : Result T E) → IfOk r P → IfOk r Q → ((x : T) → P x → Q x → R x) → IfOk r R
if_ok_both (Ok x) p q f = f x p q
if_ok_both (Err e) p q f = tt

pub if_ok_then : {T E : Type 0} {P R : T → Type 0} (r : Result T E) → IfOk r P → ((x : T) → P x → R x) → IfOk r R
if_ok_then (Ok x) p f = f x p
if_ok_then (Err e) p f = tt

-- ---- one partition

past_at : (pasts : List History) (part : ℕ) (h : History) → part < length pasts → h ≡ get_or pasts part h → history_at pasts part ≡ h
past_at pasts part h lt is = ap (λ (o : Option History). unwrap_or o (empty_history 0)) (slice_get-get_or pasts part h lt) ∙ sym is

-- the state of a partition that is seen
seen_state : (pasts : List History) (became : Accepted) (part start place : ℕ) (h : History) (state : PartState) → became ≡ Seen part start → HasPast (length pasts) became → h ≡ get_or pasts part h → IsShownAt pasts became place state
    → state ≡ state_at h place
seen_state pasts became part start place h state is has at_it shown =
    let lt : part < length pasts = subst (HasPast (length pasts)) is has in
    let at : state ≡ state_at (history_at pasts part) place = subst (λ (a : Accepted). IsShownAt pasts a place state) is shown in
    at ∙ ap (λ (g : History). state_at g place) (past_at pasts part h lt at_it)

pub seen_records : (pasts : List History) (r replica : ℤ) (asked : FetchPart) (became : Accepted) (part start place : ℕ) (h : History) (b : Budget) (reading : Reading) → r ≡ replica → became ≡ Seen part start → HasPast (length pasts) became → h ≡ get_or pasts part h
    → reading.numbers ≡ numbers_of (state_at h place) → reading.records ≡ joined (read_of r asked start (state_at h place) b)
    → (state : PartState) → IsShownAt pasts became place state → HasRecords replica asked became reading state b
seen_records pasts r replica asked became part start place h b reading who is has at_it numbers records state shown =
    let at = sym (seen_state pasts became part start place h state is has at_it shown) in
    subst (λ (a : Accepted). HasRecords replica asked a reading state b) (sym is)
    (numbers ∙ ap numbers_of at, records ∙ ap (λ (z : ℤ). joined (read_of z asked start (state_at h place) b)) who ∙ ap (λ (s : PartState). joined (read_of replica asked start s b)) at)

pub seen_left : (pasts : List History) (r replica : ℤ) (asked : FetchPart) (became : Accepted) (part start place : ℕ) (h : History) (b new : Budget) → r ≡ replica → became ≡ Seen part start → HasPast (length pasts) became → h ≡ get_or pasts part h
    → new ≡ budget_after (read_of r asked start (state_at h place) b) b
    → (state : PartState) → IsShownAt pasts became place state → new ≡ budget_after (batches_as replica asked became state b) b
seen_left pasts r replica asked became part start place h b new who is has at_it e state shown =
    let at = sym (seen_state pasts became part start place h state is has at_it shown) in
    e ∙ ap (λ (z : ℤ). budget_after (read_of z asked start (state_at h place) b) b) who
    ∙ ap (λ (s : PartState). budget_after (read_of replica asked start s b) b) at ∙ ap (λ (a : Accepted). budget_after (batches_as replica asked a state b) b) (sym is)

-- the numbers of one that was appended to
pub appended_numbers : (pasts : List History) (became : Accepted) (part base count place : ℕ) (h : History) (reading : Reading) → became ≡ Appended part base count → HasPast (length pasts) became → h ≡ get_or pasts part h
    → reading.numbers ≡ numbers_of (state_at h place) → (state : PartState) → IsShownAt pasts became place state → HasNumbers became reading state
appended_numbers pasts became part base count place h reading is has at_it numbers state shown =
    let lt : part < length pasts = subst (HasPast (length pasts)) is has in
    let at : state ≡ state_at (history_at pasts part) place = subst (λ (a : Accepted). IsShownAt pasts a place state) is shown in
    subst (λ (a : Accepted). HasNumbers a reading state) (sym is) (numbers ∙ ap numbers_of (sym (at ∙ ap (λ (g : History). state_at g place) (past_at pasts part h lt at_it))))

-- ---- one partition after the other

-- what is shown of the partition at a place of the request
pub record ShownAt (pasts : List History) (x : Accepted) (place k : ℕ) (shown : List Shown) : Type 0 where
  pub s : Shown
  pub there : slice_get shown k ≡ Some s
  pub result : s.result ≡ x
  pub state : IsShownAt pasts x place s.state

pub shown_at : (pasts : List History) (results : List Accepted) (places : List ℕ) (shown : List Shown) (k place : ℕ) (x : Accepted) → AreShown pasts results places shown → slice_get results k ≡ Some x → slice_get places k ≡ Some place
    → ShownAt pasts x place k shown
shown_at pasts [] places shown k place x are at put = absurd cc
shown_at pasts (r ∷ results) [] shown k place x are at put = absurd are
shown_at pasts (r ∷ results) (p ∷ places) [] k place x are at put = absurd are
shown_at pasts (r ∷ results) (p ∷ places) (s ∷ shown) zero place x are at put =
    let same : r ≡ x = some_is r x at in
    record {
      s = s;
      there = refl;
      result = are.0 ∙ same;
      state = subst (λ (a : Accepted). IsShownAt pasts a place s.state) same (subst (λ (n : ℕ). IsShownAt pasts r n s.state) (some_is p place put) are.1);
    }
shown_at pasts (r ∷ results) (p ∷ places) (s ∷ shown) (suc k) place x are at put =
    let rest = shown_at pasts results places shown k place x are.2 at put in
    record { s = rest.s; there = rest.there; result = rest.result; state = rest.state }

pub fetch_more : (replica : ℤ) (asks : List FetchPart) (results : List Accepted) (readings : List Reading) (shown : List Shown) (a : FetchPart) (x : Accepted) (reading : Reading) (s : Shown) (b : Budget)
    → FetchReadings replica asks results readings shown b → s.result ≡ x → HasRecords replica a x reading s.state (budget_behind replica asks shown b)
    → FetchReadings replica (asks ++ a ∷ []) (results ++ x ∷ []) (readings ++ reading ∷ []) (shown ++ s ∷ []) b
fetch_more replica [] [] [] [] a x reading s b are same has = (same, has, tt)
fetch_more replica [] [] [] (t ∷ shown) a x reading s b are same has = absurd are
fetch_more replica [] [] (g ∷ readings) shown a x reading s b are same has = absurd are
fetch_more replica [] (r ∷ results) readings shown a x reading s b are same has = absurd are
fetch_more replica (c ∷ asks) [] readings shown a x reading s b are same has = absurd are
fetch_more replica (c ∷ asks) (r ∷ results) [] shown a x reading s b are same has = absurd are
fetch_more replica (c ∷ asks) (r ∷ results) (g ∷ readings) [] a x reading s b are same has = absurd are
fetch_more replica (c ∷ asks) (r ∷ results) (g ∷ readings) (t ∷ shown) a x reading s b are same has =
    (are.0, are.1, fetch_more replica asks results readings shown a x reading s (budget_after (batches_as replica c t.result t.state b) b) are.2 same has)

pub behind_more : (replica : ℤ) (asks : List FetchPart) (results : List Accepted) (readings : List Reading) (shown : List Shown) (a : FetchPart) (s : Shown) (b : Budget)
    → FetchReadings replica asks results readings shown b
    → budget_behind replica (asks ++ a ∷ []) (shown ++ s ∷ []) b ≡ budget_after (batches_as replica a s.result s.state (budget_behind replica asks shown b)) (budget_behind replica asks shown b)
behind_more replica [] [] [] [] a s b are = refl
behind_more replica [] [] [] (t ∷ shown) a s b are = absurd are
behind_more replica [] [] (g ∷ readings) shown a s b are = absurd are
behind_more replica [] (r ∷ results) readings shown a s b are = absurd are
behind_more replica (c ∷ asks) [] readings shown a s b are = absurd are
behind_more replica (c ∷ asks) (r ∷ results) [] shown a s b are = absurd are
behind_more replica (c ∷ asks) (r ∷ results) (g ∷ readings) [] a s b are = absurd are
behind_more replica (c ∷ asks) (r ∷ results) (g ∷ readings) (t ∷ shown) a s b are =
    behind_more replica asks results readings shown a s (budget_after (batches_as replica c t.result t.state b) b) are.2

pub produce_more : (results : List Accepted) (readings : List Reading) (shown : List Shown) (x : Accepted) (reading : Reading) (s : Shown) → ProduceReadings results readings shown → s.result ≡ x → HasNumbers x reading s.state
    → ProduceReadings (results ++ x ∷ []) (readings ++ reading ∷ []) (shown ++ s ∷ [])
produce_more [] [] [] x reading s are same has = (same, has, tt)
produce_more [] [] (t ∷ shown) x reading s are same has = absurd are
produce_more [] (g ∷ readings) shown x reading s are same has = absurd are
produce_more (r ∷ results) [] shown x reading s are same has = absurd are
produce_more (r ∷ results) (g ∷ readings) [] x reading s are same has = absurd are
produce_more (r ∷ results) (g ∷ readings) (t ∷ shown) x reading s are same has = (are.0, are.1, produce_more results readings shown x reading s are.2 same has)

-- so many are shown
pub shown_long : (pasts : List History) (results : List Accepted) (places : List ℕ) (shown : List Shown) → AreShown pasts results places shown → length shown ≡ length results
shown_long pasts [] [] [] are = refl
shown_long pasts [] [] (s ∷ shown) are = absurd are
shown_long pasts [] (p ∷ places) shown are = absurd are
shown_long pasts (r ∷ results) [] shown are = absurd are
shown_long pasts (r ∷ results) (p ∷ places) [] are = absurd are
shown_long pasts (r ∷ results) (p ∷ places) (s ∷ shown) are = ap suc (shown_long pasts results places shown are.2)

pub fetch_next : (pasts : List History) (replica : ℤ) (asks : List FetchPart) (accepted : List Accepted) (places : List ℕ) (readings : List Reading) (i place : ℕ) (a : FetchPart) (x : Accepted) (reading : Reading) (here next first : Budget)
    → ((shown : List Shown) → AreShown pasts accepted places shown → FetchReadings replica (take i asks) (take i accepted) readings (take i shown) first × (here ≡ budget_behind replica (take i asks) (take i shown) first))
    → ((state : PartState) → IsShownAt pasts x place state → HasRecords replica a x reading state here)
    → ((state : PartState) → IsShownAt pasts x place state → next ≡ budget_after (batches_as replica a x state here) here)
    → slice_get asks i ≡ Some a → slice_get accepted i ≡ Some x → slice_get places i ≡ Some place
    → (shown : List Shown) → AreShown pasts accepted places shown
    → FetchReadings replica (take (i + 1) asks) (take (i + 1) accepted) (readings ++ reading ∷ []) (take (i + 1) shown) first × (next ≡ budget_behind replica (take (i + 1) asks) (take (i + 1) shown) first)
fetch_next pasts replica asks accepted places readings i place a x reading here next first before has left asked became put shown are =
    let f = shown_at pasts accepted places shown i place x are became put in
    let b = before shown are in
    let B : Budget = budget_behind replica (take i asks) (take i shown) first in
    let read = fetch_more replica (take i asks) (take i accepted) readings (take i shown) a x reading f.s first b.0 f.result (subst (λ (n : Budget). HasRecords replica a x reading f.s.state n) b.1 (has f.s.state f.state)) in
    let more_asks = one_more asks i a asked in
    let more_shown = one_more shown i f.s f.there in (
      subst (λ (l : List FetchPart). FetchReadings replica l (take (i + 1) accepted) (readings ++ reading ∷ []) (take (i + 1) shown) first) (sym more_asks)
          (subst (λ (l : List Accepted). FetchReadings replica (take i asks ++ a ∷ []) l (readings ++ reading ∷ []) (take (i + 1) shown) first) (sym (one_more accepted i x became))
          (subst (λ (l : List Shown). FetchReadings replica (take i asks ++ a ∷ []) (take i accepted ++ x ∷ []) (readings ++ reading ∷ []) l first) (sym more_shown) read)),
      left f.s.state f.state ∙ ap (λ (n : Budget). budget_after (batches_as replica a x f.s.state n) n) b.1
          ∙ ap (λ (r : Accepted). budget_after (batches_as replica a r f.s.state B) B) (sym f.result)
          ∙ sym (behind_more replica (take i asks) (take i accepted) readings (take i shown) a f.s first b.0)
          ∙ ap (λ (l : List FetchPart). budget_behind replica l (take i shown ++ f.s ∷ []) first) (sym more_asks)
          ∙ ap (λ (l : List Shown). budget_behind replica (take (i + 1) asks) l first) (sym more_shown),
    )

pub produce_next : (pasts : List History) (accepted : List Accepted) (places : List ℕ) (readings : List Reading) (i place : ℕ) (x : Accepted) (reading : Reading)
    → ((shown : List Shown) → AreShown pasts accepted places shown → ProduceReadings (take i accepted) readings (take i shown))
    → ((state : PartState) → IsShownAt pasts x place state → HasNumbers x reading state)
    → slice_get accepted i ≡ Some x → slice_get places i ≡ Some place
    → (shown : List Shown) → AreShown pasts accepted places shown → ProduceReadings (take (i + 1) accepted) (readings ++ reading ∷ []) (take (i + 1) shown)
produce_next pasts accepted places readings i place x reading before has became put shown are =
    let f = shown_at pasts accepted places shown i place x are became put in
    subst (λ (l : List Accepted). ProduceReadings l (readings ++ reading ∷ []) (take (i + 1) shown)) (sym (one_more accepted i x became))
    (subst (λ (l : List Shown). ProduceReadings (take i accepted ++ x ∷ []) (readings ++ reading ∷ []) l) (sym (one_more shown i f.s f.there))
    (produce_more (take i accepted) readings (take i shown) x reading f.s (before shown are) f.result (has f.s.state f.state)))

-- ---- all of them

pub asked_long : (topics : List FetchTopic) → length (asked_parts topics) ≡ sum_by (λ topic. length topic.parts) topics
asked_long [] = refl
asked_long (t ∷ topics) =
    omega (arith, length-append t.parts (asked_parts topics), asked_long topics, sum_by-cons (λ (u : FetchTopic). length u.parts) t topics)

pub asks_long : (ask : Ask) (version replica max_wait min_bytes max_bytes isolation : ℤ) (topics : List FetchTopic) (asks : List FetchPart) (n : ℕ) → ask ≡ Fetch version replica max_wait min_bytes max_bytes isolation topics → asks ≡ asked_parts topics → n ≡ named_count ask → n ≡ length asks
asks_long ask version replica max_wait min_bytes max_bytes isolation topics asks n is same count =
    count ∙ ap named_count is ∙ sym (asked_long topics) ∙ sym (ap length same)

pub fetch_are : (ask : Ask) (version r replica max_wait min_bytes max_bytes isolation : ℤ) (topics : List FetchTopic) (asks : List FetchPart) (accepted : List Accepted) (readings : List Reading) (shown : List Shown) (b : Budget)
    → ask ≡ Fetch version replica max_wait min_bytes max_bytes isolation topics → r ≡ replica → asks ≡ asked_parts topics → b ≡ budget_of ask → FetchReadings r asks accepted readings shown b → AreReadings ask accepted readings shown
fetch_are ask version r replica max_wait min_bytes max_bytes isolation topics asks accepted readings shown b is who same left are =
    subst (λ (a : Ask). AreReadings a accepted readings shown) (sym is)
    (subst (λ (n : Budget). FetchReadings replica (asked_parts topics) accepted readings shown n) (left ∙ ap budget_of is)
    (subst (λ (l : List FetchPart). FetchReadings replica l accepted readings shown b) same (subst (λ (z : ℤ). FetchReadings z asks accepted readings shown b) who are)))

abbrev pub IsNoFetch : Ask → Type 0
IsNoFetch (Produce version transactional acks timeout topics) = Unit {0}
IsNoFetch (Fetch version replica max_wait min_bytes max_bytes isolation topics) = ⊥
IsNoFetch (Metadata topics) = Unit {0}
IsNoFetch (Versions version) = Unit {0}

none_long : {X : Type 0} (xs : List X) → length xs ≡ 0 → xs ≡ []
none_long [] e = refl
none_long (x ∷ xs) e = absurd (omega (arith, e))

pub other_are : (pasts : List History) (ask : Ask) (accepted : List Accepted) (places : List ℕ) (readings : List Reading) → IsNoFetch ask → length accepted ≡ named_count ask
    → ((shown : List Shown) → AreShown pasts accepted places shown → ProduceReadings accepted readings shown)
    → (shown : List Shown) → AreShown pasts accepted places shown → AreReadings ask accepted readings shown
other_are pasts (Produce version transactional acks timeout topics) accepted places readings is count read shown are = read shown are
other_are pasts (Fetch version replica max_wait min_bytes max_bytes isolation topics) accepted places readings is count read shown are = absurd is
other_are pasts (Metadata topics) accepted places readings is count read shown are = none_long shown (shown_long pasts accepted places shown are ∙ count)
other_are pasts (Versions version) accepted places readings is count read shown are = none_long shown (shown_long pasts accepted places shown are ∙ count)

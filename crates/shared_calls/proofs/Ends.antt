-- How a request of each kind comes to its end.
use Rattle.std.proofs.Common.{◌≡◌, ◌∙◌, ℕ, ℤ, List, [], ◌∷◌, ap, arith, length, refl, subst, sym}
use Rattle.std.specs.Prelude.{⊤}
use Rattle.std.specs.List.{flat_map}
use Rattle.audit.specs.declared.account.Point.{Point}
use Rattle.kanswer.specs.declared.accepted.Accepted.{Accepted}
use Rattle.kanswer.specs.declared.accepted.Budget.{Budget}
use Rattle.kanswer.specs.declared.accepted.Reading.{Reading}
use Rattle.kanswer.specs.LogReadings.{AreReadings, ProduceReadings, budget_of, named_count}
use Rattle.kwire.specs.declared.request.Ask.{Ask}
use Rattle.kwire.specs.declared.request.Ask.TheVariants.{Produce, Fetch, Metadata, Versions}
use Rattle.kwire.specs.declared.request.FetchTopic.{FetchTopic}
use Rattle.kwire.specs.declared.request.Request.{Request}
use Rattle.opcond.specs.declared.need.Need.{Need}
use Rattle.opcond.specs.Operation.{Operation}
use Rattle.partlog.specs.State.{PartState as State}
use Rattle.room_core.specs.declared.event.How.{How}
use Rattle.shared_logs.specs.Shared.{LogPassView}
use Rattle.shared_calls.specs.Finished.{WasFinished, WasStopped}
use Rattle.kanswer.specs.PartitionGauges.{fetched_gauge, high_gauge}
use Rattle.shared_calls.specs.Fresh.{IsFresh, gauge_for}
use Rattle.shared_calls.specs.Looks.{HaveStopped, WasWon}
use Rattle.shared_calls.specs.Readings.{WereNumbered, WereRead}
use Rattle.shared_calls.specs.Seen.{seen_as}
use Rattle.shared_calls.proofs.Topics.{parts_of}
use Rattle.shared_calls.proofs.Wins.{finished, stopped_won}

-- it asks for no batches
abbrev pub IsNoFetch : Ask → Type 0
IsNoFetch (Produce version transactional acks timeout topics) = ⊤
IsNoFetch (Fetch version replica max_wait min_bytes max_bytes isolation topics) = ⊥
IsNoFetch (Metadata topics) = ⊤
IsNoFetch (Versions version) = ⊤

module _ (seq : ℕ) (request : Request) (accepted : List Accepted) (op : Operation) (how : How) (values : List ℕ) (needs : List Need) (a m b : LogPassView) (p q : List Point) (needs_are : needs ≡ op.needs)
    (won : WasWon seq request accepted op how (IsFresh (gauge_for request.ask) op.needs values) a m p) where
  abbrev fresh : ℕ → State → Type 0
  fresh = IsFresh (gauge_for request.ask) op.needs values

  -- ---- a fetch

  module _ (version z replica max_wait min_bytes max_bytes isolation : ℤ) (topics items : List FetchTopic) (ask_is : request.ask ≡ Fetch version replica max_wait min_bytes max_bytes isolation topics) (same : z ≡ replica) (items_are : items ≡ topics) where
    gauges_are : fetched_gauge z ≡ gauge_for request.ask
    gauges_are = ap fetched_gauge same ∙ ap gauge_for (sym ask_is)

    pub finished_fetch : (budget left : Budget) (readings : List Reading) → budget ≡ budget_of request.ask → WereRead seq (IsFresh (fetched_gauge z) needs values) z (flat_map parts_of items) m p accepted budget b q left readings
        → WasFinished seq request accepted op how a b q readings
    finished_fetch budget left readings budget_is read =
        let r1 = subst (λ (ns : List Need). WereRead seq (IsFresh (fetched_gauge z) ns values) z (flat_map parts_of items) m p accepted budget b q left readings) needs_are read in
        let r2 = subst (λ gauges. WereRead seq (IsFresh gauges op.needs values) z (flat_map parts_of items) m p accepted budget b q left readings) gauges_are r1 in
        let r3 = subst (λ r. WereRead seq fresh r (flat_map parts_of items) m p accepted budget b q left readings) same r2 in
        let r4 = subst (λ (ts : List FetchTopic). WereRead seq fresh replica (flat_map parts_of ts) m p accepted budget b q left readings) items_are r3 in
        let r5 = subst (λ (n : Budget). WereRead seq fresh replica (flat_map parts_of topics) m p accepted n b q left readings) (budget_is ∙ ap budget_of ask_is) r4 in
        finished seq request accepted op how fresh a m b p q r5.states readings won r5.looked (subst (λ (ask : Ask). AreReadings ask accepted readings (seen_as accepted r5.states)) (sym ask_is) r5.read)

    pub stopped_fetch : HaveStopped seq (IsFresh (fetched_gauge z) needs values) m p accepted b q → WasStopped seq request accepted op a b q
    stopped_fetch stopped =
        let s1 = subst (λ (ns : List Need). HaveStopped seq (IsFresh (fetched_gauge z) ns values) m p accepted b q) needs_are stopped in
        let s2 = subst (λ gauges. HaveStopped seq (IsFresh gauges op.needs values) m p accepted b q) gauges_are s1 in
        stopped_won seq request accepted op how fresh a m b p q won s2

  -- ---- any other

  no_fetch_gauge : (ask : Ask) → IsNoFetch ask → high_gauge ≡ gauge_for ask
  no_fetch_gauge (Produce version transactional acks timeout topics) other = refl
  no_fetch_gauge (Fetch version replica max_wait min_bytes max_bytes isolation topics) other = absurd other
  no_fetch_gauge (Metadata topics) other = refl
  no_fetch_gauge (Versions version) other = refl

  none_named : (xs : List Accepted) → length xs ≡ 0 → xs ≡ []
  none_named [] size = refl
  none_named (x ∷ xs) size = absurd (omega (arith, size))

  read_for : (ask : Ask) (states : List State) (readings : List Reading) → IsNoFetch ask → length accepted ≡ named_count ask → ProduceReadings accepted readings (seen_as accepted states) → AreReadings ask accepted readings (seen_as accepted states)
  read_for (Produce version transactional acks timeout topics) states readings other size read = read
  read_for (Fetch version replica max_wait min_bytes max_bytes isolation topics) states readings other size read = absurd other
  read_for (Metadata topics) states readings other size read = ap (λ (xs : List Accepted). seen_as xs states) (none_named accepted size)
  read_for (Versions version) states readings other size read = ap (λ (xs : List Accepted). seen_as xs states) (none_named accepted size)

  pub finished_other : (readings : List Reading) → IsNoFetch request.ask → length accepted ≡ named_count request.ask → WereNumbered seq (IsFresh high_gauge needs values) m p accepted b q readings
      → WasFinished seq request accepted op how a b q readings
  finished_other readings other size read =
      let r1 = subst (λ (ns : List Need). WereNumbered seq (IsFresh high_gauge ns values) m p accepted b q readings) needs_are read in
      let r2 = subst (λ gauges. WereNumbered seq (IsFresh gauges op.needs values) m p accepted b q readings) (no_fetch_gauge request.ask other) r1 in
      finished seq request accepted op how fresh a m b p q r2.states readings won r2.looked (read_for request.ask r2.states readings other size r2.read)

  pub stopped_other : IsNoFetch request.ask → HaveStopped seq (IsFresh high_gauge needs values) m p accepted b q → WasStopped seq request accepted op a b q
  stopped_other other stopped =
      let s1 = subst (λ (ns : List Need). HaveStopped seq (IsFresh high_gauge ns values) m p accepted b q) needs_are stopped in
      let s2 = subst (λ gauges. HaveStopped seq (IsFresh gauges op.needs values) m p accepted b q) (no_fetch_gauge request.ask other) s1 in
      stopped_won seq request accepted op how fresh a m b p q won s2

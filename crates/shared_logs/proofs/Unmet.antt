-- What waits in a room that was closed isn't answerable by the closed logs.
use Rattle.std.proofs.Common.{⊎_elim, ◌≡◌, ◌≢◌, ◌∙◌, ℕ, ◌+◌, ◌*◌, ◌/◌, ◌%◌, ◌<◌, Bool, false, List, [], ◌∷◌, ◌++◌, Some, get_or, length, map, ap, refl, subst, sym, arith}
use Rattle.std.specs.Prelude.{All, slice_get, unwrap_or, ◌==◌, if◌then◌else◌}
use Rattle.std.proofs.lemmas.Bool.{cases_eq, eq-eqb, ne_eqb}
use Rattle.std.proofs.lemmas.List.Elements.{All-head, All-pop, All-tail}
use Rattle.std.proofs.lemmas.List.FromFn.{get_or-map-range_with_len, length-map-range_with_len}
use Rattle.std.proofs.lemmas.Option.{slice_get-get_or}
use Rattle.partlog.specs.declared.clock_event.ClockEvent.{ClockEvent}
use Rattle.partlog.specs.Gauges.{gauges_of, numbers_of}
use Rattle.partlog.specs.History.{History}
use Rattle.partlog.specs.Moment.{moment_of}
use Rattle.partlog.specs.State.{state_of}
use Rattle.opcond.specs.declared.need.Need.{Need}
use Rattle.opcond.specs.Tally.{IsSatisfied}
use Rattle.kanswer.specs.Waiting.{gauge_value}
use Rattle.audit.specs.broker.Board.{empty_history, history_at}
use Rattle.room_core.specs.declared.parts.Source.{Source}
use Rattle.room_core.specs.declared.parts.Stage.{Stage}
use Rattle.room_core.specs.declared.shape.Shape.{Shape}
use Rattle.room_core.specs.Described.{needs_in, operation_of, values_in}
use Rattle.room_core.specs.Description.{IsOperation, need_of, needs_of}
use Rattle.room_core.specs.Gauges.{clock_of}
use Rattle.room_core.specs.State.{Caller}
use Rattle.room_table.specs.Seats.{CallerView, SourceView, caller_now, source_now}
use Rattle.purgatory.specs.Closed.{IsClosed, stored_in}
use Rattle.purgatory.specs.Ends.{StillView}
use Rattle.audit.specs.broker.Board.{gauge_now}
use Rattle.shared_logs.specs.Closing.{IsUnanswerable}
use Rattle.shared_logs.specs.Gone.{HaveStored, TellOf}

map_agrees : {A B : Type 0} (f g : A → B) (xs : List A) → All (λ x. f x ≡ g x) xs → map f xs ≡ map g xs
map_agrees f g [] all = refl
map_agrees {A = A} f g (x ∷ xs) all =
    let P : A → Type 0 = λ y. f y ≡ g y in
    λ j. All-head P x xs all j ∷ map_agrees f g xs (All-tail P x xs all) j

waits_not_idle : Stage.Waiting ≡ Stage.Idle → ⊥
waits_not_idle e = absurd cc

-- the three gauges of a partition
stored_value : (source : ℕ → Source) (part gauge : ℕ) (h : History) → gauge ≡ 3 * part + gauge % 3 → HaveStored source part (numbers_of (state_of h)) → (source gauge).stored ≡ gauge_value gauge (state_of h)
stored_value source part gauge h is have =
    let high = (gauges_of (state_of h)).high in
    let visible = (gauges_of (state_of h)).visible in
    let bytes = (gauges_of (state_of h)).bytes in
    let value : Bool → Bool → ℕ = λ a b. if a then high else (if b then visible else bytes) in
    let r = gauge % 3 in
    let few : r < 3 = omega arith in
    ⊎_elim
    (λ (e : r ≡ 0).
    ap (λ g. (source g).stored) (is ∙ omega (arith, e)) ∙ have.high ∙ sym (ap (λ a. value a (r == 1)) (eq-eqb r 0 e)))
    (λ (m : r ≢ 0).
    ⊎_elim
    (λ (e : r ≡ 1).
    ap (λ g. (source g).stored) (is ∙ ap (λ k. 3 * part + k) e) ∙ have.visible ∙ sym (ap (λ a. value a (r == 1)) (ne_eqb r 0 m) ∙ ap (λ b. value false b) (eq-eqb r 1 e)))
    (λ (n : r ≢ 1).
    let two : r ≡ 2 = omega (arith, few, m, n) in
    ap (λ g. (source g).stored) (is ∙ ap (λ k. 3 * part + k) two) ∙ have.end ∙ sym (ap (λ a. value a (r == 1)) (ne_eqb r 0 m) ∙ ap (λ b. value false b) (ne_eqb r 1 n)))
    (cases_eq r 1))
    (cases_eq r 0)

module _ (still : StillView) (logs : List History) (sources : List SourceView) (source : SourceView) (numbers : List ℕ) (closed : IsClosed still (sources ++ source ∷ []) numbers) (gauges : still.table.shape.gauges ≡ 3 * length logs + 1)
    (tell : TellOf logs sources) (events : List ClockEvent) (gauge_is : source.gauge ≡ 3 * length logs) (stored : (source_now source).stored ≡ moment_of events) where
  shown_sources : All (λ (seat : SourceView). closed.shown.state.source seat.gauge ≡ source_now seat) sources × (closed.shown.state.source source.gauge ≡ source_now source)
  shown_sources = All-pop (λ (seat : SourceView). closed.shown.state.source seat.gauge ≡ source_now seat) (sources ++ source ∷ []) sources (Some source) refl closed.shown.source

  values_same : (gauge : ℕ) → gauge < 3 * length logs → stored_in closed.shown.state gauge ≡ gauge_value gauge (state_of (history_at logs (gauge / 3)))
  values_same gauge less =
      let part = gauge / 3 in
      let there : part < length logs = omega (arith, less) in
      let h = get_or logs part (empty_history 0) in
      let at : slice_get logs part ≡ Some h = slice_get-get_or logs part (empty_history 0) there in
      let is : history_at logs part ≡ h = ap (λ o. unwrap_or o (empty_history 0)) at in
      stored_value closed.shown.state.source part gauge h (omega arith) (tell closed.shown.state.source shown_sources.0 part h at) ∙ ap (λ (x : History). gauge_value gauge (state_of x)) (sym is)

  clock_is : clock_of closed.shown.state.shape ≡ 3 * length logs
  clock_is =
      let shape = ap (λ (s : Shape). s.gauges) closed.shown.shape in
      omega (arith, shape, gauges)

  moment_same : stored_in closed.shown.state (clock_of closed.shown.state.shape) ≡ moment_of events
  moment_same = ap (stored_in closed.shown.state) (clock_is ∙ sym gauge_is) ∙ ap (λ (s : Source). s.stored) shown_sources.1 ∙ stored

  values_agree : (words : ℕ → ℕ) → IsOperation closed.shown.state.shape words → values_in words (stored_in closed.shown.state) ≡ map (gauge_now logs) (needs_in words)
  values_agree words op =
      let P : Need → Type 0 = λ need. stored_in closed.shown.state need.gauge ≡ gauge_now logs need in
      map_agrees (λ (need : Need). stored_in closed.shown.state need.gauge) (gauge_now logs) (needs_in words)
      (λ k d less.
      let few : k < needs_of words = subst (λ n. k < n) (length-map-range_with_len (need_of words) 0 (needs_of words)) less in
      let here = get_or-map-range_with_len (need_of words) 0 (needs_of words) k k d few (omega arith) in
      subst P (sym here) (values_same (need_of words k).gauge (subst (λ n. (need_of words k).gauge < n) clock_is (op.gauges k few))))

  pub unmet : All (λ (seat : CallerView). (caller_now seat).stage ≡ Stage.Waiting → IsUnanswerable logs events (operation_of (caller_now seat).description)) still.callers
  unmet k d less waits =
      let seat = get_or still.callers k d in
      let left = (closed.waiting k d less waits).unanswerable in
      let state = closed.shown.state in
      let words = (caller_now seat).description in
      let caller : state.caller seat.pass ≡ caller_now seat = closed.shown.caller k d less in
      let stage : (state.caller seat.pass).stage ≢ Stage.Idle = λ idle. waits_not_idle (sym (ap (λ (c : Caller). c.stage) caller ∙ waits) ∙ idle) in
      let valid : IsOperation state.shape (state.description seat.pass) = closed.shown.carried.sound.owners.operation seat.pass stage in
      let same : state.description seat.pass ≡ words = (λ j at. closed.shown.carried.sound.owners.description seat.pass at j) ∙ ap (λ (c : Caller). c.description) caller in
      let op : IsOperation state.shape words = subst (IsOperation state.shape) same valid in
      record {
        unsatisfied = λ met. left.unsatisfied (subst (λ (values : List ℕ). IsSatisfied (operation_of words) values) (sym (values_agree words op)) met);
        early = subst (λ n. n < (operation_of words).deadline) moment_same left.early;
      }

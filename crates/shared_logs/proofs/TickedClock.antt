-- The clock's desk, as its history goes on.
use Rattle.std.proofs.Common.{◌≡◌, ℕ, zero, suc, ◌+◌, ◌<◌, Bool, cond, List, [], ◌∷◌, ◌++◌, get_or, length, max, refl, sym, ap, ◌∙◌, subst, inl, inr, arith, append-nil, length-append}
use Rattle.std.proofs.Math.ListN.{get_or-append}
use Rattle.std.proofs.lemmas.Bool.{cases_lt, lt-ltb}
use Rattle.std.proofs.lemmas.List.{get_or-append-add}
use Rattle.std.proofs.lemmas.List.Elements.{filter_map-append}
use Rattle.std.proofs.lemmas.List.Sums.{fold_push}
use Rattle.std.specs.List.{filter_map, fold}
use Rattle.std.specs.List.Sorted.{IsStrictlyIncreasing}
use Rattle.partlog.specs.declared.clock_event.ClockEvent.{ClockEvent}
use Rattle.partlog.specs.declared.clock_event.ClockEvent.TheVariants.{Tick, Look}
use Rattle.partlog.specs.Moment.{moment_of, tick_of}
use Rattle.partlog.specs.Ticked.{ticked}
use Rattle.audit.specs.Histories.{ticks_of}
use Rattle.audit.specs.broker.Sound.{AllBelow}
use Rattle.room_table.specs.Seats.{SourceView}
use Rattle.turn_lock.specs.AddedBy.{AddedBy}
use Rattle.purgatory.specs.Raised.{IsQuietAt}
use Rattle.shared_logs.specs.Desks.{MomentView}
use Rattle.shared_logs.specs.Entries.{clock_by, clock_entries}
use Rattle.shared_logs.specs.Keeps.{MomentKeeps}
use Rattle.shared_logs.proofs.Adding.{added_one}
use Rattle.shared_logs.proofs.Beside.{clock_append, ticks_append}

-- the moment with a tick more, and with a look more
moment_ticked : (events : List ClockEvent) (t : ℕ) → moment_of (events ++ Tick t ∷ []) ≡ max (moment_of events) t
moment_ticked events t = ap (fold max 0) (filter_map-append tick_of events (Tick t ∷ [])) ∙ fold_push max 0 (filter_map tick_of events) t

pub moment_looked : (events : List ClockEvent) (by seq : ℕ) → moment_of (events ++ Look by seq ∷ []) ≡ moment_of events
moment_looked events by seq = ap (fold max 0) (filter_map-append tick_of events (Look by seq ∷ []) ∙ append-nil (filter_map tick_of events))

pub ticked_above : (events : List ClockEvent) (t : ℕ) → moment_of events < t → ticked events t ≡ events ++ Tick t ∷ []
ticked_above events t less = ap (λ (b : Bool). cond b (events ++ Tick t ∷ []) events) (lt-ltb (moment_of events) t less)

-- ---- ticks rise

below_get : (t : ℕ) (xs : List ℕ) (k : ℕ) → AllBelow t xs → k < length xs → get_or xs k 0 < t
below_get t [] k below lt = absurd (omega (arith, lt))
below_get t (x ∷ xs) zero below lt = below.0
below_get t (x ∷ xs) (suc k) below lt = below_get t xs k below.1 (omega (arith, lt))

-- numbers that rise, and one more above them all
rises_more : (xs : List ℕ) (t : ℕ) → IsStrictlyIncreasing xs → AllBelow t xs → IsStrictlyIncreasing (xs ++ t ∷ [])
rises_more xs t rises below k lt =
    let ys : List ℕ = t ∷ [] in
    let size : length (xs ++ ys) ≡ length xs + 1 = length-append xs ys in
    let here : get_or (xs ++ ys) k 0 ≡ get_or xs k 0 = get_or-append xs ys 0 k (omega (arith, lt, size)) in
    elim (cases_lt (k + 1) (length xs)) [
      | inl within ↦
          let next : get_or (xs ++ ys) (k + 1) 0 ≡ get_or xs (k + 1) 0 = get_or-append xs ys 0 (k + 1) within in
          omega (arith, here, next, rises k within)
      | inr past ↦
          let next : get_or (xs ++ ys) (k + 1) 0 ≡ get_or ys 0 0 = ap (λ (i : ℕ). get_or (xs ++ ys) i 0) (omega (arith, past, lt, size)) ∙ get_or-append-add xs ys 0 0 in
          omega (arith, here, next, below_get t xs k below (omega (arith, lt, size)))
    ]

ticks_more : (events : List ClockEvent) (t : ℕ) → ticks_of (events ++ Tick t ∷ []) ≡ ticks_of events ++ t ∷ []
ticks_more [] t = refl
ticks_more (Tick u ∷ events) t = ap (λ (ts : List ℕ). u ∷ ts) (ticks_more events t)
ticks_more (Look by seq ∷ events) t = ticks_more events t

ticks_looked : (events : List ClockEvent) (by seq : ℕ) → ticks_of (events ++ Look by seq ∷ []) ≡ ticks_of events
ticks_looked [] by seq = refl
ticks_looked (Tick u ∷ events) by seq = ap (λ (ts : List ℕ). u ∷ ts) (ticks_looked events by seq)
ticks_looked (Look b s ∷ events) by seq = ticks_looked events by seq

-- what is above the moment is above every tick
above_ticks : (events : List ClockEvent) (least t : ℕ) → fold max least (filter_map tick_of events) < t → (least < t) × AllBelow t (ticks_of events)
above_ticks [] least t lt = (lt, tt)
above_ticks (Tick u ∷ events) least t lt =
    let rest = above_ticks events (max least u) t lt in
    (omega (arith, rest.0), (omega (arith, rest.0), rest.1))
above_ticks (Look by seq ∷ events) least t lt = above_ticks events least t lt

ticks_rise : (events : List ClockEvent) (t : ℕ) → IsStrictlyIncreasing (0 ∷ ticks_of events) → moment_of events < t → IsStrictlyIncreasing (0 ∷ ticks_of (events ++ Tick t ∷ []))
ticks_rise events t rises less =
    subst (λ (ts : List ℕ). IsStrictlyIncreasing (0 ∷ ts)) (sym (ticks_more events t)) (rises_more (0 ∷ ticks_of events) t rises (above_ticks events 0 t less))

-- ---- what the desk keeps

pub tick_keeps : (desk : MomentView) (by t : ℕ) (source : SourceView) → MomentKeeps desk → moment_of desk.events < t → IsQuietAt t desk.source source
    → MomentKeeps (record { events = desk.events ++ Tick t ∷ []; tickers = desk.tickers ++ by ∷ []; source = source })
tick_keeps desk by t source keeps less raised =
    let moment = moment_ticked desk.events t in
    record {
      value = raised.stored ∙ sym (omega (arith, moment, less));
      quiet = raised.quiet;
      tickers = omega (arith, length-append desk.tickers (by ∷ []), ticks_append desk.events (Tick t ∷ []), keeps.tickers);
      ticks = ticks_rise desk.events t keeps.ticks less;
    }

pub look_keeps : (desk : MomentView) (by seq : ℕ) → MomentKeeps desk → MomentKeeps (record { events = desk.events ++ Look by seq ∷ []; tickers = desk.tickers; source = desk.source })
look_keeps desk by seq keeps = record {
  value = keeps.value ∙ sym (moment_looked desk.events by seq);
  quiet = keeps.quiet;
  tickers = omega (arith, ticks_append desk.events (Look by seq ∷ []), keeps.tickers);
  ticks = subst (λ (ts : List ℕ). IsStrictlyIncreasing (0 ∷ ts)) (sym (ticks_looked desk.events by seq)) keeps.ticks;
}

pub tick_added : (desk : MomentView) (by t : ℕ) → MomentKeeps desk → AddedBy clock_by by (clock_entries desk.events desk.tickers) (clock_entries (desk.events ++ Tick t ∷ []) (desk.tickers ++ by ∷ []))
tick_added desk by t keeps =
    added_one clock_by by (clock_entries desk.events desk.tickers) (clock_entries (desk.events ++ Tick t ∷ []) (desk.tickers ++ by ∷ [])) (record { event = Tick t; by = by })
    (clock_append desk.events (Tick t ∷ []) desk.tickers (by ∷ []) keeps.tickers) refl

pub look_added : (desk : MomentView) (by seq : ℕ) → MomentKeeps desk → AddedBy clock_by by (clock_entries desk.events desk.tickers) (clock_entries (desk.events ++ Look by seq ∷ []) desk.tickers)
look_added desk by seq keeps =
    added_one clock_by by (clock_entries desk.events desk.tickers) (clock_entries (desk.events ++ Look by seq ∷ []) desk.tickers) (record { event = Look by seq; by = by })
    (ap (clock_entries (desk.events ++ Look by seq ∷ [])) (sym (append-nil desk.tickers)) ∙ clock_append desk.events (Look by seq ∷ []) desk.tickers [] keeps.tickers) refl

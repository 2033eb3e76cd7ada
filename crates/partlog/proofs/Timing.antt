-- The clock's moment, as its history goes on.
use Rattle.std.proofs.Common.{◌≡◌, ℕ, ◌<◌, ◌≤◌, List, [], ◌∷◌, ◌++◌, max, fold, arith, sym, ap, ◌∙◌, append-nil}
use Rattle.std.specs.List.{filter_map}
use Rattle.std.proofs.lemmas.List.Elements.{filter_map-append}
use Rattle.std.proofs.lemmas.List.Sums.{fold_push}
use Rattle.partlog.specs.declared.clock_event.ClockEvent.{ClockEvent}
use Rattle.partlog.specs.declared.clock_event.ClockEvent.TheVariants.{Tick, Look}
use Rattle.partlog.specs.Moment.{moment_of, tick_of}
use Rattle.partlog.specs.Timed.{IsTimed}

-- a tick
moment-tick : (events : List ClockEvent) (t : ℕ) → moment_of (events ++ Tick t ∷ []) ≡ max (moment_of events) t
moment-tick events t = ap (λ l. fold max 0 l) (filter_map-append tick_of events (Tick t ∷ [])) ∙ fold_push max 0 (filter_map tick_of events) t

pub timed-tick : (events : List ClockEvent) (now t : ℕ) → now < t → t ≤ 1000000000000000 → IsTimed events now → IsTimed (events ++ Tick t ∷ []) t
timed-tick events now t above limit was =
    let next = moment-tick events t in
    let moment = was.moment in
    record { moment = omega arith; bounded = omega arith }

-- a look
pub moment-look : (events : List ClockEvent) (by seq : ℕ) → moment_of (events ++ Look by seq ∷ []) ≡ moment_of events
moment-look events by seq = ap (λ l. fold max 0 l) (filter_map-append tick_of events (Look by seq ∷ []) ∙ append-nil (filter_map tick_of events))

pub timed-look : (events : List ClockEvent) (now by seq : ℕ) → IsTimed events now → IsTimed (events ++ Look by seq ∷ []) now
timed-look events now by seq was =
    let same = moment-look events by seq in
    record { moment = was.moment ∙ sym same; bounded = omega (arith, same, was.bounded) }

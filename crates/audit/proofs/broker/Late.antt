-- Whoever was taken out lagged then, as histories go on.
use Rattle.std.proofs.Common.{◌≡◌, ℕ, ◌≤◌, ℤ, List, ◌++◌, length, take, Some, sym, ap, subst, ◌∙◌, arith, inl, inr}
use Rattle.std.proofs.lemmas.Bool.{cases_lt}
use Rattle.std.proofs.lemmas.List.{take-append-le}
use Rattle.std.proofs.lemmas.Option.{slice_get_within}
use Rattle.std.specs.Prelude.{slice_get}
use Rattle.partlog.specs.declared.event.PartEvent.{PartEvent}
use Rattle.partlog.specs.declared.event.PartEvent.TheVariants.{Append, Follow, Look, Shrink}
use Rattle.partlog.specs.History.{History}
use Rattle.partlog.specs.Lagging.{LagsAt, LeftLate}
use Rattle.kanswer.specs.Decisions.{Entry, Put, Followed, Looked}
use Rattle.kbytes.proofs.Laws.{get_there, get_within, some_is}
use Rattle.audit.specs.broker.Board.{empty_history, history_at}
use Rattle.audit.specs.broker.GoesOn.{AllLonger}
use Rattle.audit.proofs.broker.Growth.{event_of}
use Rattle.audit.proofs.broker.Timely.{NewEvents, events_at, events_of_part}

-- of each history
abbrev pub AllLate : List History → Type 0
AllLate parts = (p : ℕ) (h : History) → slice_get parts p ≡ Some h → LeftLate h.followers h.events

-- entries came, and those that took a follower out are right
late_on : (followers : ℕ) (events more : List PartEvent)
    → ((place by t : ℕ) (replica : ℤ) → slice_get (events ++ more) place ≡ Some (Shrink by replica t) → length events ≤ place → LagsAt followers (take place (events ++ more)) t replica)
    → LeftLate followers events → LeftLate followers (events ++ more)
late_on followers events more new late place by t replica e =
    elim (cases_lt place (length events)) [
      | inl lt ↦
          let front : take place (events ++ more) ≡ take place events = take-append-le place events more (omega (arith, lt)) in
          subst (λ (es : List PartEvent). LagsAt followers es t replica) (sym front) (late place by t replica (sym (get_within events more place lt) ∙ e))
      | inr past ↦ new place by t replica e past
    ]

-- ---- entries that take nobody out

abbrev pub TakesNobody : PartEvent → Type 0
TakesNobody (Append by seq count len) = Unit {0}
TakesNobody (Follow by seq replica offset t) = Unit {0}
TakesNobody (Look by seq) = Unit {0}
TakesNobody (Shrink by replica t) = ⊥

pub entry_takes : (by seq t : ℕ) (entry : Entry) → TakesNobody (event_of by seq t entry)
entry_takes by seq t (Put count batch) = tt
entry_takes by seq t (Followed replica offset) = tt
entry_takes by seq t Looked = tt

-- all histories go on by such entries
pub late_more : (parts later : List History) → AllLonger parts later → length later ≤ length parts → NewEvents parts later TakesNobody → AllLate parts → AllLate later
late_more parts later longer size new late p l there =
    let h : History = history_at parts p in
    let at : slice_get parts p ≡ Some h = get_there parts p (empty_history 0) (omega (arith, size, slice_get_within later p l there)) in
    let on = longer p h at in
    let is : on.0 ≡ l = some_is on.0 l (sym on.1 ∙ there) in
    let events : l.events ≡ h.events ++ on.2.more = ap (λ (x : History). x.events) (sym is) ∙ on.2.events in
    let followers : l.followers ≡ h.followers = ap (λ (x : History). x.followers) (sym is) ∙ on.2.followers in
    subst (λ (n : ℕ). LeftLate n l.events) (sym followers)
    (subst (LeftLate h.followers) (sym events) (late_on h.followers h.events on.2.more (λ place by t replica e past.
    let here : slice_get (events_at later p) place ≡ Some (Shrink by replica t) = ap (λ (es : List PartEvent). slice_get es place) (events_of_part later p l there ∙ events) ∙ e in
    absurd (new p place (Shrink by replica t) here past)) (late p h at)))

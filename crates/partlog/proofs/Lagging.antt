-- Whoever was taken out lagged, as a history goes on, and as all who lag are taken out.
use Rattle.std.proofs.Common.{◌≡◌, ◌⊎◌, ℕ, ℤ, zero, suc, pos, Some, List, [], ◌∷◌, ◌++◌, length, take, drop, map, filter, refl, ap, sym, subst, ◌∙◌, append-nil, append_assoc, inl, inr}
use Rattle.std.specs.List.{range_with_len, slice_get}
use Rattle.std.proofs.lemmas.List.{take-append-drop}
use Rattle.partlog.specs.in_sync.ReplicaEvent.{ReplicaEvent}
use Rattle.partlog.specs.in_sync.Lagging.{lags}
use Rattle.partlog.proofs.in_sync.Laws.{late-first, late-rest, late-none, none-late, late-with}
use Rattle.partlog.specs.declared.event.PartEvent.{PartEvent}
use Rattle.partlog.specs.declared.event.PartEvent.TheVariants.{Append, Follow, Look, Shrink}
use Rattle.partlog.specs.History.{History}
use Rattle.partlog.specs.Lagging.{LagsAt, IsLeastLate, NoneLags, LeftLate}
use Rattle.partlog.specs.Replicas.{replica_events}
use Rattle.partlog.specs.Shrunk.{shrunk, late_at, shrinks_at, all_shrunk, some_shrunk}
use Rattle.partlog.proofs.Replicas.{events-append}

-- an entry of a history and one more is one of the history, or the last
two_ways : (es : List PartEvent) (e x : PartEvent) (place : ℕ) → slice_get (es ++ e ∷ []) place ≡ Some x → ((slice_get es place ≡ Some x) × (take place (es ++ e ∷ []) ≡ take place es)) ⊎ ((e ≡ x) × (take place (es ++ e ∷ []) ≡ es))
two_ways [] e x zero is = inr (cc, refl)
two_ways [] e x (suc place) is = absurd cc
two_ways (f ∷ es) e x zero is = inl (is, refl)
two_ways (f ∷ es) e x (suc place) is =
    elim (two_ways es e x place is) [
      | inl before ↦ inl (before.0, ap (λ (l : List PartEvent). f ∷ l) before.1)
      | inr last ↦ inr (last.0, ap (λ (l : List PartEvent). f ∷ l) last.1)
    ]

-- an entry of the front
of_front : (es fs : List PartEvent) (x : PartEvent) (place : ℕ) → slice_get es place ≡ Some x → (slice_get (es ++ fs) place ≡ Some x) × (take place (es ++ fs) ≡ take place es)
of_front [] fs x place is = absurd cc
of_front (f ∷ es) fs x zero is = (is, refl)
of_front (f ∷ es) fs x (suc place) is =
    let rest = of_front es fs x place is in
    (rest.0, ap (λ (l : List PartEvent). f ∷ l) rest.1)

module _ (followers : ℕ) where
  pub late-nobody : LeftLate followers []
  late-nobody = λ place by t replica is. absurd cc

  pub late-push : (events : List PartEvent) (e : PartEvent) → LeftLate followers events → ((by t : ℕ) (replica : ℤ) → e ≡ Shrink by replica t → LagsAt followers events t replica) → LeftLate followers (events ++ e ∷ [])
  late-push events e late here = λ place by t replica is.
      let Late : List PartEvent → Type 0 = λ es. LagsAt followers es t replica in
      elim (two_ways events e (Shrink by replica t) place is) [
        | inl before ↦ subst Late (sym before.1) (late place by t replica before.0)
        | inr last ↦ subst Late (sym last.1) (here by t replica last.0)
      ]

  pub late-append : (events : List PartEvent) (by seq count len : ℕ) → LeftLate followers events → LeftLate followers (events ++ Append by seq count len ∷ [])
  late-append events by seq count len late = late-push events (Append by seq count len) late (λ b t replica is. absurd cc)

  pub late-follow : (events : List PartEvent) (by seq : ℕ) (replica : ℤ) (offset t : ℕ) → LeftLate followers events → LeftLate followers (events ++ Follow by seq replica offset t ∷ [])
  late-follow events by seq replica offset t late = late-push events (Follow by seq replica offset t) late (λ b u r is. absurd cc)

  pub late-look : (events : List PartEvent) (by seq : ℕ) → LeftLate followers events → LeftLate followers (events ++ Look by seq ∷ [])
  late-look events by seq late = late-push events (Look by seq) late (λ b t replica is. absurd cc)

  pub late-shrink : (events : List PartEvent) (by : ℕ) (replica : ℤ) (t : ℕ) → LeftLate followers events → LagsAt followers events t replica → LeftLate followers (events ++ Shrink by replica t ∷ [])
  late-shrink events by replica t late lagging =
      late-push events (Shrink by replica t) late (λ b u r is.
      let same : replica ≡ r = cc in
      let at : t ≡ u = cc in
      subst (λ (q : ℤ). LagsAt followers events u q) same (subst (λ (n : ℕ). LagsAt followers events n replica) at lagging))

  -- of a front of a history
  pub late-front : (events more : List PartEvent) → LeftLate followers (events ++ more) → LeftLate followers events
  late-front events more late = λ place by t replica is.
      let found = of_front events more (Shrink by replica t) place is in
      subst (λ (es : List PartEvent). LagsAt followers es t replica) found.1 (late place by t replica found.0)

  pub late-take : (events : List PartEvent) (place : ℕ) → LeftLate followers events → LeftLate followers (take place events)
  late-take events place late = late-front (take place events) (drop place events) (subst (λ (es : List PartEvent). LeftLate followers es) (sym (take-append-drop place events)) late)

  -- those that lag, from the least on
  abbrev late_in : List PartEvent → ℕ → List ℕ
  late_in events t = filter (lags followers (replica_events events) t) (range_with_len 1 followers)

  module _ (by t : ℕ) where
    abbrev shrinks : List ℕ → List PartEvent
    shrinks replicas = map (λ replica. Shrink by (pos replica) t) replicas

    -- once the first of them has left
    next-late : (events : List PartEvent) (replica : ℕ) (rest : List ℕ) → late_in events t ≡ replica ∷ rest → late_in (events ++ Shrink by (pos replica) t ∷ []) t ≡ rest
    next-late events replica rest is =
        ap (λ (es : List ReplicaEvent). filter (lags followers es t) (range_with_len 1 followers)) (events-append events (Shrink by (pos replica) t ∷ []))
        ∙ late-rest followers (replica_events events) t replica t rest is

    -- as many of them leave, and then the others lag
    pub late-shrinks : (n : ℕ) (events : List PartEvent) (replicas : List ℕ) → late_in events t ≡ replicas → LeftLate followers events → LeftLate followers (events ++ take n (shrinks replicas))
    late-shrinks zero events replicas is late = subst (λ (es : List PartEvent). LeftLate followers es) (sym (append-nil events)) late
    late-shrinks (suc n) events [] is late = subst (λ (es : List PartEvent). LeftLate followers es) (sym (append-nil events)) late
    late-shrinks (suc n) events (replica ∷ rest) is late =
        let e : PartEvent = Shrink by (pos replica) t in
        let here : LeftLate followers (events ++ e ∷ []) = late-shrink events by (pos replica) t late (late-first followers (replica_events events) t replica rest is) in
        subst (λ (es : List PartEvent). LeftLate followers es) (append_assoc events (e ∷ []) (take n (shrinks rest)))
        (late-shrinks n (events ++ e ∷ []) rest (next-late events replica rest is) here)

    pub lag-then : (events : List PartEvent) (replicas : List ℕ) → late_in events t ≡ replicas → late_in (events ++ shrinks replicas) t ≡ []
    lag-then events [] is = ap (λ (es : List PartEvent). late_in es t) (append-nil events) ∙ is
    lag-then events (replica ∷ rest) is =
        let e : PartEvent = Shrink by (pos replica) t in
        ap (λ (es : List PartEvent). late_in es t) (sym (append_assoc events (e ∷ []) (shrinks rest))) ∙ lag-then (events ++ e ∷ []) rest (next-late events replica rest is)

module _ (h : History) (by t : ℕ) where
  pub none-lags : late_at h t ≡ [] → NoneLags h.followers h.events t
  none-lags none = late-none h.followers (replica_events h.events) t none

  pub nobody-late : NoneLags h.followers h.events t → late_at h t ≡ []
  nobody-late nobody = none-late h.followers (replica_events h.events) t nobody

  -- where none lags none is taken out
  pub none-shrunk : NoneLags h.followers h.events t → all_shrunk h by t ≡ h
  none-shrunk nobody =
      ap (λ (rs : List ℕ). record h { events = h.events ++ map (λ replica. Shrink by (pos replica) t) rs }) (nobody-late nobody) ∙ ap (λ (es : List PartEvent). record h { events = es }) (append-nil h.events)

  -- once all are taken out none lags
  pub all-none-lags : NoneLags h.followers (all_shrunk h by t).events t
  all-none-lags = late-none h.followers (replica_events (all_shrunk h by t).events) t (lag-then h.followers by t h.events (late_at h t) refl)

  pub late-some-shrunk : (n : ℕ) → LeftLate h.followers h.events → LeftLate h.followers (some_shrunk n h by t).events
  late-some-shrunk n late = late-shrinks h.followers by t n h.events (late_at h t) refl late

  pub late-at-first : (replica : ℕ) → IsLeastLate h.followers h.events t replica → late_at h t ≡ replica ∷ late_at (shrunk h by (pos replica) t) t
  late-at-first replica first =
      late-with h.followers (replica_events h.events) t replica t first.lags first.least
      ∙ ap (λ (es : List ReplicaEvent). replica ∷ filter (lags h.followers es t) (range_with_len 1 h.followers)) (sym (events-append h.events (Shrink by (pos replica) t ∷ [])))

pub take-all : {X : Type 0} (xs : List X) → take (length xs) xs ≡ xs
take-all [] = refl
take-all (x ∷ xs) = ap (λ l. x ∷ l) (take-all xs)

pub late-all-shrunk : (h : History) (by t : ℕ) → LeftLate h.followers h.events → LeftLate h.followers (all_shrunk h by t).events
late-all-shrunk h by t late =
    subst (λ (es : List PartEvent). LeftLate h.followers (h.events ++ es)) (take-all (shrinks_at h by t)) (late-some-shrunk h by t (length (shrinks_at h by t)) late)

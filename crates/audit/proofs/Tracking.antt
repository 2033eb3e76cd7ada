-- The replicas are told of a history, one entry after the other.
use Rattle.std.proofs.Common.{◌≡◌, ℕ, ◌+◌, ◌^◌, ◌<◌, ◌≤◌, ℤ, pos, negsuc, List, [], ◌∷◌, ◌++◌, length, take, drop, get_or, Some, refl, sym, ap, subst, ◌∙◌, arith, append-nil}
use Rattle.std.proofs.lemmas.List.{length-map, take-append-drop, take_more}
use Rattle.std.proofs.lemmas.List.FromFn.{length-range_with_len}
use Rattle.std.proofs.lemmas.List.Sums.{sum_by-append, sum_by_push}
use Rattle.std.proofs.lemmas.Option.{slice_get-get_or, slice_get_within}
use Rattle.std.specs.Prelude.{slice_get}
use Rattle.std.specs.List.{range_with_len}
use Rattle.partlog.specs.in_sync.LogEnd.{log_end_of as end_of}
use Rattle.partlog.specs.in_sync.ReplicaEvent.{ReplicaEvent, Appended, Fetched, Left}
use Rattle.partlog.specs.in_sync.Standings.{Standings, StandsFor, standing_of, standings_of}
use Rattle.partlog.proofs.Laws.{end-of-replicas, events-append}
use Rattle.partlog.specs.declared.event.PartEvent.{PartEvent}
use Rattle.partlog.specs.declared.event.PartEvent.TheVariants.{Append, Follow, Look, Shrink}
use Rattle.partlog.specs.Added.{added_count, log_end_of}
use Rattle.partlog.specs.Follower.{IsFollower}
use Rattle.partlog.specs.Replicas.{replica_event, replica_events}
use Rattle.kbytes.proofs.Laws.{some_is}
use Rattle.audit.specs.Trackable.{CanEnter, IsTrackable}

module _ (standings : Standings) (followers : ℕ) (events : List PartEvent) (k : ℕ) (is : IsTrackable followers events) (stands : StandsFor standings followers (replica_events (take k events))) where
  end_here : standings.log_end ≡ log_end_of (take k events)
  end_here = ap (λ (s : Standings). s.log_end) stands ∙ sym (end-of-replicas (take k events))

  followers_here : length standings.followers ≡ followers
  followers_here =
      ap (λ (s : Standings). length s.followers) stands ∙ length-map (range_with_len 1 followers) (standing_of followers (replica_events (take k events))) ∙ length-range_with_len 1 followers

  -- what is asked of the next entry
  pub can_enter : (e : PartEvent) → slice_get events k ≡ Some e → CanEnter standings e
  can_enter (Append by seq count len) at =
      let e : PartEvent = Append by seq count len in
      let lt : k < length events = slice_get_within events k e at in
      let more : take (k + 1) events ≡ take k events ++ e ∷ [] =
      take_more events k e lt ∙ ap (λ x. take k events ++ x ∷ []) (some_is (get_or events k e) e (sym (slice_get-get_or events k e lt) ∙ at)) in
      let here : log_end_of (take (k + 1) events) ≡ log_end_of (take k events) + count = ap log_end_of more ∙ sum_by_push added_count (take k events) e in
      let all : log_end_of (take (k + 1) events) + log_end_of (drop (k + 1) events) ≡ log_end_of events =
      sym (sum_by-append added_count (take (k + 1) events) (drop (k + 1) events)) ∙ ap log_end_of (take-append-drop (k + 1) events) in
      omega (arith, end_here, here, all, is.short)
  can_enter (Follow by seq replica offset t) at =
      let within = is.fetches k by seq offset t replica at in
      (subst (IsFollower replica) (sym followers_here) within.0, omega (arith, within.1, end_here))
  can_enter (Look by seq) at = tt
  can_enter (Shrink by replica t) at = tt

-- what a history says with one more entry
pub told_append : (events : List PartEvent) (by seq count len : ℕ) → replica_events (events ++ Append by seq count len ∷ []) ≡ replica_events events ++ Appended count ∷ []
told_append events by seq count len = events-append events (Append by seq count len ∷ [])

pub told_follow : (events : List PartEvent) (by seq : ℕ) (replica : ℤ) (number offset t : ℕ) → replica ≡ pos number
    → replica_events (events ++ Follow by seq replica offset t ∷ []) ≡ replica_events events ++ Fetched number offset t ∷ []
told_follow events by seq replica number offset t is =
    ap (λ (r : ℤ). replica_events (events ++ Follow by seq r offset t ∷ [])) is ∙ events-append events (Follow by seq (pos number) offset t ∷ [])

pub told_look : (events : List PartEvent) (by seq : ℕ) → replica_events (events ++ Look by seq ∷ []) ≡ replica_events events
told_look events by seq = events-append events (Look by seq ∷ []) ∙ append-nil (replica_events events)

pub told_shrink : (events : List PartEvent) (by : ℕ) (replica : ℤ) (number t : ℕ) → replica ≡ pos number
    → replica_events (events ++ Shrink by replica t ∷ []) ≡ replica_events events ++ Left number t ∷ []
told_shrink events by replica number t is =
    ap (λ (r : ℤ). replica_events (events ++ Shrink by r t ∷ [])) is ∙ events-append events (Shrink by (pos number) t ∷ [])

-- an entry of a replica below 0 says nothing
pub told_no_follow : (events : List PartEvent) (by seq : ℕ) (replica : ℤ) (offset t : ℕ) → ((number : ℕ) → replica ≡ pos number → ⊥)
    → replica_events (events ++ Follow by seq replica offset t ∷ []) ≡ replica_events events
told_no_follow events by seq (pos n) offset t none = absurd (none n refl)
told_no_follow events by seq (negsuc n) offset t none = events-append events (Follow by seq (negsuc n) offset t ∷ []) ∙ append-nil (replica_events events)

pub told_no_shrink : (events : List PartEvent) (by : ℕ) (replica : ℤ) (t : ℕ) → ((number : ℕ) → replica ≡ pos number → ⊥)
    → replica_events (events ++ Shrink by replica t ∷ []) ≡ replica_events events
told_no_shrink events by (pos n) t none = absurd (none n refl)
told_no_shrink events by (negsuc n) t none = events-append events (Shrink by (negsuc n) t ∷ []) ∙ append-nil (replica_events events)

-- The standing of a replica as its history grows by one entry.
use Rattle.std.proofs.Common.{◌≡◌, ℕ, ◌+◌, ◌==◌, Bool, true, false, cond, nat_le, Option, Some, None, List, [], ◌∷◌, ◌++◌, reverse, max, fold, arith, refl, ap, ◌∙◌, append-nil}
use Rattle.std.specs.Option.{option_to_list}
use Rattle.std.specs.List.{cons_option, filter_map}
use Rattle.std.proofs.lemmas.List.{reverse-append, reverse-reverse}
use Rattle.std.proofs.lemmas.List.Elements.{filter_map-append}
use Rattle.std.proofs.lemmas.List.Sums.{fold_push, sum_by-append}
use Rattle.partlog.specs.declared.in_sync.standing.Standing.{Standing}
use Rattle.partlog.specs.in_sync.ReplicaEvent.{ReplicaEvent, Appended, Fetched, Left}
use Rattle.partlog.specs.in_sync.LogEnd.{log_end_of, added_by}
use Rattle.partlog.specs.in_sync.Position.{offset_by}
use Rattle.partlog.specs.in_sync.InSync.{in_sync_after, least_among, high_watermark_of}
use Rattle.partlog.specs.in_sync.CaughtUp.{Fetch, last_fetch_after, moments_after, reached, reached_by_last}
use Rattle.partlog.specs.in_sync.Standings.{standing_of, fetched_at, fetched_end}
use Rattle.partlog.specs.in_sync.Steps.{after_fetch}

newest_first : (events : List ReplicaEvent) (e : ReplicaEvent) → reverse (events ++ e ∷ []) ≡ e ∷ reverse events
newest_first events e = reverse-append events (e ∷ [])

pub end-appended : (events : List ReplicaEvent) (count : ℕ) → log_end_of events + count ≡ log_end_of (events ++ Appended count ∷ [])
end-appended events count = omega (arith, sum_by-append added_by events (Appended count ∷ []))

pub end-fetched : (events : List ReplicaEvent) (replica offset t : ℕ) → log_end_of events ≡ log_end_of (events ++ Fetched replica offset t ∷ [])
end-fetched events replica offset t = omega (arith, sum_by-append added_by events (Fetched replica offset t ∷ []))

pub end-left : (events : List ReplicaEvent) (replica t : ℕ) → log_end_of events ≡ log_end_of (events ++ Left replica t ∷ [])
end-left events replica t = omega (arith, sum_by-append added_by events (Left replica t ∷ []))

-- a replica's standing, with its position and the entries from the newest on
abbrev standing_after : ℕ → ℕ → ℕ → List ReplicaEvent → Standing
standing_after followers replica position latest = record {
  position = position;
  caught_up = fold max 0 (moments_after latest replica);
  fetched_at = fetched_at (last_fetch_after latest replica);
  fetched_end = fetched_end (last_fetch_after latest replica);
  in_sync = in_sync_after followers latest replica;
}

module _ (followers : ℕ) (events : List ReplicaEvent) (replica : ℕ) where
  abbrev offsets : List ℕ
  offsets = filter_map (offset_by replica) events

  abbrev was : Standing
  was = standing_of followers events replica

  grown : (e : ReplicaEvent) → standing_of followers (events ++ e ∷ []) replica ≡ standing_after followers replica (fold max 0 (offsets ++ filter_map (offset_by replica) (e ∷ []))) (e ∷ reverse events)
  grown e =
      ap (λ (os : List ℕ). standing_after followers replica (fold max 0 os) (reverse (events ++ e ∷ []))) (filter_map-append (offset_by replica) events (e ∷ []))
      ∙ ap (standing_after followers replica (fold max 0 (offsets ++ filter_map (offset_by replica) (e ∷ [])))) (newest_first events e)

  same_position : standing_after followers replica (fold max 0 (offsets ++ [])) (reverse events) ≡ was
  same_position = ap (λ (os : List ℕ). standing_after followers replica (fold max 0 os) (reverse events)) (append-nil offsets)

  pub standing-appended : (count : ℕ) → standing_of followers (events ++ Appended count ∷ []) replica ≡ was
  standing-appended count = grown (Appended count) ∙ same_position

  abbrev out : Standing
  out = record was { in_sync = false }

  left_or_not : (b : Bool) → ◌≡◌ {A = Standing} (record {
    position = was.position;
    caught_up = was.caught_up;
    fetched_at = was.fetched_at;
    fetched_end = was.fetched_end;
    in_sync = cond b false was.in_sync;
  }) (cond b out was)
  left_or_not true = refl
  left_or_not false = refl

  pub standing-left : (other t : ℕ) → standing_of followers (events ++ Left other t ∷ []) replica ≡ cond (other == replica) out was
  standing-left other t =
      grown (Left other t)
      ∙ ap (λ (os : List ℕ). standing_after followers replica (fold max 0 os) (Left other t ∷ reverse events)) (append-nil offsets)
      ∙ left_or_not (other == replica)

  abbrev moments : List ℕ
  moments = moments_after (reverse events) replica

  abbrev last : Option Fetch
  last = last_fetch_after (reverse events) replica

  module _ (offset t : ℕ) where
    -- the standing after a fetch of this replica or of another one, where these are the entries before it
    abbrev shape : Bool → List ReplicaEvent → Standing
    shape b before = record {
      position = fold max 0 (offsets ++ cons_option (cond b (Some offset) None) []);
      caught_up = fold max 0 (cond b (moments ++ option_to_list (reached offset t (log_end_of before) last)) moments);
      fetched_at = fetched_at (cond b (Some (record { t = t; log_end = log_end_of before })) last);
      fetched_end = fetched_end (cond b (Some (record { t = t; log_end = log_end_of before })) last);
      in_sync = cond b (cond (nat_le (least_among (in_sync_after followers (reverse events)) followers before) offset) true was.in_sync) was.in_sync;
    }

    abbrev or_zero : Option ℕ → ℕ
    or_zero None = 0
    or_zero (Some n) = n

    greatest : (o : Option ℕ) → fold max 0 (moments ++ option_to_list o) ≡ max (fold max 0 moments) (or_zero o)
    greatest None = ap (fold max 0) (append-nil moments) ∙ omega arith
    greatest (Some n) = fold_push max 0 moments n

    by_last : (f : Option Fetch) → or_zero (reached_by_last offset f) ≡ cond (nat_le (fetched_end f) offset) (fetched_at f) 0
    by_last None = either (nat_le 0 offset)
      where
        either : (b : Bool) → or_zero None ≡ cond b 0 0
        either true = refl
        either false = refl
    by_last (Some f) = either (nat_le f.log_end offset)
      where
        either : (b : Bool) → or_zero (cond b (Some f.t) None) ≡ cond b f.t 0
        either true = refl
        either false = refl

    reaches : or_zero (reached offset t (log_end_of events) last) ≡ cond (nat_le (log_end_of events) offset) t (cond (nat_le (fetched_end last) offset) (fetched_at last) 0)
    reaches = either (nat_le (log_end_of events) offset)
      where
        either : (b : Bool) → or_zero (cond b (Some t) (reached_by_last offset last)) ≡ cond b t (cond (nat_le (fetched_end last) offset) (fetched_at last) 0)
        either true = refl
        either false = by_last last

    abbrev back : Standing
    back = after_fetch was (log_end_of events) (high_watermark_of followers events) offset t

    shaped : (b : Bool) → shape b events ≡ cond b back was
    shaped true =
        ap (λ (p : ℕ). record (shape true events) { position = p }) (fold_push max 0 offsets offset)
        ∙ ap (λ (m : ℕ). record back { caught_up = m }) (greatest (reached offset t (log_end_of events) last) ∙ ap (max (fold max 0 moments)) reaches)
    shaped false = ap (λ (os : List ℕ). record was { position = fold max 0 os }) (append-nil offsets)

    pub standing-fetched : (other : ℕ) → standing_of followers (events ++ Fetched other offset t ∷ []) replica ≡ cond (other == replica) back was
    standing-fetched other =
        grown (Fetched other offset t)
        ∙ ap (shape (other == replica)) (reverse-reverse events)
        ∙ shaped (other == replica)

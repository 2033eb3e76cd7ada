-- No log of a lawful account has more than a log may have: each append was a lawful call's, which found room for its batch,
-- and a batch has fewer records than bytes.
use Rattle.std.proofs.Common.{◌≡◌, ◌≢◌, ℕ, zero, suc, ◌+◌, ◌^◌, ◌<◌, ◌≤◌, ℤ, List, [], ◌∷◌, ◌++◌, length, map, take, drop, get_or, sum_by, unwrap_or, Option, Some, All, refl, sym, ap, subst, ◌∙◌, arith, append-nil, length-append, option_map, replicate}
use Rattle.std.specs.Prelude.{slice_get, slice_index}
use Rattle.std.proofs.lemmas.List.{length-map, length-replicate, take_more}
use Rattle.std.proofs.lemmas.List.Sums.{sum_by_push, sum_by-cons}
use Rattle.std.proofs.lemmas.Option.{slice_get-get_or, slice_get-map, slice_get_within, unwrap_or-slice_get}
use Rattle.std.proofs.Math.Seq.{take-suc, take-length}
use Rattle.kbatch.specs.Stamp.{stamped}
use Rattle.partlog.specs.declared.event.PartEvent.{PartEvent}
use Rattle.partlog.specs.declared.event.PartEvent.TheVariants.{Append, Follow, Look, Shrink}
use Rattle.partlog.specs.Added.{added_bytes, added_count, bytes_of, log_end_of}
use Rattle.partlog.specs.Batches.{StoredBatch, batches_after, batches_of}
use Rattle.partlog.specs.Follower.{IsFollower}
use Rattle.partlog.specs.Gauges.{bytes_in}
use Rattle.partlog.specs.State.{PartState, state_before}
use Rattle.kwire.specs.Configuration.{followers_of, partitions_of}
use Rattle.kwire.specs.declared.config.Topic.{Topic}
use Rattle.partlog.proofs.Laws.{batches-append, batches-take}
use Rattle.kanswer.specs.Decisions.{Entry, Put, Followed, Looked}
use Rattle.kanswer.proofs.Laws.{HasRoom, PutsWithRoom, decided_with_room}
use Rattle.audit.specs.declared.account.Account.{Account}
use Rattle.audit.specs.declared.account.PartAccount.{PartAccount}
use Rattle.audit.specs.declared.account.Point.{Point}
use Rattle.audit.specs.Histories.{Owner, at_in, at_point, before_in, before_point, event_at, event_in, history_of}
use Rattle.audit.specs.IsLawful.{IsLawful}
use Rattle.audit.specs.LawfulCall.{IsEntry}
use Rattle.audit.specs.Trackable.{IsTrackable}
use Rattle.kbytes.proofs.Laws.{some_is}
use Rattle.audit.proofs.EntryOfCall.{entry_owned, entry_shows}
use Rattle.audit.proofs.InRange.{FetchesInRange, IsFetch, decided_in_range}

module _ (account : Account) (number : ℕ) (part : PartAccount) (there : slice_get account.parts number ≡ Some part) (apart : number ≢ 64) where
  abbrev batches_at : ℕ → List StoredBatch
  batches_at k = (state_before (history_of part) k).batches

  -- ---- one append

  record Grew (k : ℕ) : Type 0 where
    pub batch : StoredBatch
    pub dense : batch.count < length batch.bytes
    pub room : bytes_in (batches_at k) + length batch.bytes ≤ 67108864
    pub after : batches_at (k + 1) ≡ batches_at k ++ batch ∷ []

  module _ (k by seq count len : ℕ) (event : slice_get part.events k ≡ Some (Append by seq count len)) where
    abbrev here : Point
    here = record { part = number; place = k }

    event_here : event_at account here ≡ Some (Append by seq count len)
    event_here = ap (λ (o : Option PartAccount). event_in o k) there ∙ event

    no_look : (b s : ℕ) → event_at account here ≡ Some (Look b s) → ⊥
    no_look b s e = differ (some_is (Append by seq count len) (Look b s) (sym event_here ∙ e))
      where
        differ : ◌≡◌ {A = PartEvent} (Append by seq count len) (Look b s) → ⊥
        differ is = cc

    by_entry : (entry : Entry) → IsEntry account here entry → HasRoom entry (before_point account here) → Grew k
    by_entry (Put c batch) is room =
        let before : before_point account here ≡ state_before (history_of part) k = ap (λ (o : Option PartAccount). before_in o k) there in
        let after : at_point account here ≡ state_before (history_of part) (k + 1) = ap (λ (o : Option PartAccount). at_in o k) there in
        let base : ℕ = (before_point account here).log_end in
        let size = room.2 base in
        let same = ap (λ (s : PartState). bytes_in s.batches) before in
        record {
          batch = record { base = base; count = c; bytes = stamped base batch };
          dense = omega (arith, size, room.0);
          room = omega (arith, size, room.1, same);
          after = sym (ap (λ (s : PartState). s.batches) after) ∙ is ∙ ap (λ (s : PartState). s.batches ++ record { base = base; count = c; bytes = stamped base batch } ∷ []) before;
        }
    by_entry (Followed replica offset) is room = absurd (no_follow is.0 is.1 is.2 is.3)
      where
        no_follow : (b s t : ℕ) → event_at account here ≡ Some (Follow b s replica offset t) → ⊥
        no_follow b s t e = differ (some_is (Append by seq count len) (Follow b s replica offset t) (sym event_here ∙ e))
          where
            differ : ◌≡◌ {A = PartEvent} (Append by seq count len) (Follow b s replica offset t) → ⊥
            differ is = cc
    by_entry Looked is room = absurd (no_look is.0 is.1 is.2)

    grew : IsLawful account → Grew k
    grew lawful =
        let owner : Owner = record { by = by; seq = seq } in
        entry_shows account number k apart (Grew k) PutsWithRoom (decided_with_room account.config)
        (λ outcome is room. by_entry (outcome (before_point account here)).entry is (room (before_point account here)))
        (λ b s e. absurd (no_look b s e))
        lawful owner (entry_owned account number k apart part there (Append by seq count len) event owner refl)

  -- ---- all entries, one after the other

  abbrev es : List PartEvent
  es = part.events

  no_entry : PartEvent
  no_entry = Look 0 0

  module _ (k : ℕ) (e : PartEvent) (is : take (k + 1) es ≡ take k es ++ e ∷ []) where
    ends : log_end_of (take (k + 1) es) ≡ log_end_of (take k es) + added_count e
    ends = ap log_end_of is ∙ sum_by_push added_count (take k es) e

    later : batches_at (k + 1) ≡ batches_at k ++ batches_after (take k es) (e ∷ []) (drop (bytes_of (take k es)) (take (bytes_of (take (k + 1) es)) part.log))
    later =
        let n : ℕ = bytes_of (take (k + 1) es) in
        let grows : bytes_of (take k es) ≤ n = omega (arith, ap bytes_of is, sum_by_push added_bytes (take k es) e) in
        let front : batches_of (take k es) (take n part.log) ≡ batches_at k =
        batches-take n [] (take k es) part.log grows ∙ sym (batches-take (bytes_of (take k es)) [] (take k es) part.log (omega arith)) in
        ap (λ f. batches_of f (take n part.log)) is ∙ batches-append [] (take k es) (e ∷ []) (take n part.log)
        ∙ ap (λ bs. bs ++ batches_after (take k es) (e ∷ []) (drop (bytes_of (take k es)) (take n part.log))) front

  abbrev IsWithin : ℕ → Type 0
  IsWithin k = (bytes_in (batches_at k) ≤ 67108864) × (log_end_of (take k es) ≤ bytes_in (batches_at k))

  quiet : (k : ℕ) (e : PartEvent) → take (k + 1) es ≡ take k es ++ e ∷ [] → added_count e ≡ 0 → ((log : List ℕ) → batches_after (take k es) (e ∷ []) log ≡ []) → IsWithin k → IsWithin (k + 1)
  quiet k e is count none was =
      let log = drop (bytes_of (take k es)) (take (bytes_of (take (k + 1) es)) part.log) in
      let same : batches_at (k + 1) ≡ batches_at k = later k e is ∙ ap (λ bs. batches_at k ++ bs) (none log) ∙ append-nil (batches_at k) in
      let size = ap bytes_in same in
      let end = ends k e is in
      (omega (arith, was.0, size), omega (arith, was.1, size, end, count))

  grown : (k by seq count len : ℕ) → take (k + 1) es ≡ take k es ++ Append by seq count len ∷ [] → Grew k → IsWithin k → IsWithin (k + 1)
  grown k by seq count len is grew was =
      let one : StoredBatch = record { base = log_end_of (take k es); count = count; bytes = take len (drop (bytes_of (take k es)) (take (bytes_of (take (k + 1) es)) part.log)) } in
      let counts : List StoredBatch → ℕ = λ bs. sum_by (λ (b : StoredBatch). b.count) bs in
      let same = ap counts (sym (later k (Append by seq count len) is) ∙ grew.after) in
      let first = sum_by_push (λ (b : StoredBatch). b.count) (batches_at k) one in
      let second = sum_by_push (λ (b : StoredBatch). b.count) (batches_at k) grew.batch in
      let size = ap bytes_in grew.after ∙ sum_by_push (λ (b : StoredBatch). length b.bytes) (batches_at k) grew.batch in
      let end = ends k (Append by seq count len) is in
      let counted : count ≡ grew.batch.count = omega (arith, same, first, second) in
      (omega (arith, size, grew.room), omega (arith, was.1, size, end, counted, grew.dense))

  by_kind : IsLawful account → (k : ℕ) (e : PartEvent) → slice_get es k ≡ Some e → take (k + 1) es ≡ take k es ++ e ∷ [] → IsWithin k → IsWithin (k + 1)
  by_kind lawful k (Append by seq count len) at is was = grown k by seq count len is (grew k by seq count len at lawful) was
  by_kind lawful k (Follow by seq replica offset t) at is was = quiet k (Follow by seq replica offset t) is refl (λ log. refl) was
  by_kind lawful k (Look by seq) at is was = quiet k (Look by seq) is refl (λ log. refl) was
  by_kind lawful k (Shrink by replica t) at is was = quiet k (Shrink by replica t) is refl (λ log. refl) was

  within : IsLawful account → (k : ℕ) → k ≤ length es → IsWithin k
  within lawful zero le = (omega arith, omega arith)
  within lawful (suc k) le =
      let lt : k < length es = omega arith in
      let next : suc k ≡ k + 1 = omega arith in
      let e : PartEvent = get_or es k no_entry in
      let is : take (k + 1) es ≡ take k es ++ e ∷ [] = ap (λ n. take n es) (sym next) ∙ take-suc es k no_entry lt in
      subst IsWithin (sym next) (by_kind lawful k e (slice_get-get_or es k no_entry lt) is (within lawful k (omega arith)))

  log_within : IsLawful account → log_end_of part.events ≤ 67108864
  log_within lawful =
      let all = within lawful (length es) (omega arith) in
      let whole : take (length es) es ≡ es = take-length es in
      omega (arith, all.0, all.1, ap log_end_of whole)

  -- ---- one fetch

  module _ (lawful : IsLawful account) (k by seq offset t : ℕ) (replica : ℤ) (event : slice_get part.events k ≡ Some (Follow by seq replica offset t)) where
    abbrev follow : PartEvent
    follow = Follow by seq replica offset t

    abbrev place : Point
    place = record { part = number; place = k }

    event_there : event_at account place ≡ Some follow
    event_there = ap (λ (o : Option PartAccount). event_in o k) there ∙ event

    followers_there : slice_index (followers_of account.config.topics) number ≡ part.followers
    followers_there =
        let all = lawful.logs.followers in
        let item : slice_get (map (λ (p : PartAccount). p.followers) account.parts) number ≡ Some part.followers =
        slice_get-map (λ (p : PartAccount). p.followers) account.parts number ∙ ap (option_map (λ (p : PartAccount). p.followers)) there in
        sym (unwrap_or-slice_get (followers_of account.config.topics) number 0)
        ∙ ap (λ (ns : List ℕ). unwrap_or (slice_get ns number) 0) (sym all) ∙ ap (λ (o : Option ℕ). unwrap_or o 0) item

    -- it puts no batch
    no_batch : batches_at (k + 1) ≡ batches_at k
    no_batch =
        let lt : k < length es = slice_get_within es k follow event in
        let here : get_or es k no_entry ≡ follow = some_is (get_or es k no_entry) follow (sym (slice_get-get_or es k no_entry lt) ∙ event) in
        later k follow (take_more es k no_entry lt ∙ ap (λ e. take k es ++ e ∷ []) here) ∙ append-nil (batches_at k)

    not_look : (b s : ℕ) → event_at account place ≡ Some (Look b s) → ⊥
    not_look b s e = differ (some_is follow (Look b s) (sym event_there ∙ e))
      where
        differ : ◌≡◌ {A = PartEvent} (Follow by seq replica offset t) (Look b s) → ⊥
        differ is = cc

    abbrev InRange : Type 0
    InRange = IsFollower replica part.followers × (offset ≤ log_end_of (take k es))

    by_fetch : (entry : Entry) → IsEntry account place entry → IsFetch (slice_index (followers_of account.config.topics) number) entry (before_point account place) → InRange
    by_fetch (Put count batch) is holds =
        let before : before_point account place ≡ state_before (history_of part) k = ap (λ (o : Option PartAccount). before_in o k) there in
        let after : at_point account place ≡ state_before (history_of part) (k + 1) = ap (λ (o : Option PartAccount). at_in o k) there in
        let one : StoredBatch = record { base = (before_point account place).log_end; count = count; bytes = stamped (before_point account place).log_end batch } in
        let longer : length (before_point account place).batches + 1 ≡ length (at_point account place).batches = sym (length-append (before_point account place).batches (one ∷ [])) ∙ sym (ap length is) in
        let was = ap (λ (s : PartState). length s.batches) before in
        let then = ap (λ (s : PartState). length s.batches) after in
        let same = ap length no_batch in
        absurd (omega (arith, longer, was, then, same))
    by_fetch (Followed r o) is holds =
        let same : follow ≡ Follow is.0 is.1 r o is.2 = some_is follow (Follow is.0 is.1 r o is.2) (sym event_there ∙ is.3) in
        let who : r ≡ replica = replica_is is.0 is.1 is.2 same in
        let from : o ≡ offset = offset_is is.0 is.1 is.2 same in
        let end : (before_point account place).log_end ≡ log_end_of (take k es) = ap (λ (o : Option PartAccount). (before_in o k).log_end) there in
        (subst (λ (n : ℕ). IsFollower replica n) followers_there (subst (λ (q : ℤ). IsFollower q (slice_index (followers_of account.config.topics) number)) who holds.0), omega (arith, holds.1, from, end))
      where
        replica_is : (b s u : ℕ) → Follow by seq replica offset t ≡ Follow b s r o u → r ≡ replica
        replica_is b s u is = cc

        offset_is : (b s u : ℕ) → Follow by seq replica offset t ≡ Follow b s r o u → o ≡ offset
        offset_is b s u is = cc
    by_fetch Looked is holds = absurd (not_look is.0 is.1 is.2)

    fetch_in_range : InRange
    fetch_in_range =
        let owner : Owner = record { by = by; seq = seq } in
        entry_shows account number k apart InRange (FetchesInRange account.config) (decided_in_range account.config)
        (λ outcome is holds. by_fetch (outcome (before_point account place)).entry is (holds (before_point account place)))
        (λ b s e. absurd (not_look b s e))
        lawful owner (entry_owned account number k apart part there follow event owner refl)

  pub trackable : IsLawful account → IsTrackable part.followers part.events
  trackable lawful = record {
    short = omega (arith, log_within lawful);
    fetches = λ place by seq offset t replica event. fetch_in_range lawful place by seq offset t replica event;
  }

-- ---- every partition

parts_within : (account : Account) (lawful : IsLawful account) → length account.parts ≤ 64 → All (λ part. log_end_of part.events ≤ 67108864) account.parts
parts_within account lawful few k part lt =
    let there = slice_get-get_or account.parts k part lt in
    log_within account k (get_or account.parts k part) there (λ e. omega (arith, e, lt, few)) lawful

-- one number of followers for each partition
followers_long : (topics : List Topic) → length (followers_of topics) ≡ partitions_of topics
followers_long [] = refl
followers_long (topic ∷ topics) =
    length-append (replicate topic.partitions topic.followers) (followers_of topics)
    ∙ omega (arith, length-replicate topic.partitions topic.followers, followers_long topics, sum_by-cons (λ (t : Topic). t.partitions) topic topics)

parts_few : (account : Account) → IsLawful account → partitions_of account.config.topics ≤ 64 → length account.parts ≤ 64
parts_few account lawful few =
    let topics = account.config.topics in
    let parts : length account.parts ≡ partitions_of topics = sym (length-map account.parts (λ (p : PartAccount). p.followers)) ∙ ap length lawful.logs.followers ∙ followers_long topics in
    omega (arith, parts, few)

pub logs_bounded : (account : Account) → IsLawful account → partitions_of account.config.topics ≤ 64 → All (λ part. log_end_of part.events ≤ 67108864) account.parts
logs_bounded account lawful few = parts_within account lawful (parts_few account lawful few)

-- so each of their log ends is a number of 64 bits
pub logs_short : (account : Account) → IsLawful account → partitions_of account.config.topics ≤ 64 → All (λ part. log_end_of part.events < 2 ^ 64) account.parts
logs_short account lawful few k part lt = omega (arith, logs_bounded account lawful few k part lt)

-- and the replicas of each can be told of all its entries
pub logs_trackable : (account : Account) → IsLawful account → partitions_of account.config.topics ≤ 64 → All (λ part. IsTrackable part.followers part.events) account.parts
logs_trackable account lawful few k part lt =
    let there = slice_get-get_or account.parts k part lt in
    trackable account k (get_or account.parts k part) there (λ e. omega (arith, e, lt, parts_few account lawful few)) lawful

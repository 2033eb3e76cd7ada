-- Each entry of a lawful account can be put into a log again: it is that of a lawful call, which asked the log soundly, or takes out a
-- replica that lagged.
use Rattle.std.proofs.Common.{◌≡◌, ◌≢◌, ℕ, zero, suc, ◌+◌, ◌≤◌, List, [], ◌∷◌, ◌++◌, length, take, drop, Option, Some, refl, sym, ap, subst, ◌∙◌, arith, option_map}
use Rattle.std.specs.Prelude.{slice_get, slice_index}
use Rattle.std.specs.List.{AllByRecursion}
use Rattle.std.proofs.lemmas.List.{append_cancel_left, drop-take, take-take, take_more, length-take-le, length-drop, length-map}
use Rattle.std.proofs.lemmas.List.Sums.{sum_by_push, sum_by-take-le}
use Rattle.std.proofs.lemmas.Option.{slice_get-map, slice_get_within, get_or_from_slice_get}
use Rattle.kbatch.specs.Stamp.{stamped}
use Rattle.partlog.specs.declared.event.PartEvent.{PartEvent}
use Rattle.partlog.specs.declared.event.PartEvent.TheVariants.{Append, Follow, Look, Shrink}
use Rattle.partlog.specs.Added.{added_bytes, bytes_of, log_end_of}
use Rattle.partlog.specs.Batches.{StoredBatch, batches_after, batches_of}
use Rattle.partlog.specs.Gauges.{bytes_in}
use Rattle.partlog.specs.History.{History}
use Rattle.partlog.specs.State.{PartState, state_before}
use Rattle.partlog.proofs.Laws.{batches-append, batches-take, bytes_in-batches}
use Rattle.kwire.specs.Configuration.{followers_of, partitions_of}
use Rattle.kanswer.specs.Decisions.{Entry, Put, Followed, Looked, Outcome, AskLog}
use Rattle.kanswer.proofs.Laws.{batch_sized}
use Rattle.audit.specs.declared.account.Account.{Account}
use Rattle.audit.specs.declared.account.PartAccount.{PartAccount}
use Rattle.audit.specs.declared.account.Point.{Point}
use Rattle.audit.specs.Histories.{HadLagged, Owner, at_in, at_point, before_in, before_point, event_at, event_in, history_of, owner_of}
use Rattle.audit.specs.IsLawful.{HasLogs, IsLawful, IsWholeLog}
use Rattle.audit.specs.LawfulCall.{IsEntry}
use Rattle.kbytes.proofs.Laws.{some_is}
use Rattle.audit.proofs.Laws.{entry_owned, entry_shows}
use Rattle.audit.proofs.broker.Laws.{followers_size}
use Rattle.audit.specs.retelling.Playable.{CanPlay, IsPlayable, put_at}
use Rattle.audit.proofs.retelling.Sound.{IsSound, IsSoundEntry, decided_soundly}

-- ---- the batches of a history, one entry more

pub one_more : {X : Type 0} (xs : List X) (k : ℕ) (x : X) → slice_get xs k ≡ Some x → take (k + 1) xs ≡ take k xs ++ x ∷ []
one_more xs k x at =
    take_more xs k x (slice_get_within xs k x at) ∙ ap (λ y. take k xs ++ y ∷ []) (get_or_from_slice_get xs k x x at)

module _ (h : History) (whole : length h.log ≡ bytes_of h.events) where
  abbrev es : List PartEvent
  es = h.events

  abbrev batches_at : ℕ → List StoredBatch
  batches_at k = (state_before h k).batches

  module _ (k : ℕ) (e : PartEvent) (at : slice_get es k ≡ Some e) where
    more : take (k + 1) es ≡ take k es ++ e ∷ []
    more = one_more es k e at

    pub size : bytes_of (take (k + 1) es) ≡ bytes_of (take k es) + added_bytes e
    size = ap bytes_of more ∙ sum_by_push added_bytes (take k es) e

    within : bytes_of (take k es) + added_bytes e ≤ length h.log
    within = omega (arith, size, sum_by-take-le added_bytes es (k + 1), whole)

    later : batches_at (k + 1) ≡ batches_at k ++ batches_after (take k es) (e ∷ []) (drop (bytes_of (take k es)) (take (bytes_of (take k es) + added_bytes e) h.log))
    later =
        let n : ℕ = bytes_of (take (k + 1) es) in
        let front : batches_of (take k es) (take n h.log) ≡ batches_at k =
        batches-take n [] (take k es) h.log (omega (arith, size)) ∙ sym (batches-take (bytes_of (take k es)) [] (take k es) h.log (omega arith)) in
        ap (λ f. batches_of f (take n h.log)) more ∙ batches-append [] (take k es) (e ∷ []) (take n h.log)
        ∙ ap (λ bs. bs ++ batches_after (take k es) (e ∷ []) (drop (bytes_of (take k es)) (take n h.log))) front
        ∙ ap (λ m. batches_at k ++ batches_after (take k es) (e ∷ []) (drop (bytes_of (take k es)) (take m h.log))) size

  bytes_at : (k : ℕ) → bytes_in (batches_at k) ≡ bytes_of (take k es)
  bytes_at k =
      let n : ℕ = bytes_of (take k es) in
      let le : n ≤ length h.log = omega (arith, sum_by-take-le added_bytes es k, whole) in
      bytes_in-batches [] (take k es) (take n h.log) (omega (arith, length-take-le n h.log le))

  -- what an append left, where it put this batch
  put_was : (k by seq count len c : ℕ) (batch : List ℕ) → slice_get es k ≡ Some (Append by seq count len)
      → batches_at (k + 1) ≡ batches_at k ++ record { base = log_end_of (take k es); count = c; bytes = stamped (log_end_of (take k es)) batch } ∷ []
      → (count ≡ c) × (put_at h k len ≡ stamped (log_end_of (take k es)) batch)
  put_was k by seq count len c batch at is =
      let n : ℕ = bytes_of (take k es) in
      let base : ℕ = log_end_of (take k es) in
      let cut : List ℕ = drop n (take (n + len) h.log) in
      let one : StoredBatch = record { base = base; count = count; bytes = take len cut } in
      let two : StoredBatch = record { base = base; count = c; bytes = stamped base batch } in
      let lists : one ∷ [] ≡ two ∷ [] = append_cancel_left (batches_at k) (one ∷ []) (two ∷ []) (sym (later k (Append by seq count len) at) ∙ is) in
      let same : one ≡ two = first lists in
      (ap (λ (b : StoredBatch). b.count) same, sym (ap (take len) (drop-take n len h.log) ∙ take-take len len (drop n h.log) (omega arith)) ∙ ap (λ (b : StoredBatch). b.bytes) same)
    where
      first : {X : Type 0} {x y : X} → x ∷ [] ≡ y ∷ [] → x ≡ y
      first e = cc

  no_put : (k : ℕ) (e : PartEvent) (b : StoredBatch) → slice_get es k ≡ Some e → ((log : List ℕ) → batches_after (take k es) (e ∷ []) log ≡ []) → batches_at (k + 1) ≡ batches_at k ++ b ∷ [] → ⊥
  no_put k e b at none is =
      let log : List ℕ = drop (bytes_of (take k es)) (take (bytes_of (take k es) + added_bytes e) h.log) in
      let same : batches_at k ++ [] ≡ batches_at k ++ b ∷ [] = sym (later k e at ∙ ap (λ bs. batches_at k ++ bs) (none log)) ∙ is in
      differ (append_cancel_left (batches_at k) [] (b ∷ []) same)
    where
      differ : ◌≡◌ {A = List StoredBatch} [] (b ∷ []) → ⊥
      differ e = cc

  pub put_long : (k by seq count len : ℕ) → slice_get es k ≡ Some (Append by seq count len) → length (put_at h k len) ≡ len
  put_long k by seq count len at =
      let fits = within k (Append by seq count len) at in
      let n : ℕ = bytes_of (take k es) in
      length-take-le len (drop n h.log) (omega (arith, length-drop n h.log, fits))

-- ---- one entry of a lawful account

module _ (account : Account) (number : ℕ) (part : PartAccount) (there : slice_get account.parts number ≡ Some part) (apart : number ≢ 64) (whole : length part.log ≡ bytes_of part.events) (follows : slice_index (followers_of account.config.topics) number ≡ part.followers) where
  abbrev h : History
  h = history_of part

  module _ (k : ℕ) (event : PartEvent) (at : slice_get part.events k ≡ Some event) where
    abbrev here : Point
    here = record { part = number; place = k }

    event_here : event_at account here ≡ Some event
    event_here = ap (λ (o : Option PartAccount). event_in o k) there ∙ at

    before : before_point account here ≡ state_before h k
    before = ap (λ (o : Option PartAccount). before_in o k) there

    by_put : (e : PartEvent) → slice_get part.events k ≡ Some e → (count : ℕ) (batch : List ℕ) → IsSoundEntry part.followers (Put count batch) (state_before h k)
        → (state_before h (k + 1)).batches ≡ (state_before h k).batches ++ record { base = (state_before h k).log_end; count = count; bytes = stamped (state_before h k).log_end batch } ∷ [] → CanPlay h k e
    by_put (Append by seq c len) is count batch sound grew =
        let was = put_was h whole k by seq c len count batch is grew in
        let long = put_long h whole k by seq c len is in
        let same = ap length was.1 in
        let sized = batch_sized batch sound.0 sound.1 (log_end_of (take k part.events)) in
        record {
          batch = batch;
          records = sound.0;
          is = sound.1;
          counted = was.0 ∙ sound.2;
          stands = was.1;
          room = omega (arith, long, same, sized, sound.3, bytes_at h whole k);
        }
    by_put (Follow by seq replica offset t) is count batch sound grew = absurd (no_put h whole k (Follow by seq replica offset t) _ is (λ log. refl) grew)
    by_put (Look by seq) is count batch sound grew = absurd (no_put h whole k (Look by seq) _ is (λ log. refl) grew)
    by_put (Shrink by replica t) is count batch sound grew = absurd (no_put h whole k (Shrink by replica t) _ is (λ log. refl) grew)

    by_look : (b s : ℕ) → event_at account here ≡ Some (Look b s) → CanPlay h k event
    by_look b s e = subst (CanPlay h k) (some_is (Look b s) event (sym e ∙ event_here)) tt

    by_entry : (entry : Entry) → IsEntry account here entry → IsSoundEntry part.followers entry (state_before h k) → CanPlay h k event
    by_entry (Put count batch) is sound =
        let after : at_point account here ≡ state_before h (k + 1) = ap (λ (o : Option PartAccount). at_in o k) there in
        by_put event at count batch sound
        (sym (ap (λ (s : PartState). s.batches) after) ∙ is ∙ ap (λ (s : PartState). s.batches ++ record { base = s.log_end; count = count; bytes = stamped s.log_end batch } ∷ []) before)
    by_entry (Followed replica offset) is sound =
        subst (CanPlay h k) (some_is (Follow is.0 is.1 replica offset is.2) event (sym is.3 ∙ event_here)) sound
    by_entry Looked is sound = by_look is.0 is.1 is.2

    by_asked : (outcome : PartState → Outcome) → IsEntry account here (outcome (before_point account here)).entry → IsSound account.config (AskLog number outcome) → CanPlay h k event
    by_asked outcome is sound =
        by_entry (outcome (state_before h k)).entry (subst (λ (s : PartState). IsEntry account here (outcome s).entry) before is)
        (subst (λ (n : ℕ). IsSoundEntry n (outcome (state_before h k)).entry (state_before h k)) follows (sound (state_before h k)).entry)

    of_call : IsLawful account → (owner : Owner) → owner_of event ≡ Some owner → CanPlay h k event
    of_call lawful owner by =
        entry_shows account number k apart (CanPlay h k event) (IsSound account.config) (decided_soundly account.config) by_asked by_look lawful owner
        (entry_owned account number k apart part there event at owner by)

  plays : IsLawful account → (k : ℕ) (event : PartEvent) → slice_get part.events k ≡ Some event → CanPlay h k event
  plays lawful k (Append by seq count len) at = of_call k (Append by seq count len) at lawful (record { by = by; seq = seq }) refl
  plays lawful k (Follow by seq replica offset t) at = of_call k (Follow by seq replica offset t) at lawful (record { by = by; seq = seq }) refl
  plays lawful k (Look by seq) at = of_call k (Look by seq) at lawful (record { by = by; seq = seq }) refl
  plays lawful k (Shrink by replica t) at =
      let late = (lawful.entries.shrinks number k by t replica (event_here k (Shrink by replica t) at)).0 in
      subst (λ (o : Option PartAccount). HadLagged o k t replica) there late

  playable : IsLawful account → IsPlayable h
  playable lawful = record { each = plays lawful; whole = whole }

-- ---- every partition

by_places : {A : Type 0} (P : A → Type 0) (xs : List A) → ((k : ℕ) (x : A) → slice_get xs k ≡ Some x → P x) → AllByRecursion P xs
by_places P [] h = tt
by_places P (x ∷ xs) h = (h zero x refl, by_places P xs (λ k y e. h (suc k) y e))

pub at_place : {A : Type 0} (P : A → Type 0) (xs : List A) (k : ℕ) (x : A) → AllByRecursion P xs → slice_get xs k ≡ Some x → P x
at_place P [] k x all e = absurd cc
at_place P (y ∷ xs) zero x all e = subst P (some_is y x e) all.0
at_place P (y ∷ xs) (suc k) x all e = at_place P xs k x all.1 e

pub all_playable : (account : Account) → IsLawful account → length account.parts ≤ 64 → AllByRecursion (λ part. IsPlayable (history_of part)) account.parts
all_playable account lawful few =
    by_places (λ part. IsPlayable (history_of part)) account.parts (λ k part there.
    let lt = slice_get_within account.parts k part there in
    let followers : List ℕ = followers_of account.config.topics in
    let same : slice_get followers k ≡ Some part.followers =
    ap (λ (fs : List ℕ). slice_get fs k) (sym lawful.logs.followers) ∙ slice_get-map (λ (p : PartAccount). p.followers) account.parts k ∙ ap (option_map (λ (p : PartAccount). p.followers)) there in
    playable account k part there (λ e. omega (arith, e, lt, few)) (at_place IsWholeLog account.parts k part lawful.logs.whole there)
    (get_or_from_slice_get followers k part.followers 0 same) lawful)

pub parts_long : (account : Account) → HasLogs account → length account.parts ≡ partitions_of account.config.topics
parts_long account logs =
    sym (length-map account.parts (λ (p : PartAccount). p.followers)) ∙ ap length logs.followers ∙ followers_size account.config.topics

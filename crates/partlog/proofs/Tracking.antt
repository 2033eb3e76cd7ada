-- What is kept of a log beside its bytes and its history, as these grow.
use Rattle.std.proofs.Common.{◌≡◌, ℕ, pos, ◌+◌, ◌≤◌, ◌<◌, ◌^◌, List, [], ◌∷◌, ◌++◌, length, take, drop, arith, sym, ap, subst, ◌∙◌, refl, append-nil}
use Rattle.std.proofs.Math.Seq.{take-append_seam, drop-append_seam, take-length}
use Rattle.std.proofs.lemmas.List.Sums.{sum_by-cons, sum_by_push}
use Rattle.partlog.specs.in_sync.InSync.{high_watermark_of, count_of}
use Rattle.partlog.specs.in_sync.ReplicaEvent.{ReplicaEvent, Appended, Fetched, Left}
use Rattle.partlog.specs.in_sync.Standings.{Standings, StandsFor}
use Rattle.partlog.proofs.in_sync.Laws.{count-of-all}
use Rattle.partlog.specs.declared.batch_start.BatchStart.{BatchStart}
use Rattle.partlog.specs.declared.event.PartEvent.{PartEvent}
use Rattle.partlog.specs.declared.event.PartEvent.TheVariants.{Append, Follow, Look, Shrink}
use Rattle.partlog.specs.declared.numbers.Numbers.{Numbers}
use Rattle.partlog.specs.Added.{added_bytes, added_count, bytes_of, log_end_of}
use Rattle.partlog.specs.Batches.{StoredBatch, batches_after, batches_of}
use Rattle.partlog.specs.Gauges.{bytes_in, batches_below}
use Rattle.partlog.specs.Kept.{IsDense, IsKept}
use Rattle.partlog.specs.Lagging.{LagsAt, LeftLate}
use Rattle.partlog.specs.Replicas.{replica_events}
use Rattle.partlog.specs.Starts.{AreStarts, starts_from, records_in}
use Rattle.partlog.specs.Tracked.{IsTracked}
use Rattle.partlog.proofs.Appending.{batches-append}
use Rattle.partlog.proofs.Below.{batches-take}
use Rattle.partlog.proofs.Gathered.{IsScanned, numbers_are}
use Rattle.partlog.proofs.Lagging.{late-nobody, late-append, late-follow, late-look, late-shrink}
use Rattle.partlog.proofs.Replicas.{events-append, end-of-replicas, high-within}
use Rattle.partlog.proofs.Stamping.{kept-push, kept-none}
use Rattle.partlog.proofs.Whole.{kept-full, kept-rising, kept-bytes, kept-end}

-- the batches of the entries have the records that these added
records_in-batches : (before es : List PartEvent) (log : List ℕ) → records_in (batches_after before es log) ≡ log_end_of es
records_in-batches before [] log = refl
records_in-batches before (Append by seq count len ∷ es) log =
    let e : PartEvent = Append by seq count len in
    let now : StoredBatch = record { base = log_end_of before; count = count; bytes = take len log } in
    let more : List StoredBatch = batches_after (before ++ e ∷ []) es (drop len log) in
    sum_by-cons (λ (b : StoredBatch). b.count) now more ∙ ap (λ n. count + n) (records_in-batches (before ++ e ∷ []) es (drop len log)) ∙ sym (sum_by-cons added_count e es)
records_in-batches before (Follow by seq replica offset t ∷ es) log =
    let e : PartEvent = Follow by seq replica offset t in
    records_in-batches (before ++ e ∷ []) es log ∙ omega (arith, sum_by-cons added_count e es)
records_in-batches before (Look by seq ∷ es) log =
    let e : PartEvent = Look by seq in
    records_in-batches (before ++ e ∷ []) es log ∙ omega (arith, sum_by-cons added_count e es)
records_in-batches before (Shrink by replica t ∷ es) log =
    let e : PartEvent = Shrink by replica t in
    records_in-batches (before ++ e ∷ []) es log ∙ omega (arith, sum_by-cons added_count e es)

starts-push : (place : ℕ) (bs : List StoredBatch) (b : StoredBatch) → starts_from place (bs ++ b ∷ []) ≡ starts_from place bs ++ record { base = b.base; place = place + bytes_in bs } ∷ []
starts-push place [] b = ap (λ (n : ℕ). record { base = b.base; place = n } ∷ []) (omega arith)
starts-push place (c ∷ bs) b =
    let first : BatchStart = record { base = c.base; place = place } in
    let sum : (place + length c.bytes) + bytes_in bs ≡ place + bytes_in (c ∷ bs) = omega (arith, sum_by-cons (λ (s : StoredBatch). length s.bytes) c bs) in
    ap (λ l. first ∷ l) (starts-push (place + length c.bytes) bs b ∙ ap (λ (n : ℕ). starts_from (place + length c.bytes) bs ++ record { base = b.base; place = n } ∷ []) sum)

-- the starts are those of the log's batches
pub are-starts : (log : List ℕ) (events : List PartEvent) (starts : List BatchStart) (next : BatchStart) → IsKept log events → starts ≡ starts_from 0 (batches_of events log) → next.base ≡ log_end_of events → next.place ≡ length log → AreStarts starts next (batches_of events log)
are-starts log events starts next kept each base place = record {
  each = each;
  base = base ∙ sym (records_in-batches [] events log);
  place = place ∙ sym (kept-bytes log events kept);
  full = kept-full log events kept;
  rising = kept-rising log events kept;
}

-- before the first entry
pub tracked-new : (followers : ℕ) (replicas : Standings) (insync : ℕ) → followers < 2 ^ 31 → insync ≡ followers + 1 → StandsFor replicas followers [] → IsTracked [] followers [] [] replicas (record { end = 0; high = 0; visible = 0; bytes = 0; insync = insync })
tracked-new followers replicas insync few all stands =
    let high : 0 ≡ high_watermark_of followers [] = omega (arith, high-within followers []) in
    let count : insync ≡ count_of followers [] = omega (arith, all, count-of-all followers [] tt) in
    record {
      kept = record { whole = refl; bounded = omega arith; dense = λ k d lt. absurd (omega arith) };
      starts = refl;
      few = few;
      stands = stands;
      numbers = ap (λ (n : ℕ). record { end = 0; high = n; visible = 0; bytes = 0; insync = insync }) high
          ∙ ap (λ (n : ℕ). record { end = 0; high = high_watermark_of followers []; visible = 0; bytes = 0; insync = n }) count;
      late = late-nobody followers;
    }

-- what is kept of the replicas, once one more entry stands in the history
stands-with : (followers : ℕ) (events : List PartEvent) (e : PartEvent) (now : Standings) → StandsFor now followers (replica_events events ++ replica_events (e ∷ [])) → StandsFor now followers (replica_events (events ++ e ∷ []))
stands-with followers events e now stands = subst (λ (es : List ReplicaEvent). StandsFor now followers es) (sym (events-append events (e ∷ []))) stands

module _ (log : List ℕ) (followers : ℕ) (events : List PartEvent) (starts : List BatchStart) (replicas : Standings) (numbers : Numbers) (tracked : IsTracked log followers events starts replicas numbers) where
  pub tracked-starts : AreStarts starts (record { base = numbers.end; place = numbers.bytes }) (batches_of events log)
  tracked-starts =
      are-starts log events starts (record { base = numbers.end; place = numbers.bytes }) tracked.kept tracked.starts (ap (λ (n : Numbers). n.end) tracked.numbers) (ap (λ (n : Numbers). n.bytes) tracked.numbers ∙ kept-bytes log events tracked.kept)

  pub tracked-scanned : IsScanned log followers events numbers
  tracked-scanned =
      let high : numbers.high ≡ high_watermark_of followers (replica_events events) = ap (λ (n : Numbers). n.high) tracked.numbers in
      record {
        end = ap (λ (n : Numbers). n.end) tracked.numbers;
        high = high;
        visible = ap (λ (n : Numbers). n.visible) tracked.numbers ∙ ap (λ h. bytes_in (batches_below h (batches_of events log))) (sym high);
        bytes = ap (λ (n : Numbers). n.bytes) tracked.numbers ∙ kept-bytes log events tracked.kept;
        insync = ap (λ (n : Numbers). n.insync) tracked.numbers;
      }

  -- what is kept of the replicas has the log end
  pub tracked-end : replicas.log_end ≡ numbers.end
  tracked-end = ap (λ (s : Standings). s.log_end) tracked.stands ∙ sym (end-of-replicas events) ∙ sym (ap (λ (n : Numbers). n.end) tracked.numbers)

  pub tracked-bound : numbers.end ≤ 67108864
  tracked-bound = omega (arith, tracked-scanned.end, kept-end log events tracked.kept)

  -- an entry that adds nothing to the log, with the replicas and the numbers after it
  module _ (e : PartEvent) (none : batches_after events (e ∷ []) (drop (bytes_of events) log) ≡ []) (no_records : added_count e ≡ 0) (no_bytes : added_bytes e ≡ 0) (dense : IsDense e) (late : LeftLate followers (events ++ e ∷ [])) (now : Standings) (stands : StandsFor now followers (replica_events (events ++ e ∷ []))) where
    abbrev next : List PartEvent
    next = events ++ e ∷ []

    same-batches : batches_of next log ≡ batches_of events log
    same-batches = batches-append [] events (e ∷ []) log ∙ ap (λ bs. batches_of events log ++ bs) none ∙ append-nil (batches_of events log)

    same-end : log_end_of next ≡ log_end_of events
    same-end = sum_by_push added_count events e ∙ omega (arith, no_records)

    tracked-quiet : (n : Numbers) → n.end ≡ numbers.end → n.high ≡ high_watermark_of followers (replica_events next) → n.visible ≡ bytes_in (batches_below n.high (batches_of events log)) → n.bytes ≡ numbers.bytes → n.insync ≡ count_of followers (replica_events next) → IsTracked log followers next starts now n
    tracked-quiet n end high visible bytes insync =
        let was = tracked-scanned in
        let kept : IsKept log next = kept-none log events e no_bytes dense tracked.kept in
        let seen : IsScanned log followers next n = record {
          end = end ∙ was.end ∙ sym same-end;
          high = high;
          visible = visible ∙ ap (λ bs. bytes_in (batches_below n.high bs)) (sym same-batches);
          bytes = bytes ∙ was.bytes;
          insync = insync;
        } in
        record {
          kept = kept;
          starts = tracked.starts ∙ ap (starts_from 0) (sym same-batches);
          few = tracked.few;
          stands = stands;
          numbers = numbers_are log followers next n kept seen;
          late = late;
        }

  -- a look
  pub tracked-look : (by seq : ℕ) → IsTracked log followers (events ++ Look by seq ∷ []) starts replicas numbers
  tracked-look by seq =
      let e : PartEvent = Look by seq in
      let was = tracked-scanned in
      let same : replica_events (events ++ e ∷ []) ≡ replica_events events = events-append events (e ∷ []) ∙ append-nil (replica_events events) in
      tracked-quiet e refl refl refl tt (late-look followers events by seq tracked.late) replicas
      (subst (λ (es : List ReplicaEvent). StandsFor replicas followers es) (sym same) tracked.stands)
      numbers refl (was.high ∙ ap (high_watermark_of followers) (sym same)) was.visible refl (was.insync ∙ ap (count_of followers) (sym same))

  -- a follower's fetch
  module _ (by seq replica offset t : ℕ) (now : Standings) (entered : StandsFor now followers (replica_events events ++ Fetched replica offset t ∷ [])) where
    abbrev fetch : PartEvent
    fetch = Follow by seq (pos replica) offset t

    pub fetched-stands : StandsFor now followers (replica_events (events ++ fetch ∷ []))
    fetched-stands = stands-with followers events fetch now entered

    pub tracked-follow : (n : Numbers) → n.end ≡ numbers.end → n.high ≡ high_watermark_of followers (replica_events (events ++ fetch ∷ [])) → n.visible ≡ bytes_in (batches_below n.high (batches_of events log)) → n.bytes ≡ numbers.bytes → n.insync ≡ count_of followers (replica_events (events ++ fetch ∷ [])) → IsTracked log followers (events ++ fetch ∷ []) starts now n
    tracked-follow = tracked-quiet fetch refl refl refl tt (late-follow followers events by seq (pos replica) offset t tracked.late) now fetched-stands

  -- one who lagged is taken out
  module _ (by replica t : ℕ) (lagging : LagsAt followers events t (pos replica)) (now : Standings) (entered : StandsFor now followers (replica_events events ++ Left replica t ∷ [])) where
    abbrev left : PartEvent
    left = Shrink by (pos replica) t

    pub left-stands : StandsFor now followers (replica_events (events ++ left ∷ []))
    left-stands = stands-with followers events left now entered

    pub tracked-left : (n : Numbers) → n.end ≡ numbers.end → n.high ≡ high_watermark_of followers (replica_events (events ++ left ∷ [])) → n.visible ≡ bytes_in (batches_below n.high (batches_of events log)) → n.bytes ≡ numbers.bytes → n.insync ≡ count_of followers (replica_events (events ++ left ∷ [])) → IsTracked log followers (events ++ left ∷ []) starts now n
    tracked-left = tracked-quiet left refl refl refl tt (late-shrink followers events by (pos replica) t tracked.late lagging) now left-stands

  -- a batch that was stamped
  module _ (w : List ℕ) (by seq count len : ℕ) (some : 0 < count) (dense : count < len) (size : length w ≡ len) (room : length log + len ≤ 67108864) where
    abbrev entry : PartEvent
    entry = Append by seq count len

    abbrev stored : StoredBatch
    stored = record { base = log_end_of events; count = count; bytes = w }

    pushed-kept : IsKept (log ++ w) (events ++ entry ∷ [])
    pushed-kept = kept-push log w events by seq count len tracked.kept some dense size room

    pushed-batches : batches_of (events ++ entry ∷ []) (log ++ w) ≡ batches_of events log ++ stored ∷ []
    pushed-batches =
        let front : batches_of events (log ++ w) ≡ batches_of events log =
        sym (batches-take (length log) [] events (log ++ w) (omega (arith, tracked.kept.whole))) ∙ ap (batches_of events) (take-append_seam log w) in
        let rest : drop (bytes_of events) (log ++ w) ≡ w = ap (λ n. drop n (log ++ w)) tracked.kept.whole ∙ drop-append_seam log w in
        let all : take len (drop (bytes_of events) (log ++ w)) ≡ w = ap (take len) rest ∙ ap (λ n. take n w) (sym size) ∙ take-length w in
        batches-append [] events (entry ∷ []) (log ++ w)
        ∙ ap (λ bs. bs ++ batches_after events (entry ∷ []) (drop (bytes_of events) (log ++ w))) front
        ∙ ap (λ (l : List ℕ). batches_of events log ++ record { base = log_end_of events; count = count; bytes = l } ∷ []) all

    pub pushed-starts : starts ++ record { base = numbers.end; place = length log } ∷ [] ≡ starts_from 0 (batches_of (events ++ entry ∷ []) (log ++ w))
    pushed-starts =
        let first : BatchStart = record { base = numbers.end; place = length log } in
        let base : ◌≡◌ {A = BatchStart} first (record { base = log_end_of events; place = length log }) = ap (λ (n : Numbers). record { base = n.end; place = length log }) tracked.numbers in
        let place : ◌≡◌ {A = BatchStart} (record { base = log_end_of events; place = length log }) (record { base = log_end_of events; place = 0 + bytes_in (batches_of events log) }) =
        ap (λ (n : ℕ). record { base = log_end_of events; place = n }) (sym (kept-bytes log events tracked.kept) ∙ omega arith) in
        ap (λ s. starts ++ s ∷ []) (base ∙ place)
        ∙ ap (λ l. l ++ record { base = log_end_of events; place = 0 + bytes_in (batches_of events log) } ∷ []) tracked.starts
        ∙ sym (starts-push 0 (batches_of events log) stored)
        ∙ ap (starts_from 0) (sym pushed-batches)

    pub are-pushed : (ss : List BatchStart) (next : BatchStart) → ss ≡ starts ++ record { base = numbers.end; place = length log } ∷ [] → next.base ≡ numbers.end + count → next.place ≡ length (log ++ w) → AreStarts ss next (batches_of (events ++ entry ∷ []) (log ++ w))
    are-pushed ss next is base place =
        let end : numbers.end ≡ log_end_of events = ap (λ (n : Numbers). n.end) tracked.numbers in
        let sum : log_end_of (events ++ entry ∷ []) ≡ log_end_of events + count = sum_by_push added_count events entry in
        are-starts (log ++ w) (events ++ entry ∷ []) ss next pushed-kept (is ∙ pushed-starts) (base ∙ omega arith) place

    module _ (now : Standings) (entered : StandsFor now followers (replica_events events ++ Appended count ∷ [])) where
      pub pushed-stands : StandsFor now followers (replica_events (events ++ entry ∷ []))
      pushed-stands = stands-with followers events entry now entered

      pub tracked-push : (ss : List BatchStart) (next : BatchStart) (n : Numbers) → ss ≡ starts ++ record { base = numbers.end; place = length log } ∷ [] → next.base ≡ numbers.end + count → next.place ≡ length (log ++ w) → n.end ≡ next.base → n.high ≡ high_watermark_of followers (replica_events (events ++ entry ∷ [])) → n.visible ≡ bytes_in (batches_below n.high (batches_of (events ++ entry ∷ []) (log ++ w))) → n.bytes ≡ next.place → n.insync ≡ count_of followers (replica_events (events ++ entry ∷ [])) → IsTracked (log ++ w) followers (events ++ entry ∷ []) ss now n
      tracked-push ss next n is base place end high visible bytes insync =
          let before : numbers.end ≡ log_end_of events = ap (λ (m : Numbers). m.end) tracked.numbers in
          let sum : log_end_of (events ++ entry ∷ []) ≡ log_end_of events + count = sum_by_push added_count events entry in
          let seen : IsScanned (log ++ w) followers (events ++ entry ∷ []) n = record {
            end = end ∙ base ∙ omega arith;
            high = high;
            visible = visible;
            bytes = bytes ∙ place;
            insync = insync;
          } in
          record {
            kept = pushed-kept;
            starts = is ∙ pushed-starts;
            few = tracked.few;
            stands = pushed-stands;
            numbers = numbers_are (log ++ w) followers (events ++ entry ∷ []) n pushed-kept seen;
            late = late-append followers events by seq count len tracked.late;
          }

-- What followers who are taken out of the in-sync set leave of a log: all but the history and what follows of the replicas.
use Rattle.std.proofs.Common.{◌≡◌, ℕ, ℤ, zero, suc, pos, List, [], ◌∷◌, ◌++◌, length, take, map, arith, refl, sym, subst, ◌∙◌, append-nil, append_assoc}
use Rattle.std.proofs.lemmas.List.Sums.{sum_by_push}
use Rattle.partlog.specs.declared.event.PartEvent.{PartEvent}
use Rattle.partlog.specs.declared.event.PartEvent.TheVariants.{Shrink}
use Rattle.partlog.specs.Added.{added_bytes, added_count, bytes_of, log_end_of}
use Rattle.partlog.specs.Batches.{batches_of}
use Rattle.partlog.specs.History.{History}
use Rattle.partlog.specs.Kept.{IsKept}
use Rattle.partlog.specs.Shrunk.{shrunk, late_at, shrinks_at, all_shrunk, some_shrunk}
use Rattle.partlog.proofs.Appending.{batches-append}
use Rattle.partlog.proofs.Lagging.{take-all}
use Rattle.partlog.proofs.Stamping.{kept-none}

-- the same log, with as many records and bytes and the same batches
pub record IsSameLog (log : List ℕ) (events more : List PartEvent) : Type 0 where
  pub end : log_end_of more ≡ log_end_of events
  pub bytes : bytes_of more ≡ bytes_of events
  pub batches : batches_of more log ≡ batches_of events log
  pub kept : IsKept log events → IsKept log more

module _ (log : List ℕ) where
  same-none : (events : List PartEvent) → IsSameLog log events (events ++ [])
  same-none events = subst (λ (es : List PartEvent). IsSameLog log events es) (sym (append-nil events)) (record { end = refl; bytes = refl; batches = refl; kept = λ kept. kept })

  same-shrink : (events : List PartEvent) (by : ℕ) (replica : ℤ) (t : ℕ) → IsSameLog log events (events ++ Shrink by replica t ∷ [])
  same-shrink events by replica t =
      let e : PartEvent = Shrink by replica t in
      record {
        end = sum_by_push added_count events e ∙ omega arith;
        bytes = sum_by_push added_bytes events e ∙ omega arith;
        batches = batches-append [] events (e ∷ []) log ∙ append-nil (batches_of events log);
        kept = kept-none log events e refl tt;
      }

  same-after : (events more most : List PartEvent) → IsSameLog log events more → IsSameLog log more most → IsSameLog log events most
  same-after events more most first later = record {
    end = later.end ∙ first.end;
    bytes = later.bytes ∙ first.bytes;
    batches = later.batches ∙ first.batches;
    kept = λ kept. later.kept (first.kept kept);
  }

  module _ (by t : ℕ) where
    abbrev shrinks : List ℕ → List PartEvent
    shrinks replicas = map (λ replica. Shrink by (pos replica) t) replicas

    same-shrinks : (n : ℕ) (events : List PartEvent) (replicas : List ℕ) → IsSameLog log events (events ++ take n (shrinks replicas))
    same-shrinks zero events replicas = same-none events
    same-shrinks (suc n) events [] = same-none events
    same-shrinks (suc n) events (replica ∷ replicas) =
        let e : PartEvent = Shrink by (pos replica) t in
        subst (λ (es : List PartEvent). IsSameLog log events es) (append_assoc events (e ∷ []) (take n (shrinks replicas)))
        (same-after events (events ++ e ∷ []) ((events ++ e ∷ []) ++ take n (shrinks replicas)) (same-shrink events by (pos replica) t) (same-shrinks n (events ++ e ∷ []) replicas))

module _ (h : History) (by : ℕ) where
  pub same-shrunk : (replica : ℤ) (t : ℕ) → IsSameLog h.log h.events (shrunk h by replica t).events
  same-shrunk replica t = same-shrink h.log h.events by replica t

  pub same-some-shrunk : (n t : ℕ) → IsSameLog h.log h.events (some_shrunk n h by t).events
  same-some-shrunk n t = same-shrinks h.log by t n h.events (late_at h t)

  pub same-all-shrunk : (t : ℕ) → IsSameLog h.log h.events (all_shrunk h by t).events
  same-all-shrunk t = subst (λ (es : List PartEvent). IsSameLog h.log h.events (h.events ++ es)) (take-all (shrinks_at h by t)) (same-some-shrunk (length (shrinks_at h by t)) t)

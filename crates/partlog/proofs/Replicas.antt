-- What a history says of the replicas, as it goes on.
use Rattle.std.proofs.Common.{◌≡◌, ℕ, pos, negsuc, ◌+◌, ◌≤◌, List, [], ◌∷◌, ◌++◌, arith, ap, ◌∙◌, refl}
use Rattle.std.proofs.lemmas.List.Elements.{filter_map-append}
use Rattle.std.proofs.lemmas.List.Sums.{sum_by-cons}
use Rattle.partlog.specs.in_sync.InSync.{high_watermark_of}
use Rattle.partlog.specs.in_sync.LogEnd.{added_by, log_end_of as end_of}
use Rattle.partlog.specs.in_sync.ReplicaEvent.{Appended, Fetched, Left}
use Rattle.partlog.proofs.in_sync.Laws as in_sync
use Rattle.partlog.specs.declared.event.PartEvent.{PartEvent}
use Rattle.partlog.specs.declared.event.PartEvent.TheVariants.{Append, Follow, Look, Shrink}
use Rattle.partlog.specs.Added.{added_count, log_end_of}
use Rattle.partlog.specs.Replicas.{replica_event, replica_events}

pub events-append : (es fs : List PartEvent) → replica_events (es ++ fs) ≡ replica_events es ++ replica_events fs
events-append es fs = filter_map-append replica_event es fs

-- the log end is that of the replicas
pub end-of-replicas : (es : List PartEvent) → log_end_of es ≡ end_of (replica_events es)
end-of-replicas [] = refl
end-of-replicas (Append by seq count len ∷ es) =
    sum_by-cons added_count (Append by seq count len) es ∙ ap (λ n. count + n) (end-of-replicas es) ∙ omega (arith, sum_by-cons added_by (Appended count) (replica_events es))
end-of-replicas (Follow by seq (pos replica) offset t ∷ es) =
    omega (arith, sum_by-cons added_count (Follow by seq (pos replica) offset t) es, end-of-replicas es, sum_by-cons added_by (Fetched replica offset t) (replica_events es))
end-of-replicas (Follow by seq (negsuc n) offset t ∷ es) = omega (arith, sum_by-cons added_count (Follow by seq (negsuc n) offset t) es, end-of-replicas es)
end-of-replicas (Look by seq ∷ es) = omega (arith, sum_by-cons added_count (Look by seq) es, end-of-replicas es)
end-of-replicas (Shrink by (pos replica) t ∷ es) =
    omega (arith, sum_by-cons added_count (Shrink by (pos replica) t) es, end-of-replicas es, sum_by-cons added_by (Left replica t) (replica_events es))
end-of-replicas (Shrink by (negsuc n) t ∷ es) = omega (arith, sum_by-cons added_count (Shrink by (negsuc n) t) es, end-of-replicas es)

pub high-within : (followers : ℕ) (es : List PartEvent) → high_watermark_of followers (replica_events es) ≤ log_end_of es
high-within followers es = omega (arith, in_sync.high-within followers (replica_events es), end-of-replicas es)

pub high-grows : (followers : ℕ) (es more : List PartEvent) → high_watermark_of followers (replica_events es) ≤ high_watermark_of followers (replica_events (es ++ more))
high-grows followers es more =
    omega (arith, in_sync.high-grows followers (replica_events es) (replica_events more), ap (high_watermark_of followers) (events-append es more))

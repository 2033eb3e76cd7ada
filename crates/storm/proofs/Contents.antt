-- What the lines of a load say: its topic, and its sessions.
use Rattle.std.proofs.Common.{◌≡◌, ℕ, zero, suc, ◌+◌, ◌*◌, ◌%◌, Bool, true, false, List, [], ◌∷◌, ◌++◌, refl, sym, ap, ◌∙◌, append_assoc, arith}
use Rattle.std.specs.Prelude.{codes, if◌then◌else◌, max, min}
use Rattle.std.specs.List.{flat_map, range_with_len}
use Rattle.trace_file.specs.declared.line.Line.{Line}
use Rattle.trace_file.specs.declared.line.Line.TheVariants.{Topic, Feed, Shut, Clock, End}
use Rattle.kwire.specs.declared.config.Topic as topics
use Rattle.trace_file.specs.Contents.{configuration_of, sessions_of, topic_in}
use Rattle.trace_file.specs.IsInOrder.{AreNewTopics}
use Rattle.storm.specs.Places.{block_of}
use Rattle.storm.specs.Lines.{topic_line, ends_block, feed_line, lines_from, request_lines, storm_lines}
use Rattle.storm.proofs.Fronts.{lines_more}
use Rattle.storm.proofs.Ordered.{load_in_order}

-- ---- its topic

past_clock : (b : Bool) (t : ℕ) (lines after : List Line) → flat_map topic_in (lines ++ after) ≡ [] → flat_map topic_in (((if b then Clock t ∷ [] else []) ++ lines) ++ after) ≡ []
past_clock true t lines after none = none
past_clock false t lines after none = none

no_topics : (seed n i k : ℕ) → flat_map topic_in (flat_map (request_lines seed n) (range_with_len i k) ++ End ∷ []) ≡ []
unfolding feed_line
no_topics seed n i zero = refl
no_topics seed n i (suc k) =
    past_clock (ends_block n i) (10 * (block_of i + 1)) (flat_map (request_lines seed n) (range_with_len (i + 1) k)) (End ∷ []) (no_topics seed n (i + 1) k)

abbrev the_topic : topics.Topic
the_topic = record { name = codes "storm"; partitions = 8; followers = 1; min_insync = 1 }

pub storm_declares : (port seed n : ℕ) → configuration_of port (topic_line ∷ []) ≡ configuration_of port (storm_lines seed n)
storm_declares port seed n = ap (λ (ts : List topics.Topic). record { port = port; topics = the_topic ∷ ts }) (sym (no_topics seed n 0 n))

-- the line that declares it may stand alone
pub topic_is_new : AreNewTopics (topic_line ∷ [])
topic_is_new front back name partitions followers least is =
    (load_in_order 0 0).topics front (back ++ End ∷ []) name partitions followers least
    (ap (λ (lines : List Line). lines ++ End ∷ []) is ∙ append_assoc front (Topic name partitions followers least ∷ back) (End ∷ []))

-- ---- its sessions

sessions_append : (xs ys : List Line) → sessions_of (xs ++ ys) ≡ max (sessions_of xs) (sessions_of ys)
sessions_append [] ys = omega arith
sessions_append (Topic name partitions followers least ∷ xs) ys = sessions_append xs ys
sessions_append (Feed session bytes ∷ xs) ys = omega (arith, sessions_append xs ys)
sessions_append (Shut session ∷ xs) ys = omega (arith, sessions_append xs ys)
sessions_append (Clock t ∷ xs) ys = sessions_append xs ys
sessions_append (End ∷ xs) ys = sessions_append xs ys

no_session : (b : Bool) (t : ℕ) → sessions_of (if b then Clock t ∷ [] else []) ≡ 0
no_session true t = refl
no_session false t = refl

one_session : (seed n i : ℕ) → sessions_of (request_lines seed n i) ≡ i % 16 + 1
unfolding feed_line
one_session seed n i = omega (arith, no_session (ends_block n i) (10 * (block_of i + 1)))

sessions_so_far : (seed n k : ℕ) → sessions_of (lines_from seed n 0 k) ≡ min k 16
sessions_so_far seed n zero = refl
sessions_so_far seed n (suc k) =
    let next : k + 1 ≡ suc k = omega arith in
    let joined : lines_from seed n 0 (suc k) ≡ lines_from seed n 0 k ++ request_lines seed n k = ap (lines_from seed n 0) (sym next) ∙ sym (lines_more seed n k) in
    let sum = ap sessions_of joined ∙ sessions_append (lines_from seed n 0 k) (request_lines seed n k) in
    omega (arith, sum, sessions_so_far seed n k, one_session seed n k)

pub storm_sessions : (seed n : ℕ) → min n 16 ≡ sessions_of (storm_lines seed n)
storm_sessions seed n =
    let all = sessions_append (lines_from seed n 0 n) (End ∷ []) in
    omega (arith, all, sessions_so_far seed n n)

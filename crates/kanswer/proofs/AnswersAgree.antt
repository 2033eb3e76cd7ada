-- What is told from the readings is what is told from the states that were read.
use Rattle.std.proofs.Common.{◌≡◌, ℕ, zero, suc, ◌+◌, ℤ, pos, List, [], ◌∷◌, ◌++◌, length, take, drop, refl, sym, ap, ◌∙◌}
use Rattle.std.specs.List.{flat_map}
use Rattle.partlog.specs.State.{PartState}
use Rattle.partlog.specs.declared.numbers.Numbers.{Numbers}
use Rattle.kwire.specs.Configuration.{Configuration, min_insync_at}
use Rattle.kwire.specs.declared.request.ProducePart.{ProducePart}
use Rattle.kwire.specs.declared.request.ProduceTopic.{ProduceTopic}
use Rattle.kwire.specs.declared.request.FetchPart.{FetchPart}
use Rattle.kwire.specs.declared.request.FetchTopic.{FetchTopic}
use Rattle.kwire.specs.declared.reply.ProducedPart.{ProducedPart}
use Rattle.kwire.specs.declared.reply.ProducedTopic.{ProducedTopic}
use Rattle.kwire.specs.declared.reply.FetchedPart.{FetchedPart}
use Rattle.kwire.specs.declared.reply.FetchedTopic.{FetchedTopic}
use Rattle.kanswer.specs.declared.accepted.Accepted.{Accepted}
use Rattle.kanswer.specs.declared.accepted.Accepted.TheVariants.{Refused, Appended, Seen}
use Rattle.kanswer.specs.declared.accepted.Reading.{Reading}
use Rattle.kanswer.specs.declared.accepted.Budget.{Budget}
use Rattle.kanswer.specs.Waiting.{Shown}
use Rattle.kanswer.specs.Answer.{produced_as, produced_parts, produced_topics, batches_as, budget_after, budget_behind, fetched_as, fetched_parts, fetched_topics}
use Rattle.kanswer.specs.LogReadings.{HasNumbers, ProduceReadings, HasRecords, FetchReadings}
use Rattle.kanswer.specs.ToldParts.{code_at, parts_by, produced_part, produced_of, fetched_part, fetched_of}

produced_part_is : (config : Configuration) (acks : ℤ) (asked : ProducePart) (result : Accepted) (reading : Reading) (state : PartState) → HasNumbers result reading state → produced_part config acks asked result reading ≡ produced_as config acks asked.index result state
produced_part_is config acks asked (Refused code) reading state h = refl
produced_part_is config acks asked (Appended part base count) reading state h =
    ap (λ (n : Numbers). let told : ProducedPart = record { index = asked.index; code = code_at acks (min_insync_at config.topics part) (base + count) n; base = pos base; start = pos 0 } in told) h
produced_part_is config acks asked (Seen part start) reading state h = refl

produced_parts_are : (config : Configuration) (acks : ℤ) (parts : List ProducePart) (results : List Accepted) (readings : List Reading) (shown : List Shown) → ProduceReadings results readings shown
    → parts_by (produced_part config acks) parts results readings ≡ produced_parts config acks parts shown
produced_parts_are config acks [] results readings shown h = refl
produced_parts_are config acks (asked ∷ parts) [] [] [] h = refl
produced_parts_are config acks (asked ∷ parts) (result ∷ results) (reading ∷ readings) (s ∷ shown) h =
    let here = produced_part_is config acks asked result reading s.state h.1 ∙ ap (λ (a : Accepted). produced_as config acks asked.index a s.state) (sym h.0) in
    ap (λ (p : ProducedPart). p ∷ parts_by (produced_part config acks) parts results readings) here
    ∙ ap (λ (ps : List ProducedPart). produced_as config acks asked.index s.result s.state ∷ ps) (produced_parts_are config acks parts results readings shown h.2)
produced_parts_are config acks (asked ∷ parts) results readings shown h = absurd h

produced_cut : (n : ℕ) (results : List Accepted) (readings : List Reading) (shown : List Shown) → ProduceReadings results readings shown
    → ProduceReadings (take n results) (take n readings) (take n shown) × ProduceReadings (drop n results) (drop n readings) (drop n shown)
produced_cut zero results readings shown h = (tt, h)
produced_cut (suc n) [] [] [] h = (tt, tt)
produced_cut (suc n) (result ∷ results) (reading ∷ readings) (s ∷ shown) h =
    let rest = produced_cut n results readings shown h.2 in
    ((h.0, h.1, rest.0), rest.1)
produced_cut (suc n) results readings shown h = absurd h

pub produced_is : (config : Configuration) (acks : ℤ) (topics : List ProduceTopic) (results : List Accepted) (readings : List Reading) (shown : List Shown) → ProduceReadings results readings shown
    → produced_of config acks topics results readings ≡ produced_topics config acks topics shown
produced_is config acks [] results readings shown h = refl
produced_is config acks (topic ∷ topics) results readings shown h =
    let n : ℕ = length topic.parts in
    let cut = produced_cut n results readings shown h in
    let here = produced_parts_are config acks topic.parts (take n results) (take n readings) (take n shown) cut.0 in
    ap (λ (ps : List ProducedPart). let told : List ProducedTopic = record { name = topic.name; parts = ps } ∷ produced_of config acks topics (drop n results) (drop n readings) in told) here
    ∙ ap (λ (ts : List ProducedTopic). let told : List ProducedTopic = record { name = topic.name; parts = produced_parts config acks topic.parts (take n shown) } ∷ ts in told) (produced_is config acks topics (drop n results) (drop n readings) (drop n shown) cut.1)

fetched_part_is : (replica : ℤ) (asked : FetchPart) (result : Accepted) (reading : Reading) (state : PartState) (budget : Budget) → HasRecords replica asked result reading state budget
    → fetched_part asked result reading ≡ fetched_as asked result state (batches_as replica asked result state budget)
fetched_part_is replica asked (Refused code) reading state budget h = refl
fetched_part_is replica asked (Appended part base count) reading state budget h = refl
fetched_part_is replica asked (Seen part start) reading state budget h =
    ap (λ (n : Numbers). let told : FetchedPart = record { index = asked.index; code = pos 0; high = pos n.high; start = pos 0; records = reading.records } in told) h.0
    ∙ ap (λ (bytes : List ℕ). let told : FetchedPart = record { index = asked.index; code = pos 0; high = pos state.high; start = pos 0; records = bytes } in told) h.1

fetched_parts_are : (replica : ℤ) (parts : List FetchPart) (results : List Accepted) (readings : List Reading) (shown : List Shown) (budget : Budget) → FetchReadings replica parts results readings shown budget
    → parts_by fetched_part parts results readings ≡ fetched_parts replica parts shown budget
fetched_parts_are replica [] results readings shown budget h = refl
fetched_parts_are replica (asked ∷ parts) (result ∷ results) (reading ∷ readings) (s ∷ shown) budget h =
    let here = fetched_part_is replica asked result reading s.state budget h.1 ∙ ap (λ (a : Accepted). fetched_as asked a s.state (batches_as replica asked a s.state budget)) (sym h.0) in
    let batches = batches_as replica asked s.result s.state budget in
    ap (λ (p : FetchedPart). p ∷ parts_by fetched_part parts results readings) here
    ∙ ap (λ (ps : List FetchedPart). fetched_as asked s.result s.state batches ∷ ps) (fetched_parts_are replica parts results readings shown (budget_after batches budget) h.2)
fetched_parts_are replica (asked ∷ parts) results readings shown budget h = absurd h

-- the readings of some partitions, and of those after them with what is left
fetched_cut : (replica : ℤ) (parts more : List FetchPart) (results : List Accepted) (readings : List Reading) (shown : List Shown) (budget : Budget) → FetchReadings replica (parts ++ more) results readings shown budget
    → FetchReadings replica parts (take (length parts) results) (take (length parts) readings) (take (length parts) shown) budget
    × FetchReadings replica more (drop (length parts) results) (drop (length parts) readings) (drop (length parts) shown) (budget_behind replica parts (take (length parts) shown) budget)
fetched_cut replica [] more results readings shown budget h = (tt, h)
fetched_cut replica (asked ∷ parts) more (result ∷ results) (reading ∷ readings) (s ∷ shown) budget h =
    let rest = fetched_cut replica parts more results readings shown (budget_after (batches_as replica asked s.result s.state budget) budget) h.2 in
    ((h.0, h.1, rest.0), rest.1)
fetched_cut replica (asked ∷ parts) more results readings shown budget h = absurd h

pub fetched_is : (replica : ℤ) (topics : List FetchTopic) (results : List Accepted) (readings : List Reading) (shown : List Shown) (budget : Budget) → FetchReadings replica (flat_map (λ topic. topic.parts) topics) results readings shown budget
    → fetched_of topics results readings ≡ fetched_topics replica topics shown budget
fetched_is replica [] results readings shown budget h = refl
fetched_is replica (topic ∷ topics) results readings shown budget h =
    let n : ℕ = length topic.parts in
    let cut = fetched_cut replica topic.parts (flat_map (λ t. t.parts) topics) results readings shown budget h in
    let here = fetched_parts_are replica topic.parts (take n results) (take n readings) (take n shown) budget cut.0 in
    let behind = budget_behind replica topic.parts (take n shown) budget in
    ap (λ (ps : List FetchedPart). let told : List FetchedTopic = record { name = topic.name; parts = ps } ∷ fetched_of topics (drop n results) (drop n readings) in told) here
    ∙ ap (λ (ts : List FetchedTopic). let told : List FetchedTopic = record { name = topic.name; parts = fetched_parts replica topic.parts (take n shown) budget } ∷ ts in told) (fetched_is replica topics (drop n results) (drop n readings) (drop n shown) behind cut.1)

-- What is decided of a request asks only logs that are there, and puts batches whole.
use Rattle.std.proofs.Common.{◌≡◌, ℕ, ◌+◌, ◌<◌, ℤ, pos, negsuc, Bool, true, false, cond, List, [], ◌∷◌, length, map, Option, Some, None, unwrap_or, refl, sym, ap, subst, ◌∙◌, arith, inl, inr, length-append}
use Rattle.std.proofs.lemmas.List.{length-map, length-replicate}
use Rattle.std.proofs.lemmas.List.Sums.{sum_by-cons}
use Rattle.std.proofs.lemmas.Bool.{ltb-true}
use Rattle.std.specs.Prelude.{MatchOption, MatchBool, replicate, slice_index, ◌&&◌, nat_lt, nat_le}
use Rattle.std.specs.List.{AllByRecursion, AllZip}
use Rattle.std.specs.Cmp.Lexicographic.{pointwise}
use Rattle.std.specs.Bool.{nat_eq}
use Rattle.kbatch.specs.Stamp.{stamped}
use Rattle.partlog.specs.State.{PartState}
use Rattle.partlog.specs.History.{History}
use Rattle.partlog.specs.Gauges.{gauges_of}
use Rattle.partlog.specs.Start.{start_of}
use Rattle.kwire.specs.declared.config.Topic.{Topic}
use Rattle.kwire.specs.declared.request.Ask.{Ask}
use Rattle.kwire.specs.declared.request.Ask.TheVariants.{Produce, Fetch, Metadata, Versions}
use Rattle.kwire.specs.declared.request.ProducePart.{ProducePart}
use Rattle.kwire.specs.declared.request.FetchPart.{FetchPart}
use Rattle.kanswer.specs.declared.accepted.Accepted.TheVariants.{Refused, Appended, Seen}
use Rattle.kwire.specs.Configuration.{Configuration, min_insync_at, partitions_of, followers_of, part_from, part_of}
use Rattle.kanswer.specs.Decisions.{Entry, Put, Followed, Looked, Decision, Refuse, Decides, ProduceDecides, BatchDecides, append_outcome, full_code, needed_insync, fetch_decision, fetch_outcome, in_range_outcome, offset_of, look, code_of, produce_parts, fetch_parts, is_acks}
use Rattle.kanswer.proofs.Laws.{batch_sized}
use Rattle.kbytes.proofs.Laws.{some_is}
use Rattle.audit.proofs.broker.Cases.{either_way}
use Rattle.audit.proofs.broker.Growth.{IsSized}
use Rattle.audit.proofs.broker.Entries.{IsFair, IsFairOutcome}

index_within : (before n partitions p : ℕ) (b : Bool) → (b ≡ true → n < partitions) → cond b (Some (before + n)) None ≡ Some p → p < before + partitions
index_within before n partitions p true lt e = omega (arith, lt refl, some_is (before + n) p e)
index_within before n partitions p false lt e = absurd cc

name_within : (before n partitions others p : ℕ) (b : Bool) (rest : Option ℕ) → (rest ≡ Some p → p < (before + partitions) + others)
    → cond b (cond (nat_lt n partitions) (Some (before + n)) None) rest ≡ Some p → p < before + (partitions + others)
name_within before n partitions others p true rest later e =
    omega (arith, index_within before n partitions p (nat_lt n partitions) (ltb-true n partitions) e)
name_within before n partitions others p false rest later e = omega (arith, later e)

-- a partition that is found is one of those that are there
pub part_within : (before : ℕ) (topics : List Topic) (name : List ℕ) (index : ℤ) (p : ℕ) → part_from before topics name index ≡ Some p → p < before + partitions_of topics
part_within before [] name index p e = absurd cc
part_within before (topic ∷ topics) name (negsuc n) p e = absurd cc
part_within before (topic ∷ topics) name (pos n) p e =
    let total : partitions_of (topic ∷ topics) ≡ topic.partitions + partitions_of topics = sum_by-cons (λ t. t.partitions) topic topics in
    let later = part_within (before + topic.partitions) topics name (pos n) p in
    omega (arith, total, name_within before n topic.partitions (partitions_of topics) p (pointwise nat_eq topic.name name) (part_from (before + topic.partitions) topics name (pos n)) later e)

-- one number of followers for each partition
pub followers_size : (topics : List Topic) → length (followers_of topics) ≡ partitions_of topics
followers_size [] = refl
followers_size (topic ∷ topics) =
    length-append (replicate topic.partitions topic.followers) (followers_of topics)
    ∙ omega (arith, length-replicate topic.partitions topic.followers, followers_size topics, sum_by-cons (λ t. t.partitions) topic topics)

pub parts_size : (topics : List Topic) (parts : List History) → map (λ (h : History). h.followers) parts ≡ followers_of topics → length parts ≡ partitions_of topics
parts_size topics parts e = sym (length-map parts (λ (h : History). h.followers)) ∙ ap length e ∙ followers_size topics

append_fair : (version : ℤ) (least n part count : ℕ) (batch : List ℕ) → part < n → ((base : ℕ) → length (stamped base batch) ≡ length batch) → (state : PartState) → IsFairOutcome n (append_outcome version least part count batch state)
append_fair version least n part count batch within sized state =
    either_way (IsFairOutcome n) (nat_lt state.insync least) (look (Refused (pos 19))) _ (tt, tt)
    (either_way (IsFairOutcome n) (nat_lt 67108864 ((gauges_of state).bytes + length batch)) (look (Refused (full_code version))) (record { result = Appended part state.log_end count; entry = Put count batch }) (tt, tt) (sized, within))

fair_refusal : (n : ℕ) (decision : Decision) (code : ℤ) → decision ≡ Refuse code → IsFair n decision
fair_refusal n decision code e = subst (IsFair n) (sym e) tt

range_fair : (n part : ℕ) (offset : ℤ) (entry : Entry) → part < n → IsSized entry → (state : PartState) → IsFairOutcome n (in_range_outcome part offset entry state)
range_fair n part (negsuc m) entry within sized state = (tt, tt)
range_fair n part (pos offset) entry within sized state =
    either_way (IsFairOutcome n) (nat_lt state.log_end offset) (look (Refused (pos 1))) (record { result = Seen part (start_of offset state); entry = entry }) (tt, tt) (sized, within)

outcome_fair : (n followers : ℕ) (replica : ℤ) (asked : FetchPart) (part : ℕ) → part < n → (state : PartState) → IsFairOutcome n (fetch_outcome followers replica asked part state)
outcome_fair n followers (negsuc m) asked part within state = range_fair n part asked.offset Looked within tt state
outcome_fair n followers (pos replica) asked part within state =
    either_way (IsFairOutcome n) (nat_lt 0 replica && nat_le replica followers) (in_range_outcome part asked.offset (Followed (pos replica) (offset_of asked.offset)) state) (look (Refused (pos 9)))
    (range_fair n part asked.offset (Followed (pos replica) (offset_of asked.offset)) within tt state) (tt, tt)

pub fetch_fair : (config : Configuration) (replica : ℤ) (named : List ℕ × FetchPart) (o : Option ℕ) (n : ℕ) → ((part : ℕ) → o ≡ Some part → part < n) → IsFair n (fetch_decision config replica named o)
fetch_fair config replica named None n within = tt
fetch_fair config replica named (Some part) n within =
    (within part refl, outcome_fair n (slice_index (followers_of config.topics) part) replica named.1 part (within part refl))

batch_fair : (version : ℤ) (least part n : ℕ) (bytes : List ℕ) (decision : Decision) → part < n → BatchDecides version least part bytes decision → IsFair n decision
batch_fair version least part n bytes decision within d =
    elim d [
      | inl fault ↦ fair_refusal n decision (code_of fault.0) fault.2
      | inr batch ↦ subst (IsFair n) (sym batch.2) (within, append_fair version least n part (length batch.0) bytes within (batch_sized bytes batch.0 batch.1))
    ]

acks_fair : (version : ℤ) (b : Bool) (least part n : ℕ) (bytes : List ℕ) (decision : Decision) → part < n → MatchBool b (BatchDecides version least part bytes decision) (decision ≡ Refuse (pos 21)) → IsFair n decision
acks_fair version true least part n bytes decision within d = batch_fair version least part n bytes decision within d
acks_fair version false least part n bytes decision within d = fair_refusal n decision (pos 21) d

part_fair : (version : ℤ) (least : ℕ → ℕ) (o : Option ℕ) (b : Bool) (n : ℕ) (bytes : List ℕ) (decision : Decision) → ((part : ℕ) → o ≡ Some part → part < n)
    → MatchOption o (decision ≡ Refuse (pos 3)) (λ part. MatchBool b (BatchDecides version (least part) part bytes decision) (decision ≡ Refuse (pos 21))) → IsFair n decision
part_fair version least None b n bytes decision within d = fair_refusal n decision (pos 3) d
part_fair version least (Some part) b n bytes decision within d = acks_fair version b (least part) part n bytes decision (within part refl) d

pub produce_fair : (version : ℤ) (config : Configuration) (transactional : Option (List ℕ)) (acks : ℤ) (named : List ℕ × ProducePart) (decision : Decision) (n : ℕ)
    → ((part : ℕ) → part_of config named.0 named.1.index ≡ Some part → part < n) → ProduceDecides config version transactional acks named decision → IsFair n decision
produce_fair version config (Some id) acks named decision n within d = fair_refusal n decision (pos 42) d
produce_fair version config None acks named decision n within d = part_fair version (λ part. needed_insync acks (min_insync_at config.topics part)) (part_of config named.0 named.1.index) (is_acks acks) n (unwrap_or named.1.records []) decision within d

all_zip_fair : (version : ℤ) (config : Configuration) (transactional : Option (List ℕ)) (acks : ℤ) (named : List (List ℕ × ProducePart)) (decisions : List Decision) (n : ℕ)
    → ((name : List ℕ) (index : ℤ) (part : ℕ) → part_of config name index ≡ Some part → part < n) → AllZip (ProduceDecides config version transactional acks) named decisions → AllByRecursion (IsFair n) decisions
all_zip_fair version config transactional acks [] [] n within d = tt
all_zip_fair version config transactional acks [] (x ∷ decisions) n within d = absurd d
all_zip_fair version config transactional acks (a ∷ named) [] n within d = absurd d
all_zip_fair version config transactional acks (a ∷ named) (x ∷ decisions) n within d =
    (produce_fair version config transactional acks a x n (within a.0 a.1.index) d.0, all_zip_fair version config transactional acks named decisions n within d.1)

all_fetch_fair : (config : Configuration) (replica : ℤ) (named : List (List ℕ × FetchPart)) (n : ℕ) → ((name : List ℕ) (index : ℤ) (part : ℕ) → part_of config name index ≡ Some part → part < n)
    → AllByRecursion (IsFair n) (map (λ a. fetch_decision config replica a (part_of config a.0 a.1.index)) named)
all_fetch_fair config replica [] n within = tt
all_fetch_fair config replica (a ∷ named) n within = (fetch_fair config replica a (part_of config a.0 a.1.index) n (within a.0 a.1.index), all_fetch_fair config replica named n within)

-- what is decided of a request is fair where there is a history for each partition
pub decides_fair : (config : Configuration) (ask : Ask) (decisions : List Decision) → Decides config ask decisions → AllByRecursion (IsFair (partitions_of config.topics)) decisions
decides_fair config (Produce version transactional acks timeout topics) decisions d =
    all_zip_fair version config transactional acks (produce_parts topics) decisions (partitions_of config.topics) (λ name index part e. omega (arith, part_within 0 config.topics name index part e)) d
decides_fair config (Fetch version replica max_wait min_bytes max_bytes isolation topics) decisions d =
    subst (AllByRecursion (IsFair (partitions_of config.topics))) (sym d)
    (all_fetch_fair config replica (fetch_parts topics) (partitions_of config.topics) (λ name index part e. omega (arith, part_within 0 config.topics name index part e)))
decides_fair config (Metadata topics) decisions d = subst (AllByRecursion (IsFair (partitions_of config.topics))) (sym d) tt
decides_fair config (Versions version) decisions d = subst (AllByRecursion (IsFair (partitions_of config.topics))) (sym d) tt

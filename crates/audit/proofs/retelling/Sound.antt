-- What is decided of a request asks a log only for what can be played again: a batch that there is room for, a follower's fetch
-- in range, or a look.
use Rattle.std.proofs.Common.{◌≡◌, ℕ, ◌+◌, ◌≤◌, ℤ, pos, negsuc, Bool, true, false, cond, ◌&&◌, List, [], ◌∷◌, length, map, Option, Some, None, MatchBool, inl, inr, refl, sym, subst}
use Rattle.std.specs.Prelude.{⊤, MatchOption, unwrap_or, slice_index, nat_lt, nat_le}
use Rattle.std.specs.List.{AllByRecursion, AllZip}
use Rattle.std.proofs.lemmas.Bool.{cases_lt, lt-ltb, le-ltb, ltb-true, leb-true}
use Rattle.kbatch.specs.declared.record.Record.{Record}
use Rattle.kbatch.specs.Batch.{IsBatch}
use Rattle.partlog.specs.Follower.{IsFollower}
use Rattle.partlog.specs.State.{PartState as State}
use Rattle.partlog.specs.Gauges.{gauges_of}
use Rattle.partlog.specs.Start.{start_of}
use Rattle.kwire.specs.Configuration.{Configuration, followers_of, part_of}
use Rattle.kwire.specs.declared.request.Ask.{Ask}
use Rattle.kwire.specs.declared.request.Ask.TheVariants.{Produce, Fetch, Metadata, Versions}
use Rattle.kwire.specs.declared.request.FetchPart.{FetchPart}
use Rattle.kwire.specs.declared.request.ProducePart.{ProducePart}
use Rattle.kanswer.specs.declared.accepted.Accepted.{Accepted}
use Rattle.kanswer.specs.declared.accepted.Accepted.TheVariants.{Refused, Appended, Seen}
use Rattle.kanswer.specs.Decisions.{Entry, Put, Followed, Looked, Outcome, Decision, Refuse, AskLog, BatchDecides, Decides, ProduceDecides, append_outcome, full_code, fetch_decision, fetch_outcome, fetch_parts, in_range_outcome, is_acks, least_insync, look, offset_of, produce_parts}

abbrev pub IsSoundEntry : ℕ → Entry → State → Type 0
IsSoundEntry followers (Put count batch) state =
    (records : List Record) × IsBatch batch records × (count ≡ length records) × ((gauges_of state).bytes + length batch ≤ 67108864)
IsSoundEntry followers (Followed replica offset) state = IsFollower replica followers × (offset ≤ state.log_end)
IsSoundEntry followers Looked state = ⊤

-- what became of a partition names that partition
abbrev pub IsOwn : ℕ → Accepted → Type 0
IsOwn part (Refused code) = ⊤
IsOwn part (Appended number base count) = number ≡ part
IsOwn part (Seen number start) = number ≡ part

pub record IsSoundOutcome (followers part : ℕ) (outcome : Outcome) (state : State) : Type 0 where
  pub entry : IsSoundEntry followers outcome.entry state
  pub own : IsOwn part outcome.result

abbrev pub IsSound : Configuration → Decision → Type 0
IsSound config (Refuse code) = ⊤
IsSound config (AskLog part outcome) = (state : State) → IsSoundOutcome (slice_index (followers_of config.topics) part) part (outcome state) state

looks_sound : (followers part : ℕ) (code : ℤ) (state : State) → IsSoundOutcome followers part (look (Refused code)) state
looks_sound followers part code state = record { entry = tt; own = tt }

-- ---- produces

abbrev if_full : ℤ → Bool → ℕ → List ℕ → ℕ → State → Outcome
if_full version full part bytes count state = cond full (look (Refused (full_code version))) (record { result = Appended part state.log_end count; entry = Put count bytes })

-- too few replicas are in sync, or enough
few_or_sound : (followers part : ℕ) (outcome : Outcome) (state : State) (few : Bool) → IsSoundOutcome followers part outcome state → IsSoundOutcome followers part (cond few (look (Refused (pos 19))) outcome) state
few_or_sound followers part outcome state true sound = looks_sound followers part (pos 19) state
few_or_sound followers part outcome state false sound = sound

room_sound : (version : ℤ) (followers part : ℕ) (bytes : List ℕ) (records : List Record) → IsBatch bytes records → (state : State)
    → IsSoundOutcome followers part (if_full version (nat_lt 67108864 ((gauges_of state).bytes + length bytes)) part bytes (length records) state) state
room_sound version followers part bytes records is state =
    let Sound : Bool → Type 0 = λ full. IsSoundOutcome followers part (if_full version full part bytes (length records) state) state in
    elim (cases_lt 67108864 ((gauges_of state).bytes + length bytes)) [
      | inl full ↦ subst Sound (sym (lt-ltb 67108864 ((gauges_of state).bytes + length bytes) full)) (looks_sound followers part (full_code version) state)
      | inr room ↦ subst Sound (sym (le-ltb 67108864 ((gauges_of state).bytes + length bytes) room)) (record { entry = (records, is, refl, room); own = refl })
    ]

append_sound : (version : ℤ) (least followers part : ℕ) (bytes : List ℕ) (records : List Record) → IsBatch bytes records → (state : State)
    → IsSoundOutcome followers part (append_outcome version least part (length records) bytes state) state
append_sound version least followers part bytes records is state =
    few_or_sound followers part (if_full version (nat_lt 67108864 ((gauges_of state).bytes + length bytes)) part bytes (length records) state) state (nat_lt state.insync least)
    (room_sound version followers part bytes records is state)

batch_sound : (version : ℤ) (config : Configuration) (least part : ℕ) (bytes : List ℕ) (d : Decision) → BatchDecides version least part bytes d → IsSound config d
batch_sound version config least part bytes d (inl f) = subst (IsSound config) (sym f.2) tt
batch_sound version config least part bytes d (inr b) = subst (IsSound config) (sym b.2) (append_sound version least (slice_index (followers_of config.topics) part) part bytes b.0 b.1)

acks_sound : (version : ℤ) (config : Configuration) (known : Bool) (least part : ℕ) (bytes : List ℕ) (d : Decision) → MatchBool known (BatchDecides version least part bytes d) (d ≡ Refuse (pos 21)) → IsSound config d
acks_sound version config true least part bytes d h = batch_sound version config least part bytes d h
acks_sound version config false least part bytes d h = subst (IsSound config) (sym h) tt

part_sound : (version : ℤ) (config : Configuration) (o : Option ℕ) (known : Bool) (least : ℕ → ℕ) (bytes : List ℕ) (d : Decision)
    → MatchOption o (d ≡ Refuse (pos 3)) (λ part. MatchBool known (BatchDecides version (least part) part bytes d) (d ≡ Refuse (pos 21))) → IsSound config d
part_sound version config None known least bytes d h = subst (IsSound config) (sym h) tt
part_sound version config (Some part) known least bytes d h = acks_sound version config known (least part) part bytes d h

produce_sound : (version : ℤ) (config : Configuration) (id : Option (List ℕ)) (acks : ℤ) (named : List ℕ × ProducePart) (d : Decision) → ProduceDecides config version id acks named d → IsSound config d
produce_sound version config (Some id) acks named d h = subst (IsSound config) (sym h) tt
produce_sound version config None acks named d h = part_sound version config (part_of config named.0 named.1.index) (is_acks acks) (least_insync config acks) (unwrap_or named.1.records []) d h

all_produced : (version : ℤ) (config : Configuration) (id : Option (List ℕ)) (acks : ℤ) (named : List (List ℕ × ProducePart)) (ds : List Decision) → AllZip (ProduceDecides config version id acks) named ds → AllByRecursion (IsSound config) ds
all_produced version config id acks named [] h = tt
all_produced version config id acks [] (d ∷ ds) h = absurd h
all_produced version config id acks (n ∷ named) (d ∷ ds) h = (produce_sound version config id acks n d h.0, all_produced version config id acks named ds h.1)

-- ---- fetches

range_sound : (followers part : ℕ) (offset : ℤ) (entry : Entry) (state : State) → (offset_of offset ≤ state.log_end → IsSoundEntry followers entry state) → IsSoundOutcome followers part (in_range_outcome part offset entry state) state
range_sound followers part (negsuc n) entry state sound = looks_sound followers part (pos 1) state
range_sound followers part (pos n) entry state sound =
    let Sound : Bool → Type 0 = λ above. IsSoundOutcome followers part (cond above (look (Refused (pos 1))) (record { result = Seen part (start_of n state); entry = entry })) state in
    elim (cases_lt state.log_end n) [
      | inl above ↦ subst Sound (sym (lt-ltb state.log_end n above)) (looks_sound followers part (pos 1) state)
      | inr within ↦ subst Sound (sym (le-ltb state.log_end n within)) (record { entry = sound within; own = refl })
    ]

both_true : (a b : Bool) → (a && b) ≡ true → (a ≡ true) × (b ≡ true)
both_true true true e = (refl, refl)
both_true true false e = absurd cc
both_true false b e = absurd cc

follower_sound : (followers replica : ℕ) (asked : FetchPart) (part : ℕ) (state : State) (b : Bool) → (nat_lt 0 replica && nat_le replica followers) ≡ b
    → IsSoundOutcome followers part (cond b (in_range_outcome part asked.offset (Followed (pos replica) (offset_of asked.offset)) state) (look (Refused (pos 9)))) state
follower_sound followers replica asked part state true is =
    let both = both_true (nat_lt 0 replica) (nat_le replica followers) is in
    range_sound followers part asked.offset (Followed (pos replica) (offset_of asked.offset)) state (λ within. ((ltb-true 0 replica both.0, leb-true replica followers both.1), within))
follower_sound followers replica asked part state false is = looks_sound followers part (pos 9) state

fetched_sound : (followers : ℕ) (replica : ℤ) (asked : FetchPart) (part : ℕ) (state : State) → IsSoundOutcome followers part (fetch_outcome followers replica asked part state) state
fetched_sound followers (negsuc n) asked part state = range_sound followers part asked.offset Looked state (λ within. tt)
fetched_sound followers (pos replica) asked part state = follower_sound followers replica asked part state (nat_lt 0 replica && nat_le replica followers) refl

fetch_sound : (config : Configuration) (replica : ℤ) (named : List ℕ × FetchPart) (o : Option ℕ) → IsSound config (fetch_decision config replica named o)
fetch_sound config replica named None = tt
fetch_sound config replica named (Some part) = λ state. fetched_sound (slice_index (followers_of config.topics) part) replica named.1 part state

all_fetched : (config : Configuration) (replica : ℤ) (named : List (List ℕ × FetchPart)) → AllByRecursion (IsSound config) (map (λ n. fetch_decision config replica n (part_of config n.0 n.1.index)) named)
all_fetched config replica [] = tt
all_fetched config replica (n ∷ named) = (fetch_sound config replica n (part_of config n.0 n.1.index), all_fetched config replica named)

pub decided_soundly : (config : Configuration) (ask : Ask) (decisions : List Decision) → Decides config ask decisions → AllByRecursion (IsSound config) decisions
decided_soundly config (Produce version id acks timeout topics) ds h = all_produced version config id acks (produce_parts topics) ds h
decided_soundly config (Fetch version replica max_wait min_bytes max_bytes isolation topics) ds h =
    subst (AllByRecursion (IsSound config)) (sym h) (all_fetched config replica (fetch_parts topics))
decided_soundly config (Metadata topics) ds h = subst (AllByRecursion (IsSound config)) (sym h) tt
decided_soundly config (Versions version) ds h = subst (AllByRecursion (IsSound config)) (sym h) tt

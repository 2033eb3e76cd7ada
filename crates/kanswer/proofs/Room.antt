-- A batch is put at the end of a log only where there is room for it, and it has fewer records than bytes.
use Rattle.std.proofs.Common.{◌≡◌, ℕ, suc, ℤ, pos, negsuc, ◌+◌, ◌<◌, ◌≤◌, Bool, true, false, cond, ◌&&◌, List, [], ◌∷◌, length, map, Option, Some, None, MatchBool, inl, inr, sym, ap, subst, arith, length-append, nat_le, nat_lt}
use Rattle.std.specs.Prelude.{⊤, MatchOption, unwrap_or, slice_index}
use Rattle.std.specs.List.{AllByRecursion, AllZip}
use Rattle.std.proofs.lemmas.Bool.{cases_lt, lt-ltb, le-ltb}
use Rattle.kbatch.specs.declared.record.Record.{Record}
use Rattle.kbatch.specs.Batch.{IsBatch}
use Rattle.kbatch.specs.Head.{head_bytes}
use Rattle.kbatch.specs.Record.{body_bytes, record_bytes, records_from}
use Rattle.kbatch.specs.Stamp.{stamped}
use Rattle.kbytes.specs.Field.{field, Varint}
use Rattle.partlog.specs.State.{PartState as State}
use Rattle.partlog.specs.Gauges.{gauges_of}
use Rattle.partlog.specs.Start.{start_of}
use Rattle.kwire.specs.Configuration.{Configuration, followers_of, part_of}
use Rattle.kwire.specs.declared.request.Ask.{Ask}
use Rattle.kwire.specs.declared.request.Ask.TheVariants.{Produce, Fetch, Metadata, Versions}
use Rattle.kwire.specs.declared.request.FetchPart.{FetchPart}
use Rattle.kwire.specs.declared.request.ProducePart.{ProducePart}
use Rattle.kanswer.specs.declared.accepted.Accepted.TheVariants.{Refused, Appended, Seen}
use Rattle.kanswer.specs.Decisions.{Entry, Put, Followed, Looked, Outcome, Decision, Refuse, AskLog, BatchDecides, Decides, ProduceDecides, append_outcome, full_code, fetch_decision, fetch_outcome, fetch_parts, in_range_outcome, is_acks, least_insync, look, offset_of, produce_parts}
use Rattle.kanswer.proofs.Stamped.{batch_sized}

-- ---- fewer records than bytes

record_some : (delta : ℕ) (r : Record) → 0 < length (record_bytes delta r)
unfolding body_bytes
record_some delta r = omega (arith, length-append (field (Varint (pos (length (body_bytes delta r))))) (body_bytes delta r))

records_long : (delta : ℕ) (rs : List Record) → length rs ≤ length (records_from delta rs)
records_long delta [] = omega arith
records_long delta (r ∷ rs) = omega (arith, length-append (record_bytes delta r) (records_from (suc delta) rs), record_some delta r, records_long (suc delta) rs)

batch_dense : (bytes : List ℕ) (records : List Record) → IsBatch bytes records → length records < length bytes
unfolding head_bytes
batch_dense bytes records is =
    omega (arith, ap length is.parts, length-append (head_bytes is.head) (records_from 0 records), records_long 0 records)

-- ---- each decision

abbrev pub HasRoom : Entry → State → Type 0
HasRoom (Put count batch) state =
    (count < length batch) × ((gauges_of state).bytes + length batch ≤ 67108864) × ((base : ℕ) → length (stamped base batch) ≡ length batch)
HasRoom (Followed replica offset) state = ⊤
HasRoom Looked state = ⊤

abbrev pub PutsWithRoom : Decision → Type 0
PutsWithRoom (Refuse code) = ⊤
PutsWithRoom (AskLog part outcome) = (state : State) → HasRoom (outcome state).entry state

abbrev if_full : ℤ → Bool → ℕ → List ℕ → ℕ → State → Outcome
if_full version full part bytes count state = cond full (look (Refused (full_code version))) (record { result = Appended part state.log_end count; entry = Put count bytes })

appends_with_room : (version : ℤ) (least part : ℕ) (bytes : List ℕ) (records : List Record) → IsBatch bytes records → (state : State) → HasRoom (append_outcome version least part (length records) bytes state).entry state
appends_with_room version least part bytes records is state =
    let Roomy : Bool → Type 0 = λ full. HasRoom (if_full version full part bytes (length records) state).entry state in
    let enough : Roomy (nat_lt 67108864 ((gauges_of state).bytes + length bytes)) =
    elim (cases_lt 67108864 ((gauges_of state).bytes + length bytes)) [
      | inl full ↦ subst Roomy (sym (lt-ltb 67108864 ((gauges_of state).bytes + length bytes) full)) tt
      | inr room ↦ subst Roomy (sym (le-ltb 67108864 ((gauges_of state).bytes + length bytes) room)) (batch_dense bytes records is, room, batch_sized bytes records is)
    ]
    in
    let full = nat_lt 67108864 ((gauges_of state).bytes + length bytes) in
    elim (nat_lt state.insync least) as (λ few. HasRoom (cond few (look (Refused (pos 19))) (if_full version full part bytes (length records) state)).entry state) [ true ↦ tt | false ↦ enough ]

batch_room : (version : ℤ) (least part : ℕ) (bytes : List ℕ) (d : Decision) → BatchDecides version least part bytes d → PutsWithRoom d
batch_room version least part bytes d (inl f) = subst PutsWithRoom (sym f.2) tt
batch_room version least part bytes d (inr b) = subst PutsWithRoom (sym b.2) (appends_with_room version least part bytes b.0 b.1)

acks_room : (version : ℤ) (known : Bool) (least part : ℕ) (bytes : List ℕ) (d : Decision) → MatchBool known (BatchDecides version least part bytes d) (d ≡ Refuse (pos 21)) → PutsWithRoom d
acks_room version true least part bytes d h = batch_room version least part bytes d h
acks_room version false least part bytes d h = subst PutsWithRoom (sym h) tt

part_room : (version : ℤ) (least : ℕ → ℕ) (o : Option ℕ) (known : Bool) (bytes : List ℕ) (d : Decision) → MatchOption o (d ≡ Refuse (pos 3)) (λ part. MatchBool known (BatchDecides version (least part) part bytes d) (d ≡ Refuse (pos 21))) → PutsWithRoom d
part_room version least None known bytes d h = subst PutsWithRoom (sym h) tt
part_room version least (Some part) known bytes d h = acks_room version known (least part) part bytes d h

produce_room : (version : ℤ) (config : Configuration) (id : Option (List ℕ)) (acks : ℤ) (named : List ℕ × ProducePart) (d : Decision) → ProduceDecides config version id acks named d → PutsWithRoom d
produce_room version config (Some id) acks named d h = subst PutsWithRoom (sym h) tt
produce_room version config None acks named d h = part_room version (least_insync config acks) (part_of config named.0 named.1.index) (is_acks acks) (unwrap_or named.1.records []) d h

all_produced : (version : ℤ) (config : Configuration) (id : Option (List ℕ)) (acks : ℤ) (named : List (List ℕ × ProducePart)) (ds : List Decision) → AllZip (ProduceDecides config version id acks) named ds → AllByRecursion PutsWithRoom ds
all_produced version config id acks named [] h = tt
all_produced version config id acks [] (d ∷ ds) h = absurd h
all_produced version config id acks (n ∷ named) (d ∷ ds) h = (produce_room version config id acks n d h.0, all_produced version config id acks named ds h.1)

-- a fetch puts nothing
range_room : (part : ℕ) (offset : ℤ) (entry : Entry) (state : State) → ((s : State) → HasRoom entry s) → HasRoom (in_range_outcome part offset entry state).entry state
range_room part (negsuc n) entry state none = tt
range_room part (pos n) entry state none =
    elim (nat_lt state.log_end n) as (λ b. HasRoom (cond b (look (Refused (pos 1))) (record { result = Seen part (start_of n state); entry = entry })).entry state) [ true ↦ tt | false ↦ none state ]

fetched_room : (followers : ℕ) (replica : ℤ) (asked : FetchPart) (part : ℕ) (state : State) → HasRoom (fetch_outcome followers replica asked part state).entry state
fetched_room followers (negsuc n) asked part state = range_room part asked.offset Looked state (λ s. tt)
fetched_room followers (pos replica) asked part state =
    elim (nat_lt 0 replica && nat_le replica followers) as (λ b. HasRoom (cond b (in_range_outcome part asked.offset (Followed (pos replica) (offset_of asked.offset)) state) (look (Refused (pos 9)))).entry state) [
      | true ↦ range_room part asked.offset (Followed (pos replica) (offset_of asked.offset)) state (λ s. tt)
      | false ↦ tt
    ]

fetch_room : (config : Configuration) (replica : ℤ) (named : List ℕ × FetchPart) (o : Option ℕ) → PutsWithRoom (fetch_decision config replica named o)
fetch_room config replica named None = tt
fetch_room config replica named (Some part) = λ state. fetched_room (slice_index (followers_of config.topics) part) replica named.1 part state

all_fetched : (config : Configuration) (replica : ℤ) (named : List (List ℕ × FetchPart)) → AllByRecursion PutsWithRoom (map (λ n. fetch_decision config replica n (part_of config n.0 n.1.index)) named)
all_fetched config replica [] = tt
all_fetched config replica (n ∷ named) = (fetch_room config replica n (part_of config n.0 n.1.index), all_fetched config replica named)

pub decided_with_room : (config : Configuration) (ask : Ask) (decisions : List Decision) → Decides config ask decisions → AllByRecursion PutsWithRoom decisions
decided_with_room config (Produce version id acks timeout topics) ds h = all_produced version config id acks (produce_parts topics) ds h
decided_with_room config (Fetch version replica max_wait min_bytes max_bytes isolation topics) ds h =
    subst (AllByRecursion PutsWithRoom) (sym h) (all_fetched config replica (fetch_parts topics))
decided_with_room config (Metadata topics) ds h = subst (AllByRecursion PutsWithRoom) (sym h) tt
decided_with_room config (Versions version) ds h = subst (AllByRecursion PutsWithRoom) (sym h) tt

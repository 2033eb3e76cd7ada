-- What is decided of a request is honest: each outcome speaks of its own partition, and of an append at the log end.
use Rattle.std.proofs.Common.{◌≡◌, ℕ, ◌+◌, ◌<◌, ℤ, pos, negsuc, Bool, true, false, cond, List, [], ◌∷◌, length, get_or, map, Option, Some, None, unwrap_or, refl, sym, subst, arith, inl, inr}
use Rattle.std.specs.Prelude.{MatchOption, MatchBool, nat_lt, nat_le, ◌&&◌}
use Rattle.std.specs.List.{AllByRecursion, AllZip}
use Rattle.partlog.specs.State.{PartState}
use Rattle.partlog.specs.Gauges.{gauges_of}
use Rattle.partlog.specs.Start.{start_of}
use Rattle.kanswer.specs.declared.accepted.Accepted.{Accepted}
use Rattle.kanswer.specs.declared.accepted.Accepted.TheVariants.{Refused, Appended, Seen}
use Rattle.kwire.specs.declared.request.Ask.{Ask}
use Rattle.kwire.specs.declared.request.Ask.TheVariants.{Produce, Fetch, Metadata, Versions}
use Rattle.kwire.specs.declared.request.FetchPart.{FetchPart}
use Rattle.kwire.specs.declared.request.ProducePart.{ProducePart}
use Rattle.kwire.specs.Configuration.{Configuration, followers_of, part_of}
use Rattle.kanswer.specs.Decisions.{Entry, Put, Looked, Followed, Outcome, Decision, Refuse, Decides, BatchDecides, ProduceDecides, fetch_decision, fetch_outcome, in_range_outcome, offset_of, look, full_code, is_acks, least_insync, produce_parts, fetch_parts}
use Rattle.kanswer.specs.Deciding.{IsHonestAs, IsHonest, IsSound}

pub sound : (part n : ℕ) (state : PartState) (result : Accepted) (entry : Entry) → part < n → IsHonestAs part state result entry → IsSound n result
sound part n state (Refused code) entry lt honest = tt
sound part n state (Appended q base count) entry lt honest = (omega (arith, honest.0, lt), honest.2)
sound part n state (Seen q start) entry lt honest = omega (arith, honest, lt)

-- ---- what is decided of a request is honest

either_honest : (part : ℕ) (state : PartState) (b : Bool) (x y : Outcome) → IsHonestAs part state x.result x.entry → IsHonestAs part state y.result y.entry → IsHonestAs part state (cond b x y).result (cond b x y).entry
either_honest part state true x y a c = a
either_honest part state false x y a c = c

batch_honest : (version : ℤ) (least part : ℕ) (bytes : List ℕ) (decision : Decision) → BatchDecides version least part bytes decision → IsHonest decision
batch_honest version least part bytes decision d =
    elim d [
      | inl fault ↦ subst IsHonest (sym fault.2) tt
      | inr batch ↦ subst IsHonest (sym batch.2) (λ state.
          let full = nat_lt 67108864 ((gauges_of state).bytes + length bytes) in
          let put : Outcome = record { result = Appended part state.log_end (length batch.0); entry = Put (length batch.0) bytes } in
          either_honest part state (nat_lt state.insync least) (look (Refused (pos 19))) (cond full (look (Refused (full_code version))) put) tt
          (either_honest part state full (look (Refused (full_code version))) put tt (refl, refl, omega (arith, batch.1.some_record))))
    ]

acks_honest : (version : ℤ) (b : Bool) (least part : ℕ) (bytes : List ℕ) (decision : Decision) → MatchBool b (BatchDecides version least part bytes decision) (decision ≡ Refuse (pos 21)) → IsHonest decision
acks_honest version true least part bytes decision d = batch_honest version least part bytes decision d
acks_honest version false least part bytes decision d = subst IsHonest (sym d) tt

part_honest : (version : ℤ) (least : ℕ → ℕ) (o : Option ℕ) (b : Bool) (bytes : List ℕ) (decision : Decision) → MatchOption o (decision ≡ Refuse (pos 3)) (λ part. MatchBool b (BatchDecides version (least part) part bytes decision) (decision ≡ Refuse (pos 21))) → IsHonest decision
part_honest version least None b bytes decision d = subst IsHonest (sym d) tt
part_honest version least (Some part) b bytes decision d = acks_honest version b (least part) part bytes decision d

produce_honest : (version : ℤ) (config : Configuration) (id : Option (List ℕ)) (acks : ℤ) (named : List ℕ × ProducePart) (decision : Decision) → ProduceDecides config version id acks named decision → IsHonest decision
produce_honest version config (Some id) acks named decision d = subst IsHonest (sym d) tt
produce_honest version config None acks named decision d = part_honest version (least_insync config acks) (part_of config named.0 named.1.index) (is_acks acks) (unwrap_or named.1.records []) decision d

produces_honest : (version : ℤ) (config : Configuration) (id : Option (List ℕ)) (acks : ℤ) (named : List (List ℕ × ProducePart)) (decisions : List Decision) → AllZip (ProduceDecides config version id acks) named decisions → AllByRecursion IsHonest decisions
produces_honest version config id acks [] [] d = tt
produces_honest version config id acks [] (x ∷ decisions) d = absurd d
produces_honest version config id acks (a ∷ named) [] d = absurd d
produces_honest version config id acks (a ∷ named) (x ∷ decisions) d = (produce_honest version config id acks a x d.0, produces_honest version config id acks named decisions d.1)

range_honest : (part : ℕ) (offset : ℤ) (entry : Entry) (state : PartState) → IsHonestAs part state (in_range_outcome part offset entry state).result (in_range_outcome part offset entry state).entry
range_honest part (negsuc n) entry state = tt
range_honest part (pos offset) entry state = either_honest part state (nat_lt state.log_end offset) (look (Refused (pos 1))) (record { result = Seen part (start_of offset state); entry = entry }) tt refl

fetch_honest : (followers : ℕ) (replica : ℤ) (asked : FetchPart) (part : ℕ) (state : PartState) → IsHonestAs part state (fetch_outcome followers replica asked part state).result (fetch_outcome followers replica asked part state).entry
fetch_honest followers (negsuc n) asked part state = range_honest part asked.offset Looked state
fetch_honest followers (pos r) asked part state =
    either_honest part state (nat_lt 0 r && nat_le r followers) (in_range_outcome part asked.offset (Followed (pos r) (offset_of asked.offset)) state) (look (Refused (pos 9)))
    (range_honest part asked.offset (Followed (pos r) (offset_of asked.offset)) state) tt

decision_honest : (config : Configuration) (replica : ℤ) (named : List ℕ × FetchPart) (o : Option ℕ) → IsHonest (fetch_decision config replica named o)
decision_honest config replica named None = tt
decision_honest config replica named (Some part) = λ state. fetch_honest (get_or (followers_of config.topics) part 0) replica named.1 part state

fetches_honest : (config : Configuration) (replica : ℤ) (named : List (List ℕ × FetchPart)) → AllByRecursion IsHonest (map (λ a. fetch_decision config replica a (part_of config a.0 a.1.index)) named)
fetches_honest config replica [] = tt
fetches_honest config replica (a ∷ named) = (decision_honest config replica a (part_of config a.0 a.1.index), fetches_honest config replica named)

pub decides_honest : (config : Configuration) (ask : Ask) (decisions : List Decision) → Decides config ask decisions → AllByRecursion IsHonest decisions
decides_honest config (Produce version transactional acks timeout topics) decisions d = produces_honest version config transactional acks (produce_parts topics) decisions d
decides_honest config (Fetch version replica max_wait min_bytes max_bytes isolation topics) decisions d = subst (AllByRecursion IsHonest) (sym d) (fetches_honest config replica (fetch_parts topics))
decides_honest config (Metadata topics) decisions d = subst (AllByRecursion IsHonest) (sym d) tt
decides_honest config (Versions version) decisions d = subst (AllByRecursion IsHonest) (sym d) tt

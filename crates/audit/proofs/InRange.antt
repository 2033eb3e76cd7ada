-- What is decided of a request lets followers alone fetch, and from no offset above the log end.
use Rattle.std.proofs.Common.{◌≡◌, ℕ, ◌+◌, ◌<◌, ◌≤◌, ℤ, pos, negsuc, Bool, true, false, cond, ◌&&◌, List, [], ◌∷◌, length, map, Option, Some, None, MatchBool, inl, inr, refl, sym, subst, nat_le, nat_lt}
use Rattle.std.specs.Prelude.{⊤, MatchOption, unwrap_or, slice_index}
use Rattle.std.specs.List.{AllByRecursion, AllZip}
use Rattle.std.proofs.lemmas.Bool.{cases_lt, lt-ltb, le-ltb, ltb-true, leb-true}
use Rattle.partlog.specs.Follower.{IsFollower}
use Rattle.partlog.specs.Gauges.{gauges_of}
use Rattle.partlog.specs.Start.{start_of}
use Rattle.partlog.specs.State.{PartState}
use Rattle.kwire.specs.Configuration.{Configuration, followers_of, min_insync_at, part_of}
use Rattle.kwire.specs.declared.request.Ask.{Ask}
use Rattle.kwire.specs.declared.request.Ask.TheVariants.{Produce, Fetch, Metadata, Versions}
use Rattle.kwire.specs.declared.request.FetchPart.{FetchPart}
use Rattle.kwire.specs.declared.request.ProducePart.{ProducePart}
use Rattle.kanswer.specs.declared.accepted.Accepted.TheVariants.{Refused, Appended, Seen}
use Rattle.kanswer.specs.Decisions.{Entry, Put, Followed, Looked, Outcome, Decision, Refuse, AskLog, BatchDecides, Decides, ProduceDecides, append_outcome, fetch_decision, fetch_outcome, fetch_parts, full_code, in_range_outcome, is_acks, look, needed_insync, offset_of, produce_parts}
use Rattle.audit.proofs.EntryOfCall.{both_true}

-- a fetch that is entered is a follower's, from between 0 and the log end
abbrev pub IsFetch : ℕ → Entry → PartState → Type 0
IsFetch followers (Put count batch) state = ⊤
IsFetch followers (Followed replica offset) state = IsFollower replica followers × (offset ≤ state.log_end)
IsFetch followers Looked state = ⊤

abbrev pub FetchesInRange : Configuration → Decision → Type 0
FetchesInRange config (Refuse code) = ⊤
FetchesInRange config (AskLog part outcome) = (state : PartState) → IsFetch (slice_index (followers_of config.topics) part) (outcome state).entry state

either_fetch : (followers : ℕ) (state : PartState) (b : Bool) (x y : Outcome) → IsFetch followers x.entry state → IsFetch followers y.entry state → IsFetch followers (cond b x y).entry state
either_fetch followers state true x y p q = p
either_fetch followers state false x y p q = q

-- ---- a produce enters no fetch

append_fetches : (followers : ℕ) (version : ℤ) (least part count : ℕ) (batch : List ℕ) (state : PartState) → IsFetch followers (append_outcome version least part count batch state).entry state
append_fetches followers version least part count batch state =
    let full = look (Refused (full_code version)) in
    let put : Outcome = record { result = Appended part state.log_end count; entry = Put count batch } in
    let too_long = nat_lt 67108864 ((gauges_of state).bytes + length batch) in
    either_fetch followers state (nat_lt state.insync least) (look (Refused (pos 19))) (cond too_long full put) tt (either_fetch followers state too_long full put tt tt)

module _ (config : Configuration) where
  batch_fetches : (version : ℤ) (least part : ℕ) (bytes : List ℕ) (d : Decision) → BatchDecides version least part bytes d → FetchesInRange config d
  batch_fetches version least part bytes d (inl fault) = subst (FetchesInRange config) (sym fault.2) tt
  batch_fetches version least part bytes d (inr batch) =
      subst (FetchesInRange config) (sym batch.2) (λ state. append_fetches (slice_index (followers_of config.topics) part) version least part (length batch.0) bytes state)

  acks_fetches : (version : ℤ) (known : Bool) (least part : ℕ) (bytes : List ℕ) (d : Decision) → MatchBool known (BatchDecides version least part bytes d) (d ≡ Refuse (pos 21)) → FetchesInRange config d
  acks_fetches version true least part bytes d h = batch_fetches version least part bytes d h
  acks_fetches version false least part bytes d h = subst (FetchesInRange config) (sym h) tt

  part_fetches : (version : ℤ) (least : ℕ → ℕ) (o : Option ℕ) (known : Bool) (bytes : List ℕ) (d : Decision)
      → MatchOption o (d ≡ Refuse (pos 3)) (λ part. MatchBool known (BatchDecides version (least part) part bytes d) (d ≡ Refuse (pos 21))) → FetchesInRange config d
  part_fetches version least None known bytes d h = subst (FetchesInRange config) (sym h) tt
  part_fetches version least (Some part) known bytes d h = acks_fetches version known (least part) part bytes d h

  produce_fetches : (version : ℤ) (id : Option (List ℕ)) (acks : ℤ) (named : List ℕ × ProducePart) (d : Decision) → ProduceDecides config version id acks named d → FetchesInRange config d
  produce_fetches version (Some id) acks named d h = subst (FetchesInRange config) (sym h) tt
  produce_fetches version None acks named d h =
      part_fetches version (λ part. needed_insync acks (min_insync_at config.topics part)) (part_of config named.0 named.1.index) (is_acks acks) (unwrap_or named.1.records []) d h

  all_produced : (version : ℤ) (id : Option (List ℕ)) (acks : ℤ) (named : List (List ℕ × ProducePart)) (ds : List Decision) → AllZip (ProduceDecides config version id acks) named ds → AllByRecursion (FetchesInRange config) ds
  all_produced version id acks named [] h = tt
  all_produced version id acks [] (d ∷ ds) h = absurd h
  all_produced version id acks (n ∷ named) (d ∷ ds) h = (produce_fetches version id acks n d h.0, all_produced version id acks named ds h.1)

  -- ---- a fetch

  looks_alone : (followers part : ℕ) (offset : ℤ) (state : PartState) → IsFetch followers (in_range_outcome part offset Looked state).entry state
  looks_alone followers part (negsuc n) state = tt
  looks_alone followers part (pos n) state = either_fetch followers state (nat_lt state.log_end n) (look (Refused (pos 1))) (record { result = Seen part (start_of n state); entry = Looked }) tt tt

  range_fetches : (followers part replica : ℕ) (offset : ℤ) (state : PartState) → IsFollower (pos replica) followers
      → IsFetch followers (in_range_outcome part offset (Followed (pos replica) (offset_of offset)) state).entry state
  range_fetches followers part replica (negsuc n) state is = tt
  range_fetches followers part replica (pos n) state is =
      let Fetches : Bool → Type 0 = λ out. IsFetch followers (cond out (look (Refused (pos 1))) (record { result = Seen part (start_of n state); entry = Followed (pos replica) n })).entry state in
      elim (cases_lt state.log_end n) [
        | inl out ↦ subst Fetches (sym (lt-ltb state.log_end n out)) tt
        | inr within ↦ subst Fetches (sym (le-ltb state.log_end n within)) (is, within)
      ]

  outcome_fetches : (followers : ℕ) (replica : ℤ) (asked : FetchPart) (part : ℕ) (state : PartState) → IsFetch followers (fetch_outcome followers replica asked part state).entry state
  outcome_fetches followers (negsuc n) asked part state = looks_alone followers part asked.offset state
  outcome_fetches followers (pos replica) asked part state = by_test (nat_lt 0 replica && nat_le replica followers) refl
    where
      by_test : (b : Bool) → (nat_lt 0 replica && nat_le replica followers) ≡ b
          → IsFetch followers (cond b (in_range_outcome part asked.offset (Followed (pos replica) (offset_of asked.offset)) state) (look (Refused (pos 9)))).entry state
      by_test true is =
          let both = both_true (nat_lt 0 replica) (nat_le replica followers) is in
          range_fetches followers part replica asked.offset state (ltb-true 0 replica both.0, leb-true replica followers both.1)
      by_test false is = tt

  decision_fetches : (replica : ℤ) (named : List ℕ × FetchPart) (o : Option ℕ) → FetchesInRange config (fetch_decision config replica named o)
  decision_fetches replica named None = tt
  decision_fetches replica named (Some part) = λ state. outcome_fetches (slice_index (followers_of config.topics) part) replica named.1 part state

  all_fetched : (replica : ℤ) (named : List (List ℕ × FetchPart)) → AllByRecursion (FetchesInRange config) (map (λ n. fetch_decision config replica n (part_of config n.0 n.1.index)) named)
  all_fetched replica [] = tt
  all_fetched replica (n ∷ named) = (decision_fetches replica n (part_of config n.0 n.1.index), all_fetched replica named)

  pub decided_in_range : (ask : Ask) (decisions : List Decision) → Decides config ask decisions → AllByRecursion (FetchesInRange config) decisions
  decided_in_range (Produce version id acks timeout topics) ds h = all_produced version id acks (produce_parts topics) ds h
  decided_in_range (Fetch version replica max_wait min_bytes max_bytes isolation topics) ds h =
      subst (AllByRecursion (FetchesInRange config)) (sym h) (all_fetched replica (fetch_parts topics))
  decided_in_range (Metadata topics) ds h = subst (AllByRecursion (FetchesInRange config)) (sym h) tt
  decided_in_range (Versions version) ds h = subst (AllByRecursion (FetchesInRange config)) (sym h) tt

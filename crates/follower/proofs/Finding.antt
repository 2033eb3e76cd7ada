-- What a lawful call found that asks for what follows a copy's end: the outcome of its one partition, and the state that its reply shows.
use Rattle.std.proofs.Common.{◌≡◌, ℕ, ◌+◌, ◌<◌, ◌≤◌, ℤ, pos, Bool, true, false, cond, ◌&&◌, List, [], ◌∷◌, ◌++◌, Option, Some, None, inl, inr, refl, sym, ap, subst, ◌∙◌}
use Rattle.std.specs.Prelude.{nat_le, nat_lt, slice_get}
use Rattle.std.specs.List.{AllZip}
use Rattle.std.proofs.lemmas.Bool.{cases_lt, le-ltb, lt-ltb}
use Rattle.audit.specs.declared.account.Account.{Account}
use Rattle.audit.specs.declared.account.Call.{Call}
use Rattle.audit.specs.declared.account.CallHow.{CallHow}
use Rattle.audit.specs.declared.account.CallHow.TheVariants.{Quiet, AtOnce, Satisfied, Expired, Parked, Cut}
use Rattle.audit.specs.declared.account.PartAccount.{PartAccount}
use Rattle.audit.specs.declared.account.Point.{Point}
use Rattle.audit.specs.Fits.{ShowsFor}
use Rattle.audit.specs.Histories.{at_in, at_point, before_in, before_point, history_of, no_state}
use Rattle.audit.specs.LawfulCall.{AreLooks, AreLooksAfterClock, Completes, IsAccepted, IsStep, Step, by_part, part_in, shown_as_completed, shown_at}
use Rattle.kanswer.specs.Decisions.{Decides, Decision, Followed, fetch_decision, fetch_outcome, in_range_outcome, look}
use Rattle.kanswer.specs.Waiting.{Shown}
use Rattle.kanswer.specs.declared.accepted.Accepted.{Accepted}
use Rattle.kanswer.specs.declared.accepted.Accepted.TheVariants.{Refused as RefusedWith, Seen}
use Rattle.kwire.specs.Configuration.{part_of}
use Rattle.kwire.specs.IsRequest.{IsRequest, IsWhole}
use Rattle.kwire.specs.declared.request.Request.{Request}
use Rattle.kwire.proofs.Laws.{same_request}
use Rattle.partlog.specs.Start.{start_of}
use Rattle.partlog.specs.State.{PartState, state_before}
use Rattle.follower.specs.Asking.{IsAskable, asked_body, request_of}
use Rattle.follower.specs.Copies.{Copy}
use Rattle.follower.specs.FromLawful.{MayBeRefused}
use Rattle.follower.specs.declared.fault.TakeFault.TheVariants.{Refused}
use Rattle.follower.proofs.Answers.{asked_part}
use Rattle.follower.proofs.Requests.{asked_whole}

module _ (account : Account) (copy : Copy) (correlation : ℤ) (m : ℕ) (is_id : copy.id ≡ pos m) (ask : IsAskable copy correlation) where
  abbrev pub decided : Option ℕ → Decision
  decided o = fetch_decision account.config copy.id (copy.topic, asked_part copy) o

  -- ---- its one step

  pub record HasStep (request : Request) (steps : List Step) : Type 0 where
    pub request_is : request ≡ request_of copy correlation
    pub step : Step
    pub steps_are : steps ≡ step ∷ []
    pub is : IsStep account (decided (part_of account.config copy.topic copy.index)) step

  one_step : (d : Decision) (steps : List Step) → AllZip (IsStep account) (d ∷ []) steps → (step : Step) × (steps ≡ step ∷ []) × IsStep account d step
  one_step d [] all = absurd all
  one_step d (s ∷ []) all = (s, refl, all.0)
  one_step d (s ∷ t ∷ steps) all = absurd all.1

  pub stepped : (call : Call) (a : IsAccepted account call) → call.frame ≡ asked_body copy correlation → HasStep a.request a.steps
  stepped call a frame =
      let asked : IsRequest call.frame (request_of copy correlation) = inl (subst (λ (body : List ℕ). IsWhole body (request_of copy correlation)) (sym frame) (asked_whole copy correlation ask)) in
      let same : a.request ≡ request_of copy correlation = same_request call.frame a.request (request_of copy correlation) a.accepted.asked asked in
      let d : Decision = decided (part_of account.config copy.topic copy.index) in
      let decisions : a.accepted.decisions ≡ d ∷ [] = subst (λ (r : Request). Decides account.config r.ask a.accepted.decisions) same a.accepted.decided in
      let one = one_step d a.steps (subst (λ (ds : List Decision). AllZip (IsStep account) ds a.steps) decisions a.accepted.each) in
      record { request_is = same; step = one.0; steps_are = one.1; is = one.2 }

  -- ---- its outcome

  -- it was refused, with the code of an offset out of range only beyond the log end, or is read from the copy's end on
  pub data Finds (n : ℕ) (state : PartState) (result : Accepted) : Type 0 where
    outside : (code : ℤ) → result ≡ RefusedWith code → MayBeRefused (Refused code) → (code ≡ pos 1 → state.log_end < copy.end) → Finds n state result
    inside : result ≡ Seen n (start_of copy.end state) → copy.end ≤ state.log_end → Finds n state result

  in_range : (n : ℕ) (state : PartState) → Finds n state (in_range_outcome n (pos copy.end) (Followed (pos m) copy.end) state).result
  in_range n state =
      let Fine : Bool → Type 0 = λ above. Finds n state (cond above (look (RefusedWith (pos 1))) (record { result = Seen n (start_of copy.end state); entry = Followed (pos m) copy.end })).result in
      elim (cases_lt state.log_end copy.end) [
        | inl above ↦ subst Fine (sym (lt-ltb state.log_end copy.end above)) (outside (pos 1) refl (inl refl) (λ one. above))
        | inr within ↦ subst Fine (sym (le-ltb state.log_end copy.end within)) (inside refl within)
      ]

  by_replica : (n : ℕ) (state : PartState) (b : Bool) → Finds n state (cond b (in_range_outcome n (pos copy.end) (Followed (pos m) copy.end) state) (look (RefusedWith (pos 9)))).result
  by_replica n state true = in_range n state
  by_replica n state false = outside (pos 9) refl (inr (inr refl)) (λ one. absurd cc)

  pub finds : (followers n : ℕ) (state : PartState) → Finds n state (fetch_outcome followers copy.id (asked_part copy) n state).result
  finds followers n state =
      subst (λ (id : ℤ). Finds n state (fetch_outcome followers id (asked_part copy) n state).result) (sym is_id) (by_replica n state (nat_lt 0 m && nat_le m followers))

  -- ---- the state that its reply shows

  -- it is that of no log, or as its own entry left it, or at a look of its last entries
  pub data IsFrom (n : ℕ) (step : Step) (finish : List Point) (state : PartState) : Type 0 where
    nothing : state ≡ no_state → IsFrom n step finish state
    accepted : state ≡ shown_at account step.point → IsFrom n step finish state
    looked : (q : Point) (before after : List Point) → finish ≡ before ++ q ∷ after → q.part ≡ n → state ≡ at_point account q → IsFrom n step finish state

  pub record HasShown (n : ℕ) (step : Step) (finish : List Point) (shown : List Shown) : Type 0 where
    pub state : PartState
    pub shown_is : shown ≡ record { result = step.result; state = state } ∷ []
    pub from : IsFrom n step finish state

  looks_own : (n : ℕ) (t : Step) (state : PartState) (q : Point) (qs : List Point) → Finds n state t.result → AreLooks account (t ∷ []) (q ∷ qs) → q.part ≡ n
  looks_own n t state q qs found looks = elim found [
    | outside code is may beyond ↦ absurd (subst (λ (r : Accepted). AreLooks account (record { result = r; point = t.point } ∷ []) (q ∷ qs)) is looks)
    | inside is within ↦ (subst (λ (r : Accepted). AreLooks account (record { result = r; point = t.point } ∷ []) (q ∷ qs)) is looks).0.0
  ]

  shown_by : (n : ℕ) (s t : Step) (state : PartState) (finish front points : List Point) → Finds n state t.result → finish ≡ front ++ points → AreLooks account (t ∷ []) points → HasShown n s finish (shown_as_completed account (s ∷ []) points)
  shown_by n s t state finish front [] found at looks = record { state = no_state; shown_is = refl; from = nothing refl }
  shown_by n s t state finish front (q ∷ qs) found at looks =
      let own : q.part ≡ n = looks_own n t state q qs found looks in
      let one : Shown = record { result = s.result; state = no_state } in
      let two : Shown = record { result = s.result; state = at_point account q } in
      elim (part_in s.result) as (λ o. HasShown n s finish (by_part o (one ∷ []) (two ∷ []))) [
        | None ↦ record { state = no_state; shown_is = refl; from = nothing refl }
        | Some k ↦ record { state = at_point account q; shown_is = refl; from = looked q front qs at own refl }
      ]

  pub shows : (n : ℕ) (how : CallHow) (s t : Step) (state : PartState) (request : Request) (looks finish : List Point) (shown : List Shown) → ShowsFor account (s ∷ []) finish how shown
      → Completes account request (t ∷ []) looks finish how → Finds n state t.result → HasShown n s finish shown
  shows n Quiet s t state request looks finish shown is done found = absurd is
  shows n AtOnce s t state request looks finish shown is done found = record { state = shown_at account s.point; shown_is = is; from = accepted refl }
  shows n (Satisfied by) s t state request looks finish shown is done found =
      subst (HasShown n s finish) (sym is) (shown_by n s t state finish [] finish found refl done.1)
  shows n (Expired by) s t state request looks finish shown is done found =
      let behind : AreLooksAfterClock account (t ∷ []) (is.0 ∷ is.1) = subst (AreLooksAfterClock account (t ∷ [])) is.2 done.1 in
      subst (HasShown n s finish) (sym is.3) (shown_by n s t state finish (is.0 ∷ []) is.1 found is.2 behind.1)
  shows n Parked s t state request looks finish shown is done found = absurd is
  shows n (Cut won) s t state request looks finish shown is done found = absurd is

  -- ---- the states of one partition

  pub before_at : (n : ℕ) (part : PartAccount) (p : Point) → slice_get account.parts n ≡ Some part → p.part ≡ n → before_point account p ≡ state_before (history_of part) p.place
  before_at n part p there own = ap (λ (i : ℕ). before_in (slice_get account.parts i) p.place) own ∙ ap (λ (o : Option PartAccount). before_in o p.place) there

  pub at_at : (n : ℕ) (part : PartAccount) (p : Point) → slice_get account.parts n ≡ Some part → p.part ≡ n → at_point account p ≡ state_before (history_of part) (p.place + 1)
  at_at n part p there own = ap (λ (i : ℕ). at_in (slice_get account.parts i) p.place) own ∙ ap (λ (o : Option PartAccount). at_in o p.place) there

-- A pass takes the turn of one partition's lock, amid a call.
use Rattle.std.proofs.Common.{◌≡◌, ℕ, zero, suc, ◌+◌, List, [], ◌∷◌, ◌++◌, length, set, Option, Some, None, unwrap_or, refl, sym, ap, subst}
use Rattle.std.proofs.lemmas.Option.{slice_get_within}
use Rattle.std.specs.Prelude.{slice_get}
use Rattle.partlog.specs.History.{History}
use Rattle.partlog.specs.Moment.{moment_of}
use Rattle.partlog.specs.State.{PartState as State, state_of}
use Rattle.audit.specs.declared.account.Point.{Point}
use Rattle.audit.specs.LawfulCall.{operation_parts}
use Rattle.kbytes.proofs.Laws.{get_set_same}
use Rattle.kanswer.specs.Decisions.{AskLog, Decision, Looked, Outcome}
use Rattle.kanswer.specs.Waiting.{values_of}
use Rattle.kwire.specs.declared.request.Request.{Request}
use Rattle.opcond.specs.Tally.{IsSatisfied}
use Rattle.audit.specs.broker.Board.{Waiting, empty_history, history_at}
use Rattle.kanswer.specs.WithEntry.{entered}
use Rattle.audit.specs.broker.Entering.{Noted}
use Rattle.audit.specs.broker.Sound.{AreHistories}
use Rattle.audit.specs.broker.books.Accepting.{IsAccepting}
use Rattle.audit.specs.broker.books.Finishing.{IsFinishing, shown_with}
use Rattle.audit.specs.broker.books.Owned.{OthersAlone}
use Rattle.audit.specs.broker.books.Turns.{Finds, accepted_there, looked_there, noted_there}
use Rattle.audit.specs.broker.books.Underway.{Underway, seq_of}
use Rattle.audit.proofs.broker.books.Acceptings.{accepting_on}
use Rattle.audit.proofs.broker.books.Coming.{part_came, part_histories}
use Rattle.audit.proofs.broker.books.Finishings.{finishing_on}
use Rattle.audit.proofs.broker.books.Passing.{others_amid_accepting, others_amid_finishing}

set_again : {X : Type 0} (xs : List X) (i : ℕ) (x y : X) → set (set xs i x) i y ≡ set xs i y
set_again [] i x y = refl
set_again (z ∷ xs) zero x y = refl
set_again {X = X} (z ∷ xs) (suc i) x y = ap (λ (zs : List X). z ∷ zs) (set_again xs i x y)

module _ (u : Underway) (part : ℕ) (found : History) (finds : Finds u part found) where
  -- as others left it
  abbrev behind : List History
  behind = set u.parts part found

  came : OthersAlone u.number u.parts u.clock behind u.clock
  came = part_came u.number u.parts u.clock part finds.seen found finds.there finds.longer finds.others

  histories : AreHistories u.config u.parts u.clock → AreHistories u.config behind u.clock
  histories h = part_histories u.config u.parts u.clock part finds.seen found finds.there finds.whole finds.longer.followers h

  found_there : history_at behind part ≡ found
  found_there = ap (λ (o : Option History). unwrap_or o (empty_history 0)) (get_set_same u.parts part found (slice_get_within u.parts part finds.seen finds.there))

  -- a decision is carried out, from the state that is found
  pub accepting_turn : (request : Request) (decisions : List Decision) (reached : ℕ) (noted : List Noted) (outcome : State → Outcome) → IsAccepting u request decisions reached noted
      → slice_get decisions reached ≡ Some (AskLog part outcome)
      → IsAccepting (accepted_there u part found (outcome (state_of found))) request decisions (reached + 1) (noted ++ noted_there u part found (outcome (state_of found)) ∷ [])
  accepting_turn request decisions reached noted outcome h next =
      let later : Underway = record u { parts = behind } in
      let on = accepting_on later request decisions reached noted (others_amid_accepting u request decisions reached noted behind u.clock came (histories h.underway.histories) h) (AskLog part outcome) next in
      let here =
      subst (λ (x : History). IsAccepting (accepted_there later part x (outcome (state_of x))) request decisions (reached + 1) (noted ++ noted_there later part x (outcome (state_of x)) ∷ [])) found_there on in
      subst (λ (parts : List History). IsAccepting (record (accepted_there u part found (outcome (state_of found))) { parts = parts }) request decisions (reached + 1) (noted ++ noted_there u part found (outcome (state_of found)) ∷ []))
      (set_again u.parts part found (entered found u.number (seq_of u) (moment_of u.clock) (outcome (state_of found)).entry)) here

  -- a look at the next partition, whose state is that which is found
  pub finishing_turn : (w : Waiting) (late : Option Point) (states : List State) → IsFinishing u w late states → slice_get (operation_parts w.steps) (length states) ≡ Some part
      → (late ≡ None → length (states ++ state_of found ∷ []) ≡ length (operation_parts w.steps) → IsSatisfied w.operation (values_of w.request.ask (shown_with w.steps (states ++ state_of found ∷ []))))
      → IsFinishing (looked_there u part found) w late (states ++ state_of found ∷ [])
  finishing_turn w late states h next enough =
      let later : Underway = record u { parts = behind } in
      let on = finishing_on later w late states (others_amid_finishing u w late states behind u.clock came (histories h.delayed.underway.histories) h) part next
      (subst (λ (x : History). late ≡ None → length (states ++ state_of x ∷ []) ≡ length (operation_parts w.steps) → IsSatisfied w.operation (values_of w.request.ask (shown_with w.steps (states ++ state_of x ∷ [])))) (sym found_there) enough) in
      let here = subst (λ (x : History). IsFinishing (looked_there later part x) w late (states ++ state_of x ∷ [])) found_there on in
      subst (λ (parts : List History). IsFinishing (record (looked_there u part found) { parts = parts }) w late (states ++ state_of found ∷ [])) (set_again u.parts part found (entered found u.number (seq_of u) (moment_of u.clock) Looked)) here

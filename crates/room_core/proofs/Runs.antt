-- Runs, an event at a time.
use Rattle.std.proofs.Common.{◌≡◌, inl, inr, List, [], ◌∷◌, ◌++◌, Bool, true, false, ap, refl, subst}
use Rattle.std.specs.Prelude.{◌↔◌, IsTrue}
use Rattle.std.specs.Bool.{OnFalse, OnTrue}
use Rattle.room_core.specs.declared.event.CoreEvent.{CoreEvent}
use Rattle.room_core.specs.declared.core_state.CoreState.{CoreState}
use Rattle.room_core.specs.Run.{IsRun, IsStep}
use Rattle.room_core.specs.State.{State}
use Rattle.room_core.specs.Step.{IsAllowed, changed}
use Rattle.room_core.specs.Tables.{state_of}

joined : (s : State) (xs ys : List CoreEvent) (mid last : State) → IsRun s xs mid → IsRun mid ys last → IsRun s (xs ++ ys) last
joined s [] ys mid last r t = subst (λ m. IsRun m ys last) r t
joined s (x ∷ xs) ys mid last r t = (r.0, r.1, joined r.0 xs ys mid last r.2 t)

one : (mid next : State) (x : CoreEvent) → IsStep mid x next → IsRun mid (x ∷ []) next
one mid next x s = (next, s, refl)

-- what a step's answer says of one event
alone : (mid next : State) (x : CoreEvent) (made : Bool) → (IsTrue made ↔ IsAllowed mid x) → OnTrue made (next ≡ changed mid x) → OnFalse made (next ≡ mid) → IsRun mid (x ∷ []) next
alone mid next x true allowed did _ = one mid next x (inl (allowed.0 refl, did))
alone mid next x false allowed _ kept = one mid next x (inr ((λ can. let e : false ≡ true = allowed.1 can in absurd (cc)), kept))

same_state : (made : Bool) (old new : CoreState) → OnFalse made (new ≡ old) → OnFalse made (state_of new ≡ state_of old)
same_state true old new _ = tt
same_state false old new n = ap state_of n

-- a run with one event more
pub run_more : (s : State) (xs : List CoreEvent) (old new : CoreState) (x : CoreEvent) (made : Bool) → IsRun s xs (state_of old) → (IsTrue made ↔ IsAllowed (state_of old) x) → OnTrue made (state_of new ≡ changed (state_of old) x) → OnFalse made (new ≡ old) → IsRun s (xs ++ x ∷ []) (state_of new)
run_more s xs old new x made r allowed did kept =
    joined s xs (x ∷ []) (state_of old) (state_of new) r (alone (state_of old) (state_of new) x made allowed did (same_state made old new kept))

-- The last call of the open transcript, to which a call is lent as an item of its list.
use Rattle.std.proofs.Common.{◌≡◌, ℕ, ◌+◌, ◌-◌, List, [], ◌∷◌, ◌++◌, Option, Some, None, length, get_or, set, take, drop, refl, sym, ap, ◌∙◌, arith}
use Rattle.std.proofs.lemmas.List.{length-append, length-set}
use Rattle.audit.specs.declared.account.Call.{Call}
use Rattle.audit.specs.declared.account.Transcript.{Transcript}
use Rattle.shared_broker.specs.Serving.{with_last}

get_after_all : (xs : List Call) (x d : Call) → get_or (xs ++ x ∷ []) (length xs) d ≡ x
get_after_all [] x d = refl
get_after_all (y ∷ xs) x d = get_after_all xs x d

set_after_all : (xs : List Call) (x y : Call) → set (xs ++ x ∷ []) (length xs) y ≡ xs ++ y ∷ []
set_after_all [] x y = refl
set_after_all (z ∷ xs) x y = ap (λ (rest : List Call). z ∷ rest) (set_after_all xs x y)

last_place : (xs : List Call) (x : Call) → length (xs ++ x ∷ []) - 1 ≡ length xs
last_place xs x = let e = length-append xs (x ∷ []) in omega (arith, e)

-- all items were written back
written : (xs ys : List Call) → length ys ≡ length xs → take (length xs) (ys ++ drop (length ys) xs) ≡ ys
written [] [] size = refl
written [] (y ∷ ys) size = absurd (omega (arith, size))
written (x ∷ xs) [] size = absurd (omega (arith, size))
written (x ∷ xs) (y ∷ ys) size = ap (λ (rest : List Call). y ∷ rest) (written xs ys (omega (arith, size)))

module _ (calls earlier : List Call) (call : Call) (is : calls ≡ earlier ++ call ∷ []) where
  pub last_size : length calls ≡ length earlier + 1
  last_size = ap (λ (cs : List Call). length cs) is ∙ length-append earlier (call ∷ [])

  -- it is the item at the end
  pub last_call : (d : Call) → get_or calls (length calls - 1) d ≡ call
  last_call d = ap (λ (cs : List Call). get_or cs (length cs - 1) d) is ∙ ap (λ (i : ℕ). get_or (earlier ++ call ∷ []) i d) (last_place earlier call) ∙ get_after_all earlier call d

  -- another stands in its place
  pub last_set : (after : Call) → set calls (length calls - 1) after ≡ earlier ++ after ∷ []
  last_set after = ap (λ (cs : List Call). set cs (length cs - 1) after) is ∙ ap (λ (i : ℕ). set (earlier ++ call ∷ []) i after) (last_place earlier call) ∙ set_after_all earlier call after

  -- in the list whose items these were
  pub last_written : (lent : List Call) → lent ≡ calls → (after : Call)
      → take (length calls) (set lent (length lent - 1) after ++ drop (length (set lent (length lent - 1) after)) calls) ≡ earlier ++ after ∷ []
  last_written lent same after =
      written calls (set lent (length lent - 1) after) (length-set lent (length lent - 1) after ∙ ap (λ (cs : List Call). length cs) same)
      ∙ ap (λ (cs : List Call). set cs (length cs - 1) after) same ∙ last_set after

-- ---- in the transcript

-- these are its calls, once the last of those that were lent was set
abbrev pub set_back : Transcript → List Call → Call → Transcript
set_back going lent after =
    record going { calls = take (length going.calls) (set lent (length lent - 1) after ++ drop (length (set lent (length lent - 1) after)) going.calls) }

abbrev the_one : Transcript → Option Transcript → Transcript
the_one d (Some t) = t
the_one d None = d

module _ (open_one : Option Transcript) (going : Transcript) (is : open_one ≡ Some going) (transcript : Transcript) (call : Call) (last : open_one ≡ Some (with_last transcript call)) where
  same_one : going ≡ with_last transcript call
  same_one = ap (the_one going) (sym is ∙ last)

  pub calls_are : going.calls ≡ transcript.calls ++ call ∷ []
  calls_are = ap (λ (t : Transcript). t.calls) same_one

  module _ (lent : List Call) (lent_is : lent ≡ going.calls) where
    -- the call that was lent is the last
    pub lent_last : (one : Call) → one ≡ get_or lent (length lent - 1) one → one ≡ call
    lent_last one at = at ∙ ap (λ (xs : List Call). get_or xs (length xs - 1) one) lent_is ∙ last_call going.calls transcript.calls call calls_are one

    pub set_last : (after : Call) → (let o : Option Transcript = Some (set_back going lent after) in o) ≡ Some (with_last transcript after)
    set_last after =
        ap (λ (cs : List Call). let o : Option Transcript = Some (record going { calls = cs }) in o) (last_written going.calls transcript.calls call calls_are lent lent_is after)
        ∙ ap (λ (t : Transcript). let o : Option Transcript = Some (record t { calls = transcript.calls ++ after ∷ [] }) in o) same_one

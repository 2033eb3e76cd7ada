-- Decisions are carried out one after the other: some and then others, or some until memory ran out.
use Rattle.std.proofs.Common.{◌≡◌, ℕ, zero, suc, ◌+◌, List, [], ◌∷◌, ◌++◌, length, take, drop, Some, refl, sym, ap, subst, ◌∙◌, arith, append_assoc, append-nil, length-append}
use Rattle.std.proofs.Math.Seq.{take-append_seam, drop-append_seam, drop-drop}
use Rattle.std.proofs.lemmas.List.{take-append-drop}
use Rattle.std.specs.Prelude.{slice_get}
use Rattle.audit.specs.declared.account.Call.{Call}
use Rattle.audit.specs.declared.account.Point.{Point}
use Rattle.audit.specs.declared.account.Transcript.{Transcript}
use Rattle.kanswer.specs.Decisions.{Decision}
use Rattle.kwire.specs.Configuration.{Configuration}
use Rattle.kwire.specs.declared.request.Request.{Request}
use Rattle.audit.specs.broker.Entering.{Noted}
use Rattle.audit.proofs.broker.Laws.{grown_self}
use Rattle.audit.specs.broker.books.Accepting.{IsAccepting}
use Rattle.shared_logs.specs.Shared.{LogPassView}
use Rattle.shared_logs.specs.Amid.{amid}
use Rattle.shared_logs.proofs.Laws.{grown_on, left_on, left_self, same_on, same_self}
use Rattle.shared_calls.specs.Carried.{HasCarried, HasStopped, IsAt}

-- ---- the next of some decisions

abbrev pub AreNext : {D : Type 0} → List D → ℕ → List D → Type 0
AreNext next reached all = take (length next) (drop reached all) ≡ next

-- what stands behind them
behind : {D : Type 0} (next : List D) (reached : ℕ) (all : List D) → AreNext next reached all → drop reached all ≡ next ++ drop (length next) (drop reached all)
behind {D = D} next reached all are = sym (take-append-drop (length next) (drop reached all)) ∙ ap (λ (xs : List D). xs ++ drop (length next) (drop reached all)) are

pub first_next : {D : Type 0} (xs ys : List D) (reached : ℕ) (all : List D) → AreNext (xs ++ ys) reached all → AreNext xs reached all
first_next xs ys reached all are =
    let rest = drop (length (xs ++ ys)) (drop reached all) in
    let is : drop reached all ≡ xs ++ (ys ++ rest) = behind (xs ++ ys) reached all are ∙ append_assoc xs ys rest in
    ap (take (length xs)) is ∙ take-append_seam xs (ys ++ rest)

pub then_next : {D : Type 0} (xs ys : List D) (reached : ℕ) (all : List D) → AreNext (xs ++ ys) reached all → AreNext ys (reached + length xs) all
then_next xs ys reached all are =
    let rest = drop (length (xs ++ ys)) (drop reached all) in
    let is : drop reached all ≡ xs ++ (ys ++ rest) = behind (xs ++ ys) reached all are ∙ append_assoc xs ys rest in
    let there : drop (reached + length xs) all ≡ ys ++ rest = sym (drop-drop (length xs) reached all) ∙ ap (drop (length xs)) is ∙ drop-append_seam xs (ys ++ rest) in
    ap (take (length ys)) there ∙ take-append_seam ys rest

get_drop : {D : Type 0} (i : ℕ) (all : List D) (x : D) (rest : List D) → drop i all ≡ x ∷ rest → slice_get all i ≡ Some x
get_drop zero [] x rest e = absurd cc
get_drop zero (y ∷ all) x rest e = let same : y ≡ x = cc in ap Some same
get_drop (suc i) [] x rest e = absurd cc
get_drop (suc i) (y ∷ all) x rest e = get_drop i all x rest e

pub one_next : {D : Type 0} (x : D) (reached : ℕ) (all : List D) → AreNext (x ∷ []) reached all → slice_get all reached ≡ Some x
one_next x reached all are = get_drop reached all x (drop 1 (drop reached all)) (behind (x ∷ []) reached all are)

-- ---- no decision

pub none_carried : (config : Configuration) (seq : ℕ) (pass : LogPassView) (points : List Point) → HasCarried config seq [] pass points pass points []
none_carried config seq pass points = record {
  same = same_self pass;
  ticked = refl;
  grown = grown_self pass.parts pass.clock;
  left = left_self seq pass;
  goes = λ front transcript call request decisions reached noted at.
      let zero_more : reached + 0 ≡ reached = omega arith in
      subst (λ (n : ℕ). IsAccepting (amid config front transcript pass (record call { accept = points })) request decisions n (noted ++ [])) (sym zero_more)
      (subst (λ (ns : List Noted). IsAccepting (amid config front transcript pass (record call { accept = points })) request decisions reached ns) (sym (append-nil noted))
      (subst (λ (ps : List Point). IsAccepting (amid config front transcript pass (record call { accept = ps })) request decisions reached noted) at.points_are at.accepting));
}

-- ---- some and then others

module _ (config : Configuration) (seq : ℕ) (xs ys : List Decision) (a : LogPassView) (pa : List Point) (b : LogPassView) (pb : List Point) (c : LogPassView) (pc : List Point) where
  -- the call where the others begin
  then_at : (mx : List Noted) → HasCarried config seq xs a pa b pb mx → (front : List Transcript) (transcript : Transcript) (call : Call) (request : Request) (decisions : List Decision) (reached : ℕ) (noted : List Noted)
      → IsAt config seq (xs ++ ys) a pa front transcript call request decisions reached noted → IsAt config seq ys b pb front transcript (record call { accept = pb }) request decisions (reached + length xs) (noted ++ mx)
  then_at mx first front transcript call request decisions reached noted at = record {
    number = at.number;
    points_are = refl;
    next_are = then_next xs ys reached decisions at.next_are;
    accepting = first.goes front transcript call request decisions reached noted (record { number = at.number; points_are = at.points_are; next_are = first_next xs ys reached decisions at.next_are; accepting = at.accepting });
  }

  pub carried_on : (mx my : List Noted) → HasCarried config seq xs a pa b pb mx → HasCarried config seq ys b pb c pc my → HasCarried config seq (xs ++ ys) a pa c pc (mx ++ my)
  carried_on mx my first then = record {
    same = same_on a b c first.same then.same;
    ticked = then.ticked ∙ first.ticked;
    grown = grown_on a.parts b.parts c.parts a.clock b.clock c.clock first.grown then.grown;
    left = left_on seq a b c first.same.number first.left then.left;
    goes = λ front transcript call request decisions reached noted at.
        let on = then.goes front transcript (record call { accept = pb }) request decisions (reached + length xs) (noted ++ mx) (then_at mx first front transcript call request decisions reached noted at) in
        let far : reached + length xs + length ys ≡ reached + length (xs ++ ys) = omega (arith, length-append xs ys) in
        subst (λ (n : ℕ). IsAccepting (amid config front transcript c (record call { accept = pc })) request decisions n (noted ++ (mx ++ my))) far
        (subst (λ (ns : List Noted). IsAccepting (amid config front transcript c (record call { accept = pc })) request decisions (reached + length xs + length ys) ns) (append_assoc noted mx my) on);
  }

  -- and then running out of memory
  pub stopped_on : (mx : List Noted) → HasCarried config seq xs a pa b pb mx → HasStopped config seq ys b pb c pc → HasStopped config seq (xs ++ ys) a pa c pc
  stopped_on mx first then = record {
    same = same_on a b c first.same then.same;
    ticked = then.ticked ∙ first.ticked;
    grown = grown_on a.parts b.parts c.parts a.clock b.clock c.clock first.grown then.grown;
    goes = λ front transcript call request decisions reached noted at.
        then.goes front transcript (record call { accept = pb }) request decisions (reached + length xs) (noted ++ mx) (then_at mx first front transcript call request decisions reached noted at);
  }

module _ (config : Configuration) (seq : ℕ) (xs ys : List Decision) (a : LogPassView) (pa : List Point) (b : LogPassView) (pb : List Point) where
  -- the others are never come to
  pub stopped_before : HasStopped config seq xs a pa b pb → HasStopped config seq (xs ++ ys) a pa b pb
  stopped_before first = record {
    same = first.same;
    ticked = first.ticked;
    grown = first.grown;
    goes = λ front transcript call request decisions reached noted at.
        first.goes front transcript call request decisions reached noted (record { number = at.number; points_are = at.points_are; next_are = first_next xs ys reached decisions at.next_are; accepting = at.accepting });
  }

-- they were carried out, and no memory was left to note it
pub stopped_behind : (config : Configuration) (seq : ℕ) (xs : List Decision) (a : LogPassView) (pa : List Point) (b : LogPassView) (pb : List Point) (mx : List Noted) → HasCarried config seq xs a pa b pb mx
    → HasStopped config seq xs a pa b pb
stopped_behind config seq xs a pa b pb mx first = record {
  same = first.same;
  ticked = first.ticked;
  grown = first.grown;
  goes = λ front transcript call request decisions reached noted at. (reached + length xs, noted ++ mx, first.goes front transcript call request decisions reached noted at);
}

-- Decisions that are carried out one after the other.
use Rattle.std.proofs.Common.{◌≡◌, ℕ, ◌<◌, List, [], ◌∷◌, ◌++◌, length, get_or, set, Option, Some, None, Result, Ok, Err, unwrap_or, refl, sym, ap, ◌∙◌, append_assoc, append-nil}
use Rattle.std.proofs.lemmas.List.{map-append}
use Rattle.std.proofs.lemmas.List.Elements.{filter_map-append}
use Rattle.std.proofs.lemmas.Option.{slice_get-get_or}
use Rattle.std.specs.Prelude.{OnOk}
use Rattle.std.specs.List.{AllZip}
use Rattle.partlog.specs.History.{History}
use Rattle.partlog.specs.State.{PartState, state_of}
use Rattle.kanswer.specs.declared.accepted.Accepted.{Accepted}
use Rattle.kanswer.specs.declared.accepted.Accepted.TheVariants.{Refused}
use Rattle.kanswer.specs.Decisions.{Outcome, Decision, Refuse, AskLog}
use Rattle.kanswer.specs.Waiting.{results_of}
use Rattle.audit.specs.declared.account.Point.{Point}
use Rattle.audit.specs.Histories.{no_state}
use Rattle.audit.specs.LawfulCall.{step_points, Step}
use Rattle.audit.specs.broker.Board.{history_at, empty_history}
use Rattle.kanswer.specs.WithEntry.{entered}
use Rattle.audit.specs.broker.Entering.{Noted, accept_all, steps_of, shown_of}
use Rattle.kanswer.specs.declared.entered.Entered.{Entered}
use Rattle.kanswer.specs.Entered.{HasEntered}
use Rattle.lone_broker.specs.Carried.{Came, IsEntered, IsCarried}

pub on_ok_both : {T E : Type 0} {P Q R : Type 0} (r : Result T E) → OnOk r P → OnOk r Q → (P → Q → R) → OnOk r R
on_ok_both (Ok x) p q f = f p q
on_ok_both (Err e) p q f = tt

-- a partition that is refused before its log is asked
pub refusal_carried : (by seq t : ℕ) (code : _) (parts : List History) (came later : Came) → later ≡ record { accepted = came.accepted ++ Refused code ∷ []; points = came.points }
    → IsCarried by seq t (Refuse code ∷ []) parts parts came later
refusal_carried by seq t code parts came later e =
    record { histories = refl; accepted = ap (λ (c : Came). c.accepted) e; points = ap (λ (c : Came). c.points) e ∙ sym (append-nil came.points) }

-- ---- some decisions and then others

pub accept_append : (by seq t : ℕ) (xs ys : List Decision) (parts : List History)
    → ((accept_all by seq t (xs ++ ys) parts).0 ≡ (accept_all by seq t xs parts).0 ++ (accept_all by seq t ys (accept_all by seq t xs parts).1).0)
    × ((accept_all by seq t (xs ++ ys) parts).1 ≡ (accept_all by seq t ys (accept_all by seq t xs parts).1).1)
accept_append by seq t [] ys parts = (refl, refl)
accept_append by seq t (Refuse code ∷ xs) ys parts =
    let rest = accept_append by seq t xs ys parts in
    (ap (λ (ns : List Noted). record { step = record { result = Refused code; point = None }; state = no_state } ∷ ns) rest.0, rest.1)
accept_append by seq t (AskLog part outcome ∷ xs) ys parts =
    let found = history_at parts part in
    let came = outcome (state_of found) in
    let left = entered found by seq t came.entry in
    let rest = accept_append by seq t xs ys (set parts part left) in
    (ap (λ (ns : List Noted). record { step = record { result = came.result; point = Some (record { part = part; place = length found.events }) }; state = state_of left } ∷ ns) rest.0, rest.1)

results_append : (xs ys : List Noted) → results_of (shown_of (xs ++ ys)) ≡ results_of (shown_of xs) ++ results_of (shown_of ys)
results_append [] ys = refl
results_append (x ∷ xs) ys = ap (λ (rs : List Accepted). x.step.result ∷ rs) (results_append xs ys)

pub points_append : (xs ys : List Noted) → step_points (steps_of (xs ++ ys)) ≡ step_points (steps_of xs) ++ step_points (steps_of ys)
points_append xs ys = ap step_points (map-append (λ (n : Noted). n.step) xs ys) ∙ filter_map-append (λ (s : Step). s.point) (steps_of xs) (steps_of ys)

pub carried_on : (by seq t : ℕ) (xs ys : List Decision) (p0 p1 p2 : List History) (c0 c1 c2 : Came) → IsCarried by seq t xs p0 p1 c0 c1 → IsCarried by seq t ys p1 p2 c1 c2 → IsCarried by seq t (xs ++ ys) p0 p2 c0 c2
carried_on by seq t xs ys p0 p1 p2 c0 c1 c2 a b =
    let both = accept_append by seq t xs ys p0 in
    let first = accept_all by seq t xs p0 in
    let then = accept_all by seq t ys (accept_all by seq t xs p0).1 in
    record {
      histories = b.histories ∙ ap (λ (ps : List History). (accept_all by seq t ys ps).1) a.histories ∙ sym both.1;
      accepted = b.accepted ∙ ap (λ (rs : List Accepted). rs ++ results_of (shown_of (accept_all by seq t ys p1).0)) a.accepted
          ∙ append_assoc c0.accepted (results_of (shown_of first.0)) (results_of (shown_of (accept_all by seq t ys p1).0))
          ∙ ap (λ (ps : List History). c0.accepted ++ (results_of (shown_of first.0) ++ results_of (shown_of (accept_all by seq t ys ps).0))) a.histories
          ∙ ap (λ (rs : List Accepted). c0.accepted ++ rs) (sym (results_append first.0 then.0) ∙ sym (ap (λ (ns : List Noted). results_of (shown_of ns)) both.0));
      points = b.points ∙ ap (λ (ps : List Point). ps ++ step_points (steps_of (accept_all by seq t ys p1).0)) a.points
          ∙ append_assoc c0.points (step_points (steps_of first.0)) (step_points (steps_of (accept_all by seq t ys p1).0))
          ∙ ap (λ (ps : List History). c0.points ++ (step_points (steps_of first.0) ++ step_points (steps_of (accept_all by seq t ys ps).0))) a.histories
          ∙ ap (λ (ps : List Point). c0.points ++ ps) (sym (points_append first.0 then.0) ∙ sym (ap (λ (ns : List Noted). step_points (steps_of ns)) both.0));
    }

pub carried_none : (by seq t : ℕ) (parts : List History) (came : Came) → IsCarried by seq t [] parts parts came came
carried_none by seq t parts came = record { histories = refl; accepted = sym (append-nil came.accepted); points = sym (append-nil came.points) }

-- a relation of lists, one item more
pub all_zip_push : {A B : Type 0} (R : A → B → Type 0) (xs : List A) (ys : List B) (x : A) (y : B) → AllZip R xs ys → R x y → AllZip R (xs ++ x ∷ []) (ys ++ y ∷ [])
all_zip_push R [] [] x y all r = (r, tt)
all_zip_push R [] (b ∷ ys) x y all r = absurd all
all_zip_push R (a ∷ xs) [] x y all r = absurd all
all_zip_push R (a ∷ xs) (b ∷ ys) x y all r = (all.0, all_zip_push R xs ys x y all.1 r)

pub all_zip_append : {A B : Type 0} (R : A → B → Type 0) (xs xs1 : List A) (ys ys1 : List B) → AllZip R xs ys → AllZip R xs1 ys1 → AllZip R (xs ++ xs1) (ys ++ ys1)
all_zip_append R [] xs1 [] ys1 a b = b
all_zip_append R [] xs1 (y ∷ ys) ys1 a b = absurd a
all_zip_append R (x ∷ xs) xs1 [] ys1 a b = absurd a
all_zip_append R (x ∷ xs) xs1 (y ∷ ys) ys1 a b = (a.0, all_zip_append R xs xs1 ys ys1 a.1 b)

-- a log was asked, and what became of its partition was noted with the point of the entry
pub entered_noted : (by seq t part : ℕ) (outcome : PartState → Outcome) (h left : History) (entered : Entered) (came later : Came) → HasEntered by seq t outcome h left entered
    → later ≡ record { accepted = came.accepted ++ entered.became ∷ []; points = came.points ++ record { part = part; place = entered.place } ∷ [] }
    → IsEntered by seq t part outcome h left came later
entered_noted by seq t part outcome h left entered came later e noted = record {
  history = e.history;
  accepted = ap (λ (c : Came). c.accepted) noted ∙ ap (λ (r : Accepted). came.accepted ++ r ∷ []) e.became;
  points = ap (λ (c : Came). c.points) noted ∙ ap (λ (n : ℕ). came.points ++ record { part = part; place = n } ∷ []) e.place;
}

-- ---- one partition among the others

-- the history that is shown at a place
pub history_shown : (parts : List History) (part : ℕ) (h : History) → part < length parts → h ≡ get_or parts part h → history_at parts part ≡ h
history_shown parts part h lt is = ap (λ (o : Option History). unwrap_or o (empty_history 0)) (slice_get-get_or parts part h lt) ∙ sym is

pub entered_carried : (by seq t part : ℕ) (parts after : List History) (h left : History) (outcome : PartState → Outcome) (came later : Came) → part < length parts → h ≡ get_or parts part h
    → IsEntered by seq t part outcome h left came later → after ≡ set parts part left → IsCarried by seq t (AskLog part outcome ∷ []) parts after came later
entered_carried by seq t part parts after h left outcome came later lt at e is =
    let same : h ≡ history_at parts part = sym (history_shown parts part h lt at) in
    record {
      histories = is ∙ ap (set parts part) e.history ∙ ap (λ (x : History). set parts part (entered x by seq t (outcome (state_of x)).entry)) same;
      accepted = e.accepted ∙ ap (λ (x : History). came.accepted ++ (outcome (state_of x)).result ∷ []) same;
      points = e.points ∙ ap (λ (x : History). came.points ++ record { part = part; place = length x.events } ∷ []) same;
    }

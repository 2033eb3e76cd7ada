-- The requests that wait, by their sessions: one more, and one fewer.
use Rattle.std.proofs.Common.{◌≡◌, ◌≢◌, ℕ, eqb, Bool, true, false, cond, not, List, [], ◌∷◌, ◌++◌, Option, Some, None, refl, sym, ap, ◌∙◌, filter, eq-eqb}
use Rattle.std.proofs.lemmas.Bool.{eqb-true, ne_eqb}
use Rattle.std.proofs.lemmas.List.Folds.{find-append}
use Rattle.std.specs.Option.{option_or}
use Rattle.std.specs.Prelude.{◌==◌}
use Rattle.audit.specs.broker.Board.{Waiting}
use Rattle.lone_broker.specs.Kept.{waiting_in}
use Rattle.kbytes.proofs.Laws.{some_is}

alone_same : (w : Waiting) (s : ℕ) → w.session ≡ s → waiting_in (w ∷ []) s ≡ Some w
alone_same w s same = let yes : eqb w.session s ≡ true = eq-eqb w.session s same in ap (λ (b : Bool). cond b (Some w) None) yes

alone_other : (w : Waiting) (s : ℕ) → s ≢ w.session → waiting_in (w ∷ []) s ≡ None
alone_other w s other = let no : eqb w.session s ≡ false = ne_eqb w.session s (λ e. other (sym e)) in ap (λ (b : Bool). cond b (Some w) None) no

or_none : (o : Option Waiting) → option_or o None ≡ o
or_none None = refl
or_none (Some w) = refl

pub waits_more : (waiting : List Waiting) (w : Waiting) (s : ℕ) → w.session ≡ s → waiting_in waiting s ≡ None → waiting_in (waiting ++ w ∷ []) s ≡ Some w
waits_more waiting w s same none =
    find-append (λ (x : Waiting). x.session == s) waiting (w ∷ []) ∙ ap (λ (o : Option Waiting). option_or o (waiting_in (w ∷ []) s)) none ∙ alone_same w s same

pub waits_others : (waiting : List Waiting) (w : Waiting) (s : ℕ) → s ≢ w.session → waiting_in (waiting ++ w ∷ []) s ≡ waiting_in waiting s
waits_others waiting w s other =
    find-append (λ (x : Waiting). x.session == s) waiting (w ∷ []) ∙ ap (option_or (waiting_in waiting s)) (alone_other w s other) ∙ or_none (waiting_in waiting s)

-- without those of this session
abbrev pub others_of : ℕ → List Waiting → List Waiting
others_of t waiting = filter (λ (other : Waiting). not (other.session == t)) waiting

gone_one : (b : Bool) (w : Waiting) (rest : List Waiting) (s : ℕ) → eqb w.session s ≡ b → waiting_in rest s ≡ None → waiting_in (cond (not b) (w ∷ rest) rest) s ≡ None
gone_one true w rest s is none = none
gone_one false w rest s is none = ap (λ (x : Bool). cond x (Some w) (waiting_in rest s)) is ∙ none

pub waits_no_more : (waiting : List Waiting) (s : ℕ) → waiting_in (others_of s waiting) s ≡ None
waits_no_more [] s = refl
waits_no_more (w ∷ waiting) s = gone_one (eqb w.session s) w (others_of s waiting) s refl (waits_no_more waiting s)

stays_one : (gone here : Bool) (w : Waiting) (s t : ℕ) (rest : List Waiting) (was : Option Waiting) → s ≢ t → eqb w.session t ≡ gone → eqb w.session s ≡ here → waiting_in rest s ≡ was
    → waiting_in (cond (not gone) (w ∷ rest) rest) s ≡ cond here (Some w) was
stays_one true true w s t rest was other is_gone is_here same = absurd (other (sym (eqb-true w.session s is_here) ∙ eqb-true w.session t is_gone))
stays_one true false w s t rest was other is_gone is_here same = same
stays_one false here w s t rest was other is_gone is_here same =
    ap (λ (b : Bool). cond b (Some w) (waiting_in rest s)) is_here ∙ ap (λ (o : Option Waiting). cond here (Some w) o) same

pub waits_still : (waiting : List Waiting) (s t : ℕ) → s ≢ t → waiting_in (others_of t waiting) s ≡ waiting_in waiting s
waits_still [] s t other = refl
waits_still (w ∷ waiting) s t other = stays_one (eqb w.session t) (eqb w.session s) w s t (others_of t waiting) (waiting_in waiting s) other refl refl (waits_still waiting s t other)

found_one : (b : Bool) (v w : Waiting) (s : ℕ) (rest : Option Waiting) → eqb v.session s ≡ b → (rest ≡ Some w → w.session ≡ s) → cond b (Some v) rest ≡ Some w → w.session ≡ s
found_one true v w s rest is later e = ap (λ (x : Waiting). x.session) (sym (some_is v w e)) ∙ eqb-true v.session s is
found_one false v w s rest is later e = later e

pub found_is : (waiting : List Waiting) (s : ℕ) (w : Waiting) → waiting_in waiting s ≡ Some w → w.session ≡ s
found_is [] s w e = absurd cc
found_is (v ∷ waiting) s w e = found_one (eqb v.session s) v w s (waiting_in waiting s) refl (found_is waiting s w) e

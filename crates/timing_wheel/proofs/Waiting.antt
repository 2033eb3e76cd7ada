-- Entries that wait, under an insert and a removal.
use Rattle.std.proofs.Common.{⊎_elim, ◌≡◌, ◌≢◌, ℕ, ◌<◌, ◌≤◌, List, Option, Some, None, length, get_or, set, replicate, sym, ap, ◌∙◌, subst, arith, get_or-set_same, get_or-set_other, length-set}
use Rattle.std.proofs.lemmas.List.{get_or_past, get_or-replicate, length-replicate}
use Rattle.std.proofs.lemmas.Bool.{cases_eq, cases_lt}
use Rattle.timing_wheel.specs.declared.timer.Timer.{Timer}
use Rattle.timing_wheel.specs.Wait.{Waits, AllWait}

pub AllWait-take : (m : ℕ) (slots : List (Option Timer)) (id : ℕ) → AllWait m slots → AllWait m (set slots id None)
unfolding AllWait
AllWait-take m slots id h = λ q e is.
    ⊎_elim
    (λ (same : q ≡ id).
    ⊎_elim
    (λ (l : id < length slots). let no : None ≡ Some e = sym (get_or-set_same slots id None None l) ∙ ap (λ k. get_or (set slots id None) k None) (sym same) ∙ is in absurd cc)
    (λ (l : length slots ≤ id). let no : None ≡ Some e = sym (get_or_past (set slots id None) q None (rw length-set (omega arith))) ∙ is in absurd cc)
    (cases_lt id (length slots)))
    (λ (other : q ≢ id). h q e (sym (get_or-set_other slots id q None None other) ∙ is))
    (cases_eq q id)

pub AllWait-put : (m : ℕ) (slots : List (Option Timer)) (id : ℕ) (timer : Timer) → id < length slots → Waits m timer → AllWait m slots → AllWait m (set slots id (Some timer))
unfolding AllWait
AllWait-put m slots id timer l w h = λ q e is.
    ⊎_elim
    (λ (same : q ≡ id).
    let there : Some timer ≡ Some e = sym (get_or-set_same slots id (Some timer) None l) ∙ ap (λ k. get_or (set slots id (Some timer)) k None) (sym same) ∙ is in
    let it : timer ≡ e = cc in
    subst (Waits m) it w)
    (λ (other : q ≢ id). h q e (sym (get_or-set_other slots id q (Some timer) None other) ∙ is))
    (cases_eq q id)

pub AllWait-none : (m n : ℕ) → AllWait m (replicate n None)
unfolding AllWait
AllWait-none m n = λ q e is.
    ⊎_elim
    (λ (l : q < n). let no : None ≡ Some e = sym (get_or-replicate n q None None l) ∙ is in absurd cc)
    (λ (l : n ≤ q). let no : None ≡ Some e = sym (get_or_past (replicate n None) q None (rw length-replicate l)) ∙ is in absurd cc)
    (cases_lt q n)

-- an entry that is listed waits
pub listed_waits : (m : ℕ) (slots : List (Option Timer)) (id : ℕ) (timer : Timer) → AllWait m slots → get_or slots id None ≡ Some timer → Waits m timer
unfolding AllWait
listed_waits m slots id timer h is = h id timer is

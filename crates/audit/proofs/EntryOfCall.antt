-- Each entry of a lawful account was left by one lawful call, as a decision that it carried out or as a look. So what holds of
-- the entries of all such decisions, and of looks, holds of the entry.
use Rattle.std.proofs.Common.{◌≡◌, ◌≢◌, ℕ, zero, suc, ◌&&◌, Bool, true, false, cond, eqb, List, [], ◌∷◌, map, take, count_by, Option, Some, None, ◌⊎◌, inl, inr, refl, sym, ap, subst, ◌∙◌, arith, option_map}
use Rattle.std.specs.Prelude.{slice_get}
use Rattle.std.specs.List.{AllByRecursion, AllZip, cons_option}
use Rattle.std.proofs.lemmas.Bool.{eqb-true}
use Rattle.std.proofs.lemmas.List.Sums.{sum_by-cons}
use Rattle.std.proofs.lemmas.Option.{slice_get-map}
use Rattle.partlog.specs.declared.event.PartEvent.{PartEvent}
use Rattle.partlog.specs.declared.event.PartEvent.TheVariants.{Look}
use Rattle.partlog.specs.State.{PartState}
use Rattle.kwire.specs.declared.request.Ask.{Ask}
use Rattle.kanswer.specs.Decisions.{Decision, Decides, Outcome, Refuse, AskLog}
use Rattle.audit.specs.declared.account.Account.{Account}
use Rattle.audit.specs.declared.account.Call.{Call}
use Rattle.audit.specs.declared.account.PartAccount.{PartAccount}
use Rattle.audit.specs.declared.account.Point.{Point}
use Rattle.audit.specs.Histories.{Owner, clock_owner_of, before_point, event_at, owner_of, owners_in, owners_of, points_of}
use Rattle.audit.specs.IsLawful.{IsLawful, is_point}
use Rattle.audit.specs.LawfulCall.{IsClockLook, IsEntry, IsLawfulCall, IsLook, IsStep, LooksAtClock, Step, step_points}
use Rattle.kbytes.proofs.Laws.{all_append, some_is}
use Rattle.audit.proofs.Prints.{looks_stand}

-- ---- an item that passes is among those that are counted

found : {X G : Type 0} (test : X → Bool) (xs : List X) → AllByRecursion (λ x. test x ≡ true → G) xs → count_by test xs ≡ 1 → G
found test [] each one = absurd (omega (arith, one))
found {X} {G} test (x ∷ xs) each one = by_test (test x) refl (found test xs each.1)
  where
    by_test : (b : Bool) → test x ≡ b → (count_by test xs ≡ 1 → G) → G
    by_test true is later = each.0 is
    by_test false is later =
        let rest = sum_by-cons (λ (y : X). cond (test y) 1 0) x xs in
        let none = ap {B = ℕ} (λ (b : Bool). cond b 1 0) is in
        later (omega (arith, one, rest, none))

pub both_true : (a b : Bool) → (a && b) ≡ true → (a ≡ true) × (b ≡ true)
both_true true true e = (refl, refl)
both_true true false e = absurd cc
both_true false b e = absurd cc

point_is : (part place : ℕ) (point : Point) → is_point part place point ≡ true → point ≡ record { part = part; place = place }
point_is part place point is =
    let both = both_true (eqb point.part part) (eqb point.place place) is in
    ap (λ (n : ℕ). let q : Point = record { part = n; place = point.place } in q) (eqb-true point.part part both.0)
    ∙ ap (λ (n : ℕ). let q : Point = record { part = part; place = n } in q) (eqb-true point.place place both.1)

module _ (account : Account) (number k : ℕ) (apart : number ≢ 64) where
  -- the owner of an entry, in the history of its partition
  pub entry_owned : (part : PartAccount) → slice_get account.parts number ≡ Some part → (event : PartEvent) → slice_get part.events k ≡ Some event
      → (owner : Owner) → owner_of event ≡ Some owner → slice_get (owners_of account number) k ≡ Some (Some owner)
  entry_owned part there event at owner is =
      ap (λ (b : Bool). slice_get (cond b (map clock_owner_of account.clock) (owners_in (slice_get account.parts number))) k) other
      ∙ ap (λ (o : Option PartAccount). slice_get (owners_in o) k) there
      ∙ slice_get-map owner_of part.events k ∙ ap (option_map owner_of) at ∙ ap Some is
    where
      apart_false : (b : Bool) → eqb number 64 ≡ b → b ≡ false
      apart_false true e = absurd (apart (eqb-true number 64 e))
      apart_false false e = refl

      other : eqb number 64 ≡ false
      other = apart_false (eqb number 64) refl

  abbrev here : Point
  here = record { part = number; place = k }

  module _ (G : Type 0) (Holds : Decision → Type 0)
      (decided : (ask : Ask) (decisions : List Decision) → Decides account.config ask decisions → AllByRecursion Holds decisions)
      (by_asked : (outcome : PartState → Outcome) → IsEntry account here (outcome (before_point account here)).entry → Holds (AskLog number outcome) → G)
      (by_look : (b s : ℕ) → event_at account here ≡ Some (Look b s) → G) where
    abbrev Shows : Point → Type 0
    Shows point = is_point number k point ≡ true → G

    by_step : (decision : Decision) (step : Step) (point : Point) → IsStep account decision step → Holds decision → step.point ≡ Some point → Shows point
    by_step (Refuse code) step point is holds left passes = absurd (no_point (sym (ap (λ (s : Step). s.point) is) ∙ left))
      where
        no_point : ◌≡◌ {A = Option Point} None (Some point) → ⊥
        no_point e = cc
    by_step (AskLog asked outcome) step point is holds left passes =
        let at : is.point ≡ here = some_is is.point point (sym is.left ∙ left) ∙ point_is number k point passes in
        let own : asked ≡ number = sym is.there ∙ ap (λ (p : Point). p.part) at in
        let Is : Point → Type 0 = λ p. IsEntry account p (outcome (before_point account p)).entry in
        let Asks : ℕ → Type 0 = λ n. Holds (AskLog n outcome) in
        by_asked outcome (subst Is at is.entry) (subst Asks own holds)

    one_point : (o : Option Point) (points : List Point) → ((point : Point) → o ≡ Some point → Shows point) → AllByRecursion Shows points → AllByRecursion Shows (cons_option o points)
    one_point None points one rest = rest
    one_point (Some point) points one rest = (one point refl, rest)

    by_steps : (decisions : List Decision) (steps : List Step) → AllZip (IsStep account) decisions steps → AllByRecursion Holds decisions → AllByRecursion Shows (step_points steps)
    by_steps [] [] each all = tt
    by_steps [] (step ∷ steps) each all = absurd each
    by_steps (decision ∷ decisions) [] each all = absurd each
    by_steps (decision ∷ decisions) (step ∷ steps) each all =
        one_point step.point (step_points steps) (λ point left. by_step decision step point each.0 all.0 left) (by_steps decisions steps each.1 all.1)

    no_clock : (point : Point) → IsClockLook account point → Shows point
    no_clock point look passes = absurd (apart (sym (ap (λ (p : Point). p.part) (point_is number k point passes)) ∙ look.0))

    by_looks : (waits : Bool) (looks : List Point) → LooksAtClock account waits looks → AllByRecursion Shows looks
    by_looks true looks are = subst (AllByRecursion Shows) (sym are.1) (no_clock are.0 are.2, tt)
    by_looks false looks are = subst (AllByRecursion Shows) (sym are) tt

    by_finish : (points : List Point) → AllByRecursion (λ point. IsLook account point.part point ⊎ IsClockLook account point) points → AllByRecursion Shows points
    by_finish [] stand = tt
    by_finish (point ∷ points) stand = (one stand.0, by_finish points stand.1)
      where
        one : IsLook account point.part point ⊎ IsClockLook account point → Shows point
        one (inl look) passes = by_look look.1 look.2 (sym (ap (event_at account) (point_is number k point passes)) ∙ look.3)
        one (inr look) passes = no_clock point look passes

    front_holds : (n : ℕ) (decisions : List Decision) → AllByRecursion Holds decisions → AllByRecursion Holds (take n decisions)
    front_holds zero decisions all = tt
    front_holds (suc n) [] all = tt
    front_holds (suc n) (d ∷ decisions) all = (all.0, front_holds n decisions all.1)

    by_accept : (call : Call) → IsLawfulCall account call → AllByRecursion Shows call.accept
    by_accept call (inl w) =
        let a = w.whole.accepted in
        subst (AllByRecursion Shows) (sym w.whole.entries.points)
        (all_append Shows (step_points w.whole.steps) w.whole.looks
        (by_steps a.decisions w.whole.steps a.each (decided w.whole.request.ask a.decisions a.decided))
        (by_looks _ w.whole.looks w.whole.entries.clock))
    by_accept call (inr c) =
        subst (AllByRecursion Shows) (sym c.points)
        (by_steps (take c.reached c.decisions) c.steps c.each (front_holds c.reached c.decisions (decided c.request.ask c.decisions c.decided)))

    pub entry_shows : IsLawful account → (owner : Owner) → slice_get (owners_of account number) k ≡ Some (Some owner) → G
    entry_shows lawful owner owned =
        let left = lawful.entries.left number k owner.by owner.seq owned in
        let is = lawful.calls owner.by owner.seq left.0 left.1 in
        found (is_point number k) (points_of left.0)
        (all_append Shows left.0.accept left.0.finish (by_accept left.0 is) (by_finish left.0.finish (looks_stand account left.0 is))) left.2

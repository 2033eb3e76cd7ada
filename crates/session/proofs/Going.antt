-- A pass that goes on, over two steps; and what ticks and calls of the broker are to it.
use Rattle.std.proofs.Common.{◌≡◌, ℕ, ◌≤◌, max, Bool, true, false, List, [], ◌∷◌, ◌++◌, fold, cond, ltb, append-nil, refl, sym, ap, subst, ◌∙◌, arith, inl, inr}
use Rattle.std.proofs.Math.Nat.{le-max_left, le-max_right, max-le}
use Rattle.std.proofs.lemmas.Bool.{cases_lt}
use Rattle.std.proofs.lemmas.List.Sums.{fold-append}
use Rattle.audit.specs.broker.GoesOn.{HaveGrown}
use Rattle.audit.proofs.broker.Laws.{all_longer_self, grown_clock, grown_self}
use Rattle.partlog.specs.declared.clock_event.ClockEvent.{ClockEvent}
use Rattle.partlog.specs.declared.clock_event.ClockEvent.TheVariants as clocks
use Rattle.partlog.specs.History.{History}
use Rattle.partlog.specs.Moment.{moment_of}
use Rattle.partlog.specs.Ticked.{ticked}
use Rattle.session.specs.Answering.{HasOnlyLooked}
use Rattle.session.specs.Onwards.{HasGoneOn, latest}
use Rattle.outside.specs.shared.clock.Asked.{WasTold}
use Rattle.outside.specs.shared.clock.ClockViews.{PassView as SeatView}
use Rattle.shared_broker.specs.Passes.{PassView, made_with}
use Rattle.shared_broker.specs.Sessions.{HasPartlyToldClock, HasToldClock}
use Rattle.shared_logs.specs.Asked.{HasTicked}
use Rattle.shared_logs.specs.Coming.{HasCaughtUp, HasStepped}
use Rattle.shared_logs.specs.Shared.{LogPassView}
use Rattle.shared_logs.specs.Shrinking.{HasPartlyTold, HasShrunk}
use Rattle.shared_logs.proofs.Laws.{grown_on}

-- ---- over two steps

pub on_self : (told : ℕ) (p : PassView) → HasGoneOn told p p
on_self told p = record { number = refl; made = refl; grown = grown_self p.logs.parts p.logs.clock; ticked = le-max_left (latest p) told }

later_max : (a b c t u : ℕ) → t ≤ u → b ≤ max a t → c ≤ max b u → c ≤ max a u
later_max a b c t u le first second =
    let top : max a t ≤ max a u = max-le (le-max_left a u) (omega (arith, le, le-max_right a u)) in
    let both : max b u ≤ max a u = max-le (omega (arith, first, top)) (le-max_right a u) in
    omega (arith, second, both)

pub on_twice : (t u : ℕ) (a b c : PassView) → t ≤ u → HasGoneOn t a b → HasGoneOn u b c → HasGoneOn u a c
on_twice t u a b c le f g = record {
  number = g.number ∙ f.number;
  made = g.made ∙ f.made;
  grown = grown_on a.logs.parts b.logs.parts c.logs.parts a.logs.clock b.logs.clock c.logs.clock f.grown g.grown;
  ticked = later_max (latest a) (latest b) (latest c) t u le f.ticked g.ticked;
}

pub on_later : (t u : ℕ) (a b : PassView) → t ≤ u → HasGoneOn t a b → HasGoneOn u a b
on_later t u a b le f = on_twice t u a b b le f (on_self u b)

-- a step in which it ticks nothing
pub on_unticked : (told : ℕ) (a b : PassView) → b.logs.number ≡ a.logs.number → made_with b ≡ made_with a → HaveGrown a.logs.parts a.logs.clock b.logs.parts b.logs.clock
    → b.logs.ticked ≡ a.logs.ticked → HasGoneOn told a b
on_unticked told a b number made grown same = record {
  number = number;
  made = made;
  grown = grown;
  ticked = subst (λ (n : ℕ). n ≤ max (latest a) told) (sym (ap (fold max 0) same)) (le-max_left (latest a) told);
}

-- ---- with its transcripts as they were

pub looked_self : (told : ℕ) (p : PassView) → HasOnlyLooked told p p
looked_self told p = record { on = on_self told p; ended = refl; going = refl; waits = refl }

pub looked_twice : (t u : ℕ) (a b c : PassView) → t ≤ u → HasOnlyLooked t a b → HasOnlyLooked u b c → HasOnlyLooked u a c
looked_twice t u a b c le f g = record { on = on_twice t u a b c le f.on g.on; ended = g.ended ∙ f.ended; going = g.going ∙ f.going; waits = g.waits ∙ f.waits }

pub looked_later : (t u : ℕ) (a b : PassView) → t ≤ u → HasOnlyLooked t a b → HasOnlyLooked u a b
looked_later t u a b le f = looked_twice t u a b b le f (looked_self u b)

-- other logs, and all else as it was
pub looked_with : (told : ℕ) (a b : PassView) (logs : LogPassView) → b ≡ record a { logs = logs } → HasGoneOn told a (record a { logs = logs }) → HasOnlyLooked told a b
looked_with told a b logs is on = record {
  on = subst (HasGoneOn told a) (sym is) on;
  ended = ap (λ (p : PassView). p.ended) is;
  going = ap (λ (p : PassView). p.going) is;
  waits = ap (λ (p : PassView). p.waits) is;
}

pub same_made : (a : PassView) (logs : LogPassView) → logs.made ≡ a.logs.made → made_with (record a { logs = logs }) ≡ made_with a
same_made a logs same = ap (λ made. record { config = a.config; logs = made }) same

-- ---- the clock is told a moment

-- what its seat was told
pub told_now : (moment : ℕ) (before after : SeatView) → WasTold moment before after → moment ≤ after.told
told_now moment before after h = let is : after.told ≡ moment = ap (λ (s : SeatView). s.told) h.after_is in omega (arith, is)

-- the clock's history goes on where a tick comes behind it, and where none does
ticked_grown : (parts : List History) (found : List ClockEvent) (t : ℕ) → HaveGrown parts found parts (ticked found t)
ticked_grown parts found t = by_test (ltb (moment_of found) t)
  where
    by_test : (rises : Bool) → HaveGrown parts found parts (cond rises (found ++ clocks.Tick t ∷ []) found)
    by_test true = grown_clock parts parts found (clocks.Tick t) (all_longer_self parts)
    by_test false = grown_self parts found

-- what it ticked is this moment, or nothing
ticked_most : (t told : ℕ) (old new : LogPassView) → t ≤ told → (h : HasTicked t old new) → fold max 0 new.ticked ≤ max (fold max 0 old.ticked) told
ticked_most t told old new le h =
    let top = fold max 0 old.ticked in
    elim (cases_lt (moment_of h.found) t) [
      | inl less ↦
          let more : fold max 0 new.ticked ≡ max top t = ap (fold max 0) (h.added less) ∙ fold-append max 0 old.ticked (t ∷ []) in
          let within : max top t ≤ max top told = max-le (le-max_left top told) (omega (arith, le, le-max_right top told)) in
          omega (arith, more, within)
      | inr stands ↦
          let same : fold max 0 new.ticked ≡ top = ap (fold max 0) (h.stood stands) in
          omega (arith, same, le-max_left top told)
    ]

-- ---- and whoever lagged is taken out

shrunk_grown : (t : ℕ) (a b : LogPassView) → HasShrunk t a b → HaveGrown a.parts a.clock b.parts b.clock
shrunk_grown t a b h = record { each = h.taken.grown; more = []; events = h.clock ∙ sym (append-nil a.clock) }

-- the clock rose, or not; some were taken out, or none; and the pass settled
module _ (t told : ℕ) (old new : PassView) (le : t ≤ told) (is : new ≡ record old { logs = new.logs }) (between : LogPassView) (s : HasStepped between new.logs) where
  abbrev logs : LogPassView
  logs = new.logs

  as_settled : HaveGrown old.logs.parts old.logs.clock between.parts between.clock → HaveGrown old.logs.parts old.logs.clock logs.parts logs.clock
  as_settled grown =
      subst (λ (events : List ClockEvent). HaveGrown old.logs.parts old.logs.clock logs.parts events) (sym s.clock)
      (subst (λ (parts : List History). HaveGrown old.logs.parts old.logs.clock parts between.clock) (sym s.parts) grown)

  looked_shrunk : (risen : LogPassView) → HasTicked t old.logs risen → HasShrunk t risen between → HasOnlyLooked told old new
  looked_shrunk risen e shrunk =
      let came : HaveGrown old.logs.parts old.logs.clock old.logs.parts (ticked e.found t) =
      grown_on old.logs.parts old.logs.parts old.logs.parts old.logs.clock e.found (ticked e.found t) e.others.grown (ticked_grown old.logs.parts e.found t) in
      let rose : HaveGrown old.logs.parts old.logs.clock risen.parts risen.clock =
      subst (λ (events : List ClockEvent). HaveGrown old.logs.parts old.logs.clock risen.parts events) (sym e.clock)
      (subst (λ (parts : List History). HaveGrown old.logs.parts old.logs.clock parts (ticked e.found t)) (sym e.parts) came) in
      let grown : HaveGrown old.logs.parts old.logs.clock between.parts between.clock =
      grown_on old.logs.parts risen.parts between.parts old.logs.clock risen.clock between.clock rose (shrunk_grown t risen between shrunk) in
      looked_with told old new logs is (record {
        number = s.number ∙ shrunk.same.number ∙ e.same.number;
        made = same_made old logs (s.made ∙ shrunk.same.made ∙ e.same.made);
        grown = as_settled grown;
        ticked = subst (λ (ts : List ℕ). fold max 0 ts ≤ max (latest old) told) (sym (s.ticked ∙ shrunk.ticked)) (ticked_most t told old.logs risen le e);
      })

  looked_caught : HasCaughtUp old.logs between → HasOnlyLooked told old new
  looked_caught e =
      looked_with told old new logs is
      (on_unticked told old (record old { logs = logs }) (s.number ∙ e.same.number) (same_made old logs (s.made ∙ e.same.made)) (as_settled e.others.grown) (s.ticked ∙ e.ticked))

  looked_partly : HasPartlyTold t old.logs between → HasOnlyLooked told old new
  looked_partly (inl came) = looked_caught came
  looked_partly (inr risen) = looked_shrunk risen.between risen.told risen.shrunk

pub looked_told : (t told : ℕ) (old new : PassView) → t ≤ told → HasToldClock t old new → HasOnlyLooked told old new
looked_told t told old new le h = looked_shrunk t told old new le h.else_as_before h.between h.settled h.told.between h.told.told h.told.shrunk

pub looked_partly_told : (t told : ℕ) (old new : PassView) → t ≤ told → HasPartlyToldClock t old new → HasOnlyLooked told old new
looked_partly_told t told old new le h = looked_partly t told old new le h.else_as_before h.between h.settled h.told

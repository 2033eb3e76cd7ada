-- The table of the lock as it is made, and as it is closed.
use Rattle.std.proofs.Common.{◌≡◌, ℕ, zero, suc, ◌+◌, ◌^◌, ◌<◌, ◌≤◌, Bool, true, false, eqb, List, [], ◌∷◌, map, length, sym, refl, ap, ◌∙◌, subst, arith, ne_eqb}
use Rattle.std.specs.Prelude.{All, sum_by, Option, Some, None}
use Rattle.std.proofs.lemmas.List.Sums.{sum_by-cons}
use Rattle.std.proofs.lemmas.List.Elements.{All-nil, All-cons, All-head, All-tail, All-weaker, All-map}
use Rattle.std.proofs.lemmas.Bool.{false≢true}
use mathlib.Core.Logic.{dite}
use mathlib.Core.Option.{some, none, some-injective, some-ne-none}
use mathlib.Core.Option as maybe
use native.Mathlib.Decide.{ℕ_discrete}
use lib.ListN.{get_elem?}
use Rattle.atomic_table.specs.Table.{State, opening, Final, Seen}
use Rattle.turn_lock.specs.declared.known.Known.{Known}
use Rattle.turn_lock.specs.declared.known.Stage.{Stage}
use Rattle.turn_lock.specs.declared.known.Stage.TheVariants.{Idle}
use Rattle.turn_lock.specs.StartsWith.{StartsWith}
use Rattle.turn_lock.specs.OfPass.{of_pass}
use Rattle.turn_lock.specs.declared.pass.TurnPass.{TurnPass}
use Rattle.turn_lock.specs.Locks.{known, IsReady}
use Rattle.turn_lock.specs.Passes.{at_stage, fresh, fresh_from}
use Rattle.turn_lock.specs.InLine.{is_out, one_if, has_turn, Fits, AtHome, InLine}
use Rattle.turn_lock.proofs.Steps.{Pass, Same, known_is}
use Rattle.turn_lock.proofs.Totals.{sum_by_only, sum_by_le, one_at_most, one_le, each_once}

module _ (E : Type 0) (name : List ℕ) where
  -- so many fresh passes are that many, of each number one at most, and none has a turn or is late
  pub fresh_count : (first n : ℕ) → sum_by (λ k. 1) (fresh_from {E = E} name first n) ≡ n
  fresh_count first zero = refl
  fresh_count first (suc n) =
      omega (arith, sum_by-cons (λ (k : Known E). 1) (fresh {E = E} name first) (fresh_from {E = E} name (first + 1) n), fresh_count (first + 1) n)

  fresh_below : (first n number : ℕ) → number < first → sum_by (λ k. one_if (eqb k.number number)) (fresh_from {E = E} name first n) ≡ 0
  fresh_below first zero number less = refl
  fresh_below first (suc n) number less =
      let apart : one_if (eqb first number) ≡ 0 = ap one_if (ne_eqb first number (λ e. omega arith)) in
      omega (
        arith,
        sum_by-cons (λ (k : Known E). one_if (eqb k.number number)) (fresh {E = E} name first) (fresh_from {E = E} name (first + 1) n),
        fresh_below (first + 1) n number (omega arith),
      )

  pub fresh_once : (first n number : ℕ) → sum_by (λ k. one_if (eqb k.number number)) (fresh_from {E = E} name first n) ≤ 1
  fresh_once first zero number = omega arith
  fresh_once first (suc n) number =
      let cons = sum_by-cons (λ (k : Known E). one_if (eqb k.number number)) (fresh {E = E} name first) (fresh_from {E = E} name (first + 1) n) in
      dite (ℕ_discrete first number)
      (λ same. let one = one_at_most (eqb first number) in let rest = fresh_below (first + 1) n number (omega arith) in omega arith)
      (λ other. let apart : one_if (eqb first number) ≡ 0 = ap one_if (ne_eqb first number other) in let rest = fresh_once (first + 1) n number in omega arith)

  pub fresh_idle : (f : Stage → ℕ) → f Idle ≡ 0 → (first n : ℕ) → sum_by (λ k. f k.stage) (fresh_from {E = E} name first n) ≡ 0
  fresh_idle f zero_idle first zero = refl
  fresh_idle f zero_idle first (suc n) =
      omega (arith, zero_idle, sum_by-cons (λ (k : Known E). f k.stage) (fresh {E = E} name first) (fresh_from {E = E} name (first + 1) n), fresh_idle f zero_idle (first + 1) n)

  pub fresh_fit : (by : E → ℕ) (holder : ℕ → ℕ) (passes first n : ℕ) → first + n ≤ passes → All (Fits 0 0 false holder [] by passes name) (fresh_from {E = E} name first n)
  fresh_fit by holder passes first zero few = All-nil (Fits 0 0 false holder [] by passes name)
  fresh_fit by holder passes first (suc n) few =
      All-cons (Fits 0 0 false holder [] by passes name) (fresh {E = E} name first) (fresh_from {E = E} name (first + 1) n)
      record { named = refl; numbered = omega arith; seen = ([], refl); mine = refl; stands = tt }
      (fresh_fit by holder passes (first + 1) n (omega arith))

-- the only view there is
only_view : {A : Type 0} (v w : A) (i : ℕ) → get_elem? (v ∷ []) i ≡ some w → v ≡ w
only_view v w zero e = some-injective v w e
only_view v w (suc i) e = absurd (some-ne-none w (sym e))

module _ {T E : Type 0} (entries : T → List E) (by : E → ℕ) (name_of : T → List ℕ) where
  pub starts : (x : T) (passes : ℕ) → passes < 2 ^ 32 → entries x ≡ [] → InLine entries by name_of passes (name_of x) (opening (0 ∷ 0 ∷ []) (Some x ∷ []) (fresh_from (name_of x) 0 passes))
  starts x passes few empty =
      let name : List ℕ = name_of x in
      let holder : ℕ → ℕ = λ m. 0 in
      let P : Known E → Type 0 = Fits 0 0 false holder [] by passes name in
      record {
        next = 0;
        serving = 0;
        home = some (Some x);
        log = [];
        holder = holder;
        words = refl;
        homes = refl;
        at_home = (empty, refl);
        line = omega arith;
        busy = λ out. absurd (false≢true out);
        few = few;
        whose = All-nil (λ e. by e < passes);
        fits = λ id v at. subst (All P) (only_view (fresh_from name 0 passes) v id at) (fresh_fit E name by holder passes 0 passes (omega arith));
        all = let sum = fresh_count E name 0 passes in omega arith;
        once = λ number. let sum = fresh_once E name 0 passes number in omega arith;
        turns = let sum = fresh_idle E name (λ st. one_if (has_turn st)) refl 0 passes in omega arith;
        drawn = omega arith;
      }

  pub starts_for : (x told : T) (slots : List (Option T)) (passes : ℕ) → passes < 2 ^ 32 → entries x ≡ [] → told ≡ x → slots ≡ Some x ∷ []
      → InLine entries by name_of passes (name_of told) (opening (0 ∷ 0 ∷ []) slots (fresh_from (name_of told) 0 passes))
  starts_for x told slots passes few empty same one =
      subst (λ (z : T × List (Option T)). InLine entries by name_of passes (name_of z.0) (opening (0 ∷ 0 ∷ []) z.1 (fresh_from (name_of z.0) 0 passes))) (λ i. (sym same i, sym one i)) (starts x passes few empty)

  -- What is known of the value at the close: it has the lock's name. Its history begins with what each pass had seen, has each pass's own entries, and no others
  pub record Closes (passes : ℕ) (name : List ℕ) (v : List (Known E)) (x : T) : Type 0 where
    pub named : name_of x ≡ name
    pub whose : All (λ e. by e < passes) (entries x)
    pub each : All (λ k. StartsWith (entries x) k.seen × (of_pass by k.number (entries x) ≡ k.mine)) v
    pub once : (number : ℕ) → number < passes → sum_by (λ k. one_if (eqb k.number number)) v ≡ 1

  module _ (passes : ℕ) (name : List ℕ) where
    abbrev Rule : State (Option T) (List (Known E)) → Type 0
    Rule = InLine entries by name_of passes name

    idle_sum : (v : List (Known E)) → All (λ k. k.stage ≡ Idle) v → sum_by (λ k. one_if (has_turn k.stage)) v ≡ 0
    idle_sum [] idle = refl
    idle_sum (k ∷ ks) idle =
        let P : Known E → Type 0 = λ k. k.stage ≡ Idle in
        let idle_now : one_if (has_turn k.stage) ≡ 0 = ap (λ z. one_if (has_turn z)) (All-head P k ks idle) in
        omega (arith, sum_by-cons (λ (j : Known E). one_if (has_turn j.stage)) k ks, idle_sum ks (All-tail P k ks idle))

    counted : (v : List (Known E)) → sum_by (λ k. 1) v ≡ length v
    counted [] = refl
    counted (k ∷ ks) = omega (arith, sum_by-cons (λ (j : Known E). 1) k ks, counted ks)

    -- where all passes are back with no turn out, the value is at home
    is_home : (s : State (Option T) (List (Known E))) (r : Rule s) (id : ℕ) (v : List (Known E)) → get_elem? s.views id ≡ some v → length v ≡ passes → All (λ k. k.stage ≡ Idle) v → one_if (is_out r.home) ≤ 0
    is_home s r id v at whole idle =
        let f : List (Known E) → ℕ = sum_by (λ k. one_if (has_turn k.stage)) in
        let g : List (Known E) → ℕ = sum_by (λ k. 1) in
        let bound : sum_by f s.views + g v ≤ sum_by g s.views + f v =
        sum_by_only f g [] refl refl (sum_by_le (λ (k : Known E). one_if (has_turn k.stage)) (λ (k : Known E). 1) (λ k. one_at_most (has_turn k.stage))) s.views id v at in
        let turns = r.turns in
        let all = r.all in
        omega (arith, idle_sum v idle, counted v)

    -- no two passes of a view have the same number, so where it has all of them it has each number once
    once_each : (s : State (Option T) (List (Known E))) (r : Rule s) (id : ℕ) (v : List (Known E)) → get_elem? s.views id ≡ some v → length v ≡ passes → (number : ℕ) → number < passes → sum_by (λ k. one_if (eqb k.number number)) v ≡ 1
    once_each s r id v at whole =
        each_once (λ (k : Known E). k.number) passes v whole
        (All-weaker (Fits r.next r.serving (is_out r.home) r.holder r.log by passes name) (λ (k : Known E). k.number < passes) (λ k fit. fit.numbered) v (r.fits id v at))
        (λ number. omega (arith, one_le (sum_by (λ (k : Known E). one_if (eqb k.number number))) s.views id v at, r.once number))

    closes_at : (s : State (Option T) (List (Known E))) (r : Rule s) (id : ℕ) (v : List (Known E)) → get_elem? s.views id ≡ some v → length v ≡ passes → one_if (is_out r.home) ≤ 0
        → (home : maybe.Option (Option T)) → r.home ≡ home → AtHome entries by name_of r.log name home
        → (found : Option T) → ((y : Option T) → get_elem? s.homes 0 ≡ some (some y) → found ≡ y) → (x : T) × (found ≡ Some x) × Closes passes name v x
    closes_at s r id v at whole home_is none is h found gets = let one : one_if (is_out r.home) ≡ 1 = ap (λ z. one_if (is_out z)) is in absurd (omega arith)
    closes_at s r id v at whole home_is (some None) is h found gets = absurd h
    closes_at s r id v at whole home_is (some (Some x)) is h found gets = (
      x,
      gets (Some x) (ap (λ hs. get_elem? hs 0) r.homes ∙ ap some is),
      record {
        named = h.1;
        whose = subst (All (λ e. by e < passes)) (sym h.0) r.whose;
        each = All-weaker (Fits r.next r.serving (is_out r.home) r.holder r.log by passes name) (λ k. StartsWith (entries x) k.seen × (of_pass by k.number (entries x) ≡ k.mine))
            (λ k fit. (subst (λ log. StartsWith log k.seen) (sym h.0) fit.seen, ap (of_pass by k.number) h.0 ∙ fit.mine)) v (r.fits id v at);
        once = once_each s r id v at whole;
      },
    )

    closes : (id : ℕ) (v : List (Known E)) (words : List ℕ) (slots : List (Option T)) (found : Option T) → length v ≡ passes → All (λ k. k.stage ≡ Idle) v
        → Final (Seen Rule id v) words slots → get_elem? slots 0 ≡ some found → (x : T) × (found ≡ Some x) × Closes passes name v x
    closes id v words slots found whole idle final at =
        let s = final.0 in
        let r = final.1.0 in
        closes_at s r id v final.1.1 whole (is_home s r id v final.1.1 whole idle) r.home refl r.at_home found
        (λ y home. some-injective found y (sym at ∙ final.4 0 y home))

    abbrev value_or : T → Option T → T
    value_or x (Some y) = y
    value_or x None = x

    abbrev is_there : Option T → Bool
    is_there (Some y) = true
    is_there None = false

    -- of all passes, which have no turn out
    ready_idle : (ps : List (TurnPass T E)) → All IsReady ps → All (λ k. k.stage ≡ Idle) (map known ps)
    ready_idle ps ready = All-map (λ (k : Known E). k.stage ≡ Idle) known ps
        (All-weaker IsReady (λ (p : TurnPass T E). (known p).stage ≡ Idle) (λ p is. ap (λ (k : Known E). k.stage) (known_is T E p.seat.me (at_stage Idle (known p)) [] is)) ps ready)

    mapped : (ps : List (TurnPass T E)) → length (map known ps) ≡ length ps
    mapped [] = refl
    mapped (p ∷ ps) = ap suc (mapped ps)

    unmapped : (P : Known E → Type 0) → (ps : List (TurnPass T E)) → All P (map known ps) → All (λ p. P (known p)) ps
    unmapped P [] all = All-nil (λ (p : TurnPass T E). P (known p))
    unmapped P (p ∷ ps) all = All-cons (λ (q : TurnPass T E). P (known q)) p ps (All-head P (known p) (map known ps) all) (unmapped P ps (All-tail P (known p) (map known ps) all))

    -- what is known of the value that the slot has at the close
    pub closed : (id : ℕ) (m : Pass T E) (ps : List (TurnPass T E)) (words : List ℕ) (slots : List (Option T)) (found : Option T) → Same T E m (map known ps, []) → length ps ≡ passes → All IsReady ps
        → Final (Seen Rule id m.0) words slots → get_elem? slots 0 ≡ some found → (x : T) × (found ≡ Some x) × Closes passes name (map known ps) x
    closed id m ps words slots found is whole ready final at =
        closes id (map known ps) words slots found (mapped ps ∙ whole) (ready_idle ps ready) (subst (λ (z : Pass T E). Final (Seen Rule id z.0) words slots) is final) at

    pub not_none : (ps : List (TurnPass T E)) (found : Option T) → (x : T) × (found ≡ Some x) × Closes passes name (map known ps) x → found ≡ None → ⊥
    not_none ps found h none_found = false≢true (sym (ap is_there none_found) ∙ ap is_there h.1)

    pub closed_at : (ps : List (TurnPass T E)) (found : Option T) (y : T) → (x : T) × (found ≡ Some x) × Closes passes name (map known ps) x → found ≡ Some y → Closes passes name (map known ps) y
    closed_at ps found y h is = subst (Closes passes name (map known ps)) (ap (value_or y) (sym h.1 ∙ is)) h.2

    pub closed_each : (ps : List (TurnPass T E)) (x : T) → Closes passes name (map known ps) x
        → All (λ p. StartsWith (entries x) (known p).seen × (of_pass by (known p).number (entries x) ≡ (known p).mine)) ps
    closed_each ps x h = unmapped (λ k. StartsWith (entries x) k.seen × (of_pass by k.number (entries x) ≡ k.mine)) ps h.each

    known_sum : (f : Known E → ℕ) (ps : List (TurnPass T E)) → sum_by f (map known ps) ≡ sum_by (λ p. f (known p)) ps
    known_sum f [] = refl
    known_sum f (p ∷ ps) = omega (arith, sum_by-cons f (known p) (map known ps), sum_by-cons (λ (q : TurnPass T E). f (known q)) p ps, known_sum f ps)

    pub closed_once : (ps : List (TurnPass T E)) (x : T) → Closes passes name (map known ps) x → (number : ℕ) → number < passes → sum_by (λ p. one_if (eqb (known p).number number)) ps ≡ 1
    closed_once ps x h number l = sym (known_sum (λ k. one_if (eqb k.number number)) ps) ∙ h.once number l

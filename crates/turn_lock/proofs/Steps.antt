-- Each step of the lock keeps the rule of its table.
use Rattle.std.proofs.Common.{◌≡◌, ℕ, ◌+◌, ◌%◌, ◌^◌, ◌<◌, ◌≤◌, ◌≢◌, Bool, true, false, cond, eqb, ltb, List, [], ◌∷◌, ◌++◌, length, get_or, set, sym, refl, ap, ◌∙◌, subst, ⊎_elim, arith, eq-eqb, ne_eqb, rules, tests}
use Rattle.std.specs.Prelude.{MatchBool, All, sum_by, take, drop, Option, Some, None}
use Rattle.std.proofs.lemmas.List.Sums.{sum_by-append, sum_by-take-drop}
use Rattle.std.proofs.lemmas.List.Elements.{All-nil, All-cons, All-head, All-tail, All-append, All-take, All-drop, All-weaker, filter-append}
use Rattle.std.proofs.lemmas.Bool.{false≢true}
use mathlib.Core.Logic.{dite}
use mathlib.Core.List.{append-nil, append_assoc}
use mathlib.Core.Option.{some, none, some-injective, some-ne-none}
use mathlib.Core.Option as maybe
use native.Mathlib.Decide.{ℕ_discrete}
use lib.ListN.{get_elem?}
use Rattle.atomic_table.specs.Table.{State, Me, step, keeps, takes, gives, stepped, Allows, Splits, Joins, rest}
use Rattle.atomic_table.proofs.Lists.{at_set, set_again, set_else, at_snoc}
use Rattle.turn_lock.specs.declared.known.Known.{Known}
use Rattle.turn_lock.specs.declared.known.Stage.{Stage}
use Rattle.turn_lock.specs.declared.known.Stage.TheVariants.{Idle, Waits, Has, Late}
use Rattle.turn_lock.specs.StartsWith.{StartsWith}
use Rattle.turn_lock.specs.OfPass.{of_pass}
use Rattle.turn_lock.specs.AddedBy.{AddedBy}
use Rattle.turn_lock.specs.Passes.{at_stage, head_or, known_of, begun, ended}
use Rattle.turn_lock.specs.InLine.{is_out, one_if, has_turn, is_late, total, Stands, Fits, AtHome, InLine}
use Rattle.turn_lock.specs.Moves.{stage_of, drew, passed_on, Took, looked}
use Rattle.turn_lock.proofs.Totals.{sum_by_set, two_le, sum_by_le, none_counts, one_at_most}

-- a ticket that is served at some time
pub waits_by : (b : Bool) (ticket : ℕ) → b ≡ true → cond b (Waits ticket) Late ≡ Waits ticket
waits_by true ticket is = refl
waits_by false ticket is = absurd (false≢true is)

module _ {T E : Type 0} (entries : T → List E) (by : E → ℕ) (name_of : T → List ℕ) (passes : ℕ) (name : List ℕ) where
  abbrev K : Type 0
  K = Known E

  abbrev St : Type 0
  St = State (Option T) (List K)

  abbrev Rule : St → Type 0
  Rule = InLine entries by name_of passes name

  -- one pass's view holds what it holds of its new view, and of the others what their old views say, since no two passes have one number
  others_fit : (s : St) (r : Rule s) (id : ℕ) (k k' : K) → get_elem? s.views id ≡ some (k ∷ []) → (P : K → Type 0) → P k'
      → ((j : K) → j.number ≢ k.number → Fits r.next r.serving (is_out r.home) r.holder r.log by passes name j → P j)
      → (i : ℕ) (v : List K) → get_elem? (set s.views id (k' ∷ [])) i ≡ some v → All P v
  others_fit s r id k k' at P mine step i v e = ⊎_elim
      (λ (t : (i ≡ id) × ((k' ∷ []) ≡ v)). subst (All P) t.1 (All-cons P k' [] mine (All-nil P)))
      (λ (t : (i ≢ id) × (get_elem? s.views i ≡ some v)).
      let once = r.once k.number in
      let f : List K → ℕ = sum_by (λ j. one_if (eqb j.number k.number)) in
      let two : f (k ∷ []) + f v ≤ sum_by f s.views = two_le f [] refl s.views id i (k ∷ []) v t.0 at t.1 in
      let one : one_if (eqb k.number k.number) ≡ 1 = ap one_if (eq-eqb k.number k.number refl) in
      let here : f (k ∷ []) ≡ 1 = omega arith in
      let apart : All (λ (j : K). j.number ≢ k.number) v = none_counts (λ (j : K). j.number) k.number v (omega arith) in
      λ a d l. step (get_or v a d) (apart a d l) (r.fits i v t.1 a d l))
      (at_set s.views id i (k' ∷ []) v e)

  -- a sum over all passes, after a change of one
  changed : (f : K → ℕ) (views : List (List K)) (id : ℕ) (k k' : K) → get_elem? views id ≡ some (k ∷ []) → total f (set views id (k' ∷ [])) + f k ≡ total f views + f k'
  changed f views id k k' at = omega (arith, sum_by_set (sum_by f) views id (k ∷ []) (k' ∷ []) at)

  -- what a pass knows stays so for a step that changes neither the history nor the ticket that is served
  stands_on : (next serving next' : ℕ) (out : Bool) (holder holder' : ℕ → ℕ) (log : List E) → next ≤ next' → ((m : ℕ) → m < next → holder' m ≡ holder m)
      → (number : ℕ) (seen : List E) (st : Stage) → Stands next serving out holder log number seen st → Stands next' serving out holder' log number seen st
  stands_on next serving next' out holder holder' log more same number seen Idle h = tt
  stands_on next serving next' out holder holder' log more same number seen (Waits m) h = let less = h.1 in (h.0, omega arith, same m h.1 ∙ h.2, h.3)
  stands_on next serving next' out holder holder' log more same number seen (Has m) h = let less = h.1 in (h.0, omega arith, same m h.1 ∙ h.2, h.3, h.4)
  stands_on next serving next' out holder holder' log more same number seen Late h = tt

  -- the holder of the new ticket, and of the others
  abbrev given_to : ℕ → ℕ → (ℕ → ℕ) → ℕ → ℕ
  given_to ticket number holder m = cond (eqb m ticket) number (holder m)

  others_held : (ticket number : ℕ) (holder : ℕ → ℕ) (m : ℕ) → m < ticket → given_to ticket number holder m ≡ holder m
  others_held ticket number holder m less = ap (λ b. cond b number (holder m)) (ne_eqb m ticket (λ e. omega arith))

  -- the table after a ticket is drawn
  drawn_rule : (s : St) (r : Rule s) (id : ℕ) (k : K) → get_elem? s.views id ≡ some (k ∷ []) → k.stage ≡ Idle → (st : Stage) (word : ℕ) → word ≡ r.next + 1
      → Stands (r.next + 1) r.serving (is_out r.home) (given_to r.next k.number r.holder) r.log k.number k.seen st
      → one_if (has_turn st) ≡ 0 → r.next + 1 ≤ 2 ^ 62 + (total (λ j. one_if (is_late j.stage)) s.views + one_if (is_late st))
      → Rule (stepped s 0 word id [] (at_stage st k ∷ []) keeps)
  drawn_rule s r id k at idle st word is stands unhad bound =
      let k' : K = at_stage st k in
      let holder' : ℕ → ℕ = given_to r.next k.number r.holder in
      let mine = All-head (Fits r.next r.serving (is_out r.home) r.holder r.log by passes name) k [] (r.fits id (k ∷ []) at) in
      let line = r.line in
      record {
        next = r.next + 1;
        serving = r.serving;
        home = r.home;
        log = r.log;
        holder = holder';
        words = ap (λ ws. set ws 0 word) r.words ∙ ap (λ n. n ∷ r.serving ∷ []) is;
        homes = r.homes;
        at_home = r.at_home;
        line = omega arith;
        busy = λ out. let less = r.busy out in omega arith;
        few = r.few;
        whose = r.whose;
        fits = others_fit s r id k k' at (Fits (r.next + 1) r.serving (is_out r.home) holder' r.log by passes name)
            record { named = mine.named; numbered = mine.numbered; seen = mine.seen; mine = mine.mine; stands = stands }
            (λ j _ fit. record {
              named = fit.named;
              numbered = fit.numbered;
              seen = fit.seen;
              mine = fit.mine;
              stands = stands_on r.next r.serving (r.next + 1) (is_out r.home) r.holder holder' r.log (omega arith) (others_held r.next k.number r.holder) j.number j.seen j.stage fit.stands;
            });
        all = let sum = changed (λ j. 1) s.views id k k' at in let was = r.all in omega arith;
        once = λ number. let sum = changed (λ j. one_if (eqb j.number number)) s.views id k k' at in let was = r.once number in omega arith;
        turns =
            let sum = changed (λ j. one_if (has_turn j.stage)) s.views id k k' at in
            let none_before : one_if (has_turn k.stage) ≡ 0 = ap (λ z. one_if (has_turn z)) idle in
            let was = r.turns in
            omega arith;
        drawn =
            let sum = changed (λ j. one_if (is_late j.stage)) s.views id k k' at in
            let none_before : one_if (is_late k.stage) ≡ 0 = ap (λ z. one_if (is_late z)) idle in
            omega arith;
      }

  -- the number of tickets stays far below what a word can hold, since a pass that is late draws no more
  bounded : (s : St) (r : Rule s) → r.next ≤ 2 ^ 62 + passes
  bounded s r =
      let late = sum_by_le (sum_by (λ (j : K). one_if (is_late j.stage))) (sum_by (λ (j : K). 1))
      (sum_by_le (λ (j : K). one_if (is_late j.stage)) (λ (j : K). 1) (λ j. one_at_most (is_late j.stage))) s.views in
      let drawn = r.drawn in
      let all = r.all in
      omega arith

  -- where the next ticket is the one that is served, nobody has the value
  not_out : (s : St) (r : Rule s) (b : Bool) → is_out r.home ≡ b → r.next ≤ r.serving → b ≡ false
  not_out s r true out served = let less = r.busy out in absurd (omega arith)
  not_out s r false out served = refl

  draws_by : (s : St) (r : Rule s) (id : ℕ) (k : K) → get_elem? s.views id ≡ some (k ∷ []) → k.stage ≡ Idle → (found word : ℕ) → found ≡ r.next → word ≡ r.next + 1
      → given_to r.next k.number r.holder r.next ≡ k.number → (b : Bool) → ltb found (2 ^ 62) ≡ b → Rule (stepped s 0 word id [] (at_stage (cond b (Waits found) Late) k ∷ []) keeps)
  draws_by s r id k at idle found word is more held true less =
      let small : found < 2 ^ 62 = search (rules, tests) in
      let line = r.line in
      drawn_rule s r id k at idle (Waits found) word more
      (omega arith, omega arith, ap (given_to r.next k.number r.holder) is ∙ held, λ served. not_out s r (is_out r.home) refl (omega arith))
      refl (omega arith)
  draws_by s r id k at idle found word is more held false less =
      let large : 2 ^ 62 ≤ found = search (rules, tests) in
      let drawn = r.drawn in
      drawn_rule s r id k at idle Late word more tt refl (omega arith)

  pub draws : (slots id : ℕ) (k : K) → k.stage ≡ Idle
      → Allows Rule slots id (k ∷ [], []) 0 (λ n. (n + 1) % 2 ^ 64) (drew {T = T} {E = E} (step slots 0 1 0 none) (k ∷ [], []))
  draws slots id k idle s r deep at small =
      let found : ℕ = get_or s.words 0 0 in
      let is : found ≡ r.next = ap (λ ws. get_or ws 0 0) r.words in
      let bound = bounded s r in
      let few = r.few in
      let word : (found + 1) % 2 ^ 64 ≡ r.next + 1 = omega arith in
      let held : given_to r.next k.number r.holder r.next ≡ k.number = ap (λ (b : Bool). cond b k.number (r.holder r.next)) (eq-eqb r.next r.next refl) in (
        at_stage (stage_of found) k ∷ [],
        keeps,
        tt,
        draws_by s r id k at idle found ((found + 1) % 2 ^ 64) is word held (ltb found (2 ^ 62)) refl,
        λ k' same. ap (λ (m : Me (Option T) (List K)). (at_stage (stage_of found) (head_or k m.0) ∷ [], [])) same,
      )

  -- a step that changes nothing
  unmoved : (s : St) (r : Rule s) (id : ℕ) (v : List K) → get_elem? s.views id ≡ some v → Rule (stepped s 1 (get_or s.words 1 0) id [] v keeps)
  unmoved s r id v at =
      let is : get_or s.words 1 0 ≡ r.serving = ap (λ ws. get_or ws 1 0) r.words in
      let words : set s.words 1 (get_or s.words 1 0) ≡ s.words =
      ap (λ (ws : List ℕ). set ws 1 (get_or s.words 1 0)) r.words ∙ (ap (λ (n : ℕ). r.next ∷ n ∷ []) is ∙ sym r.words) in
      subst (λ (z : List ℕ × List (List K)). Rule record { words = z.0; homes = s.homes; views = z.1 }) (λ i. (sym words i, sym (set_again s.views id v at) i)) r

  -- where the ticket that is served is taken up, the others stand as before
  stands_aside : (next serving : ℕ) (holder : ℕ → ℕ) (log : List E) (me number : ℕ) → number ≢ me → holder serving ≡ me
      → (seen : List E) (st : Stage) → Stands next serving false holder log number seen st → Stands next serving true holder log number seen st
  stands_aside next serving holder log me number other mine seen Idle h = tt
  stands_aside next serving holder log me number other mine seen (Waits m) h =
      (h.0, h.1, h.2, λ served. absurd (other (sym h.2 ∙ (ap holder served ∙ mine))))
  stands_aside next serving holder log me number other mine seen (Has m) h = (h.0, h.1, h.2, refl, h.4)
  stands_aside next serving holder log me number other mine seen Late h = tt

  -- a pass that waits for the ticket that is served finds the value at home, and takes it
  takes_up : (s : St) (r : Rule s) (id : ℕ) (k : K) (ticket : ℕ) → get_elem? s.views id ≡ some (k ∷ []) → k.stage ≡ Waits ticket → get_or s.words 1 0 ≡ ticket
      → (home : maybe.Option (Option T)) → r.home ≡ home → AtHome entries by name_of r.log name home
      → (x : T) × (s.homes ≡ some (Some x) ∷ []) × Rule (stepped s 1 (get_or s.words 1 0) id [] (begun entries ticket x k ∷ []) (takes 0 (Some x)))
      × Took entries by name_of ticket k (begun entries ticket x k ∷ [], (0, Some x) ∷ [])
  takes_up s r id k ticket at waits served none out h =
      let mine = All-head (Fits r.next r.serving (is_out r.home) r.holder r.log by passes name) k [] (r.fits id (k ∷ []) at) in
      let stands : Stands r.next r.serving (is_out r.home) r.holder r.log k.number k.seen (Waits ticket) =
      subst (Stands r.next r.serving (is_out r.home) r.holder r.log k.number k.seen) waits mine.stands in
      let is : get_or s.words 1 0 ≡ r.serving = ap (λ ws. get_or ws 1 0) r.words in
      let at_home : is_out r.home ≡ false = stands.3 (sym served ∙ is) in
      absurd (false≢true (sym at_home ∙ ap is_out out))
  takes_up s r id k ticket at waits served (some None) is h = absurd h
  takes_up s r id k ticket at waits served (some (Some x)) is_home h =
      let mine = All-head (Fits r.next r.serving (is_out r.home) r.holder r.log by passes name) k [] (r.fits id (k ∷ []) at) in
      let stands : Stands r.next r.serving (is_out r.home) r.holder r.log k.number k.seen (Waits ticket) =
      subst (Stands r.next r.serving (is_out r.home) r.holder r.log k.number k.seen) waits mine.stands in
      let is : get_or s.words 1 0 ≡ r.serving = ap (λ ws. get_or ws 1 0) r.words in
      let turn : ticket ≡ r.serving = sym served ∙ is in
      let homes : s.homes ≡ some (Some x) ∷ [] = r.homes ∙ ap (λ z. z ∷ []) is_home in
      let holds : r.holder r.serving ≡ k.number = ap r.holder (sym turn) ∙ stands.2 in
      let k' : K = begun entries ticket x k in
      let in_before : is_out r.home ≡ false = ap is_out is_home in (
        x,
        homes,
        record {
          next = r.next;
          serving = r.serving;
          home = none;
          log = r.log;
          holder = r.holder;
          words = ap (λ ws. set ws 1 (get_or s.words 1 0)) r.words ∙ ap (λ n. r.next ∷ n ∷ []) is;
          homes = ap (λ hs. set hs 0 none) homes;
          at_home = tt;
          line = r.line;
          busy = λ out. let less = stands.1 in omega arith;
          few = r.few;
          whose = r.whose;
          fits = others_fit s r id k k' at (Fits r.next r.serving true r.holder r.log by passes name)
              record { named = mine.named; numbered = mine.numbered; seen = ([], sym h.0 ∙ sym (append-nil (entries x))); mine = mine.mine; stands = (turn, stands.1, stands.2, refl, h.0) }
              (λ j other fit. record {
                named = fit.named;
                numbered = fit.numbered;
                seen = fit.seen;
                mine = fit.mine;
                stands = stands_aside r.next r.serving r.holder r.log k.number j.number other holds j.seen j.stage
                    (subst (λ b. Stands r.next r.serving b r.holder r.log j.number j.seen j.stage) in_before fit.stands);
              });
          all = let sum = changed (λ j. 1) s.views id k k' at in let was = r.all in omega arith;
          once = λ number. let sum = changed (λ j. one_if (eqb j.number number)) s.views id k k' at in let was = r.once number in omega arith;
          turns =
              let sum = changed (λ j. one_if (has_turn j.stage)) s.views id k k' at in
              let none_before : one_if (has_turn k.stage) ≡ 0 = ap (λ z. one_if (has_turn z)) waits in
              let was : total (λ j. one_if (has_turn j.stage)) s.views ≡ 0 = r.turns ∙ ap one_if in_before in
              omega arith;
          drawn =
              let sum = changed (λ j. one_if (is_late j.stage)) s.views id k k' at in
              let none_before : one_if (is_late k.stage) ≡ 0 = ap (λ z. one_if (is_late z)) waits in
              let was = r.drawn in
              omega arith;
        },
        record {
          value = x;
          now = refl;
          named = h.1 ∙ sym mine.named;
          seen = subst (λ log. StartsWith log k.seen) (sym h.0) mine.seen;
          mine = ap (of_pass by k.number) h.0 ∙ mine.mine;
        },
      )

  abbrev M : Type 0
  M = Me (Option T) (List K)

  abbrev IsSame : M → M → Type 0
  IsSame m m' = m ≡ m'

  abbrev ticket_of : Stage → ℕ
  ticket_of (Waits ticket) = ticket
  ticket_of other = 0

  abbrev Told : ℕ → ℕ → K → M → M → Bool → Type 0
  Told found ticket k m m' b = MatchBool b (Took entries by name_of ticket k m') (IsSame m' m)

  -- a pass waits for one ticket, so what a look tells of this one it tells of each
  tells : (slots : ℕ) (k : K) (ticket found : ℕ) (m' : M) → k.stage ≡ Waits ticket → Told found ticket k (k ∷ [], []) m' (eqb found ticket)
      → looked entries by name_of (step slots 1 0 0 none) (k ∷ [], []) found m'
  tells slots k ticket found m' waits told k' ticket' same waits' =
      let to : k ≡ k' = ap (λ (z : M). head_or k z.0) same in
      let tickets : ticket ≡ ticket' = ap ticket_of (sym waits ∙ (ap (λ (j : K). j.stage) to ∙ waits')) in
      subst (λ (z : ℕ × K). Told found z.0 z.1 (k ∷ [], []) m' (eqb found z.0)) (λ i. (tickets i, to i)) told

  pub looks : (slots id : ℕ) (k : K) (ticket : ℕ) → k.stage ≡ Waits ticket
      → Allows Rule slots id (k ∷ [], []) 1 (λ n. n) (looked entries by name_of (step slots 1 0 0 none) (k ∷ [], []))
  looks slots id k ticket waits s r deep at small =
      let found : ℕ = get_or s.words 1 0 in
      dite (ℕ_discrete found ticket)
      (λ served.
      let t = takes_up s r id k ticket at waits served r.home refl r.at_home in (
        begun entries ticket t.0 k ∷ [],
        takes 0 (Some t.0),
        ap (λ hs. get_elem? hs 0) t.1,
        t.2,
        tells slots k ticket found (begun entries ticket t.0 k ∷ [], (0, Some t.0) ∷ []) waits
            (subst (Told found ticket k (k ∷ [], []) (begun entries ticket t.0 k ∷ [], (0, Some t.0) ∷ [])) (sym (eq-eqb found ticket served)) t.3),
      ))
      (λ other. (
        k ∷ [],
        keeps,
        tt,
        unmoved s r id (k ∷ []) at,
        tells slots k ticket found (k ∷ [], []) waits (subst (Told found ticket k (k ∷ [], []) (k ∷ [], [])) (sym (ne_eqb found ticket other)) refl),
      ))

  -- where the turn is passed on, the others stand as before
  stands_after : (next serving : ℕ) (out : Bool) (holder : ℕ → ℕ) (log log' : List E) (me number : ℕ) → number ≢ me → holder serving ≡ me
      → (seen : List E) (st : Stage) → Stands next serving out holder log number seen st → Stands next (serving + 1) false holder log' number seen st
  stands_after next serving out holder log log' me number other mine seen Idle h = tt
  stands_after next serving out holder log log' me number other mine seen (Waits m) h =
      let more = h.0 in
      let apart : m ≢ serving = λ served. other (sym h.2 ∙ (ap holder served ∙ mine)) in
      (omega arith, h.1, h.2, λ _. refl)
  stands_after next serving out holder log log' me number other mine seen (Has m) h = absurd (other (sym h.2 ∙ (ap holder h.0 ∙ mine)))
  stands_after next serving out holder log log' me number other mine seen Late h = tt

  -- entries of one pass are all its own, and none of another's
  own_kept : (number : ℕ) (own : List E) → All (λ e. by e ≡ number) own → of_pass by number own ≡ own
  own_kept number [] all = refl
  own_kept number (e ∷ es) all =
      let P : E → Type 0 = λ e. by e ≡ number in
      ap (λ b. cond b (e ∷ of_pass by number es) (of_pass by number es)) (eq-eqb (by e) number (All-head P e es all)) ∙ ap (λ z. e ∷ z) (own_kept number es (All-tail P e es all))

  own_apart : (number other : ℕ) → other ≢ number → (own : List E) → All (λ e. by e ≡ number) own → of_pass by other own ≡ []
  own_apart number other apart [] all = refl
  own_apart number other apart (e ∷ es) all =
      let P : E → Type 0 = λ e. by e ≡ number in
      ap (λ b. cond b (e ∷ of_pass by other es) (of_pass by other es)) (ne_eqb (by e) other (λ is. apart (sym is ∙ All-head P e es all))) ∙ own_apart number other apart es (All-tail P e es all)

  drop_before : (xs ys : List E) → drop (length xs) (xs ++ ys) ≡ ys
  drop_before [] ys = refl
  drop_before (x ∷ xs) ys = drop_before xs ys

  -- the table after the turn is passed on
  passed_rule : (s : St) (r : Rule s) (id : ℕ) (k : K) (ticket : ℕ) (x : T) → get_elem? s.views id ≡ some (k ∷ []) → k.stage ≡ Has ticket → name_of x ≡ k.name → AddedBy by k.number k.seen (entries x)
      → Rule (stepped s 1 (ticket + 1) id ((0, Some x) ∷ []) (ended entries x k ∷ []) gives)
  passed_rule s r id k ticket x at has named added =
      let mine = All-head (Fits r.next r.serving (is_out r.home) r.holder r.log by passes name) k [] (r.fits id (k ∷ []) at) in
      let stands : Stands r.next r.serving (is_out r.home) r.holder r.log k.number k.seen (Has ticket) =
      subst (Stands r.next r.serving (is_out r.home) r.holder r.log k.number k.seen) has mine.stands in
      let holds : r.holder r.serving ≡ k.number = ap r.holder (sym stands.0) ∙ stands.2 in
      let longer : entries x ≡ r.log ++ added.0 = added.1 ∙ ap (λ z. z ++ added.0) stands.4 in
      let own : All (λ e. by e ≡ k.number) added.0 = added.2 in
      let k' : K = ended entries x k in
      let less = stands.1 in
      let turn = stands.0 in
      record {
        next = r.next;
        serving = r.serving + 1;
        home = some (Some x);
        log = entries x;
        holder = r.holder;
        words = ap (λ ws. set ws 1 (ticket + 1)) r.words ∙ ap (λ n. r.next ∷ (n + 1) ∷ []) stands.0;
        homes = ap (λ hs. set hs 0 (some (Some x))) r.homes;
        at_home = (refl, named ∙ mine.named);
        line = omega arith;
        busy = λ out. absurd (false≢true out);
        few = r.few;
        whose = subst (All (λ e. by e < passes)) (sym longer)
            (All-append (λ e. by e < passes) r.log added.0 r.whose (All-weaker (λ e. by e ≡ k.number) (λ e. by e < passes) (λ e is. subst (λ n. n < passes) (sym is) mine.numbered) added.0 own));
        fits = others_fit s r id k k' at (Fits r.next (r.serving + 1) false r.holder (entries x) by passes name)
            record {
              named = mine.named;
              numbered = mine.numbered;
              seen = ([], sym (append-nil (entries x)));
              mine = ap (of_pass by k.number) longer ∙ (filter-append (λ e. eqb (by e) k.number) r.log added.0 ∙ λ i. mine.mine i ++
                  (own_kept k.number added.0 own ∙ sym (ap (drop (length k.seen)) added.1 ∙ drop_before k.seen added.0)) i);
              stands = tt;
            }
            (λ j other fit. record {
              named = fit.named;
              numbered = fit.numbered;
              seen = (fit.seen.0 ++ added.0, longer ∙ (ap (λ z. z ++ added.0) fit.seen.1 ∙ append_assoc j.seen fit.seen.0 added.0));
              mine = ap (of_pass by j.number) longer ∙ (filter-append (λ e. eqb (by e) j.number) r.log added.0 ∙ ((λ i. fit.mine i ++ own_apart k.number j.number other added.0 own i) ∙ append-nil j.mine));
              stands = stands_after r.next r.serving (is_out r.home) r.holder r.log (entries x) k.number j.number other holds j.seen j.stage fit.stands;
            });
        all = let sum = changed (λ j. 1) s.views id k k' at in let was = r.all in omega arith;
        once = λ number. let sum = changed (λ j. one_if (eqb j.number number)) s.views id k k' at in let was = r.once number in omega arith;
        turns =
            let sum = changed (λ j. one_if (has_turn j.stage)) s.views id k k' at in
            let one_before : one_if (has_turn k.stage) ≡ 1 = ap (λ z. one_if (has_turn z)) has in
            let was : total (λ j. one_if (has_turn j.stage)) s.views ≡ 1 = r.turns ∙ ap one_if stands.3 in
            omega arith;
        drawn =
            let sum = changed (λ j. one_if (is_late j.stage)) s.views id k k' at in
            let none_before : one_if (is_late k.stage) ≡ 0 = ap (λ z. one_if (is_late z)) has in
            let was = r.drawn in
            omega arith;
      }

  abbrev value_or : T → List (ℕ × Option T) → T
  value_or x ((slot, Some y) ∷ _) = y
  value_or x _ = x

  pub passes_on : (slots id : ℕ) (k : K) (ticket : ℕ) (x : T) → k.stage ≡ Has ticket → name_of x ≡ k.name → AddedBy by k.number k.seen (entries x)
      → Allows Rule slots id (k ∷ [], (0, Some x) ∷ []) 1 (λ _. ticket + 1) (λ _. passed_on entries (step slots 1 (ticket + 1) 0 none) (k ∷ [], (0, Some x) ∷ []) (ticket + 1))
  passes_on slots id k ticket x has named added s r deep at small = (
    ended entries x k ∷ [],
    gives,
    tt,
    passed_rule s r id k ticket x at has named added,
    λ k' y same. ap (λ (m : M). (ended entries (value_or x m.1) (head_or k m.0) ∷ [], [])) same,
  )

  -- the sums over all views are the same where one view is cut in two
  cut : (f : K → ℕ) (views : List (List K)) (id : ℕ) (v : List K) → get_elem? views id ≡ some v → total f (set views id (drop 1 v) ++ take 1 v ∷ []) ≡ total f views
  cut f views id v at = omega (
    arith,
    sum_by-append (sum_by f) (set views id (drop 1 v)) (take 1 v ∷ []),
    sum_by_set (sum_by f) views id v (drop 1 v) at,
    sum_by-take-drop f v 1,
  )

  -- and where one takes in another
  joined : (f : K → ℕ) (views : List (List K)) (id other : ℕ) (v w : List K) → get_elem? views id ≡ some v → get_elem? (set views id (v ++ w)) other ≡ some w
      → total f (set (set views id (v ++ w)) other []) ≡ total f views
  joined f views id other v w at at' = omega (
    arith,
    sum_by-append f v w,
    sum_by_set (sum_by f) views id v (v ++ w) at,
    sum_by_set (sum_by f) (set views id (v ++ w)) other w [] at',
  )

  -- a change of views that keeps all sums, and in which each pass has a view that it had before
  resown : (s : St) (r : Rule s) (views : List (List K)) → ((f : K → ℕ) → total f views ≡ total f s.views)
      → ((i : ℕ) (v : List K) → get_elem? views i ≡ some v → All (Fits r.next r.serving (is_out r.home) r.holder r.log by passes name) v)
      → Rule record { words = s.words; homes = s.homes; views = views }
  resown s r views sums fits = record {
    next = r.next;
    serving = r.serving;
    home = r.home;
    log = r.log;
    holder = r.holder;
    words = r.words;
    homes = r.homes;
    at_home = r.at_home;
    line = r.line;
    busy = r.busy;
    few = r.few;
    whose = r.whose;
    fits = fits;
    all = sums (λ k. 1) ∙ r.all;
    once = λ number. subst (λ n. n ≤ 1) (sym (sums (λ k. one_if (eqb k.number number)))) (r.once number);
    turns = sums (λ k. one_if (has_turn k.stage)) ∙ r.turns;
    drawn = subst (λ n. r.next ≤ 2 ^ 62 + n) (sym (sums (λ k. one_if (is_late k.stage)))) r.drawn;
  }

  pub splits : (id : ℕ) (v : List K) → Splits Rule id v (drop 1 v) (take 1 v)
  splits id v s r at =
      let P : K → Type 0 = Fits r.next r.serving (is_out r.home) r.holder r.log by passes name in
      let here : All P v = r.fits id v at in
      resown s r (set s.views id (drop 1 v) ++ take 1 v ∷ []) (λ f. cut f s.views id v at) (λ i w e. ⊎_elim
      (λ (old : get_elem? (set s.views id (drop 1 v)) i ≡ some w). ⊎_elim
      (λ (t : (i ≡ id) × (drop 1 v ≡ w)). subst (All P) t.1 (All-drop P 1 v here))
      (λ (t : (i ≢ id) × (get_elem? s.views i ≡ some w)). r.fits i w t.1)
      (at_set s.views id i (drop 1 v) w old))
      (λ (new : take 1 v ≡ w). subst (All P) new (All-take P 1 v here))
      (at_snoc (set s.views id (drop 1 v)) (take 1 v) w i e))

  pub joins : (id : ℕ) (v : List K) (other : ℕ) (w : List K) → Joins Rule id v other w (v ++ w) []
  joins id v other w s r at apart at' =
      let P : K → Type 0 = Fits r.next r.serving (is_out r.home) r.holder r.log by passes name in
      let there : get_elem? s.views other ≡ some w = sym (set_else s.views id other (v ++ w) apart) ∙ at' in
      resown s r (set (set s.views id (v ++ w)) other []) (λ f. joined f s.views id other v w at at') (λ i u e. ⊎_elim
      (λ (t : (i ≡ other) × ([] ≡ u)). subst (All P) t.1 (All-nil P))
      (λ (t : (i ≢ other) × (get_elem? (set s.views id (v ++ w)) i ≡ some u)). ⊎_elim
      (λ (t : (i ≡ id) × ((v ++ w) ≡ u)). subst (All P) t.1 (All-append P v w (r.fits id v at) (r.fits other w there)))
      (λ (t : (i ≢ id) × (get_elem? s.views i ≡ some u)). r.fits i u t.1)
      (at_set s.views id i (v ++ w) u t.1))
      (at_set (set s.views id (v ++ w)) other i [] u e))

  -- the same for a seat of which it is known what it has
  pub draws_for : (slots id : ℕ) (m : M) (k : K) → IsSame m (k ∷ [], []) → k.stage ≡ Idle → Allows Rule slots id m 0 (λ n. (n + 1) % 2 ^ 64) (drew {T = T} {E = E} (step slots 0 1 0 none) m)
  draws_for slots id m k is idle =
      subst (λ (z : M). Allows Rule slots id z 0 (λ n. (n + 1) % 2 ^ 64) (drew {T = T} {E = E} (step slots 0 1 0 none) z)) (sym is) (draws slots id k idle)

  pub looks_for : (slots id : ℕ) (m : M) (k : K) (ticket : ℕ) → IsSame m (k ∷ [], []) → k.stage ≡ Waits ticket → Allows Rule slots id m 1 (λ n. n) (looked entries by name_of (step slots 1 0 0 none) m)
  looks_for slots id m k ticket is waits =
      subst (λ (z : M). Allows Rule slots id z 1 (λ n. n) (looked entries by name_of (step slots 1 0 0 none) z)) (sym is) (looks slots id k ticket waits)

  pub passes_on_for : (slots id : ℕ) (m : M) (k : K) (ticket next : ℕ) (x : T) → IsSame m (k ∷ [], (0, Some x) ∷ []) → next ≡ ticket + 1 → k.stage ≡ Has ticket → name_of x ≡ k.name
      → AddedBy by k.number k.seen (entries x) → Allows Rule slots id m 1 (λ _. next) (λ _. passed_on entries (step slots 1 next 0 none) m next)
  passes_on_for slots id m k ticket next x is more has named added =
      subst (λ (z : M × ℕ). Allows Rule slots id z.0 1 (λ _. z.1) (λ _. passed_on entries (step slots 1 z.1 0 none) z.0 z.1)) (λ i. (sym is i, sym more i)) (passes_on slots id k ticket x has named added)

-- what a seat has in the slot that it holds
pub held : {S : Type 0} (slots : List (ℕ × S)) (x : S) → slots ≡ (0, x) ∷ [] → slots ≡ (0, x) ∷ rest slots
held slots x is = is ∙ sym (ap (λ z. (0, x) ∷ rest z) is)

module _ (T E : Type 0) where
  abbrev pub Pass : Type 0
  Pass = Me (Option T) (List (Known E))

  abbrev pub Same : Pass → Pass → Type 0
  Same m m' = m ≡ m'

  -- a seat that has put a value into the slot that it holds
  pub put_back : (m m' : Pass) (k : Known E) (x : T) → Same m (k ∷ [], (0, None) ∷ []) → Same m' (m.0, (0, Some x) ∷ rest m.1) → Same m' (k ∷ [], (0, Some x) ∷ [])
  put_back m m' k x is put = put ∙ ap (λ (z : Pass). (z.0, (0, Some x) ∷ rest z.1)) is

  pub ready : (m : Pass) (k : Known E) → Same m (at_stage Idle k ∷ [], []) → Same m (at_stage Idle (known_of m.0) ∷ [], [])
  ready m k is = is ∙ sym (ap (λ (z : Pass). (at_stage Idle (known_of z.0) ∷ [], [])) is)

  pub known_is : (m : Pass) (k : Known E) (slots : List (ℕ × Option T)) → Same m (k ∷ [], slots) → known_of m.0 ≡ k
  known_is m k slots is = ap (λ (z : Pass). known_of z.0) is

  -- a seat that took in another
  pub gathered : (m m' mine : Pass) (v : List (Known E)) → Same m' (mine.0 ++ m.0, mine.1) → Same m (v, []) → Same mine (at_stage Idle (known_of mine.0) ∷ [], []) → Same m' (known_of mine.0 ∷ v, [])
  gathered m m' mine v new others is =
      let k : Known E = at_stage Idle (known_of mine.0) in
      let both : Same (mine.0 ++ m.0, mine.1) (k ∷ v, []) = λ i. ((is i).0 ++ (others i).0, (is i).1) in
      let back : Same (k ∷ v, []) (known_of mine.0 ∷ v, []) = ap (λ (j : Known E). (j ∷ v, [])) (sym (known_is mine k [] is)) in
      new ∙ (both ∙ back)

-- The steps of decisions, told one after the other by their points.
use Rattle.std.proofs.Common.{◌≡◌, ℕ, zero, suc, ℤ, ◌+◌, ◌<◌, ◌≤◌, get_or, List, [], ◌∷◌, ◌++◌, length, map, drop, Option, Some, None, refl, sym, ap, subst, ◌∙◌, arith, append-nil, append_assoc, length-append, option_map}
use Rattle.std.specs.Prelude.{slice_get}
use Rattle.std.specs.List.{AllZip, cons_option}
use Rattle.std.proofs.lemmas.List.{drop-drop, map-append}
use Rattle.std.proofs.lemmas.List.Elements.{filter_map-append}
use Rattle.std.proofs.lemmas.Option.{slice_get-map, slice_get-get_or}
use Rattle.std.proofs.Math.Seq.{drop-append_seam}
use Rattle.partlog.specs.History.{History}
use Rattle.partlog.specs.State.{PartState, state_before, state_at}
use Rattle.kwire.specs.declared.request.ProducePart.{ProducePart}
use Rattle.kwire.specs.declared.request.ProduceTopic.{ProduceTopic}
use Rattle.kwire.specs.declared.request.FetchPart.{FetchPart}
use Rattle.kwire.specs.declared.request.FetchTopic.{FetchTopic}
use Rattle.kwire.specs.Configuration.{Configuration, part_of}
use Rattle.kanswer.specs.declared.accepted.Accepted.{Accepted}
use Rattle.kanswer.specs.declared.terms.Terms.{Terms}
use Rattle.kanswer.specs.OnTerms.{OnTerms}
use Rattle.kanswer.specs.declared.accepted.Accepted.TheVariants.{Refused}
use Rattle.kanswer.specs.Decisions.{Outcome, Decision, Refuse, AskLog, ProduceDecides, produce_parts, fetch_decision, fetch_parts, fetch_decisions}
use Rattle.audit.specs.declared.account.Account.{Account}
use Rattle.audit.specs.declared.account.PartAccount.{PartAccount}
use Rattle.audit.specs.declared.account.Point.{Point}
use Rattle.audit.specs.Histories.{at_in, at_point, before_in, before_point, history_of}
use Rattle.audit.specs.LawfulCall.{IsStep, Step, step_points}
use Rattle.kbytes.proofs.Laws.{some_is}
use Rattle.audit.specs.retelling.Retells.{IsRetold, Retells, RetellsProduce, SoFar, place_of}

-- ---- a partition of an account and its past

part_there : (pasts : List History) (parts : List PartAccount) (part : ℕ) (past : History) → map history_of parts ≡ pasts → slice_get pasts part ≡ Some past
    → (p : PartAccount) × (slice_get parts part ≡ Some p) × (history_of p ≡ past)
part_there pasts parts part past same there = by_option (slice_get parts part) refl (sym (slice_get-map history_of parts part) ∙ ap (λ (hs : List History). slice_get hs part) same ∙ there)
  where
    by_option : (o : Option PartAccount) → slice_get parts part ≡ o → option_map history_of o ≡ Some past → (p : PartAccount) × (slice_get parts part ≡ Some p) × (history_of p ≡ past)
    by_option None is e = absurd cc
    by_option (Some p) is e = (p, is, some_is (history_of p) past e)

pub before_there : (account : Account) (pasts : List History) (part place : ℕ) (past : History) → map history_of account.parts ≡ pasts → slice_get pasts part ≡ Some past
    → before_point account (record { part = part; place = place }) ≡ state_before past place
before_there account pasts part place past same there =
    let p = part_there pasts account.parts part past same there in
    ap (λ (o : Option PartAccount). before_in o place) p.1 ∙ ap (λ (h : History). state_before h place) p.2

pub at_there : (account : Account) (pasts : List History) (part place : ℕ) (past : History) → map history_of account.parts ≡ pasts → slice_get pasts part ≡ Some past
    → at_point account (record { part = part; place = place }) ≡ state_at past place
at_there account pasts part place past same there =
    let p = part_there pasts account.parts part past same there in
    ap (λ (o : Option PartAccount). at_in o place) p.1 ∙ ap (λ (h : History). state_at h place) p.2

-- ---- an item by its place

pub item_there : {X : Type 0} (xs : List X) (i : ℕ) (x : X) → i < length xs → x ≡ get_or xs i x → slice_get xs i ≡ Some x
item_there xs i x lt is = slice_get-get_or xs i x lt ∙ ap Some (sym is)

pub none_there : {X : Type 0} (xs : List X) (i : ℕ) → length xs ≤ i → slice_get xs i ≡ None
none_there [] i le = refl
none_there (x ∷ xs) zero le = absurd (omega (arith, le))
none_there (x ∷ xs) (suc i) le = none_there xs i (omega (arith, le))

-- ---- one decision

refused_steps : (pasts : List History) (points : List Point) (code : ℤ) (before after : SoFar)
    → after ≡ record { accepted = before.accepted ++ Refused code ∷ []; places = before.places ++ 0 ∷ []; taken = before.taken }
    → (account : Account) (steps : List Step) (rest : List Point) → map history_of account.parts ≡ pasts → AllZip (IsStep account) (Refuse code ∷ []) steps → drop before.taken points ≡ step_points steps ++ rest → IsRetold steps before after
refused_steps pasts points code before after e account [] rest same each left = absurd each
refused_steps pasts points code before after e account (s ∷ t ∷ steps) rest same each left = absurd each.1
refused_steps pasts points code before after e account (s ∷ []) rest same each left =
    subst (λ (step : Step). IsRetold (step ∷ []) before after) (sym each.0) (record {
      accepted = ap (λ (r : SoFar). r.accepted) e;
      places = ap (λ (r : SoFar). r.places) e;
      taken = ap (λ (r : SoFar). r.taken) e ∙ omega arith;
    })

first_left : {X : Type 0} (xs : List X) (n : ℕ) (x : X) (rest : List X) → drop n xs ≡ x ∷ rest → slice_get xs n ≡ Some x
first_left [] zero x rest e = absurd cc
first_left [] (suc n) x rest e = absurd cc
first_left (y ∷ xs) zero x rest e = ap (λ ys. slice_get ys 0) e
first_left (y ∷ xs) (suc n) x rest e = first_left xs n x rest e

asked_steps : (pasts : List History) (points : List Point) (part : ℕ) (outcome : PartState → Outcome) (before after : SoFar) (point : Point) (past : History) (became : Accepted)
    → slice_get points before.taken ≡ Some point → slice_get pasts part ≡ Some past → became ≡ (outcome (state_before past point.place)).result
    → after ≡ record { accepted = before.accepted ++ became ∷ []; places = before.places ++ point.place ∷ []; taken = before.taken + 1 }
    → (account : Account) (steps : List Step) (rest : List Point) → map history_of account.parts ≡ pasts → AllZip (IsStep account) (AskLog part outcome ∷ []) steps → drop before.taken points ≡ step_points steps ++ rest → IsRetold steps before after
asked_steps pasts points part outcome before after point past became at there is e account [] rest same each left = absurd each
asked_steps pasts points part outcome before after point past became at there is e account (s ∷ t ∷ steps) rest same each left = absurd each.1
asked_steps pasts points part outcome before after point past became at there is e account (s ∷ []) rest same each left =
    let asks = each.0 in
    let points_of_it : step_points (s ∷ []) ≡ asks.point ∷ [] = ap (λ (o : Option Point). cons_option o []) asks.left in
    let first = first_left points before.taken asks.point rest (left ∙ ap (λ (ps : List Point). ps ++ rest) points_of_it) in
    let it : asks.point ≡ point = some_is asks.point point (sym first ∙ at) in
    let here : point ≡ record { part = part; place = point.place } = ap (λ (n : ℕ). let q : Point = record { part = n; place = point.place } in q) (sym (ap (λ (p : Point). p.part) it) ∙ asks.there) in
    let state : before_point account asks.point ≡ state_before past point.place = ap (before_point account) (it ∙ here) ∙ before_there account pasts part point.place past same there in
    let result : became ≡ s.result = is ∙ ap (λ (state : PartState). (outcome state).result) (sym state) ∙ sym asks.result in
    let place : point.place ≡ place_of s.point = ap (λ (p : Point). p.place) (sym it) ∙ ap place_of (sym asks.left) in
    record {
      accepted = ap (λ (r : SoFar). r.accepted) e ∙ ap (λ (a : Accepted). before.accepted ++ a ∷ []) result;
      places = ap (λ (r : SoFar). r.places) e ∙ ap (λ (n : ℕ). before.places ++ n ∷ []) place;
      taken = ap (λ (r : SoFar). r.taken) e ∙ omega (arith, ap length points_of_it);
    }

-- where no point is left, nothing was asked
unasked_steps : (pasts : List History) (points : List Point) (part : ℕ) (outcome : PartState → Outcome) (before after : SoFar) → slice_get points before.taken ≡ None
    → (account : Account) (steps : List Step) (rest : List Point) → map history_of account.parts ≡ pasts → AllZip (IsStep account) (AskLog part outcome ∷ []) steps → drop before.taken points ≡ step_points steps ++ rest → IsRetold steps before after
unasked_steps pasts points part outcome before after none account [] rest same each left = absurd each
unasked_steps pasts points part outcome before after none account (s ∷ steps) rest same each left =
    let asks = each.0 in
    let points_of_it : step_points (s ∷ steps) ≡ asks.point ∷ step_points steps = ap (λ (o : Option Point). cons_option o (step_points steps)) asks.left in
    let first = first_left points before.taken asks.point (step_points steps ++ rest) (left ∙ ap (λ (ps : List Point). ps ++ rest) points_of_it) in
    absurd (differ asks.point (sym none ∙ first))
  where
    differ : (p : Point) → None ≡ Some p → ⊥
    differ p e = cc

-- ---- one after the other

none_steps : (pasts : List History) (points : List Point) (sofar : SoFar)
    → (account : Account) (steps : List Step) (rest : List Point) → map history_of account.parts ≡ pasts → AllZip (IsStep account) [] steps → drop sofar.taken points ≡ step_points steps ++ rest → IsRetold steps sofar sofar
none_steps pasts points sofar account [] rest same each left = record { accepted = sym (append-nil sofar.accepted); places = sym (append-nil sofar.places); taken = omega arith }
none_steps pasts points sofar account (s ∷ steps) rest same each left = absurd each

record Parted {A B : Type 0} (P : A → B → Type 0) (xs ys : List A) (zs : List B) : Type 0 where
  pub front : List B
  pub back : List B
  pub whole : zs ≡ front ++ back
  pub first : AllZip P xs front
  pub second : AllZip P ys back

parted : {A B : Type 0} (P : A → B → Type 0) (xs ys : List A) (zs : List B) → AllZip P (xs ++ ys) zs → Parted P xs ys zs
parted P [] ys zs all = record { front = []; back = zs; whole = refl; first = tt; second = all }
parted P (x ∷ xs) ys [] all = absurd all
parted P (x ∷ xs) ys (z ∷ zs) all =
    let rest = parted P xs ys zs all.1 in
    record { front = z ∷ rest.front; back = rest.back; whole = ap (λ (l : List _). z ∷ l) rest.whole; first = (all.0, rest.first); second = rest.second }

both_steps : (pasts : List History) (points : List Point) (xs ys : List Decision) (a b c : SoFar) → Retells pasts points xs a b → Retells pasts points ys b c
    → (account : Account) (steps : List Step) (rest : List Point) → map history_of account.parts ≡ pasts → AllZip (IsStep account) (xs ++ ys) steps → drop a.taken points ≡ step_points steps ++ rest → IsRetold steps a c
both_steps pasts points xs ys a b c f g account steps rest same each left =
    let p = parted (IsStep account) xs ys steps each in
    let front = step_points p.front in
    let back = step_points p.back in
    let points_of : step_points steps ≡ front ++ back = ap step_points p.whole ∙ filter_map-append (λ (s : Step). s.point) p.front p.back in
    let all : drop a.taken points ≡ front ++ (back ++ rest) = left ∙ ap (λ (ps : List Point). ps ++ rest) points_of ∙ append_assoc front back rest in
    let first = f.each account p.front (back ++ rest) same p.first all in
    let behind : drop b.taken points ≡ back ++ rest =
    ap (λ (n : ℕ). drop n points) first.taken ∙ sym (drop-drop (length front) a.taken points) ∙ ap (drop (length front)) all ∙ drop-append_seam front (back ++ rest) in
    let second = g.each account p.back rest same p.second behind in
    subst (λ (ss : List Step). IsRetold ss a c) (sym p.whole) (record {
      accepted = second.accepted ∙ ap (λ (l : List Accepted). l ++ map (λ (s : Step). s.result) p.back) first.accepted
          ∙ append_assoc a.accepted (map (λ (s : Step). s.result) p.front) (map (λ (s : Step). s.result) p.back)
          ∙ ap (λ (l : List Accepted). a.accepted ++ l) (sym (map-append (λ (s : Step). s.result) p.front p.back));
      places = second.places ∙ ap (λ (l : List ℕ). l ++ map (λ (s : Step). place_of s.point) p.back) first.places
          ∙ append_assoc a.places (map (λ (s : Step). place_of s.point) p.front) (map (λ (s : Step). place_of s.point) p.back)
          ∙ ap (λ (l : List ℕ). a.places ++ l) (sym (map-append (λ (s : Step). place_of s.point) p.front p.back));
      taken = omega (arith, second.taken, first.taken, ap length (filter_map-append (λ (s : Step). s.point) p.front p.back), length-append front back);
    })

-- ---- as they are cited

pub refused_retells : (pasts : List History) (points : List Point) (code : ℤ) (before after : SoFar)
    → after ≡ record { accepted = before.accepted ++ Refused code ∷ []; places = before.places ++ 0 ∷ []; taken = before.taken } → Retells pasts points (Refuse code ∷ []) before after
refused_retells pasts points code before after e = record { each = refused_steps pasts points code before after e }

pub asked_retells : (pasts : List History) (points : List Point) (part : ℕ) (outcome : PartState → Outcome) (before after : SoFar) (point : Point) (past : History) (became : Accepted)
    → slice_get points before.taken ≡ Some point → slice_get pasts part ≡ Some past → became ≡ (outcome (state_before past point.place)).result
    → after ≡ record { accepted = before.accepted ++ became ∷ []; places = before.places ++ point.place ∷ []; taken = before.taken + 1 } → Retells pasts points (AskLog part outcome ∷ []) before after
asked_retells pasts points part outcome before after point past became at there is e = record { each = asked_steps pasts points part outcome before after point past became at there is e }

pub unasked_retells : (pasts : List History) (points : List Point) (part : ℕ) (outcome : PartState → Outcome) (before after : SoFar) → slice_get points before.taken ≡ None → Retells pasts points (AskLog part outcome ∷ []) before after
unasked_retells pasts points part outcome before after none = record { each = unasked_steps pasts points part outcome before after none }

pub none_retells : (pasts : List History) (points : List Point) (sofar : SoFar) → Retells pasts points [] sofar sofar
none_retells pasts points sofar = record { each = none_steps pasts points sofar }

pub both_retell : (pasts : List History) (points : List Point) (xs ys : List Decision) (a b c : SoFar) → Retells pasts points xs a b → Retells pasts points ys b c → Retells pasts points (xs ++ ys) a c
both_retell pasts points xs ys a b c f g = record { each = both_steps pasts points xs ys a b c f g }

-- ---- fetches

-- some topics, and then others
pub fetched_on : (config : Configuration) (replica : ℤ) (pasts : List History) (points : List Point) (ts us vs : List FetchTopic) (a b c : SoFar) → fetch_parts vs ≡ fetch_parts ts ++ fetch_parts us
    → Retells pasts points (fetch_decisions config replica (fetch_parts ts)) a b → Retells pasts points (fetch_decisions config replica (fetch_parts us)) b c → Retells pasts points (fetch_decisions config replica (fetch_parts vs)) a c
fetched_on config replica pasts points ts us vs a b c same f g =
    let decide = λ (named : List ℕ × FetchPart). fetch_decision config replica named (part_of config named.0 named.1.index) in
    subst (λ (ds : List Decision). Retells pasts points ds a c) (sym (ap (map decide) same ∙ map-append decide (fetch_parts ts) (fetch_parts us)))
    (both_retell pasts points (fetch_decisions config replica (fetch_parts ts)) (fetch_decisions config replica (fetch_parts us)) a b c f g)

-- ---- produces

pub produced_none : (config : Configuration) (terms : Terms) (pasts : List History) (points : List Point) (topics : List ProduceTopic) (sofar : SoFar) → produce_parts topics ≡ []
    → RetellsProduce config terms pasts points topics sofar sofar
produced_none config terms pasts points topics sofar none = record {
  decisions = [];
  decided = λ id e. subst (λ (ns : List (List ℕ × ProducePart)). AllZip (ProduceDecides config terms.version id terms.acks) ns []) (sym none) tt;
  retold = none_retells pasts points sofar;
}

pub all_zip_append : {A B : Type 0} (P : A → B → Type 0) (xs ys : List A) (zs ws : List B) → AllZip P xs zs → AllZip P ys ws → AllZip P (xs ++ ys) (zs ++ ws)
all_zip_append P [] ys [] ws h k = k
all_zip_append P [] ys (z ∷ zs) ws h k = absurd h
all_zip_append P (x ∷ xs) ys [] ws h k = absurd h
all_zip_append P (x ∷ xs) ys (z ∷ zs) ws h k = (h.0, all_zip_append P xs ys zs ws h.1 k)

pub produced_on : (config : Configuration) (terms : Terms) (pasts : List History) (points : List Point) (ts us vs : List ProduceTopic) (a b c : SoFar) → produce_parts vs ≡ produce_parts ts ++ produce_parts us
    → RetellsProduce config terms pasts points ts a b → RetellsProduce config terms pasts points us b c → RetellsProduce config terms pasts points vs a c
produced_on config terms pasts points ts us vs a b c same f g = record {
  decisions = f.decisions ++ g.decisions;
  decided = λ id e. subst (λ (ns : List (List ℕ × ProducePart)). AllZip (ProduceDecides config terms.version id terms.acks) ns (f.decisions ++ g.decisions)) (sym same)
      (all_zip_append (ProduceDecides config terms.version id terms.acks) (produce_parts ts) (produce_parts us) f.decisions g.decisions (f.decided id e) (g.decided id e));
  retold = both_retell pasts points f.decisions g.decisions a b c f.retold g.retold;
}

pub produced_one : (config : Configuration) (terms : Terms) (pasts : List History) (points : List Point) (name : List ℕ) (part : ProducePart) (decision : Decision) (a b : SoFar)
    → OnTerms terms (λ id. ProduceDecides config terms.version id terms.acks (name, part) decision) → Retells pasts points (decision ∷ []) a b
    → RetellsProduce config terms pasts points (record { name = name; parts = part ∷ [] } ∷ []) a b
produced_one config terms pasts points name part decision a b decided retold = record { decisions = decision ∷ []; decided = λ id e. (decided id e, tt); retold = retold }

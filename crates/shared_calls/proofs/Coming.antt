-- What came of some partitions and then of others, and of those of a topic or of several.
use Rattle.std.proofs.Common.{◌≡◌, ℕ, suc, ◌+◌, ◌<◌, ℤ, List, [], ◌∷◌, ◌++◌, length, get_or, map, take, drop, refl, sym, ap, subst, ◌∙◌, append_assoc, append-nil}
use Rattle.std.proofs.Math.Seq.{split_at}
use Rattle.std.proofs.lemmas.Grind.{flat_map-append}
use Rattle.std.proofs.lemmas.List.{map-append, take_more}
use Rattle.std.specs.List.{AllZip, flat_map}
use Rattle.audit.specs.declared.account.Point.{Point}
use Rattle.partlog.specs.declared.numbers.Numbers.{Numbers}
use Rattle.kanswer.specs.declared.accepted.Accepted.{Accepted}
use Rattle.kanswer.specs.declared.accepted.Budget.{Budget}
use Rattle.kanswer.specs.declared.accepted.Reading.{Reading}
use Rattle.kanswer.specs.Answer.{batches_as, budget_after, budget_behind}
use Rattle.kanswer.specs.Decisions.{Decision, ProduceDecides}
use Rattle.kanswer.specs.LogReadings.{FetchReadings, ProduceReadings}
use Rattle.kanswer.specs.Numbered.{AreNumbers, IsNumbered}
use Rattle.kanswer.specs.Waiting.{Shown, results_of}
use Rattle.kwire.specs.Configuration.{Configuration}
use Rattle.kwire.specs.declared.request.FetchPart.{FetchPart}
use Rattle.kwire.specs.declared.request.ProducePart.{ProducePart}
use Rattle.kanswer.specs.declared.terms.Terms.{Terms}
use Rattle.audit.specs.broker.Entering.{Noted, shown_of}
use Rattle.shared_logs.specs.Shared.{LogPassView}
use Rattle.shared_calls.specs.Stand.{HasCome, HasFetched, HasProduced, IsResultOf, IsStopped, OnProduce, Stand}
use Rattle.shared_calls.proofs.Carrying.{carried_on, none_carried, stopped_before, stopped_on}

-- ---- lists, one item beside the other

pub zip_append : {A B : Type 0} (R : A → B → Type 0) (xs : List A) (ys : List B) (us : List A) (vs : List B) → AllZip R xs ys → AllZip R us vs → AllZip R (xs ++ us) (ys ++ vs)
zip_append R [] [] us vs a b = b
zip_append R [] (y ∷ ys) us vs a b = absurd a
zip_append R (x ∷ xs) [] us vs a b = absurd a
zip_append R (x ∷ xs) (y ∷ ys) us vs a b = (a.0, zip_append R xs ys us vs a.1 b)

pub record Split {A B : Type 0} (R : A → B → Type 0) (xs us : List A) (zs : List B) : Type 0 where
  pub first : List B
  pub then : List B
  pub both : zs ≡ first ++ then
  pub firsts : AllZip R xs first
  pub thens : AllZip R us then

pub zip_split : {A B : Type 0} (R : A → B → Type 0) (xs us : List A) (zs : List B) → AllZip R (xs ++ us) zs → Split R xs us zs
zip_split R [] us zs a = record { first = []; then = zs; both = refl; firsts = tt; thens = a }
zip_split R (x ∷ xs) us [] a = absurd a
zip_split {B = B} R (x ∷ xs) us (z ∷ zs) a =
    let rest = zip_split R xs us zs a.1 in
    record { first = z ∷ rest.first; then = rest.then; both = ap (λ (bs : List B). z ∷ bs) rest.both; firsts = (a.0, rest.firsts); thens = rest.thens }

shown_append : (xs ys : List Noted) → shown_of (xs ++ ys) ≡ shown_of xs ++ shown_of ys
shown_append xs ys = map-append (λ (n : Noted). let s : Shown = record { result = n.step.result; state = n.state } in s) xs ys

results_append : (xs ys : List Noted) → results_of (shown_of (xs ++ ys)) ≡ results_of (shown_of xs) ++ results_of (shown_of ys)
results_append xs ys = ap results_of (shown_append xs ys) ∙ map-append (λ (s : Shown). s.result) (shown_of xs) (shown_of ys)

later_still : {X : Type 0} (a b c x y : List X) → b ≡ a ++ x → c ≡ b ++ y → c ≡ a ++ (x ++ y)
later_still {X = X} a b c x y e f = f ∙ ap (λ (xs : List X). xs ++ y) e ∙ append_assoc a x y

-- ---- some and then others

pub come_none : (config : Configuration) (seq : ℕ) (a : Stand) → HasCome config seq [] a a []
come_none config seq a = record {
  carried = none_carried config seq a.pass a.points;
  results = tt;
  accepted = sym (append-nil a.came.accepted);
  numbers = [];
  numbers_are = sym (append-nil a.came.numbers);
  numbered = tt;
}

pub come_on : (config : Configuration) (seq : ℕ) (xs ys : List Decision) (a b c : Stand) (mx my : List Noted) → HasCome config seq xs a b mx → HasCome config seq ys b c my → HasCome config seq (xs ++ ys) a c (mx ++ my)
come_on config seq xs ys a b c mx my f g = record {
  carried = carried_on config seq xs ys a.pass a.points b.pass b.points c.pass c.points mx my f.carried g.carried;
  results = subst (AllZip IsResultOf (xs ++ ys)) (sym (results_append mx my)) (zip_append IsResultOf xs (results_of (shown_of mx)) ys (results_of (shown_of my)) f.results g.results);
  accepted = later_still a.came.accepted b.came.accepted c.came.accepted (results_of (shown_of mx)) (results_of (shown_of my)) f.accepted g.accepted ∙ ap (λ (rs : List Accepted). a.came.accepted ++ rs) (sym (results_append mx my));
  numbers = f.numbers ++ g.numbers;
  numbers_are = later_still a.came.numbers b.came.numbers c.came.numbers f.numbers g.numbers f.numbers_are g.numbers_are;
  numbered = subst (AreNumbers (f.numbers ++ g.numbers)) (sym (shown_append mx my))
      (zip_append (λ (n : Numbers) (s : Shown). IsNumbered n s.result s.state) f.numbers (shown_of mx) g.numbers (shown_of my) f.numbered g.numbered);
}

-- of a produce

produce_readings_append : (rs : List Accepted) (reads : List Reading) (shown : List Shown) (rs2 : List Accepted) (reads2 : List Reading) (shown2 : List Shown) → ProduceReadings rs reads shown → ProduceReadings rs2 reads2 shown2
    → ProduceReadings (rs ++ rs2) (reads ++ reads2) (shown ++ shown2)
produce_readings_append [] [] [] rs2 reads2 shown2 a b = b
produce_readings_append [] [] (s ∷ shown) rs2 reads2 shown2 a b = absurd a
produce_readings_append [] (r ∷ reads) shown rs2 reads2 shown2 a b = absurd a
produce_readings_append (x ∷ rs) [] shown rs2 reads2 shown2 a b = absurd a
produce_readings_append (x ∷ rs) (r ∷ reads) [] rs2 reads2 shown2 a b = absurd a
produce_readings_append (x ∷ rs) (r ∷ reads) (s ∷ shown) rs2 reads2 shown2 a b = (a.0, a.1, produce_readings_append rs reads shown rs2 reads2 shown2 a.2 b)

pub produced_none : (config : Configuration) (seq : ℕ) (a : Stand) → HasProduced config seq [] a a
produced_none config seq a = record { noted = []; come = come_none config seq a; readings = []; readings_are = sym (append-nil a.came.readings); read = tt }

pub produced_on : (config : Configuration) (seq : ℕ) (xs ys : List Decision) (a b c : Stand) → HasProduced config seq xs a b → HasProduced config seq ys b c → HasProduced config seq (xs ++ ys) a c
produced_on config seq xs ys a b c f g = record {
  noted = f.noted ++ g.noted;
  come = come_on config seq xs ys a b c f.noted g.noted f.come g.come;
  readings = f.readings ++ g.readings;
  readings_are = later_still a.came.readings b.came.readings c.came.readings f.readings g.readings f.readings_are g.readings_are;
  read = subst (λ (rs : List Accepted). ProduceReadings rs (f.readings ++ g.readings) (shown_of (f.noted ++ g.noted))) (sym (results_append f.noted g.noted))
      (subst (λ (ss : List Shown). ProduceReadings (results_of (shown_of f.noted) ++ results_of (shown_of g.noted)) (f.readings ++ g.readings) ss) (sym (shown_append f.noted g.noted))
      (produce_readings_append (results_of (shown_of f.noted)) f.readings (shown_of f.noted) (results_of (shown_of g.noted)) g.readings (shown_of g.noted) f.read g.read));
}

-- of a fetch

fetch_readings_append : (replica : ℤ) (asks : List FetchPart) (rs : List Accepted) (reads : List Reading) (shown : List Shown) (left : Budget) (asks2 : List FetchPart) (rs2 : List Accepted) (reads2 : List Reading) (shown2 : List Shown)
    → FetchReadings replica asks rs reads shown left → FetchReadings replica asks2 rs2 reads2 shown2 (budget_behind replica asks shown left)
    → FetchReadings replica (asks ++ asks2) (rs ++ rs2) (reads ++ reads2) (shown ++ shown2) left × (budget_behind replica (asks ++ asks2) (shown ++ shown2) left ≡ budget_behind replica asks2 shown2 (budget_behind replica asks shown left))
fetch_readings_append replica [] [] [] [] left asks2 rs2 reads2 shown2 a b = (b, refl)
fetch_readings_append replica [] [] [] (s ∷ shown) left asks2 rs2 reads2 shown2 a b = absurd a
fetch_readings_append replica [] [] (r ∷ reads) shown left asks2 rs2 reads2 shown2 a b = absurd a
fetch_readings_append replica [] (x ∷ rs) reads shown left asks2 rs2 reads2 shown2 a b = absurd a
fetch_readings_append replica (k ∷ asks) [] reads shown left asks2 rs2 reads2 shown2 a b = absurd a
fetch_readings_append replica (k ∷ asks) (x ∷ rs) [] shown left asks2 rs2 reads2 shown2 a b = absurd a
fetch_readings_append replica (k ∷ asks) (x ∷ rs) (r ∷ reads) [] left asks2 rs2 reads2 shown2 a b = absurd a
fetch_readings_append replica (k ∷ asks) (x ∷ rs) (r ∷ reads) (s ∷ shown) left asks2 rs2 reads2 shown2 a b =
    let rest = fetch_readings_append replica asks rs reads shown (budget_after (batches_as replica k s.result s.state left) left) asks2 rs2 reads2 shown2 a.2 b in
    ((a.0, a.1, rest.0), rest.1)

pub fetched_none : (config : Configuration) (seq : ℕ) (replica : ℤ) (a : Stand) (left : Budget) → HasFetched config seq [] replica [] a left a left
fetched_none config seq replica a left = record { noted = []; come = come_none config seq a; readings = []; readings_are = sym (append-nil a.came.readings); read = tt; behind_is = refl }

pub fetched_on : (config : Configuration) (seq : ℕ) (xs ys : List Decision) (replica : ℤ) (ka kb : List FetchPart) (a b c : Stand) (la lb lc : Budget) → HasFetched config seq xs replica ka a la b lb → HasFetched config seq ys replica kb b lb c lc
    → HasFetched config seq (xs ++ ys) replica (ka ++ kb) a la c lc
fetched_on config seq xs ys replica ka kb a b c la lb lc f g =
    let then = subst (FetchReadings replica kb (results_of (shown_of g.noted)) g.readings (shown_of g.noted)) f.behind_is g.read in
    let both = fetch_readings_append replica ka (results_of (shown_of f.noted)) f.readings (shown_of f.noted) la kb (results_of (shown_of g.noted)) g.readings (shown_of g.noted) f.read then in
    record {
      noted = f.noted ++ g.noted;
      come = come_on config seq xs ys a b c f.noted g.noted f.come g.come;
      readings = f.readings ++ g.readings;
      readings_are = later_still a.came.readings b.came.readings c.came.readings f.readings g.readings f.readings_are g.readings_are;
      read = subst (λ (rs : List Accepted). FetchReadings replica (ka ++ kb) rs (f.readings ++ g.readings) (shown_of (f.noted ++ g.noted)) la) (sym (results_append f.noted g.noted))
          (subst (λ (ss : List Shown). FetchReadings replica (ka ++ kb) (results_of (shown_of f.noted) ++ results_of (shown_of g.noted)) (f.readings ++ g.readings) ss la) (sym (shown_append f.noted g.noted)) both.0);
      behind_is = g.behind_is ∙ ap (budget_behind replica kb (shown_of g.noted)) f.behind_is ∙ sym both.1 ∙ ap (λ (ss : List Shown). budget_behind replica (ka ++ kb) ss la) (sym (shown_append f.noted g.noted));
    }

-- ---- whatever is decided of some named partitions and then of others

pub none_produced : (config : Configuration) (seq : ℕ) (terms : Terms) (a : Stand) → OnProduce config terms [] (λ next. HasProduced config seq next a a)
none_produced config seq terms a id some [] decided = produced_none config seq a
none_produced config seq terms a id some (d ∷ next) decided = absurd decided

module _ (config : Configuration) (seq : ℕ) (terms : Terms) (xs : List (List ℕ × ProducePart)) (a b : Stand) (first : OnProduce config terms xs (λ next. HasProduced config seq next a b)) where
  pub on_produced : (ys : List (List ℕ × ProducePart)) (c : Stand) → OnProduce config terms ys (λ next. HasProduced config seq next b c) → OnProduce config terms (xs ++ ys) (λ next. HasProduced config seq next a c)
  on_produced ys c then id some next decided =
      let cut = zip_split (ProduceDecides config terms.version id terms.acks) xs ys next decided in
      subst (λ (ds : List Decision). HasProduced config seq ds a c) (sym cut.both)
      (produced_on config seq cut.first cut.then a b c (first id some cut.first cut.firsts) (then id some cut.then cut.thens))

  pub on_stopped : (ys zs : List (List ℕ × ProducePart)) (pass : LogPassView) (points : List Point) → OnProduce config terms ys (λ next. IsStopped config seq next b pass points)
      → OnProduce config terms (xs ++ (ys ++ zs)) (λ next. IsStopped config seq next a pass points)
  on_stopped ys zs pass points then id some next decided =
      let cut = zip_split (ProduceDecides config terms.version id terms.acks) xs (ys ++ zs) next decided in
      let more = zip_split (ProduceDecides config terms.version id terms.acks) ys zs cut.then cut.thens in
      let here = stopped_before config seq more.first more.then b.pass b.points pass points (then id some more.first more.firsts) in
      let come = first id some cut.first cut.firsts in
      subst (λ (ds : List Decision). IsStopped config seq ds a pass points) (sym cut.both)
      (stopped_on config seq cut.first cut.then a.pass a.points b.pass b.points pass points come.noted come.come.carried
      (subst (λ (ds : List Decision). IsStopped config seq ds b pass points) (sym more.both) here))

pub fetch_stopped : (config : Configuration) (seq : ℕ) (xs ys zs : List Decision) (replica : ℤ) (asks : List FetchPart) (a b : Stand) (la lb : Budget) (pass : LogPassView) (points : List Point)
    → HasFetched config seq xs replica asks a la b lb → IsStopped config seq ys b pass points → IsStopped config seq (xs ++ (ys ++ zs)) a pass points
fetch_stopped config seq xs ys zs replica asks a b la lb pass points first then =
    stopped_on config seq xs (ys ++ zs) a.pass a.points b.pass b.points pass points first.noted first.come.carried (stopped_before config seq ys zs b.pass b.points pass points then)

-- ---- the first so many items, the next, and those behind it

module _ {X : Type 0} (xs : List X) (i : ℕ) (x : X) (there : i < length xs) (is : x ≡ get_or xs i x) where
  abbrev pub rest_of : List X
  rest_of = drop (suc i) xs

  pub taken_more : take (i + 1) xs ≡ take i xs ++ x ∷ []
  taken_more = take_more xs i x there ∙ ap (λ (y : X). take i xs ++ y ∷ []) (sym is)

  pub all_are : xs ≡ take i xs ++ x ∷ rest_of
  all_are = split_at xs i x there ∙ ap (λ (y : X). take i xs ++ y ∷ rest_of) (sym is)

  module _ {Y : Type 0} where
    pub map_next : (f : X → Y) → map f (take (i + 1) xs) ≡ map f (take i xs) ++ f x ∷ []
    map_next f = ap (map f) taken_more ∙ map-append f (take i xs) (x ∷ [])

    pub map_all : (f : X → Y) → map f xs ≡ map f (take i xs) ++ f x ∷ map f rest_of
    map_all f = ap (map f) all_are ∙ map-append f (take i xs) (x ∷ rest_of)

    pub flat_next : (f : X → List Y) → flat_map f (take (i + 1) xs) ≡ flat_map f (take i xs) ++ f x
    flat_next f = ap (flat_map f) taken_more ∙ flat_map-append f (take i xs) (x ∷ []) ∙ ap (λ (ys : List Y). flat_map f (take i xs) ++ ys) (append-nil (f x))

    pub flat_all : (f : X → List Y) → flat_map f xs ≡ flat_map f (take i xs) ++ (f x ++ flat_map f rest_of)
    flat_all f = ap (flat_map f) all_are ∙ flat_map-append f (take i xs) (x ∷ rest_of)

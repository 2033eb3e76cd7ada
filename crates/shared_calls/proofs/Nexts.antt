-- The next partition of a topic, and the next topic, in a loop over them.
use Rattle.std.proofs.Common.{◌≡◌, ℕ, ◌+◌, ◌<◌, ◌≤◌, ℤ, List, [], ◌∷◌, ◌++◌, length, get_or, map, take, sym, ap, subst, ◌∙◌}
use Rattle.std.proofs.lemmas.List.{map-append}
use Rattle.std.proofs.Math.Seq.{take_all}
use Rattle.std.proofs.lemmas.Option.{slice_get-get_or}
use Rattle.kbytes.proofs.Laws.{some_is}
use Rattle.std.specs.List.{flat_map}
use Rattle.audit.specs.declared.account.Point.{Point}
use Rattle.kanswer.specs.declared.accepted.Budget.{Budget}
use Rattle.kanswer.specs.Answer.{asked_parts}
use Rattle.kanswer.specs.Decisions.{Decision, fetch_decision, fetch_decisions, fetch_parts, produce_parts}
use Rattle.kwire.specs.Configuration.{Configuration, part_of}
use Rattle.kwire.specs.declared.request.FetchPart.{FetchPart}
use Rattle.kwire.specs.declared.request.FetchTopic.{FetchTopic}
use Rattle.kwire.specs.declared.request.ProducePart.{ProducePart}
use Rattle.kwire.specs.declared.request.ProduceTopic.{ProduceTopic}
use Rattle.kanswer.specs.declared.terms.Terms.{Terms}
use Rattle.shared_logs.specs.Shared.{LogPassView}
use Rattle.shared_calls.specs.Stand.{HasFetched, HasProduced, IsStopped, OnProduce, Stand, fetch_named, produce_named}
use Rattle.shared_calls.proofs.Coming.{fetch_stopped, fetched_on, flat_all, flat_next, map_all, map_next, on_produced, on_stopped, rest_of, taken_more}

-- ---- of a produce

module _ (config : Configuration) (seq : ℕ) (terms : Terms) (name : List ℕ) (parts : List ProducePart) (i : ℕ) (part : ProducePart) (there : i < length parts) (is : part ≡ get_or parts i part) (a b : Stand) where
  abbrev named : ProducePart → List ℕ × ProducePart
  named p = (name, p)

  pub produced_next : (c : Stand) → OnProduce config terms (map named (take i parts)) (λ next. HasProduced config seq next a b) → OnProduce config terms ((name, part) ∷ []) (λ next. HasProduced config seq next b c)
      → OnProduce config terms (map named (take (i + 1) parts)) (λ next. HasProduced config seq next a c)
  produced_next c first then =
      subst (λ (ns : List (List ℕ × ProducePart)). OnProduce config terms ns (λ next. HasProduced config seq next a c)) (sym (map_next parts i part there is named))
      (on_produced config seq terms (map named (take i parts)) a b first ((name, part) ∷ []) c then)

  pub produce_next_stopped : (pass : LogPassView) (points : List Point) → OnProduce config terms (map named (take i parts)) (λ next. HasProduced config seq next a b)
      → OnProduce config terms ((name, part) ∷ []) (λ next. IsStopped config seq next b pass points) → OnProduce config terms (map named parts) (λ next. IsStopped config seq next a pass points)
  produce_next_stopped pass points first then =
      subst (λ (ns : List (List ℕ × ProducePart)). OnProduce config terms ns (λ next. IsStopped config seq next a pass points)) (sym (map_all parts i part there is named))
      (on_stopped config seq terms (map named (take i parts)) a b first ((name, part) ∷ []) (map named (rest_of parts i part there is)) pass points then)

module _ (config : Configuration) (seq : ℕ) (terms : Terms) (topics : List ProduceTopic) (i : ℕ) (topic : ProduceTopic) (there : i < length topics) (is : topic ≡ get_or topics i topic) (a b : Stand) where
  pub produced_next_topic : (c : Stand) → OnProduce config terms (produce_parts (take i topics)) (λ next. HasProduced config seq next a b) → OnProduce config terms (produce_named topic) (λ next. HasProduced config seq next b c)
      → OnProduce config terms (produce_parts (take (i + 1) topics)) (λ next. HasProduced config seq next a c)
  produced_next_topic c first then =
      subst (λ (ns : List (List ℕ × ProducePart)). OnProduce config terms ns (λ next. HasProduced config seq next a c)) (sym (flat_next topics i topic there is produce_named))
      (on_produced config seq terms (produce_parts (take i topics)) a b first (produce_named topic) c then)

  pub produce_topic_stopped : (pass : LogPassView) (points : List Point) → OnProduce config terms (produce_parts (take i topics)) (λ next. HasProduced config seq next a b)
      → OnProduce config terms (produce_named topic) (λ next. IsStopped config seq next b pass points) → OnProduce config terms (produce_parts topics) (λ next. IsStopped config seq next a pass points)
  produce_topic_stopped pass points first then =
      subst (λ (ns : List (List ℕ × ProducePart)). OnProduce config terms ns (λ next. IsStopped config seq next a pass points)) (sym (flat_all topics i topic there is produce_named))
      (on_stopped config seq terms (produce_parts (take i topics)) a b first (produce_named topic) (flat_map produce_named (rest_of topics i topic there is)) pass points then)

-- ---- of a fetch

module _ (config : Configuration) (seq : ℕ) (replica : ℤ) where
  abbrev decided : List ℕ × FetchPart → Decision
  decided one = fetch_decision config replica one (part_of config one.0 one.1.index)

  abbrev decisions : List (List ℕ × FetchPart) → List Decision
  decisions named = fetch_decisions config replica named

  two_lists : (xs ys : List (List ℕ × FetchPart)) → decisions (xs ++ ys) ≡ decisions xs ++ decisions ys
  two_lists xs ys = map-append decided xs ys

  three_lists : (xs ys zs : List (List ℕ × FetchPart)) → decisions (xs ++ (ys ++ zs)) ≡ decisions xs ++ (decisions ys ++ decisions zs)
  three_lists xs ys zs = two_lists xs (ys ++ zs) ∙ ap (λ (ds : List Decision). decisions xs ++ ds) (two_lists ys zs)

  module _ (name : List ℕ) (parts : List FetchPart) (i : ℕ) (part : FetchPart) (there : i < length parts) (is : part ≡ get_or parts i part) (a b : Stand) (la lb : Budget) where
    abbrev asked_as : FetchPart → List ℕ × FetchPart
    asked_as p = (name, p)

    pub fetched_next : (c : Stand) (lc : Budget) → HasFetched config seq (decisions (map asked_as (take i parts))) replica (take i parts) a la b lb → HasFetched config seq (decisions ((name, part) ∷ [])) replica (part ∷ []) b lb c lc
        → HasFetched config seq (decisions (map asked_as (take (i + 1) parts))) replica (take (i + 1) parts) a la c lc
    fetched_next c lc first then =
        let both = fetched_on config seq (decisions (map asked_as (take i parts))) (decisions ((name, part) ∷ [])) replica (take i parts) (part ∷ []) a b c la lb lc first then in
        subst (λ (ps : List FetchPart). HasFetched config seq (decisions (map asked_as (take (i + 1) parts))) replica ps a la c lc) (sym (taken_more parts i part there is))
        (subst (λ (ds : List Decision). HasFetched config seq ds replica (take i parts ++ part ∷ []) a la c lc) (sym (ap decisions (map_next parts i part there is asked_as) ∙ two_lists (map asked_as (take i parts)) ((name, part) ∷ []))) both)

    pub fetch_next_stopped : (pass : LogPassView) (points : List Point) → HasFetched config seq (decisions (map asked_as (take i parts))) replica (take i parts) a la b lb → IsStopped config seq (decisions ((name, part) ∷ [])) b pass points
        → IsStopped config seq (decisions (map asked_as parts)) a pass points
    fetch_next_stopped pass points first then =
        let rest = map asked_as (rest_of parts i part there is) in
        subst (λ (ds : List Decision). IsStopped config seq ds a pass points) (sym (ap decisions (map_all parts i part there is asked_as) ∙ three_lists (map asked_as (take i parts)) ((name, part) ∷ []) rest))
        (fetch_stopped config seq (decisions (map asked_as (take i parts))) (decisions ((name, part) ∷ [])) (decisions rest) replica (take i parts) a b la lb pass points first then)

  module _ (topics : List FetchTopic) (i : ℕ) (topic : FetchTopic) (there : i < length topics) (is : topic ≡ get_or topics i topic) (a b : Stand) (la lb : Budget) where
    pub fetched_next_topic : (c : Stand) (lc : Budget) → HasFetched config seq (decisions (fetch_parts (take i topics))) replica (asked_parts (take i topics)) a la b lb → HasFetched config seq (decisions (fetch_named topic)) replica topic.parts b lb c lc
        → HasFetched config seq (decisions (fetch_parts (take (i + 1) topics))) replica (asked_parts (take (i + 1) topics)) a la c lc
    fetched_next_topic c lc first then =
        let both = fetched_on config seq (decisions (fetch_parts (take i topics))) (decisions (fetch_named topic)) replica (asked_parts (take i topics)) topic.parts a b c la lb lc first then in
        subst (λ (ps : List FetchPart). HasFetched config seq (decisions (fetch_parts (take (i + 1) topics))) replica ps a la c lc) (sym (flat_next topics i topic there is (λ (t : FetchTopic). t.parts)))
        (subst (λ (ds : List Decision). HasFetched config seq ds replica (asked_parts (take i topics) ++ topic.parts) a la c lc) (sym (ap decisions (flat_next topics i topic there is fetch_named) ∙ two_lists (fetch_parts (take i topics)) (fetch_named topic))) both)

    pub fetch_topic_stopped : (pass : LogPassView) (points : List Point) → HasFetched config seq (decisions (fetch_parts (take i topics))) replica (asked_parts (take i topics)) a la b lb
        → IsStopped config seq (decisions (fetch_named topic)) b pass points → IsStopped config seq (decisions (fetch_parts topics)) a pass points
    fetch_topic_stopped pass points first then =
        let rest = flat_map fetch_named (rest_of topics i topic there is) in
        subst (λ (ds : List Decision). IsStopped config seq ds a pass points) (sym (ap decisions (flat_all topics i topic there is fetch_named) ∙ three_lists (fetch_parts (take i topics)) (fetch_named topic) rest))
        (fetch_stopped config seq (decisions (fetch_parts (take i topics))) (decisions (fetch_named topic)) (decisions rest) replica (asked_parts (take i topics)) a b la lb pass points first then)

-- ---- the loop has come to its end

pub taken_all : {X : Type 0} (xs : List X) (i : ℕ) → length xs ≤ i → take i xs ≡ xs
taken_all xs i le = take_all i xs le

-- an item that is there is the same, whatever stands for those that aren't
pub same_item : {X : Type 0} (xs : List X) (i : ℕ) (d e : X) → i < length xs → get_or xs i d ≡ get_or xs i e
same_item xs i d e there = let both = sym (slice_get-get_or xs i d there) ∙ slice_get-get_or xs i e there in some_is (get_or xs i d) (get_or xs i e) both

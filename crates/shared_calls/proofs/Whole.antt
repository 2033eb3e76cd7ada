-- A request is accepted whole: all that is decided of it is carried out.
use Rattle.std.proofs.Common.{◌≡◌, Bool, true, ℕ, ℤ, List, [], ◌++◌, refl, sym, ap, subst, ◌∙◌, Option}
use Rattle.std.specs.List.{AllZip}
use Rattle.std.specs.Prelude.{is_some, ⊤}
use Rattle.audit.specs.declared.account.Point.{Point}
use Rattle.partlog.specs.declared.numbers.Numbers.{Numbers}
use Rattle.kanswer.specs.declared.accepted.Accepted.{Accepted}
use Rattle.kanswer.specs.declared.accepted.Budget.{Budget}
use Rattle.kanswer.specs.declared.accepted.Reading.{Reading}
use Rattle.kanswer.specs.Answer.{asked_parts, first_budget}
use Rattle.kanswer.specs.Decisions.{Decides, Decision, ProduceDecides, produce_parts}
use Rattle.kanswer.specs.LogReadings.{AreReadings, FetchReadings, ProduceReadings, budget_of}
use Rattle.kanswer.specs.Numbered.{AreNumbers}
use Rattle.kanswer.specs.Waiting.{results_of}
use Rattle.kwire.specs.Configuration.{Configuration}
use Rattle.kwire.specs.declared.request.Ask.{Ask}
use Rattle.kwire.specs.declared.request.Ask.TheVariants.{Produce, Fetch, Metadata, Versions}
use Rattle.kwire.specs.declared.request.FetchTopic.{FetchTopic}
use Rattle.kwire.specs.declared.request.ProduceTopic.{ProduceTopic}
use Rattle.kwire.specs.declared.request.Request.{Request}
use Rattle.kanswer.specs.declared.terms.Terms.{Terms}
use Rattle.audit.specs.broker.Entering.{Noted, shown_of}
use Rattle.shared_logs.specs.Shared.{LogPassView}
use Rattle.shared_calls.specs.Accepted.{WasAccepted}
use Rattle.shared_calls.specs.Came.{CameView}
use Rattle.shared_calls.specs.Stand.{HasCome, HasFetched, HasProduced, IsResultOf, OnProduce, stand}
use Rattle.shared_calls.proofs.Carrying.{none_carried}

abbrev pub nothing_came : CameView
nothing_came = record { accepted = []; numbers = []; readings = [] }

-- what holds of whatever is decided of a produce holds of what is decided of this request
pub decided_produce : (config : Configuration) (ask : Ask) (decisions : List Decision) (version : ℤ) (id : Option (List ℕ)) (acks timeout : ℤ) (topics items : List ProduceTopic) (terms : Terms) (P : List Decision → Type 0) → ask ≡ Produce version id acks timeout topics
    → is_some id ≡ terms.is_transactional → terms.version ≡ version → terms.acks ≡ acks → items ≡ topics → OnProduce config terms (produce_parts items) P → Decides config ask decisions → P decisions
decided_produce config ask decisions version id acks timeout topics items terms P is some in_version same all holds decided =
    holds id some decisions
    (subst (λ (ts : List ProduceTopic). AllZip (ProduceDecides config terms.version id terms.acks) (produce_parts ts) decisions) (sym all)
    (subst (λ (v : ℤ). AllZip (ProduceDecides config v id terms.acks) (produce_parts topics) decisions) (sym in_version)
    (subst (λ (z : ℤ). AllZip (ProduceDecides config version id z) (produce_parts topics) decisions) (sym same) (subst (λ (a : Ask). Decides config a decisions) is decided))))

module _ (is_read : Bool) (config : Configuration) (seq : ℕ) (request : Request) (decisions : List Decision) (old : LogPassView) (before : List Point) (new : LogPassView) (after : List Point) (start came : CameView) (none : start ≡ nothing_came) where
  from_nothing : {X : Type 0} (f : CameView → List X) (xs ys : List X) → f nothing_came ≡ [] → xs ≡ f start ++ ys → xs ≡ ys
  from_nothing {X = X} f xs ys empty is = is ∙ ap (λ (zs : List X). zs ++ ys) (ap f none ∙ empty)

  module _ (noted : List Noted) (come : HasCome config seq decisions (stand old before start) (stand new after came) noted) where
    accepted_is : came.accepted ≡ results_of (shown_of noted)
    accepted_is = from_nothing (λ (c : CameView). c.accepted) came.accepted (results_of (shown_of noted)) refl come.accepted

    pub come_results : AllZip IsResultOf decisions came.accepted
    come_results = subst (AllZip IsResultOf decisions) (sym accepted_is) come.results

    come_numbers : AreNumbers came.numbers (shown_of noted)
    come_numbers = subst (λ (ns : List Numbers). AreNumbers ns (shown_of noted)) (sym (from_nothing (λ (c : CameView). c.numbers) came.numbers come.numbers refl come.numbers_are)) come.numbered

    come_accepted : (is_read ≡ true → AreReadings request.ask came.accepted came.readings (shown_of noted)) → WasAccepted is_read config seq request decisions old before new after came
    come_accepted read = record { noted = noted; carried = come.carried; results = sym accepted_is; numbers = come_numbers; readings = read }

  pub produce_accepted : (version : ℤ) (id : Option (List ℕ)) (acks timeout : ℤ) (topics : List ProduceTopic) → request.ask ≡ Produce version id acks timeout topics → HasProduced config seq decisions (stand old before start) (stand new after came)
      → WasAccepted is_read config seq request decisions old before new after came
  produce_accepted version id acks timeout topics ask p =
      let shown = shown_of p.noted in
      let readings : came.readings ≡ p.readings = from_nothing (λ (c : CameView). c.readings) came.readings p.readings refl p.readings_are in
      come_accepted p.noted p.come
      (λ read. subst (λ (a : Ask). AreReadings a came.accepted came.readings shown) (sym ask)
      (subst (λ (rs : List Accepted). ProduceReadings rs came.readings shown) (sym (accepted_is p.noted p.come))
      (subst (λ (rs : List Reading). ProduceReadings (results_of shown) rs shown) (sym readings) p.read)))

  pub fetch_accepted : (version replica max_wait min_bytes max_bytes isolation : ℤ) (topics : List FetchTopic) (left behind : Budget) → request.ask ≡ Fetch version replica max_wait min_bytes max_bytes isolation topics → (is_read ≡ true → left ≡ budget_of request.ask)
      → HasFetched config seq decisions replica (asked_parts topics) (stand old before start) left (stand new after came) behind → WasAccepted is_read config seq request decisions old before new after came
  fetch_accepted version replica max_wait min_bytes max_bytes isolation topics left behind ask first p =
      let shown = shown_of p.noted in
      let readings : came.readings ≡ p.readings = from_nothing (λ (c : CameView). c.readings) came.readings p.readings refl p.readings_are in
      come_accepted p.noted p.come
      (λ read. let budget : left ≡ first_budget max_bytes = first read ∙ ap budget_of ask in
      subst (λ (a : Ask). AreReadings a came.accepted came.readings shown) (sym ask)
      (subst (λ (rs : List Accepted). FetchReadings replica (asked_parts topics) rs came.readings shown (first_budget max_bytes)) (sym (accepted_is p.noted p.come))
      (subst (λ (rs : List Reading). FetchReadings replica (asked_parts topics) (results_of shown) rs shown (first_budget max_bytes)) (sym readings)
      (subst (FetchReadings replica (asked_parts topics) (results_of shown) p.readings shown) budget p.read))))

-- a request that names no partition
pub none_accepted : (is_read : Bool) (config : Configuration) (seq : ℕ) (request : Request) (decisions : List Decision) (pass : LogPassView) (points : List Point) (came : CameView) → came ≡ nothing_came → decisions ≡ []
    → AreReadings request.ask [] [] [] → WasAccepted is_read config seq request decisions pass points pass points came
none_accepted is_read config seq request decisions pass points came none empty read =
    subst (λ (c : CameView). WasAccepted is_read config seq request decisions pass points pass points c) (sym none)
    (subst (λ (ds : List Decision). WasAccepted is_read config seq request ds pass points pass points nothing_came) (sym empty)
    (record { noted = []; carried = none_carried config seq pass points; results = refl; numbers = tt; readings = λ made. read }))

pub none_results : (decisions : List Decision) (came : CameView) → came ≡ nothing_came → decisions ≡ [] → AllZip IsResultOf decisions came.accepted
none_results decisions came none empty =
    subst (λ (c : CameView). AllZip IsResultOf decisions c.accepted) (sym none) (subst (λ (ds : List Decision). AllZip IsResultOf ds []) (sym empty) tt)

abbrev pub NamesNothing : Ask → Type 0
NamesNothing (Produce version transactional acks timeout topics) = ⊥
NamesNothing (Fetch version replica max_wait min_bytes max_bytes isolation topics) = ⊥
NamesNothing (Metadata topics) = ⊤
NamesNothing (Versions version) = ⊤

pub nothing_decided : (config : Configuration) (ask : Ask) (decisions : List Decision) → NamesNothing ask → Decides config ask decisions → decisions ≡ []
nothing_decided config (Produce version transactional acks timeout topics) decisions none decided = absurd none
nothing_decided config (Fetch version replica max_wait min_bytes max_bytes isolation topics) decisions none decided = absurd none
nothing_decided config (Metadata topics) decisions none decided = decided
nothing_decided config (Versions version) decisions none decided = decided

pub nothing_read : (ask : Ask) → NamesNothing ask → AreReadings ask [] [] []
nothing_read (Produce version transactional acks timeout topics) none = absurd none
nothing_read (Fetch version replica max_wait min_bytes max_bytes isolation topics) none = absurd none
nothing_read (Metadata topics) none = refl
nothing_read (Versions version) none = refl

-- What came of one named partition.
use Rattle.std.proofs.Common.{◌≡◌, ℕ, ◌+◌, ◌-◌, ◌<◌, ◌≤◌, ◌||◌, ℤ, pos, Bool, true, false, List, [], ◌∷◌, ◌++◌, length, Option, Result, Ok, Err, refl, sym, ap, subst, ◌∙◌, arith, length-append}
use Rattle.std.specs.List.{AllZip}
use Rattle.std.specs.Prelude.{IfOk, OnErr, OnOk}
use Rattle.partlog.specs.declared.numbers.Numbers.{Numbers}
use Rattle.partlog.specs.Gauges.{bytes_in, numbers_of}
use Rattle.partlog.specs.State.{PartState as State, state_of}
use Rattle.audit.specs.declared.account.Point.{Point}
use Rattle.kanswer.specs.declared.accepted.Accepted.{Accepted}
use Rattle.kanswer.specs.declared.accepted.Accepted.TheVariants.{Refused, Appended, Seen}
use Rattle.kanswer.specs.declared.accepted.Budget.{Budget}
use Rattle.kanswer.specs.declared.accepted.Reading.{Reading}
use Rattle.kanswer.specs.Answer.{batches_as, budget_after}
use Rattle.kanswer.specs.Decisions.{AskLog, Decision, Outcome, ProduceDecides, Refuse}
use Rattle.kanswer.specs.LogReadings.{HasNumbers, HasRecords}
use Rattle.kanswer.specs.Numbered.{IsNumbered}
use Rattle.kanswer.proofs.Laws.{decided_once}
use Rattle.kwire.specs.Configuration.{Configuration}
use Rattle.kwire.specs.declared.request.Ask.TheVariants.{Produce}
use Rattle.kwire.specs.declared.request.FetchPart.{FetchPart}
use Rattle.kwire.specs.declared.request.ProducePart.{ProducePart}
use Rattle.kanswer.specs.declared.entered.Entered.{Entered}
use Rattle.kanswer.specs.OnTerms.{OnTerms}
use Rattle.kanswer.specs.declared.terms.Terms.{Terms}
use Rattle.audit.specs.broker.Board.{history_at}
use Rattle.audit.specs.broker.Entering.{Noted}
use Rattle.kanswer.proofs.Laws.{bytes_push, seen_room}
use Rattle.kanswer.specs.BytesRead.{bytes_read, most_left}
use Rattle.shared_logs.specs.Asked.{HasAsked, HasRead}
use Rattle.shared_logs.specs.Seen.{HasSeen}
use Rattle.shared_logs.specs.Shared.{LogPassView}
use Rattle.shared_calls.specs.Came.{CameView}
use Rattle.shared_calls.specs.Carried.{HasCarried, HasStopped}
use Rattle.shared_calls.specs.Stand.{HasCome, HasFetched, HasProduced, IsEven, IsResultOf, IsStopped, OnProduce, Stand, records_as, stand}
use Rattle.shared_calls.proofs.Carrying.{stopped_behind}
use Rattle.shared_calls.proofs.Turning.{asked_carried, noted_asked, noted_refused, refused_carried}

pub on_ok : {T E : Type 0} {P Q : Type 0} (r : Result T E) → OnOk r P → (P → Q) → OnOk r Q
on_ok (Ok x) p f = f p
on_ok (Err e) p f = tt

pub on_err : {T E : Type 0} {P : Type 0} (r : Result T E) → P → OnErr r P
on_err (Ok x) p = tt
on_err (Err e) p = p

-- ---- its numbers, and what was read of it

numbered_as : (numbers : Numbers) (result : Accepted) (state : State) → numbers ≡ numbers_of state → IsNumbered numbers result state
numbered_as numbers (Refused code) state is = tt
numbered_as numbers (Appended part base count) state is = is
numbered_as numbers (Seen part start) state is = is

has_numbers : (reading : Reading) (result : Accepted) (state : State) → reading.numbers ≡ numbers_of state → HasNumbers result reading state
has_numbers reading (Refused code) state is = tt
has_numbers reading (Appended part base count) state is = is
has_numbers reading (Seen part start) state is = tt

-- one result more, with its numbers and its reading
abbrev pub one_more : CameView → Accepted → Reading → CameView
one_more came result reading = record {
  accepted = came.accepted ++ result ∷ [];
  numbers = came.numbers ++ reading.numbers ∷ [];
  readings = came.readings ++ reading ∷ [];
}

module _ (config : Configuration) (seq : ℕ) (d : Decision) (a b : Stand) (noted : Noted) (reading : Reading) (carried : HasCarried config seq (d ∷ []) a.pass a.points b.pass b.points (noted ∷ []))
    (came : b.came ≡ one_more a.came noted.step.result reading) (is : IsResultOf d noted.step.result) (numbered : IsNumbered reading.numbers noted.step.result noted.state) where
  pub come_one : HasCome config seq (d ∷ []) a b (noted ∷ [])
  come_one = record {
    carried = carried;
    results = (is, tt);
    accepted = ap (λ (c : CameView). c.accepted) came;
    numbers = reading.numbers ∷ [];
    numbers_are = ap (λ (c : CameView). c.numbers) came;
    numbered = (numbered, tt);
  }

  pub produced_one : HasNumbers noted.step.result reading noted.state → HasProduced config seq (d ∷ []) a b
  produced_one has = record {
    noted = noted ∷ [];
    come = come_one;
    readings = reading ∷ [];
    readings_are = ap (λ (c : CameView). c.readings) came;
    read = (refl, has, tt);
  }

  pub fetched_one : (replica : ℤ) (asked : FetchPart) (left behind : Budget) → HasRecords replica asked noted.step.result reading noted.state left
      → behind ≡ budget_after (batches_as replica asked noted.step.result noted.state left) left → HasFetched config seq (d ∷ []) replica (asked ∷ []) a left b behind
  fetched_one replica asked left behind has is_behind = record {
    noted = noted ∷ [];
    come = come_one;
    readings = reading ∷ [];
    readings_are = ap (λ (c : CameView). c.readings) came;
    read = (refl, has, tt);
    behind_is = is_behind;
  }

-- ---- how many came, and how many bytes

pub even_more : (came later : CameView) (result : Accepted) (reading : Reading) → later ≡ one_more came result reading → IsEven came → IsEven later
even_more came later result reading is even = record {
  numbers = omega (arith, even.numbers, ap (λ (c : CameView). length c.numbers) is, ap (λ (c : CameView). length c.accepted) is, length-append came.numbers (reading.numbers ∷ []), length-append came.accepted (result ∷ []));
  readings = omega (arith, even.readings, ap (λ (c : CameView). length c.readings) is, ap (λ (c : CameView). length c.accepted) is, length-append came.readings (reading ∷ []), length-append came.accepted (result ∷ []));
}

pub bytes_more : (came later : CameView) (result : Accepted) (reading : Reading) → later ≡ one_more came result reading → bytes_read later.readings ≡ bytes_read came.readings + length reading.records
bytes_more came later result reading is = ap (λ (c : CameView). bytes_read c.readings) is ∙ bytes_push came.readings reading

none_after : (b : Budget) → budget_after [] b ≡ b
none_after b =
    let same : (any : Bool) → (any || false) ≡ any = λ any. elim any as (λ y. (y || false) ≡ y) [ true ↦ refl | false ↦ refl ] in
    let left : b.left - 0 ≡ b.left = omega arith in
    let at = λ (n : ℕ) (any : Bool). let x : Budget = record { left = n; any = any } in x in
    ap (λ (n : ℕ). at n (b.any || false)) left ∙ ap (at b.left) (same b.any)

none_taken : (before after : Budget) → after ≡ budget_after [] before → 0 + most_left after ≤ most_left before
none_taken before after is = omega (arith, ap most_left (is ∙ none_after before))

pub read_room : (replica : ℤ) (asked : FetchPart) (became : Accepted) (state : State) (numbers : Numbers) (read : List ℕ) (before after : Budget) → bytes_in state.batches ≤ 67108864 → HasRead replica asked became state numbers read before after
    → length (records_as became read) + most_left after ≤ most_left before
read_room replica asked (Refused code) state numbers read before after few h = none_taken before after h.lowered
read_room replica asked (Appended part base count) state numbers read before after few h = none_taken before after h.lowered
read_room replica asked (Seen part start) state numbers read before after few h = seen_room replica asked start state before after read few h.read.1 h.lowered

pub records_read : (replica : ℤ) (asked : FetchPart) (became : Accepted) (state : State) (numbers : Numbers) (read : List ℕ) (before after : Budget) → HasRead replica asked became state numbers read before after
    → HasRecords replica asked became (record { numbers = numbers; records = records_as became read }) state before
records_read replica asked (Refused code) state numbers read before after h = tt
records_read replica asked (Appended part base count) state numbers read before after h = tt
records_read replica asked (Seen part start) state numbers read before after h = h.read

-- a partition of a fetch that there isn't
pub refused_fetched : (config : Configuration) (seq : ℕ) (replica : ℤ) (asked : FetchPart) (code : ℤ) (pass : LogPassView) (points : List Point) (came later : CameView) (reading : Reading) (left : Budget)
    → later ≡ one_more came (Refused code) reading → HasFetched config seq (Refuse code ∷ []) replica (asked ∷ []) (stand pass points came) left (stand pass points later) left
refused_fetched config seq replica asked code pass points came later reading left is =
    fetched_one config seq (Refuse code) (stand pass points came) (stand pass points later) (noted_refused code) reading (refused_carried config seq code pass points) is refl tt
    replica asked left left tt (sym (none_after left))

pub refusal_stopped : (config : Configuration) (seq : ℕ) (code : ℤ) (pass : LogPassView) (points : List Point) → HasStopped config seq (Refuse code ∷ []) pass points pass points
refusal_stopped config seq code pass points = stopped_behind config seq (Refuse code ∷ []) pass points pass points (noted_refused code ∷ []) (refused_carried config seq code pass points)

-- ---- one partition of a produce

decided_alone : (version : ℤ) (config : Configuration) (id : Option (List ℕ)) (acks : ℤ) (named : List ℕ × ProducePart) (d : Decision) (next : List Decision) → ProduceDecides config version id acks named d
    → AllZip (ProduceDecides config version id acks) (named ∷ []) next → d ∷ [] ≡ next
decided_alone version config id acks named d next one all = decided_once config (Produce version id acks (pos 0) (record { name = named.0; parts = named.1 ∷ [] } ∷ [])) (d ∷ []) next (one, tt) all

pub whatever_one : (config : Configuration) (terms : Terms) (named : List ℕ × ProducePart) (d : Decision) (P : List Decision → Type 0) → OnTerms terms (λ id. ProduceDecides config terms.version id terms.acks named d) → P (d ∷ [])
    → OnProduce config terms (named ∷ []) P
whatever_one config terms named d P decides holds id some next decided = subst P (decided_alone terms.version config id terms.acks named d next (decides id some) decided) holds

pub refused_produced : (config : Configuration) (seq : ℕ) (terms : Terms) (named : List ℕ × ProducePart) (code : ℤ) (pass : LogPassView) (points : List Point) (came later : CameView) (reading : Reading)
    → OnTerms terms (λ id. ProduceDecides config terms.version id terms.acks named (Refuse code)) → later ≡ one_more came (Refused code) reading
    → OnProduce config terms (named ∷ []) (λ next. HasProduced config seq next (stand pass points came) (stand pass points later))
refused_produced config seq terms named code pass points came later reading decides is =
    whatever_one config terms named (Refuse code) (λ next. HasProduced config seq next (stand pass points came) (stand pass points later)) decides
    (produced_one config seq (Refuse code) (stand pass points came) (stand pass points later) (noted_refused code) reading (refused_carried config seq code pass points) is refl tt tt)

pub refused_stopped : (config : Configuration) (seq : ℕ) (terms : Terms) (named : List ℕ × ProducePart) (code : ℤ) (pass : LogPassView) (points : List Point) (came : CameView)
    → OnTerms terms (λ id. ProduceDecides config terms.version id terms.acks named (Refuse code)) → OnProduce config terms (named ∷ []) (λ next. IsStopped config seq next (stand pass points came) pass points)
refused_stopped config seq terms named code pass points came decides =
    whatever_one config terms named (Refuse code) (λ next. IsStopped config seq next (stand pass points came) pass points) decides
    (stopped_behind config seq (Refuse code ∷ []) pass points pass points (noted_refused code ∷ []) (refused_carried config seq code pass points))

-- ---- one whose log is asked

module _ (config : Configuration) (part seq : ℕ) (outcome : State → Outcome) (old new : LogPassView) (entered : Entered) (numbers : Numbers) (h : HasAsked part seq outcome old new entered numbers) (before : HasSeen old) (after : HasSeen new)
    (inside : part < length old.parts) (points later_points : List Point) (points_are : later_points ≡ points ++ record { part = part; place = entered.place } ∷ []) where
  asked_one : HasCarried config seq (AskLog part outcome ∷ []) old points new later_points (noted_asked part entered h.left ∷ [])
  asked_one =
      subst (λ (ps : List Point). HasCarried config seq (AskLog part outcome ∷ []) old points new ps (noted_asked part entered h.left ∷ [])) (sym points_are)
      (asked_carried config part seq outcome old new entered numbers h before after points inside)

  pub asked_stopped : HasStopped config seq (AskLog part outcome ∷ []) old points new later_points
  asked_stopped = stopped_behind config seq (AskLog part outcome ∷ []) old points new later_points (noted_asked part entered h.left ∷ []) asked_one

  module _ (came later : CameView) (records : List ℕ) (is : later ≡ one_more came entered.became (record { numbers = numbers; records = records })) where
    abbrev reading : Reading
    reading = record { numbers = numbers; records = records }

    pub asked_produced : HasProduced config seq (AskLog part outcome ∷ []) (stand old points came) (stand new later_points later)
    asked_produced =
        produced_one config seq (AskLog part outcome) (stand old points came) (stand new later_points later) (noted_asked part entered h.left) reading asked_one is (state_of (history_at h.found part), h.entry.became)
        (numbered_as numbers entered.became (state_of h.left) h.numbers_are) (has_numbers reading entered.became (state_of h.left) h.numbers_are)

    pub asked_fetched : (replica : ℤ) (asked : FetchPart) (left behind : Budget) → HasRecords replica asked entered.became reading (state_of h.left) left → behind ≡ budget_after (batches_as replica asked entered.became (state_of h.left) left) left
        → HasFetched config seq (AskLog part outcome ∷ []) replica (asked ∷ []) (stand old points came) left (stand new later_points later) behind
    asked_fetched replica asked left behind has is_behind =
        fetched_one config seq (AskLog part outcome) (stand old points came) (stand new later_points later) (noted_asked part entered h.left) reading asked_one is (state_of (history_at h.found part), h.entry.became)
        (numbered_as numbers entered.became (state_of h.left) h.numbers_are) replica asked left behind has is_behind

pub on_err_then : {T E : Type 0} {P Q : Type 0} (r : Result T E) → OnErr r P → (P → Q) → OnErr r Q
on_err_then (Ok x) p f = tt
on_err_then (Err e) p f = f p

pub from_ok : {T E : Type 0} (P : T → Type 0) (r : Result T E) (x : T) → r ≡ Ok x → IfOk r P → P x
from_ok {T = T} {E = E} P r x e p = subst (λ (q : Result T E). IfOk q P) e p

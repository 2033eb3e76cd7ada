-- What an accepted request gives: its results, their logs and numbers, and that it is handled.
use Rattle.std.proofs.Common.{◌≡◌, ℕ, Bool, true, false, List, [], ◌∷◌, ◌++◌, length, map, Option, Some, None, All, MatchBool, Result, Ok, Err, IfOk, OnOk, refl, sym, ap, subst, ◌∙◌}
use Rattle.std.specs.List.{AllByRecursion}
use Rattle.partlog.specs.declared.clock_event.ClockEvent.{ClockEvent}
use Rattle.partlog.specs.Gauges.{numbers_of}
use Rattle.partlog.specs.History.{History}
use Rattle.partlog.specs.Moment.{moment_of}
use Rattle.partlog.specs.State.{PartState}
use Rattle.kwire.specs.Configuration.{Configuration, followers_of, partitions_of}
use Rattle.kwire.specs.IsRequest.{IsRequest}
use Rattle.kwire.specs.declared.request.Request.{Request}
use Rattle.kanswer.specs.Decisions.{Decision, Decides}
use Rattle.kanswer.specs.LogReadings.{IsCarriable}
use Rattle.kanswer.specs.Numbered.{AreNumbers, IsNumbered}
use Rattle.kanswer.specs.Results.{AreResults}
use Rattle.kanswer.specs.Waiting.{Shown, becomes_delayed, operation_of, results_of}
use Rattle.kanswer.specs.declared.accepted.Accepted.{Accepted}
use Rattle.kanswer.specs.declared.accepted.Accepted.TheVariants.{Refused, Appended, Seen}
use Rattle.audit.specs.Histories.{clock_part}
use Rattle.audit.specs.declared.account.CallHow.TheVariants.{Parked as Waits}
use Rattle.audit.specs.declared.account.Point.{Point}
use Rattle.kwire.specs.DeclaredTopics.{AreDeclared}
use Rattle.audit.specs.broker.Entering.{Noted, accept_all, shown_of}
use Rattle.audit.specs.broker.Turns.{how_at_once, text_at_once}
use Rattle.lone_broker.specs.Carried.{Came, IsCarried}
use Rattle.lone_broker.specs.Gathered.{numbers_in, part_numbers}
use Rattle.lone_broker.specs.Handled.{IsAnswered, IsHandled, IsParked, looked_by}
use Rattle.lone_broker.specs.Replying.{HasLog, ShowsLog, ShowsLogs}
use Rattle.lone_broker.specs.declared.handling.Handled.{Handled}
use Rattle.lone_broker.specs.declared.parked.Parked.{Parked}
use Rattle.lone_broker.proofs.Followers.{parts_size}
use Rattle.lone_broker.proofs.ResultsStand.{are_results, as_many, results_logs, shows_logs}

shown_number : (parts : List History) (result : Accepted) (state : PartState) → ShowsLog parts (record { result = result; state = state }) → IsNumbered (part_numbers parts result) result state
shown_number parts (Refused code) state shows = tt
shown_number parts (Appended part base count) state shows = ap numbers_of (sym shows)
shown_number parts (Seen part start) state shows = ap numbers_of (sym shows)

shown_numbers : (parts : List History) (shown : List Shown) → AllByRecursion (ShowsLog parts) shown → AreNumbers (numbers_in parts (results_of shown)) shown
shown_numbers parts [] shows = tt
shown_numbers parts (s ∷ shown) shows = (shown_number parts s.result s.state shows.0, shown_numbers parts shown shows.1)

pub if_parked : {T E : Type 0} {P : Type 0} {A B C D : T → Type 0} (r : Result T E) → OnOk r P → IfOk r A → IfOk r B → IfOk r C → ((x : T) → P → A x → B x → C x → D x) → IfOk r D
if_parked (Ok x) p a b c f = f x p a b c
if_parked (Err e) p a b c f = tt

pub if_answered : {T E : Type 0} {P : Type 0} {A B C D : T → Type 0} (r : Result T E) → IfOk r A → IfOk r B → IfOk r C → OnOk r P → ((x : T) → A x → B x → C x → P → D x) → IfOk r D
if_answered (Ok x) a b c p f = f x a b c p
if_answered (Err e) a b c p f = tt

-- a request, whose decisions were carried out at the clock's moment
pub record IsAccepted (config : Configuration) (request : Request) (by seq : ℕ) (clock : List ClockEvent) (before after : List History) (later : Came) : Type 0 where
  pub body : List ℕ
  pub asked : IsRequest body request
  pub followers : map (λ (h : History). h.followers) before ≡ followers_of config.topics
  pub declared : AreDeclared config.topics
  pub decisions : List Decision
  pub decided : Decides config request.ask decisions
  pub carried : IsCarried by seq (moment_of clock) decisions before after (record { accepted = []; points = [] }) later
  pub offsets : All IsCarriable later.accepted

pub was_accepted : (config : Configuration) (request : Request) (by seq t : ℕ) (clock : List ClockEvent) (before after : List History) (came later : Came) (results : List Accepted) → t ≡ moment_of clock → ((body : List ℕ) × IsRequest body request) → map (λ (h : History). h.followers) before ≡ followers_of config.topics → AreDeclared config.topics
    → came ≡ record { accepted = []; points = [] } → ((decisions : List Decision) × Decides config request.ask decisions × IsCarried by seq t decisions before after came later) → results ≡ later.accepted → All IsCarriable results
    → IsAccepted config request by seq clock before after later
was_accepted config request by seq t clock before after came later results at asked followers declared fresh d same offsets = record {
  body = asked.0;
  asked = asked.1;
  followers = followers;
  declared = declared;
  decisions = d.0;
  decided = d.1;
  carried = subst (λ (m : ℕ). IsCarried by seq m d.0 before after (record { accepted = []; points = [] }) later) at
      (subst (λ (k : Came). IsCarried by seq t d.0 before after k later) fresh d.2);
  offsets = subst (All IsCarriable) same offsets;
}

module _ (config : Configuration) (request : Request) (by seq : ℕ) (clock : List ClockEvent) (before after : List History) (later : Came) (a : IsAccepted config request by seq clock before after later) where
  abbrev noted : List Noted
  noted = (accept_all by seq (moment_of clock) a.decisions before).0

  abbrev results : List Accepted
  results = results_of (shown_of noted)

  accepted_is : later.accepted ≡ results
  accepted_is = a.carried.accepted

  size : length before ≡ partitions_of config.topics
  size = parts_size config.topics before a.followers

  as_many_left : length after ≡ partitions_of config.topics
  as_many_left = ap length a.carried.histories ∙ as_many config request a.body by seq (moment_of clock) a.decisions before a.asked a.decided size

  pub have_logs : AllByRecursion (HasLog (length after)) later.accepted
  have_logs =
      subst (λ (rs : List Accepted). AllByRecursion (HasLog (length after)) rs) (sym accepted_is)
      (subst (λ (n : ℕ). AllByRecursion (HasLog n) results) (sym as_many_left) (results_logs config request a.body by seq (moment_of clock) a.decisions before a.asked a.decided size))

  pub are_listed : AreResults request.ask later.accepted
  are_listed =
      subst (AreResults request.ask) (sym accepted_is)
      (are_results config request a.body by seq (moment_of clock) a.decisions before a.asked a.decided size a.declared.few (subst (All IsCarriable) accepted_is a.offsets))

  pub are_shown : ShowsLogs after later.accepted (shown_of noted)
  are_shown =
      subst (λ (rs : List Accepted). ShowsLogs after rs (shown_of noted)) (sym accepted_is)
      (subst (λ (ps : List History). ShowsLogs ps results (shown_of noted)) (sym a.carried.histories) (shows_logs config request a.body by seq (moment_of clock) a.decisions before a.asked a.decided size))

  are_numbered : AreNumbers (numbers_in after later.accepted) (shown_of noted)
  are_numbered =
      subst (λ (rs : List Accepted). AreNumbers (numbers_in after rs) (shown_of noted)) are_shown.results
      (shown_numbers after (shown_of noted) are_shown.states)

  -- whether it waits
  pub delayed_is : (b : Bool) (accepted : List Accepted) → accepted ≡ later.accepted
      → ((shown : List Shown) → results_of shown ≡ accepted → AreNumbers (numbers_in after accepted) shown → b ≡ becomes_delayed request.ask shown) → becomes_delayed request.ask (shown_of noted) ≡ b
  delayed_is b accepted same tells =
      sym (tells (shown_of noted) (are_shown.results ∙ sym same) (subst (λ (rs : List Accepted). AreNumbers (numbers_in after rs) (shown_of noted)) (sym same) are_numbered))

  pub handled_waiting : (left : List ClockEvent) (handled : Handled) (text : List ℕ) → becomes_delayed request.ask (shown_of noted) ≡ true → left ≡ looked_by by seq clock
      → handled.accept ≡ later.points ++ record { part = clock_part; place = length clock } ∷ [] → handled.how ≡ Waits
      → handled.parked ≡ Some (record { accepted = later.accepted; op = operation_of request.ask later.accepted (moment_of left) }) → IsHandled config by seq request before after clock left handled text text
  handled_waiting left handled text delayed looked points how some = record {
    decisions = a.decisions;
    decided = a.decided;
    histories = a.carried.histories;
    became = subst (λ (b : Bool). MatchBool b (IsParked by seq request noted clock left handled text text) (IsAnswered config by request noted clock left handled text text)) (sym delayed) (record {
      looked = looked;
      points = points ∙ ap (λ (ps : List Point). ps ++ record { part = clock_part; place = length clock } ∷ []) a.carried.points;
      how = how;
      some = some ∙ ap (λ (rs : List Accepted). let made : Option Parked = Some (record { accepted = rs; op = operation_of request.ask rs (moment_of left) }) in made) accepted_is;
      printed = refl;
      listed = subst (AreResults request.ask) accepted_is are_listed;
    });
  }

  pub handled_at_once : (handled : Handled) (text more : List ℕ) → becomes_delayed request.ask (shown_of noted) ≡ false → handled.accept ≡ later.points → handled.how ≡ how_at_once request.ask → handled.parked ≡ None
      → ((shown : List Shown) → ShowsLogs after later.accepted shown → more ≡ text ++ text_at_once config by request shown) → IsHandled config by seq request before after clock clock handled text more
  handled_at_once handled text more undelayed points how none printed = record {
    decisions = a.decisions;
    decided = a.decided;
    histories = a.carried.histories;
    became = subst (λ (b : Bool). MatchBool b (IsParked by seq request noted clock clock handled text more) (IsAnswered config by request noted clock clock handled text more)) (sym undelayed) (record {
      still = refl;
      points = points ∙ a.carried.points;
      how = how;
      none = none;
      printed = printed (shown_of noted) are_shown;
    });
  }

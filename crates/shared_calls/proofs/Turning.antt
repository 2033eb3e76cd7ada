-- One decision is carried out in a turn of its partition, or none is because memory ran out.
use Rattle.std.proofs.Common.{◌≡◌, ℕ, ◌+◌, ◌<◌, ◌≤◌, ℤ, List, [], ◌∷◌, ◌++◌, length, map, set, Option, Some, None, unwrap_or, refl, sym, ap, subst, ◌∙◌, arith}
use Rattle.std.proofs.lemmas.List.{length-map}
use Rattle.std.specs.Prelude.{slice_get, slice_index}
use Rattle.std.specs.List.{AllByRecursion}
use Rattle.partlog.specs.declared.clock_event.ClockEvent.{ClockEvent}
use Rattle.partlog.specs.declared.numbers.Numbers.{Numbers}
use Rattle.partlog.specs.History.{History}
use Rattle.partlog.specs.Moment.{moment_of}
use Rattle.partlog.specs.State.{PartState as State, state_of}
use Rattle.audit.specs.declared.account.Call.{Call}
use Rattle.audit.specs.declared.account.Point.{Point}
use Rattle.audit.specs.declared.account.Transcript.{Transcript}
use Rattle.audit.specs.Histories.{no_state}
use Rattle.kbytes.proofs.Laws.{get_set_same}
use Rattle.partlog.specs.Kept.{IsKept}
use Rattle.purgatory.specs.Rooms.{LockView}
use Rattle.kanswer.specs.declared.accepted.Accepted.{Accepted}
use Rattle.kanswer.specs.declared.accepted.Accepted.TheVariants.{Refused}
use Rattle.kanswer.specs.Decisions.{AskLog, Decision, Outcome, Refuse}
use Rattle.kwire.specs.Configuration.{Configuration, followers_of, partitions_of}
use Rattle.kwire.specs.declared.request.Request.{Request}
use Rattle.kanswer.specs.declared.entered.Entered.{Entered}
use Rattle.audit.specs.broker.Board.{empty_history, history_at}
use Rattle.kanswer.specs.WithEntry.{entered}
use Rattle.audit.specs.broker.Entering.{Noted}
use Rattle.audit.specs.broker.Sound.{AreHistories}
use Rattle.audit.proofs.broker.Laws.{IsFair, all_get, decides_fair, followers_size, grown_self, parts_size}
use Rattle.audit.specs.broker.books.Accepting.{IsAccepting}
use Rattle.audit.specs.broker.books.Underway.{Underway, seq_of}
use Rattle.audit.proofs.broker.books.Laws.{accepting_on, accepting_refused, others_accepting}
use Rattle.shared_logs.specs.Asked.{HasAsked}
use Rattle.shared_logs.specs.Coming.{HasCaughtUp}
use Rattle.shared_logs.specs.Seen.{HasSeen}
use Rattle.shared_logs.specs.Shared.{LogPassView, SharedView, followers_in}
use Rattle.shared_logs.specs.Amid.{amid}
use Rattle.shared_logs.proofs.Laws.{asked_grown, asked_histories, asked_left, found_within, left_self, same_self}
use Rattle.shared_calls.specs.Carried.{HasCarried, HasStopped, IsAt}
use Rattle.shared_calls.proofs.Carrying.{one_next}
use Rattle.shared_calls.proofs.Bounds.{high_bounded}

-- ---- a partition that is refused

abbrev pub noted_refused : ℤ → Noted
noted_refused code = record { step = record { result = Refused code; point = None }; state = no_state }

pub refused_carried : (config : Configuration) (seq : ℕ) (code : ℤ) (pass : LogPassView) (points : List Point) → HasCarried config seq (Refuse code ∷ []) pass points pass points (noted_refused code ∷ [])
refused_carried config seq code pass points = record {
  same = same_self pass;
  ticked = refl;
  grown = grown_self pass.parts pass.clock;
  left = left_self seq pass;
  goes = λ front transcript call request decisions reached noted at.
      subst (λ (ps : List Point). IsAccepting (amid config front transcript pass (record call { accept = ps })) request decisions (reached + 1) (noted ++ noted_refused code ∷ [])) at.points_are
      (accepting_refused (amid config front transcript pass call) request decisions reached noted at.accepting code (one_next (Refuse code) reached decisions at.next_are));
}

-- ---- a partition whose log is asked

abbrev pub noted_asked : ℕ → Entered → History → Noted
noted_asked part came left = record { step = record { result = came.became; point = Some (record { part = part; place = came.place }) }; state = state_of left }

-- the pass amid the call, told of its parts
abbrev told_amid : Configuration → List Transcript → Transcript → Call → ℕ → List History → List ClockEvent → List Point → Underway
told_amid config front transcript call number parts clock points = record {
  config = config;
  number = number;
  parts = parts;
  clock = clock;
  front = front;
  transcript = transcript;
  call = record call { accept = points };
}

module _ (config : Configuration) (part seq : ℕ) (outcome : State → Outcome) (old new : LogPassView) (came : Entered) (numbers : Numbers) (h : HasAsked part seq outcome old new came numbers) (before : HasSeen old) (after : HasSeen new) where
  abbrev decision : Decision
  decision = AskLog part outcome

  abbrev here : History
  here = history_at h.found part

  abbrev noted_here : ℕ → Noted
  noted_here n = record {
    step = record { result = (outcome (state_of here)).result; point = Some (record { part = part; place = length here.events }) };
    state = state_of (entered here old.number n (moment_of old.clock) (outcome (state_of here)).entry);
  }

  noted_is : noted_here seq ≡ noted_asked part came h.left
  noted_is =
      let one = λ (result : Accepted) (place : ℕ) (state : State). let n : Noted = record { step = record { result = result; point = Some (record { part = part; place = place }) }; state = state } in n in
      ap (λ (r : Accepted). one r (length here.events) (state_of (entered here old.number seq (moment_of old.clock) (outcome (state_of here)).entry))) (sym h.entry.became)
      ∙ ap (λ (n : ℕ). one came.became n (state_of (entered here old.number seq (moment_of old.clock) (outcome (state_of here)).entry))) (sym h.entry.place)
      ∙ ap (λ (x : History). one came.became came.place (state_of x)) (sym h.entry.history)

  module _ (points : List Point) (front : List Transcript) (transcript : Transcript) (call : Call) (request : Request) (decisions : List Decision) (reached : ℕ) (noted : List Noted)
      (at : IsAt config seq (decision ∷ []) old points front transcript call request decisions reached noted) where
    next : slice_get decisions reached ≡ Some decision
    next = one_next decision reached decisions at.next_are

    histories : AreHistories config old.parts old.clock
    histories = at.accepting.underway.histories

    fair : IsFair (length old.parts) decision
    fair =
        all_get (IsFair (length old.parts)) decisions reached decision
        (subst (λ (n : ℕ). AllByRecursion (IsFair n) decisions) (sym (parts_size config.topics old.parts histories.followers)) (decides_fair config request.ask decisions at.accepting.decided)) next

    found_here : IsAccepting (told_amid config front transcript call old.number h.found old.clock call.accept) request decisions reached noted
    found_here =
        others_accepting (amid config front transcript old call) request decisions reached noted h.found old.clock h.turn.others.grown h.turn.others.within
        (asked_histories config part seq outcome old new came numbers h before after fair histories) at.accepting

    abbrev told : ℕ → List History → List ClockEvent → List Point → List Noted → Type 0
    told number parts clock ps more = IsAccepting (told_amid config front transcript call number parts clock ps) request decisions (reached + 1) (noted ++ more)

    carried_here : told old.number (set h.found part (entered here old.number (seq_of (amid config front transcript old call)) (moment_of old.clock) (outcome (state_of here)).entry)) old.clock
        (call.accept ++ record { part = part; place = length here.events } ∷ []) (noted_here (seq_of (amid config front transcript old call)) ∷ [])
    carried_here = accepting_on (told_amid config front transcript call old.number h.found old.clock call.accept) request decisions reached noted found_here decision next

    parts_are : set h.found part (entered here old.number seq (moment_of old.clock) (outcome (state_of here)).entry) ≡ new.parts
    parts_are = ap (set h.found part) (sym h.entry.history) ∙ sym h.turn.parts

    points_are : call.accept ++ record { part = part; place = length here.events } ∷ [] ≡ points ++ record { part = part; place = came.place } ∷ []
    points_are =
        ap (λ (ps : List Point). ps ++ record { part = part; place = length here.events } ∷ []) at.points_are
        ∙ ap (λ (n : ℕ). let p : Point = record { part = part; place = n } in points ++ p ∷ []) (sym h.entry.place)

    asked_here : IsAccepting (amid config front transcript new (record call { accept = points ++ record { part = part; place = came.place } ∷ [] })) request decisions (reached + 1) (noted ++ noted_asked part came h.left ∷ [])
    asked_here =
        let a = subst (λ (n : ℕ). told old.number (set h.found part (entered here old.number n (moment_of old.clock) (outcome (state_of here)).entry)) old.clock (call.accept ++ record { part = part; place = length here.events } ∷ []) (noted_here n ∷ [])) at.number carried_here in
        let b = subst (λ (ps : List History). told old.number ps old.clock (call.accept ++ record { part = part; place = length here.events } ∷ []) (noted_here seq ∷ [])) parts_are a in
        let c = subst (λ (ps : List Point). told old.number new.parts old.clock ps (noted_here seq ∷ [])) points_are b in
        let d = subst (λ (n : Noted). told old.number new.parts old.clock (points ++ record { part = part; place = came.place } ∷ []) (n ∷ [])) noted_is c in
        let e = subst (λ (n : ℕ). told n new.parts old.clock (points ++ record { part = part; place = came.place } ∷ []) (noted_asked part came h.left ∷ [])) (sym h.turn.same.number) d in
        subst (λ (clock : List ClockEvent). told new.number new.parts clock (points ++ record { part = part; place = came.place } ∷ []) (noted_asked part came h.left ∷ [])) (sym h.turn.clock) e

  pub asked_carried : (points : List Point) → part < length old.parts → HasCarried config seq (AskLog part outcome ∷ []) old points new (points ++ record { part = part; place = came.place } ∷ []) (noted_asked part came h.left ∷ [])
  asked_carried points inside = record {
    same = h.turn.same;
    ticked = h.turn.ticked;
    grown = asked_grown part seq outcome old new came numbers h inside;
    left = asked_left part seq outcome old new came numbers h inside;
    goes = λ front transcript call request decisions reached noted at. asked_here points front transcript call request decisions reached noted at;
  }

-- ---- no memory was left for the turn

module _ (config : Configuration) (old new : LogPassView) (h : HasCaughtUp old new) (before : HasSeen old) (after : HasSeen new) where
  abbrev followers : List History → List ℕ
  followers parts = map (λ (x : History). x.followers) parts

  same_followers : followers new.parts ≡ followers old.parts
  same_followers = after.followers ∙ ap followers_in h.same.made ∙ sym before.followers

  caught_size : length new.parts ≡ length old.parts
  caught_size = sym (length-map new.parts (λ (x : History). x.followers)) ∙ ap length same_followers ∙ length-map old.parts (λ (x : History). x.followers)

  pub caught_histories : AreHistories config old.parts old.clock → AreHistories config new.parts new.clock
  caught_histories histories = record {
    whole = after.whole;
    few = omega (arith, histories.few, caught_size);
    followers = same_followers ∙ histories.followers;
    ticks = after.ticks;
  }

  pub caught_stopped : (seq : ℕ) (next : List Decision) (points : List Point) → HasStopped config seq next old points new points
  caught_stopped seq next points = record {
    same = h.same;
    ticked = h.ticked;
    grown = h.others.grown;
    goes = λ front transcript call request decisions reached noted at.
        let on : IsAccepting (told_amid config front transcript call old.number new.parts new.clock call.accept) request decisions reached noted =
        others_accepting (amid config front transcript old call) request decisions reached noted new.parts new.clock h.others.grown h.others.within (caught_histories at.accepting.underway.histories) at.accepting in
        let told = λ (n : ℕ) (ps : List Point). IsAccepting (told_amid config front transcript call n new.parts new.clock ps) request decisions reached noted in
        (reached, noted, subst (λ (n : ℕ). told n points) (sym h.same.number) (subst (told old.number) at.points_are on));
  }

-- ---- the partition, as the turn left it

pub seen_size : (pass : LogPassView) → HasSeen pass → length pass.parts ≡ length pass.made.parts
seen_size pass seen = sym (length-map pass.parts (λ (x : History). x.followers)) ∙ ap length seen.followers ∙ length-map pass.made.parts (λ (lock : LockView). slice_index lock.name 0)

-- there are as many logs as partitions
pub logs_size : (config : Configuration) (shared : SharedView) → followers_in shared ≡ followers_of config.topics → length shared.parts ≡ partitions_of config.topics
logs_size config shared same = sym (length-map shared.parts (λ (lock : LockView). slice_index lock.name 0)) ∙ ap length same ∙ followers_size config.topics

pub inside_of : (config : Configuration) (shared : SharedView) (pass : LogPassView) (part : ℕ) → HasSeen pass → pass.made ≡ shared → part < length shared.parts → part < length pass.parts
inside_of config shared pass part seen made there = omega (arith, seen_size pass seen, ap (λ (s : SharedView). length s.parts) made, there)

module _ (part seq : ℕ) (outcome : State → Outcome) (old new : LogPassView) (came : Entered) (numbers : Numbers) (h : HasAsked part seq outcome old new came numbers) (inside : part < length old.parts) where
  pub asked_there : history_at new.parts part ≡ h.left
  asked_there =
      ap (λ (parts : List History). history_at parts part) h.turn.parts
      ∙ ap (λ (o : Option History). unwrap_or o (empty_history 0)) (get_set_same h.found part h.left (found_within part old new h.found h.left h.turn inside))

  pub asked_high : HasSeen new → numbers.high ≤ 67108864
  asked_high seen =
      let kept = subst (λ (x : History). IsKept x.log x.events) asked_there (seen.kept part) in
      omega (arith, high_bounded h.left kept, ap (λ (n : Numbers). n.high) h.numbers_are)

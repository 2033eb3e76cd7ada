-- A call that was accepted looks at the clock, and becomes an operation.
use Rattle.std.proofs.Common.{◌≡◌, ℕ, List, [], ◌∷◌, ◌++◌, length, map, None, refl, sym, ap, subst, ◌∙◌}
use Rattle.std.specs.List.Sorted.{IsStrictlyIncreasing}
use Rattle.partlog.specs.declared.clock_event.ClockEvent.{ClockEvent}
use Rattle.partlog.specs.declared.clock_event.ClockEvent.TheVariants as clocks
use Rattle.partlog.specs.History.{History}
use Rattle.partlog.specs.Moment.{moment_of}
use Rattle.audit.specs.declared.account.Call.{Call}
use Rattle.audit.specs.declared.account.CallHow.TheVariants.{Cut}
use Rattle.audit.specs.declared.account.Point.{Point}
use Rattle.audit.specs.declared.account.Transcript.{Transcript}
use Rattle.audit.specs.Histories.{clock_part, ticks_of}
use Rattle.audit.specs.LawfulCall.{Step, operation_parts}
use Rattle.shared_logs.specs.Amid.{amid}
use Rattle.shared_logs.specs.Left.{AreLeft}
use Rattle.shared_logs.proofs.Laws.{clock_left, grown_on, left_on, left_stepped, operation_on}
use Rattle.kanswer.specs.declared.accepted.Accepted.{Accepted}
use Rattle.kanswer.specs.declared.accepted.Accepted.TheVariants.{Refused, Appended, Seen}
use Rattle.kanswer.specs.Results.{parts_asked}
use Rattle.kanswer.specs.Waiting.{operation_of, results_of}
use Rattle.kwire.specs.Configuration.{Configuration, followers_of}
use Rattle.kwire.specs.declared.request.Request.{Request}
use Rattle.audit.specs.broker.books.Accepting.{IsAccepting, clock_seen, left_waiting}
use Rattle.audit.specs.broker.books.Finishing.{IsDelayed}
use Rattle.audit.specs.broker.books.IsBook.{IsBook}
use Rattle.audit.specs.broker.books.Owned.{OwnWithin}
use Rattle.audit.specs.broker.books.Underway.{Underway, book_amid, seq_of}
use Rattle.audit.proofs.broker.books.Laws.{accepting_cut, accepting_delayed, delayed_cut, others_accepting}
use Rattle.audit.specs.broker.Entering.{Noted, shown_of, steps_of}
use Rattle.audit.specs.broker.GoesOn.{HaveGrown}
use Rattle.audit.specs.broker.Sound.{AllBelow}
use Rattle.audit.proofs.broker.Laws.{all_longer_self, grown_clock, looked_moment, ticks_looked}
use Rattle.purgatory.specs.Going.{KeepsOperation, OwesNothing}
use Rattle.room_core.specs.declared.parts.Stage.{Stage}
use Rattle.room_table.specs.Seats.{caller_now}
use Rattle.shared_broker.specs.declared.parked.Parked.{Parked}
use Rattle.shared_broker.specs.Serving.{HasCome, HasGoneOn, WillSit, WillWait}
use Rattle.shared_logs.specs.Asked.{HasLookedAtClock}
use Rattle.shared_logs.specs.Coming.{HasCaughtUp, HasStepped}
use Rattle.shared_logs.specs.Seen.{HasSeen}
use Rattle.shared_logs.specs.Shared.{LogPassView, followers_in}
use Rattle.shared_broker.proofs.Steps.{cut_come, gone_on, seen_histories}
use Rattle.shared_broker.proofs.Enlisted.{stepped_on}

-- ---- the partitions of the operation, by what became of them

pub parts_are : (steps : List Step) → operation_parts steps ≡ parts_asked (map (λ (step : Step). step.result) steps)
parts_are [] = refl
parts_are (step ∷ steps) = by_case step.result (parts_are steps)
  where
    by_case : (r : Accepted) → operation_parts steps ≡ parts_asked (map (λ (s : Step). s.result) steps)
        → operation_parts (record { result = r; point = step.point } ∷ steps) ≡ parts_asked (r ∷ map (λ (s : Step). s.result) steps)
    by_case (Refused code) rest = rest
    by_case (Appended part base count) rest = ap (λ (ps : List ℕ). part ∷ ps) rest
    by_case (Seen part start) rest = ap (λ (ps : List ℕ). part ∷ ps) rest

noted_results : (noted : List Noted) → map (λ (step : Step). step.result) (steps_of noted) ≡ results_of (shown_of noted)
noted_results [] = refl
noted_results (n ∷ noted) = ap (λ (rs : List Accepted). n.step.result ∷ rs) (noted_results noted)

module _ (config : Configuration) (seq : ℕ) (request : Request) (accepted : List Accepted) (old mid new : LogPassView) (call : Call) (step : HasStepped mid new)
    (kept : KeepsOperation (caller_now mid.seat) (caller_now new.seat)) (paid : OwesNothing (caller_now new.seat)) (seen : HasSeen new) (made : followers_in new.made ≡ followers_of config.topics) where
  pub accepted_there : (size : ℕ) → length old.parts ≡ size → (front : List Transcript) (transcript : Transcript) → WillWait config seq request accepted old call front transcript → AllBelow size (parts_asked accepted)
  accepted_there size is front transcript was =
      subst (λ (n : ℕ). AllBelow n (parts_asked accepted)) is
      (subst (AllBelow (length old.parts)) (parts_are (steps_of was.noted) ∙ ap parts_asked (noted_results was.noted ∙ was.results)) was.accepting.within)

  -- ---- no memory was left for the look

  module _ (r : HasCaughtUp old mid) where
    refused_on : HasGoneOn old new
    refused_on = gone_on old mid new (record { number = r.same.number; made = r.same.made; ticked = r.ticked; grown = r.others.grown; went = r.same.went }) (stepped_on mid new step)

    within_new : OwnWithin old.number old.parts old.clock new.parts new.clock
    within_new =
        subst (λ (es : List ClockEvent). OwnWithin old.number old.parts old.clock new.parts es) (sym step.clock)
        (subst (λ (hs : List History). OwnWithin old.number old.parts old.clock hs mid.clock) (sym step.parts) r.others.within)

    pub look_refused : (points : List Point) → points ≡ call.accept → call.how ≡ Cut None → (caller_now old.seat).stage ≡ Stage.Idle
        → HasCome config (WillWait config seq request accepted old call) None old new call (record call { accept = points })
    look_refused points none how idle =
        cut_come config (WillWait config seq request accepted old call) old new call (record call { accept = points }) refused_on (operation_on _ _ _ r.same.kept kept) idle paid how refl
        (λ front transcript was.
        let u = amid config front transcript old call in
        let h = others_accepting u request was.decisions (length was.decisions) was.noted new.parts new.clock refused_on.grown within_new
        (seen_histories config new old.parts old.clock was.accepting.underway.histories seen made) was.accepting in
        subst (λ (ps : List Point). IsBook (book_amid (amid config front transcript new (record call { accept = ps }))) None) (sym none)
        (subst (λ (n : ℕ). IsBook (book_amid (record (amid config front transcript new call) { number = n })) None) (sym refused_on.number)
        (accepting_cut (record u { parts = new.parts; clock = new.clock }) request was.decisions (length was.decisions) was.noted h how)))

  -- ---- it was left

  module _ (place moment : ℕ) (l : HasLookedAtClock seq 0 old mid place moment) (points : List Point) (put : points ≡ call.accept ++ record { part = clock_part; place = place } ∷ []) where
    pub looked_on : HasGoneOn old new
    looked_on = gone_on old mid new (record {
      number = l.same.number;
      made = l.same.made;
      ticked = l.ticked;
      grown = subst (λ (es : List ClockEvent). HaveGrown old.parts old.clock mid.parts es) (sym l.clock) (subst (λ (hs : List History). HaveGrown old.parts old.clock hs (l.found ++ clocks.Look old.number seq ∷ [])) (sym l.parts)
          (grown_on old.parts old.parts old.parts old.clock l.found (l.found ++ clocks.Look old.number seq ∷ []) l.others.grown (grown_clock old.parts old.parts l.found (clocks.Look old.number seq) (all_longer_self old.parts))));
      went = l.same.went;
    }) (stepped_on mid new step)

    pub looked_kept : KeepsOperation (caller_now old.seat) (caller_now new.seat)
    looked_kept = operation_on _ _ _ l.same.kept kept

    pub looked_left : AreLeft seq old new
    looked_left = left_on seq old mid new l.same.number (clock_left seq 0 old mid place moment l) (left_stepped seq mid new step)

    found_ticks : IsStrictlyIncreasing (0 ∷ ticks_of l.found)
    found_ticks = subst (λ (ts : List ℕ). IsStrictlyIncreasing (0 ∷ ts)) (ap ticks_of (step.clock ∙ l.clock) ∙ ticks_looked l.found old.number seq) seen.ticks

    looked_delayed : (front : List Transcript) (transcript : Transcript) (was : WillWait config seq request accepted old call front transcript)
        → IsDelayed (amid config front transcript new (record call { accept = points })) (left_waiting (record (amid config front transcript old call) { clock = l.found }) request was.noted)
    looked_delayed front transcript was =
        let u = amid config front transcript old call in
        let h = was.accepting.underway.histories in
        let v : Underway = record u { clock = l.found } in
        let w = left_waiting v request was.noted in
        let at : IsAccepting v request was.decisions (length was.decisions) was.noted = others_accepting u request was.decisions (length was.decisions) was.noted old.parts l.found l.others.grown l.others.within
        (record { whole = h.whole; few = h.few; followers = h.followers; ticks = found_ticks }) was.accepting in
        let d : IsDelayed (clock_seen v) w = accepting_delayed v request was.decisions was.noted at was.delayed in
        let clock : (clock_seen v).clock ≡ new.clock = ap (λ (n : ℕ). l.found ++ clocks.Look old.number n ∷ []) was.number ∙ sym (step.clock ∙ l.clock) in
        let accept : (clock_seen v).call.accept ≡ points = ap (λ (n : ℕ). call.accept ++ record { part = clock_part; place = n } ∷ []) (sym l.place_is) ∙ sym put in
        let make : ℕ → List History → List ClockEvent → List Point → Underway = λ n hs es ps. record { config = config; number = n; parts = hs; clock = es; front = front; transcript = transcript; call = record call { accept = ps } } in
        subst (λ (n : ℕ). IsDelayed (make n new.parts new.clock points) w) (sym looked_on.number)
        (subst (λ (hs : List History). IsDelayed (make old.number hs new.clock points) w) (sym (step.parts ∙ l.parts))
        (subst (λ (es : List ClockEvent). IsDelayed (make old.number old.parts es points) w) clock
        (subst (λ (ps : List Point). IsDelayed (make old.number old.parts (clock_seen v).clock ps) w) accept d)))

    -- no memory was left for the operation
    pub look_cut : call.how ≡ Cut None → (caller_now old.seat).stage ≡ Stage.Idle → HasCome config (WillWait config seq request accepted old call) None old new call (record call { accept = points })
    look_cut how idle =
        cut_come config (WillWait config seq request accepted old call) old new call (record call { accept = points }) looked_on looked_kept idle paid how refl
        (λ front transcript was. delayed_cut (amid config front transcript new (record call { accept = points })) _ (looked_delayed front transcript was) was.accepting.unfinished how)

    -- it becomes this operation
    pub look_sits : (parked : Parked) → parked.accepted ≡ accepted → parked.op ≡ operation_of request.ask accepted moment → (front : List Transcript) (transcript : Transcript)
        → WillWait config seq request accepted old call front transcript → WillSit config seq request parked new (record call { accept = points }) front transcript
    look_sits parked same op front transcript was =
        let v : Underway = record (amid config front transcript old call) { clock = l.found } in (
          left_waiting v request was.noted,
          record {
            number = was.number;
            unfinished = was.accepting.unfinished;
            delayed = looked_delayed front transcript was;
            request_is = refl;
            results = noted_results was.noted ∙ was.results ∙ sym same;
            operation = ap (λ (rs : List Accepted). operation_of request.ask rs (moment_of (clock_seen v).clock)) was.results
                ∙ ap (λ (m : ℕ). operation_of request.ask accepted m) (looked_moment l.found old.number (seq_of v) ∙ sym l.moment_is) ∙ sym op;
          },
        )

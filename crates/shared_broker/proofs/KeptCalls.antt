-- A call that waits: its frame is read again, and is the request that was accepted.
use Rattle.std.proofs.Common.{◌≡◌, ℕ, List, [], ◌++◌, length, map, Some, None, Result, Ok, Err, refl, sym, ap, subst, ◌∙◌, append-nil, Bool}
use Rattle.partlog.specs.declared.clock_event.ClockEvent.{ClockEvent}
use Rattle.partlog.specs.History.{History}
use Rattle.audit.specs.declared.account.Account.{Account}
use Rattle.audit.specs.declared.account.Call.{Call}
use Rattle.audit.specs.declared.account.CallHow.TheVariants.{Cut, Parked as Waits}
use Rattle.audit.specs.declared.account.Transcript.{Transcript}
use Rattle.shared_logs.specs.Amid.{amid}
use Rattle.shared_logs.proofs.Laws.{same_self}
use Rattle.kanswer.specs.Results.{AreResults, parts_asked}
use Rattle.kanswer.specs.Waiting.{operation_of}
use Rattle.kwire.specs.Configuration.{Configuration}
use Rattle.kwire.specs.declared.request.Request.{Request}
use Rattle.kwire.specs.IsRequest.{IsRequest}
use Rattle.kwire.proofs.Laws.{same_request}
use Rattle.audit.specs.broker.books.Finishing.{IsDelayed}
use Rattle.audit.specs.broker.books.Underway.{Underway, with_end}
use Rattle.audit.proofs.broker.books.Laws.{finishing_as, finishing_cut, finishing_won, waits_delayed}
use Rattle.audit.specs.Histories.{part_account}
use Rattle.audit.specs.broker.GoesOn.{GoesOn}
use Rattle.audit.specs.broker.Sound.{AllBelow}
use Rattle.audit.proofs.broker.Laws.{grown_self, longer_self, map_get}
use Rattle.purgatory.specs.declared.outcome.Done.{Done}
use Rattle.purgatory.specs.Going.{OwesNothing}
use Rattle.room_table.specs.Seats.{caller_now}
use Rattle.shared_broker.specs.declared.parked.Parked.{Parked}
use Rattle.shared_broker.specs.Serving.{HasEndedCall, HasFinished, IsLastKept, WillSit}
use Rattle.shared_logs.specs.Shared.{LogPassView}
use Rattle.shared_broker.proofs.Delayed.{parts_are}

-- an account that goes on from these histories
some_account : (config : Configuration) (parts : List History) (clock : List ClockEvent) → (account : Account) × GoesOn config parts clock account
some_account config parts clock = (
  record { config = config; parts = map part_account parts; clock = clock; passes = []; wins = [] },
  record {
    same = refl;
    follows = λ p h e. (part_account h, map_get part_account parts p h e, longer_self h);
    more = [];
    events = none_more clock;
  },
)
  where
    none_more : (es : List ClockEvent) → es ≡ es ++ []
    none_more es = sym (append-nil es)

module _ (config : Configuration) (seq : ℕ) (parked : Parked) (pass : LogPassView) (call : Call) where
  module _ (front : List Transcript) (transcript : Transcript) (was : IsLastKept config seq parked pass call front transcript) where
    abbrev u : Underway
    u = amid config front transcript pass call

    delayed : IsDelayed u was.1.w × (call.finish ≡ []) × (call.how ≡ Waits)
    delayed = waits_delayed u was.1.w was.1.book_is

    pub kept_unfinished : call.finish ≡ []
    kept_unfinished = delayed.1

    pub kept_asked : IsRequest call.frame was.1.w.request
    kept_asked = let some = some_account config pass.parts pass.clock in (delayed.0.delayed some.0 some.1).accepted.asked

    pub kept_there : AllBelow (length pass.parts) (parts_asked parked.accepted)
    kept_there = subst (AllBelow (length pass.parts)) (parts_are was.1.w.steps ∙ ap parts_asked was.1.results) delayed.0.within

    module _ (request : Request) (asked : IsRequest call.frame request) where
      kept_request : was.1.w.request ≡ request
      kept_request = same_request call.frame was.1.w.request request kept_asked asked

      pub kept_listed : AreResults request.ask parked.accepted
      kept_listed = subst (λ (r : Request). AreResults r.ask parked.accepted) kept_request was.1.listed

      pub kept_became : (moment : ℕ) × (parked.op ≡ operation_of request.ask parked.accepted moment)
      kept_became = (was.1.moment, was.1.became ∙ ap (λ (r : Request). operation_of r.ask parked.accepted was.1.moment) kept_request)

      pub kept_sits : WillSit config seq request parked pass call front transcript
      kept_sits = (
        was.1.w,
        record {
          number = was.0;
          unfinished = delayed.1;
          delayed = delayed.0;
          request_is = kept_request;
          results = was.1.results;
          operation = was.1.operation;
        },
      )

  -- no memory was left to read the frame
  pub kept_cut : OwesNothing (caller_now pass.seat) → (by : ℕ) → HasEndedCall config (IsLastKept config seq parked pass call) pass pass call (record call { how = Cut (Some by) })
  kept_cut paid by = record {
    same = same_self pass;
    ticked = refl;
    grown = grown_self pass.parts pass.clock;
    paid = paid;
    rest = refl;
    book = λ front transcript was.
        let v = amid config front transcript pass call in
        let d = delayed front transcript was in
        finishing_cut (with_end v (Cut (Some by))) was.1.w [] by None (finishing_as v was.1.w None [] (Cut (Some by)) (finishing_won v was.1.w d.0 d.1)) refl;
  }

  module _ (request : Request) (asked : IsRequest call.frame request) (done : Done) (new : LogPassView) (after : Call) where
    ended_kept : HasEndedCall config (WillSit config seq request parked pass call) pass new call after → HasEndedCall config (IsLastKept config seq parked pass call) pass new call after
    ended_kept h = record {
      same = h.same;
      ticked = h.ticked;
      grown = h.grown;
      paid = h.paid;
      rest = h.rest;
      book = λ front transcript was. h.book front transcript (kept_sits front transcript was request asked);
    }

    pub finished_kept : (is_sent : Bool) {E : Type 0} (r : Result (List ℕ) E) → HasFinished is_sent config seq done (WillSit config seq request parked pass call) r pass new call after
        → HasFinished is_sent config seq done (IsLastKept config seq parked pass call) r pass new call after
    finished_kept is_sent (Ok bytes) h = (ended_kept h.0, h.1, h.2, λ front transcript was. h.3 front transcript (kept_sits front transcript was request asked))
    finished_kept is_sent (Err e) h = (ended_kept h.0, h.1)

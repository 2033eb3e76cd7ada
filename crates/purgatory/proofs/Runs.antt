-- An operation from its opening to its end, or until it waits.
use Rattle.std.proofs.Common.{◌≡◌, ◌∙◌, ◌+◌, List, [], ◌∷◌, ◌++◌, ap, refl, subst, sym}
use Rattle.opcond.specs.Operation.{Operation}
use Rattle.room_core.specs.declared.parts.Stage.{Stage}
use Rattle.room_core.specs.declared.parts.Taken.{Taken}
use Rattle.room_core.specs.Gauges.{clock_of}
use Rattle.room_core.specs.State.{Caller}
use Rattle.room_table.specs.declared.part.CallerStep.{CallerStep}
use Rattle.room_table.specs.Seats.{CallerView, TableView, caller_did, caller_now}
use Rattle.purgatory.specs.declared.outcome.Done.{Done}
use Rattle.purgatory.specs.declared.outcome.Registered.{Registered}
use Rattle.purgatory.specs.Going.{GoesOn}
use Rattle.purgatory.specs.Listed.{Describes, Ends, HasChecked, IsDescribed, IsOpened, Keeps, Leaves}
use Rattle.purgatory.specs.Polled.{item_of, won_at}
use Rattle.purgatory.specs.Registered.{HasRegistered, have_read}
use Rattle.purgatory.proofs.Describing.{operation_is}
use Rattle.purgatory.proofs.Goes.{goes_by, goes_far}
use Rattle.purgatory.proofs.Words.{takes, took_owed}

pub opened : (op : Operation) (old a b : CallerView) → Describes old a → IsDescribed op (caller_now a).description → b ≡ caller_did a CallerStep.Opened → IsOpened op old b
opened op old a b d is e = record {
  went = goes_by old a b CallerStep.Opened d.went e;
  generation = ap (λ (v : CallerView). (caller_now v).generation) e ∙ ap (λ (x : Caller). x.generation + 1) d.same;
  described = subst (λ (v : CallerView). IsDescribed op (caller_now v).description) (sym e) is;
  owed = ap (λ (v : CallerView). (caller_now v).owed) e ∙ ap (λ (x : Caller). x.owed) d.same;
  taken = ap (λ (v : CallerView). (caller_now v).taken) e ∙ ap (λ (x : Caller). x.taken) d.same;
}

pub opened_still : (op : Operation) (old a b : CallerView) → IsOpened op old a → Keeps a b → IsOpened op old b
opened_still op old a b o k = record {
  went = goes_far old a b o.went k.went;
  generation = k.account.generation ∙ o.generation;
  described = subst (IsDescribed op) (sym k.account.description) o.described;
  owed = k.account.owed ∙ o.owed;
  taken = k.account.taken ∙ o.taken;
}

-- what a run comes to
pub record ComesTo (op : Operation) (result : Registered) (old new : CallerView) : Type 0 where
  pub went : GoesOn old new
  pub owed : (caller_now new).owed ≡ (caller_now old).owed
  pub registered : HasRegistered op result old new

pub ended : (op : Operation) (old a b : CallerView) (done : Done) → IsOpened op old a → Ends done a b → ComesTo op (Registered.Won done) old b
ended op old a b done o ends =
    let before = ends.before in
    let now = opened_still op old a before o ends.keeps in
    let t = takes before b done ends.steps in
    let peeked = CallerStep.Peeked (won_at (caller_now before).generation done) in
    let found = caller_did before peeked in
    record {
      went = goes_by old found b CallerStep.Idled (goes_by old before found peeked now.went refl) ends.steps;
      owed = took_owed before b done ends.steps ∙ now.owed;
      registered = record {
        before = before;
        came = now.went;
        operation = operation_is op (caller_now before).description now.described;
        steps = ends.steps;
        taken = record {
          idle = t.idle;
          generation = t.generation ∙ now.generation;
          taken = t.taken ∙ ap (λ (xs : List Taken). xs ++ item_of (caller_now before).generation done ∷ []) now.taken
              ∙ ap (λ n. (caller_now old).taken ++ item_of n done ∷ []) now.generation;
        };
      };
    }

pub parked : (op : Operation) (old a b : CallerView) → IsOpened op old a → (caller_now a).stage ≡ Stage.Checking → Leaves op a b → ComesTo op Registered.Parked old b
parked op old a b o checking l =
    let now = opened_still op old a b o l.keeps in
    record {
      went = now.went;
      owed = now.owed;
      registered = record {
        before = a;
        values = l.values;
        moment = l.moment;
        came = o.went;
        listed = checking;
        each = l.each;
        steps = l.steps ∙ ap (λ (t : TableView). caller_did (have_read a op.needs l.values) (CallerStep.Left (clock_of t.shape) l.moment)) o.went.table;
        unsatisfied = l.unsatisfied;
        early = l.early;
        waits = l.waits;
        generation = now.generation;
        operation = operation_is op (caller_now b).description now.described;
        taken = now.taken;
      };
    }

pub checked : (op : Operation) (old a b : CallerView) (result : Registered) → IsOpened op old a → (caller_now a).stage ≡ Stage.Checking → HasChecked op result a b → ComesTo op result old b
checked op old a b Registered.Parked o checking h = parked op old a b o checking h
checked op old a b (Registered.Won done) o checking h = ended op old a b done o h

-- Passes that go on.
use Rattle.std.proofs.Common.{◌≡◌, ◌∙◌, ℕ, ap, refl, sym, [], ◌∷◌, ◌++◌, append_assoc}
use Rattle.room_core.specs.State.{Caller}
use Rattle.room_table.specs.declared.part.CallerStep.{CallerStep}
use Rattle.room_table.specs.Seats.{CallerView, caller_did, caller_now}
use Rattle.purgatory.specs.Going.{GoesOn, KeepsOperation}
use Rattle.purgatory.specs.declared.outcome.Done.{Done}
use Rattle.purgatory.specs.Listed.{Ends, Keeps, KeepsAccount}
use Rattle.purgatory.specs.Paying.{Pays}

pub stays : (a : CallerView) → GoesOn a a
stays a = record { table = refl; pass = refl; newer = []; steps = refl }

-- by a step more
pub goes_by : (a b c : CallerView) (step : CallerStep) → GoesOn a b → c ≡ caller_did b step → GoesOn a c
goes_by a b c step g e = record {
  table = ap (λ (v : CallerView). v.table) e ∙ g.table;
  pass = ap (λ (v : CallerView). v.pass) e ∙ g.pass;
  newer = step ∷ g.newer;
  steps = ap (λ (v : CallerView). v.steps) e ∙ ap (λ steps. step ∷ steps) g.steps;
}

pub one_step : (a b : CallerView) (step : CallerStep) → b ≡ caller_did a step → GoesOn a b
one_step a b step e = goes_by a a b step (stays a) e

pub goes_far : (a b c : CallerView) → GoesOn a b → GoesOn b c → GoesOn a c
goes_far a b c g h = record {
  table = h.table ∙ g.table;
  pass = h.pass ∙ g.pass;
  newer = h.newer ++ g.newer;
  steps = h.steps ∙ ap (λ steps. h.newer ++ steps) g.steps ∙ sym (append_assoc h.newer g.newer a.steps);
}

pub kept_same : (a : Caller) → KeepsOperation a a
kept_same a = record { generation = refl; description = refl; stage = refl; wins = refl; taken = refl }

pub kept_far : (a b c : Caller) → KeepsOperation a b → KeepsOperation b c → KeepsOperation a c
kept_far a b c g h = record {
  generation = h.generation ∙ g.generation;
  description = h.description ∙ g.description;
  stage = h.stage ∙ g.stage;
  wins = h.wins ∙ g.wins;
  taken = h.taken ∙ g.taken;
}

pub account_same : (a : Caller) → KeepsAccount a a
account_same a = record { generation = refl; description = refl; owed = refl; taken = refl }

pub account_far : (a b c : Caller) → KeepsAccount a b → KeepsAccount b c → KeepsAccount a c
account_far a b c g h = record {
  generation = h.generation ∙ g.generation;
  description = h.description ∙ g.description;
  owed = h.owed ∙ g.owed;
  taken = h.taken ∙ g.taken;
}

pub keeps_same : (a : CallerView) → Keeps a a
keeps_same a = record { went = stays a; account = account_same (caller_now a) }

pub keeps_far : (a b c : CallerView) → Keeps a b → Keeps b c → Keeps a c
keeps_far a b c g h = record {
  went = goes_far a b c g.went h.went;
  account = account_far (caller_now a) (caller_now b) (caller_now c) g.account h.account;
}

-- by a step that leaves the account
pub keeps_by : (a b : CallerView) (step : CallerStep) → KeepsAccount (caller_now a) (caller_now (caller_did a step)) → b ≡ caller_did a step → Keeps a b
keeps_by a b step k e = record {
  went = one_step a b step e;
  account = record {
    generation = ap (λ (v : CallerView). (caller_now v).generation) e ∙ k.generation;
    description = ap (λ (v : CallerView). (caller_now v).description) e ∙ k.description;
    owed = ap (λ (v : CallerView). (caller_now v).owed) e ∙ k.owed;
    taken = ap (λ (v : CallerView). (caller_now v).taken) e ∙ k.taken;
  };
}

pub ends_after : (done : Done) (a b c : CallerView) → Keeps a b → Ends done b c → Ends done a c
ends_after done a b c k h = record { before = h.before; keeps = keeps_far a b h.before k h.keeps; steps = h.steps }

pub pays_far : (gauge : ℕ) (a b c : CallerView) → Pays gauge a b → Pays gauge b c → Pays gauge a c
pays_far gauge a b c g h = record {
  went = goes_far a b c g.went h.went;
  kept = kept_far (caller_now a) (caller_now b) (caller_now c) g.kept h.kept;
  others = λ other n. h.others other n ∙ g.others other n;
}

-- A session that has moved, among those that stand beside it, and sessions that no line has named.
use Rattle.std.proofs.Common.{◌≡◌, ◌≢◌, ◌∙◌, ℕ, ◌<◌, List, [], get_or, length, set, sym, ap, subst, inl, inr, arith}
use Rattle.std.specs.Prelude.{All}
use Rattle.std.proofs.lemmas.Bool.{cases_eq}
use Rattle.std.proofs.lemmas.List.{get_or-set_same, get_or_default}
use Rattle.shared_broker.specs.Passes.{BrokerView}
use Rattle.trace_file.specs.Contents.{input_of}
use Rattle.trace_workers.specs.Resting.{Rests}
use Rattle.trace_workers.specs.Workers.{AllRest, HasDone, WorkerView}
use Rattle.trace_workers.specs.Sessions.{SessionView}
use Rattle.trace_workers.proofs.Going.{nothing_of}

-- at its place another stands now
pub moved_at : (xs : List SessionView) (at : ℕ) (d s : SessionView) → at < length xs → s.pass.going ≢ (get_or xs at d).pass.going → (e : SessionView) → get_or (set xs at s) at e ≢ get_or xs at e
moved_at xs at d s less moved e is = moved (ap (λ (x : SessionView). x.pass.going) (sym (get_or-set_same xs at s e less) ∙ is ∙ get_or_default xs at e d less))

-- before the first line all sessions rest
pub fresh_rests : (broker : BrokerView) (worker : WorkerView) → HasDone broker [] worker → AllRest worker
fresh_rests broker worker h k d less =
    let s = get_or worker.sessions k d in
    let t = h.sessions k d less in
    inr (inl (nothing_of (input_of s.number []) s t.named t.received).going)

-- all rest, if the one that may have moved does, and the others did before
pub rest_beside : (old new : List SessionView) (at : ℕ) → length new ≡ length old → ((k : ℕ) (s : SessionView) → k ≢ at → get_or new k s ≡ get_or old k s) → ((s : SessionView) → Rests (get_or new at s))
    → ((k : ℕ) (s : SessionView) → k ≢ at → k < length old → Rests (get_or old k s)) → All Rests new
rest_beside old new at size alone here others k s less =
    elim (cases_eq k at) [
      | inl is ↦ subst (λ (n : ℕ). Rests (get_or new n s)) (sym is) (here s)
      | inr other ↦ subst Rests (sym (alone k s other)) (others k s other (omega (arith, less, size)))
    ]

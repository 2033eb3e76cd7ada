-- The lines that the sessions of a run kept are those of their replies in its account, and each pass with a transcript has a desk.
use Rattle.std.proofs.Common.{◌≡◌, ◌∙◌, ℕ, ◌<◌, Bool, true, false, List, [], ◌∷◌, ◌++◌, MatchBool, Option, Some, None, get_or, inl, inr, map, sym, ap, arith, subst}
use Rattle.std.specs.Prelude.{All, Any, IfSome, slice_get}
use Rattle.std.proofs.lemmas.Bool.{cases_eq}
use Rattle.std.proofs.lemmas.List.Elements.{All-map}
use Rattle.std.proofs.lemmas.Option.{same_Some, slice_get_within}
use Rattle.audit.specs.declared.account.Account.{Account}
use Rattle.audit.specs.declared.account.Call.{Call}
use Rattle.audit.specs.broker.GoesOn.{GoesOn}
use Rattle.kwire.specs.Configuration.{Configuration}
use Rattle.shared_broker.specs.Passes.{BrokerView, PassView}
use Rattle.trace_file.specs.Contents.{input_of}
use Rattle.trace_file.specs.declared.line.Line.{Line}
use Rattle.trace_file.specs.declared.line.Line.TheVariants.{Clock}
use Rattle.trace_workers.specs.declared.played.Played.{Played}
use Rattle.trace_workers.specs.declared.print_part.PrintPart.{PrintPart}
use Rattle.trace_workers.specs.Closed.{CameTo}
use Rattle.trace_workers.specs.Received.{HasHandled, HasReceivedNothing}
use Rattle.trace_workers.specs.Sessions.{DeskView, SessionView, desk_of}
use Rattle.trace_workers.specs.Telling.{AreKept, HasKept, HaveDesks, IsToldIn, joined}
use Rattle.trace_workers.specs.Workers.{HasTaken}
use Rattle.trace_workers.proofs.Alone.{told_none, told_of, told_one}
use Rattle.trace_workers.proofs.Places.{any_map}
use Rattle.trace_workers.proofs.WorkerRun.{IsListedIn, has_passes, split}

if_kept : (kept : Option (List PrintPart)) (session : ℕ) (pass : PassView) (calls : List Call) (P : List PrintPart → Type 0) → ((parts : List PrintPart) → AreKept (Some parts) session pass calls → P parts)
    → AreKept kept session pass calls → IfSome kept P
if_kept None session pass calls P goes h = tt
if_kept (Some parts) session pass calls P goes h = goes parts h

-- one session
kept_by : (broker : BrokerView) (lines : List Line) (account : Account) (s : SessionView) → HasTaken broker lines s → GoesOn broker.config s.pass.logs.parts s.pass.logs.clock account
    → IsListedIn account s.pass → HasKept account (desk_of s)
kept_by broker lines account s taken on listed = by_name s.is_named taken.received
  where
    input : List ℕ
    input = input_of s.number lines

    there : slice_get account.passes s.number ≡ Some (told_of s)
    there = ap (slice_get account.passes) (sym taken.pass) ∙ listed

    goes : GoesOn s.pass.config s.pass.logs.parts s.pass.logs.clock account
    goes = subst (λ (c : Configuration). GoesOn c s.pass.logs.parts s.pass.logs.clock account) (sym (ap (λ (b : BrokerView). b.config) taken.made)) on

    Told : List PrintPart → Type 0
    Told parts = IsToldIn account s.number (joined account parts)

    by_name : (b : Bool) → MatchBool b (HasHandled input s) (HasReceivedNothing input s) → IfSome s.kept Told
    by_name true h = if_kept s.kept s.number s.pass h.transcript.calls Told
        (λ parts kept. record { transcripts = h.transcript ∷ []; there = there ∙ ap Some (told_one input s h); told = (h.number, (kept.0, kept.1 account goes)) }) h.kept
    by_name false h = if_kept s.kept s.number s.pass [] Told
        (λ parts kept. record { transcripts = []; there = there ∙ ap Some (told_none input s h); told = tt }) h.kept

pub all_kept : (broker : BrokerView) (lines : List Line) (count : ℕ) (drain : Bool) (played : Played) → CameTo broker lines count drain played → All (HasKept played.account) played.desks
all_kept broker lines count drain played came =
    let account = played.account in
    let joined = came.joined in
    let listed = (split (IsListedIn account) joined came.account_is.transcripts).0 in
    let on = (split (λ (p : PassView). GoesOn broker.config p.logs.parts p.logs.clock account) joined came.account_is.goes_on).0 in
    subst (All (HasKept account)) (sym came.desks_are)
    (All-map (HasKept account) desk_of joined.sessions
    (λ k d less. kept_by broker (lines ++ map Clock came.run.added) account (get_or joined.sessions k d) (came.run.whole.sessions k d less) (on k d less) (listed k d less)))

-- only the clock's pass has none
pub have_desks : (broker : BrokerView) (lines : List Line) (count : ℕ) (drain : Bool) (played : Played) → CameTo broker lines count drain played → HaveDesks played.account played.desks
have_desks broker lines count drain played came number transcripts there some =
    let account = played.account in
    let joined = came.joined in
    let run = came.run in
    let passes = has_passes broker lines run.added count drain joined account run.whole came.come came.account_is in
    let within = slice_get_within account.passes number transcripts there in
    let less : number < count = elim (cases_eq number count) [
      | inl last ↦ absurd (some (same_Some transcripts [] (sym there ∙ ap (slice_get account.passes) last ∙ passes.clock)))
      | inr other ↦ omega (arith, within, passes.size, other)
    ] in
    subst (Any (λ (d : DeskView). d.number ≡ number)) (sym came.desks_are) (any_map desk_of (λ (d : DeskView). d.number ≡ number) joined.sessions (run.whole.each number less))

-- The lines of every trace have an account of a run on workers: that of their play, with one pass more and more winners, who have won nothing.
use Rattle.std.proofs.Common.{◌≡◌, ◌∙◌, ℕ, zero, suc, ◌+◌, ◌<◌, Bool, true, false, List, [], ◌∷◌, ◌++◌, MatchBool, Some, unwrap_or, drop, length, append-nil, refl, sym, ap, subst, arith}
use Rattle.std.specs.Prelude.{count_by, replicate, slice_get}
use Rattle.std.specs.List.{AllByRecursion, flat_map}
use Rattle.std.specs.List.Sorted.{IsStrictlyIncreasing}
use Rattle.std.proofs.lemmas.List.{length-append, length-replicate}
use Rattle.std.proofs.lemmas.List.Concat.{flat_map-append}
use Rattle.audit.specs.declared.account.Account.{Account}
use Rattle.audit.specs.declared.account.Call.{Call}
use Rattle.audit.specs.declared.account.Transcript.{Transcript}
use Rattle.audit.specs.Histories.{call_of, calls_in, calls_of, points_of}
use Rattle.audit.specs.IsLawful.{FollowOn, IsLawful, is_won_by, places_in}
use Rattle.audit.specs.RunOf.{IsNotCut, IsRunOf, IsSessionOf}
use Rattle.audit.proofs.broker.Laws.{play_is_lawful, play_is_run, trace_declared, trace_plays}
use Rattle.kbytes.proofs.Laws.{all_append}
use Rattle.kwire.specs.Configuration.{Configuration}
use Rattle.room_core.specs.Numbers.{scanner_numbers}
use Rattle.trace_file.specs.Contents.{configuration_of, is_named, sessions_of}
use Rattle.trace_file.specs.declared.line.Line.{Line}
use Rattle.trace_workers.specs.Playable.{AreTraced}
use Rattle.trace_workers.specs.WorkerRun.{IsWorkerRun}
use Rattle.trace_workers.proofs.LawfulAlike.{call_on, regrouped}

-- ---- a pass more, which did nothing

abbrev one_more : List (List Transcript) → List (List Transcript)
one_more passes = passes ++ [] ∷ []

pass_same : (passes : List (List Transcript)) (k : ℕ) → unwrap_or (slice_get (one_more passes) k) [] ≡ unwrap_or (slice_get passes k) []
pass_same [] zero = refl
pass_same [] (suc k) = refl
pass_same (pass ∷ passes) zero = refl
pass_same (pass ∷ passes) (suc k) = pass_same passes k

there_same : (passes : List (List Transcript)) (k : ℕ) → k < length passes → slice_get (one_more passes) k ≡ slice_get passes k
there_same [] k less = absurd (omega (arith, less))
there_same (pass ∷ passes) zero less = refl
there_same (pass ∷ passes) (suc k) less = there_same passes k (omega (arith, less))

behind : (passes : List (List Transcript)) (n : ℕ) → length passes ≡ n → drop n (one_more passes) ≡ [] ∷ []
behind [] zero size = refl
behind [] (suc n) size = absurd (omega (arith, size))
behind (pass ∷ passes) zero size = absurd (omega (arith, size))
behind (pass ∷ passes) (suc n) size = behind passes n (omega (arith, size))

all_same : (passes : List (List Transcript)) → flat_map calls_in (one_more passes) ≡ flat_map calls_in passes
all_same passes = flat_map-append calls_in passes ([] ∷ []) ∙ append-nil (flat_map calls_in passes)

-- ---- winners more, who have won nothing

wins_same : (wins : List ℕ) (n winner : ℕ) → unwrap_or (slice_get (wins ++ replicate n 0) winner) 0 ≡ unwrap_or (slice_get wins winner) 0
wins_same [] zero winner = refl
wins_same [] (suc n) zero = refl
wins_same [] (suc n) (suc winner) = wins_same [] n winner
wins_same (w ∷ wins) n zero = refl
wins_same (w ∷ wins) n (suc winner) = wins_same wins n winner

-- ---- the account

abbrev more_winners : Account → List ℕ
more_winners account = account.wins ++ replicate (length account.passes + scanner_numbers) 0

abbrev on_workers : Account → Account
on_workers account = regrouped account (one_more account.passes) (more_winners account)

module _ (account : Account) where
  calls_same : (pass : ℕ) → calls_of (on_workers account) pass ≡ calls_of account pass
  calls_same pass = ap calls_in (pass_same account.passes pass)

  call_same : (pass seq : ℕ) → call_of (on_workers account) pass seq ≡ call_of account pass seq
  call_same pass seq = ap (λ (calls : List Call). slice_get calls seq) (calls_same pass)

  lawful_on : IsLawful account → IsLawful (on_workers account)
  lawful_on h = record {
    entries = record {
      left = λ part place by seq e.
          let found = h.entries.left part place by seq e in
          (found.0, call_same by seq ∙ found.1, found.2);
      points = λ pass seq call e. h.entries.points pass seq call (sym (call_same pass seq) ∙ e);
      ticks = h.entries.ticks;
      shrinks = h.entries.shrinks;
      follows = h.entries.follows;
      earlier = λ part place by seq offset t replica e before call less at. h.entries.earlier part place by seq offset t replica e before call less (sym (call_same by before) ∙ at);
    };
    order = λ pass part. subst (λ (calls : List Call). IsStrictlyIncreasing (places_in part (flat_map points_of calls))) (sym (calls_same pass)) (h.order pass part);
    logs = record { followers = h.logs.followers; whole = h.logs.whole };
    calls = λ pass seq call e. call_on account (one_more account.passes) (more_winners account) call (h.calls pass seq call (sym (call_same pass seq) ∙ e));
    wins = λ winner. wins_same account.wins (length account.passes + scanner_numbers) winner ∙ h.wins winner ∙ ap (λ (calls : List Call). count_by (is_won_by winner) calls) (sym (all_same account.passes));
    ends = all_append (FollowOn 0) account.passes ([] ∷ []) h.ends (tt, tt);
  }

  session_on : (lines : List Line) (session : ℕ) (named : Bool) → session < length account.passes → MatchBool named (IsSessionOf lines account session) (slice_get account.passes session ≡ Some [])
      → MatchBool named (IsSessionOf lines (on_workers account) session) (slice_get (one_more account.passes) session ≡ Some [])
  session_on lines session true less h = record { transcript = h.transcript; alone = there_same account.passes session less ∙ h.alone; number = h.number; fits = h.fits; end = h.end }
  session_on lines session false less h = there_same account.passes session less ∙ h

  run_on : (lines : List Line) (port : ℕ) → IsRunOf lines port [] [] account → IsRunOf lines port ([] ∷ []) [] (on_workers account)
  run_on lines port h =
      let size : length account.passes ≡ sessions_of lines = omega (arith, h.passes) in
      record {
        config = h.config;
        passes = length-append account.passes ([] ∷ []) ∙ ap (λ (n : ℕ). n + 1) size;
        behind = behind account.passes (sessions_of lines) size;
        sessions = λ session less. session_on lines session (is_named session lines) (omega (arith, less, size)) (h.sessions session less);
        whole = subst (AllByRecursion IsNotCut) (sym (all_same account.passes)) h.whole;
        ticks = h.ticks;
      }

  winners_on : length account.wins ≡ 1 → length (more_winners account) ≡ scanner_numbers + length (one_more account.passes)
  winners_on one =
      let count : ℕ = length account.passes + scanner_numbers in
      let size : length (more_winners account) ≡ length account.wins + (length account.passes + scanner_numbers) =
      length-append account.wins (replicate count 0) ∙ ap (λ (n : ℕ). length account.wins + n) (length-replicate count 0) in
      let more : length (one_more account.passes) ≡ length account.passes + 1 = length-append account.passes ([] ∷ []) in
      omega (arith, size, more, one)

pub traces_run : (lines : List Line) (port : ℕ) → AreTraced lines → (account : Account) × IsWorkerRun lines port false account
traces_run lines port traced =
    let text = traced.0 in
    let trace = traced.1 in
    let config : Configuration = configuration_of port lines in
    let play = trace_plays config text lines trace in
    let account = play.0 in (
      on_workers account,
      record {
        lawful = lawful_on account (play_is_lawful config lines account play.1 (trace_declared text lines port trace) play.2);
        added = [];
        run = run_on account lines port (play_is_run text lines port account play.1 trace play.2);
        drained = refl;
        winners = winners_on account (ap (λ (a : Account). length a.wins) play.2.accounted);
      },
    )

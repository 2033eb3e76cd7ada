-- What a storm comes to, from how it was run.
use Rattle.std.proofs.Common.{◌≡◌, ℕ, true, List, [], ◌∷◌, take, Option, Some, None, refl, inl, inr, subst, arith}
use Rattle.std.specs.Io.KnownBytes.{Appends, Keeps}
use Rattle.audit.specs.declared.account.Account.{Account}
use Rattle.audit.specs.Printable.{IsPrintable}
use Rattle.audit.specs.Printed.{storm_summary_of}
use Rattle.audit.proofs.retelling.Laws.{printable}
use Rattle.storm.specs.Lines.{storm_lines}
use Rattle.trace_file.specs.declared.line.Line.{Line}
use Rattle.trace_file.specs.declared.line.TheConstants.{REPLAY_PORT}
use Rattle.trace_workers.specs.WorkerRun.{IsWorkerRun}
use Rattle.commands.specs.declared.command.Load.{Load}
use Rattle.commands.specs.Commands.{IsCommand}
use Rattle.commands.specs.declared.command.Command.TheVariants.{Storm}
use Rattle.commands.specs.Stormed.{IsStormed}
use Rattle.commands.proofs.Spellings.{one_load}

-- its account may be printed
pub storm_printable : (lines : List Line) (account : Account) → IsWorkerRun lines REPLAY_PORT true account → IsPrintable account
storm_printable lines account h = printable lines REPLAY_PORT ([] ∷ []) h.added account h.lawful h.run (refl, tt)

pub all_written : (load : Load) (account : Account) (before after : Option (List ℕ)) (text : List ℕ) → IsWorkerRun (storm_lines load.seed load.requests) REPLAY_PORT true account
    → text ≡ storm_summary_of account → Appends before after text → IsStormed load 0 (Some account) before after
all_written load account before after text h is done = record {
  codes = inl refl;
  there = (λ _. inl refl, λ _. refl);
  run = h;
  told = λ _. rw is at done;
  told_in_part = λ e. absurd (omega (arith, e));
  untold = λ e. absurd (omega (arith, e));
}

pub part_written : (load : Load) (account : Account) (before after : Option (List ℕ)) (text : List ℕ) (count : ℕ) → IsWorkerRun (storm_lines load.seed load.requests) REPLAY_PORT true account
    → text ≡ storm_summary_of account → Appends before after (take count text) → IsStormed load 4 (Some account) before after
part_written load account before after text count h is done = record {
  codes = inr (inl refl);
  there = (λ _. inr refl, λ _. refl);
  run = h;
  told = λ e. absurd (omega (arith, e));
  told_in_part = λ _. (count, rw is at done);
  untold = λ e. absurd (omega (arith, e));
}

pub none_written : (load : Load) (before after : Option (List ℕ)) → Keeps before after → IsStormed load 6 None before after
none_written load before after same = record {
  codes = inr (inr refl);
  there = (λ e. absurd cc, λ e. absurd (elim e [ inl f ↦ omega (arith, f) | inr f ↦ omega (arith, f) ]));
  run = tt;
  told = λ e. absurd (omega (arith, e));
  told_in_part = λ e. absurd (omega (arith, e));
  untold = λ _. same;
}

-- the words say one load
pub stormed_as : (words : List (List ℕ)) (load other : Load) (code : ℕ) (account : Option Account) (before after : Option (List ℕ)) → IsCommand words (Storm load) → IsCommand words (Storm other)
    → IsStormed load code account before after → IsStormed other code account before after
stormed_as words load other code account before after is said h = subst (λ (l : Load). IsStormed l code account before after) (one_load words load other is said) h

-- What is so of a pass that is made.
use Rattle.std.proofs.Common.{◌≡◌, ℕ, List, [], ◌∷◌, None, map, ap, refl, sym, subst, arith}
use Rattle.std.proofs.lemmas.List.Elements.{All-map, All-nil}
use Rattle.std.specs.List.{range_with_len}
use Rattle.std.specs.Prelude.{All, IsSome}
use Rattle.audit.specs.declared.account.Transcript.{Transcript}
use Rattle.kwire.specs.Configuration.{Configuration, followers_of}
use Rattle.audit.specs.broker.books.IsBook.{IsBook}
use Rattle.audit.proofs.broker.books.Laws.{opened}
use Rattle.audit.specs.broker.Board.{empty_history}
use Rattle.kwire.specs.DeclaredTopics.{AreDeclared}
use Rattle.shared_broker.specs.Fresh.{IsFresh, IsNewOf, pass_with}
use Rattle.shared_broker.specs.Making.{fresh_pass as made_pass, fresh_passes}
use Rattle.shared_broker.specs.Passes.{BrokerView, PassView}
use Rattle.shared_broker.specs.Standing.{Stands}
use Rattle.shared_logs.specs.Making.{fresh_log_passes, fresh_pass}
use Rattle.shared_logs.specs.Seen.{HasSeen}
use Rattle.shared_logs.specs.Shared.{LogPassView, SharedView, followers_in}

module _ (config : Configuration) (shared : SharedView) (number : ℕ) (topics : AreDeclared config.topics) (followers : followers_in shared ≡ followers_of config.topics) where
  abbrev fresh : LogPassView
  fresh = fresh_pass shared number

  of_fresh : HasSeen fresh → Stands (pass_with config fresh)
  of_fresh seen = record {
    seen = seen;
    topics = topics;
    followers = followers;
    book = subst (λ (f : List ℕ). IsBook (record { config = config; number = number; parts = map empty_history f; clock = []; transcripts = [] }) None) (sym followers) (opened config number topics.few);
    going = tt;
    ended = All-nil (λ (t : Transcript). IsSome t.end);
    begun = tt;
    sits = refl;
    paid = λ gauge. refl;
    few = omega arith;
    opened = omega arith;
    taken = λ by. refl;
  }

pub fresh_stands : (config : Configuration) (logs : LogPassView) → AreDeclared config.topics → followers_in logs.made ≡ followers_of config.topics → IsFresh logs → HasSeen logs → Stands (pass_with config logs)
fresh_stands config logs topics followers is seen =
    subst (λ (l : LogPassView). Stands (pass_with config l)) (sym is) (of_fresh config logs.made logs.number topics followers (subst HasSeen is seen))

-- the passes of new logs
pub new_passes : (config : Configuration) (shared : SharedView) (n : ℕ) → followers_in shared ≡ followers_of config.topics → All (IsNewOf config) (fresh_log_passes shared n)
new_passes config shared n followers = All-map (IsNewOf config) (fresh_pass shared) (range_with_len 0 n) (λ k d less. record { fresh = refl; followers = followers })

of_numbers : (broker : BrokerView) (numbers : List ℕ) → map (pass_with broker.config) (map (fresh_pass broker.logs) numbers) ≡ map (made_pass broker) numbers
of_numbers broker [] = refl
of_numbers broker (k ∷ numbers) = ap (λ (ps : List PassView). made_pass broker k ∷ ps) (of_numbers broker numbers)

pub made_passes : (broker : BrokerView) (n : ℕ) → map (pass_with broker.config) (fresh_log_passes broker.logs n) ≡ fresh_passes broker n
made_passes broker n = of_numbers broker (range_with_len 0 n)

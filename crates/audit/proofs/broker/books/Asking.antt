-- A request that is delayed asks some partition: there is no operation without one.
use Rattle.std.proofs.Common.{◌≡◌, ℕ, negsuc, Bool, true, false, ◌&&◌, ◌||◌, not, List, [], ◌∷◌, length, map, Option, refl, sym, ap, ◌∙◌}
use Rattle.std.specs.Prelude.{nat_lt}
use Rattle.std.specs.List.{cons_option, filter_map, list_any}
use Rattle.std.specs.Ordering.{int_eq}
use Rattle.audit.specs.declared.account.Account.{Account}
use Rattle.audit.specs.LawfulCall.{Step, is_delayed, operation_parts, part_in, shown_as_accepted}
use Rattle.kanswer.specs.declared.accepted.Accepted.{Accepted}
use Rattle.kanswer.specs.declared.accepted.Accepted.TheVariants.{Refused, Appended, Seen}
use Rattle.kanswer.specs.Waiting.{all_seen, becomes_delayed, falls_short, is_refused, needs_of, produce_need, results_of}
use Rattle.kwire.specs.declared.request.Ask.{Ask}
use Rattle.kwire.specs.declared.request.Ask.TheVariants.{Produce, Fetch, Metadata, Versions}
use Rattle.kwire.specs.declared.request.Request.{Request}
use Rattle.opcond.specs.declared.need.Need.{Need}

both : (a b : Bool) → (a && b) ≡ true → (a ≡ true) × (b ≡ true)
both true b e = (refl, e)
both false b e = absurd cc

needs_none : (account : Account) (steps : List Step) → operation_parts steps ≡ [] → filter_map (λ (need : Option Need). need) (map produce_need (results_of (shown_as_accepted account steps))) ≡ []
needs_none account [] none = refl
needs_none account (step ∷ steps) none = by_result step.result (operation_parts steps) (needs_none account steps) none
  where
    by_result : (result : Accepted) (parts : List ℕ) {needs : List Need} → (parts ≡ [] → needs ≡ []) → cons_option (part_in result) parts ≡ [] → cons_option (produce_need result) needs ≡ []
    by_result (Refused code) parts on e = on e
    by_result (Appended part base count) parts on e = absurd cc
    by_result (Seen part start) parts on e = absurd cc

none_seen : (account : Account) (steps : List Step) → operation_parts steps ≡ [] → all_seen (results_of (shown_as_accepted account steps)) ≡ true → ⊥
none_seen account [] none seen = absurd cc
none_seen account (step ∷ steps) none seen = by_result step.result (operation_parts steps) (list_any is_refused (results_of (shown_as_accepted account steps))) none (both _ _ seen).1
  where
    by_result : (result : Accepted) (parts : List ℕ) (rest : Bool) → cons_option (part_in result) parts ≡ [] → not (is_refused result || rest) ≡ true → ⊥
    by_result (Refused code) parts rest e seen_all = absurd cc
    by_result (Appended part base count) parts rest e seen_all = absurd cc
    by_result (Seen part start) parts rest e seen_all = absurd cc

by_ask : (account : Account) (ask : Ask) (steps : List Step) → operation_parts steps ≡ [] → becomes_delayed ask (shown_as_accepted account steps) ≡ true → ⊥
by_ask account (Produce version transactional acks timeout topics) steps none delayed =
    let needs = needs_of (Produce version transactional acks timeout topics) (results_of (shown_as_accepted account steps)) in
    let short = falls_short (Produce version transactional acks timeout topics) (shown_as_accepted account steps) in
    let some : nat_lt 0 (length needs) ≡ true = (both (nat_lt 0 (length needs)) short (both (int_eq acks (negsuc 0)) (nat_lt 0 (length needs) && short) delayed).1).0 in
    let never : false ≡ true = sym (ap (λ (ns : List Need). nat_lt 0 (length ns)) (needs_none account steps none)) ∙ some in
    absurd cc
by_ask account (Fetch version replica max_wait min_bytes max_bytes isolation topics) steps none delayed = none_seen account steps none (both _ _ (both _ _ delayed).1).0
by_ask account (Metadata topics) steps none delayed = absurd cc
by_ask account (Versions version) steps none delayed = absurd cc

pub delayed_asks : (account : Account) (request : Request) (steps : List Step) → is_delayed account request steps ≡ true → operation_parts steps ≡ [] → ⊥
delayed_asks account request steps delayed none = by_ask account request.ask steps none delayed

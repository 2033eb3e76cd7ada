use Rattle.std.proofs.Common.{◌≡◌, ◌∙◌, ◌++◌, ℕ, arith, ap, drop, length, subst, sym, take}
use Rattle.std.specs.Prelude.{All}
use Rattle.trace_workers.specs.Dealing.{empty_workers}
use Rattle.trace_workers.specs.Dealt.{AreDealt}
use Rattle.trace_workers.specs.Workers.{AllKeep}
use Rattle.trace_workers.proofs.Deals.{as_many, at_first, empty_size, none_keep}
use Rattle.trace_workers.proofs.NewPasses.{as_many_passes, last_pass}
use Rattle.trace_workers.proofs.Working.{written}
use Rattle.trace_workers.proofs.dealing.deal.Goals as goal

pub deal_sessions-requires-clause-some : goal.deal_sessions-requires-clause-some
deal_sessions-requires-clause-some c =
    let many = ap length (c.as_mut_slice.ensures.value ∙ c.in_ok-workers.ensures) in
    omega (arith, many, empty_size c.args.worker_count, c.requires.worker_count.0)

pub deal_sessions-requires-clause-few : goal.deal_sessions-requires-clause-few
deal_sessions-requires-clause-few c =
    let f = c.requires.fresh in
    let parts = last_pass f.0 f.1 c.pop.new.self c.in-Some.clock (sym c.in-Some.ensures.items ∙ f.2) in
    omega (arith, as_many_passes f.0 f.1 c.pop.new.self parts.0, f.3)

pub deal_clock-requires : goal.deal_clock-requires
deal_clock-requires c =
    let workers = c.in_ok-workers.workers in
    let dealt = c.deal_sessions.new.workers in
    let size = c.deal_sessions.auto.workers ∙ ap length c.as_mut_slice.ensures.value in
    let many = size ∙ ap length c.in_ok-workers.ensures in
    let again = ap length (c.as_mut_slice-2.ensures.value ∙ written workers dealt size) in
    record { some = omega (arith, again, many, empty_size c.args.worker_count, c.requires.worker_count.0) }

pub returns : goal.returns
returns c =
    let worker_count = c.args.worker_count in
    let keeps = c.args.keeps_lines in
    let workers = c.in_ok-workers.workers in
    let lent = c.as_mut_slice.result.now in
    let dealt = c.deal_sessions.new.workers in
    let again = c.as_mut_slice-2.result.now in
    let clocked = c.deal_clock.new.workers in
    let whole = take (length workers) (dealt ++ drop (length dealt) workers) in
    let lent_is : lent ≡ empty_workers worker_count = c.as_mut_slice.ensures.value ∙ c.in_ok-workers.ensures in
    let whole_is : whole ≡ dealt = written workers dealt (c.deal_sessions.auto.workers ∙ ap length c.as_mut_slice.ensures.value) in
    let again_is : again ≡ dealt = c.as_mut_slice-2.ensures.value ∙ whole_is in
    let last_is = written whole clocked (c.deal_clock.auto.workers ∙ ap length c.as_mut_slice-2.ensures.value) in
    record {
      dealt = λ broker count fresh.
          let parts = last_pass broker count c.pop.new.self c.in-Some.clock (sym c.in-Some.ensures.items ∙ fresh) in
          let new = at_first broker worker_count in
          let many = ap length lent_is ∙ new.size in
          let sessions = c.in_ok-deal_sessions.ensures.dealt broker count parts.0 (as_many broker 0 worker_count (empty_workers worker_count) lent (sym lent_is) new) in
          let clock = c.deal_clock.ensures.dealt broker count parts.1 (as_many broker count (length lent) dealt again (sym again_is) sessions) in
          subst (AreDealt broker count worker_count) (sym last_is)
          (subst (λ (w : ℕ). AreDealt broker count w clocked) (ap length again_is ∙ c.deal_sessions.auto.workers ∙ many) clock);
      kept =
          let sessions = c.in_ok-deal_sessions.ensures.kept (subst (All (AllKeep keeps)) (sym lent_is) (none_keep keeps worker_count)) in
          subst (All (AllKeep keeps)) (sym last_is) (c.deal_clock.ensures.kept keeps (subst (All (AllKeep keeps)) (sym again_is) sessions));
    }

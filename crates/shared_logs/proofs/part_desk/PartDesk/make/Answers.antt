use Rattle.std.proofs.Common.{◌≡◌, ℕ, [], sym, subst, ◌∙◌, arith}
use Rattle.partlog.specs.Gauges.{numbers_of}
use Rattle.partlog.specs.History.{History}
use Rattle.partlog.specs.State.{state_of}
use Rattle.partlog.proofs.Laws.{high-within}
use Rattle.shared_logs.specs.Keeps.{AreAt, PartKeeps}
use Rattle.shared_logs.specs.declared.sources.PartSources.{PartSources}
use Rattle.shared_logs.proofs.part_desk.PartDesk.make.Goals as goal

none : (followers : ℕ) → (state_of (record { log = []; followers = followers; events = [] })).high ≡ 0
none followers = omega (arith, high-within followers [])

pub invariant_of-result : goal.invariant_of-result
invariant_of-result c =
    let boxed : c.in_ok-new.field-0.value ≡ c.in_ok-log.log = c.in_ok-new.ensures.ok in
    let empty : c.in_ok-log.log ≡ record { log = []; followers = c.args.followers; events = [] } = c.in_ok-log.ensures.empty in
    subst (λ (s : PartSources). PartKeeps (record { history = c.in_ok-new.field-0.value; part = c.args.part; sources = s })) (sym c.in_ok-new-2.ensures.ok)
    (subst (λ (h : History). PartKeeps (record { history = h; part = c.args.part; sources = c.args.sources })) (sym boxed) (record {
      kept = c.in_ok-log.ensures.kept;
      whose = c.requires.whose;
      values = subst (λ (h : History). AreAt (numbers_of (state_of h)) c.args.sources) (sym empty) (record {
        high = c.requires.fresh.high ∙ sym (none c.args.followers);
        visible = c.requires.fresh.visible;
        end = c.requires.fresh.end;
      });
      quiet = record { high = c.stays_quiet.ensures.quiet; visible = c.stays_quiet-2.ensures.quiet; end = c.stays_quiet-3.ensures.quiet };
    }))

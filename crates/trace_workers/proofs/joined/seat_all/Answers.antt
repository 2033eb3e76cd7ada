use Rattle.std.proofs.Common.{◌≡◌, ◌∙◌, List, ◌++◌, length, ap, rules, sym}
use Rattle.std.proofs.lemmas.List.{nil_from_length}
use Rattle.std.specs.Vec.Iter.{into_iter_items}
use Rattle.shared_broker.specs.Passes.{PassView}
use Rattle.trace_workers.specs.Sessions.{DeskView, SessionView}
use Rattle.trace_workers.proofs.Sessions.{as_many_desks, seated, seated_again, seated_all}
use Rattle.trace_workers.proofs.joined.seat_all.Goals as goal

pub loop-pass-init : goal.loop-pass-init
loop-pass-init c =
    let passes = c.args.passes in
    let desks = c.args.desks in
    let r = c.requires in
    let passes_are : into_iter_items c.into_iter-pass-iterator.result ≡ passes = c.into_iter-pass-iterator.ensures.into_iter_gives.0 ∙ c.into_vec-pass-items.ensures in
    let left_are : into_iter_items c.into_iter-left.result ≡ desks = c.into_iter-left.ensures.rest ∙ c.into_vec.ensures in
    record {
      passes_len = search rules;
      desks_len = search rules;
      same = ap (λ (ds : List DeskView). length ds) left_are ∙ as_many_desks r.0 desks passes r.2 r.1 ∙ sym (ap (λ (ps : List PassView). length ps) passes_are);
      all = ap (λ (ss : List SessionView). ss ++ seated (into_iter_items c.into_iter-left.result) (into_iter_items c.into_iter-pass-iterator.result)) c.new-sessions.ensures
          ∙ ap (λ (ps : List PassView). seated (into_iter_items c.into_iter-left.result) ps) passes_are ∙ ap (λ (ds : List DeskView). seated ds passes) left_are;
    }

pub returns : goal.returns
returns c sessions p d =
    let i = c.loop-pass.invariant in
    seated_all (into_iter_items c.loop-pass.pass-iterator) (into_iter_items c.loop-pass.left) c.loop-pass.sessions (seated c.args.desks c.args.passes) (nil_from_length _ (sym i.passes_len ∙ c.in-None.ensures.steps.0)) i.all
    ∙ seated_again sessions c.args.desks c.args.passes d p

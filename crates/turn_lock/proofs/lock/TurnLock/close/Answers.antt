use Rattle.std.proofs.Common.{arith, ◌<◌, sym, ◌∙◌, subst}
use Rattle.std.specs.Prelude.{All}
use Rattle.std.proofs.lemmas.List.Elements.{All-weaker}
use Rattle.turn_lock.specs.Locks.{IsPassOf, IsReady}
use Rattle.turn_lock.proofs.Ends.{closed, not_none, closed_at, closed_each, closed_once}
use Rattle.turn_lock.proofs.lock.TurnLock.close.Goals as goal

pub unreachable-requires : goal.unreachable-requires
unreachable-requires g c =
    let all = c.args.passes in
    let key = c.args.self.board.shared.key in
    let name = g.T.Kept.name key.value.value in
    let there = closed g.T.Kept.entries g.T.Kept.by g.T.Kept.name key.passes name c.gather-seat.result.id c.gather-seat.result.me all _ _ c.take-found.result c.gather-seat.ensures.1
    (c.requires.all ∙ c.args.self.counted) (All-weaker (λ p. IsPassOf g.T.Kept.name c.args.self p × IsReady p) IsReady (λ p h. h.1) all c.requires.each)
    c.close_with-closed.ensures.values.2 c.take-found.ensures.value in
    not_none g.T.Kept.entries g.T.Kept.by g.T.Kept.name key.passes name all c.take-found.result there c.in_default.is

pub returns : goal.returns
returns g c =
    let all = c.args.passes in
    let key = c.args.self.board.shared.key in
    let name = g.T.Kept.name key.value.value in
    let there = closed g.T.Kept.entries g.T.Kept.by g.T.Kept.name key.passes name c.gather-seat.result.id c.gather-seat.result.me all _ _ c.take-found.result c.gather-seat.ensures.1
    (c.requires.all ∙ c.args.self.counted) (All-weaker (λ p. IsPassOf g.T.Kept.name c.args.self p × IsReady p) IsReady (λ p h. h.1) all c.requires.each)
    c.close_with-closed.ensures.values.2 c.take-found.ensures.value in
    let closes = closed_at g.T.Kept.entries g.T.Kept.by g.T.Kept.name key.passes name all c.take-found.result c.in-Some.value there c.in-Some.is in
    record {
      name = closes.named;
      each = closed_each g.T.Kept.entries g.T.Kept.by g.T.Kept.name key.passes name all c.in-Some.value closes;
      once = λ number l. closed_once g.T.Kept.entries g.T.Kept.by g.T.Kept.name key.passes name all c.in-Some.value closes number (let counted = c.args.self.counted in omega arith);
      whose = subst (λ n. All (λ e. g.T.Kept.by e < n) (g.T.Kept.entries c.in-Some.value)) (sym c.args.self.counted) closes.whose;
    }

use Rattle.std.proofs.Common.{ℕ, Bool, List, ◌++◌, map, subst, sym}
use Rattle.std.specs.Prelude.{All}
use Rattle.std.proofs.lemmas.List.Elements.{All-map}
use Rattle.std.proofs.lemmas.Result.{IfOk-weaker}
use Rattle.shared_broker.specs.Passes.{BrokerView}
use Rattle.trace_file.specs.declared.line.Line.{Line}
use Rattle.trace_file.specs.declared.line.Line.TheVariants.{Clock}
use Rattle.trace_workers.specs.Closed.{HasClosed, HasGoneOn, StillKeep}
use Rattle.trace_workers.specs.Joined.{HasCome, HasRun, JoinedView}
use Rattle.trace_workers.specs.Sessions.{HasLines, KeepsLines, desk_of}
use Rattle.trace_workers.specs.declared.joined.Closing.{Closing}
use Rattle.trace_workers.proofs.joined.Unclosed.finish.Goals as goal

pub try_close-requires : goal.try_close-requires
try_close-requires g c =
    let r = c.requires in
    let h = c.in_ok-finish.ensures.run r.0 r.1 r.2 in
    record { whole = (r.0 ++ map Clock h.added, r.1, h.whole, r.3) }

gone_on : (broker : BrokerView) (lines : List Line) (count : ℕ) (drain : Bool) (joined : JoinedView) (closing : Closing) → HasRun broker lines count drain joined → HasCome drain joined
    → HasClosed broker joined closing → HasGoneOn broker lines count drain closing
gone_on broker lines count drain joined (Closing.Closed played) run come is = record { joined = joined; run = run; come = come; account_is = is.0; desks_are = is.1 }
gone_on broker lines count drain joined (Closing.Again again back) run come is = (is.0, subst (HasRun broker lines count drain) (sym is.1) run)

still_keep : (keeps : Bool) (broker : BrokerView) (joined : JoinedView) (closing : Closing) → HasClosed broker joined closing → All (KeepsLines keeps) joined.sessions → StillKeep keeps closing
still_keep keeps broker joined (Closing.Closed played) is all = subst (All (HasLines keeps)) (sym is.1) (All-map (HasLines keeps) desk_of joined.sessions all)
still_keep keeps broker joined (Closing.Again again back) is all = subst (λ (j : JoinedView). All (KeepsLines keeps) j.sessions) (sym is.1) all

pub returns-clause-gone : goal.returns-clause-gone
returns-clause-gone g c =
    let broker = c.args.self.broker in
    let drain = c.args.drain in
    let joined = c.finish.new.self in
    IfOk-weaker c.try_close.result (HasClosed broker joined) _
    (λ closing is lines count run. gone_on broker lines count drain joined closing (c.in_ok-finish.ensures.run lines count run) c.in_ok-finish.ensures.come is) c.try_close.ensures

pub returns-clause-kept : goal.returns-clause-kept
returns-clause-kept g c =
    let broker = c.args.self.broker in
    let joined = c.finish.new.self in
    IfOk-weaker c.try_close.result (HasClosed broker joined) _ (λ closing is keeps all. still_keep keeps broker joined closing is (c.finish.ensures.kept keeps all)) c.try_close.ensures

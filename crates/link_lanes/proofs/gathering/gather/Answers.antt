use Rattle.std.proofs.Common.{◌≡◌, ◌∙◌, false, List, [], ◌∷◌, ◌++◌, ap, rules, sym}
use Rattle.std.proofs.lemmas.List.{append_assoc, map-append}
use Rattle.std.proofs.lemmas.List.Elements.{All-push}
use Rattle.std.specs.Vec.Iter.{into_iter_items}
use Rattle.outside.specs.shared.queue.Passes.{joined}
use Rattle.outside.specs.shared.queue.QueueViews as queue
use Rattle.link_lanes.specs.Halls.{LaneView, ServerView}
use Rattle.link_lanes.proofs.Dismissed.{one_more}
use Rattle.link_lanes.proofs.gathering.gather.Goals as goal

pub loop-lane-preserved : goal.loop-lane-preserved
loop-lane-preserved g c =
    let i = c.loop-lane.invariant in
    let lane = c.in-Some.lane in
    let yielded : List (LaneView g.row.P-Link.Denot) = c.loop-lane.yielded in
    record {
      running = All-push (λ (one : LaneView g.row.P-Link.Denot). one.is_stopped ≡ false) yielded lane i.running (sym (ap (λ (one : LaneView g.row.P-Link.Denot). one.is_stopped) c.lane.view_is) ∙ c.if-lane.false);
      servers = c.in_ok-push.ensures.ok
          ∙ ap (λ (one : ServerView g.row.P-Link.Denot). c.loop-lane.servers ++ one ∷ []) c.dismiss.ensures.server
          ∙ ap (λ (all : List (ServerView g.row.P-Link.Denot)). all ++ lane.server ∷ []) i.servers
          ∙ sym (map-append (λ (one : LaneView g.row.P-Link.Denot). one.server) yielded (lane ∷ []));
      first = c.dismiss.ensures.first ∙ ap (λ (pass : queue.PassView g.row.P-Link.Denot). joined pass lane.hand) i.first ∙ one_more c.args.first.now yielded lane;
      len = search rules;
      whole = append_assoc yielded (lane ∷ []) (into_iter_items c.next.new.self) ∙ ap (λ (rest : List (LaneView g.row.P-Link.Denot)). yielded ++ rest) (sym c.in-Some.ensures.steps.0) ∙ i.whole;
    }

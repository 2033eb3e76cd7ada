use Rattle.std.proofs.Common.{◌≡◌, ◌∙◌, ◌++◌, List, ap, arith, drop, length, take}
use Rattle.std.proofs.lemmas.List.{length-map}
use Rattle.std.proofs.lemmas.Result.{IfOk-weaker}
use Rattle.link_lanes.specs.Halls.{LaneView}
use Rattle.link_lanes.specs.Seen.{seen_by}
use Rattle.link_lanes.specs.Together.{HaveGone}
use Rattle.link_lanes.proofs.Joined.{all_ready, first_of_queue, gathered_so, hands_of_queue, how_many, server_in}
use Rattle.link_lanes.proofs.Lent.{gone_again, ready_lent}
use Rattle.link_lanes.proofs.runs.serve_all.Goals as goal

pub run_lanes-requires-clause-some : goal.run_lanes-requires-clause-some
run_lanes-requires-clause-some g c = omega (arith, c.requires.new.some, how_many (seen_by g.P.Link.Link.taken g.P.Link.Link.left g.P.Link.Link.written g.P.Link.Link.faults g.P.Link.Link.is_shut) c.args.hall.now c.args.lanes c.args.first c.requires.new, ap length c.as_mut_slice.ensures.value)

pub run_lanes-requires-clause-ready : goal.run_lanes-requires-clause-ready
run_lanes-requires-clause-ready g c κs within =
    ready_lent (seen_by g.P.Link.Link.taken g.P.Link.Link.left g.P.Link.Link.written g.P.Link.Link.faults g.P.Link.Link.is_shut) c.args.hall.now c.args.lanes c.as_mut_slice.result.now c.as_mut_slice.ensures.value (all_ready (seen_by g.P.Link.Link.taken g.P.Link.Link.left g.P.Link.Link.written g.P.Link.Link.faults g.P.Link.Link.is_shut) c.args.hall.now c.args.lanes c.args.first c.requires.new)

pub gather-requires : goal.gather-requires
gather-requires g c =
    let see = seen_by g.P.Link.Link.taken g.P.Link.Link.left g.P.Link.Link.written g.P.Link.Link.faults g.P.Link.Link.is_shut in
    let now : List (LaneView g.row.P-Link.Denot) = take (length c.args.lanes) (c.run_lanes.new.lanes ++ drop (length c.run_lanes.new.lanes) c.args.lanes) in
    let gone : HaveGone see c.args.hall.now c.args.lanes now = gone_again see c.args.hall.now c.args.lanes c.as_mut_slice.result.now c.run_lanes.new.lanes c.as_mut_slice.ensures.value c.run_lanes.ensures in
    record {
      queue = first_of_queue see c.args.hall.now c.args.lanes c.args.first c.requires.new;
      each = hands_of_queue see c.args.hall.now c.args.lanes c.args.first c.requires.new now gone;
    }

pub finish-requires : goal.finish-requires
finish-requires g c =
    let see = seen_by g.P.Link.Link.taken g.P.Link.Link.left g.P.Link.Link.written g.P.Link.Link.faults g.P.Link.Link.is_shut in
    let now : List (LaneView g.row.P-Link.Denot) = take (length c.args.lanes) (c.run_lanes.new.lanes ++ drop (length c.run_lanes.new.lanes) c.args.lanes) in
    let gone : HaveGone see c.args.hall.now c.args.lanes now = gone_again see c.args.hall.now c.args.lanes c.as_mut_slice.result.now c.run_lanes.new.lanes c.as_mut_slice.ensures.value c.run_lanes.ensures in
    let size : length c.in_ok-servers.servers ≡ length now = ap length c.in_ok-servers.ensures.servers ∙ length-map now server_in in
    record {
      some = omega (arith, c.requires.new.some, how_many see c.args.hall.now c.args.lanes c.args.first c.requires.new, size, gone.size);
      gathered = gathered_so see c.args.hall.now c.args.lanes c.args.first c.requires.new now gone c.in_ok-servers.ensures.running c.in_ok-servers.servers c.gather.new.first c.in_ok-servers.ensures.servers c.in_ok-servers.ensures.first;
    }

pub returns-clause-size : goal.returns-clause-size
returns-clause-size g c =
    let see = seen_by g.P.Link.Link.taken g.P.Link.Link.left g.P.Link.Link.written g.P.Link.Link.faults g.P.Link.Link.is_shut in
    let now : List (LaneView g.row.P-Link.Denot) = take (length c.args.lanes) (c.run_lanes.new.lanes ++ drop (length c.run_lanes.new.lanes) c.args.lanes) in
    let gone : HaveGone see c.args.hall.now c.args.lanes now = gone_again see c.args.hall.now c.args.lanes c.as_mut_slice.result.now c.run_lanes.new.lanes c.as_mut_slice.ensures.value c.run_lanes.ensures in
    let size : length c.in_ok-servers.servers ≡ length c.args.lanes = ap length c.in_ok-servers.ensures.servers ∙ length-map now server_in ∙ gone.size in
    IfOk-weaker c.finish.result (λ done. length done.0 ≡ length c.in_ok-servers.servers) (λ done. length done.0 ≡ length c.args.lanes) (λ done is. is ∙ size) c.finish.ensures.size

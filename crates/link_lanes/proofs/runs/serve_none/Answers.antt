use Rattle.std.proofs.Common.{◌≡◌, ◌∙◌, All, [], ap, length, map}
use Rattle.std.proofs.lemmas.List.{length-map}
use Rattle.std.proofs.lemmas.Result.{IfOk-weaker}
use Rattle.std.specs.Prelude.{List}
use Rattle.link_lanes.specs.Halls.{ServerView}
use Rattle.link_lanes.specs.Seen.{seen_by}
use Rattle.link_lanes.specs.Together.{AreIdle}
use Rattle.link_lanes.proofs.Joined.{first_of_queue, hands_of_queue, idle_so, none_asked, none_gone, server_in}
use Rattle.link_lanes.proofs.runs.serve_none.Goals as goal

pub gather-requires : goal.gather-requires
gather-requires g c = record {
  queue = first_of_queue (seen_by g.P.Link.Link.taken g.P.Link.Link.left g.P.Link.Link.written g.P.Link.Link.faults g.P.Link.Link.is_shut) c.args.hall.now c.args.lanes c.args.first c.requires.new;
  each = hands_of_queue (seen_by g.P.Link.Link.taken g.P.Link.Link.left g.P.Link.Link.written g.P.Link.Link.faults g.P.Link.Link.is_shut) c.args.hall.now c.args.lanes c.args.first c.requires.new c.args.lanes (none_gone (seen_by g.P.Link.Link.taken g.P.Link.Link.left g.P.Link.Link.written g.P.Link.Link.faults g.P.Link.Link.is_shut) c.args.hall.now c.args.lanes c.args.first c.requires.new);
}

pub returns : goal.returns
returns g c =
    let see = seen_by g.P.Link.Link.taken g.P.Link.Link.left g.P.Link.Link.written g.P.Link.Link.faults g.P.Link.Link.is_shut in
    let are = c.gather.ensures.servers in
    record {
      idle = IfOk-weaker c.gather.result (λ (servers : List (ServerView g.row.P-Link.Denot)). servers ≡ map server_in c.args.lanes) (AreIdle see c.args.hall.now)
          (λ servers is. idle_so see c.args.hall.now c.args.lanes c.args.first c.requires.new servers is) are;
      size = IfOk-weaker c.gather.result (λ (servers : List (ServerView g.row.P-Link.Denot)). servers ≡ map server_in c.args.lanes) (λ (servers : List (ServerView g.row.P-Link.Denot)). length servers ≡ length c.args.lanes)
          (λ servers is. ap length is ∙ length-map c.args.lanes server_in) are;
      unasked = IfOk-weaker c.gather.result (λ (servers : List (ServerView g.row.P-Link.Denot)). servers ≡ map server_in c.args.lanes) (All (λ (server : ServerView g.row.P-Link.Denot). server.key.own ≡ []))
          (λ servers is. none_asked see c.args.hall.now c.args.lanes c.args.first c.requires.new servers is) are;
    }

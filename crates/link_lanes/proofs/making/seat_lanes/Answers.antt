use Rattle.std.proofs.Common.{◌≡◌, ◌∙◌, ℕ, List, ap, arith, length, map, subst}
use Rattle.std.specs.Prelude.{IfOk, OnOk}
use Rattle.link_lanes.specs.Halls.{LaneView, ServerView}
use Rattle.link_lanes.specs.Made.{new_lane, with_fewer_parts}
use Rattle.link_lanes.proofs.Made.{as_many_seated}
use Rattle.link_lanes.proofs.making.seat_lanes.Goals as goal

pub make_lanes-requires-clause-parts : goal.make_lanes-requires-clause-parts
make_lanes-requires-clause-parts g c =
    let size : length c.in_ok-servers.servers ≡ length c.args.parts.passes = ap length c.in_ok-servers.ensures ∙ as_many_seated g.row.P-Link.Denot c.args.parts.passes c.args.parts.seats c.args.parts.keys c.requires.seats c.requires.keys in
    omega (arith, size, c.requires.room)

pub returns-clause-lanes : goal.returns-clause-lanes
returns-clause-lanes g c =
    subst (λ (servers : List (ServerView g.row.P-Link.Denot)). IfOk c.make_lanes.result (λ (lanes : List (LaneView g.row.P-Link.Denot)). lanes ≡ map (new_lane c.args.hall.now.queue) servers))
    c.in_ok-servers.ensures c.make_lanes.ensures.lanes

pub returns-clause-first : goal.returns-clause-first
returns-clause-first g c =
    let size : length c.in_ok-servers.servers ≡ length c.args.parts.passes = ap length c.in_ok-servers.ensures ∙ as_many_seated g.row.P-Link.Denot c.args.parts.passes c.args.parts.seats c.args.parts.keys c.requires.seats c.requires.keys in
    subst (λ (n : ℕ). OnOk c.make_lanes.result (c.make_lanes.new.first ≡ with_fewer_parts n c.args.first.now)) size c.make_lanes.ensures.first

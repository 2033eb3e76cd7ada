use Rattle.std.proofs.Common.{◌∙◌, ℕ, ◌+◌, ap, sym}
use Rattle.link_lanes.specs.Seen.{seen_by}
use Rattle.link_lanes.proofs.Made.{as_many_lanes}
use Rattle.link_lanes.proofs.RunOver.{lane_run}
use Rattle.link_lanes.proofs.runs.serve_links.Goals as goal

pub close-requires-clause-passes : goal.close-requires-clause-passes
close-requires-clause-passes g c =
    let begun = c.in_ok-hall.ensures in
    begun.passes ∙ sym (c.in_ok-servers.ensures.size ∙ as_many_lanes c.in_ok-hall.field-0.hall c.args.serving.lanes c.in_ok-hall.field-0.lanes begun.lanes_are)

pub close-requires-clause-seats : goal.close-requires-clause-seats
close-requires-clause-seats g c =
    let begun = c.in_ok-hall.ensures in
    begun.seats ∙ sym (c.in_ok-servers.ensures.size ∙ as_many_lanes c.in_ok-hall.field-0.hall c.args.serving.lanes c.in_ok-hall.field-0.lanes begun.lanes_are)

pub close-requires-clause-keys : goal.close-requires-clause-keys
close-requires-clause-keys g c =
    let begun = c.in_ok-hall.ensures in
    begun.keys ∙ ap (λ (n : ℕ). n + 1) (sym (c.in_ok-servers.ensures.size ∙ as_many_lanes c.in_ok-hall.field-0.hall c.args.serving.lanes c.in_ok-hall.field-0.lanes begun.lanes_are))

pub returns : goal.returns
returns g c =
    let begun = c.in_ok-hall.ensures in
    let done = c.in_ok-servers.ensures in
    lane_run (seen_by g.P.Link.Link.taken g.P.Link.Link.left g.P.Link.Link.written g.P.Link.Link.faults g.P.Link.Link.is_shut) c.in_ok-hall.field-0.hall c.in_ok-servers.servers c.serve.new.opener c.args.config c.args.serving.number c.args.serving.most (g.P.Port.faults c.args.port) c.in_ok-account.account
    (record { faults = g.P.Port.faults c.in_ok-account.port; opened_with = g.P.Port.opened_with c.in_ok-account.port; given = g.P.Port.given c.in_ok-account.port; is_ended = g.P.Port.is_ended c.in_ok-account.port; retired_count = g.P.Port.retired_count c.in_ok-account.port; retired = g.P.Port.retired c.in_ok-account.port }) (g.C.Clock.moment c.in_ok-account.clock) c.in_ok-servers.has_failed
    c.books_are_served.ensures.served c.books_are_served.ensures.ticks begun.config_is begun.terms done.idle c.in_ok-account.ensures done.opened done.over

use Rattle.std.proofs.Common.{◌≡◌, ◌∙◌, Bool, true, [], ◌∷◌, ap, sym}
use Rattle.std.proofs.lemmas.Result.{on_ok_weaker}
use Rattle.link_lanes.specs.books.Shown.{shown_link}
use Rattle.link_lanes.specs.Halls.{ServerView}
use Rattle.link_lanes.specs.Seen.{seen_by}
use Rattle.link_lanes.proofs.Served.{found, none_there, served_from, served_on}
use Rattle.link_lanes.proofs.server.Server.serve.Goals as goal
use Rattle.session.specs.Flows.{LinkView, link_of}

pub serve_session-requires : goal.serve_session-requires
serve_session-requires g c =
    let r = c.requires.ready in
    let is = found (seen_by g.P.Link.Link.taken g.P.Link.Link.left g.P.Link.Link.written g.P.Link.Link.faults g.P.Link.Link.is_shut) c.args.hall.now (record { broker = c.hall.inside.broker; clock = c.hall.inside.clock; port = c.hall.inside.port; queue = c.hall.inside.queue }) r.0 (c.args.item.number ∷ []) r.1 r.2 c.args.self.now (record { pass = c.self.inside.pass; seat = c.self.inside.seat; key = c.self.inside.key }) c.hall.view_is c.self.view_is r.3 in
    record { made = is.book.made; none = is.book.idle; seat = is.seat }

pub retire-requires : goal.retire-requires
retire-requires g c =
    let r = c.requires.ready in
    let is = found (seen_by g.P.Link.Link.taken g.P.Link.Link.left g.P.Link.Link.written g.P.Link.Link.faults g.P.Link.Link.is_shut) c.args.hall.now (record { broker = c.hall.inside.broker; clock = c.hall.inside.clock; port = c.hall.inside.port; queue = c.hall.inside.queue }) r.0 (c.args.item.number ∷ []) r.1 r.2 c.args.self.now (record { pass = c.self.inside.pass; seat = c.self.inside.seat; key = c.self.inside.key }) c.hall.view_is c.self.view_is r.3 in
    record { pass = is.key }

pub returns : goal.returns
returns g c =
    let see = seen_by g.P.Link.Link.taken g.P.Link.Link.left g.P.Link.Link.written g.P.Link.Link.faults g.P.Link.Link.is_shut in
    let old : ServerView g.row.P-Link.Denot = record { pass = c.self.inside.pass; seat = c.self.inside.seat; key = c.self.inside.key } in
    let served = c.serve_session.ensures in
    let link = c.serve_session.new.link in
    let before : LinkView = link_of (g.P.Link.Link.taken c.args.item.link) (g.P.Link.Link.left c.args.item.link) (g.P.Link.Link.written c.args.item.link) (g.P.Link.Link.faults c.args.item.link) in
    let now : LinkView = link_of (g.P.Link.Link.taken link) (g.P.Link.Link.left link) (g.P.Link.Link.written link) (g.P.Link.Link.faults link) in
    let shown : see link ≡ shown_link (g.P.Link.Link.taken link) (g.P.Link.Link.left link) (g.P.Link.Link.written link) (g.P.Link.Link.faults link) true =
    ap (λ (is_shut : Bool). shown_link (g.P.Link.Link.taken link) (g.P.Link.Link.left link) (g.P.Link.Link.written link) (g.P.Link.Link.faults link) is_shut) served.shut in
    let new : ServerView g.row.P-Link.Denot = record { pass = c.serve_session.new.pass; seat = c.serve_session.new.seat; key = c.retire.new.pass } in
    record {
      served = on_ok_weaker c.retire.result
          (λ back. served_from see c.args.hall.now (c.args.item.number ∷ []) [] [] [] c.args.self.now old new c.self.view_is
          (served_on see c.args.hall.now c.served_links_are_booked.ensures c.args.item.number c.serve_session.result old c.serve_session.new.pass c.serve_session.new.seat c.retire.new.pass before now link
          (record { untaken = c.requires.new.untaken; unwritten = c.requires.new.unwritten; faultless = c.requires.new.faultless })
          served.served served.pass served.none (none_there c.serve_session.new.pass.going (sym c.is_begun.ensures ∙ c.if-is_begun.false)) served.seat served.later shown back))
          c.retire.ensures.retired;
    }

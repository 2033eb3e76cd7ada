use Rattle.std.proofs.Common.{◌≢◌, ◌∙◌, true, false, List, [], ◌∷◌, ◌++◌, ap, refl, subst, sym}
use Rattle.link_lanes.specs.declared.lane.LaneEnd.TheVariants.{Over, Failed, NoMemory as OutOfMemory}
use Rattle.link_lanes.specs.Gathered.{AreGathered, IsOver}
use Rattle.link_lanes.specs.Going.{HasEnded}
use Rattle.link_lanes.specs.Halls.{LaneView, ServerView}
use Rattle.link_lanes.specs.Seen.{seen_by}
use Rattle.link_lanes.specs.Together.{AreIdle}
use Rattle.link_lanes.proofs.Finished.{any_last, idle_now, last_ready}
use Rattle.link_lanes.proofs.gathering.finish.Goals as goal

pub run-end-requires : goal.run-end-requires
run-end-requires g c =
    let see = seen_by g.P.Link.Link.taken g.P.Link.Link.left g.P.Link.Link.written g.P.Link.Link.faults g.P.Link.Link.is_shut in
    let gathered = subst (λ (servers : List (ServerView g.row.P-Link.Denot)). AreGathered see c.args.hall.now servers c.args.first) c.in-Some.ensures.items c.requires.gathered in
    let lane : LaneView g.row.P-Link.Denot = record { server = c.in-Some.server; hand = c.args.first; is_stopped = false } in
    record { ready = last_ready see c.args.hall.now c.pop.new.self c.in-Some.server c.args.first gathered lane refl refl }

pub returns-in-Over-clause-idle : goal.returns-in-Over-clause-idle
returns-in-Over-clause-idle g c =
    let see = seen_by g.P.Link.Link.taken g.P.Link.Link.left g.P.Link.Link.written g.P.Link.Link.faults g.P.Link.Link.is_shut in
    let gathered = subst (λ (servers : List (ServerView g.row.P-Link.Denot)). AreGathered see c.args.hall.now servers c.args.first) c.in-Some.ensures.items c.requires.gathered in
    let lane : LaneView g.row.P-Link.Denot = record { server = c.in-Some.server; hand = c.args.first; is_stopped = false } in
    let other : Over ≢ OutOfMemory = λ is. cc in
    let pushed = c.in_ok-push.ensures.ok ∙ ap (λ (now : LaneView g.row.P-Link.Denot). c.pop.new.self ++ now.server ∷ []) c.lane.view_is in
    subst (AreIdle see c.args.hall.now) (sym pushed)
    (idle_now see c.args.hall.now c.pop.new.self c.in-Some.server c.args.first gathered lane c.run-end.new.self refl refl (c.in-Over.ensures.gone other) (c.in-Over.ensures.empty other))

pub returns-in-Over-clause-over : goal.returns-in-Over-clause-over
returns-in-Over-clause-over g c =
    let pushed = c.in_ok-push.ensures.ok ∙ ap (λ (now : LaneView g.row.P-Link.Denot). c.pop.new.self ++ now.server ∷ []) c.lane.view_is in
    subst (IsOver c.args.hall.now false) (sym pushed)
    (any_last (λ (server : ServerView g.row.P-Link.Denot). HasEnded c.args.hall.now.port.terms.most Over server.key.seen) c.pop.new.self c.run-end.new.self.server c.in-Over.ensures.end)

pub returns-in-Failed-clause-idle : goal.returns-in-Failed-clause-idle
returns-in-Failed-clause-idle g c =
    let see = seen_by g.P.Link.Link.taken g.P.Link.Link.left g.P.Link.Link.written g.P.Link.Link.faults g.P.Link.Link.is_shut in
    let gathered = subst (λ (servers : List (ServerView g.row.P-Link.Denot)). AreGathered see c.args.hall.now servers c.args.first) c.in-Some.ensures.items c.requires.gathered in
    let lane : LaneView g.row.P-Link.Denot = record { server = c.in-Some.server; hand = c.args.first; is_stopped = false } in
    let other : Failed ≢ OutOfMemory = λ is. cc in
    let pushed = c.in_ok-push.ensures.ok ∙ ap (λ (now : LaneView g.row.P-Link.Denot). c.pop.new.self ++ now.server ∷ []) c.lane.view_is in
    subst (AreIdle see c.args.hall.now) (sym pushed)
    (idle_now see c.args.hall.now c.pop.new.self c.in-Some.server c.args.first gathered lane c.run-end.new.self refl refl (c.in-Failed.ensures.gone other) (c.in-Failed.ensures.empty other))

pub returns-in-Failed-clause-over : goal.returns-in-Failed-clause-over
returns-in-Failed-clause-over g c =
    let pushed = c.in_ok-push.ensures.ok ∙ ap (λ (now : LaneView g.row.P-Link.Denot). c.pop.new.self ++ now.server ∷ []) c.lane.view_is in
    subst (IsOver c.args.hall.now true) (sym pushed)
    (any_last (λ (server : ServerView g.row.P-Link.Denot). HasEnded c.args.hall.now.port.terms.most Failed server.key.seen) c.pop.new.self c.run-end.new.self.server c.in-Failed.ensures.end)

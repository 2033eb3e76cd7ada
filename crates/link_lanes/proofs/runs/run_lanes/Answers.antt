use Rattle.std.proofs.Common.{get_or}
use denote.Exit.{no}
use denote.Param.{param}
use denote.Param.Send.{arg_send, arg_sync, param_send, param_sync}
use Rattle.link_lanes.specs.Seen.{seen_by}
use Rattle.link_lanes.proofs.Lent.{gone_as_lent}
use Rattle.link_lanes.proofs.Sent.{captured_is_sync, lane_is_send}
use Rattle.link_lanes.proofs.runs.run_lanes.Goals as goal

pub for_each_mut-requires-send-T : goal.for_each_mut-requires-send-T
for_each_mut-requires-send-T g c κs within =
    param_send 1 _ (arg_send _ no _ (lane_is_send (param 1 g.row.P) (param 2 g.row.C) (param 3 g.row.P-Link) g.P.Port g.P.Link.Link g.C.Clock c.type_bounds.send-P c.type_bounds.send-C c.type_bounds.send-P-Link))

pub for_each_mut-requires-sync-F : goal.for_each_mut-requires-sync-F
for_each_mut-requires-sync-F g c κs within =
    param_sync 2 _ (arg_sync _ no _
    (captured_is_sync _ g.row.R g.row.P g.row.C g.row.P-Link g.P.Port g.P.Link.Link g.C.Clock c.type_bounds.sync-R c.type_bounds.send-P c.type_bounds.send-C c.type_bounds.send-P-Link _ _))

pub returns : goal.returns
returns g c =
    let before = c.args.lanes.now in
    let after = c.for_each_mut.new.s in
    record {
      size = c.for_each_mut.auto.s;
      each = λ k d less running.
          let at = (c.for_each_mut.ensures k d less).1 in
          gone_as_lent (seen_by g.P.Link.Link.taken g.P.Link.Link.left g.P.Link.Link.written g.P.Link.Link.faults g.P.Link.Link.is_shut) c.args.hall.now (get_or before k d) (get_or after k d) at.argument.now at.after_call.now at.argument_is at.left at.call running;
    }

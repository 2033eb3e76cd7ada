use Rattle.std.proofs.Common.{◌≡◌, ◌<◌, length, get_or, arith, ◌∙◌, ap, None}
use Rattle.std.proofs.lemmas.List.{get_or_default}
use Rattle.room_core.specs.Meetings.{live_duty}
use Rattle.room_core.specs.ScannerTables.{scanner_of}
use Rattle.room_core.proofs.Views.{table_set, put_as}
use Rattle.room_core.proofs.scanner_part.ScannerPart.meets.Goals as goal

pub returns-clause-part : goal.returns-clause-part
returns-clause-part c =
    let old = c.args.self.now in
    let l : c.args.pass < length old.duties.items = omega (arith, old.sized.duties_size, c.requires) in
    let was : c.index.result.now ≡ get_or old.duties.items c.args.pass None = c.index.ensures ∙ get_or_default old.duties.items c.args.pass _ None l in
    let duty : c.still_due-duty.result ≡ live_duty c.args.session (get_or old.duties.items c.args.pass None) = c.still_due-duty.ensures ∙ ap (live_duty c.args.session) was in
    λ d. record (scanner_of old) {
      meeting = c.meeting_with-self.ensures d;
      learned = c.forget.ensures.forgotten d;
      readings = c.forget-2.ensures.forgotten d;
      listing = λ gauge other. c.drop_dead.ensures.kept gauge other d;
      duties = (table_set old.duties.items c.args.pass c.still_due-duty.result None l ∙ put_as (λ i. get_or old.duties.items i None) c.args.pass _ _ duty) d;
    }

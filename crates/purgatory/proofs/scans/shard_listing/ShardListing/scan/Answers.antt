use Rattle.std.proofs.Common.{◌≡◌, ◌∙◌, ◌+◌, ◌-◌, ◌/◌, ap, arith, subst, sym}
use Rattle.room_core.specs.Gauges.{IsGaugeOf}
use Rattle.room_table.specs.Seats.{ScanView, TableView, scanner_now}
use Rattle.purgatory.specs.scans.Shelf.{AreDutiesBelow}
use Rattle.purgatory.proofs.scans.Duties.{duty_less, has_scanned, row_pass}
use Rattle.purgatory.proofs.scans.Gauges.{key_few}
use Rattle.purgatory.proofs.scans.Goes.{goes_far}
use Rattle.purgatory.proofs.scans.shard_listing.ShardListing.scan.Goals as goal

pub watchers-left-requires : goal.watchers-left-requires
watchers-left-requires g c =
    let shelf = c.is_listed.ensures.1 in
    let own = subst (λ (t : TableView). IsGaugeOf t.shape c.args.self.now.seat.scanner c.args.gauge) (sym c.requires.table) c.requires.gauge in
    key_few c.args.self.now.seat.table.shape c.args.self.now.seat.scanner c.args.gauge shelf.shape shelf.number own

pub watcher-requires : goal.watcher-requires
watcher-requires g c =
    let shelf = c.is_listed.ensures.1 in
    let own = subst (λ (t : TableView). IsGaugeOf t.shape c.args.self.now.seat.scanner c.args.gauge) (sym c.requires.table) c.requires.gauge in
    key_few c.args.self.now.seat.table.shape c.args.self.now.seat.scanner c.args.gauge shelf.shape shelf.number own

pub check-requires-clause-pass : goal.check-requires-clause-pass
check-requires-clause-pass g c =
    let row = row_pass (c.args.gauge / 16) _ _ c.in-Some.ensures.row (c.loop-left.left - 1) c.in-Some.watch (sym c.in-Some.ensures.place) in
    let below = row.1 in
    let table = c.loop-left.invariant.went.table ∙ ap (λ (v : ScanView). v.table) c.begin.ensures.step ∙ c.requires.table in
    let passes = ap (λ (t : TableView). t.shape.passes) table in
    omega (arith, below, passes)

pub check-requires-clause-key : goal.check-requires-clause-key
check-requires-clause-key g c = (row_pass (c.args.gauge / 16) _ _ c.in-Some.ensures.row (c.loop-left.left - 1) c.in-Some.watch (sym c.in-Some.ensures.place)).0

pub check-requires-clause-generation : goal.check-requires-clause-generation
check-requires-clause-generation g c = (row_pass (c.args.gauge / 16) _ _ c.in-Some.ensures.row (c.loop-left.left - 1) c.in-Some.watch (sym c.in-Some.ensures.place)).2

pub loop-left-preserved-in-Some : goal.loop-left-preserved-in-Some
loop-left-preserved-in-Some g c =
    let i = c.loop-left.invariant in
    let old = c.loop-left.self in
    let new = c.check.new.self in
    let key = c.args.gauge / 16 in
    let test = c.loop-left-test.true in
    let more : c.loop-left.left ≡ c.loop-left.left - 1 + 1 = omega (arith, test) in
    record {
      went = goes_far c.begin.new.self.seat old.seat new.seat i.went c.check.ensures.went;
      began = c.check.ensures.began ∙ i.began;
      duties = duty_less c.args.gauge key _ (c.loop-left.left - 1) old.watches new.watches (scanner_now old.seat) (scanner_now new.seat) c.in-Some.watch c.in-Some.ensures.row (sym c.in-Some.ensures.place)
          (subst (λ n. AreDutiesBelow c.args.gauge key n old.watches (scanner_now old.seat)) more i.duties) c.check.ensures.freed c.check.ensures.lower;
    }

pub returns-clause-scanned : goal.returns-clause-scanned
returns-clause-scanned g c =
    let i = c.loop-left.invariant in
    has_scanned c.args.gauge c.begin.result c.args.self.now.seat c.begin.new.self.seat c.loop-left.self.seat
    c.begin.ensures.step c.begin.ensures.least i.went i.began

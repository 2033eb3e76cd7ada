use Rattle.std.proofs.Common.{◌∙◌, ◌<◌, ap, arith, length-set, subst, sym}
use Rattle.room_core.specs.Checks.{gauge_of_duty}
use Rattle.room_core.specs.Gauges.{IsGaugeOf}
use Rattle.room_core.specs.Meetings.{generation_met}
use Rattle.room_table.specs.Seats.{TableView, scanner_now}
use Rattle.watch_lists.specs.Watches.{Watches, keys_of}
use Rattle.purgatory.specs.scans.Checked.{without_entry}
use Rattle.purgatory.specs.scans.Desks.{ShardView}
use Rattle.purgatory.specs.scans.ShardKeeps.{gauge_of_key}
use Rattle.purgatory.specs.scans.Shelf.{KeepsLower}
use Rattle.purgatory.proofs.scans.Gauges.{key_few, key_is}
use Rattle.purgatory.proofs.scans.Rows.{lower_dropped, lower_same}
use Rattle.purgatory.proofs.scans.Shelves.{shelf_tried}
use Rattle.purgatory.proofs.scans.Watching.{check_freed, check_looked, check_met, check_over, meets_duty, meets_generation, meets_pass}
use Rattle.purgatory.proofs.scans.shard_listing.ShardListing.check.Goals as goal

pub returns-then-open_generation-watch : goal.returns-then-open_generation-watch
returns-then-open_generation-watch g c =
    check_over c.args.gauge c.args.watch.id c.args.watch.generation c.args.self.now c.loop.self c.meet-found.new.self c.meet-found.result c.loop.invariant c.requires.generation
    c.meet-found.ensures.step c.meet-found.ensures.lower (λ e. c.if-open_generation-watch.true (c.open_generation.ensures ∙ e))

pub check_needs-requires-clause-met : goal.check_needs-requires-clause-met
check_needs-requires-clause-met g c =
    let a = c.args.self.now in
    let b = c.loop.self in
    let inside = c.self.inside in
    let id = c.args.watch.id in
    let generation = c.args.watch.generation in
    let gauge = c.args.gauge in
    let found = c.meet-found.result in
    let desk : ShardView = record { seat = inside.scanner; watches = inside.shard } in
    let step = ap (λ (v : ShardView). v.seat) c.self.view_is ∙ c.meet-found.ensures.step in
    let lower = subst (λ (w : Watches). KeepsLower id b.watches w) (sym (ap (λ (v : ShardView). v.watches) c.self.view_is)) c.meet-found.ensures.lower in
    let same = sym c.open_generation.ensures ∙ c.if-open_generation-watch.false in
    meets_pass gauge id generation a b desk found c.loop.invariant c.requires.generation step lower same

pub check_needs-requires-clause-duty : goal.check_needs-requires-clause-duty
check_needs-requires-clause-duty g c =
    let a = c.args.self.now in
    let b = c.loop.self in
    let inside = c.self.inside in
    let id = c.args.watch.id in
    let generation = c.args.watch.generation in
    let gauge = c.args.gauge in
    let found = c.meet-found.result in
    let desk : ShardView = record { seat = inside.scanner; watches = inside.shard } in
    let step = ap (λ (v : ShardView). v.seat) c.self.view_is ∙ c.meet-found.ensures.step in
    let lower = subst (λ (w : Watches). KeepsLower id b.watches w) (sym (ap (λ (v : ShardView). v.watches) c.self.view_is)) c.meet-found.ensures.lower in
    let same = sym c.open_generation.ensures ∙ c.if-open_generation-watch.false in
    meets_duty gauge id generation a b desk found c.loop.invariant c.requires.generation step lower same

pub loop-preserved : goal.loop-preserved
loop-preserved g c =
    let a = c.args.self.now in
    let b = c.loop.self in
    let inside = c.self.inside in
    let id = c.args.watch.id in
    let generation = c.args.watch.generation in
    let gauge = c.args.gauge in
    let found = c.meet-found.result in
    let desk : ShardView = record { seat = inside.scanner; watches = inside.shard } in
    let step = ap (λ (v : ShardView). v.seat) c.self.view_is ∙ c.meet-found.ensures.step in
    let lower = subst (λ (w : Watches). KeepsLower id b.watches w) (sym (ap (λ (v : ShardView). v.watches) c.self.view_is)) c.meet-found.ensures.lower in
    let same = sym c.open_generation.ensures ∙ c.if-open_generation-watch.false in
    let at = check_met gauge id generation a b desk found c.loop.invariant c.requires.generation step lower same in
    check_looked gauge id generation a desk c.check_needs.new.self at c.check_needs.ensures.went c.in-Unclear.ensures.verdict

pub returns-in-Waits : goal.returns-in-Waits
returns-in-Waits g c =
    let a = c.args.self.now in
    let b = c.loop.self in
    let inside = c.self.inside in
    let id = c.args.watch.id in
    let generation = c.args.watch.generation in
    let gauge = c.args.gauge in
    let found = c.meet-found.result in
    let desk : ShardView = record { seat = inside.scanner; watches = inside.shard } in
    let step = ap (λ (v : ShardView). v.seat) c.self.view_is ∙ c.meet-found.ensures.step in
    let lower = subst (λ (w : Watches). KeepsLower id b.watches w) (sym (ap (λ (v : ShardView). v.watches) c.self.view_is)) c.meet-found.ensures.lower in
    let same = sym c.open_generation.ensures ∙ c.if-open_generation-watch.false in
    let at = check_met gauge id generation a b desk found c.loop.invariant c.requires.generation step lower same in
    let gone = c.in-Waits.ensures.verdict in
    check_freed gauge id generation a desk c.check_needs.new.self inside.shard at c.check_needs.ensures.went gone.began gone.duties (lower_same id inside.shard)

pub drop_stale-requires-clause-key : goal.drop_stale-requires-clause-key
drop_stale-requires-clause-key g c =
    let a = c.args.self.now in
    let b = c.loop.self in
    let inside = c.self.inside in
    let id = c.args.watch.id in
    let generation = c.args.watch.generation in
    let gauge = c.args.gauge in
    let found = c.meet-found.result in
    let desk : ShardView = record { seat = inside.scanner; watches = inside.shard } in
    let step = ap (λ (v : ShardView). v.seat) c.self.view_is ∙ c.meet-found.ensures.step in
    let lower = subst (λ (w : Watches). KeepsLower id b.watches w) (sym (ap (λ (v : ShardView). v.watches) c.self.view_is)) c.meet-found.ensures.lower in
    let same = sym c.open_generation.ensures ∙ c.if-open_generation-watch.false in
    let at = check_met gauge id generation a b desk found c.loop.invariant c.requires.generation step lower same in
    let table = at.went.table ∙ c.requires.table in
    let own = subst (λ k. IsGaugeOf inside.scanner.table.shape k gauge) (sym at.went.scanner) (subst (λ (t : TableView). IsGaugeOf t.shape a.seat.scanner gauge) (sym table) c.requires.gauge) in
    let few = key_few inside.scanner.table.shape inside.scanner.scanner gauge c.self.invariant.shape c.self.invariant.number own in
    let keys = c.self.invariant.keys in
    let key = c.requires.key in
    let less : c.args.watch.key < keys_of inside.shard = omega (arith, few, keys, key) in
    less

pub invariant_of-self-in-Over : goal.invariant_of-self-in-Over
invariant_of-self-in-Over g c =
    let a = c.args.self.now in
    let b = c.loop.self in
    let inside = c.self.inside in
    let id = c.args.watch.id in
    let generation = c.args.watch.generation in
    let gauge = c.args.gauge in
    let found = c.meet-found.result in
    let desk : ShardView = record { seat = inside.scanner; watches = inside.shard } in
    let step = ap (λ (v : ShardView). v.seat) c.self.view_is ∙ c.meet-found.ensures.step in
    let lower = subst (λ (w : Watches). KeepsLower id b.watches w) (sym (ap (λ (v : ShardView). v.watches) c.self.view_is)) c.meet-found.ensures.lower in
    let same = sym c.open_generation.ensures ∙ c.if-open_generation-watch.false in
    let at = check_met gauge id generation a b desk found c.loop.invariant c.requires.generation step lower same in
    let table = at.went.table ∙ c.requires.table in
    let own = subst (λ k. IsGaugeOf inside.scanner.table.shape k gauge) (sym at.went.scanner) (subst (λ (t : TableView). IsGaugeOf t.shape a.seat.scanner gauge) (sym table) c.requires.gauge) in
    let few = key_few inside.scanner.table.shape inside.scanner.scanner gauge c.self.invariant.shape c.self.invariant.number own in
    let keys = c.self.invariant.keys in
    let key = c.requires.key in
    let less : c.args.watch.key < keys_of inside.shard = omega (arith, few, keys, key) in
    let tried = c.in-Over.ensures.verdict in
    let s = scanner_now inside.scanner in
    let gauge_same = ap gauge_of_duty at.duty ∙ key_is inside.scanner.table.shape inside.scanner.scanner gauge c.self.invariant.scanners c.self.invariant.number own ∙ ap (gauge_of_key inside.scanner.scanner) (sym key) in
    let met = meets_generation gauge id generation a b desk found c.loop.invariant c.requires.generation step lower same in
    shelf_tried inside.generations.items inside.scanner c.check_needs.new.self inside.shard c.drop_stale.new.self c.args.watch.key id generation c.self.invariant c.check_needs.ensures.went
    (ap (λ (w : Watches). w.ids) c.drop_stale.ensures.rest)
    (ap keys_of c.drop_stale.ensures.rest ∙ length-set inside.shard.rows c.args.watch.key _)
    c.drop_stale.ensures.others
    (tried.listing ∙ ap (λ n. without_entry s n id (generation_met s.meeting)) gauge_same ∙ ap (without_entry s (gauge_of_key inside.scanner.scanner c.args.watch.key) id) met)

pub returns-in-Over : goal.returns-in-Over
returns-in-Over g c =
    let a = c.args.self.now in
    let b = c.loop.self in
    let inside = c.self.inside in
    let id = c.args.watch.id in
    let generation = c.args.watch.generation in
    let gauge = c.args.gauge in
    let found = c.meet-found.result in
    let desk : ShardView = record { seat = inside.scanner; watches = inside.shard } in
    let step = ap (λ (v : ShardView). v.seat) c.self.view_is ∙ c.meet-found.ensures.step in
    let lower = subst (λ (w : Watches). KeepsLower id b.watches w) (sym (ap (λ (v : ShardView). v.watches) c.self.view_is)) c.meet-found.ensures.lower in
    let same = sym c.open_generation.ensures ∙ c.if-open_generation-watch.false in
    let at = check_met gauge id generation a b desk found c.loop.invariant c.requires.generation step lower same in
    let table = at.went.table ∙ c.requires.table in
    let own = subst (λ k. IsGaugeOf inside.scanner.table.shape k gauge) (sym at.went.scanner) (subst (λ (t : TableView). IsGaugeOf t.shape a.seat.scanner gauge) (sym table) c.requires.gauge) in
    let few = key_few inside.scanner.table.shape inside.scanner.scanner gauge c.self.invariant.shape c.self.invariant.number own in
    let keys = c.self.invariant.keys in
    let key = c.requires.key in
    let less : c.args.watch.key < keys_of inside.shard = omega (arith, few, keys, key) in
    let tried = c.in-Over.ensures.verdict in
    check_freed gauge id generation a desk c.check_needs.new.self c.drop_stale.new.self at c.check_needs.ensures.went tried.began tried.duties
    (lower_dropped id generation c.args.watch.key inside.shard c.drop_stale.new.self less (c.watchers_rise.ensures.rows c.args.watch.key less) c.drop_stale.ensures.rest)

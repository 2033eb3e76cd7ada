use Rattle.std.proofs.Common.{◌<◌, ◌+◌, length, refl, ap, ◌∙◌, arith}
use Rattle.std.proofs.lemmas.List.{length_push}
use Rattle.kwire.specs.Layouts.{End}
use Rattle.kwire.specs.Reading.{times_at, layout_at}
use Rattle.std.specs.List.{flat_map}
use Rattle.kwire.proofs.ItemLoops.{items_start, items_more, items_refused, items_whole, fault_on, handed_on, all_pushed}
use Rattle.kwire.proofs.read_items.read_items.Goals as goal

pub loop-init : goal.loop-init
loop-init g c =
    let version = c.args.head.version in
    rw c.new-items.ensures (record { place = refl; few = c.requires; fitting = tt; so_far = items_start (layout_at (g.T.Item.layout version)) (g.T.Item.fields version) c.args.count c.args.named.now c.args.reader.now })

pub returns-in_err-item-clause-exact : goal.returns-in_err-item-clause-exact
returns-in_err-item-clause-exact g c =
    let version = c.args.head.version in
    let each = layout_at (g.T.Item.layout version) in
    let lt : length c.loop.items < c.args.count = omega (arith, c.loop.invariant.place) in
    let all = times_at each (layout_at End) c.args.count c.args.named.now c.args.reader.now in
    handed_on (flat_map (g.T.Item.fields version)) c.from_residual.result c.in_err-item.field-0.0 c.read.new.named c.read.new.reader all c.from_residual.ensures.1
    (fault_on (each c.loop.named c.loop.reader) all (λ e. items_refused each (g.T.Item.fields version) c.args.count c.args.named.now c.args.reader.now c.loop.items c.loop.named c.loop.reader e lt c.loop.invariant.so_far) c.in_err-item.field-0.0 c.in_err-item.ensures.exact)

pub loop-preserved : goal.loop-preserved
loop-preserved g c =
    let version = c.args.head.version in
    let each = layout_at (g.T.Item.layout version) in
    let lt : length c.loop.items < c.args.count = omega (arith, c.loop.invariant.place) in
    let more = items_more each (g.T.Item.fields version) c.args.count c.args.named.now c.args.reader.now c.loop.items c.loop.named c.loop.reader c.in_ok-item.item c.read.new.named c.read.new.reader lt c.loop.invariant.so_far c.in_ok-item.ensures.exact in
    rw c.in_ok-push.ensures.ok (record {
      place = length_push c.loop.items c.in_ok-item.item ∙ ap (λ n. n + 1) c.loop.invariant.place;
      few = c.in_ok-item.ensures.few;
      fitting = all_pushed (g.T.Item.fits version) c.loop.items c.in_ok-item.item c.loop.invariant.fitting c.in_ok-item.ensures.fitting;
      so_far = more;
    })

pub returns-clause-exact : goal.returns-clause-exact
returns-clause-exact g c =
    let version = c.args.head.version in
    items_whole (layout_at (g.T.Item.layout version)) (g.T.Item.fields version) c.args.count c.args.named.now c.args.reader.now c.loop.items c.loop.named c.loop.reader (omega (arith, c.loop.invariant.place)) c.loop.invariant.so_far

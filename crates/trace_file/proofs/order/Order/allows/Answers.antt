use Rattle.std.proofs.Common.{false, not, le-leb, slice_index_or, subst, sym, ap, inl, inr, eq-eqb, refl}
use Rattle.std.proofs.lemmas.Bool.{not-true, leb-true}
use Rattle.std.specs.Prelude.{Bool}
use Rattle.trace_file.specs.declared.line.Line.TheVariants.{Feed, Shut}
use Rattle.trace_file.specs.LineFaults.{MayStand}
use Rattle.trace_file.specs.Sees.{NamesOne}
use Rattle.trace_file.proofs.Orders.{refused_ended, allowed_topic, refused_topic, allowed_feed, allowed_shut, refused_named, allowed_clock, refused_clock}
use Rattle.trace_file.proofs.order.Order.allows.Goals as goal

pub returns-then-self : goal.returns-then-self
returns-then-self c = λ lines sees. (
  λ isnt. absurd cc,
  λ may. absurd (refused_ended c.args.only_topics c.args.self.now lines c.args.line.now sees c.if-self.true may),
)

pub returns-in-Topic : goal.returns-in-Topic
returns-in-Topic c = λ lines sees.
    let order = c.args.self.now in
    let t = c.in-Topic in (
      λ yes. subst (MayStand c.args.only_topics lines) (sym t.is)
          (allowed_topic c.args.only_topics order lines t.name t.partitions t.followers t.min_insync sees c.if-self.false (not-true order.begun yes)),
      λ may. ap not (refused_topic c.args.only_topics order lines t.name t.partitions t.followers t.min_insync sees (subst (MayStand c.args.only_topics lines) t.is may)),
    )

pub returns-then-not-only_topics : goal.returns-then-not-only_topics
returns-then-not-only_topics c = λ lines sees.
    let order = c.args.self.now in
    let t = c.in-Clock.t in (
      λ yes. subst (λ (b : Bool). MayStand b lines c.args.line.now) (sym c.if-not-only_topics.true) (subst (MayStand false lines) (sym c.in-Clock.is)
          (allowed_clock order lines t sees c.if-self.false (leb-true order.moment t yes))),
      λ may. le-leb order.moment t (refused_clock c.args.only_topics order lines t sees (subst (MayStand c.args.only_topics lines) c.in-Clock.is may)),
    )

pub returns-then-not-only_topics-2 : goal.returns-then-not-only_topics-2
returns-then-not-only_topics-2 c = λ lines sees.
    let order = c.args.self.now in
    let session = c.in-Feed.session in
    let unshut = slice_index_or order.closed session false in
    let only = c.args.only_topics in
    elim c.in-Feed.is [
      | inl is ↦
          let lt = subst NamesOne is.1 c.requires in (
            λ yes. subst (λ (b : Bool). MayStand b lines c.args.line.now) (sym c.if-not-only_topics-2.true) (subst (MayStand false lines) (sym is.1)
                (allowed_feed order lines session is.0 sees lt c.if-self.false (not-true unshut yes))),
            λ may. ap not (refused_named only order lines (Feed session is.0) session sees lt (eq-eqb session session refl) (subst (MayStand only lines) is.1 may)),
          )
      | inr is ↦
          let lt = subst NamesOne is c.requires in (
            λ yes. subst (λ (b : Bool). MayStand b lines c.args.line.now) (sym c.if-not-only_topics-2.true) (subst (MayStand false lines) (sym is)
                (allowed_shut order lines session sees lt c.if-self.false (not-true unshut yes))),
            λ may. ap not (refused_named only order lines (Shut session) session sees lt (eq-eqb session session refl) (subst (MayStand only lines) is may)),
          )
    ]

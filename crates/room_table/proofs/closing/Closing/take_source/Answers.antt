use Rattle.std.proofs.Common.{sym, ap, ◌∙◌}
use Rattle.room_table.specs.Tells.{Sat}
use Rattle.room_table.proofs.Ends.{source_back}
use Rattle.room_table.proofs.closing.Closing.take_source.Goals as goal

pub take_back-requires : goal.take_back-requires
take_back-requires c = record {
  seats = (c.self.invariant.0, ap (λ v. v.table.id) c.source.view_is ∙ (ap (λ t. t.id) c.requires ∙ sym (ap (λ v. v.table.id) c.self.view_is)));
  none = ap (λ (m : Sat). m.1) c.source.invariant;
}

pub invariant_of-self : goal.invariant_of-self
invariant_of-self c = (c.take_back.ensures.table ∙ c.self.invariant.0, ap (λ (m : Sat). m.1) c.take_back.ensures.parts ∙ c.self.invariant.1)

pub returns : goal.returns
returns c =
    source_back c.self.inside.table c.self.inside.seat.me c.take_back.new.seat.me c.args.self.now c.self.view_is c.source.inside.seat.me c.take_back.ensures.parts
    c.source.inside.seat.table_id c.source.inside.gauge c.args.source c.source.invariant c.source.view_is c.requires

use Rattle.std.proofs.Common.{sym, ap, ◌∙◌}
use Rattle.room_table.specs.Tells.{Sat}
use Rattle.room_table.proofs.Ends.{scanner_back}
use Rattle.room_table.proofs.closing.Closing.take_scanner.Goals as goal

pub take_back-requires : goal.take_back-requires
take_back-requires c = record {
  seats = (c.self.invariant.0, ap (λ v. v.table.id) c.scan.view_is ∙ (ap (λ t. t.id) c.requires ∙ sym (ap (λ v. v.table.id) c.self.view_is)));
  none = ap (λ (m : Sat). m.1) c.scan.invariant.has;
}

pub invariant_of-self : goal.invariant_of-self
invariant_of-self c = (c.take_back.ensures.table ∙ c.self.invariant.0, ap (λ (m : Sat). m.1) c.take_back.ensures.parts ∙ c.self.invariant.1)

pub returns : goal.returns
returns c =
    scanner_back c.self.inside.table c.self.inside.seat.me c.take_back.new.seat.me c.args.self.now c.self.view_is c.scan.inside.seat.me c.take_back.ensures.parts
    c.scan.inside.seat.table_id c.scan.inside.scanner c.args.scan c.scan.invariant.has c.scan.view_is c.requires

use Rattle.kbytes.specs.Octets.{IsBytes}
use Rattle.kwire.proofs.Laws.{whole_parts}
use Rattle.follower.proofs.intake.front_body.Goals as goal

pub returns-clause-small : goal.returns-clause-small
returns-clause-small c =
    let bytes : IsBytes c.args.bytes.now = λ i. (c.type_inv.bytes i).fits in
    (whole_parts c.args.bytes.now c.args.end bytes c.requires).small

pub returns-clause-parts : goal.returns-clause-parts
returns-clause-parts c =
    let bytes : IsBytes c.args.bytes.now = λ i. (c.type_inv.bytes i).fits in
    (whole_parts c.args.bytes.now c.args.end bytes c.requires).parts

use Rattle.audit.proofs.retelling.Reread.{appended_numbers}
use Rattle.audit.proofs.retelling.rereading.read_appended.Goals as goal

pub returns-in-Appended-clause-read : goal.returns-in-Appended-clause-read
returns-in-Appended-clause-read c =
    appended_numbers c.args.pasts.now c.args.became.now c.in-Appended.part _ _ c.args.place c.index-pasts-part.result _ c.in-Appended.is c.requires c.index-pasts-part.is c.at.ensures.numbers

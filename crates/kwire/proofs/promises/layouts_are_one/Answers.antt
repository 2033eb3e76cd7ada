use Rattle.kwire.proofs.OneReading.{fields_once, fault_once, not_fault, fields_or_fault}
use Rattle.kwire.proofs.promises.layouts_are_one.Goals as goal

pub returns-clause-fields : goal.returns-clause-fields
returns-clause-fields c = fields_once

pub returns-clause-fault : goal.returns-clause-fault
returns-clause-fault c = fault_once

pub returns-clause-not_both : goal.returns-clause-not_both
returns-clause-not_both c = not_fault

pub returns-clause-either : goal.returns-clause-either
returns-clause-either c = fields_or_fault

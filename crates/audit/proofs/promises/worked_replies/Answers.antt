use Rattle.audit.proofs.WorkedCalls.{empty_read, full_read, swapped_reads}
use Rattle.audit.proofs.WorkedProduces.{first_reply, second_reply, replicated_reply, swapped_sent, swapped_printed}
use Rattle.audit.proofs.promises.worked_replies.Goals as goal

pub returns-clause-before : goal.returns-clause-before
returns-clause-before c = empty_read

pub returns-clause-behind : goal.returns-clause-behind
returns-clause-behind c = full_read

pub returns-clause-swapped : goal.returns-clause-swapped
returns-clause-swapped c = swapped_reads

pub returns-clause-first : goal.returns-clause-first
returns-clause-first c = first_reply

pub returns-clause-second : goal.returns-clause-second
returns-clause-second c = second_reply

pub returns-clause-waited : goal.returns-clause-waited
returns-clause-waited c = λ plain batch all one is_batch is. replicated_reply plain batch one is_batch all is

pub returns-clause-swapped_bytes : goal.returns-clause-swapped_bytes
returns-clause-swapped_bytes c = λ plain batch one replies is_batch is h. swapped_sent plain batch one is_batch replies is h

pub returns-clause-swapped_print : goal.returns-clause-swapped_print
returns-clause-swapped_print c = swapped_printed

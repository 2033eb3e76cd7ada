-- What stopped a run: its exit code, and the bad line where there is one. And what a run that wasn't finished has of its account.
use Rattle.std.specs.Prelude.{ℕ, Option, Some, None}
use Rattle.audit.specs.declared.account.Account.{Account}
use Rattle.trace_file.specs.declared.line.LineFault.{LineFault}
use Rattle.trace_file.specs.declared.line.TraceFault.{TraceFault}
use Rattle.trace_file.specs.declared.line.TraceFault.TheVariants as trace
use Rattle.commands.specs.declared.exit.Stop.{Stop}
use Rattle.commands.specs.declared.exit.Stop.TheVariants.{Usage, BadLine, ReadFault, WriteFault, NoMemory}
use Rattle.commands.specs.declared.exit.Unfinished.{Unfinished}
use Rattle.commands.specs.declared.exit.Unfinished.TheVariants.{Stopped, Unwritten}

abbrev pub exit_code_of : Stop → ℕ
exit_code_of Usage = 1
exit_code_of (BadLine fault) = 2
exit_code_of ReadFault = 3
exit_code_of WriteFault = 4
exit_code_of NoMemory = 6

abbrev pub bad_line_of : Stop → Option LineFault
bad_line_of Usage = None
bad_line_of (BadLine fault) = Some fault
bad_line_of ReadFault = None
bad_line_of WriteFault = None
bad_line_of NoMemory = None

-- a text that isn't read as a trace
abbrev pub stop_of : TraceFault → Stop
stop_of (trace.Bad fault) = BadLine fault
stop_of trace.NoMemory = NoMemory

-- what stopped a run that wasn't finished
abbrev pub stop_in : Unfinished → Stop
stop_in (Stopped stop) = stop
stop_in (Unwritten account) = WriteFault

-- its account, where the run itself was done
abbrev pub account_in : Unfinished → Option Account
account_in (Stopped stop) = None
account_in (Unwritten account) = Some account

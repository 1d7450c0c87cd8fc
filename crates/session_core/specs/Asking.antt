-- The command that asks for each thing for which commands ask.
use Rattle.script_lang.specs.declared.command.Command.{Command}
use Rattle.script_lang.specs.declared.command.Command.TheVariants as commands
use Rattle.script_lang.specs.Naming.{decision_command}
use Rattle.session_core.specs.declared.asked.Asked.{Asked}
use Rattle.session_core.specs.declared.asked.Asked.TheVariants.{Nothing, Decision, Reset, Undo, Tell, Search, Quit}
use Rattle.session_core.specs.declared.asked.Query.{Query}
use Rattle.session_core.specs.declared.asked.Query.TheVariants.{Domain, Tokens, Decisions, Flaw, Conflict, Cycle}
use Rattle.session_core.specs.declared.asked.SubjectText.{SubjectText}
use Rattle.session_core.specs.declared.asked.SubjectText.TheVariants.{Named, Order, Constraint, Relation}

-- for a decision on this to be taken out
abbrev pub reset_command : SubjectText → Command
reset_command (Named text) = commands.Reset text
reset_command (Order text after) = commands.ResetOrder text after
reset_command (Constraint kind arguments) = commands.Withdraw kind arguments
reset_command (Relation relation text after) = commands.Unrelate relation text after

-- for this to be told
abbrev pub query_command : Query → Command
query_command (Domain variable) = commands.Domain variable
query_command Tokens = commands.Tokens
query_command Decisions = commands.Decisions
query_command Flaw = commands.Flaws
query_command Conflict = commands.Why
query_command Cycle = commands.Cycle

-- for this
abbrev pub asked_command : Asked → Command
asked_command Nothing = commands.Empty
asked_command (Decision text) = decision_command text
asked_command (Reset text) = reset_command text
asked_command Undo = commands.Undo
asked_command (Tell query) = query_command query
asked_command (Search steps tokens) = commands.Solve steps tokens
asked_command Quit = commands.Quit

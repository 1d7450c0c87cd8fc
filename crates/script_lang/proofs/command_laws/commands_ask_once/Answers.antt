use Rattle.script_lang.proofs.Asked.{asks_one}
use Rattle.script_lang.proofs.command_laws.commands_ask_once.Goals as goal

pub returns : goal.returns
returns c = asks_one

use Rattle.eu_name.specs.Spelling.{Spells}
use Rattle.script_lang.specs.Words.{words_of}
use Rattle.script_lang.proofs.Naming.{says_pair}
use Rattle.script_lang.proofs.operands.two_names.Goals as goal

pub returns-in-Some : goal.returns-in-Some
returns-in-Some c =
    says_pair Spells Spells (words_of c.args.rest.now) c.in-Some.first.now c.in-Some.second.now c.name_said.result c.name_said-in-Some.result c.both.result
    c.in-Some.ensures.some c.both.ensures c.name_said.ensures c.name_said-in-Some.ensures

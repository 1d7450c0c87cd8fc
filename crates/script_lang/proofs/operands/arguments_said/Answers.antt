use Rattle.script_lang.specs.Words.{words_of}
use Rattle.script_lang.proofs.Listed.{arguments_kept, no_arguments}
use Rattle.script_lang.proofs.operands.arguments_said.Goals as goal

pub all_kept-requires : goal.all_kept-requires
all_kept-requires c = (c.can_be_arguments.ensures.0 c.if-not-can_be_arguments.false).1

pub returns-then-not-can_be_arguments : goal.returns-then-not-can_be_arguments
returns-then-not-can_be_arguments c = λ found is. no_arguments (words_of c.args.words.now) found c.can_be_arguments.result c.can_be_arguments.ensures c.if-not-can_be_arguments.true is

pub returns : goal.returns
returns c =
    let are = c.can_be_arguments.ensures.0 c.if-not-can_be_arguments.false in
    arguments_kept (words_of c.args.words.now) c.all_kept.result are.0 are.1 c.all_kept.ensures.texts c.all_kept.ensures.fault

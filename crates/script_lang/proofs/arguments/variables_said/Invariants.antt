use Rattle.std.proofs.Common.{take}
use Rattle.std.specs.List.{AllZip}
use Rattle.script_lang.specs.Arguing.{NamesArgument}
use Rattle.script_lang.proofs.arguments.variables_said.Given as goal

abbrev pub invariant-loop-word : goal.invariant-loop-word
invariant-loop-word l = AllZip (NamesArgument l.model) (take l.word-index l.word-items) l.named

use Rattle.std.proofs.Common.{None, take}
use Rattle.script_lang.specs.Compared.{IsFirstKind}
use Rattle.script_lang.proofs.compared.first_kind.Given as goal

-- none of those before is a variable
abbrev pub invariant-loop-argument : goal.invariant-loop-argument
invariant-loop-argument l = IsFirstKind l.model (take l.argument-index l.arguments) None

-- What is printed, and then the declarations that follow, is what is wanted.
use Rattle.std.proofs.Common.{◌≡◌, ◌++◌, drop}
use Rattle.nddl_print.specs.Canonical.{spelling_of}
use Rattle.nddl_print.proofs.printing.print.Given as goal

abbrev pub invariant-loop-decl : goal.invariant-loop-decl
invariant-loop-decl l = l.lines ++ spelling_of (drop l.decl-index l.decls) ≡ spelling_of l.decls

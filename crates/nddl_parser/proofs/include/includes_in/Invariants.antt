use Rattle.std.proofs.Common.{◌≡◌, ◌++◌, drop}
use Rattle.nddl_parser.specs.Includes.{includes_of}
use Rattle.nddl_parser.proofs.include.includes_in.Given as goal

abbrev pub invariant-loop-decl : goal.invariant-loop-decl
invariant-loop-decl l = l.includes ++ includes_of (drop l.decl-index l.decls) ≡ includes_of l.decls

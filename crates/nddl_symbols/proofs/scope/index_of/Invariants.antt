use Rattle.nddl_symbols.specs.Scope.{is_named}
use Rattle.nddl_symbols.proofs.Firsts.{HasFirstsTo}
use Rattle.nddl_symbols.proofs.scope.index_of.Given as goal

abbrev pub invariant-loop-number : goal.invariant-loop-number
invariant-loop-number l = HasFirstsTo (is_named l.only_bodies) l.names l.number l.index

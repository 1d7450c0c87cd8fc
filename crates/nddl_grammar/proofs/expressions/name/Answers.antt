-- The symbol that was taken is a name, so its bytes are text.
use Rattle.nddl_grammar.proofs.Taking.{taken_sort}
use Rattle.nddl_grammar.proofs.Named.{named}
use Rattle.nddl_grammar.proofs.expressions.name.Goals as goal

pub returns : goal.returns
returns c = named _ _ _ _ _ c.in_ok-symbol.ensures (c.in_ok-text.ensures (taken_sort _ _ _ _ c.in_ok-symbol.ensures)) c.at.ensures

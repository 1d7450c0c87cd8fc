use Rattle.std.proofs.Common.{◌≡◌, true, false}
use Rattle.nddl_grammar.specs.Sorts.{same}
use Rattle.nddl_grammar.proofs.Taking.{taken, refused, none_taken}
use Rattle.nddl_grammar.proofs.cursor.Cursor.take.Goals as goal

pub returns-then-is : goal.returns-then-is
returns-then-is c =
    let holds : same c.in-Some.symbol.now.sort c.args.sort ≡ true = cc in
    taken _ _ _ _ _ c.in-Some.ensures.1 holds (c.advance.ensures _ _ c.in-Some.ensures.1)

pub returns-else-is : goal.returns-else-is
returns-else-is c =
    let fails : same c.in-Some.symbol.now.sort c.args.sort ≡ false = cc in
    refused _ _ _ _ c.in-Some.ensures.1 fails

pub returns-in-None : goal.returns-in-None
returns-in-None c = none_taken _ _ c.in-None.ensures

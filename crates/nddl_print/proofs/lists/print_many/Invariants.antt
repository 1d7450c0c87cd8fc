-- What is printed, and then the items that follow, is what is wanted.
use Rattle.std.proofs.Common.{◌≡◌, ◌++◌, drop}
use Rattle.nddl_print.specs.Words.{spaced}
use Rattle.nddl_print.specs.Canonical.{many_words}
use Rattle.nddl_print.proofs.lists.print_many.Given as goal

abbrev pub invariant-loop-item : goal.invariant-loop-item
invariant-loop-item g l =
    l.lines ++ spaced (many_words g.T.Print.words (drop l.item-index l.items)) ≡ l.fn.lines ++ spaced (many_words g.T.Print.words l.items)

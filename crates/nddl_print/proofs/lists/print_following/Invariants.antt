-- What is printed, and then the items that follow, is what is wanted.
use Rattle.std.proofs.Common.{◌≡◌, ◌++◌, drop}
use Rattle.nddl_print.specs.Words.{spaced}
use Rattle.nddl_print.specs.Canonical.{following_words}
use Rattle.nddl_print.proofs.lists.print_following.Given as goal

abbrev pub invariant-loop-item : goal.invariant-loop-item
invariant-loop-item g l =
    l.lines ++ spaced (following_words l.separator g.T.Print.words (drop l.item-index l.items)) ≡ l.fn.lines ++ spaced (following_words l.separator g.T.Print.words l.items)

use Rattle.std.proofs.Common.{◌≡◌, ◌++◌, drop}
use Rattle.nddl_instance.specs.Modelled.{modelled_classes}
use Rattle.nddl_instance.proofs.classes.modelled_classes.Given as goal

-- the classes so far and those that are left are all
abbrev pub invariant-loop-number : goal.invariant-loop-number
invariant-loop-number l =
    l.made ++ modelled_classes l.lexicon l.number (drop l.number l.classes) ≡ modelled_classes l.lexicon 0 l.classes

use Rattle.std.proofs.Common.{◌≡◌, ◌++◌, drop, map}
use Rattle.nddl_hierarchy.specs.Facts.{facts_of}
use Rattle.nddl_env.specs.Listing.{entry_population}
use Rattle.nddl_env.proofs.listing.push_each.Given as goal

-- those so far and those of the classes that are left are all
abbrev pub invariant-loop-entry : goal.invariant-loop-entry
invariant-loop-entry l =
    l.lists.items ++ map (entry_population (facts_of l.basis) l.objects) (drop l.entry-index l.entries)
    ≡ l.initial.lists.items ++ map (entry_population (facts_of l.basis) l.objects) l.entries

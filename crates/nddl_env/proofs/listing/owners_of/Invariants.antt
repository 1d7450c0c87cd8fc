use Rattle.std.proofs.Common.{◌≡◌, ◌++◌, drop}
use Rattle.nddl_env.specs.Listing.{owners_of}
use Rattle.nddl_env.proofs.listing.owners_of.Given as goal

-- those so far and those of the objects that are left are all
abbrev pub invariant-loop-object : goal.invariant-loop-object
invariant-loop-object l = l.owners.items ++ owners_of (drop l.object-index l.objects) ≡ owners_of l.objects

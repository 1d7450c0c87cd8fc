use Rattle.nddl_hierarchy.specs.Facts.{facts_of}
use Rattle.nddl_env.specs.Listing.{HaveKnownLinesTo}
use Rattle.nddl_env.proofs.listing.have_known_lines.Given as goal

-- the classes of the objects so far have them
abbrev pub invariant-loop-object : goal.invariant-loop-object
invariant-loop-object l = HaveKnownLinesTo (facts_of l.basis) l.object-index l.objects

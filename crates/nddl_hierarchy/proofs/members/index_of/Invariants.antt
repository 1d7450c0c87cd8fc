use Rattle.nddl_symbols.proofs.Firsts.{HasFirstsTo}
use Rattle.nddl_hierarchy.specs.Members.{is_field_named, is_predicate_named}
use Rattle.nddl_hierarchy.proofs.members.index_of.Given as goal

abbrev pub invariant-loop-place : goal.invariant-loop-place
invariant-loop-place l =
    HasFirstsTo is_field_named l.members l.place l.places.fields × HasFirstsTo is_predicate_named l.members l.place l.places.predicates

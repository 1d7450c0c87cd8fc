use Rattle.std.proofs.Common.{map, take}
use Rattle.nddl_hierarchy.specs.Members.{ArePlaces}
use Rattle.nddl_hierarchy.proofs.members.places_of.Given as goal

-- the declarations so far have their places
abbrev pub invariant-loop-decl : goal.invariant-loop-decl
invariant-loop-decl l = ArePlaces (map (λ decl. decl.now) (take l.decl-index l.decls)) l.places.items

use Rattle.std.proofs.Common.{◌≡◌, drop, map}
use Rattle.nddl_symbols.specs.Finding.{earliest_fault}
use Rattle.nddl_hierarchy.specs.Facts.{facts_of}
use Rattle.nddl_declarations.specs.Members.{typed_faults}
use Rattle.nddl_declarations.proofs.members.note_typed.Given as goal

-- the earliest so far and of those that are left is the earliest of all
abbrev pub invariant-loop-typed : goal.invariant-loop-typed
invariant-loop-typed l =
    earliest_fault l.first (typed_faults (facts_of l.basis) l.decl (map (λ typed. typed.now) (drop l.typed-index l.some)))
    ≡ earliest_fault l.initial.first (typed_faults (facts_of l.basis) l.decl (map (λ typed. typed.now) l.some))

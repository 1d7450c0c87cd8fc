use Rattle.std.proofs.Common.{◌≡◌, drop, map}
use Rattle.nddl_symbols.specs.Finding.{earliest_fault}
use Rattle.nddl_symbols.specs.Repeats.{repeated_faults}
use Rattle.nddl_declarations.specs.Members.{typed_names}
use Rattle.nddl_declarations.proofs.members.note_names.Given as goal

-- the earliest so far and of the names that are left is the earliest of all
abbrev pub invariant-loop-typed : goal.invariant-loop-typed
invariant-loop-typed l =
    earliest_fault l.first (repeated_faults l.decl l.noted (typed_names (map (λ typed. typed.now) (drop l.typed-index l.some))))
    ≡ earliest_fault l.initial.first (repeated_faults l.decl l.initial.noted (typed_names (map (λ typed. typed.now) l.some)))

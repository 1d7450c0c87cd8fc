use Rattle.std.proofs.Common.{◌≡◌, ◌++◌, drop, map}
use Rattle.nddl_declarations.proofs.members.references.Given as goal

-- those so far and those that are left are all
abbrev pub invariant-loop-typed : goal.invariant-loop-typed
invariant-loop-typed l =
    map (λ typed. typed.now) l.found.items ++ drop l.typed-index l.formals ≡ l.formals

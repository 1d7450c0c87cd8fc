use Rattle.std.proofs.Common.{◌≡◌, ◌++◌, drop, map}
use Rattle.nddl_declarations.specs.Members.{parameters_of}
use Rattle.nddl_declarations.proofs.members.parameters.Given as goal

-- those so far and those of the parts that are left are all
abbrev pub invariant-loop-part : goal.invariant-loop-part
invariant-loop-part l =
    map (λ typed. typed.now) l.found.items ++ parameters_of (drop l.part-index l.parts) ≡ parameters_of l.parts

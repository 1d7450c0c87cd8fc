use Rattle.std.proofs.Common.{◌≡◌, drop, map}
use Rattle.nddl_instance.specs.Asserted.{text_of_problem, with_declarations}
use Rattle.nddl_instance.proofs.assertions.add_declarations.Given as goal

-- what comes of the declarations that are left from here comes of all from the start
abbrev pub invariant-loop-number : goal.invariant-loop-number
invariant-loop-number l =
    with_declarations (text_of_problem l.text) l.number (map (λ decl. decl.now) (drop l.number l.decls)) l.asserted
    ≡ with_declarations (text_of_problem l.text) 0 (map (λ decl. decl.now) l.decls) l.initial.asserted

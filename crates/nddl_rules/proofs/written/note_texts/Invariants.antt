use Rattle.std.proofs.Common.{◌≡◌, drop, map}
use Rattle.nddl_rules.specs.Written.{with_texts}
use Rattle.nddl_rules.proofs.written.note_texts.Given as goal

-- the rules so far with those of the declarations that are left are all
abbrev pub invariant-loop-number : goal.invariant-loop-number
invariant-loop-number l =
    with_texts l.noted l.number l.written.items (map (λ decl. decl.now) (drop l.number l.decls))
    ≡ with_texts l.noted 0 l.initial.written.items (map (λ decl. decl.now) l.decls)

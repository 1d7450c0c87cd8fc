use Rattle.std.proofs.Common.{◌∙◌, ap, map}
use Rattle.nddl_constructors.specs.Wants.{builtin_or}
use Rattle.nddl_constructors.proofs.Rooted.{builtin_rooted}
use Rattle.nddl_constructors.proofs.wants.builtin_at_root.Goals as goal

pub returns : goal.returns
returns c =
    let basis = c.args.basis.now in
    let ends = c.in_ok-root.ensures in
    c.builtin_or_none.ensures
    ∙ (ap (builtin_or 0) c.above.ensures
    ∙ builtin_rooted basis.types.scope.now (map (λ decl. decl.now) basis.decls.now) basis.parents.now c.args.entry ends.0.0 c.in_ok-root.root
    basis.are_parents c.requires ends.0.1 ends.1)

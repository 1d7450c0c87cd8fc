use Rattle.std.proofs.Common.{◌∙◌, map}
use Rattle.nddl_hierarchy.proofs.Extending.{builtin_under}
use Rattle.nddl_hierarchy.proofs.under.is_under_builtin.Goals as goal

pub returns : goal.returns
returns c =
    let basis = c.args.basis.now in
    c.is_builtin_or_over.ensures
    ∙ builtin_under basis.types.scope.now (map (λ decl. decl.now) basis.decls.now) basis.parents.now c.args.number c.args.entry c.in_ok-root.root
    basis.are_parents c.requires c.in_ok-root.ensures

use Rattle.std.proofs.Common.{[], map}
use Rattle.eu_forest.specs.Ancestors.{ancestry}
use Rattle.nddl_hierarchy.proofs.AddedNames.{read_noted, same_noted}
use Rattle.nddl_hierarchy.proofs.names.by_line.Goals as goal

pub returns : goal.returns
returns c =
    let basis = c.args.basis.now in
    let names = basis.types.scope.now in
    let program = map (λ decl. decl.now) basis.decls.now in
    let whole = ancestry basis.parents.now c.args.entry in
    read_noted names program c.in_ok-line.line.items c.as_slice.result.now whole c.line_index.result
    (same_noted names program [] c.in_ok-line.line.items whole c.in_ok-line.ensures) c.as_slice.ensures.value c.line_index.ensures

use Rattle.std.proofs.Common.{map}
use Rattle.std.proofs.lemmas.Option.{IfSome_then}
use Rattle.nddl_hierarchy.proofs.Extending.{entry_under}
use Rattle.nddl_hierarchy.proofs.under.is_under_entry.Goals as goal

pub returns : goal.returns
returns c =
    let basis = c.args.basis.now in
    IfSome_then c.is_on_line.result c.is_on_line.ensures (λ on tells.
    entry_under basis.types.scope.now (map (λ decl. decl.now) basis.decls.now) basis.parents.now c.args.other c.args.entry on basis.are_parents c.requires tells)

use Rattle.std.proofs.Common.{◌∙◌}
use Rattle.eu_forest.specs.Ancestors.{ancestry}
use Rattle.nddl_hierarchy.specs.Facts.{facts_of}
use Rattle.nddl_constructors.proofs.Building.{formals_same}
use Rattle.nddl_constructors.proofs.wants.formals_above.Goals as goal

pub returns : goal.returns
returns c =
    let facts = facts_of c.args.basis.now in
    c.formals_along.ensures
    ∙ formals_same facts.names facts.program (ancestry c.builders_over.result.now c.args.entry) (ancestry facts.parents c.args.entry)
    c.builders_over.ensures

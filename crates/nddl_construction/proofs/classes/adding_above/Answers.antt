use Rattle.std.proofs.Common.{◌∙◌, ap}
use Rattle.std.proofs.lemmas.Result.{IfOk-weaker}
use Rattle.eu_forest.specs.Ancestors.{ancestry}
use Rattle.nddl_hierarchy.specs.Facts.{facts_of}
use Rattle.nddl_hierarchy.specs.Shorter.{adds_members}
use Rattle.nddl_constructors.specs.Wants.{builtin_along}
use Rattle.nddl_construction.specs.Classes.{behind_all}
use Rattle.nddl_construction.proofs.KeptClasses.{same_behind}
use Rattle.nddl_construction.proofs.classes.adding_above.Goals as goal

pub returns : goal.returns
returns c =
    let facts = facts_of c.args.basis.now in
    let whole = ancestry facts.parents c.args.entry in
    let number = c.in_ok-number.number in
    IfOk-weaker c.behind_all.result _ _ (λ line is.
    same_behind (adds_members facts.names facts.program) number (builtin_along facts.names facts.program whole) c.in_ok-line.line.items whole line.items
    c.in_ok-number.ensures (is ∙ ap (behind_all number) c.as_slice.ensures.value) c.in_ok-line.ensures) c.behind_all.ensures

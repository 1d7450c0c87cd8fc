use Rattle.std.proofs.Common.{Bool, List, map, subst}
use Rattle.std.proofs.lemmas.Result.{IfOk-weaker}
use Rattle.eu_forest.specs.Members.{is_marked}
use Rattle.nddl_hierarchy.specs.Shorter.{AreShorterFor}
use Rattle.nddl_hierarchy.proofs.Passing.{building_shorter}
use Rattle.nddl_hierarchy.proofs.shorter.building_lines.Goals as goal

pub returns : goal.returns
returns c =
    let marked = c.args.lineage.now.marks.items in
    IfOk-weaker c.shortened.result _ _ (λ short shorter.
    let P : List Bool → Type 0 = λ marks. AreShorterFor (is_marked marks) c.args.parents.now marked short.items in
    building_shorter c.args.scope.now (map (λ decl. decl.now) c.args.decls.now) c.in_ok-builders.builders.items c.args.parents.now marked short.items
    c.in_ok-builders.ensures (subst P c.as_slice.ensures.value shorter)) c.shortened.ensures

use Rattle.std.proofs.Common.{◌≡◌, map, rules, arith, sym, subst}
use Rattle.std.proofs.lemmas.Grind.{common_steps}
use Rattle.eu_forest.specs.Lines.{AreParents}
use Rattle.nddl_hierarchy.specs.Lines.{parents_of}
use Rattle.nddl_hierarchy.proofs.Above.{parents_are_there}
use Rattle.nddl_hierarchy.proofs.parents.parents_of.Goals as goal

pub returns-clause-known : goal.returns-clause-known
returns-clause-known c =
    let program = map (λ decl. decl.now) c.args.decls.now in
    let e : c.push-2.new.self.items ≡ parents_of c.args.scope.now program = first_of (search rules, grind (arith, common_steps)) in
    subst AreParents (sym e) (parents_are_there c.args.scope.now program)

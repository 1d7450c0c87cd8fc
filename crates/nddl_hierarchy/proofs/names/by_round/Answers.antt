use Rattle.std.proofs.Common.{map, subst}
use Rattle.std.specs.Prelude.{List, Option, ℕ}
use Rattle.eu_forest.specs.Ancestors.{ancestry}
use Rattle.nddl_hierarchy.specs.Rounds.{IsRound}
use Rattle.nddl_hierarchy.proofs.AddedNames.{read_noted}
use Rattle.nddl_hierarchy.proofs.Again.{round_noted}
use Rattle.nddl_hierarchy.proofs.names.by_round.Goals as goal

pub returns : goal.returns
returns c =
    let basis = c.args.basis.now in
    let names = basis.types.scope.now in
    let program = map (λ decl. decl.now) basis.decls.now in
    let parents = basis.parents.now in
    let line = c.in_ok-line.line.items in
    let P : List (Option ℕ) → Type 0 = λ some. IsRound some c.args.entry line in
    read_noted names program line c.as_slice.result.now (ancestry parents c.args.entry) c.line_index.result
    (round_noted names program parents c.args.entry line (subst P c.as_slice-parents.ensures c.in_ok-line.ensures))
    c.as_slice.ensures.value c.line_index.ensures

use Rattle.std.proofs.Common.{◌∙◌, ap, map, subst}
use Rattle.std.specs.Prelude.{List, Option, ℕ}
use Rattle.nddl_hierarchy.specs.Ancestors.{is_extended}
use Rattle.nddl_hierarchy.specs.Rounds.{IsRound}
use Rattle.nddl_hierarchy.proofs.Again.{round_extended}
use Rattle.nddl_hierarchy.proofs.under.is_under_along.Goals as goal

pub returns : goal.returns
returns c =
    let basis = c.args.basis.now in
    let names = basis.types.scope.now in
    let program = map (λ decl. decl.now) basis.decls.now in
    let line = c.in_ok-line.line.items in
    let P : List (Option ℕ) → Type 0 = λ some. IsRound some c.args.entry line in
    c.is_extended.ensures
    ∙ (ap (is_extended names program c.args.class) c.as_slice.ensures.value
    ∙ round_extended names program c.args.class basis.parents.now c.args.entry line (subst P c.as_slice-parents.ensures c.in_ok-line.ensures))

use Rattle.std.proofs.Common.{◌≡◌, ℤ, w32, to_z, of_z, sym, subst, arith}
use Rattle.std.proofs.lemmas.Int.{ints}
use Rattle.model_core.specs.declared.item.Term.{Term}
use Rattle.model_core.specs.Kinds.{IsObjectOf}
use Rattle.model_typing.specs.Lines.{IsLine}
use Rattle.model_typing.specs.Terms.{IsTermLine, scope_of}
use Rattle.model_typing.proofs.lines.term_line.Goals as goal

pub returns-in-Lit : goal.returns-in-Lit
returns-in-Lit c =
    let cast : to_z w32 (of_z w32 c.in-Lit.value) ≡ c.in-Lit.value = omega (arith, ints) in
    subst (λ (t : Term). IsTermLine c.args.model.now (scope_of c.args.scope) t c.value_line.result) (sym c.in-Lit.is)
    (λ kind. subst (λ (v : ℤ). IsLine c.args.model.now c.value_line.result (λ class. IsObjectOf c.args.model.now class v)) cast c.value_line.ensures)

pub returns-in-Global : goal.returns-in-Global
returns-in-Global c = subst (λ (t : Term). IsTermLine c.args.model.now (scope_of c.args.scope) t c.global_line.result) (sym c.in-Global.is) c.global_line.ensures

pub returns-in-Root : goal.returns-in-Root
returns-in-Root c = subst (λ (t : Term). IsTermLine c.args.model.now (scope_of c.args.scope) t c.root_line.result) (sym c.in-Root.is) c.root_line.ensures

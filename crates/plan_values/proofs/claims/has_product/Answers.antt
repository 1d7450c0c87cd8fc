use Rattle.std.proofs.Common.{◌≡◌, ◌*ℤ◌, FitsSigned, w32, to_z, of_z, arith, rules, ap₂, subst, sym, ◌∙◌}
use Rattle.std.proofs.lemmas.Int.{ints}
use Rattle.plan_values.proofs.claims.has_product.Goals as goal

-- a value of 32 bits would be told
pub returns-in-None : goal.returns-in-None
returns-in-None c = λ is.
    let fits : FitsSigned w32 c.args.z = search rules in
    let one : to_z w32 (of_z w32 c.args.x) ≡ c.args.x = omega (arith, ints) in
    let other : to_z w32 (of_z w32 c.args.y) ≡ c.args.y = omega (arith, ints) in
    c.in-None.ensures (subst (FitsSigned w32) (sym (ap₂ ◌*ℤ◌ one other ∙ is)) fits)

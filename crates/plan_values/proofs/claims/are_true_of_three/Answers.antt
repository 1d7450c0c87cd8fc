use Rattle.std.proofs.Common.{◌≡◌, [], ◌∷◌, w32, to_z, of_z, arith}
use Rattle.std.proofs.lemmas.Int.{ints}
use Rattle.plan_values.specs.Meanings.{context_of}
use Rattle.plan_values.proofs.Valuing.{true_of_three, first_lacks, second_lacks, third_lacks}
use Rattle.plan_values.proofs.claims.are_true_of_three.Goals as goal

pub returns-in-Some-term_value-2 : goal.returns-in-Some-term_value-2
returns-in-Some-term_value-2 c =
    let one : to_z w32 (of_z w32 c.in-Some.first) ≡ c.in-Some.first = omega (arith, ints) in
    let two : to_z w32 (of_z w32 c.in-Some-term_value.second) ≡ c.in-Some-term_value.second = omega (arith, ints) in
    let three : to_z w32 (of_z w32 c.in-Some-term_value-2.third) ≡ c.in-Some-term_value-2.third = omega (arith, ints) in
    true_of_three c.args.plan.now c.requires c.args.model.now (context_of c.args.at) c.args.ternary.kind c.args.ternary.x c.args.ternary.y c.args.ternary.z
    c.in-Some.first c.in-Some-term_value.second c.in-Some-term_value-2.third _ _ _ c.holds_of_three.result
    one two three c.in-Some.ensures c.in-Some-term_value.ensures c.in-Some-term_value-2.ensures c.holds_of_three.ensures

pub returns-in-None-term_value-2 : goal.returns-in-None-term_value-2
returns-in-None-term_value-2 c = third_lacks c.args.plan.now c.requires c.args.model.now (context_of c.args.at) c.args.ternary.kind c.args.ternary.x c.args.ternary.y c.args.ternary.z [] c.in-None-term_value-2.ensures

pub returns-in-None-term_value : goal.returns-in-None-term_value
returns-in-None-term_value c = second_lacks c.args.plan.now c.requires c.args.model.now (context_of c.args.at) c.args.ternary.kind c.args.ternary.x c.args.ternary.y (c.args.ternary.z ∷ []) c.in-None-term_value.ensures

pub returns-in-None : goal.returns-in-None
returns-in-None c = first_lacks c.args.plan.now c.requires c.args.model.now (context_of c.args.at) c.args.ternary.kind c.args.ternary.x (c.args.ternary.y ∷ c.args.ternary.z ∷ []) c.in-None.ensures

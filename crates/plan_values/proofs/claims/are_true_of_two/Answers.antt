use Rattle.std.proofs.Common.{◌≡◌, [], ◌∷◌, w32, to_z, of_z, arith}
use Rattle.std.proofs.lemmas.Int.{ints}
use Rattle.plan_values.specs.Meanings.{context_of}
use Rattle.plan_values.proofs.Valuing.{true_of_two, first_lacks, second_lacks}
use Rattle.plan_values.proofs.claims.are_true_of_two.Goals as goal

pub returns-in-Some-term_value : goal.returns-in-Some-term_value
returns-in-Some-term_value c =
    let first : to_z w32 (of_z w32 c.in-Some.one) ≡ c.in-Some.one = omega (arith, ints) in
    let second : to_z w32 (of_z w32 c.in-Some-term_value.other) ≡ c.in-Some-term_value.other = omega (arith, ints) in
    true_of_two c.args.plan.now c.requires c.args.model.now (context_of c.args.at) c.args.kind c.args.x c.args.y c.in-Some.one c.in-Some-term_value.other _ _ c.holds_of_two.result
    first second c.in-Some.ensures c.in-Some-term_value.ensures c.holds_of_two.ensures

pub returns-in-None-term_value : goal.returns-in-None-term_value
returns-in-None-term_value c = second_lacks c.args.plan.now c.requires c.args.model.now (context_of c.args.at) c.args.kind c.args.x c.args.y [] c.in-None-term_value.ensures

pub returns-in-None : goal.returns-in-None
returns-in-None c = first_lacks c.args.plan.now c.requires c.args.model.now (context_of c.args.at) c.args.kind c.args.x (c.args.y ∷ []) c.in-None.ensures

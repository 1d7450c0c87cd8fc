use Rattle.std.proofs.Common.{◌≡◌, w32, to_z, of_z, arith}
use Rattle.std.proofs.lemmas.Int.{ints}
use Rattle.plan_values.specs.Meanings.{context_of}
use Rattle.plan_values.proofs.Opening.{same_answer}
use Rattle.plan_values.proofs.open.are_equal.Goals as goal

pub returns-in-Some-read : goal.returns-in-Some-read
returns-in-Some-read c =
    let first : to_z w32 (of_z w32 c.in-Some.value) ≡ c.in-Some.value = omega (arith, ints) in
    let second : to_z w32 (of_z w32 c.in-Some-read.found) ≡ c.in-Some-read.found = omega (arith, ints) in
    same_answer c.args.model.now c.args.plan.now c.requires (context_of c.args.at) c.args.one c.args.other c.in-Some.value c.in-Some-read.found _ _ c.is_same_value.result
    first second c.in-Some.ensures c.in-Some-read.ensures c.is_same_value.ensures

pub returns-in-None-read : goal.returns-in-None-read
returns-in-None-read c = λ v w read. c.in-None-read.ensures w read.1

pub returns-in-None : goal.returns-in-None
returns-in-None c = λ v w read. c.in-None.ensures v read.0

use Rattle.std.proofs.lemmas.Bool.{both_ways}
use Rattle.eu_name.proofs.Numbers.{found_number, zero_first, refused_number, digits_are_text}
use Rattle.eu_name.proofs.reading.number.Goals as goal

pub returns-then-has_leading_zero-clause-none : goal.returns-then-has_leading_zero-clause-none
returns-then-has_leading_zero-clause-none c = λ n small is. zero_first c.args.digits.now n small is (c.has_leading_zero.ensures.0 c.if-has_leading_zero.true)

pub returns-in-Ok-parse-clause-some : goal.returns-in-Ok-parse-clause-some
returns-in-Ok-parse-clause-some c =
    let read = rw c.in-Ok.ensures.cases.0 at c.in-Ok-parse.ensures.value.0 in
    found_number c.args.digits.now c.in-Ok-parse.number c.requires (λ leading. both_ways c.has_leading_zero.result c.if-has_leading_zero.false (c.has_leading_zero.ensures.1 leading)) read.0 read.1

pub returns-in-Err-parse-clause-none : goal.returns-in-Err-parse-clause-none
returns-in-Err-parse-clause-none c = refused_number c.args.digits.now c.requires (rw c.in-Ok.ensures.cases.0 at c.in-Err-parse.ensures.value.0)

pub returns-in-Err-clause-none : goal.returns-in-Err-clause-none
returns-in-Err-clause-none c = λ n small is. c.in-Err.ensures.cases.0 (digits_are_text c.args.digits.now c.requires)

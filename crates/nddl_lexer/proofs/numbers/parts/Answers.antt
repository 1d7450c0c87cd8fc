use Rattle.std.proofs.Common.{◌∷◌, ap, ◌∙◌, length, arith}
use Rattle.nddl_lexer.proofs.Sizes.{parts_are, parts_point, first_is}
use Rattle.nddl_lexer.proofs.numbers.parts.Goals as goal

pub returns-in_err-first-clause-parts : goal.returns-in_err-first-clause-parts
returns-in_err-first-clause-parts c = rw c.from_residual.ensures
    (parts_point c.args.bytes.now _ _ c.digits_len.ensures.len c.split_at.ensures.back (λ found same. omega (arith, c.in_err-first.ensures.cases, ap length same)))

pub returns-then-first-eq46-clause-parts : goal.returns-then-first-eq46-clause-parts
returns-then-first-eq46-clause-parts c =
    parts_are c.args.bytes.now _ _ _ _ c.digits_len.ensures.len c.split_at.ensures.front c.split_at.ensures.back (c.in_ok-first.ensures.cases.0 ∙ ap (λ first. first ∷ c.in_ok-first.fraction.now) c.if-first-eq46.true)

pub returns-else-first-eq46-clause-parts : goal.returns-else-first-eq46-clause-parts
returns-else-first-eq46-clause-parts c =
    parts_point c.args.bytes.now _ _ c.digits_len.ensures.len c.split_at.ensures.back (λ found same. c.if-first-eq46.false (first_is _ _ _ _ c.in_ok-first.ensures.cases.0 same))

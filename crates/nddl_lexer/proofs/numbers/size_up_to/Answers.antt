use Rattle.std.proofs.Common.{◌+◌, sym, arith}
use Rattle.std.specs.Char.{is_ascii_digit}
use Rattle.nddl_lexer.proofs.Sizes.{passes_more, size_more, size_grows}
use Rattle.nddl_lexer.proofs.numbers.size_up_to.Goals as goal

pub returns-then-size-most-clause-value : goal.returns-then-size-most-clause-value
returns-then-size-most-clause-value c =
    let more = size_more _ _ _ _ (sym c.if-not-is_ascii_digit.ensures.value) c.loop-digit-test.true c.loop-digit.invariant.value c.from.ensures in
    λ _. size_grows c.args.digits.now (c.loop-digit.digit-index + 1) c.args.most (omega (arith, more, c.if-size-most.true))

pub loop-digit-preserved : goal.loop-digit-preserved
loop-digit-preserved c = record {
  passes = passes_more is_ascii_digit _ _ c.loop-digit.invariant.passes c.loop-digit-test.true (sym c.if-not-is_ascii_digit.ensures.value);
  value = size_more _ _ _ _ (sym c.if-not-is_ascii_digit.ensures.value) c.loop-digit-test.true c.loop-digit.invariant.value c.from.ensures;
  within = c.if-size-most.false;
}

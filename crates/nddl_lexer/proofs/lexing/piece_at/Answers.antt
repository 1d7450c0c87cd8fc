use Rattle.std.proofs.Common.{Err, length, refl, sym, ap, ◌∙◌, arith}
use Rattle.nddl_lexer.specs.declared.fronts.Stop.TheVariants.{BadByte, OpenComment}
use Rattle.std.proofs.lemmas.Bool.{both_ways}
use Rattle.std.proofs.lemmas.List.{length-drop, take_rest}
use Rattle.nddl_lexer.proofs.Walks.{found_at, starts_at, out_at}
use Rattle.nddl_lexer.proofs.lexing.piece_at.Goals as goal

pub returns-then-is_in_range-clause-piece : goal.returns-then-is_in_range-clause-piece
returns-then-is_in_range-clause-piece c = starts_at c.args.text.now c.args.at _ (found_at c.args.text.now c.args.at _ c.in-Ok.ensures.exact) (c.is_in_range.ensures.0 c.if-is_in_range.true)

pub returns-then-is_in_range-clause-within : goal.returns-then-is_in_range-clause-within
returns-then-is_in_range-clause-within c =
    let found = found_at c.args.text.now c.args.at _ c.in-Ok.ensures.exact in
    (found.1, omega (arith, c.in-Ok.ensures.within, ap length (take_rest c.args.text.now c.args.at), length-drop c.args.at c.args.text.now))

pub returns-else-is_in_range-clause-fault : goal.returns-else-is_in_range-clause-fault
returns-else-is_in_range-clause-fault c = (
  refl,
  out_at c.args.text.now c.args.at _ (found_at c.args.text.now c.args.at _ c.in-Ok.ensures.exact)
      (λ range. both_ways c.is_in_range.result c.if-is_in_range.false (c.is_in_range.ensures.1 range)),
)

pub returns-in-Err-BadByte-clause-fault : goal.returns-in-Err-BadByte-clause-fault
returns-in-Err-BadByte-clause-fault c = (
  refl,
  found_at c.args.text.now c.args.at (Err BadByte) (ap Err (sym c.in-Err-BadByte.field-0-is) ∙ c.in-Err-BadByte.ensures.exact) (omega (arith, length-drop c.args.at c.args.text.now)),
)

pub returns-in-Err-OpenComment-clause-fault : goal.returns-in-Err-OpenComment-clause-fault
returns-in-Err-OpenComment-clause-fault c = (
  refl,
  found_at c.args.text.now c.args.at (Err OpenComment) (ap Err (sym c.in-Err-OpenComment.field-0-is) ∙ c.in-Err-OpenComment.ensures.exact),
)

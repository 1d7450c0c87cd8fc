use Rattle.std.proofs.Math.Facts.{to_z-of_z}
use Rattle.std.proofs.lemmas.Result.{on_ok_weaker}
use Rattle.nddl_print.proofs.Decimals.{negative_text, plain_text, signed_written, plain_written}
use Rattle.nddl_print.proofs.line.Lines.decimal.Goals as goal

pub returns-in_ok-append : goal.returns-in_ok-append
returns-in_ok-append c =
    let text = negative_text c.args.thousandths _ _ (to_z-of_z c.ranges.thousandths) c.unsigned_abs-size.ensures.value c.if-thousandths-lt0.true in
    on_ok_weaker c.size.result (signed_written _ _ _ _ _ text c.in_ok-append.ensures) c.size.ensures

pub returns-else-thousandths-lt0 : goal.returns-else-thousandths-lt0
returns-else-thousandths-lt0 c =
    let text = plain_text c.args.thousandths _ _ (to_z-of_z c.ranges.thousandths) c.unsigned_abs-size.ensures.value c.if-thousandths-lt0.false in
    on_ok_weaker c.size-else-thousandths-lt0.result (plain_written _ _ _ _ text) c.size-else-thousandths-lt0.ensures

use Rattle.std.proofs.lemmas.Result.{err_from_is_err_and}
use Rattle.eu_name.proofs.Endings.{part_is}
use Rattle.eu_name.proofs.reading.read_tail.Goals as goal

pub returns-in_err-text_of : goal.returns-in_err-text_of
returns-in_err-text_of c =
    let found = part_is c.args.text.now c.in-Some.mark.now c.in-Some.part.now c.in-Some.ensures.cases.0 c.if-mark-ne46.false (c.is_name.ensures.0 c.if-not-is_name.false) in
    let p = err_from_is_err_and c.from_residual.result c.from_residual.ensures.1 in
    rw (p.1, p.2) (_, found)

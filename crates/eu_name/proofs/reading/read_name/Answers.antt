use Rattle.std.proofs.lemmas.Bool.{both_ways}
use Rattle.std.proofs.lemmas.Result.{err_from_is_err_and}
use Rattle.eu_name.proofs.Names.{numbered_is_low, numbered_spells, no_label, found_name, name_fault, name_spells}
use Rattle.eu_name.proofs.reading.read_name.Goals as goal

pub text_of-requires : goal.text_of-requires
text_of-requires c = numbered_is_low c.args.text.now (c.is_numbered.ensures.0 c.if-is_numbered.true)

pub returns-in_err-text_of : goal.returns-in_err-text_of
returns-in_err-text_of c =
    let p = err_from_is_err_and c.from_residual.result c.from_residual.ensures.1 in
    rw (p.1, p.2) (numbered_spells c.args.text.now (c.is_numbered.ensures.0 c.if-is_numbered.true))

pub returns-in_err-label : goal.returns-in_err-label
returns-in_err-label c =
    let p = err_from_is_err_and c.from_residual-in_err-label.result c.from_residual-in_err-label.ensures.1 in
    rw (p.1, p.2)
    (found_name c.args.text.now c.split_at.result.0.now c.split_at.result.1.now c.run_len.result c.split_at.ensures.front c.split_at.ensures.back
    (c.is_name.ensures.0 c.if-not-is_name.false) c.in_ok-steps.steps c.in_ok-steps.tail c.in_ok-steps.ensures)

pub returns-then-not-is_name : goal.returns-then-not-is_name
returns-then-not-is_name c =
    no_label c.args.text.now c.split_at.result.0.now c.run_len.result c.run_len.ensures.len c.split_at.ensures.front
    (λ is. both_ways c.is_numbered.result c.if-is_numbered.false (c.is_numbered.ensures.1 is))
    (λ named. both_ways c.is_name.result c.if-not-is_name.true (c.is_name.ensures.1 named))

pub returns-in_err-steps : goal.returns-in_err-steps
returns-in_err-steps c =
    let p = err_from_is_err_and c.from_residual-in_err-steps.result c.from_residual-in_err-steps.ensures.1 in
    rw (p.1, p.2)
    (name_fault c.args.text.now c.split_at.result.0.now c.split_at.result.1.now c.run_len.result c.run_len.ensures.len c.split_at.ensures.front c.split_at.ensures.back
    (λ is. both_ways c.is_numbered.result c.if-is_numbered.false (c.is_numbered.ensures.1 is))
    (c.is_name.ensures.0 c.if-not-is_name.false) c.in_err-steps.field-0.0 c.in_err-steps.ensures)

pub returns : goal.returns
returns c =
    name_spells c.args.text.now c.split_at.result.0.now c.split_at.result.1.now c.run_len.result _ c.split_at.ensures.front c.split_at.ensures.back
    (c.is_name.ensures.0 c.if-not-is_name.false) c.in_ok-label.ensures c.in_ok-steps.ensures

use Rattle.std.proofs.Common.{rules, ap, ◌∙◌}
use Rattle.std.specs.Result.{result_ok}
use Rattle.plan_resolve.proofs.Valuing.{parsed_is, number_is_text}
use Rattle.plan_resolve.proofs.values.parsed.Goals as goal

pub returns-in-Ok : goal.returns-in-Ok
returns-in-Ok c = λ value is same.
    c.ok.ensures.value ∙ ap result_ok (parsed_is value c.args.word.now c.in-Ok.text.now c.parse.result is same (search rules) c.parse.ensures.value.0)

pub returns-in-Err : goal.returns-in-Err
returns-in-Err c = λ value is same. absurd (c.in-Err.ensures.cases.0 (number_is_text value c.args.word.now is same))

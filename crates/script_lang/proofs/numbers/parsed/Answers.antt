use Rattle.std.proofs.Common.{rules, ap, ◌∙◌}
use Rattle.std.specs.Result.{result_ok}
use Rattle.script_lang.proofs.Counting.{parsed_is, number_is_text}
use Rattle.script_lang.proofs.numbers.parsed.Goals as goal

pub returns-in-Ok : goal.returns-in-Ok
returns-in-Ok c = λ number small is.
    c.ok.ensures.value ∙ ap result_ok (parsed_is number c.args.word.now c.in-Ok.text.now c.parse.result small is (search rules) c.parse.ensures.value.0)

pub returns-in-Err : goal.returns-in-Err
returns-in-Err c = λ number small is. absurd (c.in-Err.ensures.cases.0 (number_is_text number c.args.word.now small is))

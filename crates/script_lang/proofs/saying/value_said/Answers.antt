use Rattle.std.proofs.Common.{sym, subst}
use Rattle.model_core.specs.declared.variable.ValueKind.{ValueKind}
use Rattle.model_core.specs.declared.variable.ValueKind.TheVariants as kinds
use Rattle.model_core.specs.Kinds.{IsNumeric}
use Rattle.script_lang.proofs.Kinding.{AnswersSaid, int_said, thousandths_told, text_said}
use Rattle.script_lang.proofs.saying.value_said.Goals as goal

pub returns-in-Int : goal.returns-in-Int
returns-in-Int c = int_said c.args.model.now c.args.kind c.args.word.now c.number_said.result c.in-Int.is c.number_said.ensures

pub returns-in-Float : goal.returns-in-Float
returns-in-Float c = thousandths_told c.args.model.now c.args.kind c.args.word.now c.thousandths_said.result c.in-Float.is c.thousandths_said.ensures

pub returns-in-Bool : goal.returns-in-Bool
returns-in-Bool c = text_said c.args.model.now c.args.kind c.args.word.now c.value_of.result (λ numeric. subst IsNumeric c.in-Bool.is numeric) c.value_of.ensures

pub returns-in-Enum : goal.returns-in-Enum
returns-in-Enum c =
    subst (λ (kind : ValueKind). AnswersSaid c.args.model.now kind c.args.word.now c.value_of-in-Enum.result) (sym c.in-Enum.is)
    (text_said c.args.model.now (kinds.Enum c.in-Enum._number) c.args.word.now c.value_of-in-Enum.result (λ numeric. numeric) c.value_of-in-Enum.ensures)

pub returns-in-Object : goal.returns-in-Object
returns-in-Object c = text_said c.args.model.now c.args.kind c.args.word.now c.value_of-in-Object.result (λ numeric. subst IsNumeric c.in-Object.is numeric) c.value_of-in-Object.ensures

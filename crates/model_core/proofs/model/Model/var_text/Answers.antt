use Rattle.std.proofs.Common.{subst, sym}
use Rattle.std.specs.Prelude.{IfOk}
use Rattle.eu_name.specs.declared.name.VarName.{VarName}
use Rattle.model_core.specs.declared.variable.Base.{Base}
use Rattle.model_core.specs.Names.{NamesVariable}
use Rattle.model_core.specs.Variables.{HasBase}
use Rattle.model_core.proofs.Naming.{part_word_is, part_texts}
use Rattle.model_core.proofs.model.Model.var_text.Goals as goal

pub part_word-requires : goal.part_word-requires
part_word-requires c =
    part_word_is c.args.self.now c.in-Token.token c.in-Token.part c.pred_of.result (subst (λ (x : VarName). (base : Base) × HasBase c.args.self.now x base) c.in-Token.is c.requires) c.pred_of.ensures

pub returns-in_ok-word-in-Token : goal.returns-in_ok-word-in-Token
returns-in_ok-word-in-Token c =
    let has = subst (λ (x : VarName). (base : Base) × HasBase c.args.self.now x base) c.in-Token.is c.requires in
    subst (λ (x : VarName). IfOk c.token_text.result (λ text. NamesVariable c.args.self.now text x)) (sym c.in-Token.is)
    (part_texts c.args.self.now c.in-Token.token c.in-Token.part c.pred_of.result c.in_ok-word-in-Token.word c.token_text.result has c.pred_of.ensures c.in_ok-word-in-Token.ensures
    c.token_text.ensures.leads c.token_text.ensures.tail)

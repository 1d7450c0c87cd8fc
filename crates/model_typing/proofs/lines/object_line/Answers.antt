use Rattle.std.proofs.Common.{◌≡◌, Some}
use Rattle.std.specs.Prelude.{slice_get}
use Rattle.eu_name.proofs.Members.{get_same}
use Rattle.model_core.specs.declared.class.Pred.{Pred}
use Rattle.model_core.specs.Kinds.{IsUnder}
use Rattle.model_typing.specs.declared.line.Line.TheVariants as lines
use Rattle.model_typing.proofs.Lined.{line_found, line_none}
use Rattle.model_typing.proofs.lines.object_line.Goals as goal

pub returns-in-Some : goal.returns-in-Some
returns-in-Some c =
    let model = c.args.model.now in
    line_found model (lines.From c.in-Some.found.now.class) (λ (p : Pred). slice_get model.preds c.args.pred ≡ Some p) (λ class (a : Pred). IsUnder model a.class class) c.in-Some.found.now c.in-Some.ensures
    (λ other at. get_same model.preds c.args.pred other c.in-Some.found.now at c.in-Some.ensures) (λ class. (λ under. under, λ on. on))

pub returns-in-None : goal.returns-in-None
returns-in-None c =
    let model = c.args.model.now in
    line_none model (λ (p : Pred). slice_get model.preds c.args.pred ≡ Some p) (λ class (a : Pred). IsUnder model a.class class) c.in-None.ensures

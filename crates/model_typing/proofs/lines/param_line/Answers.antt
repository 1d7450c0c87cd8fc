use Rattle.std.proofs.Common.{List, ap, ◌∙◌}
use Rattle.std.specs.Prelude.{Vec}
use Rattle.std.specs.declared.alloc.Global.{Global}
use Rattle.model_typing.specs.declared.line.Line.{Line}
use Rattle.model_typing.specs.Lines.{line_in, lines_in}
use Rattle.model_typing.proofs.Lined.{param_lined}
use Rattle.model_typing.proofs.lines.param_line.Goals as goal

pub returns : goal.returns
returns c =
    param_lined c.args.model.now c.kept_line.result c.args.classes.now.params.items c.requires.params_are c.args.pred c.args.number
    (c.kept_line.ensures ∙ ap (λ (table : List (Vec Line Global)). line_in (lines_in table c.args.pred) c.args.number) c.as_slice.ensures.value)

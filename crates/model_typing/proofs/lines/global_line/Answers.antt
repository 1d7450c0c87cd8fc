use Rattle.std.proofs.Common.{List, ap, ◌∙◌}
use Rattle.model_typing.specs.declared.line.Line.{Line}
use Rattle.model_typing.specs.Lines.{line_in}
use Rattle.model_typing.specs.Terms.{scope_of}
use Rattle.model_typing.proofs.Lined.{global_lined}
use Rattle.model_typing.proofs.lines.global_line.Goals as goal

pub returns : goal.returns
returns c =
    global_lined c.args.model.now c.line_in.result (scope_of c.args.scope) c.args.classes.now.globals.items c.requires.globals_are c.args.number
    (c.line_in.ensures ∙ ap (λ (listed : List Line). line_in listed c.args.number) c.as_slice.ensures.value)

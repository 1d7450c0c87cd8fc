use Rattle.std.proofs.Common.{◌∙◌}
use Rattle.nddl_print.proofs.Spaced.{line_ended}
use Rattle.nddl_print.proofs.line.Lines.end_line.Goals as goal

pub returns : goal.returns
returns c before words some is =
    line_ended before words c.self.inside.bytes.items c.pop.new.self.items c.push.new.self.items _ some c.self.inside.bytes.ok.0 c.pop.ensures.rest c.in_ok-push.ensures.items (c.self.view_is ∙ is)

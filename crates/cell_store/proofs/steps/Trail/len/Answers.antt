use Rattle.std.proofs.Common.{length, sym, ap, ◌∙◌}
use Rattle.cell_store.proofs.Entries.{length-entries}
use Rattle.cell_store.proofs.steps.Trail.len.Goals as goal

pub returns : goal.returns
returns c = sym (length-entries c.self.inside.count c.self.inside.formers.items) ∙ ap length c.self.view_is

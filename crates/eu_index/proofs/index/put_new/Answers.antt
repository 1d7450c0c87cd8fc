use Rattle.std.proofs.Common.{◌∙◌}
use Rattle.eu_index.proofs.Indexes.{insert_new}
use Rattle.eu_index.proofs.index.put_new.Goals as goal

pub returns-clause-ok : goal.returns-clause-ok
returns-clause-ok c = c.in_ok-insert.ensures.entries ∙ insert_new c.args.numbers.now.entries c.args.name c.args.number c.requires

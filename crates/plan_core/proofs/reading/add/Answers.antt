use Rattle.plan_core.proofs.Wholes.{kept_if, said_if}
use Rattle.plan_core.proofs.reading.add.Goals as goal

pub returns-clause-kept : goal.returns-clause-kept
returns-clause-kept c =
    kept_if c.args.known.now.keys c.note_name-name.new.known.keys c.args.said.now.items c.push_named.new.said.items c.note_name-name.result c.push_named.result c.args.statement c.requires.kept c.requires.new
    c.note_name-name.ensures.known c.note_name-name.ensures.name c.push_named.ensures

pub returns-clause-said : goal.returns-clause-said
returns-clause-said c = said_if c.args.said.now.items c.push_named.new.said.items c.note_name-name.result c.push_named.result c.args.statement c.push_named.ensures

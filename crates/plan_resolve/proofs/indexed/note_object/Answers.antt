use Rattle.plan_resolve.proofs.Indexing.{noted_next}
use Rattle.plan_resolve.proofs.indexed.note_object.Goals as goal

pub returns : goal.returns
returns c = noted_next c.note.result c.args.index.now c.note.new.self c.as_bytes.result.now c.args.name.now c.args.place c.as_bytes.ensures c.note.ensures

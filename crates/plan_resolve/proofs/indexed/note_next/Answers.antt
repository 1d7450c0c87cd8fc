use Rattle.plan_resolve.proofs.Indexing.{next_noted}
use Rattle.plan_resolve.proofs.indexed.note_next.Goals as goal

pub returns : goal.returns
returns c = next_noted c.args.index.now c.note.new.self c.args.name.now c.args.place c.in_ok-note.ensures.noted

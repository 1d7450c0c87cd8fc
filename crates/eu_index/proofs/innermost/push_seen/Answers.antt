use Rattle.eu_index.proofs.Hiding.{pushed}
use Rattle.eu_index.proofs.innermost.push_seen.Goals as goal

pub returns-in-Ok-clause-indexed : goal.returns-in-Ok-clause-indexed
returns-in-Ok-clause-indexed g c =
    pushed c.args.last.now.entries c.set_last.new.last.entries c.args.seen.now.items c.push.new.self.items c.args.name.now c.in_ok-copy.field-0
    c.args.meaning c.args.hidden c.requires.indexed c.requires.hidden c.in_ok-copy.ensures c.in_ok-push.ensures.items c.in-Ok.ensures.ok

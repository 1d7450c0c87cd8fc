use Rattle.nddl_hierarchy.specs.Facts.{facts_of}
use Rattle.nddl_construction.proofs.Finding.{entries_more}
use Rattle.nddl_construction.proofs.builders.find_next.Goals as goal

pub returns-clause-found : goal.returns-clause-found
returns-clause-found c =
    entries_more (facts_of c.args.basis.now) c.args.number c.in_ok-found.found c.args.entries.now.items c.push.new.self.items
    c.requires c.in_ok-push.ensures.items c.in_ok-found.ensures

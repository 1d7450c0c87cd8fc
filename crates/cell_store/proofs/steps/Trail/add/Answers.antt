use Rattle.cell_store.proofs.Entries.{pushed_added}
use Rattle.cell_store.proofs.steps.Trail.add.Goals as goal

pub invariant_of-self : goal.invariant_of-self
invariant_of-self c =
    let trail = c.self.inside in
    (pushed_added trail.count c.in_ok-count.count trail.formers.items c.args.self.now c.self.invariant c.self.view_is c.in_ok-count.ensures).0

pub returns-clause-ok : goal.returns-clause-ok
returns-clause-ok c =
    let trail = c.self.inside in
    (pushed_added trail.count c.in_ok-count.count trail.formers.items c.args.self.now c.self.invariant c.self.view_is c.in_ok-count.ensures).1

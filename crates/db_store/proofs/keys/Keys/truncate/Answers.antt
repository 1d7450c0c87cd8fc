use Rattle.db_store.proofs.Found.{cut_to}
use Rattle.db_store.proofs.keys.Keys.truncate.Goals as goal

pub invariant_of-self : goal.invariant_of-self
invariant_of-self c =
    let inside = c.self.inside in
    cut_to inside.starts.items inside.all.items c.truncate-2.new.self.items inside.others.entries c.truncate.new.self.entries c.args.count c.count_before-kept.result
    c.self.invariant c.count_before-kept.ensures c.truncate-2.ensures.items c.truncate.ensures.entries

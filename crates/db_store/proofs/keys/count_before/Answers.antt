use Rattle.std.proofs.Common.{◌≡◌, true, false, sym, ◌∙◌}
use Rattle.db_store.proofs.Found.{cut_here}
use Rattle.db_store.proofs.keys.count_before.Goals as goal

pub returns : goal.returns
returns c =
    cut_here c.args.others.now.entries c.args.count c.loop-kept.kept c.requires c.loop-kept.invariant.within c.loop-kept.invariant.rest
    (λ number key is some over. let e : false ≡ true = sym c.loop-kept-test.false ∙ (c.ends_from.ensures.last number key is some).1 over in cc)

use Rattle.std.proofs.Common.{◌≡◌, ◌++◌, ◌∙◌, ap, length, map}
use Rattle.nddl_hierarchy.specs.Facts.{facts_of}
use Rattle.nddl_env.specs.Listing.{entry_population, populations_with}
use Rattle.nddl_env.proofs.Populating.{each_is}
use Rattle.nddl_env.proofs.listing.listed_each.Goals as goal

pub returns : goal.returns
returns c =
    let facts = facts_of c.args.basis.now in
    let long : c.len.result ≡ length c.push_each.new.lists.items = search in
    each_is c.push_each.new.lists.items c.new.result (populations_with facts c.args.objects.now c.args.entries.now) c.in_ok-places.places.items c.len.result
    long c.in_ok-places.ensures c.new.ensures
    (c.in_ok-push_each.ensures ∙ ap (λ lists. lists ++ map (entry_population facts c.args.objects.now) c.args.entries.now) c.in_ok-lists.ensures)

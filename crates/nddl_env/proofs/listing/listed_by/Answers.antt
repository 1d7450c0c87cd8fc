use Rattle.std.proofs.Common.{◌≡◌, ◌++◌, map}
use Rattle.std.proofs.lemmas.Result.{IfOk-weaker}
use Rattle.nddl_hierarchy.specs.Facts.{facts_of}
use Rattle.eu_forest.specs.Members.{list_at}
use Rattle.nddl_env.specs.Listing.{builtin_populations, populations}
use Rattle.nddl_env.proofs.Populating.{shared_is}
use Rattle.nddl_env.proofs.listing.listed_by.Goals as goal

pub returns : goal.returns
returns c =
    let facts = facts_of c.args.basis.now in
    let objects = c.args.objects.now in
    let lists = map (list_at c.in_ok-listed.listed.lists.items) c.in_ok-listed.listed.places.items in
    IfOk-weaker c.listed_shared.result (λ made. made ≡ builtin_populations facts objects ++ lists) (λ made. made ≡ populations facts objects)
    (λ made is. shared_is facts objects c.args.members.now c.args.entries.now made lists c.args.basis.now.are_parents c.requires.entries c.requires.lines
    c.requires.members c.in_ok-listed.ensures is)
    c.listed_shared.ensures

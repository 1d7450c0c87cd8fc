use Rattle.std.proofs.Common.{◌++◌, ◌∙◌, ap}
use Rattle.nddl_hierarchy.specs.Facts.{facts_of}
use Rattle.nddl_env.specs.Listing.{behind_builtin}
use Rattle.nddl_env.proofs.Populating.{behind_is}
use Rattle.nddl_env.proofs.listing.listed_shared.Goals as goal

pub returns : goal.returns
returns c =
    behind_is (facts_of c.args.basis.now) c.args.objects.now c.append.new.lists.items c.args.listed.lists.items c.new.result c.in_ok-places.places.items
    c.args.listed.places.items (c.in_ok-places.ensures ∙ ap behind_builtin c.as_slice.ensures.value)
    (c.in_ok-append.ensures ∙ ap (λ lists. lists ++ c.args.listed.lists.items) c.in_ok-lists.ensures) c.new.ensures

use Rattle.nddl_hierarchy.proofs.Placing.{places_more}
use Rattle.nddl_hierarchy.proofs.members.push_places.Goals as goal

pub returns : goal.returns
returns c = λ program are.
    rw c.in_ok-push.ensures.items
    (places_more program c.args.places.now.items c.args.decl.now c.in_ok-found.found are c.in_ok-found.ensures)

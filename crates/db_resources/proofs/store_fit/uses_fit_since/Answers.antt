use Rattle.db_store.specs.Stores.{snapshot_of}
use Rattle.db_resources.proofs.Remaining.{fit_still}
use Rattle.db_resources.proofs.store_fit.uses_fit_since.Goals as goal

pub are_actors_as_before-requires : goal.are_actors_as_before-requires
are_actors_as_before-requires c = (snapshot_of c.requires.fitted.1.former, c.requires.fitted.1.marked)

pub returns-then-branch : goal.returns-then-branch
returns-then-branch c =
    let fitted = c.requires.fitted.1 in
    let same = c.in_ok-are_actors_as_before.ensures c.if-branch.true (snapshot_of fitted.former) fitted.marked in
    fit_still c.args.model.now c.args.decisions.now fitted.earlier c.args.last.now fitted.former c.args.store.now fitted.longer fitted.marked.is c.is_sound.ensures
    (c.settled_lists_decide_once.ensures c.args.model.now c.args.decisions.now c.requires.settled) c.requires.rest fitted.goes_on same fitted.least.closed.reusables

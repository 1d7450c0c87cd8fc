use Rattle.token_store.proofs.Names.{finds}
use Rattle.token_store.proofs.trail.find_place.Goals as goal

pub returns : goal.returns
returns c =
    let found = c.get_index_of.ensures in
    finds _ c.names_are_told_apart.ensures.tokens c.args.tokens.now.entries c.args.name.now c.get_index_of.result found.index found.found found.unique

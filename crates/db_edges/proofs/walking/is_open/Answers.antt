use Rattle.eu_name.proofs.Members.{contains_from_get}
use Rattle.db_edges.proofs.Going.{open_seen, seen_open}
use Rattle.db_edges.proofs.walking.is_open.Goals as goal

pub returns-in-Some : goal.returns-in-Some
returns-in-Some c =
    open_seen c.args.walk.store.now c.is_sound.ensures c.args.walk.token.now c.args.rule c.args.block.now c.requires.named c.requires.of_rule
    (contains_from_get _ _ c.args.block.now c.in-Some.ensures)

pub returns-in-None : goal.returns-in-None
returns-in-None c = λ seen.
    c.in-None.ensures (seen_open c.args.walk.store.now c.is_sound.ensures c.args.walk.token.now c.args.rule c.args.block.now c.requires.named c.requires.of_rule seen)

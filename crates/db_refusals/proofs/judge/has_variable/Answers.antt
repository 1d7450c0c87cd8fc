use Rattle.db_store.specs.Stores.{snapshot_of, named_content}
use Rattle.db_store.proofs.Naming.{names_are_once}
use Rattle.db_refine.proofs.Showing.{has_domain, is_named}
use Rattle.eu_name.proofs.Members.{contains_from_get}
use Rattle.db_refusals.proofs.judge.has_variable.Goals as goal

pub returns-in-Some : goal.returns-in-Some
returns-in-Some c =
    let content = named_content (snapshot_of c.args.store.now) in
    has_domain content.names content.domains (names_are_once (snapshot_of c.args.store.now) c.is_sound.ensures).count c.args.name.now
    (contains_from_get content.names c.in-Some._number c.args.name.now c.in-Some.ensures)

pub returns-in-None : goal.returns-in-None
returns-in-None c = λ domain gives.
    let content = named_content (snapshot_of c.args.store.now) in
    c.in-None.ensures (is_named content.names content.domains c.args.name.now domain gives)

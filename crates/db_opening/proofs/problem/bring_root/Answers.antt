use Rattle.db_opening.proofs.Beginning.{root_there, root_begun, root_void, root_named}
use Rattle.db_opening.proofs.problem.bring_root.Goals as goal

pub bring_token-requires-clause-there : goal.bring_token-requires-clause-there
bring_token-requires-clause-there c = root_there c.args.model.now c.args.number c.requires.number c.new.result c.new.ensures

pub returns-clause-begun : goal.returns-clause-begun
returns-clause-begun c =
    root_begun c.args.model.now c.args.number c.requires.number c.new.result c.new.ensures c.args.store.now c.bring_token.new.store c.requires.begun
    c.bring_token.result c.bring_token.ensures.begun

pub returns-clause-there : goal.returns-clause-there
returns-clause-there c =
    root_named c.args.model.now c.args.number c.requires.number c.new.result c.new.ensures c.bring_token.new.store c.bring_token.result c.bring_token.ensures.there

pub returns-clause-void : goal.returns-clause-void
returns-clause-void c =
    root_void c.args.model.now c.args.number c.requires.number c.new.result c.new.ensures c.args.store.now c.bring_token.new.store c.requires.begun
    c.bring_token.result c.bring_token.ensures.begun

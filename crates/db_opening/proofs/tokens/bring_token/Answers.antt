use Rattle.db_opening.proofs.Arriving.{token_stays, token_stays_begun, brought_there, brought_adds, brought_preds}
use Rattle.db_opening.proofs.tokens.bring_token.Goals as goal

pub returns-clause-underway : goal.returns-clause-underway
returns-clause-underway c =
    token_stays c.args.model.now c.requires.lawful c.args.token.now c.args.store.now c.bring_new-brought.new.store c.is_sound.ensures c.is_sound-2.ensures c.bring_new-brought.result
    c.bring_new-brought.ensures.brings

pub returns-clause-begun : goal.returns-clause-begun
returns-clause-begun c =
    token_stays_begun c.args.model.now c.requires.lawful c.args.token.now c.args.store.now c.bring_new-brought.new.store c.is_sound.ensures c.is_sound-2.ensures
    c.bring_new-brought.result c.bring_new-brought.ensures.brings

pub returns-clause-there : goal.returns-clause-there
returns-clause-there c =
    brought_there c.args.model.now c.requires.lawful c.args.token.now c.args.store.now c.bring_new-brought.new.store c.is_sound.ensures c.is_sound-2.ensures
    c.bring_new-brought.result c.bring_new-brought.ensures.brings

pub returns-clause-preds : goal.returns-clause-preds
returns-clause-preds c =
    brought_preds c.args.model.now c.requires.lawful c.args.token.now c.args.store.now c.bring_new-brought.new.store c.is_sound.ensures c.is_sound-2.ensures c.requires.preds
    c.bring_new-brought.result c.bring_new-brought.ensures.brings

pub returns-clause-adds : goal.returns-clause-adds
returns-clause-adds c =
    brought_adds c.args.model.now c.requires.lawful c.args.token.now c.args.store.now c.bring_new-brought.new.store c.is_sound.ensures c.is_sound-2.ensures
    c.bring_new-brought.result c.bring_new-brought.ensures.brings

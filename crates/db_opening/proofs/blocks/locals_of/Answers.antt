use Rattle.std.proofs.Common.{List, sym, subst}
use Rattle.model_core.specs.declared.rule.Turn.{Turn}
use Rattle.model_core.specs.Blocks.{IsBlock}
use Rattle.model_core.specs.Entries.{Entries}
use Rattle.rule_engine.specs.Contents.{AreAdditions}
use Rattle.token_store.specs.Tokens.{tokens_now, token_names}
use Rattle.db_opening.proofs.Opening.{there_named, locals_named}
use Rattle.db_opening.proofs.blocks.locals_of.Goals as goal

pub open_block-requires-clause-there : goal.open_block-requires-clause-there
open_block-requires-clause-there c =
    subst (λ (path : List Turn). (entries : Entries) × IsBlock c.args.model.now (record { token = c.in-Some.token.now; rule = c.args.block.now.rule; path = path }) entries)
    (sym c.as_slice-path.ensures)
    (there_named c.args.model.now (token_names (tokens_now c.args.tokens.now)) c.args.block.now c.in-Some.token.now c.in-Some.ensures c.requires.there)

pub returns : goal.returns
returns c =
    locals_named c.args.model.now (token_names (tokens_now c.args.tokens.now)) c.args.block.now c.in-Some.token.now c.in_ok-locals-in-Some.field-0 c.in-Some.ensures
    (subst (λ (path : List Turn). AreAdditions c.args.model.now (record { token = c.in-Some.token.now; rule = c.args.block.now.rule; path = path }) c.in_ok-locals-in-Some.field-0)
    c.as_slice-path.ensures c.in_ok-locals-in-Some.ensures)

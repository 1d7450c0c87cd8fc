use Rattle.std.proofs.Common.{List, sym, subst}
use Rattle.model_core.specs.declared.rule.Turn.{Turn}
use Rattle.model_core.specs.Blocks.{IsBlock}
use Rattle.db_decide.proofs.begun.seen.Goals as goal

pub returns-clause-block : goal.returns-clause-block
returns-clause-block c = λ entries has.
    c.block_of-block.ensures entries
    (subst (λ (path : List Turn). IsBlock c.args.model.now (record { token = c.args.token.now; rule = c.args.found.now.rule; path = path }) entries) (sym c.as_slice.ensures) has)

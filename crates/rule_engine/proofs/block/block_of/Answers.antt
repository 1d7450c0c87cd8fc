-- The rule that was found is the block's, and the way leads to one block in it.
use Rattle.std.proofs.Common.{arith}
use Rattle.rule_engine.proofs.Finding.{found_by}
use Rattle.rule_engine.proofs.block.block_of.Goals as goal

pub block_at-requires-clause-few : goal.block_at-requires-clause-few
block_at-requires-clause-few c =
    let there = c.requires.there in
    let same = c.rule_of-found.ensures there.1.slot there.1.rule there.1.has_token there.1.has_rule in
    let found = found_by c.args.model.now c.args.token.now c.args.rule c.args.path.now there.0 c.rule_of-found.result.now c.requires.lawful there.1 same in
    omega (arith, found.few.items)

pub block_at-requires-clause-there : goal.block_at-requires-clause-there
block_at-requires-clause-there c =
    let there = c.requires.there in
    let same = c.rule_of-found.ensures there.1.slot there.1.rule there.1.has_token there.1.has_rule in
    let found = found_by c.args.model.now c.args.token.now c.args.rule c.args.path.now there.0 c.rule_of-found.result.now c.requires.lawful there.1 same in
    (there.0, found.way)

pub returns : goal.returns
returns c = λ entries is.
    let same = c.rule_of-found.ensures is.slot is.rule is.has_token is.has_rule in
    let found = found_by c.args.model.now c.args.token.now c.args.rule c.args.path.now entries c.rule_of-found.result.now c.requires.lawful is same in
    c.block_at.ensures.block entries found.way

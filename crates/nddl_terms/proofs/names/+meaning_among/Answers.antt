use Rattle.std.proofs.Common.{arith, ◌∙◌}
use Rattle.nddl_terms.proofs.Finding.{found_here, found_in_front, found_behind}
use Rattle.nddl_terms.proofs.names.+meaning_among.Goals as goal

pub returns-then-read-at : goal.returns-then-read-at
returns-then-read-at t c =
    found_here c.args.names.now c.split_at.result.0.now c.split_at.result.1.now _ c.args.at c.in-Some.read.now c.requires
    c.split_at.ensures.front c.split_at.ensures.back c.in-Some.ensures.value c.if-read-at.true

pub returns-then-at-read : goal.returns-then-at-read
returns-then-at-read t c =
    c.meaning_among.ensures
    ∙ found_in_front c.args.names.now c.split_at.result.0.now c.split_at.result.1.now _ c.args.at c.in-Some.read.now c.requires
    c.split_at.ensures.front c.split_at.ensures.back c.in-Some.ensures.value c.if-at-read.true

pub returns-else-at-read : goal.returns-else-at-read
returns-else-at-read t c =
    c.meaning_among-else-at-read.ensures
    ∙ found_behind c.args.names.now c.split_at.result.0.now c.split_at.result.1.now _ c.args.at c.in-Some.read.now c.requires
    c.split_at.ensures.front c.split_at.ensures.back c.in-Some.ensures.value
    (omega (arith, c.if-at-read.false, c.if-read-at.false))

use Rattle.db_posting.specs.Origins.{content_now, origin_context}
use Rattle.db_posting.proofs.Meaning.{arguments_more}
use Rattle.db_posting.proofs.arguments.arguments_of.Goals as goal

pub argument_of-requires-clause-there : goal.argument_of-requires-clause-there
argument_of-requires-clause-there c = c.requires.there c.loop-term.term-index _ c.loop-term-test.true

pub loop-term-preserved : goal.loop-term-preserved
loop-term-preserved c =
    let content = content_now c.args.store.now in
    let loop = c.loop-term in
    rw (c.in_ok-push.ensures.items)
    (arguments_more content (origin_context content.tokens c.args.origin) c.args.terms.now loop.args.items loop.term-index _ _ c.loop-term-test.true loop.invariant c.in_ok-argument_of.ensures)

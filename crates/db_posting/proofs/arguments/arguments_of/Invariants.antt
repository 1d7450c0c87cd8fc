use Rattle.std.proofs.Common.{take}
use Rattle.std.specs.List.{AllZip}
use Rattle.db_posting.specs.Origins.{content_now, origin_context}
use Rattle.db_posting.specs.Terms.{IsTermArgument}
use Rattle.db_posting.proofs.arguments.arguments_of.Given as goal

abbrev pub invariant-loop-term : goal.invariant-loop-term
invariant-loop-term l =
    let content = content_now l.store in
    AllZip (IsTermArgument content (origin_context content.tokens l.origin)) (take l.term-index l.terms) l.args.items

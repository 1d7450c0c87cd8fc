use Rattle.std.proofs.Common.{refl, subst}
use Rattle.std.specs.Prelude.{All}
use Rattle.std.proofs.lemmas.List.{take_all}
use Rattle.model_core.specs.Decided.{IsTaken}
use Rattle.db_posting.specs.Counting.{TermCounts}
use Rattle.db_posting.specs.Origins.{content_now, origin_context}
use Rattle.db_posting.proofs.Taking.{all_more}
use Rattle.db_posting.proofs.counting.terms_count.Goals as goal

pub loop-term-preserved : goal.loop-term-preserved
loop-term-preserved c = λ decisions states.
    let context = origin_context (content_now c.args.store.now).tokens c.args.origin in
    let counts = (c.if-not-term_counts.ensures decisions states).0 refl in
    all_more (TermCounts c.args.model.now (IsTaken decisions) context) c.args.terms.now c.loop-term.term-index _ c.loop-term-test.true (c.loop-term.invariant decisions states) counts

pub returns-then-not-term_counts : goal.returns-then-not-term_counts
returns-then-not-term_counts c = λ decisions states.
    (λ yes. absurd (cc), λ all. (c.if-not-term_counts.ensures decisions states).1 (all c.loop-term.term-index _ c.loop-term-test.true))

pub returns : goal.returns
returns c = λ decisions states.
    let context = origin_context (content_now c.args.store.now).tokens c.args.origin in
    let Is = TermCounts c.args.model.now (IsTaken decisions) context in
    (λ yes. subst (All Is) (take_all c.loop-term.term-index c.args.terms.now c.loop-term-test.false) (c.loop-term.invariant decisions states), λ all. refl)

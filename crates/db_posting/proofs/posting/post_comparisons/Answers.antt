use Rattle.std.proofs.Common.{◌≡◌, get_or, subst}
use Rattle.token_store.specs.Orders.{name_at}
use Rattle.db_store.specs.Stores.{Stored}
use Rattle.db_posting.specs.declared.relations.Comparison.TheVariants.{AtMost}
use Rattle.db_posting.specs.declared.relations.Moment.TheVariants.{Start}
use Rattle.db_posting.specs.Origins.{content_now}
use Rattle.db_posting.specs.Posted.{PostsClaims, compares}
use Rattle.db_posting.proofs.Comparing.{comparisons_more}
use Rattle.db_posting.proofs.Storing.{times_stay, only_both, marks_both}
use Rattle.db_posting.proofs.posting.post_comparisons.Goals as goal

pub post_comparison-requires-clause-one : goal.post_comparison-requires-clause-one
post_comparison-requires-clause-one c = times_stay c.args.store.now c.loop-comparison.store c.loop-comparison.invariant.only c.args.one c.requires.one

pub post_comparison-requires-clause-other : goal.post_comparison-requires-clause-other
post_comparison-requires-clause-other c = times_stay c.args.store.now c.loop-comparison.store c.loop-comparison.invariant.only c.args.other c.requires.other

pub loop-comparison-preserved : goal.loop-comparison-preserved
loop-comparison-preserved c =
    let old = c.args.store.now in
    let loop = c.loop-comparison in
    let step = c.in_ok-post_comparison.ensures in
    let content = content_now old in
    let new = c.post_comparison.new.store in
    let first = AtMost Start Start in
    let claims = subst (λ (stored : Stored). PostsClaims (content_now stored).names
    (λ claim. claim ≡ compares (name_at (content_now stored).tokens c.args.one) (name_at (content_now stored).tokens c.args.other) (get_or c.args.comparisons.now loop.comparison-index first))
    loop.store.net.constraints new.net.constraints) loop.invariant.only step.posted in
    record {
      posted = comparisons_more content.names (name_at content.tokens c.args.one) (name_at content.tokens c.args.other) c.args.comparisons.now
          old.net.constraints loop.store.net.constraints new.net.constraints loop.comparison-index first c.loop-comparison-test.true loop.invariant.posted claims;
      only = only_both old loop.store new loop.invariant.only step.only;
      marks = marks_both old loop.store new loop.invariant.marks step.marks;
    }

pub returns-in_err-post_comparison-clause-marks : goal.returns-in_err-post_comparison-clause-marks
returns-in_err-post_comparison-clause-marks c =
    marks_both c.args.store.now c.loop-comparison.store c.post_comparison.new.store c.loop-comparison.invariant.marks c.in_err-post_comparison.ensures.marks

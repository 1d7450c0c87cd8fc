use Rattle.db_posting.specs.declared.relations.Comparison.TheVariants.{AtMost}
use Rattle.db_posting.specs.declared.relations.Moment.TheVariants.{Start}
use Rattle.db_posting.specs.Posted.{compares, comparisons_claim}
use Rattle.db_edges.specs.Edges.{AppendsEach, HasClaimEdges}
use Rattle.db_edges.proofs.Appending.{appends_none, appends_at, appends_all, appends_mapped, adds_so}
use Rattle.db_edges.proofs.comparing.push_comparisons.Goals as goal

pub loop-comparison-init : goal.loop-comparison-init
loop-comparison-init c =
    appends_none (λ comparison. HasClaimEdges c.args.at.model.now c.args.at.decisions.now (compares c.args.one.now c.args.other.now comparison))
    c.args.comparisons.now c.args.edges.now.items

pub loop-comparison-preserved : goal.loop-comparison-preserved
loop-comparison-preserved c =
    let loop = c.loop-comparison in
    appends_at (λ comparison. HasClaimEdges c.args.at.model.now c.args.at.decisions.now (compares c.args.one.now c.args.other.now comparison))
    c.args.comparisons.now c.args.edges.now.items loop.edges.items c.push_comparison.new.edges.items loop.comparison-index (AtMost Start Start) c.loop-comparison-test.true
    loop.invariant c.in_ok-push_comparison.ensures

pub returns : goal.returns
returns c =
    let claim = compares c.args.one.now c.args.other.now in
    let has = HasClaimEdges c.args.at.model.now c.args.at.decisions.now in
    adds_so (AppendsEach (λ comparison. has (claim comparison)) c.args.comparisons.now) (AppendsEach has (comparisons_claim c.args.one.now c.args.other.now c.args.comparisons.now))
    c.args.edges.now.items c.loop-comparison.edges.items (appends_mapped has claim c.args.comparisons.now)
    (appends_all (λ comparison. has (claim comparison)) c.args.comparisons.now c.args.edges.now.items c.loop-comparison.edges.items c.loop-comparison.comparison-index c.loop-comparison-test.false c.loop-comparison.invariant)

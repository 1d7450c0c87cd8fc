use Rattle.plan_resolve.proofs.Indexing.{index_step, index_whole}
use Rattle.plan_resolve.proofs.indexed.index_of_names.Goals as goal

pub loop-place-preserved : goal.loop-place-preserved
loop-place-preserved c =
    index_step (λ item. item.name) c.args.variables.now c.loop-place.place c.index-variables-place.result c.note_next.new.index c.loop-place.index
    c.loop-place-test.true c.in_ok-note_next.ensures c.loop-place.invariant

pub returns : goal.returns
returns c = index_whole (λ item. item.name) c.args.variables.now c.loop-place.place c.loop-place.index c.loop-place-test.false c.loop-place.invariant

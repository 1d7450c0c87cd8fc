use Rattle.nddl_symbols.specs.Scope.{is_named}
use Rattle.nddl_symbols.proofs.Firsts.{firsts_step, firsts_whole}
use Rattle.nddl_symbols.proofs.scope.index_of.Goals as goal

pub loop-number-preserved : goal.loop-number-preserved
loop-number-preserved c =
    firsts_step (is_named c.args.only_bodies) c.args.names.now c.loop-number.number c.index-names-number.result c.loop-number.index
    c.note_listed.new.index c.loop-number-test.true c.index-names-number.is c.in_ok-note_listed.ensures c.loop-number.invariant

pub returns : goal.returns
returns c =
    firsts_whole (is_named c.args.only_bodies) c.args.names.now c.loop-number.number c.loop-number.index c.loop-number-test.false
    c.loop-number.invariant

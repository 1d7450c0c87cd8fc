use Rattle.db_history.proofs.Outs.{out_list, out_fits, out_kept}
use Rattle.db_history.proofs.settle.take_out.Goals as goal

pub returns-clause-list : goal.returns-clause-list
returns-clause-list c =
    out_list c.args.model.now c.args.log.now c.finish.new.log c.args.place c.as_slice.result.now c.settle_standing-done.new.settled.flags.items
    c.settle_standing-done.new.settled.decisions.items c.as_slice.ensures.value c.settle_standing-done.result c.settle_standing-done.ensures.ok
    c.finish.result c.finish.ensures.list

pub returns-clause-fits : goal.returns-clause-fits
returns-clause-fits c =
    out_fits c.args.model.now c.args.log.now c.finish.new.log c.args.place c.as_slice.result.now c.settle_standing-done.new.settled.flags.items
    c.settle_standing-done.new.settled.decisions.items c.as_slice.ensures.value c.settle_standing-done.result c.settle_standing-done.ensures.ok
    c.settle_standing-done.new.kept c.settle_standing-done.ensures.kept c.finish.result c.finish.ensures.list c.finish.ensures.fits

pub returns-clause-kept : goal.returns-clause-kept
returns-clause-kept c =
    out_kept c.args.model.now c.args.log.now c.finish.new.log c.args.place c.as_slice.result.now c.settle_standing-done.new.settled.flags.items
    c.settle_standing-done.new.settled.decisions.items c.as_slice.ensures.value c.settle_standing-done.result c.settle_standing-done.ensures.ok
    c.args.kept.now c.settle_standing-done.new.kept c.finish.new.kept c.settle_standing-done.new.behind c.finish.new.behind
    c.requires.kept c.settle_standing-done.ensures.kept c.finish.ensures.kept c.settle_standing-done.ensures.moved c.finish.result c.finish.ensures.list c.finish.ensures.err

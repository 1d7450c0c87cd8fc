use Rattle.std.proofs.Common.{◌∙◌, arith}
use Rattle.std.proofs.lemmas.Result.{err_from_is_err_and}
use Rattle.run_load.proofs.Steps.{goes_on, stops_at}
use Rattle.run_load.proofs.taking.take_text.Goals as goal

pub returns-in_err-take_at-clause-taken : goal.returns-in_err-take_at-clause-taken
returns-in_err-take_at-clause-taken c =
    let p = err_from_is_err_and c.from_residual.result c.from_residual.ensures.1 in
    stops_at c.args.db.now.database c.loop-place.db.database c.take_at.new.db.database c.loop-place.place c.count_of-count.result
    c.in_err-take_at.field-0.0 c.from_residual.result c.count_of-count.ensures (omega arith) c.loop-place.invariant.model
    c.loop-place.invariant.taken (cc (p.1, p.2)) c.in_err-take_at.ensures.taken

pub loop-place-preserved : goal.loop-place-preserved
loop-place-preserved c = record {
  model = c.take_at.ensures.model ∙ c.loop-place.invariant.model;
  taken = goes_on c.args.db.now.database c.loop-place.db.database c.take_at.new.db.database c.loop-place.place
      c.count_of-count.result c.count_of-count.ensures (omega arith) c.loop-place.invariant.model c.loop-place.invariant.taken
      c.in_ok-take_at.ensures.taken;
  ready = c.take_at.ensures.still;
  sound = c.take_at.ensures.sound;
}

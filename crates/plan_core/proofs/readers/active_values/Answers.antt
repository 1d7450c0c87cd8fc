use Rattle.plan_text.specs.Lines.{TokenValues}
use Rattle.plan_text.specs.Subjects.{OnePredicate}
use Rattle.plan_core.proofs.Stepping.{then_finds}
use Rattle.plan_core.proofs.readers.active_values.Goals as goal

pub returns : goal.returns
returns c =
    then_finds (OnePredicate c.args.model.now c.args.number) (λ said. TokenValues c.args.model.now c.args.number) tt c.args.cursor.now.rest.now c.one_predicate.new.cursor.rest.now c.token_values.new.cursor.rest.now c.token_values.result
    c.in_ok-one_predicate.ensures c.token_values.ensures

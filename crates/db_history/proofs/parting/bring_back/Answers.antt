use Rattle.std.proofs.Common.{List, sym, subst}
use Rattle.model_core.specs.declared.decision.Decision.{Decision}
use Rattle.model_core.specs.History.{standing}
use Rattle.db_history.specs.Standing.{KeepsList}
use Rattle.db_history.proofs.Keeping.{former_stands, former_is}
use Rattle.db_history.proofs.parting.bring_back.Goals as goal
use Rattle.db_history.proofs.parting.bring_back.Goals.{After-fits}

-- what is kept is that of the list that then stands
stands : (c : After-fits) → KeepsList c.args.model.now (standing c.take_off.new.log) c.go_to_former.new.kept
stands c =
    let former = c.in_ok-go_to_former.ensures.ok in
    subst (λ (list : List Decision). KeepsList c.args.model.now list c.go_to_former.new.kept)
    (sym (former_stands c.args.model.now c.args.log.now c.take_off.new.log former.0 c.requires.kept.is_history former.1 c.take_off.ensures)) former.2

pub returns-clause-fits : goal.returns-clause-fits
returns-clause-fits c = c.fits.ensures c.args.model.now (standing c.take_off.new.log) (stands c)

pub returns-clause-kept : goal.returns-clause-kept
returns-clause-kept c =
    let former = c.in_ok-go_to_former.ensures.ok in
    record {
      is_history = former_is c.args.model.now c.args.log.now c.take_off.new.log former.0 c.requires.kept.is_history former.1 c.take_off.ensures;
      list = λ ready. stands c;
    }

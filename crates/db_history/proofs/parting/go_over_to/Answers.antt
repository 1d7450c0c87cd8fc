use Rattle.std.proofs.Common.{◌≡◌, List, take, sym, ap, ◌∙◌, subst}
use Rattle.model_core.specs.declared.decision.Decision.{Decision}
use Rattle.db_history.specs.Standing.{KeepsList}
use Rattle.db_history.proofs.parting.go_over_to.Goals as goal

pub go_back-requires-clause-kept : goal.go_back-requires-clause-kept
go_back-requires-clause-kept c = (
  c.args.model.now,
  subst (λ (list : List Decision). KeepsList c.args.model.now list c.args.kept.now) (sym c.standing-2.ensures) c.requires.kept,
)

pub go_on_from-requires-clause-kept : goal.go_on_from-requires-clause-kept
go_on_from-requires-clause-kept c =
    let keeps = subst (λ (list : List Decision). KeepsList c.args.model.now list c.args.kept.now) (sym c.standing-2.ensures) c.requires.kept in
    let first = c.parting_of-first.result in
    let same : take first c.standing-2.result.now ≡ take first c.args.decisions.now =
    ap (λ (list : List Decision). take first list) (c.standing-2.ensures ∙ sym c.standing.ensures) ∙ c.parting_of-first.ensures.front in
    subst (λ (list : List Decision). KeepsList c.args.model.now list c.go_back.new.kept) same (c.go_back.ensures c.args.model.now keeps)

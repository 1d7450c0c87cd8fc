use Rattle.std.proofs.Common.{◌≡◌, ℤ, w32, to_z, of_z, sym, subst, arith}
use Rattle.std.proofs.lemmas.Int.{ints}
use Rattle.std.specs.Prelude.{List, All}
use Rattle.model_core.specs.declared.decision.ConArg.{ConArg}
use Rattle.model_core.specs.declared.decision.Decision.{Decision}
use Rattle.model_core.specs.declared.decision.Decision.TheVariants.{Specify, Constrain}
use Rattle.plan_defs.specs.Refusals.{IsKnown}
use Rattle.model_core.specs.Content.{shown}
use Rattle.db_posting.specs.Origins.{content_now}
use Rattle.db_posting.specs.Postable.{CanPostArguments, IsArgumentThere}
use Rattle.db_decide.specs.TakingUp.{MayFollow, TakesUp}
use Rattle.db_decide.proofs.Numbering.{variable_known, arguments_known, times_known}
use Rattle.db_decide.proofs.taking.take_decision.Goals as goal

pub specify-requires : goal.specify-requires
specify-requires c =
    variable_known (content_now c.args.store.now) c.in-Specify.variable c.in-Specify.value
    (subst (IsKnown (shown (content_now c.args.store.now))) c.in-Specify.is c.requires.may.1.known)

pub activate-requires-clause-may : goal.activate-requires-clause-may
activate-requires-clause-may c =
    (c.requires.may.0, subst (MayFollow c.args.model.now c.requires.may.0 c.args.store.now) c.in-Activate.is c.requires.may.1)

pub merge-requires-clause-may : goal.merge-requires-clause-may
merge-requires-clause-may c =
    (c.requires.may.0, subst (MayFollow c.args.model.now c.requires.may.0 c.args.store.now) c.in-Merge.is c.requires.may.1)

pub reject-requires : goal.reject-requires
reject-requires c = subst (IsKnown (shown (content_now c.args.store.now))) c.in-Reject.is c.requires.may.1.known

pub order-requires-clause-first : goal.order-requires-clause-first
order-requires-clause-first c =
    times_known c.args.model.now (content_now c.args.store.now) c.requires.may.1.rest.underway.justified.is_content c.in-Order.first
    (subst (IsKnown (shown (content_now c.args.store.now))) c.in-Order.is c.requires.may.1.known).0

pub order-requires-clause-second : goal.order-requires-clause-second
order-requires-clause-second c =
    times_known c.args.model.now (content_now c.args.store.now) c.requires.may.1.rest.underway.justified.is_content c.in-Order.second
    (subst (IsKnown (shown (content_now c.args.store.now))) c.in-Order.is c.requires.may.1.known).1

pub constrain-requires-clause-postable : goal.constrain-requires-clause-postable
constrain-requires-clause-postable c =
    subst (CanPostArguments c.in-Constrain.kind) (sym c.as_slice.ensures)
    (c.requires.may.1.postable c.in-Constrain.kind c.in-Constrain.arguments c.in-Constrain.is)

pub constrain-requires-clause-there : goal.constrain-requires-clause-there
constrain-requires-clause-there c =
    subst (All (IsArgumentThere (content_now c.args.store.now))) (sym c.as_slice.ensures)
    (arguments_known (content_now c.args.store.now) c.in-Constrain.kind c.in-Constrain.arguments
    (subst (IsKnown (shown (content_now c.args.store.now))) c.in-Constrain.is c.requires.may.1.known))

pub relate-requires-clause-first : goal.relate-requires-clause-first
relate-requires-clause-first c =
    times_known c.args.model.now (content_now c.args.store.now) c.requires.may.1.rest.underway.justified.is_content c.in-Relate.first
    (subst (IsKnown (shown (content_now c.args.store.now))) c.in-Relate.is c.requires.may.1.known).0

pub relate-requires-clause-second : goal.relate-requires-clause-second
relate-requires-clause-second c =
    times_known c.args.model.now (content_now c.args.store.now) c.requires.may.1.rest.underway.justified.is_content c.in-Relate.second
    (subst (IsKnown (shown (content_now c.args.store.now))) c.in-Relate.is c.requires.may.1.known).1

pub returns-in-Specify-clause-takes : goal.returns-in-Specify-clause-takes
returns-in-Specify-clause-takes c =
    let same : to_z w32 (of_z w32 c.in-Specify.value) ≡ c.in-Specify.value = omega (arith, ints) in
    subst (λ (d : Decision). TakesUp c.args.model.now d c.args.store.now c.specify.result c.specify.new.store) (sym c.in-Specify.is)
    (subst (λ (value : ℤ). TakesUp c.args.model.now (Specify c.in-Specify.variable value) c.args.store.now c.specify.result c.specify.new.store) same
    (c.specify.ensures.takes c.args.model.now))

pub returns-in-Activate-clause-takes : goal.returns-in-Activate-clause-takes
returns-in-Activate-clause-takes c =
    subst (λ (d : Decision). TakesUp c.args.model.now d c.args.store.now c.activate.result c.activate.new.store) (sym c.in-Activate.is) c.activate.ensures.takes

pub returns-in-Merge-clause-takes : goal.returns-in-Merge-clause-takes
returns-in-Merge-clause-takes c =
    subst (λ (d : Decision). TakesUp c.args.model.now d c.args.store.now c.merge.result c.merge.new.store) (sym c.in-Merge.is) c.merge.ensures.takes

pub returns-in-Reject-clause-takes : goal.returns-in-Reject-clause-takes
returns-in-Reject-clause-takes c =
    subst (λ (d : Decision). TakesUp c.args.model.now d c.args.store.now c.reject.result c.reject.new.store) (sym c.in-Reject.is) (c.reject.ensures.takes c.args.model.now)

pub returns-in-Order-clause-takes : goal.returns-in-Order-clause-takes
returns-in-Order-clause-takes c =
    subst (λ (d : Decision). TakesUp c.args.model.now d c.args.store.now c.order.result c.order.new.store) (sym c.in-Order.is) (c.order.ensures.takes c.args.model.now)

pub returns-in-Constrain-clause-takes : goal.returns-in-Constrain-clause-takes
returns-in-Constrain-clause-takes c =
    subst (λ (d : Decision). TakesUp c.args.model.now d c.args.store.now c.constrain.result c.constrain.new.store) (sym c.in-Constrain.is)
    (subst (λ (arguments : List ConArg). TakesUp c.args.model.now (Constrain c.in-Constrain.kind arguments) c.args.store.now c.constrain.result c.constrain.new.store)
    c.as_slice.ensures (c.constrain.ensures.takes c.args.model.now))

pub returns-in-Relate-clause-takes : goal.returns-in-Relate-clause-takes
returns-in-Relate-clause-takes c =
    subst (λ (d : Decision). TakesUp c.args.model.now d c.args.store.now c.relate.result c.relate.new.store) (sym c.in-Relate.is) (c.relate.ensures.takes c.args.model.now)

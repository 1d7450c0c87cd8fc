use Rattle.std.proofs.Common.{◌≡◌, w32, to_z, of_z, sym, ap, ◌∙◌, subst, arith}
use Rattle.std.proofs.lemmas.Int.{ints}
use Rattle.model_core.specs.declared.decision.Decision.{Decision}
use Rattle.model_core.specs.declared.decision.Decision.TheVariants.{Specify}
use Rattle.model_core.specs.Content.{shown}
use Rattle.db_store.specs.Stores.{snapshot_of, named_content}
use Rattle.db_refusals.specs.Reasons.{IsFirstReason}
use Rattle.db_refusals.proofs.Resting.{rest_told}
use Rattle.db_refusals.proofs.judge.first_reason.Goals as goal

pub against_specify-requires : goal.against_specify-requires
against_specify-requires c = (rest_told c.args.model.now c.args.decisions.now c.args.store.now.net.tables (snapshot_of c.args.store.now) (c.settled_lists_decide_once.ensures c.args.model.now c.args.decisions.now c.requires.settled) c.requires.rest)

pub returns-in-Specify : goal.returns-in-Specify
returns-in-Specify c =
    let cast : to_z w32 (of_z w32 c.in-Specify.value) ≡ c.in-Specify.value = omega (arith, ints) in
    subst (λ (decision : Decision). IsFirstReason c.args.model.now c.args.decisions.now (shown (named_content (snapshot_of c.args.store.now))) decision c.against_specify.result)
    (ap (Specify c.in-Specify.name) cast ∙ sym c.in-Specify.is) c.against_specify.ensures

pub returns-in-Activate : goal.returns-in-Activate
returns-in-Activate c =
    subst (λ (decision : Decision). IsFirstReason c.args.model.now c.args.decisions.now (shown (named_content (snapshot_of c.args.store.now))) decision c.against_activate.result) (sym c.in-Activate.is)
    (c.against_activate.ensures c.args.model.now c.args.decisions.now (rest_told c.args.model.now c.args.decisions.now c.args.store.now.net.tables (snapshot_of c.args.store.now) (c.settled_lists_decide_once.ensures c.args.model.now c.args.decisions.now c.requires.settled) c.requires.rest))

pub returns-in-Merge : goal.returns-in-Merge
returns-in-Merge c =
    subst (λ (decision : Decision). IsFirstReason c.args.model.now c.args.decisions.now (shown (named_content (snapshot_of c.args.store.now))) decision c.against_merge.result) (sym c.in-Merge.is)
    (c.against_merge.ensures c.args.decisions.now (rest_told c.args.model.now c.args.decisions.now c.args.store.now.net.tables (snapshot_of c.args.store.now) (c.settled_lists_decide_once.ensures c.args.model.now c.args.decisions.now c.requires.settled) c.requires.rest))

pub returns-in-Reject : goal.returns-in-Reject
returns-in-Reject c =
    subst (λ (decision : Decision). IsFirstReason c.args.model.now c.args.decisions.now (shown (named_content (snapshot_of c.args.store.now))) decision c.against_reject.result) (sym c.in-Reject.is)
    (c.against_reject.ensures c.args.decisions.now (rest_told c.args.model.now c.args.decisions.now c.args.store.now.net.tables (snapshot_of c.args.store.now) (c.settled_lists_decide_once.ensures c.args.model.now c.args.decisions.now c.requires.settled) c.requires.rest))

pub returns-in-Order : goal.returns-in-Order
returns-in-Order c =
    subst (λ (decision : Decision). IsFirstReason c.args.model.now c.args.decisions.now (shown (named_content (snapshot_of c.args.store.now))) decision c.against_order.result) (sym c.in-Order.is)
    (c.against_order.ensures c.args.model.now (rest_told c.args.model.now c.args.decisions.now c.args.store.now.net.tables (snapshot_of c.args.store.now) (c.settled_lists_decide_once.ensures c.args.model.now c.args.decisions.now c.requires.settled) c.requires.rest))

pub against_constrain-requires-clause-told : goal.against_constrain-requires-clause-told
against_constrain-requires-clause-told c =
    rest_told c.args.model.now c.args.decisions.now c.args.store.now.net.tables (snapshot_of c.args.store.now) (c.settled_lists_decide_once.ensures c.args.model.now c.args.decisions.now c.requires.settled) c.requires.rest

pub against_relate-requires-clause-told : goal.against_relate-requires-clause-told
against_relate-requires-clause-told c =
    rest_told c.args.model.now c.args.decisions.now c.args.store.now.net.tables (snapshot_of c.args.store.now) (c.settled_lists_decide_once.ensures c.args.model.now c.args.decisions.now c.requires.settled) c.requires.rest

use Rattle.std.proofs.Common.{◌≡◌, w32, to_z, of_z, sym, subst, arith}
use Rattle.std.proofs.lemmas.Int.{ints}
use Rattle.plan_defs.specs.Refusals.{IsDeclared}
use Rattle.model_core.specs.declared.decision.Decision.TheVariants.{Specify}
use Rattle.model_core.specs.Content.{shown}
use Rattle.db_store.specs.Stores.{snapshot_of, named_content}
use Rattle.token_store.specs.Tokens.{tokens_now}
use Rattle.db_refusals.proofs.First.{unknown_first, decided_first, specify_undeclared, specify_inactive, specify_free}
use Rattle.db_refusals.proofs.Told.{isnt, is_so}
use Rattle.db_refusals.proofs.judge.against_specify.Goals as goal

pub returns-then-not-has_variable : goal.returns-then-not-has_variable
returns-then-not-has_variable c =
    unknown_first c.args.model.now c.args.decisions.now (shown (named_content (snapshot_of c.args.store.now))) (Specify c.args.name.now c.args.value)
    (λ known. c.if-not-has_variable.ensures known.0 known.1)

pub returns-then-is_specified : goal.returns-then-is_specified
returns-then-is_specified c =
    decided_first c.args.model.now c.args.decisions.now (shown (named_content (snapshot_of c.args.store.now))) (Specify c.args.name.now c.args.value)
    c.if-not-has_variable.ensures (λ h. h) c.if-is_specified.ensures

pub returns-then-not-is_declared : goal.returns-then-not-is_declared
returns-then-not-is_declared c =
    let cast : to_z w32 (of_z w32 c.args.value) ≡ c.args.value = omega (arith, ints) in
    specify_undeclared c.args.model.now c.args.decisions.now (shown (named_content (snapshot_of c.args.store.now))) c.args.name.now c.args.value
    c.if-not-has_variable.ensures (λ already. c.if-is_specified.ensures already.0 already.1)
    (λ declared. c.if-not-is_declared.ensures (subst (IsDeclared c.args.model.now c.args.name.now) (sym cast) declared))

pub returns-then-not-variable_counts : goal.returns-then-not-variable_counts
returns-then-not-variable_counts c =
    let cast : to_z w32 (of_z w32 c.args.value) ≡ c.args.value = omega (arith, ints) in
    specify_inactive c.args.model.now c.args.decisions.now (shown (named_content (snapshot_of c.args.store.now))) c.args.name.now c.args.value
    c.if-not-has_variable.ensures (λ already. c.if-is_specified.ensures already.0 already.1)
    (subst (IsDeclared c.args.model.now c.args.name.now) cast c.if-not-is_declared.ensures)
    (isnt (c.if-not-variable_counts.ensures c.args.decisions.now (snapshot_of c.args.store.now) (λ i. tokens_now (sym c.tokens.ensures i)) c.requires))

pub returns : goal.returns
returns c =
    let cast : to_z w32 (of_z w32 c.args.value) ≡ c.args.value = omega (arith, ints) in
    specify_free c.args.model.now c.args.decisions.now (shown (named_content (snapshot_of c.args.store.now))) c.args.name.now c.args.value
    c.if-not-has_variable.ensures (λ already. c.if-is_specified.ensures already.0 already.1)
    (subst (IsDeclared c.args.model.now c.args.name.now) cast c.if-not-is_declared.ensures)
    (λ needs. needs (is_so (c.if-not-variable_counts.ensures c.args.decisions.now (snapshot_of c.args.store.now) (λ i. tokens_now (sym c.tokens.ensures i)) c.requires)))

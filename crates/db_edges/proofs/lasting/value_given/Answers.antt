use Rattle.std.proofs.Common.{◌≡◌, ℤ, Some, None, refl, sym, ap, ◌∙◌, subst, arith}
use Rattle.std.specs.Prelude.{slice_get, Contains}
use Rattle.eu_name.specs.declared.name.VarName.TheVariants.{Token}
use Rattle.model_core.specs.declared.decision.Decision.TheVariants.{Specify}
use Rattle.eu_name.proofs.Members.{contains_from_get, get_from_contains, get_below, get_same}
use Rattle.plan_values.proofs.Matching.{read_item}
use Rattle.eu_name.proofs.Places.{up_to}
use Rattle.db_edges.proofs.Spans.{kept_value}
use Rattle.db_edges.proofs.lasting.value_given.Goals as goal

pub loop-decision-init : goal.loop-decision-init
loop-decision-init c = λ n below. absurd (omega (arith, below))

pub returns-in-Some : goal.returns-in-Some
returns-in-Some c =
    let decisions = c.args.decisions.now in
    let name = Token c.args.token.now c.args.part in
    let at = read_item decisions c.loop-decision.decision-index c.decision-item.result c.loop-decision-test.true c.decision-item.is in
    let there = contains_from_get decisions c.loop-decision.decision-index (Specify name c.in-Some.value)
    (at ∙ ap (λ d. Some d) ((c.in-Some.ensures c.in-Some.value).0 refl)) in
    subst (λ v. Contains decisions (Specify name v)) (sym (kept_value c.in-Some.value (c.requires name c.in-Some.value there))) there

pub loop-decision-preserved : goal.loop-decision-preserved
loop-decision-preserved c =
    let at = read_item c.args.decisions.now c.loop-decision.decision-index c.decision-item.result c.loop-decision-test.true c.decision-item.is in
    up_to (λ n. (value : ℤ) → slice_get c.args.decisions.now n ≡ Some (Specify (Token c.args.token.now c.args.part) value) → ⊥) c.loop-decision.decision-index c.loop-decision.invariant
    (λ value there.
    let same = get_same c.args.decisions.now c.loop-decision.decision-index c.decision-item.result (Specify (Token c.args.token.now c.args.part) value) at there in
    let e : None ≡ Some value = (c.in_default.ensures value).1 same in cc)

pub returns : goal.returns
returns c = λ value there.
    let gives = Specify (Token c.args.token.now c.args.part) value in
    let found = get_from_contains c.args.decisions.now gives there in
    let below = get_below c.args.decisions.now found.0 gives found.1 in
    c.loop-decision.invariant found.0 (omega (arith, below, c.loop-decision-test.false)) value found.1

use Rattle.std.proofs.Common.{◌≡◌, Some, None, refl, ap, ◌∙◌, arith}
use Rattle.std.specs.Prelude.{slice_get}
use Rattle.eu_name.specs.declared.name.TokenName.{TokenName as Name}
use Rattle.model_core.specs.declared.decision.Decision.TheVariants.{Merge}
use Rattle.eu_name.proofs.Members.{contains_from_get, get_from_contains, get_below, get_same}
use Rattle.plan_values.proofs.Matching.{read_item}
use Rattle.eu_name.proofs.Places.{up_to}
use Rattle.db_edges.proofs.points.merged_into.Goals as goal

pub loop-decision-init : goal.loop-decision-init
loop-decision-init c = λ n below. absurd (omega (arith, below))

pub returns-in-Some : goal.returns-in-Some
returns-in-Some c =
    let merge = Merge c.args.token.now c.in-Some.target.now in
    let at = read_item c.args.decisions.now c.loop-decision.decision-index c.decision-item.result c.loop-decision-test.true c.decision-item.is in
    contains_from_get c.args.decisions.now c.loop-decision.decision-index merge
    (at ∙ ap (λ d. Some d) ((c.in-Some.ensures c.in-Some.target.now).0 refl))

pub loop-decision-preserved : goal.loop-decision-preserved
loop-decision-preserved c =
    let at = read_item c.args.decisions.now c.loop-decision.decision-index c.decision-item.result c.loop-decision-test.true c.decision-item.is in
    up_to (λ n. (target : Name) → slice_get c.args.decisions.now n ≡ Some (Merge c.args.token.now target) → ⊥) c.loop-decision.decision-index c.loop-decision.invariant
    (λ target there.
    let same = get_same c.args.decisions.now c.loop-decision.decision-index c.decision-item.result (Merge c.args.token.now target) at there in
    let e : None ≡ Some target = (c.in_default.ensures target).1 same in cc)

pub returns : goal.returns
returns c = λ target there.
    let found = get_from_contains c.args.decisions.now (Merge c.args.token.now target) there in
    let below = get_below c.args.decisions.now found.0 (Merge c.args.token.now target) found.1 in
    c.loop-decision.invariant found.0 (omega (arith, below, c.loop-decision-test.false)) target found.1

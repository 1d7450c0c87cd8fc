use Rattle.std.proofs.Common.{◌≡◌, ℤ, Some, None, refl, sym, ◌∙◌, subst}
use Rattle.domain_core.specs.Domain.{IsValue}
use Rattle.domain_core.proofs.Words.{least_is_value, greatest_is_value}
use Rattle.eu_name.specs.declared.name.Part.TheVariants.{Duration}
use Rattle.eu_name.specs.declared.name.VarName.TheVariants.{Token}
use Rattle.model_core.specs.declared.decision.Decision.TheVariants.{Specify}
use Rattle.eu_name.proofs.Members.{contains_from_get}
use Rattle.db_edges.specs.Edges.{IsLastOf}
use Rattle.db_edges.proofs.Spans.{kept_value, last_is_value, lasts_as_said, lasts_as_left}
use Rattle.db_edges.proofs.lasting.durations.Goals as goal

pub returns-in-Some-clause-lasts : goal.returns-in-Some-clause-lasts
returns-in-Some-clause-lasts g c =
    let last = (c.in-Some.ensures c.in-Some.value).0 refl in
    let kept = kept_value c.in-Some.value (last_is_value c.args.decisions.now c.args.token.now c.in-Some.value c.requires.values last) in
    lasts_as_said (g.V.View.state c.args.view.now) c.args.decisions.now c.args.token.now _ _ c.in-Some.value last kept kept

pub returns-in-Some-clause-low : goal.returns-in-Some-clause-low
returns-in-Some-clause-low g c =
    let last = (c.in-Some.ensures c.in-Some.value).0 refl in
    let is = last_is_value c.args.decisions.now c.args.token.now c.in-Some.value c.requires.values last in
    subst IsValue (sym (kept_value c.in-Some.value is)) is

pub returns-in-Some-clause-high : goal.returns-in-Some-clause-high
returns-in-Some-clause-high g c =
    let last = (c.in-Some.ensures c.in-Some.value).0 refl in
    let is = last_is_value c.args.decisions.now c.args.token.now c.in-Some.value c.requires.values last in
    subst IsValue (sym (kept_value c.in-Some.value is)) is

pub unreachable-requires : goal.unreachable-requires
unreachable-requires g c =
    let has = c.requires.have c.args.token.now (contains_from_get _ c.args.place c.args.token.now c.requires.there) in
    c.in-None.ensures c.args.token.now has.0 c.requires.there has.1

pub returns-clause-lasts : goal.returns-clause-lasts
returns-clause-lasts g c =
    let found = c.in-Some-domain_at.ensures in
    let domain = c.in-Some-domain_at.domain.now in
    let none : (value : ℤ) → IsLastOf c.args.decisions.now (Specify (Token c.args.token.now Duration) value) → ⊥ =
    λ value last. (let e : None ≡ Some value = (c.in_default.ensures value).1 last in cc) in
    let low = subst IsValue (sym c.lo.ensures.least) (least_is_value domain c.lo.ensures.domain) in
    let high = subst IsValue (sym c.hi.ensures.greatest) (greatest_is_value domain c.hi.ensures.domain) in
    lasts_as_left (g.V.View.state c.args.view.now) c.args.decisions.now c.args.token.now _ _ c.args.place found.0 domain none c.requires.there found.1 found.2
    (kept_value c.lo.result low ∙ c.lo.ensures.least) (kept_value c.hi.result high ∙ c.hi.ensures.greatest)

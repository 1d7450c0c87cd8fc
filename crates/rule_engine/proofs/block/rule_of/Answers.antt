-- The steps of the token's name lead to its predicate, and that has one rule of the number.
use Rattle.std.proofs.Common.{◌≡◌, subst}
use Rattle.model_core.specs.Tokens.{HasRule}
use Rattle.model_core.proofs.Leading.{token_on, on_once}
use Rattle.model_core.proofs.Rules.{has_rule_once}
use Rattle.rule_engine.proofs.block.rule_of.Goals as goal

pub unreachable-requires : goal.unreachable-requires
unreachable-requires c =
    let slot = c.requires.0 in
    c.in_default.ensures slot.pred
    (token_on c.args.model.now c.args.token.now slot c.as_slice.result.now c.index-as_slice-token.result c.as_slice-2.result.now c.requires.1 c.as_slice.ensures c.index-as_slice-token.is c.as_slice-2.ensures)

pub unreachable-requires-in_default-rule_of : goal.unreachable-requires-in_default-rule_of
unreachable-requires-in_default-rule_of c =
    let slot = c.requires.0 in
    let on = token_on c.args.model.now c.args.token.now slot c.as_slice.result.now c.index-as_slice-token.result c.as_slice-2.result.now c.requires.1 c.as_slice.ensures c.index-as_slice-token.is c.as_slice-2.ensures in
    let same : slot.pred ≡ c.in-Some.pred = on_once c.args.model.now c.index-as_slice-token.result.pred slot.pred c.in-Some.pred c.as_slice-2.result.now on c.in-Some.ensures in
    c.in_default-rule_of.ensures c.requires.2.0 (subst (λ p. HasRule c.args.model.now p c.args.number c.requires.2.0) same c.requires.2.1)

pub returns : goal.returns
returns c = λ slot rule has has_rule.
    let on = token_on c.args.model.now c.args.token.now slot c.as_slice.result.now c.index-as_slice-token.result c.as_slice-2.result.now has c.as_slice.ensures c.index-as_slice-token.is c.as_slice-2.ensures in
    let same : slot.pred ≡ c.in-Some.pred = on_once c.args.model.now c.index-as_slice-token.result.pred slot.pred c.in-Some.pred c.as_slice-2.result.now on c.in-Some.ensures in
    has_rule_once c.args.model.now c.in-Some.pred c.args.number c.in-Some-rule_of.rule.now rule c.in-Some-rule_of.ensures
    (subst (λ p. HasRule c.args.model.now p c.args.number rule) same has_rule)

use Rattle.std.proofs.Common.{◌≡◌, w32, to_z, of_z, sym, ◌∙◌, subst, arith}
use Rattle.std.proofs.lemmas.Int.{ints}
use Rattle.domain_core.specs.Domain.{Has}
use Rattle.narrow_core.specs.Sides.{side_of, Pairs}
use Rattle.narrow_core.proofs.Spanning.{spans_skip, spans_more}
use Rattle.narrow_core.proofs.field.spread.Goals as goal

pub returns : goal.returns
returns c = λ before spans.
    spans_more before c.args.entry.now c.args.side c.args.own.now c.args.other.now c.args.span (to_z w32 (of_z w32 c.at-value.result)) c.widened.result
    (c.has.ensures.0 c.if-not-has.false) (c.pairs.ensures.0 c.if-not-pairs.false) c.widened.ensures spans

pub returns-then-not-has : goal.returns-then-not-has
returns-then-not-has c = λ before spans.
    let z = to_z w32 (of_z w32 c.at-value.result) in
    let is : side_of c.args.entry.now c.args.side ≡ z = omega (arith, ints, c.at-value.ensures) in
    spans_skip before c.args.entry.now c.args.side c.args.own.now c.args.other.now c.args.span
    (λ value has pairs. let held = c.has.ensures.1 (subst (Has c.args.own.now) (sym pairs.0 ∙ is) has) in absurd (cc (held, c.if-not-has.true))) spans

pub returns-then-not-pairs : goal.returns-then-not-pairs
returns-then-not-pairs c = λ before spans.
    let z = to_z w32 (of_z w32 c.at-value.result) in
    let is : side_of c.args.entry.now c.args.side ≡ z = omega (arith, ints, c.at-value.ensures) in
    spans_skip before c.args.entry.now c.args.side c.args.own.now c.args.other.now c.args.span
    (λ value has pairs. let paired = c.pairs.ensures.1 (subst (Pairs c.args.entry.now c.args.side c.args.other.now) (sym pairs.0 ∙ is) pairs) in absurd (cc (paired, c.if-not-pairs.true))) spans

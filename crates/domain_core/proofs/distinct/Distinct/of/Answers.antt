use Rattle.std.proofs.Common.{◌≡◌, get_or, pos, ◌∙◌, w32, to_z, of_z, arith}
use Rattle.std.proofs.lemmas.Int.{ints}
use Rattle.std.proofs.lemmas.List.{get_or_default}
use Rattle.domain_core.proofs.Inserting.{too_many, one_more}
use Rattle.domain_core.proofs.distinct.Distinct.of.Goals as goal

pub returns-then-not-insert : goal.returns-then-not-insert
returns-then-not-insert c =
    let values = c.args.values.now in
    let i = c.loop-value.value-index in
    let x = to_z w32 (of_z w32 (get_or values i (pos 0))) in
    let e : x ≡ get_or values i (pos 0) = omega (arith, ints) in
    too_many values c.loop-value.distinct i x c.loop-value-test.true (e ∙ get_or_default values i (pos 0) x c.loop-value-test.true) c.loop-value.invariant c.if-not-insert.ensures.inserts.0

pub loop-value-preserved : goal.loop-value-preserved
loop-value-preserved c =
    let values = c.args.values.now in
    let i = c.loop-value.value-index in
    let x = to_z w32 (of_z w32 (get_or values i (pos 0))) in
    let e : x ≡ get_or values i (pos 0) = omega (arith, ints) in
    one_more values c.loop-value.distinct i x c.loop-value-test.true (e ∙ get_or_default values i (pos 0) x c.loop-value-test.true) c.loop-value.invariant c.insert.new.self c.if-not-insert.ensures.inserts c.if-not-insert.ensures.few

use Rattle.std.proofs.Common.{◌≡◌, ◌+ℤ◌, w64, to_z, of_z, length, arith}
use Rattle.std.proofs.lemmas.Int.{ints}
use Rattle.std.proofs.lemmas.List.Elements.{All-push}
use Rattle.temporal_core.specs.Schedule.{KeepsEdge}
use Rattle.temporal_core.specs.Satisfied.{value_at}
use Rattle.temporal_core.proofs.Satisfying.{satisfied_already, cycle_alone, kept_or_cycle, satisfied_too}
use Rattle.temporal_core.proofs.satisfied.keep_too.Goals as goal

pub overflow_add-raised : goal.overflow_add-raised
overflow_add-raised c =
    let low = c.requires.values.low c.args.edge.from in
    let high = c.requires.values.high c.args.edge.from in
    omega (arith, ints)

pub returns-then-raised-values-clause-kept : goal.returns-then-raised-values-clause-kept
returns-then-raised-values-clause-kept c =
    let old = c.args.values.now in
    let edge = c.args.edge in
    let low = c.requires.values.low edge.from in
    let high = c.requires.values.high edge.from in
    let end_low = c.requires.values.low edge.to in
    let end_high = c.requires.values.high edge.to in
    All-push (KeepsEdge (value_at old)) c.args.graph.now.edges.items edge c.requires.values.keeps (let kept = c.if-raised-values.true in omega (arith, ints))

pub returns-then-raised-values-clause-satisfied : goal.returns-then-raised-values-clause-satisfied
returns-then-raised-values-clause-satisfied c = λ is satisfied.
    let old = c.args.values.now in
    let edge = c.args.edge in
    let low = c.requires.values.low edge.from in
    let high = c.requires.values.high edge.from in
    let end_low = c.requires.values.low edge.to in
    let end_high = c.requires.values.high edge.to in
    satisfied_already (length old) c.args.graph.now.edges.items edge old satisfied (let kept = c.if-raised-values.true in omega (arith, ints))

pub returns-then-from-to-clause-kept : goal.returns-then-from-to-clause-kept
returns-then-from-to-clause-kept c =
    let old = c.args.values.now in
    let edge = c.args.edge in
    let low = c.requires.values.low edge.from in
    let high = c.requires.values.high edge.from in
    let end_low = c.requires.values.low edge.to in
    let end_high = c.requires.values.high edge.to in
    cycle_alone c.args.graph.now.edges.items edge old c.if-from-to.true (let more = c.if-raised-values.false in omega (arith, ints))

pub raise-requires-clause-high : goal.raise-requires-clause-high
raise-requires-clause-high c = λ point. let high = c.requires.values.high point in omega (arith, ints)

pub raise-requires-clause-modest : goal.raise-requires-clause-modest
raise-requires-clause-modest c =
    let low = c.requires.values.low c.args.edge.from in
    let high = c.requires.values.high c.args.edge.from in
    omega (arith, ints)

pub returns-clause-kept : goal.returns-clause-kept
returns-clause-kept c =
    let old = c.args.values.now in
    let edge = c.args.edge in
    let low = c.requires.values.low edge.from in
    let high = c.requires.values.high edge.from in
    let raised : to_z w64 (of_z w64 (to_z w64 (of_z w64 (value_at old edge.from)) +ℤ to_z w64 (of_z w64 c.from.result))) ≡ value_at old edge.from +ℤ edge.gap = omega (arith, ints) in
    kept_or_cycle c.args.graph.now.edges.items edge old _ raised c.raise.new.values c.in_ok-done.done c.in_ok-done.ensures

pub returns-clause-satisfied : goal.returns-clause-satisfied
returns-clause-satisfied c = λ is satisfied.
    let old = c.args.values.now in
    let edge = c.args.edge in
    let low = c.requires.values.low edge.from in
    let high = c.requires.values.high edge.from in
    let raised : to_z w64 (of_z w64 (to_z w64 (of_z w64 (value_at old edge.from)) +ℤ to_z w64 (of_z w64 c.from.result))) ≡ value_at old edge.from +ℤ edge.gap = omega (arith, ints) in
    satisfied_too (length old) c.args.graph.now.edges.items edge old satisfied _ raised c.requires.edge.from c.raise.new.values (omega arith) c.in_ok-done.done is c.in_ok-done.ensures

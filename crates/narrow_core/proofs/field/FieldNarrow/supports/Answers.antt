use Rattle.std.proofs.Common.{arith}
use Rattle.std.proofs.lemmas.Bool.{ltb-true, ltb-false}
use Rattle.domain_core.specs.Consistency.{Values}
use Rattle.domain_core.specs.Constraints.{IsFieldOf}
use Rattle.narrow_core.specs.Meanings.{IsInTable}
use Rattle.narrow_core.specs.Sides.{IsPaired}
use Rattle.narrow_core.specs.declared.field.Side.TheVariants.{Object, Value}
use Rattle.narrow_core.proofs.Spanning.{objects_paired, values_paired}
use Rattle.narrow_core.proofs.Supports.{tests_first_of_two, tests_second_of_two}
use Rattle.narrow_core.proofs.field.FieldNarrow.supports.Goals as goal

pub returns-in-empty-len1 : goal.returns-in-empty-len1
returns-in-empty-len1 c =
    let entries = c.args.self.now.entries in
    let values = c.values-item.result in
    tests_first_of_two Values (IsFieldOf (IsInTable entries)) (IsPaired entries Object values.now) c.args.before.now c.args.after.now values c.args.own.now c.are_paired.result
    (omega (arith, ltb-true, ltb-false)) (omega (arith, ltb-true, ltb-false)) c.values-item.is (objects_paired entries values.now) c.are_paired.ensures

pub returns-in-len1-empty : goal.returns-in-len1-empty
returns-in-len1-empty c =
    let entries = c.args.self.now.entries in
    let objects = c.objects-item.result in
    let kept = c.are_paired-in-len1-empty in
    tests_second_of_two Values (IsFieldOf (IsInTable entries)) (IsPaired entries Value objects.now) c.args.before.now c.args.after.now objects c.args.own.now kept.result
    (omega (arith, ltb-true, ltb-false)) (omega (arith, ltb-true, ltb-false)) c.objects-item.is (values_paired entries objects.now) kept.ensures

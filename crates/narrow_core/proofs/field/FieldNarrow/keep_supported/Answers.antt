use Rattle.std.proofs.Common.{arith}
use Rattle.std.proofs.lemmas.Bool.{ltb-true, ltb-false}
use Rattle.domain_core.specs.Consistency.{Values}
use Rattle.domain_core.specs.Constraints.{IsFieldOf}
use Rattle.narrow_core.specs.Meanings.{IsInTable}
use Rattle.narrow_core.specs.Sides.{IsPaired}
use Rattle.narrow_core.specs.declared.field.Side.TheVariants.{Object, Value}
use Rattle.narrow_core.proofs.Spanning.{objects_paired, values_paired}
use Rattle.narrow_core.proofs.Supports.{keeps_first_of_two, keeps_second_of_two}
use Rattle.narrow_core.proofs.field.FieldNarrow.keep_supported.Goals as goal

pub returns-in-empty-len1-clause-kept : goal.returns-in-empty-len1-clause-kept
returns-in-empty-len1-clause-kept c =
    let entries = c.args.self.now.entries in
    let values = c.values-item.result in
    keeps_first_of_two Values (IsFieldOf (IsInTable entries)) (IsPaired entries Object values.now) c.args.before.now c.args.after.now values c.args.own.now c.keep_paired.new.own c.keep_paired.result
    (omega (arith, ltb-true, ltb-false)) (omega (arith, ltb-true, ltb-false)) c.values-item.is (objects_paired entries values.now) c.keep_paired.ensures.kept

pub returns-in-len1-empty-clause-kept : goal.returns-in-len1-empty-clause-kept
returns-in-len1-empty-clause-kept c =
    let entries = c.args.self.now.entries in
    let objects = c.objects-item.result in
    let kept = c.keep_paired-in-len1-empty in
    keeps_second_of_two Values (IsFieldOf (IsInTable entries)) (IsPaired entries Value objects.now) c.args.before.now c.args.after.now objects c.args.own.now kept.new.own kept.result
    (omega (arith, ltb-true, ltb-false)) (omega (arith, ltb-true, ltb-false)) c.objects-item.is (values_paired entries objects.now) kept.ensures.kept

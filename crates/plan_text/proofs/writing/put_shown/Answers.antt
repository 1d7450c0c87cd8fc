use Rattle.std.proofs.Common.{w32, to_z, of_z, arith}
use Rattle.std.proofs.lemmas.Int.{ints}
use Rattle.plan_text.proofs.Putting.{number_put, decimal_put, truth_put, member_text_put, object_text_put, member_of, object_of}
use Rattle.plan_text.proofs.writing.put_shown.Goals as goal

pub member_text-requires : goal.member_text-requires
member_text-requires c = member_of c.args.model.now c.args.kind c.in-Enum.number c.args.value c.requires.lawful c.in-Enum.is c.requires.value

pub object_text-requires : goal.object_text-requires
object_text-requires c = object_of c.args.model.now c.args.kind c.args.value c.requires.lawful c.in-Object.is c.requires.value

pub returns-in-Int : goal.returns-in-Int
returns-in-Int c =
    number_put c.args.model.now c.args.kind c.args.value (to_z w32 (of_z w32 c.args.value)) c.args.gap.now c.args.out.now.items c.put_number.new.out.items c.put_number.result (omega (arith, ints)) c.in-Int.is c.requires.value c.put_number.ensures

pub returns-in-Float : goal.returns-in-Float
returns-in-Float c =
    decimal_put c.args.model.now c.args.kind c.args.value (to_z w32 (of_z w32 c.args.value)) c.args.gap.now c.args.out.now.items c.put_decimal.new.out.items c.put_decimal.result (omega (arith, ints)) c.in-Float.is c.requires.value c.put_decimal.ensures

pub returns-in-Bool : goal.returns-in-Bool
returns-in-Bool c =
    truth_put c.args.model.now c.args.kind c.args.value (to_z w32 (of_z w32 c.args.value)) c.truth_text.result.now c.args.gap.now c.args.out.now.items c.put_word.new.out.items c.put_word.result
    (omega (arith, ints)) c.in-Bool.is c.requires.value c.truth_text.ensures.zero c.truth_text.ensures.one c.put_word.ensures

pub returns-in-Enum : goal.returns-in-Enum
returns-in-Enum c =
    member_text_put c.args.model.now c.args.kind c.in-Enum.number c.args.value (to_z w32 (of_z w32 c.args.value)) c.member_text.result.now c.args.gap.now c.args.out.now.items c.put_word-in-Enum.new.out.items c.put_word-in-Enum.result
    (omega (arith, ints)) c.in-Enum.is c.member_text.ensures c.put_word-in-Enum.ensures

pub returns-in-Object : goal.returns-in-Object
returns-in-Object c =
    object_text_put c.args.model.now c.args.kind c.args.value (to_z w32 (of_z w32 c.args.value)) c.object_text.result.now c.args.gap.now c.args.out.now.items c.put_word-in-Object.new.out.items c.put_word-in-Object.result
    (omega (arith, ints)) c.in-Object.is c.object_text.ensures c.put_word-in-Object.ensures

use Rattle.std.proofs.Common.{refl}
use Rattle.plan_resolve.proofs.Valuing.{few_members, few_objects, member_text, object_text}
use Rattle.plan_resolve.proofs.values.value_of.Goals as goal

pub value_at-requires : goal.value_at-requires
value_at-requires c = few_members c.args.model.now c.in-Enum.number c.args.word.now c.member_place.result c.requires c.member_place.ensures

pub returns-in-Enum : goal.returns-in-Enum
returns-in-Enum c = member_text c.args.model.now c.args.kind c.in-Enum.number c.args.word.now c.member_place.result c.value_at.result c.in-Enum.is c.member_place.ensures c.value_at.ensures

pub returns-in-Object : goal.returns-in-Object
returns-in-Object c =
    object_text c.args.model.now c.args.kind c.args.model.now.objects c.args.word.now c.object_named.result c.value_at-in-Object.result c.in-Object.is refl c.object_named.ensures c.value_at-in-Object.ensures

pub value_at-requires-in-Object : goal.value_at-requires-in-Object
value_at-requires-in-Object c = few_objects c.args.model.now c.args.model.now.objects c.args.word.now c.object_named.result c.requires refl c.object_named.ensures

use Rattle.std.proofs.Common.{All, refl}
use Rattle.eu_name.specs.Word.{IsName}
use Rattle.model_core.specs.Naming.{names_of}
use Rattle.model_typing.proofs.Telling.{never, told_as, told_false, told_not}
use Rattle.model_lawful.specs.Classes.{HasLawfulMembers, IsLawfulBeside}
use Rattle.model_lawful.proofs.classes.has_lawful_members.Goals as goal

pub returns-then-not-distinct : goal.returns-then-not-distinct
returns-then-not-distinct c = told_not _ (λ members. told_false c.in_ok-distinct.distinct _ c.if-not-distinct.true c.in_ok-distinct.ensures members.distinct)

pub returns-then-not-is_lawful_beside : goal.returns-then-not-is_lawful_beside
returns-then-not-is_lawful_beside c = told_not _ (λ members.
    never (IsLawfulBeside c.args.model.now c.args.class.now) c.if-not-is_lawful_beside.ensures (record { name = members.name; extends = members.extends; fields = members.fields }))

pub returns : goal.returns
returns c =
    let beside = c.if-not-is_lawful_beside.ensures.0 refl in
    told_as c.has_named_fields.result (All IsName (names_of c.args.class.now.fields)) (HasLawfulMembers c.args.model.now c.args.class.now)
    (λ names. record { name = beside.name; extends = beside.extends; fields = beside.fields; names = names; distinct = c.in_ok-distinct.ensures.0 c.if-not-distinct.false })
    (λ members. members.names) c.has_named_fields.ensures

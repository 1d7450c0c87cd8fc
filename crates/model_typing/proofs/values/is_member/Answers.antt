use Rattle.std.proofs.Common.{◌≡◌, ℤ, w32, to_z, of_z, sym, subst, arith}
use Rattle.std.proofs.lemmas.Int.{ints}
use Rattle.model_core.specs.Kinds.{IsMemberOf}
use Rattle.model_typing.specs.Members.{HasMember}
use Rattle.model_typing.proofs.Telling.{told_as, told_not}
use Rattle.model_typing.proofs.Under.{member_of, of_member}
use Rattle.model_typing.proofs.values.is_member.Goals as goal

pub returns-in-Some : goal.returns-in-Some
returns-in-Some c =
    let cast : to_z w32 (of_z w32 c.args.value) ≡ c.args.value = omega (arith, ints) in
    let has : ℤ → Type 0 = λ v. HasMember c.in-Some.found.now v in
    told_as c.has_member.result (has (to_z w32 (of_z w32 c.args.value))) (IsMemberOf c.args.model.now c.args.number c.args.value)
    (λ h. member_of c.args.model.now c.args.number c.args.value c.in-Some.found.now c.in-Some.ensures (subst has cast h))
    (λ is. subst has (sym cast) (of_member c.args.model.now c.args.number c.args.value c.in-Some.found.now c.in-Some.ensures is))
    c.has_member.ensures

pub returns-in-None : goal.returns-in-None
returns-in-None c = told_not _ (λ is. c.in-None.ensures is.found is.is_enum)

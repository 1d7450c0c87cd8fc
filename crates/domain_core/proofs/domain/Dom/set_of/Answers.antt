use Rattle.std.proofs.Common.{◌<◌, length, Err, refl, sym, ap, ◌∙◌, subst, arith}
use Rattle.std.proofs.lemmas.Bool.Decides.{nat_tests}
use Rattle.std.proofs.lemmas.Result.{err_from_is_err_and}
use Rattle.domain_core.specs.Domain.{AreMembers}
use Rattle.domain_core.specs.Lists.{MakesSet, AreMembersOf}
use Rattle.domain_core.proofs.Inserting.{members_of}
use Rattle.domain_core.proofs.domain.Dom.set_of.Goals as goal

pub returns-in_err-members : goal.returns-in_err-members
returns-in_err-members c =
    let values = c.args.values.now in
    let some : 0 < length values = grind (arith, nat_tests) in
    let answer = err_from_is_err_and c.from_residual.result c.from_residual.ensures.1 in
    subst (MakesSet values) (sym (answer.1 ∙ ap Err answer.2)) (c.in-Some.distinct, members_of values c.in-Some.distinct some c.if-not-are_values.ensures c.in-Some.ensures)

pub invariant_of-result : goal.invariant_of-result
invariant_of-result c =
    let values = c.args.values.now in
    let some : 0 < length values = grind (arith, nat_tests) in
    let list_is = c.in_ok-members.ensures.items ∙ c.as_slice.ensures in
    subst AreMembers (sym list_is) (members_of values c.in-Some.distinct some c.if-not-are_values.ensures c.in-Some.ensures).are

pub returns : goal.returns
returns c =
    let values = c.args.values.now in
    let some : 0 < length values = grind (arith, nat_tests) in
    let list_is = c.in_ok-members.ensures.items ∙ c.as_slice.ensures in
    (c.in_ok-members.members.items, refl, subst (AreMembersOf values) (sym list_is) (members_of values c.in-Some.distinct some c.if-not-are_values.ensures c.in-Some.ensures))

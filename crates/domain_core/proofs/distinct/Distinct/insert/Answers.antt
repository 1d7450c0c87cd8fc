use Rattle.std.proofs.Common.{◌+◌, ◌≤◌, set, take, refl, ◌∙◌, sym, subst, w32, to_z, of_z, arith}
use Rattle.std.proofs.lemmas.Int.{to_z-of_z}
use Rattle.std.proofs.lemmas.List.{length-take-le}
use Rattle.domain_core.specs.Domain.{AreAscending}
use Rattle.domain_core.specs.Lists.{Inserts, IsFull}
use Rattle.domain_core.proofs.Inserting.{shifted, inserts, full_from}
use Rattle.domain_core.proofs.Searching.{absent_in}
use Rattle.domain_core.proofs.distinct.Distinct.insert.Goals as goal

pub returns-then-self-eq-MOST_MEMBERS-clause-inserts : goal.returns-then-self-eq-MOST_MEMBERS-clause-inserts
returns-then-self-eq-MOST_MEMBERS-clause-inserts c =
    let xs = take c.self.inside.count c.self.inside.room in
    let value_is = to_z-of_z w32 c.args.value c.ranges.value in
    let between = absent_in xs xs c.args.value _ _ c.in-Err.place refl value_is c.in-Err.is c.self.invariant.1 c.binary_search.ensures.position in
    let long = length-take-le c.self.inside.count c.self.inside.room (omega (arith, c.self.told, c.self.invariant.0)) in
    (subst (λ list. IsFull list c.args.value) c.self.view_is (full_from xs c.in-Err.place c.args.value c.self.invariant.1 c.in-Err.ensures.bound between (long ∙ c.if-self-eq-MOST_MEMBERS.true)), refl)

pub invariant_of-self : goal.invariant_of-self
invariant_of-self c =
    let count = c.self.inside.count in
    let room = c.self.inside.room in
    let place = c.in-Err.place in
    let xs = take count room in
    let value_is = to_z-of_z w32 c.args.value c.ranges.value in
    let between = absent_in xs xs c.args.value _ _ place refl value_is c.in-Err.is c.self.invariant.1 c.binary_search.ensures.position in
    let long = length-take-le count room (omega (arith, c.self.told, c.self.invariant.0)) in
    let after = c.copy_within.ensures.after in
    let free : count + 1 ≤ 4096 = omega (arith, c.self.invariant.0, c.if-self-eq-MOST_MEMBERS.false) in
    let moved = shifted room count place c.args.value (omega (arith, c.in-Err.ensures.bound, long)) (omega (arith, free, c.self.told)) in
    let list_is = (λ i. take (count + 1) (set (after i) place (value_is i))) ∙ moved in
    (free, subst AreAscending (sym list_is) (inserts xs place c.args.value c.self.invariant.1 c.in-Err.ensures.bound between.below between.above).ascending)

pub returns-clause-inserts : goal.returns-clause-inserts
returns-clause-inserts c =
    let count = c.self.inside.count in
    let room = c.self.inside.room in
    let place = c.in-Err.place in
    let xs = take count room in
    let value_is = to_z-of_z w32 c.args.value c.ranges.value in
    let between = absent_in xs xs c.args.value _ _ place refl value_is c.in-Err.is c.self.invariant.1 c.binary_search.ensures.position in
    let long = length-take-le count room (omega (arith, c.self.told, c.self.invariant.0)) in
    let after = c.copy_within.ensures.after in
    let moved = shifted room count place c.args.value (omega (arith, c.in-Err.ensures.bound, long)) (omega (arith, c.self.invariant.0, c.if-self-eq-MOST_MEMBERS.false, c.self.told)) in
    let list_is = (λ i. take (count + 1) (set (after i) place (value_is i))) ∙ moved in
    subst (λ old. Inserts old c.args.value (take (count + 1) (set c.copy_within.new.self place (to_z w32 (of_z w32 c.args.value))))) c.self.view_is (subst (Inserts xs c.args.value) (sym list_is) (inserts xs place c.args.value c.self.invariant.1 c.in-Err.ensures.bound between.below between.above))

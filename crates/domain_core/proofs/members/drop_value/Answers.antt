use Rattle.std.proofs.Common.{◌≡◌, ◌<◌, length, refl, w32, subst, arith}
use Rattle.std.specs.Prelude.{Contains}
use Rattle.std.specs.List.{remove}
use Rattle.std.proofs.lemmas.Int.{to_z-of_z}
use Rattle.domain_core.proofs.Parts.{length_removed, remove_part, part_smaller, part_members}
use Rattle.domain_core.proofs.Searching.{found_in, absent_in, between_absent}
use Rattle.domain_core.proofs.members.drop_value.Goals as goal

pub returns-in_default-clause-kept : goal.returns-in_default-clause-kept
returns-in_default-clause-kept c =
    let xs = c.args.members.now.items in
    let between = absent_in xs _ c.args.value _ _ c.in_default.field-0 c.as_slice.ensures.value (to_z-of_z w32 c.args.value c.ranges.value) c.in_default.is c.requires.ascending c.binary_search.ensures.position in
    (refl, λ other has same. between_absent xs c.args.value c.in_default.field-0 between (subst (Contains xs) same has))

pub returns-clause-kept : goal.returns-clause-kept
returns-clause-kept c =
    let xs = c.args.members.now.items in
    let place = c.in-Ok.place in
    let within : place < length xs = omega (arith, c.in-Ok.ensures.bound) in
    let at = found_in xs _ c.args.value _ place c.as_slice.ensures.value (to_z-of_z w32 c.args.value c.ranges.value) c.in-Ok.ensures.ok in
    let long = length_removed xs place c.args.value c.requires.ascending within at in
    rw c.remove.ensures.items (part_smaller (λ other. other ≡ c.args.value → ⊥) xs (remove xs place) (remove_part xs place c.args.value c.requires.ascending within at) (omega (arith, long, c.requires.some)) (omega (arith, long)))

pub returns-clause-domain : goal.returns-clause-domain
returns-clause-domain c =
    let xs = c.args.members.now.items in
    let place = c.in-Ok.place in
    let within : place < length xs = omega (arith, c.in-Ok.ensures.bound) in
    let at = found_in xs _ c.args.value _ place c.as_slice.ensures.value (to_z-of_z w32 c.args.value c.ranges.value) c.in-Ok.ensures.ok in
    let long = length_removed xs place c.args.value c.requires.ascending within at in
    rw c.remove.ensures.items (part_members (λ other. other ≡ c.args.value → ⊥) xs (remove xs place) (remove_part xs place c.args.value c.requires.ascending within at) c.requires (omega (arith, long, c.requires.some)))

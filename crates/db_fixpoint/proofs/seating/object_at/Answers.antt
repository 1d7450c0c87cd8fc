use Rattle.std.proofs.Common.{◌≡◌, ◌≤◌, ℕ, Some, pos, length, slice_get, subst, to_z, of_z, w32, arith}
use Rattle.std.specs.Prelude.{MatchOption}
use Rattle.std.proofs.lemmas.Int.{ints}
use Rattle.constraint_net.specs.Networks.{Network}
use Rattle.db_fixpoint.proofs.Seated.{object_told, object_none, object_loose}
use Rattle.db_fixpoint.proofs.seating.object_at.Goals as goal

pub returns-in_default : goal.returns-in_default
returns-in_default c =
    object_none c.args.store.now.net.domains c.args.number (subst (λ (net : Network). length net.domains ≤ c.args.number) c.net.ensures c.in_default.ensures)

pub returns-in_default-single : goal.returns-in_default-single
returns-in_default-single c =
    object_loose c.args.store.now.net.domains c.args.number c.in-Some.domain.now
    (subst (λ (net : Network). slice_get net.domains c.args.number ≡ Some c.in-Some.domain.now) c.net.ensures c.in-Some.ensures) c.in_default-single.ensures.none

pub returns : goal.returns
returns c =
    let value = c.in-Some-single.value in
    let cast : to_z w32 (of_z w32 value) ≡ value = omega (arith, ints) in
    object_told c.args.store.now.net.domains c.args.number c.in-Some.domain.now value c.number_of.result
    (subst (λ (net : Network). slice_get net.domains c.args.number ≡ Some c.in-Some.domain.now) c.net.ensures c.in-Some.ensures) c.in-Some-single.ensures.some
    (subst (λ v. MatchOption c.number_of.result ((object : ℕ) → v ≡ pos object → ⊥) (λ object. v ≡ pos object)) cast c.number_of.ensures)

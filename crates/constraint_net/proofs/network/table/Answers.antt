use Rattle.std.proofs.Common.{◌<◌, ℤ, pos, List, length, sym, ap, subst, arith}
use Rattle.std.proofs.lemmas.Int.{ints}
use Rattle.std.proofs.lemmas.List.{get_or-map, length-map}
use Rattle.narrow_core.specs.declared.field.FieldEntry.{FieldEntry}
use Rattle.narrow_core.specs.Meanings.{IsByObject}
use Rattle.constraint_net.specs.Calls.{IsAscending, given_by}
use Rattle.constraint_net.proofs.network.table.Goals as goal

-- ascending pairs give entries in the order of their objects
given_in_order : (pairs : List (ℤ × ℤ)) → IsAscending pairs → IsByObject (given_by pairs)
given_in_order pairs ascending = λ i j d before within.
    let entry : ℤ × ℤ → FieldEntry = λ pair. record { object = pair.0; value = pair.1 } in
    let none : ℤ × ℤ = (pos 0, pos 0) in
    let below : j < length pairs = omega (arith, length-map pairs entry) in
    let one = ap (λ e. e.object) (get_or-map entry pairs i none d (omega arith)) in
    let other = ap (λ e. e.object) (get_or-map entry pairs j none d below) in
    let less = ascending i j none before below in
    omega (arith, ints, less, one, other)

pub new-requires : goal.new-requires
new-requires c = subst IsByObject (sym c.in_ok-entries.ensures) (given_in_order c.args.pairs.now c.requires)

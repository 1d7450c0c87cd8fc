use Rattle.std.proofs.Common.{◌≡◌, ℕ, Some, take, slice_get}
use Rattle.std.specs.Prelude.{Contains}
use Rattle.eu_name.specs.declared.name.Part.{Part}
use Rattle.db_store.specs.declared.key.VarKey.TheVariants as key
use Rattle.db_decide.proofs.taking.numbers_of.Given as goal

abbrev pub invariant-loop-part : goal.invariant-loop-part
invariant-loop-part l =
    (part : Part) → Contains (take l.part-index l.parts) part → (number : ℕ) → slice_get l.store.keys number ≡ Some (key.Part l.place part) → Contains l.numbers.items number

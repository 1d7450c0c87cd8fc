use Rattle.std.specs.List.{AllWithin}
use Rattle.narrow_core.specs.Sides.{Pairs}
use Rattle.narrow_core.proofs.field.is_paired_along.Given as goal

-- none of the entries that were gone through is a pair
abbrev pub invariant-loop-place : goal.invariant-loop-place
invariant-loop-place l = AllWithin (λ entry. Pairs entry l.fn.side l.fn.other l.fn.value → ⊥) l.fn.entries 0 l.place

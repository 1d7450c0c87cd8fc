-- Going through a rule comes to an end: an entry is no deeper than its block, and a block inside of it is less deep.
use Rattle.std.proofs.Common.{◌≡◌, ℕ, ◌+◌, ◌*◌, ◌<◌, ◌≤◌, List, [], ◌∷◌, length, get_or, refl, sym, subst, arith}
use denote.Param.Weighed.{most, at_most}
use Rattle.model_core.specs.declared.rule.Block.TheDeep.{deep-Entry, size-Entry}
use Rattle.model_core.specs.declared.rule.Entry.{Entry}
use Rattle.model_core.specs.declared.rule.Entry.TheVariants.{Slot, Local, Item, Branch}
use Rattle.model_core.specs.declared.rule.Guard.{Guard}
use Rattle.model_core.specs.declared.rule.Side.{Side}
use Rattle.model_core.specs.declared.rule.Side.TheVariants.{Then, Otherwise}
use Rattle.model_core.specs.Block.{plain_entries}
use Rattle.model_core.specs.Blocks.{chosen}
use Rattle.model_core.specs.Entries.{Entries, size_of}
use Rattle.model_core.specs.Falls.{entries_most_deep}

-- an entry that is read is no deeper than the deepest
pub entry_within : (entries : List Entry) (i : ℕ) (read : Entry) → i < length entries → read ≡ get_or entries i read → size-Entry read ≤ most size-Entry entries
entry_within entries i read within is = subst (λ (e : Entry). size-Entry e ≤ most size-Entry entries) (sym is) (at_most size-Entry entries i read within)

-- an entry is twice as deep as what it holds, and one more
twice_inside : (entry : Entry) → size-Entry entry ≡ 2 * deep-Entry entry + 1
twice_inside (Slot number) = refl
twice_inside (Local number) = refl
twice_inside (Item item) = refl
twice_inside (Branch guard then otherwise) = refl

all_twice_inside : (entries : List Entry) → most size-Entry entries ≤ 2 * most deep-Entry entries + 1
all_twice_inside [] = omega arith
all_twice_inside (entry ∷ more) = omega (arith, twice_inside entry, all_twice_inside more)

no_deeper : (entries : List Entry) → most size-Entry entries ≤ 2 * size_of (plain_entries entries) + 1
no_deeper entries = omega (arith, all_twice_inside entries, entries_most_deep entries)

-- what stands in a block of a branch is less deep than the branch
pub side_within : (guard : Guard) (then otherwise : Entries) (side : Side) (read : Entry) (inside : List Entry) → read ≡ Branch guard then otherwise
    → plain_entries inside ≡ chosen side then otherwise → most size-Entry inside < size-Entry read
side_within guard then otherwise side read inside is same =
    subst (λ (e : Entry). most size-Entry inside < size-Entry e) (sym is) (by side (subst (λ (b : Entries). most size-Entry inside ≤ 2 * size_of b + 1) same (no_deeper inside)))
  where
    by : (side : Side) → most size-Entry inside ≤ 2 * size_of (chosen side then otherwise) + 1 → most size-Entry inside < size-Entry (Branch guard then otherwise)
    by Then less = omega arith
    by Otherwise less = omega arith

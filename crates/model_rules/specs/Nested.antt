-- What stands in the blocks of a rule, by the names that are seen from each block.
use Rattle.std.specs.Prelude.{ℕ, ◌+◌, ◌<◌, ◌≤◌, ◌^◌, ⊤, List, [], ◌∷◌, ◌++◌, length, All, Contains}
use Rattle.model_core.specs.declared.item.Item.{Item}
use Rattle.model_core.specs.declared.item.Item.TheVariants.{Constraint, Relation}
use Rattle.model_core.specs.declared.item.Term.{Term}
use Rattle.model_core.specs.declared.item.Term.TheVariants as terms
use Rattle.model_core.specs.declared.model.Model.{Model}
use Rattle.model_core.specs.declared.rule.Guard.{Guard}
use Rattle.model_core.specs.declared.rule.Guard.TheVariants.{Equal, Differ}
use Rattle.model_core.specs.declared.rule.Rule.{Rule}
use Rattle.model_core.specs.Blocks.{direct}
use Rattle.model_core.specs.Entries.{Entries, NoEntry, WithSlot, WithLocal, WithItem, WithBranch}
use Rattle.model_core.specs.Kinds.{OfRule, AreComparable}
use Rattle.model_core.specs.Lawful.{IsLawfulItem}
use Rattle.model_rules.specs.declared.names.Name.{Name}
use Rattle.model_rules.specs.declared.names.Name.TheVariants as names

-- the slots and locals that stand directly in the block
abbrev pub names_of : Entries → List Name
names_of NoEntry = []
names_of (WithSlot slot more) = names.Slot slot ∷ names_of more
names_of (WithLocal local more) = names.Local local ∷ names_of more
names_of (WithItem item more) = names_of more
names_of (WithBranch guard then otherwise more) = names_of more

-- the term names no slot or local but these
abbrev pub IsTermAmong : List Name → Term → Type 0
IsTermAmong seen (terms.Slot number part) = Contains seen (names.Slot number)
IsTermAmong seen (terms.Local number) = Contains seen (names.Local number)
IsTermAmong seen term = ⊤

-- and neither does the item
abbrev pub IsItemAmong : List Name → Item → Type 0
IsItemAmong seen (Constraint kind arguments) = All (IsTermAmong seen) arguments
IsItemAmong seen (Relation relation slot) = Contains seen (names.Slot slot)

-- the item is lawful, and names no slot or local but these
abbrev pub IsLawfulAmong : Model → ℕ → Rule → List Name → Item → Type 0
IsLawfulAmong model pred rule seen item = IsLawfulItem model (OfRule pred rule) item × IsItemAmong seen item

-- the sides of the guard are of one kind, and name no slot or local but these
abbrev pub AreSides : Model → ℕ → Rule → List Name → List Term → Type 0
AreSides model pred rule seen sides = AreComparable model (OfRule pred rule) sides × All (IsTermAmong seen) sides

-- the guard has such sides
abbrev pub IsGuardAmong : Model → ℕ → Rule → List Name → Guard → Type 0
IsGuardAmong model pred rule seen (Equal left right) = AreSides model pred rule seen (left ∷ right ∷ [])
IsGuardAmong model pred rule seen (Differ left right) = AreSides model pred rule seen (left ∷ right ∷ [])

-- the block is less than 16 deep, and has at most 2 ^ 16 entries
abbrev pub IsSmall : ℕ → Entries → Type 0
IsSmall depth block = (depth < 16) × (length (direct block) ≤ 2 ^ 16)

-- the entries of a block that is so deep and sees these names are lawful, those of the blocks in them too
abbrev pub AreLawfulEntries : Model → ℕ → Rule → ℕ → List Name → Entries → Type 0
AreLawfulEntries model pred rule depth seen NoEntry = ⊤
AreLawfulEntries model pred rule depth seen (WithSlot slot more) =
    (slot < length rule.slots) × AreLawfulEntries model pred rule depth seen more
AreLawfulEntries model pred rule depth seen (WithLocal local more) =
    (local < length rule.locals) × AreLawfulEntries model pred rule depth seen more
AreLawfulEntries model pred rule depth seen (WithItem item more) =
    IsLawfulAmong model pred rule seen item × AreLawfulEntries model pred rule depth seen more
AreLawfulEntries model pred rule depth seen (WithBranch guard then otherwise more) =
    (IsGuardAmong model pred rule seen guard
    × (IsSmall (depth + 1) then × AreLawfulEntries model pred rule (depth + 1) (seen ++ names_of then) then)
    × (IsSmall (depth + 1) otherwise × AreLawfulEntries model pred rule (depth + 1) (seen ++ names_of otherwise) otherwise))
    × AreLawfulEntries model pred rule depth seen more

-- the block that is so deep and stands in blocks with these names is lawful
abbrev pub IsLawfulBlock : Model → ℕ → Rule → ℕ → List Name → Entries → Type 0
IsLawfulBlock model pred rule depth outer block =
    IsSmall depth block × AreLawfulEntries model pred rule depth (outer ++ names_of block) block

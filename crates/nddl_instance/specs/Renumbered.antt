-- Locals that stand for fields, as globals of the problem behind those that are declared.
use Rattle.std.specs.Prelude.{ℕ, ◌+◌, List, [], ◌∷◌, ◌++◌, Option, Some, None, codes, map}
use Rattle.std.specs.List.{filter_map}
use Rattle.std.specs.Fmt.{decimal}
use Rattle.model_core.specs.declared.item.Item.{Item}
use Rattle.model_core.specs.declared.item.Item.TheVariants.{Constraint, Relation}
use Rattle.model_core.specs.declared.item.Term.{Term}
use Rattle.model_core.specs.declared.item.Term.TheVariants as terms
use Rattle.model_core.specs.declared.rule.Entry.{Entry}
use Rattle.model_core.specs.declared.rule.Entry.TheVariants as entries
use Rattle.model_core.specs.declared.variable.VarDecl.{VarDecl}

-- the term, behind so many declared globals
abbrev pub global_term : ℕ → Term → Term
global_term count (terms.Local number) = terms.Global (count + number)
global_term count term = term

-- the item, of such terms
abbrev pub global_item : ℕ → Item → Item
global_item count (Constraint kind some) = Constraint kind (map (global_term count) some)
global_item count (Relation relation slot) = Relation relation slot

-- the item that an entry is
abbrev pub entry_item : ℕ → Entry → Option Item
entry_item count (entries.Item item) = Some (global_item count item)
entry_item count entry = None

-- the items among entries, in their order
abbrev pub global_items : ℕ → List Entry → List Item
global_items count some = filter_map (entry_item count) some

-- the global of this number for a field: its name is `!` and the number
abbrev pub field_global : ℕ → VarDecl → VarDecl
field_global number local = record { name = codes "!" ++ decimal number; kind = local.kind; base = local.base }

-- those for these locals, of which the first has this number
abbrev pub field_globals : ℕ → List VarDecl → List VarDecl
field_globals number [] = []
field_globals number (local ∷ more) = field_global number local ∷ field_globals (number + 1) more

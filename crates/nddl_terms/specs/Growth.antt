-- What a rule has, while its statements are dealt with one after another.
use Rattle.std.specs.Prelude.{ℕ, [], ◌∷◌, ◌++◌, length}
use Rattle.model_core.specs.declared.item.Item.{Item}
use Rattle.model_core.specs.declared.item.Item.TheVariants.{Constraint}
use Rattle.domain_core.specs.declared.kind.Kind.TheVariants.{Field}
use Rattle.model_core.specs.declared.item.Term.{Term}
use Rattle.model_core.specs.declared.item.Term.TheVariants as terms
use Rattle.model_core.specs.declared.rule.Entry.{Entry}
use Rattle.model_core.specs.declared.rule.Entry.TheVariants as entries
use Rattle.model_core.specs.declared.rule.Slot.{Slot}
use Rattle.model_core.specs.declared.variable.VarDecl.{VarDecl}
use Rattle.nddl_terms.specs.declared.growth.Growth.{Growth}
use Rattle.nddl_terms.specs.declared.lexicon.Shape.{Shape}

-- a rule that has nothing
abbrev pub no_growth : Growth
no_growth = record { named = []; asked = []; locals = []; slots = []; entries = [] }

-- an entry more in the block
abbrev pub with_last_entry : Entry → Growth → Growth
with_last_entry entry growth = record growth { entries = growth.entries ++ entry ∷ [] }

-- a constraint or a relation more
abbrev pub with_item : Item → Growth → Growth
with_item item growth = with_last_entry (entries.Item item) growth

-- a local more, which stands in the block
abbrev pub with_next_local : VarDecl → Growth → Growth
with_next_local local growth =
    with_last_entry (entries.Local (length growth.locals)) (record growth { locals = growth.locals ++ local ∷ [] })

-- a slot more, which stands in the block
abbrev pub with_slot : Slot → Growth → Growth
with_slot slot growth =
    with_last_entry (entries.Slot (length growth.slots)) (record growth { slots = growth.slots ++ slot ∷ [] })

-- a local of this shape: it has no name
abbrev pub unnamed : Shape → VarDecl
unnamed shape = record { name = []; kind = shape.kind; base = shape.base }

-- the field of this number of the object that a variable is, as the next local
abbrev pub access : Term → ℕ → Growth → Item
access object field growth = Constraint (Field field) (object ∷ terms.Local (length growth.locals) ∷ [])

-- A field of the object that a variable is: a local of the field's shape, and the item that ties the two.
abbrev pub with_access : Term → ℕ → Shape → Growth → Growth
with_access object field shape growth = with_item (access object field growth) (with_next_local (unnamed shape) growth)

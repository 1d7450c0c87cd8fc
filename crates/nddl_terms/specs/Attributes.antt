-- Fields of a class by their names.
use Rattle.std.specs.Prelude.{ℕ, Bool, List}
use Rattle.std.specs.Str.{bytes_eq}
use Rattle.eu_index.specs.Index.{HasFirsts, Noted}
use Rattle.nddl_terms.specs.declared.lexicon.Attribute.{Attribute}

abbrev pub is_attribute_named : List ℕ → Attribute → Bool
is_attribute_named name attribute = bytes_eq name attribute.name

-- the index has the number of each attribute
abbrev pub AreNumbered : List Attribute → Noted → Type 0
AreNumbered = HasFirsts is_attribute_named

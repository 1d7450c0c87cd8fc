-- That all that is read in the trees of files means something, where nothing is wrong with their types, their rules and the names
-- of their objects and posted tokens.
use Rattle.std.specs.Prelude.{◌≡◌, ℕ, ℤ, true, List, Some, None, All, Contains, slice_get}
use Rattle.model_core.specs.declared.class.Object.{Object}
use Rattle.model_core.specs.declared.variable.ValueKind.TheVariants as value_kinds
use Rattle.nddl_ast.specs.declared.declaration.FileDecls.{FileDecls}
use Rattle.nddl_symbols.specs.declared.declared.Declared.{Declared}
use Rattle.nddl_symbols.specs.declared.declared.Sort.TheVariants as sorts
use Rattle.nddl_symbols.specs.declared.scope.Meaning.{Meaning}
use Rattle.nddl_symbols.specs.Joined.{joined_decls}
use Rattle.nddl_symbols.specs.Names.{scope_names}
use Rattle.nddl_symbols.specs.Scope.{meaning_of}
use Rattle.nddl_typeexpr.specs.declared.kind.TypeKind.TheVariants as kinds
use Rattle.nddl_hierarchy.specs.Facts.{Facts}
use Rattle.nddl_declarations.specs.Classes.{class_meaning_fault}
use Rattle.nddl_declarations.specs.Known.{AreFacts}
use Rattle.nddl_types.specs.declared.table.TypeTable.{TypeTable}
use Rattle.nddl_types.specs.Classes.{class_number}
use Rattle.nddl_types.specs.Table.{IsTable}
use Rattle.nddl_resolve.specs.declared.denoted.Denoted.TheVariants as denoted
use Rattle.nddl_resolve.specs.declared.denoted.TokenSort.{TokenSort}
use Rattle.nddl_resolve.specs.Files.{declared_value, root_value}
use Rattle.nddl_terms.specs.declared.lexicon.Attribute.{Attribute}
use Rattle.nddl_terms.specs.declared.lexicon.Lexicon.{Lexicon}
use Rattle.nddl_terms.specs.Lexicon.{class_objects, shape_fields}
use Rattle.nddl_terms.specs.Paths.{known_value}
use Rattle.nddl_terms.specs.PlainTree.{PlainTree}
use Rattle.nddl_env.specs.Lexicons.{lexicon_of}
use Rattle.nddl_env.specs.Objects.{made_object}
use Rattle.nddl_env.specs.Shapes.{World}
use Rattle.nddl_rules.specs.Told.{AreFileTrees}
use Rattle.nddl_unroll.specs.Counting.{tree_amounts}
use Rattle.nddl_unroll.specs.Exact.{AreCounted, unrolled_amounts, unrolled_limits}
use Rattle.nddl_unroll.specs.Meant.{IsTreeMeant}
use Rattle.nddl_unroll.specs.Weighing.{tree_limits}
use Rattle.nddl_laws.specs.Given.{AreGiven}

-- ---- objects that are made

-- some name means the class
pub record IsNamedClass (facts : Facts) (class : Meaning) : Type 0 where
  pub name : List ℕ
  pub means : meaning_of facts.names name ≡ Some class
  pub right : class_meaning_fault facts.names (Some class) ≡ None

-- a name that is declared as an object of a class that there is stands for one of this class
pub record StandsForObject (world : World) (entry : ℕ) (declared : Declared) : Type 0 where
  pub class : Meaning
  pub is_class : IsNamedClass world.facts class
  pub denotes : declared_value world.facts true declared ≡ denoted.Value (kinds.Object class) true
  pub value : ℤ
  pub made : made_object (slice_get world.named_objects entry) ≡ Some value
  pub inside : Contains (class_objects (lexicon_of world) (class_number world.facts.names class)) value

-- the label of a posted token denotes a token, of a class that there is
pub record DenotesToken (facts : Facts) (declared : Declared) : Type 0 where
  pub token : TokenSort
  pub is_class : IsNamedClass facts token.class
  pub denotes : root_value facts declared ≡ denoted.Token token

-- an object has something in this field of a class of which it is: where the field is one of objects, one of the field's class
pub record HasContent (lexicon : Lexicon) (objects : List Object) (value : ℤ) (number : ℕ) (attribute : Attribute) : Type 0 where
  pub content : ℤ
  pub known : known_value objects value number ≡ Some content
  pub inside : attribute.shape.kind ≡ value_kinds.Object → Contains (class_objects lexicon attribute.shape.class) content

-- The objects of a program are made, and these are they: each name of an object stands for one, each label denotes a token, and
-- each object has something in each of its fields.
pub record AreMade (world : World) (objects : List Object) : Type 0 where
  pub named : (entry : ℕ) (declared : Declared) → slice_get world.facts.names entry ≡ Some declared → declared.sort ≡ sorts.Object
      → StandsForObject world entry declared
  pub posted : (entry : ℕ) (declared : Declared) → slice_get world.facts.names entry ≡ Some declared → declared.sort ≡ sorts.Root
      → DenotesToken world.facts declared
  pub whole : (class number : ℕ) (value : ℤ) (attribute : Attribute) → Contains (class_objects (lexicon_of world) class) value
      → slice_get (shape_fields (lexicon_of world) class) number ≡ Some attribute
      → HasContent (lexicon_of world) objects value number attribute

-- ---- laws

-- files that some shelf gives have this table and these trees, nothing is wrong with their types and rules, and their objects
-- are made
pub record AreFaultless (files : List FileDecls) (table : TypeTable) (trees : List PlainTree) (world : World)
    (objects : List Object) : Type 0 where
  pub given : AreGiven files
  pub is_table : IsTable files table
  pub are_trees : AreFileTrees table files trees
  pub facts : AreFacts (scope_names (joined_decls files)) (joined_decls files) world.facts
  pub enums : world.enums ≡ table.enums
  pub made : AreMade world objects

-- all that is read in each of their trees means something
abbrev pub TreesAreMeant : Type 0
TreesAreMeant =
    (files : List FileDecls) (table : TypeTable) (trees : List PlainTree) (world : World) (objects : List Object)
    → AreFaultless files table trees world objects → All (IsTreeMeant (lexicon_of world) objects) trees

-- so what is counted of each is what its rule has
abbrev pub TreesAreCounted : Type 0
TreesAreCounted =
    (files : List FileDecls) (table : TypeTable) (trees : List PlainTree) (world : World) (objects : List Object)
    → AreFaultless files table trees world objects
    → All (λ tree. AreCounted (unrolled_amounts (lexicon_of world) objects tree) (tree_amounts (lexicon_of world) tree)) trees

-- and the limits that are told are those that their rules pass
abbrev pub LimitsAreTold : Type 0
LimitsAreTold =
    (files : List FileDecls) (table : TypeTable) (trees : List PlainTree) (world : World) (objects : List Object)
    → AreFaultless files table trees world objects
    → tree_limits (lexicon_of world) trees ≡ unrolled_limits (lexicon_of world) objects trees

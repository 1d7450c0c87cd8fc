-- What fields, parameters and variables of types may be, once all objects are made.
use Rattle.std.specs.Prelude.{ℕ, List, ◌++◌, Option, None, map}
use Rattle.std.specs.List.{filter_map, flat_map}
use Rattle.std.specs.Option.{option_map}
use Rattle.model_core.specs.declared.class.Enum.{Enum}
use Rattle.model_core.specs.declared.variable.Base.{Base}
use Rattle.model_core.specs.declared.variable.VarDecl.{VarDecl}
use Rattle.nddl_ast.specs.declared.declaration.Member.{Member}
use Rattle.nddl_ast.specs.declared.declaration.Member.TheVariants as members
use Rattle.nddl_ast.specs.declared.declaration.PredicatePart.{PredicatePart}
use Rattle.nddl_ast.specs.declared.declaration.PredicatePart.TheVariants as predicate_parts
use Rattle.nddl_ast.specs.declared.declaration.Typed.{Typed}
use Rattle.nddl_symbols.specs.declared.declared.Declared.{Declared}
use Rattle.nddl_typeexpr.specs.declared.kind.Extent.{Extent}
use Rattle.nddl_typeexpr.specs.declared.kind.TypeKind.{TypeKind}
use Rattle.nddl_typeexpr.specs.declared.kind.TypeKind.TheVariants as kinds
use Rattle.nddl_typeexpr.specs.declared.kind.TypeMeaning.{TypeMeaning}
use Rattle.nddl_hierarchy.specs.Ancestors.{above}
use Rattle.nddl_hierarchy.specs.Facts.{Facts, facts_of}
use Rattle.nddl_declarations.specs.Known.{fine_meaning}
use Rattle.nddl_hierarchy.specs.Decls.{members_of}
use Rattle.nddl_declarations.specs.Domains.{base_of, value_kind}
use Rattle.nddl_types.specs.Classes.{class_number, given_fields, line_down}
use Rattle.nddl_construction.specs.declared.made.MadeObject.{MadeObject}
use Rattle.nddl_construction.specs.declared.made.NamedObject.{NamedObject}
use Rattle.nddl_terms.specs.declared.lexicon.Attribute.{Attribute}
use Rattle.nddl_terms.specs.declared.lexicon.Shape.{Shape}
use Rattle.nddl_env.specs.declared.premises.Premises as code
use Rattle.nddl_env.specs.Objects.{objects_base}

-- the facts of a program, its enums, the objects of its names, and all of its objects
pub record World : Type 0 where
  pub facts : Facts
  pub enums : List Enum
  pub named_objects : List NamedObject
  pub objects : List MadeObject

-- that which the code keeps
abbrev pub world_of : code.Premises → World
world_of premises = record {
  facts = facts_of premises.sources.basis;
  enums = premises.sources.enums.now;
  named_objects = premises.named_objects.now;
  objects = premises.objects.now;
}

-- ---- types

abbrev pub kind_base : World → TypeKind → Extent → Base
kind_base world (kinds.Object class) extent = objects_base world.facts world.named_objects world.objects class extent
kind_base world kind extent = base_of world.facts.names world.enums kind extent

-- the class of what is of this kind, if it is one of objects
abbrev pub kind_class : List Declared → TypeKind → ℕ
kind_class names (kinds.Object class) = class_number names class
kind_class names kind = 0

-- what a variable of a type may be that means this
abbrev pub shape_with : World → TypeMeaning → Shape
shape_with world meaning = record {
  kind = value_kind meaning.kind;
  base = kind_base world meaning.kind meaning.extent;
  class = kind_class world.facts.names meaning.kind;
}

-- ---- fields and parameters

abbrev pub attribute_with : World → Typed → TypeMeaning → Attribute
attribute_with world typed meaning = record { name = typed.name.text; shape = shape_with world meaning }

-- what is declared, if nothing is wrong with its type
abbrev pub typed_attribute : World → Typed → Option Attribute
typed_attribute world typed = option_map (attribute_with world typed) (fine_meaning world.facts typed.declared)

-- the field that a member declares
abbrev pub member_attribute : World → Member → Option Attribute
member_attribute world (members.Field typed) = typed_attribute world typed
member_attribute world member = None

-- the parameter that a part of a predicate declares
abbrev pub part_attribute : World → PredicatePart → Option Attribute
part_attribute world (predicate_parts.Parameter typed) = typed_attribute world typed
part_attribute world part = None

-- a field or a parameter that is a number, as those of built-in classes are
abbrev pub number_attribute : VarDecl → Attribute
number_attribute variable = record { name = variable.name; shape = record { kind = variable.kind; base = variable.base; class = 0 } }

-- what the class of this number adds to the fields of a line
abbrev pub attributes_at : World → ℕ → List Attribute
attributes_at world entry =
    map number_attribute (given_fields (above world.facts.names world.facts.program entry))
    ++ filter_map (member_attribute world) (members_of world.facts.names world.facts.program entry)

-- the fields of a class, those of its ancestors first
abbrev pub entry_attributes : World → ℕ → List Attribute
entry_attributes world entry = flat_map (attributes_at world) (line_down world.facts entry)

-- What the tokens for which a rule asks stand for.
use Rattle.std.specs.Prelude.{ℕ, ◌-◌, List, [], ◌∷◌, ◌++◌, Option, Some, None, length, take, slice_get}
use Rattle.std.specs.Option.{option_map_or}
use Rattle.eu_name.specs.declared.name.Part.TheVariants as parts
use Rattle.model_core.specs.declared.item.Item.{Item}
use Rattle.model_core.specs.declared.item.Item.TheVariants.{Constraint, Relation}
use Rattle.domain_core.specs.declared.kind.Kind.TheVariants.{Eq}
use Rattle.model_core.specs.declared.item.Rel.{Rel}
use Rattle.model_core.specs.declared.item.Term.{Term}
use Rattle.model_core.specs.declared.item.Term.TheVariants as terms
use Rattle.model_core.specs.declared.rule.Slot as slots
use Rattle.model_core.specs.declared.variable.Base.{Base}
use Rattle.nddl_ast.specs.declared.name.Name.{Name}
use Rattle.nddl_ast.specs.declared.name.Path.{Path}
use Rattle.nddl_terms.specs.declared.growth.Growth.{Growth}
use Rattle.nddl_terms.specs.declared.lexicon.Lexicon.{Lexicon}
use Rattle.nddl_terms.specs.declared.stands.Made.{Made}
use Rattle.nddl_terms.specs.declared.stands.Stand.{Stand}
use Rattle.nddl_terms.specs.declared.stands.Stand.TheVariants.{Value, Slot, Class}
use Rattle.nddl_terms.specs.Growth.{with_item, with_slot}
use Rattle.nddl_terms.specs.Lexicon.{class_objects, pred_class, pred_named}
use Rattle.nddl_terms.specs.Paths.{Reached, rest_stand}
use Rattle.nddl_terms.specs.Readings.{Readings}
use Rattle.nddl_terms.specs.Stands.{first_stand}
use Rattle.nddl_declarations.specs.Domains.{numbers_base}
use Rattle.nddl_lower.specs.declared.slots.Wanted.{Wanted}
use Rattle.nddl_lower.specs.Arguments.{with_items}

-- ---- what is asked for

-- a token of the predicate of this name, asked of a class, or of an object or a variable of one
abbrev pub wanted_of : Lexicon → Stand → List ℕ → Wanted
wanted_of lexicon (Class class) name = record { pred = pred_named lexicon class name; object = None }
wanted_of lexicon (Value term kind class) name = record { pred = pred_named lexicon class name; object = Some term }
wanted_of lexicon stand name = record { pred = None; object = None }

-- the same, and what the rule has then
pub record AskedSlot : Type 0 where
  pub wanted : Wanted
  pub growth : Growth

-- what is wanted of what a path has led to
abbrev pub asked_of_owner : Lexicon → Reached → List ℕ → AskedSlot
asked_of_owner lexicon owner name = record { wanted = wanted_of lexicon owner.stand name; growth = owner.growth }

-- a path that asks for nothing: none such stands in a rule with which nothing is wrong
abbrev pub asked_nothing : Growth → AskedSlot
asked_nothing growth = record { wanted = record { pred = None; object = None }; growth = growth }

-- the names but the last lead to what the token is asked of, and the last one is its predicate
abbrev pub asked_behind : Readings → Stand → List Name → Growth → AskedSlot
asked_behind reading begin names growth =
    option_map_or
    (λ last. asked_of_owner reading.lexicon (rest_stand reading begin (take (length names - 1) names) growth) last.text)
    (slice_get names (length names - 1)) (asked_nothing growth)

abbrev pub asked_path : Readings → List Made → Path → Growth → AskedSlot
asked_path reading turns path growth = asked_behind reading (first_stand reading turns growth path.first.at) path.rest growth

-- a predicate alone is one of the class whose rule it is
abbrev pub asked_own : Readings → Name → Wanted
asked_own reading name = wanted_of reading.lexicon (Class (pred_class reading.lexicon reading.pred)) name.text

-- what is wanted where a label is given
abbrev pub asked_labelled : Readings → List Made → Path → List Name → Growth → AskedSlot
asked_labelled reading turns path [] growth = record { wanted = asked_own reading path.first; growth = growth }
asked_labelled reading turns path (name ∷ more) growth = asked_path reading turns path growth

-- ---- slots

-- the objects of a class, as what a variable may be
abbrev pub class_base : Lexicon → ℕ → Base
class_base lexicon class = numbers_base (class_objects lexicon class)

-- a slot for a token of the predicate, on any object of its class
abbrev pub pred_slot : Lexicon → ℕ → slots.Slot
pred_slot lexicon pred = record { pred = pred; object = class_base lexicon (pred_class lexicon pred) }

-- this stands from here on for the slot for which the text asks there
abbrev pub with_asked_at : ℕ → Stand → Growth → Growth
with_asked_at at stand growth = record growth { asked = growth.asked ++ record { at = at; stand = stand } ∷ [] }

-- the object of the slot of this number equals the term, if there is one
abbrev pub object_items : ℕ → Option Term → List Item
object_items number None = []
object_items number (Some term) = Constraint Eq (terms.Slot number parts.Object ∷ term ∷ []) ∷ []

-- The slot for which the text asks there, and then what its object equals, and the relation.
abbrev pub with_wanted_token : Lexicon → ℕ → Rel → ℕ → Option Term → Growth → Growth
with_wanted_token lexicon at relation pred object growth =
    let number = length growth.slots in
    with_item (Relation relation number)
    (with_items (object_items number object)
    (with_slot (pred_slot lexicon pred) (with_asked_at at (Slot number pred) growth)))

-- the same of what is asked for
abbrev pub with_asked : Lexicon → ℕ → Rel → AskedSlot → Growth
with_asked lexicon at relation asked =
    option_map_or (λ pred. with_wanted_token lexicon at relation pred asked.wanted.object asked.growth) asked.wanted.pred asked.growth

-- ---- further relations

-- a relation with the token of the slot of this label
abbrev pub with_relation : Rel → Stand → Growth → Growth
with_relation relation (Slot number pred) growth = with_item (Relation relation number) growth
with_relation relation stand growth = growth

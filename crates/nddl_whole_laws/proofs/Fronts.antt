-- A class has first the fields of each class that it is under, in their order.
use Rattle.std.proofs.Common.{◌≡◌, ℕ, zero, suc, Bool, true, false, ◌||◌, inl, inr, List, [], ◌∷◌, ◌++◌, map, reverse, refl, sym, ◌∙◌, ap, subst}
use Rattle.std.specs.Prelude.{Option, Some}
use Rattle.std.specs.List.{filter_map, flat_map}
use Rattle.std.proofs.lemmas.Bool.Decides.{Decides-eqb}
use Rattle.std.proofs.lemmas.List.{append-nil, append_assoc, reverse-append}
use Rattle.std.proofs.lemmas.List.Concat.{flat_map-append}
use Rattle.eu_forest.specs.Ancestors.{ancestry}
use Rattle.nddl_symbols.specs.declared.scope.Meaning.{Meaning}
use Rattle.nddl_symbols.specs.declared.scope.Meaning.TheVariants as meanings
use Rattle.nddl_hierarchy.specs.Ancestors.{above, is_every, is_extended, is_same_meaning, means}
use Rattle.nddl_hierarchy.specs.Decls.{members_of}
use Rattle.nddl_hierarchy.specs.Facts.{Facts}
use Rattle.nddl_types.specs.Classes.{given_fields}
use Rattle.nddl_constructors.specs.Creations.{is_of_class}
use Rattle.nddl_terms.specs.declared.lexicon.Attribute.{Attribute}
use Rattle.nddl_env.specs.Lexicons.{class_attributes}
use Rattle.nddl_env.specs.Shapes.{World, attributes_at, member_attribute, number_attribute}
use Rattle.nddl_model_laws.proofs.Fielded.{or_cases}
use Rattle.nddl_model_laws.proofs.Lined.{Lined, stands_over, stands_top, stands_under}
use Rattle.nddl_model_laws.proofs.Typing.{HasLine}

pub same_meanings : (one other : Meaning) → is_same_meaning one other ≡ true → one ≡ other
same_meanings (meanings.BuiltIn one) (meanings.BuiltIn other) is = ap meanings.BuiltIn ((Decides-eqb one other).0 is)
same_meanings (meanings.Entry one) (meanings.Entry other) is = ap meanings.Entry ((Decides-eqb one other).0 is)
same_meanings (meanings.BuiltIn one) (meanings.Entry other) is = absurd (let e : false ≡ true = is in cc)
same_meanings (meanings.Entry one) (meanings.BuiltIn other) is = absurd (let e : false ≡ true = is in cc)

module _ (world : World) where
  abbrev facts : Facts
  facts = world.facts

  -- the second class has first what the first one has
  abbrev pub IsFront : Meaning → Meaning → Type 0
  IsFront class own = (more : List Attribute) × (class_attributes world own ≡ class_attributes world class ++ more)

  front_of_itself : (class : Meaning) → IsFront class class
  front_of_itself class = ([], sym (append-nil (class_attributes world class)))

  front_on : (class middle own : Meaning) → IsFront class middle → IsFront middle own → IsFront class own
  front_on class middle own first second = (
    first.0 ++ second.0,
    second.1 ∙ (ap (λ (some : List Attribute). some ++ second.0) first.1 ∙ append_assoc (class_attributes world class) first.0 second.0),
  )

  -- what a class declares itself
  abbrev own_attributes : ℕ → List Attribute
  own_attributes entry = filter_map (member_attribute world) (members_of facts.names facts.program entry)

  front_over : (entry number : ℕ) → above facts.names facts.program entry ≡ Some (meanings.BuiltIn number) → ancestry facts.parents entry ≡ entry ∷ []
      → IsFront (meanings.BuiltIn number) (meanings.Entry entry)
  front_over entry number up line = (
    own_attributes entry,
    ap (λ (some : List ℕ). flat_map (attributes_at world) (reverse some)) line
        ∙ (append-nil (attributes_at world entry)
        ∙ ap (λ (o : Option Meaning). map number_attribute (given_fields o) ++ own_attributes entry) up),
  )

  front_under : (entry other : ℕ) → ancestry facts.parents entry ≡ entry ∷ ancestry facts.parents other
      → IsFront (meanings.Entry other) (meanings.Entry entry)
  front_under entry other line =
      let over = ancestry facts.parents other in (
        flat_map (attributes_at world) (entry ∷ []),
        ap (λ (some : List ℕ). flat_map (attributes_at world) (reverse some)) line
            ∙ (ap (flat_map (attributes_at world)) (reverse-append (entry ∷ []) over)
            ∙ flat_map-append (attributes_at world) (reverse over) (entry ∷ [])),
      )

  -- a class that is extended along the line
  along : (levels entry : ℕ) → Lined facts levels entry → (class : Meaning) → is_extended facts.names facts.program class (ancestry facts.parents entry) ≡ true
      → IsFront class (meanings.Entry entry)
  along zero entry line class extended = absurd line
  along (suc levels) entry (stands_top one up line items) class extended =
      let never : false ≡ true = sym (ap (is_extended facts.names facts.program class) line ∙ ap (λ (m : Option Meaning). means class m || false) up) ∙ extended in
      absurd (cc)
  along (suc levels) entry (stands_over number few one up line items apart) class extended =
      let first : (is_same_meaning class (meanings.BuiltIn number) || false) ≡ true =
      sym (ap (is_extended facts.names facts.program class) line ∙ ap (λ (m : Option Meaning). means class m || false) up) ∙ extended in
      let same = same_meanings class (meanings.BuiltIn number) (by (is_same_meaning class (meanings.BuiltIn number)) first) in
      subst (λ (c : Meaning). IsFront c (meanings.Entry entry)) (sym same) (front_over entry number up line)
    where
      by : (b : Bool) → (b || false) ≡ true → b ≡ true
      by true so = refl
      by false so = so
  along (suc levels) entry (stands_under other one over up line items apart above_it) class extended =
      let first : (is_same_meaning class (meanings.Entry other) || is_extended facts.names facts.program class (ancestry facts.parents other)) ≡ true =
      sym (ap (is_extended facts.names facts.program class) line
      ∙ ap (λ (m : Option Meaning). means class m || is_extended facts.names facts.program class (ancestry facts.parents other)) up) ∙ extended in
      let near = front_under entry other line in
      elim (or_cases (is_same_meaning class (meanings.Entry other)) (is_extended facts.names facts.program class (ancestry facts.parents other)) first) [
        | inl same ↦
            subst (λ (c : Meaning). IsFront c (meanings.Entry entry)) (sym (same_meanings class (meanings.Entry other) same)) near
        | inr further ↦
            front_on class (meanings.Entry other) (meanings.Entry entry) (along levels other above_it class further) near
      ]

  front_same : (class own : Meaning) → is_same_meaning class own ≡ true → IsFront class own
  front_same class own same = subst (IsFront class) (same_meanings class own same) (front_of_itself class)

  -- all objects have none of the fields of their class
  front_every : (class own : Meaning) → is_every class ≡ true → IsFront class own
  front_every class own every =
      subst (λ (c : Meaning). IsFront c own) (sym (same_meanings class (meanings.BuiltIn 0) every)) (class_attributes world own, refl)

  -- so each class that one is under, or is
  pub front : (class own : Meaning) → HasLine facts own → is_of_class facts class own ≡ true → IsFront class own
  front class (meanings.BuiltIn number) line under =
      elim (or_cases (is_every class) (is_same_meaning class (meanings.BuiltIn number)) under) [
        | inl every ↦ front_every class (meanings.BuiltIn number) every
        | inr same ↦ front_same class (meanings.BuiltIn number) same
      ]
  front class (meanings.Entry entry) line under =
      let extended = is_extended facts.names facts.program class (ancestry facts.parents entry) in
      elim (or_cases (is_every class) (is_same_meaning class (meanings.Entry entry) || extended) under) [
        | inl every ↦ front_every class (meanings.Entry entry) every
        | inr other ↦
            (elim (or_cases (is_same_meaning class (meanings.Entry entry)) extended other) [
              | inl same ↦ front_same class (meanings.Entry entry) same
              | inr further ↦ (let found = line entry refl in along found.0 entry found.1 class further)
            ])
      ]

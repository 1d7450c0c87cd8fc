-- What stands for something in a rule is of its kind in the model, and so is what a path leads to.
use Rattle.std.proofs.Common.{◌≡◌, ℕ, zero, suc, Bool, List, [], ◌∷◌, ◌++◌, length, ℤ, refl, sym, ◌∙◌, ap, subst}
use Rattle.std.specs.Prelude.{⊤, Option, Some, Ok, Err, Contains, slice_get}
use Rattle.std.specs.Option.{option_map_or}
use Rattle.std.proofs.lemmas.Option.{none-some}
use Rattle.eu_forest.proofs.Lists.{get-append_last}
use Rattle.eu_name.specs.declared.name.Part.{Part}
use Rattle.model_core.specs.declared.item.Rel.{Rel}
use Rattle.model_core.specs.declared.item.Term.{Term}
use Rattle.model_core.specs.declared.item.Term.TheVariants as terms
use Rattle.model_core.specs.declared.model.Model.{Model}
use Rattle.model_core.specs.declared.model.Root.{Root}
use Rattle.model_core.specs.declared.rule.Rule.{Rule}
use Rattle.model_core.specs.declared.rule.Slot.{Slot}
use Rattle.model_core.specs.declared.variable.ValueKind.{ValueKind}
use Rattle.model_core.specs.declared.variable.ValueKind.TheVariants as value_kinds
use Rattle.model_core.specs.declared.variable.VarDecl.{VarDecl}
use Rattle.model_core.specs.Kinds.{IsOfKind, IsPartOfKind, IsValueOf, OfProblem, OfRule}
use Rattle.model_core.specs.Tokens.{IsRoot}
use Rattle.nddl_ast.specs.declared.name.Name.{Name}
use Rattle.nddl_symbols.specs.declared.scope.Meaning.{Meaning}
use Rattle.nddl_typeexpr.specs.declared.kind.TypeKind.TheVariants as kinds
use Rattle.nddl_hierarchy.specs.Facts.{Facts}
use Rattle.nddl_resolve.specs.declared.denoted.Denoted.{Denoted}
use Rattle.nddl_resolve.specs.declared.denoted.Denoted.TheVariants as denoted
use Rattle.nddl_resolve.specs.declared.denoted.TokenSort.{TokenSort}
use Rattle.nddl_resolve.specs.Fields.{class_field}
use Rattle.nddl_resolve.specs.Following.{Understood, found_next, next_denoted, rest_denoted}
use Rattle.nddl_resolve.specs.Predicates.{token_part}
use Rattle.nddl_terms.specs.declared.growth.Growth.{Growth}
use Rattle.nddl_terms.specs.declared.lexicon.Attribute.{Attribute}
use Rattle.nddl_terms.specs.declared.lexicon.Lexicon.{Lexicon}
use Rattle.nddl_terms.specs.declared.lexicon.Shape.{Shape}
use Rattle.nddl_terms.specs.declared.stands.Stand.{Stand}
use Rattle.nddl_terms.specs.declared.stands.Stand.TheVariants as stands
use Rattle.nddl_terms.specs.Growth.{unnamed, with_access, with_item}
use Rattle.nddl_terms.specs.Lexicon.{attribute_class, attribute_kind, class_objects, part_kind, shape_fields}
use Rattle.nddl_terms.specs.Paths.{known_stand, known_value, next_stand, numbered_field, part_stand, reached, read_field, rest_stand}
use Rattle.nddl_terms.specs.Readings.{Readings}
use Rattle.nddl_lower.specs.Arguments.{with_items}
use Rattle.nddl_lower.specs.Locals.{with_named_at}
use Rattle.nddl_lower.specs.Slots.{pred_slot, with_asked_at, with_wanted_token}
use Rattle.nddl_rule_laws.proofs.Fits.{FieldFits, Fits, Serves, TermFits, found_is, next_fits}
use Rattle.nddl_lowering_laws.specs.Fitting.{HasThings, IsInModel}
use Rattle.nddl_lowering_laws.proofs.Growing.{IsKept, IsReadKept, reads_kept, rest_kept}

-- ---- what a rule has so far

-- the first locals and slots, so many, are still the same
pub record Grows (old new : Growth) : Type 0 where
  pub locals : (number : ℕ) (local : VarDecl) → slice_get old.locals number ≡ Some local → slice_get new.locals number ≡ Some
      local
  pub slots : (number : ℕ) (slot : Slot) → slice_get old.slots number ≡ Some slot → slice_get new.slots number ≡ Some slot

pub still_there : {X : Type 0} (xs ys : List X) (number : ℕ) (x : X) → slice_get xs number ≡ Some x → slice_get (xs ++ ys)
    number ≡ Some x
still_there [] ys number x is = absurd (none-some x is)
still_there (y ∷ xs) ys zero x is = is
still_there (y ∷ xs) ys (suc number) x is = still_there xs ys number x is

grows_same : (old new : Growth) → new.locals ≡ old.locals → new.slots ≡ old.slots → Grows old new
grows_same old new locals slots = record {
  locals = λ number local is. ap (λ (some : List VarDecl). slice_get some number) locals ∙ is;
  slots = λ number slot is. ap (λ (some : List Slot). slice_get some number) slots ∙ is;
}

pub all_grow : (lexicon : Lexicon) → IsKept lexicon Grows
all_grow lexicon = record {
  same = λ growth. grows_same growth growth refl refl;
  join = λ first second third one other. record {
    locals = λ number local is. other.locals number local (one.locals number local is);
    slots = λ number slot is. other.slots number slot (one.slots number slot is);
  };
  item = λ item growth. grows_same growth (with_item item growth) refl refl;
  items = λ some growth. grows_same growth (with_items some growth) refl refl;
  local = λ shape growth. record {
    locals = λ number local is. still_there growth.locals (unnamed shape ∷ []) number local is;
    slots = λ number slot is. is;
  };
  slot = λ pred growth has. record {
    locals = λ number local is. is;
    slots = λ number slot is. still_there growth.slots (pred_slot lexicon pred ∷ []) number slot is;
  };
  named = λ at stand growth. grows_same growth (with_named_at at stand growth) refl refl;
  asked = λ at stand growth. grows_same growth (with_asked_at at stand growth) refl refl;
}

-- so it is where a token is asked for
pub grows_wanted : (lexicon : Lexicon) (at : ℕ) (relation : Rel) (pred : ℕ) (object : Option Term) (growth : Growth)
    → Grows growth (with_wanted_token lexicon at relation pred object growth)
grows_wanted lexicon at relation pred object growth = record {
  locals = λ number local is. is;
  slots = λ number slot is. still_there growth.slots (pred_slot lexicon pred ∷ []) number slot is;
}

pub reads_grow : (lexicon : Lexicon) → IsReadKept Grows
reads_grow lexicon = reads_kept lexicon Grows (all_grow lexicon)

-- the rule has what there is so far
pub record LeadsTo (rule : Rule) (growth : Growth) : Type 0 where
  pub locals : (number : ℕ) (local : VarDecl) → slice_get growth.locals number ≡ Some local → slice_get rule.locals number ≡ Some
      local
  pub slots : (number : ℕ) (slot : Slot) → slice_get growth.slots number ≡ Some slot → slice_get rule.slots number ≡ Some slot

pub leads_back : (rule : Rule) (old new : Growth) → Grows old new → LeadsTo rule new → LeadsTo rule old
leads_back rule old new grows leads = record {
  locals = λ number local is. leads.locals number local (grows.locals number local is);
  slots = λ number slot is. leads.slots number slot (grows.slots number slot is);
}

-- ---- what stands for something

-- what stands for something is of its kind in a rule of the predicate
abbrev pub IsHeld : Model → ℕ → Rule → Stand → Type 0
IsHeld model pred rule (stands.Value term kind class) = IsOfKind model (OfRule pred rule) kind term
IsHeld model pred rule (stands.Slot number of) = (slot : Slot) × (slice_get rule.slots number ≡ Some slot) × (slot.pred ≡ of)
IsHeld model pred rule (stands.Root number of) = (root : Root) × IsRoot model number root × (root.pred ≡ of)
IsHeld model pred rule stand = ⊤

-- what is of a kind in the problem is so in a rule
term_held : (model : Model) (pred : ℕ) (rule : Rule) (kind : ValueKind) (term : Term) → IsOfKind model OfProblem kind term
    → IsOfKind model (OfRule pred rule) kind term
term_held model pred rule kind (terms.Lit value) is = is
term_held model pred rule kind (terms.Global number) is = is
term_held model pred rule kind (terms.Root number part) is = is
term_held model pred rule kind (terms.Here part) is = absurd is
term_held model pred rule kind (terms.Slot number part) is = absurd is
term_held model pred rule kind (terms.Local number) is = absurd is

pub name_held : (model : Model) (pred : ℕ) (rule : Rule) (stand : Stand) → IsInModel model stand → IsHeld model pred rule stand
name_held model pred rule (stands.Value term kind class) is = term_held model pred rule kind term is
name_held model pred rule (stands.Slot number of) is = absurd is
name_held model pred rule (stands.Root number of) is = is
name_held model pred rule (stands.Class class) is = tt
name_held model pred rule stands.Nothing is = tt

-- the value is one of the objects of the class
abbrev pub IsThingIn : Lexicon → ℕ → ℤ → Type 0
IsThingIn lexicon number value = Contains (class_objects lexicon number) value

same_ok : (one other : Denoted) → ◌≡◌ {A = Understood} (Ok one) (Ok other) → one ≡ other
same_ok one other same = cc

module _ (model : Model) (reading : Readings) (things : HasThings model reading.lexicon reading.objects) (rule : Rule) where
  abbrev Held : Stand → Type 0
  Held = IsHeld model reading.pred rule

  abbrev Leads : Growth → Type 0
  Leads = LeadsTo rule

  -- a local that is there
  pub local_held : (growth : Growth) (number : ℕ) (shape : Shape) → Leads growth → slice_get growth.locals number ≡ Some
      (unnamed shape) → Held (stands.Value (terms.Local number) shape.kind shape.class)
  local_held growth number shape leads is = (unnamed shape, leads.locals number (unnamed shape) is, refl)

  -- ---- fields

  known_held : (value : ℤ) (fields : List Attribute) (number : ℕ) (content : ℤ) (attribute : Attribute)
      → slice_get fields number ≡ Some attribute → known_value reading.objects value number ≡ Some content
      → IsValueOf model attribute.shape.kind content → Held (known_stand reading.objects value fields number)
  known_held value fields number content attribute there known right =
      let kind_is : attribute_kind fields number ≡ attribute.shape.kind =
      ap (λ o. option_map_or (λ (one : Attribute). one.shape.kind) o value_kinds.Int) there in
      let P : Option ℤ → Type 0 = λ o.
      Held (option_map_or (λ content. stands.Value (terms.Lit content) (attribute_kind fields number)
      (attribute_class fields number)) o stands.Nothing) in
      subst P (sym known) (subst (λ (kind : ValueKind). IsValueOf model kind content) (sym kind_is) right)

  read_held : (object : Term) (number : ℕ) (fields : List Attribute) (attribute : Attribute) (growth : Growth)
      → slice_get fields number ≡ Some attribute → Leads (read_field object fields number growth).growth
      → Held (read_field object fields number growth).stand
  read_held object number fields attribute growth there leads =
      let P : Option Attribute → Type 0 = λ o.
      Leads (option_map_or (λ (one : Attribute). reached (stands.Value (terms.Local (length growth.locals)) one.shape.kind
      one.shape.class) (with_access object number one.shape growth)) o (reached stands.Nothing growth)).growth
      → Held (option_map_or (λ (one : Attribute). reached (stands.Value (terms.Local (length growth.locals)) one.shape.kind
      one.shape.class) (with_access object number one.shape growth)) o (reached stands.Nothing growth)).stand in
      subst P (sym there)
      (λ further. local_held (with_access object number attribute.shape growth) (length growth.locals) attribute.shape further
      (get-append_last growth.locals (unnamed attribute.shape))) leads

  module _ (IsFor : Meaning → ℕ → Type 0) (IsPredFor : TokenSort → ℕ → Type 0) (facts : Facts)
      (serves : Serves IsFor IsPredFor (IsThingIn reading.lexicon) facts reading.lexicon reading.objects) where
    abbrev IsThing : ℕ → ℤ → Type 0
    IsThing = IsThingIn reading.lexicon

    abbrev Fitting : Denoted → Stand → Type 0
    Fitting = Fits IsFor IsPredFor IsThing

    numbered_held : (term : Term) (class : ℕ) (name : List ℕ) (of : Meaning) (growth : Growth) (found : Denoted)
        (it : FieldFits IsFor IsPredFor IsThing reading.objects class name (shape_fields reading.lexicon class) found)
        → TermFits IsFor IsPredFor IsThing (kinds.Object of) class term
        → Leads (numbered_field reading.objects term (shape_fields reading.lexicon class) it.number growth).growth
        → Held (numbered_field reading.objects term (shape_fields reading.lexicon class) it.number growth).stand
    numbered_held (terms.Lit value) class name of growth found it thing leads =
        let known = it.known value thing in
        known_held value (shape_fields reading.lexicon class) it.number known.0 it.attribute it.there known.1
        (things.contents class it.number value known.0 it.attribute thing it.there known.1)
    numbered_held (terms.Here part) class name of growth found it thing leads =
        read_held (terms.Here part) it.number (shape_fields reading.lexicon class) it.attribute growth it.there leads
    numbered_held (terms.Slot slot part) class name of growth found it thing leads =
        read_held (terms.Slot slot part) it.number (shape_fields reading.lexicon class) it.attribute growth it.there leads
    numbered_held (terms.Local local) class name of growth found it thing leads =
        read_held (terms.Local local) it.number (shape_fields reading.lexicon class) it.attribute growth it.there leads
    numbered_held (terms.Global global) class name of growth found it thing leads =
        read_held (terms.Global global) it.number (shape_fields reading.lexicon class) it.attribute growth it.there leads
    numbered_held (terms.Root root part) class name of growth found it thing leads =
        read_held (terms.Root root part) it.number (shape_fields reading.lexicon class) it.attribute growth it.there leads

    field_held : (of : Meaning) (constant : Bool) (term : Term) (own : ValueKind) (class : ℕ) (name : Name) (growth : Growth)
        (next : Denoted) → IsFor of class → TermFits IsFor IsPredFor IsThing (kinds.Object of) class term
        → class_field facts constant name.text of ≡ Some next → Leads (next_stand reading (stands.Value term own class) name
        growth).growth → Held (next_stand reading (stands.Value term own class) name growth).stand
    field_held of constant term own class name growth next for fits found leads =
        let it = serves.field of class constant name.text next for found in
        let fields = shape_fields reading.lexicon class in
        let P : Option ℕ → Type 0 = λ o.
        Leads (option_map_or (λ number. numbered_field reading.objects term fields number growth) o
        (reached stands.Nothing growth)).growth
        → Held (option_map_or (λ number. numbered_field reading.objects term fields number growth) o
        (reached stands.Nothing growth)).stand in
        subst P (sym it.named) (λ further. numbered_held term class name.text of growth next it fits further) leads

    -- ---- parts of tokens

    slot_held : (token : TokenSort) (number pred : ℕ) (name : Name) (growth : Growth) (next : Denoted) → IsPredFor token pred
        → Held (stands.Slot number pred) → token_part facts name.text token ≡ Some next
        → Held (next_stand reading (stands.Slot number pred) name growth).stand
    slot_held token number pred name growth next for held found =
        let it = serves.part token pred name.text next for found in
        let own = part_kind reading.lexicon pred it.part in
        subst (λ (o : Option Part). Held (option_map_or (part_stand reading (stands.Slot number pred)) o stands.Nothing))
        (sym it.named) (
          held.0,
          held.1,
          subst (λ (p : ℕ). IsPartOfKind model p own it.part) (sym held.2)
              (things.parts pred name.text it.part it.named),
        )

    root_held : (token : TokenSort) (number pred : ℕ) (name : Name) (growth : Growth) (next : Denoted) → IsPredFor token pred
        → Held (stands.Root number pred) → token_part facts name.text token ≡ Some next
        → Held (next_stand reading (stands.Root number pred) name growth).stand
    root_held token number pred name growth next for held found =
        let it = serves.part token pred name.text next for found in
        let own = part_kind reading.lexicon pred it.part in
        subst (λ (o : Option Part). Held (option_map_or (part_stand reading (stands.Root number pred)) o stands.Nothing))
        (sym it.named) (
          held.0,
          held.1,
          subst (λ (p : ℕ). IsPartOfKind model p own it.part) (sym held.2)
              (things.parts pred name.text it.part it.named),
        )

    -- ---- names one after another

    pub next_held : (first : ℕ) (meant : Denoted) (stand : Stand) (name : Name) (growth : Growth) (next : Denoted)
        → Fitting meant stand → Held stand → next_denoted facts first meant name ≡ Ok next
        → Leads (next_stand reading stand name growth).growth → Held (next_stand reading stand name growth).stand
    next_held first (denoted.Value (kinds.Object of) constant) (stands.Value term own class) name growth next fits held is leads =
        field_held of constant term own class name growth next fits.1 fits.2 (found_is IsFor IsPredFor IsThing facts reading
        serves name (class_field facts constant name.text of) next is) leads
    next_held first (denoted.Value kinds.Int constant) (stands.Value term own class) name growth next fits held is leads =
        absurd (cc)
    next_held first (denoted.Value kinds.Float constant) (stands.Value term own class) name growth next fits held is leads =
        absurd (cc)
    next_held first (denoted.Value kinds.Bool constant) (stands.Value term own class) name growth next fits held is leads =
        absurd (cc)
    next_held first (denoted.Value (kinds.Enum of) constant) (stands.Value term own class) name growth next fits held is leads =
        absurd (cc)
    next_held first (denoted.Token token) (stands.Slot number pred) name growth next fits held is leads =
        slot_held token number pred name growth next fits held (found_is IsFor IsPredFor IsThing facts reading serves name
        (token_part facts name.text token) next is)
    next_held first (denoted.Token token) (stands.Root number pred) name growth next fits held is leads =
        root_held token number pred name growth next fits held (found_is IsFor IsPredFor IsThing facts reading serves name
        (token_part facts name.text token) next is)
    next_held first meant (stands.Class class) name growth next fits held is leads = tt
    next_held first meant stands.Nothing name growth next fits held is leads = tt
    next_held first (denoted.Value kind constant) (stands.Slot number pred) name growth next fits held is leads = absurd fits
    next_held first (denoted.Value kind constant) (stands.Root number pred) name growth next fits held is leads = absurd fits
    next_held first (denoted.Token token) (stands.Value term own class) name growth next fits held is leads = absurd fits
    next_held first (denoted.Class of) (stands.Value term own class) name growth next fits held is leads = absurd fits
    next_held first (denoted.Class of) (stands.Slot number pred) name growth next fits held is leads = absurd fits
    next_held first (denoted.Class of) (stands.Root number pred) name growth next fits held is leads = absurd fits
    next_held first denoted.Faulty (stands.Value term own class) name growth next fits held is leads = absurd fits
    next_held first denoted.Faulty (stands.Slot number pred) name growth next fits held is leads = absurd fits
    next_held first denoted.Faulty (stands.Root number pred) name growth next fits held is leads = absurd fits

    pub rest_held : (first : ℕ) (meant : Denoted) (stand : Stand) (names : List Name) (growth : Growth) (end : Denoted)
        → Fitting meant stand → Held stand → rest_denoted facts first meant names ≡ Ok end
        → Leads (rest_stand reading stand names growth).growth → Held (rest_stand reading stand names growth).stand
    rest_held first meant stand [] growth end fits held is leads = held
    rest_held first meant stand (name ∷ more) growth end fits held is leads =
        let step = next_stand reading stand name growth in
        let grows = rest_kept reading Grows (reads_grow reading.lexicon) step.stand more step.growth in
        let begins = leads_back rule step.growth (rest_stand reading step.stand more step.growth).growth grows leads in
        by (next_denoted facts first meant name) refl is begins
        (λ next fit hold rest. rest_held first next step.stand more step.growth end fit hold rest leads)
      where
        by : (u : Understood) → next_denoted facts first meant name ≡ u → found_next (λ next. rest_denoted facts first next more)
            u ≡ Ok end → Leads (next_stand reading stand name growth).growth
            → ((next : Denoted) → Fitting next (next_stand reading stand name growth).stand
            → Held (next_stand reading stand name growth).stand → rest_denoted facts first next more ≡ Ok end
            → Held (rest_stand reading stand (name ∷ more) growth).stand)
            → Held (rest_stand reading stand (name ∷ more) growth).stand
        by (Ok next) here rest begins behind =
            behind next (next_fits IsFor IsPredFor IsThing facts reading serves first meant stand name growth next fits here)
            (next_held first meant stand name growth next fits held here begins) rest
        by (Err fault) here rest begins behind = absurd (cc)

-- What stands for a name is what it denotes for those who look for faults, and so is what a path leads to.
use Rattle.std.proofs.Common.{◌≡◌, ℕ, suc, ◌-◌, Bool, List, [], ◌∷◌, length, take, get_or, ℤ, refl, sym, ◌∙◌, ap, subst, arith}
use Rattle.std.specs.Prelude.{⊤, Option, Some, None, Ok, Err, IsSome, slice_get}
use Rattle.std.specs.Option.{option_map_or}
use Rattle.eu_name.specs.declared.name.Part.{Part}
use Rattle.model_core.specs.declared.class.Object.{Object}
use Rattle.model_core.specs.declared.item.Term.{Term}
use Rattle.model_core.specs.declared.item.Term.TheVariants as terms
use Rattle.model_core.specs.declared.variable.ValueKind.{ValueKind}
use Rattle.model_core.specs.declared.variable.ValueKind.TheVariants as value_kinds
use Rattle.model_core.proofs.Items.{item_at}
use Rattle.nddl_ast.specs.declared.name.Name.{Name}
use Rattle.nddl_symbols.specs.declared.scope.Meaning.{Meaning}
use Rattle.nddl_typeexpr.specs.declared.kind.TypeKind.{TypeKind}
use Rattle.nddl_typeexpr.specs.declared.kind.TypeKind.TheVariants as kinds
use Rattle.nddl_hierarchy.specs.Facts.{Facts}
use Rattle.nddl_declarations.specs.Domains.{value_kind}
use Rattle.nddl_resolve.specs.declared.denoted.Denoted.{Denoted}
use Rattle.nddl_resolve.specs.declared.denoted.Denoted.TheVariants as denoted
use Rattle.nddl_resolve.specs.declared.denoted.Predicate.{Predicate}
use Rattle.nddl_resolve.specs.declared.denoted.TokenSort.{TokenSort}
use Rattle.nddl_resolve.specs.Fields.{class_field}
use Rattle.nddl_resolve.specs.Following.{Understood, asked_names, found_at, found_next, named_token, next_denoted, rest_denoted, token_denoted, token_with}
use Rattle.nddl_resolve.specs.Predicates.{class_predicate, token_part}
use Rattle.nddl_terms.specs.declared.growth.Growth.{Growth}
use Rattle.nddl_terms.specs.declared.lexicon.Attribute.{Attribute}
use Rattle.nddl_terms.specs.declared.lexicon.Lexicon.{Lexicon}
use Rattle.nddl_terms.specs.declared.lexicon.Shape.{Shape}
use Rattle.nddl_terms.specs.declared.stands.Stand.{Stand}
use Rattle.nddl_terms.specs.declared.stands.Stand.TheVariants as stands
use Rattle.nddl_terms.specs.Growth.{with_access}
use Rattle.nddl_terms.specs.Lexicon.{attribute_class, attribute_kind, attribute_number, part_called, part_class, part_kind, pred_named, shape_fields}
use Rattle.nddl_terms.specs.Paths.{known_stand, known_value, next_stand, numbered_field, part_stand, reached, read_field, rest_stand}
use Rattle.nddl_terms.specs.Readings.{Readings}
use Rattle.nddl_lower.specs.Slots.{AskedSlot, asked_behind, asked_nothing, asked_of_owner, wanted_of}
use Rattle.nddl_unroll.specs.Meant.{IsSomething}

same_ok : (one other : Denoted) → ◌≡◌ {A = Understood} (Ok one) (Ok other) → one ≡ other
same_ok one other same = cc

-- ---- what fits what

-- A class of the lexicon serves for what means a class, a predicate of it for what is the sort of a token, and a value is an
-- object of a class of the lexicon.
module _ (IsFor : Meaning → ℕ → Type 0) (IsPredFor : TokenSort → ℕ → Type 0) (IsThing : ℕ → ℤ → Type 0) where
  -- objects have a class that serves
  abbrev pub KindFits : TypeKind → ℕ → Type 0
  KindFits (kinds.Object class) number = IsFor class number
  KindFits kind number = ⊤

  -- so it is of what a variable may be
  abbrev pub ShapeFits : TypeKind → Shape → Type 0
  ShapeFits kind shape = (shape.kind ≡ value_kind kind) × KindFits kind shape.class

  -- objects are of the class
  abbrev pub ValueFits : TypeKind → ℕ → ℤ → Type 0
  ValueFits (kinds.Object class) number value = IsThing number value
  ValueFits kind number value = ⊤

  -- where they are known
  abbrev pub TermFits : TypeKind → ℕ → Term → Type 0
  TermFits kind number (terms.Lit value) = ValueFits kind number value
  TermFits kind number term = ⊤

  -- what stands for something fits what it denotes, and is of its kind
  abbrev pub Fits : Denoted → Stand → Type 0
  Fits (denoted.Value kind constant) (stands.Value term own class) = (own ≡ value_kind kind) × KindFits kind class × TermFits kind class term
  Fits (denoted.Token token) (stands.Slot number pred) = IsPredFor token pred
  Fits (denoted.Token token) (stands.Root number pred) = IsPredFor token pred
  Fits (denoted.Class class) (stands.Class number) = IsFor class number
  Fits meant stand = ⊥

  -- the field of this name of a class of the lexicon is what the one of the files denotes, and each object of the class has it
  pub record FieldFits (objects : List Object) (class : ℕ) (name : List ℕ) (fields : List Attribute) (found : Denoted) : Type 0 where
    pub kind : TypeKind
    pub constant : Bool
    pub is : found ≡ denoted.Value kind constant
    pub number : ℕ
    pub attribute : Attribute
    pub named : attribute_number name fields ≡ Some number
    pub there : slice_get fields number ≡ Some attribute
    pub is_kind : attribute.shape.kind ≡ value_kind kind
    pub fits : KindFits kind attribute.shape.class
    pub known : (value : ℤ) → IsThing class value
        → (content : ℤ) × (known_value objects value number ≡ Some content) × ValueFits kind attribute.shape.class content

  -- so is the part of this name of a token
  pub record PartFits (lexicon : Lexicon) (pred : ℕ) (name : List ℕ) (found : Denoted) : Type 0 where
    pub kind : TypeKind
    pub constant : Bool
    pub is : found ≡ denoted.Value kind constant
    pub part : Part
    pub named : part_called lexicon pred name ≡ Some part
    pub is_kind : part_kind lexicon pred part ≡ value_kind kind
    pub fits : KindFits kind (part_class lexicon pred part)

  -- and the predicate of this name
  pub record PredFits (lexicon : Lexicon) (number : ℕ) (name : List ℕ) (token : TokenSort) : Type 0 where
    pub pred : ℕ
    pub named : pred_named lexicon number name ≡ Some pred
    pub fits : IsPredFor token pred

  -- all that follows a name in the files fits what follows what stands for it
  pub record Serves (facts : Facts) (lexicon : Lexicon) (objects : List Object) : Type 0 where
    pub field : (class : Meaning) (number : ℕ) (constant : Bool) (name : List ℕ) (found : Denoted) → IsFor class number
        → class_field facts constant name class ≡ Some found → FieldFits objects number name (shape_fields lexicon number) found
    pub predicate : (class : Meaning) (number : ℕ) (name : List ℕ) (found : Predicate) → IsFor class number
        → class_predicate facts name class ≡ Some found → PredFits lexicon number name (record { class = class; predicate = found })
    pub part : (token : TokenSort) (pred : ℕ) (name : List ℕ) (found : Denoted) → IsPredFor token pred
        → token_part facts name token ≡ Some found → PartFits lexicon pred name found

  -- what fits is something
  pub fits_something : (meant : Denoted) (stand : Stand) → Fits meant stand → IsSomething stand
  fits_something meant (stands.Value term own class) fits = tt
  fits_something meant (stands.Slot number pred) fits = tt
  fits_something meant (stands.Root number pred) fits = tt
  fits_something meant (stands.Class class) fits = tt
  fits_something (denoted.Value kind constant) stands.Nothing fits = absurd fits
  fits_something (denoted.Token token) stands.Nothing fits = absurd fits
  fits_something (denoted.Class class) stands.Nothing fits = absurd fits
  fits_something denoted.Faulty stands.Nothing fits = absurd fits

  -- ---- one name

  module _ (facts : Facts) (reading : Readings) (serves : Serves facts reading.lexicon reading.objects) where
    -- the field that was found of a known object
    known_fits : (class number : ℕ) (kind : TypeKind) (attribute : Attribute) (fields : List Attribute) (constant : Bool) (value content : ℤ)
        → slice_get fields number ≡ Some attribute → attribute.shape.kind ≡ value_kind kind → KindFits kind attribute.shape.class
        → known_value reading.objects value number ≡ Some content → ValueFits kind attribute.shape.class content
        → Fits (denoted.Value kind constant) (known_stand reading.objects value fields number)
    known_fits class number kind attribute fields constant value content there same fits known thing =
        let kind_is : attribute_kind fields number ≡ value_kind kind =
        ap (λ o. option_map_or (λ (one : Attribute). one.shape.kind) o value_kinds.Int) there ∙ same in
        let class_is : attribute_class fields number ≡ attribute.shape.class =
        ap (λ o. option_map_or (λ (one : Attribute). one.shape.class) o 0) there in
        subst (Fits (denoted.Value kind constant))
        (sym (ap (λ o. option_map_or (λ content. stands.Value (terms.Lit content) (attribute_kind fields number) (attribute_class fields number)) o
        stands.Nothing) known
        ∙ ap (stands.Value (terms.Lit content) (attribute_kind fields number)) class_is))
        (kind_is, fits, thing)

    -- and that of a variable
    read_fits : (object : Term) (number : ℕ) (kind : TypeKind) (attribute : Attribute) (fields : List Attribute) (constant : Bool) (growth : Growth)
        → slice_get fields number ≡ Some attribute → attribute.shape.kind ≡ value_kind kind → KindFits kind attribute.shape.class
        → Fits (denoted.Value kind constant) (read_field object fields number growth).stand
    read_fits object number kind attribute fields constant growth there same fits =
        subst (λ (o : Option Attribute). Fits (denoted.Value kind constant)
        (option_map_or (λ (one : Attribute). reached (stands.Value (terms.Local (length growth.locals)) one.shape.kind one.shape.class)
        (with_access object number one.shape growth)) o (reached stands.Nothing growth)).stand)
        (sym there) (same, fits, tt)

    numbered_fits : (term : Term) (class : ℕ) (name : List ℕ) (of : Meaning) (growth : Growth) (found : Denoted)
        (it : FieldFits reading.objects class name (shape_fields reading.lexicon class) found)
        → TermFits (kinds.Object of) class term
        → Fits found (numbered_field reading.objects term (shape_fields reading.lexicon class) it.number growth).stand
    numbered_fits (terms.Lit value) class name of growth found it fits =
        let known = it.known value fits in
        subst (λ d. Fits d (known_stand reading.objects value (shape_fields reading.lexicon class) it.number)) (sym it.is)
        (known_fits class it.number it.kind it.attribute (shape_fields reading.lexicon class) it.constant value known.0 it.there it.is_kind it.fits known.1
        known.2)
    numbered_fits (terms.Here part) class name of growth found it fits =
        subst (λ d. Fits d (read_field (terms.Here part) (shape_fields reading.lexicon class) it.number growth).stand) (sym it.is)
        (read_fits (terms.Here part) it.number it.kind it.attribute (shape_fields reading.lexicon class) it.constant growth it.there it.is_kind it.fits)
    numbered_fits (terms.Slot slot part) class name of growth found it fits =
        subst (λ d. Fits d (read_field (terms.Slot slot part) (shape_fields reading.lexicon class) it.number growth).stand) (sym it.is)
        (read_fits (terms.Slot slot part) it.number it.kind it.attribute (shape_fields reading.lexicon class) it.constant growth it.there it.is_kind it.fits)
    numbered_fits (terms.Local local) class name of growth found it fits =
        subst (λ d. Fits d (read_field (terms.Local local) (shape_fields reading.lexicon class) it.number growth).stand) (sym it.is)
        (read_fits (terms.Local local) it.number it.kind it.attribute (shape_fields reading.lexicon class) it.constant growth it.there it.is_kind it.fits)
    numbered_fits (terms.Global global) class name of growth found it fits =
        subst (λ d. Fits d (read_field (terms.Global global) (shape_fields reading.lexicon class) it.number growth).stand) (sym it.is)
        (read_fits (terms.Global global) it.number it.kind it.attribute (shape_fields reading.lexicon class) it.constant growth it.there it.is_kind it.fits)
    numbered_fits (terms.Root root part) class name of growth found it fits =
        subst (λ d. Fits d (read_field (terms.Root root part) (shape_fields reading.lexicon class) it.number growth).stand) (sym it.is)
        (read_fits (terms.Root root part) it.number it.kind it.attribute (shape_fields reading.lexicon class) it.constant growth it.there it.is_kind it.fits)

    -- what was found under a name
    pub found_is : (name : Name) (o : Option Denoted) (next : Denoted) → found_at name o ≡ Ok next → o ≡ Some next
    found_is name None next is = absurd (cc)
    found_is name (Some found) next is = ap (λ d. Some d) (same_ok found next is)

    -- a field of an object
    field_fits : (of : Meaning) (constant : Bool) (term : Term) (class : ℕ) (name : Name) (growth : Growth) (next : Denoted)
        → IsFor of class → TermFits (kinds.Object of) class term → class_field facts constant name.text of ≡ Some next
        → (own : ValueKind) → Fits next (next_stand reading (stands.Value term own class) name growth).stand
    field_fits of constant term class name growth next for fits found own =
        let it = serves.field of class constant name.text next for found in
        subst (λ (o : Option ℕ). Fits next
        (option_map_or (λ number. numbered_field reading.objects term (shape_fields reading.lexicon class) number growth) o (reached stands.Nothing growth)).stand)
        (sym it.named) (numbered_fits term class name.text of growth next it fits)

    -- a part of a token
    slot_fits : (token : TokenSort) (number pred : ℕ) (name : Name) (growth : Growth) (next : Denoted) → IsPredFor token pred
        → token_part facts name.text token ≡ Some next → Fits next (next_stand reading (stands.Slot number pred) name growth).stand
    slot_fits token number pred name growth next for found =
        let it = serves.part token pred name.text next for found in
        subst (λ (o : Option Part). Fits next (option_map_or (part_stand reading (stands.Slot number pred)) o stands.Nothing)) (sym it.named)
        (subst (λ d. Fits d (part_stand reading (stands.Slot number pred) it.part)) (sym it.is) (it.is_kind, it.fits, tt))

    root_fits : (token : TokenSort) (number pred : ℕ) (name : Name) (growth : Growth) (next : Denoted) → IsPredFor token pred
        → token_part facts name.text token ≡ Some next → Fits next (next_stand reading (stands.Root number pred) name growth).stand
    root_fits token number pred name growth next for found =
        let it = serves.part token pred name.text next for found in
        subst (λ (o : Option Part). Fits next (option_map_or (part_stand reading (stands.Root number pred)) o stands.Nothing)) (sym it.named)
        (subst (λ d. Fits d (part_stand reading (stands.Root number pred) it.part)) (sym it.is) (it.is_kind, it.fits, tt))

    pub next_fits : (first : ℕ) (meant : Denoted) (stand : Stand) (name : Name) (growth : Growth) (next : Denoted) → Fits meant stand
        → next_denoted facts first meant name ≡ Ok next → Fits next (next_stand reading stand name growth).stand
    next_fits first (denoted.Value (kinds.Object of) constant) (stands.Value term own class) name growth next fits is =
        field_fits of constant term class name growth next fits.1 fits.2 (found_is name (class_field facts constant name.text of) next is) own
    next_fits first (denoted.Value kinds.Int constant) (stands.Value term own class) name growth next fits is = absurd (cc)
    next_fits first (denoted.Value kinds.Float constant) (stands.Value term own class) name growth next fits is = absurd (cc)
    next_fits first (denoted.Value kinds.Bool constant) (stands.Value term own class) name growth next fits is = absurd (cc)
    next_fits first (denoted.Value (kinds.Enum of) constant) (stands.Value term own class) name growth next fits is = absurd (cc)
    next_fits first (denoted.Token token) (stands.Slot number pred) name growth next fits is =
        slot_fits token number pred name growth next fits (found_is name (token_part facts name.text token) next is)
    next_fits first (denoted.Token token) (stands.Root number pred) name growth next fits is =
        root_fits token number pred name growth next fits (found_is name (token_part facts name.text token) next is)
    next_fits first (denoted.Class class) (stands.Class number) name growth next fits is = absurd (cc)
    next_fits first (denoted.Value kind constant) (stands.Slot number pred) name growth next fits is = absurd fits
    next_fits first (denoted.Value kind constant) (stands.Root number pred) name growth next fits is = absurd fits
    next_fits first (denoted.Value kind constant) (stands.Class number) name growth next fits is = absurd fits
    next_fits first (denoted.Value kind constant) stands.Nothing name growth next fits is = absurd fits
    next_fits first (denoted.Token token) (stands.Value term own class) name growth next fits is = absurd fits
    next_fits first (denoted.Token token) (stands.Class number) name growth next fits is = absurd fits
    next_fits first (denoted.Token token) stands.Nothing name growth next fits is = absurd fits
    next_fits first (denoted.Class class) (stands.Value term own number) name growth next fits is = absurd fits
    next_fits first (denoted.Class class) (stands.Slot number pred) name growth next fits is = absurd fits
    next_fits first (denoted.Class class) (stands.Root number pred) name growth next fits is = absurd fits
    next_fits first (denoted.Class class) stands.Nothing name growth next fits is = absurd fits
    next_fits first denoted.Faulty stand name growth next fits is = absurd (faulty_fits stand fits)
      where
        faulty_fits : (stand : Stand) → Fits denoted.Faulty stand → ⊥
        faulty_fits (stands.Value term own class) one = one
        faulty_fits (stands.Slot number pred) one = one
        faulty_fits (stands.Root number pred) one = one
        faulty_fits (stands.Class class) one = one
        faulty_fits stands.Nothing one = one

    -- ---- names one after another

    pub rest_fits : (first : ℕ) (meant : Denoted) (stand : Stand) (names : List Name) (growth : Growth) (end : Denoted) → Fits meant stand
        → rest_denoted facts first meant names ≡ Ok end → Fits end (rest_stand reading stand names growth).stand
    rest_fits first meant stand [] growth end fits is = subst (λ d. Fits d stand) (same_ok meant end is) fits
    rest_fits first meant stand (name ∷ more) growth end fits is =
        by (next_denoted facts first meant name) refl is
        (λ next so rest. rest_fits first next (next_stand reading stand name growth).stand more (next_stand reading stand name growth).growth end so rest)
      where
        by : (u : Understood) → next_denoted facts first meant name ≡ u → found_next (λ next. rest_denoted facts first next more) u ≡ Ok end
            → ((next : Denoted) → Fits next (next_stand reading stand name growth).stand → rest_denoted facts first next more ≡ Ok end
            → Fits end (rest_stand reading stand (name ∷ more) growth).stand)
            → Fits end (rest_stand reading stand (name ∷ more) growth).stand
        by (Ok next) here is behind = behind next (next_fits first meant stand name growth next fits here) is
        by (Err fault) here is behind = absurd (cc)

    -- ---- the token that is asked for

    -- the predicate serves for the token that is denoted
    abbrev pub TokenFits : Denoted → Option ℕ → Type 0
    TokenFits (denoted.Token token) (Some pred) = IsPredFor token pred
    TokenFits meant pred = ⊥

    pub named_fits : (of : Meaning) (class : ℕ) (name : Name) (end : Denoted) → IsFor of class → named_token facts of name ≡ Ok end
        → TokenFits end (pred_named reading.lexicon class name.text)
    named_fits of class name end for is = by (class_predicate facts name.text of) refl is
      where
        by : (o : Option Predicate) → class_predicate facts name.text of ≡ o → token_with of name o ≡ Ok end
            → TokenFits end (pred_named reading.lexicon class name.text)
        by None found none = absurd (cc)
        by (Some predicate) found some =
            let it = serves.predicate of class name.text predicate for found in
            let token : TokenSort = record { class = of; predicate = predicate } in
            subst (TokenFits end) (sym it.named)
            (subst (λ d. TokenFits d (Some it.pred)) (same_ok (denoted.Token token) end some) it.fits)

    owner_fits : (first : ℕ) (meant : Denoted) (stand : Stand) (name : Name) (end : Denoted) → Fits meant stand
        → token_denoted facts first meant name ≡ Ok end → TokenFits end (wanted_of reading.lexicon stand name.text).pred
    owner_fits first (denoted.Value (kinds.Object of) constant) (stands.Value term own class) name end fits is = named_fits of class name end fits.1 is
    owner_fits first (denoted.Value kinds.Int constant) (stands.Value term own class) name end fits is = absurd (cc)
    owner_fits first (denoted.Value kinds.Float constant) (stands.Value term own class) name end fits is = absurd (cc)
    owner_fits first (denoted.Value kinds.Bool constant) (stands.Value term own class) name end fits is = absurd (cc)
    owner_fits first (denoted.Value (kinds.Enum of) constant) (stands.Value term own class) name end fits is = absurd (cc)
    owner_fits first (denoted.Class of) (stands.Class class) name end fits is = named_fits of class name end fits is
    owner_fits first (denoted.Token token) stand name end fits is = absurd (cc)
    owner_fits first (denoted.Value kind constant) (stands.Slot number pred) name end fits is = absurd fits
    owner_fits first (denoted.Value kind constant) (stands.Root number pred) name end fits is = absurd fits
    owner_fits first (denoted.Value kind constant) (stands.Class number) name end fits is = absurd fits
    owner_fits first (denoted.Value kind constant) stands.Nothing name end fits is = absurd fits
    owner_fits first (denoted.Class of) (stands.Value term own class) name end fits is = absurd fits
    owner_fits first (denoted.Class of) (stands.Slot number pred) name end fits is = absurd fits
    owner_fits first (denoted.Class of) (stands.Root number pred) name end fits is = absurd fits
    owner_fits first (denoted.Class of) stands.Nothing name end fits is = absurd fits
    owner_fits first denoted.Faulty (stands.Value term own class) name end fits is = absurd fits
    owner_fits first denoted.Faulty (stands.Slot number pred) name end fits is = absurd fits
    owner_fits first denoted.Faulty (stands.Root number pred) name end fits is = absurd fits
    owner_fits first denoted.Faulty (stands.Class class) name end fits is = absurd fits
    owner_fits first denoted.Faulty stands.Nothing name end fits is = absurd fits

    -- behind one name more the same is asked
    pub behind_more : (stand : Stand) (name next : Name) (more : List Name) (growth : Growth)
        → (asked_behind reading stand (name ∷ next ∷ more) growth)
        ≡ asked_behind reading (next_stand reading stand name growth).stand (next ∷ more) (next_stand reading stand name growth).growth
    behind_more stand name next more growth =
        let step = next_stand reading stand name growth in
        let last : Name = get_or (next ∷ more) (length (next ∷ more) - 1) next in
        let e : length (name ∷ next ∷ more) - 1 ≡ suc (length (next ∷ more) - 1) = omega arith in
        let there : slice_get (next ∷ more) (length (next ∷ more) - 1) ≡ Some last = item_at (next ∷ more) (length (next ∷ more) - 1) next (omega arith) in
        let asks : Growth → Option Name → AskedSlot = λ none o.
        option_map_or (λ (name : Name). asked_of_owner reading.lexicon (rest_stand reading step.stand (take (length (next ∷ more) - 1) (next ∷ more)) step.growth) name.text)
        o (asked_nothing none) in
        ap (λ n. option_map_or (λ (one : Name). asked_of_owner reading.lexicon (rest_stand reading stand (take n (name ∷ next ∷ more)) growth) one.text)
        (slice_get (name ∷ next ∷ more) n) (asked_nothing growth)) e
        ∙ (ap (asks growth) there ∙ sym (ap (asks step.growth) there))

    -- the names of a path ask for a token that is there
    pub asked_fits : (first : ℕ) (meant : Denoted) (stand : Stand) (name : Name) (more : List Name) (growth : Growth) (end : Denoted) → Fits meant stand
        → asked_names facts first meant name more ≡ Ok end → TokenFits end (asked_behind reading stand (name ∷ more) growth).wanted.pred
    asked_fits first meant stand name [] growth end fits is = owner_fits first meant stand name end fits is
    asked_fits first meant stand name (next ∷ more) growth end fits is =
        by (next_denoted facts first meant name) refl is
        (λ further so rest. asked_fits first further (next_stand reading stand name growth).stand next more (next_stand reading stand name growth).growth end so rest)
      where
        by : (u : Understood) → next_denoted facts first meant name ≡ u → found_next (λ further. asked_names facts first further next more) u ≡ Ok end
            → ((further : Denoted) → Fits further (next_stand reading stand name growth).stand → asked_names facts first further next more ≡ Ok end
            → TokenFits end (asked_behind reading (next_stand reading stand name growth).stand (next ∷ more) (next_stand reading stand name growth).growth).wanted.pred)
            → TokenFits end (asked_behind reading stand (name ∷ next ∷ more) growth).wanted.pred
        by (Ok further) here rest behind =
            subst (λ (asked : AskedSlot). TokenFits end asked.wanted.pred) (sym (behind_more stand name next more growth))
            (behind further (next_fits first meant stand name growth further fits here) rest)
        by (Err fault) here rest behind = absurd (cc)

    pub token_there : (end : Denoted) (pred : Option ℕ) → TokenFits end pred → IsSome pred
    token_there (denoted.Token token) (Some pred) fits = refl
    token_there (denoted.Token token) None fits = absurd fits
    token_there (denoted.Value kind constant) (Some pred) fits = absurd fits
    token_there (denoted.Value kind constant) None fits = absurd fits
    token_there (denoted.Class class) (Some pred) fits = absurd fits
    token_there (denoted.Class class) None fits = absurd fits
    token_there denoted.Faulty (Some pred) fits = absurd fits
    token_there denoted.Faulty None fits = absurd fits

-- All that is read in the trees of faultless files means something.
use Rattle.std.proofs.Common.{◌≡◌, ℕ, suc, ◌+◌, ◌<◌, Bool, true, false, ◌&&◌, ◌||◌, List, [], ◌∷◌, get_or, ℤ, pos, refl, sym, ◌∙◌, ap, subst, arith}
use Rattle.std.specs.Prelude.{⊤, Option, Some, None, Ok, Err, All, Contains, slice_get, codes, if◌then◌else◌}
use Rattle.std.specs.List.{AllByRecursion, position_from}
use Rattle.std.specs.Option.{option_and_then, option_map, option_map_or}
use Rattle.std.specs.Str.{bytes_eq}
use Rattle.std.proofs.lemmas.Bool.Decides.{Decides-eqb}
use Rattle.std.proofs.lemmas.List.Elements.{All-weaker, Contains-get_or, recursion_from_All}
use Rattle.std.proofs.lemmas.Option.{same_Some, none-some}
use Rattle.eu_name.specs.declared.name.Part.{Part}
use Rattle.eu_name.specs.declared.name.Part.TheVariants as name_parts
use Rattle.eu_forest.proofs.Fewer.{differs}
use Rattle.model_core.specs.declared.class.Object.{Object}
use Rattle.model_core.specs.declared.variable.ValueKind.TheVariants as value_kinds
use Rattle.model_core.proofs.Items.{item_all}
use Rattle.model_core.specs.declared.item.Term.TheVariants as terms
use Rattle.model_core.specs.declared.variable.VarDecl.{VarDecl}
use Rattle.nddl_ast.specs.declared.declaration.Decl.{Decl}
use Rattle.nddl_ast.specs.declared.declaration.Decl.TheVariants as decls
use Rattle.nddl_ast.specs.declared.declaration.FileDecls.{FileDecls}
use Rattle.nddl_ast.specs.declared.kind.TextKind.TheVariants as faults
use Rattle.nddl_ast.specs.declared.name.Name.{Name}
use Rattle.nddl_ast.specs.declared.statement.Ask.{Ask}
use Rattle.nddl_ast.specs.Path.{last_in_path, last_name}
use Rattle.nddl_ast.specs.Tree.{Statements}
use Rattle.nddl_symbols.specs.declared.declared.Declared.{Declared}
use Rattle.nddl_symbols.specs.declared.declared.Sort.{Sort}
use Rattle.nddl_symbols.specs.declared.declared.Sort.TheVariants as sorts
use Rattle.nddl_symbols.specs.declared.scope.Meaning.{Meaning}
use Rattle.nddl_symbols.specs.declared.scope.Meaning.TheVariants as meanings
use Rattle.nddl_symbols.specs.Joined.{joined_decls}
use Rattle.nddl_symbols.specs.Names.{is_class_sort, scope_names}
use Rattle.nddl_symbols.specs.Scope.{is_class_at, meaning_of, named_number}
use Rattle.nddl_typeexpr.specs.declared.kind.Extent.TheVariants as extents
use Rattle.nddl_typeexpr.specs.declared.kind.TypeKind.{TypeKind}
use Rattle.nddl_typeexpr.specs.declared.kind.TypeKind.TheVariants as kinds
use Rattle.nddl_typeexpr.specs.declared.kind.TypeMeaning.{TypeMeaning}
use Rattle.nddl_typeexpr.specs.Bases.{meaning_kind, sort_kind, typedef_meaning}
use Rattle.nddl_hierarchy.specs.Decls.{decl_of_name}
use Rattle.nddl_hierarchy.specs.Facts.{Facts}
use Rattle.nddl_declarations.specs.Domains.{value_kind}
use Rattle.nddl_types.specs.declared.table.Named.{Named}
use Rattle.nddl_types.specs.declared.table.TypeTable.{TypeTable}
use Rattle.nddl_types.specs.Classes.{class_number, is_first}
use Rattle.nddl_types.specs.Table.{IsTable}
use Rattle.nddl_resolve.specs.declared.denoted.Denoted.{Denoted}
use Rattle.nddl_resolve.specs.declared.denoted.Denoted.TheVariants as denoted
use Rattle.nddl_resolve.specs.declared.denoted.Predicate.{Predicate}
use Rattle.nddl_resolve.specs.declared.denoted.TokenSort.{TokenSort}
use Rattle.nddl_resolve.specs.Fields.{class_field}
use Rattle.nddl_resolve.specs.Files.{declared_ask, declared_value, file_denoted, file_owner, meaning_denoted, root_by, root_value, sort_denoted}
use Rattle.nddl_resolve.specs.Following.{Understood, asked_by, asked_names, asked_rest, found_next, named_token, next_denoted, object_alone, or_faulty, token_with}
use Rattle.nddl_resolve.specs.Predicates.{changing_value, class_predicate, parameter_value, token_part}
use Rattle.nddl_rule_check.specs.Seeing.{token_alone}
use Rattle.nddl_construction.specs.declared.made.MadeObject.{MadeObject}
use Rattle.nddl_construction.specs.declared.made.NamedObject.{NamedObject}
use Rattle.nddl_terms.specs.declared.growth.Growth.{Growth}
use Rattle.nddl_terms.specs.declared.lexicon.Attribute.{Attribute}
use Rattle.nddl_terms.specs.declared.lexicon.Lexicon.{Lexicon}
use Rattle.nddl_terms.specs.declared.lexicon.Shape.{Shape}
use Rattle.nddl_terms.specs.declared.stands.Made.{Made}
use Rattle.nddl_terms.specs.declared.stands.Stand.{Stand}
use Rattle.nddl_terms.specs.declared.stands.Stand.TheVariants as stands
use Rattle.nddl_terms.specs.declared.tree.Meaning as tree
use Rattle.nddl_terms.specs.declared.tree.Meaning.TheVariants as reads
use Rattle.nddl_terms.specs.declared.tree.ReadName.{ReadName}
use Rattle.nddl_terms.specs.Growth.{no_growth}
use Rattle.nddl_terms.specs.Lexicon.{attribute_class, attribute_number, class_objects, part_called, part_class, part_kind, pred_class, pred_params, shape_fields}
use Rattle.nddl_terms.specs.Names.{AreReadInOrder, name_read_at}
use Rattle.nddl_terms.specs.PlainTree.{PlainTree}
use Rattle.nddl_terms.specs.Readings.{Readings}
use Rattle.nddl_terms.specs.Stands.{file_stand, meaning_stand}
use Rattle.nddl_env.specs.Lexicons.{asked_name, denoted_class, denoted_kind, lexicon_of, name_stand, object_stand, root_of_class, root_stand, sort_shape, sort_stand, token_class}
use Rattle.nddl_env.specs.Shapes.{World, kind_class, shape_with}
use Rattle.nddl_rules.specs.Reads.{own_part}
use Rattle.nddl_rules.specs.Sight.{no_sight}
use Rattle.nddl_rules.specs.Tally.{no_tally}
use Rattle.nddl_rules.specs.Told.{AreFileTrees}
use Rattle.nddl_lower.specs.Locals.{class_shape, file_shape, meaning_shape, stand_shape}
use Rattle.nddl_unroll.specs.Counting.{tree_amounts}
use Rattle.nddl_unroll.specs.Exact.{AreCounted, unrolled_amounts}
use Rattle.nddl_unroll.specs.Meant.{AreMeant, IsTreeMeant}
use Rattle.nddl_unroll.specs.Rules.{tree_readings}
use Rattle.nddl_unroll.proofs.ExactTrees.{limits_exact, trees_exact}
use Rattle.nddl_laws.specs.Given.{AreGiven}
use Rattle.nddl_laws.specs.Scoping.{file_read, scope_entry, sources_in}
use Rattle.nddl_laws.proofs.Apart.{all_both, all_weaker}
use Rattle.nddl_laws.proofs.Knowledge.{one_facts}
use Rattle.nddl_laws.proofs.Ordered.{trees_ordered}
use Rattle.nddl_laws.proofs.Parents.{few_builtin, meant_class}
use Rattle.nddl_laws.proofs.WholeTypes.{base_means}
use Rattle.nddl_rules.specs.Blocks.{block_names}
use Rattle.nddl_rule_laws.specs.Grounds.{HasFineText, of_body, of_rule}
use Rattle.nddl_rule_laws.specs.Meanings.{AreMade, IsNamedClass, LimitsAreTold, TreesAreCounted, TreesAreMeant}
use Rattle.nddl_rule_laws.proofs.Classes.{Extended, IsBelow, are_facts, below_itself, first_means, first_number, right}
use Rattle.nddl_rule_laws.proofs.Fits.{FieldFits, Fits, KindFits, PartFits, PredFits, ShapeFits, ValueFits}
use Rattle.nddl_rule_laws.proofs.Grounds.{IsGrounded, all_grounded, ground_is, ground_of}
use Rattle.nddl_rule_laws.proofs.TypeKinds.{IsThere, KindThere, builtin_there, entry_there, typedef_there}
use Rattle.nddl_rule_laws.proofs.Lexicon.{IsPredOf, class_of_pred, has_parameter, has_pred, owner_extended, params_named, same_positions}
use Rattle.nddl_rule_laws.proofs.Owners.{class_found, owner}
use Rattle.nddl_rule_laws.proofs.Placing.{rule_at}
use Rattle.nddl_rule_laws.proofs.Rising.{text_once}
use Rattle.nddl_rule_laws.proofs.Scopes.{global_value, place_aligned}
use Rattle.nddl_rule_laws.proofs.Shapes.{field_below, field_found, has_field, type_known}
use Rattle.nddl_rule_laws.proofs.Sights.{Holding, InNames, IsSetting, none_seen}
use Rattle.nddl_rule_laws.proofs.Statements.{all_single, block_meant, body_meant}

-- ---- names in order

-- each name is read where it stands
pub names_read : (names : List ReadName) → AreReadInOrder names → InNames names names
names_read [] ordered = tt
names_read (read ∷ more) ordered =
    let later : AllByRecursion (λ (other : ReadName). read.at < other.at) more =
    recursion_from_All (λ (other : ReadName). read.at < other.at) more (λ k d within. ordered 0 (suc k) d (omega arith) (omega (arith, within))) in
    let rest = names_read more (λ i j d less within. ordered (suc i) (suc j) d (omega (arith, less)) (omega (arith, within))) in
    let N : ReadName → Type 0 = λ other. name_read_at other.at more ≡ Some other.meaning in
    let B : ReadName → Type 0 = λ other. read.at < other.at in (
      ap (λ b. if b then Some read.meaning else name_read_at read.at more) ((Decides-eqb read.at read.at).1 refl),
      all_weaker (λ (other : ReadName). (read.at < other.at) × (name_read_at other.at more ≡ Some other.meaning))
          (λ (other : ReadName). name_read_at other.at (read ∷ more) ≡ Some other.meaning) more
          (λ other one.
          ap (λ b. if b then Some read.meaning else name_read_at other.at more) (differs read.at other.at (λ same. let less : read.at < other.at = one.0 in omega (arith, less, same)))
          ∙ one.1)
          (all_both B N more later rest),
    )

-- ---- the last name of a path

asked_token_is : (facts : Facts) (class : Meaning) (name : Name) (token : TokenSort) → named_token facts class name ≡ Ok (denoted.Token token)
    → class_predicate facts name.text token.class ≡ Some token.predicate
asked_token_is facts class name token is = by (class_predicate facts name.text class) refl is
  where
    by : (o : Option Predicate) → class_predicate facts name.text class ≡ o → token_with class name o ≡ Ok (denoted.Token token)
        → class_predicate facts name.text token.class ≡ Some token.predicate
    by None found none = absurd (cc)
    by (Some predicate) found some =
        let same : denoted.Token (record { class = class; predicate = predicate }) ≡ denoted.Token token =
        same_understood (denoted.Token (record { class = class; predicate = predicate })) (denoted.Token token) some in
        let e : record { class = class; predicate = predicate } ≡ token = same_token (record { class = class; predicate = predicate }) token same in
        subst (λ (t : TokenSort). class_predicate facts name.text t.class ≡ Some t.predicate) e found
      where
        same_understood : (one other : Denoted) → ◌≡◌ {A = Understood} (Ok one) (Ok other) → one ≡ other
        same_understood one other same = cc

        same_token : (one other : TokenSort) → denoted.Token one ≡ denoted.Token other → one ≡ other
        same_token one other same = cc

asked_last : (facts : Facts) (first : ℕ) (here : Denoted) (name : Name) (more : List Name) (token : TokenSort)
    → asked_names facts first here name more ≡ Ok (denoted.Token token)
    → class_predicate facts (last_in_path name more).text token.class ≡ Some token.predicate
asked_last facts first (denoted.Value (kinds.Object class) constant) name [] token is = asked_token_is facts class name token is
asked_last facts first (denoted.Value kinds.Int constant) name [] token is = absurd (cc)
asked_last facts first (denoted.Value kinds.Float constant) name [] token is = absurd (cc)
asked_last facts first (denoted.Value kinds.Bool constant) name [] token is = absurd (cc)
asked_last facts first (denoted.Value (kinds.Enum of) constant) name [] token is = absurd (cc)
asked_last facts first (denoted.Token other) name [] token is = absurd (cc)
asked_last facts first (denoted.Class class) name [] token is = asked_token_is facts class name token is
asked_last facts first denoted.Faulty name [] token is = absurd (cc)
asked_last facts first here name (next ∷ more) token is =
    by (next_denoted facts first here name) is (λ further rest. asked_last facts first further next more token rest)
  where
    by : (u : Understood) → found_next (λ further. asked_names facts first further next more) u ≡ Ok (denoted.Token token)
        → ((further : Denoted) → asked_names facts first further next more ≡ Ok (denoted.Token token)
        → class_predicate facts (last_in_path next more).text token.class ≡ Some token.predicate)
        → class_predicate facts (last_in_path next more).text token.class ≡ Some token.predicate
    by (Ok further) rest behind = behind further rest
    by (Err fault) rest behind = absurd (cc)

-- the declaration of a label that denotes a token
record AsksFor (facts : Facts) (declared : Declared) (token : TokenSort) : Type 0 where
  ask : Ask
  there : decl_of_name facts.program declared ≡ Some (decls.Ask ask)
  found : class_predicate facts (last_name ask.path).text token.class ≡ Some token.predicate

root_asks : (facts : Facts) (declared : Declared) (token : TokenSort) → root_value facts declared ≡ denoted.Token token → AsksFor facts declared token
root_asks facts declared token is = by (decl_of_name facts.program declared) refl is
  where
    faulty : denoted.Faulty ≡ denoted.Token token → ⊥
    faulty same = cc

    fully : (u : Understood) → or_faulty u ≡ denoted.Token token → u ≡ Ok (denoted.Token token)
    fully (Ok meant) same = ap (λ d. Ok d) same
    fully (Err fault) same = absurd (faulty same)

    last : (ask : Ask) (owner : Denoted) (rest : List Name) → asked_rest facts ask.path.first.at owner rest ≡ Ok (denoted.Token token)
        → class_predicate facts (last_in_path ask.path.first rest).text token.class ≡ Some token.predicate
    last ask owner [] none = absurd (cc)
    last ask owner (name ∷ more) some = asked_last facts ask.path.first.at owner name more token some

    owned : (ask : Ask) (o : Option Denoted)
        → option_map_or (λ owner. or_faulty (asked_by facts owner ask.path)) o denoted.Faulty ≡ denoted.Token token
        → class_predicate facts (last_name ask.path).text token.class ≡ Some token.predicate
    owned ask None same = absurd (faulty same)
    owned ask (Some owner) same = last ask owner ask.path.rest (fully (asked_by facts owner ask.path) same)

    by : (o : Option Decl) → decl_of_name facts.program declared ≡ o
        → option_map_or (λ (ask : Ask). root_by facts ask.path) (option_and_then declared_ask o) denoted.Faulty ≡ denoted.Token token
        → AsksFor facts declared token
    by None there same = absurd (faulty same)
    by (Some (decls.Ask ask)) there same =
        record { ask = ask; there = there; found = owned ask (file_owner facts ask.path.first.text) same }
    by (Some (decls.Include at file file_at)) there same = absurd (faulty same)
    by (Some (decls.Enum at name members_at some)) there same = absurd (faulty same)
    by (Some (decls.Typedef at type name)) there same = absurd (faulty same)
    by (Some (decls.Forward at name)) there same = absurd (faulty same)
    by (Some (decls.Class at name parent some)) there same = absurd (faulty same)
    by (Some (decls.Rule class predicate body)) there same = absurd (faulty same)
    by (Some (decls.Variable variable)) there same = absurd (faulty same)
    by (Some (decls.Call call)) there same = absurd (faulty same)

module _ (files : List FileDecls) (table : TypeTable) (given : AreGiven files) (is : IsTable files table) (named_objects : List NamedObject)
    (made_objects : List MadeObject) (objects : List Object)
    (made : AreMade (record { facts = is.facts; enums = table.enums; named_objects = named_objects; objects = made_objects }) objects) where
  abbrev world : World
  world = record { facts = is.facts; enums = table.enums; named_objects = named_objects; objects = made_objects }

  abbrev lexicon : Lexicon
  lexicon = lexicon_of world

  -- ---- what serves for what

  abbrev pub IsFor : Meaning → ℕ → Type 0
  IsFor class number = (it : Extended files table given is number) × IsBelow is.facts it.class class

  abbrev pub IsPredFor : TokenSort → ℕ → Type 0
  IsPredFor = IsPredOf files table given is named_objects made_objects

  abbrev IsThing : ℕ → ℤ → Type 0
  IsThing number value = Contains (class_objects lexicon number) value

  -- a class that there is serves for itself
  there_for : (class : Meaning) (number : ℕ) → IsThere files table given is class → number ≡ class_number is.facts.names class → IsFor class number
  there_for class number there same =
      subst (IsFor class) (sym same) (there.0, subst (λ c. IsBelow is.facts c class) (sym there.1) (below_itself is.facts class))

  kind_fits : (kind : TypeKind) (number : ℕ) → KindThere files table given is kind
      → ((of : Meaning) → kind ≡ kinds.Object of → number ≡ class_number is.facts.names of) → KindFits IsFor IsPredFor IsThing kind number
  kind_fits (kinds.Object class) number there same = there_for class number there (same class refl)
  kind_fits kinds.Int number there same = tt
  kind_fits kinds.Float number there same = tt
  kind_fits kinds.Bool number there same = tt
  kind_fits (kinds.Enum of) number there same = tt

  value_fits : (kind : TypeKind) (number : ℕ) (value : ℤ) → ((of : Meaning) → kind ≡ kinds.Object of → IsThing number value)
      → ValueFits IsFor IsPredFor IsThing kind number value
  value_fits (kinds.Object class) number value inside = inside class refl
  value_fits kinds.Int number value inside = tt
  value_fits kinds.Float number value inside = tt
  value_fits kinds.Bool number value inside = tt
  value_fits (kinds.Enum of) number value inside = tt

  -- a class that some name means is there
  named_there : (class : Meaning) → IsNamedClass is.facts class → IsThere files table given is class
  named_there (meanings.BuiltIn number) it = builtin_there files table given is number (few_builtin is.facts.names it.name number it.means)
  named_there (meanings.Entry entry) it =
      let found = meant_class is.facts.names it.name entry it.means (class_at (is_class_at is.facts.names entry) it.right) in
      entry_there files table given is entry found.0 found.1 found.2
    where
      class_at : (b : Bool) → (if b then None else Some faults.WrongType) ≡ None → b ≡ true
      class_at true one = refl
      class_at false one = absurd (none-some faults.WrongType (sym one))

  -- ---- what follows a name

  field_serves : (class : Meaning) (number : ℕ) (constant : Bool) (name : List ℕ) (found : Denoted) → IsFor class number
      → class_field is.facts constant name class ≡ Some found
      → FieldFits IsFor IsPredFor IsThing objects number name (shape_fields lexicon number) found
  field_serves class number constant name found for there =
      let has = has_field files table given is named_objects made_objects constant name number for.0 found
      (field_below is.facts constant name for.0.class class found for.1 (field_found is.facts name constant class found there)) in
      record {
        kind = has.kind;
        constant = constant;
        is = has.is_value;
        number = has.place;
        attribute = has.attribute;
        named = has.named;
        there = has.at;
        is_kind = has.is_kind;
        fits = kind_fits has.kind has.attribute.shape.class has.there has.class_is;
        known = λ value thing.
            let content = made.whole number has.place value has.attribute thing has.at in
            (content.content, content.known, value_fits has.kind has.attribute.shape.class content.content (λ of kind. content.inside (has.is_kind ∙ ap value_kind kind)));
      }

  predicate_serves : (class : Meaning) (number : ℕ) (name : List ℕ) (found : Predicate) → IsFor class number → class_predicate is.facts name class ≡ Some found
      → PredFits IsFor IsPredFor IsThing lexicon number name (record { class = class; predicate = found })
  predicate_serves class number name found for there =
      let has = has_pred files table given is named_objects made_objects number name (record { class = class; predicate = found }) for.0 for.1
      (class_found is.facts name class found there) in
      record { pred = has.place; named = has.named; fits = has.serves }

  -- the class of a token's object
  own_for : (token : TokenSort) (number : ℕ) → IsPredFor token number → IsFor token.class (pred_class lexicon number)
  own_for token number it =
      subst (IsFor token.class) (sym (class_of_pred files table given is named_objects made_objects number it.pred it.at))
      (owner_extended files table given is named_objects made_objects number it.pred it.at, it.below)

  part_serves : (token : TokenSort) (number : ℕ) (name : List ℕ) (found : Denoted) → IsPredFor token number → token_part is.facts name token ≡ Some found
      → PartFits IsFor IsPredFor IsThing lexicon number name found
  part_serves token number name found for there =
      let it = by (bytes_eq name (codes "start")) (bytes_eq name (codes "end")) (bytes_eq name (codes "duration")) (bytes_eq name (codes "object")) there in
      record { kind = it.0; constant = false; is = it.1; part = it.2.0; named = it.2.1; is_kind = it.2.2; fits = it.2.3 }
    where
      by : (start end duration object : Bool)
          → (if start || (end || duration) then Some (changing_value kinds.Int)
          else (if object then Some (changing_value (kinds.Object token.class)) else parameter_value is.facts name token.predicate)) ≡ Some found
          → (kind : TypeKind) × (found ≡ denoted.Value kind false)
          × ((part : Part) × ((if start then Some name_parts.Start
          else (if end then Some name_parts.End
          else (if duration then Some name_parts.Duration
          else (if object then Some name_parts.Object else option_map name_parts.Param (attribute_number name (pred_params lexicon number)))))) ≡ Some part)
          × (part_kind lexicon number part ≡ value_kind kind) × KindFits IsFor IsPredFor IsThing kind (part_class lexicon number part))
      by true end duration object same = (kinds.Int, sym (same_Some (denoted.Value kinds.Int false) found same), (name_parts.Start, refl, refl, tt))
      by false true duration object same = (kinds.Int, sym (same_Some (denoted.Value kinds.Int false) found same), (name_parts.End, refl, refl, tt))
      by false false true object same = (kinds.Int, sym (same_Some (denoted.Value kinds.Int false) found same), (name_parts.Duration, refl, refl, tt))
      by false false false true same =
          (kinds.Object token.class, sym (same_Some (denoted.Value (kinds.Object token.class) false) found same), (name_parts.Object, refl, refl, own_for token number for))
      by false false false false same =
          let has = has_parameter files table given is named_objects made_objects token number name found for same in
          let class_is : attribute_class (pred_params lexicon number) has.place ≡ has.attribute.shape.class =
          ap (λ o. option_map_or (λ (attribute : Attribute). attribute.shape.class) o 0) has.at in (
            has.kind,
            has.is_value,
            (
              name_parts.Param has.place,
              ap (option_map name_parts.Param) has.named,
              ap (λ o. option_map_or (λ (attribute : Attribute). attribute.shape.kind) o value_kinds.Int) has.at ∙ has.is_kind,
              kind_fits has.kind (attribute_class (pred_params lexicon number) has.place) has.there (λ of kind. class_is ∙ has.class_is of kind),
            ),
          )

  -- ---- names of the files

  -- an entry of the table, by its place
  record HasPlace (place : ℕ) (meaning : Meaning) : Type 0 where
    entry : ℕ
    is_entry : meaning ≡ meanings.Entry entry
    declared : Declared
    there : slice_get is.facts.names entry ≡ Some declared
    first : is_first is.facts.names entry declared ≡ true
    globals : ℕ
    roots : ℕ
    stand : slice_get lexicon.scope place ≡ Some (name_stand world entry globals roots declared)
    shape : slice_get lexicon.types place ≡ Some (sort_shape world entry declared.sort)

  has_place : (place : ℕ) (meaning : Meaning) → scope_entry is.facts.names table.scope place ≡ Some meaning → HasPlace place meaning
  has_place place meaning found = by (slice_get table.scope place) refl found
    where
      by : (o : Option Named) → slice_get table.scope place ≡ o
          → option_and_then (λ (named : Named). option_map meanings.Entry (named_number false is.facts.names named.name)) o ≡ Some meaning → HasPlace place meaning
      by None at same = absurd (none-some meaning same)
      by (Some named) at same =
          let it = place_aligned files table given is named_objects made_objects place named at in
          let e : it.entry ≡ it.offset = (let sum : it.entry ≡ 0 + it.offset = it.is_entry in omega arith) in
          let first : named_number false is.facts.names it.declared.name ≡ Some it.entry =
          first_number (named_number false is.facts.names it.declared.name) it.entry it.first in
          let number : named_number false is.facts.names named.name ≡ Some it.entry = ap (named_number false is.facts.names) it.name_is ∙ first in
          record {
            entry = it.entry;
            is_entry = same_Some meaning (meanings.Entry it.entry) (sym same ∙ ap (option_map meanings.Entry) number);
            declared = it.declared;
            there = ap (slice_get is.facts.names) e ∙ it.there;
            first = it.first;
            globals = it.globals;
            roots = it.roots;
            stand = it.stand;
            shape = it.shape;
          }

  -- a class of the files
  class_entry : (entry : ℕ) (declared : Declared) (sort : Sort) → slice_get is.facts.names entry ≡ Some declared → is_first is.facts.names entry declared ≡ true
      → declared.sort ≡ sort → is_class_sort sort ≡ true → IsThere files table given is (meanings.Entry entry)
  class_entry entry declared sort there first same class =
      entry_there files table given is entry declared there
      (let own : is_class_sort declared.sort ≡ true = ap is_class_sort same ∙ class in λ i. own i && first i)

  -- what stands for a name of this sort
  sort_fits : (entry globals roots : ℕ) (declared : Declared) (sort : Sort) (meant : Denoted) → slice_get is.facts.names entry ≡ Some declared
      → is_first is.facts.names entry declared ≡ true → declared.sort ≡ sort → sort_denoted is.facts entry declared sort ≡ Some meant
      → Fits IsFor IsPredFor IsThing meant (sort_stand world entry globals roots declared (Some meant) sort)
  sort_fits entry globals roots declared (sorts.Member of place) meant there first same found =
      subst (λ d. Fits IsFor IsPredFor IsThing d (stands.Value (terms.Lit (pos place)) (value_kinds.Enum of) 0)) (same_Some (denoted.Value (kinds.Enum of) true) meant found) (refl, tt, tt)
  sort_fits entry globals roots declared sorts.Global meant there first same found =
      let it = global_value files table given is named_objects made_objects entry declared there same in
      let known = type_known files table given is named_objects made_objects it.2.0 it.0 it.2.1 in
      let value : meant ≡ denoted.Value known.0 false =
      sym (same_Some (declared_value is.facts false declared) meant found)
      ∙ (it.1 ∙ ap (λ o. option_map_or (λ (k : TypeKind). denoted.Value k false) o denoted.Faulty) known.1) in
      subst (λ d. Fits IsFor IsPredFor IsThing d (stands.Value (terms.Global globals) (denoted_kind (Some d)) (denoted_class world (Some d)))) (sym value)
      (refl, kind_fits known.0 (kind_class is.facts.names known.0) known.2 (λ of kind. ap (kind_class is.facts.names) kind), tt)
  sort_fits entry globals roots declared sorts.Object meant there first same found =
      let it = made.named entry declared there same in
      let class = class_number is.facts.names it.class in
      let value : meant ≡ denoted.Value (kinds.Object it.class) true =
      sym (same_Some (object_alone (declared_value is.facts true declared)) meant found) ∙ ap object_alone it.denotes in
      subst (λ d. Fits IsFor IsPredFor IsThing d (object_stand world entry (denoted_class world (Some d)))) (sym value)
      (subst (λ (o : Option ℤ). Fits IsFor IsPredFor IsThing (denoted.Value (kinds.Object it.class) true)
      (option_map_or (λ value. stands.Value (terms.Lit value) value_kinds.Object class) o stands.Nothing)) (sym it.made)
      (refl, there_for it.class class (named_there it.class it.is_class) refl, it.inside))
  sort_fits entry globals roots declared sorts.Root meant there first same found =
      let it = made.posted entry declared there same in
      let value : meant ≡ denoted.Token it.token = sym (same_Some (root_value is.facts declared) meant found) ∙ it.denotes in
      let asks = root_asks is.facts declared it.token it.denotes in
      let class = named_there it.token.class it.is_class in
      let has = has_pred files table given is named_objects made_objects (class_number is.facts.names it.token.class) (last_name asks.ask.path).text it.token class.0
      (subst (λ c. IsBelow is.facts c it.token.class) (sym class.1) (below_itself is.facts it.token.class))
      (class_found is.facts (last_name asks.ask.path).text it.token.class it.token.predicate asks.found) in
      subst (λ d. Fits IsFor IsPredFor IsThing d (root_stand world roots declared (Some d))) (sym value)
      (subst (λ (o : Option Decl). Fits IsFor IsPredFor IsThing (denoted.Token it.token)
      (option_map_or (λ (name : Name). option_map_or (root_of_class world roots name.text) (token_class (Some (denoted.Token it.token))) stands.Nothing)
      (option_and_then asked_name o) stands.Nothing)) (sym asks.there)
      (subst (λ (o : Option ℕ). Fits IsFor IsPredFor IsThing (denoted.Token it.token) (option_map_or (stands.Root roots) o stands.Nothing)) (sym has.named) has.serves))
  sort_fits entry globals roots declared sorts.Forward meant there first same found =
      subst (λ d. Fits IsFor IsPredFor IsThing d (stands.Class (class_number is.facts.names (meanings.Entry entry))))
      (same_Some (denoted.Class (meanings.Entry entry)) meant found)
      (there_for (meanings.Entry entry) (class_number is.facts.names (meanings.Entry entry)) (class_entry entry declared sorts.Forward there first same refl) refl)
  sort_fits entry globals roots declared sorts.Body meant there first same found =
      subst (λ d. Fits IsFor IsPredFor IsThing d (stands.Class (class_number is.facts.names (meanings.Entry entry))))
      (same_Some (denoted.Class (meanings.Entry entry)) meant found)
      (there_for (meanings.Entry entry) (class_number is.facts.names (meanings.Entry entry)) (class_entry entry declared sorts.Body there first same refl) refl)
  sort_fits entry globals roots declared (sorts.Enum number) meant there first same found = absurd (none-some meant found)
  sort_fits entry globals roots declared sorts.Typedef meant there first same found = absurd (none-some meant found)
  sort_fits entry globals roots declared sorts.Config meant there first same found = absurd (none-some meant found)

  module _ (reading : Readings) (same_lexicon : reading.lexicon ≡ lexicon) where
    -- what stands for a name of the files fits what it denotes
    files_fit : (name : List ℕ) (read : tree.Meaning) (meaning : Meaning) (meant : Denoted) → meaning_of is.facts.names name ≡ Some meaning
        → file_read is.facts.names table.scope read ≡ Some meaning → meaning_denoted is.facts meaning ≡ Some meant
        → (stand : Stand) × ((turns : List Made) (growth : Growth) → meaning_stand reading turns growth read ≡ Some stand) × Fits IsFor IsPredFor IsThing meant stand
    files_fit name (reads.BuiltIn number) meaning meant means found denotes =
        let same : meanings.BuiltIn number ≡ meaning = same_Some (meanings.BuiltIn number) meaning found in
        let few = few_builtin is.facts.names name number (means ∙ ap (λ m. Some m) (sym same)) in
        let value : denoted.Class (meanings.BuiltIn number) ≡ meant =
        same_Some (denoted.Class (meanings.BuiltIn number)) meant (ap (meaning_denoted is.facts) same ∙ denotes) in (
          stands.Class number,
          (λ turns growth. refl),
          subst (λ d. Fits IsFor IsPredFor IsThing d (stands.Class number)) value
              (there_for (meanings.BuiltIn number) number (builtin_there files table given is number few) refl),
        )
    files_fit name (reads.Scope place) meaning meant means found denotes =
        let it = has_place place meaning found in
        let told : sort_denoted is.facts it.entry it.declared it.declared.sort ≡ Some meant =
        sym (ap (option_and_then (λ (d : Declared). sort_denoted is.facts it.entry d d.sort)) it.there) ∙ (sym (ap (meaning_denoted is.facts) it.is_entry) ∙ denotes) in
        let own : file_denoted is.facts it.declared.name ≡ Some meant =
        ap (option_and_then (meaning_denoted is.facts)) (first_means files table given is it.entry it.declared it.there it.first)
        ∙ (ap (meaning_denoted is.facts) (sym it.is_entry) ∙ denotes) in
        let fits = sort_fits it.entry it.globals it.roots it.declared it.declared.sort meant it.there it.first refl told in (
          name_stand world it.entry it.globals it.roots it.declared,
          (λ turns growth. ap (λ (l : Lexicon). file_stand l place) same_lexicon ∙ it.stand),
          subst (λ o. Fits IsFor IsPredFor IsThing meant (sort_stand world it.entry it.globals it.roots it.declared o it.declared.sort)) (sym own) fits,
        )
    files_fit name (reads.Turn number) meaning meant means found denotes = absurd (none-some meaning found)
    files_fit name (reads.Local number) meaning meant means found denotes = absurd (none-some meaning found)
    files_fit name (reads.Slot number) meaning meant means found denotes = absurd (none-some meaning found)
    files_fit name (reads.Here part) meaning meant means found denotes = absurd (none-some meaning found)

  abbrev Shaped : TypeKind → Shape → Type 0
  Shaped = ShapeFits IsFor IsPredFor IsThing

  -- what a variable may be whose type is a name of the files
  shape_fits : (place : ℕ) (kind : TypeKind) (meaning : Meaning) (has : HasPlace place meaning)
      → meaning_kind is.facts.names is.facts.known meaning ≡ Some kind → Shaped kind (file_shape lexicon place)
  shape_fits place kind meaning has found =
      by has.declared.sort refl
      (sym (ap (option_and_then (λ (d : Declared). sort_kind is.facts.known has.entry d.sort)) has.there)
      ∙ (sym (ap (meaning_kind is.facts.names is.facts.known) has.is_entry) ∙ found))
    where
      shaped : (o : Option Shape) → slice_get lexicon.types place ≡ Some o → file_shape lexicon place
          ≡ option_map_or (λ (shape : Shape). shape) o (stand_shape lexicon (file_stand lexicon place))
      shaped o at = ap (λ q. option_map_or (λ (shape : Shape). shape) (option_and_then (λ (shape : Option Shape). shape) q) (stand_shape lexicon (file_stand lexicon place))) at

      class_case : (sort : Sort) → has.declared.sort ≡ sort → is_class_sort sort ≡ true → sort_shape world has.entry sort ≡ None
          → sort_stand world has.entry has.globals has.roots has.declared (file_denoted is.facts has.declared.name) sort
          ≡ stands.Class (class_number is.facts.names (meanings.Entry has.entry))
          → kinds.Object (meanings.Entry has.entry) ≡ kind → Shaped kind (file_shape lexicon place)
      class_case sort same class none stand is_kind =
          let number = class_number is.facts.names (meanings.Entry has.entry) in
          let types_none : slice_get lexicon.types place ≡ Some None = has.shape ∙ ap (λ o. Some o) (ap (sort_shape world has.entry) same ∙ none) in
          let stand_is : file_stand lexicon place ≡ Some (stands.Class number) =
          has.stand ∙ ap (λ s. Some s) (ap (sort_stand world has.entry has.globals has.roots has.declared (file_denoted is.facts has.declared.name)) same ∙ stand) in
          let shape_is : file_shape lexicon place ≡ class_shape lexicon number = shaped None types_none ∙ ap (stand_shape lexicon) stand_is in
          subst (λ k. Shaped k (file_shape lexicon place)) is_kind
          (subst (Shaped (kinds.Object (meanings.Entry has.entry))) (sym shape_is)
          (refl, there_for (meanings.Entry has.entry) number (class_entry has.entry has.declared sort has.there has.first same class) refl))

      -- the type of the name means this
      meant_case : (m : TypeMeaning) → slice_get lexicon.types place ≡ Some (Some (shape_with world m)) → KindThere files table given is m.kind
          → Shaped m.kind (file_shape lexicon place)
      meant_case m shape_there there =
          subst (Shaped m.kind) (sym (shaped (Some (shape_with world m)) shape_there))
          (refl, kind_fits m.kind (kind_class is.facts.names m.kind) there (λ of same_kind. ap (kind_class is.facts.names) same_kind))

      typedef_case : (o : Option TypeMeaning) → typedef_meaning is.facts.known has.entry ≡ o → has.declared.sort ≡ sorts.Typedef
          → option_map (λ (m : TypeMeaning). m.kind) o ≡ Some kind → Shaped kind (file_shape lexicon place)
      typedef_case None known same none = absurd (none-some kind none)
      typedef_case (Some m) known same some =
          let shape_there : slice_get lexicon.types place ≡ Some (Some (shape_with world m)) =
          has.shape ∙ ap (λ o. Some o) (ap (sort_shape world has.entry) same ∙ ap (option_map (shape_with world)) known) in
          subst (λ k. Shaped k (file_shape lexicon place)) (same_Some m.kind kind some)
          (meant_case m shape_there (typedef_there files table given is has.entry m known))

      by : (sort : Sort) → has.declared.sort ≡ sort → sort_kind is.facts.known has.entry sort ≡ Some kind → Shaped kind (file_shape lexicon place)
      by (sorts.Enum number) same told =
          subst (λ k. Shaped k (file_shape lexicon place)) (same_Some (kinds.Enum number) kind told)
          (meant_case (record { kind = kinds.Enum number; extent = extents.Whole })
          (has.shape ∙ ap (λ o. Some o) (ap (sort_shape world has.entry) same)) tt)
      by sorts.Typedef same told = typedef_case (typedef_meaning is.facts.known has.entry) refl same told
      by sorts.Forward same told = class_case sorts.Forward same refl refl refl (same_Some (kinds.Object (meanings.Entry has.entry)) kind told)
      by sorts.Body same told = class_case sorts.Body same refl refl refl (same_Some (kinds.Object (meanings.Entry has.entry)) kind told)
      by (sorts.Member of number) same told = absurd (none-some kind told)
      by sorts.Global same told = absurd (none-some kind told)
      by sorts.Object same told = absurd (none-some kind told)
      by sorts.Root same told = absurd (none-some kind told)
      by sorts.Config same told = absurd (none-some kind told)

  bases_fit : (name : List ℕ) (read : tree.Meaning) (meaning : Meaning) (kind : TypeKind) → meaning_of is.facts.names name ≡ Some meaning
      → file_read is.facts.names table.scope read ≡ Some meaning → meaning_kind is.facts.names is.facts.known meaning ≡ Some kind
      → Shaped kind (meaning_shape lexicon (Some read))
  bases_fit name (reads.BuiltIn number) meaning kind means found kind_is =
      let same : meanings.BuiltIn number ≡ meaning = same_Some (meanings.BuiltIn number) meaning found in
      let few = few_builtin is.facts.names name number (means ∙ ap (λ m. Some m) (sym same)) in
      let value : kinds.Object (meanings.BuiltIn number) ≡ kind =
      same_Some (kinds.Object (meanings.BuiltIn number)) kind (ap (meaning_kind is.facts.names is.facts.known) same ∙ kind_is) in
      subst (λ k. Shaped k (class_shape lexicon number)) value
      (refl, there_for (meanings.BuiltIn number) number (builtin_there files table given is number few) refl)
  bases_fit name (reads.Scope place) meaning kind means found kind_is = shape_fits place kind meaning (has_place place meaning found) kind_is
  bases_fit name (reads.Turn number) meaning kind means found kind_is = absurd (none-some meaning found)
  bases_fit name (reads.Local number) meaning kind means found kind_is = absurd (none-some meaning found)
  bases_fit name (reads.Slot number) meaning kind means found kind_is = absurd (none-some meaning found)
  bases_fit name (reads.Here part) meaning kind means found kind_is = absurd (none-some meaning found)

  -- ---- one tree

  own_parts : (number : ℕ) (params : List VarDecl) (name : List ℕ)
      → position_from (λ (attribute : Attribute). bytes_eq name attribute.name) 0 (pred_params lexicon number)
      ≡ position_from (λ (param : VarDecl). bytes_eq name param.name) 0 params
      → own_part params name ≡ part_called lexicon number name
  own_parts number params name same = λ i.
      if bytes_eq name (codes "start") then Some name_parts.Start
      else (if bytes_eq name (codes "end") then Some name_parts.End
      else (if bytes_eq name (codes "duration") then Some name_parts.Duration
      else (if bytes_eq name (codes "object") then Some name_parts.Object else option_map name_parts.Param (sym same i))))

  module _ (IsHeld : Stand → Type 0) where
    read_held : (reading : Readings) (holds : Holding IsHeld reading) (read : tree.Meaning) (meaning : Meaning) (stand : Stand)
        → file_read is.facts.names table.scope read ≡ Some meaning → meaning_stand reading [] no_growth read ≡ Some stand → IsHeld stand
    read_held reading holds (reads.BuiltIn number) meaning stand found stands_so =
        subst IsHeld (same_Some (stands.Class number) stand stands_so) (holds.class number)
    read_held reading holds (reads.Scope place) meaning stand found stands_so = item_all IsHeld reading.lexicon.scope place stand holds.scope stands_so
    read_held reading holds (reads.Turn number) meaning stand found stands_so = absurd (none-some meaning found)
    read_held reading holds (reads.Local number) meaning stand found stands_so = absurd (none-some meaning found)
    read_held reading holds (reads.Slot number) meaning stand found stands_so = absurd (none-some meaning found)
    read_held reading holds (reads.Here part) meaning stand found stands_so = absurd (none-some meaning found)

    pub setting_of : (tree : PlainTree) (it : IsGrounded files table given is tree) → Holding IsHeld (tree_readings lexicon objects tree)
        → IsSetting IsFor IsPredFor IsThing IsHeld files (ground_of files table given is tree it) (tree_readings lexicon objects tree)
    setting_of tree it holds =
        let reading = tree_readings lexicon objects tree in
        let own : IsPredFor it.token tree.pred = record { pred = it.pred; at = it.at; below = it.below; found = it.found } in
        record {
          is_ground = ground_is files table given is tree it;
          serves = record { field = field_serves; predicate = predicate_serves; part = part_serves };
          own = own;
          parts = λ name. own_parts tree.pred it.pred.params name
              (same_positions name 0 (pred_params lexicon tree.pred) it.pred.params (params_named files table given is named_objects made_objects tree.pred it.pred it.at));
          parts_held = holds.own;
          files_fit = λ name read meaning meant means found denotes.
              let one = files_fit reading refl name read meaning meant means found denotes in
              (one.0, one.1, (one.2, read_held reading holds read meaning one.0 found (one.1 [] no_growth)));
          own_class = own_for it.token tree.pred own;
          bases_mean = base_means is.facts (are_facts files table given is) is.fine (right files table given is);
          bases_fit = bases_fit;
          things = λ number k d within. Contains-get_or (class_objects lexicon number) k d within;
        }

  abbrev Anything : Stand → Type 0
  Anything stand = ⊤

  anything : (reading : Readings) → Holding Anything reading
  anything reading = record { scope = λ k d within. tt; class = λ number. tt; own = λ name part named. tt }

  tree_meant : (tree : PlainTree) → AreReadInOrder tree.names → IsGrounded files table given is tree → IsTreeMeant lexicon objects tree
  tree_meant tree ordered it = by it.text
    where
      named : InNames tree.names (block_names (sources_in (ground_of files table given is tree it)) no_sight no_tally tree.body)
      named = subst (InNames tree.names) it.names (names_read tree.names ordered)

      setting : IsSetting IsFor IsPredFor IsThing Anything files (ground_of files table given is tree it) (tree_readings lexicon objects tree)
      setting = setting_of Anything tree it (anything (tree_readings lexicon objects tree))

      by : HasFineText is.facts it.token tree.body → IsTreeMeant lexicon objects tree
      by (of_rule decl none) =
          block_meant IsFor IsPredFor IsThing Anything files (ground_of files table given is tree it) (tree_readings lexicon objects tree) setting
          (text_once tree.body it.rising) (λ stand. tt) decl tree.body no_tally (token_alone it.token) no_sight [] none
          (rule_at tree.body (all_single is.facts decl (token_alone it.token) [] tree.body none)) named [] no_growth
          (none_seen IsFor IsPredFor IsThing Anything files (ground_of files table given is tree it) (tree_readings lexicon objects tree) setting no_growth no_tally)
      by (of_body decl some same none) =
          subst (λ (body : Statements). AreMeant (tree_readings lexicon objects tree) [] body no_growth) (sym same)
          (body_meant IsFor IsPredFor IsThing Anything files (ground_of files table given is tree it) (tree_readings lexicon objects tree) setting
          (text_once tree.body it.rising) decl some no_tally (token_alone it.token) no_sight none
          (subst (λ (body : Statements). InNames tree.names (block_names (sources_in (ground_of files table given is tree it)) no_sight no_tally body)) same named)
          [] no_growth
          (none_seen IsFor IsPredFor IsThing Anything files (ground_of files table given is tree it) (tree_readings lexicon objects tree) setting no_growth no_tally))

  all_meant : (trees : List PlainTree) → AreFileTrees table files trees → All (IsTreeMeant lexicon objects) trees
  all_meant trees are = λ k d within.
      tree_meant (get_or trees k d) (trees_ordered table files trees given are k d within) (all_grounded files table given is trees are k d within)

-- ---- laws

pub trees_meant : TreesAreMeant
trees_meant files table trees world objects are =
    let is = are.is_table in
    let same : world.facts ≡ is.facts = one_facts (scope_names (joined_decls files)) (joined_decls files) world.facts is.facts are.facts is.are in
    let plain : World = record { facts = is.facts; enums = table.enums; named_objects = world.named_objects; objects = world.objects } in
    let world_is : world ≡ plain =
    λ i. record { facts = same i; enums = are.enums i; named_objects = world.named_objects; objects = world.objects } in
    let made : AreMade plain objects = subst (λ (w : World). AreMade w objects) world_is are.made in
    subst (λ (w : World). All (IsTreeMeant (lexicon_of w) objects) trees) (sym world_is)
    (all_meant files table are.given is world.named_objects world.objects objects made trees are.are_trees)

pub trees_counted : TreesAreCounted
trees_counted files table trees world objects are =
    All-weaker (IsTreeMeant (lexicon_of world) objects)
    (λ tree. AreCounted (unrolled_amounts (lexicon_of world) objects tree) (tree_amounts (lexicon_of world) tree))
    (λ tree meant. trees_exact (lexicon_of world) objects tree meant) trees (trees_meant files table trees world objects are)

pub limits_told : LimitsAreTold
limits_told files table trees world objects are = limits_exact (lexicon_of world) objects trees (trees_meant files table trees world objects are)

-- The globals of a compiled model are lawful: those that are declared, and those for fields that are read.
use Rattle.std.proofs.Common.{◌≡◌, ℕ, zero, suc, ◌+◌, ◌<◌, ◌≤◌, Bool, true, false, List, [], ◌∷◌, length, map, get_or, ℤ, pos, ◌⊎◌, inl, inr, refl, sym, ◌∙◌, ap, subst, arith}
use Rattle.std.specs.Prelude.{Option, Some, None, All, Contains, slice_get, codes, if◌then◌else◌}
use Rattle.std.specs.List.{filter_map}
use Rattle.std.specs.Option.{option_map, option_map_or}
use Rattle.std.proofs.lemmas.Int.{ints}
use Rattle.std.proofs.lemmas.List.{length-map}
use Rattle.std.proofs.lemmas.List.Elements.{All-append, All-cons, All-nil, All-head, All-tail}
use Rattle.std.proofs.lemmas.Option.{same_Some, none-some, slice_get-map, slice_get_within}
use Rattle.domain_core.specs.Domain.{AreMembers, Has, IsDomain, IsValue, Range, Set}
use Rattle.domain_core.specs.declared.kind.Kind.{Kind}
use Rattle.model_core.specs.declared.class.Class.{Class}
use Rattle.model_core.specs.declared.class.Enum.{Enum}
use Rattle.model_core.specs.declared.class.Object.{Object}
use Rattle.model_core.specs.declared.item.Term.{Term}
use Rattle.model_core.specs.declared.item.Term.TheVariants as terms
use Rattle.model_core.specs.declared.model.Model.{Model}
use Rattle.model_core.specs.declared.variable.VarDecl.{VarDecl}
use Rattle.model_core.specs.Kinds.{IsBaseOf, IsInKind, IsKind, IsNumeric, IsValueOf}
use Rattle.model_core.specs.Lawful.{IsLawfulBase, IsLawfulEnum, IsLawfulVariable}
use Rattle.model_core.proofs.Items.{item_all, item_at, item_within}
use Rattle.nddl_ast.specs.declared.declaration.Decl.{Decl}
use Rattle.nddl_ast.specs.declared.declaration.Decl.TheVariants as decls
use Rattle.nddl_ast.specs.declared.declaration.FileDecls.{FileDecls}
use Rattle.nddl_ast.specs.declared.expression.Expr.{Expr}
use Rattle.nddl_ast.specs.declared.expression.Expr.TheVariants as exprs
use Rattle.nddl_ast.specs.declared.expression.Init.{Init}
use Rattle.nddl_ast.specs.declared.expression.Init.TheVariants as inits
use Rattle.nddl_ast.specs.declared.kind.TextKind.TheVariants as faults
use Rattle.nddl_ast.specs.declared.name.Name.{Name}
use Rattle.nddl_ast.specs.declared.name.Path.{Path}
use Rattle.nddl_ast.specs.declared.statement.Call.{Call}
use Rattle.nddl_ast.specs.declared.statement.Variable.{Variable}
use Rattle.nddl_ast.specs.Path.{path_before}
use Rattle.nddl_ast.specs.Places.{expr_place}
use Rattle.nddl_symbols.specs.declared.declared.Declared.{Declared}
use Rattle.nddl_symbols.specs.declared.declared.Sort.{Sort}
use Rattle.nddl_symbols.specs.declared.declared.Sort.TheVariants as sorts
use Rattle.nddl_symbols.specs.declared.scope.Meaning.{Meaning}
use Rattle.nddl_symbols.specs.declared.scope.Meaning.TheVariants as meanings
use Rattle.nddl_symbols.specs.Finding.{faults_here}
use Rattle.nddl_symbols.specs.Names.{is_global_sort, scope_names, sort_of_variable}
use Rattle.nddl_symbols.specs.Scope.{fault_if, meaning_of}
use Rattle.nddl_typeexpr.specs.declared.kind.Extent.{Extent}
use Rattle.nddl_typeexpr.specs.declared.kind.Extent.TheVariants as extents
use Rattle.nddl_typeexpr.specs.declared.kind.TypeKind.{TypeKind}
use Rattle.nddl_typeexpr.specs.declared.kind.TypeKind.TheVariants as kinds
use Rattle.nddl_typeexpr.specs.declared.kind.TypeMeaning.{TypeMeaning}
use Rattle.nddl_typeexpr.specs.Bases.{base_kind}
use Rattle.nddl_typeexpr.specs.Kinds.{is_ranged}
use Rattle.nddl_hierarchy.specs.Facts.{Facts}
use Rattle.nddl_declarations.specs.Ascending.{ascending_of}
use Rattle.nddl_declarations.specs.Domains.{value_kind}
use Rattle.nddl_declarations.specs.Known.{fine_meaning}
use Rattle.nddl_types.specs.declared.table.TypeTable.{TypeTable}
use Rattle.nddl_types.specs.Classes.{builtin_class, class_entries, compiled_class, enums_of}
use Rattle.nddl_types.specs.Table.{IsTable}
use Rattle.nddl_constructors.specs.Constants.{value_faults}
use Rattle.nddl_construction.specs.declared.made.Datum.{Datum}
use Rattle.nddl_construction.specs.declared.made.Datum.TheVariants as datums
use Rattle.nddl_construction.specs.declared.made.MadeObject.{MadeObject}
use Rattle.nddl_construction.specs.declared.made.NamedObject.{NamedObject}
use Rattle.nddl_construction.specs.declared.made.NamedObject.TheVariants as made_names
use Rattle.nddl_construction.specs.Reading.{is_unmade, is_unmade_meaning, is_unmade_object, is_unmade_sort, unmade_faults}
use Rattle.nddl_construction.specs.Scene.{Grounds}
use Rattle.nddl_objects.specs.Modelled.{datum_value, member_value, modelled_object}
use Rattle.nddl_objects.specs.Objects.{Progress, bare_scene}
use Rattle.nddl_object_laws.specs.Made.{there_after}
use Rattle.nddl_object_laws.proofs.Program.{are_there_in_turn, run_as_stated}
use Rattle.nddl_terms.specs.PlainTree.{PlainTree}
use Rattle.nddl_terms.specs.declared.growth.Growth.{Growth}
use Rattle.nddl_terms.specs.declared.lexicon.Attribute.{Attribute}
use Rattle.nddl_terms.specs.declared.lexicon.ClassShape.{ClassShape}
use Rattle.nddl_terms.specs.declared.lexicon.Lexicon.{Lexicon}
use Rattle.nddl_terms.specs.declared.stands.Stand.{Stand}
use Rattle.nddl_terms.specs.declared.stands.Stand.TheVariants as stands
use Rattle.nddl_terms.specs.Growth.{unnamed, with_access}
use Rattle.nddl_terms.specs.Lexicon.{attribute_number, shape_fields}
use Rattle.nddl_terms.specs.Paths.{next_stand, numbered_field, reached, rest_stand}
use Rattle.nddl_terms.specs.Readings.{Readings}
use Rattle.nddl_env.specs.Lexicons.{entry_shape}
use Rattle.nddl_env.specs.Objects.{entry_object, made_object, objects_of}
use Rattle.nddl_env.specs.Shapes.{World, kind_base}
use Rattle.nddl_rule_check.specs.Constraints.{constraint_named}
use Rattle.nddl_rules.specs.Told.{AreFileTrees}
use Rattle.nddl_problem_check.specs.Acts.{nothing_around}
use Rattle.nddl_problem_check.specs.Texts.{begun_faults}
use Rattle.nddl_instance.specs.declared.assertions.Assertions.{Assertions}
use Rattle.nddl_instance.specs.Asserted.{ProblemText, act_argument, assertions_of, no_assertions, with_act, with_declaration, with_declarations, with_outer_call, with_stated}
use Rattle.nddl_instance.specs.Constraints.{outer_argument, outer_arguments, with_outer_constraint}
use Rattle.nddl_instance.specs.Globals.{begun_base, begun_value, declared_global, declared_globals, global_with, single_domain, typed_global}
use Rattle.nddl_instance.specs.Outside.{Outsides, front_stand, outer_path}
use Rattle.nddl_instance.specs.Posed.{bare_readings, outside_rules, text_beside}
use Rattle.nddl_instance.specs.Renumbered.{field_global, field_globals}
use Rattle.nddl_problem.specs.Compiled.{compiled_model, posing_known, problem_fault}
use Rattle.nddl_problem.specs.Known.{Known, known_by, lexicon_known, objects_known, progress_known, world_known}
use Rattle.nddl_laws.specs.Fine.{IsFineDecl, IsFineStart}
use Rattle.nddl_laws.specs.Given.{AreGiven}
use Rattle.nddl_laws.proofs.Bases.{base_right, between, kind_right, set_right, small}
use Rattle.nddl_laws.proofs.Fitting.{FitsExtent, FitsKind}
use Rattle.nddl_laws.proofs.Known.{meant, type_fits}
use Rattle.nddl_laws.proofs.Lists.{all_kept}
use Rattle.nddl_laws.proofs.Numbers.{HasMember, member_there}
use Rattle.nddl_laws.proofs.Variables.{fine_types}
use Rattle.nddl_rule_laws.proofs.Classes.{are_facts}
use Rattle.nddl_name_laws.proofs.Labels.{problem_fine}
use Rattle.nddl_name_laws.proofs.Names.{object_found}
use Rattle.nddl_model_laws.specs.Faultless.{IsFaultless}
use Rattle.nddl_model_laws.proofs.Grounds.{known_are, known_decls, objects_fine, table_classes, table_enums, table_lawful}
use Rattle.nddl_model_laws.proofs.Making.{made_right}
use Rattle.nddl_model_laws.proofs.Numbered.{class_below, class_few, kept_few, numbers_right, set_below}
use Rattle.nddl_model_laws.proofs.Tables.{class_fields_like, enums_lawful}
use Rattle.nddl_model_laws.proofs.Typing.{AreFormals, IsKindly, value_sound}
use Rattle.nddl_model_laws.proofs.Wide.{IsLike}
use Rattle.nddl_whole_laws.proofs.Belonging.{zip_back}
use Rattle.nddl_whole_laws.proofs.Known.{line_of, sound, text_fine}
use Rattle.nddl_whole_laws.proofs.Leading.{IsSettled, expr_leads}
use Rattle.nddl_whole_laws.proofs.Turns.{turn_settled}

-- ---- lists

alone : (value : ℤ) → ascending_of (value ∷ []) ≡ value ∷ []
unfolding ascending_of
alone value = refl

only : (value one : ℤ) → Contains (value ∷ []) one → value ≡ one
only value one there = by there.0 there.1 there.2
  where
    by : (k : ℕ) → k < 1 → get_or (value ∷ []) k one ≡ one → value ≡ one
    by zero less same = same
    by (suc k) less same = absurd (omega arith)

-- ranges are kept of numbers alone
ranged_numeric : (kind : TypeKind) (extent : Extent) → is_ranged kind extent ≡ true → IsNumeric (value_kind kind)
ranged_numeric kinds.Int extent is = tt
ranged_numeric kinds.Float extent is = tt
ranged_numeric kinds.Bool extent is = absurd (let never : false ≡ true = is in cc)
ranged_numeric (kinds.Enum number) extent is = absurd (let never : false ≡ true = is in cc)
ranged_numeric (kinds.Object class) extent is = absurd (let never : false ≡ true = is in cc)

module _ (files : List FileDecls) (table : TypeTable) (trees : List PlainTree) (given : AreGiven files) (is : IsTable files table)
    (are_trees : AreFileTrees table files trees) (fine : problem_fault (known_by files is.facts table trees) ≡ None) where
  abbrev known : Known
  known = known_by files is.facts table trees

  abbrev faultless : IsFaultless known
  faultless = record { given = given; is_table = is; are_trees = are_trees; are = is.are; fine = fine }

  abbrev facts : Facts
  facts = is.facts

  abbrev world : World
  world = world_known known

  abbrev model : Model
  model = compiled_model known

  abbrev lexicon : Lexicon
  lexicon = lexicon_known known

  abbrev objects : List Object
  objects = objects_known known

  abbrev made : List MadeObject
  made = (progress_known known).so_far.objects

  abbrev named : List NamedObject
  named = (progress_known known).named_objects

  abbrev outside : Outsides
  outside = outside_rules (posing_known known)

  abbrev reading : Readings
  reading = bare_readings (posing_known known)

  abbrev entries : List ℕ
  entries = class_entries facts.names 0 facts.names

  abbrev Lawful : VarDecl → Type 0
  Lawful = IsLawfulVariable model

  -- ---- fields

  -- a class that has a field is one of the table
  class_at : (class number : ℕ) (attribute : Attribute) → slice_get (shape_fields lexicon class) number ≡ Some attribute
      → (found : Class) × (slice_get table.classes class ≡ Some found)
  class_at zero number attribute at =
      (builtin_class (codes "Object") None 0, ap (λ (some : List Class). slice_get some 0) (table_classes known faultless))
  class_at (suc zero) number attribute at =
      (builtin_class (codes "Timeline") (Some 0) 1, ap (λ (some : List Class). slice_get some 1) (table_classes known faultless))
  class_at (suc (suc zero)) number attribute at =
      (builtin_class (codes "Reusable") (Some 0) 2, ap (λ (some : List Class). slice_get some 2) (table_classes known faultless))
  class_at (suc (suc (suc zero))) number attribute at =
      (builtin_class (codes "Reservoir") (Some 0) 3, ap (λ (some : List Class). slice_get some 3) (table_classes known faultless))
  class_at (suc (suc (suc (suc place)))) number attribute at =
      by (slice_get entries place) refl
      (sym (ap (λ (o : Option ClassShape). slice_get (option_map_or (λ (shape : ClassShape). shape.fields) o []) number)
      (slice_get-map (entry_shape world) entries place)) ∙ at)
    where
      by : (o : Option ℕ) → slice_get entries place ≡ o
          → slice_get (option_map_or (λ (shape : ClassShape). shape.fields) (option_map (entry_shape world) o) []) number ≡ Some attribute
          → (found : Class) × (slice_get table.classes (suc (suc (suc (suc place)))) ≡ Some found)
      by None there told = absurd (none-some attribute told)
      by (Some entry) there told =
          let class = compiled_class facts (enums_of facts.program) in (
            class entry,
            ap (λ (some : List Class). slice_get some (suc (suc (suc (suc place))))) (table_classes known faultless)
                ∙ (slice_get-map (compiled_class facts (enums_of facts.program)) entries place ∙ ap (option_map (compiled_class facts (enums_of facts.program))) there),
          )

  -- what a field may be is lawful
  field_lawful : (class number : ℕ) (attribute : Attribute) → slice_get (shape_fields lexicon class) number ≡ Some attribute
      → Lawful (unnamed attribute.shape)
  field_lawful class number attribute at =
      let found = class_at class number attribute at in
      let like = zip_back (IsLike model) found.0.fields (shape_fields lexicon class) number attribute (class_fields_like known faultless class found.0 found.1) at in
      record { kind = like.2.right.kind; base = like.2.right.base; inside = like.2.right.inside }

  -- ---- what is read

  -- all locals are lawful
  abbrev AreLawful : Growth → Type 0
  AreLawful growth = All Lawful growth.locals

  attribute_kept : (object : Term) (class number : ℕ) (growth : Growth) → AreLawful growth → (o : Option Attribute)
      → slice_get (shape_fields lexicon class) number ≡ o
      → AreLawful (option_map_or (λ (attribute : Attribute). reached (stands.Value (terms.Local (length growth.locals)) attribute.shape.kind attribute.shape.class)
      (with_access object number attribute.shape growth)) o (reached stands.Nothing growth)).growth
  attribute_kept object class number growth all None at = all
  attribute_kept object class number growth all (Some attribute) at =
      All-append Lawful growth.locals (unnamed attribute.shape ∷ []) all
      (All-cons Lawful (unnamed attribute.shape) [] (field_lawful class number attribute at) (All-nil Lawful))

  numbered_kept : (object : Term) (class number : ℕ) (growth : Growth) → AreLawful growth
      → AreLawful (numbered_field objects object (shape_fields lexicon class) number growth).growth
  numbered_kept (terms.Lit value) class number growth all = all
  numbered_kept object class number growth all = attribute_kept object class number growth all (slice_get (shape_fields lexicon class) number) refl

  found_kept : (object : Term) (class : ℕ) (growth : Growth) → AreLawful growth → (o : Option ℕ)
      → AreLawful (option_map_or (λ (number : ℕ). numbered_field objects object (shape_fields lexicon class) number growth) o (reached stands.Nothing growth)).growth
  found_kept object class growth all None = all
  found_kept object class growth all (Some number) = numbered_kept object class number growth all

  next_kept : (here : Stand) (name : Name) (growth : Growth) → AreLawful growth → AreLawful (next_stand reading here name growth).growth
  next_kept (stands.Value term own class) name growth all =
      found_kept term class growth all (attribute_number name.text (shape_fields lexicon class))
  next_kept (stands.Slot number pred) name growth all = all
  next_kept (stands.Root number pred) name growth all = all
  next_kept (stands.Class class) name growth all = all
  next_kept stands.Nothing name growth all = all

  rest_kept : (here : Stand) (names : List Name) (growth : Growth) → AreLawful growth → AreLawful (rest_stand reading here names growth).growth
  rest_kept here [] growth all = all
  rest_kept here (name ∷ more) growth all =
      rest_kept (next_stand reading here name growth).stand more (next_stand reading here name growth).growth (next_kept here name growth all)

  path_kept : (path : Path) (growth : Growth) → AreLawful growth → AreLawful (outer_path outside path growth).growth
  path_kept path growth all = rest_kept (front_stand outside path.first.text) path.rest growth all

  argument_kept : (expr : Expr) (growth : Growth) → AreLawful growth → AreLawful (outer_argument outside expr growth).growth
  argument_kept (exprs.Path path) growth all = path_kept path growth all
  argument_kept (exprs.Literal literal) growth all = all

  arguments_kept : (some : List Expr) (growth : Growth) → AreLawful growth → AreLawful (outer_arguments outside some growth).growth
  arguments_kept [] growth all = all
  arguments_kept (expr ∷ more) growth all =
      arguments_kept more (outer_argument outside expr growth).growth (argument_kept expr growth all)

  word_kept : (some : List Expr) (growth : Growth) (o : Option Kind) → AreLawful growth
      → AreLawful (option_map_or (λ (kind : Kind). with_outer_constraint outside kind some growth) o growth)
  word_kept some growth None all = all
  word_kept some growth (Some kind) all = arguments_kept some growth all

  act_kept : (some : List Expr) (growth : Growth) → AreLawful growth → AreLawful (act_argument outside some growth).growth
  act_kept [] growth all = all
  act_kept (expr ∷ more) growth all = argument_kept expr growth all

  module _ (count : ℕ) where
    abbrev text : ProblemText
    text = text_beside (posing_known known) count

    call_kept : (number : ℕ) (call : Call) (asserted : Assertions) → AreLawful asserted.growth → AreLawful (with_outer_call text number call asserted).growth
    call_kept number call asserted all = by (path_before call.path)
      where
        by : (o : Option Path)
            → AreLawful (option_map_or (λ (before : Path). with_act text number call before asserted) o (with_stated outside call asserted)).growth
        by None = word_kept call.arguments asserted.growth (constraint_named call.path.first.text) all
        by (Some before) =
            act_kept call.arguments (outer_path outside before asserted.growth).growth (path_kept before asserted.growth all)

    decl_kept : (number : ℕ) (decl : Decl) (asserted : Assertions) → AreLawful asserted.growth → AreLawful (with_declaration text number decl asserted).growth
    decl_kept number (decls.Call call) asserted all = call_kept number call asserted all
    decl_kept number (decls.Variable variable) asserted all = all
    decl_kept number (decls.Ask ask) asserted all = all
    decl_kept number (decls.Include file_at file place) asserted all = all
    decl_kept number (decls.Enum name_at name members_at some) asserted all = all
    decl_kept number (decls.Typedef name_at type name) asserted all = all
    decl_kept number (decls.Forward name_at name) asserted all = all
    decl_kept number (decls.Class name_at name parent some) asserted all = all
    decl_kept number (decls.Rule class predicate body) asserted all = all

    decls_kept : (number : ℕ) (some : List Decl) (asserted : Assertions) → AreLawful asserted.growth
        → AreLawful (with_declarations text number some asserted).growth
    decls_kept number [] asserted all = all
    decls_kept number (decl ∷ more) asserted all =
        decls_kept (number + 1) more (with_declaration text number decl asserted) (decl_kept number decl asserted all)

    read_lawful : AreLawful (assertions_of text facts.program).growth
    read_lawful = decls_kept 0 facts.program no_assertions (All-nil Lawful)

  fields_lawful : (number : ℕ) (some : List VarDecl) → All Lawful some → All Lawful (field_globals number some)
  fields_lawful number [] all = All-nil Lawful
  fields_lawful number (local ∷ more) all =
      let one = All-head Lawful local more all in
      All-cons Lawful (field_global number local) (field_globals (number + 1) more) (record { kind = one.kind; base = one.base; inside = one.inside })
      (fields_lawful (number + 1) more (All-tail Lawful local more all))

  -- ---- values

  names_are : facts.names ≡ scope_names facts.program
  names_are = (are_facts files table given is).is_names

  made_few : length made ≤ 4096
  made_few = (made_right facts (known_decls known faultless) (known_are known faultless).is_names).few

  truth_right : (truth : Bool) → (((if truth then pos 1 else pos 0) ≡ pos 0) ⊎ ((if truth then pos 1 else pos 0) ≡ pos 1)) × IsValue (if truth then pos 1 else pos 0)
  truth_right true = (inr refl, small 1 (omega arith))
  truth_right false = (inl refl, small 0 (omega arith))

  -- what a value stands for is of its kind
  kindly_right : (kind : TypeKind) (datum : Datum) → IsKindly facts made kind datum
      → IsValueOf model (value_kind kind) (datum_value facts.names (Some datum)) × IsValue (datum_value facts.names (Some datum))
  kindly_right kinds.Int (datums.Number number) it = (it, it)
  kindly_right kinds.Float (datums.Decimal thousandths) it = (it, it)
  kindly_right kinds.Bool (datums.Truth truth) it = truth_right truth
  kindly_right (kinds.Enum number) (datums.Member entry) it =
      let has = member_there facts.program entry number it.place it.declared
      (sym (ap (λ (some : List Declared). slice_get some entry) names_are) ∙ it.there) it.sort in
      let value : datum_value facts.names (Some (datums.Member entry)) ≡ pos it.place =
      ap (λ (o : Option Declared). option_map_or (λ (declared : Declared). member_value declared.sort) o (pos 0)) it.there ∙ ap member_value it.sort in
      let lawful = item_all IsLawfulEnum model.enums number has.found (enums_lawful known faultless) has.there in
      let within : it.place < length has.found.members = item_within has.found.members it.place has.member has.is_member in
      let few : length has.found.members ≤ 4096 = lawful.few in (
        record {
          found = has.found;
          is_enum = has.there;
          place = it.place;
          is_place = value;
          member = has.member;
          is_member = has.is_member;
        },
        subst IsValue (sym value) (small it.place (omega (arith, within, few))),
      )
  kindly_right (kinds.Object class) (datums.Object number) it =
      let M : MadeObject → Object = modelled_object facts table.classes in
      let within : number < length made = slice_get_within made number it.0 it.1 in (
        (M it.0, (number, refl, slice_get-map M made number ∙ ap (option_map M) it.1)),
        small number (omega (arith, within, made_few)),
      )
  kindly_right kind datum it = absurd it

  in_range : (kind : TypeKind) (value one : ℤ) → IsNumeric (value_kind kind) → IsValue value → Has (Range value value) one
      → IsValueOf model (value_kind kind) one
  in_range kinds.Int value one numeric right has = between value value one (right, right, omega (arith, ints)) has
  in_range kinds.Float value one numeric right has = between value value one (right, right, omega (arith, ints)) has
  in_range kinds.Bool value one numeric right has = absurd numeric
  in_range (kinds.Enum number) value one numeric right has = absurd numeric
  in_range (kinds.Object class) value one numeric right has = absurd numeric

  -- a domain of one value of the kind
  single_right : (kind : TypeKind) (extent : Extent) (value : ℤ) → IsValueOf model (value_kind kind) value → IsValue value
      → IsDomain (single_domain kind extent value) × IsInKind model (value_kind kind) (single_domain kind extent value)
  single_right kind extent value of right = by (is_ranged kind extent) (ranged_numeric kind extent)
    where
      by : (b : Bool) → (b ≡ true → IsNumeric (value_kind kind))
          → IsDomain (if b then Range value value else Set (value ∷ []))
          × IsInKind model (value_kind kind) (if b then Range value value else Set (value ∷ []))
      by true numeric = (
        (right, right, omega (arith, ints)),
        record { values = λ one has. in_range kind value one (numeric refl) right has; range = λ ranged. numeric refl },
      )
      by false numeric = (
        subst AreMembers (alone value)
            (set_right (value ∷ []) (All-cons IsValue value [] right (All-nil IsValue)) (omega arith) (omega arith)),
        record {
          values = λ one has. subst (IsValueOf model (value_kind kind)) (only value one has) of;
          range = λ ranged. absurd ranged;
        },
      )

  kind_of : (kind : TypeKind) (value : ℤ) → IsValueOf model (value_kind kind) value → IsKind model (value_kind kind)
  kind_of kinds.Int value of = tt
  kind_of kinds.Float value of = tt
  kind_of kinds.Bool value of = tt
  kind_of (kinds.Enum number) value of = (of.found, of.is_enum)
  kind_of (kinds.Object class) value of = tt

  -- ---- globals that begin as a value

  settled_end : IsSettled facts made named
  settled_end =
      let end = there_after facts (length facts.program) in
      let same_objects : end.objects ≡ made = are_there_in_turn facts ∙ sym (ap (λ (p : Progress). p.so_far.objects) (run_as_stated facts)) in
      let same_named : end.named_objects ≡ named = sym (ap (λ (p : Progress). p.named_objects) (run_as_stated facts)) in
      subst (λ (some : List NamedObject). IsSettled facts made some) same_named
      (subst (λ (some : List MadeObject). IsSettled facts some end.named_objects) same_objects
      (turn_settled files table given is (objects_fine known faultless) (text_fine known faultless) (length facts.program) (omega arith)))

  -- each object is made by then
  all_made : (expr : Expr) → is_unmade (record { facts = facts; named_objects = named }) (bare_scene 0) expr ≡ false
  all_made (exprs.Literal literal) = refl
  all_made (exprs.Path path) = by (meaning_of facts.names path.first.text)
    where
      made_there : (o : Option NamedObject) (value : ℤ) → made_object o ≡ Some value → is_unmade_object o ≡ false
      made_there None value told = refl
      made_there (Some made_names.Unmade) value told = absurd (none-some value told)
      made_there (Some (made_names.Made datum)) value told = refl

      sorted : (entry : ℕ) (declared : Declared) (sort : Sort) → slice_get facts.names entry ≡ Some declared → declared.sort ≡ sort
          → is_unmade_sort named entry sort ≡ false
      sorted entry declared sorts.Object at same =
          let it = (object_found files table given is (objects_fine known faultless) entry declared at same).stands in
          made_there (slice_get named entry) it.value it.made
      sorted entry declared sort at same = refl

      entered : (entry : ℕ) (o : Option Declared) → slice_get facts.names entry ≡ o
          → option_map_or (λ (declared : Declared). is_unmade_sort named entry declared.sort) o false ≡ false
      entered entry None at = refl
      entered entry (Some declared) at = sorted entry declared declared.sort at refl

      by : (o : Option Meaning) → is_unmade_meaning (record { facts = facts; named_objects = named }) o ≡ false
      by None = refl
      by (Some (meanings.BuiltIn number)) = refl
      by (Some (meanings.Entry entry)) = entered entry (slice_get facts.names entry) refl

  begun_lawful : (number : ℕ) (variable : Variable) (meaning : TypeMeaning) (expr : Expr) → slice_get facts.program number ≡ Some (decls.Variable variable)
      → variable.init ≡ Some (inits.Expr expr) → fine_meaning facts variable.declared ≡ Some meaning → Lawful (global_with world variable meaning)
  begun_lawful number variable meaning expr at init means =
      let kind : TypeKind = meaning.kind in
      let told = meant facts variable.declared meaning means in
      let base : base_kind facts.names facts.known variable.declared.base ≡ Some kind =
      told.is_kind ∙ ap (λ k. Some k) (sym (ap (λ (m : TypeMeaning). m.kind) told.is_meaning)) in
      let grounds : Grounds = record { facts = facts; named_objects = named } in
      let text_none = problem_fine facts 0 facts.program number (decls.Variable variable) (text_fine known faultless) at in
      let begun : begun_faults facts (0 + number) variable (Some (inits.Expr expr)) ≡ [] =
      sym (ap (begun_faults facts (0 + number) variable) init) ∙ text_none in
      let value_none : value_faults facts nothing_around (0 + number) (Some kind) expr ≡ [] =
      sym (ap (λ (w : Option TypeKind). value_faults facts nothing_around (0 + number) w expr) base) ∙ begun in
      let formals : AreFormals facts made [] [] = record { once = tt; each = λ k seen datum there passed. absurd (none-some seen there) } in
      let unmade : unmade_faults grounds (bare_scene 0) expr ≡ [] =
      ap (λ (b : Bool). faults_here 0 (expr_place expr) (fault_if b faults.Unknown)) (all_made expr) in
      let found = expr_leads files table given is (objects_fine known faultless) (text_fine known faultless) made named settled_end (bare_scene 0) (Some kind)
      (0 + number) expr formals (λ k less. absurd (omega (arith, less))) value_none unmade in
      let own = item_all IsFineDecl facts.program number (decls.Variable variable) (known_decls known faultless) at in
      let right = subst IsFineStart init own.1.1 in
      let kindly = value_sound facts made (sound known faultless).typed (line_of known faultless) named (sound known faultless).declared (bare_scene 0)
      (Some kind) expr found.0 formals right found.1 kind refl in
      let value = kindly_right kind found.0 kindly in
      let is_value : begun_value world kind expr ≡ datum_value facts.names (Some found.0) = ap (datum_value facts.names) found.1 in
      let of = subst (IsValueOf model (value_kind kind)) (sym is_value) value.0 in
      let single = single_right kind meaning.extent (begun_value world kind expr) of (subst IsValue (sym is_value) value.1) in
      let bases : IsLawfulBase (begun_base world meaning variable.init) × IsBaseOf model (value_kind kind) (begun_base world meaning variable.init) =
      subst (λ (o : Option Init). IsLawfulBase (begun_base world meaning o) × IsBaseOf model (value_kind kind) (begun_base world meaning o)) (sym init) single in
      record { kind = kind_of kind (begun_value world kind expr) of; base = bases.0; inside = bases.1 }

  -- ---- globals of a type alone

  abbrev Members : Type 0
  Members =
      (entry number place : ℕ) (declared : Declared) → slice_get facts.names entry ≡ Some declared → declared.sort ≡ sorts.Member number place
      → HasMember table.enums number place

  members_there : Members
  members_there entry number place declared at sort =
      subst (λ (some : List Enum). HasMember some number place) (sym (table_enums known faultless))
      (member_there facts.program entry number place declared (sym (ap (λ (names : List Declared). slice_get names entry) names_are) ∙ at) sort)

  base_made : (kind : TypeKind) (extent : Extent) → FitsKind table.enums kind → FitsExtent facts.names kind extent
      → IsLawfulBase (kind_base world kind extent) × IsBaseOf model (value_kind kind) (kind_base world kind extent)
  base_made (kinds.Object class) extents.Whole here fit =
      numbers_right model (length made) (length-map made (modelled_object facts table.classes)) made_few (map pos (objects_of facts class 0 made))
      (class_below facts class made) (let most = class_few facts class made in omega (arith, made_few))
  base_made (kinds.Object class) (extents.Range least greatest) here fit = absurd fit
  base_made (kinds.Object class) (extents.Set some) here fit =
      let right = made_right facts (known_decls known faultless) (known_are known faultless).is_names in
      numbers_right model (length made) (length-map made (modelled_object facts table.classes)) made_few (filter_map (entry_object named) some)
      (set_below named (length made) right.there some)
      (let most = kept_few (entry_object named) some in let written : length some ≤ 4096 = fit.2 in omega arith)
  base_made kinds.Int extent here fit =
      base_right facts.names table.enums model (sym (table_enums known faultless)) (table_lawful known faultless) members_there kinds.Int extent here fit
  base_made kinds.Float extent here fit =
      base_right facts.names table.enums model (sym (table_enums known faultless)) (table_lawful known faultless) members_there kinds.Float extent here fit
  base_made kinds.Bool extent here fit =
      base_right facts.names table.enums model (sym (table_enums known faultless)) (table_lawful known faultless) members_there kinds.Bool extent here fit
  base_made (kinds.Enum number) extent here fit =
      base_right facts.names table.enums model (sym (table_enums known faultless)) (table_lawful known faultless) members_there (kinds.Enum number) extent here fit

  -- its kind is there, and it may be what its type allows
  record IsRightType (meaning : TypeMeaning) : Type 0 where
    kind : IsKind model (value_kind meaning.kind)
    base : IsLawfulBase (kind_base world meaning.kind meaning.extent)
    inside : IsBaseOf model (value_kind meaning.kind) (kind_base world meaning.kind meaning.extent)

  type_right : (number : ℕ) (variable : Variable) (meaning : TypeMeaning) → slice_get facts.program number ≡ Some (decls.Variable variable)
      → fine_meaning facts variable.declared ≡ Some meaning → IsRightType meaning
  type_right number variable meaning at means =
      let own = item_all IsFineDecl facts.program number (decls.Variable variable) (known_decls known faultless) at in
      let fits = type_fits facts (known_are known faultless) (fine_types facts (known_decls known faultless)) variable.declared meaning own.0 means in
      let here : FitsKind table.enums meaning.kind = subst (λ (some : List Enum). FitsKind some meaning.kind) (sym (table_enums known faultless)) fits.kind in
      let base = base_made meaning.kind meaning.extent here fits.extent in
      record {
        kind = kind_right facts.names table.enums model (sym (table_enums known faultless)) (table_lawful known faultless) members_there meaning.kind here;
        base = base.0;
        inside = base.1;
      }

  -- ---- all globals

  declared_lawful : (number : ℕ) (decl : Decl) → slice_get facts.program number ≡ Some decl → (found : VarDecl) → declared_global world decl ≡ Some found
      → Lawful found
  declared_lawful number (decls.Variable variable) at found told = outer (is_global_sort (sort_of_variable variable)) told
    where
      begun : (meaning : TypeMeaning) → fine_meaning facts variable.declared ≡ Some meaning → (o : Option Init) → variable.init ≡ o
          → Lawful (global_with world variable meaning)
      begun meaning means (Some (inits.Expr expr)) init = begun_lawful number variable meaning expr at init means
      begun meaning means (Some (inits.New creation)) init =
          let it = type_right number variable meaning at means in
          record {
            kind = it.kind;
            base = subst (λ (o : Option Init). IsLawfulBase (begun_base world meaning o)) (sym init) it.base;
            inside = subst (λ (o : Option Init). IsBaseOf model (value_kind meaning.kind) (begun_base world meaning o)) (sym init) it.inside;
          }
      begun meaning means None init =
          let it = type_right number variable meaning at means in
          record {
            kind = it.kind;
            base = subst (λ (o : Option Init). IsLawfulBase (begun_base world meaning o)) (sym init) it.base;
            inside = subst (λ (o : Option Init). IsBaseOf model (value_kind meaning.kind) (begun_base world meaning o)) (sym init) it.inside;
          }

      inner : (o : Option TypeMeaning) → fine_meaning facts variable.declared ≡ o → option_map (global_with world variable) o ≡ Some found → Lawful found
      inner None means same = absurd (none-some found same)
      inner (Some meaning) means same =
          subst Lawful (same_Some (global_with world variable meaning) found same) (begun meaning means variable.init refl)

      outer : (b : Bool) → (if b then typed_global world variable else None) ≡ Some found → Lawful found
      outer true same = inner (fine_meaning facts variable.declared) refl same
      outer false same = absurd (none-some found same)
  declared_lawful number (decls.Ask ask) at found told = absurd (none-some found told)
  declared_lawful number (decls.Include file_at file place) at found told = absurd (none-some found told)
  declared_lawful number (decls.Enum name_at name members_at some) at found told = absurd (none-some found told)
  declared_lawful number (decls.Typedef name_at type name) at found told = absurd (none-some found told)
  declared_lawful number (decls.Forward name_at name) at found told = absurd (none-some found told)
  declared_lawful number (decls.Class name_at name parent some) at found told = absurd (none-some found told)
  declared_lawful number (decls.Rule class predicate body) at found told = absurd (none-some found told)
  declared_lawful number (decls.Call call) at found told = absurd (none-some found told)

  pub globals_lawful : All Lawful model.problem.globals
  globals_lawful =
      let own = declared_globals world facts.program in
      let count = length own in
      let read = (assertions_of (text_beside (posing_known known) count) facts.program).growth.locals in
      All-append Lawful own (field_globals count read)
      (all_kept Lawful (declared_global world) facts.program
      (λ k d within. declared_lawful k (get_or facts.program k d) (item_at facts.program k d within)))
      (fields_lawful count read (read_lawful count))

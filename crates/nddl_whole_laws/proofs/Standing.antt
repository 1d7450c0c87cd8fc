-- What the names of the files stand for is in the compiled model.
use Rattle.std.proofs.Common.{◌≡◌, ℕ, suc, ◌+◌, ◌==◌, ◌&&◌, Bool, true, false, List, [], ◌∷◌, ◌++◌, length, get_or, ℤ, refl, sym, ◌∙◌, ap, subst, arith}
use Rattle.std.specs.Prelude.{Option, Some, None, All, slice_get, if◌then◌else◌}
use Rattle.std.specs.List.{cons_option}
use Rattle.std.specs.Option.{option_and_then, option_map, option_map_or}
use Rattle.std.proofs.lemmas.Bool.Decides.{Decides-eqb}
use Rattle.std.proofs.lemmas.List.Elements.{All-append, All-cons, All-nil}
use Rattle.std.proofs.lemmas.Option.{same_Some, none-some}
use Rattle.eu_forest.proofs.Lists.{get-append_left}
use Rattle.eu_name.specs.Word.{IsName}
use Rattle.model_core.specs.declared.item.Term.TheVariants as terms
use Rattle.model_core.specs.declared.model.Model.{Model}
use Rattle.model_core.specs.declared.model.Root.{Root}
use Rattle.model_core.specs.declared.variable.ValueKind.TheVariants as value_kinds
use Rattle.model_core.specs.declared.variable.VarDecl.{VarDecl}
use Rattle.model_core.specs.Lawful.{IsLawfulRoot}
use Rattle.model_core.specs.Tokens.{IsRoot}
use Rattle.model_core.specs.Variables.{IsGlobal}
use Rattle.model_core.proofs.Items.{item_all, item_at}
use Rattle.nddl_ast.specs.declared.declaration.Decl.{Decl}
use Rattle.nddl_ast.specs.declared.declaration.Decl.TheVariants as decls
use Rattle.nddl_ast.specs.declared.declaration.FileDecls.{FileDecls}
use Rattle.nddl_ast.specs.declared.expression.Init.{Init}
use Rattle.nddl_ast.specs.declared.expression.Init.TheVariants as inits
use Rattle.nddl_ast.specs.declared.expression.Type as types
use Rattle.nddl_ast.specs.declared.name.Name.{Name}
use Rattle.nddl_ast.specs.declared.statement.Ask.{Ask}
use Rattle.nddl_ast.specs.declared.statement.Variable.{Variable}
use Rattle.nddl_symbols.specs.declared.declared.Declared.{Declared}
use Rattle.nddl_symbols.specs.declared.declared.Sort.{Sort}
use Rattle.nddl_symbols.specs.declared.declared.Sort.TheVariants as sorts
use Rattle.nddl_symbols.specs.Builtin.{is_config_name}
use Rattle.nddl_symbols.specs.Names.{declared_as, declared_members, is_class_sort, is_config_sort, is_config_type, is_global_sort, is_posting_word, is_root_sort, names_from, scope_names, sort_of_init, sort_of_variable}
use Rattle.nddl_typeexpr.specs.declared.kind.TypeKind.{TypeKind}
use Rattle.nddl_typeexpr.specs.declared.kind.TypeMeaning.{TypeMeaning}
use Rattle.nddl_hierarchy.specs.Facts.{Facts}
use Rattle.nddl_declarations.specs.Domains.{value_kind}
use Rattle.nddl_declarations.specs.Known.{all_type_faults}
use Rattle.nddl_types.specs.declared.table.TypeTable.{TypeTable}
use Rattle.nddl_types.specs.Classes.{class_number, is_first}
use Rattle.nddl_types.specs.Table.{IsTable}
use Rattle.nddl_resolve.specs.declared.denoted.Denoted.TheVariants as denoted
use Rattle.nddl_resolve.specs.Fields.{type_value}
use Rattle.nddl_resolve.specs.Files.{declared_value, file_denoted, meaning_denoted, sort_denoted, variable_type}
use Rattle.nddl_terms.specs.PlainTree.{PlainTree}
use Rattle.nddl_terms.specs.declared.lexicon.Lexicon.{Lexicon}
use Rattle.nddl_terms.specs.declared.stands.Stand.{Stand}
use Rattle.nddl_terms.specs.declared.stands.Stand.TheVariants as stands
use Rattle.nddl_env.specs.Lexicons.{denoted_class, denoted_kind, name_stand, scope_stands, sort_stand, stand_if_first}
use Rattle.nddl_env.specs.Shapes.{World}
use Rattle.nddl_rules.specs.Told.{AreFileTrees}
use Rattle.nddl_instance.specs.Asserted.{assertions_of}
use Rattle.nddl_instance.specs.Globals.{declared_global, declared_globals, global_with, typed_global}
use Rattle.nddl_instance.specs.Outside.{Outsides}
use Rattle.nddl_instance.specs.Posed.{outside_rules, text_beside}
use Rattle.nddl_instance.specs.Renumbered.{field_globals}
use Rattle.nddl_instance.specs.Roots.{posted_root, posted_roots, root_of_wanted, root_wanted}
use Rattle.nddl_problem.specs.Compiled.{compiled_model, posing_known, problem_fault}
use Rattle.nddl_problem.specs.Known.{Known, known_by, lexicon_known, objects_known, world_known}
use Rattle.nddl_laws.specs.Given.{AreGiven}
use Rattle.nddl_laws.proofs.Declared.{IsRightDecl}
use Rattle.nddl_laws.proofs.First.{stands_from}
use Rattle.nddl_laws.proofs.Known.{meant}
use Rattle.nddl_laws.proofs.Lists.{all_kept}
use Rattle.nddl_laws.proofs.Numbers.{member_there}
use Rattle.nddl_laws.proofs.WholeTypes.{type_means}
use Rattle.nddl_rule_laws.proofs.Classes.{are_facts, first_means, right}
use Rattle.nddl_lowering_laws.specs.Fitting.{HasThings, IsInModel}
use Rattle.nddl_name_laws.proofs.Names.{object_found, own_first}
use Rattle.nddl_model_laws.specs.Faultless.{IsFaultless}
use Rattle.nddl_model_laws.proofs.Grounds.{objects_fine}
use Rattle.nddl_model_laws.proofs.Naming.{labels_named}
use Rattle.nddl_whole_laws.proofs.Roots.{root_here}
use Rattle.nddl_whole_laws.proofs.Things.{content_right, part_right, value_there}

-- ---- sorts

-- what is declared as a variable is no posted token
variable_no_root : (type : types.Type) (init : Option Init) → sort_of_init type init ≡ sorts.Root → ⊥
variable_no_root type None is = (let e : sorts.Global ≡ sorts.Root = is in cc)
variable_no_root type (Some (inits.Expr expr)) is = (let e : sorts.Global ≡ sorts.Root = is in cc)
variable_no_root type (Some (inits.New creation)) is = by (is_config_name creation.class.text && is_config_type type.base type.bounds) is
  where
    by : (b : Bool) → (if b then sorts.Config else sorts.Object) ≡ sorts.Root → ⊥
    by true is = (let e : sorts.Config ≡ sorts.Root = is in cc)
    by false is = (let e : sorts.Object ≡ sorts.Root = is in cc)

-- neither a global nor a posted token
abbrev IsUncounted : Declared → Type 0
IsUncounted declared = (is_global_sort declared.sort ≡ false) × (is_root_sort declared.sort ≡ false)

module _ (files : List FileDecls) (table : TypeTable) (trees : List PlainTree) (given : AreGiven files) (is : IsTable files table)
    (are_trees : AreFileTrees table files trees) (fine : problem_fault (known_by files is.facts table trees) ≡ None) where
  abbrev known : Known
  known = known_by files is.facts table trees

  abbrev faultless : IsFaultless known
  faultless = record { given = given; is_table = is; are_trees = are_trees; are = is.are; fine = fine }

  abbrev facts : Facts
  facts = is.facts

  abbrev world : World
  world = world_known known

  abbrev model : Model
  model = compiled_model known

  abbrev lexicon : Lexicon
  lexicon = lexicon_known known

  abbrev outside : Outsides
  outside = outside_rules (posing_known known)

  names_are : facts.names ≡ scope_names facts.program
  names_are = (are_facts files table given is).is_names

  abbrev Good : Stand → Type 0
  Good = IsInModel model

  -- ---- names of one sort

  member_good : (entry of place globals roots : ℕ) (declared : Declared) → slice_get facts.names entry ≡ Some declared → declared.sort ≡ sorts.Member of place
      → Good (name_stand world entry globals roots declared)
  member_good entry of place globals roots declared at sort =
      let has = member_there facts.program entry of place declared (sym (ap (λ (some : List Declared). slice_get some entry) names_are) ∙ at) sort in
      subst (λ (s : Sort). Good (sort_stand world entry globals roots declared (file_denoted facts declared.name) s)) (sym sort)
      (record { found = has.found; is_enum = has.there; place = place; is_place = refl; member = has.member; is_member = has.is_member })

  object_good : (entry globals roots : ℕ) (declared : Declared) → slice_get facts.names entry ≡ Some declared → declared.sort ≡ sorts.Object
      → Good (name_stand world entry globals roots declared)
  object_good entry globals roots declared at sort =
      let it = (object_found files table given is (objects_fine known faultless) entry declared at sort).stands in
      let class = denoted_class world (file_denoted facts declared.name) in
      subst (λ (s : Sort). Good (sort_stand world entry globals roots declared (file_denoted facts declared.name) s)) (sym sort)
      (subst (λ (o : Option ℤ). Good (option_map_or (λ (value : ℤ). stands.Value (terms.Lit value) value_kinds.Object class) o stands.Nothing)) (sym it.made)
      (value_there files table trees given is are_trees fine (class_number facts.names it.class) it.value it.inside))

  plain_good : (entry globals roots : ℕ) (declared : Declared) → slice_get facts.names entry ≡ Some declared → IsUncounted declared
      → Good (name_stand world entry globals roots declared)
  plain_good entry globals roots declared at plain = by declared.sort refl plain
    where
      of_sort : (sort : Sort) → declared.sort ≡ sort → Good (sort_stand world entry globals roots declared (file_denoted facts declared.name) sort)
          → Good (name_stand world entry globals roots declared)
      of_sort sort same good = subst (λ (s : Sort). Good (sort_stand world entry globals roots declared (file_denoted facts declared.name) s)) (sym same) good

      by : (sort : Sort) → declared.sort ≡ sort → (is_global_sort sort ≡ false) × (is_root_sort sort ≡ false)
          → Good (name_stand world entry globals roots declared)
      by (sorts.Member of place) same counted = member_good entry of place globals roots declared at same
      by sorts.Object same counted = object_good entry globals roots declared at same
      by sorts.Global same counted = absurd (let never : true ≡ false = counted.0 in cc)
      by sorts.Root same counted = absurd (let never : true ≡ false = counted.1 in cc)
      by (sorts.Enum number) same counted = of_sort (sorts.Enum number) same tt
      by sorts.Typedef same counted = of_sort sorts.Typedef same tt
      by sorts.Forward same counted = of_sort sorts.Forward same tt
      by sorts.Body same counted = of_sort sorts.Body same tt
      by sorts.Config same counted = of_sort sorts.Config same tt

  -- a global that is declared
  record HasGlobal (variable : Variable) : Type 0 where
    found : VarDecl
    is_declared : declared_global world (decls.Variable variable) ≡ Some found
    kind : denoted_kind (file_denoted facts variable.name.text) ≡ found.kind

  global_here : (entry number : ℕ) (variable : Variable) → slice_get facts.names entry ≡ Some (declared_as number variable.name (sort_of_variable variable))
      → slice_get facts.program number ≡ Some (decls.Variable variable) → sort_of_variable variable ≡ sorts.Global → HasGlobal variable
  global_here entry number variable at there sort =
      let declared : Declared = declared_as number variable.name (sort_of_variable variable) in
      let type = variable.declared in
      let plain = ap (λ (s : Sort). is_class_sort s) sort in
      let first : is_first facts.names entry declared ≡ true =
      ap (λ (o : Option ℕ). option_map_or (λ (one : ℕ). one == entry) o false) (own_first facts is.fine entry declared at plain) ∙ (Decides-eqb entry entry).1 refl in
      let right_decl = item_all (IsRightDecl facts) facts.program number (decls.Variable variable) (right files table given is) there in
      let none : all_type_faults facts right_decl.number type ≡ [] =
      sym (ap (λ (s : Sort). if is_config_sort s then [] else all_type_faults facts right_decl.number type) sort) ∙ right_decl.none in
      let means = type_means facts (are_facts files table given is) is.fine (right files table given is) right_decl.number type none in
      let told = meant facts type means.0 means.1 in
      let value : declared_value facts false declared ≡ denoted.Value told.kind false =
      ap (λ (o : Option Decl). option_map_or (type_value facts.names facts.known false) (option_and_then variable_type o) denoted.Faulty) there
      ∙ ap (λ (o : Option TypeKind). option_map_or (λ (k : TypeKind). denoted.Value k false) o denoted.Faulty) told.is_kind in
      let denotes : file_denoted facts variable.name.text ≡ Some (denoted.Value told.kind false) =
      ap (option_and_then (meaning_denoted facts)) (first_means files table given is entry declared at first)
      ∙ (ap (option_and_then (λ (d : Declared). sort_denoted facts entry d d.sort)) at
      ∙ (ap (sort_denoted facts entry declared) sort ∙ ap (λ d. Some d) value)) in
      record {
        found = global_with world variable means.0;
        is_declared = ap (λ (s : Sort). if is_global_sort s then typed_global world variable else None) sort
            ∙ ap (option_map (global_with world variable)) means.1;
        kind = ap denoted_kind denotes ∙ ap value_kind (sym (ap (λ (m : TypeMeaning). m.kind) told.is_meaning));
      }

  -- ---- names in their order

  one_name : (declared : Declared) (rest : List Declared) (entry globals roots : ℕ) → Good (name_stand world entry globals roots declared)
      → All Good (scope_stands world (entry + 1) (if is_global_sort declared.sort then globals + 1 else globals)
      (if is_root_sort declared.sort then roots + 1 else roots) rest)
      → All Good (scope_stands world entry globals roots (declared ∷ rest))
  one_name declared rest entry globals roots good later =
      All-append Good (stand_if_first world entry globals roots declared)
      (scope_stands world (entry + 1) (if is_global_sort declared.sort then globals + 1 else globals) (if is_root_sort declared.sort then roots + 1 else roots) rest)
      (by (is_first facts.names entry declared)) later
    where
      by : (b : Bool) → All Good (if b then name_stand world entry globals roots declared ∷ [] else [])
      by true = All-cons Good (name_stand world entry globals roots declared) [] good (All-nil Good)
      by false = All-nil Good

  -- the names stand there from this number on
  abbrev AreAt : ℕ → List Declared → Type 0
  AreAt entry some = (offset : ℕ) (declared : Declared) → slice_get some offset ≡ Some declared → slice_get facts.names (entry + offset) ≡ Some declared

  at_first : (entry : ℕ) (declared : Declared) (rest : List Declared) → AreAt entry (declared ∷ rest) → slice_get facts.names entry ≡ Some declared
  at_first entry declared rest at = let e : entry ≡ entry + 0 = omega arith in ap (slice_get facts.names) e ∙ at 0 declared refl

  at_later : (entry : ℕ) (declared : Declared) (rest : List Declared) → AreAt entry (declared ∷ rest) → AreAt (entry + 1) rest
  at_later entry declared rest at offset other there =
      let e : entry + 1 + offset ≡ entry + suc offset = omega arith in ap (slice_get facts.names) e ∙ at (suc offset) other there

  members_good : (of place number entry globals roots : ℕ) (some : List Name) (rest : List Declared) → AreAt entry (declared_members number of place some ++ rest)
      → ((later : ℕ) → AreAt later rest → All Good (scope_stands world later globals roots rest))
      → All Good (scope_stands world entry globals roots (declared_members number of place some ++ rest))
  members_good of place number entry globals roots [] rest at behind = behind entry at
  members_good of place number entry globals roots (name ∷ more) rest at behind =
      let declared : Declared = declared_as number name (sorts.Member of place) in
      let others = declared_members number of (place + 1) more ++ rest in
      one_name declared others entry globals roots
      (plain_good entry globals roots declared (at_first entry declared others at) (refl, refl))
      (members_good of (place + 1) number (entry + 1) globals roots more rest (at_later entry declared others at) behind)

  -- these are the declarations from this number on, and the globals and roots that they give
  record AreNext (number globals roots : ℕ) (left : List Decl) : Type 0 where
    decls_at : (offset : ℕ) (decl : Decl) → slice_get left offset ≡ Some decl → slice_get facts.program (number + offset) ≡ Some decl
    globals_at : (place : ℕ) (variable : VarDecl) → slice_get (declared_globals world left) place ≡ Some variable → IsGlobal model (globals + place) variable
    roots_at : (place : ℕ) (root : Root) → slice_get (posted_roots outside left) place ≡ Some root → IsRoot model (roots + place) root

  here_at : (number globals roots : ℕ) (decl : Decl) (left : List Decl) → AreNext number globals roots (decl ∷ left)
      → slice_get facts.program number ≡ Some decl
  here_at number globals roots decl left next =
      let e : number ≡ number + 0 = omega arith in ap (slice_get facts.program) e ∙ next.decls_at 0 decl refl

  decls_later : (number globals roots : ℕ) (decl : Decl) (left : List Decl) → AreNext number globals roots (decl ∷ left)
      → (offset : ℕ) (other : Decl) → slice_get left offset ≡ Some other → slice_get facts.program (number + 1 + offset) ≡ Some other
  decls_later number globals roots decl left next offset other at =
      let e : number + 1 + offset ≡ number + suc offset = omega arith in ap (slice_get facts.program) e ∙ next.decls_at (suc offset) other at

  -- a word that posts nothing gives no root
  none_posted : (ask : Ask) → is_posting_word ask.word.text ≡ false → posted_root outside (decls.Ask ask) ≡ None
  none_posted ask none = ap (λ (b : Bool). if b then root_of_wanted lexicon ask (root_wanted outside ask.path) else None) none

  -- a declaration that gives neither a global nor a root
  pass : (number globals roots : ℕ) (decl : Decl) (left : List Decl) → declared_global world decl ≡ None → posted_root outside decl ≡ None
      → AreNext number globals roots (decl ∷ left) → AreNext (number + 1) globals roots left
  pass number globals roots decl left no_global no_root next = record {
    decls_at = decls_later number globals roots decl left next;
    globals_at = λ place variable at.
        next.globals_at place variable (ap (λ (o : Option VarDecl). slice_get (cons_option o (declared_globals world left)) place) no_global ∙ at);
    roots_at = λ place root at.
        next.roots_at place root (ap (λ (o : Option Root). slice_get (cons_option o (posted_roots outside left)) place) no_root ∙ at);
  }

  -- one that gives a global
  pass_global : (number globals roots : ℕ) (decl : Decl) (left : List Decl) (found : VarDecl) → declared_global world decl ≡ Some found
      → posted_root outside decl ≡ None → AreNext number globals roots (decl ∷ left)
      → IsGlobal model globals found × AreNext (number + 1) (globals + 1) roots left
  pass_global number globals roots decl left found a_global no_root next = (
    (let e : globals ≡ globals + 0 = omega arith in
        subst (λ (n : ℕ). IsGlobal model n found) (sym e)
        (next.globals_at 0 found (ap (λ (o : Option VarDecl). slice_get (cons_option o (declared_globals world left)) 0) a_global))),
    record {
      decls_at = decls_later number globals roots decl left next;
      globals_at = λ place variable at.
          (let e : globals + suc place ≡ globals + 1 + place = omega arith in
          subst (λ (n : ℕ). IsGlobal model n variable) e
          (next.globals_at (suc place) variable (ap (λ (o : Option VarDecl). slice_get (cons_option o (declared_globals world left)) (suc place)) a_global ∙ at)));
      roots_at = λ place root at.
          next.roots_at place root (ap (λ (o : Option Root). slice_get (cons_option o (posted_roots outside left)) place) no_root ∙ at);
    },
  )

  -- one that posts a root
  pass_root : (number globals roots : ℕ) (decl : Decl) (left : List Decl) (found : Root) → declared_global world decl ≡ None
      → posted_root outside decl ≡ Some found → AreNext number globals roots (decl ∷ left)
      → IsRoot model roots found × AreNext (number + 1) globals (roots + 1) left
  pass_root number globals roots decl left found no_global a_root next = (
    (let e : roots ≡ roots + 0 = omega arith in
        subst (λ (n : ℕ). IsRoot model n found) (sym e)
        (next.roots_at 0 found (ap (λ (o : Option Root). slice_get (cons_option o (posted_roots outside left)) 0) a_root))),
    record {
      decls_at = decls_later number globals roots decl left next;
      globals_at = λ place variable at.
          next.globals_at place variable (ap (λ (o : Option VarDecl). slice_get (cons_option o (declared_globals world left)) place) no_global ∙ at);
      roots_at = λ place root at.
          (let e : roots + suc place ≡ roots + 1 + place = omega arith in
          subst (λ (n : ℕ). IsRoot model n root) e
          (next.roots_at (suc place) root (ap (λ (o : Option Root). slice_get (cons_option o (posted_roots outside left)) (suc place)) a_root ∙ at)));
    },
  )

  variable_good : (number entry globals roots : ℕ) (variable : Variable) (left : List Decl) (rest : List Declared)
      → AreAt entry (declared_as number variable.name (sort_of_variable variable) ∷ rest) → AreNext number globals roots (decls.Variable variable ∷ left)
      → ((next : ℕ) → AreNext (number + 1) next roots left → AreAt (entry + 1) rest → All Good (scope_stands world (entry + 1) next roots rest))
      → All Good (scope_stands world entry globals roots (declared_as number variable.name (sort_of_variable variable) ∷ rest))
  variable_good number entry globals roots variable left rest at next behind =
      by (sort_of_variable variable) refl
    where
      plain : IsUncounted (declared_as number variable.name (sort_of_variable variable))
          → All Good (scope_stands world entry globals roots (declared_as number variable.name (sort_of_variable variable) ∷ rest))
      plain counted =
          let declared : Declared = declared_as number variable.name (sort_of_variable variable) in
          let no_global = ap (λ (b : Bool). if b then typed_global world variable else None) counted.0 in
          one_name declared rest entry globals roots (plain_good entry globals roots declared (at_first entry declared rest at) counted)
          (subst (λ (b : Bool). All Good (scope_stands world (entry + 1) (if b then globals + 1 else globals) (if is_root_sort declared.sort then roots + 1 else roots) rest))
          (sym counted.0)
          (subst (λ (b : Bool). All Good (scope_stands world (entry + 1) globals (if b then roots + 1 else roots) rest)) (sym counted.1)
          (behind globals (pass number globals roots (decls.Variable variable) left no_global refl next) (at_later entry declared rest at))))

      global : sort_of_variable variable ≡ sorts.Global
          → All Good (scope_stands world entry globals roots (declared_as number variable.name (sort_of_variable variable) ∷ rest))
      global sort =
          let declared : Declared = declared_as number variable.name (sort_of_variable variable) in
          let it = global_here entry number variable (at_first entry declared rest at) (here_at number globals roots (decls.Variable variable) left next) sort in
          let passed = pass_global number globals roots (decls.Variable variable) left it.found it.is_declared refl next in
          let own : Good (name_stand world entry globals roots declared) =
          subst (λ (s : Sort). Good (sort_stand world entry globals roots declared (file_denoted facts declared.name) s)) (sym sort) (it.found, passed.0, it.kind) in
          one_name declared rest entry globals roots own
          (subst (λ (s : Sort). All Good (scope_stands world (entry + 1) (if is_global_sort s then globals + 1 else globals) (if is_root_sort s then roots + 1 else roots) rest))
          (sym sort) (behind (globals + 1) passed.1 (at_later entry declared rest at)))

      by : (sort : Sort) → sort_of_variable variable ≡ sort
          → All Good (scope_stands world entry globals roots (declared_as number variable.name (sort_of_variable variable) ∷ rest))
      by sorts.Global sort = global sort
      by sorts.Root sort = absurd (variable_no_root variable.declared variable.init sort)
      by (sorts.Enum of) sort = plain (ap is_global_sort sort, ap is_root_sort sort)
      by (sorts.Member of place) sort = plain (ap is_global_sort sort, ap is_root_sort sort)
      by sorts.Typedef sort = plain (ap is_global_sort sort, ap is_root_sort sort)
      by sorts.Forward sort = plain (ap is_global_sort sort, ap is_root_sort sort)
      by sorts.Body sort = plain (ap is_global_sort sort, ap is_root_sort sort)
      by sorts.Object sort = plain (ap is_global_sort sort, ap is_root_sort sort)
      by sorts.Config sort = plain (ap is_global_sort sort, ap is_root_sort sort)

  ask_good : (number entry globals roots : ℕ) (ask : Ask) (left : List Decl) (rest : List Declared)
      → AreAt entry ((if is_posting_word ask.word.text then declared_as number ask.label sorts.Root ∷ [] else []) ++ rest)
      → AreNext number globals roots (decls.Ask ask ∷ left)
      → ((next after : ℕ) → AreNext (number + 1) globals after left → AreAt next rest → All Good (scope_stands world next globals after rest))
      → All Good (scope_stands world entry globals roots ((if is_posting_word ask.word.text then declared_as number ask.label sorts.Root ∷ [] else []) ++ rest))
  ask_good number entry globals roots ask left rest at next behind = by (is_posting_word ask.word.text) refl at
    where
      by : (b : Bool) → is_posting_word ask.word.text ≡ b → AreAt entry ((if b then declared_as number ask.label sorts.Root ∷ [] else []) ++ rest)
          → All Good (scope_stands world entry globals roots ((if b then declared_as number ask.label sorts.Root ∷ [] else []) ++ rest))
      by true posting at =
          let declared : Declared = declared_as number ask.label sorts.Root in
          let it = root_here files table trees given is are_trees fine entry number ask (at_first entry declared rest at)
          (here_at number globals roots (decls.Ask ask) left next) posting in
          let passed = pass_root number globals roots (decls.Ask ask) left it.root refl it.is_posted next in
          one_name declared rest entry globals roots (subst Good (sym (it.stand roots)) (it.root, passed.0, refl))
          (behind (entry + 1) (roots + 1) passed.1 (at_later entry declared rest at))
      by false posting at =
          behind entry roots
          (pass number globals roots (decls.Ask ask) left refl (none_posted ask posting) next) at

  names_good : (number enums entry globals roots : ℕ) (left : List Decl) → AreNext number globals roots left → AreAt entry (names_from number enums left)
      → All Good (scope_stands world entry globals roots (names_from number enums left))
  names_good number enums entry globals roots [] next at = All-nil Good
  names_good number enums entry globals roots (decls.Enum name_at name members_at some ∷ left) next at =
      let declared : Declared = declared_as number name (sorts.Enum enums) in
      let rest = names_from (number + 1) (enums + 1) left in
      let others = declared_members number enums 0 some ++ rest in
      one_name declared others entry globals roots (plain_good entry globals roots declared (at_first entry declared others at) (refl, refl))
      (members_good enums 0 number (entry + 1) globals roots some rest (at_later entry declared others at)
      (λ later there. names_good (number + 1) (enums + 1) later globals roots left
      (pass number globals roots (decls.Enum name_at name members_at some) left refl refl next) there))
  names_good number enums entry globals roots (decls.Typedef name_at type name ∷ left) next at =
      let declared : Declared = declared_as number name sorts.Typedef in
      let rest = names_from (number + 1) (enums + 0) left in
      one_name declared rest entry globals roots (plain_good entry globals roots declared (at_first entry declared rest at) (refl, refl))
      (names_good (number + 1) (enums + 0) (entry + 1) globals roots left (pass number globals roots (decls.Typedef name_at type name) left refl refl next)
      (at_later entry declared rest at))
  names_good number enums entry globals roots (decls.Forward name_at name ∷ left) next at =
      let declared : Declared = declared_as number name sorts.Forward in
      let rest = names_from (number + 1) (enums + 0) left in
      one_name declared rest entry globals roots (plain_good entry globals roots declared (at_first entry declared rest at) (refl, refl))
      (names_good (number + 1) (enums + 0) (entry + 1) globals roots left (pass number globals roots (decls.Forward name_at name) left refl refl next)
      (at_later entry declared rest at))
  names_good number enums entry globals roots (decls.Class name_at name parent some ∷ left) next at =
      let declared : Declared = declared_as number name sorts.Body in
      let rest = names_from (number + 1) (enums + 0) left in
      one_name declared rest entry globals roots (plain_good entry globals roots declared (at_first entry declared rest at) (refl, refl))
      (names_good (number + 1) (enums + 0) (entry + 1) globals roots left (pass number globals roots (decls.Class name_at name parent some) left refl refl next)
      (at_later entry declared rest at))
  names_good number enums entry globals roots (decls.Variable variable ∷ left) next at =
      variable_good number entry globals roots variable left (names_from (number + 1) (enums + 0) left) at next
      (λ after further there. names_good (number + 1) (enums + 0) (entry + 1) after roots left further there)
  names_good number enums entry globals roots (decls.Ask ask ∷ left) next at =
      ask_good number entry globals roots ask left (names_from (number + 1) (enums + 0) left) at next
      (λ later after further there. names_good (number + 1) (enums + 0) later globals after left further there)
  names_good number enums entry globals roots (decls.Include file_at file place ∷ left) next at =
      names_good (number + 1) (enums + 0) entry globals roots left (pass number globals roots (decls.Include file_at file place) left refl refl next) at
  names_good number enums entry globals roots (decls.Rule class predicate body ∷ left) next at =
      names_good (number + 1) (enums + 0) entry globals roots left (pass number globals roots (decls.Rule class predicate body) left refl refl next) at
  names_good number enums entry globals roots (decls.Call call ∷ left) next at =
      names_good (number + 1) (enums + 0) entry globals roots left (pass number globals roots (decls.Call call) left refl refl next) at

  -- ---- all names

  names_there : All Good lexicon.scope
  names_there =
      let own = declared_globals world facts.program in
      let read = (assertions_of (text_beside (posing_known known) (length own)) facts.program).growth.locals in
      subst (λ (names : List Declared). All Good (scope_stands world 0 0 0 names)) (sym names_are)
      (names_good 0 0 0 0 0 facts.program
      (record {
        decls_at = λ offset decl at. (let e : 0 + offset ≡ offset = omega arith in ap (slice_get facts.program) e ∙ at);
        globals_at = λ place variable at.
            (let e : place ≡ 0 + place = omega arith in
            subst (λ (n : ℕ). IsGlobal model n variable) e
            (get-append_left own (field_globals (length own) read) place variable at));
        roots_at = λ place root at. (let e : place ≡ 0 + place = omega arith in subst (λ (n : ℕ). IsRoot model n root) e at);
      })
      (λ offset declared at. (let e : 0 + offset ≡ offset = omega arith in
      ap (slice_get facts.names) e ∙ (ap (λ (names : List Declared). slice_get names offset) names_are ∙ at))))

  pub things_there : HasThings model lexicon (objects_known known)
  things_there = record {
    names = names_there;
    values = value_there files table trees given is are_trees fine;
    contents = content_right files table trees given is are_trees fine;
    parts = part_right files table trees given is are_trees fine;
  }

  -- ---- roots

  decl_lawful : (number : ℕ) (decl : Decl) → slice_get facts.program number ≡ Some decl → (root : Root) → posted_root outside decl ≡ Some root
      → IsName root.label → IsLawfulRoot model root
  decl_lawful number (decls.Ask ask) at root told = by (is_posting_word ask.word.text) refl told
    where
      by : (b : Bool) → is_posting_word ask.word.text ≡ b → posted_root outside (decls.Ask ask) ≡ Some root → IsName root.label → IsLawfulRoot model root
      by true posting told name =
          let one = stands_from 0 0 facts.program number (decls.Ask ask) ask.label sorts.Root at
          (λ n before. ap (λ (b : Bool). if b then declared_as n ask.label sorts.Root ∷ [] else []) posting) in
          let e : 0 + number ≡ number = omega arith in
          let entry_at : slice_get facts.names one.0 ≡ Some (declared_as number ask.label sorts.Root) =
          ap (λ (names : List Declared). slice_get names one.0) names_are ∙ (one.1 ∙ ap (λ (n : ℕ). Some (declared_as n ask.label sorts.Root)) e) in
          let it = root_here files table trees given is are_trees fine one.0 number ask entry_at at posting in
          let same : it.root ≡ root = same_Some it.root root (sym it.is_posted ∙ told) in
          subst (λ (r : Root). IsName r.label → IsLawfulRoot model r) same it.lawful name
      by false posting told name = absurd (none-some root (sym (none_posted ask posting) ∙ told))
  decl_lawful number (decls.Include file_at file place) at root told = absurd (none-some root told)
  decl_lawful number (decls.Enum name_at name members_at some) at root told = absurd (none-some root told)
  decl_lawful number (decls.Typedef name_at type name) at root told = absurd (none-some root told)
  decl_lawful number (decls.Forward name_at name) at root told = absurd (none-some root told)
  decl_lawful number (decls.Class name_at name parent some) at root told = absurd (none-some root told)
  decl_lawful number (decls.Rule class predicate body) at root told = absurd (none-some root told)
  decl_lawful number (decls.Variable variable) at root told = absurd (none-some root told)
  decl_lawful number (decls.Call call) at root told = absurd (none-some root told)

  pub roots_lawful : All (IsLawfulRoot model) model.problem.roots
  roots_lawful =
      let all = all_kept (λ (root : Root). IsName root.label → IsLawfulRoot model root) (posted_root outside) facts.program
      (λ k d within. decl_lawful k (get_or facts.program k d) (item_at facts.program k d within)) in
      λ k d within. all k d within (labels_named known faultless k d within)

-- Each token that the text posts is a root of the model, of the predicate that its label stands for.
use Rattle.std.proofs.Common.{◌≡◌, ℕ, zero, suc, ◌+◌, ◌==◌, ◌&&◌, ◌||◌, Bool, true, false, List, [], ◌∷◌, ◌++◌, length, ℤ, refl, sym, ◌∙◌, ap, subst, arith}
use Rattle.std.specs.Prelude.{Option, Some, None, Ok, Err, All, is_none, slice_get, if◌then◌else◌}
use Rattle.std.specs.List.{list_any}
use Rattle.std.specs.Option.{option_and_then, option_map_or}
use Rattle.std.specs.Str.{bytes_eq}
use Rattle.std.proofs.lemmas.Bool.Decides.{Decides-eqb}
use Rattle.std.proofs.lemmas.List.Elements.{All-cons, All-nil}
use Rattle.std.proofs.lemmas.Option.{same_Some, none-some}
use Rattle.domain_core.specs.Domain.{Domain, Set}
use Rattle.eu_name.specs.Word.{IsName}
use Rattle.model_core.specs.declared.item.Term.{Term}
use Rattle.model_core.specs.declared.item.Term.TheVariants as terms
use Rattle.model_core.specs.declared.model.Model.{Model}
use Rattle.model_core.specs.declared.model.Root.{Root}
use Rattle.model_core.specs.declared.variable.Base.{Base}
use Rattle.model_core.specs.declared.variable.Base.TheVariants.{Given, Void}
use Rattle.model_core.specs.declared.variable.VarDecl.{VarDecl}
use Rattle.model_core.specs.Lawful.{IsLawfulRoot}
use Rattle.model_core.specs.Variables.{IsGiven}
use Rattle.model_rules.specs.Rules.{IsBaseOfClass}
use Rattle.nddl_ast.specs.declared.declaration.Decl.{Decl}
use Rattle.nddl_ast.specs.declared.declaration.Decl.TheVariants as decls
use Rattle.nddl_ast.specs.declared.declaration.FileDecls.{FileDecls}
use Rattle.nddl_ast.specs.declared.kind.TextKind.TheVariants as faults
use Rattle.nddl_ast.specs.declared.name.Name.{Name}
use Rattle.nddl_ast.specs.declared.statement.Ask.{Ask}
use Rattle.nddl_ast.specs.Path.{last_in_path, last_name}
use Rattle.nddl_symbols.specs.declared.declared.Declared.{Declared}
use Rattle.nddl_symbols.specs.declared.declared.Sort.TheVariants as sorts
use Rattle.nddl_symbols.specs.declared.scope.Meaning.{Meaning}
use Rattle.nddl_symbols.specs.Finding.{earliest_fault}
use Rattle.nddl_symbols.specs.Names.{declared_as, is_posting_word}
use Rattle.nddl_symbols.specs.Scope.{fault_if}
use Rattle.nddl_hierarchy.specs.Facts.{Facts}
use Rattle.nddl_types.specs.declared.table.TypeTable.{TypeTable}
use Rattle.nddl_types.specs.Classes.{class_number, is_first}
use Rattle.nddl_types.specs.Table.{IsTable}
use Rattle.nddl_resolve.specs.declared.denoted.Denoted.{Denoted}
use Rattle.nddl_resolve.specs.declared.denoted.Denoted.TheVariants as denoted
use Rattle.nddl_resolve.specs.declared.denoted.TokenSort.{TokenSort}
use Rattle.nddl_resolve.specs.Files.{declared_ask, file_denoted, file_owner, meaning_denoted, root_by, sort_denoted}
use Rattle.nddl_resolve.specs.Following.{Understood, asked_by, asked_rest, or_faulty}
use Rattle.nddl_constructors.specs.Objects.{first_close, writing_faults, writing_faults_from}
use Rattle.nddl_construction.specs.declared.made.MadeObject.{MadeObject}
use Rattle.nddl_construction.specs.declared.made.NamedObject.{NamedObject}
use Rattle.nddl_terms.specs.PlainTree.{PlainTree}
use Rattle.nddl_terms.specs.declared.lexicon.Attribute.{Attribute}
use Rattle.nddl_terms.specs.declared.lexicon.Lexicon.{Lexicon}
use Rattle.nddl_terms.specs.declared.lexicon.PredShape.{PredShape}
use Rattle.nddl_terms.specs.declared.stands.Stand.TheVariants as stands
use Rattle.nddl_terms.specs.Growth.{no_growth}
use Rattle.nddl_terms.specs.Lexicon.{class_objects, pred_class, pred_params}
use Rattle.nddl_terms.specs.Preds.{class_named, is_pred_named}
use Rattle.nddl_declarations.specs.Ascending.{ascending_of}
use Rattle.nddl_declarations.specs.Domains.{numbers_base}
use Rattle.nddl_env.specs.Lexicons.{asked_name, pred_shapes, root_of_class, root_stand, token_class}
use Rattle.nddl_env.specs.Shapes.{World}
use Rattle.nddl_rules.specs.Told.{AreFileTrees}
use Rattle.nddl_unroll.specs.Weighing.{tree_limits}
use Rattle.nddl_instance.specs.Modelled.{attribute_variable, attribute_variables}
use Rattle.nddl_instance.specs.Outside.{Outsides, front_stand}
use Rattle.nddl_instance.specs.Posed.{outside_rules}
use Rattle.nddl_instance.specs.Roots.{posted_root, root_base, root_kind, root_of_wanted, root_wanted, root_with_base}
use Rattle.nddl_problem_check.specs.Fitness.{Outset, is_void_base, is_void_class, is_void_pred, is_void_stand, placed_stand, unfit_decl_faults, unfit_faults_from}
use Rattle.nddl_problem_check.specs.Limits.{count_faults, outset_of, problem_limit_faults, unfit_faults}
use Rattle.nddl_problem_check.specs.Sound.{are_sound, is_making, making_faults_from}
use Rattle.nddl_problem_check.specs.Texts.{problem_text_faults}
use Rattle.nddl_problem.specs.Compiled.{compiled_model, posing_known, problem_fault}
use Rattle.nddl_problem.specs.Known.{Known, known_by, lexicon_known, progress_known, scope_known, world_known}
use Rattle.nddl_laws.specs.Given.{AreGiven}
use Rattle.nddl_laws.proofs.Nothing.{none_first, none_second}
use Rattle.nddl_laws.proofs.Values.{no_fault, not_so}
use Rattle.nddl_rule_laws.proofs.Classes.{IsBelow, below_itself, both_so, first_means}
use Rattle.nddl_rule_laws.proofs.Lexicon.{has_pred}
use Rattle.nddl_rule_laws.proofs.Owners.{class_found, position_is}
use Rattle.nddl_name_laws.proofs.Labels.{posted}
use Rattle.nddl_name_laws.proofs.Names.{own_first}
use Rattle.nddl_model_laws.specs.Faultless.{IsFaultless}
use Rattle.nddl_model_laws.proofs.Grounds.{objects_fine, problem_fine}
use Rattle.nddl_model_laws.proofs.Programmed.{both_none, written_fine}
use Rattle.nddl_whole_laws.proofs.Climbing.{class_base_right, listed_base_right}
use Rattle.nddl_whole_laws.proofs.Exact.{IsObjectFor, IsWanted, front_exact, names_wanted, stands_as}
use Rattle.nddl_whole_laws.proofs.Things.{has_shape}

-- ---- what is found at a declaration

unfit_at : (outset : Outset) (fine : Bool) (number : ℕ) (program : List Decl) (place : ℕ) (decl : Decl) → unfit_faults_from outset fine number program ≡ []
    → slice_get program place ≡ Some decl → unfit_decl_faults outset fine (number + place) decl ≡ []
unfit_at outset fine number [] place decl none at = absurd (none-some decl at)
unfit_at outset fine number (here ∷ program) zero decl none at =
    let first = none_first (unfit_decl_faults outset fine number here) (unfit_faults_from outset fine (number + 1) program) none in
    let same : here ≡ decl = same_Some here decl at in
    let e : number ≡ number + 0 = omega arith in
    sym (λ i. unfit_decl_faults outset fine (e i) (same i)) ∙ first
unfit_at outset fine number (here ∷ program) (suc place) decl none at =
    let rest = none_second (unfit_decl_faults outset fine number here) (unfit_faults_from outset fine (number + 1) program) none in
    let e : number + 1 + place ≡ number + suc place = omega arith in
    sym (ap (λ n. unfit_decl_faults outset fine n decl) e) ∙ unfit_at outset fine (number + 1) program place decl rest at

-- where nothing is wrong with any text, nothing is with that which counts
making_none : (outset : Outset) (closed : Option ℕ) (number : ℕ) (program : List Decl) → writing_faults_from outset.grounds.facts closed number program ≡ []
    → making_faults_from outset closed number program ≡ []
making_none outset closed number [] none = refl
making_none outset closed number (decl ∷ program) none =
    let first = none_first (writing_faults outset.grounds.facts closed number decl) (writing_faults_from outset.grounds.facts closed (number + 1) program) none in
    let rest = none_second (writing_faults outset.grounds.facts closed number decl) (writing_faults_from outset.grounds.facts closed (number + 1) program) none in
    λ i. by (is_making outset decl) first i ++ making_none outset closed (number + 1) program rest i
  where
    by : (b : Bool) → writing_faults outset.grounds.facts closed number decl ≡ []
        → (if b then writing_faults outset.grounds.facts closed number decl else []) ≡ []
    by true none = none
    by false none = refl

alone : (value : ℤ) → ascending_of (value ∷ []) ≡ value ∷ []
unfolding ascending_of
alone value = refl

neither_so : (one other : Bool) → (one || other) ≡ false → (one ≡ false) × (other ≡ false)
neither_so false other none = (refl, none)
neither_so true other none = absurd (let never : true ≡ false = none in cc)

-- none is void
all_given : (some : List Attribute) → list_any (λ (param : Attribute). is_void_base param.shape.base) some ≡ false
    → All (λ (variable : VarDecl). IsGiven variable.base) (attribute_variables some)
all_given [] none = All-nil (λ (variable : VarDecl). IsGiven variable.base)
all_given (attribute ∷ more) none =
    let both = neither_so (is_void_base attribute.shape.base) (list_any (λ (param : Attribute). is_void_base param.shape.base) more) none in
    All-cons (λ (variable : VarDecl). IsGiven variable.base) (attribute_variable attribute) (attribute_variables more)
    (by attribute.shape.base both.0) (all_given more both.1)
  where
    by : (base : Base) → is_void_base base ≡ false → IsGiven base
    by (Given domain) is = (domain, refl)
    by Void is = absurd (let never : true ≡ false = is in cc)

-- a list with something in it gives a domain
some_base : (values : List ℤ) → (length values == 0) ≡ false → (domain : Domain) × (numbers_base values ≡ Given domain)
some_base [] none = absurd (let never : true ≡ false = none in cc)
some_base (value ∷ more) none = (Set (ascending_of (value ∷ more)), refl)

module _ (files : List FileDecls) (table : TypeTable) (trees : List PlainTree) (given : AreGiven files) (is : IsTable files table)
    (are_trees : AreFileTrees table files trees) (fine : problem_fault (known_by files is.facts table trees) ≡ None) where
  abbrev known : Known
  known = known_by files is.facts table trees

  abbrev faultless : IsFaultless known
  faultless = record { given = given; is_table = is; are_trees = are_trees; are = is.are; fine = fine }

  abbrev facts : Facts
  facts = is.facts

  abbrev world : World
  world = world_known known

  abbrev model : Model
  model = compiled_model known

  abbrev lexicon : Lexicon
  lexicon = lexicon_known known

  abbrev made : List MadeObject
  made = (progress_known known).so_far.objects

  abbrev named : List NamedObject
  named = (progress_known known).named_objects

  abbrev outside : Outsides
  outside = outside_rules (posing_known known)

  abbrev outset : Outset
  outset = outset_of facts (progress_known known) lexicon (scope_known known)

  -- ---- what is wrong with roots

  objects_sound : are_sound outset ≡ true
  objects_sound =
      let none = both_none (progress_known known) (objects_fine known faultless) in
      let texts = making_none outset (first_close facts.program) 0 facts.program (written_fine facts none.1) in
      λ i. is_none (earliest_fault (none.0 i) (texts i))

  text_fine : problem_text_faults facts ≡ []
  text_fine =
      none_first (problem_text_faults facts) (problem_limit_faults facts (progress_known known) lexicon (scope_known known) ++ tree_limits lexicon trees)
      (problem_fine known faultless)

  unfit_none : unfit_faults outset ≡ []
  unfit_none =
      let limits = problem_limit_faults facts (progress_known known) lexicon (scope_known known) in
      none_first (unfit_faults outset) (count_faults facts)
      (none_first limits (tree_limits lexicon trees)
      (none_second (problem_text_faults facts) (limits ++ tree_limits lexicon trees) (problem_fine known faultless)))

  -- something is left for the root of this label
  not_void : (number : ℕ) (ask : Ask) → slice_get facts.program number ≡ Some (decls.Ask ask)
      → is_void_stand lexicon (placed_stand lexicon (scope_known known) ask.label.text) ≡ false
  not_void number ask at =
      let void = is_void_stand lexicon (placed_stand lexicon (scope_known known) ask.label.text) in
      let told = unfit_at outset (are_sound outset) 0 facts.program number (decls.Ask ask) unfit_none at in
      let none = not_so (are_sound outset && void) faults.NotInDomain
      (no_fault (0 + number) ask.word.at (fault_if (are_sound outset && void) faults.NotInDomain) told) in
      sym (ap (λ (b : Bool). b && void) objects_sound) ∙ none

  -- ---- roots

  -- the root that is posted, for whose number its label stands
  pub record HasRoot (ask : Ask) (declared : Declared) : Type 0 where
    pub root : Root
    pub is_posted : posted_root outside (decls.Ask ask) ≡ Some root
    pub stand : (number : ℕ) → root_stand world number declared (file_denoted facts declared.name) ≡ stands.Root number root.pred
    pub lawful : IsName root.label → IsLawfulRoot model root

  -- what the label of a posted token denotes
  record IsAskedFor (ask : Ask) (token : TokenSort) : Type 0 where
    name : Name
    more : List Name
    rest : ask.path.rest ≡ name ∷ more
    wanted : IsWanted files table trees given is are_trees fine token (last_in_path name more).text (root_wanted outside ask.path)

  asked_for : (ask : Ask) (token : TokenSort) → root_by facts ask.path ≡ denoted.Token token → IsAskedFor ask token
  asked_for ask token denotes = owned (file_owner facts ask.path.first.text) refl denotes
    where
      faulty : denoted.Faulty ≡ denoted.Token token → ⊥
      faulty same = cc

      fully : (u : Understood) → or_faulty u ≡ denoted.Token token → u ≡ Ok (denoted.Token token)
      fully (Ok meant) same = ap (λ d. Ok d) same
      fully (Err fault) same = absurd (faulty same)

      behind : (owner : Denoted) → file_owner facts ask.path.first.text ≡ Some owner → (rest : List Name) → ask.path.rest ≡ rest
          → asked_rest facts ask.path.first.at owner rest ≡ Ok (denoted.Token token) → IsAskedFor ask token
      behind owner found [] same none = absurd (cc)
      behind owner found (name ∷ more) same some = record {
        name = name;
        more = more;
        rest = same;
        wanted = subst (λ (rest : List Name). IsWanted files table trees given is are_trees fine token (last_in_path name more).text
            (root_wanted outside (record { first = ask.path.first; rest = rest }))) (sym same)
            (names_wanted files table trees given is are_trees fine ask.path.first.at owner (front_stand outside ask.path.first.text) name more no_growth token
            (front_exact files table trees given is are_trees fine ask.path.first.text owner found) some);
      }

      owned : (o : Option Denoted) → file_owner facts ask.path.first.text ≡ o
          → option_map_or (λ owner. or_faulty (asked_by facts owner ask.path)) o denoted.Faulty ≡ denoted.Token token → IsAskedFor ask token
      owned None found same = absurd (faulty same)
      owned (Some owner) found same = behind owner found ask.path.rest refl (fully (asked_by facts owner ask.path) same)

  -- the object of a root
  record HasObject (pred class : ℕ) (object : Option Term) : Type 0 where
    domain : Domain
    base : root_base lexicon pred object ≡ Given domain
    right : IsBaseOfClass model class (Given domain)

  object_right : (pred : ℕ) (class : Meaning) (object : Option Term) → pred_class lexicon pred ≡ class_number facts.names class
      → is_void_class lexicon (pred_class lexicon pred) ≡ false → IsObjectFor files table trees given is are_trees fine class object
      → HasObject pred (class_number facts.names class) object
  object_right pred class None same some right =
      let own = some_base (class_objects lexicon (pred_class lexicon pred)) some in
      record {
        domain = own.0;
        base = own.1;
        right = subst (λ (n : ℕ). IsBaseOfClass model n (Given own.0)) same
            (subst (IsBaseOfClass model (pred_class lexicon pred)) own.1
            (class_base_right files table trees given is are_trees fine (pred_class lexicon pred)));
      }
  object_right pred class (Some (terms.Lit value)) same some right = record {
    domain = Set (value ∷ []);
    base = refl;
    right = subst (λ (values : List ℤ). IsBaseOfClass model (class_number facts.names class) (Given (Set values))) (alone value)
        (listed_base_right files table trees given is are_trees fine (class_number facts.names class) value right);
  }
  object_right pred class (Some (terms.Here part)) same some right = absurd right
  object_right pred class (Some (terms.Slot slot part)) same some right = absurd right
  object_right pred class (Some (terms.Local local)) same some right = absurd right
  object_right pred class (Some (terms.Global global)) same some right = absurd right
  object_right pred class (Some (terms.Root root part)) same some right = absurd right

  -- the class of a predicate that is found by its class and name
  record HasClass (pred number : ℕ) : Type 0 where
    shape : PredShape
    there : slice_get lexicon.preds pred ≡ Some shape
    class_is : shape.class ≡ number

  named_class : (number pred : ℕ) (name : List ℕ) → class_named number name (pred_shapes world) ≡ Some pred → HasClass pred number
  named_class number pred name found =
      let it = position_is (is_pred_named number name) (pred_shapes world) 0 pred found in
      let place : it.0 ≡ pred = (let sum : pred ≡ 0 + it.0 = it.1 in omega arith) in
      record {
        shape = it.2.0;
        there = ap (slice_get (pred_shapes world)) (sym place) ∙ it.2.1;
        class_is = (Decides-eqb it.2.0.class number).0 (both_so (it.2.0.class == number) (bytes_eq name it.2.0.name) it.2.2).0;
      }

  pub root_here : (entry number : ℕ) (ask : Ask) → slice_get facts.names entry ≡ Some (declared_as number ask.label sorts.Root)
      → slice_get facts.program number ≡ Some (decls.Ask ask) → is_posting_word ask.word.text ≡ true → HasRoot ask (declared_as number ask.label sorts.Root)
  root_here entry number ask at there posting =
      let declared : Declared = declared_as number ask.label sorts.Root in
      let label = ask.label.text in
      let own = own_first facts is.fine entry declared at refl in
      let first : is_first facts.names entry declared ≡ true =
      ap (λ (o : Option ℕ). option_map_or (λ (one : ℕ). one == entry) o false) own ∙ (Decides-eqb entry entry).1 refl in
      let it = posted files table given is (objects_fine known faultless) text_fine entry declared at refl in
      let token : TokenSort = it.token in
      let by_path : root_by facts ask.path ≡ denoted.Token token =
      sym (ap (λ (o : Option Decl). option_map_or (λ (one : Ask). root_by facts one.path) (option_and_then declared_ask o) denoted.Faulty) there) ∙ it.denotes in
      let asked = asked_for ask token by_path in
      let wanted = root_wanted outside ask.path in
      let last = (last_name ask.path).text in
      let last_is : (last_in_path asked.name asked.more).text ≡ last = ap (λ (rest : List Name). (last_in_path ask.path.first rest).text) (sym asked.rest) in
      let class = class_number facts.names token.class in
      let extended = asked.wanted.there in
      let has = has_pred files table given is named made class (last_in_path asked.name asked.more).text token extended.0
      (subst (λ (c : Meaning). IsBelow facts c token.class) (sym extended.1) (below_itself facts token.class))
      (class_found facts (last_in_path asked.name asked.more).text token.class token.predicate asked.wanted.predicate) in
      let pred : ℕ = has.place in
      let wanted_pred : wanted.pred ≡ Some pred = asked.wanted.pred ∙ has.named in
      let shape = named_class class pred (last_in_path asked.name asked.more).text has.named in
      let pred_class_is : pred_class lexicon pred ≡ class =
      ap (λ (o : Option PredShape). option_map_or (λ (s : PredShape). s.class) o 0) shape.there ∙ shape.class_is in
      let label_denotes : file_denoted facts label ≡ Some (denoted.Token token) =
      ap (option_and_then (meaning_denoted facts)) (first_means files table given is entry declared at first)
      ∙ (ap (option_and_then (λ (d : Declared). sort_denoted facts entry d d.sort)) at ∙ ap (λ d. Some d) it.denotes) in
      let stand : (n : ℕ) → root_stand world n declared (file_denoted facts label) ≡ stands.Root n pred = λ n.
      ap (root_stand world n declared) label_denotes
      ∙ (ap (λ (o : Option Decl). option_map_or (λ (name : Name). option_map_or (root_of_class world n name.text) (token_class (Some (denoted.Token token))) stands.Nothing)
      (option_and_then asked_name o) stands.Nothing) there
      ∙ (ap (λ (name : List ℕ). root_of_class world n name token.class) (sym last_is)
      ∙ ap (λ (o : Option ℕ). option_map_or (stands.Root n) o stands.Nothing) has.named)) in
      let place = stands_as files table trees given is are_trees fine entry declared at first in
      let placed : placed_stand lexicon (scope_known known) label ≡ Some (stands.Root place.roots pred) =
      ap (option_and_then (slice_get lexicon.scope)) place.noted ∙ (place.stand ∙ ap (λ s. Some s) (stand place.roots)) in
      let void : is_void_pred lexicon pred ≡ false = sym (ap (is_void_stand lexicon) placed) ∙ not_void number ask there in
      let neither = neither_so (is_void_class lexicon (pred_class lexicon pred))
      (list_any (λ (param : Attribute). is_void_base param.shape.base) (pred_params lexicon pred)) void in
      let object = object_right pred token.class wanted.object pred_class_is neither.0 asked.wanted.object in
      let root : Root = record { label = label; kind = root_kind ask.word.text; pred = pred; object = object.domain } in
      let found = has_shape files table trees given is are_trees fine pred shape.shape shape.there in
      record {
        root = root;
        is_posted = ap (λ (b : Bool). if b then root_of_wanted lexicon ask wanted else None) posting
            ∙ (ap (option_and_then (λ (p : ℕ). root_with_base ask p (root_base lexicon p wanted.object))) wanted_pred
            ∙ ap (root_with_base ask pred) object.base);
        stand = stand;
        lawful = λ name. record {
          label = name;
          pred = found.pred;
          is_pred = found.there;
          given = subst (λ (some : List VarDecl). All (λ (variable : VarDecl). IsGiven variable.base) some) (sym found.params) (all_given (pred_params lexicon pred) neither.1);
          object = object.right.base_is;
          inside = object.right.inside;
          objects = (subst (λ (n : ℕ). IsBaseOfClass model n (Given object.domain)) (sym (found.class_is ∙ shape.class_is)) object.right).objects;
        };
      }

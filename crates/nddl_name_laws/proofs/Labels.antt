-- Each label of a posted token denotes one.
use Rattle.std.proofs.Common.{◌≡◌, ℕ, zero, suc, ◌+◌, Bool, true, false, List, [], ◌∷◌, refl, sym, ◌∙◌, ap, subst, arith}
use Rattle.std.specs.Prelude.{⊤, Option, Some, None, Ok, Err, slice_get, if◌then◌else◌}
use Rattle.std.specs.Option.{option_and_then, option_map_or}
use Rattle.std.proofs.lemmas.Option.{same_Some, none-some}
use Rattle.nddl_ast.specs.declared.declaration.Decl.{Decl}
use Rattle.nddl_ast.specs.declared.declaration.Decl.TheVariants as decls
use Rattle.nddl_ast.specs.declared.declaration.FileDecls.{FileDecls}
use Rattle.nddl_ast.specs.declared.kind.TextKind.TheVariants as faults
use Rattle.nddl_ast.specs.declared.name.Name.{Name}
use Rattle.nddl_ast.specs.declared.name.Path.{Path}
use Rattle.nddl_ast.specs.declared.statement.Ask.{Ask}
use Rattle.nddl_symbols.specs.declared.declared.Declared.{Declared}
use Rattle.nddl_symbols.specs.declared.declared.Sort.{Sort}
use Rattle.nddl_symbols.specs.declared.declared.Sort.TheVariants as sorts
use Rattle.nddl_symbols.specs.declared.scope.Meaning.{Meaning}
use Rattle.nddl_symbols.specs.declared.scope.Meaning.TheVariants as meanings
use Rattle.nddl_symbols.specs.Finding.{faults_here}
use Rattle.nddl_symbols.specs.Names.{is_class_sort}
use Rattle.nddl_symbols.specs.Scope.{meaning_of}
use Rattle.nddl_typeexpr.specs.declared.kind.TypeKind.{TypeKind}
use Rattle.nddl_typeexpr.specs.declared.kind.TypeKind.TheVariants as kinds
use Rattle.nddl_hierarchy.specs.Facts.{Facts}
use Rattle.nddl_types.specs.declared.table.TypeTable.{TypeTable}
use Rattle.nddl_types.specs.Classes.{class_number}
use Rattle.nddl_types.specs.Table.{IsTable}
use Rattle.nddl_resolve.specs.declared.denoted.Denoted.{Denoted}
use Rattle.nddl_resolve.specs.declared.denoted.Denoted.TheVariants as denoted
use Rattle.nddl_resolve.specs.declared.denoted.Predicate.{Predicate}
use Rattle.nddl_resolve.specs.declared.denoted.TokenSort.{TokenSort}
use Rattle.nddl_resolve.specs.Fields.{class_field}
use Rattle.nddl_resolve.specs.Files.{declared_ask, declared_value, file_owner, meaning_denoted, meaning_owner, root_by, sort_denoted, sort_owner}
use Rattle.nddl_resolve.specs.Following.{Understood, asked_by, asked_names, asked_rest, found_at, found_next, named_token, next_denoted, object_alone, or_faulty, token_denoted, token_with, understood_faults, unknown_at, wrong_at}
use Rattle.nddl_resolve.specs.Predicates.{class_predicate}
use Rattle.nddl_objects.specs.Objects.{last_progress, progress_fault}
use Rattle.nddl_problem_check.specs.Posted.{is_owner, is_owner_sort, posted_token, posting_faults}
use Rattle.nddl_problem_check.specs.Texts.{problem_decl_faults, problem_faults_from, problem_text_faults}
use Rattle.nddl_laws.specs.Given.{AreGiven}
use Rattle.nddl_laws.proofs.Nothing.{none_first, none_second}
use Rattle.nddl_laws.proofs.Parents.{few_builtin}
use Rattle.nddl_rule_laws.specs.Meanings.{DenotesToken}
use Rattle.nddl_rule_laws.proofs.Arguments.{understood}
use Rattle.nddl_rule_laws.proofs.Shapes.{FieldIn, field_found, has_field}
use Rattle.nddl_rule_laws.proofs.TypeKinds.{IsThere, KindThere, builtin_there, meaning_there}
use Rattle.nddl_name_laws.specs.Named.{LabelsDenoteTokens, made_world}
use Rattle.nddl_name_laws.proofs.Names.{from, object_found, there_named}

-- nothing is wrong with the text of the problem in any declaration
pub problem_fine : (facts : Facts) (number : ℕ) (program : List Decl) (place : ℕ) (decl : Decl) → problem_faults_from facts number program ≡ []
    → slice_get program place ≡ Some decl → problem_decl_faults facts (number + place) decl ≡ []
problem_fine facts number [] place decl none at = absurd (none-some decl at)
problem_fine facts number (here ∷ program) zero decl none at =
    let first = none_first (problem_decl_faults facts number here) (problem_faults_from facts (number + 1) program) none in
    let same : here ≡ decl = same_Some here decl at in
    let e : number ≡ number + 0 = omega arith in
    sym (λ i. problem_decl_faults facts (e i) (same i)) ∙ first
problem_fine facts number (here ∷ program) (suc place) decl none at =
    let rest = none_second (problem_decl_faults facts number here) (problem_faults_from facts (number + 1) program) none in
    let e : number + 1 + place ≡ number + suc place = omega arith in
    sym (ap (λ n. problem_decl_faults facts n decl) e) ∙ problem_fine facts (number + 1) program place decl rest at

same_ok : (one other : Denoted) → ◌≡◌ {A = Understood} (Ok one) (Ok other) → one ≡ other
same_ok one other same = cc

module _ (files : List FileDecls) (table : TypeTable) (given : AreGiven files) (is : IsTable files table)
    (fine : progress_fault (last_progress is.facts) ≡ None) where
  abbrev facts : Facts
  facts = is.facts

  -- an object or a class, of a class that there is, or a value
  abbrev IsGood : Denoted → Type 0
  IsGood (denoted.Value (kinds.Object class) constant) = IsThere files table given is class
  IsGood (denoted.Value kind constant) = ⊤
  IsGood (denoted.Class class) = IsThere files table given is class
  IsGood (denoted.Token token) = ⊥
  IsGood denoted.Faulty = ⊥

  kind_good : (kind : TypeKind) (constant : Bool) → KindThere files table given is kind → IsGood (denoted.Value kind constant)
  kind_good (kinds.Object class) constant there = there
  kind_good kinds.Int constant there = tt
  kind_good kinds.Float constant there = tt
  kind_good kinds.Bool constant there = tt
  kind_good (kinds.Enum of) constant there = tt

  field_good : (class : Meaning) (constant : Bool) (name : List ℕ) (next : Denoted) → IsThere files table given is class
      → class_field facts constant name class ≡ Some next → IsGood next
  field_good class constant name next there found =
      let world = made_world facts table in
      let in_class : FieldIn facts constant name class next = field_found facts name constant class next found in
      let has = has_field files table given is world.named_objects world.objects constant name (class_number facts.names class) there.0 next
      (subst (λ c. FieldIn facts constant name c next) (sym there.1) in_class) in
      subst IsGood (sym has.is_value) (kind_good has.kind constant has.there)

  found_is : (name : Name) (o : Option Denoted) (next : Denoted) → found_at name o ≡ Ok next → o ≡ Some next
  found_is name None next is = absurd (cc)
  found_is name (Some found) next is = ap (λ d. Some d) (same_ok found next is)

  next_good : (first : ℕ) (here : Denoted) (name : Name) (next : Denoted) → IsGood here → next_denoted facts first here name ≡ Ok next → IsGood next
  next_good first (denoted.Value (kinds.Object class) constant) name next good is =
      field_good class constant name.text next good (found_is name (class_field facts constant name.text class) next is)
  next_good first (denoted.Value kinds.Int constant) name next good is = absurd (cc)
  next_good first (denoted.Value kinds.Float constant) name next good is = absurd (cc)
  next_good first (denoted.Value kinds.Bool constant) name next good is = absurd (cc)
  next_good first (denoted.Value (kinds.Enum of) constant) name next good is = absurd (cc)
  next_good first (denoted.Class class) name next good is = absurd (cc)
  next_good first (denoted.Token token) name next good is = absurd good
  next_good first denoted.Faulty name next good is = absurd good

  -- a token of a class that there is
  abbrev IsTokenThere : Denoted → Type 0
  IsTokenThere meant = (token : TokenSort) × (meant ≡ denoted.Token token) × IsThere files table given is token.class

  named_good : (class : Meaning) (name : Name) (meant : Denoted) → IsThere files table given is class → named_token facts class name ≡ Ok meant → IsTokenThere meant
  named_good class name meant there is = by (class_predicate facts name.text class) is
    where
      by : (o : Option Predicate) → token_with class name o ≡ Ok meant → IsTokenThere meant
      by None is = absurd (cc)
      by (Some predicate) is =
          (record { class = class; predicate = predicate }, sym (same_ok (denoted.Token (record { class = class; predicate = predicate })) meant is), there)

  token_good : (first : ℕ) (here : Denoted) (name : Name) (meant : Denoted) → IsGood here → token_denoted facts first here name ≡ Ok meant → IsTokenThere meant
  token_good first (denoted.Value (kinds.Object class) constant) name meant good is = named_good class name meant good is
  token_good first (denoted.Value kinds.Int constant) name meant good is = absurd (cc)
  token_good first (denoted.Value kinds.Float constant) name meant good is = absurd (cc)
  token_good first (denoted.Value kinds.Bool constant) name meant good is = absurd (cc)
  token_good first (denoted.Value (kinds.Enum of) constant) name meant good is = absurd (cc)
  token_good first (denoted.Class class) name meant good is = named_good class name meant good is
  token_good first (denoted.Token token) name meant good is = absurd good
  token_good first denoted.Faulty name meant good is = absurd good

  names_good : (first : ℕ) (here : Denoted) (name : Name) (more : List Name) (meant : Denoted) → IsGood here
      → asked_names facts first here name more ≡ Ok meant → IsTokenThere meant
  names_good first here name [] meant good is = token_good first here name meant good is
  names_good first here name (next ∷ more) meant good is =
      by (next_denoted facts first here name) refl is (λ further other rest. names_good first further next more meant other rest)
    where
      by : (u : Understood) → next_denoted facts first here name ≡ u → found_next (λ further. asked_names facts first further next more) u ≡ Ok meant
          → ((further : Denoted) → IsGood further → asked_names facts first further next more ≡ Ok meant → IsTokenThere meant) → IsTokenThere meant
      by (Ok further) there rest behind = behind further (next_good first here name further good there) rest
      by (Err fault) there rest behind = absurd (cc)

  rest_good : (first : ℕ) (here : Denoted) (names : List Name) (meant : Denoted) → IsGood here → asked_rest facts first here names ≡ Ok meant → IsTokenThere meant
  rest_good first here [] meant good is = absurd (cc)
  rest_good first here (name ∷ more) meant good is = names_good first here name more meant good is

  -- what a token is posted of
  record IsOwnerOf (path : Path) (meant : Denoted) : Type 0 where
    owner : Denoted
    found : file_owner facts path.first.text ≡ Some owner
    good : IsGood owner
    asked : asked_by facts owner path ≡ Ok meant

  class_good : (name : List ℕ) (entry : ℕ) (declared : Declared) → meaning_of facts.names name ≡ Some (meanings.Entry entry)
      → slice_get facts.names entry ≡ Some declared → is_class_sort declared.sort ≡ true → IsThere files table given is (meanings.Entry entry)
  class_good name entry declared means at class =
      meaning_there files table given is name entry declared.sort means
      (λ found there. ap (λ (d : Declared). d.sort) (same_Some found declared (sym there ∙ at))) class

  owner_of : (path : Path) (meant : Denoted) → posted_token facts path ≡ Ok meant → IsOwnerOf path meant
  owner_of path meant so = by (meaning_of facts.names path.first.text) refl so
    where
      made : (owner : Denoted) (o : Option Meaning) → meaning_of facts.names path.first.text ≡ o → option_and_then (meaning_owner facts) o ≡ Some owner
          → IsGood owner → asked_by facts owner path ≡ Ok meant → IsOwnerOf path meant
      made owner o means found good asked =
          record { owner = owner; found = ap (option_and_then (meaning_owner facts)) means ∙ found; good = good; asked = asked }

      sorted : (entry : ℕ) (declared : Declared) (sort : Sort) → meaning_of facts.names path.first.text ≡ Some (meanings.Entry entry)
          → slice_get facts.names entry ≡ Some declared → declared.sort ≡ sort
          → option_map_or (λ owner. if is_owner_sort sort then asked_by facts owner path else wrong_at path.first.at)
          (sort_denoted facts entry declared sort) (unknown_at path.first.at) ≡ Ok meant → IsOwnerOf path meant
      sorted entry declared sorts.Object means at sort so =
          let it = object_found files table given is fine entry declared at sort in
          let class : Meaning = it.stands.class in
          let object : object_alone (declared_value facts true declared) ≡ denoted.Value (kinds.Object class) true = ap object_alone it.stands.denotes in
          made (denoted.Value (kinds.Object class) true) (Some (meanings.Entry entry)) means
          (ap (option_and_then (λ (d : Declared). sort_owner facts entry d d.sort)) at
          ∙ (ap (sort_owner facts entry declared) sort ∙ ap (λ d. Some d) object))
          it.there
          (sym (ap (λ owner. asked_by facts owner path) object) ∙ so)
      sorted entry declared sorts.Forward means at sort so =
          made (denoted.Class (meanings.Entry entry)) (Some (meanings.Entry entry)) means
          (ap (option_and_then (λ (d : Declared). sort_owner facts entry d d.sort)) at ∙ ap (sort_owner facts entry declared) sort)
          (class_good path.first.text entry declared means at (ap is_class_sort sort)) so
      sorted entry declared sorts.Body means at sort so =
          made (denoted.Class (meanings.Entry entry)) (Some (meanings.Entry entry)) means
          (ap (option_and_then (λ (d : Declared). sort_owner facts entry d d.sort)) at ∙ ap (sort_owner facts entry declared) sort)
          (class_good path.first.text entry declared means at (ap is_class_sort sort)) so
      sorted entry declared (sorts.Enum number) means at sort so = absurd (cc)
      sorted entry declared (sorts.Member of place) means at sort so = absurd (cc)
      sorted entry declared sorts.Typedef means at sort so = absurd (cc)
      sorted entry declared sorts.Global means at sort so = absurd (cc)
      sorted entry declared sorts.Root means at sort so = absurd (cc)
      sorted entry declared sorts.Config means at sort so = absurd (cc)

      entered : (entry : ℕ) → meaning_of facts.names path.first.text ≡ Some (meanings.Entry entry) → (o : Option Declared) → slice_get facts.names entry ≡ o
          → option_map_or (λ owner. if option_map_or (λ (d : Declared). is_owner_sort d.sort) o false then asked_by facts owner path else wrong_at path.first.at)
          (option_and_then (λ (d : Declared). sort_denoted facts entry d d.sort) o) (unknown_at path.first.at) ≡ Ok meant → IsOwnerOf path meant
      entered entry means None at so = absurd (cc)
      entered entry means (Some declared) at so = sorted entry declared declared.sort means at refl so

      by : (o : Option Meaning) → meaning_of facts.names path.first.text ≡ o
          → option_map_or (λ owner. if is_owner facts.names o then asked_by facts owner path else wrong_at path.first.at)
          (option_and_then (meaning_denoted facts) o) (unknown_at path.first.at) ≡ Ok meant → IsOwnerOf path meant
      by None means so = absurd (cc)
      by (Some (meanings.BuiltIn number)) means so =
          made (denoted.Class (meanings.BuiltIn number)) (Some (meanings.BuiltIn number)) means refl
          (builtin_there files table given is number (few_builtin facts.names path.first.text number means)) so
      by (Some (meanings.Entry entry)) means so = entered entry means (slice_get facts.names entry) refl so

  pub posted : problem_text_faults facts ≡ [] → (entry : ℕ) (declared : Declared) → slice_get facts.names entry ≡ Some declared → declared.sort ≡ sorts.Root
      → DenotesToken facts declared
  posted none entry declared at sort =
      let it = (from files table given is fine entry declared at).root sort in
      let ask : Ask = it.0 in
      let decl = declared.place.decl in
      let wrote : posting_faults facts (0 + decl) ask ≡ [] = problem_fine facts 0 facts.program decl (decls.Ask ask) none it.1 in
      let told : understood_faults (0 + decl) (posted_token facts ask.path) ≡ [] =
      sym (ap (λ b. if b then understood_faults (0 + decl) (posted_token facts ask.path) else faults_here (0 + decl) ask.word.at (Some faults.Unknown)) it.2) ∙ wrote in
      let meant = understood (0 + decl) (posted_token facts ask.path) told in
      let own = owner_of ask.path meant.0 meant.1 in
      let token = rest_good ask.path.first.at own.owner ask.path.rest meant.0 own.good own.asked in
      let root : root_by facts ask.path ≡ denoted.Token token.0 =
      ap (λ o. option_map_or (λ owner. or_faulty (asked_by facts owner ask.path)) o denoted.Faulty) own.found
      ∙ (ap or_faulty own.asked ∙ token.1) in
      record {
        token = token.0;
        is_class = there_named files table given is token.0.class token.2;
        denotes = ap (λ o. option_map_or (λ (a : Ask). root_by facts a.path) (option_and_then declared_ask o) denoted.Faulty) it.1 ∙ root;
      }

pub labels_denote : LabelsDenoteTokens
labels_denote files table given is fine none entry declared at sort = posted files table given is fine none entry declared at sort

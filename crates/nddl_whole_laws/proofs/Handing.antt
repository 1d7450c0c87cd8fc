-- What constructors are passed along the line of a class is there, where nothing is wrong with it.
use Rattle.std.proofs.Common.{◌≡◌, ℕ, zero, suc, ◌+◌, ◌==◌, Bool, true, false, List, [], ◌∷◌, ◌++◌, length, map, refl, sym, ◌∙◌, ap, subst, arith}
use Rattle.std.specs.Prelude.{Option, Some, None, All, if◌then◌else◌}
use Rattle.std.specs.List.{AllByRecursion}
use Rattle.std.specs.Option.{option_and_then, option_map_or}
use Rattle.std.proofs.lemmas.Bool.Decides.{Decides-eqb}
use Rattle.std.proofs.lemmas.List.{length-map}
use Rattle.std.proofs.lemmas.List.Elements.{All-head, All-nil}
use Rattle.std.proofs.lemmas.Option.{same_Some, none-some}
use Rattle.nddl_ast.specs.declared.declaration.FileDecls.{FileDecls}
use Rattle.nddl_ast.specs.declared.declaration.Member.{Member}
use Rattle.nddl_ast.specs.declared.declaration.Member.TheVariants as members
use Rattle.nddl_ast.specs.declared.declaration.Set.{Set}
use Rattle.nddl_ast.specs.declared.declaration.Set.TheVariants as sets
use Rattle.nddl_ast.specs.declared.expression.Expr.{Expr}
use Rattle.nddl_ast.specs.declared.kind.TextKind.TheVariants as faults
use Rattle.nddl_symbols.specs.declared.place.Place.{Place}
use Rattle.nddl_symbols.specs.declared.scope.Meaning.{Meaning}
use Rattle.nddl_symbols.specs.declared.scope.Meaning.TheVariants as meanings
use Rattle.nddl_symbols.specs.Finding.{faults_here}
use Rattle.nddl_symbols.specs.Scope.{fault_if, meaning_of}
use Rattle.nddl_typeexpr.specs.declared.kind.TypeKind.{TypeKind}
use Rattle.nddl_hierarchy.specs.Decls.{members_of}
use Rattle.nddl_hierarchy.specs.Facts.{Facts}
use Rattle.nddl_hierarchy.specs.Shorter.{builds, has_constructor}
use Rattle.nddl_types.specs.declared.table.TypeTable.{TypeTable}
use Rattle.nddl_types.specs.Table.{IsTable}
use Rattle.nddl_resolve.specs.Paths.{Surroundings}
use Rattle.nddl_constructors.specs.Bodies.{body_faults, sets_faults, super_faults}
use Rattle.nddl_constructors.specs.Formals.{around_formals, formal_seen}
use Rattle.nddl_constructors.specs.Wants.{class_wants, formal_kind, wanted_at}
use Rattle.nddl_construction.specs.declared.made.Datum.{Datum}
use Rattle.nddl_construction.specs.declared.passing.Passed.{Passed}
use Rattle.nddl_construction.specs.Classes.{constructor_at, constructor_formals, constructor_sets, is_building, line_up, own_constructor}
use Rattle.nddl_construction.specs.Passing.{constructor_scene, fitting_arguments, handed_arguments, has_foreign_from, has_super, is_wrong_super, passed_above, passed_from, passed_here, passing_faults, read_faults, super_arguments, super_data, wants_above}
use Rattle.nddl_construction.specs.Reading.{all_unmade_faults, fine_data}
use Rattle.nddl_construction.specs.Scene.{Grounds}
use Rattle.nddl_objects.specs.Objects.{last_progress, progress_fault}
use Rattle.nddl_object_laws.specs.Carried.{There, grounds_there}
use Rattle.nddl_object_laws.specs.Wrong.{passed_faults}
use Rattle.nddl_problem_check.specs.Texts.{problem_text_faults}
use Rattle.nddl_laws.specs.Fine.{IsFineExpr, IsFineSet}
use Rattle.nddl_laws.specs.Given.{AreGiven}
use Rattle.nddl_laws.proofs.Circles.{extends_is}
use Rattle.nddl_laws.proofs.Nothing.{none_first, none_second}
use Rattle.nddl_laws.proofs.Values.{no_fault, not_so}
use Rattle.nddl_rule_laws.proofs.Classes.{are_facts, right}
use Rattle.nddl_model_laws.proofs.Lined.{Lined, stands_over, stands_top, stands_under}
use Rattle.nddl_model_laws.proofs.Passing.{AreWanted, IsNext, constructor_right, formals_sound, next_over, next_top, next_under}
use Rattle.nddl_model_laws.proofs.Typing.{data_sound}
use Rattle.nddl_whole_laws.proofs.Each.{each_back}
use Rattle.nddl_whole_laws.proofs.Leading.{AreThere, IsSettled, arguments_lead}

-- some name means the class of this number
abbrev pub Means : Facts → ℕ → Type 0
Means facts entry = (text : List ℕ) × (meaning_of facts.names text ≡ Some (meanings.Entry entry))

-- what a class is passed is there, and of the kinds that it wants
pub record IsWell (facts : Facts) (there : There) (passed : Passed) : Type 0 where
  pub wanted : AreWanted facts there.objects (class_wants facts passed.class) passed.values
  pub have : AreThere (length (class_wants facts passed.class)) passed.values
  pub means : (entry : ℕ) → passed.class ≡ meanings.Entry entry → Means facts entry
  pub wants : (entry : ℕ) (constructor : Member) → passed.class ≡ meanings.Entry entry
      → constructor_at facts.names facts.program entry ≡ Some constructor
      → class_wants facts passed.class ≡ map (formal_kind facts) (constructor_formals constructor)
  pub own : (entry : ℕ) (constructor : Member) → passed.class ≡ meanings.Entry entry
      → constructor_at facts.names facts.program entry ≡ Some constructor
      → has_foreign_from (grounds_there facts there) there.objects passed.values 0 (constructor_formals constructor) ≡ false

-- nothing is wrong with it
abbrev pub IsFinePassed : Facts → There → Place → Passed → Type 0
IsFinePassed facts there place passed = passed_faults facts there place passed.class passed.values ≡ []

-- ---- texts of constructors

pub body_text : (facts : Facts) (decl entry : ℕ) (constructor : Member) → body_faults facts decl entry constructor ≡ []
    → sets_faults facts (around_formals (map (formal_seen facts) (constructor_formals constructor))) decl entry (constructor_sets constructor) ≡ []
unfolding body_faults
body_text facts decl entry (members.Constructor name formals body) none = none
body_text facts decl entry (members.Field typed) none = refl
body_text facts decl entry (members.Predicate at name parts) none = refl

super_text : (facts : Facts) (around : Surroundings) (decl entry : ℕ) (body : List Set) (arguments : List Expr) → super_arguments body ≡ Some arguments
    → sets_faults facts around decl entry body ≡ [] → super_faults facts around decl entry arguments ≡ []
super_text facts around decl entry [] arguments is none =
    ap (super_faults facts around decl entry) (sym (same_Some [] arguments is))
super_text facts around decl entry (sets.Super at own ∷ more) arguments is none =
    ap (super_faults facts around decl entry) (sym (same_Some own arguments is))
    ∙ none_first (super_faults facts around decl entry own) (sets_faults facts around decl entry more) none
super_text facts around decl entry (sets.Field name value ∷ more) arguments is none = by (has_super more) is
  where
    by : (b : Bool) → (if b then None else Some []) ≡ Some arguments → super_faults facts around decl entry arguments ≡ []
    by true found = absurd (none-some arguments found)
    by false found = ap (super_faults facts around decl entry) (sym (same_Some [] arguments found))

super_right : (body : List Set) (arguments : List Expr) → All IsFineSet body → super_arguments body ≡ Some arguments → All IsFineExpr arguments
super_right [] arguments fine is = subst (All IsFineExpr) (same_Some [] arguments is) (All-nil IsFineExpr)
super_right (sets.Super at own ∷ more) arguments fine is =
    subst (All IsFineExpr) (same_Some own arguments is) (All-head IsFineSet (sets.Super at own) more fine)
super_right (sets.Field name value ∷ more) arguments fine is = by (has_super more) is
  where
    by : (b : Bool) → (if b then None else Some []) ≡ Some arguments → All IsFineExpr arguments
    by true found = absurd (none-some arguments found)
    by false found = subst (All IsFineExpr) (same_Some [] arguments found) (All-nil IsFineExpr)

handed_so : (count : ℕ) (body : List Set) (arguments : List Expr) → handed_arguments count body ≡ Some arguments
    → (super_arguments body ≡ Some arguments) × (count ≡ length arguments)
handed_so count body arguments is = by (super_arguments body) refl is
  where
    inner : (found : List Expr) → super_arguments body ≡ Some found → (b : Bool) → (count == length found) ≡ b → (if b then Some found else None) ≡ Some arguments
        → (super_arguments body ≡ Some arguments) × (count ≡ length arguments)
    inner found at true long told =
        let same : found ≡ arguments = same_Some found arguments told in
        (at ∙ told, (Decides-eqb count (length found)).0 long ∙ ap length same)
    inner found at false long told = absurd (none-some arguments told)

    by : (o : Option (List Expr)) → super_arguments body ≡ o → option_and_then (fitting_arguments count) o ≡ Some arguments
        → (super_arguments body ≡ Some arguments) × (count ≡ length arguments)
    by None at told = absurd (none-some arguments told)
    by (Some found) at told = inner found at (count == length found) refl told

built : (some : List Member) (constructor : Member) → own_constructor some ≡ Some constructor → has_constructor some ≡ true
built [] constructor is = absurd (none-some constructor is)
built (members.Constructor name formals parts ∷ more) constructor is = refl
built (members.Field typed ∷ more) constructor is = built more constructor is
built (members.Predicate at name parts ∷ more) constructor is = built more constructor is

built_so : (facts : Facts) (entry : ℕ) (constructor : Member) → constructor_at facts.names facts.program entry ≡ Some constructor
    → is_building facts (meanings.Entry entry) ≡ true
unfolding builds
built_so facts entry constructor at = built (members_of facts.names facts.program entry) constructor at

module _ (files : List FileDecls) (table : TypeTable) (given : AreGiven files) (is : IsTable files table)
    (fine : progress_fault (last_progress is.facts) ≡ None) (text : problem_text_faults is.facts ≡ []) (there : There)
    (settled : IsSettled is.facts there.objects there.named_objects)
    (texts : (entry : ℕ) (constructor : Member) → Means is.facts entry → constructor_at is.facts.names is.facts.program entry ≡ Some constructor
    → (decl : ℕ) × (body_faults is.facts decl entry constructor ≡ [])) (place : Place) where
  abbrev facts : Facts
  facts = is.facts

  abbrev grounds : Grounds
  grounds = grounds_there facts there

  none_passed : (line : List Meaning) → passed_from grounds there.objects line None ≡ []
  none_passed [] = refl
  none_passed (class ∷ more) = none_passed more

  both_passed : (class : Meaning) (values : List (Option Datum)) (rest : List Passed) → (is_building facts class ≡ true → IsWell facts there (record { class = class; values = values }))
      → AllByRecursion (IsWell facts there) rest → AllByRecursion (IsWell facts there) (passed_here facts class (Some values) ++ rest)
  both_passed class values rest one others = by (is_building facts class) refl
    where
      by : (b : Bool) → is_building facts class ≡ b → AllByRecursion (IsWell facts there) ((if b then record { class = class; values = values } ∷ [] else []) ++ rest)
      by true builds_it = (one builds_it, others)
      by false builds_not = others

  builtin_well : (number : ℕ) (values : List (Option Datum)) → AreWanted facts there.objects (class_wants facts (meanings.BuiltIn number)) values
      → AreThere (length (class_wants facts (meanings.BuiltIn number))) values
      → AllByRecursion (IsWell facts there) (passed_from grounds there.objects (line_up facts (meanings.BuiltIn number)) (Some values))
  builtin_well number values wanted have =
      both_passed (meanings.BuiltIn number) values [] (λ builds_it. record {
        wanted = wanted;
        have = have;
        means = λ entry same. absurd (cc);
        wants = λ entry constructor same. absurd (cc);
        own = λ entry constructor same. absurd (cc);
      }) tt

  -- what is wrong with what a constructor is passed, part by part
  foreign_not : (entry : ℕ) (values : List (Option Datum)) (constructor : Member) → passing_faults grounds there.objects place entry values constructor ≡ []
      → has_foreign_from grounds there.objects values 0 (constructor_formals constructor) ≡ false
  foreign_not entry values constructor none =
      let foreign = has_foreign_from grounds there.objects values 0 (constructor_formals constructor) in
      let rest = faults_here place.decl place.at (fault_if (is_wrong_super (wants_above facts entry) (constructor_sets constructor)) faults.WrongCount)
      ++ read_faults grounds (constructor_scene facts entry constructor values) (super_arguments (constructor_sets constructor)) in
      not_so foreign faults.NotInDomain
      (no_fault place.decl place.at (fault_if foreign faults.NotInDomain)
      (none_first (faults_here place.decl place.at (fault_if foreign faults.NotInDomain)) rest none))

  reading_fine : (entry : ℕ) (values : List (Option Datum)) (constructor : Member) → passing_faults grounds there.objects place entry values constructor ≡ []
      → read_faults grounds (constructor_scene facts entry constructor values) (super_arguments (constructor_sets constructor)) ≡ []
  reading_fine entry values constructor none =
      let first = faults_here place.decl place.at (fault_if (has_foreign_from grounds there.objects values 0 (constructor_formals constructor)) faults.NotInDomain) in
      let second = faults_here place.decl place.at (fault_if (is_wrong_super (wants_above facts entry) (constructor_sets constructor)) faults.WrongCount) in
      let third = read_faults grounds (constructor_scene facts entry constructor values) (super_arguments (constructor_sets constructor)) in
      none_second second third (none_second first (second ++ third) none)

  -- what a class hands on is there
  step_well : (entry : ℕ) (next : Meaning) (values : List (Option Datum)) → IsNext facts entry next → Means facts entry
      → AreWanted facts there.objects (class_wants facts (meanings.Entry entry)) values → AreThere (length (class_wants facts (meanings.Entry entry))) values
      → AllByRecursion (IsFinePassed facts there place) (passed_from grounds there.objects (line_up facts (meanings.Entry entry)) (Some values))
      → ((more : List (Option Datum)) → AreWanted facts there.objects (class_wants facts next) more → AreThere (length (class_wants facts next)) more
      → AllByRecursion (IsFinePassed facts there place) (passed_from grounds there.objects (line_up facts next) (Some more))
      → AllByRecursion (IsWell facts there) (passed_from grounds there.objects (line_up facts next) (Some more)))
      → AllByRecursion (IsWell facts there) (passed_from grounds there.objects (line_up facts (meanings.Entry entry)) (Some values))
  step_well entry next values step means wanted have checked rest =
      let own = meanings.Entry entry in
      let above_it = passed_from grounds there.objects (line_up facts next) (passed_above grounds there.objects own (Some values)) in
      let P : List Meaning → Type 0 = λ line. AllByRecursion (IsWell facts there) (passed_from grounds there.objects line (Some values)) in
      let C : List Meaning → Type 0 = λ line. AllByRecursion (IsFinePassed facts there place) (passed_from grounds there.objects line (Some values)) in
      let all : AllByRecursion (IsFinePassed facts there place) (passed_here facts own (Some values) ++ above_it) = subst C step.line checked in
      subst P (sym step.line)
      (both_passed own values above_it (λ builds_it. here builds_it all)
      (by (constructor_at facts.names facts.program entry) refl all))
    where
      first_fine : is_building facts (meanings.Entry entry) ≡ true → (others : List Passed)
          → AllByRecursion (IsFinePassed facts there place) (passed_here facts (meanings.Entry entry) (Some values) ++ others)
          → passed_faults facts there place (meanings.Entry entry) values ≡ []
      first_fine builds_it others all =
          let D : Bool → Type 0 = λ b. AllByRecursion (IsFinePassed facts there place) ((if b then record { class = meanings.Entry entry; values = values } ∷ [] else []) ++ others) in
          (subst D builds_it all).0

      passing_none : (constructor : Member) → constructor_at facts.names facts.program entry ≡ Some constructor
          → passed_faults facts there place (meanings.Entry entry) values ≡ [] → passing_faults grounds there.objects place entry values constructor ≡ []
      passing_none constructor at none =
          sym (ap (λ (o : Option Member). option_map_or (passing_faults grounds there.objects place entry values) o []) at) ∙ none

      here : is_building facts (meanings.Entry entry) ≡ true
          → AllByRecursion (IsFinePassed facts there place) (passed_here facts (meanings.Entry entry) (Some values)
          ++ passed_from grounds there.objects (line_up facts next) (passed_above grounds there.objects (meanings.Entry entry) (Some values)))
          → IsWell facts there (record { class = meanings.Entry entry; values = values })
      here builds_it all =
          let none = first_fine builds_it (passed_from grounds there.objects (line_up facts next) (passed_above grounds there.objects (meanings.Entry entry) (Some values))) all in
          record {
            wanted = wanted;
            have = have;
            means = λ one same. let e : entry ≡ one = cc in subst (Means facts) e means;
            wants = λ one constructor same at.
                let e : one ≡ entry = cc in
                step.wants constructor (sym (ap (constructor_at facts.names facts.program) e) ∙ at);
            own = λ one constructor same at.
                let e : one ≡ entry = cc in
                let own_at = sym (ap (constructor_at facts.names facts.program) e) ∙ at in
                foreign_not entry values constructor (passing_none constructor own_at none);
          }

      last : (constructor : Member) → constructor_at facts.names facts.program entry ≡ Some constructor
          → passing_faults grounds there.objects place entry values constructor ≡ []
          → (o : Option (List Expr)) → handed_arguments (length (wants_above facts entry)) (constructor_sets constructor) ≡ o
          → AllByRecursion (IsFinePassed facts there place) (passed_from grounds there.objects (line_up facts next)
          (option_map_or (λ (arguments : List Expr). Some (fine_data grounds (constructor_scene facts entry constructor values) there.objects (wants_above facts entry) 0 arguments)) o None))
          → AllByRecursion (IsWell facts there) (passed_from grounds there.objects (line_up facts next)
          (option_map_or (λ (arguments : List Expr). Some (fine_data grounds (constructor_scene facts entry constructor values) there.objects (wants_above facts entry) 0 arguments)) o None))
      last constructor at none None handed all = subst (AllByRecursion (IsWell facts there)) (sym (none_passed (line_up facts next))) tt
      last constructor at none (Some arguments) handed all =
          let whole = constructor_right facts (are_facts files table given is) is.fine (right files table given is) entry constructor at in
          let scene = constructor_scene facts entry constructor values in
          let wants = wants_above facts entry in
          let W : List (Option TypeKind) → Type 0 = λ some. AreWanted facts there.objects some values in
          let formals = formals_sound grounds there.objects constructor values whole (subst W (step.wants constructor at) wanted) (foreign_not entry values constructor none) in
          let so = handed_so (length wants) (constructor_sets constructor) arguments handed in
          let read = fine_data grounds scene there.objects wants 0 arguments in
          let right_arguments = super_right (constructor_sets constructor) arguments whole.parts so.0 in
          let sound : AreWanted facts there.objects wants read =
          (λ number datum found asked told.
          let e : 0 + number ≡ number = omega arith in
          data_sound facts there.objects settled.typed settled.lines there.named_objects settled.declared scene wants 0 arguments formals right_arguments number datum
          found asked (ap (wanted_at wants) e ∙ told)) in
          let body = texts entry constructor means at in
          let wrote = super_text facts (around_formals scene.formals) body.0 entry (constructor_sets constructor) arguments so.0 (body_text facts body.0 entry constructor body.1) in
          let made : all_unmade_faults grounds scene arguments ≡ [] =
          sym (ap (read_faults grounds scene) so.0) ∙ reading_fine entry values constructor none in
          let long : length (map (formal_seen facts) (constructor_formals constructor)) ≡ length (class_wants facts (meanings.Entry entry)) =
          length-map (constructor_formals constructor) (formal_seen facts)
          ∙ (sym (length-map (constructor_formals constructor) (formal_kind facts)) ∙ sym (ap length (step.wants constructor at))) in
          let lead = arguments_lead files table given is fine text there.objects there.named_objects settled scene body.0 wants 0 arguments formals
          (λ number less. have number (omega (arith, less, long))) wrote made in
          let counted : length wants ≡ length arguments = so.1 in
          let have_read : AreThere (length wants) read = (λ number less. lead number (omega (arith, less, counted))) in
          let V : List (Option TypeKind) → Type 0 = λ some. AreWanted facts there.objects some read in
          let H : List (Option TypeKind) → Type 0 = λ some. AreThere (length some) read in
          rest read (subst V step.handed sound) (subst H step.handed have_read) all

      by : (o : Option Member) → constructor_at facts.names facts.program entry ≡ o
          → AllByRecursion (IsFinePassed facts there place) (passed_here facts (meanings.Entry entry) (Some values)
          ++ passed_from grounds there.objects (line_up facts next) (option_map_or (super_data grounds there.objects entry values) o (Some values)))
          → AllByRecursion (IsWell facts there) (passed_from grounds there.objects (line_up facts next) (option_map_or (super_data grounds there.objects entry values) o (Some values)))
      by None at all =
          let W : List (Option TypeKind) → Type 0 = λ some. AreWanted facts there.objects some values in
          let H : List (Option TypeKind) → Type 0 = λ some. AreThere (length some) values in
          rest values (subst W (step.silent at) wanted) (subst H (step.silent at) have)
          (each_back (IsFinePassed facts there place) (passed_here facts (meanings.Entry entry) (Some values)) (passed_from grounds there.objects (line_up facts next) (Some values)) all)
      by (Some constructor) at all =
          let later = passed_from grounds there.objects (line_up facts next) (super_data grounds there.objects entry values constructor) in
          let none = passing_none constructor at (first_fine (built_so facts entry constructor at) later all) in
          last constructor at none (handed_arguments (length (wants_above facts entry)) (constructor_sets constructor)) refl
          (each_back (IsFinePassed facts there place) (passed_here facts (meanings.Entry entry) (Some values)) later all)

  entry_well : (levels entry : ℕ) → Lined facts levels entry → Means facts entry → (values : List (Option Datum))
      → AreWanted facts there.objects (class_wants facts (meanings.Entry entry)) values → AreThere (length (class_wants facts (meanings.Entry entry))) values
      → AllByRecursion (IsFinePassed facts there place) (passed_from grounds there.objects (line_up facts (meanings.Entry entry)) (Some values))
      → AllByRecursion (IsWell facts there) (passed_from grounds there.objects (line_up facts (meanings.Entry entry)) (Some values))
  entry_well zero entry line means values wanted have checked = absurd line
  entry_well (suc levels) entry (stands_top one up line items) means values wanted have checked =
      step_well entry (meanings.BuiltIn 0) values (next_top facts entry up line) means wanted have checked (λ more fit some all. builtin_well 0 more fit some)
  entry_well (suc levels) entry (stands_over number few one up line items apart) means values wanted have checked =
      step_well entry (meanings.BuiltIn number) values (next_over facts entry number up line) means wanted have checked (λ more fit some all. builtin_well number more fit some)
  entry_well (suc levels) entry (stands_under other one class up line items apart above_it) means values wanted have checked =
      let it = extends_is facts.names facts.program entry (meanings.Entry other) up in
      step_well entry (meanings.Entry other) values (next_under facts entry other up line) means wanted have checked
      (λ more fit some all. entry_well levels other above_it (it.name.text, it.means) more fit some all)

  -- so it is along the line of each class
  pub line_well : (class : Meaning) → ((entry : ℕ) → class ≡ meanings.Entry entry → Means facts entry × ((levels : ℕ) × Lined facts levels entry))
      → (values : List (Option Datum)) → AreWanted facts there.objects (class_wants facts class) values → AreThere (length (class_wants facts class)) values
      → AllByRecursion (IsFinePassed facts there place) (passed_from grounds there.objects (line_up facts class) (Some values))
      → AllByRecursion (IsWell facts there) (passed_from grounds there.objects (line_up facts class) (Some values))
  line_well (meanings.BuiltIn number) line values wanted have checked = builtin_well number values wanted have
  line_well (meanings.Entry entry) line values wanted have checked =
      let found = line entry refl in entry_well found.1.0 entry found.1.1 found.0 values wanted have checked

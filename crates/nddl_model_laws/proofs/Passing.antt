-- What constructors are passed is of the kinds that they want.
use Rattle.std.proofs.Common.{◌≡◌, ℕ, zero, suc, ◌+◌, ◌==◌, Bool, true, false, ◌||◌, List, [], ◌∷◌, ◌++◌, length, get_or, map, refl, sym, ◌∙◌, ap, subst, arith}
use Rattle.std.specs.Prelude.{Option, Some, None, All, slice_get, if◌then◌else◌}
use Rattle.std.specs.Option.{option_and_then, option_map, option_map_or, option_or}
use Rattle.std.proofs.lemmas.List.Elements.{All-nil, All-cons, All-head, All-tail, All-append}
use Rattle.std.proofs.lemmas.Option.{same_Some, none-some, slice_get-map}
use Rattle.eu_forest.specs.Ancestors.{ancestry}
use Rattle.model_core.proofs.Items.{item_all}
use Rattle.nddl_ast.specs.declared.declaration.Member.{Member}
use Rattle.nddl_ast.specs.declared.declaration.Member.TheVariants as members
use Rattle.nddl_ast.specs.declared.declaration.Set.{Set}
use Rattle.nddl_ast.specs.declared.declaration.Set.TheVariants as sets
use Rattle.nddl_ast.specs.declared.declaration.Typed.{Typed}
use Rattle.nddl_ast.specs.declared.expression.Expr.{Expr}
use Rattle.nddl_ast.specs.declared.name.Name.{Name}
use Rattle.nddl_symbols.specs.declared.scope.Meaning.{Meaning}
use Rattle.nddl_symbols.specs.declared.scope.Meaning.TheVariants as meanings
use Rattle.nddl_symbols.specs.Names.{scope_names}
use Rattle.nddl_symbols.specs.Repeats.{repeated_faults}
use Rattle.nddl_typeexpr.specs.declared.kind.TypeKind.{TypeKind}
use Rattle.nddl_typeexpr.specs.Bases.{base_kind}
use Rattle.nddl_hierarchy.specs.Ancestors.{above}
use Rattle.nddl_hierarchy.specs.Decls.{members_of}
use Rattle.nddl_hierarchy.specs.Facts.{Facts}
use Rattle.nddl_hierarchy.specs.Shorter.{builds, has_constructor, is_constructor}
use Rattle.nddl_declarations.specs.Known.{AreFacts, all_type_faults}
use Rattle.nddl_declarations.specs.Faults.{all_faults}
use Rattle.nddl_declarations.specs.Members.{typed_faults, typed_names}
use Rattle.nddl_resolve.specs.declared.denoted.Denoted.TheVariants as denoted
use Rattle.nddl_resolve.specs.declared.denoted.Seen.{Seen}
use Rattle.nddl_constructors.specs.Creations.{meaning_wants}
use Rattle.nddl_constructors.specs.Formals.{formal_seen}
use Rattle.nddl_constructors.specs.Wants.{builtin_along, builtin_or, builtin_wants, class_wants, formal_kind, line_formals, line_wants, own_formals, wanted_at}
use Rattle.nddl_construction.specs.declared.made.Datum.{Datum}
use Rattle.nddl_construction.specs.declared.made.MadeObject.{MadeObject}
use Rattle.nddl_construction.specs.declared.made.NamedObject.{NamedObject}
use Rattle.nddl_construction.specs.declared.passing.Passed.{Passed}
use Rattle.nddl_construction.specs.Classes.{constructor_at, constructor_formals, constructor_sets, is_building, line_up, own_constructor, with_builtin}
use Rattle.nddl_construction.specs.Fitting.{is_foreign_datum}
use Rattle.nddl_construction.specs.Passing.{constructor_scene, fitting_arguments, handed_arguments, has_foreign_from, has_super, is_foreign_formal, passed_above, passed_from, passed_here, super_arguments, super_data, wants_above}
use Rattle.nddl_construction.specs.Reading.{datum_at, fine_data}
use Rattle.nddl_construction.specs.Scene.{Grounds}
use Rattle.nddl_laws.specs.Fine.{IsFineExpr, IsFineSet}
use Rattle.nddl_laws.proofs.Apart.{AreOnce}
use Rattle.nddl_laws.proofs.Declared.{IsRightDecl}
use Rattle.nddl_laws.proofs.Known.{meant}
use Rattle.nddl_laws.proofs.Lists.{none_flat}
use Rattle.nddl_laws.proofs.Members.{IsRightAt, members_right}
use Rattle.nddl_laws.proofs.Noted.{are_new}
use Rattle.nddl_laws.proofs.Nothing.{none_first, none_second}
use Rattle.nddl_laws.proofs.WholeTypes.{type_means}
use Rattle.nddl_model_laws.proofs.Lined.{Lined, stands_over, stands_top, stands_under}
use Rattle.nddl_model_laws.proofs.Typing.{AreDeclared, AreFormals, AreTyped, HaveLines, IsDatum, IsKindly, data_sound, datum_of}

-- ---- constructors

formals_some : (some : List Member) (constructor : Member) → own_constructor some ≡ Some constructor
    → own_formals some ≡ Some (constructor_formals constructor)
formals_some [] constructor is = absurd (none-some constructor is)
formals_some (members.Constructor name formals parts ∷ more) constructor is =
    ap (λ (m : Member). Some (constructor_formals m)) (same_Some (members.Constructor name formals parts) constructor is)
formals_some (members.Field typed ∷ more) constructor is = formals_some more constructor is
formals_some (members.Predicate at name parts ∷ more) constructor is = formals_some more constructor is

formals_none : (some : List Member) → own_constructor some ≡ None → own_formals some ≡ None
formals_none [] none = refl
formals_none (members.Constructor name formals parts ∷ more) none = absurd (none-some (members.Constructor name formals parts) (sym none))
formals_none (members.Field typed ∷ more) none = formals_none more none
formals_none (members.Predicate at name parts ∷ more) none = formals_none more none

building : (some : List Member) (constructor : Member) → own_constructor some ≡ Some constructor → has_constructor some ≡ true
building [] constructor is = absurd (none-some constructor is)
building (members.Constructor name formals parts ∷ more) constructor is = refl
building (members.Field typed ∷ more) constructor is = building more constructor is
building (members.Predicate at name parts ∷ more) constructor is = building more constructor is

built_so : (facts : Facts) (entry : ℕ) (constructor : Member) → constructor_at facts.names facts.program entry ≡ Some constructor
    → is_building facts (meanings.Entry entry) ≡ true
unfolding builds
built_so facts entry constructor at = building (members_of facts.names facts.program entry) constructor at

-- what holds of all members holds of the constructor
pub own_so : (P : Member → Type 0) (some : List Member) (constructor : Member) → All P some → own_constructor some ≡ Some constructor → P constructor
own_so P [] constructor all is = absurd (none-some constructor is)
own_so P (member ∷ more) constructor all is =
    by (is_constructor member) is (λ there. own_so P more constructor (All-tail P member more all) there)
  where
    by : (b : Bool) → (if b then Some member else own_constructor more) ≡ Some constructor
        → (own_constructor more ≡ Some constructor → P constructor) → P constructor
    by true found rest = subst P (same_Some member constructor found) (All-head P member more all)
    by false found rest = rest found

-- ---- the class that comes next on a line

pub record IsNext (facts : Facts) (entry : ℕ) (next : Meaning) : Type 0 where
  pub line : line_up facts (meanings.Entry entry) ≡ meanings.Entry entry ∷ line_up facts next
  pub wants : (constructor : Member) → constructor_at facts.names facts.program entry ≡ Some constructor
      → class_wants facts (meanings.Entry entry) ≡ map (formal_kind facts) (constructor_formals constructor)
  pub silent : constructor_at facts.names facts.program entry ≡ None → class_wants facts (meanings.Entry entry) ≡ class_wants facts next
  pub handed : wants_above facts entry ≡ class_wants facts next

module _ (facts : Facts) where
  abbrev formals_of : ℕ → Option (List Typed)
  formals_of entry = own_formals (members_of facts.names facts.program entry)

  -- what a line wants whose first class has these formals, if any, and extends this
  abbrev wants_with : Option (List Typed) → Option Meaning → List ℕ → List (Option TypeKind)
  wants_with own up line =
      option_map_or (map (formal_kind facts)) (option_or own (line_formals facts.names facts.program line))
      (builtin_wants (builtin_or (builtin_along facts.names facts.program line) up))

  wants_are : (entry : ℕ) (line : List ℕ) → ancestry facts.parents entry ≡ entry ∷ line
      → class_wants facts (meanings.Entry entry) ≡ wants_with (formals_of entry) (above facts.names facts.program entry) line
  unfolding class_wants
  wants_are entry line is = ap (line_wants facts) is

  pub own_wants : (entry : ℕ) (line : List ℕ) → ancestry facts.parents entry ≡ entry ∷ line → (constructor : Member)
      → constructor_at facts.names facts.program entry ≡ Some constructor
      → class_wants facts (meanings.Entry entry) ≡ map (formal_kind facts) (constructor_formals constructor)
  own_wants entry line is constructor at =
      wants_are entry line is
      ∙ ap (λ (o : Option (List Typed)). wants_with o (above facts.names facts.program entry) line)
      (formals_some (members_of facts.names facts.program entry) constructor at)

  no_wants : (entry : ℕ) (line : List ℕ) → ancestry facts.parents entry ≡ entry ∷ line → constructor_at facts.names facts.program entry ≡ None
      → class_wants facts (meanings.Entry entry) ≡ wants_with None (above facts.names facts.program entry) line
  no_wants entry line is none =
      wants_are entry line is
      ∙ ap (λ (o : Option (List Typed)). wants_with o (above facts.names facts.program entry) line)
      (formals_none (members_of facts.names facts.program entry) none)

  pub next_top : (entry : ℕ) → above facts.names facts.program entry ≡ None → ancestry facts.parents entry ≡ entry ∷ []
      → IsNext facts entry (meanings.BuiltIn 0)
  unfolding class_wants
  next_top entry up line = record {
    line = ap (with_builtin facts) line ∙ ap (λ (m : Option Meaning). meanings.Entry entry ∷ meanings.BuiltIn (builtin_or 0 m) ∷ []) up;
    wants = own_wants entry [] line;
    silent = λ none. no_wants entry [] line none ∙ ap (λ (m : Option Meaning). wants_with None m []) up;
    handed = ap (meaning_wants facts) up;
  }

  pub next_over : (entry number : ℕ) → above facts.names facts.program entry ≡ Some (meanings.BuiltIn number) → ancestry facts.parents entry ≡ entry ∷ []
      → IsNext facts entry (meanings.BuiltIn number)
  unfolding class_wants
  next_over entry number up line = record {
    line = ap (with_builtin facts) line ∙ ap (λ (m : Option Meaning). meanings.Entry entry ∷ meanings.BuiltIn (builtin_or 0 m) ∷ []) up;
    wants = own_wants entry [] line;
    silent = λ none. no_wants entry [] line none ∙ ap (λ (m : Option Meaning). wants_with None m []) up;
    handed = ap (meaning_wants facts) up;
  }

  pub next_under : (entry other : ℕ) → above facts.names facts.program entry ≡ Some (meanings.Entry other)
      → ancestry facts.parents entry ≡ entry ∷ ancestry facts.parents other → IsNext facts entry (meanings.Entry other)
  unfolding class_wants
  next_under entry other up line = record {
    line = ap (with_builtin facts) line
        ∙ ap (λ (m : Option Meaning). meanings.Entry entry ∷ (map meanings.Entry (ancestry facts.parents other)
        ++ meanings.BuiltIn (builtin_or (builtin_along facts.names facts.program (ancestry facts.parents other)) m) ∷ [])) up;
    wants = own_wants entry (ancestry facts.parents other) line;
    silent = λ none. no_wants entry (ancestry facts.parents other) line none
        ∙ ap (λ (m : Option Meaning). wants_with None m (ancestry facts.parents other)) up;
    handed = ap (meaning_wants facts) up;
  }

-- ---- formals

-- what is right of the constructor of a class: its formals have different names and are of known kinds, and its text is fine
pub record IsRightConstructor (facts : Facts) (constructor : Member) : Type 0 where
  pub once : AreOnce (map (λ (typed : Typed). typed.name.text) (constructor_formals constructor))
  pub kinds : All (λ (typed : Typed). (kind : TypeKind) × (base_kind facts.names facts.known typed.declared.base ≡ Some kind)) (constructor_formals constructor)
  pub parts : All IsFineSet (constructor_sets constructor)

module _ (facts : Facts) (are : AreFacts (scope_names facts.program) facts.program facts) (fine : all_faults facts ≡ [])
    (right : All (IsRightDecl facts) facts.program) where
  names_same : (formals : List Typed) → map (λ (name : Name). name.text) (typed_names formals) ≡ map (λ (typed : Typed). typed.name.text) formals
  names_same [] = refl
  names_same (typed ∷ more) = ap (λ (rest : List (List ℕ)). typed.name.text ∷ rest) (names_same more)

  right_constructor : (number : ℕ) (constructor : Member) → IsRightAt facts number constructor → IsRightConstructor facts constructor
  right_constructor number (members.Constructor name formals parts) is =
      let types = typed_faults facts number formals in
      let repeated = repeated_faults number [] (typed_names formals) in
      let new = are_new number [] (typed_names formals) (none_second types repeated is.1) in
      record {
        once = subst AreOnce (names_same formals) new.once;
        kinds = λ k d within.
            let none = none_flat (λ (typed : Typed). all_type_faults facts number typed.declared) formals (none_first types repeated is.1) k d within in
            let means = type_means facts are fine right number (get_or formals k d).declared none in
            let told = meant facts (get_or formals k d).declared means.0 means.1 in
            (told.kind, told.is_kind);
        parts = is.0.1.1;
      }
  right_constructor number (members.Field typed) is = record {
    once = tt;
    kinds = All-nil (λ (typed : Typed). (kind : TypeKind) × (base_kind facts.names facts.known typed.declared.base ≡ Some kind));
    parts = All-nil IsFineSet;
  }
  right_constructor number (members.Predicate at name parts) is = record {
    once = tt;
    kinds = All-nil (λ (typed : Typed). (kind : TypeKind) × (base_kind facts.names facts.known typed.declared.base ≡ Some kind));
    parts = All-nil IsFineSet;
  }

  -- the constructor of a class is right
  pub constructor_right : (entry : ℕ) (constructor : Member) → constructor_at facts.names facts.program entry ≡ Some constructor
      → IsRightConstructor facts constructor
  constructor_right entry constructor at =
      let is = members_right facts right entry in
      right_constructor is.number constructor
      (own_so (IsRightAt facts is.number) (members_of facts.names facts.program entry) constructor is.each at)

-- ---- values

-- what a class is passed is of the kinds that it wants
abbrev pub AreWanted : Facts → List MadeObject → List (Option TypeKind) → List (Option Datum) → Type 0
AreWanted facts objects wants values =
    (place : ℕ) (datum : Datum) → datum_at values place ≡ Some datum → (asked : TypeKind) → wanted_at wants place ≡ Some asked → IsKindly facts objects asked datum

foreign_not : (grounds : Grounds) (objects : List MadeObject) (values : List (Option Datum)) (number : ℕ) (formals : List Typed) (place : ℕ) (typed : Typed)
    → has_foreign_from grounds objects values number formals ≡ false → slice_get formals place ≡ Some typed
    → is_foreign_formal grounds objects values (number + place) typed ≡ false
foreign_not grounds objects values number [] place typed none at = absurd (none-some typed at)
foreign_not grounds objects values number (first ∷ more) place typed none at =
    by (is_foreign_formal grounds objects values number first) refl none place at
    (λ rest later there. foreign_not grounds objects values (number + 1) more later typed rest there)
  where
    by : (b : Bool) → is_foreign_formal grounds objects values number first ≡ b → (b || has_foreign_from grounds objects values (number + 1) more) ≡ false
        → (place : ℕ) → slice_get (first ∷ more) place ≡ Some typed
        → (has_foreign_from grounds objects values (number + 1) more ≡ false → (later : ℕ) → slice_get more later ≡ Some typed
        → is_foreign_formal grounds objects values (number + 1 + later) typed ≡ false)
        → is_foreign_formal grounds objects values (number + place) typed ≡ false
    by true is none place at rest = absurd (let e : true ≡ false = none in cc)
    by false is none zero at rest =
        let e : number + 0 ≡ number = omega arith in
        (λ i. is_foreign_formal grounds objects values (e i) (sym (same_Some first typed at) i)) ∙ is
    by false is none (suc later) at rest =
        let e : number + suc later ≡ number + 1 + later = omega arith in
        ap (λ (n : ℕ). is_foreign_formal grounds objects values n typed) e ∙ rest none later at

seen_names : (facts : Facts) (formals : List Typed) → map (λ (seen : Seen). seen.name) (map (formal_seen facts) formals) ≡ map (λ (typed : Typed). typed.name.text) formals
seen_names facts [] = refl
seen_names facts (typed ∷ more) = ap (λ (rest : List (List ℕ)). typed.name.text ∷ rest) (seen_names facts more)

-- so what stands around in a constructor is of the kinds that it denotes
pub formals_sound : (grounds : Grounds) (objects : List MadeObject) (constructor : Member) (values : List (Option Datum)) → IsRightConstructor grounds.facts constructor
    → AreWanted grounds.facts objects (map (formal_kind grounds.facts) (constructor_formals constructor)) values
    → has_foreign_from grounds objects values 0 (constructor_formals constructor) ≡ false
    → AreFormals grounds.facts objects (map (formal_seen grounds.facts) (constructor_formals constructor)) values
formals_sound grounds objects constructor values right wanted own = record {
  once = subst AreOnce (sym (seen_names grounds.facts (constructor_formals constructor))) right.once;
  each = λ number seen datum at value.
      by number seen datum (slice_get (constructor_formals constructor) number) refl
      (sym (slice_get-map (formal_seen grounds.facts) (constructor_formals constructor) number) ∙ at) value;
}
  where
    by : (number : ℕ) (seen : Seen) (datum : Datum) (o : Option Typed) → slice_get (constructor_formals constructor) number ≡ o
        → option_map (formal_seen grounds.facts) o ≡ Some seen → datum_at values number ≡ Some datum
        → (kind : TypeKind) × (seen.denoted ≡ denoted.Value kind true) × IsDatum grounds.facts objects kind datum
    by number seen datum None there is value = absurd (none-some seen is)
    by number seen datum (Some typed) there is value =
        let has = item_all (λ (one : Typed). (kind : TypeKind) × (base_kind grounds.facts.names grounds.facts.known one.declared.base ≡ Some kind))
        (constructor_formals constructor) number typed right.kinds there in
        let asked : wanted_at (map (formal_kind grounds.facts) (constructor_formals constructor)) number ≡ Some has.0 =
        ap (option_and_then (λ (kind : Option TypeKind). kind)) (slice_get-map (formal_kind grounds.facts) (constructor_formals constructor) number
        ∙ ap (option_map (formal_kind grounds.facts)) there) ∙ has.1 in
        let kindly = wanted number datum value has.0 asked in
        let e : 0 + number ≡ number = omega arith in
        let none : is_foreign_formal grounds objects values number typed ≡ false =
        sym (ap (λ (n : ℕ). is_foreign_formal grounds objects values n typed) e) ∙ foreign_not grounds objects values 0 (constructor_formals constructor) number typed own there in
        let domestic : is_foreign_datum grounds objects (Some has.0) (Some datum) ≡ false =
        sym (λ i. is_foreign_datum grounds objects (has.1 i) (value i)) ∙ none in (
          has.0,
          ap (λ (s : Seen). s.denoted) (sym (same_Some (formal_seen grounds.facts typed) seen is))
              ∙ ap (λ (o : Option TypeKind). option_map_or (λ (kind : TypeKind). denoted.Value kind true) o denoted.Faulty) has.1,
          datum_of grounds objects has.0 datum domestic kindly,
        )

-- ---- what is handed up

super_fine : (body : List Set) (arguments : List Expr) → All IsFineSet body → super_arguments body ≡ Some arguments → All IsFineExpr arguments
super_fine [] arguments fine is = subst (All IsFineExpr) (same_Some [] arguments is) (All-nil IsFineExpr)
super_fine (sets.Super at own ∷ more) arguments fine is =
    subst (All IsFineExpr) (same_Some own arguments is) (All-head IsFineSet (sets.Super at own) more fine)
super_fine (sets.Field name value ∷ more) arguments fine is = by (has_super more) is
  where
    by : (b : Bool) → (if b then None else Some []) ≡ Some arguments → All IsFineExpr arguments
    by true found = absurd (none-some arguments found)
    by false found = subst (All IsFineExpr) (same_Some [] arguments found) (All-nil IsFineExpr)

handed_fine : (count : ℕ) (body : List Set) (arguments : List Expr) → All IsFineSet body → handed_arguments count body ≡ Some arguments → All IsFineExpr arguments
handed_fine count body arguments fine is = by (super_arguments body) refl is
  where
    inner : (found : List Expr) → super_arguments body ≡ Some found → (b : Bool) → (if b then Some found else None) ≡ Some arguments → All IsFineExpr arguments
    inner found at true given = subst (All IsFineExpr) (same_Some found arguments given) (super_fine body found fine at)
    inner found at false given = absurd (none-some arguments given)

    by : (o : Option (List Expr)) → super_arguments body ≡ o → option_and_then (fitting_arguments count) o ≡ Some arguments → All IsFineExpr arguments
    by None at given = absurd (none-some arguments given)
    by (Some found) at given = inner found at (count == length found) given

-- ---- along a line

module _ (facts : Facts) (are : AreFacts (scope_names facts.program) facts.program facts) (fine : all_faults facts ≡ [])
    (right : All (IsRightDecl facts) facts.program) (named_objects : List NamedObject) (objects : List MadeObject) (typed : AreTyped facts objects)
    (lines : HaveLines facts objects) (declared_are : AreDeclared facts objects named_objects) where
  abbrev here : Grounds
  here = record { facts = facts; named_objects = named_objects }

  -- what is passed isn't foreign, where it is passed to a constructor
  abbrev pub IsChecked : Passed → Type 0
  IsChecked passed =
      (entry : ℕ) (constructor : Member) → passed.class ≡ meanings.Entry entry → constructor_at facts.names facts.program entry ≡ Some constructor
      → has_foreign_from here objects passed.values 0 (constructor_formals constructor) ≡ false

  abbrev pub IsPassedRight : Passed → Type 0
  IsPassedRight passed = AreWanted facts objects (class_wants facts passed.class) passed.values

  none_passed : (line : List Meaning) → passed_from here objects line None ≡ []
  none_passed [] = refl
  none_passed (class ∷ more) = none_passed more

  -- one that is passed values, and what comes of the rest
  both_passed : (class : Meaning) (values : List (Option Datum)) (rest : List Passed) → IsPassedRight (record { class = class; values = values })
      → All IsPassedRight rest → All IsPassedRight (passed_here facts class (Some values) ++ rest)
  both_passed class values rest one others =
      All-append IsPassedRight (passed_here facts class (Some values)) rest (by (is_building facts class)) others
    where
      by : (b : Bool) → All IsPassedRight (if b then record { class = class; values = values } ∷ [] else [])
      by true = All-cons IsPassedRight (record { class = class; values = values }) [] one (All-nil IsPassedRight)
      by false = All-nil IsPassedRight

  builtin_passed : (number : ℕ) (values : List (Option Datum)) → AreWanted facts objects (class_wants facts (meanings.BuiltIn number)) values
      → All IsPassedRight (passed_from here objects (line_up facts (meanings.BuiltIn number)) (Some values))
  builtin_passed number values wanted = both_passed (meanings.BuiltIn number) values [] wanted (All-nil IsPassedRight)

  checked_behind : (xs ys : List Passed) → All IsChecked (xs ++ ys) → All IsChecked ys
  checked_behind [] ys all = all
  checked_behind (x ∷ xs) ys all = checked_behind xs ys (All-tail IsChecked x (xs ++ ys) all)

  -- what a class hands on is what the next one wants
  step_passed : (entry : ℕ) (next : Meaning) (values : List (Option Datum)) → IsNext facts entry next
      → AreWanted facts objects (class_wants facts (meanings.Entry entry)) values
      → All IsChecked (passed_from here objects (line_up facts (meanings.Entry entry)) (Some values))
      → ((given : List (Option Datum)) → AreWanted facts objects (class_wants facts next) given
      → All IsChecked (passed_from here objects (line_up facts next) (Some given)) → All IsPassedRight (passed_from here objects (line_up facts next) (Some given)))
      → All IsPassedRight (passed_from here objects (line_up facts (meanings.Entry entry)) (Some values))
  step_passed entry next values is wanted checked rest =
      let own = meanings.Entry entry in
      let P : List Meaning → Type 0 = λ line. All IsPassedRight (passed_from here objects line (Some values)) in
      let C : List Meaning → Type 0 = λ line. All IsChecked (passed_from here objects line (Some values)) in
      let all : All IsChecked (passed_here facts own (Some values) ++ passed_from here objects (line_up facts next) (passed_above here objects own (Some values))) =
      subst C is.line checked in
      subst P (sym is.line)
      (both_passed own values (passed_from here objects (line_up facts next) (passed_above here objects own (Some values))) wanted
      (by (constructor_at facts.names facts.program entry) refl all))
    where
      last : (constructor : Member) → constructor_at facts.names facts.program entry ≡ Some constructor → has_foreign_from here objects values 0 (constructor_formals constructor) ≡ false
          → (o : Option (List Expr)) → handed_arguments (length (wants_above facts entry)) (constructor_sets constructor) ≡ o
          → All IsChecked (passed_from here objects (line_up facts next)
          (option_map_or (λ (arguments : List Expr). Some (fine_data here (constructor_scene facts entry constructor values) objects (wants_above facts entry) 0 arguments)) o None))
          → All IsPassedRight (passed_from here objects (line_up facts next)
          (option_map_or (λ (arguments : List Expr). Some (fine_data here (constructor_scene facts entry constructor values) objects (wants_above facts entry) 0 arguments)) o None))
      last constructor at own None handed all = subst (All IsPassedRight) (sym (none_passed (line_up facts next))) (All-nil IsPassedRight)
      last constructor at own (Some arguments) handed all =
          let whole = constructor_right facts are fine right entry constructor at in
          let scene = constructor_scene facts entry constructor values in
          let W : List (Option TypeKind) → Type 0 = λ wants. AreWanted facts objects wants values in
          let formals = formals_sound here objects constructor values whole (subst W (is.wants constructor at) wanted) own in
          let read = fine_data here scene objects (wants_above facts entry) 0 arguments in
          let sound : AreWanted facts objects (wants_above facts entry) read =
          (λ place datum there asked told.
          let e : 0 + place ≡ place = omega arith in
          data_sound facts objects typed lines named_objects declared_are scene (wants_above facts entry) 0 arguments formals
          (handed_fine (length (wants_above facts entry)) (constructor_sets constructor) arguments whole.parts handed) place datum there asked
          (ap (wanted_at (wants_above facts entry)) e ∙ told)) in
          let V : List (Option TypeKind) → Type 0 = λ wants. AreWanted facts objects wants read in
          rest read (subst V is.handed sound) all

      by : (o : Option Member) → constructor_at facts.names facts.program entry ≡ o
          → All IsChecked (passed_here facts (meanings.Entry entry) (Some values) ++ passed_from here objects (line_up facts next) (option_map_or (super_data here objects entry values) o (Some values)))
          → All IsPassedRight (passed_from here objects (line_up facts next) (option_map_or (super_data here objects entry values) o (Some values)))
      by None at all =
          let W : List (Option TypeKind) → Type 0 = λ wants. AreWanted facts objects wants values in
          rest values (subst W (is.silent at) wanted)
          (checked_behind (passed_here facts (meanings.Entry entry) (Some values)) (passed_from here objects (line_up facts next) (Some values)) all)
      by (Some constructor) at all =
          let later = passed_from here objects (line_up facts next) (super_data here objects entry values constructor) in
          let built : is_building facts (meanings.Entry entry) ≡ true = built_so facts entry constructor at in
          let D : Bool → Type 0 = λ b. All IsChecked ((if b then record { class = meanings.Entry entry; values = values } ∷ [] else []) ++ later) in
          let one = All-head IsChecked (record { class = meanings.Entry entry; values = values }) later (subst D built all) in
          last constructor at (one entry constructor refl at) (handed_arguments (length (wants_above facts entry)) (constructor_sets constructor)) refl
          (checked_behind (passed_here facts (meanings.Entry entry) (Some values)) later all)

  entry_passed : (levels entry : ℕ) → Lined facts levels entry → (values : List (Option Datum))
      → AreWanted facts objects (class_wants facts (meanings.Entry entry)) values
      → All IsChecked (passed_from here objects (line_up facts (meanings.Entry entry)) (Some values))
      → All IsPassedRight (passed_from here objects (line_up facts (meanings.Entry entry)) (Some values))
  entry_passed zero entry line values wanted checked = absurd line
  entry_passed (suc levels) entry (stands_top one up line items) values wanted checked =
      step_passed entry (meanings.BuiltIn 0) values (next_top facts entry up line) wanted checked (λ given fit all. builtin_passed 0 given fit)
  entry_passed (suc levels) entry (stands_over number few one up line items apart) values wanted checked =
      step_passed entry (meanings.BuiltIn number) values (next_over facts entry number up line) wanted checked (λ given fit all. builtin_passed number given fit)
  entry_passed (suc levels) entry (stands_under other one class up line items apart above_it) values wanted checked =
      step_passed entry (meanings.Entry other) values (next_under facts entry other up line) wanted checked
      (λ given fit all. entry_passed levels other above_it given fit all)

  -- each constructor along the line of a class is passed what it wants
  pub all_passed : (class : Meaning) → ((entry : ℕ) → class ≡ meanings.Entry entry → (levels : ℕ) × Lined facts levels entry) → (values : List (Option Datum))
      → AreWanted facts objects (class_wants facts class) values → All IsChecked (passed_from here objects (line_up facts class) (Some values))
      → All IsPassedRight (passed_from here objects (line_up facts class) (Some values))
  all_passed (meanings.BuiltIn number) line values wanted checked = builtin_passed number values wanted
  all_passed (meanings.Entry entry) line values wanted checked =
      let found = line entry refl in entry_passed found.0 entry found.1 values wanted checked

-- Where each declaration has its turn, all that is there is in order.
use Rattle.std.proofs.Common.{◌≡◌, ℕ, zero, suc, ◌+◌, ◌≤◌, ◌⊎◌, inl, inr, Bool, true, false, List, [], ◌∷◌, ◌++◌, length, refl, sym, ◌∙◌, ap, subst, arith}
use Rattle.std.specs.Prelude.{Option, Some, None, All, slice_get, slice_set, if◌then◌else◌}
use Rattle.std.specs.List.{AllByRecursion, cons_option, flat_map}
use Rattle.std.specs.Option.{option_map}
use Rattle.std.proofs.lemmas.List.{append_assoc}
use Rattle.std.proofs.lemmas.List.Elements.{All-nil, All-weaker}
use Rattle.std.proofs.lemmas.Option.{same_Some, none-some, slice_get-map}
use Rattle.model_core.proofs.Items.{item_all}
use Rattle.nddl_ast.specs.declared.declaration.Decl.{Decl}
use Rattle.nddl_ast.specs.declared.declaration.Decl.TheVariants as decls
use Rattle.nddl_ast.specs.declared.declaration.FileDecls.{FileDecls}
use Rattle.nddl_ast.specs.declared.declaration.Member.{Member}
use Rattle.nddl_ast.specs.declared.expression.Creation.{Creation}
use Rattle.nddl_ast.specs.declared.expression.Init.{Init}
use Rattle.nddl_ast.specs.declared.expression.Init.TheVariants as inits
use Rattle.nddl_ast.specs.declared.kind.TextKind.{TextKind}
use Rattle.nddl_ast.specs.declared.kind.TextKind.TheVariants as faults
use Rattle.nddl_ast.specs.declared.statement.Variable.{Variable}
use Rattle.nddl_symbols.specs.declared.declared.Declared.{Declared}
use Rattle.nddl_symbols.specs.declared.fault.Fault.{Fault}
use Rattle.nddl_symbols.specs.declared.scope.Meaning.{Meaning}
use Rattle.nddl_symbols.specs.declared.scope.Meaning.TheVariants as meanings
use Rattle.nddl_symbols.specs.Finding.{earliest_fault, faults_here}
use Rattle.nddl_symbols.specs.Names.{is_config_sort, scope_names, sort_of_variable}
use Rattle.nddl_symbols.specs.Scope.{fault_if, meaning_of, named_number}
use Rattle.nddl_typeexpr.specs.Bases.{base_kind}
use Rattle.nddl_hierarchy.specs.Facts.{Facts}
use Rattle.nddl_declarations.specs.Known.{AreFacts}
use Rattle.nddl_types.specs.declared.table.TypeTable.{TypeTable}
use Rattle.nddl_types.specs.Table.{IsTable}
use Rattle.nddl_constructors.specs.Bodies.{body_faults}
use Rattle.nddl_constructors.specs.Creations.{class_alone, creation_faults, is_no_object, set_to_faults}
use Rattle.nddl_constructors.specs.Formals.{around_formals}
use Rattle.nddl_constructors.specs.Objects.{creation_of_faults, first_close, foreign_fault, is_closed, new_faults, object_faults, settings_faults, variable_faults_by, written_faults}
use Rattle.nddl_construction.specs.declared.made.Datum.{Datum}
use Rattle.nddl_construction.specs.declared.made.MadeObject.{MadeObject}
use Rattle.nddl_construction.specs.declared.made.NamedObject.{NamedObject}
use Rattle.nddl_construction.specs.declared.made.NamedObject.TheVariants as stands
use Rattle.nddl_construction.specs.Classes.{constructor_at}
use Rattle.nddl_objects.specs.Objects.{Progress, all_declared, last_progress, most_levels, one_declared, progress_fault, with_named}
use Rattle.nddl_object_laws.specs.Carried.{Carried, New, There, new_place}
use Rattle.nddl_object_laws.specs.Made.{Doing, MakesObject, HasSettings, DoesNeither, all_carried, carried_from, carried_object, carried_objects, declared_new, doing_carried, doing_of, init_doing, made_datum, made_objects, nothing_there, there_after, there_behind}
use Rattle.nddl_object_laws.specs.Wrong.{carried_faults, doing_faults, doing_faults_from, first_passing, is_too_deep, is_too_many, met_faults, text_faults}
use Rattle.nddl_object_laws.proofs.Closing.{closed_behind, closed_first}
use Rattle.nddl_object_laws.proofs.Counting.{Agree, agree_front, objects_append}
use Rattle.nddl_object_laws.proofs.Noting.{state}
use Rattle.nddl_object_laws.proofs.Program.{StandFrom, after_one, all_after, all_carried_is, are_there_in_turn, decl_done, doing_is, first_stands, first_there, rest_stands, stand, tell_the_earliest}
use Rattle.nddl_object_laws.proofs.Reading.{IsClosed}
use Rattle.nddl_problem_check.specs.Texts.{problem_text_faults}
use Rattle.nddl_laws.specs.Fine.{IsFineDecl, IsFineStart}
use Rattle.nddl_laws.specs.Given.{AreGiven}
use Rattle.nddl_laws.proofs.Declared.{IsRightDecl}
use Rattle.nddl_laws.proofs.Nothing.{none_first, none_second}
use Rattle.nddl_rule_laws.proofs.Classes.{are_facts, right}
use Rattle.nddl_model_laws.proofs.Grounds.{none_before}
use Rattle.nddl_model_laws.proofs.Lined.{Lined}
use Rattle.nddl_model_laws.proofs.Making.{IsNamedObject}
use Rattle.nddl_model_laws.proofs.Meant.{meant_as}
use Rattle.nddl_model_laws.proofs.Programmed.{all_follow, both_none, one_sound}
use Rattle.nddl_model_laws.proofs.Sounding.{IsSound, meant_line}
use Rattle.nddl_model_laws.proofs.Texted.{texts_fine, writing_fine}
use Rattle.nddl_whole_laws.proofs.Carrying.{IsDone, IsFine, IsWellNew, comes}
use Rattle.nddl_whole_laws.proofs.Each.{each_back, each_front, each_none}
use Rattle.nddl_whole_laws.proofs.Handing.{Means}
use Rattle.nddl_whole_laws.proofs.Leading.{AreFull, AreNamed, Has, IsSettled, IsWhole}

-- ---- lists

get_cases : {X : Type 0} (xs ys : List X) (k : ℕ) (x : X) → slice_get (xs ++ ys) k ≡ Some x
    → (slice_get xs k ≡ Some x) ⊎ ((j : ℕ) × (slice_get ys j ≡ Some x))
get_cases [] ys k x at = inr (k, at)
get_cases (y ∷ xs) ys zero x at = inl at
get_cases (y ∷ xs) ys (suc k) x at = get_cases xs ys k x at

each_at : {X : Type 0} (P : X → Type 0) (xs : List X) (k : ℕ) (x : X) → AllByRecursion P xs → slice_get xs k ≡ Some x → P x
each_at P [] k x all at = absurd (none-some x at)
each_at P (y ∷ xs) zero x all at = subst P (same_Some y x at) all.0
each_at P (y ∷ xs) (suc k) x all at = each_at P xs k x all.1 at

set_cases : {X : Type 0} (xs : List X) (i k : ℕ) (x y : X) → slice_get (slice_set xs i x) k ≡ Some y → (x ≡ y) ⊎ (slice_get xs k ≡ Some y)
set_cases [] i k x y at = inr at
set_cases (z ∷ xs) zero zero x y at = inl (same_Some x y at)
set_cases (z ∷ xs) zero (suc k) x y at = inr at
set_cases (z ∷ xs) (suc i) zero x y at = inr at
set_cases (z ∷ xs) (suc i) (suc k) x y at = set_cases xs i k x y at

set_stays : {X : Type 0} (xs : List X) (i k : ℕ) (x : X) → Has (slice_get xs k) → Has (slice_get (slice_set xs i x) k)
set_stays [] i k x has = has
set_stays (z ∷ xs) zero zero x has = (x, refl)
set_stays (z ∷ xs) zero (suc k) x has = has
set_stays (z ∷ xs) (suc i) zero x has = has
set_stays (z ∷ xs) (suc i) (suc k) x has = set_stays xs i k x has

-- what is made where `new`s are carried out that are done
done_full : (facts : Facts) (some : List Carried) → AllByRecursion (IsDone facts) some → AllByRecursion (IsWhole facts) (carried_objects facts some)
done_full facts [] all = tt
done_full facts (one ∷ more) all = by (carried_object facts one) refl (done_full facts more all.1)
  where
    by : (o : Option MadeObject) → carried_object facts one ≡ o → AllByRecursion (IsWhole facts) (carried_objects facts more)
        → AllByRecursion (IsWhole facts) (cons_option o (carried_objects facts more))
    by None at rest = rest
    by (Some object) at rest = (all.0 object at, rest)

full_join : (facts : Facts) (one other : List MadeObject) → AreFull facts one → AllByRecursion (IsWhole facts) other → AreFull facts (one ++ other)
full_join facts one other first second number object at = elim (get_cases one other number object at) [
  | inl there ↦ first number object there
  | inr there ↦ each_at (IsWhole facts) other there.0 object second there.1
]

-- ---- limits

passing_none : (test : Carried → Bool) (kind : TextKind) (some : List Carried) → first_passing test kind some ≡ []
    → AllByRecursion (λ (carried : Carried). test carried ≡ false) some
passing_none test kind [] none = tt
passing_none test kind (one ∷ more) none = by (test one) refl none (λ rest. passing_none test kind more rest)
  where
    by : (b : Bool) → test one ≡ b → (if b then record { place = new_place one.new; kind = kind } ∷ [] else first_passing test kind more) ≡ []
        → (first_passing test kind more ≡ [] → AllByRecursion (λ (carried : Carried). test carried ≡ false) more)
        → (test one ≡ false) × AllByRecursion (λ (carried : Carried). test carried ≡ false) more
    by true is told rest = absurd (cc)
    by false is told rest = (is, rest told)

fine_all : (facts : Facts) (all : List MadeObject) (some : List Carried) → AllByRecursion (λ (carried : Carried). carried_faults facts all carried ≡ []) some
    → AllByRecursion (λ (carried : Carried). is_too_many facts carried ≡ false) some
    → AllByRecursion (λ (carried : Carried). is_too_deep facts carried ≡ false) some → AllByRecursion (IsFine facts all) some
fine_all facts all [] one two three = tt
fine_all facts all (carried ∷ more) one two three =
    (record { fine = one.0; few = two.0; shallow = three.0 }, fine_all facts all more one.1 two.1 three.1)

-- ---- declarations that make objects

record IsMaking (decl : Decl) (variable : Variable) (creation : Creation) : Type 0 where
  is_variable : decl ≡ decls.Variable variable
  init : variable.init ≡ Some (inits.New creation)
  plain : is_config_sort (sort_of_variable variable) ≡ false

-- what a declaration does is to make an object by this
abbrev makes_with : Doing → Option Creation
makes_with (MakesObject variable creation) = Some creation
makes_with doing = None

making_is : (decl : Decl) (variable : Variable) (creation : Creation) → doing_of decl ≡ MakesObject variable creation → IsMaking decl variable creation
making_is (decls.Variable own) variable creation is = by own.init refl is
  where
    new : (one : Creation) → own.init ≡ Some (inits.New one) → (b : Bool) → is_config_sort (sort_of_variable own) ≡ b
        → (if b then HasSettings one else MakesObject own one) ≡ MakesObject variable creation → IsMaking (decls.Variable own) variable creation
    new one init true config told = absurd (cc)
    new one init false config told =
        let first : own ≡ variable = cc in
        let second : one ≡ creation = cc in
        record {
          is_variable = ap (λ (v : Variable). decls.Variable v) first;
          init = sym (ap (λ (v : Variable). v.init) first) ∙ (init ∙ ap (λ (c : Creation). Some (inits.New c)) second);
          plain = sym (ap (λ (v : Variable). is_config_sort (sort_of_variable v)) first) ∙ config;
        }

    by : (o : Option Init) → own.init ≡ o → init_doing own o ≡ MakesObject variable creation → IsMaking (decls.Variable own) variable creation
    by None init told = absurd (cc)
    by (Some (inits.Expr expr)) init told = absurd (cc)
    by (Some (inits.New one)) init told = new one init (is_config_sort (sort_of_variable own)) refl told
making_is (decls.Include at file file_at) variable creation is = absurd (cc)
making_is (decls.Enum at name members_at some) variable creation is = absurd (cc)
making_is (decls.Typedef at declared name) variable creation is = absurd (cc)
making_is (decls.Forward at name) variable creation is = absurd (cc)
making_is (decls.Class at name parent some) variable creation is = absurd (cc)
making_is (decls.Rule class predicate body) variable creation is = absurd (cc)
making_is (decls.Call call) variable creation is = absurd (cc)
making_is (decls.Ask ask) variable creation is = absurd (cc)

module _ (files : List FileDecls) (table : TypeTable) (given : AreGiven files) (is : IsTable files table)
    (fine : progress_fault (last_progress is.facts) ≡ None) (text : problem_text_faults is.facts ≡ []) where
  abbrev facts : Facts
  facts = is.facts

  abbrev all : List MadeObject
  all = made_objects facts

  abbrev are : AreFacts (scope_names facts.program) facts.program facts
  are = are_facts files table given is

  pub fine_decls : All IsFineDecl facts.program
  fine_decls = All-weaker (IsRightDecl facts) IsFineDecl (λ decl one. one.fine) facts.program (right files table given is)

  -- ---- what is told

  nothing_wrong : text_faults facts ++ met_faults facts ≡ []
  nothing_wrong = (none_before None (text_faults facts ++ met_faults facts) (sym (tell_the_earliest facts) ∙ fine)).1

  pub written : written_faults facts ≡ []
  written = none_first (written_faults facts) (doing_faults_from facts 0 facts.program) (none_first (text_faults facts) (met_faults facts) nothing_wrong)

  pub settings_none : doing_faults_from facts 0 facts.program ≡ []
  settings_none = none_second (written_faults facts) (doing_faults_from facts 0 facts.program) (none_first (text_faults facts) (met_faults facts) nothing_wrong)

  pub all_fine : AllByRecursion (IsFine facts all) (all_carried facts)
  all_fine =
      let met = none_second (text_faults facts) (met_faults facts) nothing_wrong in
      let some = all_carried facts in
      let own = flat_map (carried_faults facts all) some in
      let many = first_passing (is_too_many facts) faults.LimitObjects some in
      let deep = first_passing (is_too_deep facts) faults.LimitNew some in
      let limits = none_second own (many ++ deep) met in
      fine_all facts all some (each_none (carried_faults facts all) some (none_first own (many ++ deep) met))
      (passing_none (is_too_many facts) faults.LimitObjects some (none_first many deep limits))
      (passing_none (is_too_deep facts) faults.LimitNew some (none_second many deep limits))

  texts : (entry : ℕ) (constructor : Member) → Means facts entry → constructor_at facts.names facts.program entry ≡ Some constructor
      → (decl : ℕ) × (body_faults facts decl entry constructor ≡ [])
  texts = texts_fine facts are.is_names is.fine (first_close facts.program) written

  lined : (class : Meaning) → (name : List ℕ) × (class_alone facts.names (meaning_of facts.names name) ≡ Some class) → (entry : ℕ)
      → class ≡ meanings.Entry entry → Means facts entry × ((levels : ℕ) × Lined facts levels entry)
  lined class meant entry same =
      let told = meant_as facts class meant in (
        (told.text, told.means ∙ ap (λ (c : Meaning). Some c) same),
        meant_line facts are is.fine (right files table given is) fine_decls [] class meant entry same,
      )

  -- ---- one turn

  abbrev Sound : There → Type 0
  Sound there = IsSound facts are is.fine (right files table given is) fine_decls there.named_objects there.objects

  -- what is known where a turn comes
  record IsTurn (there : There) : Type 0 where
    sound : Sound there
    full : AreFull facts there.objects
    named : AreNamed there.named_objects
    whole : (entry : ℕ) (one : Declared) → slice_get facts.names entry ≡ Some one → Has (slice_get there.named_objects entry)

  settled : (there : There) → IsTurn there → IsSettled facts there.objects there.named_objects
  settled there turn = record {
    typed = turn.sound.typed;
    lines = λ number object at entry same.
        (lined object.class (item_all (IsNamedObject facts) there.objects number object turn.sound.named at).class entry same).1;
    full = turn.full;
    declared = turn.sound.declared;
    named = turn.named;
    whole = turn.whole;
  }

  creation_fine : (number : ℕ) (decl : Decl) (variable : Variable) (creation : Creation) → slice_get facts.program number ≡ Some decl
      → IsMaking decl variable creation → creation_faults facts (around_formals []) number creation ≡ []
  creation_fine number decl variable creation there making =
      let at = there ∙ ap (λ (d : Decl). Some d) making.is_variable in
      let kind = base_kind facts.names facts.known variable.declared.base in
      let closed_first_at = first_close facts.program in
      let wrote = writing_fine facts closed_first_at number (decls.Variable variable) written at in
      let new : new_faults facts closed_first_at number variable creation ≡ [] =
      sym (ap (λ (o : Option Init). variable_faults_by facts closed_first_at number variable o) making.init) ∙ wrote in
      let closed = faults_here number creation.at (fault_if (is_closed closed_first_at number) faults.Closed) in
      let made : object_faults facts number kind creation ≡ [] =
      sym (ap (λ (b : Bool). if b then settings_faults facts number creation else object_faults facts number kind creation) making.plain)
      ∙ none_second closed (creation_of_faults facts number variable creation) new in
      let set = set_to_faults facts (around_formals []) number kind (inits.New creation) in
      let foreign = faults_here number creation.class.at (foreign_fault facts kind creation) in
      none_second (faults_here number creation.at (fault_if (is_no_object kind) faults.WrongType)) (creation_faults facts (around_formals []) number creation)
      (none_first set foreign made)

  well_new : (number : ℕ) (decl : Decl) (variable : Variable) (creation : Creation) (there : There) → slice_get facts.program number ≡ Some decl
      → IsMaking decl variable creation → IsWellNew facts there.objects (declared_new facts number variable creation)
  well_new number decl variable creation there at making =
      let fine_decl = item_all IsFineDecl facts.program number decl fine_decls at in
      let own = subst IsFineDecl making.is_variable fine_decl in
      let start = subst IsFineStart making.init own.1.1 in
      record {
        formals = record { once = tt; each = λ place seen datum found value. absurd (none-some seen found) };
        have = λ place less. absurd (omega arith);
        decl = number;
        wrote = creation_fine number decl variable creation at making;
        right = start.1;
      }

  -- what a turn leaves is in order but for what its fields are set to
  record IsLeft (there : There) : Type 0 where
    full : AreFull facts there.objects
    named : AreNamed there.named_objects
    whole : (entry : ℕ) (one : Declared) → slice_get facts.names entry ≡ Some one → Has (slice_get there.named_objects entry)

  named_more : (some : List NamedObject) (own : Option ℕ) (datum : Option Datum) → Has datum → AreNamed some → AreNamed (with_named some own datum)
  named_more some None datum has named = named
  named_more some (Some first) datum has named = λ entry found at. elim (set_cases some first entry (stands.Made datum) (stands.Made found) at) [
    | inl same ↦ (let e : datum ≡ found = cc in (has.0, sym e ∙ has.1))
    | inr old ↦ named entry found old
  ]

  whole_more : (some : List NamedObject) (own : Option ℕ) (datum : Option Datum) (entry : ℕ) → Has (slice_get some entry)
      → Has (slice_get (with_named some own datum) entry)
  whole_more some None datum entry has = has
  whole_more some (Some first) datum entry has = set_stays some first entry (stands.Made datum) has

  left_behind : (number : ℕ) (decl : Decl) (there : There) → slice_get facts.program number ≡ Some decl → IsTurn there → (doing : Doing) → doing_of decl ≡ doing
      → AllByRecursion (IsFine facts all) (doing_carried facts there number doing) → IsLeft (there_behind facts there number doing)
  left_behind number decl there at turn (MakesObject variable creation) does carried =
      let making = making_is decl variable creation does in
      let one : New = declared_new facts number variable creation in
      let own = named_number false facts.names variable.name.text in
      let datum = made_datum facts most_levels (length there.objects) creation in
      let done = comes files table given is fine text there (settled there turn) texts lined all most_levels (length there.objects) one
      (well_new number decl variable creation there at making) carried in
      record {
        full = full_join facts there.objects (carried_objects facts (doing_carried facts there number (MakesObject variable creation))) turn.full
            (done_full facts (doing_carried facts there number (MakesObject variable creation)) done.0);
        named = named_more there.named_objects own datum done.1 turn.named;
        whole = λ entry name found. whole_more there.named_objects own datum entry (turn.whole entry name found);
      }
  left_behind number decl there at turn (HasSettings creation) does carried = record { full = turn.full; named = turn.named; whole = turn.whole }
  left_behind number decl there at turn DoesNeither does carried = record { full = turn.full; named = turn.named; whole = turn.whole }

  -- ---- all turns

  abbrev progress_so : There → Option Fault → List Carried → Option Fault → Progress
  progress_so there met done first = record {
    so_far = state facts there.objects met done;
    first = first;
    named_objects = there.named_objects;
    settings = there.settings;
  }

  agree_at : (number : ℕ) (decl : Decl) (more : List Decl) → StandFrom facts number (decl ∷ more) → number + length (decl ∷ more) ≡ length facts.program
      → Agree ((there_after facts number).objects ++ carried_objects facts (doing_carried facts (there_after facts number) number (doing_of decl))) all
  agree_at number decl more stands long =
      let there = there_after facts number in
      let here = doing_carried facts there number (doing_of decl) in
      let rest = carried_from facts (number + 1) more in
      let whole : there.objects ++ carried_objects facts (carried_from facts number (decl ∷ more)) ≡ all =
      all_after facts (decl ∷ more) number stands ∙ (ap (λ n. (there_after facts n).objects) long ∙ are_there_in_turn facts) in
      let A : List MadeObject → Type 0 = λ objects. Agree objects all in
      agree_front (there.objects ++ carried_objects facts here) (carried_objects facts rest) all
      (subst A
      (sym (sym (ap (λ objects. there.objects ++ objects) (objects_append facts here rest)
      ∙ sym (append_assoc there.objects (carried_objects facts here) (carried_objects facts rest))) ∙ whole)) (λ place less. refl))

  turns_from : (some : List Decl) (number : ℕ) (met : Option Fault) (done : List Carried) (first : Option Fault) → StandFrom facts number some
      → number + length some ≡ length facts.program → IsClosed (there_after facts number) → IsTurn (there_after facts number)
      → AllByRecursion (IsFine facts all) (carried_from facts number some)
      → (all_declared facts number some (progress_so (there_after facts number) met done first)).so_far.first ≡ None
      → (place : ℕ) → place ≤ length some → IsTurn (there_after facts (number + place))
  turns_from some number met done first stands long closed turn carried none zero within =
      let e : number ≡ number + 0 = omega arith in
      subst (λ (n : ℕ). IsTurn (there_after facts n)) e turn
  turns_from [] number met done first stands long closed turn carried none (suc place) within = absurd (omega (arith, within))
  turns_from (decl ∷ more) number met done first stands long closed turn carried none (suc place) within =
      let there = there_after facts number in
      let doing = doing_of decl in
      let here = doing_carried facts there number doing in
      let rest = carried_from facts (number + 1) more in
      let at = first_stands facts number decl more stands in
      let next = after_one facts number decl at in
      let met_here = earliest_fault met (flat_map (carried_faults facts all) here) in
      let first_here = earliest_fault first (doing_faults facts there number doing) in
      let behind = there_behind facts there number doing in
      let step = decl_done facts number decl (progress_so there met done first)
      ∙ (doing_is facts all there closed number doing met done first (agree_at number decl more stands long)
      ∙ ap (λ (t : There). progress_so t met_here (done ++ here) first_here) (sym next)) in
      let after = there_after facts (number + 1) in
      let none_next : (all_declared facts (number + 1) more (progress_so after met_here (done ++ here) first_here)).so_far.first ≡ None =
      sym (ap (λ p. (all_declared facts (number + 1) more p).so_far.first) step) ∙ none in
      let none_here : (one_declared facts number decl (progress_so there met done first)).so_far.first ≡ None =
      all_follow facts (number + 1) more (one_declared facts number decl (progress_so there met done first)) none in
      let sound_here = one_sound facts are is.fine (right files table given is) fine_decls written number decl (progress_so there met done first) at
      (item_all IsFineDecl facts.program number decl fine_decls at) none_here turn.sound in
      let sound_next : Sound after =
      subst (λ p. IsSound facts are is.fine (right files table given is) fine_decls p.named_objects p.so_far.objects) step sound_here in
      let left = subst IsLeft (sym next) (left_behind number decl there at turn doing refl (each_front (IsFine facts all) here rest carried)) in
      let turn_next : IsTurn after = record { sound = sound_next; full = left.full; named = left.named; whole = left.whole } in
      let closed_next = subst IsClosed (sym next) (closed_behind facts there closed number doing) in
      let long_next : number + 1 + length more ≡ length facts.program = omega (arith, long) in
      let within_next : place ≤ length more = omega (arith, within) in
      let sum : number + 1 + place ≡ number + suc place = omega arith in
      subst (λ (n : ℕ). IsTurn (there_after facts n)) sum
      (turns_from more (number + 1) met_here (done ++ here) first_here (rest_stands facts number decl more stands) long_next closed_next turn_next
      (each_back (IsFine facts all) here rest carried) none_next place within_next)

  -- ---- from the first

  starts_so : last_progress facts ≡ all_declared facts 0 facts.program (progress_so (there_after facts 0) None [] (earliest_fault None (written_faults facts)))
  unfolding last_progress there_after
  starts_so = refl

  unmade_at : (entry : ℕ) → (o : Option Declared) → slice_get facts.names entry ≡ o
      → slice_get (nothing_there facts).named_objects entry ≡ option_map (λ (name : Declared). stands.Unmade) o
  unmade_at entry o at =
      slice_get-map (λ (name : Declared). stands.Unmade) facts.names entry ∙ ap (option_map (λ (name : Declared). stands.Unmade)) at

  never_made : (entry : ℕ) (datum : Option Datum) → slice_get (nothing_there facts).named_objects entry ≡ Some (stands.Made datum) → ⊥
  never_made entry datum at = by (slice_get facts.names entry) refl
    where
      by : (o : Option Declared) → slice_get facts.names entry ≡ o → ⊥
      by None there = none-some (stands.Made datum) (sym (unmade_at entry None there) ∙ at)
      by (Some name) there =
          let same : stands.Unmade ≡ stands.Made datum = same_Some stands.Unmade (stands.Made datum) (sym (unmade_at entry (Some name) there) ∙ at) in cc

  first_turn : IsTurn (nothing_there facts)
  first_turn = record {
    sound = record {
      named = All-nil (IsNamedObject facts);
      typed = λ number object at. absurd (none-some object at);
      declared = λ entry declared datum at sort made. absurd (never_made entry (Some datum) made);
    };
    full = λ number object at. absurd (none-some object at);
    named = λ entry datum at. absurd (never_made entry datum at);
    whole = λ entry one at. (stands.Unmade, unmade_at entry (Some one) at);
  }

  -- each turn is in order, and so is what there is in the end
  pub turn_settled : (number : ℕ) → number ≤ length facts.program → IsSettled facts (there_after facts number).objects (there_after facts number).named_objects
  turn_settled number within =
      let e : 0 + length facts.program ≡ length facts.program = omega arith in
      let sum : 0 + number ≡ number = omega arith in
      let none : (all_declared facts 0 facts.program (progress_so (there_after facts 0) None [] (earliest_fault None (written_faults facts)))).so_far.first ≡ None =
      sym (ap (λ p. p.so_far.first) starts_so) ∙ (both_none (last_progress facts) fine).0 in
      let turn = turns_from facts.program 0 None [] (earliest_fault None (written_faults facts)) (stand facts) e
      (subst IsClosed (sym (first_there facts)) (closed_first facts)) (subst IsTurn (sym (first_there facts)) first_turn)
      (subst (AllByRecursion (IsFine facts all)) (all_carried_is facts) all_fine) none number within in
      settled (there_after facts number) (subst (λ (n : ℕ). IsTurn (there_after facts n)) sum turn)

  pub all_full : AreFull facts all
  all_full =
      let within : length facts.program ≤ length facts.program = omega arith in
      subst (AreFull facts) (are_there_in_turn facts) (turn_settled (length facts.program) within).full

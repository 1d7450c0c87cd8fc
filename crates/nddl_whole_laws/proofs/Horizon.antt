-- The settings of a search are as they should be.
use Rattle.std.proofs.Common.{◌≡◌, ℕ, zero, suc, ◌+◌, ◌<◌, ◌≤◌, ◌⊎◌, inl, inr, Bool, true, false, not, ◌||◌, List, [], ◌∷◌, length, ℤ, pos, negsuc, refl, sym, ◌∙◌, ap, subst, arith}
use Rattle.std.specs.Prelude.{◌≤ℤ◌, ◌<ℤ◌, Option, Some, None, All, int_lt, slice_get, if◌then◌else◌}
use Rattle.std.proofs.lemmas.Int.{ints}
use Rattle.std.proofs.lemmas.Option.{same_Some, none-some}
use Rattle.domain_core.specs.Domain.{IsValue}
use Rattle.model_core.proofs.Items.{item_all}
use Rattle.nddl_ast.specs.declared.declaration.Decl.{Decl}
use Rattle.nddl_ast.specs.declared.declaration.Decl.TheVariants as decls
use Rattle.nddl_ast.specs.declared.declaration.FileDecls.{FileDecls}
use Rattle.nddl_ast.specs.declared.expression.Creation.{Creation}
use Rattle.nddl_ast.specs.declared.expression.Expr.{Expr}
use Rattle.nddl_ast.specs.declared.expression.Init.{Init}
use Rattle.nddl_ast.specs.declared.expression.Init.TheVariants as inits
use Rattle.nddl_ast.specs.declared.kind.TextKind.TheVariants as faults
use Rattle.nddl_ast.specs.declared.statement.Variable.{Variable}
use Rattle.nddl_symbols.specs.declared.fault.Fault.{Fault}
use Rattle.nddl_symbols.specs.Finding.{faults_here}
use Rattle.nddl_symbols.specs.Names.{is_config_sort, sort_of_variable}
use Rattle.nddl_symbols.specs.Scope.{fault_if}
use Rattle.nddl_typeexpr.specs.declared.kind.TypeKind.TheVariants as kinds
use Rattle.nddl_typeexpr.specs.Bases.{base_kind}
use Rattle.nddl_hierarchy.specs.Facts.{Facts}
use Rattle.nddl_types.specs.declared.table.TypeTable.{TypeTable}
use Rattle.nddl_types.specs.Table.{IsTable}
use Rattle.nddl_constructors.specs.Constants.{value_faults}
use Rattle.nddl_constructors.specs.Formals.{around_formals}
use Rattle.nddl_constructors.specs.Objects.{creation_of_faults, first_close, is_closed, is_wrong_number, new_faults, object_faults, settings_faults, settings_faults_from, variable_faults_by}
use Rattle.nddl_construction.specs.declared.made.Datum.{Datum}
use Rattle.nddl_construction.specs.declared.made.Datum.TheVariants as datums
use Rattle.nddl_construction.specs.Reading.{all_unmade_faults, datum_at, fine_data, fine_datum, unmade_faults}
use Rattle.nddl_objects.specs.Objects.{bare_scene, last_progress, progress_fault}
use Rattle.nddl_objects.specs.Settings.{are_crossed, are_wrong_settings, is_below, is_over, setting_data, setting_faults_of, setting_wants}
use Rattle.nddl_object_laws.specs.Carried.{There, grounds_there}
use Rattle.nddl_object_laws.specs.Made.{Doing, MakesObject, HasSettings, DoesNeither, doing_of, init_doing, there_after, there_behind}
use Rattle.nddl_object_laws.specs.Wrong.{doing_faults, doing_faults_from}
use Rattle.nddl_object_laws.proofs.Program.{after_one, first_there}
use Rattle.nddl_problem_check.specs.Texts.{problem_text_faults}
use Rattle.nddl_instance.specs.Settings.{natural_number, number_or, setting_or}
use Rattle.nddl_laws.specs.Fine.{IsFineDecl, IsFineExpr, IsFineStart}
use Rattle.nddl_laws.specs.Given.{AreGiven}
use Rattle.nddl_laws.proofs.Nothing.{none_first, none_second}
use Rattle.nddl_laws.proofs.Values.{no_fault, not_so}
use Rattle.nddl_model_laws.proofs.Numbered.{stands_there}
use Rattle.nddl_model_laws.proofs.Texted.{writing_fine}
use Rattle.nddl_model_laws.proofs.Typing.{AreFormals, IsKindly, data_sound}
use Rattle.nddl_whole_laws.proofs.Leading.{AreThere, Has, IsSettled, expr_leads}
use Rattle.nddl_whole_laws.proofs.Turns.{fine_decls, settings_none, turn_settled, written}

-- the three settings are numbers, and nothing is wrong with them
pub record IsSettings (settings : List (Option Datum)) : Type 0 where
  pub start : ℤ
  pub end : ℤ
  pub steps : ℤ
  pub is_start : datum_at settings 0 ≡ Some (datums.Number start)
  pub is_end : datum_at settings 1 ≡ Some (datums.Number end)
  pub is_steps : datum_at settings 2 ≡ Some (datums.Number steps)
  pub end_right : IsValue end
  pub fine : are_wrong_settings settings ≡ false

-- there are none, or they are so
abbrev pub AreRight : List (Option Datum) → Type 0
AreRight settings = (settings ≡ []) ⊎ IsSettings settings

-- ---- a horizon

neither : (one other : Bool) → (one || other) ≡ false → (one ≡ false) × (other ≡ false)
neither false other none = (refl, none)
neither true other none = absurd (let e : true ≡ false = none in cc)

-- a search may visit as many lists as such a number says
steps_right : (steps : ℤ) → int_lt steps (pos 1) ≡ false → int_lt (pos 1000000) steps ≡ false → (0 < natural_number steps) × (natural_number steps ≤ 1000000)
steps_right (pos number) some few = (omega (arith, ints), omega (arith, ints))
steps_right (negsuc number) some few =
    absurd (omega (arith, ints))

abbrev start_of : List (Option Datum) → ℤ
start_of settings = setting_or (pos 0) settings 0

abbrev end_of : List (Option Datum) → ℤ
end_of settings = setting_or (pos 1000) settings 1

abbrev steps_of : List (Option Datum) → ℕ
steps_of settings = natural_number (setting_or (pos 1000) settings 2)

pub record IsRightHorizon (settings : List (Option Datum)) : Type 0 where
  pub start : pos 0 ≤ℤ start_of settings
  pub order : start_of settings <ℤ end_of settings
  pub end : IsValue (end_of settings)
  pub some : 0 < steps_of settings
  pub few : steps_of settings ≤ 1000000

none_right : IsRightHorizon []
none_right = record {
  start = omega (arith, ints);
  order = omega (arith, ints);
  end = (omega (arith, ints), omega (arith, ints));
  some = omega arith;
  few = omega arith;
}

some_right : (settings : List (Option Datum)) → IsSettings settings → IsRightHorizon settings
some_right settings is =
    let a = is_below (datum_at settings 0) (pos 0) in
    let b = are_crossed (datum_at settings 0) (datum_at settings 1) in
    let c = is_below (datum_at settings 2) (pos 1) in
    let d = is_over (datum_at settings 2) (pos 1000000) in
    let one = neither a (b || (c || d)) is.fine in
    let two = neither b (c || d) one.1 in
    let three = neither c d two.1 in
    let start : int_lt is.start (pos 0) ≡ false = sym (ap (λ (o : Option Datum). is_below o (pos 0)) is.is_start) ∙ one.0 in
    let order : not (int_lt is.start is.end) ≡ false = sym (λ i. are_crossed (is.is_start i) (is.is_end i)) ∙ two.0 in
    let some : int_lt is.steps (pos 1) ≡ false = sym (ap (λ (o : Option Datum). is_below o (pos 1)) is.is_steps) ∙ three.0 in
    let few : int_lt (pos 1000000) is.steps ≡ false = sym (ap (λ (o : Option Datum). is_over o (pos 1000000)) is.is_steps) ∙ three.1 in
    let before = by (int_lt is.start is.end) refl order in
    let start_is : start_of settings ≡ is.start = ap (number_or (pos 0)) is.is_start in
    let end_is : end_of settings ≡ is.end = ap (number_or (pos 1000)) is.is_end in
    let steps_is : steps_of settings ≡ natural_number is.steps = ap (λ (o : Option Datum). natural_number (number_or (pos 1000) o)) is.is_steps in
    let counted = steps_right is.steps some few in
    let least : pos 0 ≤ℤ is.start = omega (arith, ints) in
    record {
      start = subst (λ (z : ℤ). pos 0 ≤ℤ z) (sym start_is) least;
      order = subst (λ (z : ℤ). z <ℤ end_of settings) (sym start_is) (subst (λ (z : ℤ). is.start <ℤ z) (sym end_is) before);
      end = subst IsValue (sym end_is) is.end_right;
      some = subst (λ (n : ℕ). 0 < n) (sym steps_is) counted.0;
      few = subst (λ (n : ℕ). n ≤ 1000000) (sym steps_is) counted.1;
    }
  where
    by : (b : Bool) → int_lt is.start is.end ≡ b → not b ≡ false → is.start <ℤ is.end
    by true less none = omega (arith, ints)
    by false less none = absurd (let e : true ≡ false = none in cc)

pub settings_right : (settings : List (Option Datum)) → AreRight settings → IsRightHorizon settings
settings_right settings are = elim are [
  | inl none ↦ subst IsRightHorizon (sym none) none_right
  | inr some ↦ some_right settings some
]

-- ---- declarations with settings

record IsConfig (decl : Decl) (creation : Creation) : Type 0 where
  variable : Variable
  is_variable : decl ≡ decls.Variable variable
  init : variable.init ≡ Some (inits.New creation)
  config : is_config_sort (sort_of_variable variable) ≡ true

config_is : (decl : Decl) (creation : Creation) → doing_of decl ≡ HasSettings creation → IsConfig decl creation
config_is (decls.Variable own) creation is = by own.init refl is
  where
    new : (one : Creation) → own.init ≡ Some (inits.New one) → (b : Bool) → is_config_sort (sort_of_variable own) ≡ b
        → (if b then HasSettings one else MakesObject own one) ≡ HasSettings creation → IsConfig (decls.Variable own) creation
    new one init false config told = absurd (cc)
    new one init true config told =
        let same : one ≡ creation = cc in
        record { variable = own; is_variable = refl; init = init ∙ ap (λ (c : Creation). Some (inits.New c)) same; config = config }

    by : (o : Option Init) → own.init ≡ o → init_doing own o ≡ HasSettings creation → IsConfig (decls.Variable own) creation
    by None init told = absurd (cc)
    by (Some (inits.Expr expr)) init told = absurd (cc)
    by (Some (inits.New one)) init told = new one init (is_config_sort (sort_of_variable own)) refl told
config_is (decls.Include at file file_at) creation is = absurd (cc)
config_is (decls.Enum at name members_at some) creation is = absurd (cc)
config_is (decls.Typedef at declared name) creation is = absurd (cc)
config_is (decls.Forward at name) creation is = absurd (cc)
config_is (decls.Class at name parent some) creation is = absurd (cc)
config_is (decls.Rule class predicate body) creation is = absurd (cc)
config_is (decls.Call call) creation is = absurd (cc)
config_is (decls.Ask ask) creation is = absurd (cc)

doing_at : (facts : Facts) (number : ℕ) (program : List Decl) (place : ℕ) (decl : Decl) → doing_faults_from facts number program ≡ []
    → slice_get program place ≡ Some decl → doing_faults facts (there_after facts (number + place)) (number + place) (doing_of decl) ≡ []
doing_at facts number [] place decl none at = absurd (none-some decl at)
doing_at facts number (here ∷ more) zero decl none at =
    let first = none_first (doing_faults facts (there_after facts number) number (doing_of here)) (doing_faults_from facts (number + 1) more) none in
    let same : here ≡ decl = same_Some here decl at in
    let e : number ≡ number + 0 = omega arith in
    sym (λ i. doing_faults facts (there_after facts (e i)) (e i) (doing_of (same i))) ∙ first
doing_at facts number (here ∷ more) (suc place) decl none at =
    let rest = none_second (doing_faults facts (there_after facts number) number (doing_of here)) (doing_faults_from facts (number + 1) more) none in
    let e : number + 1 + place ≡ number + suc place = omega arith in
    sym (ap (λ (n : ℕ). doing_faults facts (there_after facts n) n (doing_of decl)) e) ∙ doing_at facts (number + 1) more place decl rest at

module _ (files : List FileDecls) (table : TypeTable) (given : AreGiven files) (is : IsTable files table)
    (fine : progress_fault (last_progress is.facts) ≡ None) (text : problem_text_faults is.facts ≡ []) where
  abbrev facts : Facts
  facts = is.facts

  nothing_around : (there : There) → AreFormals facts there.objects [] []
  nothing_around there = record { once = tt; each = λ place seen datum found value. absurd (none-some seen found) }

  number_of : (there : There) (datum : Datum) → IsKindly facts there.objects kinds.Int datum → (number : ℤ) × (datum ≡ datums.Number number) × IsValue number
  number_of there (datums.Number number) it = (number, refl, it)
  number_of there (datums.Decimal thousandths) it = absurd it
  number_of there (datums.Truth truth) it = absurd it
  number_of there (datums.Member entry) it = absurd it
  number_of there (datums.Object other) it = absurd it

  -- what three arguments or more come to, with which nothing is wrong
  read_right : (number : ℕ) (there : There) (settled : IsSettled facts there.objects there.named_objects) (some : List Expr) → All IsFineExpr some
      → is_wrong_number (length some) ≡ false → settings_faults_from facts (around_formals []) number 0 some ≡ []
      → all_unmade_faults (grounds_there facts there) (bare_scene number) some ≡ []
      → are_wrong_settings (fine_data (grounds_there facts there) (bare_scene number) there.objects setting_wants 0 some) ≡ false
      → IsSettings (fine_data (grounds_there facts there) (bare_scene number) there.objects setting_wants 0 some)
  read_right number there settled [] right count wrote made fits = absurd (let e : true ≡ false = count in cc)
  read_right number there settled (a ∷ []) right count wrote made fits = absurd (let e : true ≡ false = count in cc)
  read_right number there settled (a ∷ b ∷ []) right count wrote made fits = absurd (let e : true ≡ false = count in cc)
  read_right number there settled (a ∷ b ∷ c ∷ more) right count wrote made fits =
      let grounds = grounds_there facts there in
      let scene = bare_scene number in
      let some = a ∷ b ∷ c ∷ more in
      let around = around_formals [] in
      let V : Expr → List Fault = λ expr. value_faults facts around number (Some kinds.Int) expr in
      let U : Expr → List Fault = λ expr. unmade_faults grounds scene expr in
      let after_a = settings_faults_from facts around number 1 (b ∷ c ∷ more) in
      let after_b = settings_faults_from facts around number 2 (c ∷ more) in
      let after_c = settings_faults_from facts around number 3 more in
      let wrote_b = none_second (V a) after_a wrote in
      let wrote_c = none_second (V b) after_b wrote_b in
      let made_b = none_second (U a) (all_unmade_faults grounds scene (b ∷ c ∷ more)) made in
      let made_c = none_second (U b) (all_unmade_faults grounds scene (c ∷ more)) made_b in
      let formals = nothing_around there in
      let have : AreThere 0 [] = (λ place less. absurd (omega arith)) in
      let L : (expr : Expr) → V expr ≡ [] → U expr ≡ [] → Has (fine_datum grounds scene there.objects (Some kinds.Int) expr) =
      (λ expr one two. expr_leads files table given is fine text there.objects there.named_objects settled scene (Some kinds.Int) number expr formals have one two) in
      let start = L a (none_first (V a) after_a wrote) (none_first (U a) (all_unmade_faults grounds scene (b ∷ c ∷ more)) made) in
      let end = L b (none_first (V b) after_b wrote_b) (none_first (U b) (all_unmade_faults grounds scene (c ∷ more)) made_b) in
      let steps = L c (none_first (V c) after_c wrote_c) (none_first (U c) (all_unmade_faults grounds scene more) made_c) in
      let sound = data_sound facts there.objects settled.typed settled.lines there.named_objects settled.declared scene setting_wants 0 some formals right in
      let one = number_of there start.0 (sound 0 start.0 start.1 kinds.Int refl) in
      let two = number_of there end.0 (sound 1 end.0 end.1 kinds.Int refl) in
      let three = number_of there steps.0 (sound 2 steps.0 steps.1 kinds.Int refl) in
      record {
        start = one.0;
        end = two.0;
        steps = three.0;
        is_start = start.1 ∙ ap (λ (d : Datum). Some d) one.1;
        is_end = end.1 ∙ ap (λ (d : Datum). Some d) two.1;
        is_steps = steps.1 ∙ ap (λ (d : Datum). Some d) three.1;
        end_right = two.2;
        fine = fits;
      }

  config_right : (number : ℕ) (decl : Decl) (creation : Creation) → slice_get facts.program number ≡ Some decl → doing_of decl ≡ HasSettings creation
      → (settled : IsSettled facts (there_after facts number).objects (there_after facts number).named_objects)
      → IsSettings (setting_data (grounds_there facts (there_after facts number)) (bare_scene number) (there_after facts number).objects creation)
  config_right number decl creation at does settled =
      let there = there_after facts number in
      let it = config_is decl creation does in
      let variable_at = at ∙ ap (λ (d : Decl). Some d) it.is_variable in
      let closed_at = first_close facts.program in
      let wrote = writing_fine facts closed_at number (decls.Variable it.variable) (written files table given is fine text) variable_at in
      let new : new_faults facts closed_at number it.variable creation ≡ [] =
      sym (ap (λ (o : Option Init). variable_faults_by facts closed_at number it.variable o) it.init) ∙ wrote in
      let kind = base_kind facts.names facts.known it.variable.declared.base in
      let set : settings_faults facts number creation ≡ [] =
      sym (ap (λ (b : Bool). if b then settings_faults facts number creation else object_faults facts number kind creation) it.config)
      ∙ none_second (faults_here number creation.at (fault_if (is_closed closed_at number) faults.Closed)) (creation_of_faults facts number it.variable creation) new in
      let count = faults_here number creation.class.at (fault_if (is_wrong_number (length creation.arguments)) faults.WrongCount) in
      let each = settings_faults_from facts (around_formals []) number 0 creation.arguments in
      let sum : 0 + number ≡ number = omega arith in
      let done : doing_faults facts there number (doing_of decl) ≡ [] =
      sym (ap (λ (n : ℕ). doing_faults facts (there_after facts n) n (doing_of decl)) sum)
      ∙ doing_at facts 0 facts.program number decl (settings_none files table given is fine text) at in
      let grounds = grounds_there facts there in
      let told : setting_faults_of grounds (bare_scene number) there.objects creation ≡ [] = sym (ap (doing_faults facts there number) does) ∙ done in
      let unmade = all_unmade_faults grounds (bare_scene number) creation.arguments in
      let wrong = are_wrong_settings (setting_data grounds (bare_scene number) there.objects creation) in
      let last = faults_here number creation.class.at (fault_if wrong faults.NotInDomain) in
      let own = item_all IsFineDecl facts.program number decl (fine_decls files table given is fine text) at in
      let start = subst IsFineStart it.init (subst IsFineDecl it.is_variable own).1.1 in
      read_right number there settled creation.arguments start.1
      (not_so (is_wrong_number (length creation.arguments)) faults.WrongCount
      (no_fault number creation.class.at (fault_if (is_wrong_number (length creation.arguments)) faults.WrongCount) (none_first count each set)))
      (none_second count each set) (none_first unmade last told)
      (not_so wrong faults.NotInDomain (no_fault number creation.class.at (fault_if wrong faults.NotInDomain) (none_second unmade last told)))

  -- the settings where each turn comes
  settings_at : (number : ℕ) → number ≤ length facts.program → AreRight (there_after facts number).settings
  settings_at zero within = inl (ap (λ (t : There). t.settings) (first_there facts))
  settings_at (suc number) within =
      let less : number < length facts.program = omega (arith, within) in
      let found = stands_there facts.program number less in
      let next = after_one facts number found.0 found.1 in
      let e : number + 1 ≡ suc number = omega arith in
      let before = settings_at number (omega (arith, within)) in
      let settled = turn_settled files table given is fine text number (omega (arith, within)) in
      subst (λ (n : ℕ). AreRight (there_after facts n).settings) e
      (subst (λ (t : There). AreRight t.settings) (sym next) (by found.0 found.1 settled before (doing_of found.0) refl))
    where
      by : (decl : Decl) → slice_get facts.program number ≡ Some decl
          → IsSettled facts (there_after facts number).objects (there_after facts number).named_objects → AreRight (there_after facts number).settings
          → (doing : Doing) → doing_of decl ≡ doing → AreRight (there_behind facts (there_after facts number) number doing).settings
      by decl at settled before (MakesObject variable creation) does = before
      by decl at settled before (HasSettings creation) does = inr (config_right number decl creation at does settled)
      by decl at settled before DoesNeither does = before

  pub last_settings : AreRight (there_after facts (length facts.program)).settings
  last_settings = settings_at (length facts.program) (omega arith)

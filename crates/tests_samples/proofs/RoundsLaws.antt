-- The rounds are lawful.
use Rattle.std.proofs.Common.{◌≡◌, ℕ, ◌<◌, ◌^◌, List, [], ◌∷◌, length, Some, Result, Ok, Err, slice_get, zero, suc, inl, refl, sym, ap, subst, arith}
use Rattle.std.specs.Prelude.{IfOk, Contains, All, AllPairs, ◌≢◌, codes, true}
use Rattle.std.proofs.lemmas.Int.{ints}
use Rattle.std.proofs.lemmas.List.Elements.{All-from_recursion}
use Rattle.std.specs.List.{AllZip}
use Rattle.model_core.specs.declared.class.Class.{Class}
use Rattle.model_core.specs.declared.class.ObjectKind.TheVariants.{Timeline, Plain as Plains}
use Rattle.model_core.specs.declared.class.Pred.{Pred}
use Rattle.model_core.specs.declared.item.Term.TheVariants as terms
use Rattle.model_core.specs.declared.model.Model.{Model}
use Rattle.model_core.specs.declared.model.RootKind.TheVariants.{Goal, Rejectable}
use Rattle.model_core.specs.declared.rule.Guard.{Guard}
use Rattle.model_core.specs.declared.rule.Rule.{Rule}
use Rattle.model_core.specs.declared.rule.Turn.{Turn}
use Rattle.model_core.specs.declared.variable.Base.{Base}
use Rattle.model_core.specs.declared.variable.Base.TheVariants.{Given, Void}
use Rattle.model_core.specs.declared.variable.ValueKind.TheVariants as kinds
use Rattle.model_core.specs.declared.variable.VarDecl.{VarDecl}
use Rattle.model_core.specs.Blocks.{Direct, OfSlot, OfBranch, direct}
use Rattle.model_core.specs.Entries.{Entries}
use Rattle.model_core.specs.Kinds.{OfProblem, IsOfKind}
use Rattle.model_core.specs.Lawful.{IsLawfulVariable, IsLawfulEnum, IsLawfulClass, IsLawfulObject, IsLawfulSlot, IsLawfulItem, IsLawfulEntry, IsLawfulRule, AreFew, IsLawfulPred, IsLawfulRoot, IsLawful}
use Rattle.model_core.specs.Naming.{builtin_names, file_names, declared_names, IsGlobalName, IsParameterName}
use Rattle.model_core.specs.Standing.{StandsAt, StandsOnce, LeadsToBlock}
use Rattle.model_core.specs.Variables.{IsGiven}
use Rattle.model_core.proofs.Words.{not_contained, plain_name, is_plain, differing}
use Rattle.tests_samples.specs.Rounds.{rounds_pred, rounds_block, rounds_rule, rounds_roots, rounds_globals, rounds}
use Rattle.tests_samples.specs.Pieces.{alone_on, span_variable, bare_class, bare_object, root_on}
use Rattle.tests_samples.proofs.PieceLaws.{lawful_span, class_is, lawful_object, lawful_slot, lawful_root}

-- ---- the rules

no_branch : (number : ℕ) (guard : Guard) (then otherwise : Entries) → slice_get (direct rounds_block) number ≡ Some (OfBranch guard then otherwise) → ⊥
no_branch zero guard then otherwise is = cc
no_branch (suc number) guard then otherwise is = cc

only_way : (path : List Turn) (block : Entries) → LeadsToBlock rounds_block path block → (path ≡ []) × (block ≡ rounds_block)
only_way [] block way = (refl, way)
only_way (turn ∷ path) block way = absurd (no_branch turn.entry way.0 way.1.0 way.1.1 way.1.2.0)

stands_there : (path : List Turn) (place : ℕ) (what : Direct) → StandsAt rounds_block path place what → (path ≡ []) × (slice_get (direct rounds_block) place ≡ Some what)
stands_there path place what p =
    let way = only_way path p.block p.way in
    (way.0, subst (λ (e : Entries). slice_get (direct e) place ≡ Some what) way.1 p.stands)

abbrev IsEntry : ℕ → ℕ → Base → List Turn → ℕ → Direct → Type 0
IsEntry number pred base path place what = (place < 2 ^ 16) × IsLawfulEntry rounds number (rounds_rule pred base) path what

entry_there : (number pred : ℕ) (base : Base) (place : ℕ) (what : Direct) → slice_get (direct rounds_block) place ≡ Some what → IsEntry number pred base [] place what
entry_there number pred base zero what stands =
    let is : OfSlot 0 ≡ what = cc in (omega arith, subst (IsLawfulEntry rounds number (rounds_rule pred base) []) is (record { pred = pred; object = base }, refl))
entry_there number pred base (suc place) what stands = cc

slot_first : (place : ℕ) → slice_get (direct rounds_block) place ≡ Some (OfSlot 0) → place ≡ 0
slot_first zero is = refl
slot_first (suc place) is = cc

slot_stands : (number : ℕ) → number < 1 → StandsOnce rounds_block (OfSlot number)
slot_stands zero within = record {
  path = [];
  place = 0;
  stands = record { block = rounds_block; way = refl; stands = refl };
  only = λ other number p. (let there = stands_there other number (OfSlot 0) p in (there.0, slot_first number there.1));
}
slot_stands (suc number) within = absurd (omega (arith, within))

lawful_rule : (number pred : ℕ) (base : Base) → IsLawfulSlot rounds (record { pred = pred; object = base }) → IsLawfulRule rounds number (rounds_rule pred base)
lawful_rule number pred base slot = record {
  entries = λ path place what p. (let there = stands_there path place what p in
      subst (λ (way : List Turn). IsEntry number pred base way place what) (sym there.0) (entry_there number pred base place what there.1));
  nested = λ path block way. (let e = ap length (only_way path block way).0 in omega (arith, e));
  slots = All-from_recursion (IsLawfulSlot rounds) (rounds_rule pred base).slots (slot, tt);
  slots_stand = slot_stands;
  locals = All-from_recursion (IsLawfulVariable rounds) [] tt;
  unnamed = All-from_recursion (λ variable. variable.name ≡ []) [] tt;
  locals_stand = λ number within. absurd (omega (arith, within));
}

-- ---- predicates and roots

lawful_pred : (number class : ℕ) (class_name name : List ℕ) (rules : List ℕ) (meant : List Rule) → is_plain name ≡ true
    → slice_get rounds.classes class ≡ Some (bare_class class_name) → AllZip (λ place rule. slice_get rounds.rules place ≡ Some rule) rules meant
    → AreFew meant → All (IsLawfulRule rounds number) meant → IsLawfulPred rounds number (rounds_pred class name rules)
lawful_pred number class class_name name rules meant plain is are few lawful = record {
  name = plain_name name plain;
  class = bare_class class_name;
  is_class = is;
  no_field = not_contained [] name refl;
  params = All-from_recursion (IsLawfulVariable rounds) [] tt;
  few_params = omega arith;
  names = All-from_recursion IsParameterName [] tt;
  distinct = differing [] refl;
  quantity = tt;
  rules = meant;
  are_rules = are;
  few = few;
  lawful = lawful;
}

no_rules : AreFew []
no_rules = record { rules = omega arith; slots = omega arith; locals = omega arith; items = omega arith; guards = omega arith }

one_rule : (pred : ℕ) (base : Base) → AreFew (rounds_rule pred base ∷ [])
one_rule pred base = record { rules = omega arith; slots = omega arith; locals = omega arith; items = omega arith; guards = omega arith }

link_slot : IsLawfulSlot rounds (record { pred = 1; object = Given (alone_on 1) })
link_slot = lawful_slot rounds 1 1 (rounds_pred 1 (codes "Link") (0 ∷ [])) (bare_object (codes "node") 1 Plains) (omega arith) refl refl refl

sign_slot : IsLawfulSlot rounds (record { pred = 3; object = Void })
sign_slot = record { pred = rounds_pred 2 (codes "Sign") []; is_pred = refl; base = tt; inside = refl; objects = tt }

pred_there : (number : ℕ) (pred : Pred) → slice_get rounds.preds number ≡ Some pred → IsLawfulPred rounds number pred
pred_there zero pred stands =
    let same : rounds_pred 0 (codes "Run") [] ≡ pred = cc in
    subst (IsLawfulPred rounds 0) same (lawful_pred 0 0 (codes "Track") (codes "Run") [] [] refl refl tt no_rules (All-from_recursion (IsLawfulRule rounds 0) [] tt))
pred_there (suc zero) pred stands =
    let same : rounds_pred 1 (codes "Link") (0 ∷ []) ≡ pred = cc in
    subst (IsLawfulPred rounds 1) same (lawful_pred 1 1 (codes "Node") (codes "Link") (0 ∷ []) (rounds_rule 1 (Given (alone_on 1)) ∷ []) refl refl (refl, tt) (one_rule 1 (Given (alone_on 1)))
    (All-from_recursion (IsLawfulRule rounds 1) (rounds_rule 1 (Given (alone_on 1)) ∷ []) (lawful_rule 1 1 (Given (alone_on 1)) link_slot, tt)))
pred_there (suc (suc zero)) pred stands =
    let same : rounds_pred 1 (codes "Lost") (1 ∷ []) ≡ pred = cc in
    subst (IsLawfulPred rounds 2) same (lawful_pred 2 1 (codes "Node") (codes "Lost") (1 ∷ []) (rounds_rule 3 Void ∷ []) refl refl (refl, tt) (one_rule 3 Void)
    (All-from_recursion (IsLawfulRule rounds 2) (rounds_rule 3 Void ∷ []) (lawful_rule 2 3 Void sign_slot, tt)))
pred_there (suc (suc (suc zero))) pred stands =
    let same : rounds_pred 2 (codes "Sign") [] ≡ pred = cc in
    subst (IsLawfulPred rounds 3) same (lawful_pred 3 2 (codes "Ghost") (codes "Sign") [] [] refl refl tt no_rules (All-from_recursion (IsLawfulRule rounds 3) [] tt))
pred_there (suc (suc (suc (suc number)))) pred stands = cc

none_given : All (λ (variable : VarDecl). IsGiven variable.base) []
none_given = All-from_recursion (λ (variable : VarDecl). IsGiven variable.base) [] tt

run_root : (label : List ℕ) → is_plain label ≡ true → IsLawfulRoot rounds (root_on label Goal 0 0)
run_root label plain = lawful_root rounds label Goal 0 0 (rounds_pred 0 (codes "Run") []) (bare_object (codes "track") 0 Timeline) plain (omega arith) refl refl refl none_given

link_root : (label : List ℕ) → is_plain label ≡ true → IsLawfulRoot rounds (root_on label Goal 1 1)
link_root label plain = lawful_root rounds label Goal 1 1 (rounds_pred 1 (codes "Link") (0 ∷ [])) (bare_object (codes "node") 1 Plains) plain (omega arith) refl refl refl none_given

lost_root : IsLawfulRoot rounds (root_on (codes "lost") Rejectable 2 1)
lost_root = lawful_root rounds (codes "lost") Rejectable 2 1 (rounds_pred 1 (codes "Lost") (1 ∷ [])) (bare_object (codes "node") 1 Plains) refl (omega arith) refl refl refl none_given

lawful_roots : All (IsLawfulRoot rounds) rounds_roots
lawful_roots = All-from_recursion (IsLawfulRoot rounds) rounds_roots (
  run_root (codes "one") refl,
  (run_root (codes "two") refl, (run_root (codes "three") refl, (link_root (codes "link") refl, (link_root (codes "other") refl, (lost_root, tt))))),
)

lawful_items : All (IsLawfulItem rounds OfProblem) rounds.problem.items
lawful_items = All-from_recursion (IsLawfulItem rounds OfProblem) rounds.problem.items (
  (
    refl,
    (
      kinds.Int,
      tt,
      All-from_recursion (IsOfKind rounds OfProblem kinds.Int) (terms.Global 0 ∷ terms.Global 1 ∷ []) (
        (span_variable (codes "x") 10, refl, refl),
        ((span_variable (codes "y") 10, refl, refl), tt),
      ),
    ),
  ),
  tt,
)

-- ---- classes and names

lawful_class : (number : ℕ) (class : Class) → slice_get rounds.classes number ≡ Some class → IsLawfulClass rounds number class
lawful_class zero class stands =
    let same : bare_class (codes "Track") ≡ class = cc in subst (IsLawfulClass rounds 0) same (class_is rounds 0 (codes "Track") refl)
lawful_class (suc zero) class stands =
    let same : bare_class (codes "Node") ≡ class = cc in subst (IsLawfulClass rounds 1) same (class_is rounds 1 (codes "Node") refl)
lawful_class (suc (suc zero)) class stands =
    let same : bare_class (codes "Ghost") ≡ class = cc in subst (IsLawfulClass rounds 2) same (class_is rounds 2 (codes "Ghost") refl)
lawful_class (suc (suc (suc number))) class stands = cc

global_name : (number : ℕ) (variable : VarDecl) → slice_get rounds.problem.globals number ≡ Some variable → IsGlobalName number variable.name
global_name zero variable stands =
    let same : span_variable (codes "x") 10 ≡ variable = cc in
    subst (λ (v : VarDecl). IsGlobalName 0 v.name) same (inl (plain_name (codes "x") refl))
global_name (suc zero) variable stands =
    let same : span_variable (codes "y") 10 ≡ variable = cc in
    subst (λ (v : VarDecl). IsGlobalName 1 v.name) same (inl (plain_name (codes "y") refl))
global_name (suc (suc zero)) variable stands =
    let same : span_variable (codes "z") 10 ≡ variable = cc in
    subst (λ (v : VarDecl). IsGlobalName 2 v.name) same (inl (plain_name (codes "z") refl))
global_name (suc (suc (suc number))) variable stands = cc

abbrev pred_names : List (List ℕ)
pred_names = codes "Run" ∷ codes "Link" ∷ codes "Lost" ∷ codes "Sign" ∷ []

preds_differ : AllPairs (λ (one other : Pred). one.class ≡ other.class → one.name ≢ other.name) rounds.preds
preds_differ i zero d below within = absurd (omega (arith, below))
preds_differ zero (suc zero) d below within = λ classes. differing pred_names refl 0 1 [] (omega arith) (omega arith)
preds_differ zero (suc (suc zero)) d below within = λ classes. differing pred_names refl 0 2 [] (omega arith) (omega arith)
preds_differ zero (suc (suc (suc zero))) d below within = λ classes. differing pred_names refl 0 3 [] (omega arith) (omega arith)
preds_differ (suc i) (suc zero) d below within = absurd (omega (arith, below))
preds_differ (suc zero) (suc (suc zero)) d below within = λ classes. differing pred_names refl 1 2 [] (omega arith) (omega arith)
preds_differ (suc zero) (suc (suc (suc zero))) d below within = λ classes. differing pred_names refl 1 3 [] (omega arith) (omega arith)
preds_differ (suc (suc i)) (suc (suc zero)) d below within = absurd (omega (arith, below))
preds_differ (suc (suc zero)) (suc (suc (suc zero))) d below within = λ classes. differing pred_names refl 2 3 [] (omega arith) (omega arith)
preds_differ (suc (suc (suc i))) (suc (suc (suc zero))) d below within = absurd (omega (arith, below))
preds_differ i (suc (suc (suc (suc j)))) d below within = absurd (omega (arith, within))

pub rounds_is_lawful : IsLawful rounds
rounds_is_lawful = record {
  horizon = record { start = omega (arith, ints); order = omega (arith, ints); end = (omega (arith, ints), omega (arith, ints)); some_steps = omega arith; few_steps = omega arith };
  few_enums = omega arith;
  few_classes = omega arith;
  few_preds = omega arith;
  few_rules = omega arith;
  few_objects = omega arith;
  few_roots = omega arith;
  few_facts = omega arith;
  few_globals = omega arith;
  few_items = omega arith;
  enums = All-from_recursion IsLawfulEnum [] tt;
  classes = lawful_class;
  objects = All-from_recursion (IsLawfulObject rounds) rounds.objects (
    lawful_object rounds (codes "track") (codes "Track") 0 Timeline refl refl tt,
    (lawful_object rounds (codes "node") (codes "Node") 1 Plains refl refl tt, tt),
  );
  preds = pred_there;
  pred_names = preds_differ;
  roots = lawful_roots;
  globals = All-from_recursion (IsLawfulVariable rounds) rounds_globals (lawful_span rounds (codes "x") 10 (omega arith), (lawful_span rounds (codes "y") 10 (omega arith), (lawful_span rounds (codes "z") 10 (omega arith), tt)));
  items = lawful_items;
  decisions = All-from_recursion _ [] tt;
  names = global_name;
  not_builtin = All-from_recursion (λ name. Contains builtin_names name → ⊥) (declared_names rounds) (not_contained builtin_names (codes "x") refl, (not_contained builtin_names (codes "y") refl, (not_contained builtin_names (codes "z") refl, (not_contained builtin_names (codes "one") refl, (not_contained builtin_names (codes "two") refl, (not_contained builtin_names (codes "three") refl, (not_contained builtin_names (codes "link") refl, (not_contained builtin_names (codes "other") refl, (not_contained builtin_names (codes "lost") refl, (not_contained builtin_names (codes "track") refl, (not_contained builtin_names (codes "node") refl, tt)))))))))));
  distinct = differing (file_names rounds) refl;
}

pub lawful_rounds : {E : Type 0} (result : Result Model E) → IfOk result (λ model. model ≡ rounds) → IfOk result IsLawful
lawful_rounds (Ok model) is = subst IsLawful (sym is) rounds_is_lawful
lawful_rounds (Err fault) is = tt

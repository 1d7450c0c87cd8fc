-- The small model is lawful.
use Rattle.std.proofs.Common.{◌≡◌, ℕ, ℤ, pos, ◌<◌, ◌≤◌, ◌^◌, List, [], ◌∷◌, ◌++◌, length, Some, Result, Ok, Err, slice_get, zero, suc, inl, inr, refl, sym, ◌∙◌, ap, subst, arith}
use Rattle.std.specs.Prelude.{IfOk, Contains, codes}
use Rattle.std.proofs.lemmas.Fmt.{decimal_digit}
use Rattle.std.proofs.lemmas.Int.{ints}
use Rattle.std.proofs.lemmas.List.Elements.{All-from_recursion}
use Rattle.domain_core.specs.Domain.{Domain, Range, Set, IsDomain, IsValue, Has, AreAscending}
use Rattle.domain_core.specs.Lists.{MakesSet}
use Rattle.eu_name.specs.Word.{IsName}
use Rattle.model_core.specs.declared.class.Class.{Class}
use Rattle.model_core.specs.declared.class.Pred.{Pred}
use Rattle.model_core.specs.declared.item.Item.TheVariants.{Relation}
use Rattle.model_core.specs.declared.item.Rel.TheVariants.{Any}
use Rattle.model_core.specs.declared.model.Model.{Model}
use Rattle.model_core.specs.declared.rule.Guard.{Guard}
use Rattle.model_core.specs.declared.rule.Turn.{Turn}
use Rattle.model_core.specs.declared.variable.Base.TheVariants.{Given}
use Rattle.model_core.specs.declared.variable.ValueKind.TheVariants as kinds
use Rattle.model_core.specs.declared.variable.VarDecl.{VarDecl}
use Rattle.model_core.specs.Blocks.{Direct, OfSlot, OfLocal, OfItem, OfBranch, direct}
use Rattle.model_core.specs.Entries.{Entries}
use Rattle.model_core.specs.Kinds.{IsObjectOf, IsInKind, OfProblem}
use Rattle.model_core.specs.Lawful.{IsLawfulVariable, IsLawfulClass, IsLawfulObject, IsLawfulSlot, IsLawfulItem, IsLawfulEntry, IsLawfulRule, IsLawfulPred, IsLawfulRoot, IsLawful}
use Rattle.model_core.specs.Naming.{builtin_names, file_names, declared_names, IsGlobalName, IsParameterName}
use Rattle.tests_base.specs.Sample.{ranged, spirit_alone, rover, spirit, at, coming, here, sample}
use Rattle.model_core.specs.Variables.{IsGiven}
use Rattle.model_core.specs.Standing.{StandsAt, StandsOnce, IsSeen, LeadsToBlock}
use Rattle.model_core.proofs.Words.{not_contained, plain_name, differing}

-- ---- the set of one object

contains_one : (x y : ℤ) → Contains (x ∷ []) y → y ≡ x
contains_one x y (zero, within, is) = sym is
contains_one x y (suc k, within, is) = absurd (omega (arith, within))

-- a domain made of the one number is the set of it
pub only_is : (domain : Domain) → MakesSet (pos 0 ∷ []) (Ok domain) → domain ≡ spirit_alone
only_is domain (members, is, are) = is ∙ ap Set (one_member members are.are.ascending are.are.some (λ value has. contains_one (pos 0) value ((are.same value).0 has)))
  where
    one_member : (members : List ℤ) → AreAscending members → 0 < length members → ((value : ℤ) → Contains members value → value ≡ pos 0) → members ≡ pos 0 ∷ []
    one_member [] ascending some among = absurd (omega (arith, some))
    one_member (x ∷ []) ascending some among = let first : x ≡ pos 0 = among x (0, omega arith, refl) in λ i. first i ∷ []
    one_member (x ∷ (y ∷ more)) ascending some among =
        let first : x ≡ pos 0 = among x (0, omega arith, refl) in
        let second : y ≡ pos 0 = among y (1, omega arith, refl) in
        absurd (omega (arith, ints, ascending 0 1 x (omega arith) (omega arith), first, second))

-- ---- variables and objects

lawful_ranged : (name : List ℕ) (greatest : ℕ) → greatest ≤ 1000000 → IsLawfulVariable sample (ranged name greatest)
lawful_ranged name greatest small = record {
  kind = tt;
  base = ((omega (arith, ints), omega (arith, ints)), (omega (arith, ints), omega (arith, ints, small)), omega (arith, ints));
  inside = record { values = λ value has. (omega (arith, ints, has), omega (arith, ints, small, has)); range = λ is_range. tt };
}

only_domain : IsDomain spirit_alone
only_domain = record {
  ascending = λ i j d below within. absurd (omega (arith, below, within));
  values = All-from_recursion IsValue (pos 0 ∷ []) ((omega (arith, ints), omega (arith, ints)), tt);
  some = omega arith;
  few = omega arith;
}

only_object : (value : ℤ) → Has spirit_alone value → IsObjectOf sample 0 value
only_object value has = (spirit, (0, contains_one (pos 0) value has, refl), ([], refl))

only_inside : IsInKind sample kinds.Object spirit_alone
only_inside = record { values = λ value has. (spirit, (0, contains_one (pos 0) value has, refl)); range = λ is_range. absurd is_range }

lawful_rover : (number : ℕ) (class : Class) → slice_get (rover ∷ []) number ≡ Some class → IsLawfulClass sample number class
lawful_rover zero class stands =
    let same : rover ≡ class = cc in
    subst (IsLawfulClass sample 0) same record {
      name = plain_name (codes "Rover") refl;
      extends = λ parent is. cc;
      no_circle = λ parent is under. absurd (cc);
      fields = All-from_recursion (IsLawfulVariable sample) [] tt;
      names = All-from_recursion IsName [] tt;
      distinct = differing [] refl;
    }
lawful_rover (suc number) class stands = cc

lawful_spirit : IsLawfulObject sample spirit
lawful_spirit = record {
  name = (codes "spirit" ∷ [], omega arith, All-from_recursion IsName (codes "spirit" ∷ []) (plain_name (codes "spirit") refl, tt), refl);
  class = rover;
  is_class = refl;
  fields = tt;
  kind = tt;
}

-- ---- the rule

no_branch : (number : ℕ) (guard : Guard) (then otherwise : Entries) → slice_get (direct coming.top) number ≡ Some (OfBranch guard then otherwise) → ⊥
no_branch zero guard then otherwise is = cc
no_branch (suc zero) guard then otherwise is = cc
no_branch (suc (suc zero)) guard then otherwise is = cc
no_branch (suc (suc (suc number))) guard then otherwise is = cc

-- all that stands in the rule stands in its top block
stands_on_top : (path : List Turn) (place : ℕ) (what : Direct) → StandsAt coming.top path place what → (path ≡ []) × (slice_get (direct coming.top) place ≡ Some what)
stands_on_top [] place what stands = (refl, subst (λ (block : Entries). slice_get (direct block) place ≡ Some what) stands.way stands.stands)
stands_on_top (turn ∷ path) place what stands = absurd (no_branch turn.entry stands.way.0 stands.way.1.0 stands.way.1.1 stands.way.1.2.0)

top_slot : (number : ℕ) (what : Direct) → slice_get (direct coming.top) number ≡ Some what → what ≡ OfSlot 0 → number ≡ 0
top_slot zero what stands is = refl
top_slot (suc zero) what stands is = cc
top_slot (suc (suc zero)) what stands is = cc
top_slot (suc (suc (suc number))) what stands is = cc

top_local : (number : ℕ) (what : Direct) → slice_get (direct coming.top) number ≡ Some what → what ≡ OfLocal 0 → number ≡ 2
top_local zero what stands is = cc
top_local (suc zero) what stands is = cc
top_local (suc (suc zero)) what stands is = refl
top_local (suc (suc (suc number))) what stands is = cc

slot_seen : (path : List Turn) → IsSeen coming.top path (OfSlot 0)
slot_seen path = record { outer = []; inner = path; within = refl; place = 0; stands = record { block = coming.top; way = refl; stands = refl } }

lawful_entry : (path : List Turn) (place : ℕ) (what : Direct) → slice_get (direct coming.top) place ≡ Some what → (place < 2 ^ 16) × IsLawfulEntry sample 0 coming path what
lawful_entry path zero what stands =
    let is : OfSlot 0 ≡ what = cc in
    (omega arith, subst (IsLawfulEntry sample 0 coming path) is (record { pred = 0; object = Given spirit_alone }, refl))
lawful_entry path (suc zero) what stands =
    let is : OfItem (Relation Any 0) ≡ what = cc in
    (omega arith, subst (IsLawfulEntry sample 0 coming path) is ((record { pred = 0; object = Given spirit_alone }, refl), slot_seen path))
lawful_entry path (suc (suc zero)) what stands =
    let is : OfLocal 0 ≡ what = cc in
    (omega arith, subst (IsLawfulEntry sample 0 coming path) is (ranged [] 9, refl))
lawful_entry path (suc (suc (suc number))) what stands = cc

slot_stands : (number : ℕ) → number < 1 → StandsOnce coming.top (OfSlot number)
slot_stands zero within = record {
  path = [];
  place = 0;
  stands = record { block = coming.top; way = refl; stands = refl };
  only = λ other number stands. let top = stands_on_top other number (OfSlot 0) stands in (top.0, top_slot number (OfSlot 0) top.1 refl);
}
slot_stands (suc number) within = absurd (omega (arith, within))

local_stands : (number : ℕ) → number < 1 → StandsOnce coming.top (OfLocal number)
local_stands zero within = record {
  path = [];
  place = 2;
  stands = record { block = coming.top; way = refl; stands = refl };
  only = λ other number stands. let top = stands_on_top other number (OfLocal 0) stands in (top.0, top_local number (OfLocal 0) top.1 refl);
}
local_stands (suc number) within = absurd (omega (arith, within))

-- no way leads from the top block
no_way : (path : List Turn) (block : Entries) → LeadsToBlock coming.top path block → path ≡ []
no_way [] block way = refl
no_way (turn ∷ path) block way = absurd (no_branch turn.entry way.0 way.1.0 way.1.1 way.1.2.0)

lawful_coming : IsLawfulRule sample 0 coming
lawful_coming = record {
  entries = λ path place what stands. lawful_entry path place what (stands_on_top path place what stands).1;
  nested = λ path block way. omega (arith, ap length (no_way path block way));
  slots = All-from_recursion (IsLawfulSlot sample) coming.slots (record { pred = at; is_pred = refl; base = only_domain; inside = only_inside; objects = only_object }, tt);
  slots_stand = slot_stands;
  locals = All-from_recursion (IsLawfulVariable sample) coming.locals (lawful_ranged [] 9 (omega arith), tt);
  unnamed = All-from_recursion (λ variable. variable.name ≡ []) coming.locals (refl, tt);
  locals_stand = local_stands;
}

-- ---- the predicate and the problem

lawful_at : (number : ℕ) (pred : Pred) → slice_get (at ∷ []) number ≡ Some pred → IsLawfulPred sample number pred
lawful_at zero pred stands =
    let same : at ≡ pred = cc in
    subst (IsLawfulPred sample 0) same record {
      name = plain_name (codes "At") refl;
      class = rover;
      is_class = refl;
      no_field = not_contained [] (codes "At") refl;
      params = All-from_recursion (IsLawfulVariable sample) at.params (lawful_ranged (codes "place") 3 (omega arith), tt);
      few_params = omega arith;
      names = All-from_recursion IsParameterName (codes "place" ∷ []) ((plain_name (codes "place") refl, not_contained (codes "start" ∷ codes "end" ∷ codes "duration" ∷ codes "object" ∷ []) (codes "place") refl), tt);
      distinct = differing (codes "place" ∷ []) refl;
      quantity = tt;
      rules = coming ∷ [];
      are_rules = (refl, tt);
      few = record { rules = omega arith; slots = omega arith; locals = omega arith; items = omega arith; guards = omega arith };
      lawful = All-from_recursion (IsLawfulRule sample 0) (coming ∷ []) (lawful_coming, tt);
    }
lawful_at (suc number) pred stands = cc

lawful_here : IsLawfulRoot sample here
lawful_here = record { label = plain_name (codes "here") refl; pred = at; is_pred = refl; given = All-from_recursion (λ variable. IsGiven variable.base) at.params ((Range (pos 0) (pos 3), refl), tt); object = only_domain; inside = only_inside; objects = only_object }

global_name : (number : ℕ) (variable : VarDecl) → slice_get sample.problem.globals number ≡ Some variable → IsGlobalName number variable.name
global_name zero variable stands =
    let same : ranged (codes "total") 10 ≡ variable = cc in
    subst (λ (v : VarDecl). IsGlobalName 0 v.name) same (inl (plain_name (codes "total") refl))
global_name (suc zero) variable stands =
    let same : ranged (codes "!1") 5 ≡ variable = cc in
    subst (λ (v : VarDecl). IsGlobalName 1 v.name) same (inr (ap (λ (digits : List ℕ). codes "!" ++ digits) (sym (decimal_digit 1 (omega arith)))))
global_name (suc (suc number)) variable stands = cc

pub sample_is_lawful : IsLawful sample
sample_is_lawful = record {
  horizon = record { start = omega (arith, ints); order = omega (arith, ints); end = (omega (arith, ints), omega (arith, ints)); some_steps = omega arith; few_steps = omega arith };
  few_enums = omega arith;
  few_classes = omega arith;
  few_preds = omega arith;
  few_rules = omega arith;
  few_objects = omega arith;
  few_roots = omega arith;
  few_facts = omega arith;
  few_globals = omega arith;
  few_items = omega arith;
  enums = All-from_recursion _ [] tt;
  classes = lawful_rover;
  objects = All-from_recursion (IsLawfulObject sample) (spirit ∷ []) (lawful_spirit, tt);
  preds = lawful_at;
  pred_names = λ i j d below within. absurd (omega (arith, below, within));
  roots = All-from_recursion (IsLawfulRoot sample) (here ∷ []) (lawful_here, tt);
  globals = All-from_recursion (IsLawfulVariable sample) sample.problem.globals (lawful_ranged (codes "total") 10 (omega arith), (lawful_ranged (codes "!1") 5 (omega arith), tt));
  items = All-from_recursion (IsLawfulItem sample OfProblem) [] tt;
  decisions = All-from_recursion _ [] tt;
  names = global_name;
  not_builtin = All-from_recursion (λ name. Contains builtin_names name → ⊥) (declared_names sample)
      (not_contained builtin_names (codes "total") refl, (not_contained builtin_names (codes "!1") refl, (not_contained builtin_names (codes "here") refl, (not_contained builtin_names (codes "spirit") refl, tt))));
  distinct = differing (file_names sample) refl;
}

pub lawful_sample : {E : Type 0} (result : Result Model E) → IfOk result (λ model. model ≡ sample) → IfOk result IsLawful
lawful_sample (Ok model) is = subst IsLawful (sym is) sample_is_lawful
lawful_sample (Err fault) is = tt

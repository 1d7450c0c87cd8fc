-- The mission is lawful.
use Rattle.std.proofs.Common.{◌≡◌, ℕ, pos, ◌<◌, ◌≤◌, ◌^◌, List, [], ◌∷◌, ◌++◌, length, Some, Result, Ok, Err, slice_get, zero, suc, inl, inr, refl, sym, ap, subst, arith, ◌⊎◌}
use Rattle.std.specs.Prelude.{IfOk, Contains, All, AllPairs, ◌≢◌, codes, true}
use Rattle.std.proofs.lemmas.Fmt.{decimal_digit}
use Rattle.std.proofs.lemmas.Int.{ints}
use Rattle.std.proofs.lemmas.List.Elements.{All-from_recursion}
use Rattle.eu_name.specs.declared.name.Part.TheVariants.{Start, Param}
use Rattle.eu_name.specs.Word.{IsName}
use Rattle.model_core.specs.declared.class.Class.{Class}
use Rattle.model_core.specs.declared.class.ObjectKind.TheVariants.{Timeline, Reusable, Reservoir}
use Rattle.model_core.specs.declared.class.Pred.{Pred}
use Rattle.model_core.specs.declared.class.PredKind.{PredKind}
use Rattle.model_core.specs.declared.class.PredKind.TheVariants.{Uses, Produce, Consume}
use Rattle.model_core.specs.declared.item.Item.TheVariants.{Constraint, Relation}
use Rattle.domain_core.specs.declared.kind.Kind.TheVariants.{Leq}
use Rattle.model_core.specs.declared.item.Rel.TheVariants.{Equals, After}
use Rattle.model_core.specs.declared.item.Term.TheVariants as terms
use Rattle.model_core.specs.declared.model.Model.{Model}
use Rattle.model_core.specs.declared.model.RootKind.{RootKind}
use Rattle.model_core.specs.declared.model.RootKind.TheVariants.{Goal, Rejectable, Fact}
use Rattle.model_core.specs.declared.rule.Guard.{Guard}
use Rattle.model_core.specs.declared.rule.Guard.TheVariants.{Equal}
use Rattle.model_core.specs.declared.rule.Side.{Side}
use Rattle.model_core.specs.declared.rule.Side.TheVariants.{Then, Otherwise}
use Rattle.model_core.specs.declared.rule.Turn.{Turn}
use Rattle.model_core.specs.declared.variable.Base.TheVariants.{Given}
use Rattle.model_core.specs.declared.variable.ValueKind.TheVariants as kinds
use Rattle.model_core.specs.declared.variable.VarDecl.{VarDecl}
use Rattle.model_core.specs.Blocks.{Direct, OfSlot, OfLocal, OfItem, OfBranch, direct, chosen}
use Rattle.model_core.specs.Entries.{Entries}
use Rattle.model_core.specs.Kinds.{OfProblem, OfRule, IsOfKind}
use Rattle.model_core.specs.Lawful.{IsLawfulVariable, IsLawfulEnum, IsLawfulClass, IsLawfulObject, IsLawfulSlot, IsLawfulItem, IsLawfulEntry, IsLawfulRule, HasQuantity, IsLawfulPred, IsLawfulRoot, IsLawful}
use Rattle.model_core.specs.Naming.{builtin_names, file_names, declared_names, token_part_words, IsGlobalName, IsParameterName}
use Rattle.model_core.specs.Standing.{StandsAt, StandsOnce, IsSeen, IsTermSeen, LeadsToBlock}
use Rattle.model_core.proofs.Words.{not_contained, plain_name, is_plain, differing}
use Rattle.tests_samples.specs.Mission.{mission_mode, mission_globals, mission_at, mission_act, mission_then, mission_otherwise, mission_rule, mission_roots, mission_items, mission}
use Rattle.tests_samples.specs.Pieces.{alone_on, span_variable, listed_variable, bare_class, bare_object, root_on}
use Rattle.tests_samples.proofs.PieceLaws.{contains_one, alone_domain, lawful_span, class_is, lawful_object, lawful_slot, lawful_root, one_given}

lawful_class : (number : ℕ) (class : Class) → slice_get mission.classes number ≡ Some class → IsLawfulClass mission number class
lawful_class zero class stands =
    let same : bare_class (codes "Rover") ≡ class = cc in subst (IsLawfulClass mission 0) same (class_is mission 0 (codes "Rover") refl)
lawful_class (suc zero) class stands =
    let same : bare_class (codes "Arm") ≡ class = cc in subst (IsLawfulClass mission 1) same (class_is mission 1 (codes "Arm") refl)
lawful_class (suc (suc zero)) class stands =
    let same : bare_class (codes "Cell") ≡ class = cc in subst (IsLawfulClass mission 2) same (class_is mission 2 (codes "Cell") refl)
lawful_class (suc (suc (suc number))) class stands = cc

-- ---- the rule

-- the ways in the rule: to the top block, and to those of its guard
way_is : (path : List Turn) (block : Entries) → LeadsToBlock mission_rule.top path block
    → ((path ≡ []) × (block ≡ mission_rule.top))
    ⊎ (((path ≡ record { entry = 2; side = Then } ∷ []) × (block ≡ mission_then))
    ⊎ ((path ≡ record { entry = 2; side = Otherwise } ∷ []) × (block ≡ mission_otherwise)))
way_is [] block way = inl (refl, way)
way_is (turn ∷ path) block way = behind turn.entry turn.side way.0 way.1.0 way.1.1 way.1.2.0 way.1.2.1.1
  where
    ends : (inner : Entries) → ((number : ℕ) (guard : Guard) (then otherwise : Entries) → slice_get (direct inner) number ≡ Some (OfBranch guard then otherwise) → ⊥)
        → (rest : List Turn) → LeadsToBlock inner rest block → (rest ≡ []) × (block ≡ inner)
    ends inner none [] way = (refl, way)
    ends inner none (turn' ∷ rest) way = absurd (none turn'.entry way.0 way.1.0 way.1.1 way.1.2.0)

    plain_then : (number : ℕ) (guard : Guard) (then otherwise : Entries) → slice_get (direct mission_then) number ≡ Some (OfBranch guard then otherwise) → ⊥
    plain_then zero guard then otherwise is = cc
    plain_then (suc zero) guard then otherwise is = cc
    plain_then (suc (suc number)) guard then otherwise is = cc

    plain_otherwise : (number : ℕ) (guard : Guard) (then otherwise : Entries) → slice_get (direct mission_otherwise) number ≡ Some (OfBranch guard then otherwise) → ⊥
    plain_otherwise zero guard then otherwise is = cc
    plain_otherwise (suc zero) guard then otherwise is = cc
    plain_otherwise (suc (suc number)) guard then otherwise is = cc

    behind : (place : ℕ) (side : Side) (guard : Guard) (then otherwise : Entries) → slice_get (direct mission_rule.top) place ≡ Some (OfBranch guard then otherwise)
        → LeadsToBlock (chosen side then otherwise) path block
        → ((record { entry = place; side = side } ∷ path ≡ []) × (block ≡ mission_rule.top))
        ⊎ (((record { entry = place; side = side } ∷ path ≡ record { entry = 2; side = Then } ∷ []) × (block ≡ mission_then))
        ⊎ ((record { entry = place; side = side } ∷ path ≡ record { entry = 2; side = Otherwise } ∷ []) × (block ≡ mission_otherwise)))
    behind zero side guard then otherwise at way = absurd (cc)
    behind (suc zero) side guard then otherwise at way = absurd (cc)
    behind (suc (suc zero)) Then guard then otherwise at way =
        let is : then ≡ mission_then = cc in
        let done = ends mission_then plain_then path (subst (λ (e : Entries). LeadsToBlock e path block) is way) in
        inr (inl (ap (λ (rest : List Turn). record { entry = 2; side = Then } ∷ rest) done.0, done.1))
    behind (suc (suc zero)) Otherwise guard then otherwise at way =
        let is : otherwise ≡ mission_otherwise = cc in
        let done = ends mission_otherwise plain_otherwise path (subst (λ (e : Entries). LeadsToBlock e path block) is way) in
        inr (inr (ap (λ (rest : List Turn). record { entry = 2; side = Otherwise } ∷ rest) done.0, done.1))
    behind (suc (suc (suc place))) side guard then otherwise at way = absurd (cc)

-- what stands in the rule stands in one of its blocks
stands_in : (path : List Turn) (place : ℕ) (what : Direct) → StandsAt mission_rule.top path place what
    → ((path ≡ []) × (slice_get (direct mission_rule.top) place ≡ Some what))
    ⊎ (((path ≡ record { entry = 2; side = Then } ∷ []) × (slice_get (direct mission_then) place ≡ Some what))
    ⊎ ((path ≡ record { entry = 2; side = Otherwise } ∷ []) × (slice_get (direct mission_otherwise) place ≡ Some what)))
stands_in path place what p = elim (way_is path p.block p.way) [
  | inl top ↦ inl (top.0, subst (λ (e : Entries). slice_get (direct e) place ≡ Some what) top.1 p.stands)
  | inr (inl then) ↦ inr (inl (then.0, subst (λ (e : Entries). slice_get (direct e) place ≡ Some what) then.1 p.stands))
  | inr (inr otherwise) ↦ inr (inr (otherwise.0, subst (λ (e : Entries). slice_get (direct e) place ≡ Some what) otherwise.1 p.stands))
]

-- the ways to the blocks of the guard
abbrev then_path : List Turn
then_path = record { entry = 2; side = Then } ∷ []

abbrev otherwise_path : List Turn
otherwise_path = record { entry = 2; side = Otherwise } ∷ []

abbrev IsEntry : List Turn → ℕ → Direct → Type 0
IsEntry path place what = (place < 2 ^ 16) × IsLawfulEntry mission 0 mission_rule path what

at_first : (path : List Turn) (what : Direct) → StandsAt mission_rule.top [] 0 what → IsSeen mission_rule.top path what
at_first path what stands = record { outer = []; inner = path; within = refl; place = 0; stands = stands }

use_seen : (path : List Turn) → IsSeen mission_rule.top path (OfSlot 1)
use_seen path = record { outer = []; inner = path; within = refl; place = 0; stands = record { block = mission_rule.top; way = refl; stands = refl } }

in_then : (place : ℕ) (what : Direct) → slice_get (direct mission_then) place ≡ Some what → StandsAt mission_rule.top then_path place what
in_then place what is = record { block = mission_then; way = (_, (_, _, (refl, (tt, refl)))); stands = is }

in_otherwise : (place : ℕ) (what : Direct) → slice_get (direct mission_otherwise) place ≡ Some what → StandsAt mission_rule.top otherwise_path place what
in_otherwise place what is = record { block = mission_otherwise; way = (_, (_, _, (refl, (tt, refl)))); stands = is }

here_place : IsOfKind mission (OfRule 0 mission_rule) kinds.Int (terms.Here (Param 0))
here_place = (span_variable (codes "place") 3, record { predicate = mission_at; is_predicate = refl; declared = refl }, refl)

lit_three : IsOfKind mission (OfRule 0 mission_rule) kinds.Int (terms.Lit (pos 3))
lit_three = (omega (arith, ints), omega (arith, ints))

top_entry : (place : ℕ) (what : Direct) → slice_get (direct mission_rule.top) place ≡ Some what → IsEntry [] place what
top_entry zero what stands =
    let is : OfSlot 1 ≡ what = cc in (omega arith, subst (IsLawfulEntry mission 0 mission_rule []) is (record { pred = 1; object = Given (alone_on 2) }, refl))
top_entry (suc zero) what stands =
    let is : OfItem (Relation Equals 1) ≡ what = cc in
    (omega arith, subst (IsLawfulEntry mission 0 mission_rule []) is ((record { pred = 1; object = Given (alone_on 2) }, refl), use_seen []))
top_entry (suc (suc zero)) what stands =
    let is : OfBranch (Equal (terms.Here (Param 0)) (terms.Lit (pos 3))) mission_then mission_otherwise ≡ what = cc in (
      omega arith,
      subst (IsLawfulEntry mission 0 mission_rule []) is (
        (kinds.Int, All-from_recursion (IsOfKind mission (OfRule 0 mission_rule) kinds.Int) (terms.Here (Param 0) ∷ terms.Lit (pos 3) ∷ []) (here_place, (lit_three, tt))),
        All-from_recursion (IsTermSeen mission_rule.top []) (terms.Here (Param 0) ∷ terms.Lit (pos 3) ∷ []) (tt, (tt, tt)),
      ),
    )
top_entry (suc (suc (suc number))) what stands = cc

then_entry : (place : ℕ) (what : Direct) → slice_get (direct mission_then) place ≡ Some what → IsEntry then_path place what
then_entry zero what stands =
    let is : OfLocal 0 ≡ what = cc in (omega arith, subst (IsLawfulEntry mission 0 mission_rule then_path) is (span_variable [] 9, refl))
then_entry (suc zero) what stands =
    let is : OfItem (Constraint Leq (terms.Local 0 ∷ terms.Slot 1 (Param 0) ∷ [])) ≡ what = cc in (
      omega arith,
      subst (IsLawfulEntry mission 0 mission_rule then_path) is (
        (
          refl,
          (
            kinds.Int,
            tt,
            All-from_recursion (IsOfKind mission (OfRule 0 mission_rule) kinds.Int) (terms.Local 0 ∷ terms.Slot 1 (Param 0) ∷ []) (
              (span_variable [] 9, refl, refl),
              (
                (record { pred = 1; object = Given (alone_on 2) }, refl, (span_variable (codes "quantity") 1000000, record { predicate = mission_act 1 (codes "uses") Uses; is_predicate = refl; declared = refl }, refl)),
                tt,
              ),
            ),
          ),
        ),
        All-from_recursion (IsTermSeen mission_rule.top then_path) (terms.Local 0 ∷ terms.Slot 1 (Param 0) ∷ []) (
          record { outer = then_path; inner = []; within = refl; place = 0; stands = in_then 0 (OfLocal 0) refl },
          (use_seen then_path, tt),
        ),
      ),
    )
then_entry (suc (suc number)) what stands = cc

otherwise_entry : (place : ℕ) (what : Direct) → slice_get (direct mission_otherwise) place ≡ Some what → IsEntry otherwise_path place what
otherwise_entry zero what stands =
    let is : OfSlot 0 ≡ what = cc in (omega arith, subst (IsLawfulEntry mission 0 mission_rule otherwise_path) is (record { pred = 0; object = Given (alone_on 0) }, refl))
otherwise_entry (suc zero) what stands =
    let is : OfItem (Relation After 0) ≡ what = cc in (
      omega arith,
      subst (IsLawfulEntry mission 0 mission_rule otherwise_path) is (
        (record { pred = 0; object = Given (alone_on 0) }, refl),
        record { outer = otherwise_path; inner = []; within = refl; place = 0; stands = in_otherwise 0 (OfSlot 0) refl },
      ),
    )
otherwise_entry (suc (suc number)) what stands = cc

lawful_entry : (path : List Turn) (place : ℕ) (what : Direct) → StandsAt mission_rule.top path place what → IsEntry path place what
lawful_entry path place what p = elim (stands_in path place what p) [
  | inl top ↦ subst (λ (way : List Turn). IsEntry way place what) (sym top.0) (top_entry place what top.1)
  | inr (inl then) ↦ subst (λ (way : List Turn). IsEntry way place what) (sym then.0) (then_entry place what then.1)
  | inr (inr otherwise) ↦ subst (λ (way : List Turn). IsEntry way place what) (sym otherwise.0) (otherwise_entry place what otherwise.1)
]

few_turns : (path : List Turn) (block : Entries) → LeadsToBlock mission_rule.top path block → length path < 16
few_turns path block way = elim (way_is path block way) [
  | inl top ↦ (let e = ap length top.0 in omega (arith, e))
  | inr (inl then) ↦ (let e = ap length then.0 in omega (arith, e))
  | inr (inr otherwise) ↦ (let e = ap length otherwise.0 in omega (arith, e))
]

-- ---- where slots and locals stand

top_use : (place : ℕ) → slice_get (direct mission_rule.top) place ≡ Some (OfSlot 1) → place ≡ 0
top_use zero is = refl
top_use (suc zero) is = cc
top_use (suc (suc zero)) is = cc
top_use (suc (suc (suc place))) is = cc

then_slots : (number place : ℕ) → slice_get (direct mission_then) place ≡ Some (OfSlot number) → ⊥
then_slots number zero is = cc
then_slots number (suc zero) is = cc
then_slots number (suc (suc place)) is = cc

otherwise_use : (place : ℕ) → slice_get (direct mission_otherwise) place ≡ Some (OfSlot 1) → ⊥
otherwise_use zero is = cc
otherwise_use (suc zero) is = cc
otherwise_use (suc (suc place)) is = cc

top_from : (place : ℕ) → slice_get (direct mission_rule.top) place ≡ Some (OfSlot 0) → ⊥
top_from zero is = cc
top_from (suc zero) is = cc
top_from (suc (suc zero)) is = cc
top_from (suc (suc (suc place))) is = cc

otherwise_from : (place : ℕ) → slice_get (direct mission_otherwise) place ≡ Some (OfSlot 0) → place ≡ 0
otherwise_from zero is = refl
otherwise_from (suc zero) is = cc
otherwise_from (suc (suc place)) is = cc

top_local : (place : ℕ) → slice_get (direct mission_rule.top) place ≡ Some (OfLocal 0) → ⊥
top_local zero is = cc
top_local (suc zero) is = cc
top_local (suc (suc zero)) is = cc
top_local (suc (suc (suc place))) is = cc

then_local : (place : ℕ) → slice_get (direct mission_then) place ≡ Some (OfLocal 0) → place ≡ 0
then_local zero is = refl
then_local (suc zero) is = cc
then_local (suc (suc place)) is = cc

otherwise_local : (place : ℕ) → slice_get (direct mission_otherwise) place ≡ Some (OfLocal 0) → ⊥
otherwise_local zero is = cc
otherwise_local (suc zero) is = cc
otherwise_local (suc (suc place)) is = cc

slot_stands : (number : ℕ) → number < 2 → StandsOnce mission_rule.top (OfSlot number)
slot_stands zero within = record {
  path = otherwise_path;
  place = 0;
  stands = in_otherwise 0 (OfSlot 0) refl;
  only = λ other number p. elim (stands_in other number (OfSlot 0) p) [
    | inl top ↦ absurd (top_from number top.1)
    | inr (inl then) ↦ absurd (then_slots 0 number then.1)
    | inr (inr otherwise) ↦ (otherwise.0, otherwise_from number otherwise.1)
  ];
}
slot_stands (suc zero) within = record {
  path = [];
  place = 0;
  stands = record { block = mission_rule.top; way = refl; stands = refl };
  only = λ other number p. elim (stands_in other number (OfSlot 1) p) [
    | inl top ↦ (top.0, top_use number top.1)
    | inr (inl then) ↦ absurd (then_slots 1 number then.1)
    | inr (inr otherwise) ↦ absurd (otherwise_use number otherwise.1)
  ];
}
slot_stands (suc (suc number)) within = absurd (omega (arith, within))

local_stands : (number : ℕ) → number < 1 → StandsOnce mission_rule.top (OfLocal number)
local_stands zero within = record {
  path = then_path;
  place = 0;
  stands = in_then 0 (OfLocal 0) refl;
  only = λ other number p. elim (stands_in other number (OfLocal 0) p) [
    | inl top ↦ absurd (top_local number top.1)
    | inr (inl then) ↦ (then.0, then_local number then.1)
    | inr (inr otherwise) ↦ absurd (otherwise_local number otherwise.1)
  ];
}
local_stands (suc number) within = absurd (omega (arith, within))

lawful_rule : IsLawfulRule mission 0 mission_rule
lawful_rule = record {
  entries = lawful_entry;
  nested = few_turns;
  slots = All-from_recursion (IsLawfulSlot mission) mission_rule.slots (
    lawful_slot mission 0 0 mission_at (bare_object (codes "spirit") 0 Timeline) (omega arith) refl refl refl,
    (lawful_slot mission 1 2 (mission_act 1 (codes "uses") Uses) (bare_object (codes "arm") 1 (Reusable (pos 2))) (omega arith) refl refl refl, tt),
  );
  slots_stand = slot_stands;
  locals = All-from_recursion (IsLawfulVariable mission) mission_rule.locals (lawful_span mission [] 9 (omega arith), tt);
  unnamed = All-from_recursion (λ variable. variable.name ≡ []) mission_rule.locals (refl, tt);
  locals_stand = local_stands;
}

-- ---- predicates, roots and items

lawful_at : IsLawfulPred mission 0 mission_at
lawful_at = record {
  name = plain_name (codes "At") refl;
  class = bare_class (codes "Rover");
  is_class = refl;
  no_field = not_contained [] (codes "At") refl;
  params = All-from_recursion (IsLawfulVariable mission) mission_at.params (lawful_span mission (codes "place") 3 (omega arith), tt);
  few_params = omega arith;
  names = All-from_recursion IsParameterName (codes "place" ∷ []) ((plain_name (codes "place") refl, not_contained token_part_words (codes "place") refl), tt);
  distinct = differing (codes "place" ∷ []) refl;
  quantity = tt;
  rules = mission_rule ∷ [];
  are_rules = (refl, tt);
  few = record { rules = omega arith; slots = omega arith; locals = omega arith; items = omega arith; guards = omega arith };
  lawful = All-from_recursion (IsLawfulRule mission 0) (mission_rule ∷ []) (lawful_rule, tt);
}

lawful_act : (number class : ℕ) (class_name name : List ℕ) (kind : PredKind) → is_plain name ≡ true → slice_get mission.classes class ≡ Some (bare_class class_name)
    → HasQuantity kind (span_variable (codes "quantity") 1000000 ∷ []) → IsLawfulPred mission number (mission_act class name kind)
lawful_act number class class_name name kind plain is quantity = record {
  name = plain_name name plain;
  class = bare_class class_name;
  is_class = is;
  no_field = not_contained [] name refl;
  params = All-from_recursion (IsLawfulVariable mission) (span_variable (codes "quantity") 1000000 ∷ []) (lawful_span mission (codes "quantity") 1000000 (omega arith), tt);
  few_params = omega arith;
  names = All-from_recursion IsParameterName (codes "quantity" ∷ []) ((plain_name (codes "quantity") refl, not_contained token_part_words (codes "quantity") refl), tt);
  distinct = differing (codes "quantity" ∷ []) refl;
  quantity = quantity;
  rules = [];
  are_rules = tt;
  few = record { rules = omega arith; slots = omega arith; locals = omega arith; items = omega arith; guards = omega arith };
  lawful = All-from_recursion (IsLawfulRule mission number) [] tt;
}

lawful_pred : (number : ℕ) (pred : Pred) → slice_get mission.preds number ≡ Some pred → IsLawfulPred mission number pred
lawful_pred zero pred stands = let same : mission_at ≡ pred = cc in subst (IsLawfulPred mission 0) same lawful_at
lawful_pred (suc zero) pred stands =
    let same : mission_act 1 (codes "uses") Uses ≡ pred = cc in subst (IsLawfulPred mission 1) same (lawful_act 1 1 (codes "Arm") (codes "uses") Uses refl refl refl)
lawful_pred (suc (suc zero)) pred stands =
    let same : mission_act 2 (codes "produce") Produce ≡ pred = cc in subst (IsLawfulPred mission 2) same (lawful_act 2 2 (codes "Cell") (codes "produce") Produce refl refl refl)
lawful_pred (suc (suc (suc zero))) pred stands =
    let same : mission_act 2 (codes "consume") Consume ≡ pred = cc in subst (IsLawfulPred mission 3) same (lawful_act 3 2 (codes "Cell") (codes "consume") Consume refl refl refl)
lawful_pred (suc (suc (suc (suc number)))) pred stands = cc

root_at : (label : List ℕ) (kind : RootKind) (number : ℕ) (name : List ℕ) → is_plain label ≡ true → number ≤ 1000000
    → slice_get mission.objects number ≡ Some (bare_object name 0 Timeline) → IsLawfulRoot mission (root_on label kind 0 number)
root_at label kind number name plain small is = lawful_root mission label kind 0 number mission_at (bare_object name 0 Timeline) plain small refl is refl (one_given (codes "place") 3)

lawful_roots : All (IsLawfulRoot mission) mission_roots
lawful_roots = All-from_recursion (IsLawfulRoot mission) mission_roots (
  root_at (codes "base") Fact 0 (codes "spirit") refl (omega arith) refl,
  (
    root_at (codes "here") Goal 0 (codes "spirit") refl (omega arith) refl,
    (
      root_at (codes "there") Rejectable 1 (codes "twin") refl (omega arith) refl,
      (
        lawful_root mission (codes "drill") Rejectable 1 2 (mission_act 1 (codes "uses") Uses) (bare_object (codes "arm") 1 (Reusable (pos 2))) refl (omega arith) refl refl refl (one_given (codes "quantity") 1000000),
        (
          lawful_root mission (codes "sun") Rejectable 2 3 (mission_act 2 (codes "produce") Produce) (bare_object (codes "cell") 2 (Reservoir (pos 5) (pos 0) (pos 10))) refl (omega arith) refl refl refl (one_given (codes "quantity") 1000000),
          (lawful_root mission (codes "work") Rejectable 3 3 (mission_act 2 (codes "consume") Consume) (bare_object (codes "cell") 2 (Reservoir (pos 5) (pos 0) (pos 10))) refl (omega arith) refl refl refl (one_given (codes "quantity") 1000000), tt),
        ),
      ),
    ),
  ),
)

lawful_items : All (IsLawfulItem mission OfProblem) mission_items
lawful_items = All-from_recursion (IsLawfulItem mission OfProblem) mission_items (
  (
    refl,
    (
      kinds.Int,
      tt,
      All-from_recursion (IsOfKind mission OfProblem kinds.Int) (terms.Global 0 ∷ terms.Lit (pos 5) ∷ []) (
        (span_variable (codes "total") 10, refl, refl),
        ((omega (arith, ints), omega (arith, ints)), tt),
      ),
    ),
  ),
  (
    (
      refl,
      (
        kinds.Int,
        tt,
        All-from_recursion (IsOfKind mission OfProblem kinds.Int) (terms.Root 3 Start ∷ terms.Root 2 Start ∷ []) (
          (root_on (codes "drill") Rejectable 1 2, refl, refl),
          ((root_on (codes "there") Rejectable 0 1, refl, refl), tt),
        ),
      ),
    ),
    tt,
  ),
)

-- ---- the listed kinds

lawful_mode : IsLawfulVariable mission (listed_variable (codes "mode") (kinds.Enum 0))
lawful_mode = record {
  kind = (mission_mode, refl);
  base = alone_domain 0 (omega arith);
  inside = record {
    values = λ value has. record { found = mission_mode; is_enum = refl; place = 0; is_place = contains_one (pos 0) value has; member = codes "slow"; is_member = refl };
    range = λ is_range. absurd is_range;
  };
}

lawful_on : IsLawfulVariable mission (listed_variable (codes "on") kinds.Bool)
lawful_on = record {
  kind = tt;
  base = alone_domain 0 (omega arith);
  inside = record { values = λ value has. inl (contains_one (pos 0) value has); range = λ is_range. absurd is_range };
}

lawful_enum : IsLawfulEnum mission_mode
lawful_enum = record {
  name = plain_name (codes "Mode") refl;
  members = All-from_recursion IsName (codes "slow" ∷ codes "fast" ∷ []) (plain_name (codes "slow") refl, (plain_name (codes "fast") refl, tt));
  some = omega arith;
  few = omega arith;
}

global_name : (number : ℕ) (variable : VarDecl) → slice_get mission.problem.globals number ≡ Some variable → IsGlobalName number variable.name
global_name zero variable stands =
    let same : span_variable (codes "total") 10 ≡ variable = cc in
    subst (λ (v : VarDecl). IsGlobalName 0 v.name) same (inl (plain_name (codes "total") refl))
global_name (suc zero) variable stands =
    let same : span_variable (codes "!1") 5 ≡ variable = cc in
    subst (λ (v : VarDecl). IsGlobalName 1 v.name) same (inr (ap (λ (digits : List ℕ). codes "!" ++ digits) (sym (decimal_digit 1 (omega arith)))))
global_name (suc (suc zero)) variable stands =
    let same : listed_variable (codes "mode") (kinds.Enum 0) ≡ variable = cc in
    subst (λ (v : VarDecl). IsGlobalName 2 v.name) same (inl (plain_name (codes "mode") refl))
global_name (suc (suc (suc zero))) variable stands =
    let same : listed_variable (codes "on") kinds.Bool ≡ variable = cc in
    subst (λ (v : VarDecl). IsGlobalName 3 v.name) same (inl (plain_name (codes "on") refl))
global_name (suc (suc (suc (suc number)))) variable stands = cc

abbrev pred_names : List (List ℕ)
pred_names = codes "At" ∷ codes "uses" ∷ codes "produce" ∷ codes "consume" ∷ []

preds_differ : AllPairs (λ (one other : Pred). one.class ≡ other.class → one.name ≢ other.name) mission.preds
preds_differ i zero d below within = absurd (omega (arith, below))
preds_differ zero (suc zero) d below within = λ classes. differing pred_names refl 0 1 [] (omega arith) (omega arith)
preds_differ zero (suc (suc zero)) d below within = λ classes. differing pred_names refl 0 2 [] (omega arith) (omega arith)
preds_differ zero (suc (suc (suc zero))) d below within = λ classes. differing pred_names refl 0 3 [] (omega arith) (omega arith)
preds_differ (suc i) (suc zero) d below within = absurd (omega (arith, below))
preds_differ (suc zero) (suc (suc zero)) d below within = λ classes. differing pred_names refl 1 2 [] (omega arith) (omega arith)
preds_differ (suc zero) (suc (suc (suc zero))) d below within = λ classes. differing pred_names refl 1 3 [] (omega arith) (omega arith)
preds_differ (suc (suc i)) (suc (suc zero)) d below within = absurd (omega (arith, below))
preds_differ (suc (suc zero)) (suc (suc (suc zero))) d below within = λ classes. differing pred_names refl 2 3 [] (omega arith) (omega arith)
preds_differ (suc (suc (suc i))) (suc (suc (suc zero))) d below within = absurd (omega (arith, below))
preds_differ i (suc (suc (suc (suc j)))) d below within = absurd (omega (arith, within))

pub mission_is_lawful : IsLawful mission
mission_is_lawful = record {
  horizon = record { start = omega (arith, ints); order = omega (arith, ints); end = (omega (arith, ints), omega (arith, ints)); some_steps = omega arith; few_steps = omega arith };
  few_enums = omega arith;
  few_classes = omega arith;
  few_preds = omega arith;
  few_rules = omega arith;
  few_objects = omega arith;
  few_roots = omega arith;
  few_facts = omega arith;
  few_globals = omega arith;
  few_items = omega arith;
  enums = All-from_recursion IsLawfulEnum (mission_mode ∷ []) (lawful_enum, tt);
  classes = lawful_class;
  objects = All-from_recursion (IsLawfulObject mission) mission.objects (
    lawful_object mission (codes "spirit") (codes "Rover") 0 Timeline refl refl tt,
    (
      lawful_object mission (codes "twin") (codes "Rover") 0 Timeline refl refl tt,
      (
        lawful_object mission (codes "arm") (codes "Arm") 1 (Reusable (pos 2)) refl refl ((omega (arith, ints), omega (arith, ints)), omega (arith, ints)),
        (
          lawful_object mission (codes "cell") (codes "Cell") 2 (Reservoir (pos 5) (pos 0) (pos 10)) refl refl
              ((omega (arith, ints), omega (arith, ints)), (omega (arith, ints), omega (arith, ints)), omega (arith, ints), omega (arith, ints)),
          tt,
        ),
      ),
    ),
  );
  preds = lawful_pred;
  pred_names = preds_differ;
  roots = lawful_roots;
  globals = All-from_recursion (IsLawfulVariable mission) mission_globals (lawful_span mission (codes "total") 10 (omega arith), (lawful_span mission (codes "!1") 5 (omega arith), (lawful_mode, (lawful_on, tt))));
  items = lawful_items;
  decisions = All-from_recursion _ [] tt;
  names = global_name;
  not_builtin = All-from_recursion (λ name. Contains builtin_names name → ⊥) (declared_names mission) (not_contained builtin_names (codes "total") refl, (not_contained builtin_names (codes "!1") refl, (not_contained builtin_names (codes "mode") refl, (not_contained builtin_names (codes "on") refl, (not_contained builtin_names (codes "base") refl, (not_contained builtin_names (codes "here") refl, (not_contained builtin_names (codes "there") refl, (not_contained builtin_names (codes "drill") refl, (not_contained builtin_names (codes "sun") refl, (not_contained builtin_names (codes "work") refl, (not_contained builtin_names (codes "spirit") refl, (not_contained builtin_names (codes "twin") refl, (not_contained builtin_names (codes "arm") refl, (not_contained builtin_names (codes "cell") refl, (not_contained builtin_names (codes "Mode") refl, (not_contained builtin_names (codes "slow") refl, (not_contained builtin_names (codes "fast") refl, tt)))))))))))))))));
  distinct = differing (file_names mission) refl;
}

pub lawful_mission : {E : Type 0} (result : Result Model E) → IfOk result (λ model. model ≡ mission) → IfOk result IsLawful
lawful_mission (Ok model) is = subst IsLawful (sym is) mission_is_lawful
lawful_mission (Err fault) is = tt

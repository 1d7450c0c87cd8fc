-- All predicates of a table are lawful, and those of one class have different names.
use Rattle.std.proofs.Common.{◌≡◌, ◌≢◌, ℕ, suc, ◌+◌, ◌<◌, ◌≤◌, List, [], ◌∷◌, ◌++◌, length, get_or, refl, sym, ◌∙◌, ap, subst, arith}
use Rattle.std.specs.Prelude.{Some, All, AllPairs, Contains, slice_get, codes}
use Rattle.std.specs.List.{flat_map}
use Rattle.std.proofs.lemmas.List.{get_or-map, length-map}
use Rattle.std.proofs.lemmas.List.Elements.{All-nil, All-cons, All-append}
use Rattle.std.proofs.lemmas.List.Kept.{AllPairs-cons}
use Rattle.model_core.specs.declared.class.Class.{Class}
use Rattle.model_core.specs.declared.class.Pred.{Pred}
use Rattle.model_core.specs.declared.class.PredKind.{PredKind}
use Rattle.model_core.specs.declared.class.PredKind.TheVariants as uses
use Rattle.model_core.specs.declared.model.Model.{Model}
use Rattle.model_core.specs.Kinds.{IsParentClass, IsUnder}
use Rattle.model_core.specs.Lawful.{IsLawfulPred}
use Rattle.model_core.specs.Naming.{names_of}
use Rattle.model_core.proofs.Items.{item_all, item_at}
use Rattle.model_core.proofs.Words.{differing, not_contained, plain_name}
use Rattle.nddl_ast.specs.declared.declaration.Decl.{Decl}
use Rattle.nddl_ast.specs.declared.declaration.FileDecls.{FileDecls}
use Rattle.nddl_symbols.specs.declared.scope.Meaning.TheVariants as meanings
use Rattle.nddl_symbols.specs.Names.{scope_names}
use Rattle.nddl_hierarchy.specs.Facts.{Facts}
use Rattle.nddl_declarations.specs.Known.{AreFacts}
use Rattle.nddl_declarations.specs.Faults.{all_faults}
use Rattle.nddl_types.specs.Classes.{builtin_class, class_entries, class_number, classes_of, enums_of, line_down}
use Rattle.nddl_types.specs.Predicates.{builtin_pred, builtin_preds, class_preds, preds_at, preds_of}
use Rattle.nddl_types.specs.declared.table.TypeTable.{TypeTable}
use Rattle.nddl_laws.specs.Tables.{HasTable}
use Rattle.nddl_laws.proofs.Apart.{AreOnce, once_pairs, predicates_once}
use Rattle.nddl_laws.proofs.Classed.{entry_class, number_of, own_there}
use Rattle.nddl_laws.proofs.Declared.{IsRightDecl, right_decls}
use Rattle.nddl_laws.proofs.Items.{class_items, items_apart}
use Rattle.nddl_laws.proofs.Lists.{all_flat}
use Rattle.nddl_laws.proofs.Members.{pred_names, pred_names_line}
use Rattle.nddl_laws.proofs.Preds.{IsRightPred, builtin_right, class_lawful, of_line, pred_lawful}
use Rattle.nddl_laws.proofs.Circles.{no_circles}

-- ---- pairs

pairs_append : {X : Type 0} (R : X → X → Type 0) (xs ys : List X) → AllPairs R xs → AllPairs R ys → All (λ x. All (R x) ys) xs → AllPairs R (xs ++ ys)
pairs_append R [] ys one other cross = other
pairs_append R (x ∷ xs) ys one other cross =
    AllPairs-cons R x (xs ++ ys)
    (All-append (R x) xs ys (λ k d within. one 0 (suc k) d (omega arith) (omega arith)) (cross 0 x (omega arith)))
    (pairs_append R xs ys (λ i j d before within. one (suc i) (suc j) d (omega arith) (omega arith)) other (λ k d within. cross (suc k) d (omega arith)))

-- two predicates of one class have different names
abbrev pub DifferInClass : Pred → Pred → Type 0
DifferInClass one other = one.class ≡ other.class → one.name ≢ other.name

named_pairs : (some : List Pred) → AllPairs ◌≢◌ (pred_names some) → AllPairs DifferInClass some
named_pairs some pairs = λ i j d before within class same.
    let first : i < length some = omega arith in
    let long = length-map some (λ (pred : Pred). pred.name) in
    pairs i j d.name before (omega arith)
    (get_or-map (λ (pred : Pred). pred.name) some i d d.name first ∙ (same ∙ sym (get_or-map (λ (pred : Pred). pred.name) some j d d.name within)))

-- predicates of classes before this number and of this one or later ones
apart_classes : (number : ℕ) (xs ys : List Pred) → All (λ (pred : Pred). pred.class < number) xs → All (λ (pred : Pred). number ≤ pred.class) ys
    → All (λ x. All (DifferInClass x) ys) xs
apart_classes number xs ys low high = λ i d inside j e within class.
    let less : (get_or xs i d).class < number = low i d inside in
    let more : number ≤ (get_or ys j e).class = high j e within in
    absurd (omega arith)

module _ (facts : Facts) (are : AreFacts (scope_names facts.program) facts.program facts) (fine : all_faults facts ≡ [])
    (right : All (IsRightDecl facts) facts.program) (model : Model) (same_enums : model.enums ≡ enums_of facts.program)
    (same : model.classes ≡ classes_of facts (enums_of facts.program))
    (no_return : (number parent : ℕ) → IsParentClass model number parent → IsUnder model parent number → ⊥) where
  abbrev entries : List ℕ
  entries = class_entries facts.names 0 facts.names

  abbrev Lawful : Pred → Type 0
  Lawful pred = (number : ℕ) → IsLawfulPred model number pred

  -- ---- each is lawful

  builtin_lawful : (class : ℕ) (name : List ℕ) (kind : PredKind) (found : Class) → IsRightPred model (builtin_pred class name kind)
      → slice_get model.classes class ≡ Some found → (Contains (names_of found.fields) name → ⊥) → Lawful (builtin_pred class name kind)
  builtin_lawful class name kind found is there free number =
      pred_lawful facts are fine right model same_enums number (builtin_pred class name kind) found is there free

  abbrev reusable : Class
  reusable = builtin_class (codes "Reusable") (Some 0) 2

  abbrev reservoir : Class
  reservoir = builtin_class (codes "Reservoir") (Some 0) 3

  abbrev levels : List (List ℕ)
  levels = codes "initial" ∷ codes "low" ∷ codes "high" ∷ []

  two_lawful : All Lawful (builtin_preds 2 2)
  two_lawful =
      All-cons Lawful (builtin_pred 2 (codes "uses") uses.Uses) []
      (builtin_lawful 2 (codes "uses") uses.Uses reusable (builtin_right model 2 (codes "uses") uses.Uses (plain_name (codes "uses") refl))
      (ap (λ some. slice_get some 2) same) (not_contained (codes "capacity" ∷ []) (codes "uses") refl))
      (All-nil Lawful)

  three_lawful : All Lawful (builtin_preds 3 3)
  three_lawful =
      let there = ap (λ some. slice_get some 3) same in
      All-cons Lawful (builtin_pred 3 (codes "produce") uses.Produce) (builtin_pred 3 (codes "consume") uses.Consume ∷ [])
      (builtin_lawful 3 (codes "produce") uses.Produce reservoir (builtin_right model 3 (codes "produce") uses.Produce (plain_name (codes "produce") refl))
      there (not_contained levels (codes "produce") refl))
      (All-cons Lawful (builtin_pred 3 (codes "consume") uses.Consume) []
      (builtin_lawful 3 (codes "consume") uses.Consume reservoir (builtin_right model 3 (codes "consume") uses.Consume (plain_name (codes "consume") refl))
      there (not_contained levels (codes "consume") refl))
      (All-nil Lawful))

  own_lawful : All Lawful (flat_map (class_preds facts (enums_of facts.program)) entries)
  own_lawful =
      all_flat Lawful (class_preds facts (enums_of facts.program)) entries (λ k d within.
      class_lawful facts are fine right model same_enums same
      (own_there facts are fine right model same_enums same no_return) (entry_class facts are fine right model same_enums same no_return)
      (number_of facts are fine right model same_enums same no_return) k (get_or entries k d) (item_at entries k d within))

  pub all_lawful : All Lawful (preds_of facts (enums_of facts.program))
  all_lawful =
      All-append Lawful (builtin_preds 2 2) (builtin_preds 3 3 ++ flat_map (class_preds facts (enums_of facts.program)) entries) two_lawful
      (All-append Lawful (builtin_preds 3 3) (flat_map (class_preds facts (enums_of facts.program)) entries) three_lawful own_lawful)

  -- ---- names

  class_pairs : (entry place : ℕ) → slice_get entries place ≡ Some entry → AllPairs DifferInClass (class_preds facts (enums_of facts.program) entry)
  class_pairs entry place at =
      let class = class_number facts.names (meanings.Entry entry) in
      let preds = flat_map (preds_at facts (enums_of facts.program) class) (line_down facts entry) in
      let is = entry_class facts are fine right model same_enums same no_return place entry at in
      let once = predicates_once (class_items facts entry) (items_apart facts are fine right entry is) in
      named_pairs preds (once_pairs (pred_names preds) (subst AreOnce (sym (pred_names_line facts (enums_of facts.program) class (line_down facts entry))) once))

  class_of : (entry place : ℕ) → slice_get entries place ≡ Some entry → All (λ (pred : Pred). pred.class ≡ 4 + place) (class_preds facts (enums_of facts.program) entry)
  class_of entry place at = λ k d within.
      of_line facts are fine right model same_enums (class_number facts.names (meanings.Entry entry)) (line_down facts entry) k d within
      ∙ number_of facts are fine right model same_enums same no_return place entry at

  abbrev StandFrom : ℕ → List ℕ → Type 0
  StandFrom from some = (offset entry : ℕ) → slice_get some offset ≡ Some entry → slice_get entries (from + offset) ≡ Some entry

  later : (from here : ℕ) (more : List ℕ) → StandFrom from (here ∷ more) → StandFrom (from + 1) more
  later from here more stand offset entry at =
      let e : from + suc offset ≡ from + 1 + offset = omega arith in
      sym (ap (slice_get entries) e) ∙ stand (suc offset) entry at

  first_at : (from here : ℕ) (more : List ℕ) → StandFrom from (here ∷ more) → slice_get entries from ≡ Some here
  first_at from here more stand = let e : from + 0 ≡ from = omega arith in sym (ap (slice_get entries) e) ∙ stand 0 here refl

  from_on : (from : ℕ) (some : List ℕ) → StandFrom from some → All (λ (pred : Pred). 4 + from ≤ pred.class) (flat_map (class_preds facts (enums_of facts.program)) some)
  from_on from [] stand = All-nil (λ (pred : Pred). 4 + from ≤ pred.class)
  from_on from (here ∷ more) stand =
      let rest = from_on (from + 1) more (later from here more stand) in
      let own = class_of here from (first_at from here more stand) in
      All-append (λ (pred : Pred). 4 + from ≤ pred.class) (class_preds facts (enums_of facts.program) here) (flat_map (class_preds facts (enums_of facts.program)) more)
      (λ k d within. let e : (get_or (class_preds facts (enums_of facts.program) here) k d).class ≡ 4 + from = own k d within in omega arith)
      (λ k d within.
      let e : 4 + (from + 1) ≤ (get_or (flat_map (class_preds facts (enums_of facts.program)) more) k d).class = rest k d within in omega arith)

  pairs_from : (from : ℕ) (some : List ℕ) → StandFrom from some → AllPairs DifferInClass (flat_map (class_preds facts (enums_of facts.program)) some)
  pairs_from from [] stand = λ i j d before within. absurd (omega arith)
  pairs_from from (here ∷ more) stand =
      let at = first_at from here more stand in
      let preds = class_preds facts (enums_of facts.program) here in
      let rest = flat_map (class_preds facts (enums_of facts.program)) more in
      let own = class_of here from at in
      pairs_append DifferInClass preds rest (class_pairs here from at) (pairs_from (from + 1) more (later from here more stand))
      (apart_classes (4 + (from + 1)) preds rest
      (λ k d within. let e : (get_or preds k d).class ≡ 4 + from = own k d within in omega arith)
      (from_on (from + 1) more (later from here more stand)))

  two_differ : AllPairs DifferInClass (builtin_preds 2 2)
  two_differ = λ i j d before within. absurd (omega arith)

  three_differ : AllPairs DifferInClass (builtin_preds 3 3)
  three_differ =
      named_pairs (builtin_preds 3 3) (differing (codes "produce" ∷ codes "consume" ∷ []) refl)

  pub all_differ : AllPairs DifferInClass (preds_of facts (enums_of facts.program))
  all_differ =
      let own = flat_map (class_preds facts (enums_of facts.program)) entries in
      let whole : StandFrom 0 entries = λ offset entry at. let e : offset ≡ 0 + offset = omega arith in sym (ap (slice_get entries) e) ∙ at in
      let high = from_on 0 entries whole in
      let three = pairs_append DifferInClass (builtin_preds 3 3) own three_differ (pairs_from 0 entries whole)
      (apart_classes 4 (builtin_preds 3 3) own (All-cons (λ (pred : Pred). pred.class < 4) (builtin_pred 3 (codes "produce") uses.Produce) (builtin_pred 3 (codes "consume") uses.Consume ∷ []) (omega arith)
      (All-cons (λ (pred : Pred). pred.class < 4) (builtin_pred 3 (codes "consume") uses.Consume) [] (omega arith) (All-nil (λ (pred : Pred). pred.class < 4)))) high) in
      pairs_append DifferInClass (builtin_preds 2 2) (builtin_preds 3 3 ++ own) two_differ three
      (apart_classes 3 (builtin_preds 2 2) (builtin_preds 3 3 ++ own)
      (All-cons (λ (pred : Pred). pred.class < 3) (builtin_pred 2 (codes "uses") uses.Uses) [] (omega arith) (All-nil (λ (pred : Pred). pred.class < 3)))
      (All-append (λ (pred : Pred). 3 ≤ pred.class) (builtin_preds 3 3) own
      (All-cons (λ (pred : Pred). 3 ≤ pred.class) (builtin_pred 3 (codes "produce") uses.Produce) (builtin_pred 3 (codes "consume") uses.Consume ∷ []) (omega arith)
      (All-cons (λ (pred : Pred). 3 ≤ pred.class) (builtin_pred 3 (codes "consume") uses.Consume) [] (omega arith) (All-nil (λ (pred : Pred). 3 ≤ pred.class))))
      (λ k d within. let e : 4 + 0 ≤ (get_or own k d).class = high k d within in omega arith)))

-- ---- of a table

module _ (files : List FileDecls) (table : TypeTable) (model : Model) (has : HasTable files table model) where
  facts_are : AreFacts (scope_names has.is_table.facts.program) has.is_table.facts.program has.is_table.facts
  facts_are =
      let P : List Decl → Type 0 = λ program. AreFacts (scope_names program) program has.is_table.facts in
      subst P (sym has.is_table.are.is_program) has.is_table.are

  enums_same : model.enums ≡ enums_of has.is_table.facts.program
  enums_same = has.enums ∙ has.is_table.entries.enums_are

  classes_same : model.classes ≡ classes_of has.is_table.facts (enums_of has.is_table.facts.program)
  classes_same = has.classes ∙ (has.is_table.entries.others.classes_are ∙ ap (classes_of has.is_table.facts) has.is_table.entries.enums_are)

  preds_same : model.preds ≡ preds_of has.is_table.facts (enums_of has.is_table.facts.program)
  preds_same = has.preds ∙ (has.is_table.entries.others.preds_are ∙ ap (preds_of has.is_table.facts) has.is_table.entries.enums_are)

  -- the predicates of a table are lawful
  pub lawful_preds : (number : ℕ) (pred : Pred) → slice_get model.preds number ≡ Some pred → IsLawfulPred model number pred
  lawful_preds number pred is =
      let facts = has.is_table.facts in
      let all = all_lawful facts facts_are has.is_table.fine (right_decls files table has.is_table has.given) model enums_same classes_same
      (no_circles files table model has.is_table has.classes) in
      item_all (λ (one : Pred). (n : ℕ) → IsLawfulPred model n one) (preds_of facts (enums_of facts.program)) number pred all
      (sym (ap (λ some. slice_get some number) preds_same) ∙ is) number

  -- and those of one class have different names
  pub differing_preds : AllPairs DifferInClass model.preds
  differing_preds =
      let facts = has.is_table.facts in
      subst (AllPairs DifferInClass) (sym preds_same)
      (all_differ facts facts_are has.is_table.fine (right_decls files table has.is_table has.given) model enums_same classes_same
      (no_circles files table model has.is_table has.classes))

-- The predicates of a table are lawful.
use Rattle.std.proofs.Common.{◌≡◌, ◌≢◌, ℕ, ◌+◌, ◌≤◌, ◌==◌, Bool, true, false, List, [], ◌∷◌, ◌++◌, length, get_or, map, pos, refl, sym, ◌∙◌, ap, subst, arith}
use Rattle.std.specs.Prelude.{Option, Some, None, All, AllPairs, Contains, slice_get, codes, nat_lt, is_some, if◌then◌else◌}
use Rattle.std.specs.List.{AllByRecursion, AllZip, filter_map, flat_map}
use Rattle.std.proofs.lemmas.List.{length-map}
use Rattle.std.proofs.lemmas.List.Elements.{All-nil, All-cons, All-append, All-contains, All-weaker, All-from_recursion}
use Rattle.std.proofs.lemmas.Option.{same_Some, none-some}
use Rattle.eu_name.specs.Word.{IsName}
use Rattle.model_core.specs.declared.class.Class.{Class}
use Rattle.model_core.specs.declared.class.Pred.{Pred}
use Rattle.model_core.specs.declared.class.PredKind.{PredKind}
use Rattle.model_core.specs.declared.class.PredKind.TheVariants as uses
use Rattle.model_core.specs.declared.model.Model.{Model}
use Rattle.model_core.specs.declared.rule.Rule.{Rule}
use Rattle.model_core.specs.declared.variable.VarDecl.{VarDecl}
use Rattle.model_core.specs.Lawful.{HasQuantity, IsLawfulEnum, IsLawfulPred, IsLawfulRule, IsLawfulVariable, quantity}
use Rattle.model_core.specs.Naming.{IsParameterName, names_of, token_part_words}
use Rattle.model_core.proofs.Words.{differing, not_contained, plain_name}
use Rattle.nddl_ast.specs.declared.declaration.Member.{Member}
use Rattle.nddl_ast.specs.declared.declaration.Member.TheVariants as members
use Rattle.nddl_ast.specs.declared.declaration.PredicatePart.{PredicatePart}
use Rattle.nddl_ast.specs.declared.declaration.Typed.{Typed}
use Rattle.nddl_ast.specs.declared.kind.TextKind.TheVariants as faults
use Rattle.nddl_ast.specs.declared.name.Name.{Name}
use Rattle.nddl_symbols.specs.declared.scope.Meaning.{Meaning}
use Rattle.nddl_symbols.specs.declared.scope.Meaning.TheVariants as meanings
use Rattle.nddl_symbols.specs.Finding.{faults_here}
use Rattle.eu_index.specs.Index.{noted_number}
use Rattle.nddl_symbols.specs.Names.{scope_names}
use Rattle.nddl_symbols.specs.Repeats.{repeated_faults}
use Rattle.nddl_symbols.specs.Scope.{fault_if}
use Rattle.nddl_hierarchy.specs.Ancestors.{above}
use Rattle.nddl_hierarchy.specs.Facts.{Facts}
use Rattle.nddl_declarations.specs.Known.{AreFacts, all_type_faults}
use Rattle.nddl_hierarchy.specs.Decls.{members_of}
use Rattle.nddl_hierarchy.specs.Inherited.{words_noted}
use Rattle.nddl_hierarchy.proofs.Noting.{IsNoted, words_there}
use Rattle.nddl_declarations.specs.Members.{parameters_of, typed_faults, typed_names}
use Rattle.nddl_declarations.specs.Declares.{variables_of}
use Rattle.nddl_declarations.specs.Faults.{all_faults}
use Rattle.nddl_types.specs.Classes.{class_entries, class_fields, class_number, classes_of, compiled_class, enums_of, line_down}
use Rattle.nddl_types.specs.Predicates.{builtin_pred, builtin_preds, class_preds, given_preds, pred_of, preds_at}
use Rattle.nddl_laws.specs.Fine.{IsFineDecl}
use Rattle.nddl_laws.proofs.Apart.{all_mapped, field_name, none_both, once_pairs}
use Rattle.nddl_laws.proofs.Declared.{IsRightDecl, enums_right}
use Rattle.nddl_laws.proofs.Items.{class_items, items_apart}
use Rattle.nddl_laws.proofs.Lists.{all_flat, all_kept, none_flat}
use Rattle.nddl_laws.proofs.Members.{IsRightAt, fields_names, members_right, pred_names, pred_names_line}
use Rattle.nddl_laws.proofs.Noted.{are_new}
use Rattle.nddl_laws.proofs.Standing.{IsClassEntry}
use Rattle.nddl_laws.proofs.Classed.{variables_words}
use Rattle.nddl_laws.proofs.Values.{no_fault, not_so}
use Rattle.nddl_laws.proofs.Variables.{fine_parameters, number_right, quantity_ends, variables_right}
use Rattle.nddl_laws.proofs.WholeTypes.{names_kept}
use Rattle.nddl_laws.proofs.Nothing.{none_first, none_second}

-- what is lawful of a predicate whatever its class is
pub record IsRightPred (model : Model) (pred : Pred) : Type 0 where
  pub name : IsName pred.name
  pub params : All (IsLawfulVariable model) pred.params
  pub few_params : length pred.params ≤ 32
  pub names : All IsParameterName (names_of pred.params)
  pub distinct : AllPairs ◌≢◌ (names_of pred.params)
  pub quantity : HasQuantity pred.kind pred.params
  pub no_rules : pred.rules ≡ []

-- ---- built-in predicates

quantity_name : IsParameterName (codes "quantity")
quantity_name = (plain_name (codes "quantity") refl, not_contained token_part_words (codes "quantity") refl)

quantities : (kind : PredKind) → HasQuantity kind (quantity ∷ [])
quantities uses.Plain = tt
quantities uses.Uses = refl
quantities uses.Produce = refl
quantities uses.Consume = refl

pub builtin_right : (model : Model) (class : ℕ) (name : List ℕ) (kind : PredKind) → IsName name → IsRightPred model (builtin_pred class name kind)
builtin_right model class name kind named = record {
  name = named;
  params = All-cons (IsLawfulVariable model) quantity [] (number_right model (codes "quantity") (pos 0) (pos 1000000) quantity_ends) (All-nil (IsLawfulVariable model));
  few_params = omega arith;
  names = All-cons IsParameterName (codes "quantity") [] quantity_name (All-nil IsParameterName);
  distinct = differing (codes "quantity" ∷ []) refl;
  quantity = quantities kind;
  no_rules = refl;
}

-- what holds of each built-in predicate that may be of a class
pub all_builtin : (P : Pred → Type 0) (class number : ℕ) → P (builtin_pred class (codes "uses") uses.Uses)
    → P (builtin_pred class (codes "produce") uses.Produce) → P (builtin_pred class (codes "consume") uses.Consume) → All P (builtin_preds class number)
all_builtin P class number using making taking = by (number == 2) (number == 3)
  where
    by : (two three : Bool)
        → All P (if two then builtin_pred class (codes "uses") uses.Uses ∷ []
        else (if three then builtin_pred class (codes "produce") uses.Produce ∷ builtin_pred class (codes "consume") uses.Consume ∷ [] else []))
    by true three = All-cons P (builtin_pred class (codes "uses") uses.Uses) [] using (All-nil P)
    by false true =
        All-cons P (builtin_pred class (codes "produce") uses.Produce) (builtin_pred class (codes "consume") uses.Consume ∷ []) making
        (All-cons P (builtin_pred class (codes "consume") uses.Consume) [] taking (All-nil P))
    by false false = All-nil P

builtins_right : (model : Model) (class number : ℕ) → All (IsRightPred model) (builtin_preds class number)
builtins_right model class number =
    all_builtin (IsRightPred model) class number
    (builtin_right model class (codes "uses") uses.Uses (plain_name (codes "uses") refl))
    (builtin_right model class (codes "produce") uses.Produce (plain_name (codes "produce") refl))
    (builtin_right model class (codes "consume") uses.Consume (plain_name (codes "consume") refl))

given_right : (model : Model) (class : ℕ) (o : Option Meaning) → All (IsRightPred model) (given_preds class o)
given_right model class None = All-nil (IsRightPred model)
given_right model class (Some (meanings.BuiltIn number)) = builtins_right model class number
given_right model class (Some (meanings.Entry entry)) = All-nil (IsRightPred model)

-- ---- declared predicates

most : (m : ℕ) → nat_lt 32 m ≡ false → m ≤ 32
most m is = grind arith

-- parameters aren't called like parts
part_free : (some : List Name) → AllByRecursion (λ (name : Name). is_some (noted_number (words_noted [] token_part_words) name.text) ≡ false) some
    → AllByRecursion (λ word. Contains token_part_words word → ⊥) (map (λ (name : Name). name.text) some)
part_free [] all = tt
part_free (name ∷ more) all = (
  λ has.
      let N : List ℕ → Type 0 = λ word. IsNoted (words_noted [] token_part_words) word in
      let told : N name.text = All-contains N token_part_words name.text (All-from_recursion N token_part_words (words_there [] token_part_words)) has in
      let e : true ≡ false = sym told ∙ all.0 in cc,
  part_free more all.1,
)

texts_of : (some : List Typed) → map (λ (name : Name). name.text) (typed_names some) ≡ map (λ (typed : Typed). typed.name.text) some
texts_of [] = refl
texts_of (typed ∷ more) = ap (λ rest. typed.name.text ∷ rest) (texts_of more)

module _ (facts : Facts) (are : AreFacts (scope_names facts.program) facts.program facts) (fine : all_faults facts ≡ [])
    (right : All (IsRightDecl facts) facts.program) (model : Model) (same_enums : model.enums ≡ enums_of facts.program) where
  all_fine : All IsFineDecl facts.program
  all_fine = All-weaker (IsRightDecl facts) IsFineDecl (λ decl is. is.fine) facts.program right

  lawful : All IsLawfulEnum (enums_of facts.program)
  lawful = enums_right facts facts.program right

  declared_right : (class number at : ℕ) (name : Name) (some : List PredicatePart) → IsRightAt facts number (members.Predicate at name some)
      → IsRightPred model (record { class = class; name = name.text; params = variables_of facts (enums_of facts.program) (parameters_of some); kind = uses.Plain; rules = [] })
  declared_right class number at name some is =
      let params = parameters_of some in
      let one = typed_faults facts number params in
      let two = repeated_faults number (words_noted [] token_part_words) (typed_names params) in
      let three = faults_here number name.at (fault_if (nat_lt 32 (length params)) faults.LimitParameters) in
      let rest : two ++ three ≡ [] = none_second one (two ++ three) is.1 in
      let types = none_flat (λ (typed : Typed). all_type_faults facts number typed.declared) params (none_first one (two ++ three) is.1) in
      let new = are_new number (words_noted [] token_part_words) (typed_names params) (none_first two three rest) in
      let limited = not_so (nat_lt 32 (length params)) faults.LimitParameters
      (no_fault number name.at (fault_if (nat_lt 32 (length params)) faults.LimitParameters) (none_second two three rest)) in
      let kept = names_kept facts are fine right (enums_of facts.program) number params types in
      let texts : names_of (variables_of facts (enums_of facts.program) params) ≡ map (λ (name : Name). name.text) (typed_names params) = kept ∙ sym (texts_of params) in
      let fine_params = fine_parameters some is.0.1 in
      let words = variables_words facts (enums_of facts.program) params fine_params in
      let free : All (λ word. Contains token_part_words word → ⊥) (names_of (variables_of facts (enums_of facts.program) params)) =
      All-from_recursion (λ word. Contains token_part_words word → ⊥) (names_of (variables_of facts (enums_of facts.program) params))
      (subst (AllByRecursion (λ word. Contains token_part_words word → ⊥)) (sym texts) (part_free (typed_names params) new.new)) in
      let long : length (variables_of facts (enums_of facts.program) params) ≡ length params =
      sym (length-map (variables_of facts (enums_of facts.program) params) (λ (variable : VarDecl). variable.name))
      ∙ (ap length kept ∙ length-map params (λ (typed : Typed). typed.name.text)) in
      let few : length params ≤ 32 = most (length params) limited in
      record {
        name = is.0.0;
        params = variables_right facts are all_fine lawful model same_enums params fine_params;
        few_params = omega arith;
        names = λ k d within. (words k d within, free k d within);
        distinct = subst (AllPairs ◌≢◌) (sym texts) (once_pairs (map (λ (name : Name). name.text) (typed_names params)) new.once);
        quantity = tt;
        no_rules = refl;
      }

  member_right : (class number : ℕ) (member : Member) (pred : Pred) → IsRightAt facts number member → pred_of facts (enums_of facts.program) class member ≡ Some pred
      → IsRightPred model pred
  member_right class number (members.Predicate at name some) pred is told =
      subst (IsRightPred model)
      (same_Some (record { class = class; name = name.text; params = variables_of facts (enums_of facts.program) (parameters_of some); kind = uses.Plain; rules = [] }) pred told)
      (declared_right class number at name some is)
  member_right class number (members.Field typed) pred is told = absurd (none-some pred told)
  member_right class number (members.Constructor name formals sets) pred is told = absurd (none-some pred told)

  right_at : (class entry : ℕ) → All (IsRightPred model) (preds_at facts (enums_of facts.program) class entry)
  right_at class entry =
      let some = members_of facts.names facts.program entry in
      let is = members_right facts right entry in
      All-append (IsRightPred model) (given_preds class (above facts.names facts.program entry)) (filter_map (pred_of facts (enums_of facts.program) class) some)
      (given_right model class (above facts.names facts.program entry))
      (all_kept (IsRightPred model) (pred_of facts (enums_of facts.program) class) some
      (All-weaker (IsRightAt facts is.number) (λ member. (pred : Pred) → pred_of facts (enums_of facts.program) class member ≡ Some pred → IsRightPred model pred)
      (λ member one pred told. member_right class is.number member pred one told) some is.each))

  -- whatever their class, the predicates of a line are right
  right_line : (class : ℕ) (line : List ℕ) → All (IsRightPred model) (flat_map (preds_at facts (enums_of facts.program) class) line)
  right_line class line =
      all_flat (IsRightPred model) (preds_at facts (enums_of facts.program) class) line (λ k d within. right_at class (get_or line k d))

  -- and of this class
  of_given : (class : ℕ) (o : Option Meaning) → All (λ (pred : Pred). pred.class ≡ class) (given_preds class o)
  of_given class None = All-nil (λ (pred : Pred). pred.class ≡ class)
  of_given class (Some (meanings.BuiltIn number)) = all_builtin (λ (pred : Pred). pred.class ≡ class) class number refl refl refl
  of_given class (Some (meanings.Entry entry)) = All-nil (λ (pred : Pred). pred.class ≡ class)

  of_member : (class : ℕ) (member : Member) (pred : Pred) → pred_of facts (enums_of facts.program) class member ≡ Some pred → pred.class ≡ class
  of_member class (members.Predicate at name some) pred told =
      ap (λ (p : Pred). p.class)
      (sym (same_Some (record { class = class; name = name.text; params = variables_of facts (enums_of facts.program) (parameters_of some); kind = uses.Plain; rules = [] }) pred told))
  of_member class (members.Field typed) pred told = absurd (none-some pred told)
  of_member class (members.Constructor name formals sets) pred told = absurd (none-some pred told)

  pub of_line : (class : ℕ) (line : List ℕ) → All (λ (pred : Pred). pred.class ≡ class) (flat_map (preds_at facts (enums_of facts.program) class) line)
  of_line class line =
      all_flat (λ (pred : Pred). pred.class ≡ class) (preds_at facts (enums_of facts.program) class) line (λ k d within.
      let entry = get_or line k d in
      let some = members_of facts.names facts.program entry in
      All-append (λ (pred : Pred). pred.class ≡ class) (given_preds class (above facts.names facts.program entry)) (filter_map (pred_of facts (enums_of facts.program) class) some)
      (of_given class (above facts.names facts.program entry))
      (all_kept (λ (pred : Pred). pred.class ≡ class) (pred_of facts (enums_of facts.program) class) some
      (λ j e inside pred told. of_member class (get_or some j e) pred told)))

  -- ---- with their classes

  pub pred_lawful : (number : ℕ) (pred : Pred) (class : Class) → IsRightPred model pred → slice_get model.classes pred.class ≡ Some class
      → (Contains (names_of class.fields) pred.name → ⊥) → IsLawfulPred model number pred
  pred_lawful number pred class is there free = record {
    name = is.name;
    class = class;
    is_class = there;
    no_field = free;
    params = is.params;
    few_params = is.few_params;
    names = is.names;
    distinct = is.distinct;
    quantity = is.quantity;
    rules = [];
    are_rules = subst (λ rules. AllZip (λ place (rule : Rule). slice_get model.rules place ≡ Some rule) rules []) (sym is.no_rules) tt;
    few = record { rules = omega arith; slots = omega arith; locals = omega arith; items = omega arith; guards = omega arith };
    lawful = All-nil (IsLawfulRule model number);
  }

  abbrev Lawful : Pred → Type 0
  Lawful pred = (number : ℕ) → IsLawfulPred model number pred

  -- those of a class of the files
  module _ (same : model.classes ≡ classes_of facts (enums_of facts.program))
      (own_there : (place entry : ℕ) → slice_get (class_entries facts.names 0 facts.names) place ≡ Some entry
      → slice_get model.classes (4 + place) ≡ Some (compiled_class facts (enums_of facts.program) entry))
      (entry_class : (place entry : ℕ) → slice_get (class_entries facts.names 0 facts.names) place ≡ Some entry → IsClassEntry facts.names entry)
      (number_of : (place entry : ℕ) → slice_get (class_entries facts.names 0 facts.names) place ≡ Some entry → class_number facts.names (meanings.Entry entry) ≡ 4 + place) where
    free_of : (entry : ℕ) → IsClassEntry facts.names entry → (class : ℕ)
        → All (λ (pred : Pred). AllByRecursion (λ field. field ≢ pred.name) (names_of (class_fields facts (enums_of facts.program) entry)))
        (flat_map (preds_at facts (enums_of facts.program) class) (line_down facts entry))
    free_of entry is class =
        let F : List ℕ → Type 0 = λ word. AllByRecursion (λ field. field ≢ word) (names_of (class_fields facts (enums_of facts.program) entry)) in
        let preds = flat_map (preds_at facts (enums_of facts.program) class) (line_down facts entry) in
        let P : List (List ℕ) → List (List ℕ) → Type 0 = λ fields words. AllByRecursion (λ word. AllByRecursion (λ field. field ≢ word) fields) words in
        let items = none_both (class_items facts entry) (items_apart facts are fine right entry is) in
        let fields = fields_names facts are fine right (enums_of facts.program) entry in
        let words = pred_names_line facts (enums_of facts.program) class (line_down facts entry) in
        let both : P (names_of (class_fields facts (enums_of facts.program) entry)) (pred_names preds) =
        subst (λ some. P some (pred_names preds)) (sym fields) (subst (P (filter_map field_name (class_items facts entry))) (sym words) items) in
        All-from_recursion (λ (pred : Pred). F pred.name) preds (all_mapped F (λ (pred : Pred). pred.name) preds both)

    pub class_lawful : (place entry : ℕ) → slice_get (class_entries facts.names 0 facts.names) place ≡ Some entry → All Lawful (class_preds facts (enums_of facts.program) entry)
    class_lawful place entry at = λ k d within number.
        let is = entry_class place entry at in
        let class = class_number facts.names (meanings.Entry entry) in
        let preds = flat_map (preds_at facts (enums_of facts.program) class) (line_down facts entry) in
        let pred = get_or preds k d in
        let there : slice_get model.classes pred.class ≡ Some (compiled_class facts (enums_of facts.program) entry) =
        ap (slice_get model.classes) (of_line class (line_down facts entry) k d within ∙ number_of place entry at) ∙ own_there place entry at in
        let free = free_of entry is class k d within in
        pred_lawful number pred (compiled_class facts (enums_of facts.program) entry) (right_line class (line_down facts entry) k d within) there
        (λ has. All-contains (λ field. field ≢ pred.name) (names_of (class_fields facts (enums_of facts.program) entry)) pred.name
        (All-from_recursion (λ field. field ≢ pred.name) (names_of (class_fields facts (enums_of facts.program) entry)) free) has refl)

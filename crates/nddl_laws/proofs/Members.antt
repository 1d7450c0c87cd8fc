-- What is right of the members of a class, and which names its fields and predicates have.
use Rattle.std.proofs.Common.{◌≡◌, ℕ, ◌==◌, Bool, true, false, List, [], ◌∷◌, ◌++◌, map, refl, sym, ◌∙◌, ap, subst}
use Rattle.std.specs.Prelude.{Option, Some, None, All, slice_get, codes, if◌then◌else◌}
use Rattle.std.specs.List.{filter_map, flat_map}
use Rattle.std.specs.Option.{option_and_then, option_map_or}
use Rattle.std.proofs.lemmas.List.{map-append}
use Rattle.std.proofs.lemmas.List.Elements.{All-nil, All-weaker, filter_map-append}
use Rattle.std.proofs.lemmas.Option.{same_Some, none-some}
use Rattle.model_core.specs.declared.class.Enum.{Enum}
use Rattle.model_core.specs.declared.class.Pred.{Pred}
use Rattle.model_core.specs.declared.class.PredKind.TheVariants as uses
use Rattle.model_core.specs.declared.variable.VarDecl.{VarDecl}
use Rattle.model_core.specs.Naming.{names_of}
use Rattle.model_core.proofs.Items.{item_all}
use Rattle.nddl_ast.specs.declared.declaration.Decl.{Decl}
use Rattle.nddl_ast.specs.declared.declaration.Decl.TheVariants as decls
use Rattle.nddl_ast.specs.declared.declaration.Member.{Member}
use Rattle.nddl_ast.specs.declared.declaration.Member.TheVariants as members
use Rattle.nddl_ast.specs.declared.declaration.Typed.{Typed}
use Rattle.nddl_symbols.specs.declared.declared.Declared.{Declared}
use Rattle.nddl_symbols.specs.declared.scope.Meaning.{Meaning}
use Rattle.nddl_symbols.specs.declared.scope.Meaning.TheVariants as meanings
use Rattle.nddl_symbols.specs.Names.{scope_names}
use Rattle.nddl_hierarchy.specs.Ancestors.{above}
use Rattle.nddl_hierarchy.specs.Decls.{decl_members, declaration_with_body, members_of}
use Rattle.nddl_hierarchy.specs.Facts.{Facts}
use Rattle.nddl_hierarchy.specs.Members.{member_field}
use Rattle.nddl_declarations.specs.Known.{AreFacts, all_type_faults}
use Rattle.nddl_declarations.specs.Members.{member_faults}
use Rattle.nddl_declarations.specs.Faults.{all_faults}
use Rattle.nddl_types.specs.Classes.{builtin_fields, class_fields, declared_fields, fields_at, given_fields, line_down, whole_field}
use Rattle.nddl_types.specs.Predicates.{builtin_pred, builtin_preds, given_preds, pred_of, preds_at}
use Rattle.nddl_laws.specs.Fine.{IsFineMember}
use Rattle.nddl_laws.proofs.Apart.{field_name, predicate_name}
use Rattle.nddl_laws.proofs.Declared.{IsRightDecl}
use Rattle.nddl_laws.proofs.Items.{builtin_items, class_items, given_items, items_at, member_item}
use Rattle.nddl_laws.proofs.Lists.{all_kept}
use Rattle.nddl_laws.proofs.WholeTypes.{class_right, names_kept}
use Rattle.nddl_laws.proofs.Circles.{body_is}

-- a member of the declaration of this number, with which nothing is wrong
abbrev pub IsRightAt : Facts → ℕ → Member → Type 0
IsRightAt facts number member = IsFineMember member × (member_faults facts number member ≡ [])

-- the members are all of one declaration with which nothing is wrong
pub record AreRight (facts : Facts) (some : List Member) : Type 0 where
  pub number : ℕ
  pub each : All (IsRightAt facts number) some

nothing_right : (facts : Facts) → AreRight facts []
nothing_right facts = record { number = 0; each = All-nil (IsRightAt facts 0) }

decl_right : (facts : Facts) (decl : Decl) → IsRightDecl facts decl → AreRight facts (decl_members decl)
decl_right facts (decls.Class at class parent some) is =
    let it = class_right facts at class parent some is in record { number = it.number; each = it.members }
decl_right facts (decls.Include at file file_at) is = nothing_right facts
decl_right facts (decls.Enum at name members_at some) is = nothing_right facts
decl_right facts (decls.Typedef at declared name) is = nothing_right facts
decl_right facts (decls.Forward at name) is = nothing_right facts
decl_right facts (decls.Rule class predicate body) is = nothing_right facts
decl_right facts (decls.Variable variable) is = nothing_right facts
decl_right facts (decls.Call call) is = nothing_right facts
decl_right facts (decls.Ask ask) is = nothing_right facts

pub members_right : (facts : Facts) → All (IsRightDecl facts) facts.program → (entry : ℕ) → AreRight facts (members_of facts.names facts.program entry)
members_right facts right entry = by (slice_get facts.names entry)
  where
    inner : (declared : Declared) (o : Option Decl) → declaration_with_body facts.names facts.program declared ≡ o → AreRight facts (option_map_or decl_members o [])
    inner declared None body = nothing_right facts
    inner declared (Some decl) body =
        let at = body_is facts.names facts.program declared decl body in
        decl_right facts decl (item_all (IsRightDecl facts) facts.program at.other.place.decl decl right at.at)

    by : (o : Option Declared) → AreRight facts (option_map_or decl_members (option_and_then (declaration_with_body facts.names facts.program) o) [])
    by None = nothing_right facts
    by (Some declared) = inner declared (declaration_with_body facts.names facts.program declared) refl

-- ---- fields

field_none : (facts : Facts) (number : ℕ) (member : Member) (typed : Typed) → IsRightAt facts number member → member_field member ≡ Some typed
    → all_type_faults facts number typed.declared ≡ []
field_none facts number (members.Field typed) other right is =
    let P : Typed → Type 0 = λ t. all_type_faults facts number t.declared ≡ [] in subst P (same_Some typed other is) right.1
field_none facts number member typed right is = absurd (none-some typed is)

field_texts : (some : List Member) → map (λ (typed : Typed). typed.name.text) (filter_map member_field some) ≡ filter_map field_name (filter_map member_item some)
field_texts [] = refl
field_texts (members.Field typed ∷ more) = ap (λ rest. typed.name.text ∷ rest) (field_texts more)
field_texts (members.Predicate at name parts ∷ more) = field_texts more
field_texts (members.Constructor name formals sets ∷ more) = field_texts more

builtin_names : (number : ℕ) → names_of (builtin_fields number) ≡ filter_map field_name (builtin_items number)
builtin_names number = by (number == 2) (number == 3)
  where
    by : (two three : Bool)
        → names_of (if two then whole_field (codes "capacity") ∷ []
        else (if three then whole_field (codes "initial") ∷ whole_field (codes "low") ∷ whole_field (codes "high") ∷ [] else []))
        ≡ filter_map field_name (if two then (true, codes "capacity") ∷ (false, codes "uses") ∷ []
        else (if three
        then (true, codes "initial") ∷ (true, codes "low") ∷ (true, codes "high") ∷ (false, codes "produce") ∷ (false, codes "consume") ∷ []
        else []))
    by true three = refl
    by false true = refl
    by false false = refl

given_names : (o : Option Meaning) → names_of (given_fields o) ≡ filter_map field_name (given_items o)
given_names None = refl
given_names (Some (meanings.BuiltIn number)) = builtin_names number
given_names (Some (meanings.Entry entry)) = refl

module _ (facts : Facts) (are : AreFacts (scope_names facts.program) facts.program facts) (fine : all_faults facts ≡ [])
    (right : All (IsRightDecl facts) facts.program) (enums : List Enum) where
  declared_names : (entry : ℕ)
      → names_of (declared_fields facts enums (members_of facts.names facts.program entry))
      ≡ filter_map field_name (filter_map member_item (members_of facts.names facts.program entry))
  declared_names entry =
      let some = members_of facts.names facts.program entry in
      let is = members_right facts right entry in
      names_kept facts are fine right enums is.number (filter_map member_field some)
      (all_kept (λ (typed : Typed). all_type_faults facts is.number typed.declared ≡ []) member_field some
      (All-weaker (IsRightAt facts is.number) (λ member. (typed : Typed) → member_field member ≡ Some typed → all_type_faults facts is.number typed.declared ≡ [])
      (λ member one typed there. field_none facts is.number member typed one there) some is.each))
      ∙ field_texts some

  names_at : (entry : ℕ) → names_of (fields_at facts enums entry) ≡ filter_map field_name (items_at facts entry)
  names_at entry =
      let given = given_fields (above facts.names facts.program entry) in
      let own = declared_fields facts enums (members_of facts.names facts.program entry) in
      map-append (λ (variable : VarDecl). variable.name) given own
      ∙ ((λ i. given_names (above facts.names facts.program entry) i ++ declared_names entry i)
      ∙ sym (filter_map-append field_name (given_items (above facts.names facts.program entry)) (filter_map member_item (members_of facts.names facts.program entry))))

  names_line : (line : List ℕ) → names_of (flat_map (fields_at facts enums) line) ≡ filter_map field_name (flat_map (items_at facts) line)
  names_line [] = refl
  names_line (entry ∷ more) =
      map-append (λ (variable : VarDecl). variable.name) (fields_at facts enums entry) (flat_map (fields_at facts enums) more)
      ∙ ((λ i. names_at entry i ++ names_line more i)
      ∙ sym (filter_map-append field_name (items_at facts entry) (flat_map (items_at facts) more)))

  -- the names of the fields of a class
  pub fields_names : (entry : ℕ) → names_of (class_fields facts enums entry) ≡ filter_map field_name (class_items facts entry)
  fields_names entry = names_line (line_down facts entry)

-- ---- predicates

abbrev pub pred_names : List Pred → List (List ℕ)
pred_names some = map (λ (pred : Pred). pred.name) some

builtin_pred_names : (class number : ℕ) → pred_names (builtin_preds class number) ≡ filter_map predicate_name (builtin_items number)
builtin_pred_names class number = by (number == 2) (number == 3)
  where
    by : (two three : Bool)
        → pred_names (if two then builtin_pred class (codes "uses") uses.Uses ∷ []
        else (if three then builtin_pred class (codes "produce") uses.Produce ∷ builtin_pred class (codes "consume") uses.Consume ∷ [] else []))
        ≡ filter_map predicate_name (if two then (true, codes "capacity") ∷ (false, codes "uses") ∷ []
        else (if three
        then (true, codes "initial") ∷ (true, codes "low") ∷ (true, codes "high") ∷ (false, codes "produce") ∷ (false, codes "consume") ∷ []
        else []))
    by true three = refl
    by false true = refl
    by false false = refl

given_pred_names : (class : ℕ) (o : Option Meaning) → pred_names (given_preds class o) ≡ filter_map predicate_name (given_items o)
given_pred_names class None = refl
given_pred_names class (Some (meanings.BuiltIn number)) = builtin_pred_names class number
given_pred_names class (Some (meanings.Entry entry)) = refl

module _ (facts : Facts) (enums : List Enum) (class : ℕ) where
  own_pred_names : (some : List Member) → pred_names (filter_map (pred_of facts enums class) some) ≡ filter_map predicate_name (filter_map member_item some)
  own_pred_names [] = refl
  own_pred_names (members.Field typed ∷ more) = own_pred_names more
  own_pred_names (members.Predicate at name parts ∷ more) = ap (λ rest. name.text ∷ rest) (own_pred_names more)
  own_pred_names (members.Constructor name formals sets ∷ more) = own_pred_names more

  pred_names_at : (entry : ℕ) → pred_names (preds_at facts enums class entry) ≡ filter_map predicate_name (items_at facts entry)
  pred_names_at entry =
      let some = members_of facts.names facts.program entry in
      map-append (λ (pred : Pred). pred.name) (given_preds class (above facts.names facts.program entry)) (filter_map (pred_of facts enums class) some)
      ∙ ((λ i. given_pred_names class (above facts.names facts.program entry) i ++ own_pred_names some i)
      ∙ sym (filter_map-append predicate_name (given_items (above facts.names facts.program entry)) (filter_map member_item some)))

  pub pred_names_line : (line : List ℕ) → pred_names (flat_map (preds_at facts enums class) line) ≡ filter_map predicate_name (flat_map (items_at facts) line)
  pred_names_line [] = refl
  pred_names_line (entry ∷ more) =
      map-append (λ (pred : Pred). pred.name) (preds_at facts enums class entry) (flat_map (preds_at facts enums class) more)
      ∙ ((λ i. pred_names_at entry i ++ pred_names_line more i)
      ∙ sym (filter_map-append predicate_name (items_at facts entry) (flat_map (items_at facts) more)))

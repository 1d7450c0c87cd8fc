-- Which predicate a rule is written for, and which predicates have it.
use Rattle.std.proofs.Common.{◌≡◌, ℕ, zero, suc, ◌+◌, Bool, true, false, List, [], ◌∷◌, length, map, refl, sym, ◌∙◌, ap, subst, ◌⊎◌, inl, inr, arith}
use Rattle.std.specs.Prelude.{Option, Some, None, All, slice_get, codes, if◌then◌else◌}
use Rattle.std.specs.Option.{option_and_then, option_map, option_map_or, option_or}
use Rattle.std.specs.Str.{bytes_eq}
use Rattle.std.proofs.lemmas.List.Elements.{All-nil, All-cons, All-push}
use Rattle.std.proofs.lemmas.Option.{same_Some, none-some, slice_get-map}
use Rattle.std.proofs.lemmas.Slice.Eq.{bytes_eq-Decides}
use Rattle.eu_index.specs.Index.{Noted, noted_number, with_noted}
use Rattle.eu_index.proofs.Indexes.{noted_with}
use Rattle.eu_forest.specs.Ancestors.{ancestry, line_from, parent_in}
use Rattle.eu_forest.specs.Members.{list_at}
use Rattle.eu_name.specs.Word.{IsName}
use Rattle.model_core.specs.declared.class.Class.{Class}
use Rattle.model_core.specs.declared.class.Pred.{Pred}
use Rattle.model_core.specs.Naming.{full_name}
use Rattle.nddl_ast.specs.declared.declaration.Decl.{Decl}
use Rattle.nddl_ast.specs.declared.declaration.Decl.TheVariants as decls
use Rattle.nddl_ast.specs.declared.declaration.FileDecls.{FileDecls}
use Rattle.nddl_ast.specs.declared.declaration.Member.{Member}
use Rattle.nddl_ast.specs.declared.declaration.Member.TheVariants as members
use Rattle.nddl_ast.specs.declared.declaration.PredicatePart.{PredicatePart}
use Rattle.nddl_ast.specs.declared.name.Name.{Name}
use Rattle.nddl_ast.specs.Tree.{Braces}
use Rattle.nddl_symbols.specs.declared.scope.Meaning.{Meaning}
use Rattle.nddl_symbols.specs.declared.scope.Meaning.TheVariants as meanings
use Rattle.nddl_symbols.specs.Scope.{meaning_of}
use Rattle.nddl_hierarchy.specs.Ancestors.{above}
use Rattle.nddl_types.specs.declared.table.TypeTable.{TypeTable}
use Rattle.nddl_types.specs.Classes.{builtin_class, class_number, compiled_class, enums_of, parent_number}
use Rattle.nddl_types.specs.Table.{IsTable}
use Rattle.nddl_rules.specs.declared.places.TextPlace.{TextPlace}
use Rattle.nddl_rules.specs.Lists.{with_item_at}
use Rattle.nddl_rules.specs.Written.{class_word, has_constraint, inherited_pred, none_written, noted_preds, pred_above, preds_above, texts_written, with_decl_texts, with_member_text, with_member_texts, with_text, with_texts}
use Rattle.nddl_laws.specs.Given.{AreGiven}
use Rattle.nddl_laws.proofs.Circles.{parents_there}
use Rattle.nddl_laws.proofs.Listed.{lawful_preds}
use Rattle.nddl_laws.proofs.Standing.{IsClassEntry, class_stands, no_parent, under_builtin, under_class}
use Rattle.nddl_rule_laws.proofs.Spelling.{same_parts}
use Rattle.nddl_rule_laws.proofs.Classes.{IsBelow, IsKnown, Extended, are_facts, bare, below_both, below_itself, builtin_extended, class_name, classes_same, entry_extended, entry_place, entry_there, has_table, name_is, step_below}
use Rattle.nddl_rule_laws.proofs.Owners.{HasOwner, IsOwning, owner}

-- ---- predicates by their full names

abbrev pred_word : List Class → Pred → List ℕ
pred_word classes pred = full_name (class_word classes pred.class) pred.name

-- this number, where the first of these predicates has that one, is the one of a predicate of this full name
record IsFrom (classes : List Class) (number : ℕ) (some : List Pred) (name : List ℕ) (found : ℕ) : Type 0 where
  offset : ℕ
  pred : Pred
  is_found : found ≡ number + offset
  there : slice_get some offset ≡ Some pred
  named : name ≡ pred_word classes pred

noted_from : (classes : List Class) (noted : Noted) (number : ℕ) (some : List Pred) (name : List ℕ) (found : ℕ)
    → noted_number (noted_preds classes noted number some) name ≡ Some found
    → (noted_number noted name ≡ Some found) ⊎ IsFrom classes number some name found
noted_from classes noted number [] name found is = inl is
noted_from classes noted number (pred ∷ more) name found is =
    elim (noted_from classes (with_noted noted (pred_word classes pred) number) (number + 1) more name found is) [
      | inl here ↦ by (noted_number noted name) refl (bytes_eq name (pred_word classes pred)) refl
          (sym (noted_with noted (pred_word classes pred) name number) ∙ here)
      | inr later ↦ inr (record {
        offset = suc later.offset;
        pred = later.pred;
        is_found = (let e : found ≡ number + 1 + later.offset = later.is_found in omega arith);
        there = later.there;
        named = later.named;
      })
    ]
  where
    by : (o : Option ℕ) → noted_number noted name ≡ o → (b : Bool) → bytes_eq name (pred_word classes pred) ≡ b → option_or o (if b then Some number else None) ≡ Some found
        → (noted_number noted name ≡ Some found) ⊎ IsFrom classes number (pred ∷ more) name found
    by (Some other) old b same here = inl (old ∙ here)
    by None old true same here = inr (record {
      offset = 0;
      pred = pred;
      is_found = (let e : number ≡ found = same_Some number found here in omega arith);
      there = refl;
      named = (bytes_eq-Decides name (pred_word classes pred)).0 same;
    })
    by None old false same here = absurd (none-some found here)

-- ---- lines of predicates

-- what goes from each to the next holds of all of a line
line_all : (R : ℕ → Type 0) (parents : List (Option ℕ)) → ((number parent : ℕ) → R number → parent_in parents number ≡ Some parent → R parent)
    → (levels : ℕ) (next : Option ℕ) → ((number : ℕ) → next ≡ Some number → R number) → All R (line_from levels parents next)
line_all R parents step zero next begins = All-nil R
line_all R parents step (suc levels) None begins = All-nil R
line_all R parents step (suc levels) (Some number) begins =
    All-cons R number (line_from levels parents (parent_in parents number)) (begins number refl)
    (line_all R parents step levels (parent_in parents number) (λ parent up. step number parent (begins number refl) up))

module _ (files : List FileDecls) (table : TypeTable) (given : AreGiven files) (is : IsTable files table) where
  abbrev noted : Noted
  noted = noted_preds table.classes [] 0 table.preds

  abbrev word_of : ℕ → List ℕ
  word_of number = class_name files table given is number

  -- a predicate that is found by its class and its name
  pub record IsMatched (word name : List ℕ) (number : ℕ) : Type 0 where
    pub pred : Pred
    pub at : slice_get table.preds number ≡ Some pred
    pub word_is : word ≡ word_of pred.class
    pub called : name ≡ pred.name

  pub matched : (word name : List ℕ) (number : ℕ) → IsName word → noted_number noted (full_name word name) ≡ Some number → IsMatched word name number
  matched word name number spelled found = elim (noted_from table.classes [] 0 table.preds (full_name word name) number found) [
    | inl none ↦ absurd (none-some number none)
    | inr it ↦
        (let e : it.offset ≡ number = (let sum : number ≡ 0 + it.offset = it.is_found in omega arith) in
        let at : slice_get table.preds number ≡ Some it.pred = ap (slice_get table.preds) (sym e) ∙ it.there in
        let lawful = lawful_preds files table (bare table) (has_table files table given is) number it.pred at in
        let parts = same_parts word (word_of it.pred.class) name it.pred.name spelled
        (name_is files table given is it.pred.class lawful.class lawful.is_class) it.named in
        record { pred = it.pred; at = at; word_is = parts.0; called = parts.1 })
  ]

  -- ---- what a predicate is inherited from

  -- the class that a class of the table extends, which isn't that of all objects
  pub record HasParent (class : Meaning) (parent : ℕ) : Type 0 where
    pub extended : Extended files table given is parent
    pub below : IsBelow is.facts class extended.class ⊎ (extended.class ≡ meanings.BuiltIn 0)

  objects_parent : (class : Meaning) (parent : ℕ) → 0 ≡ parent → HasParent class parent
  objects_parent class parent same =
      subst (HasParent class) same (record { extended = builtin_extended files table given is 0 (omega arith); below = inr refl })

  own_parent : (entry parent : ℕ) → IsClassEntry is.facts.names entry
      → parent_number is.facts.names (above is.facts.names is.facts.program entry) ≡ parent → HasParent (meanings.Entry entry) parent
  own_parent entry parent known same = elim (class_stands is.facts (are_facts files table given is) is.fine entry known) [
    | no_parent up none ↦ objects_parent (meanings.Entry entry) parent (sym (ap (parent_number is.facts.names) up) ∙ same)
    | under_builtin number few up none ↦
        (let e : number ≡ parent = sym (ap (parent_number is.facts.names) up) ∙ same in
        subst (HasParent (meanings.Entry entry)) e (record {
          extended = builtin_extended files table given is number few;
          below = inl (step_below files table given is entry (meanings.BuiltIn number) known up);
        }))
    | under_class other up under class first decl declared there body ↦
        (let at = entry_place files table given is other class.declared class.there (first class.declared class.there) in
        let extended = entry_extended files table given is at.0 other at.1 in
        let e : 4 + at.0 ≡ parent = sym (extended.number_is) ∙ (sym (ap (parent_number is.facts.names) up) ∙ same) in
        subst (HasParent (meanings.Entry entry)) e (record {
          extended = extended;
          below = inl (step_below files table given is entry (meanings.Entry other) known up);
        }))
  ]

  -- what the class of a predicate extends
  parent_of : (pred : Pred) (own : HasOwner files table given is pred) (class : Class) (parent : ℕ) → slice_get table.classes pred.class ≡ Some class
      → class.parent ≡ Some parent → HasParent own.class parent
  parent_of pred own class parent at up = by own.class refl own.owning own.known
    where
      objects : (number : ℕ) (found : Class) → pred.class ≡ number → slice_get table.classes number ≡ Some found → found.parent ≡ Some 0 → 0 ≡ parent
      objects number found here there zero_is =
          let same : found ≡ class = same_Some found class (sym there ∙ (ap (slice_get table.classes) (sym here) ∙ at)) in
          same_Some 0 parent (sym zero_is ∙ (ap (λ (c : Class). c.parent) same ∙ up))

      by : (of : Meaning) → own.class ≡ of → IsOwning files table given is of pred → IsKnown is.facts of → HasParent of parent
      by (meanings.Entry entry) same owning known =
          let there = entry_there files table given is owning.0 entry owning.1 in
          let number : pred.class ≡ 4 + owning.0 =
          own.number ∙ (ap (class_number is.facts.names) same ∙ (entry_extended files table given is owning.0 entry owning.1).number_is) in
          let found : compiled_class is.facts (enums_of is.facts.program) entry ≡ class =
          same_Some (compiled_class is.facts (enums_of is.facts.program) entry) class (sym there ∙ (sym (ap (slice_get table.classes) number) ∙ at)) in
          own_parent entry parent known
          (same_Some (parent_number is.facts.names (above is.facts.names is.facts.program entry)) parent (ap (λ (c : Class). c.parent) found ∙ up))
      by (meanings.BuiltIn number) same owning known =
          let here : pred.class ≡ number = own.number ∙ ap (class_number is.facts.names) same in
          elim owning.0 [
            | inl two ↦ objects_parent (meanings.BuiltIn number) parent (objects 2 (builtin_class (codes "Reusable") (Some 0) 2) (here ∙ two)
                (ap (λ classes. slice_get classes 2) (classes_same files table given is)) refl)
            | inr three ↦ objects_parent (meanings.BuiltIn number) parent (objects 3 (builtin_class (codes "Reservoir") (Some 0) 3) (here ∙ three)
                (ap (λ classes. slice_get classes 3) (classes_same files table given is)) refl)
          ]

  -- a predicate of this name and class is inherited from the one of this number
  pub record IsInherited (name : List ℕ) (class : Meaning) (number : ℕ) : Type 0 where
    pub pred : Pred
    pub at : slice_get table.preds number ≡ Some pred
    pub same : pred.name ≡ name
    pub below : IsBelow is.facts class (owner files table given is number pred at).class

  step_up : (name : List ℕ) (class : Meaning) (number parent : ℕ) → IsInherited name class number
      → parent_in (preds_above table.classes noted table.preds) number ≡ Some parent → IsInherited name class parent
  step_up name class number parent it up =
      let own = owner files table given is number it.pred it.at in
      let above_is : pred_above table.classes noted it.pred ≡ Some parent =
      sym (ap (option_and_then (λ (p : Option ℕ). p)) (slice_get-map (pred_above table.classes noted) table.preds number ∙ ap (option_map (pred_above table.classes noted)) it.at)) ∙ up in
      by_class own (slice_get table.classes it.pred.class) refl above_is
    where
      last : (own : HasOwner files table given is it.pred) → IsBelow is.facts class own.class → (found : Class) → slice_get table.classes it.pred.class ≡ Some found → (o : Option ℕ) → found.parent ≡ o
          → inherited_pred table.classes noted it.pred.name o ≡ Some parent → IsInherited name class parent
      last own below found at None none inherited = absurd (none-some parent inherited)
      last own below found at (Some of) parent_is inherited =
          let has = parent_of it.pred own found of at parent_is in
          let above_class = parents_there files table (bare table) is refl it.pred.class of (found, at, parent_is) in
          let it_is = matched (word_of of) it.pred.name parent (name_is files table given is of above_class.0 above_class.1) inherited in
          let next = owner files table given is parent it_is.pred it_is.at in
          let same : has.extended.class ≡ next.class =
          same_Some has.extended.class next.class (sym has.extended.means ∙ (ap (meaning_of is.facts.names) it_is.word_is ∙ next.means)) in
          let on : IsBelow is.facts own.class next.class = elim has.below [
            | inl less ↦ subst (IsBelow is.facts own.class) same less
            | inr objects ↦ absurd (no_objects it_is.pred next (sym same ∙ objects))
          ] in
          record {
            pred = it_is.pred;
            at = it_is.at;
            same = sym it_is.called ∙ it.same;
            below = below_both is.facts class own.class next.class below on;
          }
        where
          no_objects : (pred : Pred) (next : HasOwner files table given is pred) → next.class ≡ meanings.BuiltIn 0 → ⊥
          no_objects pred next zero_is =
              let owning : IsOwning files table given is (meanings.BuiltIn 0) pred = subst (λ c. IsOwning files table given is c pred) zero_is next.owning in
              elim owning.0 [ inl two ↦ (let e : 0 ≡ 2 = two in omega (arith, e)) | inr three ↦ (let e : 0 ≡ 3 = three in omega (arith, e)) ]

      by_class : (own : HasOwner files table given is it.pred) → (o : Option Class) → slice_get table.classes it.pred.class ≡ o
          → inherited_pred table.classes noted it.pred.name (option_and_then (λ (found : Class). found.parent) o) ≡ Some parent → IsInherited name class parent
      by_class own None at inherited = absurd (none-some parent inherited)
      by_class own (Some found) at inherited =
          last (owner files table given is number it.pred it.at) it.below found at found.parent refl inherited

  -- all that a predicate leads up to it is inherited from
  pub all_inherited : (number : ℕ) (pred : Pred) (at : slice_get table.preds number ≡ Some pred)
      → All (IsInherited pred.name (owner files table given is number pred at).class) (ancestry (preds_above table.classes noted table.preds) number)
  all_inherited number pred at =
      let above_all = preds_above table.classes noted table.preds in
      let class = (owner files table given is number pred at).class in
      line_all (IsInherited pred.name class) above_all (λ one parent it up. step_up pred.name class one parent it up) (length above_all) (Some number)
      (λ one same. subst (IsInherited pred.name class) (same_Some number one same)
      (record { pred = pred; at = at; same = refl; below = below_itself is.facts class }))

-- ---- the texts of rules

-- an item more in a list
item_more : {X : Type 0} (P : X → Type 0) (lists : List (List X)) (number k : ℕ) (item : X) → All P (list_at lists k) → (k ≡ number → P item)
    → All P (list_at (with_item_at lists number item) k)
item_more P [] number k item all one = all
item_more P (list ∷ lists) zero zero item all one = All-push P list item all (one refl)
item_more P (list ∷ lists) zero (suc k) item all one = all
item_more P (list ∷ lists) (suc number) zero item all one = all
item_more P (list ∷ lists) (suc number) (suc k) item all one = item_more P lists number k item all (λ e. one (ap suc e))

none_at : {X : Type 0} (P : X → Type 0) (preds : List Pred) (k : ℕ) → All P (list_at (map (λ (pred : Pred). []) preds) k)
none_at P [] zero = All-nil P
none_at P [] (suc k) = All-nil P
none_at P (pred ∷ preds) zero = All-nil P
none_at P (pred ∷ preds) (suc k) = none_at P preds k

-- the text at this place is that of a rule for the predicate of this number
pub data IsTextFor (noted : Noted) (program : List Decl) (number : ℕ) (place : TextPlace) : Type 0 where
  own_text : (class predicate : Name) (body : Braces) → slice_get program place.decl ≡ Some (decls.Rule class predicate body) → place.member ≡ None
      → noted_number noted (full_name class.text predicate.text) ≡ Some number → IsTextFor noted program number place
  member_text : (at : ℕ) (class : Name) (parent : Option Name) (some : List Member) (member pred_at : ℕ) (name : Name) (parts : List PredicatePart)
      → slice_get program place.decl ≡ Some (decls.Class at class parent some) → place.member ≡ Some member
      → slice_get some member ≡ Some (members.Predicate pred_at name parts) → noted_number noted (full_name class.text name.text) ≡ Some number
      → IsTextFor noted program number place

module _ (noted : Noted) (program : List Decl) where
  abbrev AreRight : List (List TextPlace) → Type 0
  AreRight written = (number : ℕ) → All (IsTextFor noted program number) (list_at written number)

  text_more : (written : List (List TextPlace)) (name : List ℕ) (place : TextPlace) → AreRight written
      → ((number : ℕ) → noted_number noted name ≡ Some number → IsTextFor noted program number place) → AreRight (with_text noted written name place)
  text_more written name place are one = by (noted_number noted name) refl
    where
      by : (o : Option ℕ) → noted_number noted name ≡ o → AreRight (option_map_or (λ (number : ℕ). with_item_at written number place) o written)
      by None is = are
      by (Some number) is = λ k.
          item_more (IsTextFor noted program k) written number k place (are k)
          (λ same. one k (is ∙ ap (λ n. Some n) (sym same)))

  member_more : (decl place : ℕ) (at : ℕ) (class : Name) (parent : Option Name) (some : List Member) (written : List (List TextPlace)) (member : Member)
      → slice_get program decl ≡ Some (decls.Class at class parent some) → slice_get some place ≡ Some member → AreRight written
      → AreRight (with_member_text noted decl place class.text written member)
  member_more decl place at class parent some written (members.Predicate pred_at name parts) there here are = by (has_constraint parts)
    where
      by : (b : Bool)
          → AreRight (if b then with_text noted written (full_name class.text name.text) (record { decl = decl; member = Some place }) else written)
      by true =
          text_more written (full_name class.text name.text) (record { decl = decl; member = Some place }) are
          (λ number found. member_text at class parent some place pred_at name parts there refl here found)
      by false = are
  member_more decl place at class parent some written (members.Field typed) there here are = are
  member_more decl place at class parent some written (members.Constructor name formals sets) there here are = are

  members_more : (decl place : ℕ) (at : ℕ) (class : Name) (parent : Option Name) (some left : List Member) (written : List (List TextPlace))
      → slice_get program decl ≡ Some (decls.Class at class parent some)
      → ((offset : ℕ) (member : Member) → slice_get left offset ≡ Some member → slice_get some (place + offset) ≡ Some member)
      → AreRight written → AreRight (with_member_texts noted decl place class.text written left)
  members_more decl place at class parent some [] written there stand are = are
  members_more decl place at class parent some (member ∷ left) written there stand are =
      let e : place + 0 ≡ place = omega arith in
      members_more decl (place + 1) at class parent some left (with_member_text noted decl place class.text written member) there
      (λ offset other here.
      let sum : place + suc offset ≡ place + 1 + offset = omega arith in
      sym (ap (slice_get some) sum) ∙ stand (suc offset) other here)
      (member_more decl place at class parent some written member there (sym (ap (slice_get some) e) ∙ stand 0 member refl) are)

  decl_more : (number : ℕ) (written : List (List TextPlace)) (decl : Decl) → slice_get program number ≡ Some decl → AreRight written
      → AreRight (with_decl_texts noted number written decl)
  decl_more number written (decls.Rule class predicate body) there are =
      text_more written (full_name class.text predicate.text) (record { decl = number; member = None }) are
      (λ k found. own_text class predicate body there refl found)
  decl_more number written (decls.Class at class parent some) there are =
      members_more number 0 at class parent some some written there
      (λ offset member here. let e : offset ≡ 0 + offset = omega arith in sym (ap (slice_get some) e) ∙ here) are
  decl_more number written (decls.Include at file file_at) there are = are
  decl_more number written (decls.Enum at name members_at some) there are = are
  decl_more number written (decls.Typedef at declared name) there are = are
  decl_more number written (decls.Forward at name) there are = are
  decl_more number written (decls.Variable variable) there are = are
  decl_more number written (decls.Call call) there are = are
  decl_more number written (decls.Ask ask) there are = are

  decls_more : (number : ℕ) (left : List Decl) (written : List (List TextPlace))
      → ((offset : ℕ) (decl : Decl) → slice_get left offset ≡ Some decl → slice_get program (number + offset) ≡ Some decl)
      → AreRight written → AreRight (with_texts noted number written left)
  decls_more number [] written stand are = are
  decls_more number (decl ∷ left) written stand are =
      let e : number + 0 ≡ number = omega arith in
      decls_more (number + 1) left (with_decl_texts noted number written decl)
      (λ offset other here.
      let sum : number + suc offset ≡ number + 1 + offset = omega arith in
      sym (ap (slice_get program) sum) ∙ stand (suc offset) other here)
      (decl_more number written decl (sym (ap (slice_get program) e) ∙ stand 0 decl refl) are)

  -- each place in the list of a predicate has a rule for it
  pub texts_right : (preds : List Pred) (number : ℕ) → All (IsTextFor noted program number) (list_at (texts_written noted preds program) number)
  texts_right preds =
      decls_more 0 program (none_written preds)
      (λ offset decl here. let e : offset ≡ 0 + offset = omega arith in sym (ap (slice_get program) e) ∙ here)
      (λ number. none_at (IsTextFor noted program number) preds number)

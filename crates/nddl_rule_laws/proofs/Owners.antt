-- The classes that have the predicates of a table, and the parameters of these.
use Rattle.std.proofs.Common.{◌≡◌, ℕ, suc, ◌+◌, ◌<◌, ◌≤◌, ◌==◌, Bool, true, false, cond, ◌||◌, List, [], ◌∷◌, ◌++◌, length, get_or, map, refl, sym, ◌∙◌, ap, subst, ◌⊎◌, inl, inr, arith}
use Rattle.std.specs.Prelude.{Option, Some, None, All, AllPairs, Contains, slice_get, codes, reverse, if◌then◌else◌}
use Rattle.std.specs.List.{flat_map, filter_map, list_any, position_from}
use Rattle.std.specs.Option.{option_map, option_map_or, option_or}
use Rattle.std.specs.Str.{bytes_eq}
use Rattle.std.proofs.lemmas.Bool.{cases_lt}
use Rattle.std.proofs.lemmas.Bool.Decides.{Decides-eqb}
use Rattle.std.proofs.lemmas.List.Elements.{All-append, Contains-append_left, Contains-append_right}
use Rattle.std.proofs.lemmas.List.Sorted.{Contains-permutation, IsPermutation-reverse}
use Rattle.std.proofs.lemmas.Option.{same_Some, none-some}
use Rattle.std.proofs.lemmas.Slice.Eq.{bytes_eq-Decides}
use Rattle.eu_forest.specs.Ancestors.{ancestry}
use Rattle.model_core.specs.declared.class.Enum.{Enum}
use Rattle.model_core.specs.declared.class.Pred.{Pred}
use Rattle.model_core.specs.declared.class.PredKind.TheVariants as uses
use Rattle.model_core.specs.Naming.{names_of}
use Rattle.model_core.proofs.Items.{item_all, item_at, item_is}
use Rattle.nddl_ast.specs.declared.declaration.FileDecls.{FileDecls}
use Rattle.nddl_ast.specs.declared.declaration.Member.{Member}
use Rattle.nddl_ast.specs.declared.declaration.Member.TheVariants as members
use Rattle.nddl_ast.specs.declared.declaration.PredicatePart.{PredicatePart}
use Rattle.model_core.specs.declared.variable.VarDecl.{VarDecl}
use Rattle.model_core.specs.Lawful.{quantity}
use Rattle.nddl_ast.specs.declared.declaration.Typed.{Typed}
use Rattle.nddl_ast.specs.declared.kind.TextKind.TheVariants as faults
use Rattle.nddl_ast.specs.declared.name.Name.{Name}
use Rattle.nddl_symbols.specs.declared.scope.Meaning.{Meaning}
use Rattle.nddl_symbols.specs.declared.scope.Meaning.TheVariants as meanings
use Rattle.nddl_symbols.specs.Finding.{faults_here}
use Rattle.nddl_symbols.specs.Repeats.{repeated_faults}
use Rattle.nddl_symbols.specs.Scope.{fault_if, meaning_of}
use Rattle.nddl_hierarchy.specs.Ancestors.{above}
use Rattle.nddl_hierarchy.specs.Decls.{members_of}
use Rattle.nddl_hierarchy.specs.Facts.{Facts}
use Rattle.nddl_hierarchy.specs.Inherited.{words_noted}
use Rattle.nddl_hierarchy.specs.Members.{is_predicate_named}
use Rattle.nddl_declarations.specs.Declares.{variables_of}
use Rattle.nddl_declarations.specs.Known.{all_type_faults}
use Rattle.nddl_declarations.specs.Members.{parameters_of, typed_faults, typed_names}
use Rattle.nddl_types.specs.declared.table.TypeTable.{TypeTable}
use Rattle.nddl_types.specs.Classes.{class_entries, class_number, enums_of, line_down}
use Rattle.nddl_types.specs.Predicates.{builtin_pred, builtin_preds, class_preds, given_preds, pred_of, preds_at, preds_of}
use Rattle.nddl_types.specs.Table.{IsTable}
use Rattle.nddl_resolve.specs.declared.denoted.Denoted.{Denoted}
use Rattle.nddl_resolve.specs.declared.denoted.Predicate.{Predicate}
use Rattle.nddl_resolve.specs.declared.denoted.Predicate.TheVariants as predicates
use Rattle.nddl_resolve.specs.declared.denoted.Seen.{Seen}
use Rattle.nddl_resolve.specs.Fields.{type_value}
use Rattle.nddl_resolve.specs.Predicates.{builtin_if, class_predicate, declared_parts, is_builtin_pred, is_given_pred, is_pred_given_along, member_parts, predicate_along}
use Rattle.nddl_resolve.specs.Seen.{seen_as}
use Rattle.model_core.specs.Naming.{token_part_words}
use Rattle.std.specs.Prelude.{nat_lt}
use Rattle.nddl_laws.specs.Given.{AreGiven}
use Rattle.nddl_laws.specs.Scoping.{parameters_denoted}
use Rattle.nddl_laws.proofs.Contained.{contains_at, contains_flat, contains_kept}
use Rattle.nddl_laws.proofs.Listed.{DifferInClass, differing_preds}
use Rattle.nddl_laws.proofs.Lists.{all_flat, none_flat}
use Rattle.nddl_laws.proofs.Members.{IsRightAt, members_right}
use Rattle.nddl_laws.proofs.Nothing.{none_first}
use Rattle.nddl_laws.proofs.Preds.{all_builtin, of_line}
use Rattle.nddl_laws.proofs.WholeTypes.{names_kept}
use Rattle.nddl_rule_laws.proofs.Classes.{IsBelow, IsKnown, IsPlaced, are_facts, bare, below_both, builtin_means, class_name, entry_known, entry_means, entry_number, entry_word, has_table, preds_same, right}

-- ---- lists

-- what is in a list is in it the other way round
pub in_reverse : {X : Type 0} (xs : List X) (x : X) → Contains xs x → Contains (reverse xs) x
in_reverse xs x has = Contains-permutation xs (reverse xs) x (IsPermutation-reverse xs) has

pub in_later : {X : Type 0} (first : X) (xs : List X) (x : X) → Contains xs x → Contains (first ∷ xs) x
in_later first xs x has = Contains-append_right (first ∷ []) xs x has

-- of those that differ two are the same that have the class and the name
same_by_name : (preds : List Pred) → AllPairs DifferInClass preds → (one other : Pred) → Contains preds one → Contains preds other
    → one.class ≡ other.class → one.name ≡ other.name → one ≡ other
same_by_name preds pairs one other has there class name = elim (cases_lt has.0 there.0) [
  | inl before ↦
      (let first : get_or preds has.0 one ≡ one = has.2 in
      let second : get_or preds there.0 one ≡ other = there_is there.0 there.1 there.2 in
      absurd (pairs has.0 there.0 one before there.1
      (ap (λ (p : Pred). p.class) first ∙ (class ∙ sym (ap (λ (p : Pred). p.class) second)))
      (ap (λ (p : Pred). p.name) first ∙ (name ∙ sym (ap (λ (p : Pred). p.name) second)))))
  | inr rest ↦ later rest (cases_lt there.0 has.0)
]
  where
    there_is : (k : ℕ) → k < length preds → get_or preds k other ≡ other → get_or preds k one ≡ other
    there_is k within is = item_is preds k one other (item_at preds k other within ∙ ap (λ p. Some p) is)

    later : there.0 ≤ has.0 → (there.0 < has.0) ⊎ (has.0 ≤ there.0) → one ≡ other
    later rest (inl after) =
        let first : get_or preds has.0 one ≡ one = has.2 in
        let second : get_or preds there.0 one ≡ other = there_is there.0 there.1 there.2 in
        absurd (pairs there.0 has.0 one after has.1
        (ap (λ (p : Pred). p.class) second ∙ (sym class ∙ sym (ap (λ (p : Pred). p.class) first)))
        (ap (λ (p : Pred). p.name) second ∙ (sym name ∙ sym (ap (λ (p : Pred). p.name) first))))
    later rest (inr before) =
        let e : has.0 ≡ there.0 = omega (arith, rest, before) in
        sym has.2 ∙ (ap (λ k. get_or preds k one) e ∙ there_is there.0 there.1 there.2)

-- ---- a predicate that a class has

-- the class is one of these that are declared in files
abbrev pub InLine : Facts → Meaning → ℕ → Type 0
InLine facts (meanings.Entry class) entry = Contains (line_down facts class) entry
InLine facts (meanings.BuiltIn number) entry = ⊥

pub line_below_it : (facts : Facts) (one other : Meaning) (entry : ℕ) → IsBelow facts one other → InLine facts other entry → InLine facts one entry
line_below_it facts (meanings.Entry one) (meanings.Entry other) entry below is = below entry is
line_below_it facts (meanings.Entry one) (meanings.BuiltIn number) entry below is = absurd is
line_below_it facts (meanings.BuiltIn one) (meanings.Entry other) entry below is = absurd below
line_below_it facts (meanings.BuiltIn one) (meanings.BuiltIn number) entry below is = absurd is

-- the predicate of this name of a class, its own or an ancestor's
pub data FoundIn (facts : Facts) (name : List ℕ) (class : Meaning) (predicate : Predicate) : Type 0 where
  found_member : (entry member at : ℕ) (called : Name) (parts : List PredicatePart) → predicate ≡ predicates.Declared entry member
      → InLine facts class entry → slice_get (members_of facts.names facts.program entry) member ≡ Some (members.Predicate at called parts)
      → called.text ≡ name → FoundIn facts name class predicate
  found_given : (number : ℕ) → predicate ≡ predicates.BuiltIn → IsBelow facts class (meanings.BuiltIn number)
      → is_builtin_pred name number ≡ true → FoundIn facts name class predicate

-- what an ancestor has a class has
pub found_below : (facts : Facts) (name : List ℕ) (one other : Meaning) (predicate : Predicate) → IsBelow facts one other
    → FoundIn facts name other predicate → FoundIn facts name one predicate
found_below facts name one other predicate below (found_member entry member at called parts is line there same) =
    found_member entry member at called parts is (line_below_it facts one other entry below line) there same
found_below facts name one other predicate below (found_given number is given named) =
    found_given number is (below_both facts one other (meanings.BuiltIn number) below given) named

-- ---- how it is found

-- the place at which something is found that passes a test
pub position_is : {X : Type 0} (test : X → Bool) (xs : List X) (number place : ℕ) → position_from test number xs ≡ Some place
    → (offset : ℕ) × (place ≡ number + offset) × ((found : X) × (slice_get xs offset ≡ Some found) × (test found ≡ true))
position_is test [] number place is = absurd (cc)
position_is {X} test (x ∷ xs) number place is = by (test x) refl is (λ rest. position_is test xs (number + 1) place rest)
  where
    by : (b : Bool) → test x ≡ b → cond b (Some number) (position_from test (number + 1) xs) ≡ Some place
        → (position_from test (number + 1) xs ≡ Some place
        → (offset : ℕ) × (place ≡ number + 1 + offset) × ((found : X) × (slice_get xs offset ≡ Some found) × (test found ≡ true)))
        → (offset : ℕ) × (place ≡ number + offset) × ((found : X) × (slice_get (x ∷ xs) offset ≡ Some found) × (test found ≡ true))
    by true passes is rest = (0, (let e : number ≡ place = same_Some number place is in omega arith), (x, refl, passes))
    by false fails is rest =
        let more = rest is in
        (suc more.0, (let e : place ≡ number + 1 + more.0 = more.1 in omega arith), more.2)

module _ (facts : Facts) (name : List ℕ) where
  -- a member of this name at a place
  member_named : (some : List Member) (place : ℕ) → position_from (is_predicate_named name) 0 some ≡ Some place
      → (at : ℕ) × (called : Name) × ((parts : List PredicatePart) × (slice_get some place ≡ Some (members.Predicate at called parts)) × (called.text ≡ name))
  member_named some place is =
      let found = position_is (is_predicate_named name) some 0 place is in
      let e : found.0 ≡ place = (let sum : place ≡ 0 + found.0 = found.1 in omega arith) in
      by found.2.0 (ap (slice_get some) (sym e) ∙ found.2.1) found.2.2
    where
      by : (member : Member) → slice_get some place ≡ Some member → is_predicate_named name member ≡ true
          → (at : ℕ) × (called : Name) × ((parts : List PredicatePart) × (slice_get some place ≡ Some (members.Predicate at called parts)) × (called.text ≡ name))
      by (members.Predicate at called parts) there passes = (at, called, (parts, there, sym ((bytes_eq-Decides name called.text).0 passes)))
      by (members.Field typed) there passes = absurd (cc)
      by (members.Constructor class formals sets) there passes = absurd (cc)

  record IsDeclaredIn (line : List ℕ) (predicate : Predicate) : Type 0 where
    entry : ℕ
    member : ℕ
    at : ℕ
    called : Name
    parts : List PredicatePart
    is : predicate ≡ predicates.Declared entry member
    in_it : Contains line entry
    there : slice_get (members_of facts.names facts.program entry) member ≡ Some (members.Predicate at called parts)
    same : called.text ≡ name

  declared_later : (first : ℕ) (line : List ℕ) (predicate : Predicate) → IsDeclaredIn line predicate → IsDeclaredIn (first ∷ line) predicate
  declared_later first line predicate it = record {
    entry = it.entry;
    member = it.member;
    at = it.at;
    called = it.called;
    parts = it.parts;
    is = it.is;
    in_it = in_later first line it.entry it.in_it;
    there = it.there;
    same = it.same;
  }

  along : (line : List ℕ) (predicate : Predicate) → predicate_along facts.names facts.program name line ≡ Some predicate → IsDeclaredIn line predicate
  along [] predicate is = absurd (none-some predicate is)
  along (entry ∷ line) predicate is =
      by (position_from (is_predicate_named name) 0 (members_of facts.names facts.program entry)) refl is (λ rest. along line predicate rest)
    where
      by : (o : Option ℕ) → position_from (is_predicate_named name) 0 (members_of facts.names facts.program entry) ≡ o
          → option_or (option_map (predicates.Declared entry) o) (predicate_along facts.names facts.program name line) ≡ Some predicate
          → (predicate_along facts.names facts.program name line ≡ Some predicate → IsDeclaredIn line predicate)
          → IsDeclaredIn (entry ∷ line) predicate
      by None here is rest = declared_later entry line predicate (rest is)
      by (Some place) here is rest =
          let found = member_named (members_of facts.names facts.program entry) place here in
          record {
            entry = entry;
            member = place;
            at = found.0;
            called = found.1;
            parts = found.2.0;
            is = sym (same_Some (predicates.Declared entry place) predicate is);
            in_it = (0, omega arith, refl);
            there = found.2.1;
            same = found.2.2;
          }

  record IsGivenIn (line : List ℕ) : Type 0 where
    entry : ℕ
    number : ℕ
    in_it : Contains line entry
    up : above facts.names facts.program entry ≡ Some (meanings.BuiltIn number)
    named : is_builtin_pred name number ≡ true

  given_along : (line : List ℕ) → is_pred_given_along facts.names facts.program name line ≡ true → IsGivenIn line
  given_along [] is = absurd (cc)
  given_along (entry ∷ line) is = by (above facts.names facts.program entry) refl is (λ rest. given_along line rest)
    where
      later : IsGivenIn line → IsGivenIn (entry ∷ line)
      later it = record { entry = it.entry; number = it.number; in_it = in_later entry line it.entry it.in_it; up = it.up; named = it.named }

      here : (number : ℕ) → above facts.names facts.program entry ≡ Some (meanings.BuiltIn number) → (b : Bool) → is_builtin_pred name number ≡ b
          → (b || is_pred_given_along facts.names facts.program name line) ≡ true
          → (is_pred_given_along facts.names facts.program name line ≡ true → IsGivenIn line) → IsGivenIn (entry ∷ line)
      here number up true named is rest = record { entry = entry; number = number; in_it = (0, omega arith, refl); up = up; named = named }
      here number up false named is rest = later (rest is)

      by : (o : Option Meaning) → above facts.names facts.program entry ≡ o
          → (is_given_pred name o || is_pred_given_along facts.names facts.program name line) ≡ true
          → (is_pred_given_along facts.names facts.program name line ≡ true → IsGivenIn line) → IsGivenIn (entry ∷ line)
      by None up is rest = later (rest is)
      by (Some (meanings.Entry parent)) up is rest = later (rest is)
      by (Some (meanings.BuiltIn number)) up is rest = here number up (is_builtin_pred name number) refl is rest

  -- the predicate that is found of a class is one that it has
  pub class_found : (class : Meaning) (predicate : Predicate) → class_predicate facts name class ≡ Some predicate → FoundIn facts name class predicate
  class_found (meanings.BuiltIn number) predicate is = by (is_builtin_pred name number) refl is
    where
      by : (b : Bool) → is_builtin_pred name number ≡ b → builtin_if b ≡ Some predicate → FoundIn facts name (meanings.BuiltIn number) predicate
      by true named is = found_given number (sym (same_Some predicates.BuiltIn predicate is)) refl named
      by false named is = absurd (none-some predicate is)
  class_found (meanings.Entry class) predicate is =
      by (predicate_along facts.names facts.program name (ancestry facts.parents class)) refl
      (is_pred_given_along facts.names facts.program name (ancestry facts.parents class)) refl is
    where
      by : (o : Option Predicate) → predicate_along facts.names facts.program name (ancestry facts.parents class) ≡ o
          → (b : Bool) → is_pred_given_along facts.names facts.program name (ancestry facts.parents class) ≡ b
          → option_or o (builtin_if b) ≡ Some predicate → FoundIn facts name (meanings.Entry class) predicate
      by (Some found) found_is b given is =
          let it = along (ancestry facts.parents class) predicate (found_is ∙ is) in
          found_member it.entry it.member it.at it.called it.parts it.is (in_reverse (ancestry facts.parents class) it.entry it.in_it) it.there it.same
      by None found_is true given is =
          let it = given_along (ancestry facts.parents class) given in
          found_given it.number (sym (same_Some predicates.BuiltIn predicate is))
          (it.entry, in_reverse (ancestry facts.parents class) it.entry it.in_it, it.up) it.named
      by None found_is false given is = absurd (none-some predicate is)

-- ---- the predicates of a table

-- the parameters of a built-in predicate
abbrev pub HasQuantity : Pred → Type 0
HasQuantity pred = pred.params ≡ quantity ∷ []

-- one of these predicates has the name, is of the class, and has a quantity
abbrev pub HasNamed : ℕ → List ℕ → List Pred → Type 0
HasNamed class name some =
    (found : Pred) × Contains some found × ((found.name ≡ name) × (found.class ≡ class) × HasQuantity found)

or_cases : (one other : Bool) → (one || other) ≡ true → (one ≡ true) ⊎ (other ≡ true)
or_cases true other is = inl refl
or_cases false other is = inr is

-- a predicate that a built-in class has by its name is there for each class
pub builtin_has : (class number : ℕ) (name : List ℕ) → is_builtin_pred name number ≡ true → HasNamed class name (builtin_preds class number)
builtin_has class number name is = by (number == 2) (number == 3) is
  where
    by : (two three : Bool)
        → list_any (λ (pred : Pred). bytes_eq name pred.name)
        (if two then builtin_pred number (codes "uses") uses.Uses ∷ []
        else (if three then builtin_pred number (codes "produce") uses.Produce ∷ builtin_pred number (codes "consume") uses.Consume ∷ [] else [])) ≡ true
        → HasNamed class name
        (if two then builtin_pred class (codes "uses") uses.Uses ∷ []
        else (if three then builtin_pred class (codes "produce") uses.Produce ∷ builtin_pred class (codes "consume") uses.Consume ∷ [] else []))
    by true three any = elim (or_cases (bytes_eq name (codes "uses")) false any) [
      | inl same ↦
          (builtin_pred class (codes "uses") uses.Uses, (0, omega arith, refl), (sym ((bytes_eq-Decides name (codes "uses")).0 same), refl, refl))
      | inr none ↦ absurd (cc)
    ]
    by false true any = elim (or_cases (bytes_eq name (codes "produce")) (bytes_eq name (codes "consume") || false) any) [
      | inl same ↦
          (builtin_pred class (codes "produce") uses.Produce, (0, omega arith, refl), (sym ((bytes_eq-Decides name (codes "produce")).0 same), refl, refl))
      | inr rest ↦ second (or_cases (bytes_eq name (codes "consume")) false rest)
    ]
      where
        second : (bytes_eq name (codes "consume") ≡ true) ⊎ (false ≡ true)
            → HasNamed class name (builtin_pred class (codes "produce") uses.Produce ∷ builtin_pred class (codes "consume") uses.Consume ∷ [])
        second (inl same) =
            (builtin_pred class (codes "consume") uses.Consume, (1, omega arith, refl), (sym ((bytes_eq-Decides name (codes "consume")).0 same), refl, refl))
        second (inr none) = absurd (cc)
    by false false any = absurd (cc)

-- only these two have any
which_builtin : (name : List ℕ) (number : ℕ) → is_builtin_pred name number ≡ true → (number ≡ 2) ⊎ (number ≡ 3)
which_builtin name number is = by (number == 2) refl (number == 3) refl is
  where
    by : (two : Bool) → (number == 2) ≡ two → (three : Bool) → (number == 3) ≡ three
        → list_any (λ (pred : Pred). bytes_eq name pred.name)
        (if two then builtin_pred number (codes "uses") uses.Uses ∷ []
        else (if three then builtin_pred number (codes "produce") uses.Produce ∷ builtin_pred number (codes "consume") uses.Consume ∷ [] else [])) ≡ true
        → (number ≡ 2) ⊎ (number ≡ 3)
    by true here three there any = inl ((Decides-eqb number 2).0 here)
    by false here true there any = inr ((Decides-eqb number 3).0 there)
    by false here false there any = absurd (cc)

-- parameters as they are seen have their names
seen_names : (value : Typed → Denoted) (some : List Typed)
    → map (λ (seen : Seen). seen.name) (map (λ (typed : Typed). seen_as typed.name.text (value typed)) some) ≡ map (λ (typed : Typed). typed.name.text) some
seen_names value [] = refl
seen_names value (typed ∷ more) = ap (λ rest. typed.name.text ∷ rest) (seen_names value more)

abbrev pub seen_of : Facts → Predicate → List (List ℕ)
seen_of facts which = map (λ (seen : Seen). seen.name) (parameters_denoted facts which)

module _ (files : List FileDecls) (table : TypeTable) (given : AreGiven files) (is : IsTable files table) where
  abbrev enums : List Enum
  enums = enums_of is.facts.program

  abbrev all_entries : List ℕ
  all_entries = class_entries is.facts.names 0 is.facts.names

  -- what is so of a predicate of such a class
  abbrev pub IsOwning : Meaning → Pred → Type 0
  IsOwning (meanings.BuiltIn number) pred = ((number ≡ 2) ⊎ (number ≡ 3)) × HasQuantity pred
  IsOwning (meanings.Entry entry) pred = (place : ℕ) × (slice_get all_entries place ≡ Some entry)

  -- the class that has the predicate
  pub record HasOwner (pred : Pred) : Type 0 where
    pub class : Meaning
    pub known : IsKnown is.facts class
    pub owning : IsOwning class pred
    pub number : pred.class ≡ class_number is.facts.names class
    pub means : meaning_of is.facts.names (class_name files table given is pred.class) ≡ Some class

  builtin_owned : (number : ℕ) → number < 4 → (number ≡ 2) ⊎ (number ≡ 3) → All HasOwner (builtin_preds number number)
  builtin_owned number few which = all_builtin HasOwner number number (uses_is) (produce_is) (consume_is)
    where
      uses_is : HasOwner (builtin_pred number (codes "uses") uses.Uses)
      uses_is = record { class = meanings.BuiltIn number; known = few; owning = (which, refl); number = refl; means = builtin_means files table given is number few }

      produce_is : HasOwner (builtin_pred number (codes "produce") uses.Produce)
      produce_is = record { class = meanings.BuiltIn number; known = few; owning = (which, refl); number = refl; means = builtin_means files table given is number few }

      consume_is : HasOwner (builtin_pred number (codes "consume") uses.Consume)
      consume_is = record { class = meanings.BuiltIn number; known = few; owning = (which, refl); number = refl; means = builtin_means files table given is number few }

  class_owned : (place entry : ℕ) → slice_get all_entries place ≡ Some entry → All HasOwner (class_preds is.facts enums entry)
  class_owned place entry at = λ k d within.
      let own = class_number is.facts.names (meanings.Entry entry) in
      let class = of_line is.facts (are_facts files table given is) is.fine (right files table given is) (bare table) is.entries.enums_are own
      (line_down is.facts entry) k d within in
      record {
        class = meanings.Entry entry;
        known = entry_known files table given is place entry at;
        owning = (place, at);
        number = class;
        means = ap (λ number. meaning_of is.facts.names (class_name files table given is number)) (class ∙ entry_number files table given is place entry at)
            ∙ (ap (meaning_of is.facts.names) (entry_word files table given is place entry at) ∙ entry_means files table given is place entry at);
      }

  owned : All HasOwner table.preds
  owned =
      subst (All HasOwner) (sym (preds_same files table given is))
      (All-append HasOwner (builtin_preds 2 2) (builtin_preds 3 3 ++ flat_map (class_preds is.facts enums) all_entries)
      (builtin_owned 2 (omega arith) (inl refl))
      (All-append HasOwner (builtin_preds 3 3) (flat_map (class_preds is.facts enums) all_entries) (builtin_owned 3 (omega arith) (inr refl))
      (all_flat HasOwner (class_preds is.facts enums) all_entries (λ k d within. class_owned k (get_or all_entries k d) (item_at all_entries k d within)))))

  -- each predicate has one
  pub owner : (number : ℕ) (pred : Pred) → slice_get table.preds number ≡ Some pred → HasOwner pred
  owner number pred at = item_all HasOwner table.preds number pred owned at

  -- what a class of the files has is there
  in_table : (place entry : ℕ) (pred : Pred) → slice_get all_entries place ≡ Some entry → Contains (class_preds is.facts enums entry) pred
      → Contains table.preds pred
  in_table place entry pred at has =
      let own = contains_flat (class_preds is.facts enums) all_entries entry pred (contains_at all_entries place entry at) has in
      subst (λ some. Contains some pred) (sym (preds_same files table given is))
      (Contains-append_right (builtin_preds 2 2) (builtin_preds 3 3 ++ flat_map (class_preds is.facts enums) all_entries) pred
      (Contains-append_right (builtin_preds 3 3) (flat_map (class_preds is.facts enums) all_entries) pred own))

  -- the parameters of a declared predicate
  declared_names : (entry member at : ℕ) (called : Name) (parts : List PredicatePart)
      → slice_get (members_of is.facts.names is.facts.program entry) member ≡ Some (members.Predicate at called parts)
      → map (λ (seen : Seen). seen.name) (parameters_denoted is.facts (predicates.Declared entry member))
      ≡ names_of (variables_of is.facts enums (parameters_of parts))
  declared_names entry member at called parts there =
      let some = members_of is.facts.names is.facts.program entry in
      let params = parameters_of parts in
      let value : Typed → Denoted = λ typed. type_value is.facts.names is.facts.known false typed.declared in
      let same : declared_parts is.facts.names is.facts.program entry member ≡ parts = ap (λ o. option_map_or member_parts o []) there in
      let all_right = members_right is.facts (right files table given is) entry in
      let one = item_all (IsRightAt is.facts all_right.number) some member (members.Predicate at called parts) all_right.each there in
      let rest = repeated_faults all_right.number (words_noted [] token_part_words) (typed_names params)
      ++ faults_here all_right.number called.at (fault_if (nat_lt 32 (length params)) faults.LimitParameters) in
      let types = none_flat (λ (typed : Typed). all_type_faults is.facts all_right.number typed.declared) params
      (none_first (typed_faults is.facts all_right.number params) rest one.1) in
      ap (λ list. map (λ (seen : Seen). seen.name) (map (λ (typed : Typed). seen_as typed.name.text (value typed)) (parameters_of list))) same
      ∙ (seen_names value params
      ∙ sym (names_kept is.facts (are_facts files table given is) is.fine (right files table given is) enums all_right.number params types))

  -- what a built-in class has is there
  builtin_in_table : (number : ℕ) (pred : Pred) → (number ≡ 2) ⊎ (number ≡ 3) → Contains (builtin_preds number number) pred → Contains table.preds pred
  builtin_in_table number pred which has =
      subst (λ some. Contains some pred) (sym (preds_same files table given is)) (by which)
    where
      by : (number ≡ 2) ⊎ (number ≡ 3) → Contains (preds_of is.facts enums) pred
      by (inl two) =
          Contains-append_left (builtin_preds 2 2) (builtin_preds 3 3 ++ flat_map (class_preds is.facts enums) all_entries) pred
          (subst (λ n. Contains (builtin_preds n n) pred) two has)
      by (inr three) =
          Contains-append_right (builtin_preds 2 2) (builtin_preds 3 3 ++ flat_map (class_preds is.facts enums) all_entries) pred
          (Contains-append_left (builtin_preds 3 3) (flat_map (class_preds is.facts enums) all_entries) pred
          (subst (λ n. Contains (builtin_preds n n) pred) three has))

  -- the predicate of a table that is found of a class
  pub record PredThere (class : Meaning) (name : List ℕ) (predicate : Predicate) : Type 0 where
    pub pred : Pred
    pub there : Contains table.preds pred
    pub of : pred.class ≡ class_number is.facts.names class
    pub named : pred.name ≡ name
    pub params : seen_of is.facts predicate ≡ names_of pred.params
    pub built_in : predicate ≡ predicates.BuiltIn → HasQuantity pred

  pub pred_there : (class : Meaning) (name : List ℕ) (predicate : Predicate) → IsPlaced files table given is class → FoundIn is.facts name class predicate
      → PredThere class name predicate
  pred_there (meanings.Entry class) name predicate placed (found_member entry member at called parts it line there same) =
      let number = class_number is.facts.names (meanings.Entry class) in
      let one : Pred = record { class = number; name = called.text; params = variables_of is.facts enums (parameters_of parts); kind = uses.Plain; rules = [] } in
      let some = members_of is.facts.names is.facts.program entry in
      let own_one = contains_kept (pred_of is.facts enums number) some (members.Predicate at called parts) one
      (contains_at some member (members.Predicate at called parts) there) refl in
      let here = Contains-append_right (given_preds number (above is.facts.names is.facts.program entry)) (filter_map (pred_of is.facts enums number) some) one own_one in
      let inside = contains_flat (preds_at is.facts enums number) (line_down is.facts class) entry one line here in
      record {
        pred = one;
        there = in_table placed.0 class one placed.1 inside;
        of = refl;
        named = same;
        params = ap (seen_of is.facts) it ∙ declared_names entry member at called parts there;
        built_in = λ built. absurd (let e : predicates.Declared entry member ≡ predicates.BuiltIn = sym it ∙ built in cc);
      }
  pred_there (meanings.Entry class) name predicate placed (found_given number it below named) =
      let own_number = class_number is.facts.names (meanings.Entry class) in
      let give = builtin_has own_number number name named in
      let one : Pred = give.0 in
      let entry : ℕ = below.0 in
      let some = members_of is.facts.names is.facts.program entry in
      let there : Contains (given_preds own_number (above is.facts.names is.facts.program entry)) one =
      subst (λ o. Contains (given_preds own_number o) one) (sym below.2) give.1 in
      let here = Contains-append_left (given_preds own_number (above is.facts.names is.facts.program entry)) (filter_map (pred_of is.facts enums own_number) some) one there in
      let inside = contains_flat (preds_at is.facts enums own_number) (line_down is.facts class) entry one below.1 here in
      record {
        pred = one;
        there = in_table placed.0 class one placed.1 inside;
        of = give.2.1;
        named = give.2.0;
        params = ap (seen_of is.facts) it ∙ sym (ap (λ (params : List VarDecl). names_of params) give.2.2);
        built_in = λ built. give.2.2;
      }
  pred_there (meanings.BuiltIn class) name predicate placed (found_member entry member at called parts it line there same) = absurd line
  pred_there (meanings.BuiltIn class) name predicate placed (found_given number it below named) =
      let give = builtin_has number number name named in
      record {
        pred = give.0;
        there = builtin_in_table number give.0 (which_builtin name number named) give.1;
        of = give.2.1 ∙ sym below;
        named = give.2.0;
        params = ap (seen_of is.facts) it ∙ sym (ap (λ (params : List VarDecl). names_of params) give.2.2);
        built_in = λ built. give.2.2;
      }

  pub owning_placed : (class : Meaning) (pred : Pred) → IsOwning class pred → IsPlaced files table given is class
  owning_placed (meanings.Entry entry) pred owning = owning
  owning_placed (meanings.BuiltIn number) pred owning = tt

  -- of a class there is one predicate of a name
  pub one_pred : (one other : Pred) → Contains table.preds one → Contains table.preds other → one.class ≡ other.class → one.name ≡ other.name → one ≡ other
  one_pred one other has there class name = same_by_name table.preds (differing_preds files table (bare table) (has_table files table given is)) one other has there class name

  -- a predicate that is found by the name of one of a class has its parameters
  pub params_same : (pred : Pred) → Contains table.preds pred → (own : HasOwner pred) (predicate : Predicate)
      → FoundIn is.facts pred.name own.class predicate → seen_of is.facts predicate ≡ names_of pred.params
  params_same pred has own predicate found =
      let it = pred_there own.class pred.name predicate (owning_placed own.class pred own.owning) found in
      it.params ∙ ap (λ (p : Pred). names_of p.params) (one_pred it.pred pred it.there has (it.of ∙ sym own.number) it.named)

  -- so a built-in one has its quantity
  pub quantity_of : (pred : Pred) → Contains table.preds pred → (own : HasOwner pred) (predicate : Predicate)
      → FoundIn is.facts pred.name own.class predicate → predicate ≡ predicates.BuiltIn → HasQuantity pred
  quantity_of pred has own predicate found built =
      let it = pred_there own.class pred.name predicate (owning_placed own.class pred own.owning) found in
      subst HasQuantity (one_pred it.pred pred it.there has (it.of ∙ sym own.number) it.named) (it.built_in built)

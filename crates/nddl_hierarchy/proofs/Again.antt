-- What is found along one round of a line is found along the whole line.
use Rattle.std.proofs.Common.{◌≡◌, ℕ, ◌||◌, inl, inr, Bool, true, false, List, [], ◌∷◌, ◌++◌, map, refl, sym, ◌∙◌, ap, subst}
use Rattle.std.specs.Prelude.{Option, Some, None, All, Contains}
use Rattle.std.specs.List.{AllByRecursion, list_any}
use Rattle.std.proofs.lemmas.List.Elements.{All-head, All-tail, All-weaker}
use Rattle.std.proofs.lemmas.List.Folds.{list_any-append, list_any_at, list_any_none}
use Rattle.eu_name.proofs.Ordered.{contains_cases, contains_none}
use Rattle.eu_forest.specs.Ancestors.{ancestry}
use Rattle.eu_index.specs.Index.{Noted}
use Rattle.nddl_ast.specs.declared.declaration.Decl.{Decl}
use Rattle.nddl_ast.specs.declared.name.Name.{Name}
use Rattle.nddl_symbols.specs.declared.declared.Declared.{Declared}
use Rattle.nddl_symbols.specs.declared.scope.Meaning.{Meaning}
use Rattle.nddl_symbols.specs.declared.scope.Meaning.TheVariants as meanings
use Rattle.nddl_hierarchy.specs.Ancestors.{above, is_extended, means}
use Rattle.nddl_hierarchy.specs.Decls.{members_of}
use Rattle.nddl_hierarchy.specs.Inherited.{builtin_members, builtin_noted, class_noted, line_noted, member_names, words_noted}
use Rattle.nddl_hierarchy.specs.Rounds.{IsRound}
use Rattle.nddl_hierarchy.proofs.Noting.{IsNoted, all_stay, names_as_words, words_append, words_known, words_there}

-- ---- whether one passes a test

none_of : (test : ℕ → Bool) (line : List ℕ) (here : ℕ) → Contains line here → list_any test line ≡ false → test here ≡ false
none_of test line here there none = by (test here) refl
  where
    by : (passes : Bool) → test here ≡ passes → test here ≡ false
    by false is = is
    by true is =
        let told : list_any test line ≡ true = list_any_at test line there.0 here there.1 (ap test there.2 ∙ is) in
        absurd (let e : true ≡ false = sym told ∙ none in cc)

any_again : (test : ℕ → Bool) (line again : List ℕ) → All (Contains line) again → list_any test (line ++ again) ≡ list_any test line
any_again test line again known = list_any-append test line again ∙ by (list_any test line) refl
  where
    by : (passes : Bool) → list_any test line ≡ passes → (passes || list_any test again) ≡ passes
    by true is = refl
    by false is = list_any_none test again (All-weaker (Contains line) (λ here. test here ≡ false) (λ here there. none_of test line here there is) again known)

-- a class of the whole line extends this one where one of the round does
pub round_extended : (names : List Declared) (program : List Decl) (class : Meaning) (parents : List (Option ℕ)) (entry : ℕ) (line : List ℕ)
    → IsRound parents entry line → is_extended names program class line ≡ is_extended names program class (ancestry parents entry)
round_extended names program class parents entry line is =
    sym (ap (is_extended names program class) is.whole
    ∙ any_again (λ here. means class (above names program here)) line is.again is.known)

-- ---- the names that are noted

abbrev builtin_words : Option Meaning → List (List ℕ)
builtin_words None = []
builtin_words (Some (meanings.BuiltIn number)) = builtin_members number
builtin_words (Some (meanings.Entry entry)) = []

builtin_as_words : (noted : Noted) (extended : Option Meaning) → builtin_noted noted extended ≡ words_noted noted (builtin_words extended)
builtin_as_words noted None = refl
builtin_as_words noted (Some (meanings.BuiltIn number)) = refl
builtin_as_words noted (Some (meanings.Entry entry)) = refl

module _ (names : List Declared) (program : List Decl) where
  -- the names of the members of the class of this number, as words
  abbrev own_words : ℕ → List (List ℕ)
  own_words entry = map (λ (name : Name). name.text) (member_names (members_of names program entry))

  abbrev class_words : ℕ → List (List ℕ)
  class_words entry = own_words entry ++ builtin_words (above names program entry)

  class_as_words : (noted : Noted) (entry : ℕ) → class_noted names program noted entry ≡ words_noted noted (class_words entry)
  class_as_words noted entry =
      ap (λ some. builtin_noted some (above names program entry)) (names_as_words noted (member_names (members_of names program entry)))
      ∙ (builtin_as_words (words_noted noted (own_words entry)) (above names program entry)
      ∙ sym (words_append noted (own_words entry) (builtin_words (above names program entry))))

  -- all names of the class of this number are noted
  abbrev HasClass : Noted → ℕ → Type 0
  HasClass noted entry = AllByRecursion (IsNoted noted) (class_words entry)

  class_there : (noted : Noted) (entry : ℕ) → HasClass (class_noted names program noted entry) entry
  class_there noted entry =
      let P : Noted → Type 0 = λ some. AllByRecursion (IsNoted some) (class_words entry) in
      subst P (sym (class_as_words noted entry)) (words_there noted (class_words entry))

  class_stays : (noted : Noted) (entry other : ℕ) → HasClass noted other → HasClass (class_noted names program noted entry) other
  class_stays noted entry other has =
      let P : Noted → Type 0 = λ some. AllByRecursion (IsNoted some) (class_words other) in
      subst P (sym (class_as_words noted entry)) (all_stay noted (class_words entry) (class_words other) has)

  class_known : (noted : Noted) (entry : ℕ) → HasClass noted entry → class_noted names program noted entry ≡ noted
  class_known noted entry has = class_as_words noted entry ∙ words_known noted (class_words entry) has

  line_stays : (noted : Noted) (line : List ℕ) (other : ℕ) → HasClass noted other → HasClass (line_noted names program noted line) other
  line_stays noted [] other has = has
  line_stays noted (entry ∷ more) other has =
      line_stays (class_noted names program noted entry) more other (class_stays noted entry other has)

  line_there : (noted : Noted) (line : List ℕ) (other : ℕ) → Contains line other → HasClass (line_noted names program noted line) other
  line_there noted [] other there = absurd (contains_none other there)
  line_there noted (entry ∷ more) other there =
      let next = class_noted names program noted entry in
      let P : ℕ → Type 0 = λ number. HasClass (line_noted names program next more) number in
      elim (contains_cases entry other more there) [
        | inl same ↦ subst P same (line_stays next more entry (class_there noted entry))
        | inr later ↦ line_there next more other later
      ]

  -- classes whose names are noted add nothing
  line_known : (noted : Noted) (line : List ℕ) → All (HasClass noted) line → line_noted names program noted line ≡ noted
  line_known noted [] all = refl
  line_known noted (entry ∷ more) all =
      ap (λ some. line_noted names program some more) (class_known noted entry (All-head (HasClass noted) entry more all))
      ∙ line_known noted more (All-tail (HasClass noted) entry more all)

  line_append : (noted : Noted) (one other : List ℕ) → line_noted names program noted (one ++ other) ≡ line_noted names program (line_noted names program noted one) other
  line_append noted [] other = refl
  line_append noted (entry ∷ one) other = line_append (class_noted names program noted entry) one other

  -- along one round the same names are noted as along the whole line
  pub round_noted : (parents : List (Option ℕ)) (entry : ℕ) (line : List ℕ) → IsRound parents entry line
      → line_noted names program [] line ≡ line_noted names program [] (ancestry parents entry)
  round_noted parents entry line is =
      let noted = line_noted names program [] line in
      let there = All-weaker (Contains line) (HasClass noted) (line_there [] line) is.again is.known in
      sym (ap (line_noted names program []) is.whole ∙ (line_append [] line is.again ∙ line_known noted is.again there))

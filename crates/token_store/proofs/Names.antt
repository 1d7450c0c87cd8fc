-- Tokens found by their names.
use Rattle.std.proofs.Common.{◌≡◌, ℕ, zero, suc, Bool, true, false, cond, List, [], ◌∷◌, slice_get, position, is_some, Option, Some, None, refl, sym, ap, ◌∙◌, subst, true≢false}
use Rattle.std.proofs.lemmas.List.Quantifiers.{position-Some}
use Rattle.std.proofs.lemmas.Option.{slice_get-get_or}
use Rattle.std.specs.List.{IsDistinct, AllByRecursion}
use Rattle.std.specs.Map.{lookup}
use Rattle.eu_name.specs.declared.name.TokenName.{TokenName}
use Rattle.eu_name.specs.Laws.{DecidesEquality}
use Rattle.token_store.specs.Tokens.{TokenList, token_names, IsNamedAt, IsNewName, FindsToken}

some_is : {X : Type 0} (one other : X) → Some one ≡ Some other → one ≡ other
some_is one other same = cc

all_at : {X : Type 0} (P : X → Type 0) (list : List X) (place : ℕ) (x : X) → AllByRecursion P list → slice_get list place ≡ Some x → P x
all_at P [] place x all is = cc
all_at P (first ∷ list) zero x all is = subst P (some_is first x is) all.0
all_at P (first ∷ list) (suc place) x all is = all_at P list place x all.1 is

-- distinct names stand at distinct places
distinct_places : (test : TokenName → TokenName → Bool) → DecidesEquality test → (names : List TokenName) (one other : ℕ) (name : TokenName)
    → IsDistinct test names → slice_get names one ≡ Some name → slice_get names other ≡ Some name → one ≡ other
unfolding IsDistinct
distinct_places test tells [] one other name distinct is are = cc
distinct_places test tells (first ∷ names) zero zero name distinct is are = refl
distinct_places test tells (first ∷ names) zero (suc other) name distinct is are =
    absurd (true≢false (sym ((tells first name).1 (some_is first name is)) ∙ all_at (λ y. test first y ≡ false) names other name distinct.0 are))
distinct_places test tells (first ∷ names) (suc one) zero name distinct is are =
    absurd (true≢false (sym ((tells first name).1 (some_is first name are)) ∙ all_at (λ y. test first y ≡ false) names one name distinct.0 is))
distinct_places test tells (first ∷ names) (suc one) (suc other) name distinct is are =
    ap suc (distinct_places test tells names one other name distinct.1 is are)

-- a name that no look-up finds
absent : (test : TokenName → TokenName → Bool) → DecidesEquality test → (tokens : TokenList) (name : TokenName)
    → is_some (lookup (test name) tokens) ≡ false → IsNewName tokens name
absent test tells [] name none place is = cc
absent test tells (token ∷ tokens) name none place is = by (test name token.0) refl place is (absent test tells tokens name)
  where
    by : (b : Bool) → test name token.0 ≡ b → (place : ℕ) → IsNamedAt (token ∷ tokens) place name
        → (is_some (lookup (test name) tokens) ≡ false → IsNewName tokens name) → ⊥
    by true same place is rest =
        absurd (true≢false (sym (ap (λ b. is_some (cond b (Some token.1) (lookup (test name) tokens))) same) ∙ none))
    by false differ zero is rest = absurd (true≢false (sym ((tells name token.0).1 (sym (some_is token.0 name is))) ∙ differ))
    by false differ (suc place) is rest =
        rest (sym (ap (λ b. is_some (cond b (Some token.1) (lookup (test name) tokens))) differ) ∙ none) place is

-- and no look-up finds a new name
pub new_absent : (test : TokenName → TokenName → Bool) → DecidesEquality test → (tokens : TokenList) (name : TokenName)
    → IsNewName tokens name → lookup (test name) tokens ≡ None
new_absent test tells [] name new = refl
new_absent test tells (token ∷ tokens) name new = by (test name token.0) refl (new_absent test tells tokens name (λ place is. new (suc place) is))
  where
    by : (b : Bool) → test name token.0 ≡ b → lookup (test name) tokens ≡ None → lookup (test name) (token ∷ tokens) ≡ None
    by true same rest = absurd (new 0 (ap Some (sym ((tells name token.0).0 same))))
    by false differ rest = ap (λ b. cond b (Some token.1) (lookup (test name) tokens)) differ ∙ rest

pub finds : (test : TokenName → TokenName → Bool) → DecidesEquality test → (tokens : TokenList) (name : TokenName) (found : Option ℕ)
    → found ≡ position (test name) (token_names tokens) → is_some found ≡ is_some (lookup (test name) tokens)
    → IsDistinct test (token_names tokens) → FindsToken tokens name found
finds test tells tokens name None is some distinct = absent test tells tokens name (sym some)
finds test tells tokens name (Some place) is some distinct =
    let at = position-Some (test name) (token_names tokens) place name (sym is) in
    let named : IsNamedAt tokens place name = slice_get-get_or (token_names tokens) place name at.0 ∙ ap Some (sym ((tells name _).0 at.1)) in
    (named, λ other are. distinct_places test tells (token_names tokens) other place name distinct are named)

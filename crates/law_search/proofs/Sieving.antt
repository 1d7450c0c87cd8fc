-- What passes a test.
use Rattle.std.proofs.Common.{◌≡◌, Bool, true, false, inl, inr, List, [], ◌∷◌, refl, sym, ap, ◌∙◌, subst, cond, get_or}
use Rattle.std.specs.Prelude.{All, Contains, filter}
use Rattle.std.proofs.lemmas.List.Elements.{All-contains, All-contains_itself, All-filter, filter_passes, Contains-get_or}
use Rattle.eu_name.proofs.Ordered.{contains_head, contains_later, contains_cases, contains_none}

module _ {X : Type 0} (passes : X → Bool) where
  pub filter_contains : (xs : List X) (x : X) → Contains (filter passes xs) x → Contains xs x × (passes x ≡ true)
  filter_contains xs x there = (
    All-contains (Contains xs) (filter passes xs) x (All-filter passes (Contains xs) xs (All-contains_itself xs)) there,
    All-contains (λ y. passes y ≡ true) (filter passes xs) x (filter_passes passes xs) there,
  )

  pub contains_filter : (xs : List X) (x : X) → Contains xs x → passes x ≡ true → Contains (filter passes xs) x
  contains_filter [] x there is = absurd (contains_none x there)
  contains_filter (y ∷ xs) x there is = elim (contains_cases y x xs there) [
    | inl same ↦ subst (λ l. Contains l x) (sym (ap (λ t. cond t (y ∷ filter passes xs) (filter passes xs)) (ap passes same ∙ is)))
        (subst (λ z. Contains (y ∷ filter passes xs) z) same (contains_head y (filter passes xs)))
    | inr later ↦ by_test (passes y) refl (contains_filter xs x later is)
  ]
    where
      by_test : (test : Bool) → passes y ≡ test → Contains (filter passes xs) x → Contains (cond (passes y) (y ∷ filter passes xs) (filter passes xs)) x
      by_test true e rest = subst (λ t. Contains (cond t (y ∷ filter passes xs) (filter passes xs)) x) (sym e) (contains_later y x (filter passes xs) rest)
      by_test false e rest = subst (λ t. Contains (cond t (y ∷ filter passes xs) (filter passes xs)) x) (sym e) rest

-- what holds of each member holds of all
pub all_members : {X : Type 0} (P : X → Type 0) (xs : List X) → ((x : X) → Contains xs x → P x) → All P xs
all_members P xs each = λ k d within. each (get_or xs k d) (Contains-get_or xs k d within)

-- Lists that are gone through side by side.
use Rattle.std.proofs.Common.{◌≡◌, ℕ, ◌+◌, ◌<◌, ◌≤◌, List, [], ◌∷◌, ◌++◌, length, get_or, drop, ◌↔◌, refl, sym, ap, ◌∙◌, subst}
use Rattle.std.specs.List.{AllZip}
use Rattle.model_core.specs.declared.variable.VarDecl.{VarDecl}
use Rattle.model_lawful.specs.Classes.{BeginsWith}
use Rattle.model_rules.proofs.Splitting.{drop_at, drop_past}

-- ---- fronts

module _ (variables front left : List VarDecl) (i : ℕ) (before : BeginsWith variables front ↔ BeginsWith left (drop i front)) where
  pub begins_all : length front ≤ i → BeginsWith variables front
  begins_all past = before.1 (left, ap (λ l. l ++ left) (sym (drop_past front i past)))

  module _ (expected : VarDecl) (below : i < length front) (is : expected ≡ get_or front i expected) where
    next : BeginsWith variables front → BeginsWith left (expected ∷ drop (i + 1) front)
    next begins = subst (BeginsWith left) (drop_at front i expected below is) (before.0 begins)

    pub begins_none : left ≡ [] → BeginsWith variables front → ⊥
    begins_none none begins = let at = next begins in let no : [] ≡ expected ∷ (drop (i + 1) front ++ at.0) = sym none ∙ at.1 in cc

    pub begins_apart : (variable : VarDecl) (others : List VarDecl) → left ≡ variable ∷ others → (variable ≡ expected → ⊥) → BeginsWith variables front → ⊥
    begins_apart variable others is_left apart begins =
        let at = next begins in
        let same : variable ∷ others ≡ expected ∷ (drop (i + 1) front ++ at.0) = sym is_left ∙ at.1 in
        apart (cc)

    pub begins_next : (variable : VarDecl) (others : List VarDecl) → left ≡ variable ∷ others → variable ≡ expected → BeginsWith variables front ↔ BeginsWith others (drop (i + 1) front)
    begins_next variable others is_left same = (
      λ begins. (
          let at = next begins in
          let both : variable ∷ others ≡ expected ∷ (drop (i + 1) front ++ at.0) = sym is_left ∙ at.1 in
          let rest : others ≡ drop (i + 1) front ++ at.0 = cc in
          (at.0, rest)),
      λ rest. before.1 (subst (BeginsWith left) (sym (drop_at front i expected below is))
          (rest.0, is_left ∙ (ap (λ v. v ∷ others) same ∙ ap (λ l. expected ∷ l) rest.1))),
    )

-- ---- pairs

module _ {X Y : Type 0} (R : X → Y → Type 0) (xs : List X) (ys left : List Y) (i : ℕ) (before : AllZip R xs ys ↔ AllZip R (drop i xs) left) where
  pub zips_none : length xs ≤ i → left ≡ [] → AllZip R xs ys
  zips_none past none = before.1 (subst (λ l. AllZip R l left) (sym (drop_past xs i past)) (subst (AllZip R []) (sym none) tt))

  pub zips_over : length xs ≤ i → (left ≡ [] → ⊥) → AllZip R xs ys → ⊥
  zips_over past some zips = over left some (subst (λ l. AllZip R l left) (drop_past xs i past) (before.0 zips))
    where
      over : (rest : List Y) → (rest ≡ [] → ⊥) → AllZip R [] rest → ⊥
      over [] some zips = some refl
      over (y ∷ rest) some zips = zips

  module _ (x : X) (below : i < length xs) (is : x ≡ get_or xs i x) where
    zips_at : AllZip R xs ys → AllZip R (x ∷ drop (i + 1) xs) left
    zips_at zips = subst (λ l. AllZip R l left) (drop_at xs i x below is) (before.0 zips)

    pub zips_short : left ≡ [] → AllZip R xs ys → ⊥
    zips_short none zips = subst (AllZip R (x ∷ drop (i + 1) xs)) none (zips_at zips)

    pub zips_apart : (y : Y) (others : List Y) → left ≡ y ∷ others → (R x y → ⊥) → AllZip R xs ys → ⊥
    zips_apart y others is_left apart zips = apart (subst (AllZip R (x ∷ drop (i + 1) xs)) is_left (zips_at zips)).0

    pub zips_next : (y : Y) (others : List Y) → left ≡ y ∷ others → R x y → AllZip R xs ys ↔ AllZip R (drop (i + 1) xs) others
    zips_next y others is_left holds = (
      λ zips. (subst (AllZip R (x ∷ drop (i + 1) xs)) is_left (zips_at zips)).1,
      λ rest. before.1 (subst (λ l. AllZip R l left) (sym (drop_at xs i x below is)) (subst (AllZip R (x ∷ drop (i + 1) xs)) (sym is_left) (holds, rest))),
    )

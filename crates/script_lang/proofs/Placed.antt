-- What holds of two lists place by place.
use Rattle.std.proofs.Common.{◌≡◌, ℕ, zero, suc, ◌+◌, ◌<◌, List, [], ◌∷◌, ◌++◌, length, take, drop, get_or, refl, subst, arith}
use Rattle.std.specs.List.{AllZip}
use Rattle.script_lang.specs.Compared.{AllPlaced}

module _ {A B : Type 0} (Holds : ℕ → A → B → Type 0) where
  -- one more of each
  pub placed_push : (place : ℕ) (ones : List A) (others : List B) (one : A) (other : B) → AllPlaced Holds place ones others → Holds (place + length ones) one other
      → AllPlaced Holds place (ones ++ one ∷ []) (others ++ other ∷ [])
  placed_push place [] [] one other all holds = (subst (λ (n : ℕ). Holds n one other) (omega arith) holds, tt)
  placed_push place (first ∷ ones) (second ∷ others) one other all holds =
      (all.0, placed_push (place + 1) ones others one other all.1 (subst (λ (n : ℕ). Holds n one other) (omega arith) holds))
  placed_push place [] (second ∷ others) one other all holds = absurd all
  placed_push place (first ∷ ones) [] one other all holds = absurd all

  -- what stands at a place of the first list has something that goes with it
  pub placed_at : (place : ℕ) (ones : List A) (others : List B) (n : ℕ) (one : A) → AllPlaced Holds place ones others → n < length ones → get_or ones n one ≡ one
      → (other : B) × Holds (place + n) one other
  placed_at place [] [] n one all within is = absurd (omega (arith, within))
  placed_at place (first ∷ ones) (second ∷ others) zero one all within is =
      (second, subst (λ (a : A). Holds (place + 0) a second) is (subst (λ (m : ℕ). Holds m first second) (omega arith) all.0))
  placed_at place (first ∷ ones) (second ∷ others) (suc n) one all within is =
      let found = placed_at (place + 1) ones others n one all.1 (omega (arith, within)) is in
      (found.0, subst (λ (m : ℕ). Holds m one found.0) (omega arith) found.1)
  placed_at place [] (second ∷ others) n one all within is = absurd all
  placed_at place (first ∷ ones) [] n one all within is = absurd all

-- what holds of equally long lists by place may be weakened
pub placed_map : {A B : Type 0} (One Other : ℕ → A → B → Type 0) → ((place : ℕ) (one : A) (other : B) → One place one other → Other place one other)
    → (place : ℕ) (ones : List A) (others : List B) → AllPlaced One place ones others → AllPlaced Other place ones others
placed_map One Other weaker place [] [] all = tt
placed_map One Other weaker place (one ∷ ones) (other ∷ others) all = (weaker place one other all.0, placed_map One Other weaker (place + 1) ones others all.1)
placed_map One Other weaker place [] (other ∷ others) all = all
placed_map One Other weaker place (one ∷ ones) [] all = all

-- two lists that go with a third one by place
pub placed_zip : {A B C : Type 0} (One : ℕ → A → B → Type 0) (Other : ℕ → A → C → Type 0) (Both : B → C → Type 0)
    → ((place : ℕ) (item : A) (one : B) (other : C) → One place item one → Other place item other → Both one other)
    → (place : ℕ) (items : List A) (ones : List B) (others : List C) → AllPlaced One place items ones → AllPlaced Other place items others → AllZip Both ones others
placed_zip One Other Both joins place [] [] [] first second = tt
placed_zip One Other Both joins place (item ∷ items) (one ∷ ones) (other ∷ others) first second =
    (joins place item one other first.0 second.0, placed_zip One Other Both joins (place + 1) items ones others first.1 second.1)
placed_zip One Other Both joins place [] [] (other ∷ others) first second = absurd second
placed_zip One Other Both joins place [] (one ∷ ones) others first second = absurd first
placed_zip One Other Both joins place (item ∷ items) [] others first second = absurd first
placed_zip One Other Both joins place (item ∷ items) (one ∷ ones) [] first second = absurd second

-- what holds of two lists wherever it is holds by place
pub placed_of_zip : {A B : Type 0} (Both : A → B → Type 0) (place : ℕ) (ones : List A) (others : List B) → AllZip Both ones others → AllPlaced (λ (n : ℕ). Both) place ones others
placed_of_zip Both place [] [] zip = tt
placed_of_zip Both place (one ∷ ones) (other ∷ others) zip = (zip.0, placed_of_zip Both (place + 1) ones others zip.1)
placed_of_zip Both place [] (other ∷ others) zip = absurd zip
placed_of_zip Both place (one ∷ ones) [] zip = absurd zip

-- lists that go together as equals are one
pub zip_same : {A : Type 0} (ones others : List A) → AllZip ◌≡◌ ones others → ones ≡ others
zip_same [] [] zip = refl
zip_same (one ∷ ones) (other ∷ others) zip =
    let front : one ≡ other = zip.0 in
    let back : ones ≡ others = zip_same ones others zip.1 in
    cc
zip_same [] (other ∷ others) zip = absurd zip
zip_same (one ∷ ones) [] zip = absurd zip

-- ---- parts of lists that go together

module _ {A B : Type 0} (Both : A → B → Type 0) where
  -- one more of each
  pub zip_more : (ones : List A) (others : List B) (one : A) (other : B) → AllZip Both ones others → Both one other → AllZip Both (ones ++ one ∷ []) (others ++ other ∷ [])
  zip_more [] [] one other zip both = (both, tt)
  zip_more (first ∷ ones) (second ∷ others) one other zip both = (zip.0, zip_more ones others one other zip.1 both)
  zip_more [] (second ∷ others) one other zip both = absurd zip
  zip_more (first ∷ ones) [] one other zip both = absurd zip

  pub zip_long : (ones : List A) (others : List B) → AllZip Both ones others → length others ≡ length ones
  zip_long [] [] zip = refl
  zip_long (one ∷ ones) (other ∷ others) zip = omega (arith, zip_long ones others zip.1)
  zip_long [] (other ∷ others) zip = absurd zip
  zip_long (one ∷ ones) [] zip = absurd zip

  -- what stands at one place
  pub zip_at : (ones : List A) (others : List B) (n : ℕ) (one : A) (other : B) → AllZip Both ones others → n < length ones → get_or ones n one ≡ one → get_or others n other ≡ other → Both one other
  zip_at [] [] n one other zip within is too = absurd (omega (arith, within))
  zip_at (first ∷ ones) (second ∷ others) zero one other zip within is too = subst (λ (b : B). Both one b) too (subst (λ (a : A). Both a second) is zip.0)
  zip_at (first ∷ ones) (second ∷ others) (suc n) one other zip within is too = zip_at ones others n one other zip.1 (omega (arith, within)) is too
  zip_at [] (second ∷ others) n one other zip within is too = absurd zip
  zip_at (first ∷ ones) [] n one other zip within is too = absurd zip

  pub zip_take : (n : ℕ) (ones : List A) (others : List B) → AllZip Both ones others → AllZip Both (take n ones) (take n others)
  zip_take n [] [] zip = nothing n
    where
      nothing : (n : ℕ) → AllZip Both (take n []) (take n [])
      nothing zero = tt
      nothing (suc n) = tt
  zip_take zero (one ∷ ones) (other ∷ others) zip = tt
  zip_take (suc n) (one ∷ ones) (other ∷ others) zip = (zip.0, zip_take n ones others zip.1)
  zip_take n [] (other ∷ others) zip = absurd zip
  zip_take n (one ∷ ones) [] zip = absurd zip

  pub zip_drop : (n : ℕ) (ones : List A) (others : List B) → AllZip Both ones others → AllZip Both (drop n ones) (drop n others)
  zip_drop zero ones others zip = zip
  zip_drop (suc n) [] [] zip = tt
  zip_drop (suc n) (one ∷ ones) (other ∷ others) zip = zip_drop n ones others zip.1
  zip_drop (suc n) [] (other ∷ others) zip = absurd zip
  zip_drop (suc n) (one ∷ ones) [] zip = absurd zip

  pub zip_append : (ones : List A) (others : List B) (more : List A) (further : List B) → AllZip Both ones others → AllZip Both more further → AllZip Both (ones ++ more) (others ++ further)
  zip_append [] [] more further zip rest = rest
  zip_append (one ∷ ones) (other ∷ others) more further zip rest = (zip.0, zip_append ones others more further zip.1 rest)
  zip_append [] (other ∷ others) more further zip rest = absurd zip
  zip_append (one ∷ ones) [] more further zip rest = absurd zip

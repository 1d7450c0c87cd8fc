-- The earliest of the instants of a list at which something is so.
use Rattle.std.proofs.Common.{◌≡◌, ℕ, ◌+◌, ◌<◌, ◌≤◌, ℤ, ◌≤ℤ◌, ◌<ℤ◌, ◌⊎◌, inl, inr, List, length, get_or, take, Option, Some, None, MatchOption, sym, subst, arith}
use Rattle.std.specs.Prelude.{All, ⊤, IfSome, IfNone}
use Rattle.std.proofs.lemmas.Int.{ints, by_lt_z}
use Rattle.std.proofs.lemmas.List.{take_all}
use Rattle.std.proofs.lemmas.List.Elements.{All-more, All-weaker}
use Rattle.resource_profile.specs.Instant.{IsFirst, IsEarlier}

-- it is so at the instant that was found, and at none of the list before it; or at none of the list
abbrev pub IsFirstAmong : {X : Type 0} → (X → ℤ) → (ℤ → Type 0) → List X → Option ℤ → Type 0
IsFirstAmong key is_so xs None = All (λ x. is_so (key x) → ⊥) xs
IsFirstAmong key is_so xs (Some found) = is_so found × All (λ x. is_so (key x) → found ≤ℤ key x) xs

module _ {X : Type 0} (key : X → ℤ) (is_so : ℤ → Type 0) (xs : List X) (i : ℕ) (d : X) (within : i < length xs) where
  -- an earlier one takes the place of the one found
  pub takes : (found : Option ℤ) → MatchOption found ⊤ (λ other. key (get_or xs i d) <ℤ other) → is_so (key (get_or xs i d))
      → IsFirstAmong key is_so (take i xs) found → IsFirstAmong key is_so (take (i + 1) xs) (Some (key (get_or xs i d)))
  takes None earlier here so_far = (
    here,
    All-more (λ x. is_so (key x) → key (get_or xs i d) ≤ℤ key x) xs i d within
        (All-weaker (λ x. is_so (key x) → ⊥) (λ x. is_so (key x) → key (get_or xs i d) ≤ℤ key x) (λ x none so. absurd (none so)) (take i xs) so_far)
        (λ so. omega (arith, ints)),
  )
  takes (Some found) earlier here so_far = (
    here,
    All-more (λ x. is_so (key x) → key (get_or xs i d) ≤ℤ key x) xs i d within
        (All-weaker (λ x. is_so (key x) → found ≤ℤ key x) (λ x. is_so (key x) → key (get_or xs i d) ≤ℤ key x) (λ x later so. let after = later so in omega (arith, ints)) (take i xs) so_far.1)
        (λ so. omega (arith, ints)),
  )

  -- one that isn't earlier, or where it isn't so, leaves it in place
  pub keeps : (found : Option ℤ) → (MatchOption found ⊤ (λ other. key (get_or xs i d) <ℤ other) → is_so (key (get_or xs i d)) → ⊥)
      → IsFirstAmong key is_so (take i xs) found → IsFirstAmong key is_so (take (i + 1) xs) found
  keeps None not so_far = All-more (λ x. is_so (key x) → ⊥) xs i d within so_far (not tt)
  keeps (Some found) not so_far = (
    so_far.0,
    All-more (λ x. is_so (key x) → found ≤ℤ key x) xs i d within so_far.1
        (λ so. by_lt_z (key (get_or xs i d)) found (λ earlier. absurd (not earlier so)) (λ later. later)),
  )

-- the front of the list is the whole list in the end
pub looked_at_all : {X : Type 0} (key : X → ℤ) (is_so : ℤ → Type 0) (xs : List X) (i : ℕ) (found : Option ℤ) → length xs ≤ i → IsFirstAmong key is_so (take i xs) found → IsFirstAmong key is_so xs found
looked_at_all key is_so xs i found end among = subst (λ ys. IsFirstAmong key is_so ys found) (take_all i xs end) among

-- what holds of two numbers holds of their equals
pub along_two : (P : ℤ → ℤ → Type 0) (a b a' b' : ℤ) → a ≡ a' → b ≡ b' → P a b → P a' b'
along_two P a b a' b' p q h = subst (λ x. P x b') p (subst (P a) q h)

pub along_three : (P : ℤ → ℤ → ℤ → Type 0) (a b c a' b' c' : ℤ) → a ≡ a' → b ≡ b' → c ≡ c' → P a b c → P a' b' c'
along_three P a b c a' b' c' p q r h = subst (λ x. P x b' c') p (subst (λ x. P a x c') q (subst (P a b) r h))

-- the earlier of two firsts is the first of either
pub first_of_both : (one_so other_so : ℤ → Type 0) (one other found : Option ℤ) → IsEarlier one other found
    → IfSome one (IsFirst one_so) → IfNone one ((instant : ℤ) → one_so instant → ⊥)
    → IfSome other (IsFirst other_so) → IfNone other ((instant : ℤ) → other_so instant → ⊥)
    → IfSome found (IsFirst (λ instant. one_so instant ⊎ other_so instant))
first_of_both one_so other_so None None found is first none first' none' = rw is tt
first_of_both one_so other_so None (Some other) found is first none first' none' =
    rw is (inr first'.0, λ earlier before. elim [ inl so ↦ none earlier so | inr so ↦ first'.1 earlier before so ])
first_of_both one_so other_so (Some one) None found is first none first' none' =
    rw is (inl first.0, λ earlier before. elim [ inl so ↦ first.1 earlier before so | inr so ↦ none' earlier so ])
first_of_both one_so other_so (Some one) (Some other) found (least, (is, which, below, below')) first none first' none' =
    rw is (
      elim which [ inl same ↦ inl (subst one_so (sym same) first.0) | inr same ↦ inr (subst other_so (sym same) first'.0) ],
      λ earlier before. elim [
        | inl so ↦ first.1 earlier (omega (arith, ints)) so
        | inr so ↦ first'.1 earlier (omega (arith, ints)) so
      ],
    )

-- what is at an instant where the one is so, or the other
pub first_along : (so then_so : ℤ → Type 0) (found : Option ℤ) → ((instant : ℤ) → so instant → then_so instant) → ((instant : ℤ) → then_so instant → so instant)
    → IfSome found (IsFirst so) → IfSome found (IsFirst then_so)
first_along so then_so None into back first = tt
first_along so then_so (Some instant) into back first = (into instant first.0, λ earlier before later. first.1 earlier before (back earlier later))

-- Answers that say more, or another thing.
use Rattle.std.proofs.Common.{◌≡◌, ℕ, ◌+◌, ◌<◌, Bool, true, false, List, length, get_or, Option, Some, None, inl, inr, sym, ap, ◌∙◌, subst, arith}
use Rattle.std.specs.Prelude.{MatchBool, MatchOption, slice_get}
use Rattle.std.proofs.lemmas.Bool.{cases_lt}
use Rattle.eu_name.proofs.Members.{get_same}
use Rattle.model_core.proofs.Items.{item_at}

-- what holds in each case holds in another form
pub match_option : {A : Type 0} (answer : Option A) (N N' : Type 0) (S S' : A → Type 0) → (N → N') → ((a : A) → S a → S' a) → MatchOption answer N S → MatchOption answer N' S'
match_option None N N' S S' none some says = none says
match_option (Some a) N N' S S' none some says = some a says

pub match_bool : (answer : Bool) (Y Y' N N' : Type 0) → (Y → Y') → (N → N') → MatchBool answer Y N → MatchBool answer Y' N'
match_bool true Y Y' N N' yes_way no_way says = yes_way says
match_bool false Y Y' N N' yes_way no_way says = no_way says

-- ---- what was found of each item so far

-- the item that was read at the place
pub read_item : {A : Type 0} (xs : List A) (k : ℕ) (x : A) → k < length xs → x ≡ get_or xs k x → slice_get xs k ≡ Some x
read_item xs k x within is = item_at xs k x within ∙ ap (λ y. Some y) (sym is)

-- so it is with one item more
pub one_more : {A : Type 0} (P : A → Type 0) (xs : List A) (k : ℕ) (x : A) → k < length xs → x ≡ get_or xs k x
    → ((place : ℕ) (y : A) → place < k → slice_get xs place ≡ Some y → P y) → P x
    → (place : ℕ) (y : A) → place < k + 1 → slice_get xs place ≡ Some y → P y
one_more P xs k x within is before here place y below at = elim (cases_lt place k) [
  | inl less ↦ before place y less at
  | inr not_less ↦ (
      let same : place ≡ k = omega arith in
      subst P (get_same xs k x y (read_item xs k x within is) (subst (λ (n : ℕ). slice_get xs n ≡ Some y) same at)) here)
]

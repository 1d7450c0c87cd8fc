-- Short lists, item by item.
use Rattle.std.proofs.Common.{◌≡◌, ℕ, suc, zero, List, [], ◌∷◌, length, get_or, Some, ◌+◌, inl, inr, refl, ap, subst, arith}
use Rattle.std.specs.Prelude.{Contains, All, slice_get}
use Rattle.std.proofs.lemmas.List.Elements.{Contains-get_or}
use Rattle.model_core.specs.declared.model.Root.{Root}
use Rattle.model_core.specs.declared.model.RootKind.{RootKind}
use Rattle.eu_name.proofs.Ordered.{contains_cases, contains_none}
use Rattle.law_examples.specs.Scenes.{root_of, roots_from}

-- what holds of each member holds of all
pub all_members : {X : Type 0} (P : X → Type 0) (xs : List X) → ((x : X) → Contains xs x → P x) → All P xs
all_members P xs each = λ k d within. each (get_or xs k d) (Contains-get_or xs k d within)

-- a list of one item has that item alone
pub only_member : {X : Type 0} (x y : X) → Contains (x ∷ []) y → x ≡ y
only_member x y c = elim (contains_cases x y [] c) [ inl same ↦ same | inr later ↦ absurd (contains_none y later) ]

pub same_some : {X : Type 0} (x y : X) → Some x ≡ Some y → x ≡ y
same_some x y e = cc

-- ---- places

pub get_root : (first : ℕ) (kinds : List RootKind) (k : ℕ) (root : Root) → slice_get (roots_from first kinds) k ≡ Some root → (kind : RootKind) × ((slice_get kinds k ≡ Some kind) × (root_of (first + k) kind ≡ root))
get_root first [] k root e = absurd (cc)
get_root first (kind ∷ kinds) zero root e =
    (kind, (refl, subst (λ n. root_of n kind ≡ root) (let same : first ≡ first + zero = omega arith in same) (same_some (root_of first kind) root e)))
get_root first (kind ∷ kinds) (suc k) root e =
    let found = get_root (first + 1) kinds k root e in
    (found.0, (found.1.0, subst (λ n. root_of n found.0 ≡ root) (let same : first + 1 + k ≡ first + suc k = omega arith in same) found.1.1))

pub root_get : (first : ℕ) (kinds : List RootKind) (k : ℕ) (kind : RootKind) → slice_get kinds k ≡ Some kind → slice_get (roots_from first kinds) k ≡ Some (root_of (first + k) kind)
root_get first [] k kind e = absurd (cc)
root_get first (found ∷ kinds) zero kind e =
    subst (λ n. Some (root_of first found) ≡ Some (root_of n kind)) (let same : first ≡ first + zero = omega arith in same) (ap (λ z. Some (root_of first z)) (same_some found kind e))
root_get first (found ∷ kinds) (suc k) kind e =
    subst (λ n. slice_get (roots_from (first + 1) kinds) k ≡ Some (root_of n kind)) (let same : first + 1 + k ≡ first + suc k = omega arith in same) (root_get (first + 1) kinds k kind e)

-- lists of one length have items at the same places
pub get_alike : {X Y : Type 0} (xs : List X) (ys : List Y) (k : ℕ) (x : X) → length xs ≡ length ys → slice_get xs k ≡ Some x → (y : Y) × (slice_get ys k ≡ Some y)
get_alike [] ys k x lengths e = absurd (cc)
get_alike (x' ∷ xs) [] k x lengths e = absurd (omega arith)
get_alike (x' ∷ xs) (y ∷ ys) zero x lengths e = (y, refl)
get_alike (x' ∷ xs) (y ∷ ys) (suc k) x lengths e = get_alike xs ys k x (omega arith) e

-- What is among statements, and lines behind lines.
use Rattle.std.proofs.Common.{◌≡◌, ℕ, List, [], ◌∷◌, ◌++◌, map, Some, refl, sym, subst, inl, inr, Contains, arith, append_assoc}
use Rattle.std.proofs.lemmas.List.{append-nil}
use Rattle.model_core.specs.declared.model.Model.{Model}
use Rattle.eu_name.proofs.Ordered.{contains_head, contains_later, contains_cases}
use Rattle.plan_text.specs.declared.statement.Statement.{Statement}
use Rattle.plan_text.specs.Found.{Got}
use Rattle.plan_text.specs.Lines.{OneLine}
use Rattle.plan_text.specs.PlanTexts.{names_stated, HasLines}

pub contains_map : {X Y : Type 0} (f : X → Y) (xs : List X) (x : X) → Contains xs x → Contains (map f xs) (f x)
contains_map f [] x (k, within, is) = absurd (omega (arith, within))
contains_map f (y ∷ xs) x has = elim (contains_cases y x xs has) [
  | inl here ↦ subst (λ z. Contains (f y ∷ map f xs) (f z)) here (contains_head (f y) (map f xs))
  | inr later ↦ contains_later (f y) (f x) (map f xs) (contains_map f xs x later)
]

pub map_contains : {X Y : Type 0} (f : X → Y) (xs : List X) (y : Y) → Contains (map f xs) y → (x : X) × (Contains xs x × (f x ≡ y))
map_contains f [] y (k, within, is) = absurd (omega (arith, within))
map_contains f (x ∷ xs) y has = elim (contains_cases (f x) y (map f xs) has) [
  | inl here ↦ (x, (contains_head x xs, here))
  | inr later ↦ let found = map_contains f xs y later in (found.0, (contains_later x found.0 xs found.1.0, found.1.1))
]

-- one line more
pub lines_more : (model : Model) (before : List Statement) (text mid : List ℕ) (said : List Statement) (next : Statement) (rest : List ℕ) → HasLines model before text said mid
    → OneLine model (names_stated (before ++ said)) mid (Got (Some next) rest) → HasLines model before text (said ++ next ∷ []) rest
lines_more model before text mid [] next rest same line =
    (rest, (subst (λ t. OneLine model (names_stated before) t (Got (Some next) rest)) same (subst (λ l. OneLine model (names_stated l) mid (Got (Some next) rest)) (append-nil before) line), refl))
lines_more model before text mid (first ∷ said) next rest (after, (one, more)) line = (
  after,
  (
    one,
    lines_more model (before ++ first ∷ []) after mid said next rest more
        (subst (λ l. OneLine model (names_stated l) mid (Got (Some next) rest)) (sym (append_assoc before (first ∷ []) said)) line),
  ),
)

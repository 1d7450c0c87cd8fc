-- Which of two lines comes first.
use Rattle.std.proofs.Common.{◌≡◌, ℕ, ◌<◌, List, get_or, inl, inr, refl, sym, ap, subst}
use Rattle.std.proofs.lemmas.Option.{slice_get_within, get_or_from_slice_get}
use Rattle.eu_name.specs.declared.name.Part.TheVariants.{Start}
use Rattle.eu_name.specs.declared.name.TokenName.{TokenName}
use Rattle.eu_name.specs.declared.name.VarName.{VarName}
use Rattle.eu_name.specs.declared.name.VarName.TheVariants.{Token, Local, Global}
use Rattle.eu_name.specs.NameOrder.{IsTokenBefore, IsVarBefore}
use Rattle.model_core.specs.declared.decision.Decision.{Decision}
use Rattle.model_core.specs.declared.model.Model.{Model}
use Rattle.model_core.specs.State.{State, AreInOrder}
use Rattle.model_core.specs.Views.{IsTokenAt}
use Rattle.plan_defs.specs.declared.plan.Line.{Line}
use Rattle.plan_defs.specs.Plans.{IsLineBefore, order_name}
use Rattle.plan_defs.specs.Terms.{BelongsTo}
use Rattle.plan_defs.specs.Surveying.{IsOwnLine, IsLocalLine, IsRuleLine, IsLocalsLine, IsLineOfPlace}

-- lines by the names that they go by
by_names : (x y : Line) (one other : VarName) → order_name x ≡ one → order_name y ≡ other → IsVarBefore one other → IsLineBefore x y
by_names x y one other p q before =
    subst (λ n. IsVarBefore n (order_name y)) (sym p) (subst (λ n. IsVarBefore one n) (sym q) before)

owners_before : (x y : VarName) (a b : TokenName) → BelongsTo x a → BelongsTo y b → IsTokenBefore a b → IsVarBefore x y
owners_before (Global m) y a b p q before = absurd p
owners_before (Token t part) (Global n) a b p q before = absurd q
owners_before (Local t rule m) (Global n) a b p q before = absurd q
owners_before (Token t part) (Token u other) a b p q before = inl (subst (λ x. IsTokenBefore x u) (sym p) (subst (λ y. IsTokenBefore a y) (sym q) before))
owners_before (Token t part) (Local u rule n) a b p q before = inl (subst (λ x. IsTokenBefore x u) (sym p) (subst (λ y. IsTokenBefore a y) (sym q) before))
owners_before (Local t rule m) (Token u other) a b p q before = inl (subst (λ x. IsTokenBefore x u) (sym p) (subst (λ y. IsTokenBefore a y) (sym q) before))
owners_before (Local t rule m) (Local u rule' n) a b p q before = inl (subst (λ x. IsTokenBefore x u) (sym p) (subst (λ y. IsTokenBefore a y) (sym q) before))

pub places_before : (state : State) → AreInOrder state → (one other : ℕ) (first second : TokenName) → one < other
    → IsTokenAt state one first → IsTokenAt state other second → IsTokenBefore first second
places_before state order one other first second before at at' =
    let within = slice_get_within state.tokens other second at' in
    subst (λ t. IsTokenBefore first t) (get_or_from_slice_get state.tokens other second first at')
    (subst (λ t. IsTokenBefore t (get_or state.tokens other first)) (get_or_from_slice_get state.tokens one first first at) (order.tokens one other first before within))

module _ (model : Model) (decisions : List Decision) (state : State) where
  module _ (token : TokenName) where
    pub locals_before : (rule m n : ℕ) (x y : Line) → m < n → IsLocalLine model decisions state token rule m x → IsLocalLine model decisions state token rule n y → IsLineBefore x y
    locals_before rule m n x y less p q =
        by_names x y (Local token rule m) (Local token rule n) (ap order_name p.2) (ap order_name q.2) (inr (refl, inr (refl, less)))

    pub rules_before : (r s : ℕ) (x y : Line) → r < s → IsRuleLine model decisions state token r x → IsRuleLine model decisions state token s y → IsLineBefore x y
    rules_before r s x y less p q =
        by_names x y (Local token r p.0) (Local token s q.0) (ap order_name p.1.2) (ap order_name q.1.2) (inr (refl, inl less))

    pub own_first : (x y : Line) → IsOwnLine model decisions state token x → IsLocalsLine model decisions state token y → IsLineBefore x y
    own_first x y p q = by_names x y (Token token Start) (Local token q.0 q.1.0) p.1 (ap order_name q.1.1.2) (inr (refl, tt))

  pub tokens_before : AreInOrder state → (m n : ℕ) (x y : Line) → m < n → IsLineOfPlace model decisions state m x → IsLineOfPlace model decisions state n y → IsLineBefore x y
  tokens_before order m n x y less p q =
      owners_before (order_name x) (order_name y) p.0 q.0 p.2.1 q.2.1 (places_before state order m n p.0 q.0 less p.1 q.1)

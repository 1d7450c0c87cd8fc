-- What a plan says of a token it says by one line.
use Rattle.std.proofs.Common.{◌≡◌, ℤ, true, false, List, inl, inr, refl}
use Rattle.std.specs.Prelude.{AllPairs, Contains}
use Rattle.eu_name.specs.declared.name.TokenName.{TokenName}
use Rattle.eu_name.specs.NameOrder.{IsVarBefore}
use Rattle.eu_name.proofs.Orders.{var_order}
use Rattle.plan_defs.specs.declared.plan.Line.{Line}
use Rattle.plan_defs.specs.declared.plan.Line.TheVariants as lines
use Rattle.plan_defs.specs.declared.plan.Plan.{Plan}
use Rattle.plan_defs.specs.Plans.{order_name, IsLineBefore, TakesPlaceWith, IsTakenIn}
use Rattle.eu_name.proofs.Ordered.{one_of_key}

module _ (plan : Plan) (order : AllPairs IsLineBefore plan.lines) where
  -- a name has one line
  pub one_line : (one other : Line) → Contains plan.lines one → Contains plan.lines other → order_name one ≡ order_name other → one ≡ other
  one_line one other p q e = one_of_key order_name IsVarBefore var_order.irreflexive plan.lines order one other p q e

  -- a token that takes place isn't merged, nor rejected
  pub own_or_merged : (token target : TokenName) (values : List ℤ) → TakesPlaceWith plan token values → Contains plan.lines (lines.Merged token target) → ⊥
  own_or_merged token target values p q =
      let e = one_line (lines.Token token p.0 values) (lines.Merged token target) p.1 q refl in
      absurd (cc)

  pub own_or_rejected : (token : TokenName) (values : List ℤ) → TakesPlaceWith plan token values → Contains plan.lines (lines.Rejected token) → ⊥
  own_or_rejected token values p q =
      let e = one_line (lines.Token token p.0 values) (lines.Rejected token) p.1 q refl in
      absurd (cc)

  pub merged_or_rejected : (token target : TokenName) → Contains plan.lines (lines.Merged token target) → Contains plan.lines (lines.Rejected token) → ⊥
  merged_or_rejected token target p q =
      let e = one_line (lines.Merged token target) (lines.Rejected token) p q refl in
      absurd (cc)

  -- what takes place does so as a fact or not
  pub fact_or_not : (token : TokenName) (values others : List ℤ) → Contains plan.lines (lines.Token token true values) → Contains plan.lines (lines.Token token false others) → ⊥
  fact_or_not token values others p q =
      let e = one_line (lines.Token token true values) (lines.Token token false others) p q refl in
      absurd (cc)

  -- a token has one target
  pub one_target : (token a b : TokenName) → Contains plan.lines (lines.Merged token a) → Contains plan.lines (lines.Merged token b) → a ≡ b
  one_target token a b p q =
      let e = one_line (lines.Merged token a) (lines.Merged token b) p q refl in
      cc

  -- a token that is taken isn't rejected
  pub taken_or_rejected : (token : TokenName) → IsTakenIn plan token → Contains plan.lines (lines.Rejected token) → ⊥
  taken_or_rejected token (inl takes) q = own_or_rejected token takes.0 (false, takes.1) q
  taken_or_rejected token (inr merged) q = merged_or_rejected token merged.0 merged.1 q

  -- token lines of one token are one
  pub one_own : (token : TokenName) (a b : List ℤ) → TakesPlaceWith plan token a → TakesPlaceWith plan token b → a ≡ b
  one_own token a b p q =
      let e = one_line (lines.Token token p.0 a) (lines.Token token q.0 b) p.1 q.1 refl in
      cc

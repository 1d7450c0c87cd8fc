-- The one induction: steps that each keep what fits keep it together.
use Rattle.std.proofs.Common.{◌≡◌, ℕ, ◌+◌, ◌<◌, List, length, ⊎_elim, refl, sym, ◌∙◌, subst, arith}
use Rattle.std.specs.Prelude.{All, ◌↔◌, Result, Ok, Err, IsErr}
use Rattle.std.specs.declared.alloc.AllocError.{AllocError}
use Rattle.std.proofs.lemmas.Bool.{cases_eq}
use Rattle.domain_core.specs.Domain.{Domain, IsDomain}
use Rattle.domain_core.specs.Narrowing.{joined}
use Rattle.domain_core.specs.declared.Change.{Change}
use Rattle.domain_core.specs.declared.Change.TheVariants.{Same, Smaller, Empty}
use Rattle.narrow_core.proofs.Below.{within_refl}
use Rattle.constraint_net.specs.Steps.{FitWithin, Advances, AdvancesTo, StepsTo, FitBefore}
use Rattle.constraint_net.proofs.Within.{within_trans, within_length}

pub advances_refl : (fits : List Domain → Type 0) (domains : List Domain) → All IsDomain domains → Advances fits domains domains
advances_refl fits domains are = record { are = are; within = within_refl domains; keeps = λ below fit. fit.within }

-- what both advances keep is kept by the one after the other
pub advances_trans : (first second both : List Domain → Type 0) (old middle new : List Domain) → ((domains : List Domain) → both domains → first domains × second domains)
    → Advances first old middle → Advances second middle new → Advances both old new
advances_trans first second both old middle new split p q = record {
  are = q.are;
  within = within_trans new middle old q.within p.within;
  keeps = λ below fit.
      let parts = split below fit.fit in
      q.keeps below (record { are = fit.are; within = p.keeps below (record { are = fit.are; within = fit.within; fit = parts.0 }); fit = parts.1 });
}

pub fit_weaker : (weak strong : List Domain → Type 0) (domains below : List Domain) → ((domains : List Domain) → strong domains → weak domains) → FitWithin strong domains below → FitWithin weak domains below
fit_weaker weak strong domains below to_weak fit = record { are = fit.are; within = fit.within; fit = to_weak below fit.fit }

pub advances_weaker : (weak strong : List Domain → Type 0) (old new : List Domain) → ((domains : List Domain) → strong domains → weak domains) → Advances weak old new → Advances strong old new
advances_weaker weak strong old new to_weak p = record {
  are = p.are;
  within = p.within;
  keeps = λ below fit. p.keeps below (fit_weaker weak strong old below to_weak fit);
}

fit_as : (one other : List Domain → Type 0) (old below : List Domain) → ((domains : List Domain) → All IsDomain domains → length domains ≡ length old → other domains → one domains) → FitWithin other old below → FitWithin one old below
fit_as one other old below back fit = record { are = fit.are; within = fit.within; fit = back below fit.are (within_length below old fit.within) fit.fit }

advances_as : (one other : List Domain → Type 0) (old new : List Domain) → ((domains : List Domain) → All IsDomain domains → length domains ≡ length old → other domains → one domains) → Advances one old new → Advances other old new
advances_as one other old new back p = record { are = p.are; within = p.within; keeps = λ below fit. p.keeps below (fit_as one other old below back fit) }

-- a step advances, whatever it answers
pub advanced : (fits : List Domain → Type 0) (old new : List Domain) (change : Change) → All IsDomain old → AdvancesTo fits old change new → Advances fits old new
advanced fits old new Same are p = subst (λ s. Advances fits old s) (sym p.0) (advances_refl fits old are)
advanced fits old new Smaller are p = p.0
advanced fits old new Empty are p = p.0

-- there are as many domains after it
pub steps_length : (fits : List Domain → Type 0) (old new : List Domain) (result : Result Change AllocError) → All IsDomain old → StepsTo fits old result new → length new ≡ length old
steps_length fits old new (Ok change) are p = within_length new old (advanced fits old new change are p).within
steps_length fits old new (Err none) are p = within_length new old p.within

-- where memory has run out before anything was done
pub not_begun : (fits : List Domain → Type 0) (domains : List Domain) (result : Result Change AllocError) → IsErr result → All IsDomain domains → StepsTo fits domains result domains
not_begun fits domains (Ok change) failed are = absurd (cc failed)
not_begun fits domains (Err none) failed are = advances_refl fits domains are

-- two steps, one after the other, are a step for both
module _ (first second both : List Domain → Type 0) (old middle new : List Domain) (are : All IsDomain old)
    (split : (domains : List Domain) → both domains → first domains × second domains) (join : (domains : List Domain) → first domains → second domains → both domains) where
  after : Advances first old middle → Advances second middle new → Advances both old new
  after = advances_trans first second both old middle new split

  none_after : Advances first old middle → ((below : List Domain) → FitWithin second middle below → ⊥) → (below : List Domain) → FitWithin both old below → ⊥
  none_after p none below fit =
      let parts = split below fit.fit in
      none below (record { are = fit.are; within = p.keeps below (record { are = fit.are; within = fit.within; fit = parts.0 }); fit = parts.1 })

  pub joined_steps : (one other : Change) → AdvancesTo first old one middle → AdvancesTo second middle other new → AdvancesTo both old (joined one other) new
  joined_steps Same Same p q = (q.0 ∙ p.0, join old p.1 (subst second p.0 q.1))
  joined_steps Same Smaller p q =
      let from : AdvancesTo second old Smaller new = subst (λ s. AdvancesTo second s Smaller new) p.0 q in
      (advances_weaker second both old new (λ s fit. (split s fit).1) from.0, from.1)
  joined_steps Same Empty p q =
      let from : AdvancesTo second old Empty new = subst (λ s. AdvancesTo second s Empty new) p.0 q in
      (advances_weaker second both old new (λ s fit. (split s fit).1) from.0, λ below fit. from.1 below (fit_weaker second both old below (λ s f. (split s f).1) fit))
  joined_steps Smaller Same p q = subst (λ s. AdvancesTo both old Smaller s) (sym q.0) (advances_weaker first both old middle (λ s fit. (split s fit).0) p.0, p.1)
  joined_steps Smaller Smaller p q = (after p.0 q.0, omega (arith, p.1, q.1))
  joined_steps Smaller Empty p q = (after p.0 q.0, none_after p.0 q.1)
  joined_steps Empty other p q =
      (after p.0 (advanced second middle new other p.0.are q), λ below fit. p.1 below (fit_weaker first both old below (λ s f. (split s f).0) fit))

-- a step for one property is a step for a property that the same domains have
pub advances_same : (one other : List Domain → Type 0) (old new : List Domain) (change : Change) → ((domains : List Domain) → other domains → one domains) → ((domains : List Domain) → one domains → other domains)
    → AdvancesTo one old change new → AdvancesTo other old change new
advances_same one other old new Same back forth p = (p.0, forth old p.1)
advances_same one other old new Smaller back forth p = (advances_weaker one other old new back p.0, p.1)
advances_same one other old new Empty back forth p = (advances_weaker one other old new back p.0, λ below fit. p.1 below (fit_weaker one other old below back fit))

-- the same where only domains of as many variables have to be looked at
pub steps_as : (one other : List Domain → Type 0) (old new : List Domain) (result : Result Change AllocError) → All IsDomain old
    → ((domains : List Domain) → All IsDomain domains → length domains ≡ length old → one domains ↔ other domains) → StepsTo one old result new → StepsTo other old result new
steps_as one other old new (Ok Same) are same p = (p.0, (same old are refl).0 p.1)
steps_as one other old new (Ok Smaller) are same p = (advances_as one other old new (λ domains d_are long. (same domains d_are long).1) p.0, p.1)
steps_as one other old new (Ok Empty) are same p =
    (advances_as one other old new (λ domains d_are long. (same domains d_are long).1) p.0, λ below fit. p.1 below (fit_as one other old below (λ domains d_are long. (same domains d_are long).1) fit))
steps_as one other old new (Err none) are same p = advances_as one other old new (λ domains d_are long. (same domains d_are long).1) p

-- where none fit, none fit what is more
pub none_fit : (weak strong : List Domain → Type 0) (old new : List Domain) (change : Change) → change ≡ Empty → ((domains : List Domain) → strong domains → weak domains)
    → AdvancesTo weak old change new → AdvancesTo strong old Empty new
none_fit weak strong old new Same empty to_weak p = absurd (cc)
none_fit weak strong old new Smaller empty to_weak p = absurd (cc)
none_fit weak strong old new Empty empty to_weak p = (advances_weaker weak strong old new to_weak p.0, λ below fit. p.1 below (fit_weaker weak strong old below to_weak fit))

-- ---- step by step

module _ (fits : ℕ → List Domain → Type 0) where
  pub none_yet : (domains : List Domain) → AdvancesTo (FitBefore fits 0) domains Same domains
  none_yet domains = (refl, λ k below. absurd (omega arith))

  -- the next step after those before it
  pub one_more : (n : ℕ) (old middle new : List Domain) (one other : Change) → All IsDomain old
      → AdvancesTo (FitBefore fits n) old one middle → AdvancesTo (fits n) middle other new → AdvancesTo (FitBefore fits (n + 1)) old (joined one other) new
  one_more n old middle new one other are p q =
      joined_steps (FitBefore fits n) (fits n) (FitBefore fits (n + 1)) old middle new are
      (λ domains fit. (λ k below. fit k (omega arith), fit n (omega arith)))
      (λ domains before here k below. ⊎_elim (λ same. subst (λ i. fits i domains) (sym same) here) (λ apart. before k (omega arith)) (cases_eq k n))
      one other p q

  pub one_more_to : (n : ℕ) (old middle new : List Domain) (one other both : Change) → All IsDomain old → both ≡ joined one other
      → AdvancesTo (FitBefore fits n) old one middle → AdvancesTo (fits n) middle other new → AdvancesTo (FitBefore fits (n + 1)) old both new
  one_more_to n old middle new one other both are is p q = subst (λ c. AdvancesTo (FitBefore fits (n + 1)) old c new) (sym is) (one_more n old middle new one other are p q)

  -- where the first ones leave nothing, all of them do
  pub stopped : (n count : ℕ) (old new : List Domain) (change : Change) → n < count → change ≡ Empty → AdvancesTo (FitBefore fits (n + 1)) old change new → AdvancesTo (FitBefore fits count) old Empty new
  stopped n count old new change below empty p = none_fit (FitBefore fits (n + 1)) (FitBefore fits count) old new change empty (λ domains fit k within. fit k (omega arith)) p

  -- where memory has run out at a step
  pub failed_after : (n count : ℕ) (old middle new : List Domain) (one : Change) (result : Result Change AllocError) → n < count → All IsDomain old → IsErr result
      → AdvancesTo (FitBefore fits n) old one middle → Advances (fits n) middle new → StepsTo (FitBefore fits count) old result new
  failed_after n count old middle new one (Ok change) below are failed so_far step = absurd (cc failed)
  failed_after n count old middle new one (Err none) below are failed so_far step =
      advances_trans (FitBefore fits n) (fits n) (FitBefore fits count) old middle new (λ domains each. (λ k before. each k (omega arith), each n below))
      (advanced (FitBefore fits n) old middle one are so_far) step

-- Propagation has one outcome.
use Rattle.std.proofs.Common.{◌≡◌, List, [], ◌∷◌}
use Rattle.std.specs.Prelude.{Result, Ok, Err}
use Rattle.domain_core.specs.Domain.{Domain}
use Rattle.domain_core.proofs.Words.{IsWithin-antisym}
use Rattle.narrow_core.specs.Laws.{LieWithin}
use Rattle.narrow_core.proofs.Below.{AreDomains, are_domains}
use Rattle.constraint_net.specs.Steps.{FitWithin, PropagatesTo}
use Rattle.constraint_net.specs.declared.NetFault.TheVariants.{Collapsed, Memory}
use Rattle.constraint_net.specs.declared.NetFault.{NetFault}
use Rattle.constraint_net.proofs.Turns.{goes_down, reached}

-- domains that lie in each other are the same
within_both : (one other : List Domain) → AreDomains one → AreDomains other → LieWithin one other → LieWithin other one → one ≡ other
within_both [] [] one_are other_are p q = λ i. []
within_both [] (y ∷ other) one_are other_are p q = absurd p
within_both (x ∷ one) [] one_are other_are p q = absurd p
within_both (x ∷ one) (y ∷ other) one_are other_are p q =
    let head = IsWithin-antisym x y one_are.0 other_are.0 p.0 q.0 in
    let tail = within_both one other one_are.1 other_are.1 p.1 q.1 in
    (λ i. head i ∷ tail i)

-- what is left is among what fits
propagated_fit : (fits : List Domain → Type 0) (old new : List Domain) → PropagatesTo fits old (Ok tt) new → FitWithin fits old new
propagated_fit fits old new propagated = record { are = propagated.0.are; within = propagated.0.within; fit = propagated.1 }

pub one_left : (fits : List Domain → Type 0) (old one other : List Domain) → PropagatesTo fits old (Ok tt) one → PropagatesTo fits old (Ok tt) other → one ≡ other
one_left fits old one other p q =
    within_both one other (are_domains one p.0.are) (are_domains other q.0.are)
    (q.0.keeps one (propagated_fit fits old one p)) (p.0.keeps other (propagated_fit fits old other q))

pub not_both : (fits : List Domain → Type 0) (old one other : List Domain) → PropagatesTo fits old (Ok tt) one → PropagatesTo fits old (Err Collapsed) other → ⊥
not_both fits old one other p q = q.1 one (propagated_fit fits old one p)

-- what memory has interrupted is taken up where it was left
pub taken_up : (fits : List Domain → Type 0) (old middle new : List Domain) (result : Result (Unit {0}) NetFault) → PropagatesTo fits old (Err Memory) middle → PropagatesTo fits middle result new → PropagatesTo fits old result new
taken_up fits old middle new (Ok done) p q = (goes_down fits old middle new p q.0, q.1)
taken_up fits old middle new (Err Collapsed) p q = (goes_down fits old middle new p q.0, λ below fit. q.1 below (reached fits old middle new p below fit))
taken_up fits old middle new (Err Memory) p q = goes_down fits old middle new p q

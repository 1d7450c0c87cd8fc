-- There is one first reason against a decision.
use Rattle.std.proofs.Common.{◌≡◌, ◌<◌, List, ⊎_elim, refl, arith}
use Rattle.std.proofs.lemmas.Bool.{cases_lt}
use Rattle.model_core.specs.declared.decision.Decision.{Decision}
use Rattle.model_core.specs.declared.model.Model.{Model}
use Rattle.model_core.specs.State.{State}
use Rattle.plan_defs.specs.Refusals.{rank_of, IsFirstRefusal}
use Rattle.model_core.specs.declared.refusal.Refusal.TheVariants.{Unknown, WrongType, Decided, NotInDomain, NotActive, NotSamePredicate, NotRejectable, SameToken, ActiveFull}
use Rattle.model_core.specs.declared.refusal.Refusal.{Refusal}

place_same : (one other : Refusal) → rank_of one ≡ rank_of other → one ≡ other
place_same Unknown Unknown e = refl
place_same WrongType WrongType e = refl
place_same Decided Decided e = refl
place_same NotInDomain NotInDomain e = refl
place_same NotActive NotActive e = refl
place_same NotSamePredicate NotSamePredicate e = refl
place_same NotRejectable NotRejectable e = refl
place_same SameToken SameToken e = refl
place_same ActiveFull ActiveFull e = refl
place_same one other e = absurd (omega (arith, e))

pub refusal_same : (model : Model) (decisions : List Decision) (state : State) (decision : Decision) (one other : Refusal)
    → IsFirstRefusal model decisions state decision one → IsFirstRefusal model decisions state decision other → one ≡ other
refusal_same model decisions state decision one other p q =
    ⊎_elim
    (λ (before : rank_of one < rank_of other). absurd (q.first one before p.hinders))
    (λ not_before. ⊎_elim
    (λ (after : rank_of other < rank_of one). absurd (p.first other after q.hinders))
    (λ not_after. place_same one other (omega arith))
    (cases_lt (rank_of other) (rank_of one)))
    (cases_lt (rank_of one) (rank_of other))

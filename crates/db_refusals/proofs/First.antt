-- Which reason against a decision is the first, kind by kind.
use Rattle.std.proofs.Common.{◌≡◌, ℕ, ◌+◌, ◌<◌, ℤ, List, Some, None, inl, inr, refl, subst, arith}
use Rattle.std.proofs.lemmas.Bool.{cases_lt}
use Rattle.domain_core.specs.declared.kind.Kind.{Kind}
use Rattle.eu_name.specs.declared.name.TokenName.{TokenName}
use Rattle.eu_name.specs.declared.name.VarName.{VarName}
use Rattle.model_core.specs.declared.decision.ConArg.{ConArg}
use Rattle.model_core.specs.declared.decision.Decision.{Decision}
use Rattle.model_core.specs.declared.decision.Decision.TheVariants.{Specify, Activate, Merge, Reject, Order, Constrain, Relate}
use Rattle.model_core.specs.declared.item.Rel.{Rel}
use Rattle.model_core.specs.declared.model.Model.{Model}
use Rattle.model_core.specs.Arguments.{IsInType, IsOfType, Takes}
use Rattle.model_core.specs.State.{State}
use Rattle.plan_defs.specs.Refusals.{rank_of, Hinders, IsKnown, IsAlreadyDecided, IsDeclared, NeedsActive}
use Rattle.model_core.specs.declared.refusal.Refusal.TheVariants.{Unknown, WrongType, Decided, NotInDomain, NotActive, NotSamePredicate, NotRejectable, SameToken, ActiveFull}
use Rattle.model_core.specs.declared.refusal.Refusal.{Refusal}
use Rattle.model_core.specs.declared.refusal.Refusal.TheVariants as reasons
use Rattle.db_refusals.specs.Reasons.{IsFirstReason}

rank_same : (one other : Refusal) → rank_of one ≡ rank_of other → one ≡ other
rank_same Unknown Unknown e = refl
rank_same WrongType WrongType e = refl
rank_same Decided Decided e = refl
rank_same NotInDomain NotInDomain e = refl
rank_same NotActive NotActive e = refl
rank_same NotSamePredicate NotSamePredicate e = refl
rank_same NotRejectable NotRejectable e = refl
rank_same SameToken SameToken e = refl
rank_same ActiveFull ActiveFull e = refl
rank_same one other e = absurd (omega (arith, e))

rank_below : (reason : Refusal) → rank_of reason < 9
rank_below Unknown = omega arith
rank_below WrongType = omega arith
rank_below Decided = omega arith
rank_below NotInDomain = omega arith
rank_below NotActive = omega arith
rank_below NotSamePredicate = omega arith
rank_below NotRejectable = omega arith
rank_below SameToken = omega arith
rank_below ActiveFull = omega arith

module _ (Speaks : Refusal → Type 0) where
  -- none of the first so many reasons speaks
  abbrev Clear : ℕ → Type 0
  Clear k = (earlier : Refusal) → rank_of earlier < k → Speaks earlier → ⊥

  clear_none : Clear 0
  clear_none earlier less speaks = absurd (omega arith)

  clear_more : (k : ℕ) (reason : Refusal) → rank_of reason ≡ k → Clear k → (Speaks reason → ⊥) → Clear (k + 1)
  clear_more k reason at before silent earlier less speaks = elim (cases_lt (rank_of earlier) k) [
    | inl below ↦ before earlier below speaks
    | inr over ↦ silent (subst Speaks (rank_same earlier reason (omega (arith, at, less, over))) speaks)
  ]

  clear_all : Clear 9 → (reason : Refusal) → Speaks reason → ⊥
  clear_all clear reason speaks = clear reason (rank_below reason) speaks

module _ (model : Model) (decisions : List Decision) (state : State) (decision : Decision) where
  abbrev speaks : Refusal → Type 0
  speaks reason = Hinders model decisions state reason decision

  pub unknown_first : (IsKnown state decision → ⊥) → IsFirstReason model decisions state decision (Some reasons.Unknown)
  unknown_first unknown = record { hinders = unknown; first = clear_none speaks }

  clear_one : IsKnown state decision → Clear speaks 1
  clear_one known = clear_more speaks 0 Unknown refl (clear_none speaks) (λ unknown. unknown known)

  clear_two : IsKnown state decision → (speaks WrongType → ⊥) → Clear speaks 2
  clear_two known typed = clear_more speaks 1 WrongType refl (clear_one known) typed

  pub wrong_type_first : IsKnown state decision → speaks WrongType → IsFirstReason model decisions state decision (Some reasons.WrongType)
  wrong_type_first known wrong = record { hinders = wrong; first = clear_one known }

  pub decided_first : IsKnown state decision → (speaks WrongType → ⊥) → IsAlreadyDecided model decisions decision
      → IsFirstReason model decisions state decision (Some reasons.Decided)
  decided_first known typed decided = record { hinders = decided; first = clear_two known typed }

  clear_three : IsKnown state decision → (speaks WrongType → ⊥) → (IsAlreadyDecided model decisions decision → ⊥) → Clear speaks 3
  clear_three known typed undecided = clear_more speaks 2 Decided refl (clear_two known typed) undecided

-- ---- a variable and a value

module _ (model : Model) (decisions : List Decision) (state : State) (name : VarName) (value : ℤ)
    (known : IsKnown state (Specify name value)) (undecided : IsAlreadyDecided model decisions (Specify name value) → ⊥) where
  abbrev at_specify : Refusal → Type 0
  at_specify = speaks model decisions state (Specify name value)

  pub specify_undeclared : (IsDeclared model name value → ⊥) → IsFirstReason model decisions state (Specify name value) (Some reasons.NotInDomain)
  specify_undeclared not = record { hinders = not; first = clear_three model decisions state (Specify name value) known (λ h. h) undecided }

  specify_four : IsDeclared model name value → Clear at_specify 4
  specify_four declared = clear_more at_specify 3 NotInDomain refl (clear_three model decisions state (Specify name value) known (λ h. h) undecided) (λ not. not declared)

  pub specify_inactive : IsDeclared model name value → NeedsActive model decisions (Specify name value) → IsFirstReason model decisions state (Specify name value) (Some reasons.NotActive)
  specify_inactive declared needs = record { hinders = needs; first = specify_four declared }

  pub specify_free : IsDeclared model name value → (NeedsActive model decisions (Specify name value) → ⊥) → IsFirstReason model decisions state (Specify name value) None
  specify_free declared active = clear_all at_specify
      (clear_more at_specify 8 ActiveFull refl (clear_more at_specify 7 SameToken refl (clear_more at_specify 6 NotRejectable refl
      (clear_more at_specify 5 NotSamePredicate refl (clear_more at_specify 4 NotActive refl (specify_four declared) active) (λ h. h)) (λ h. h)) (λ h. h)) (λ h. h))

-- ---- a token that is to take place

module _ (model : Model) (decisions : List Decision) (state : State) (token : TokenName)
    (known : IsKnown state (Activate token)) (undecided : IsAlreadyDecided model decisions (Activate token) → ⊥) where
  abbrev at_activate : Refusal → Type 0
  at_activate = speaks model decisions state (Activate token)

  activate_eight : Clear at_activate 8
  activate_eight =
      clear_more at_activate 7 SameToken refl (clear_more at_activate 6 NotRejectable refl (clear_more at_activate 5 NotSamePredicate refl
      (clear_more at_activate 4 NotActive refl (clear_more at_activate 3 NotInDomain refl
      (clear_three model decisions state (Activate token) known (λ h. h) undecided) (λ h. h)) (λ h. h)) (λ h. h)) (λ h. h)) (λ h. h)

  pub activate_full : Hinders model decisions state ActiveFull (Activate token) → IsFirstReason model decisions state (Activate token) (Some reasons.ActiveFull)
  activate_full full = record { hinders = full; first = activate_eight }

  pub activate_free : (Hinders model decisions state ActiveFull (Activate token) → ⊥) → IsFirstReason model decisions state (Activate token) None
  activate_free room = clear_all at_activate (clear_more at_activate 8 ActiveFull refl activate_eight room)

-- ---- a token that is to be another

module _ (model : Model) (decisions : List Decision) (state : State) (token target : TokenName)
    (known : IsKnown state (Merge token target)) (undecided : IsAlreadyDecided model decisions (Merge token target) → ⊥) where
  abbrev at_merge : Refusal → Type 0
  at_merge = speaks model decisions state (Merge token target)

  merge_four : Clear at_merge 4
  merge_four = clear_more at_merge 3 NotInDomain refl (clear_three model decisions state (Merge token target) known (λ h. h) undecided) (λ h. h)

  pub merge_inactive : NeedsActive model decisions (Merge token target) → IsFirstReason model decisions state (Merge token target) (Some reasons.NotActive)
  merge_inactive needs = record { hinders = needs; first = merge_four }

  merge_five : (NeedsActive model decisions (Merge token target) → ⊥) → Clear at_merge 5
  merge_five active = clear_more at_merge 4 NotActive refl merge_four active

  pub merge_unlike : (NeedsActive model decisions (Merge token target) → ⊥) → Hinders model decisions state NotSamePredicate (Merge token target)
      → IsFirstReason model decisions state (Merge token target) (Some reasons.NotSamePredicate)
  merge_unlike active unlike = record { hinders = unlike; first = merge_five active }

  pub merge_free : (NeedsActive model decisions (Merge token target) → ⊥) → (Hinders model decisions state NotSamePredicate (Merge token target) → ⊥)
      → IsFirstReason model decisions state (Merge token target) None
  merge_free active alike = clear_all at_merge
      (clear_more at_merge 8 ActiveFull refl (clear_more at_merge 7 SameToken refl (clear_more at_merge 6 NotRejectable refl
      (clear_more at_merge 5 NotSamePredicate refl (merge_five active) alike) (λ h. h)) (λ h. h)) (λ h. h))

-- ---- a token that isn't to take place

module _ (model : Model) (decisions : List Decision) (state : State) (token : TokenName)
    (known : IsKnown state (Reject token)) (undecided : IsAlreadyDecided model decisions (Reject token) → ⊥) where
  abbrev at_reject : Refusal → Type 0
  at_reject = speaks model decisions state (Reject token)

  reject_six : Clear at_reject 6
  reject_six =
      clear_more at_reject 5 NotSamePredicate refl (clear_more at_reject 4 NotActive refl (clear_more at_reject 3 NotInDomain refl
      (clear_three model decisions state (Reject token) known (λ h. h) undecided) (λ h. h)) (λ h. h)) (λ h. h)

  pub reject_kept : Hinders model decisions state NotRejectable (Reject token) → IsFirstReason model decisions state (Reject token) (Some reasons.NotRejectable)
  reject_kept kept = record { hinders = kept; first = reject_six }

  pub reject_free : (Hinders model decisions state NotRejectable (Reject token) → ⊥) → IsFirstReason model decisions state (Reject token) None
  reject_free may = clear_all at_reject
      (clear_more at_reject 8 ActiveFull refl (clear_more at_reject 7 SameToken refl (clear_more at_reject 6 NotRejectable refl reject_six may) (λ h. h)) (λ h. h))

-- ---- two tokens in order

module _ (model : Model) (decisions : List Decision) (state : State) (one other : TokenName)
    (known : IsKnown state (Order one other)) (undecided : IsAlreadyDecided model decisions (Order one other) → ⊥) where
  abbrev at_order : Refusal → Type 0
  at_order = speaks model decisions state (Order one other)

  order_four : Clear at_order 4
  order_four = clear_more at_order 3 NotInDomain refl (clear_three model decisions state (Order one other) known (λ h. h) undecided) (λ h. h)

  pub order_inactive : NeedsActive model decisions (Order one other) → IsFirstReason model decisions state (Order one other) (Some reasons.NotActive)
  order_inactive needs = record { hinders = needs; first = order_four }

  order_seven : (NeedsActive model decisions (Order one other) → ⊥) → Clear at_order 7
  order_seven active =
      clear_more at_order 6 NotRejectable refl (clear_more at_order 5 NotSamePredicate refl (clear_more at_order 4 NotActive refl order_four active) (λ h. h)) (λ h. h)

  pub order_same : (NeedsActive model decisions (Order one other) → ⊥) → one ≡ other → IsFirstReason model decisions state (Order one other) (Some reasons.SameToken)
  order_same active same = record { hinders = same; first = order_seven active }

  pub order_free : (NeedsActive model decisions (Order one other) → ⊥) → (one ≡ other → ⊥) → IsFirstReason model decisions state (Order one other) None
  order_free active apart = clear_all at_order
      (clear_more at_order 8 ActiveFull refl (clear_more at_order 7 SameToken refl (order_seven active) apart) (λ h. h))

-- ---- a constraint of arguments

module _ (model : Model) (decisions : List Decision) (state : State) (kind : Kind) (arguments : List ConArg)
    (known : IsKnown state (Constrain kind arguments)) (typed : Takes (IsOfType model) kind arguments)
    (undecided : IsAlreadyDecided model decisions (Constrain kind arguments) → ⊥) where
  abbrev at_constrain : Refusal → Type 0
  at_constrain = speaks model decisions state (Constrain kind arguments)

  constrain_three : Clear at_constrain 3
  constrain_three = clear_three model decisions state (Constrain kind arguments) known (λ wrong. wrong typed) undecided

  pub constrain_outside : (Takes (IsInType model) kind arguments → ⊥)
      → IsFirstReason model decisions state (Constrain kind arguments) (Some reasons.NotInDomain)
  constrain_outside outside = record { hinders = outside; first = constrain_three }

  constrain_four : Takes (IsInType model) kind arguments → Clear at_constrain 4
  constrain_four inside = clear_more at_constrain 3 NotInDomain refl constrain_three (λ outside. outside inside)

  pub constrain_inactive : Takes (IsInType model) kind arguments → NeedsActive model decisions (Constrain kind arguments)
      → IsFirstReason model decisions state (Constrain kind arguments) (Some reasons.NotActive)
  constrain_inactive inside needs = record { hinders = needs; first = constrain_four inside }

  pub constrain_free : Takes (IsInType model) kind arguments → (NeedsActive model decisions (Constrain kind arguments) → ⊥)
      → IsFirstReason model decisions state (Constrain kind arguments) None
  constrain_free inside active = clear_all at_constrain
      (clear_more at_constrain 8 ActiveFull refl (clear_more at_constrain 7 SameToken refl (clear_more at_constrain 6 NotRejectable refl
      (clear_more at_constrain 5 NotSamePredicate refl (clear_more at_constrain 4 NotActive refl (constrain_four inside) active) (λ h. h)) (λ h. h)) (λ h. h)) (λ h. h))

-- ---- two tokens that are related

module _ (model : Model) (decisions : List Decision) (state : State) (relation : Rel) (one other : TokenName)
    (known : IsKnown state (Relate relation one other)) (undecided : IsAlreadyDecided model decisions (Relate relation one other) → ⊥) where
  abbrev at_relate : Refusal → Type 0
  at_relate = speaks model decisions state (Relate relation one other)

  relate_four : Clear at_relate 4
  relate_four = clear_more at_relate 3 NotInDomain refl (clear_three model decisions state (Relate relation one other) known (λ h. h) undecided) (λ h. h)

  pub relate_inactive : NeedsActive model decisions (Relate relation one other)
      → IsFirstReason model decisions state (Relate relation one other) (Some reasons.NotActive)
  relate_inactive needs = record { hinders = needs; first = relate_four }

  relate_seven : (NeedsActive model decisions (Relate relation one other) → ⊥) → Clear at_relate 7
  relate_seven active =
      clear_more at_relate 6 NotRejectable refl (clear_more at_relate 5 NotSamePredicate refl (clear_more at_relate 4 NotActive refl relate_four active) (λ h. h)) (λ h. h)

  pub relate_same : (NeedsActive model decisions (Relate relation one other) → ⊥) → one ≡ other
      → IsFirstReason model decisions state (Relate relation one other) (Some reasons.SameToken)
  relate_same active same = record { hinders = same; first = relate_seven active }

  pub relate_free : (NeedsActive model decisions (Relate relation one other) → ⊥) → (one ≡ other → ⊥)
      → IsFirstReason model decisions state (Relate relation one other) None
  relate_free active apart = clear_all at_relate
      (clear_more at_relate 8 ActiveFull refl (clear_more at_relate 7 SameToken refl (relate_seven active) apart) (λ h. h))

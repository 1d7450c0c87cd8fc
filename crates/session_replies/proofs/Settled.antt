-- Decisions of settled lists can be written.
use Rattle.std.proofs.Common.{◌≡◌, inl, inr, ⊎_elim, ℤ, List, [], ◌∷◌, ◌++◌, Contains, sym, subst, arith}
use Rattle.std.specs.Prelude.{All, ◌≤ℤ◌}
use Rattle.std.proofs.lemmas.Int.{ints, by_lt_z}
use Rattle.std.proofs.lemmas.List.Elements.{All-nil, All-push, All-contains}
use Rattle.domain_core.specs.Domain.{Domain, Range, Set, Has}
use Rattle.eu_name.specs.declared.name.TokenName.{TokenName}
use Rattle.eu_name.specs.declared.name.VarName.{VarName}
use Rattle.model_core.specs.declared.decision.ConArg.{ConArg}
use Rattle.model_core.specs.declared.decision.ConArg.TheVariants.{Var, Value}
use Rattle.model_core.specs.declared.decision.Decision.{Decision}
use Rattle.model_core.specs.declared.decision.Decision.TheVariants.{Specify, Activate, Merge, Reject, Order, Constrain, Relate}
use Rattle.model_core.specs.declared.model.Model.{Model}
use Rattle.model_core.specs.declared.rule.Slot.{Slot}
use Rattle.model_core.specs.declared.variable.Base.{Base}
use Rattle.model_core.specs.declared.variable.Base.TheVariants.{Given, Void}
use Rattle.model_core.specs.History.{History, standing}
use Rattle.model_core.specs.Lawful.{IsToken}
use Rattle.model_core.specs.State.{State}
use Rattle.model_core.specs.Tokens.{HasToken}
use Rattle.model_core.specs.Variables.{HasBase, IsInBase}
use Rattle.plan_defs.specs.History.{IsHistory}
use Rattle.plan_defs.specs.Refusals.{IsKnown, IsArgumentKnown, IsDeclared, IsAdmissible}
use Rattle.model_core.specs.declared.refusal.Refusal.TheVariants.{Unknown, NotInDomain}
use Rattle.plan_defs.specs.Settling.{SettlesAfter, Settles, IsConflict, ReducesTo}
use Rattle.plan_defs.proofs.Knowing.{IsOrNot, both_or_not, known_or_not}
use Rattle.eu_name.proofs.Ordered.{contains_head, contains_later, contains_cases, contains_none}
use Rattle.model_core.proofs.Bases.{base_once}
use Rattle.plan_defs.proofs.Determining.{same_number}
use Rattle.plan_defs.proofs.Members.{all_from_get}
use Rattle.eu_name.proofs.Members.{get_all}
use Rattle.session_replies.specs.Writable.{IsWritable}
use Rattle.session_replies.proofs.Posting.{IsBased, post_writable}

-- ---- what can be told

not_impossible : {P : Type 0} → IsOrNot P → ((P → ⊥) → ⊥) → P
not_impossible (inl is) possible = is
not_impossible (inr not) possible = absurd (possible not)

most_or_not : (a b : ℤ) → IsOrNot (a ≤ℤ b)
most_or_not a b = by_lt_z b a (λ less. inr (λ is. omega (arith, ints, less, is))) (λ not_less. inl (omega (arith, ints, not_less)))

member_or_not : (members : List ℤ) (value : ℤ) → IsOrNot (Contains members value)
member_or_not [] value = inr (contains_none value)
member_or_not (first ∷ members) value = elim (same_number first value) [
  | inl same ↦ inl (subst (λ (v : ℤ). Contains (first ∷ members) v) same (contains_head first members))
  | inr other ↦ elim (member_or_not members value) [
    | inl later ↦ inl (contains_later first value members later)
    | inr none ↦ inr (λ there. ⊎_elim other none (contains_cases first value members there))
  ]
]

has_or_not : (domain : Domain) (value : ℤ) → IsOrNot (Has domain value)
has_or_not (Range lo hi) value = both_or_not (lo ≤ℤ value) (value ≤ℤ hi) (most_or_not lo value) (most_or_not value hi)
has_or_not (Set members) value = member_or_not members value

-- ---- decisions

module _ (model : Model) where
  declared_in : (name : VarName) (value : ℤ) (domain : Domain) (base : Base) → HasBase model name base → IsInBase domain base → ((IsDeclared model name value → ⊥) → ⊥) → IsDeclared model name value
  declared_in name value domain (Given outer) has inside possible = elim (has_or_not outer value) [
    | inl is ↦ (outer, has, is)
    | inr not ↦ absurd (possible (λ declared.
        let one : Given outer ≡ Given declared.0 = base_once model name (Given outer) (Given declared.0) has declared.1 in
        let same : declared.0 ≡ outer = cc in
        not (subst (λ (d : Domain). Has d value) same declared.2)))
  ]
  declared_in name value domain Void has inside possible = absurd inside

  -- what may be decided can be written
  admissible_writable : (before : List Decision) (decision : Decision) → IsAdmissible model before decision → IsWritable model decision
  admissible_writable before decision is = by_decision decision is (not_impossible (known_or_not is.state decision) (is.free Unknown))
    where
      there : (is : State) → All (λ (token : TokenName). (slot : Slot) × HasToken model token slot) is.tokens → (token : TokenName) → Contains is.tokens token → IsToken model token
      there is all token at = All-contains (λ (token : TokenName). (slot : Slot) × HasToken model token slot) is.tokens token all at

      one_based : {decision : Decision} (is : IsAdmissible model before decision) (argument : ConArg) → IsArgumentKnown is.state argument → IsBased model argument
      one_based is (Var name) (domain, gives) =
          let in_base = is.least.closed.consistent.in_base name domain gives in (in_base.0, in_base.1)
      one_based is (Value value) known = tt

      based : {decision : Decision} (is : IsAdmissible model before decision) (arguments : List ConArg) → All (IsArgumentKnown is.state) arguments → All (IsBased model) arguments
      based is arguments known = all_from_get (IsBased model) arguments (λ place argument at. one_based is argument (get_all (IsArgumentKnown is.state) arguments place argument known at))

      by_decision : (decision : Decision) → (is : IsAdmissible model before decision) → IsKnown is.state decision → IsWritable model decision
      by_decision (Specify name value) is (domain, gives) =
          let in_base = is.least.closed.consistent.in_base name domain gives in
          declared_in name value domain in_base.0 in_base.1 in_base.2 (is.free NotInDomain)
      by_decision (Activate token) is known = there is.state is.least.closed.consistent.is_state.tokens token known
      by_decision (Merge token target) is known =
          (there is.state is.least.closed.consistent.is_state.tokens token known.0, there is.state is.least.closed.consistent.is_state.tokens target known.1)
      by_decision (Reject token) is known = there is.state is.least.closed.consistent.is_state.tokens token known
      by_decision (Order one other) is known =
          (there is.state is.least.closed.consistent.is_state.tokens one known.0, there is.state is.least.closed.consistent.is_state.tokens other known.1)
      by_decision (Constrain kind arguments) is known = post_writable model kind arguments (based is arguments known) (is.free NotInDomain)
      by_decision (Relate relation one other) is known =
          (there is.state is.least.closed.consistent.is_state.tokens one known.0, there is.state is.least.closed.consistent.is_state.tokens other known.1)

  after_writable : (kept decisions settled : List Decision) → SettlesAfter model kept decisions settled → All (IsWritable model) kept → All (IsWritable model) settled
  after_writable kept [] settled same are = subst (λ (list : List Decision). All (IsWritable model) list) (sym same) are
  after_writable kept (decision ∷ decisions) settled (inl stays) are =
      after_writable (kept ++ decision ∷ []) decisions settled stays.1 (All-push (IsWritable model) kept decision are (admissible_writable kept decision stays.0))
  after_writable kept (decision ∷ decisions) settled (inr goes) are = after_writable kept decisions settled goes.1 are

  -- what is left of any list as it is settled can be written
  pub settled_writable : (decisions settled : List Decision) → Settles model decisions settled → All (IsWritable model) settled
  settled_writable decisions settled settles = after_writable [] decisions settled settles (All-nil (IsWritable model))

  -- so can the list that stands in a history
  pub standing_writable : (history : History) → IsHistory model history → All (IsWritable model) (standing history)
  standing_writable [] is = absurd is
  standing_writable (decisions ∷ []) is = subst (λ (list : List Decision). All (IsWritable model) list) (sym is) (All-nil (IsWritable model))
  standing_writable (decisions ∷ below ∷ former) (inl (decision, admissible, same), behind) =
      subst (λ (list : List Decision). All (IsWritable model) list) (sym same)
      (All-push (IsWritable model) below decision (standing_writable (below ∷ former) behind) (admissible_writable below decision admissible))
  standing_writable (decisions ∷ below ∷ former) (inr out, behind) = settled_writable (out.front ++ out.back) decisions out.settles

  reduced_writable : (kept decisions conflict : List Decision) → ReducesTo model kept decisions conflict → All (IsWritable model) conflict
  reduced_writable kept [] conflict settles = settled_writable kept conflict settles
  reduced_writable kept (decision ∷ decisions) conflict (inl goes) = reduced_writable kept decisions conflict goes.1
  reduced_writable kept (decision ∷ decisions) conflict (inr stays) = reduced_writable (kept ++ decision ∷ []) decisions conflict stays.1

  -- and a conflict
  pub conflict_writable : (decisions conflict : List Decision) → IsConflict model decisions conflict → All (IsWritable model) conflict
  conflict_writable decisions conflict is = reduced_writable [] decisions conflict is

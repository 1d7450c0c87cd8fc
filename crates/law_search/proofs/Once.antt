-- The search from a list has one outcome.
use Rattle.std.proofs.Common.{◌≡◌, ℕ, zero, suc, ◌≤◌, ◌⊎◌, inl, inr, ℤ, ◌<ℤ◌, Bool, true, false, ◌||◌, List, [], ◌∷◌, ◌++◌, refl, sym, ap, ◌∙◌, subst, arith}
use Rattle.std.specs.Prelude.{Contains, map}
use Rattle.std.proofs.lemmas.Int.{ints}
use Rattle.domain_core.specs.Domain.{Has}
use Rattle.eu_name.specs.declared.name.TokenName.{TokenName}
use Rattle.eu_name.specs.declared.name.VarName.{VarName}
use Rattle.eu_name.specs.NameOrder.{IsTokenBefore}
use Rattle.eu_name.proofs.Orders.{token_order, var_order}
use Rattle.model_core.specs.declared.decision.Decision.{Decision}
use Rattle.model_core.specs.declared.decision.Decision.TheVariants.{Specify, Merge}
use Rattle.model_core.specs.declared.model.Model.{Model}
use Rattle.model_core.specs.Lawful.{IsLawful}
use Rattle.model_core.specs.State.{State, AreInOrder}
use Rattle.plan_defs.specs.Closure.{IsLeast}
use Rattle.plan_defs.specs.Settling.{IsSettled}
use Rattle.eu_name.proofs.Ordered.{contains_head, contains_later, same_members}
use Rattle.plan_defs.proofs.Settling.{least_same, least_not_collapsed}
use Rattle.plan_defs.proofs.States.{gives_same}
use Rattle.plan_defs.specs.Flaws.{Flaw, Undecided, Undetermined, Unordered, Untimed, HasFlaw}
use Rattle.law_search.specs.Choices.{IsFlawBefore, IsFirstFlaw, AreTargets, IsActivationLeft, IsRejectionLeft, AreTokenChoices, AreValueChoices, AreChoices}
use Rattle.law_search.specs.Search.{SearchOutcome, Finds, Fails, VisitsEach, TellsLeftOut, LooksAtFlaw, IsVisitOf, also_left_out}
use Rattle.law_search.proofs.Searching.{choices_settled}

-- ---- the first flaw

pair_total : (a b c d : TokenName) → (IsTokenBefore a b ⊎ ((a ≡ b) × IsTokenBefore c d)) ⊎ ((Unordered a c ≡ Unordered b d) ⊎ (IsTokenBefore b a ⊎ ((b ≡ a) × IsTokenBefore d c)))
pair_total a b c d = elim (token_order.total a b) [
  | inl less ↦ inl (inl less)
  | inr (inr more) ↦ inr (inr (inl more))
  | inr (inl same) ↦ elim (token_order.total c d) [
    | inl less ↦ inl (inr (same, less))
    | inr (inr more) ↦ inr (inr (inr (sym same, more)))
    | inr (inl too) ↦ inr (inl (λ i. Unordered (same i) (too i)))
  ]
]

flaw_total : (one other : Flaw) → IsFlawBefore one other ⊎ ((one ≡ other) ⊎ IsFlawBefore other one)
flaw_total (Undecided one) (Undecided other) = elim (token_order.total one other) [ inl less ↦ inl less | inr (inl same) ↦ inr (inl (ap Undecided same)) | inr (inr more) ↦ inr (inr more) ]
flaw_total (Undecided one) (Undetermined other) = inl (omega arith)
flaw_total (Undecided one) (Unordered other behind) = inl (omega arith)
flaw_total (Undecided one) (Untimed other) = inl (omega arith)
flaw_total (Undetermined one) (Undecided other) = inr (inr (omega arith))
flaw_total (Undetermined one) (Undetermined other) = elim (var_order.total one other) [ inl less ↦ inl less | inr (inl same) ↦ inr (inl (ap Undetermined same)) | inr (inr more) ↦ inr (inr more) ]
flaw_total (Undetermined one) (Unordered other behind) = inl (omega arith)
flaw_total (Undetermined one) (Untimed other) = inl (omega arith)
flaw_total (Unordered one behind) (Undecided other) = inr (inr (omega arith))
flaw_total (Unordered one behind) (Undetermined other) = inr (inr (omega arith))
flaw_total (Unordered one behind) (Unordered other after) = pair_total one other behind after
flaw_total (Unordered one behind) (Untimed other) = inl (omega arith)
flaw_total (Untimed one) (Undecided other) = inr (inr (omega arith))
flaw_total (Untimed one) (Undetermined other) = inr (inr (omega arith))
flaw_total (Untimed one) (Unordered other behind) = inr (inr (omega arith))
flaw_total (Untimed one) (Untimed other) = elim (var_order.total one other) [ inl less ↦ inl less | inr (inl same) ↦ inr (inl (ap Untimed same)) | inr (inr more) ↦ inr (inr more) ]

pub first_once : (model : Model) (decisions : List Decision) (state : State) (one other : Flaw) → IsFirstFlaw model decisions state one → IsFirstFlaw model decisions state other → one ≡ other
first_once model decisions state one other p q = elim (flaw_total one other) [
  | inl less ↦ absurd (q.first one p.is less)
  | inr (inl same) ↦ same
  | inr (inr more) ↦ absurd (p.first other q.is more)
]

-- ---- its choices

module _ (model : Model) (decisions : List Decision) (state : State) (order : AreInOrder state) (bound : ℕ) where
  targets_once : (token : TokenName) (one other : List TokenName) → AreTargets model decisions state token one → AreTargets model decisions state token other → one ≡ other
  targets_once token one other p q =
      same_members IsTokenBefore token_order.irreflexive token_order.transitive one other p.order q.order
      (λ target there. (q.are target).1 ((p.are target).0 there)) (λ target there. (p.are target).1 ((q.are target).0 there))

  activation_once : (token : TokenName) (one other : List Decision) → IsActivationLeft model decisions bound token one → IsActivationLeft model decisions bound token other → one ≡ other
  activation_once token one other (inl p) (inl q) = p.1 ∙ sym q.1
  activation_once token one other (inl p) (inr q) = absurd (p.0 q.0)
  activation_once token one other (inr p) (inl q) = absurd (q.0 p.0)
  activation_once token one other (inr p) (inr q) = p.1 ∙ sym q.1

  rejection_once : (token : TokenName) (one other : List Decision) → IsRejectionLeft model token one → IsRejectionLeft model token other → one ≡ other
  rejection_once token one other (inl p) (inl q) = p.1 ∙ sym q.1
  rejection_once token one other (inl p) (inr q) = absurd (q.0 p.0)
  rejection_once token one other (inr p) (inl q) = absurd (p.0 q.0)
  rejection_once token one other (inr p) (inr q) = p.1 ∙ sym q.1

  token_choices_once : (token : TokenName) (one other : List Decision) → AreTokenChoices model decisions state bound token one → AreTokenChoices model decisions state bound token other → one ≡ other
  token_choices_once token one other p q =
      let targets = targets_once token p.targets q.targets p.are_targets q.are_targets in
      let activation = activation_once token p.activation q.activation p.activated q.activated in
      let rejection = rejection_once token p.rejection q.rejection p.rejected q.rejected in
      let both : map (λ target. Merge token target) p.targets ++ (p.activation ++ p.rejection) ≡ map (λ target. Merge token target) q.targets ++ (q.activation ++ q.rejection)
      = λ i. map (λ target. Merge token target) (targets i) ++ (activation i ++ rejection i) in
      p.are ∙ both ∙ sym q.are

  value_choices_once : (name : VarName) (one other : List Decision) → AreValueChoices state name one → AreValueChoices state name other → one ≡ other
  value_choices_once name one other p q =
      let domain = gives_same state order name p.domain q.domain p.gives q.gives in
      let values = same_members (λ (a b : ℤ). a <ℤ b) (λ a less. omega (arith, ints, less)) (λ a b c less more. omega (arith, ints, less, more)) p.values q.values p.ascending q.ascending
      (λ value there. (q.all value).1 (subst (λ d. Has d value) domain ((p.all value).0 there)))
      (λ value there. (p.all value).1 (subst (λ d. Has d value) (sym domain) ((q.all value).0 there))) in
      p.are ∙ ap (λ (l : List ℤ). map (λ value. Specify name value) l) values ∙ sym q.are

  pub choices_once : (flaw : Flaw) (one other : List Decision) → AreChoices model decisions state bound flaw one → AreChoices model decisions state bound flaw other → one ≡ other
  choices_once (Undecided token) one other p q = token_choices_once token one other p q
  choices_once (Undetermined name) one other p q = value_choices_once name one other p q
  choices_once (Unordered before after) one other p q = p ∙ sym q
  choices_once (Untimed name) one other p q = value_choices_once name one other p q

  left_out_once : (flaw : Flaw) (one other : Bool) → TellsLeftOut model decisions bound flaw one → TellsLeftOut model decisions bound flaw other → one ≡ other
  left_out_once flaw true true p q = refl
  left_out_once flaw true false p q = absurd (q state (p state))
  left_out_once flaw false true p q = absurd (p state (q state))
  left_out_once flaw false false p q = refl

-- ---- visits

module _ (model : Model) (lawful : IsLawful model) (bound : ℕ) (few : bound ≤ 512) where
  -- a visit of a settled list has one outcome
  abbrev IsOnce : (ℕ → List Decision → SearchOutcome → Type 0) → Type 0
  IsOnce Visit = (units : ℕ) (decisions : List Decision) (one other : SearchOutcome) → IsSettled model decisions → Visit units decisions one → Visit units decisions other → one ≡ other

  each_once : (Visit : ℕ → List Decision → SearchOutcome → Type 0) → IsOnce Visit → (decisions choices : List Decision) (units : ℕ) (out : Bool) (one other : SearchOutcome)
      → ((choice : Decision) → Contains choices choice → IsSettled model (decisions ++ choice ∷ []))
      → VisitsEach Visit decisions choices units out one → VisitsEach Visit decisions choices units out other → one ≡ other
  each_once Visit once decisions [] units out one other settled p q = p ∙ sym q
  each_once Visit once decisions (choice ∷ choices) units out one other settled (first, visit, which) (second, visit', which') =
      by_both which which' (once units (decisions ++ choice ∷ []) first second (settled choice (contains_head choice choices)) visit visit')
      (λ left before p q. each_once Visit once decisions choices left before one other (λ next there. settled next (contains_later choice next choices there)) p q)
    where
      by_both : ((first.ending ≡ Fails) × VisitsEach Visit decisions choices first.left (out || first.left_out) one) ⊎ ((first.ending ≡ Fails → ⊥) × (one ≡ also_left_out out first))
          → ((second.ending ≡ Fails) × VisitsEach Visit decisions choices second.left (out || second.left_out) other) ⊎ ((second.ending ≡ Fails → ⊥) × (other ≡ also_left_out out second))
          → first ≡ second
          → ((left : ℕ) (before : Bool) → VisitsEach Visit decisions choices left before one → VisitsEach Visit decisions choices left before other → one ≡ other)
          → one ≡ other
      by_both (inl p) (inl q) same rest =
          rest first.left (out || first.left_out) p.1 (subst (λ (f : SearchOutcome). VisitsEach Visit decisions choices f.left (out || f.left_out) other) (sym same) q.1)
      by_both (inl p) (inr q) same rest = absurd (q.0 (ap (λ (f : SearchOutcome). f.ending) (sym same) ∙ p.0))
      by_both (inr p) (inl q) same rest = absurd (p.0 (ap (λ (f : SearchOutcome). f.ending) same ∙ q.0))
      by_both (inr p) (inr q) same rest = p.1 ∙ ap (also_left_out out) same ∙ sym q.1

  -- what a state without a flaw gives, or one of which the first flaw is looked at
  abbrev Looks : (ℕ → List Decision → SearchOutcome → Type 0) → List Decision → State → ℕ → SearchOutcome → Type 0
  Looks Visit decisions state units outcome =
      ((HasFlaw model decisions state → ⊥) × (outcome ≡ record { ending = Finds decisions; left = units; left_out = false }))
      ⊎ LooksAtFlaw model bound Visit decisions state units outcome

  at_once : (Visit : ℕ → List Decision → SearchOutcome → Type 0) → IsOnce Visit → (decisions : List Decision) (state : State) (units : ℕ) (one other : SearchOutcome)
      → IsSettled model decisions → IsLeast model decisions state → LooksAtFlaw model bound Visit decisions state units one → LooksAtFlaw model bound Visit decisions state units other → one ≡ other
  at_once Visit once decisions state units one other settled least p q =
      let order = least.closed.consistent.is_state.order in
      let flaws = first_once model decisions state p.flaw q.flaw p.is_first q.is_first in
      let choices = choices_once model decisions state order bound p.flaw p.choices q.choices p.are
      (subst (λ (f : Flaw). AreChoices model decisions state bound f q.choices) (sym flaws) q.are) in
      let outs = left_out_once model decisions state order bound p.flaw p.out q.out p.tells
      (subst (λ (f : Flaw). TellsLeftOut model decisions bound f q.out) (sym flaws) q.tells) in
      each_once Visit once decisions p.choices units p.out one other
      (choices_settled model lawful bound few decisions state p.flaw p.choices settled least p.is_first p.are) p.visits
      (subst (λ (b : Bool). VisitsEach Visit decisions p.choices units b other) (sym outs)
      (subst (λ (c : List Decision). VisitsEach Visit decisions c units q.out other) (sym choices) q.visits))

  looks_once : (Visit : ℕ → List Decision → SearchOutcome → Type 0) → IsOnce Visit → (decisions : List Decision) (state : State) (units : ℕ) (one other : SearchOutcome)
      → IsSettled model decisions → IsLeast model decisions state → Looks Visit decisions state units one → Looks Visit decisions state units other → one ≡ other
  looks_once Visit once decisions state units one other settled least (inl p) (inl q) = p.1 ∙ sym q.1
  looks_once Visit once decisions state units one other settled least (inl p) (inr q) = absurd (p.0 (q.flaw, q.is_first.is))
  looks_once Visit once decisions state units one other settled least (inr p) (inl q) = absurd (q.0 (p.flaw, p.is_first.is))
  looks_once Visit once decisions state units one other settled least (inr p) (inr q) = at_once Visit once decisions state units one other settled least p q

  pub visits_once : (depth : ℕ) → IsOnce (IsVisitOf model bound depth)
  visits_once depth zero decisions one other settled p q = p ∙ sym q
  visits_once zero (suc units) decisions one other settled p q = absurd p
  visits_once (suc depth) (suc units) decisions one other settled (inl p) (inl q) = p.1 ∙ sym q.1
  visits_once (suc depth) (suc units) decisions one other settled (inl p) (inr q) = absurd (least_not_collapsed model decisions q.state q.least p.0)
  visits_once (suc depth) (suc units) decisions one other settled (inr p) (inl q) = absurd (least_not_collapsed model decisions p.state p.least q.0)
  visits_once (suc depth) (suc units) decisions one other settled (inr p) (inr q) =
      looks_once (IsVisitOf model bound depth) (visits_once depth) decisions p.state units one other settled p.least p.looks
      (subst (λ (s : State). Looks (IsVisitOf model bound depth) decisions s units other) (sym (least_same model decisions p.state q.state p.least q.least)) q.looks)

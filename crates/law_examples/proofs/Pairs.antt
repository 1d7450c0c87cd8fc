-- What is claimed of two arguments that may be one number each, and which claim a constraint on two terms makes.
use Rattle.std.proofs.Common.{◌≡◌, ℕ, ◌≤◌, List, [], ◌∷◌, ◌++◌, ℤ, pos, inl, inr, refl, sym, ◌∙◌, subst, arith}
use Rattle.std.specs.Prelude.{Contains, All}
use Rattle.std.specs.List.{AllZip}
use Rattle.std.proofs.lemmas.Int.{ints}
use Rattle.domain_core.specs.Domain.{Domain, Range, Set, IsDomain, IsTested, Has}
use Rattle.eu_name.specs.declared.name.TokenName.{TokenName}
use Rattle.model_core.specs.declared.item.Item.TheVariants.{Constraint}
use Rattle.domain_core.specs.declared.kind.Kind.{Kind}
use Rattle.domain_core.specs.declared.kind.Kind.TheVariants.{Eq, Leq}
use Rattle.model_core.specs.declared.item.Term.{Term}
use Rattle.model_core.specs.declared.model.Model.{Model}
use Rattle.domain_core.specs.Consistency.{Reach, Ends, Values, Admits, AreConsistent}
use Rattle.domain_core.specs.Constraints.{HoldsOf, AgreeOn}
use Rattle.model_core.specs.State.{State, Gives, AreInOrder}
use Rattle.plan_defs.specs.Claims.{Claim, IsOfProblem, ItemSays, at_most, equal}
use Rattle.plan_defs.specs.Consistency.{IsClaimConsistent, HasField}
use Rattle.plan_defs.specs.Terms.{Argument, Value, Variable, InProblem, Means, HasDomain, ArgumentCounts}
use Rattle.plan_defs.proofs.States.{gives_same}
use Rattle.law_examples.specs.Scenes.{exactly}
use Rattle.law_examples.proofs.Lists.{only_member}
use Rattle.law_examples.proofs.Tuples.{two_consistent}

-- ---- two single numbers are consistent exactly where the constraint holds of them

admits : (reach : Reach) (x : ℕ) → Admits reach (exactly x) (pos x)
admits Values x = (omega (arith, ints), omega (arith, ints))
admits Ends x = (omega (arith, ints), omega (arith, ints))

only_admits : (reach : Reach) (x : ℕ) (v : ℤ) → Admits reach (exactly x) v → v ≡ pos x
only_admits Values x v p = omega (arith, ints, p.0, p.1)
only_admits Ends x v p = omega (arith, ints, p.0, p.1)

only_tested : (x : ℕ) (v : ℤ) → IsTested (exactly x) v → pos x ≡ v
only_tested x v (inl e) = sym e
only_tested x v (inr e) = sym e

module _ (reach : Reach) (holds : List ℤ → Type 0) (x y : ℕ) where
  pair_consistent : holds (pos x ∷ pos y ∷ []) → AreConsistent reach holds (exactly x ∷ exactly y ∷ [])
  pair_consistent h =
      two_consistent reach holds (exactly x) (exactly y)
      (λ v tested. ([], pos y ∷ [], tt, (admits reach y, tt), subst (λ w. holds (w ∷ pos y ∷ [])) (only_tested x v tested) h))
      (λ v tested. (pos x ∷ [], [], (admits reach x, tt), tt, subst (λ w. holds (pos x ∷ w ∷ [])) (only_tested y v tested) h))

  only_tuple : (left right : List ℤ) → AllZip (Admits reach) [] left → AllZip (Admits reach) (exactly y ∷ []) right → holds (left ++ pos x ∷ right) → holds (pos x ∷ pos y ∷ [])
  only_tuple (v ∷ left) right before after h = absurd before
  only_tuple [] [] before after h = absurd after
  only_tuple [] (w ∷ more ∷ right) before after h = absurd after.1
  only_tuple [] (w ∷ []) before after h = subst (λ v. holds (pos x ∷ v ∷ [])) (only_admits reach y w after.0) h

  pair_holds : AreConsistent reach holds (exactly x ∷ exactly y ∷ []) → holds (pos x ∷ pos y ∷ [])
  pair_holds agree = let found = agree [] (exactly x) (exactly y ∷ []) (pos x) refl (inl refl) in only_tuple found.0 found.1 found.2 found.3 found.4

-- a domain is consistent with itself where it has to be the same
pub same_consistent : (domain : Domain) → IsDomain domain → AreConsistent Values (HoldsOf Eq) (domain ∷ domain ∷ [])
same_consistent domain ok =
    two_consistent Values (HoldsOf Eq) domain domain
    (λ v tested. ([], v ∷ [], tt, (has domain ok v tested, tt), refl))
    (λ v tested. (v ∷ [], [], (has domain ok v tested, tt), tt, refl))
  where
    has : (d : Domain) → IsDomain d → (v : ℤ) → IsTested d v → Has d v
    has (Range lo hi) ok v (inl e) = (omega (arith, ints, e), omega (arith, ints, e, ok.1.1))
    has (Range lo hi) ok v (inr e) = (omega (arith, ints, e, ok.1.1), omega (arith, ints, e))
    has (Set members) ok v tested = tested

-- ---- claims of two arguments

has_same : (state : State) → AreInOrder state → (argument : Argument) (one other : Domain) → HasDomain (Gives state) argument one → HasDomain (Gives state) argument other → one ≡ other
has_same state ordered (Value value) one other p q = p ∙ sym q
has_same state ordered (Variable name) one other p q = gives_same state ordered name one other p q

module _ (model : Model) (state : State) (ordered : AreInOrder state) (a b : Argument) where
  abbrev said : Kind → Claim
  said kind = record { kind = kind; arguments = a ∷ b ∷ [] }

  -- the claim is about these domains
  pub is_about : (kind : Kind) (one other : Domain) → HasDomain (Gives state) a one → HasDomain (Gives state) b other → IsClaimConsistent model state (said kind) → AgreeOn (HasField model) kind (one ∷ other ∷ [])
  is_about kind one other has_a has_b c = at c.domains c.have c.agree
    where
      at : (domains : List Domain) → AllZip (HasDomain (Gives state)) (a ∷ b ∷ []) domains → AgreeOn (HasField model) kind domains → AgreeOn (HasField model) kind (one ∷ other ∷ [])
      at [] have agree = absurd have
      at (d ∷ []) have agree = absurd have.1
      at (d ∷ e ∷ more ∷ rest) have agree = absurd have.1.1
      at (d ∷ e ∷ []) have agree =
          let first = has_same state ordered a d one have.0 has_a in
          let second = has_same state ordered b e other have.1.0 has_b in
          subst (AgreeOn (HasField model) kind) (λ i. first i ∷ second i ∷ []) agree

  pub agreeing : (kind : Kind) (one other : Domain) → HasDomain (Gives state) a one → HasDomain (Gives state) b other → AgreeOn (HasField model) kind (one ∷ other ∷ []) → IsClaimConsistent model state (said kind)
  agreeing kind one other has_a has_b agree = record { domains = one ∷ other ∷ []; have = (has_a, (has_b, tt)); agree = agree }

  module _ (x y : ℕ) (has_a : HasDomain (Gives state) a (exactly x)) (has_b : HasDomain (Gives state) b (exactly y)) where
    pub at_most_holds : x ≤ y → IsClaimConsistent model state (at_most a b)
    at_most_holds less = agreeing Leq (exactly x) (exactly y) has_a has_b (pair_consistent Ends (HoldsOf Leq) x y (omega (arith, ints, less)))

    pub at_most_says : IsClaimConsistent model state (at_most a b) → x ≤ y
    at_most_says c = let h = pair_holds Ends (HoldsOf Leq) x y (is_about Leq (exactly x) (exactly y) has_a has_b c) in omega (arith, ints, h)

    pub equal_holds : x ≡ y → IsClaimConsistent model state (equal a b)
    equal_holds same = agreeing Eq (exactly x) (exactly y) has_a has_b (pair_consistent Values (HoldsOf Eq) x y (omega (arith, ints, same)))

    pub equal_says : IsClaimConsistent model state (equal a b) → x ≡ y
    equal_says c = let h = pair_holds Values (HoldsOf Eq) x y (is_about Eq (exactly x) (exactly y) has_a has_b c) in omega (arith, ints, h)

-- ---- one constraint of a problem, on two terms that mean one thing each

module _ (model : Model) (Taken : TokenName → Type 0) (kind : Kind) (t u : Term) (a b : Argument) (is_one : model.problem.items ≡ Constraint kind (t ∷ u ∷ []) ∷ [])
    (t_means : (x : Argument) → Means InProblem t x → x ≡ a) (u_means : (x : Argument) → Means InProblem u x → x ≡ b) where
  abbrev the_claim : Claim
  the_claim = record { kind = kind; arguments = a ∷ b ∷ [] }

  arguments_are : (arguments : List Argument) → AllZip (Means InProblem) (t ∷ u ∷ []) arguments → arguments ≡ a ∷ b ∷ []
  arguments_are [] means = absurd means
  arguments_are (x ∷ []) means = absurd means.1
  arguments_are (x ∷ y ∷ more ∷ rest) means = absurd means.1.1
  arguments_are (x ∷ y ∷ []) means = (λ i. t_means x means.0 i ∷ u_means y means.1.0 i ∷ [])

  -- the claim, and that what it is about counts
  pub only_claim : (claim : Claim) → IsOfProblem model Taken claim → (claim ≡ the_claim) × All (ArgumentCounts model Taken) (a ∷ b ∷ [])
  only_claim claim p =
      let item = only_member (Constraint kind (t ∷ u ∷ [])) p.item (subst (λ list. Contains list p.item) is_one p.stands) in
      let says = subst (λ i. ItemSays model Taken InProblem i claim) (sym item) p.says in
      let arguments = arguments_are claim.arguments says.means in
      let kinds = says.is_kind in
      ((λ i. record { kind = kinds i; arguments = arguments i }), subst (All (ArgumentCounts model Taken)) arguments says.counts)

-- Propagating a network of claims that are owed loses no propagated state.
use Rattle.std.proofs.Common.{◌≡◌, ℕ, ◌<◌, suc, zero, List, [], ◌∷◌, length, Some, Ok, Err, refl, ap, ◌∙◌, subst, arith}
use Rattle.std.specs.Prelude.{Result, slice_get}
use Rattle.std.specs.List.{AllZip}
use Rattle.domain_core.specs.Domain.{Domain, IsDomain, IsWithin}
use Rattle.eu_name.specs.declared.name.VarName.{VarName}
use Rattle.model_core.specs.declared.decision.Decision.{Decision}
use Rattle.model_core.specs.declared.model.Model.{Model}
use Rattle.model_core.specs.State.{State, Gives, IsBelow}
use Rattle.narrow_core.specs.declared.field.Field.{Field}
use Rattle.narrow_core.specs.Laws.{LieWithin}
use Rattle.constraint_net.specs.Networks.{AllConsistent, IsConsistent}
use Rattle.constraint_net.specs.Steps.{FitWithin, Advances, PropagatesTo}
use Rattle.constraint_net.specs.declared.NetFault.{NetFault}
use Rattle.constraint_net.specs.declared.NetFault.TheVariants.{Collapsed, Memory}
use Rattle.constraint_net.specs.declared.constraint.Constraint.{Constraint}
use Rattle.plan_defs.specs.Closure.{IsPropagatedState}
use Rattle.eu_name.proofs.Members.{get_below, get_within, get_all, get_same}
use Rattle.plan_defs.proofs.Members.{all_from_get}
use Rattle.plan_defs.proofs.States.{gives_domain}
use Rattle.model_core.specs.Content.{Content, shown, IsContent}
use Rattle.db_refine.specs.Claims.{SaysClaim, IsOwed, AreOwed, AreFieldsOf}
use Rattle.db_refine.specs.Growth.{IsAboveAll}
use Rattle.db_refine.specs.GrowthLaws.{KeepsAbove, with_domains}
use Rattle.db_refine.proofs.Agreeing.{constraint_from}
use Rattle.db_refine.proofs.Showing.{stands_from, gives_from}

-- ---- lists found place by place

at_places : {X : Type 0} (P : ℕ → X → Type 0) (first : X) (rest : List X) → P 0 first → ((k : ℕ) (x : X) → slice_get rest k ≡ Some x → P (suc k) x)
    → (k : ℕ) (x : X) → slice_get (first ∷ rest) k ≡ Some x → P k x
at_places P first rest here later zero x e = let same : first ≡ x = cc in subst (P 0) same here
at_places P first rest here later (suc k) x e = later k x e

-- so many items, each found on its own, are a list
collected : {X : Type 0} (P : ℕ → X → Type 0) (count : ℕ) → ((k : ℕ) → k < count → (x : X) × P k x)
    → (xs : List X) × (length xs ≡ count) × ((k : ℕ) (x : X) → slice_get xs k ≡ Some x → P k x)
collected P zero find = ([], refl, λ k x at. absurd (cc))
collected P (suc count) find =
    let first = find 0 (omega arith) in
    let rest = collected (λ k. P (suc k)) count (λ k below. find (suc k) (omega arith)) in
    (first.0 ∷ rest.0, ap suc rest.1, at_places P first.0 rest.0 first.1 rest.2)

zip_from : {X Y : Type 0} (R : X → Y → Type 0) (xs : List X) (ys : List Y) → length xs ≡ length ys
    → ((k : ℕ) (x : X) (y : Y) → slice_get xs k ≡ Some x → slice_get ys k ≡ Some y → R x y) → AllZip R xs ys
zip_from R [] [] long at = tt
zip_from R [] (y ∷ ys) long at = absurd (omega arith)
zip_from R (x ∷ xs) [] long at = absurd (omega arith)
zip_from R (x ∷ xs) (y ∷ ys) long at = (at 0 x y refl refl, zip_from R xs ys (omega arith) (λ k. at (suc k)))

zip_at : {X Y : Type 0} (R : X → Y → Type 0) (xs : List X) (ys : List Y) (k : ℕ) (x : X) (y : Y) → AllZip R xs ys
    → slice_get xs k ≡ Some x → slice_get ys k ≡ Some y → R x y
zip_at R [] ys k x y zip p q = absurd (cc)
zip_at R (one ∷ xs) [] k x y zip p q = absurd zip
zip_at R (one ∷ xs) (other ∷ ys) zero x y zip p q =
    let e : one ≡ x = cc in
    let f : other ≡ y = cc in
    subst (λ z. R z y) e (subst (R one) f zip.0)
zip_at R (one ∷ xs) (other ∷ ys) (suc k) x y zip p q = zip_at R xs ys k x y zip.1 p q

zip_length : {X Y : Type 0} (R : X → Y → Type 0) (xs : List X) (ys : List Y) → AllZip R xs ys → length xs ≡ length ys
zip_length R [] [] zip = refl
zip_length R [] (y ∷ ys) zip = absurd zip
zip_length R (x ∷ xs) [] zip = absurd zip
zip_length R (x ∷ xs) (y ∷ ys) zip = ap suc (zip_length R xs ys zip.1)

module _ (model : Model) (decisions : List Decision) (content : Content) (is : IsContent model content) (state : State) (fit : IsPropagatedState model decisions state)
    (below : IsBelow (shown content) state) where
  -- what the state gives the variable of this number
  pub record Offer (k : ℕ) (domain : Domain) : Type 0 where
    pub name : VarName
    pub named : slice_get content.names k ≡ Some name
    pub gives : Gives state name domain
    pub outer : Domain
    pub given : slice_get content.domains k ≡ Some outer
    pub within : IsWithin domain outer

  offer : (k : ℕ) → k < length content.names → (domain : Domain) × Offer k domain
  offer k less =
      let name = get_within content.names k less in
      let outer = get_within content.domains k (let long = is.count in omega (arith, long, less)) in
      let lower = below.variables name.0 outer.0 (gives_from content.names content.domains k name.0 outer.0 name.1 outer.1) in
      (lower.0, record { name = name.0; named = name.1; gives = lower.1; outer = outer.0; given = outer.1; within = lower.2 })

  pub record Offered : Type 0 where
    pub domains : List Domain
    pub count : length domains ≡ length content.names
    pub each : (k : ℕ) (domain : Domain) → slice_get domains k ≡ Some domain → Offer k domain

  pub offered : Offered
  offered = let list = collected Offer (length content.names) offer in record { domains = list.0; count = list.1; each = list.2 }

  module _ (list : Offered) where
    given : (k : ℕ) (name : VarName) → slice_get content.names k ≡ Some name
        → (domain : Domain) × (slice_get list.domains k ≡ Some domain) × Gives state name domain
    given k name at =
        let here = get_below content.names k name at in
        let found = get_within list.domains k (let long = list.count in omega (arith, long, here)) in
        let each = list.each k found.0 found.1 in
        (found.0, found.1, subst (λ n. Gives state n found.0) (get_same content.names k each.name name each.named at) each.gives)

    pub fit_offered : (tables : List Field) (posted : List Constraint) → AreFieldsOf model tables → AreOwed model decisions content.names posted
        → FitWithin (AllConsistent tables posted) content.domains list.domains
    fit_offered tables posted fields owed = record {
      are = all_from_get IsDomain list.domains (λ k domain at. let each = list.each k domain at in gives_domain model state fit.is_state each.name domain each.gives);
      within = zip_from IsWithin list.domains content.domains (list.count ∙ is.count)
          (λ k inner outer at_inner at_outer. let each = list.each k inner at_inner in
          subst (IsWithin inner) (get_same content.domains k each.outer outer each.given at_outer) each.within);
      fit = all_from_get (λ constraint. IsConsistent tables constraint list.domains) posted (λ k constraint at.
          let claim = get_all (λ c. (claim : _) × SaysClaim content.names c claim × IsOwed model decisions claim) posted k constraint owed at in
          constraint_from state content.names list.domains given fit.is_state.order model tables fields constraint claim.0 claim.1 (claim.2 state fit));
    }

    -- where the offered domains lie in others, the content with these is above the state
    pub stays_above : (domains : List Domain) → LieWithin list.domains domains → IsBelow (shown (with_domains content domains)) state
    stays_above domains lies = record {
      tokens = below.tokens;
      blocks = below.blocks;
      variables = λ name domain gives.
          let at = stands_from content.names domains name domain gives in
          let found = given at.number name at.named in
          (found.0, found.2, zip_at IsWithin list.domains domains at.number found.0 domain lies found.1 at.given);
    }

module _ (model : Model) (decisions : List Decision) (tables : List Field) (posted : List Constraint) (content : Content)
    (is : IsContent model content) (fields : AreFieldsOf model tables) (owed : AreOwed model decisions content.names posted) (above : IsAboveAll model decisions content) where
  advanced : (domains : List Domain) → Advances (AllConsistent tables posted) content.domains domains → IsAboveAll model decisions (with_domains content domains)
  advanced domains steps state fit =
      let list = offered model decisions content is state fit (above state fit) in
      let fits = fit_offered model decisions content is state fit (above state fit) list tables posted fields owed in
      stays_above model decisions content is state fit (above state fit) list domains (steps.keeps list.domains fits)

  pub propagation_above : (result : Result (Unit {0}) NetFault) (domains : List Domain)
      → PropagatesTo (AllConsistent tables posted) content.domains result domains → KeepsAbove model decisions result (with_domains content domains)
  propagation_above (Ok done) domains propagated = advanced domains propagated.0
  propagation_above (Err Memory) domains propagated = advanced domains propagated
  propagation_above (Err Collapsed) domains propagated = λ state fit.
      let list = offered model decisions content is state fit (above state fit) in
      propagated.1 list.domains (fit_offered model decisions content is state fit (above state fit) list tables posted fields owed)

-- Laws of states: each variable once, and two states below each other are equal.
use Rattle.std.proofs.Common.{◌≡◌, refl, ap, subst}
use Rattle.std.specs.Prelude.{Contains}
use Rattle.std.proofs.lemmas.List.Elements.{All-contains}
use Rattle.domain_core.specs.Domain.{Domain, IsDomain, IsWithin}
use Rattle.domain_core.proofs.Words.{IsWithin-refl, IsWithin-trans, IsWithin-antisym}
use Rattle.eu_name.specs.declared.name.VarName.{VarName}
use Rattle.eu_name.specs.NameOrder.{IsTokenBefore, IsVarBefore}
use Rattle.eu_name.proofs.Orders.{token_order, var_order}
use Rattle.model_core.specs.declared.model.Model.{Model}
use Rattle.model_core.specs.Blocks.{IsBlockBefore}
use Rattle.model_core.specs.State.{State, VarDomain, Gives, AreInOrder, IsState, IsBelow}
use Rattle.plan_defs.proofs.BlockOrder.{block_irreflexive, block_transitive}
use Rattle.eu_name.proofs.Ordered.{same_members, one_of_key}

entry_irreflexive : (entry : VarDomain) → IsVarBefore entry.name entry.name → ⊥
entry_irreflexive entry = var_order.irreflexive entry.name

entry_transitive : (a b c : VarDomain) → IsVarBefore a.name b.name → IsVarBefore b.name c.name → IsVarBefore a.name c.name
entry_transitive a b c = var_order.transitive a.name b.name c.name

-- a variable has one domain
pub gives_same : (state : State) → AreInOrder state → (name : VarName) (one other : Domain) → Gives state name one → Gives state name other → one ≡ other
gives_same state ok name one other p q =
    ap (λ (entry : VarDomain). entry.domain)
    (one_of_key (λ (entry : VarDomain). entry.name) IsVarBefore var_order.irreflexive state.entries ok.entries (record { name = name; domain = one }) (record { name = name; domain = other }) p q refl)

module _ (model : Model) (state : State) (ok : IsState model state) where
  pub gives_domain : (name : VarName) (domain : Domain) → Gives state name domain → IsDomain domain
  gives_domain name domain gives = All-contains (λ (entry : VarDomain). IsDomain entry.domain) state.entries (record { name = name; domain = domain }) ok.domains gives

pub IsBelow-refl : (state : State) → IsBelow state state
IsBelow-refl state = record {
  tokens = λ token c. c;
  blocks = λ block c. c;
  variables = λ name domain gives. (domain, gives, IsWithin-refl domain);
}

pub IsBelow-trans : (high middle low : State) → IsBelow high middle → IsBelow middle low → IsBelow high low
IsBelow-trans high middle low p q = record {
  tokens = λ token c. q.tokens token (p.tokens token c);
  blocks = λ block c. q.blocks block (p.blocks block c);
  variables = λ name domain gives.
      let first = p.variables name domain gives in
      let second = q.variables name first.0 first.1 in
      (second.0, second.1, IsWithin-trans second.0 first.0 domain second.2 first.2);
}

-- where two states are below each other, what the one gives the other gives
gives_both : (model : Model) (a b : State) → IsState model a → IsState model b → IsBelow a b → IsBelow b a → (entry : VarDomain) → Contains a.entries entry → Contains b.entries entry
gives_both model a b a_ok b_ok p q entry there =
    let lower = p.variables entry.name entry.domain there in
    let upper = q.variables entry.name lower.0 lower.1 in
    let back : upper.0 ≡ entry.domain = gives_same a a_ok.order entry.name upper.0 entry.domain upper.1 there in
    let within : IsWithin entry.domain lower.0 = subst (λ d. IsWithin d lower.0) back upper.2 in
    let same : lower.0 ≡ entry.domain = IsWithin-antisym lower.0 entry.domain (gives_domain model b b_ok _ _ lower.1) (gives_domain model a a_ok _ _ there) lower.2 within in
    subst (λ d. Gives b entry.name d) same lower.1

-- states below each other are equal
pub IsBelow-antisym : (model : Model) (a b : State) → IsState model a → IsState model b → IsBelow a b → IsBelow b a → a ≡ b
IsBelow-antisym model a b a_ok b_ok p q =
    let tokens = same_members IsTokenBefore token_order.irreflexive token_order.transitive a.tokens b.tokens a_ok.order.tokens b_ok.order.tokens p.tokens q.tokens in
    let blocks = same_members IsBlockBefore block_irreflexive block_transitive a.blocks b.blocks a_ok.order.blocks b_ok.order.blocks p.blocks q.blocks in
    let entries = same_members (λ (one later : VarDomain). IsVarBefore one.name later.name) entry_irreflexive entry_transitive a.entries b.entries a_ok.order.entries b_ok.order.entries
    (gives_both model a b a_ok b_ok p q) (gives_both model b a b_ok a_ok q p) in
    (λ i. record { tokens = tokens i; blocks = blocks i; entries = entries i })

-- The edges of posted constraints.
use Rattle.std.proofs.Common.{◌≡◌, inr, List, [], ◌∷◌, length, get_or, refl, sym, ◌∙◌, ap}
use Rattle.std.proofs.lemmas.List.{append-nil, length-map}
use Rattle.domain_core.specs.declared.kind.Kind.{Kind}
use Rattle.model_core.specs.declared.decision.ConArg.{ConArg}
use Rattle.model_core.specs.declared.decision.Decision.{Decision}
use Rattle.model_core.specs.declared.model.Model.{Model}
use Rattle.plan_defs.specs.Claims.{argument_of, posted_claim}
use Rattle.plan_defs.specs.Terms.{Argument}
use Rattle.db_edges.specs.declared.edge.NamedEdge.{NamedEdge}
use Rattle.db_edges.specs.Adding.{AddsEdges}
use Rattle.db_edges.specs.Edges.{HasClaimEdges}
use Rattle.db_edges.proofs.Pointing.{pair_of}

-- a constraint on any other number of arguments than two compares no points
pub posted_not_two : (model : Model) (decisions : List Decision) (kind : Kind) (arguments : List ConArg) (old : List NamedEdge)
    → (length arguments ≡ 2 → ⊥) → AddsEdges (HasClaimEdges model decisions (posted_claim kind arguments)) old old
posted_not_two model decisions kind arguments old differs = (
  [],
  inr ((λ from to compares. differs (sym (length-map arguments argument_of) ∙ ap (λ (list : List Argument). length list) compares.2)), refl),
  sym (append-nil old),
)

-- two that are read from a list of two are that list
pub two_read : {X : Type 0} (list : List X) (one other : X) → length list ≡ 2 → one ≡ get_or list 0 one → other ≡ get_or list 1 other → one ∷ other ∷ [] ≡ list
two_read list one other two first second = (λ i. first i ∷ second i ∷ []) ∙ pair_of list one other two

-- All edges of a list, one sort behind the other, and what a store at rest has for them.
use Rattle.std.proofs.Common.{◌≡◌, ℕ, List, ◌++◌, refl, sym, ◌∙◌, ap, subst, pos, ◌-ℤ◌, append_assoc}
use Rattle.std.specs.Prelude.{Contains}
use Rattle.std.proofs.lemmas.List.Elements.{All-contains}
use Rattle.domain_core.specs.Domain.{Range}
use Rattle.eu_name.specs.declared.name.Part.TheVariants.{Duration}
use Rattle.eu_name.specs.declared.name.TokenName.{TokenName}
use Rattle.eu_name.specs.declared.name.VarName.TheVariants.{Token}
use Rattle.model_core.specs.declared.decision.Decision.{Decision}
use Rattle.model_core.specs.declared.model.Model.{Model}
use Rattle.model_core.specs.declared.rule.Slot.{Slot}
use Rattle.model_core.specs.declared.variable.Base.TheVariants.{Given}
use Rattle.model_core.specs.State.{State, IsState}
use Rattle.model_core.specs.Tokens.{HasToken}
use Rattle.plan_defs.specs.Terms.{InProblem}
use Rattle.eu_name.proofs.Members.{get_from_contains}
use Rattle.db_posting.specs.Underway.{IsAtRest}
use Rattle.db_store.specs.Stores.{Stored, snapshot_of, IsSnapshot, named_content}
use Rattle.db_store.proofs.Naming.{names_are_once}
use Rattle.db_refusals.specs.Seeing.{seen_state}
use Rattle.db_refusals.proofs.Seen.{have_states, put_in_order}
use Rattle.token_store.specs.Tokens.{TokenPast, tokens_now, token_names, IsNamedAt}
use Rattle.db_edges.specs.declared.edge.NamedEdge.{NamedEdge}
use Rattle.db_edges.specs.declared.walking.Sort.TheVariants.{Relations, Constraints}
use Rattle.db_edges.specs.Adding.{AddsEdges, HaveDurations}
use Rattle.db_edges.specs.Edges.{AppendsEach, HasLastingEdges, HasTimesGiven, HasConstraintEdges, HasOrderEdges, HasPostedEdges}
use Rattle.db_edges.specs.Whole.{AreTimeEdges, HasTokenEdges}

-- each token has a duration in a state
pub have_durations : (model : Model) (state : State) → IsState model state → HaveDurations state
have_durations model state is token there =
    let slot = All-contains (λ (t : TokenName). (slot : Slot) × HasToken model t slot) state.tokens token is.tokens there in
    (is.variables (Token token Duration)).0
    (there, (Given (Range (pos 1) (model.problem.end -ℤ model.problem.start)), (slot.0, slot.1, refl)))

-- what is in a store at rest is a state
pub rests_as_state : (model : Model) (decisions : List Decision) (stored : Stored) → IsAtRest model decisions stored.net.tables (snapshot_of stored)
    → IsState model (seen_state stored)
rests_as_state model decisions stored rest = have_states model (named_content (snapshot_of stored)) rest.underway.justified.is_content

-- a token that is seen stands somewhere in the store
pub seen_somewhere : (stored : Stored) (token : TokenName) (past : TokenPast) → IsSnapshot (snapshot_of stored) → past ≡ stored.past → Contains (seen_state stored).tokens token
    → (place : ℕ) × IsNamedAt (tokens_now past) place token
seen_somewhere stored token past is same seen =
    let there = ((put_in_order (named_content (snapshot_of stored)) (names_are_once (snapshot_of stored) is)).alike.tokens token).1 seen in
    let at = get_from_contains (token_names (tokens_now stored.past)) token there in
    (at.0, subst (λ (p : TokenPast). IsNamedAt (tokens_now p) at.0 token) (sym same) at.1)

module _ (model : Model) (decisions : List Decision) (state : State) (old one two three four five six seven : List NamedEdge) where
  pub all_joined : AddsEdges (AppendsEach (HasLastingEdges model state decisions) state.tokens) old one
      → AddsEdges (AppendsEach (HasTimesGiven model decisions) state.tokens) one two
      → AddsEdges (AppendsEach (HasTokenEdges Relations model decisions state) state.tokens) two three
      → AddsEdges (AppendsEach (HasConstraintEdges model decisions InProblem) model.problem.items) three four
      → AddsEdges (AppendsEach (HasTokenEdges Constraints model decisions state) state.tokens) four five
      → AddsEdges (AppendsEach HasOrderEdges decisions) five six
      → AddsEdges (AppendsEach (HasPostedEdges model decisions) decisions) six seven
      → AddsEdges (AreTimeEdges model decisions state) old seven
  all_joined (a, is_a, at_a) (b, is_b, at_b) (c, is_c, at_c) (d, is_d, at_d) (e, is_e, at_e) (f, is_f, at_f) (g, is_g, at_g) =
      let all : seven ≡ old ++ (a ++ (b ++ (c ++ (d ++ (e ++ (f ++ g)))))) =
      at_g
      ∙ (ap (λ x. x ++ g) at_f ∙ append_assoc five f g)
      ∙ (ap (λ x. x ++ (f ++ g)) at_e ∙ append_assoc four e (f ++ g))
      ∙ (ap (λ x. x ++ (e ++ (f ++ g))) at_d ∙ append_assoc three d (e ++ (f ++ g)))
      ∙ (ap (λ x. x ++ (d ++ (e ++ (f ++ g)))) at_c ∙ append_assoc two c (d ++ (e ++ (f ++ g))))
      ∙ (ap (λ x. x ++ (c ++ (d ++ (e ++ (f ++ g))))) at_b ∙ append_assoc one b (c ++ (d ++ (e ++ (f ++ g)))))
      ∙ (ap (λ x. x ++ (b ++ (c ++ (d ++ (e ++ (f ++ g)))))) at_a ∙ append_assoc old a (b ++ (c ++ (d ++ (e ++ (f ++ g)))))) in (
        a ++ (b ++ (c ++ (d ++ (e ++ (f ++ g))))),
        record {
          lasting = a;
          given = b;
          related = c;
          problem = d;
          constrained = e;
          ordered = f;
          posted = g;
          lasting_are = is_a;
          given_are = is_b;
          related_are = is_c;
          problem_are = is_d;
          constrained_are = is_e;
          ordered_are = is_f;
          posted_are = is_g;
          all = refl;
        },
        all,
      )

-- What is supported since a supported token asks for it, and what is seen from an open block.
use Rattle.std.proofs.Common.{inl, inr, List, [], ◌∷◌, ◌++◌, refl, subst}
use Rattle.std.specs.Prelude.{Contains}
use Rattle.eu_name.specs.declared.name.Step.{Step}
use Rattle.eu_name.specs.declared.name.TokenName.{TokenName}
use Rattle.eu_name.proofs.Members.{contains_from_get}
use Rattle.model_core.specs.declared.model.Model.{Model}
use Rattle.model_core.specs.declared.rule.Guard.{Guard}
use Rattle.model_core.specs.declared.rule.Side.{Side}
use Rattle.model_core.specs.declared.rule.Turn.{Turn}
use Rattle.model_core.specs.Blocks.{TokenBlock, Direct, Follows, chosen, direct}
use Rattle.model_core.specs.Entries.{Entries}
use Rattle.model_core.specs.Standing.{IsSeen}
use Rattle.model_core.specs.Tokens.{slot_token}
use Rattle.plan_defs.specs.Situations.{Situation}
use Rattle.plan_defs.specs.Support.{Opens, IsOpen, AsksFor, IsSupportedToken, front_token}
use Rattle.plan_defs.specs.Terms.{InRule}
use Rattle.law_states.proofs.Ways.{follows_once, last_cases}

-- what is asked for by a supported token is supported
pub supported_slot : (model : Model) (situation : Situation) (token : TokenName) (step : Step) → IsSupportedToken model situation token
    → AsksFor model situation token step → IsSupportedToken model situation (slot_token token step.rule step.slot)
supported_slot model situation token step parent asks = record {
  root = parent.root;
  is_root = parent.is_root;
  asked = λ front other after e. elim (last_cases token.steps front step other after e) [
    | inl last ↦ subst (λ (steps : List Step). AsksFor model situation (front_token token steps) other) last.0 (subst (AsksFor model situation token) last.1 asks)
    | inr inner ↦ parent.asked front other inner.0 inner.1
  ];
}

-- ---- a way to a block leads through those round it

record Round (P : Guard → Side → Type 0) (top : Entries) (outer : List Turn) : Type 0 where
  block : Entries
  way : Follows P top outer block

round : (P : Guard → Side → Type 0) (top : Entries) (outer inner : List Turn) (block : Entries) → Follows P top (outer ++ inner) block → Round P top outer
round P top [] inner block way = record { block = top; way = refl }
round P top (turn ∷ outer) inner block way =
    let rest = round P (chosen turn.side way.1.0 way.1.1) outer inner block way.1.2.1.1 in
    record { block = rest.block; way = (way.0, (way.1.0, way.1.1, (way.1.2.0, (way.1.2.1.0, rest.way)))) }

module _ (model : Model) (situation : Situation) (block : TokenBlock) (entries : Entries) (opened : IsOpen model situation block entries) where
  -- it stands in an open block round this one
  pub record Outer (outer : List Turn) (what : Direct) : Type 0 where
    pub inside : Entries
    pub is_open : IsOpen model situation (record { token = block.token; rule = block.rule; path = outer }) inside
    pub stands : Contains (direct inside) what

  pub outer_open : (what : Direct) (seen : IsSeen opened.has_block.rule.top block.path what) → Outer seen.outer what
  outer_open what seen =
      let has = opened.has_block in
      let r = round (Opens model situation (InRule block.token block.rule)) has.rule.top seen.outer seen.inner entries
      (subst (λ (p : List Turn). Follows (Opens model situation (InRule block.token block.rule)) has.rule.top p entries) seen.within has.way) in
      let same = follows_once (λ guard side. Unit {0}) (Opens model situation (InRule block.token block.rule)) has.rule.top seen.outer seen.stands.block r.block seen.stands.way r.way in
      record {
        inside = r.block;
        is_open = record {
          activated = opened.activated;
          has_block = record { slot = has.slot; has_token = has.has_token; rule = has.rule; has_rule = has.has_rule; way = r.way };
        };
        stands = subst (λ (e : Entries). Contains (direct e) what) same (contains_from_get (direct seen.stands.block) seen.place what seen.stands.stands);
      }

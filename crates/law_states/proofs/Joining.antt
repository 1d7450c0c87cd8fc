-- Two propagated states lie below a third, which has what both have.
use Rattle.std.proofs.Common.{List, [], ◌∷◌, refl, sym, ◌∙◌, subst}
use Rattle.std.specs.Prelude.{Contains}
use Rattle.std.specs.List.{AllZip}
use Rattle.std.proofs.lemmas.List.Elements.{All-contains}
use Rattle.domain_core.specs.Domain.{Domain, Range, IsDomain}
use Rattle.eu_name.specs.declared.name.VarName.{VarName}
use Rattle.eu_name.specs.declared.name.VarName.TheVariants as names
use Rattle.eu_name.specs.NameOrder.{IsTokenBefore}
use Rattle.eu_name.proofs.Orders.{token_order}
use Rattle.model_core.specs.declared.decision.Decision.{Decision}
use Rattle.model_core.specs.declared.decision.Decision.TheVariants.{Specify, Activate, Merge, Reject, Order, Constrain, Relate}
use Rattle.model_core.specs.declared.model.Model.{Model}
use Rattle.model_core.specs.declared.rule.Slot.{Slot}
use Rattle.model_core.specs.declared.variable.Base.{Base}
use Rattle.model_core.specs.declared.variable.Base.TheVariants.{Given, Void}
use Rattle.model_core.specs.Blocks.{TokenBlock, IsBlockBefore}
use Rattle.domain_core.specs.Constraints.{Holds, reach_of}
use Rattle.model_core.specs.Lawful.{IsLawful}
use Rattle.model_core.specs.State.{State, Gives, IsAbout, IsBlockOf, IsBelow}
use Rattle.model_core.specs.Tokens.{HasToken}
use Rattle.model_core.specs.Variables.{HasBase, IsInBase}
use Rattle.plan_defs.specs.Claims.{Claim}
use Rattle.plan_defs.specs.Closure.{IsPropagatedState, IsRespected}
use Rattle.plan_defs.specs.Consistency.{IsClaimConsistent, HasField}
use Rattle.plan_defs.specs.Terms.{Argument, Value, Variable, HasDomain}
use Rattle.plan_defs.proofs.Lower.{asks_as_much, turn_below}
use Rattle.plan_defs.proofs.Knowing.{there_or_not}
use Rattle.plan_defs.proofs.States.{gives_same, gives_domain}
use Rattle.model_core.proofs.Bases.{base_once}
use Rattle.model_core.proofs.Locals.{local_once}
use Rattle.model_core.proofs.Lawful.{base_lawful}
use Rattle.law_states.proofs.Listing.{Chosen, chosen}
use Rattle.law_states.proofs.Making.{Made, MayBeState, made, about_more}
use Rattle.law_states.proofs.Paths.{block_order}
use Rattle.law_states.specs.LeastStates.{HasUpper}
use Rattle.law_states.proofs.Hulls.{IsHull, Covers, AllCover, hull_of, single_hull, hull_covers, same_covers, covered_consistent}

-- ---- the domains

-- a domain that has those of the variable in both states
pub record IsJoined (model : Model) (one other : State) (name : VarName) (domain : Domain) : Type 0 where
  pub ok : IsDomain domain
  pub in_base : (base : Base) × HasBase model name base × IsInBase domain base
  pub first : Domain
  pub second : Domain
  pub gives_one : Gives one name first
  pub gives_other : Gives other name second
  pub hull : IsHull first second domain

module _ (model : Model) (decisions : List Decision) (lawful : IsLawful model) (one other : State) (one_fit : IsPropagatedState model decisions one)
    (other_fit : IsPropagatedState model decisions other) where
  joined_domain : (name : VarName) → IsAbout model one name → IsAbout model other name → (domain : Domain) × IsJoined model one other name domain
  joined_domain name about_one about_other =
      let first = (one_fit.is_state.variables name).0 about_one in
      let second = (other_fit.is_state.variables name).0 about_other in
      let base = one_fit.in_base name first.0 first.1 in
      let its = other_fit.in_base name second.0 second.1 in
      let same = base_once model name its.0 base.0 its.1 base.1 in
      by_base first second base.0 base.1 base.2 (subst (IsInBase second.0) same its.2)
    where
      by_base : (first : (domain : Domain) × Gives one name domain) (second : (domain : Domain) × Gives other name domain) (base : Base) → HasBase model name base
          → IsInBase first.0 base → IsInBase second.0 base → (domain : Domain) × IsJoined model one other name domain
      by_base first second Void has one_in other_in = absurd one_in
      by_base first second (Given base) has one_in other_in =
          let hull = hull_of base first.0 second.0 (base_lawful model lawful name base has) (gives_domain model one one_fit.is_state name first.0 first.1)
          (gives_domain model other other_fit.is_state name second.0 second.1) one_in other_in in (
            hull.hull,
            record {
              ok = hull.ok;
              in_base = (Given base, has, hull.within);
              first = first.0;
              second = second.0;
              gives_one = first.1;
              gives_other = second.1;
              hull = hull.is;
            },
          )

  -- ---- the state

  tokens : Chosen IsTokenBefore (Contains other.tokens) one.tokens
  tokens = chosen IsTokenBefore token_order (Contains other.tokens) one.tokens (λ token there. there_or_not IsTokenBefore token_order other.tokens token)

  blocks : Chosen IsBlockBefore (Contains other.blocks) one.blocks
  blocks = chosen IsBlockBefore block_order (Contains other.blocks) one.blocks (λ block there. there_or_not IsBlockBefore block_order other.blocks block)

  module _ (some : Chosen IsTokenBefore (Contains other.tokens) one.tokens) (opened : Chosen IsBlockBefore (Contains other.blocks) one.blocks) where
    may_be : MayBeState model some.list opened.list
    may_be = record {
      tokens_order = some.order;
      blocks_order = opened.order;
      are_tokens = λ token there. All-contains (λ token. (slot : Slot) × HasToken model token slot) one.tokens token one_fit.is_state.tokens ((some.are token).0 there).0;
      are_blocks = λ block there. (All-contains (IsBlockOf model one) one.blocks block one_fit.is_state.blocks ((opened.are block).0 there).0).1;
      owned = λ block there.
          let both = (opened.are block).0 there in
          (some.are block.token).1 (
            (All-contains (IsBlockOf model one) one.blocks block one_fit.is_state.blocks both.0).0,
            (All-contains (IsBlockOf model other) other.blocks block other_fit.is_state.blocks both.1).0,
          );
    }

    abbrev bare : State
    bare = record { tokens = some.list; blocks = opened.list; entries = [] }

    all_made : Made model some.list opened.list (IsJoined model one other)
    all_made = made model some.list opened.list (IsJoined model one other) may_be (λ name domain is. is.ok)
        (λ name about. joined_domain name (about_more model bare one (λ token there. ((some.are token).0 there).0) (λ block there. ((opened.are block).0 there).0) name about) (about_more model bare other (λ token there. ((some.are token).0 there).1) (λ block there. ((opened.are block).0 there).1) name about))

    module _ (whole : Made model some.list opened.list (IsJoined model one other)) where
      abbrev joined : State
      joined = record { tokens = some.list; blocks = opened.list; entries = whole.entries }

      below_one : IsBelow joined one
      below_one = record {
        tokens = λ token there. ((some.are token).0 there).0;
        blocks = λ block there. ((opened.are block).0 there).0;
        variables = λ name domain gives. let is = whole.are name domain gives in (is.first, is.gives_one, is.hull.one_within);
      }

      below_other : IsBelow joined other
      below_other = record {
        tokens = λ token there. ((some.are token).0 there).1;
        blocks = λ block there. ((opened.are block).0 there).1;
        variables = λ name domain gives. let is = whole.are name domain gives in (is.second, is.gives_other, is.hull.other_within);
      }

      -- ---- what both are about

      about_joined : (name : VarName) → IsAbout model one name → IsAbout model other name → IsAbout model joined name
      about_joined (names.Global number) is its = is
      about_joined (names.Token token part) is its = ((some.are token).1 (is.0, its.0), is.1)
      about_joined (names.Local token rule number) is its =
          let same = local_once model lawful is.block its.block is.entries its.entries number (is.of_token ∙ sym its.of_token) (is.of_rule ∙ sym its.of_rule)
          is.is_block its.is_block is.stands its.stands in
          record {
            block = is.block;
            is_open = (opened.are is.block).1 (is.is_open, subst (λ (b : TokenBlock). Contains other.blocks b) (sym same) its.is_open);
            of_token = is.of_token;
            of_rule = is.of_rule;
            entries = is.entries;
            is_block = is.is_block;
            stands = is.stands;
          }

      -- what the argument may be in the three
      record Argued (argument : Argument) (first second : Domain) : Type 0 where
        domain : Domain
        has : HasDomain (Gives joined) argument domain
        covers : Covers first second domain

      argued : (argument : Argument) (first second : Domain) → HasDomain (Gives one) argument first → HasDomain (Gives other) argument second → Argued argument first second
      argued (Value value) first second is its = record {
        domain = Range value value;
        has = refl;
        covers = subst (λ (d : Domain). Covers d second (Range value value)) (sym is) (subst (λ (d : Domain). Covers (Range value value) d (Range value value)) (sym its) (same_covers (Range value value)));
      }
      argued (Variable name) first second gives its =
          let about = about_joined name ((one_fit.is_state.variables name).1 (first, gives)) ((other_fit.is_state.variables name).1 (second, its)) in
          let found = (whole.is_state.variables name).0 about in
          let is = whole.are name found.0 found.1 in
          let firsts = gives_same one one_fit.is_state.order name is.first first is.gives_one gives in
          let seconds = gives_same other other_fit.is_state.order name is.second second is.gives_other its in
          record {
            domain = found.0;
            has = found.1;
            covers = hull_covers first second found.0
                (subst (λ (d : Domain). IsHull d second found.0) firsts (subst (λ (d : Domain). IsHull is.first d found.0) seconds is.hull))
                (gives_domain model one one_fit.is_state name first gives) (gives_domain model other other_fit.is_state name second its) is.ok;
          }

      record AllArgued (arguments : List Argument) (firsts seconds : List Domain) : Type 0 where
        domains : List Domain
        have : AllZip (HasDomain (Gives joined)) arguments domains
        cover : AllCover firsts seconds domains

      all_argued : (arguments : List Argument) (firsts seconds : List Domain) → AllZip (HasDomain (Gives one)) arguments firsts → AllZip (HasDomain (Gives other)) arguments seconds
          → AllArgued arguments firsts seconds
      all_argued [] [] [] have its = record { domains = []; have = tt; cover = tt }
      all_argued (argument ∷ arguments) (first ∷ firsts) (second ∷ seconds) have its =
          let here = argued argument first second have.0 its.0 in
          let rest = all_argued arguments firsts seconds have.1 its.1 in
          record { domains = here.domain ∷ rest.domains; have = (here.has, rest.have); cover = (here.covers, rest.cover) }
      all_argued [] (first ∷ firsts) seconds have its = absurd have
      all_argued [] [] (second ∷ seconds) have its = absurd its
      all_argued (argument ∷ arguments) [] seconds have its = absurd have
      all_argued (argument ∷ arguments) (first ∷ firsts) [] have its = absurd its

      claim_joined : (claim : Claim) → IsClaimConsistent model one claim → IsClaimConsistent model other claim → IsClaimConsistent model joined claim
      claim_joined claim is its =
          let all = all_argued claim.arguments is.domains its.domains is.have its.have in
          record { domains = all.domains; have = all.have; agree = covered_consistent (reach_of claim.kind) (Holds (HasField model) claim.kind) is.domains its.domains all.domains all.cover is.agree its.agree }

      -- ---- it is propagated

      respected : (decision : Decision) → IsRespected decision one → IsRespected decision other → IsRespected decision joined
      respected (Specify name value) is its = λ domain gives.
          let joins = whole.are name domain gives in
          single_hull joins.first joins.second domain value joins.hull (gives_domain model one one_fit.is_state name joins.first joins.gives_one)
          (gives_domain model other other_fit.is_state name joins.second joins.gives_other) joins.ok (is joins.first joins.gives_one) (its joins.second joins.gives_other)
      respected (Activate token) is its = tt
      respected (Merge token target) is its = tt
      respected (Reject token) is its = tt
      respected (Order before after) is its = tt
      respected (Constrain kind arguments) is its = tt
      respected (Relate relation before after) is its = tt

      consistent : IsPropagatedState model decisions joined
      consistent =
          let asks = asks_as_much model decisions joined one below_one in
          let asks_other = asks_as_much model decisions joined other below_other in
          record {
            is_state = whole.is_state;
            tokens = λ token supported. (some.are token).1 (one_fit.tokens token (asks.tokens token supported), other_fit.tokens token (asks_other.tokens token supported));
            blocks = λ block entries supported.
                (opened.are block).1 (one_fit.blocks block entries (asks.blocks block entries supported), other_fit.blocks block entries (asks_other.blocks block entries supported));
            in_base = λ name domain gives. (whole.are name domain gives).in_base;
            respected = λ decision there. respected decision (one_fit.respected decision there) (other_fit.respected decision there);
            claims = λ claim is. claim_joined claim (one_fit.claims claim (asks.claims claim is)) (other_fit.claims claim (asks_other.claims claim is));
            timelines = λ before after share late.
                let turn = turn_below model decisions joined one whole.is_state one_fit.is_state below_one before after (record { share = share; late = late }) in
                let turn_other = turn_below model decisions joined other whole.is_state other_fit.is_state below_other before after (record { share = share; late = late }) in
                claim_joined _ (one_fit.timelines before after turn.share turn.late) (other_fit.timelines before after turn_other.share turn_other.late);
          }

  pub upper : HasUpper model decisions one other
  upper = record {
    upper = joined tokens blocks (all_made tokens blocks);
    consistent = consistent tokens blocks (all_made tokens blocks);
    one_below = below_one tokens blocks (all_made tokens blocks);
    other_below = below_other tokens blocks (all_made tokens blocks);
  }

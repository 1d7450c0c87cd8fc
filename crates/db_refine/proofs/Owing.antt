-- What a content above all propagated states asks for, each of them has.
use Rattle.std.proofs.Common.{List, [], ◌++◌, inl, inr, subst}
use Rattle.std.specs.Prelude.{Contains}
use Rattle.domain_core.specs.Domain.{Domain, IsWithin}
use Rattle.eu_name.specs.declared.name.TokenName.{TokenName}
use Rattle.eu_name.specs.declared.name.VarName.{VarName}
use Rattle.model_core.specs.declared.decision.Decision.{Decision}
use Rattle.model_core.specs.declared.model.Model.{Model}
use Rattle.model_core.specs.declared.variable.Base.{Base}
use Rattle.model_core.specs.declared.variable.Base.TheVariants.{Given, Void}
use Rattle.model_core.specs.Blocks.{TokenBlock}
use Rattle.model_core.specs.State.{State, IsAbout, GivesWithin}
use Rattle.model_core.specs.Variables.{HasBase, IsInBase}
use Rattle.plan_defs.specs.Claims.{Claim}
use Rattle.plan_defs.specs.Closure.{IsPropagatedState}
use Rattle.plan_defs.specs.Laws.{HaveToTurn}
use Rattle.plan_defs.specs.Timelines.{IsOn}
use Rattle.plan_defs.proofs.Lower.{asks_as_much, turn_below, front_propagated}
use Rattle.eu_name.proofs.Ordered.{contains_none}
use Rattle.plan_defs.proofs.States.{IsBelow-trans}
use Rattle.model_core.specs.Content.{Content, shown, IsContent, AreAlike}
use Rattle.db_refine.specs.Claims.{IsOwed}
use Rattle.db_refine.specs.Growth.{IsAboveAll, Grows}
use Rattle.db_refine.specs.GrowthLaws.{IsOwedBelow}
use Rattle.db_refine.proofs.Alike.{alike_below, alike_back, about_more, in_order, in_order_alike, in_order_state}
use Rattle.model_core.proofs.Bases.{base_once}
use Rattle.db_refine.proofs.Showing.{is_named}

-- an empty content is above all
pub nothing_above : (model : Model) (decisions : List Decision) → IsAboveAll model decisions (record { tokens = []; blocks = []; names = []; domains = [] })
nothing_above model decisions state fit = record {
  tokens = λ token c. absurd (contains_none token c);
  blocks = λ block c. absurd (contains_none block c);
  variables = λ name domain c. absurd (contains_none _ c);
}

-- what lies in some base of the variable lies in the domain that is its base
in_given : (model : Model) (name : VarName) (domain inner : Domain) (base : Base) → HasBase model name (Given domain) → HasBase model name base
    → IsInBase inner base → IsWithin inner domain
in_given model name domain inner base is has within =
    let same = base_once model name base (Given domain) has is in
    subst (IsInBase inner) same within

-- a propagated state has each variable that it is about, within its base
given_within : (model : Model) (decisions : List Decision) (state : State) → IsPropagatedState model decisions state
    → (name : VarName) (domain : Domain) → IsAbout model state name → HasBase model name (Given domain) → GivesWithin state name domain
given_within model decisions state fit name domain about is =
    let has = (fit.is_state.variables name).0 about in
    let base = fit.in_base name has.0 has.1 in
    (has.0, has.1, in_given model name domain has.0 base.0 is base.1 base.2)

pub no_void : (model : Model) (decisions : List Decision) (state : State) (name : VarName)
    → IsPropagatedState model decisions state → IsAbout model state name → HasBase model name Void → ⊥
no_void model decisions state name fit about void =
    let has = (fit.is_state.variables name).0 about in
    let base = fit.in_base name has.0 has.1 in
    let same = base_once model name base.0 Void base.1 void in
    subst (IsInBase has.0) same base.2

module _ (model : Model) (decisions : List Decision) (old new : Content) (is : IsContent model new) (grows : Grows model decisions old new) (above : IsAboveAll model decisions old) where
  pub grown_above : IsAboveAll model decisions new
  grown_above state fit =
      let below = above state fit in
      let asks = asks_as_much model decisions (shown old) state below in
      let tokens : (token : TokenName) → Contains new.tokens token → Contains state.tokens token = λ token c. elim (grows.tokens token c) [
        | inl before ↦ below.tokens token before
        | inr supported ↦ fit.tokens token (asks.tokens token supported)
      ] in
      let blocks : (block : TokenBlock) → Contains new.blocks block → Contains state.blocks block = λ block c. elim (grows.blocks block c) [
        | inl before ↦ below.blocks block before
        | inr opened ↦ fit.blocks block opened.0 (asks.blocks block opened.0 opened.1)
      ] in
      record {
        tokens = tokens;
        blocks = blocks;
        variables = λ name domain gives. elim (grows.variables name domain gives) [
          | inl before ↦ below.variables name domain before
          | inr base ↦ given_within model decisions state fit name domain
              (about_more model (shown new) state tokens blocks name ((is.variables name).1 (is_named new.names new.domains name domain gives))) base
        ];
      }

-- ---- longer lists

pub longer_below : (model : Model) (front back : List Decision) (content : Content) → IsAboveAll model front content → IsAboveAll model (front ++ back) content
longer_below model front back content above state fit = above state (front_propagated model front back state fit)

pub longer_owes : (model : Model) (front back : List Decision) (claim : Claim) → IsOwed model front claim → IsOwed model (front ++ back) claim
longer_owes model front back claim owed state fit = owed state (front_propagated model front back state fit)

-- ---- what is asked for is owed

-- what two tokens owe each other rests on what the state gives alone
pub turn_alike : (model : Model) (decisions : List Decision) (one other : State) → AreAlike one other
    → (first second : TokenName) → HaveToTurn model decisions one first second → HaveToTurn model decisions other first second
turn_alike model decisions one other alike first second p =
    let on : (token : TokenName) → IsOn one token p.share.timeline → IsOn other token p.share.timeline
    = λ token is. (is.0, (alike.gives _ is.0).0 is.1, is.2) in
    record {
      share = record {
        apart = p.share.apart;
        one_active = p.share.one_active;
        other_active = p.share.other_active;
        timeline = p.share.timeline;
        is_timeline = p.share.is_timeline;
        one_on = on first p.share.one_on;
        other_on = on second p.share.other_on;
      };
      late = record {
        end = p.late.end;
        start = p.late.start;
        gives_end = (alike.gives _ p.late.end).0 p.late.gives_end;
        gives_start = (alike.gives _ p.late.start).0 p.late.gives_start;
        late = p.late.late;
      };
    }

module _ (model : Model) (decisions : List Decision) (content : Content) (is : IsContent model content) (above : IsAboveAll model decisions content) where
  turns_owed : (one other : TokenName) → HaveToTurn model decisions (shown content) one other → (state : State) → IsPropagatedState model decisions state
      → HaveToTurn model decisions state one other
  turns_owed one other p state fit =
      let state' = in_order model content is in
      let alike = in_order_alike model content is in
      let below = IsBelow-trans state' (shown content) state (alike_below state' (shown content) (alike_back (shown content) state' alike)) (above state fit) in
      turn_below model decisions state' state (in_order_state model content is) fit.is_state below one other
      (turn_alike model decisions (shown content) state' alike one other p)

  pub asked_is_owed : IsOwedBelow model decisions content
  asked_is_owed = record {
    tokens = λ token p state fit. fit.tokens token ((asks_as_much model decisions (shown content) state (above state fit)).tokens token p);
    blocks = λ block entries p state fit. fit.blocks block entries ((asks_as_much model decisions (shown content) state (above state fit)).blocks block entries p);
    claims = λ claim p state fit. fit.claims claim ((asks_as_much model decisions (shown content) state (above state fit)).claims claim p);
    turns = λ one other p state fit. let turn = turns_owed one other p state fit in fit.timelines one other turn.share turn.late;
  }

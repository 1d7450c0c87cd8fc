-- Nothing is missed where domains get smaller and each variable whose domain does is due.
use Rattle.std.proofs.Common.{◌≡◌, ℕ, List, Some, ◌⊎◌, inl, inr, refl, sym, ◌∙◌, subst, arith}
use Rattle.std.specs.Prelude.{All, slice_get}
use Rattle.std.proofs.lemmas.List.Elements.{All-weaker}
use Rattle.std.proofs.lemmas.Option.{get_or_from_slice_get}
use Rattle.domain_core.specs.Domain.{Domain, Has, IsDomain, IsSingle, IsWithin, least}
use Rattle.domain_core.proofs.Words.{has_least}
use Rattle.eu_name.specs.declared.name.Part.TheVariants.{Start, End, Object}
use Rattle.eu_name.specs.declared.name.TokenName.{TokenName}
use Rattle.eu_name.specs.declared.name.VarName.{VarName}
use Rattle.eu_name.specs.declared.name.VarName.TheVariants.{Token}
use Rattle.model_core.specs.declared.decision.ConArg.{ConArg}
use Rattle.model_core.specs.declared.decision.ConArg.TheVariants as given
use Rattle.model_core.specs.declared.decision.Decision.{Decision}
use Rattle.model_core.specs.declared.decision.Decision.TheVariants.{Specify, Activate, Merge, Reject, Order, Constrain, Relate}
use Rattle.model_core.specs.declared.item.Term.{Term}
use Rattle.model_core.specs.declared.model.Model.{Model}
use Rattle.model_core.specs.declared.rule.Guard.{Guard}
use Rattle.model_core.specs.declared.rule.Side.{Side}
use Rattle.model_core.specs.Blocks.{TokenBlock, IsBlock}
use Rattle.model_core.specs.Entries.{Entries}
use Rattle.model_core.specs.State.{Gives}
use Rattle.narrow_core.specs.Laws.{LieWithin}
use Rattle.constraint_net.specs.Calls.{Notes}
use Rattle.constraint_net.specs.declared.constraint.Constraint.{Constraint}
use Rattle.plan_defs.specs.Closure.{IsRespected}
use Rattle.plan_defs.specs.Laws.{HaveToTurn}
use Rattle.plan_defs.specs.Refusals.{IsKnown, IsArgumentKnown}
use Rattle.plan_defs.specs.Resources.{OpensIn}
use Rattle.plan_defs.specs.Situations.{situation_of}
use Rattle.plan_defs.specs.Support.{MayBe, one_side, other_side}
use Rattle.plan_defs.specs.Terms.{Context, InRule, Argument, Value, Variable, Means, HasDomain}
use Rattle.eu_name.proofs.Members.{get_below, get_within, get_all}
use Rattle.model_core.specs.Content.{Content, shown}
use Rattle.db_refine.specs.GrowthLaws.{with_domains}
use Rattle.db_refine.proofs.Showing.{stands_from, gives_from}
use Rattle.db_refine.specs.Progress.{MissesNothing, IsUnfolded, IsDue, GuardNames, IsTurnDue, IsTurnFollowed, AreBranchesFollowed}
use Rattle.db_refine.proofs.Falling.{gave, fallen_below, fallen_long}
use Rattle.db_refine.proofs.Mapping.{followed_kept, turn_followed_kept}

-- what lies in a domain of one value alone has that value alone
single_less : (inner outer : Domain) (value : _) → IsDomain inner → IsWithin inner outer → IsSingle outer value → IsSingle inner value
single_less inner outer value is within single =
    let there = has_least inner is in
    record {
      has = subst (Has inner) (single.only (least inner) (within.values (least inner) there)) there;
      only = λ other has. single.only other (within.values other has);
    }

module _ (model : Model) (decisions : List Decision) (posted : List Constraint) (content : Content) (domains : List Domain) (unfolded : ℕ) (due after : List ℕ)
    (misses : MissesNothing model decisions posted content unfolded due) (are : All IsDomain domains) (within : LieWithin domains content.domains)
    (notes : Notes content.domains domains due after) where
  abbrev fallen : Content
  fallen = with_domains content domains

  -- what is given now was given before, or its variable is due
  same_or_due : (name : VarName) (domain : Domain) → Gives (shown fallen) name domain → Gives (shown content) name domain ⊎ IsDue fallen after name
  same_or_due name domain gives =
      let at = stands_from content.names domains name domain gives in
      let below = get_below domains at.number domain at.given in
      let found = get_within content.domains at.number (let long = fallen_long content domains within in omega (arith, long, below)) in
      elim (notes.each at.number below) [
        | inl same ↦ (
            let stood : found.0 ≡ domain =
            sym (get_or_from_slice_get content.domains at.number found.0 _ found.1) ∙ sym same ∙ get_or_from_slice_get domains at.number domain _ at.given in
            inl (gives_from content.names content.domains at.number name domain at.named (subst (λ (d : Domain). slice_get content.domains at.number ≡ Some d) stood found.1)))
        | inr noted ↦ inr (at.number, at.named, noted)
      ]

  still_due : (name : VarName) → IsDue content due name → IsDue fallen after name
  still_due name is_due = (is_due.0, is_due.1, notes.kept is_due.0 is_due.2)

  -- ---- decisions

  argument_known : (argument : ConArg) → IsArgumentKnown (shown content) argument → IsArgumentKnown (shown fallen) argument
  argument_known (given.Var name) (domain, gives) = let less = (fallen_below content domains within).variables name domain gives in (less.0, less.1)
  argument_known (given.Value value) known = known

  known_less : (decision : Decision) → IsKnown (shown content) decision → IsKnown (shown fallen) decision
  known_less (Specify name value) (domain, gives) = let less = (fallen_below content domains within).variables name domain gives in (less.0, less.1)
  known_less (Activate token) known = known
  known_less (Merge token target) known = known
  known_less (Reject token) known = known
  known_less (Order one other) known = known
  known_less (Constrain kind arguments) known = All-weaker (IsArgumentKnown (shown content)) (IsArgumentKnown (shown fallen)) argument_known arguments known
  known_less (Relate relation one other) known = known

  granted_less : (decision : Decision) → IsRespected decision (shown content) → IsRespected decision (shown fallen)
  granted_less (Specify name value) granted = λ domain gives.
      let outer = gave content domains within name domain gives in
      let at = stands_from content.names domains name domain gives in
      single_less domain outer.0 value (get_all IsDomain domains at.number domain are at.given) outer.2 (granted outer.0 outer.1)
  granted_less (Activate token) granted = tt
  granted_less (Merge token target) granted = tt
  granted_less (Reject token) granted = tt
  granted_less (Order one other) granted = tt
  granted_less (Constrain kind arguments) granted = tt
  granted_less (Relate relation one other) granted = tt

  -- ---- guards

  argument_less : (argument : Argument) (domain : Domain) → HasDomain (Gives (shown fallen)) argument domain
      → HasDomain (Gives (shown content)) argument domain ⊎ ((name : VarName) × (argument ≡ Variable name) × IsDue fallen after name)
  argument_less (Value value) domain has = inl has
  argument_less (Variable name) domain has = elim (same_or_due name domain has) [ inl same ↦ inl same | inr is_due ↦ inr (name, refl, is_due) ]

  term_less : (context : Context) (term : Term) (domain : Domain) → MayBe model (situation_of decisions (shown fallen)) context term domain
      → MayBe model (situation_of decisions (shown content)) context term domain ⊎ ((name : VarName) × Means context term (Variable name) × IsDue fallen after name)
  term_less context term domain may = elim (argument_less may.argument domain may.has) [
    | inl same ↦ inl (record { argument = may.argument; means = may.means; counts = may.counts; has = same })
    | inr (name, is_it, is_due) ↦ inr (name, subst (Means context term) is_it may.means, is_due)
  ]

  opens_less : (block : TokenBlock) (guard : Guard) (side : Side) → OpensIn model decisions (shown fallen) block guard side
      → OpensIn model decisions (shown content) block guard side ⊎ ((name : VarName) × GuardNames (InRule block.token block.rule) guard name × IsDue fallen after name)
  opens_less block guard side opens = elim (term_less (InRule block.token block.rule) (one_side guard) opens.one opens.is_one) [
    | inl one ↦ elim (term_less (InRule block.token block.rule) (other_side guard) opens.other opens.is_other) [
      | inl other ↦ inl (record { one = opens.one; other = opens.other; is_one = one; is_other = other; always = opens.always })
      | inr (name, means, is_due) ↦ inr (name, inr means, is_due)
    ]
    | inr (name, means, is_due) ↦ inr (name, inl means, is_due)
  ]

  followed_less : (block : TokenBlock) (entries : Entries) → IsUnfolded content unfolded block → IsBlock model block entries
      → AreBranchesFollowed model decisions fallen after block entries
  followed_less block entries is_open is_block place guard then otherwise side stands opens = elim (opens_less block guard side opens) [
    | inl before ↦ followed_kept content fallen due after still_due (λ other there. there) block place guard side
        (misses.branches block entries is_open is_block place guard then otherwise side stands before)
    | inr is_due ↦ inr is_due
  ]

  -- ---- tokens that take turns

  turn_less : (one other : TokenName) → HaveToTurn model decisions (shown fallen) one other → HaveToTurn model decisions (shown content) one other ⊎ IsTurnDue fallen after one other
  turn_less one other turn = elim (same_or_due (Token one Object) turn.share.one_on.0 turn.share.one_on.1) [
    | inl one_on ↦ elim (same_or_due (Token other Object) turn.share.other_on.0 turn.share.other_on.1) [
      | inl other_on ↦ elim (same_or_due (Token one End) turn.late.end turn.late.gives_end) [
        | inl end ↦ elim (same_or_due (Token other Start) turn.late.start turn.late.gives_start) [
          | inl start ↦ inl (record {
            share = record {
              apart = turn.share.apart;
              one_active = turn.share.one_active;
              other_active = turn.share.other_active;
              timeline = turn.share.timeline;
              is_timeline = turn.share.is_timeline;
              one_on = (turn.share.one_on.0, one_on, turn.share.one_on.2);
              other_on = (turn.share.other_on.0, other_on, turn.share.other_on.2);
            };
            late = record { end = turn.late.end; start = turn.late.start; gives_end = end; gives_start = start; late = turn.late.late };
          })
          | inr is_due ↦ inr (inr (inr is_due))
        ]
        | inr is_due ↦ inr (inl (inr is_due))
      ]
      | inr is_due ↦ inr (inr (inl is_due))
    ]
    | inr is_due ↦ inr (inl (inl is_due))
  ]

  turns_less : (one other : TokenName) → HaveToTurn model decisions (shown fallen) one other → IsTurnFollowed posted fallen after one other
  turns_less one other turn = elim (turn_less one other turn) [
    | inl before ↦ turn_followed_kept content fallen due after still_due posted posted (λ claim is. is) one other (misses.in_turn one other before)
    | inr is_due ↦ inr is_due
  ]

  pub falling_misses : MissesNothing model decisions posted fallen unfolded after
  falling_misses = record {
    known = λ decision there. known_less decision (misses.known decision there);
    granted = λ decision there. granted_less decision (misses.granted decision there);
    roots = misses.roots;
    rules = misses.rules;
    before = misses.before;
    slots = misses.slots;
    branches = followed_less;
    of_problem = misses.of_problem;
    of_blocks = misses.of_blocks;
    of_tokens = λ claim p. misses.of_tokens claim (record { token = p.token; there = p.there; says = p.says });
    of_merges = misses.of_merges;
    of_orders = misses.of_orders;
    of_postings = misses.of_postings;
    in_turn = turns_less;
  }

-- Where nothing is due any more the content is whole, and above all propagated states.
use Rattle.std.proofs.Common.{◌≡◌, ℕ, List, [], ◌∷◌, ◌++◌, length, inl, inr, sym, subst}
use Rattle.std.specs.Prelude.{Contains}
use Rattle.std.proofs.lemmas.List.Elements.{Contains-push_cases}
use Rattle.eu_name.specs.declared.name.TokenName.{TokenName}
use Rattle.model_core.specs.declared.decision.Decision.{Decision}
use Rattle.model_core.specs.declared.decision.Decision.TheVariants.{Activate, Merge, Reject}
use Rattle.model_core.specs.declared.model.Model.{Model}
use Rattle.model_core.specs.declared.rule.Guard.{Guard}
use Rattle.model_core.specs.declared.rule.Side.{Side}
use Rattle.model_core.specs.Blocks.{TokenBlock, block_at}
use Rattle.model_core.specs.Decided.{IsTaken, IsRejected}
use Rattle.model_core.specs.Numbers.{turned}
use Rattle.model_core.specs.State.{State}
use Rattle.narrow_core.specs.declared.field.Field.{Field}
use Rattle.constraint_net.specs.Networks.{AllConsistent}
use Rattle.constraint_net.specs.declared.constraint.Constraint.{Constraint}
use Rattle.plan_defs.specs.Claims.{Claim, IsClaim}
use Rattle.plan_defs.specs.Refusals.{IsAlreadyDecided}
use Rattle.model_core.specs.declared.refusal.Refusal.TheVariants.{Decided}
use Rattle.plan_defs.specs.Settling.{SettlesAfter, IsSettled}
use Rattle.eu_name.proofs.Members.{get_from_contains, get_below}
use Rattle.eu_name.proofs.Ordered.{contains_none}
use Rattle.plan_defs.proofs.States.{IsBelow-trans}
use Rattle.db_refine.specs.Claims.{IsPostedIn}
use Rattle.model_core.specs.Content.{Content, shown, AreAlike}
use Rattle.db_refine.specs.Growth.{ends_before, HasGrown, IsWhole}
use Rattle.db_refine.specs.GrowthLaws.{IsTop}
use Rattle.db_refine.proofs.Alike.{alike_below, alike_back}
use Rattle.db_refine.proofs.Whole.{whole_propagated}
use Rattle.db_refine.specs.Progress.{IsJustified, MissesNothing, IsUnfolded, IsFollowed, IsTurnFollowed}
use Rattle.db_refine.proofs.Counting.{taken_cases}
use Rattle.db_refine.proofs.Naming.{active_there}

-- ---- a settled list takes no token that it rejects

abbrev AreApart : List Decision → Type 0
AreApart decisions = (token : TokenName) → IsRejected decisions token → IsTaken decisions token → ⊥

module _ (model : Model) (kept : List Decision) (decision : Decision) (apart : AreApart kept) (free : IsAlreadyDecided model kept decision → ⊥) where
  not_this : (other : Decision) → decision ≡ other → IsAlreadyDecided model kept other → ⊥
  not_this other is already = free (subst (IsAlreadyDecided model kept) (sym is) already)

  apart_more : AreApart (kept ++ decision ∷ [])
  apart_more token rejected taken = elim (Contains-push_cases kept decision (Reject token) rejected) [
    | inl before ↦ elim (taken_cases kept decision token taken) [
      | inl old ↦ apart token before old
      | inr (inl is) ↦ not_this (Activate token) is (inr (inr before))
      | inr (inr (target, is)) ↦ not_this (Merge token target) is (inr (inr before))
    ]
    | inr is ↦ elim (taken_cases kept decision token taken) [
      | inl old ↦ not_this (Reject token) is (inr (inl old))
      | inr (inl is') ↦ cc
      | inr (inr (target, is')) ↦ cc
    ]
  ]

apart_from : (model : Model) (kept decisions settled : List Decision) → AreApart kept → SettlesAfter model kept decisions settled → AreApart settled
apart_from model kept [] settled apart is = subst AreApart (sym is) apart
apart_from model kept (decision ∷ decisions) settled apart (inl (admissible, rest)) =
    apart_from model (kept ++ decision ∷ []) decisions settled (apart_more model kept decision apart (admissible.free Decided)) rest
apart_from model kept (decision ∷ decisions) settled apart (inr (not, rest)) = apart_from model kept decisions settled apart rest

settled_apart : (model : Model) (decisions : List Decision) → IsSettled model decisions → AreApart decisions
settled_apart model decisions is = apart_from model [] decisions decisions (λ token rejected taken. contains_none (Reject token) rejected) is

module _ (model : Model) (decisions : List Decision) (tables : List Field) (posted : List Constraint) (content : Content)
    (is : IsJustified model decisions tables posted content) (misses : MissesNothing model decisions posted content (length content.blocks) [])
    (consistent : AllConsistent tables posted content.domains) where
  -- ---- whole

  unfolded : (block : TokenBlock) → Contains content.blocks block → IsUnfolded content (length content.blocks) block
  unfolded block there = let at = get_from_contains content.blocks block there in (at.0, at.1, get_below content.blocks at.0 block at.1)

  followed : (block : TokenBlock) (place : ℕ) (guard : Guard) (side : Side) → IsFollowed content [] block place guard side
      → Contains content.blocks (block_at block.token block.rule (turned block.path place side))
  followed block place guard side (inl there) = there
  followed block place guard side (inr (name, names, (number, at, none))) = absurd (contains_none number none)

  turned_posted : (one other : TokenName) → IsTurnFollowed posted content [] one other → IsPostedIn content.names posted (ends_before other one)
  turned_posted one other (inl there) = there
  turned_posted one other (inr (inl (inl (number, at, none)))) = absurd (contains_none number none)
  turned_posted one other (inr (inl (inr (number, at, none)))) = absurd (contains_none number none)
  turned_posted one other (inr (inr (inl (number, at, none)))) = absurd (contains_none number none)
  turned_posted one other (inr (inr (inr (number, at, none)))) = absurd (contains_none number none)

  claimed : (claim : Claim) → IsClaim model decisions (shown content) claim → IsPostedIn content.names posted claim
  claimed claim (inl p) = misses.of_problem claim p
  claimed claim (inr (inl p)) = misses.of_blocks claim
      (record { block = p.block; entries = p.entries; item = p.item; is_open = unfolded p.block p.is_open; has_block = p.has_block; stands = p.stands; says = p.says })
  claimed claim (inr (inr (inl p))) = misses.of_tokens claim p
  claimed claim (inr (inr (inr (inl p)))) = misses.of_merges claim p
  claimed claim (inr (inr (inr (inr (inl p))))) = misses.of_orders claim p
  claimed claim (inr (inr (inr (inr (inr p))))) = misses.of_postings p.decision p.stands claim p.posts

  grown : HasGrown model decisions content
  grown = record {
    roots = misses.roots;
    rules = misses.rules;
    branches = λ block entries place guard then otherwise side there is_block stands opens.
        followed block place guard side (misses.branches block entries (unfolded block there) is_block place guard then otherwise side stands opens);
    slots = λ block entries slot there is_block stands. misses.slots block entries slot (unfolded block there) is_block stands;
  }

  pub whole : IsWhole model decisions tables posted content
  whole = record {
    is_content = is.is_content;
    grown = grown;
    in_base = is.in_base;
    granted = misses.granted;
    claimed = claimed;
    in_turn = λ one other turn. turned_posted one other (misses.in_turn one other turn);
    fields = is.fields;
    consistent = consistent;
  }

  -- ---- above all

  pub top : IsSettled model decisions → (state : State) × AreAlike (shown content) state × IsTop model decisions state
  top settled =
      let found = whole_propagated model decisions tables posted content whole in (
        found.0,
        found.1,
        record {
          consistent = found.2;
          above = λ other fit.
              IsBelow-trans found.0 (shown content) other (alike_below found.0 (shown content) (alike_back (shown content) found.0 found.1)) (is.above other fit);
          in_place = record {
            apart = settled_apart model decisions settled;
            active = λ token active. (found.1.tokens token).0 (active_there model decisions posted content (length content.blocks) [] misses token active);
          };
        },
      )

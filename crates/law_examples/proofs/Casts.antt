-- The scenes of the examples, and what holds of them.
use Rattle.std.proofs.Common.{◌≡◌, ℕ, suc, zero, ◌+◌, ◌≤◌, List, [], ◌∷◌, length, Some, ℤ, refl, sym, ap, ◌∙◌, subst, arith}
use Rattle.std.specs.Prelude.{Contains, slice_get}
use Rattle.std.proofs.lemmas.Int.{ints}
use Rattle.std.proofs.lemmas.List.{length-append}
use Rattle.domain_core.proofs.Words.{IsWithin-refl}
use Rattle.eu_name.specs.declared.name.TokenName.{TokenName}
use Rattle.model_core.specs.declared.class.Object as classes
use Rattle.model_core.specs.declared.class.ObjectKind.{ObjectKind}
use Rattle.model_core.specs.declared.class.ObjectKind.TheVariants as kind
use Rattle.model_core.specs.declared.class.Pred.{Pred}
use Rattle.model_core.specs.declared.class.PredKind.{PredKind}
use Rattle.model_core.specs.declared.decision.Decision.{Decision}
use Rattle.model_core.specs.declared.decision.Decision.TheVariants.{Activate}
use Rattle.model_core.specs.declared.item.Item.{Item}
use Rattle.model_core.specs.declared.model.Model.{Model}
use Rattle.model_core.specs.declared.model.RootKind.{RootKind}
use Rattle.model_core.specs.declared.rule.Rule.{Rule}
use Rattle.model_core.specs.Blocks.{TokenBlock}
use Rattle.model_core.specs.Entries.{Entries}
use Rattle.model_core.specs.Kinds.{IsObject}
use Rattle.model_core.specs.State.{State}
use Rattle.model_core.specs.Tokens.{HasRule, root_token}
use Rattle.plan_defs.specs.Resources.{FitReusables, FitReservoirs}
use Rattle.plan_defs.specs.Situations.{situation_of}
use Rattle.plan_defs.specs.Support.{IsSupportedToken, IsSupportedBlock}
use Rattle.plan_defs.specs.Timelines.{FitTimelines}
use Rattle.eu_name.proofs.Ordered.{contains_none}
use Rattle.law_examples.specs.Scenes.{the_object, both_objects, predicate_of, root_of, roots_from, scene_with, Moment, exactly, guarded}
use Rattle.law_examples.specs.Cases.{either}
use Rattle.law_examples.specs.Globals.{up_to}
use Rattle.law_examples.proofs.Closed.{IsMoment, IsPlain}
use Rattle.law_examples.proofs.Domains.{object_domain, both_domain, object_within}
use Rattle.law_examples.proofs.Lists.{only_member, same_some}

-- ---- moments

pub only_moment : (start duration quantity : ℕ) → 1 ≤ duration → start + duration ≤ 10 → quantity ≤ 10 → IsMoment (record { start = start; duration = duration; quantity = exactly quantity; object = the_object })
only_moment start duration quantity some ends few = record {
  some = some;
  ends = ends;
  quantity = ((omega (arith, ints), omega (arith, ints)), (omega (arith, ints), omega (arith, ints)), omega (arith, ints));
  within = record { kind = tt; values = λ v has. (omega (arith, ints, has.0), omega (arith, ints, has.1)) };
  object = object_domain;
  object_within = object_within;
}

pub open_moment : IsMoment (record { start = 0; duration = 1; quantity = up_to 1; object = the_object })
open_moment = record {
  some = omega arith;
  ends = omega arith;
  quantity = ((omega (arith, ints), omega (arith, ints)), (omega (arith, ints), omega (arith, ints)), omega (arith, ints));
  within = record { kind = tt; values = λ v has. (omega (arith, ints, has.0), omega (arith, ints, has.1)) };
  object = object_domain;
  object_within = object_within;
}

-- the same on either object
pub either_moment : (moment : Moment) → IsMoment moment → IsMoment (either moment)
either_moment moment ok = record { some = ok.some; ends = ok.ends; quantity = ok.quantity; within = ok.within; object = both_domain; object_within = IsWithin-refl both_objects }

pub one_moment : (moment : Moment) → IsMoment moment → (place : ℕ) (found : Moment) → slice_get (moment ∷ []) place ≡ Some found → IsMoment found
one_moment moment ok zero found at = subst IsMoment (same_some moment found at) ok
one_moment moment ok (suc place) found at = absurd (cc)

pub two_moments : (one other : Moment) → IsMoment one → IsMoment other → (place : ℕ) (found : Moment) → slice_get (one ∷ other ∷ []) place ≡ Some found → IsMoment found
two_moments one other ok ok' zero found at = subst IsMoment (same_some one found at) ok
two_moments one other ok ok' (suc place) found at = one_moment other ok' place found at

-- ---- decisions

pub nothing_decided : (decision : Decision) → Contains [] decision → IsPlain decision
nothing_decided decision c = absurd (contains_none decision c)

pub one_decided : (one : Decision) → IsPlain one → (decision : Decision) → Contains (one ∷ []) decision → IsPlain decision
one_decided one plain decision c = subst IsPlain (only_member one decision c) plain

-- ---- scenes

module _ (items : List Item) (object_kind : ObjectKind) (pred_kind : PredKind) (numbers : List ℕ) (rules : List Rule) (kinds : List RootKind) where
  abbrev model : Model
  model = scene_with items object_kind pred_kind numbers rules kinds

  -- both objects are of one kind
  pub kind_of : (value : ℤ) (object : classes.Object) → IsObject model value object → object.kind ≡ object_kind
  kind_of value object (zero, is, at) = ap (λ (o : classes.Object). o.kind) (sym (same_some _ object at))
  kind_of value object (suc zero, is, at) = ap (λ (o : classes.Object). o.kind) (sym (same_some _ object at))
  kind_of value object (suc (suc number), is, at) = absurd (cc)

  pub fit_no_timelines : (decisions : List Decision) (state : State) → (object_kind ≡ kind.Timeline → ⊥) → FitTimelines model decisions state
  fit_no_timelines decisions state none one other share late =
      let is = share.is_timeline in absurd (none (sym (kind_of share.timeline is.0 is.1) ∙ is.2))

  pub fit_no_reusables : (decisions : List Decision) (state : State) → ((capacity : ℤ) → object_kind ≡ kind.Reusable capacity → ⊥) → FitReusables model decisions state
  fit_no_reusables decisions state none value object capacity instant is kind_is inside = absurd (none capacity (sym (kind_of value object is) ∙ kind_is))

  pub fit_no_reservoirs : (decisions : List Decision) (state : State) → ((initial low high : ℤ) → object_kind ≡ kind.Reservoir initial low high → ⊥) → FitReservoirs model decisions state
  fit_no_reservoirs decisions state none complete value object initial low high instant is kind_is inside = absurd (none initial low high (sym (kind_of value object is) ∙ kind_is))

  -- where nothing is activated no block opens
  pub no_block : (state : State) (decisions : List Decision) (blocks : List TokenBlock) → ((token : TokenName) → Contains decisions (Activate token) → ⊥)
      → (block : TokenBlock) (entries : Entries) → IsSupportedBlock model (situation_of decisions state) block entries → Contains blocks block
  no_block state decisions blocks none block entries p = absurd (none block.token p.is_open.activated)

  -- roots are supported
  pub root_supported : (decisions : List Decision) (state : State) (number : ℕ) (root_kind : RootKind) → slice_get (roots_from 0 kinds) number ≡ Some (root_of number root_kind) → IsSupportedToken model (situation_of decisions state) (root_token number)
  root_supported decisions state number root_kind at = record {
    root = root_of number root_kind;
    is_root = at;
    asked = λ front step back e. absurd (omega (arith, ap length e, length-append front (step ∷ back)));
  }

pub nothing_listed : (items : List Item) (object_kind : ObjectKind) (pred_kind : PredKind) (rules : List Rule) (kinds : List RootKind) (number : ℕ) (rule : Rule) → HasRule (scene_with items object_kind pred_kind [] rules kinds) 0 number rule → ⊥
nothing_listed items object_kind pred_kind rules kinds number rule p =
    let predicate : predicate_of pred_kind [] ≡ p.predicate = same_some (predicate_of pred_kind []) p.predicate p.is_predicate in
    let listed = subst (λ (q : Pred). slice_get q.rules number ≡ Some p.place) (sym predicate) p.listed in
    absurd (cc)

pub no_rule : (items : List Item) (object_kind : ObjectKind) (pred_kind : PredKind) (rules : List Rule) (kinds : List RootKind) (number : ℕ) (rule : Rule) → HasRule (scene_with items object_kind pred_kind [] rules kinds) 0 number rule → rule ≡ guarded
no_rule items object_kind pred_kind rules kinds number rule p = absurd (nothing_listed items object_kind pred_kind rules kinds number rule p)

pub one_rule : (items : List Item) (only : Rule) (object_kind : ObjectKind) (pred_kind : PredKind) (kinds : List RootKind) (number : ℕ) (rule : Rule) → HasRule (scene_with items object_kind pred_kind (0 ∷ []) (only ∷ []) kinds) 0 number rule → (rule ≡ only) × (number ≡ 0)
one_rule items only object_kind pred_kind kinds number rule p =
    let predicate : predicate_of pred_kind (0 ∷ []) ≡ p.predicate = same_some (predicate_of pred_kind (0 ∷ [])) p.predicate p.is_predicate in
    at number p.place (subst (λ (q : Pred). slice_get q.rules number ≡ Some p.place) (sym predicate) p.listed) p.is_rule
  where
    at : (number place : ℕ) → slice_get (0 ∷ []) number ≡ Some place → slice_get (only ∷ []) place ≡ Some rule → (rule ≡ only) × (number ≡ 0)
    at zero zero listed is = (sym (same_some only rule is), refl)
    at zero (suc place) listed is = let e = same_some 0 (suc place) listed in absurd (omega (arith, e))
    at (suc number) place listed is = absurd (cc)

pub none_activated : (token : TokenName) → Contains [] (Activate token) → ⊥
none_activated token c = contains_none (Activate token) c

-- Tokens of one timeline take turns by their values where they do by the plan.
use Rattle.std.proofs.Common.{◌≡◌, ℕ, ◌+◌, ◌<◌, ◌≤◌, ℤ, pos, Bool, Option, List, [], ◌∷◌, length, inl, inr, sym, ◌∙◌, subst, arith}
use Rattle.std.specs.Prelude.{MatchBool}
use Rattle.std.specs.List.{AllZip}
use Rattle.std.proofs.lemmas.Bool.{cases_eq, cases_lt}
use Rattle.eu_name.specs.declared.name.Part.TheVariants.{Start, End, Object}
use Rattle.eu_name.specs.declared.name.TokenName.{TokenName}
use Rattle.eu_name.proofs.Members.{get_same, get_below, contains_from_get}
use Rattle.domain_core.specs.declared.kind.Kind.TheVariants.{Leq}
use Rattle.model_core.specs.declared.model.Model.{Model}
use Rattle.domain_core.specs.Constraints.{Holds}
use Rattle.plan_defs.specs.declared.plan.Clause.TheVariants.{V8}
use Rattle.plan_defs.specs.declared.plan.Line.{Line}
use Rattle.plan_defs.specs.declared.plan.Line.TheVariants as lines
use Rattle.plan_defs.specs.declared.plan.Place.{Place}
use Rattle.plan_defs.specs.declared.plan.Place.TheVariants as places
use Rattle.plan_defs.specs.declared.plan.Plan.{Plan}
use Rattle.plan_defs.specs.Broken.{AreLesserNames, IsLeastBroken}
use Rattle.plan_defs.specs.Claims.{part_of}
use Rattle.plan_defs.specs.Consistency.{HasField}
use Rattle.plan_defs.specs.Plans.{TakesPlaceWith}
use Rattle.plan_defs.specs.Valid.{IsLineAt, IsPartOf, HasArgumentValue, AreOnTimeline, EndsBy, TakeTurns, KeepsTimelines}
use Rattle.plan_defs.proofs.Saying.{one_own}
use Rattle.plan_values.specs.Keys.{IsOrderly}
use Rattle.plan_values.proofs.Naming.{gives_from, gives_there}
use Rattle.plan_inventory.specs.Breaks.{IsFirstNumber}
use Rattle.plan_check.specs.ByObject.{IsOnObject, IsLineOn, FindsOn}
use Rattle.plan_check.proofs.Linking.{dealt, passed_over}
use Rattle.plan_check.specs.Turns.{ShareTimelineBy, EndsByValues, TakeTurnsBy, LinesTakeTurns, IsPairKept}

module _ (model : Model) (plan : Plan) (ok : IsOrderly plan) where
  -- ---- two tokens that take place

  module _ (one other : TokenName) (values others : List ℤ) (takes : TakesPlaceWith plan one values) (takes' : TakesPlaceWith plan other others) where
    share_to : AreOnTimeline model plan one other → ShareTimelineBy model values others
    share_to are =
        let first = are.one_on in
        let second = are.other_on in (
          are.timeline,
          are.is_timeline,
          subst (λ (xs : List ℤ). IsPartOf xs Object are.timeline) (one_own plan ok.order one first.0 values first.1 takes) first.2,
          subst (λ (xs : List ℤ). IsPartOf xs Object are.timeline) (one_own plan ok.order other second.0 others second.1 takes') second.2,
        )

    share_from : ShareTimelineBy model values others → AreOnTimeline model plan one other
    share_from (timeline, is_timeline, on, on') = record { timeline = timeline; is_timeline = is_timeline; one_on = (values, takes, on); other_on = (others, takes', on') }

  module _ (one other : TokenName) (values others : List ℤ) (takes : TakesPlaceWith plan one values) (takes' : TakesPlaceWith plan other others) where
    ends_from : EndsByValues values others → EndsBy model plan one other
    ends_from (end, start, (is_end, is_start, before)) = record {
      values = end ∷ start ∷ [];
      have = (gives_from plan ok one End values end (inl takes) is_end, (gives_from plan ok other Start others start (inl takes') is_start, tt));
      holds = before;
    }

    ends_at : (found : List ℤ) → AllZip (HasArgumentValue plan) (part_of one End ∷ part_of other Start ∷ []) found → Holds (HasField model) Leq found → EndsByValues values others
    ends_at [] have holds = absurd have
    ends_at (end ∷ []) have holds = absurd have.1
    ends_at (end ∷ start ∷ []) have holds =
        (end, start, (gives_there plan ok one End values end (inl takes) have.0, gives_there plan ok other Start others start (inl takes') have.1.0, holds))
    ends_at (end ∷ start ∷ more ∷ rest) have holds = absurd have.1.1

    ends_to : EndsBy model plan one other → EndsByValues values others
    ends_to is = ends_at is.values is.have is.holds

  module _ (one other : TokenName) (values others : List ℤ) (takes : TakesPlaceWith plan one values) (takes' : TakesPlaceWith plan other others) where
    turns_from : TakeTurnsBy model values others → TakeTurns model plan one other
    turns_from turns are = elim (turns (share_to one other values others takes takes' are)) [
      | inl first ↦ inl (ends_from one other values others takes takes' first)
      | inr second ↦ inr (ends_from other one others values takes' takes second)
    ]

    turns_to : TakeTurns model plan one other → TakeTurnsBy model values others
    turns_to turns share = elim (turns (share_from one other values others takes takes' share)) [
      | inl first ↦ inl (ends_to one other values others takes takes' first)
      | inr second ↦ inr (ends_to other one others values takes' takes second)
    ]

  -- ---- two lines

  takes_there : (place : ℕ) (token : TokenName) (fact : Bool) (values : List ℤ) → IsLineAt plan place (lines.Token token fact values) → TakesPlaceWith plan token values
  takes_there place token fact values at = (fact, contains_from_get plan.lines place (lines.Token token fact values) at)

  pub pair_from : (first second : ℕ) → IsPairKept model plan first second → KeepsTimelines model plan (places.Pair first second)
  pair_from first second kept below one other (fact, (values, at)) (fact', (values', at')) =
      turns_from one other values values' (takes_there first one fact values at) (takes_there second other fact' values' at')
      (kept below (lines.Token one fact values) (lines.Token other fact' values') at at')

  pair_at : (first second : ℕ) → first < second → KeepsTimelines model plan (places.Pair first second) → (line line' : Line) → IsLineAt plan first line → IsLineAt plan second line'
      → LinesTakeTurns model line line'
  pair_at first second below keeps (lines.Token one fact values) (lines.Token other fact' values') at at' =
      turns_to one other values values' (takes_there first one fact values at) (takes_there second other fact' values' at')
      (keeps below one other (fact, (values, at)) (fact', (values', at')))
  pair_at first second below keeps line line' at at' = tt

  pair_to : (first second : ℕ) → KeepsTimelines model plan (places.Pair first second) → IsPairKept model plan first second
  pair_to first second keeps below line line' at at' = pair_at first second below keeps line line' at at'

  -- ---- all pairs

  pairs_below : (first second : ℕ) → ((earlier later : ℕ) → earlier < first → IsPairKept model plan earlier later) → IsFirstNumber (IsPairKept model plan first) second
      → (other : Place) → AreLesserNames other (places.Pair first second) → KeepsTimelines model plan other
  pairs_below first second before least (places.Pair earlier later) (inl below) = pair_from earlier later (before earlier later below)
  pairs_below first second before least (places.Pair earlier later) (inr tied) =
      pair_from earlier later (subst (λ (n : ℕ). IsPairKept model plan n later) (sym tied.0) (least.before later tied.1))
  pairs_below first second before least other less = tt

  pub pair_least : (first second : ℕ) → ((earlier later : ℕ) → earlier < first → IsPairKept model plan earlier later) → IsFirstNumber (IsPairKept model plan first) second
      → IsLeastBroken model plan V8 (places.Pair first second)
  pair_least first second before least = record { broken = λ keeps. least.fails (pair_to first second keeps); least = pairs_below first second before least }

  pub pairs_kept : (count : ℕ) → length plan.lines ≤ count → ((earlier later : ℕ) → earlier < count → IsPairKept model plan earlier later) → (place : Place) → KeepsTimelines model plan place
  pairs_kept count all before (places.Pair first second) = pair_from first second (λ below one other at at'.
      before first second (omega (arith, all, get_below plan.lines first one at)) below one other at at')
  pairs_kept count all before other = tt

  -- where the lines that were looked at take turns, the pair is kept
  pub pair_looked : (first second : ℕ) (one other : Line) → IsLineAt plan first one → IsLineAt plan second other → LinesTakeTurns model one other → IsPairKept model plan first second
  pair_looked first second one other at at' turns below line line' there there' =
      subst (λ (l : Line). LinesTakeTurns model l line') (get_same plan.lines first one line at there)
      (subst (λ (l : Line). LinesTakeTurns model one l) (get_same plan.lines second other line' at' there') turns)

-- ---- what shares no timeline

-- who is on another object takes turns
other_turns : (model : Model) (object : ℕ) (line line' : Line) → IsOnObject line object → (IsOnObject line' object → ⊥) → LinesTakeTurns model line line'
other_turns model object (lines.Token one fact values) (lines.Token other fact' values') on none = λ share.
    let same : share.0 ≡ pos object = let e = sym share.2 ∙ on in cc in
    absurd (none (subst (IsPartOf values' Object) same share.3))
other_turns model object line line' on none = tt

-- the pairs with those up to the next one on the object are kept
module _ (model : Model) (plan : Plan) (object first : ℕ) (on : IsLineOn plan.lines object first) where
  other_pair : (second : ℕ) → (IsLineOn plan.lines object second → ⊥) → IsPairKept model plan first second
  other_pair second none below one other at there =
      other_turns model object one other (subst (λ (l : Line). IsOnObject l object) (get_same plan.lines first on.0 one on.1 at) on.2) (λ on'. none (other, there, on'))

  pub pairs_first : (found : Option ℕ) → FindsOn plan.lines object (first + 1) found → (second : ℕ) → second < dealt (length plan.lines) found → IsPairKept model plan first second
  pairs_first found finds second less below one other at there =
      other_pair second (passed_over plan.lines object (first + 1) found finds second (omega arith) less) below one other at there

  pub pairs_next : (here : ℕ) (found : Option ℕ) → ((second : ℕ) → second < here → IsPairKept model plan first second) → IsPairKept model plan first here → FindsOn plan.lines object (here + 1) found
      → (second : ℕ) → second < dealt (length plan.lines) found → IsPairKept model plan first second
  pairs_next here found before kept finds second less = elim (cases_lt second here) [
    | inl earlier ↦ before second earlier
    | inr past ↦ elim (cases_eq second here) [
      | inl same ↦ subst (IsPairKept model plan first) (sym same) kept
      | inr apart ↦ other_pair second (passed_over plan.lines object (here + 1) found finds second (omega arith) less)
    ]
  ]

  -- all are kept where no line is left
  pub pairs_all : ((second : ℕ) → second < length plan.lines → IsPairKept model plan first second) → (second : ℕ) → IsPairKept model plan first second
  pairs_all before second below one other at there = before second (get_below plan.lines second other there) below one other at there

pub lines_answer : (model : Model) (line line' : Line) (one other : TokenName) (fact fact' : Bool) (values others read read' : List ℤ) (answer : Bool) → line ≡ lines.Token one fact values → line' ≡ lines.Token other fact' others
    → read ≡ values → read' ≡ others → MatchBool answer (TakeTurnsBy model read read') (TakeTurnsBy model read read' → ⊥)
    → MatchBool answer (LinesTakeTurns model line line') (LinesTakeTurns model line line' → ⊥)
lines_answer model line line' one other fact fact' values others read read' answer says says' same same' is =
    subst (λ (l : Line). MatchBool answer (LinesTakeTurns model l line') (LinesTakeTurns model l line' → ⊥)) (sym says)
    (subst (λ (l : Line). MatchBool answer (LinesTakeTurns model (lines.Token one fact values) l) (LinesTakeTurns model (lines.Token one fact values) l → ⊥)) (sym says')
    (subst (λ (xs : List ℤ). MatchBool answer (TakeTurnsBy model xs others) (TakeTurnsBy model xs others → ⊥)) same
    (subst (λ (ys : List ℤ). MatchBool answer (TakeTurnsBy model read ys) (TakeTurnsBy model read ys → ⊥)) same' is)))

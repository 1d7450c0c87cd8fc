-- What was claimed in a plan is claimed where two tokens have changed places in it.
use Rattle.std.proofs.Common.{◌≡◌, inl, inr, List, [], ◌∷◌, refl, sym, ap, subst}
use Rattle.std.specs.Prelude.{All, Contains}
use Rattle.std.specs.List.{AllZip}
use Rattle.std.proofs.lemmas.List.Elements.{All-nil, All-cons, All-head, All-tail}
use Rattle.eu_name.specs.declared.name.Part.{Part}
use Rattle.eu_name.specs.declared.name.Part.TheVariants.{Start, End, Duration}
use Rattle.eu_name.specs.declared.name.TokenName.{TokenName}
use Rattle.model_core.specs.declared.item.Item.{Item}
use Rattle.model_core.specs.declared.item.Item.TheVariants.{Constraint, Relation}
use Rattle.domain_core.specs.declared.kind.Kind.{Kind}
use Rattle.model_core.specs.declared.item.Rel.{Rel}
use Rattle.model_core.specs.declared.item.Rel.TheVariants as rel
use Rattle.model_core.specs.declared.item.Term.{Term}
use Rattle.model_core.specs.declared.model.Model.{Model}
use Rattle.model_core.specs.Tokens.{slot_token}
use Rattle.plan_defs.specs.declared.plan.Plan.{Plan}
use Rattle.plan_defs.specs.Claims.{Claim, ItemSays, relates, lasts, at_most, part_of}
use Rattle.plan_defs.specs.Plans.{IsTakenIn}
use Rattle.plan_defs.specs.Terms.{Context, InProblem, InRule, Argument, Means, ArgumentCounts}
use Rattle.plan_defs.specs.Valid.{IsClaimTrue}
use Rattle.eu_name.proofs.Ordered.{contains_head, contains_later, contains_cases, contains_none}
use Rattle.law_search.specs.Swapping.{swapped_token}
use Rattle.law_search.proofs.Renaming.{swapped_twice}
use Rattle.law_search.proofs.Having.{HaveSwapped, flipped}
use Rattle.plan_defs.proofs.Meanings.{means_once}
use Rattle.law_search.proofs.Meaning.{TakesOver, part_over, slot_over, moved_context, terms_moved, values_over}

all_mean_once : (context : Context) (terms : List Term) (a b : List Argument) → AllZip (Means context) terms a → AllZip (Means context) terms b → a ≡ b
all_mean_once context [] [] [] p q = refl
all_mean_once context [] [] (y ∷ b) p q = absurd q
all_mean_once context [] (x ∷ a) b p q = absurd p
all_mean_once context (term ∷ terms) [] b p q = absurd p
all_mean_once context (term ∷ terms) (x ∷ a) [] p q = absurd q
all_mean_once context (term ∷ terms) (x ∷ a) (y ∷ b) p q =
    let first = means_once context term x y p.0 q.0 in
    let rest = all_mean_once context terms a b p.1 q.1 in
    (λ i. first i ∷ rest i)

module _ (model : Model) (old new : Plan) (one other : TokenName) (has : HaveSwapped model old new one other) where
  -- what holds of arguments holds of those that take over
  true_over : (kind : Kind) (were are : List Argument) → AllZip (TakesOver model old new one other has) were are
      → IsClaimTrue model old (record { kind = kind; arguments = were }) → IsClaimTrue model new (record { kind = kind; arguments = are })
  true_over kind were are over is =
      record { values = is.values; have = values_over model old new one other has were are is.values over is.have; holds = is.holds }

  pub lasts_moved : (token : TokenName) → IsClaimTrue model old (lasts token) → IsClaimTrue model new (lasts (swapped_token one other token))
  lasts_moved token is =
      let over = part_over model old new one other has token in
      true_over _ _ _ (over Start, (over Duration, (over End, tt))) is

  pub at_most_moved : (a b : TokenName) (p q : Part) → IsClaimTrue model old (at_most (part_of a p) (part_of b q))
      → IsClaimTrue model new (at_most (part_of (swapped_token one other a) p) (part_of (swapped_token one other b) q))
  at_most_moved a b p q is =
      true_over _ _ _ (part_over model old new one other has a p, (part_over model old new one other has b q, tt)) is

  -- ---- relations

  -- the one claim is true in the new plan if the other one is in the old plan
  abbrev Follows : Claim → Claim → Type 0
  Follows was is = IsClaimTrue model old was → IsClaimTrue model new is

  only : (was is : Claim) → Follows was is → ((claim : Claim) → Contains (was ∷ []) claim → IsClaimTrue model old claim)
      → (claim : Claim) → Contains (is ∷ []) claim → IsClaimTrue model new claim
  only was is follows all claim there = elim (contains_cases is claim [] there) [
    | inl same ↦ subst (IsClaimTrue model new) same (follows (all was (contains_head was [])))
    | inr later ↦ absurd (contains_none claim later)
  ]

  both : (was is next : Claim) (follower : Claim) → Follows was is → Follows next follower
      → ((claim : Claim) → Contains (was ∷ next ∷ []) claim → IsClaimTrue model old claim)
      → (claim : Claim) → Contains (is ∷ follower ∷ []) claim → IsClaimTrue model new claim
  both was is next follower follows further all claim there = elim (contains_cases is claim (follower ∷ []) there) [
    | inl same ↦ subst (IsClaimTrue model new) same (follows (all was (contains_head was (next ∷ []))))
    | inr later ↦ only next follower further (λ c at. all c (contains_later was c (next ∷ []) at)) claim later
  ]

  module _ (a b a' b' : TokenName) (first : (part : Part) → TakesOver model old new one other has (part_of a part) (part_of a' part))
      (second : (part : Part) → TakesOver model old new one other has (part_of b part) (part_of b' part)) where
    ab : (kind : Kind) (p q : Part) → Follows (record { kind = kind; arguments = part_of a p ∷ part_of b q ∷ [] }) (record { kind = kind; arguments = part_of a' p ∷ part_of b' q ∷ [] })
    ab kind p q is = true_over kind _ _ (first p, (second q, tt)) is

    ba : (kind : Kind) (p q : Part) → Follows (record { kind = kind; arguments = part_of b p ∷ part_of a q ∷ [] }) (record { kind = kind; arguments = part_of b' p ∷ part_of a' q ∷ [] })
    ba kind p q is = true_over kind _ _ (second p, (first q, tt)) is

    relates_moved : (relation : Rel) → ((claim : Claim) → Contains (relates relation a b) claim → IsClaimTrue model old claim)
        → (claim : Claim) → Contains (relates relation a' b') claim → IsClaimTrue model new claim
    relates_moved rel.Any all claim there = absurd (contains_none claim there)
    relates_moved rel.Before all claim there = only _ _ (ab _ End Start) all claim there
    relates_moved rel.After all claim there = only _ _ (ba _ End Start) all claim there
    relates_moved rel.Meets all claim there = only _ _ (ab _ End Start) all claim there
    relates_moved rel.MetBy all claim there = only _ _ (ba _ End Start) all claim there
    relates_moved rel.Equals all claim there = both _ _ _ _ (ab _ Start Start) (ab _ End End) all claim there
    relates_moved rel.Contains all claim there = both _ _ _ _ (ab _ Start Start) (ba _ End End) all claim there
    relates_moved rel.ContainedBy all claim there = both _ _ _ _ (ba _ Start Start) (ab _ End End) all claim there
    relates_moved rel.Starts all claim there = only _ _ (ab _ Start Start) all claim there
    relates_moved rel.Ends all claim there = only _ _ (ab _ End End) all claim there
    relates_moved rel.Parallels all claim there = both _ _ _ _ (ab _ Start Start) (ab _ End End) all claim there
    relates_moved rel.ParalleledBy all claim there = both _ _ _ _ (ba _ Start Start) (ba _ End End) all claim there
    relates_moved rel.StartsDuring all claim there = both _ _ _ _ (ba _ Start Start) (ab _ Start End) all claim there
    relates_moved rel.ContainsStart all claim there = both _ _ _ _ (ab _ Start Start) (ba _ Start End) all claim there
    relates_moved rel.EndsDuring all claim there = both _ _ _ _ (ba _ Start End) (ab _ End End) all claim there
    relates_moved rel.ContainsEnd all claim there = both _ _ _ _ (ab _ Start End) (ba _ End End) all claim there

  -- ---- items

  context_twice : (context : Context) → moved_context other one (moved_context one other context) ≡ context
  context_twice InProblem = refl
  context_twice (InRule token rule) = ap (λ (t : TokenName). InRule t rule) (swapped_twice one other has.apart token)

  counts_over : (were are : List Argument) → AllZip (TakesOver model new old other one (flipped model old new one other has)) were are
      → All (ArgumentCounts model (IsTakenIn new)) were → All (ArgumentCounts model (IsTakenIn old)) are
  counts_over [] [] over counts = All-nil _
  counts_over [] (is ∷ are) over counts = absurd over
  counts_over (was ∷ were) [] over counts = absurd over
  counts_over (was ∷ were) (is ∷ are) over counts =
      All-cons (ArgumentCounts model (IsTakenIn old)) is are (over.0.counts (All-head (ArgumentCounts model (IsTakenIn new)) was were counts))
      (counts_over were are over.1 (All-tail (ArgumentCounts model (IsTakenIn new)) was were counts))

  pub item_moved : (context : Context) (item : Item) → ((claim : Claim) → ItemSays model (IsTakenIn old) context item claim → IsClaimTrue model old claim)
      → (claim : Claim) → ItemSays model (IsTakenIn new) (moved_context one other context) item claim → IsClaimTrue model new claim
  item_moved context (Constraint kind terms) all claim says =
      let back = flipped model old new one other has in
      let meant = terms_moved model new old other one back (moved_context one other context) terms claim.arguments says.means in
      let means_old : AllZip (Means context) terms meant.are = subst (λ (c : Context). AllZip (Means c) terms meant.are) (context_twice context) meant.mean in
      let truth = all (record { kind = kind; arguments = meant.are })
      (record { is_kind = refl; means = means_old; counts = counts_over claim.arguments meant.are meant.over says.counts }) in
      let now = terms_moved model old new one other has context terms meant.are means_old in
      let same = all_mean_once (moved_context one other context) terms now.are claim.arguments now.mean says.means in
      let is : IsClaimTrue model new (record { kind = kind; arguments = now.are }) = true_over kind meant.are now.are now.over truth in
      let claims : record { kind = kind; arguments = now.are } ≡ claim = λ i. record { kind = sym says.is_kind i; arguments = same i } in
      subst (IsClaimTrue model new) claims is
  item_moved InProblem (Relation relation slot) all claim says = absurd says
  item_moved (InRule token rule) (Relation relation slot) all claim says =
      relates_moved token (slot_token token rule slot) (swapped_token one other token) (slot_token (swapped_token one other token) rule slot)
      (part_over model old new one other has token) (slot_over model old new one other has token (record { rule = rule; slot = slot })) relation all claim says

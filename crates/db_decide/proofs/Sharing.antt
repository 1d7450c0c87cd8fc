-- Parts of two tokens that are claimed to be the same.
use Rattle.std.proofs.Common.{◌≡◌, ℕ, ◌+◌, ◌<◌, List, [], ◌∷◌, ◌++◌, length, take, get_or, Some, ◌⊎◌, inl, inr, sym, ◌∙◌, subst}
use Rattle.std.specs.Prelude.{Contains, slice_get}
use Rattle.std.proofs.lemmas.List.{take_more}
use Rattle.std.proofs.lemmas.List.Elements.{Contains-append_left, Contains-push, Contains-push_cases}
use Rattle.eu_name.specs.declared.name.Part.{Part}
use Rattle.eu_name.specs.declared.name.TokenName.{TokenName}
use Rattle.eu_name.specs.declared.name.VarName.{VarName}
use Rattle.eu_name.specs.declared.name.VarName.TheVariants.{Token}
use Rattle.model_core.specs.declared.model.Model.{Model}
use Rattle.model_core.specs.declared.rule.Slot.{Slot}
use Rattle.model_core.specs.Tokens.{HasToken}
use Rattle.token_store.specs.Orders.{name_at}
use Rattle.token_store.specs.Tokens.{TokenList, tokens_now, token_preds}
use Rattle.constraint_net.specs.declared.constraint.Constraint.{Constraint}
use Rattle.plan_defs.specs.Claims.{Claim, equal}
use Rattle.plan_defs.specs.Refusals.{HaveSamePredicate}
use Rattle.plan_defs.proofs.Members.{all_from_get}
use Rattle.eu_name.proofs.Members.{contains_from_get}
use Rattle.eu_name.proofs.Ordered.{contains_none}
use Rattle.model_core.specs.Content.{Content, IsContent}
use Rattle.db_store.specs.Stores.{Stored}
use Rattle.db_posting.specs.Origins.{content_now, argument_named}
use Rattle.db_posting.specs.Posted.{PostsClaims, OnlyPosts}
use Rattle.db_posting.specs.Terms.{HasPartAt}
use Rattle.db_posting.proofs.Said.{posts_nothing, posts_same, posts_both}
use Rattle.db_opening.specs.Parts.{ArePartsOf}
use Rattle.db_posting.specs.Wanted.{ArePreds}
use Rattle.db_opening.proofs.Opening.{pred_is, name_there}
use Rattle.db_decide.specs.Merging.{HasPartsAt, ClaimsSamePart, ClaimsToBeSame}

-- one of these parts is there, also after constraints have come
pub part_kept : (old new : Stored) → OnlyPosts old new → (place : ℕ) (parts : List Part) (k : ℕ) (d : Part) → k < length parts → HasPartsAt old place parts
    → HasPartAt new (record { token = place; part = get_or parts k d })
part_kept old new only place parts k d below has =
    subst (λ (stored : Stored). HasPartAt stored (record { token = place; part = get_or parts k d })) (sym only) (has k d below)

module _ (names : List VarName) (tokens : List TokenName) (one other : ℕ) where
  abbrev SamePart : Part → Claim → Type 0
  SamePart part claim = claim ≡ equal (argument_named tokens (record { token = one; part = part })) (argument_named tokens (record { token = other; part = part }))

  pub no_part : (posted : List Constraint) → PostsClaims names (ClaimsSamePart tokens one other []) posted posted
  no_part posted = posts_nothing names (ClaimsSamePart tokens one other []) posted (λ claim said. contains_none said.0 said.1)

  module _ (parts : List Part) (k : ℕ) (d : Part) (below : k < length parts) where
    more : take (k + 1) parts ≡ take k parts ++ get_or parts k d ∷ []
    more = take_more parts k d below

    joined : (claim : Claim) → ClaimsSamePart tokens one other (take k parts) claim ⊎ SamePart (get_or parts k d) claim → ClaimsSamePart tokens one other (take (k + 1) parts) claim
    joined claim (inl (part, there, says)) =
        (part, subst (λ (list : List Part). Contains list part) (sym more) (Contains-append_left (take k parts) (get_or parts k d ∷ []) part there), says)
    joined claim (inr says) =
        (get_or parts k d, subst (λ (list : List Part). Contains list (get_or parts k d)) (sym more) (Contains-push (take k parts) (get_or parts k d)), says)

    parted : (claim : Claim) → ClaimsSamePart tokens one other (take (k + 1) parts) claim → ClaimsSamePart tokens one other (take k parts) claim ⊎ SamePart (get_or parts k d) claim
    parted claim (part, there, says) = elim (Contains-push_cases (take k parts) (get_or parts k d) part (subst (λ (list : List Part). Contains list part) more there)) [
      | inl before ↦ inl (part, before, says)
      | inr same ↦ inr (subst (λ (p : Part). SamePart p claim) (sym same) says)
    ]

    pub part_more : (old mid new : List Constraint) → PostsClaims names (ClaimsSamePart tokens one other (take k parts)) old mid → PostsClaims names (SamePart (get_or parts k d)) mid new
        → PostsClaims names (ClaimsSamePart tokens one other (take (k + 1) parts)) old new
    part_more old mid new first second =
        posts_same names (λ claim. ClaimsSamePart tokens one other (take k parts) claim ⊎ SamePart (get_or parts k d) claim) (ClaimsSamePart tokens one other (take (k + 1) parts)) old new
        joined parted (posts_both names (ClaimsSamePart tokens one other (take k parts)) (SamePart (get_or parts k d)) old mid new first second)

-- the parts that two tokens of one predicate have
module _ (model : Model) (stored : Stored) (is : IsContent model (content_now stored)) (preds : ArePreds model (tokens_now stored.past)) (one other pred : ℕ)
    (one_below : one < length (tokens_now stored.past)) (other_below : other < length (tokens_now stored.past)) (at : Some pred ≡ slice_get (token_preds (tokens_now stored.past)) one)
    (alike : HaveSamePredicate model (name_at (content_now stored).tokens one) (name_at (content_now stored).tokens other))
    (parts : List Part) (are : (slot : Slot) → slot.pred ≡ pred → ArePartsOf model slot parts) where
  abbrev content : Content
  content = content_now stored

  abbrev tokens : TokenList
  tokens = tokens_now stored.past

  of_pred : (slot : Slot) → HasToken model (name_at content.tokens one) slot → slot.pred ≡ pred
  of_pred slot has = pred_is model tokens one pred preds at one_below slot has

  part_there : (place : ℕ) (slot : Slot) → place < length tokens → HasToken model (name_at content.tokens place) slot → slot.pred ≡ pred → HasPartsAt stored place parts
  part_there place slot below has of = all_from_get (λ (part : Part). HasPartAt stored (record { token = place; part = part })) parts (λ k part here.
      let base = (are slot of part).0 (contains_from_get parts k part here) in
      (below, (is.variables (Token (name_at content.tokens place) part)).0 (name_there tokens place below, (base.0, (slot, has, base.1)))))

  pub one_has : HasPartsAt stored one parts
  one_has = part_there one alike.slot one_below alike.has_one (of_pred alike.slot alike.has_one)

  pub other_has : HasPartsAt stored other parts
  other_has = part_there other alike.other_slot other_below alike.has_other (sym alike.same ∙ of_pred alike.slot alike.has_one)

  same_there : (claim : Claim) → ClaimsSamePart content.tokens one other parts claim → ClaimsToBeSame model (name_at content.tokens one) (name_at content.tokens other) claim
  same_there claim (part, listed, says) = (part, (alike.slot, alike.has_one, (are alike.slot (of_pred alike.slot alike.has_one) part).0 listed), says)

  same_back : (claim : Claim) → ClaimsToBeSame model (name_at content.tokens one) (name_at content.tokens other) claim → ClaimsSamePart content.tokens one other parts claim
  same_back claim (part, has, says) = (part, (are has.0 (of_pred has.0 has.1) part).1 has.2, says)

  pub shares_all : (new : List Constraint) → PostsClaims content.names (ClaimsSamePart content.tokens one other parts) stored.net.constraints new
      → PostsClaims content.names (ClaimsToBeSame model (name_at content.tokens one) (name_at content.tokens other)) stored.net.constraints new
  shares_all new posts =
      posts_same content.names (ClaimsSamePart content.tokens one other parts) (ClaimsToBeSame model (name_at content.tokens one) (name_at content.tokens other))
      stored.net.constraints new same_there same_back posts

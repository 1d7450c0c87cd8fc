-- What is so of a list of decisions with one more.
use Rattle.std.proofs.Common.{◌≡◌, ℕ, List, [], ◌∷◌, ◌++◌, ◌⊎◌, inl, inr, refl, sym, subst}
use Rattle.std.specs.List.{AllZip}
use Rattle.std.proofs.lemmas.List.Elements.{Contains-push_cases}
use Rattle.domain_core.specs.Domain.{Domain, IsWithin}
use Rattle.domain_core.proofs.Words.{IsWithin-refl}
use Rattle.eu_name.specs.declared.name.Part.TheVariants.{Start, End}
use Rattle.eu_name.specs.declared.name.TokenName.{TokenName}
use Rattle.model_core.specs.declared.decision.Decision.{Decision}
use Rattle.model_core.specs.declared.decision.Decision.TheVariants.{Reject, Order}
use Rattle.model_core.specs.declared.model.Model.{Model}
use Rattle.model_core.specs.Decided.{IsTaken, IsRejected, IsDecided}
use Rattle.constraint_net.specs.declared.constraint.Constraint.{Constraint}
use Rattle.plan_defs.specs.Claims.{Claim, Posts, at_most, part_of}
use Rattle.plan_defs.specs.Closure.{IsRespected}
use Rattle.plan_defs.specs.Refusals.{IsKnown, IsAlreadyDecided}
use Rattle.eu_name.proofs.Ordered.{contains_none}
use Rattle.db_refine.specs.Claims.{IsPostedIn}
use Rattle.model_core.specs.Content.{Content, shown, IsContent}
use Rattle.db_refine.specs.Coming.{TakesToken, IsTakenUp}
use Rattle.db_refine.specs.Progress.{MissesNothing}
use Rattle.db_refine.proofs.Counting.{taken_cases}
use Rattle.db_refine.proofs.Following.{deciding_misses}
use Rattle.db_refine.proofs.Lessening.{falling_misses}
use Rattle.db_store.specs.Stores.{Stored}
use Rattle.db_posting.specs.Origins.{content_now}
use Rattle.db_posting.specs.Underway.{IsStoreUnderway}

-- the decision takes the token or rejects it
abbrev pub DecidesOf : Decision → TokenName → Type 0
DecidesOf decision token = TakesToken decision token ⊎ (decision ≡ Reject token)

within_same : (domains : List Domain) → AllZip IsWithin domains domains
within_same [] = tt
within_same (domain ∷ domains) = (IsWithin-refl domain, within_same domains)

-- where nothing is due nothing is missed, whatever is due
pub due_more : (model : Model) (decisions : List Decision) (posted : List Constraint) (content : Content) (unfolded : ℕ) (due : List ℕ) → IsContent model content
    → MissesNothing model decisions posted content unfolded [] → MissesNothing model decisions posted content unfolded due
due_more model decisions posted content unfolded due is misses =
    falling_misses model decisions posted content content.domains unfolded [] due misses is.domains (within_same content.domains) (record {
      kept = λ variable there. absurd (contains_none variable there);
      each = λ variable below. inl refl;
    })

pub due_longer : (model : Model) (followed decisions : List Decision) (stored : Stored) (unfolded : ℕ) (due : List ℕ)
    → IsStoreUnderway model followed decisions stored unfolded [] → IsStoreUnderway model followed decisions stored unfolded due
due_longer model followed decisions stored unfolded due under = record {
  justified = under.justified;
  complete = due_more model followed stored.net.constraints (content_now stored) unfolded due under.justified.is_content under.complete;
  states = under.states;
  preds = under.preds;
  watched = under.watched;
  within = under.within;
}

module _ (model : Model) (decisions : List Decision) (decision : Decision) where
  -- what the further decision asks for is there
  pub taken_underway : (stored : Stored) (unfolded : ℕ) (due : List ℕ) → IsStoreUnderway model decisions (decisions ++ decision ∷ []) stored unfolded due
      → IsTakenUp model decisions decision stored.net.constraints (content_now stored) unfolded due
      → IsStoreUnderway model (decisions ++ decision ∷ []) (decisions ++ decision ∷ []) stored unfolded due
  taken_underway stored unfolded due under up = record {
    justified = under.justified;
    complete = deciding_misses model decisions decision stored.net.constraints (content_now stored) unfolded due under.complete up;
    states = under.states;
    preds = under.preds;
    watched = under.watched;
    within = under.within;
  }

  -- a decision that takes no token asks for little
  pub quiet_taken_up : ((token : TokenName) → TakesToken decision token → ⊥) → (posted : List Constraint) (content : Content) (unfolded : ℕ) (due : List ℕ)
      → IsKnown (shown content) decision → IsRespected decision (shown content)
      → ((one other : TokenName) → decision ≡ Order one other → IsPostedIn content.names posted (at_most (part_of one End) (part_of other Start)))
      → ((claim : Claim) → Posts decision claim → IsPostedIn content.names posted claim)
      → IsTakenUp model decisions decision posted content unfolded due
  quiet_taken_up quiet posted content unfolded due known granted ordered given = record {
    known = known;
    granted = granted;
    rules = λ token rule entries is has. absurd (quiet token (inl is));
    branches = λ block entries guard then otherwise name is_open is stands names begins. absurd (quiet begins.0 begins.3);
    of_problem = λ claim begins p. absurd (quiet begins.2.0 begins.2.3);
    of_blocks = λ claim begins p. absurd (quiet begins.2.0 begins.2.3);
    of_merge = λ token target part is has. absurd (quiet token (inr (target, is)));
    of_order = ordered;
    of_posting = given;
    in_turn = λ token one other is which turn. absurd (quiet token (inl is));
  }

  decided_cases : (token : TokenName) → IsDecided model (decisions ++ decision ∷ []) token → IsDecided model decisions token ⊎ DecidesOf decision token
  decided_cases token (inl fact) = inl (inl fact)
  decided_cases token (inr (inl taken)) = elim (taken_cases decisions decision token taken) [ inl before ↦ inl (inr (inl before)) | inr takes ↦ inr (inl takes) ]
  decided_cases token (inr (inr rejected)) = elim (Contains-push_cases decisions decision (Reject token) rejected) [
    | inl before ↦ inl (inr (inr before))
    | inr is ↦ inr (inr is)
  ]

  -- what is decided of other tokens was decided before
  pub decided_before : (token : TokenName) → (DecidesOf decision token → ⊥) → IsDecided model (decisions ++ decision ∷ []) token → IsDecided model decisions token
  decided_before token other decided = elim (decided_cases token decided) [ inl before ↦ before | inr decides ↦ absurd (other decides) ]

  module _ (undecided : IsAlreadyDecided model decisions decision → ⊥) where
    fresh : (token : TokenName) → DecidesOf decision token → IsDecided model decisions token → ⊥
    fresh token (inl (inl is)) decided = undecided (subst (IsAlreadyDecided model decisions) (sym is) decided)
    fresh token (inl (inr (target, is))) decided = undecided (subst (IsAlreadyDecided model decisions) (sym is) decided)
    fresh token (inr is) decided = undecided (subst (IsAlreadyDecided model decisions) (sym is) decided)

    clash : (token : TokenName) → TakesToken decision token → decision ≡ Reject token → ⊥
    clash token (inl takes) is = cc
    clash token (inr (target, takes)) is = cc

    -- no token that is rejected is taken
    pub rejected_longer : ((token : TokenName) → IsRejected decisions token → IsTaken decisions token → ⊥)
        → (token : TokenName) → IsRejected (decisions ++ decision ∷ []) token → IsTaken (decisions ++ decision ∷ []) token → ⊥
    rejected_longer before token rejected taken = elim (Contains-push_cases decisions decision (Reject token) rejected) [
      | inl was ↦ elim (taken_cases decisions decision token taken) [
        | inl too ↦ before token was too
        | inr takes ↦ fresh token (inl takes) (inr (inr was))
      ]
      | inr is ↦ elim (taken_cases decisions decision token taken) [
        | inl too ↦ fresh token (inr is) (inr (inl too))
        | inr takes ↦ clash token takes is
      ]
    ]

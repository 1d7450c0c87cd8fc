-- Constraints that are posted on the way.
use Rattle.std.proofs.Common.{ℕ, List, ◌++◌, sym, subst}
use Rattle.std.proofs.lemmas.List.Elements.{All-append, All-weaker, Contains-append_right}
use Rattle.eu_name.specs.declared.name.VarName.{VarName}
use Rattle.model_core.specs.declared.decision.Decision.{Decision}
use Rattle.model_core.specs.declared.model.Model.{Model}
use Rattle.constraint_net.specs.declared.constraint.Constraint.{Constraint}
use Rattle.plan_defs.specs.Claims.{Claim, IsClaim}
use Rattle.db_refine.specs.Claims.{SaysClaim, IsPostedIn, IsOwed}
use Rattle.model_core.specs.Content.{shown}
use Rattle.db_refine.proofs.Owing.{asked_is_owed}
use Rattle.db_refine.specs.Progress.{IsJustified, MissesNothing}
use Rattle.db_refine.proofs.Keeping.{posting_misses}
use Rattle.db_store.specs.Stores.{Stored}
use Rattle.db_posting.specs.Origins.{content_now}
use Rattle.db_posting.specs.Posted.{PostsClaims, OnlyPosts}
use Rattle.db_posting.proofs.Storing.{with_constraints}
use Rattle.db_posting.specs.Underway.{IsStoreUnderway}

-- what is said is posted
pub said_is_posted : (names : List VarName) (Said : Claim → Type 0) (old new : List Constraint) → PostsClaims names Said old new → (claim : Claim) → Said claim → IsPostedIn names new claim
said_is_posted names Said old new posts claim said =
    let is = posts.all claim said in
    subst (λ (list : List Constraint). IsPostedIn names list claim) (sym posts.behind) (is.0, Contains-append_right old posts.later is.0 is.1, is.2)

-- a constraint that says a claim that is owed
abbrev SaysOwed : Model → List Decision → List VarName → Constraint → Type 0
SaysOwed model decisions names constraint = (claim : Claim) × SaysClaim names constraint claim × IsOwed model decisions claim

module _ (model : Model) (followed decisions : List Decision) (Said : Claim → Type 0) where
  pub claims_underway : (old : Stored) (new : List Constraint) → PostsClaims (content_now old).names Said old.net.constraints new
      → ((claim : Claim) → Said claim → IsClaim model decisions (shown (content_now old)) claim)
      → (unfolded : ℕ) (due : List ℕ) → IsStoreUnderway model followed decisions old unfolded due → IsStoreUnderway model followed decisions (with_constraints old new) unfolded due
  claims_underway old new posts claims unfolded due under =
      let content = content_now old in
      let is = under.justified in
      let owed = All-weaker (λ constraint. (claim : Claim) × SaysClaim content.names constraint claim × Said claim) (SaysOwed model decisions content.names)
      (λ constraint says. (says.0, says.1, (asked_is_owed model decisions content is.is_content is.above).claims says.0 (claims says.0 says.2))) posts.later posts.each in
      let justified : IsJustified model decisions old.net.tables (old.net.constraints ++ posts.later) content = record {
        is_content = is.is_content;
        above = is.above;
        tokens = is.tokens;
        blocks = is.blocks;
        in_base = is.in_base;
        fields = is.fields;
        owed = All-append (SaysOwed model decisions content.names) old.net.constraints posts.later is.owed owed;
      } in
      record {
        justified = subst (λ (list : List Constraint). IsJustified model decisions old.net.tables list content) (sym posts.behind) justified;
        complete = subst (λ (list : List Constraint). MissesNothing model followed list content unfolded due) (sym posts.behind)
            (posting_misses model followed old.net.constraints posts.later content unfolded due under.complete);
        states = record { states = under.states.states; rejected = under.states.rejected };
        preds = under.preds;
        watched = under.watched;
        within = under.within;
      }

  -- posting what is claimed goes on
  pub posts_underway : (old new : Stored) → OnlyPosts old new → PostsClaims (content_now old).names Said old.net.constraints new.net.constraints
      → ((claim : Claim) → Said claim → IsClaim model decisions (shown (content_now old)) claim)
      → (unfolded : ℕ) (due : List ℕ) → IsStoreUnderway model followed decisions old unfolded due → IsStoreUnderway model followed decisions new unfolded due
  posts_underway old new only posts claims unfolded due under =
      subst (λ (stored : Stored). IsStoreUnderway model followed decisions stored unfolded due) (sym only) (claims_underway old new.net.constraints posts claims unfolded due under)

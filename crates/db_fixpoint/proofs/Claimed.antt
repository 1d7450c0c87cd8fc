-- Claims that are seen to.
use Rattle.std.proofs.Common.{◌≡◌, ◌⊎◌, inl, inr, List, [], ◌++◌, Ok, Err, sym, ap, ◌∙◌, subst}
use Rattle.std.specs.Prelude.{Result, OnOk}
use Rattle.std.specs.declared.alloc.AllocError.{AllocError}
use Rattle.std.proofs.lemmas.List.{append_assoc, append-nil}
use Rattle.std.proofs.lemmas.List.Elements.{All-append, All-nil, All-weaker, Contains-append_left, Contains-append_right}
use Rattle.eu_name.specs.declared.name.VarName.{VarName}
use Rattle.constraint_net.specs.declared.constraint.Constraint.{Constraint}
use Rattle.plan_defs.specs.Claims.{Claim}
use Rattle.db_refine.specs.Claims.{SaysClaim, IsPostedIn}
use Rattle.db_posting.specs.Posted.{PostsClaims}
use Rattle.db_fixpoint.specs.Turns.{SeesToClaims}

abbrev pub SaysOne : List VarName → (Claim → Type 0) → Constraint → Type 0
SaysOne names Said constraint = (claim : Claim) × SaysClaim names constraint claim × Said claim

pub sees_none : (names : List VarName) (Said : Claim → Type 0) (old : List Constraint) → ((claim : Claim) → Said claim → ⊥) → SeesToClaims names Said old old
sees_none names Said old none =
    record {
      later = [];
      behind = sym (append-nil old);
      each = All-nil (SaysOne names Said);
      all = λ claim said. absurd (none claim said);
    }

posted_on : (names : List VarName) (old later new : List Constraint) → new ≡ old ++ later → (claim : Claim) → IsPostedIn names old claim → IsPostedIn names new claim
posted_on names old later new is claim posted =
    subst (λ list. IsPostedIn names list claim) (sym is) (posted.0, Contains-append_left old later posted.0 posted.1, posted.2)

posted_behind : (names : List VarName) (old later new : List Constraint) → new ≡ old ++ later → (claim : Claim) → IsPostedIn names later claim → IsPostedIn names new claim
posted_behind names old later new is claim posted =
    subst (λ list. IsPostedIn names list claim) (sym is) (posted.0, Contains-append_right old later posted.0 posted.1, posted.2)

pub sees_posted : (names : List VarName) (Said : Claim → Type 0) (old new : List Constraint) → PostsClaims names Said old new → SeesToClaims names Said old new
sees_posted names Said old new posts =
    record {
      later = posts.later;
      behind = posts.behind;
      each = posts.each;
      all = λ claim said. posted_behind names old posts.later new posts.behind claim (posts.all claim said);
    }

-- the same claims, said otherwise
pub sees_same : (names : List VarName) (One Other : Claim → Type 0) (old new : List Constraint) → ((claim : Claim) → One claim → Other claim) → ((claim : Claim) → Other claim → One claim)
    → SeesToClaims names One old new → SeesToClaims names Other old new
sees_same names One Other old new there back sees =
    record {
      later = sees.later;
      behind = sees.behind;
      each = All-weaker (SaysOne names One) (SaysOne names Other) (λ constraint is. (is.0, is.1, there is.0 is.2)) sees.later sees.each;
      all = λ claim said. sees.all claim (back claim said);
    }

-- some claims, and then others
pub sees_both : (names : List VarName) (One Other : Claim → Type 0) (old middle new : List Constraint) → SeesToClaims names One old middle → SeesToClaims names Other middle new
    → SeesToClaims names (λ claim. One claim ⊎ Other claim) old new
sees_both names One Other old middle new first second =
    let Either : Claim → Type 0 = λ claim. One claim ⊎ Other claim in
    record {
      later = first.later ++ second.later;
      behind = second.behind ∙ (ap (λ list. list ++ second.later) first.behind ∙ append_assoc old first.later second.later);
      each = All-append (SaysOne names Either) first.later second.later
          (All-weaker (SaysOne names One) (SaysOne names Either) (λ constraint is. (is.0, is.1, inl is.2)) first.later first.each)
          (All-weaker (SaysOne names Other) (SaysOne names Either) (λ constraint is. (is.0, is.1, inr is.2)) second.later second.each);
      all = λ claim said. elim said [
        | inl one ↦ posted_on names middle second.later new second.behind claim (first.all claim one)
        | inr other ↦ second.all claim other
      ];
    }

pub ok_then : {P Q : Type 0} (result : Result (Unit {0}) AllocError) → (P → Q) → OnOk result P → OnOk result Q
ok_then (Ok done) there p = there p
ok_then (Err none) there p = tt

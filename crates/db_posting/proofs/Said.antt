-- What is posted, one claim after another.
use Rattle.std.proofs.Common.{◌≡◌, ◌⊎◌, inl, inr, List, [], ◌∷◌, ◌++◌, Ok, Err, refl, sym, ap, ◌∙◌, subst, arith}
use Rattle.std.specs.Prelude.{All, Result, OnOk}
use Rattle.std.specs.List.{AllZip}
use Rattle.std.specs.declared.alloc.AllocError.{AllocError}
use Rattle.std.proofs.lemmas.List.{append_assoc, append-nil}
use Rattle.std.proofs.lemmas.List.Elements.{All-append, All-cons, All-nil, All-weaker, Contains-append_left, Contains-append_right}
use Rattle.eu_name.specs.declared.name.VarName.{VarName}
use Rattle.domain_core.specs.declared.kind.Kind.{Kind}
use Rattle.model_core.specs.declared.item.Term.{Term}
use Rattle.constraint_net.specs.Calls.{Posts}
use Rattle.constraint_net.specs.Networks.{Network}
use Rattle.constraint_net.specs.declared.constraint.Constraint.{Constraint}
use Rattle.constraint_net.specs.declared.constraint.NetArg.{NetArg}
use Rattle.plan_defs.specs.Claims.{Claim}
use Rattle.plan_defs.specs.Terms.{Context}
use Rattle.db_refine.specs.Claims.{IsNamedArgument, SaysClaim, IsPostedIn}
use Rattle.model_core.specs.Content.{Content}
use Rattle.db_posting.specs.Terms.{CanStand, IsTermArgument}
use Rattle.db_posting.specs.Posted.{PostsClaims, AssertsOf}
use Rattle.db_posting.proofs.Meaning.{all_meant, all_named}

posted_left : (names : List VarName) (one other : List Constraint) (claim : Claim) → IsPostedIn names one claim → IsPostedIn names (one ++ other) claim
posted_left names one other claim is = (is.0, Contains-append_left one other is.0 is.1, is.2)

posted_right : (names : List VarName) (one other : List Constraint) (claim : Claim) → IsPostedIn names other claim → IsPostedIn names (one ++ other) claim
posted_right names one other claim is = (is.0, Contains-append_right one other is.0 is.1, is.2)

-- nothing is posted
pub posts_nothing : (names : List VarName) (Said : Claim → Type 0) (old : List Constraint) → ((claim : Claim) → Said claim → ⊥) → PostsClaims names Said old old
posts_nothing names Said old none =
    record {
      later = [];
      behind = sym (append-nil old);
      each = All-nil (λ constraint. (claim : Claim) × SaysClaim names constraint claim × Said claim);
      all = λ claim said. absurd (none claim said);
    }

-- the same claims, said otherwise
pub posts_same : (names : List VarName) (One Other : Claim → Type 0) (old new : List Constraint) → ((claim : Claim) → One claim → Other claim) → ((claim : Claim) → Other claim → One claim)
    → PostsClaims names One old new → PostsClaims names Other old new
posts_same names One Other old new there back posts =
    record {
      later = posts.later;
      behind = posts.behind;
      each = All-weaker (λ constraint. (claim : Claim) × SaysClaim names constraint claim × One claim) (λ constraint. (claim : Claim) × SaysClaim names constraint claim × Other claim)
          (λ constraint is. (is.0, is.1, there is.0 is.2)) posts.later posts.each;
      all = λ claim said. posts.all claim (back claim said);
    }

-- some claims, and then others
pub posts_both : (names : List VarName) (One Other : Claim → Type 0) (old middle new : List Constraint) → PostsClaims names One old middle → PostsClaims names Other middle new
    → PostsClaims names (λ claim. One claim ⊎ Other claim) old new
posts_both names One Other old middle new first second =
    let Either : Constraint → Type 0 = λ constraint. (claim : Claim) × SaysClaim names constraint claim × (One claim ⊎ Other claim) in
    record {
      later = first.later ++ second.later;
      behind = second.behind ∙ (ap (λ list. list ++ second.later) first.behind ∙ append_assoc old first.later second.later);
      each = All-append Either first.later second.later
          (All-weaker (λ constraint. (claim : Claim) × SaysClaim names constraint claim × One claim) Either (λ constraint is. (is.0, is.1, inl is.2)) first.later first.each)
          (All-weaker (λ constraint. (claim : Claim) × SaysClaim names constraint claim × Other claim) Either (λ constraint is. (is.0, is.1, inr is.2)) second.later second.each);
      all = λ claim said. elim said [
        | inl one ↦ posted_left names first.later second.later claim (first.all claim one)
        | inr other ↦ posted_right names first.later second.later claim (second.all claim other)
      ];
    }

-- ---- one constraint

module _ (names : List VarName) (Said : Claim → Type 0) (constraint : Constraint) where
  one_posted : (old new : List Constraint) → new ≡ old ++ constraint ∷ [] → (claim : Claim) → SaysClaim names constraint claim → Said claim
      → ((other : Claim) → Said other → SaysClaim names constraint other) → PostsClaims names Said old new
  one_posted old new behind claim says said all =
      let Says : Constraint → Type 0 = λ one. (claim : Claim) × SaysClaim names one claim × Said claim in
      record {
        later = constraint ∷ [];
        behind = behind;
        each = All-cons Says constraint [] (claim, says, said) (All-nil Says);
        all = λ other is. (constraint, (0, omega arith, refl), all other is);
      }

  pub posts_constraint : (old new : Network) (result : Result (Unit {0}) AllocError) → Posts old constraint.kind constraint.args result new → (claim : Claim)
      → SaysClaim names constraint claim → Said claim → ((other : Claim) → Said other → SaysClaim names constraint other)
      → OnOk result (PostsClaims names Said old.constraints new.constraints)
  posts_constraint old new (Ok done) posts claim says said all =
      one_posted old.constraints new.constraints (ap (λ (net : Network). net.constraints) posts) claim says said all
  posts_constraint old new (Err none) posts claim says said all = tt

-- that says one claim alone
pub posts_claim : (names : List VarName) (old new : Network) (result : Result (Unit {0}) AllocError) (kind : Kind) (args : List NetArg) (claim : Claim) → Posts old kind args result new
    → claim.kind ≡ kind → AllZip (IsNamedArgument names) claim.arguments args → OnOk result (PostsClaims names (λ other. other ≡ claim) old.constraints new.constraints)
posts_claim names old new result kind args claim posts is named =
    let constraint : Constraint = record { kind = kind; args = args } in
    let says : SaysClaim names constraint claim = record { kind = sym is; arguments = named } in
    posts_constraint names (λ other. other ≡ claim) constraint old new result posts claim says refl (λ other same. subst (SaysClaim names constraint) (sym same) says)

-- that says what terms mean
pub posts_terms : (content : Content) (context : Context) (old new : Network) (result : Result (Unit {0}) AllocError) (kind : Kind) (terms : List Term) (args : List NetArg)
    → Posts old kind args result new → All (CanStand context) terms → AllZip (IsTermArgument content context) terms args
    → OnOk result (PostsClaims content.names (AssertsOf context kind terms) old.constraints new.constraints)
posts_terms content context old new result kind terms args posts stand zip =
    let constraint : Constraint = record { kind = kind; args = args } in
    let found = all_meant content context terms args stand zip in
    let claim : Claim = record { kind = kind; arguments = found.0 } in
    posts_constraint content.names (AssertsOf context kind terms) constraint old new result posts claim
    (record { kind = refl; arguments = found.2 })
    (record { is_kind = refl; means = found.1 })
    (λ other said. record { kind = sym said.is_kind; arguments = all_named content context terms args other.arguments zip said.means })

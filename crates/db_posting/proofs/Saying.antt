-- What items say, and what they assert.
use Rattle.std.proofs.Common.{List, [], ◌∷◌, subst}
use Rattle.std.specs.Prelude.{All}
use Rattle.std.specs.List.{AllZip}
use Rattle.std.proofs.lemmas.List.Elements.{All-head, All-tail, All-cons, All-nil}
use Rattle.eu_name.specs.declared.name.TokenName.{TokenName}
use Rattle.model_core.specs.declared.item.Item.TheVariants.{Constraint, Relation}
use Rattle.model_core.specs.declared.item.Term.{Term}
use Rattle.model_core.specs.declared.model.Model.{Model}
use Rattle.model_core.specs.Decided.{IsTaken}
use Rattle.plan_defs.specs.Terms.{Context, InProblem, InRule, Argument, Means, ArgumentCounts}
use Rattle.db_posting.specs.Counting.{TermCounts}
use Rattle.db_posting.specs.PostingLaws.{WhatCountsIsSaid}
use Rattle.plan_defs.proofs.Meanings.{means_once}

module _ (model : Model) (Taken : TokenName → Type 0) (context : Context) where
  terms_count : (terms : List Term) (arguments : List Argument) → AllZip (Means context) terms arguments → All (ArgumentCounts model Taken) arguments → All (TermCounts model Taken context) terms
  terms_count [] [] zip all = All-nil (TermCounts model Taken context)
  terms_count [] (argument ∷ arguments) zip all = absurd zip
  terms_count (term ∷ terms) [] zip all = absurd zip
  terms_count (term ∷ terms) (argument ∷ arguments) zip all =
      All-cons (TermCounts model Taken context) term terms
      (λ other means. subst (ArgumentCounts model Taken) (means_once context term argument other zip.0 means) (All-head (ArgumentCounts model Taken) argument arguments all))
      (terms_count terms arguments zip.1 (All-tail (ArgumentCounts model Taken) argument arguments all))

  arguments_count : (terms : List Term) (arguments : List Argument) → AllZip (Means context) terms arguments → All (TermCounts model Taken context) terms → All (ArgumentCounts model Taken) arguments
  arguments_count [] [] zip all = All-nil (ArgumentCounts model Taken)
  arguments_count [] (argument ∷ arguments) zip all = absurd zip
  arguments_count (term ∷ terms) [] zip all = absurd zip
  arguments_count (term ∷ terms) (argument ∷ arguments) zip all =
      All-cons (ArgumentCounts model Taken) argument arguments
      (All-head (TermCounts model Taken context) term terms all argument zip.0)
      (arguments_count terms arguments zip.1 (All-tail (TermCounts model Taken context) term terms all))

pub what_counts_is_said : WhatCountsIsSaid
what_counts_is_said model decisions context (Constraint kind terms) claim = (
  λ says. (record { is_kind = says.is_kind; means = says.means }, terms_count model (IsTaken decisions) context terms claim.arguments says.means says.counts),
  λ both. record {
    is_kind = both.0.is_kind;
    means = both.0.means;
    counts = arguments_count model (IsTaken decisions) context terms claim.arguments both.0.means both.1;
  },
)
what_counts_is_said model decisions (InRule token rule) (Relation rel slot) claim = (λ says. (says, tt), λ both. both.0)
what_counts_is_said model decisions InProblem (Relation rel slot) claim = (λ says. absurd says, λ both. absurd both.0)

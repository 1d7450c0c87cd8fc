-- What is a point, and that what is said of points counts.
use Rattle.std.proofs.Common.{◌≡◌, suc, ◌⊎◌, inl, inr, ℤ, length, get_or, arith, List, [], ◌∷◌, ◌++◌, Some, None, refl, sym, ◌∙◌, ap, subst}
use Rattle.std.specs.Prelude.{Contains, slice_get, MatchOption, Option, Result, OnOk}
use Rattle.std.specs.declared.alloc.AllocError.{AllocError}
use Rattle.std.specs.List.{AllZip}
use Rattle.std.proofs.lemmas.List.{append-nil}
use Rattle.std.proofs.lemmas.List.Elements.{All-cons, All-nil}
use Rattle.std.proofs.lemmas.Result.{on_ok_weaker}
use Rattle.std.proofs.lemmas.Option.{same_Some}
use Rattle.eu_name.specs.declared.name.Part.{Part}
use Rattle.eu_name.specs.declared.name.TokenName.{TokenName}
use Rattle.eu_name.specs.declared.name.VarName.TheVariants.{Token}
use Rattle.model_core.specs.declared.decision.Decision.{Decision}
use Rattle.model_core.specs.declared.decision.Decision.TheVariants.{Merge}
use Rattle.model_core.specs.declared.model.Model.{Model}
use Rattle.model_core.specs.declared.model.RootKind.TheVariants as kinds
use Rattle.model_core.specs.Decided.{IsActive, IsTaken}
use Rattle.model_core.specs.Tokens.{IsFact, IsRejectable}
use Rattle.model_core.specs.declared.item.Item.TheVariants.{Constraint}
use Rattle.domain_core.specs.declared.kind.Kind.{Kind}
use Rattle.model_core.specs.declared.item.Term.{Term}
use Rattle.plan_defs.specs.Claims.{Claim}
use Rattle.plan_defs.specs.Terms.{Context, Argument, Variable, Value, ArgumentCounts, Counts, Means}
use Rattle.plan_defs.proofs.Meanings.{means_once}
use Rattle.db_edges.specs.declared.edge.NamedEdge.{NamedEdge}
use Rattle.db_edges.specs.declared.edge.Point.{Point}
use Rattle.db_edges.specs.Adding.{AddsEdges}
use Rattle.db_edges.specs.Edges.{HasClaimEdges, HasConstraintEdges, HasGivenEdges, IsGivenPoint, SaysOfPoints, comparing_edges}
use Rattle.db_edges.specs.Sites.{IsTermPoint}
use Rattle.db_edges.specs.Points.{ActsAs, IsArgumentPoint, IsPointOf}

-- a fact is no rejectable
fact_is_kept : (model : Model) (token : TokenName) → IsFact model token → IsRejectable model token → ⊥
fact_is_kept model token fact rejectable =
    let one = fact.1 in
    let other = rejectable.1 in
    let same = same_Some one.0 other.0 (sym one.1 ∙ other.1) in
    let kinds_same : kinds.Fact ≡ kinds.Rejectable = sym one.2 ∙ (ap (λ r. r.kind) same ∙ other.2) in
    cc

-- what is said of a variable of a token that takes place counts
pub counts_acting : (model : Model) (decisions : List Decision) (token other : TokenName) (which : Part)
    → ActsAs model decisions token other → Counts model (IsTaken decisions) (Token token which)
counts_acting model decisions token other which acts owner owns rejectable = subst (IsTaken decisions) owns (by acts)
  where
    by : ActsAs model decisions token other → IsTaken decisions token
    by (inl (inl fact, is)) = absurd (fact_is_kept model owner (subst (IsFact model) owns fact) rejectable)
    by (inl (inr activated, is)) = inl activated
    by (inr merged) = inr (other, merged)

-- what takes place as what, where the token isn't active by itself
pub acts_merged : (model : Model) (decisions : List Decision) (token : TokenName) (found : Option TokenName)
    → (IsActive model decisions token → ⊥)
    → MatchOption found ((target : TokenName) → Contains decisions (Merge token target) → ⊥) (λ target. Contains decisions (Merge token target))
    → MatchOption found ((other : TokenName) → ActsAs model decisions token other → ⊥) (ActsAs model decisions token)
acts_merged model decisions token (Some target) inactive there = inr there
acts_merged model decisions token None inactive none = λ other. by other
  where
    by : (other : TokenName) → ActsAs model decisions token other → ⊥
    by other (inl (active, is)) = inactive active
    by other (inr there) = none other there

-- what is told of nothing
pub none_told : {X : Type 0} (found : Option X) (N : Type 0) (S : X → Type 0) → found ≡ None → MatchOption found N S → N
none_told found N S is told = subst (λ f. MatchOption f N S) is told

-- none is added where no value is given, or the part is no point
pub none_given : (model : Model) (decisions : List Decision) (token : TokenName) (which : Part) (old : List NamedEdge)
    → ((value : ℤ) (point : Point) → IsGivenPoint model decisions token which value point → ⊥)
    → AddsEdges (HasGivenEdges model decisions token which) old old
none_given model decisions token which old none = ([], inr (none, refl), sym (append-nil old))

-- two arguments are two others
same_two : (one other a b : Argument) → one ∷ other ∷ [] ≡ a ∷ b ∷ [] → (one ≡ a) × (other ≡ b)
same_two one other a b same =
    (same_Some one a (ap (λ (l : List Argument). slice_get l 0) same), same_Some other b (ap (λ (l : List Argument). slice_get l 1) same))

module _ (model : Model) (decisions : List Decision) (kind : Kind) (one other : Argument) (old new : List NamedEdge)
    (result : Result (Unit {0}) AllocError) where
  -- the claim on the two
  abbrev claim : Claim
  claim = record { kind = kind; arguments = one ∷ other ∷ [] }

  no_edges : ((from to : Point) → IsArgumentPoint model decisions one from → IsArgumentPoint model decisions other to → ⊥)
      → new ≡ old → AddsEdges (HasClaimEdges model decisions claim) old new
  no_edges none same = (
    [],
    inr (
      λ from to compares.
          let two = same_two one other compares.0 compares.1 compares.2 in
          none from to (subst (λ a. IsArgumentPoint model decisions a from) (sym two.0) compares.3) (subst (λ a. IsArgumentPoint model decisions a to) (sym two.1) compares.4),
      refl,
    ),
    same ∙ sym (append-nil old),
  )

  -- the edges of a claim, by what its arguments are found to be
  pub claim_edges : (from to : Option Point)
      → MatchOption from ((point : Point) → IsArgumentPoint model decisions one point → ⊥) (IsArgumentPoint model decisions one)
      → MatchOption to ((point : Point) → IsArgumentPoint model decisions other point → ⊥) (IsArgumentPoint model decisions other)
      → ((f t : Point) → from ≡ Some f → to ≡ Some t → OnOk result (new ≡ old ++ comparing_edges kind f t))
      → ((from ≡ None) ⊎ (to ≡ None) → OnOk result (new ≡ old))
      → OnOk result (AddsEdges (HasClaimEdges model decisions claim) old new)
  claim_edges (Some f) (Some t) first second both not_both =
      on_ok_weaker result (λ is. (comparing_edges kind f t, inl (f, t, (one, other, refl, first, second), refl), is)) (both f t refl refl)
  claim_edges None to first second both not_both = on_ok_weaker result (no_edges (λ f t is_one is_other. first f is_one)) (not_both (inl refl))
  claim_edges (Some f) None first second both not_both = on_ok_weaker result (no_edges (λ g t is_one is_other. second t is_other)) (not_both (inr refl))

-- the same claim on arguments that are named otherwise
pub claim_renamed : (model : Model) (decisions : List Decision) (kind : Kind) (one a other b : Argument) (old new : List NamedEdge)
    (result : Result (Unit {0}) AllocError) → one ≡ a → other ≡ b
    → OnOk result (AddsEdges (HasClaimEdges model decisions (record { kind = kind; arguments = one ∷ other ∷ [] })) old new)
    → OnOk result (AddsEdges (HasClaimEdges model decisions (record { kind = kind; arguments = a ∷ b ∷ [] })) old new)
claim_renamed model decisions kind one a other b old new result first second adds =
    subst (λ y. OnOk result (AddsEdges (HasClaimEdges model decisions (record { kind = kind; arguments = a ∷ y ∷ [] })) old new)) second
    (subst (λ x. OnOk result (AddsEdges (HasClaimEdges model decisions (record { kind = kind; arguments = x ∷ other ∷ [] })) old new)) first adds)

-- the point of a part of a token is that of the term that means it
pub term_point : (model : Model) (decisions : List Decision) (context : Context) (term : Term) (token : TokenName) (which : Part) (found : Option Point)
    → Means context term (Variable (Token token which))
    → MatchOption found ((point : Point) → IsPointOf model decisions token which point → ⊥) (IsPointOf model decisions token which)
    → MatchOption found ((point : Point) → IsTermPoint model decisions context term point → ⊥) (IsTermPoint model decisions context term)
term_point model decisions context term token which (Some point) means is = (Variable (Token token which), means, is)
term_point model decisions context term token which None means none = λ point meant.
    let same = means_once context term meant.0 (Variable (Token token which)) meant.1 means in
    none point (subst (λ a. IsArgumentPoint model decisions a point) same meant.2)

-- what is said of an argument that is a point counts
counts_point : (model : Model) (decisions : List Decision) (argument : Argument) (point : Point)
    → IsArgumentPoint model decisions argument point → ArgumentCounts model (IsTaken decisions) argument
counts_point model decisions (Variable (Token token which)) point is = counts_acting model decisions token is.0 which is.1
counts_point model decisions (Variable name) point is = absurd is
counts_point model decisions (Value value) point is = absurd is

module _ (model : Model) (decisions : List Decision) (context : Context) (kind : Kind) (one other : Term) (old new : List NamedEdge)
    (result : Result (Unit {0}) AllocError) where
  -- what a constraint on two terms says, by arguments that are points
  says_points : (from to : Point) → IsTermPoint model decisions context one from → IsTermPoint model decisions context other to
      → (claim : Claim) × (f t : Point) × SaysOfPoints model decisions context (Constraint kind (one ∷ other ∷ [])) claim f t
      × (comparing_edges kind from to ≡ comparing_edges kind f t)
  says_points from to first second = (
    record { kind = kind; arguments = first.0 ∷ second.0 ∷ [] },
    from,
    to,
    (
      record {
        is_kind = refl;
        means = (first.1, (second.1, tt));
        counts = All-cons (ArgumentCounts model (IsTaken decisions)) first.0 (second.0 ∷ [])
            (counts_point model decisions first.0 from first.2)
            (All-cons (ArgumentCounts model (IsTaken decisions)) second.0 [] (counts_point model decisions second.0 to second.2) (All-nil (ArgumentCounts model (IsTaken decisions))));
      },
      (first.0, second.0, refl, first.2, second.2),
    ),
    refl,
  )

  no_points : ((from to : Point) → IsTermPoint model decisions context one from → IsTermPoint model decisions context other to → ⊥)
      → new ≡ old → AddsEdges (HasConstraintEdges model decisions context (Constraint kind (one ∷ other ∷ []))) old new
  no_points none same = (
    [],
    inr (
      (λ claim from to says.
          let compares = says.1 in
          let means = subst (λ l. AllZip (Means context) (one ∷ other ∷ []) l) compares.2 says.0.means in
          none from to (compares.0, means.0, compares.3) (compares.1, means.1.0, compares.4)),
      refl,
    ),
    same ∙ sym (append-nil old),
  )

  -- the edges of a constraint on two terms, by what these are found to be
  pub constraint_told : (from to : Option Point)
      → MatchOption from ((point : Point) → IsTermPoint model decisions context one point → ⊥) (IsTermPoint model decisions context one)
      → MatchOption to ((point : Point) → IsTermPoint model decisions context other point → ⊥) (IsTermPoint model decisions context other)
      → ((f t : Point) → from ≡ Some f → to ≡ Some t → OnOk result (new ≡ old ++ comparing_edges kind f t))
      → ((from ≡ None) ⊎ (to ≡ None) → OnOk result (new ≡ old))
      → OnOk result (AddsEdges (HasConstraintEdges model decisions context (Constraint kind (one ∷ other ∷ []))) old new)
  constraint_told (Some f) (Some t) first second both not_both =
      on_ok_weaker result (λ is. let says = says_points f t first second in
      (comparing_edges kind f t, inl (says.0, says.1, says.2, says.3, says.4), is)) (both f t refl refl)
  constraint_told None to first second both not_both = on_ok_weaker result (no_points (λ f t is_one is_other. first f is_one)) (not_both (inl refl))
  constraint_told (Some f) None first second both not_both = on_ok_weaker result (no_points (λ g t is_one is_other. second t is_other)) (not_both (inr refl))

-- a list that is held against two has two
two_zipped : {X Y : Type 0} (R : X → Y → Type 0) (xs : List X) (a b : Y) → AllZip R xs (a ∷ b ∷ []) → length xs ≡ 2
two_zipped R [] a b zipped = absurd zipped
two_zipped R (x ∷ []) a b zipped = absurd zipped.1
two_zipped R (x ∷ y ∷ []) a b zipped = refl
two_zipped R (x ∷ y ∷ z ∷ xs) a b zipped = absurd zipped.1.1

-- a constraint on any other number of terms compares no points
pub not_two : (model : Model) (decisions : List Decision) (context : Context) (kind : Kind) (terms : List Term) (old : List NamedEdge)
    → (length terms ≡ 2 → ⊥) → AddsEdges (HasConstraintEdges model decisions context (Constraint kind terms)) old old
not_two model decisions context kind terms old differs = (
  [],
  inr (
    (λ claim from to says.
        differs (two_zipped (Means context) terms says.1.0 says.1.1 (subst (λ l. AllZip (Means context) terms l) says.1.2 says.0.means))),
    refl,
  ),
  sym (append-nil old),
)

-- two items in a list of two
pub pair_of : {X : Type 0} (xs : List X) (d e : X) → length xs ≡ 2 → get_or xs 0 d ∷ get_or xs 1 e ∷ [] ≡ xs
pair_of [] d e is = absurd (let n : 0 ≡ 2 = is in omega (arith, n))
pair_of (x ∷ []) d e is = absurd (let n : 1 ≡ 2 = is in omega (arith, n))
pair_of (x ∷ y ∷ []) d e is = refl
pair_of (x ∷ y ∷ z ∷ xs) d e is = absurd (let n : suc (suc (suc (length xs))) ≡ 2 = is in omega (arith, n))

-- what is told of something
pub some_told : {X : Type 0} (found : Option X) (N : Type 0) (S : X → Type 0) (x : X) → found ≡ Some x → MatchOption found N S → S x
some_told found N S x is told = subst (λ f. MatchOption f N S) is told

-- Edges that are put behind others, one thing after another.
use Rattle.std.proofs.Common.{◌≡◌, ℕ, ◌+◌, ◌<◌, ◌≤◌, List, [], ◌∷◌, ◌++◌, length, map, take, get_or, Some, refl, sym, ◌∙◌, ap, subst}
use Rattle.std.specs.Prelude.{slice_get}
use Rattle.std.proofs.lemmas.List.{append_assoc, append-nil, take_all, take_more}
use Rattle.std.proofs.lemmas.Option.{get_or_from_slice_get}
use Rattle.model_core.proofs.Items.{item_at}
use Rattle.eu_name.proofs.Members.{get_below}
use Rattle.plan_values.proofs.Matching.{read_item}
use Rattle.db_edges.specs.declared.edge.NamedEdge.{NamedEdge}
use Rattle.db_edges.specs.Adding.{AddsEdges}
use Rattle.db_edges.specs.Edges.{AppendsEach}

-- the next item of a list stands behind those before it
pub take_next : {X : Type 0} (xs : List X) (place : ℕ) (x : X) → slice_get xs place ≡ Some x → take (place + 1) xs ≡ take place xs ++ x ∷ []
take_next xs place x at =
    take_more xs place x (get_below xs place x at) ∙ ap (λ y. take place xs ++ y ∷ []) (get_or_from_slice_get xs place x x at)

-- one thing more
pub appends_behind : {X Y : Type 0} (Has : X → List Y → Type 0) (xs : List X) (x : X) (done more : List Y)
    → AppendsEach Has xs done → Has x more → AppendsEach Has (xs ++ x ∷ []) (done ++ more)
appends_behind Has [] x done more none has = (more, [], has, refl, ap (λ d. d ++ more) none ∙ sym (append-nil more))
appends_behind Has (y ∷ xs) x done more found has = (
  found.0,
  found.1 ++ more,
  found.2,
  appends_behind Has xs x found.1 more found.3 has,
  ap (λ d. d ++ more) found.4 ∙ append_assoc found.0 found.1 more,
)

-- nothing is added
pub adds_none : (Are : List NamedEdge → Type 0) (old : List NamedEdge) → Are [] → AddsEdges Are old old
adds_none Are old are = ([], are, sym (append-nil old))

-- these are added
pub adds_these : (Are : List NamedEdge → Type 0) (old new more : List NamedEdge) → Are more → new ≡ old ++ more → AddsEdges Are old new
adds_these Are old new more are is = (more, are, is)

-- what is added is otherwise called
pub adds_so : (One Other : List NamedEdge → Type 0) (old new : List NamedEdge) → ((more : List NamedEdge) → One more → Other more)
    → AddsEdges One old new → AddsEdges Other old new
adds_so One Other old new so adds = (adds.0, so adds.0 adds.1, adds.2)

-- first some are added, and then others
pub adds_both : (One Other Both : List NamedEdge → Type 0) (old middle new : List NamedEdge)
    → ((one other : List NamedEdge) → One one → Other other → Both (one ++ other))
    → AddsEdges One old middle → AddsEdges Other middle new → AddsEdges Both old new
adds_both One Other Both old middle new joined first second = (
  first.0 ++ second.0,
  joined first.0 second.0 first.1 second.1,
  second.2 ∙ ap (λ m. m ++ second.0) first.2 ∙ append_assoc old first.0 second.0,
)

module _ {X : Type 0} (Has : X → List NamedEdge → Type 0) (xs : List X) (old : List NamedEdge) where
  -- before the first
  pub appends_none : AddsEdges (AppendsEach Has (take 0 xs)) old old
  appends_none = adds_none (AppendsEach Has (take 0 xs)) old refl

  -- the next one
  pub appends_next : (middle new : List NamedEdge) (place : ℕ) (x : X) → slice_get xs place ≡ Some x
      → AddsEdges (AppendsEach Has (take place xs)) old middle → AddsEdges (Has x) middle new
      → AddsEdges (AppendsEach Has (take (place + 1) xs)) old new
  appends_next middle new place x at before step =
      subst (λ (done : List X). AddsEdges (AppendsEach Has done) old new) (sym (take_next xs place x at))
      (adds_both (AppendsEach Has (take place xs)) (Has x) (AppendsEach Has (take place xs ++ x ∷ [])) old middle new
      (λ one other are is. appends_behind Has (take place xs) x one other are is) before step)

  -- the one that was read
  pub appends_read : (middle new : List NamedEdge) (place : ℕ) (x : X) → place < length xs → x ≡ get_or xs place x
      → AddsEdges (AppendsEach Has (take place xs)) old middle → AddsEdges (Has x) middle new
      → AddsEdges (AppendsEach Has (take (place + 1) xs)) old new
  appends_read middle new place x within is = appends_next middle new place x (read_item xs place x within is)

  -- the one at the place
  pub appends_at : (middle new : List NamedEdge) (place : ℕ) (x : X) → place < length xs
      → AddsEdges (AppendsEach Has (take place xs)) old middle → AddsEdges (Has (get_or xs place x)) middle new
      → AddsEdges (AppendsEach Has (take (place + 1) xs)) old new
  appends_at middle new place x within = appends_next middle new place (get_or xs place x) (item_at xs place x within)

  -- behind the last
  pub appends_all : (new : List NamedEdge) (place : ℕ) → length xs ≤ place
      → AddsEdges (AppendsEach Has (take place xs)) old new → AddsEdges (AppendsEach Has xs) old new
  appends_all new place past adds = subst (λ (done : List X). AddsEdges (AppendsEach Has done) old new) (take_all place xs past) adds

-- what is added for each, and what for what each becomes
pub appends_mapped : {X Z Y : Type 0} (Has : Z → List Y → Type 0) (f : X → Z) (xs : List X) (found : List Y)
    → AppendsEach (λ x. Has (f x)) xs found → AppendsEach Has (map f xs) found
appends_mapped Has f [] found none = none
appends_mapped Has f (x ∷ xs) found are = (are.0, are.1, are.2, appends_mapped Has f xs are.1 are.3, are.4)

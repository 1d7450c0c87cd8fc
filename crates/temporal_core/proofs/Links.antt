-- The links of a graph.
use Rattle.std.proofs.Common.{◌≡◌, ◌≢◌, ℕ, ◌+◌, ◌<◌, ◌≤◌, ⊎_elim, List, [], ◌∷◌, ◌++◌, length, get_or, set, Option, Some, None, sym, ap, ◌∙◌, subst, arith}
use Rattle.std.specs.Prelude.{slice_get}
use Rattle.std.proofs.lemmas.List.{length-append, length-set, get_or-set_same, get_or-set_other, get_or_append_left, get_or_at}
use Rattle.std.proofs.lemmas.Option.{slice_get-get_or, get_or_from_slice_get}
use Rattle.std.proofs.lemmas.List.Elements.{All-push, All-set}
use Rattle.std.proofs.lemmas.Bool.{cases_eq, cases_lt}
use Rattle.temporal_core.specs.declared.edges.Edge.{Edge}
use Rattle.temporal_core.specs.declared.graph.Graph.{Graph}
use Rattle.temporal_core.specs.Network.{IsEdge}
use Rattle.temporal_core.specs.Satisfied.{IsGraph, IsLastFrom}
use Rattle.eu_name.proofs.Members.{get_below, get_same}
use Rattle.temporal_core.proofs.Members.{get_before_push, get_push}

-- a further edge changes nothing before it
IsLastFrom-push : (edges : List Edge) (edge : Edge) (point limit : ℕ) (link : Option ℕ) → limit ≤ length edges → IsLastFrom edges point limit link → IsLastFrom (edges ++ edge ∷ []) point limit link
IsLastFrom-push edges edge point limit None within last = λ place other below at. last place other below (sym (get_before_push edges edge place (omega arith)) ∙ at)
IsLastFrom-push edges edge point limit (Some link) within last = (
  last.0,
  λ other at. last.1 other (sym (get_before_push edges edge link (omega (arith, last.0))) ∙ at),
  λ place other after below at. last.2 place other after below (sym (get_before_push edges edge place (omega arith)) ∙ at),
)

-- nor does an edge from elsewhere
IsLastFrom-more : (edges : List Edge) (point limit : ℕ) (link : Option ℕ) → ((edge : Edge) → slice_get edges limit ≡ Some edge → edge.from ≢ point) → IsLastFrom edges point limit link → IsLastFrom edges point (limit + 1) link
IsLastFrom-more edges point limit None elsewhere last = λ place other below at.
    ⊎_elim (λ same. elsewhere other (subst (λ k. slice_get edges k ≡ Some other) same at)) (λ apart. last place other (omega arith) at) (cases_eq place limit)
IsLastFrom-more edges point limit (Some link) elsewhere last = (
  omega (arith, last.0),
  last.1,
  λ place other after below at.
      ⊎_elim (λ same. elsewhere other (subst (λ k. slice_get edges k ≡ Some other) same at)) (λ apart. last.2 place other after (omega arith) at) (cases_eq place limit),
)

-- an edge from the point is the last one
IsLastFrom-here : (edges : List Edge) (edge : Edge) → IsLastFrom (edges ++ edge ∷ []) edge.from (length edges + 1) (Some (length edges))
IsLastFrom-here edges edge = (
  omega arith,
  λ other at. ap (λ (e : Edge). e.from) (get_same (edges ++ edge ∷ []) (length edges) other edge at (get_push edges edge)),
  λ place other after below at. absurd (omega arith),
)

pub linked : (points : ℕ) (edges : List Edge) (edge : Edge) (old new : Graph) → IsEdge points edge → IsGraph points edges old
    → new.edges.items ≡ old.edges.items ++ edge ∷ [] → new.earlier.items ≡ old.earlier.items ++ get_or old.latest.items edge.from None ∷ []
    → new.latest.items ≡ set old.latest.items edge.from (Some (length edges)) → IsGraph points (edges ++ edge ∷ []) new
linked points edges edge old new joins graph list earlier latest = record {
  list = list ∙ ap (λ es. es ++ edge ∷ []) graph.list;
  each = All-push (IsEdge points) edges edge graph.each joins;
  count = ap length earlier ∙ length-append old.earlier.items (get_or old.latest.items edge.from None ∷ []) ∙ ap (λ n. n + 1) graph.count ∙ sym (length-append edges (edge ∷ []));
  points_count = ap length latest ∙ length-set old.latest.items edge.from (Some (length edges)) ∙ graph.points_count;
  latest = λ point within.
      let count : length edges + 1 ≡ length (edges ++ edge ∷ []) = sym (length-append edges (edge ∷ [])) in
      ⊎_elim
      (λ same.
      let at : get_or new.latest.items point None ≡ Some (length edges) =
      ap (λ items. get_or items point None) latest ∙ ap (λ p. get_or (set old.latest.items edge.from (Some (length edges))) p None) same ∙ get_or-set_same old.latest.items edge.from (Some (length edges)) None (omega (arith, graph.points_count, joins.from)) in
      subst (λ link. IsLastFrom (edges ++ edge ∷ []) point (length (edges ++ edge ∷ [])) link) (sym at)
      (subst (λ limit. IsLastFrom (edges ++ edge ∷ []) point limit (Some (length edges))) count
      (subst (λ p. IsLastFrom (edges ++ edge ∷ []) p (length edges + 1) (Some (length edges))) (sym same) (IsLastFrom-here edges edge))))
      (λ apart.
      let at : get_or new.latest.items point None ≡ get_or old.latest.items point None =
      ap (λ items. get_or items point None) latest ∙ get_or-set_other old.latest.items edge.from point (Some (length edges)) None apart in
      subst (λ link. IsLastFrom (edges ++ edge ∷ []) point (length (edges ++ edge ∷ [])) link) (sym at)
      (subst (λ limit. IsLastFrom (edges ++ edge ∷ []) point limit (get_or old.latest.items point None)) count
      (IsLastFrom-more (edges ++ edge ∷ []) point (length edges) (get_or old.latest.items point None)
      (λ other there from_here. apart (sym (sym (ap (λ (e : Edge). e.from) (get_same (edges ++ edge ∷ []) (length edges) other edge there (get_push edges edge))) ∙ from_here)))
      (IsLastFrom-push edges edge point (length edges) (get_or old.latest.items point None) (omega arith) (graph.latest point within)))))
      (cases_eq point edge.from);
  earlier = λ place other at.
      ⊎_elim
      (λ before.
      let here : get_or new.earlier.items place None ≡ get_or old.earlier.items place None =
      ap (λ items. get_or items place None) earlier ∙ get_or_append_left old.earlier.items (get_or old.latest.items edge.from None ∷ []) None place (omega (arith, graph.count)) in
      subst (λ link. IsLastFrom (edges ++ edge ∷ []) other.from place link) (sym here)
      (IsLastFrom-push edges edge other.from place (get_or old.earlier.items place None) (omega arith)
      (graph.earlier place other (sym (get_before_push edges edge place before) ∙ at))))
      (λ past.
      let place_is : place ≡ length edges = let below = get_below (edges ++ edge ∷ []) place other at in omega (arith, length-append edges (edge ∷ [])) in
      let other_is : other ≡ edge = get_same (edges ++ edge ∷ []) (length edges) other edge (subst (λ k. slice_get (edges ++ edge ∷ []) k ≡ Some other) place_is at) (get_push edges edge) in
      let here : get_or new.earlier.items place None ≡ get_or old.latest.items edge.from None =
      ap (λ items. get_or items place None) earlier ∙ get_or_at old.earlier.items (get_or old.latest.items edge.from None) [] None place (graph.count ∙ sym place_is) in
      subst (λ link. IsLastFrom (edges ++ edge ∷ []) other.from place link) (sym here)
      (subst (λ k. IsLastFrom (edges ++ edge ∷ []) other.from k (get_or old.latest.items edge.from None)) (sym place_is)
      (subst (λ (e : Edge). IsLastFrom (edges ++ edge ∷ []) e.from (length edges) (get_or old.latest.items edge.from None)) (sym other_is)
      (IsLastFrom-push edges edge edge.from (length edges) (get_or old.latest.items edge.from None) (omega arith) (graph.latest edge.from joins.from)))))
      (cases_lt place (length edges));
}

module _ (edges : List Edge) (place : ℕ) (edge d : Edge) (within : place < length edges) (same : edge.from ≡ (get_or edges place d).from) where
  -- after an edge is replaced, each edge begins at the point where the one in its place began
  began : (k : ℕ) (other : Edge) → slice_get (set edges place edge) k ≡ Some other → (was : Edge) × (slice_get edges k ≡ Some was) × (was.from ≡ other.from)
  began k other at =
      let below = get_below (set edges place edge) k other at in
      let inside : k < length edges = omega (arith, length-set edges place edge) in
      let here : get_or (set edges place edge) k d ≡ other = get_or_from_slice_get (set edges place edge) k other d at in (
        get_or edges k d,
        slice_get-get_or edges k d inside,
        ⊎_elim
            (λ is. ap (λ n. (get_or edges n d).from) is ∙ sym same ∙ ap (λ (e : Edge). e.from) (sym (get_or-set_same edges place edge d within) ∙ ap (λ n. get_or (set edges place edge) n d) (sym is) ∙ here))
            (λ apart. ap (λ (e : Edge). e.from) (sym (get_or-set_other edges place k edge d apart) ∙ here))
            (cases_eq k place),
      )

  last_replaced : (point limit : ℕ) (link : Option ℕ) → IsLastFrom edges point limit link → IsLastFrom (set edges place edge) point limit link
  last_replaced point limit None last = λ k other below at from. let was = began k other at in last k was.0 below was.1 (was.2 ∙ from)
  last_replaced point limit (Some link) last = (
    last.0,
    λ other at. let was = began link other at in sym was.2 ∙ last.1 was.0 was.1,
    λ k other after below at from. let was = began k other at in last.2 k was.0 after below was.1 (was.2 ∙ from),
  )

  pub replaced : (points : ℕ) (old new : Graph) → IsEdge points edge → IsGraph points edges old
      → new.edges.items ≡ set edges place edge → new.earlier.items ≡ old.earlier.items → new.latest.items ≡ old.latest.items → IsGraph points (set edges place edge) new
  replaced points old new joins graph list earlier latest = record {
    list = list;
    each = All-set (IsEdge points) edges place edge joins graph.each;
    count = ap length earlier ∙ graph.count ∙ sym (length-set edges place edge);
    points_count = ap length latest ∙ graph.points_count;
    latest = λ point inside.
        subst (λ items. IsLastFrom (set edges place edge) point (length (set edges place edge)) (get_or items point None)) (sym latest)
        (subst (λ n. IsLastFrom (set edges place edge) point n (get_or old.latest.items point None)) (sym (length-set edges place edge))
        (last_replaced point (length edges) (get_or old.latest.items point None) (graph.latest point inside)));
    earlier = λ k other at.
        let was = began k other at in
        subst (λ items. IsLastFrom (set edges place edge) other.from k (get_or items k None)) (sym earlier)
        (subst (λ point. IsLastFrom (set edges place edge) point k (get_or old.earlier.items k None)) was.2
        (last_replaced was.0.from k (get_or old.earlier.items k None) (graph.earlier k was.0 was.1)));
  }

-- Values that are kept, and how long tokens last.
use Rattle.std.proofs.Common.{◌≡◌, ℕ, inl, inr, ℤ, pos, ◌-ℤ◌, List, [], ◌∷◌, ◌++◌, sym, ◌∙◌, ap, subst, arith, w32, to_z, of_z}
use Rattle.std.proofs.lemmas.Int.{ints}
use Rattle.std.proofs.lemmas.Option.{same_Some}
use Rattle.domain_core.specs.Domain.{Domain, IsValue, least, greatest}
use Rattle.eu_name.specs.declared.name.Part.TheVariants.{Duration}
use Rattle.eu_name.specs.declared.name.TokenName.{TokenName}
use Rattle.eu_name.specs.declared.name.VarName.TheVariants.{Token}
use Rattle.model_core.specs.declared.decision.Decision.{Decision}
use Rattle.model_core.specs.declared.decision.Decision.TheVariants.{Specify}
use Rattle.model_core.specs.State.{State, Gives}
use Rattle.model_core.specs.Views.{IsTokenAt}
use Rattle.eu_name.proofs.Members.{contains_from_get}
use Rattle.model_core.specs.declared.model.Problem.{Problem}
use Rattle.model_core.specs.Lawful.{IsHorizon}
use Rattle.std.proofs.lemmas.List.{append_assoc}
use Rattle.db_edges.specs.declared.edge.NamedEdge.{NamedEdge}
use Rattle.db_edges.specs.declared.edge.Point.TheVariants.{Origin, Start, End}
use Rattle.db_edges.specs.Adding.{AreValues}
use Rattle.db_edges.specs.Edges.{IsLastOf, LastsBetween, edge_from, lasting_edges}

-- a value that is kept is that value
pub kept_value : (value : ℤ) → IsValue value → to_z w32 (of_z w32 value) ≡ value
kept_value value is = let low = is.0 in let high = is.1 in omega (arith, ints, low, high)

-- what the last decision gives is a value
pub last_is_value : (decisions : List Decision) (token : TokenName) (value : ℤ)
    → AreValues decisions → IsLastOf decisions (Specify (Token token Duration) value) → IsValue value
last_is_value decisions token value are last = are (Token token Duration) value (contains_from_get decisions _ (Specify (Token token Duration) value) last)

module _ (state : State) (decisions : List Decision) (token : TokenName) (low high : ℤ) where
  pub lasts_as_said : (value : ℤ) → IsLastOf decisions (Specify (Token token Duration) value) → low ≡ value → high ≡ value
      → LastsBetween state decisions token low high
  lasts_as_said value last low_is high_is =
      inl (subst (λ v. IsLastOf decisions (Specify (Token token Duration) v)) (sym low_is) last, high_is ∙ sym low_is)

  pub lasts_as_left : (place : ℕ) (other : TokenName) (domain : Domain)
      → ((value : ℤ) → IsLastOf decisions (Specify (Token token Duration) value) → ⊥)
      → IsTokenAt state place token → IsTokenAt state place other → Gives state (Token other Duration) domain
      → low ≡ least domain → high ≡ greatest domain → LastsBetween state decisions token low high
  lasts_as_left place other domain none here there gives low_is high_is =
      let same : other ≡ token = same_Some other token (sym there ∙ here) in
      inr (none, (domain, subst (λ t. Gives state (Token t Duration) domain) same gives, low_is, high_is))

-- four edges one after another
four : (old a b c new : List NamedEdge) (first second third fourth : NamedEdge)
    → a ≡ old ++ first ∷ [] → b ≡ a ++ second ∷ [] → c ≡ b ++ third ∷ [] → new ≡ c ++ fourth ∷ []
    → new ≡ old ++ first ∷ second ∷ third ∷ fourth ∷ []
four old a b c new first second third fourth is_a is_b is_c is =
    let two : b ≡ old ++ first ∷ second ∷ [] = is_b ∙ ap (λ l. l ++ second ∷ []) is_a ∙ append_assoc old (first ∷ []) (second ∷ []) in
    let three : c ≡ old ++ first ∷ second ∷ third ∷ [] = is_c ∙ ap (λ l. l ++ third ∷ []) two ∙ append_assoc old (first ∷ second ∷ []) (third ∷ []) in
    is ∙ ap (λ l. l ++ fourth ∷ []) three ∙ append_assoc old (first ∷ second ∷ third ∷ []) (fourth ∷ [])

-- the edges of a token by itself, over copies of its name and of the numbers
pub pushed_lasting : (problem : Problem) (token : TokenName) (low high : ℤ) (old a b c new : List NamedEdge) (first last shortest longest : ℤ) (t u v w x y : TokenName)
    → a ≡ old ++ edge_from Origin first (Start t) ∷ [] → b ≡ a ++ edge_from (End u) last Origin ∷ []
    → c ≡ b ++ edge_from (Start v) shortest (End w) ∷ [] → new ≡ c ++ edge_from (End x) longest (Start y) ∷ []
    → first ≡ problem.start → last ≡ pos 0 -ℤ problem.end → shortest ≡ low → longest ≡ pos 0 -ℤ high
    → t ≡ token → u ≡ token → v ≡ token → w ≡ token → x ≡ token → y ≡ token
    → new ≡ old ++ lasting_edges problem token low high
pushed_lasting problem token low high old a b c new first last shortest longest t u v w x y is_a is_b is_c is ff ll ss oo tt uu vv ww xx yy =
    four old a b c new (edge_from Origin first (Start t)) (edge_from (End u) last Origin) (edge_from (Start v) shortest (End w)) (edge_from (End x) longest (Start y)) is_a is_b is_c is
    ∙ (λ i. old ++ edge_from Origin (ff i) (Start (tt i)) ∷ edge_from (End (uu i)) (ll i) Origin ∷ edge_from (Start (vv i)) (ss i) (End (ww i)) ∷ edge_from (End (xx i)) (oo i) (Start (yy i)) ∷ [])

-- the horizon begins and ends at values
pub horizon_is : (problem : Problem) → IsHorizon problem → IsValue problem.start × IsValue problem.end
horizon_is problem is =
    let low = is.start in let order = is.order in let above = is.end.0 in let below = is.end.1 in
    (((omega (arith, ints, low)), (omega (arith, ints, order, below))), is.end)

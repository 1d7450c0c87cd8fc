-- Classes in line: those that lead up to one that extends none, and what a class that isn't rooted does.
use Rattle.std.proofs.Common.{◌≡◌, ℕ, zero, suc, ◌<◌, List, [], ◌∷◌, length, map, slice_get, Option, Some, refl, sym, ap, ◌∙◌, subst, arith}
use Rattle.eu_forest.specs.declared.lineage.Rootedness.{Rootedness}
use Rattle.eu_forest.specs.declared.lineage.Rootedness.TheVariants.{Rooted, OnCircle, Leading}
use Rattle.eu_forest.specs.declared.walk.Mark.{Mark}
use Rattle.eu_forest.specs.Lines.{AreParents, StandsUnder, LeadsUp, IsRooted, IsOnCircle, StandsSo, IsLineageOf, rootedness_in}
use Rattle.eu_forest.proofs.Ways.{rooted_off}
use Rattle.eu_name.proofs.Members.{get_below}
use Rattle.model_core.specs.declared.class.Class.{Class}
use Rattle.model_core.specs.declared.model.Model.{Model}
use Rattle.model_core.specs.Kinds.{IsParentClass, Climbs}
use Rattle.model_typing.specs.Ground.{AreClassParents}
use Rattle.model_typing.proofs.Upward.{climbs_leads}
use Rattle.model_lawful.specs.Classes.{AreInLine, parents_of}

get-map : {X Y : Type 0} (f : X → Y) (xs : List X) (k : ℕ) (x : X) → slice_get xs k ≡ Some x → slice_get (map f xs) k ≡ Some (f x)
get-map f [] k x at = cc
get-map f (y ∷ xs) zero x at = let same : y ≡ x = cc in ap (λ z. Some (f z)) same
get-map f (y ∷ xs) (suc k) x at = get-map f xs k x at

map-get : {X Y : Type 0} (f : X → Y) (xs : List X) (k : ℕ) (y : Y) → slice_get (map f xs) k ≡ Some y → (x : X) × (slice_get xs k ≡ Some x) × (f x ≡ y)
map-get f [] k y at = cc
map-get f (x ∷ xs) zero y at = (x, refl, (let same : Some (f x) ≡ Some y = at in cc))
map-get f (x ∷ xs) (suc k) y at = map-get f xs k y at

length-map : {X Y : Type 0} (f : X → Y) (xs : List X) → length (map f xs) ≡ length xs
length-map f [] = refl
length-map f (x ∷ xs) = let e = length-map f xs in omega (arith, e)

module _ (model : Model) where
  pub count_same : length (parents_of model) ≡ length model.classes
  count_same = length-map (λ (c : Class). c.parent) model.classes

  -- a class stands under the one that it extends
  pub extends_under : (class parent : ℕ) → IsParentClass model class parent → StandsUnder (parents_of model) class parent
  extends_under class parent (found, at, is) =
      get-map (λ (c : Class). c.parent) model.classes class found at ∙ ap (λ (p : Option ℕ). Some p) is

  pub under_extends : (class parent : ℕ) → StandsUnder (parents_of model) class parent → IsParentClass model class parent
  under_extends class parent stands = map-get (λ (c : Class). c.parent) model.classes class (Some parent) stands

  leads_climbs : (class : ℕ) (path : List ℕ) (top : ℕ) → LeadsUp (parents_of model) class path top → Climbs model class path top
  leads_climbs class [] top up = up
  leads_climbs class (parent ∷ path) top up = (under_extends class parent up.0, leads_climbs parent path top up.1)

  -- ---- what isn't rooted

  circle_not_in_line : (number : ℕ) → IsOnCircle (parents_of model) number → AreInLine model → ⊥
  circle_not_in_line number circle line =
      line.no_circle number circle.parent circle.under (circle.path, leads_climbs circle.parent circle.path number circle.back)

  pub rooted_in_line : (parents : List (Option ℕ)) (marked : List Mark) (order : List ℕ) → parents ≡ parents_of model → IsLineageOf parents marked order → AreInLine model
      → (number : ℕ) → number < length parents → rootedness_in marked number ≡ Some Rooted
  rooted_in_line parents marked order same are line number below =
      let at = are.rootedness number below in by at.0 at.1 at.2
    where
      by : (rootedness : Rootedness) → rootedness_in marked number ≡ Some rootedness → StandsSo parents number rootedness → rootedness_in marked number ≡ Some Rooted
      by Rooted is stands = is
      by OnCircle is stands = absurd (circle_not_in_line number (subst (λ (l : List (Option ℕ)). IsOnCircle l number) same stands) line)
      by Leading is stands = absurd (circle_not_in_line stands.other (subst (λ (l : List (Option ℕ)). IsOnCircle l stands.other) same stands.circle) line)

  -- ---- classes that all lead up to one that extends none

  parents_are : ((number : ℕ) → number < length (parents_of model) → IsRooted (parents_of model) number) → AreClassParents model (parents_of model)
  parents_are rooted = record {
    same = λ class parent. (extends_under class parent, under_extends class parent);
    rooted = λ class parent extends. rooted class (get_below (parents_of model) class (Some parent) (extends_under class parent extends));
  }

  in_line : AreParents (parents_of model) → AreClassParents model (parents_of model) → AreInLine model
  in_line there are = record {
    there = there;
    no_circle = λ number parent stands under. (
        let up = are.rooted number parent (under_extends number parent stands) in
        let back = climbs_leads model (parents_of model) are parent under.0 number under.1 in
        rooted_off (parents_of model) number up.path up.root up.leads up.ends (record { parent = parent; path = under.0; under = stands; back = back }));
  }

  all_rooted : (parents : List (Option ℕ)) (marked : List Mark) (order : List ℕ) → IsLineageOf parents marked order
      → ((number : ℕ) → number < length parents → rootedness_in marked number ≡ Some Rooted) → (number : ℕ) → number < length parents → IsRooted parents number
  all_rooted parents marked order are rooted number below =
      let at = are.rootedness number below in
      let same : at.0 ≡ Rooted = some_same at.0 Rooted (sym at.1 ∙ rooted number below) in
      subst (λ (s : Rootedness). StandsSo parents number s) same at.2
    where
      some_same : (one other : Rootedness) → Some one ≡ Some other → one ≡ other
      some_same one other same = cc

  pub parents_there : (parents : List (Option ℕ)) (marked : List Mark) (order : List ℕ) → parents ≡ parents_of model → AreParents parents → IsLineageOf parents marked order
      → ((number : ℕ) → number < length parents → rootedness_in marked number ≡ Some Rooted) → AreInLine model × AreClassParents model parents
  parents_there parents marked order same there are rooted =
      let P : List (Option ℕ) → Type 0 = λ l. (number : ℕ) → number < length l → IsRooted l number in
      let own = parents_are (subst P same (all_rooted parents marked order are rooted)) in
      (in_line (subst AreParents same there) own, subst (AreClassParents model) (sym same) own)

-- Classes under others, by what all of them extend.
use Rattle.std.proofs.Common.{◌≡◌, ℕ, ◌<◌, Bool, List, [], ◌∷◌, Option, Some, None, length, ◌↔◌, IsTrue, sym, ◌∙◌, ap, subst, arith}
use Rattle.std.specs.Prelude.{slice_get}
use Rattle.eu_forest.specs.Ancestors.{ancestry}
use Rattle.eu_forest.specs.Lines.{IsRooted, LeadsUp, StandsUnder}
use Rattle.eu_forest.specs.Shortcuts.{TellsLine}
use Rattle.eu_forest.proofs.Chains.{one_parent}
use Rattle.eu_forest.proofs.Jumping.{line_tells}
use Rattle.eu_forest.proofs.Ways.{ancestry_is}
use Rattle.model_core.specs.declared.model.Model.{Model}
use Rattle.model_core.specs.Kinds.{IsParentClass, Climbs, IsUnder}
use Rattle.model_typing.specs.Ground.{AreClassParents}

module _ (model : Model) (parents : List (Option ℕ)) (are : AreClassParents model parents) where
  pub climbs_leads : (class : ℕ) (path : List ℕ) (top : ℕ) → Climbs model class path top → LeadsUp parents class path top
  climbs_leads class [] top same = same
  climbs_leads class (parent ∷ path) top (step, climbs) = ((are.same class parent).0 step, climbs_leads parent path top climbs)

  leads_climbs : (class : ℕ) (path : List ℕ) (top : ℕ) → LeadsUp parents class path top → Climbs model class path top
  leads_climbs class [] top same = same
  leads_climbs class (parent ∷ path) top (step, leads) = ((are.same class parent).1 step, leads_climbs parent path top leads)

  -- what is told of the line of a class says which classes it is under
  pub under_told : (class ancestor : ℕ) (on : Bool) → TellsLine parents class ancestor on → IsTrue on ↔ IsUnder model class ancestor
  under_told class ancestor on (ends, is) =
      let line = line_tells parents ancestor class ends.0 ends.1 in (
        (λ yes. let up = line.0 (sym is ∙ yes) in (up.0, leads_climbs class up.0 ancestor up.1)),
        (λ under. is ∙ line.1 (under.0, climbs_leads class under.0 ancestor under.1)),
      )

  -- a class leads up to fewer than one that extends it
  pub fewer_above : (class parent : ℕ) → IsParentClass model class parent → length (ancestry parents parent) < length (ancestry parents class)
  fewer_above class parent extends = by rooted.path rooted.leads
    where
      rooted : IsRooted parents class
      rooted = are.rooted class parent extends

      stands : StandsUnder parents class parent
      stands = (are.same class parent).0 extends

      by : (path : List ℕ) → LeadsUp parents class path rooted.root → length (ancestry parents parent) < length (ancestry parents class)
      by [] same =
          absurd (let P : ℕ → Type 0 = λ n. slice_get parents n ≡ Some None in
          let none : slice_get parents class ≡ Some None = subst P same rooted.ends in
          let e : ◌≡◌ {A = Option (Option ℕ)} (Some None) (Some (Some parent)) = sym none ∙ stands in cc)
      by (next ∷ path) leads =
          let P : ℕ → Type 0 = λ n. LeadsUp parents n path rooted.root in
          let up = subst P (one_parent parents class next parent leads.0 stands) leads.1 in
          let long = ap length (ancestry_is parents class (next ∷ path) rooted.root leads rooted.ends) in
          let short = ap length (ancestry_is parents parent path rooted.root up rooted.ends) in
          omega (arith, long, short)

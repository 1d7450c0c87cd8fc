-- Lines of what is found.
use Rattle.std.proofs.Common.{◌≡◌, ℕ, List, Some, sym, subst}
use Rattle.std.specs.Prelude.{slice_get, Vec}
use Rattle.std.specs.declared.alloc.Global.{Global}
use Rattle.eu_name.proofs.Members.{get_same}
use Rattle.eu_name.specs.declared.name.Part.TheVariants as parts
use Rattle.model_core.specs.declared.model.Model.{Model}
use Rattle.model_core.specs.declared.rule.Rule.{Rule}
use Rattle.model_core.specs.declared.item.Term.{Term}
use Rattle.model_core.specs.declared.item.Term.TheVariants as terms
use Rattle.model_core.specs.declared.variable.ValueKind.TheVariants as kinds
use Rattle.model_core.specs.declared.variable.VarDecl.{VarDecl}
use Rattle.model_core.specs.Kinds.{AreObjectsOf, IsOfKind, OfProblem, OfRule, Scope, IsInner}
use Rattle.model_core.specs.Variables.{HasParameter, IsGlobal}
use Rattle.model_typing.specs.declared.line.Line.{Line}
use Rattle.model_typing.specs.declared.line.Line.TheVariants as lines
use Rattle.model_typing.specs.Lines.{AreLinesOf, ArePredLines, IsLine, line_in, lines_in}
use Rattle.model_typing.specs.Terms.{IsPartLine, IsTermLine}
use Rattle.model_typing.proofs.Under.{param_once}

-- the line of the one thing that is so is that of whatever is so
pub line_found : {A : Type 0} (model : Model) (line : Line) (Is : A → Type 0) (P : ℕ → A → Type 0) (one : A) → Is one → ((other : A) → Is other → other ≡ one)
    → IsLine model line (λ class. P class one) → IsLine model line (λ class. (a : A) × Is a × P class a)
line_found model line Is P one is only of class =
    (λ all. (of class).0 (subst (P class) (only all.0 all.1) all.2), λ on. (one, is, (of class).1 on))

pub line_none : {A : Type 0} (model : Model) (Is : A → Type 0) (P : ℕ → A → Type 0) → ((a : A) → Is a → ⊥)
    → IsLine model lines.Nothing (λ class. (a : A) × Is a × P class a)
line_none model Is P none class = (λ all. none all.0 all.1, λ on. absurd on)

-- in the problem no term names something of a rule
pub nowhere_inner : (model : Model) (term : Term) → IsInner term → IsOfKind model OfProblem kinds.Object term → ⊥
nowhere_inner model (terms.Here part) inner kind = kind
nowhere_inner model (terms.Slot number part) inner kind = kind
nowhere_inner model (terms.Local number) inner kind = kind
nowhere_inner model (terms.Lit value) inner kind = inner
nowhere_inner model (terms.Global number) inner kind = inner
nowhere_inner model (terms.Root number part) inner kind = inner

module _ (model : Model) (line : Line) where
  pub param_lined : (table : List (Vec Line Global)) → ArePredLines model model.preds table → (pred number : ℕ)
      → line ≡ line_in (lines_in table pred) number → IsPartLine model pred (parts.Param number) line
  unfolding ArePredLines AreLinesOf
  param_lined table are pred number same (variable, has, kind) =
      line_found model line (HasParameter model pred number) (λ class (a : VarDecl). AreObjectsOf model class a.base) variable has
      (λ other at. param_once model pred number other variable at has)
      (subst (λ (l : Line). IsLine model l (λ class. AreObjectsOf model class variable.base)) (sym same) (are pred has.predicate has.is_predicate number variable has.declared (sym kind)))

  pub global_lined : (scope : Scope) (listed : List Line) → AreLinesOf model model.problem.globals listed → (number : ℕ)
      → line ≡ line_in listed number → IsTermLine model scope (terms.Global number) line
  unfolding AreLinesOf
  global_lined scope listed are number same (variable, has, kind) =
      line_found model line (IsGlobal model number) (λ class (a : VarDecl). AreObjectsOf model class a.base) variable has
      (λ other at. get_same model.problem.globals number other variable at has)
      (subst (λ (l : Line). IsLine model l (λ class. AreObjectsOf model class variable.base)) (sym same) (are number variable has (sym kind)))

  pub local_lined : (pred : ℕ) (rule : Rule) (listed : List Line) → AreLinesOf model rule.locals listed → (number : ℕ)
      → line ≡ line_in listed number → IsTermLine model (OfRule pred rule) (terms.Local number) line
  unfolding AreLinesOf
  local_lined pred rule listed are number same (variable, has, kind) =
      line_found model line (λ (v : VarDecl). slice_get rule.locals number ≡ Some v) (λ class (a : VarDecl). AreObjectsOf model class a.base) variable has
      (λ other at. get_same rule.locals number other variable at has)
      (subst (λ (l : Line). IsLine model l (λ class. AreObjectsOf model class variable.base)) (sym same) (are number variable has (sym kind)))

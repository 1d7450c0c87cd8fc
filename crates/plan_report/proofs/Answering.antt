-- Lines that were written.
use Rattle.std.proofs.Common.{◌≡◌, ℕ, List, [], ◌∷◌, ◌++◌, Result, Ok, Err, refl, sym, ◌∙◌, ap, subst, codes, append_assoc}
use Rattle.std.specs.Prelude.{IfOk, OnOk}
use Rattle.std.specs.Fmt.{decimal}
use Rattle.model_core.specs.declared.model.Model.{Model}
use Rattle.plan_text.specs.declared.fault.PlanTextFault.{PlanTextFault}
use Rattle.plan_text.specs.declared.fault.PlanTextFault.TheVariants.{Syntax, Twice, Unknown}
use Rattle.plan_defs.specs.declared.plan.Clause.{Clause}
use Rattle.plan_defs.specs.declared.plan.Place.{Place}
use Rattle.plan_defs.specs.declared.plan.Plan.{Plan}
use Rattle.plan_check.specs.declared.verdict.Verdict.{Verdict}
use Rattle.plan_check.specs.declared.verdict.Verdict.TheVariants.{Valid, Invalid}
use Rattle.plan_report.specs.Naming.{IsPlaceText, AddsSpaced}
use Rattle.plan_report.specs.Verdicts.{clause_word, IsVerdictText, IsFaultLine}

-- a text of the verdict was written behind the old bytes
abbrev pub AddsVerdict : Model → Plan → Verdict → List ℕ → List ℕ → Type 0
AddsVerdict model plan verdict old new = (text : List ℕ) × (IsVerdictText model plan verdict text × (new ≡ old ++ text))

pub invalid_put : {A E : Type 0} (model : Model) (plan : Plan) (clause : Clause) (place : Place) (word old mid new : List ℕ) (r : Result A E) → word ≡ clause_word clause
    → mid ≡ old ++ (codes "invalid " ++ word) → OnOk r (AddsSpaced (IsPlaceText model plan place) mid new) → OnOk r (AddsVerdict model plan (Invalid clause place) old new)
invalid_put model plan clause place word old mid new (Ok x) said first (names, (whole, is)) =
    let begun = first ∙ ap (λ (w : List ℕ). old ++ (codes "invalid " ++ w)) said in (
      codes "invalid " ++ (clause_word clause ++ (codes " " ++ names)),
      (
        (names, (is, refl)),
        whole ∙ (ap (λ (l : List ℕ). l ++ (codes " " ++ names)) begun ∙ simp append_assoc),
      ),
    )
invalid_put model plan clause place word old mid new (Err e) said first put = tt

pub valid_put : {A E : Type 0} (model : Model) (plan : Plan) (verdict : Verdict) (old new : List ℕ) (r : Result A E) → verdict ≡ Valid → OnOk r (new ≡ old ++ codes "valid")
    → OnOk r (AddsVerdict model plan verdict old new)
valid_put model plan verdict old new (Ok x) is put = (codes "valid", (subst (λ (v : Verdict). IsVerdictText model plan v (codes "valid")) (sym is) refl, put))
valid_put model plan verdict old new (Err e) is put = tt

pub verdict_put : {A E : Type 0} (model : Model) (plan : Plan) (verdict other : Verdict) (old new : List ℕ) (r : Result A E) → verdict ≡ other → OnOk r (AddsVerdict model plan other old new)
    → OnOk r (AddsVerdict model plan verdict old new)
verdict_put model plan verdict other old new r is = subst (λ (v : Verdict). OnOk r (AddsVerdict model plan v old new)) (sym is)

pub line_ended : (model : Model) (plan : Plan) (verdict : Verdict) (none mid new line : List ℕ) → none ≡ [] → AddsVerdict model plan verdict none mid → new ≡ mid ++ 10 ∷ [] → line ≡ new
    → (text : List ℕ) × (IsVerdictText model plan verdict text × (line ≡ text ++ codes "\n"))
line_ended model plan verdict none mid new line empty (text, (is, whole)) ended taken =
    (text, (is, taken ∙ (ended ∙ ap (λ (l : List ℕ). l ++ codes "\n") (whole ∙ ap (λ (l : List ℕ). l ++ text) empty))))

-- the line of such a fault
pub syntax_answer : {E : Type 0} (fault : PlanTextFault) (at : ℕ) (r : Result (List ℕ) E) → fault ≡ Syntax at
    → IfOk r (λ line. line ≡ codes "invalid text " ++ (codes "Syntax" ++ (codes " " ++ (decimal at ++ codes "\n")))) → IfOk r (IsFaultLine fault)
syntax_answer fault at (Ok line) is put = subst (λ (f : PlanTextFault). IsFaultLine f line) (sym is) (codes "invalid text Syntax " ++ decimal at, (refl, put))
syntax_answer fault at (Err e) is put = tt

-- the line of such a fault
pub twice_answer : {E : Type 0} (fault : PlanTextFault) (at : ℕ) (r : Result (List ℕ) E) → fault ≡ Twice at
    → IfOk r (λ line. line ≡ codes "invalid text " ++ (codes "Twice" ++ (codes " " ++ (decimal at ++ codes "\n")))) → IfOk r (IsFaultLine fault)
twice_answer fault at (Ok line) is put = subst (λ (f : PlanTextFault). IsFaultLine f line) (sym is) (codes "invalid text Twice " ++ decimal at, (refl, put))
twice_answer fault at (Err e) is put = tt

-- the line of such a fault
pub unknown_answer : {E : Type 0} (fault : PlanTextFault) (at : ℕ) (r : Result (List ℕ) E) → fault ≡ Unknown at
    → IfOk r (λ line. line ≡ codes "invalid text " ++ (codes "Unknown" ++ (codes " " ++ (decimal at ++ codes "\n")))) → IfOk r (IsFaultLine fault)
unknown_answer fault at (Ok line) is put = subst (λ (f : PlanTextFault). IsFaultLine f line) (sym is) (codes "invalid text Unknown " ++ decimal at, (refl, put))
unknown_answer fault at (Err e) is put = tt

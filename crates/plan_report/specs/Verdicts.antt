-- What `check` prints of a plan, and of the text of one.
use Rattle.std.specs.Prelude.{◌≡◌, ℕ, Bool, true, false, List, ◌++◌, codes, Result, Ok, Err}
use Rattle.std.specs.Fmt.{decimal}
use Rattle.model_core.specs.declared.model.Model.{Model}
use Rattle.plan_defs.specs.declared.plan.Clause.{Clause}
use Rattle.plan_defs.specs.declared.plan.Clause.TheVariants.{V1, V2, V3, V4, V5, V6, V7, V8, V9, V10}
use Rattle.plan_defs.specs.declared.plan.Plan.{Plan}
use Rattle.plan_text.specs.declared.fault.PlanTextFault.{PlanTextFault}
use Rattle.plan_text.specs.declared.fault.PlanTextFault.TheVariants.{Syntax, Twice, Unknown, Memory}
use Rattle.plan_text.specs.PlanTexts.{ReadsPlan}
use Rattle.plan_check.specs.declared.verdict.Verdict.{Verdict}
use Rattle.plan_check.specs.declared.verdict.Verdict.TheVariants.{Valid, Invalid}
use Rattle.plan_check.specs.Judged.{IsVerdict}
use Rattle.plan_report.specs.Naming.{IsPlaceText}

-- the words for clauses
abbrev pub clause_word : Clause → List ℕ
clause_word V1 = codes "V1"
clause_word V2 = codes "V2"
clause_word V3 = codes "V3"
clause_word V4 = codes "V4"
clause_word V5 = codes "V5"
clause_word V6 = codes "V6"
clause_word V7 = codes "V7"
clause_word V8 = codes "V8"
clause_word V9 = codes "V9"
clause_word V10 = codes "V10"

-- a valid plan is called so; else the clause that it breaks first is named, and the least names for which it is broken
abbrev pub IsVerdictText : Model → Plan → Verdict → List ℕ → Type 0
IsVerdictText model plan Valid text = text ≡ codes "valid"
IsVerdictText model plan (Invalid clause place) text =
    (names : List ℕ) × (IsPlaceText model plan place names
    × (text ≡ codes "invalid " ++ (clause_word clause ++ (codes " " ++ names))))

-- what is wrong with a text that isn't one of a plan, and its place; nothing is said where memory runs out
abbrev pub IsFaultText : PlanTextFault → List ℕ → Type 0
IsFaultText (Syntax at) text = text ≡ codes "invalid text Syntax " ++ decimal at
IsFaultText (Twice at) text = text ≡ codes "invalid text Twice " ++ decimal at
IsFaultText (Unknown at) text = text ≡ codes "invalid text Unknown " ++ decimal at
IsFaultText Memory text = ⊥

-- whether it says that the plan is valid
abbrev pub says_valid : Verdict → Bool
says_valid Valid = true
says_valid (Invalid clause place) = false

-- this line is printed of the plan, which is valid or isn't
pub record IsCheckedAs (model : Model) (plan : Plan) (reply : List ℕ) (is_valid : Bool) : Type 0 where
  pub verdict : Verdict
  pub is_verdict : IsVerdict model plan verdict
  pub says : is_valid ≡ says_valid verdict
  pub text : List ℕ
  pub is_text : IsVerdictText model plan verdict text
  pub whole : reply ≡ text ++ codes "\n"

-- this line is printed of a fault
abbrev pub IsFaultLine : PlanTextFault → List ℕ → Type 0
IsFaultLine fault reply = (text : List ℕ) × (IsFaultText fault text × (reply ≡ text ++ codes "\n"))

-- it is printed of what a text is read as, and a text that isn't one of a plan is none of a valid one
abbrev pub IsAnsweredAs : Model → Result Plan PlanTextFault → List ℕ → Bool → Type 0
IsAnsweredAs model (Ok plan) reply is_valid = IsCheckedAs model plan reply is_valid
IsAnsweredAs model (Err fault) reply is_valid = IsFaultLine fault reply × (is_valid ≡ false)

-- this line is printed of the text over the model, and whether it is the text of a valid plan
abbrev pub ChecksAs : Model → List ℕ → List ℕ → Bool → Type 0
ChecksAs model text reply is_valid =
    (read : Result Plan PlanTextFault) × (ReadsPlan model text read × IsAnsweredAs model read reply is_valid)

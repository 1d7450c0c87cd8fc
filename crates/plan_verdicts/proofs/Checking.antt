-- A text is read as a plan or has a first fault, and a line is printed of it.
use Rattle.std.proofs.Common.{◌≡◌, ℕ, ◌<◌, ◌^◌, ◌⊎◌, inl, inr, Bool, false, List, ◌++◌, length, Result, Ok, Err, refl, codes}
use Rattle.std.specs.Fmt.{decimal}
use Rattle.law_states.specs.Undeniable.{Undeniable}
use Rattle.model_core.specs.declared.model.Model.{Model}
use Rattle.model_core.specs.Lawful.{IsLawful}
use Rattle.plan_check.specs.declared.verdict.Verdict.{Verdict}
use Rattle.plan_check.specs.declared.verdict.Verdict.TheVariants.{Valid, Invalid}
use Rattle.plan_check.specs.Judged.{IsVerdict}
use Rattle.plan_defs.specs.declared.plan.Plan.{Plan}
use Rattle.plan_defs.specs.Plans.{IsPlanOf}
use Rattle.plan_text.specs.declared.fault.PlanTextFault.{PlanTextFault}
use Rattle.plan_text.specs.declared.fault.PlanTextFault.TheVariants as faults
use Rattle.plan_text.specs.declared.fault.Wrong.{Wrong}
use Rattle.plan_text.specs.declared.fault.Wrong.TheVariants.{Syntax, Twice, Unknown, Memory}
use Rattle.plan_text.specs.declared.statement.Statement.{Statement}
use Rattle.plan_text.specs.Found.{Found, Got, Stopped}
use Rattle.plan_text.specs.PlanTexts.{WholeText, ReadsPlan}
use Rattle.plan_text.specs.Words.{place_in}
use Rattle.plan_report.specs.Verdicts.{clause_word, IsVerdictText, IsAnsweredAs, ChecksAs, says_valid}
use Rattle.plan_report.proofs.Ranging.{place_named}
use Rattle.plan_verdicts.specs.Verdicts.{TextsAreReadOrFaulty, TextsAreChecked}
use Rattle.plan_verdicts.proofs.Breaking.{plans_have_verdicts}
use Rattle.plan_verdicts.proofs.Gathering.{text_gathered}
use Rattle.plan_verdicts.proofs.Naming.{place_text}
use Rattle.plan_verdicts.proofs.Reading.{IsTold, whole_some}

-- ---- texts

-- what the text is read as, and if it is a plan, one of the model where the text is short
abbrev HasReading : Model → List ℕ → Type 0
HasReading model text =
    ((plan : Plan) × (ReadsPlan model text (Ok plan) × (length text < 2 ^ 32 → IsPlanOf model plan)))
    ⊎ ((fault : PlanTextFault) × (ReadsPlan model text (Err fault) × (fault ≡ faults.Memory → ⊥)))

syntax_told : (at : ℕ) → faults.Syntax at ≡ faults.Memory → ⊥
syntax_told at same = cc

twice_told : (at : ℕ) → faults.Twice at ≡ faults.Memory → ⊥
twice_told at same = cc

unknown_told : (at : ℕ) → faults.Unknown at ≡ faults.Memory → ⊥
unknown_told at same = cc

stopped_reading : (model : Model) (text : List ℕ) (wrong : Wrong) (at : List ℕ) → WholeText model text (Stopped wrong at) → (wrong ≡ Memory → ⊥) → HasReading model text
stopped_reading model text Syntax at is told = inr (faults.Syntax (place_in text at), ((at, (is, refl)), syntax_told (place_in text at)))
stopped_reading model text Twice at is told = inr (faults.Twice (place_in text at), ((at, (is, refl)), twice_told (place_in text at)))
stopped_reading model text Unknown at is told = inr (faults.Unknown (place_in text at), ((at, (is, refl)), unknown_told (place_in text at)))
stopped_reading model text Memory at is told = absurd (told refl)

found_reading : (model : Model) (text : List ℕ) (found : Found (List Statement)) → WholeText model text found → IsTold found → HasReading model text
found_reading model text (Got said rest) is told =
    let gathered = text_gathered model text rest said is in
    inl (gathered.plan, ((said, (rest, (is, gathered.gathers))), gathered.is_plan))
found_reading model text (Stopped wrong at) is told = stopped_reading model text wrong at is told

some_reading : (model : Model) → IsLawful model → (text : List ℕ) → Undeniable (HasReading model text)
some_reading model lawful text none = (whole_some model lawful).reads text (λ found. none (found_reading model text found.0 found.1.0 found.1.1))

read_by : (model : Model) (text : List ℕ) → HasReading model text → (read : Result Plan PlanTextFault) × (ReadsPlan model text read × (read ≡ Err faults.Memory → ⊥))
read_by model text (inl plan) = (Ok plan.0, (plan.1.0, λ same. cc))
read_by model text (inr fault) = (Err fault.0, (fault.1.0, λ same. fault.1.1 (of fault.0 same)))
  where
    of : (fault : PlanTextFault) → ◌≡◌ {A = Result Plan PlanTextFault} (Err fault) (Err faults.Memory) → fault ≡ faults.Memory
    of fault same = cc

pub texts_are_read_or_faulty : TextsAreReadOrFaulty
texts_are_read_or_faulty model text lawful none = some_reading model lawful text (λ found. none (read_by model text found))

-- ---- lines

module _ (model : Model) (lawful : IsLawful model) where
  abbrev HasLine : Result Plan PlanTextFault → Type 0
  HasLine read = (reply : List ℕ) × ((is_valid : Bool) × IsAnsweredAs model read reply is_valid)

  verdict_line : (plan : Plan) (verdict : Verdict) (text : List ℕ) → IsVerdict model plan verdict → IsVerdictText model plan verdict text → HasLine (Ok plan)
  verdict_line plan verdict text is says =
      (text ++ codes "\n", (says_valid verdict, record { verdict = verdict; is_verdict = is; says = refl; text = text; is_text = says; whole = refl }))

  plan_line : (plan : Plan) → IsPlanOf model plan → (verdict : Verdict) → IsVerdict model plan verdict → HasLine (Ok plan)
  plan_line plan is_plan Valid is = verdict_line plan Valid (codes "valid") is refl
  plan_line plan is_plan (Invalid clause place) is =
      let names = place_text model lawful plan is_plan place (place_named model plan lawful is_plan clause place is.here.broken) in
      verdict_line plan (Invalid clause place) (codes "invalid " ++ (clause_word clause ++ (codes " " ++ names.0))) is (names.0, (names.1, refl))

  fault_line : (fault : PlanTextFault) → (fault ≡ faults.Memory → ⊥) → HasLine (Err fault)
  fault_line (faults.Syntax at) told = ((codes "invalid text Syntax " ++ decimal at) ++ codes "\n", (false, ((codes "invalid text Syntax " ++ decimal at, (refl, refl)), refl)))
  fault_line (faults.Twice at) told = ((codes "invalid text Twice " ++ decimal at) ++ codes "\n", (false, ((codes "invalid text Twice " ++ decimal at, (refl, refl)), refl)))
  fault_line (faults.Unknown at) told = ((codes "invalid text Unknown " ++ decimal at) ++ codes "\n", (false, ((codes "invalid text Unknown " ++ decimal at, (refl, refl)), refl)))
  fault_line faults.Memory told = absurd (told refl)

  checked_by : (text : List ℕ) (read : Result Plan PlanTextFault) → ReadsPlan model text read → HasLine read
      → (reply : List ℕ) × ((is_valid : Bool) × ChecksAs model text reply is_valid)
  checked_by text read reads line = (line.0, (line.1.0, (read, (reads, line.1.1))))

  reading_line : (text : List ℕ) → length text < 2 ^ 32 → HasReading model text → Undeniable ((reply : List ℕ) × ((is_valid : Bool) × ChecksAs model text reply is_valid))
  reading_line text small (inl plan) none = plans_have_verdicts model plan.0 lawful (λ found.
      none (checked_by text (Ok plan.0) plan.1.0 (plan_line plan.0 (plan.1.1 small) found.0 found.1)))
  reading_line text small (inr fault) none = none (checked_by text (Err fault.0) fault.1.0 (fault_line fault.0 fault.1.1))

pub texts_are_checked : TextsAreChecked
texts_are_checked model text lawful small none = some_reading model lawful text (λ found. reading_line model lawful text small found none)

-- What was taken since can be taken back, down to what was there.
use Rattle.std.proofs.Common.{◌≡◌, ℕ, zero, suc, ◌+◌, ◌<◌, ◌≤◌, true, false, length, sym, ap, ◌∙◌, subst, arith}
use Rattle.std.specs.Prelude.{Err}
use Rattle.model_core.specs.declared.decision.Decision.{Decision}
use Rattle.model_core.specs.History.{History, accepted}
use Rattle.plan_db.specs.declared.fault.DbFault.{DbFault}
use Rattle.plan_db.specs.declared.fault.DbFault.TheVariants as fault
use Rattle.plan_db.specs.Database.{Database, EndsAccepted}
use Rattle.plan_db.specs.Answers.{Held, AnswersBacktrack}
use Rattle.plan_db.specs.Rewinding.{TakesMore, IsTakenSince}

true_false : true ≡ false → ⊥
true_false same = cc

-- what a step took can be taken back, where the database is ready
pub never_kept : (old new : Held) (why : DbFault) → AnswersBacktrack old (Err why) new → old.behind ≡ false → EndsAccepted old.database.history → ⊥
never_kept old new fault.Behind answers ready accepted = true_false (sym answers.before ∙ ready)
never_kept old new fault.Nothing answers ready accepted = answers.1.1 accepted
never_kept old new why answers ready accepted = answers.1

-- ---- histories

taken_longer : (count : ℕ) (old new : History) → TakesMore count old new → length new ≡ length old + count
taken_longer zero old new same = ap length same ∙ omega arith
taken_longer (suc count) old new (before, (decision, (more, same))) =
    let longer = taken_longer count old before more in
    let whole : length new ≡ length (accepted before decision) = ap length same in
    omega (arith, longer, whole)

none_taken : (count : ℕ) (old new : History) → TakesMore count old new → length new ≤ length old → new ≡ old
none_taken zero old new same few = same
none_taken (suc count) old new more few = absurd (omega (arith, taken_longer (suc count) old new more))

-- the last of those taken is accepted, and without it there is one less
some_taken : (count : ℕ) (old new : History) → TakesMore count old new → length old < length new
    → (before : History) × ((decision : Decision) × ((new ≡ accepted before decision) × ((fewer : ℕ) × TakesMore fewer old before)))
some_taken zero old new same less = absurd (omega (arith, less, ap length same))
some_taken (suc count) old new (before, (decision, (more, same))) less = (before, (decision, (same, (count, more))))

accepted_same : (one other : History) (first second : Decision) → accepted one first ≡ accepted other second → one ≡ other
accepted_same one other first second same = cc

pub back_shorter : (old new : History) (decision : Decision) → old ≡ accepted new decision → length new < length old
back_shorter old new decision back =
    let whole : length old ≡ length (accepted new decision) = ap length back in
    omega (arith, whole)

-- ---- databases

module _ (former : Database) where
  -- the last step since then took a decision
  pub ends_accepted : (database : Database) → IsTakenSince former database → length former.history < length database.history → EndsAccepted database.history
  ends_accepted database since less =
      let last = some_taken since.count former.history database.history since.more less in
      (last.0, (last.1.0, last.1.1.0))

  -- and without it only decisions were taken
  pub since_back : (old new : Database) (decision : Decision) → IsTakenSince former old → length former.history < length old.history
      → old.history ≡ accepted new.history decision → new.model ≡ old.model → IsTakenSince former new
  since_back old new decision since less back model =
      let last = some_taken since.count former.history old.history since.more less in
      let here : last.0 ≡ new.history = accepted_same last.0 new.history last.1.0 decision (sym last.1.1.0 ∙ back) in
      record {
        model = model ∙ since.model;
        count = last.1.1.1.0;
        more = subst (λ (h : History). TakesMore last.1.1.1.0 former.history h) here last.1.1.1.1;
      }

  -- nothing is left of what was taken
  pub is_back : (database : Database) → IsTakenSince former database → length database.history ≤ length former.history → database ≡ former
  is_back database since few =
      let history = none_taken since.count former.history database.history since.more few in
      λ i. record { model = since.model i; history = history i }

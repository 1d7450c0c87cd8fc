-- What the reply to a search proves.
use Rattle.std.proofs.Common.{◌≡◌, ℕ, ◌≤◌, Bool, List, ◌∷◌, Result, Ok, Err, refl, sym, ◌∙◌, subst, inl, inr, arith}
use Rattle.std.specs.Prelude.{Contains}
use Rattle.std.proofs.lemmas.List.Elements.{Contains-append_left}
use Rattle.model_core.specs.declared.decision.Decision.{Decision}
use Rattle.model_core.specs.History.{standing}
use Rattle.model_core.specs.Lawful.{IsLawful}
use Rattle.model_core.specs.State.{State}
use Rattle.law_states.proofs.Founding.{plan_is_valid}
use Rattle.plan_db.specs.Database.{Database, taken_in}
use Rattle.plan_defs.specs.declared.plan.Plan.{Plan}
use Rattle.plan_defs.specs.Broken.{AgreesWith}
use Rattle.plan_defs.specs.Closure.{IsLeast}
use Rattle.plan_defs.specs.Settling.{IsSettled}
use Rattle.plan_defs.specs.StatePlans.{IsStatePlan}
use Rattle.plan_defs.specs.Valid.{IsValid}
use Rattle.plan_defs.proofs.Settling.{least_same}
use Rattle.law_search.specs.Search.{SearchOutcome, Searches}
use Rattle.law_search.proofs.Searching.{found_by, none_by}
use Rattle.plan_defs.specs.Flaws.{HasFlaw}
use Rattle.script_lang.specs.declared.command.Command.{Command}
use Rattle.script_lang.specs.declared.command.Command.TheVariants.{Solve}
use Rattle.script_lang.specs.declared.command.LineFault.{LineFault}
use Rattle.script_lang.specs.declared.command.LineFault.TheVariants as line
use Rattle.session_replies.specs.Texts.{IsStandingPlan, TellsSearch}
use Rattle.session_core.specs.Replies.{RepliesTo}
use Rattle.session_core.specs.LineReplies.{AnswersRead}
use Rattle.flaw_core.specs.declared.ending.SearchEnd.{SearchEnd}
use Rattle.flaw_core.specs.declared.ending.SearchEnd.TheVariants.{Found, Exhausted, Budget}
use Rattle.solver_core.specs.Solving.{TellsEnd}
use Rattle.session_core.specs.Laws.{ProvesPlan, ProvesNone, TellsBudget, ProvesEnd, PrintedEndsProve}
use Rattle.session_core.proofs.Answering.{ReadOnce, not_memory, standing_settled}

-- texts that are the same begin alike
heads : (one other : ℕ) (reply xs ys : List ℕ) → reply ≡ one ∷ xs → reply ≡ other ∷ ys → one ≡ other
heads one other reply xs ys p q =
    let same : one ∷ xs ≡ other ∷ ys = sym p ∙ q in
    let is : one ≡ other = cc in is

module _ (old : Database) (lawful : IsLawful old.model) (settled : IsSettled old.model (standing old.history)) (bound steps : ℕ) (few : bound ≤ 512) (new : Database) where
  -- the plan of what is found is valid, and agrees with what stood and with what stands now
  pub plan_proves : (outcome : SearchOutcome) (visits : ℕ) (state : State) (plan : Plan) → Searches old.model bound steps (standing old.history) outcome
      → TellsEnd steps outcome old (Found visits) new → IsLeast old.model (standing new.history) state → IsStatePlan old.model (standing new.history) state plan
      → IsValid old.model plan × AgreesWith old.model plan (standing old.history) × AgreesWith old.model plan (standing new.history)
  plan_proves outcome visits state plan searches ends least is_plan =
      let list = standing new.history in
      let found = found_by old.model lawful bound few steps steps (standing old.history) list outcome settled searches ends.1 in
      let states = least_same old.model list state found.state least found.least in
      let flawless : HasFlaw old.model list state → ⊥ = subst (λ s. HasFlaw old.model list s → ⊥) (sym states) found.flawless in
      let right = plan_is_valid old.model list state plan lawful found.settled least flawless is_plan in (
        right.0,
        λ decision there.
            right.1 decision (subst (λ (l : List Decision). Contains l decision) (sym found.longer) (Contains-append_left (standing old.history) found.more decision there)),
        right.1,
      )

module _ (old : Database) (lawful : IsLawful old.model) (settled : IsSettled old.model (standing old.history)) (bound steps : ℕ) (few : bound ≤ 512) (new : Database) (reply : List ℕ) where
  pub found_proves : (outcome : SearchOutcome) (visits : ℕ) → Searches old.model bound steps (standing old.history) outcome → TellsEnd steps outcome old (Found visits) new
      → TellsSearch (Found visits) new reply → ProvesPlan old new steps reply
  found_proves outcome visits searches ends (text, (is, shows)) =
      let models = ends.2 in
      let same : new ≡ taken_in old.model new.history = λ i. record { model = models i; history = new.history } in
      let told : IsStandingPlan (taken_in old.model new.history) text = subst (λ (d : Database). IsStandingPlan d text) same is in
      let right = plan_proves old lawful settled bound steps few new outcome visits told.0 told.1 searches ends told.2.0 told.2.1 in
      record {
        visits = visits;
        few = omega (arith, ends.0);
        text = text;
        shows = shows;
        plan = told.1;
        is_text = told.2.2;
        valid = right.0;
        agrees_before = right.1;
        agrees_now = right.2;
      }

  pub exhausted_proves : (outcome : SearchOutcome) (visits : ℕ) (left_out : Bool) → Searches old.model bound steps (standing old.history) outcome
      → TellsEnd steps outcome old (Exhausted visits left_out) new → TellsSearch (Exhausted visits left_out) new reply → ProvesNone old bound steps reply
  exhausted_proves outcome visits left_out searches ends shows = record {
    visits = visits;
    few = omega (arith, ends.0);
    left_out = left_out;
    shows = shows;
    none = λ plan fits within.
        none_by old.model lawful bound few steps steps (standing old.history) outcome plan settled searches ends.1 fits
        (elim within [ inl small ↦ inl small | inr whole ↦ inr (ends.2 ∙ whole) ]);
  }

  pub budget_tells : (outcome : SearchOutcome) (visits : ℕ) → Searches old.model bound steps (standing old.history) outcome → TellsEnd steps outcome old (Budget visits) new
      → TellsSearch (Budget visits) new reply → TellsBudget old bound steps reply
  budget_tells outcome visits searches ends shows = record {
    shows = subst (λ (n : ℕ). TellsSearch (Budget n) new reply) ends.2 shows;
    outcome = outcome;
    searches = searches;
    stops = ends.1;
  }

  -- nothing is proved by a reply that begins with another byte than these words do
  proves_nothing : (first : ℕ) (xs : List ℕ) → reply ≡ first ∷ xs → (first ≡ 102 → ⊥) → (first ≡ 101 → ⊥) → (first ≡ 98 → ⊥) → ProvesEnd old new bound steps reply
  proves_nothing first xs is found exhausted budget = record {
    found = λ rest begins. absurd (found (heads first 102 reply xs _ is begins));
    exhausted = λ rest begins. absurd (exhausted (heads first 101 reply xs _ is begins));
    budget = λ rest begins. absurd (budget (heads first 98 reply xs _ is begins));
  }

  end_proves : (outcome : SearchOutcome) (end : SearchEnd) → Searches old.model bound steps (standing old.history) outcome → TellsEnd steps outcome old end new
      → TellsSearch end new reply → ProvesEnd old new bound steps reply
  end_proves outcome (Found visits) searches ends tells = record {
    found = λ rest begins. found_proves outcome visits searches ends tells;
    exhausted = λ rest begins. let first = heads 102 101 reply _ _ tells.1.1 begins in absurd (omega (arith, first));
    budget = λ rest begins. let first = heads 102 98 reply _ _ tells.1.1 begins in absurd (omega (arith, first));
  }
  end_proves outcome (Exhausted visits left_out) searches ends tells = record {
    found = λ rest begins. let first = heads 101 102 reply _ _ tells begins in absurd (omega (arith, first));
    exhausted = λ rest begins. exhausted_proves outcome visits left_out searches ends tells;
    budget = λ rest begins. let first = heads 101 98 reply _ _ tells begins in absurd (omega (arith, first));
  }
  end_proves outcome (Budget visits) searches ends tells = record {
    found = λ rest begins. let first = heads 98 102 reply _ _ tells begins in absurd (omega (arith, first));
    exhausted = λ rest begins. let first = heads 98 101 reply _ _ tells begins in absurd (omega (arith, first));
    budget = λ rest begins. budget_tells outcome visits searches ends tells;
  }

  reply_proves : RepliesTo old (Solve steps bound) reply new → ProvesEnd old new bound steps reply
  reply_proves (inl (full, is, same)) =
      proves_nothing 114 _ is (λ e. absurd (omega (arith, e))) (λ e. absurd (omega (arith, e))) (λ e. absurd (omega (arith, e)))
  reply_proves (inr (not, inl (collapsed, is, same))) =
      proves_nothing 105 _ is (λ e. absurd (omega (arith, e))) (λ e. absurd (omega (arith, e))) (λ e. absurd (omega (arith, e)))
  reply_proves (inr (not, inr (least, (outcome, end, (searches, ends, tells))))) = end_proves outcome end searches ends tells

-- what is read as a command isn't that memory ran out
no_memory : (command : Command) (read : Result Command LineFault) → read ≡ Ok command → read ≡ Err line.Memory → ⊥
no_memory command read is fault = let apart : ⊥ = cc in apart

pub printed_ends : ReadOnce → PrintedEndsProve
printed_ends read old new text bound steps answer asks (sound, (one, (reads, answers))) =
    let same = read text one (Ok (Solve steps bound)) reads asks (not_memory old one answer new answers) (no_memory (Solve steps bound) (Ok (Solve steps bound)) refl) in
    let replies = subst (λ (r : Result Command LineFault). AnswersRead old r answer new) same answers in
    reply_proves old sound.lawful (standing_settled old.model old.history sound.history) bound steps asks.1.3 new answer.reply replies.0

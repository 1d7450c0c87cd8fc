-- A search is answered in one way, and leaves one database.
use Rattle.std.proofs.Common.{◌≡◌, ℕ, zero, suc, ◌+◌, ◌≤◌, List, [], ◌∷◌, ◌++◌, length, refl, sym, ap, ◌∙◌, subst, arith}
use Rattle.std.specs.Prelude.{codes}
use Rattle.std.specs.Fmt.{decimal}
use Rattle.std.proofs.lemmas.List.{length-append}
use Rattle.model_core.specs.declared.decision.Decision.{Decision}
use Rattle.model_core.specs.History.{History, standing, accepted}
use Rattle.model_core.specs.Lawful.{IsLawful}
use Rattle.plan_text.specs.PlanTexts.{IsPlanText}
use Rattle.plan_db.specs.Database.{Database}
use Rattle.plan_defs.specs.Settling.{IsSettled}
use Rattle.plan_defs.proofs.Settling.{least_same}
use Rattle.plan_core.proofs.Spelled.{text_once}
use Rattle.law_search.specs.Search.{SearchOutcome}
use Rattle.law_search.proofs.Once.{visits_once}
use Rattle.law_search.proofs.Searching.{fails_not_finds, stops_not_finds, stops_not_fails, finds_same}
use Rattle.law_states.specs.Soundness.{StatesHaveOnePlan}
use Rattle.plan_defs.specs.StatePlans.{IsStatePlan}
use Rattle.session_replies.specs.Lines.{with_line_feed}
use Rattle.session_replies.specs.Texts.{IsStandingPlan, TellsSearch}
use Rattle.session_core.specs.Replies.{RepliesSearch}
use Rattle.flaw_core.specs.declared.ending.SearchEnd.{SearchEnd}
use Rattle.flaw_core.specs.declared.ending.SearchEnd.TheVariants.{Found, Exhausted, Budget}
use Rattle.plan_db.specs.Rewinding.{TakesMore}
use Rattle.solver_core.specs.Solving.{TellsEnd}

-- ---- histories

last_one : {X : Type 0} (xs ys : List X) (x y : X) → xs ++ x ∷ [] ≡ ys ++ y ∷ [] → (xs ≡ ys) × (x ≡ y)
last_one [] [] x y same = let heads : x ≡ y = cc in (refl, heads)
last_one [] (first ∷ ys) x y same = absurd (omega (arith, ap length same, length-append ys (y ∷ [])))
last_one (first ∷ xs) [] x y same = absurd (omega (arith, ap length same, length-append xs (x ∷ [])))
last_one (first ∷ xs) (other ∷ ys) x y same =
    let heads : first ≡ other = cc in
    let tails : xs ++ x ∷ [] ≡ ys ++ y ∷ [] = cc in
    let rest = last_one xs ys x y tails in
    ((λ i. heads i ∷ rest.0 i), rest.1)

-- so many decisions more make the list so much longer
more_length : (count : ℕ) (old new : History) → TakesMore count old new → length (standing new) ≡ length (standing old) + count
more_length zero old new is = omega (arith, ap (λ (h : History). length (standing h)) is)
more_length (suc count) old new (before, (decision, (takes, is))) =
    omega (arith, ap (λ (h : History). length (standing h)) is, length-append (standing before) (decision ∷ []), more_length count old before takes)

-- and leave one history for the list
more_one : (count : ℕ) (old new next : History) → TakesMore count old new → TakesMore count old next → standing new ≡ standing next → new ≡ next
more_one zero old new next p q same = p ∙ sym q
more_one (suc count) old new next (before, (decision, (takes, is))) (before', (decision', (takes', is'))) same =
    let lists : standing before ++ decision ∷ [] ≡ standing before' ++ decision' ∷ [] =
    sym (ap (λ (h : History). standing h) is) ∙ (same ∙ ap (λ (h : History). standing h) is') in
    let both = last_one (standing before) (standing before') decision decision' lists in
    let befores = more_one count old before before' takes takes' both.0 in
    let news : accepted before decision ≡ accepted before' decision' = λ i. accepted (befores i) (both.1 i) in
    is ∙ (news ∙ sym is')

taken_one : (count number : ℕ) (old new next : History) → TakesMore count old new → TakesMore number old next → standing new ≡ standing next → new ≡ next
taken_one count number old new next p q same =
    let counts : number ≡ count = omega (arith, more_length count old new p, more_length number old next q, ap (λ (l : List Decision). length l) same) in
    more_one count old new next p (subst (λ (n : ℕ). TakesMore n old next) counts q) same

-- ---- plans

plan_told_one : StatesHaveOnePlan → (database : Database) (one other : List ℕ) → IsStandingPlan database one → IsStandingPlan database other → one ≡ other
plan_told_one one_plan database one other (state, plan, (least, is_plan, is_text)) (state', plan', (least', is_plan', is_text')) =
    let decisions = standing database.history in
    let states = least_same database.model decisions state' state least' least in
    let plans = one_plan database.model decisions state plan' plan (subst (λ s. IsStatePlan database.model decisions s plan') states is_plan') is_plan in
    text_once database.model plan one other is_text (subst (λ p. IsPlanText database.model p other) plans is_text')

-- ---- ends

module _ (old : Database) (steps : ℕ) (outcome : SearchOutcome) where
  found_one : (visits visits' : ℕ) (new next : Database) → TellsEnd steps outcome old (Found visits) new → TellsEnd steps outcome old (Found visits') next → (visits ≡ visits') × (new ≡ next)
  found_one visits visits' new next (spent, finds, model, (count, more)) (spent', finds', model', (count', more')) =
      let lists = finds_same (standing new.history) (standing next.history) (sym finds ∙ finds') in
      let histories = taken_one count count' old.history new.history next.history more more' lists in
      let models : new.model ≡ next.model = model ∙ sym model' in
      let news : new ≡ next = λ i. record { model = models i; history = histories i } in
      (omega (arith, spent, spent'), news)

  pub end_one : (end end' : SearchEnd) (new next : Database) → TellsEnd steps outcome old end new → TellsEnd steps outcome old end' next → (end ≡ end') × (new ≡ next)
  end_one (Found visits) (Found visits') new next p q = let both = found_one visits visits' new next p q in (ap Found both.0, both.1)
  end_one (Found visits) (Exhausted visits' out') new next p q = absurd (fails_not_finds (standing new.history) (sym q.1 ∙ p.1))
  end_one (Found visits) (Budget visits') new next p q = absurd (stops_not_finds (standing new.history) (sym q.1 ∙ p.1))
  end_one (Exhausted visits out) (Found visits') new next p q = absurd (fails_not_finds (standing next.history) (sym p.1 ∙ q.1))
  end_one (Exhausted visits out) (Exhausted visits' out') new next p q =
      let counts : visits ≡ visits' = omega (arith, p.0, q.0) in
      let outs : out ≡ out' = sym p.2 ∙ q.2 in
      ((λ i. Exhausted (counts i) (outs i)), p.3 ∙ sym q.3)
  end_one (Exhausted visits out) (Budget visits') new next p q = absurd (stops_not_fails (sym q.1 ∙ p.1))
  end_one (Budget visits) (Found visits') new next p q = absurd (stops_not_finds (standing next.history) (sym p.1 ∙ q.1))
  end_one (Budget visits) (Exhausted visits' out') new next p q = absurd (stops_not_fails (sym p.1 ∙ q.1))
  end_one (Budget visits) (Budget visits') new next p q = let counts : visits ≡ visits' = omega (arith, p.0, q.0) in (ap Budget counts, p.3 ∙ sym q.3)

pub end_told_one : StatesHaveOnePlan → (end : SearchEnd) (database : Database) (one other : List ℕ) → TellsSearch end database one → TellsSearch end database other → one ≡ other
end_told_one one_plan (Found visits) database one other (text, (is, shows)) (text', (is', shows')) =
    shows ∙ (ap (λ (t : List ℕ). with_line_feed (codes "found " ++ decimal visits) ++ t) (plan_told_one one_plan database text text' is is') ∙ sym shows')
end_told_one one_plan (Exhausted visits out) database one other p q = p ∙ sym q
end_told_one one_plan (Budget visits) database one other p q = p ∙ sym q

module _ (one_plan : StatesHaveOnePlan) (old : Database) (lawful : IsLawful old.model) (settled : IsSettled old.model (standing old.history)) where
  pub search_one : (bound steps : ℕ) → bound ≤ 512 → (one other : List ℕ) (new next : Database) → RepliesSearch bound steps old one new → RepliesSearch bound steps old other next
      → (one ≡ other) × (new ≡ next)
  search_one bound steps few one other new next (outcome, end, (searches, ends, tells)) (outcome', end', (searches', ends', tells')) =
      let outcomes = visits_once old.model lawful bound few steps steps (standing old.history) outcome' outcome settled searches' searches in
      let both = end_one old steps outcome end end' new next ends (subst (λ (o : SearchOutcome). TellsEnd steps o old end' next) outcomes ends') in
      let back = subst (λ (e : SearchEnd). TellsSearch e new other) (sym both.0) (subst (λ (d : Database). TellsSearch end' d other) (sym both.1) tells') in
      (end_told_one one_plan end new one other tells back, both.1)

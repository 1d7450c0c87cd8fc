-- What is taken out, and what is taken back, is one.
use Rattle.std.proofs.Common.{◌≡◌, ℤ, List, [], ◌∷◌, ◌++◌, length, Result, Ok, Err, refl, sym, ap, ◌∙◌, subst, inl, inr, arith}
use Rattle.std.specs.Prelude.{Contains}
use Rattle.std.proofs.lemmas.List.Elements.{Contains-push_cases}
use Rattle.eu_name.specs.declared.name.TokenName.{TokenName}
use Rattle.eu_name.specs.declared.name.VarName.{VarName}
use Rattle.model_core.specs.declared.decision.ConArg.{ConArg}
use Rattle.model_core.specs.declared.decision.Decision.{Decision}
use Rattle.model_core.specs.declared.decision.Decision.TheVariants as decisions
use Rattle.model_core.specs.declared.model.Model.{Model}
use Rattle.model_core.specs.Decided.{IsDecided}
use Rattle.model_core.specs.History.{standing}
use Rattle.model_core.specs.Lawful.{IsLawful}
use Rattle.plan_db.specs.Database.{Database, OutcomeIs, Resets, TakesOutOn}
use Rattle.plan_db.specs.declared.fault.Outcome.{Outcome}
use Rattle.plan_defs.specs.Refusals.{IsAlreadyDecided}
use Rattle.model_core.specs.declared.refusal.Refusal.TheVariants.{Decided}
use Rattle.plan_defs.specs.Settling.{SettlesAfter, Settles, IsSettled}
use Rattle.eu_name.proofs.Ordered.{contains_head, contains_later, contains_cases, contains_none}
use Rattle.db_history.specs.declared.subject.Subject.{Subject}
use Rattle.db_history.specs.declared.subject.Subject.TheVariants as subjects
use Rattle.db_history.specs.Subjects.{IsOfSubject}
use Rattle.law_states.proofs.Splitting.{settles_same}
use Rattle.script_lang.specs.declared.command.Command.{Command}
use Rattle.session_core.specs.declared.reason.RefusalReason.{RefusalReason}
use Rattle.session_core.specs.declared.reason.RefusalReason.TheVariants as reason
use Rattle.session_core.specs.Replies.{ResetsAsked, UndoesLast}
use Rattle.session_core.proofs.StandIns.{stood_on}
use Rattle.session_core.proofs.Taking.{outcome_one}
use Rattle.session_core.proofs.Words.{subject_one}

-- ---- one of a list at most

module _ {X : Type 0} (P : X → Type 0) where
  -- of at most one in the list this holds
  abbrev AtMostOne : List X → Type 0
  AtMostOne [] = Unit {0}
  AtMostOne (x ∷ xs) = AtMostOne xs × (P x → (y : X) → Contains xs y → P y → ⊥)

  push_one : (xs : List X) (x : X) → AtMostOne xs → (P x → (y : X) → Contains xs y → P y → ⊥) → AtMostOne (xs ++ x ∷ [])
  push_one [] x one none = (tt, λ is y there on. contains_none y there)
  push_one (first ∷ xs) x one none = (
    push_one xs x one.0 (λ is y there on. none is y (contains_later first y xs there) on),
    λ is y there on. elim (Contains-push_cases xs x y there) [
      | inl old ↦ one.1 is y old on
      | inr new ↦ none (subst P (sym new) on) first (contains_head first xs) is
    ],
  )

  amid : (front : List X) (x : X) (back : List X) → Contains (front ++ x ∷ back) x
  amid [] x back = contains_head x back
  amid (first ∷ front) x back = contains_later first x (front ++ x ∷ back) (amid front x back)

  -- two ways to take such a one out leave the same
  cut_one : (front : List X) (x : X) (back front' : List X) (x' : X) (back' : List X) → AtMostOne (front ++ x ∷ back) → P x → P x'
      → front ++ x ∷ back ≡ front' ++ x' ∷ back' → front ++ back ≡ front' ++ back'
  cut_one [] x back [] x' back' one is is' same = let tails : back ≡ back' = cc in tails
  cut_one [] x back (first ∷ front') x' back' one is is' same =
      let tails : back ≡ front' ++ x' ∷ back' = cc in
      absurd (one.1 is x' (subst (λ (l : List X). Contains l x') (sym tails) (amid front' x' back')) is')
  cut_one (first ∷ front) x back [] x' back' one is is' same =
      let heads : first ≡ x' = cc in
      absurd (one.1 (subst P (sym heads) is') x (amid front x back) is)
  cut_one (first ∷ front) x back (first' ∷ front') x' back' one is is' same =
      let heads : first ≡ first' = cc in
      let tails : front ++ x ∷ back ≡ front' ++ x' ∷ back' = cc in
      let rest = cut_one front x back front' x' back' one.0 is is' tails in
      λ i. heads i ∷ rest i

  -- such ones in the list are the same
  ones_same : (xs : List X) → AtMostOne xs → (x y : X) → Contains xs x → Contains xs y → P x → P y → x ≡ y
  ones_same [] one x y here there is is' = absurd (contains_none x here)
  ones_same (first ∷ xs) one x y here there is is' =
      let rest = ones_same xs one.0 x y in
      elim (contains_cases first x xs here) [
        | inl p ↦ elim (contains_cases first y xs there) [
          | inl q ↦ sym p ∙ q
          | inr q ↦ absurd (one.1 (subst P (sym p) is) y q is')
        ]
        | inr p ↦ elim (contains_cases first y xs there) [
          | inl q ↦ absurd (one.1 (subst P (sym q) is') x p is)
          | inr q ↦ rest p q is is'
        ]
      ]

-- ---- one decision on a subject

module _ (model : Model) where
  decided_of : (kept : List Decision) (token : TokenName) (decision : Decision) → IsOfSubject (subjects.Token token) decision → Contains kept decision → IsDecided model kept token
  decided_of kept token (decisions.Activate other) is there = inr (inl (inl (subst (λ t. Contains kept (decisions.Activate t)) is there)))
  decided_of kept token (decisions.Merge other target) is there = inr (inl (inr (target, subst (λ t. Contains kept (decisions.Merge t target)) is there)))
  decided_of kept token (decisions.Reject other) is there = inr (inr (subst (λ t. Contains kept (decisions.Reject t)) is there))
  decided_of kept token decision is there = absurd is

  already_on : (kept : List Decision) (subject : Subject) (decision other : Decision) → IsOfSubject subject decision → IsOfSubject subject other → Contains kept other
      → IsAlreadyDecided model kept decision
  already_on kept (subjects.Var name) (decisions.Specify one value) (decisions.Specify two number) is is' there =
      (number, subst (λ n. Contains kept (decisions.Specify n number)) (is' ∙ sym is) there)
  already_on kept (subjects.Var name) (decisions.Specify one value) other is is' there = absurd is'
  already_on kept (subjects.Var name) decision other is is' there = absurd is
  already_on kept (subjects.Token token) (decisions.Activate one) other is is' there = subst (IsDecided model kept) (sym is) (decided_of kept token other is' there)
  already_on kept (subjects.Token token) (decisions.Merge one target) other is is' there = subst (IsDecided model kept) (sym is) (decided_of kept token other is' there)
  already_on kept (subjects.Token token) (decisions.Reject one) other is is' there = subst (IsDecided model kept) (sym is) (decided_of kept token other is' there)
  already_on kept (subjects.Token token) decision other is is' there = absurd is
  already_on kept (subjects.Order first second) (decisions.Order one two) (decisions.Order three four) is is' there =
      let firsts : three ≡ one = is'.0 ∙ sym is.0 in
      let seconds : four ≡ two = is'.1 ∙ sym is.1 in
      subst (λ t. Contains kept (decisions.Order one t)) seconds (subst (λ t. Contains kept (decisions.Order t four)) firsts there)
  already_on kept (subjects.Order first second) (decisions.Order one two) other is is' there = absurd is'
  already_on kept (subjects.Order first second) decision other is is' there = absurd is
  already_on kept (subjects.Constraint kind arguments) (decisions.Constrain one given) (decisions.Constrain two given') is is' there =
      let kinds : two ≡ one = is'.0 ∙ sym is.0 in
      let lists : given' ≡ given = is'.1 ∙ sym is.1 in
      subst (λ (l : List ConArg). Contains kept (decisions.Constrain one l)) lists (subst (λ k. Contains kept (decisions.Constrain k given')) kinds there)
  already_on kept (subjects.Constraint kind arguments) (decisions.Constrain one given) other is is' there = absurd is'
  already_on kept (subjects.Constraint kind arguments) decision other is is' there = absurd is
  already_on kept (subjects.Relation relation first second) (decisions.Relate r one two) (decisions.Relate s three four) is is' there =
      let relations : s ≡ r = is'.0 ∙ sym is.0 in
      let firsts : three ≡ one = is'.1 ∙ sym is.1 in
      let seconds : four ≡ two = is'.2 ∙ sym is.2 in
      subst (λ t. Contains kept (decisions.Relate r one t)) seconds
      (subst (λ t. Contains kept (decisions.Relate r t four)) firsts (subst (λ k. Contains kept (decisions.Relate k three four)) relations there))
  already_on kept (subjects.Relation relation first second) (decisions.Relate r one two) other is is' there = absurd is'
  already_on kept (subjects.Relation relation first second) decision other is is' there = absurd is

  module _ (subject : Subject) where
    settled_from : (kept decisions settled : List Decision) → AtMostOne (IsOfSubject subject) kept → SettlesAfter model kept decisions settled → AtMostOne (IsOfSubject subject) settled
    settled_from kept [] settled one is = subst (λ (list : List Decision). AtMostOne (IsOfSubject subject) list) (sym is) one
    settled_from kept (decision ∷ decisions) settled one (inl (admissible, rest)) =
        settled_from (kept ++ decision ∷ []) decisions settled
        (push_one (IsOfSubject subject) kept decision one (λ is other there on. admissible.free Decided (already_on kept subject decision other is on there))) rest
    settled_from kept (decision ∷ decisions) settled one (inr (not, rest)) = settled_from kept decisions settled one rest

    taking_out_one : (below one other : List Decision) → IsSettled model below → TakesOutOn model subject below one → TakesOutOn model subject below other → one ≡ other
    taking_out_one below one other settled p q =
        let once = subst (λ (list : List Decision). AtMostOne (IsOfSubject subject) list) p.parts (settled_from [] below below tt settled) in
        let rests = cut_one (IsOfSubject subject) p.front p.decision p.back q.front q.decision q.back once p.on q.on (sym p.parts ∙ q.parts) in
        settles_same model [] (q.front ++ q.back) one other (subst (λ (list : List Decision). Settles model list one) rests p.settles) q.settles

  -- a settled list gives a variable one value
  pub specified_one : (list : List Decision) → IsSettled model list → (name : VarName) (value number : ℤ)
      → Contains list (decisions.Specify name value) → Contains list (decisions.Specify name number) → value ≡ number
  specified_one list settled name value number here there =
      let once = settled_from (subjects.Var name) [] list list tt settled in
      let same = ones_same (IsOfSubject (subjects.Var name)) list once (decisions.Specify name value) (decisions.Specify name number) here there refl refl in
      let values : value ≡ number = cc in values

-- ---- resets

module _ (old : Database) (lawful : IsLawful old.model) (settled : IsSettled old.model (standing old.history)) (command : Command) where
  reset_one : (subject : Subject) (one other : Outcome) (new next : Database) → Resets old subject (Ok one) new → Resets old subject (Ok other) next → (one ≡ other) × (new ≡ next)
  reset_one subject one other new next p q =
      let lists = taking_out_one old.model subject (standing old.history) (standing new.history) (standing next.history) settled p.2 q.2 in
      let models : new.model ≡ next.model = p.0 ∙ sym q.0 in
      let histories : new.history ≡ next.history = p.1 ∙ (ap (λ (list : List Decision). list ∷ old.history) lists ∙ sym q.1) in
      let news : new ≡ next = λ i. record { model = models i; history = histories i } in
      (outcome_one next one other (subst (λ d. OutcomeIs d one) news p.3) q.3, news)

  pub resetting_one : (one other : Result Outcome RefusalReason) (new next : Database) → ResetsAsked old command one new → ResetsAsked old command other next → (one ≡ other) × (new ≡ next)
  resetting_one (Ok one) (Ok other) new next (subject, (asks, resets)) (subject', (asks', resets')) =
      let subjects = subject_one old.model lawful command subject' subject asks' asks in
      let both = reset_one subject one other new next resets (subst (λ s. Resets old s (Ok other) next) subjects resets') in
      (ap (λ (found : Outcome). Ok found) both.0, both.1)
  resetting_one (Ok one) (Err reason.NoDecision) new next p q = absurd (q.0 p.0 p.1.0 (stood_on old new p.0 one p.1.1))
  resetting_one (Ok one) (Err why) new next p q = absurd q
  resetting_one (Err reason.NoDecision) (Ok other) new next p q = absurd (p.0 q.0 q.1.0 (stood_on old next q.0 other q.1.1))
  resetting_one (Err reason.NoDecision) (Err reason.NoDecision) new next p q = (refl, p.1 ∙ sym q.1)
  resetting_one (Err reason.NoDecision) (Err why) new next p q = absurd q
  resetting_one (Err why) other new next p q = absurd p

-- ---- undoing

pub undoing_one : (old : Database) (one other : Result Outcome RefusalReason) (new next : Database) → UndoesLast old one new → UndoesLast old other next → (one ≡ other) × (new ≡ next)
undoing_one old (Ok one) (Ok other) new next (former, p) (former', q) =
    let both : standing old.history ∷ new.history ≡ standing old.history ∷ next.history = sym p.1 ∙ q.1 in
    let histories : new.history ≡ next.history = cc in
    let models : new.model ≡ next.model = p.0 ∙ sym q.0 in
    let news : new ≡ next = λ i. record { model = models i; history = histories i } in
    (ap (λ (found : Outcome). Ok found) (outcome_one next one other (subst (λ d. OutcomeIs d one) news p.2) q.2), news)
undoing_one old (Ok one) (Err reason.Nothing) new next p q = let same = sym q.0 ∙ p.0.1.1 in absurd (omega (arith, ap length same))
undoing_one old (Ok one) (Err why) new next p q = absurd q
undoing_one old (Err reason.Nothing) (Ok other) new next p q = let same = sym p.0 ∙ q.0.1.1 in absurd (omega (arith, ap length same))
undoing_one old (Err reason.Nothing) (Err reason.Nothing) new next p q = (refl, p.1 ∙ sym q.1)
undoing_one old (Err reason.Nothing) (Err why) new next p q = absurd q
undoing_one old (Err why) other new next p q = absurd p

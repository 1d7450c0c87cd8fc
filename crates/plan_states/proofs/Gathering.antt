-- Lists of lines that are just those that are meant, put one behind another.
use Rattle.std.proofs.Common.{◌≡◌, ℕ, ◌+◌, ◌<◌, List, [], ◌∷◌, ◌++◌, ◌⊎◌, inl, inr, sym, ap, ◌∙◌, subst, arith}
use Rattle.std.specs.Prelude.{Contains, AllPairs}
use Rattle.std.proofs.lemmas.Bool.{cases_lt}
use Rattle.std.proofs.lemmas.List.{append_assoc, append-nil}
use Rattle.std.proofs.lemmas.List.Elements.{Contains-append_cases, Contains-append_left, Contains-append_right}
use Rattle.model_core.specs.declared.decision.Decision.{Decision}
use Rattle.model_core.specs.declared.model.Model.{Model}
use Rattle.model_core.specs.State.{State}
use Rattle.plan_defs.specs.declared.plan.Line.{Line}
use Rattle.plan_defs.specs.Plans.{IsLineBefore}
use Rattle.eu_name.proofs.Ordered.{contains_head, contains_later, contains_cases, contains_none, ordered_head, ordered_tail, ordered_none, ordered_cons, ordered_one}
use Rattle.plan_defs.specs.Flaws.{Flaw, IsFlaw}
use Rattle.plan_defs.specs.Surveying.{AreMeant, Surveys, UpTo}

pairs_join : {X : Type 0} (R : X → X → Type 0) (xs ys : List X) → AllPairs R xs → AllPairs R ys
    → ((x y : X) → Contains xs x → Contains ys y → R x y) → AllPairs R (xs ++ ys)
pairs_join R [] ys p q cross = q
pairs_join R (x ∷ xs) ys p q cross =
    ordered_cons R x (xs ++ ys)
    (λ y there. elim (Contains-append_cases xs ys y there) [
      | inl here ↦ ordered_head R x xs p y here
      | inr behind ↦ cross x y (contains_head x xs) behind
    ])
    (pairs_join R xs ys (ordered_tail R x xs p) q (λ a b c d. cross a b (contains_later x a xs c) d))

meant_none : (Meant : Line → Type 0) → ((line : Line) → Meant line → ⊥) → AreMeant Meant []
meant_none Meant none = record {
  order = ordered_none IsLineBefore;
  only = λ line there. absurd (contains_none line there);
  each = λ line is. absurd (none line is);
}

one_only : (Meant : Line → Type 0) (line other : Line) → Meant line → (line ≡ other) ⊎ Contains [] other → Meant other
one_only Meant line other is (inl same) = subst Meant same is
one_only Meant line other is (inr there) = absurd (contains_none other there)

meant_one : (Meant : Line → Type 0) (line : Line) → Meant line → ((other : Line) → Meant other → other ≡ line) → AreMeant Meant (line ∷ [])
meant_one Meant line is alone = record {
  order = ordered_one IsLineBefore line;
  only = λ other there. one_only Meant line other is (contains_cases line other [] there);
  each = λ other meant. subst (λ x. Contains (line ∷ []) x) (sym (alone other meant)) (contains_head line []);
}

module _ (P Q R : Line → Type 0) (P-R : (line : Line) → P line → R line) (Q-R : (line : Line) → Q line → R line) (R-PQ : (line : Line) → R line → P line ⊎ Q line) where
  either : (xs ys : List Line) (line : Line) → AreMeant P xs → AreMeant Q ys → P line ⊎ Q line → Contains (xs ++ ys) line
  either xs ys line p q (inl is) = Contains-append_left xs ys line (p.each line is)
  either xs ys line p q (inr is) = Contains-append_right xs ys line (q.each line is)

  neither : (xs ys : List Line) (line : Line) → AreMeant P xs → AreMeant Q ys → Contains xs line ⊎ Contains ys line → R line
  neither xs ys line p q (inl there) = P-R line (p.only line there)
  neither xs ys line p q (inr there) = Q-R line (q.only line there)

  meant_both : (xs ys : List Line) → AreMeant P xs → AreMeant Q ys → ((x y : Line) → P x → Q y → IsLineBefore x y) → AreMeant R (xs ++ ys)
  meant_both xs ys p q cross = record {
    order = pairs_join IsLineBefore xs ys p.order q.order (λ x y here there. cross x y (p.only x here) (q.only y there));
    only = λ line there. neither xs ys line p q (Contains-append_cases xs ys line there);
    each = λ line is. either xs ys line p q (R-PQ line is);
  }

module _ (model : Model) (decisions : List Decision) (state : State) where
  pub surveys_none : (Meant : Line → Type 0) (Sought : Flaw → Type 0) (list : List Line) → ((line : Line) → Meant line → ⊥)
      → ((flaw : Flaw) → Sought flaw → IsFlaw model decisions state flaw → ⊥) → Surveys model decisions state Meant Sought list list
  surveys_none Meant Sought list none clear = record { adds = ([], sym (append-nil list), meant_none Meant none); clear = clear }

  pub surveys_one : (Meant : Line → Type 0) (Sought : Flaw → Type 0) (old new : List Line) (line : Line) → new ≡ old ++ line ∷ [] → Meant line
      → ((other : Line) → Meant other → other ≡ line) → ((flaw : Flaw) → Sought flaw → IsFlaw model decisions state flaw → ⊥)
      → Surveys model decisions state Meant Sought old new
  surveys_one Meant Sought old new line is meant alone clear = record { adds = (line ∷ [], is, meant_one Meant line meant alone); clear = clear }

  either_clear : (S T : Flaw → Type 0) (flaw : Flaw) → ((f : Flaw) → S f → IsFlaw model decisions state f → ⊥) → ((f : Flaw) → T f → IsFlaw model decisions state f → ⊥)
      → S flaw ⊎ T flaw → IsFlaw model decisions state flaw → ⊥
  either_clear S T flaw s t (inl is) = s flaw is
  either_clear S T flaw s t (inr is) = t flaw is

  pub surveys_both : (P Q R : Line → Type 0) (S T U : Flaw → Type 0) (a b c : List Line) → ((line : Line) → P line → R line) → ((line : Line) → Q line → R line)
      → ((line : Line) → R line → P line ⊎ Q line) → ((flaw : Flaw) → U flaw → IsFlaw model decisions state flaw → S flaw ⊎ T flaw)
      → ((x y : Line) → P x → Q y → IsLineBefore x y)
      → Surveys model decisions state P S a b → Surveys model decisions state Q T b c → Surveys model decisions state R U a c
  surveys_both P Q R S T U a b c P-R Q-R R-PQ U-ST cross one other = record {
    adds = (
      one.adds.0 ++ other.adds.0,
      other.adds.1 ∙ (ap (λ (xs : List Line). xs ++ other.adds.0) one.adds.1 ∙ append_assoc a one.adds.0 other.adds.0),
      meant_both P Q R P-R Q-R R-PQ one.adds.0 other.adds.0 one.adds.2 other.adds.2 cross,
    );
    clear = λ flaw sought is. either_clear S T flaw one.clear other.clear (U-ST flaw sought is) is;
  }

  pub surveys_same : (P Q : Line → Type 0) (S T : Flaw → Type 0) (a b : List Line) → ((line : Line) → P line → Q line) → ((line : Line) → Q line → P line)
      → ((flaw : Flaw) → T flaw → IsFlaw model decisions state flaw → S flaw) → Surveys model decisions state P S a b → Surveys model decisions state Q T a b
  surveys_same P Q S T a b P-Q Q-P T-S one = record {
    adds = (
      one.adds.0,
      one.adds.1,
      record {
        order = one.adds.2.order;
        only = λ line there. P-Q line (one.adds.2.only line there);
        each = λ line is. one.adds.2.each line (Q-P line is);
      },
    );
    clear = λ flaw sought is. one.clear flaw (T-S flaw sought is) is;
  }

  -- ---- one number after another

  module _ (P : ℕ → Line → Type 0) (S : ℕ → Flaw → Type 0) where
    pub surveys_start : (list : List Line) → Surveys model decisions state (UpTo P 0) (UpTo S 0) list list
    surveys_start list =
        surveys_none (UpTo P 0) (UpTo S 0) list (λ line is. omega (arith, is.1)) (λ flaw is. absurd (omega (arith, is.1)))

    last_or_before : {X : Type 0} (Is : ℕ → X → Type 0) (count : ℕ) (x : X) → UpTo Is (count + 1) x → UpTo Is count x ⊎ Is count x
    last_or_before Is count x up = elim (cases_lt up.0 count) [
      | inl below ↦ inl (up.0, below, up.2)
      | inr not ↦
          let same : up.0 ≡ count = omega (arith, up.1) in
          inr (subst (λ n. Is n x) same up.2)
    ]

    pub surveys_more : (count : ℕ) (a b c : List Line) → ((m n : ℕ) (x y : Line) → m < n → P m x → P n y → IsLineBefore x y)
        → Surveys model decisions state (UpTo P count) (UpTo S count) a b → Surveys model decisions state (P count) (S count) b c
        → Surveys model decisions state (UpTo P (count + 1)) (UpTo S (count + 1)) a c
    surveys_more count a b c cross before last =
        surveys_both (UpTo P count) (P count) (UpTo P (count + 1)) (UpTo S count) (S count) (UpTo S (count + 1)) a b c
        (λ line up. (up.0, omega (arith, up.1), up.2)) (λ line is. (count, omega arith, is)) (λ line up. last_or_before P count line up)
        (λ flaw up is. last_or_before S count flaw up) (λ x y up is. cross up.0 count x y up.1 up.2 is) before last

    pub surveys_all : (count : ℕ) (a b : List Line) → ((number : ℕ) (line : Line) → P number line → number < count)
        → ((number : ℕ) (flaw : Flaw) → S number flaw → IsFlaw model decisions state flaw → number < count)
        → Surveys model decisions state (UpTo P count) (UpTo S count) a b
        → Surveys model decisions state (λ line. (number : ℕ) × P number line) (λ flaw. (number : ℕ) × S number flaw) a b
    surveys_all count a b lines flaws up =
        surveys_same (UpTo P count) (λ line. (number : ℕ) × P number line) (UpTo S count) (λ flaw. (number : ℕ) × S number flaw) a b
        (λ line is. (is.0, is.2)) (λ line is. (is.0, lines is.0 line is.1, is.1)) (λ flaw sought is. (sought.0, flaws sought.0 flaw sought.1 is, sought.1)) up

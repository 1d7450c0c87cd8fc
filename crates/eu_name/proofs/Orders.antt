-- That tokens and variables are in total orders, and what comparisons of their parts say of them.
use Rattle.std.proofs.Common.{◌≡◌, ℕ, ◌<◌, ◌⊎◌, ◌↔◌, List, [], ◌∷◌, length, Ordering, refl, sym, subst, ◌∙◌, ap, inl, inr, arith}
use Rattle.std.specs.Cmp.Lexicographic.{slice_cmp}
use Rattle.std.specs.Ordering.{MatchOrdering, ordering_then, nat_cmp}
use Rattle.std.specs.declared.cmp.Ordering.TheVariants.{Less, Equal, Greater}
use Rattle.std.proofs.lemmas.Bool.{cases_lt}
use Rattle.std.proofs.lemmas.Cmp.{ranked}
use Rattle.eu_name.specs.declared.name.Step.{Step}
use Rattle.eu_name.specs.declared.name.TokenName.{TokenName}
use Rattle.eu_name.specs.declared.name.Part.{Part}
use Rattle.eu_name.specs.declared.name.Part.TheVariants.{Start, End, Duration, Object, Param}
use Rattle.eu_name.specs.declared.name.VarName.{VarName}
use Rattle.eu_name.specs.declared.name.VarName.TheVariants.{Token, Local, Global}
use Rattle.eu_name.specs.NameOrder.{ByNumber, IsStepBefore, AreStepsBefore, IsTokenBefore, ByToken, place_of, IsVarBefore, IsStrictTotalOrder}

-- ---- numbers

-- which of two numbers is lower
data Compared (m n : ℕ) : Type 0 where
  lower : m < n → Compared m n
  equal : m ≡ n → Compared m n
  higher : n < m → Compared m n

compared : (m n : ℕ) → Compared m n
compared m n = elim (cases_lt m n) [
  | inl below ↦ lower below
  | inr above ↦ elim (cases_lt n m) [ inl below ↦ higher below | inr other ↦ equal (omega arith) ]
]

pub number_irreflexive : (n : ℕ) (P : Type 0) → (P → ⊥) → ByNumber n n P → ⊥
number_irreflexive n P none (inl below) = omega arith
number_irreflexive n P none (inr tied) = none tied.1

pub number_transitive : (l m n : ℕ) (P Q R : Type 0) → (P → Q → R) → ByNumber l m P → ByNumber m n Q → ByNumber l n R
number_transitive l m n P Q R both (inl p) (inl q) = inl (omega arith)
number_transitive l m n P Q R both (inl p) (inr q) = inl (omega (arith, q.0))
number_transitive l m n P Q R both (inr p) (inl q) = inl (omega (arith, p.0))
number_transitive l m n P Q R both (inr p) (inr q) = inr (p.0 ∙ q.0, both p.1 q.1)

-- one of two things comes first, or they are equal
abbrev Totally : Type 0 → Type 0 → Type 0 → Type 0
Totally P E Q = P ⊎ (E ⊎ Q)

number_total : (m n : ℕ) (P E Q : Type 0) → (m ≡ n → Totally P E Q) → Totally (ByNumber m n P) E (ByNumber n m Q)
number_total m n P E Q tied = elim (compared m n) [
  | lower below ↦ inl (inl below)
  | higher above ↦ inr (inr (inl above))
  | equal e ↦ elim (tied e) [
    | inl p ↦ inl (inr (e, p))
    | inr (inl even) ↦ inr (inl even)
    | inr (inr q) ↦ inr (inr (inr (sym e, q)))
  ]
]

-- what a comparison of numbers says, and then another one
number_ranked : (m n : ℕ) (P E Q : Type 0) (first then : Ordering) → MatchOrdering first (m < n) (m ≡ n) (n < m) → (m ≡ n → MatchOrdering then P E Q) → MatchOrdering (ordering_then first then) (ByNumber m n P) E (ByNumber n m Q)
number_ranked m n P E Q Less then is tied = inl is
number_ranked m n P E Q Equal Less is tied = inr (is, tied is)
number_ranked m n P E Q Equal Equal is tied = tied is
number_ranked m n P E Q Equal Greater is tied = inr (sym is, tied is)
number_ranked m n P E Q Greater then is tied = inl is

-- ---- steps

pub step_same : (a b : Step) → a.rule ≡ b.rule → a.slot ≡ b.slot → a ≡ b
step_same a b rules slots = λ i. record { rule = rules i; slot = slots i }

step_order : IsStrictTotalOrder IsStepBefore
step_order = record {
  irreflexive = λ a. number_irreflexive a.rule (a.slot < a.slot) (λ below. omega arith);
  transitive = λ a b c. number_transitive a.rule b.rule c.rule (a.slot < b.slot) (b.slot < c.slot) (a.slot < c.slot) (λ p q. omega arith);
  total = λ a b. number_total a.rule b.rule (a.slot < b.slot) (a ≡ b) (b.slot < a.slot) (λ rules. elim (compared a.slot b.slot) [
    | lower below ↦ inl below
    | equal e ↦ inr (inl (step_same a b rules e))
    | higher above ↦ inr (inr above)
  ]);
}

steps_irreflexive : (steps : List Step) → AreStepsBefore steps steps → ⊥
steps_irreflexive [] before = before
steps_irreflexive (a ∷ steps) (inl first) = step_order.irreflexive a first
steps_irreflexive (a ∷ steps) (inr rest) = steps_irreflexive steps rest.1

steps_transitive : (one two three : List Step) → AreStepsBefore one two → AreStepsBefore two three → AreStepsBefore one three
steps_transitive [] two three p q = absurd p
steps_transitive (a ∷ one) [] three p q = absurd p
steps_transitive (a ∷ one) (b ∷ two) [] p q = absurd q
steps_transitive (a ∷ one) (b ∷ two) (c ∷ three) (inl p) (inl q) = inl (step_order.transitive a b c p q)
steps_transitive (a ∷ one) (b ∷ two) (c ∷ three) (inl p) (inr q) = inl (subst (λ (s : Step). IsStepBefore a s) q.0 p)
steps_transitive (a ∷ one) (b ∷ two) (c ∷ three) (inr p) (inl q) = inl (subst (λ (s : Step). IsStepBefore s c) (sym p.0) q)
steps_transitive (a ∷ one) (b ∷ two) (c ∷ three) (inr p) (inr q) = inr (p.0 ∙ q.0, steps_transitive one two three p.1 q.1)

-- what is known of the first steps, and then of the others
steps_total_at : (a b : Step) (steps others : List Step) → Totally (IsStepBefore a b) (a ≡ b) (IsStepBefore b a) → Totally (AreStepsBefore steps others) (steps ≡ others) (AreStepsBefore others steps)
    → Totally (AreStepsBefore (a ∷ steps) (b ∷ others)) ((a ∷ steps) ≡ (b ∷ others)) (AreStepsBefore (b ∷ others) (a ∷ steps))
steps_total_at a b steps others (inl first) rest = inl (inl first)
steps_total_at a b steps others (inr (inr first)) rest = inr (inr (inl first))
steps_total_at a b steps others (inr (inl e)) (inl p) = inl (inr (e, p))
steps_total_at a b steps others (inr (inl e)) (inr (inl same)) = inr (inl (cc))
steps_total_at a b steps others (inr (inl e)) (inr (inr q)) = inr (inr (inr (sym e, q)))

steps_total : (steps others : List Step) → length steps ≡ length others → Totally (AreStepsBefore steps others) (steps ≡ others) (AreStepsBefore others steps)
steps_total [] [] lengths = inr (inl refl)
steps_total [] (b ∷ others) lengths = absurd (omega arith)
steps_total (a ∷ steps) [] lengths = absurd (omega arith)
steps_total (a ∷ steps) (b ∷ others) lengths = steps_total_at a b steps others (step_order.total a b) (steps_total steps others (omega arith))

-- what a comparison of steps in turn says
abbrev step_cmp : Step → Step → Ordering
step_cmp a b = ordering_then (nat_cmp a.rule b.rule) (nat_cmp a.slot b.slot)

slots_ranked : (a b : Step) (o : Ordering) → MatchOrdering o (a.slot < b.slot) (a.slot ≡ b.slot) (b.slot < a.slot) → a.rule ≡ b.rule → MatchOrdering o (a.slot < b.slot) (a ≡ b) (b.slot < a.slot)
slots_ranked a b Less is rules = is
slots_ranked a b Equal is rules = step_same a b rules is
slots_ranked a b Greater is rules = is

step_ranked : (a b : Step) → MatchOrdering (step_cmp a b) (IsStepBefore a b) (a ≡ b) (IsStepBefore b a)
step_ranked a b = number_ranked a.rule b.rule (a.slot < b.slot) (a ≡ b) (b.slot < a.slot) (nat_cmp a.rule b.rule) (nat_cmp a.slot b.slot) (ranked a.rule b.rule (nat_cmp a.rule b.rule) refl)
    (slots_ranked a b (nat_cmp a.slot b.slot) (ranked a.slot b.slot (nat_cmp a.slot b.slot) refl))

steps_ranked_at : (a b : Step) (steps others : List Step) (first then : Ordering) → MatchOrdering first (IsStepBefore a b) (a ≡ b) (IsStepBefore b a) → MatchOrdering then (AreStepsBefore steps others) (steps ≡ others) (AreStepsBefore others steps)
    → MatchOrdering (ordering_then first then) (AreStepsBefore (a ∷ steps) (b ∷ others)) ((a ∷ steps) ≡ (b ∷ others)) (AreStepsBefore (b ∷ others) (a ∷ steps))
steps_ranked_at a b steps others Less then is rest = inl is
steps_ranked_at a b steps others Equal Less is rest = inr (is, rest)
steps_ranked_at a b steps others Equal Equal is rest = cc
steps_ranked_at a b steps others Equal Greater is rest = inr (sym is, rest)
steps_ranked_at a b steps others Greater then is rest = inl is

pub steps_ranked : (steps others : List Step) → length steps ≡ length others → MatchOrdering (slice_cmp step_cmp steps others) (AreStepsBefore steps others) (steps ≡ others) (AreStepsBefore others steps)
steps_ranked [] [] lengths = refl
steps_ranked [] (b ∷ others) lengths = absurd (omega arith)
steps_ranked (a ∷ steps) [] lengths = absurd (omega arith)
steps_ranked (a ∷ steps) (b ∷ others) lengths = steps_ranked_at a b steps others (step_cmp a b) (slice_cmp step_cmp steps others) (step_ranked a b) (steps_ranked steps others (omega arith))

-- ---- tokens

token_same : (a b : TokenName) → a.root ≡ b.root → a.steps ≡ b.steps → a ≡ b
token_same a b roots steps = λ i. record { root = roots i; steps = steps i }

pub token_order : IsStrictTotalOrder IsTokenBefore
token_order = record {
  irreflexive = λ a. number_irreflexive (length a.steps) (ByNumber a.root a.root (AreStepsBefore a.steps a.steps)) (number_irreflexive a.root (AreStepsBefore a.steps a.steps) (steps_irreflexive a.steps));
  transitive = λ a b c. number_transitive (length a.steps) (length b.steps) (length c.steps) _ _ _ (number_transitive a.root b.root c.root _ _ _ (steps_transitive a.steps b.steps c.steps));
  total = λ a b. number_total (length a.steps) (length b.steps) _ (a ≡ b) _ (λ lengths. number_total a.root b.root _ (a ≡ b) _ (λ roots. elim (steps_total a.steps b.steps lengths) [
    | inl p ↦ inl p
    | inr (inl same) ↦ inr (inl (token_same a b roots same))
    | inr (inr q) ↦ inr (inr q)
  ]));
}

-- what the comparisons of tokens by number of steps, root and steps say together
token_ranked : (a b : TokenName) → MatchOrdering (ordering_then (nat_cmp (length a.steps) (length b.steps)) (ordering_then (nat_cmp a.root b.root) (slice_cmp step_cmp a.steps b.steps))) (IsTokenBefore a b) (a ≡ b) (IsTokenBefore b a)
token_ranked a b =
    number_ranked (length a.steps) (length b.steps) _ (a ≡ b) _ _ _ (ranked (length a.steps) (length b.steps) _ refl) (λ lengths.
    number_ranked a.root b.root _ (a ≡ b) _ _ _ (ranked a.root b.root _ refl) (λ roots. steps_same_ranked a b (slice_cmp step_cmp a.steps b.steps) roots (steps_ranked a.steps b.steps lengths)))
  where
    steps_same_ranked : (a b : TokenName) (o : Ordering) → a.root ≡ b.root → MatchOrdering o (AreStepsBefore a.steps b.steps) (a.steps ≡ b.steps) (AreStepsBefore b.steps a.steps) → MatchOrdering o (AreStepsBefore a.steps b.steps) (a ≡ b) (AreStepsBefore b.steps a.steps)
    steps_same_ranked a b Less roots is = is
    steps_same_ranked a b Equal roots is = token_same a b roots is
    steps_same_ranked a b Greater roots is = is

-- ---- what an answer that ranks two things says exactly

pub record Exactly {A : Type 0} (before : A → A → Type 0) (a b : A) (o : Ordering) : Type 0 where
  pub less : (o ≡ Less) ↔ before a b
  pub equal : (o ≡ Equal) ↔ (a ≡ b)
  pub greater : (o ≡ Greater) ↔ before b a

exactly : {A : Type 0} (before : A → A → Type 0) → IsStrictTotalOrder before → (a b : A) (o : Ordering) → MatchOrdering o (before a b) (a ≡ b) (before b a) → Exactly before a b o
exactly before law a b Less is = record {
  less = (λ _. is, λ _. refl);
  equal = (λ e. cc, λ same. absurd (law.irreflexive b (subst (λ x. before x b) same is)));
  greater = (λ e. cc, λ other. absurd (law.irreflexive a (law.transitive a b a is other)));
}
exactly before law a b Equal is = record {
  less = (λ e. cc, λ first. absurd (law.irreflexive b (subst (λ x. before x b) is first)));
  equal = (λ _. is, λ _. refl);
  greater = (λ e. cc, λ second. absurd (law.irreflexive b (subst (λ x. before b x) is second)));
}
exactly before law a b Greater is = record {
  less = (λ e. cc, λ other. absurd (law.irreflexive a (law.transitive a b a other is)));
  equal = (λ e. cc, λ same. absurd (law.irreflexive b (subst (λ x. before b x) same is)));
  greater = (λ _. is, λ _. refl);
}

token_exactly : (a b : TokenName) (o : Ordering) → o ≡ ordering_then (nat_cmp (length a.steps) (length b.steps)) (ordering_then (nat_cmp a.root b.root) (slice_cmp step_cmp a.steps b.steps)) → Exactly IsTokenBefore a b o
token_exactly a b o is = exactly IsTokenBefore token_order a b o (subst (λ (x : Ordering). MatchOrdering x (IsTokenBefore a b) (a ≡ b) (IsTokenBefore b a)) (sym is) (token_ranked a b))

-- what a comparison of tokens says, from those of their parts
pub token_compared : (a b : TokenName) (m n : ℕ) (steps others : List Step) (by_count by_root by_step inner whole : Ordering) → m ≡ length a.steps → n ≡ length b.steps → steps ≡ a.steps → others ≡ b.steps
    → by_count ≡ nat_cmp m n → by_root ≡ nat_cmp a.root b.root → by_step ≡ slice_cmp step_cmp steps others → inner ≡ ordering_then by_root by_step → whole ≡ ordering_then by_count inner → Exactly IsTokenBefore a b whole
token_compared a b m n steps others by_count by_root by_step inner whole counted counted' kept kept' c r s i w = token_exactly a b whole (rw (w, i, c, r, s, counted, counted', kept, kept') refl)

-- ---- variables

pub token_irreflexive : (a : TokenName) (P : Type 0) → (P → ⊥) → ByToken a a P → ⊥
token_irreflexive a P none (inl before) = token_order.irreflexive a before
token_irreflexive a P none (inr tied) = none tied.1

pub token_transitive : (a b c : TokenName) (P Q R : Type 0) → (P → Q → R) → ByToken a b P → ByToken b c Q → ByToken a c R
token_transitive a b c P Q R both (inl p) (inl q) = inl (token_order.transitive a b c p q)
token_transitive a b c P Q R both (inl p) (inr q) = inl (subst (λ (t : TokenName). IsTokenBefore a t) q.0 p)
token_transitive a b c P Q R both (inr p) (inl q) = inl (subst (λ (t : TokenName). IsTokenBefore t c) (sym p.0) q)
token_transitive a b c P Q R both (inr p) (inr q) = inr (p.0 ∙ q.0, both p.1 q.1)

token_total : (a b : TokenName) (P E Q : Type 0) → (a ≡ b → Totally P E Q) → Totally (ByToken a b P) E (ByToken b a Q)
token_total a b P E Q tied = elim (token_order.total a b) [
  | inl first ↦ inl (inl first)
  | inr (inr second) ↦ inr (inr (inl second))
  | inr (inl e) ↦ elim (tied e) [
    | inl p ↦ inl (inr (e, p))
    | inr (inl even) ↦ inr (inl even)
    | inr (inr q) ↦ inr (inr (inr (sym e, q)))
  ]
]

-- parts at one place are one part
part_same : (p q : Part) → place_of p ≡ place_of q → p ≡ q
part_same Object Object e = refl
part_same Object Start e = absurd (omega arith)
part_same Object End e = absurd (omega arith)
part_same Object Duration e = absurd (omega arith)
part_same Object (Param n) e = absurd (omega arith)
part_same Start Object e = absurd (omega arith)
part_same Start Start e = refl
part_same Start End e = absurd (omega arith)
part_same Start Duration e = absurd (omega arith)
part_same Start (Param n) e = absurd (omega arith)
part_same End Object e = absurd (omega arith)
part_same End Start e = absurd (omega arith)
part_same End End e = refl
part_same End Duration e = absurd (omega arith)
part_same End (Param n) e = absurd (omega arith)
part_same Duration Object e = absurd (omega arith)
part_same Duration Start e = absurd (omega arith)
part_same Duration End e = absurd (omega arith)
part_same Duration Duration e = refl
part_same Duration (Param n) e = absurd (omega arith)
part_same (Param m) Object e = absurd (omega arith)
part_same (Param m) Start e = absurd (omega arith)
part_same (Param m) End e = absurd (omega arith)
part_same (Param m) Duration e = absurd (omega arith)
part_same (Param m) (Param n) e = let same : m ≡ n = omega arith in ap Param same

var_irreflexive : (x : VarName) → IsVarBefore x x → ⊥
var_irreflexive (Global m) before = omega arith
var_irreflexive (Token a p) before = token_irreflexive a _ (λ below. omega arith) before
var_irreflexive (Local a r m) before = token_irreflexive a _ (number_irreflexive r (m < m) (λ below. omega arith)) before

var_transitive : (x y z : VarName) → IsVarBefore x y → IsVarBefore y z → IsVarBefore x z
var_transitive (Global l) (Global m) (Global n) p q = omega arith
var_transitive (Global l) y (Token c u) p q = tt
var_transitive (Global l) y (Local c t n) p q = tt
var_transitive (Global l) (Token b v) (Global n) p q = absurd q
var_transitive (Global l) (Local b s m) (Global n) p q = absurd q
var_transitive (Token a p') (Global m) z p q = absurd p
var_transitive (Local a r l) (Global m) z p q = absurd p
var_transitive (Token a w) (Token b v) (Global n) p q = absurd q
var_transitive (Token a w) (Local b s m) (Global n) p q = absurd q
var_transitive (Local a r l) (Token b v) (Global n) p q = absurd q
var_transitive (Local a r l) (Local b s m) (Global n) p q = absurd q
var_transitive (Token a w) (Token b v) (Token c u) p q = token_transitive a b c _ _ _ (λ i j. omega arith) p q
var_transitive (Token a w) (Token b v) (Local c t n) p q = token_transitive a b c _ _ _ (λ i j. tt) p q
var_transitive (Token a w) (Local b s m) (Token c u) p q = token_transitive a b c _ _ _ (λ i j. absurd j) p q
var_transitive (Token a w) (Local b s m) (Local c t n) p q = token_transitive a b c _ _ _ (λ i j. tt) p q
var_transitive (Local a r l) (Token b v) (Token c u) p q = token_transitive a b c _ _ _ (λ i j. absurd i) p q
var_transitive (Local a r l) (Token b v) (Local c t n) p q = token_transitive a b c _ _ _ (λ i j. absurd i) p q
var_transitive (Local a r l) (Local b s m) (Token c u) p q = token_transitive a b c _ _ _ (λ i j. absurd j) p q
var_transitive (Local a r l) (Local b s m) (Local c t n) p q = token_transitive a b c _ _ _ (number_transitive r s t _ _ _ (λ i j. omega arith)) p q

part_total : (a b : TokenName) (p q : Part) → a ≡ b → Totally (place_of p < place_of q) (Token a p ≡ Token b q) (place_of q < place_of p)
part_total a b p q tokens = elim (compared (place_of p) (place_of q)) [
  | lower below ↦ inl below
  | equal e ↦ (let parts : p ≡ q = part_same p q e in inr (inl (cc)))
  | higher above ↦ inr (inr above)
]

local_total : (a b : TokenName) (r s m n : ℕ) → a ≡ b → Totally (ByNumber r s (m < n)) (Local a r m ≡ Local b s n) (ByNumber s r (n < m))
local_total a b r s m n tokens = number_total r s _ _ _ (λ rules. elim (compared m n) [
  | lower below ↦ inl below
  | equal e ↦ inr (inl (cc))
  | higher above ↦ inr (inr above)
])

var_total : (x y : VarName) → Totally (IsVarBefore x y) (x ≡ y) (IsVarBefore y x)
var_total (Global m) (Global n) = elim (compared m n) [ lower below ↦ inl below | equal e ↦ inr (inl (ap Global e)) | higher above ↦ inr (inr above) ]
var_total (Global m) (Token b q) = inl tt
var_total (Global m) (Local b s n) = inl tt
var_total (Token a p) (Global n) = inr (inr tt)
var_total (Local a r m) (Global n) = inr (inr tt)
var_total (Token a p) (Token b q) = token_total a b _ _ _ (part_total a b p q)
var_total (Token a p) (Local b s n) = token_total a b _ _ _ (λ _. inl tt)
var_total (Local a r m) (Token b q) = token_total a b _ _ _ (λ _. inr (inr tt))
var_total (Local a r m) (Local b s n) = token_total a b _ _ _ (local_total a b r s m n)

pub var_order : IsStrictTotalOrder IsVarBefore
var_order = record { irreflexive = var_irreflexive; transitive = var_transitive; total = var_total }

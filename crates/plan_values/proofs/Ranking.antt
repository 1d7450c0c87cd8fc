-- What comparisons of the parts of names say together.
use Rattle.std.proofs.Common.{◌≡◌, ℕ, ◌<◌, List, [], ◌∷◌, ◌++◌, length, Ordering, refl, sym, subst, inl, inr, arith, length-append}
use Rattle.std.specs.Cmp.Lexicographic.{slice_cmp}
use Rattle.std.specs.Ordering.{MatchOrdering, ordering_then, nat_cmp}
use Rattle.std.specs.declared.cmp.Ordering.TheVariants.{Less, Equal, Greater}
use Rattle.std.proofs.lemmas.Cmp.{ranked}
use Rattle.eu_name.specs.declared.name.Step.{Step}
use Rattle.eu_name.specs.declared.name.TokenName.{TokenName}
use Rattle.eu_name.specs.NameOrder.{ByNumber, IsStepBefore, AreStepsBefore, IsTokenBefore, ByToken}
use Rattle.eu_name.proofs.Orders.{steps_ranked}
use Rattle.model_core.specs.Names.{token_at}

-- what a comparison of numbers says, and then another one
pub number_ranked : (m n : ℕ) (P E Q : Type 0) (first then : Ordering) → MatchOrdering first (m < n) (m ≡ n) (n < m) → (m ≡ n → MatchOrdering then P E Q)
    → MatchOrdering (ordering_then first then) (ByNumber m n P) E (ByNumber n m Q)
number_ranked m n P E Q Less then is tied = inl is
number_ranked m n P E Q Equal Less is tied = inr (is, tied is)
number_ranked m n P E Q Equal Equal is tied = tied is
number_ranked m n P E Q Equal Greater is tied = inr (sym is, tied is)
number_ranked m n P E Q Greater then is tied = inl is

-- what a comparison of tokens says, and then another one
pub token_ranked : (a b : TokenName) (P E Q : Type 0) (first then : Ordering) → MatchOrdering first (IsTokenBefore a b) (a ≡ b) (IsTokenBefore b a) → (a ≡ b → MatchOrdering then P E Q)
    → MatchOrdering (ordering_then first then) (ByToken a b P) E (ByToken b a Q)
token_ranked a b P E Q Less then is tied = inl is
token_ranked a b P E Q Equal Less is tied = inr (is, tied is)
token_ranked a b P E Q Equal Equal is tied = tied is
token_ranked a b P E Q Equal Greater is tied = inr (sym is, tied is)
token_ranked a b P E Q Greater then is tied = inl is

abbrev step_cmp : Step → Step → Ordering
step_cmp a b = ordering_then (nat_cmp a.rule b.rule) (nat_cmp a.slot b.slot)

token_same : (a b : TokenName) → a.root ≡ b.root → a.steps ≡ b.steps → a ≡ b
token_same a b roots steps = λ i. record { root = roots i; steps = steps i }

of_steps : (a b : TokenName) (o : Ordering) → a.root ≡ b.root → MatchOrdering o (AreStepsBefore a.steps b.steps) (a.steps ≡ b.steps) (AreStepsBefore b.steps a.steps)
    → MatchOrdering o (AreStepsBefore a.steps b.steps) (a ≡ b) (AreStepsBefore b.steps a.steps)
of_steps a b Less roots is = is
of_steps a b Equal roots is = token_same a b roots is
of_steps a b Greater roots is = is

-- what the comparisons of tokens by number of steps, root and steps say together
parts_ranked : (a b : TokenName)
    → MatchOrdering (ordering_then (nat_cmp (length a.steps) (length b.steps)) (ordering_then (nat_cmp a.root b.root) (slice_cmp step_cmp a.steps b.steps))) (IsTokenBefore a b) (a ≡ b) (IsTokenBefore b a)
parts_ranked a b =
    number_ranked (length a.steps) (length b.steps) _ (a ≡ b) _ _ _ (ranked (length a.steps) (length b.steps) _ refl) (λ lengths.
    number_ranked a.root b.root _ (a ≡ b) _ _ _ (ranked a.root b.root _ refl) (λ roots. of_steps a b (slice_cmp step_cmp a.steps b.steps) roots (steps_ranked a.steps b.steps lengths)))

pub parts_compared : (root other : ℕ) (steps others : List Step) (m n : ℕ) (by_count by_root by_step inner whole : Ordering) → m ≡ length steps → n ≡ length others
    → by_count ≡ nat_cmp m n → by_root ≡ nat_cmp root other → by_step ≡ slice_cmp step_cmp steps others → inner ≡ ordering_then by_root by_step → whole ≡ ordering_then by_count inner
    → MatchOrdering whole (IsTokenBefore (token_at root steps) (token_at other others)) (token_at root steps ≡ token_at other others) (IsTokenBefore (token_at other others) (token_at root steps))
parts_compared root other steps others m n by_count by_root by_step inner whole counted counted' c r s i w =
    subst (λ (o : Ordering). MatchOrdering o (IsTokenBefore (token_at root steps) (token_at other others)) (token_at root steps ≡ token_at other others) (IsTokenBefore (token_at other others) (token_at root steps)))
    (sym (rw (w, i, c, r, s, counted, counted') refl)) (parts_ranked (token_at root steps) (token_at other others))

-- ---- one more step

-- what comes first does so whatever comes behind
before_more : (xs ys us vs : List Step) → AreStepsBefore xs ys → AreStepsBefore (xs ++ us) (ys ++ vs)
before_more [] ys us vs before = absurd before
before_more (x ∷ xs) [] us vs before = absurd before
before_more (x ∷ xs) (y ∷ ys) us vs (inl first) = inl first
before_more (x ∷ xs) (y ∷ ys) us vs (inr rest) = inr (rest.0, before_more xs ys us vs rest.1)

-- behind equal steps the next one decides
before_last : (xs : List Step) (a b : Step) → IsStepBefore a b → AreStepsBefore (xs ++ a ∷ []) (xs ++ b ∷ [])
before_last [] a b first = inl first
before_last (x ∷ xs) a b first = inr (refl, before_last xs a b first)

abbrev more : TokenName → Step → TokenName
more a s = token_at a.root (a.steps ++ s ∷ [])

by_parts : (a b : TokenName) (s t : Step) → IsTokenBefore a b → IsTokenBefore (more a s) (more b t)
by_parts a b s t (inl fewer) = inl (omega (arith, fewer, length-append a.steps (s ∷ []), length-append b.steps (t ∷ [])))
by_parts a b s t (inr (even, inl root)) = inr (omega (arith, even, length-append a.steps (s ∷ []), length-append b.steps (t ∷ [])), inl root)
by_parts a b s t (inr (even, inr (root, steps))) = inr (
  omega (arith, even, length-append a.steps (s ∷ []), length-append b.steps (t ∷ [])),
  inr (root, before_more a.steps b.steps (s ∷ []) (t ∷ []) steps),
)

by_last : (a b : TokenName) (s t : Step) → a ≡ b → IsStepBefore s t → IsTokenBefore (more a s) (more b t)
by_last a b s t same first =
    subst (λ (c : TokenName). IsTokenBefore (more a s) (more c t)) same
    (inr (omega (arith, length-append a.steps (s ∷ []), length-append a.steps (t ∷ [])), inr (refl, before_last a.steps s t first)))

-- what a comparison of tokens says, and then one of a last step each
pub more_ranked : (a b : TokenName) (s t : Step) (first then : Ordering)
    → MatchOrdering first (IsTokenBefore a b) (a ≡ b) (IsTokenBefore b a) → MatchOrdering then (IsStepBefore s t) (s ≡ t) (IsStepBefore t s)
    → MatchOrdering (ordering_then first then) (IsTokenBefore (more a s) (more b t)) (more a s ≡ more b t) (IsTokenBefore (more b t) (more a s))
more_ranked a b s t Less then is next = by_parts a b s t is
more_ranked a b s t Equal Less is next = by_last a b s t is next
more_ranked a b s t Equal Equal is next = λ i. more (is i) (next i)
more_ranked a b s t Equal Greater is next = by_last b a t s (sym is) next
more_ranked a b s t Greater then is next = by_parts b a t s is

pub asked_ranked : (root other : ℕ) (steps others front : List Step) (s t : Step) (first then whole : Ordering) → others ≡ front ++ t ∷ []
    → MatchOrdering first (IsTokenBefore (token_at root steps) (token_at other front)) (token_at root steps ≡ token_at other front) (IsTokenBefore (token_at other front) (token_at root steps))
    → MatchOrdering then (IsStepBefore s t) (s ≡ t) (IsStepBefore t s) → whole ≡ ordering_then first then
    → MatchOrdering whole (IsTokenBefore (token_at root (steps ++ s ∷ [])) (token_at other others)) (token_at root (steps ++ s ∷ []) ≡ token_at other others)
    (IsTokenBefore (token_at other others) (token_at root (steps ++ s ∷ [])))
asked_ranked root other steps others front s t first then whole are is next same =
    let a = token_at root (steps ++ s ∷ []) in
    subst (λ (xs : List Step). MatchOrdering whole (IsTokenBefore a (token_at other xs)) (a ≡ token_at other xs) (IsTokenBefore (token_at other xs) a)) (sym are)
    (subst (λ (o : Ordering). MatchOrdering o (IsTokenBefore a (token_at other (front ++ t ∷ []))) (a ≡ token_at other (front ++ t ∷ [])) (IsTokenBefore (token_at other (front ++ t ∷ [])) a)) (sym same)
    (more_ranked (token_at root steps) (token_at other front) s t first then is next))

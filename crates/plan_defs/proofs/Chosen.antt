-- Numbers for the tokens of a list, from those for the tokens of a longer one.
use Rattle.std.proofs.Common.{◌≡◌, ℤ, pos, ◌+ℤ◌, List, [], ◌∷◌, inl, inr, refl, sym, subst, arith}
use Rattle.std.proofs.lemmas.Int.{ints}
use Rattle.std.specs.Prelude.{Contains, AllPairs}
use Rattle.std.specs.List.{AllZip}
use Rattle.eu_name.specs.declared.name.TokenName.{TokenName}
use Rattle.eu_name.specs.NameOrder.{IsTokenBefore}
use Rattle.eu_name.proofs.Orders.{token_order}
use Rattle.plan_defs.specs.Sums.{sum_of}
use Rattle.eu_name.proofs.Ordered.{contains_head, contains_later, contains_cases, contains_none, ordered_head, ordered_tail}

-- how two sums lie to each other: a number more on both sides leaves it so, and so does one on the left that counts for nothing
pub record Leans (Lies : ℤ → ℤ → Type 0) (Idle : ℤ → Type 0) : Type 0 where
  pub start : Lies (pos 0) (pos 0)
  pub both : (number one other : ℤ) → Lies one other → Lies (number +ℤ one) (number +ℤ other)
  pub more : (number one other : ℤ) → Idle number → Lies one other → Lies (number +ℤ one) other

-- a token that comes before all of the shorter list isn't in it
pub not_there : (token first : TokenName) (short : List TokenName) → AllPairs IsTokenBefore (first ∷ short) → IsTokenBefore token first → Contains (first ∷ short) token → ⊥
not_there token first short q before c = elim (contains_cases first token short c) [
  | inl same ↦ token_order.irreflexive token (subst (IsTokenBefore token) same before)
  | inr later ↦ token_order.irreflexive token (token_order.transitive token first token before (ordered_head IsTokenBefore first short q token later))
]

-- behind the first token of the longer list, where the shorter one has none of it
pub within_later : (token : TokenName) (long short : List TokenName) → ((other : TokenName) → Contains short other → Contains (token ∷ long) other)
    → (Contains short token → ⊥) → (other : TokenName) → Contains short other → Contains long other
within_later token long short within none other c = elim (contains_cases token other long (within other c)) [
  | inl same ↦ absurd (none (subst (Contains short) (sym same) c))
  | inr later ↦ later
]

pub within_tail : (token : TokenName) (long short : List TokenName) → AllPairs IsTokenBefore (token ∷ short)
    → ((other : TokenName) → Contains (token ∷ short) other → Contains (token ∷ long) other) → (other : TokenName) → Contains short other → Contains long other
within_tail token long short q within other c = elim (contains_cases token other long (within other (contains_later token other short c))) [
  | inl same ↦ absurd (token_order.irreflexive other (subst (λ (t : TokenName). IsTokenBefore t other) same (ordered_head IsTokenBefore token short q other c)))
  | inr later ↦ later
]

module _ (Lies : ℤ → ℤ → Type 0) (Idle : ℤ → Type 0) (leans : Leans Lies Idle) (Long Short : TokenName → ℤ → Type 0) where
  -- numbers for the shorter list, whose sum lies so to that of the longer one's
  pub record Chosen (short : List TokenName) (sum : ℤ) : Type 0 where
    pub numbers : List ℤ
    pub are : AllZip Short short numbers
    pub lies : Lies sum (sum_of numbers)

  -- what is known of the numbers of the longer list: those of the shorter list's tokens serve there, and the others are idle
  pub record Serve (long short : List TokenName) : Type 0 where
    pub shared : (token : TokenName) (number : ℤ) → Contains short token → Long token number → Short token number
    pub idle : (token : TokenName) (number : ℤ) → Contains long token → (Contains short token → ⊥) → Long token number → Idle number

  serve_both : (token : TokenName) (long short : List TokenName) → AllPairs IsTokenBefore (token ∷ long) → AllPairs IsTokenBefore (token ∷ short)
      → Serve (token ∷ long) (token ∷ short) → Serve long short
  serve_both token long short p q serve = record {
    shared = λ other number c. serve.shared other number (contains_later token other short c);
    idle = λ other number c none. serve.idle other number (contains_later token other long c) (λ there. elim (contains_cases token other short there) [
      | inl same ↦ token_order.irreflexive other (subst (λ (t : TokenName). IsTokenBefore t other) same (ordered_head IsTokenBefore token long p other c))
      | inr later ↦ none later
    ]);
  }

  serve_more : (token : TokenName) (long short : List TokenName) → Serve (token ∷ long) short → Serve long short
  serve_more token long short serve = record {
    shared = serve.shared;
    idle = λ other number c. serve.idle other number (contains_later token other long c);
  }

  pub chosen : (long short : List TokenName) → AllPairs IsTokenBefore long → AllPairs IsTokenBefore short
      → ((token : TokenName) → Contains short token → Contains long token) → Serve long short
      → (numbers : List ℤ) → AllZip Long long numbers → Chosen short (sum_of numbers)
  chosen [] [] p q within serve [] zip = record { numbers = []; are = tt; lies = leans.start }
  chosen [] (first ∷ short) p q within serve [] zip = absurd (contains_none first (within first (contains_head first short)))
  chosen [] short p q within serve (number ∷ numbers) zip = absurd zip
  chosen (token ∷ long) short p q within serve [] zip = absurd zip
  chosen (token ∷ long) [] p q within serve (number ∷ numbers) zip =
      let rest = chosen long [] (ordered_tail IsTokenBefore token long p) q (λ other c. absurd (contains_none other c)) (serve_more token long [] serve) numbers zip.1 in
      record {
        numbers = rest.numbers;
        are = rest.are;
        lies = leans.more number (sum_of numbers) (sum_of rest.numbers) (serve.idle token number (contains_head token long) (λ c. contains_none token c) zip.0) rest.lies;
      }
  chosen (token ∷ long) (first ∷ short) p q within serve (number ∷ numbers) zip = elim (token_order.total token first) [
    | inl before ↦ (
        let none = not_there token first short q before in
        let rest = chosen long (first ∷ short) (ordered_tail IsTokenBefore token long p) q (within_later token long (first ∷ short) within none)
        (serve_more token long (first ∷ short) serve) numbers zip.1 in
        record {
          numbers = rest.numbers;
          are = rest.are;
          lies = leans.more number (sum_of numbers) (sum_of rest.numbers) (serve.idle token number (contains_head token long) none zip.0) rest.lies;
        })
    | inr (inl same) ↦ (
        let q' : AllPairs IsTokenBefore (token ∷ short) = subst (λ (t : TokenName). AllPairs IsTokenBefore (t ∷ short)) (sym same) q in
        let within' = subst (λ (t : TokenName). (other : TokenName) → Contains (t ∷ short) other → Contains (token ∷ long) other) (sym same) within in
        let serve' = subst (λ (t : TokenName). Serve (token ∷ long) (t ∷ short)) (sym same) serve in
        let rest = chosen long short (ordered_tail IsTokenBefore token long p) (ordered_tail IsTokenBefore token short q') (within_tail token long short q' within')
        (serve_both token long short p q' serve') numbers zip.1 in
        record {
          numbers = number ∷ rest.numbers;
          are = (subst (λ (t : TokenName). Short t number) same (serve'.shared token number (contains_head token short) zip.0), rest.are);
          lies = leans.both number (sum_of numbers) (sum_of rest.numbers) rest.lies;
        })
    | inr (inr after) ↦ absurd (elim (contains_cases token first long (within first (contains_head first short))) [
      | inl same ↦ token_order.irreflexive first (subst (IsTokenBefore first) same after)
      | inr later ↦ token_order.irreflexive first (token_order.transitive first token first after (ordered_head IsTokenBefore token long p first later))
    ])
  ]

-- ---- the other way round

module _ (Short Long : TokenName → ℤ → Type 0) where
  -- numbers for the longer list, with the same sum
  pub record Filled (long : List TokenName) (sum : ℤ) : Type 0 where
    pub numbers : List ℤ
    pub are : AllZip Long long numbers
    pub same : sum_of numbers ≡ sum

  -- the numbers of the shorter list serve in the longer one, where 0 serves all others
  pub record Fill (short long : List TokenName) : Type 0 where
    pub shared : (token : TokenName) (number : ℤ) → Contains long token → Short token number → Long token number
    pub idle : (token : TokenName) → Contains long token → (Contains short token → ⊥) → Long token (pos 0)

  fill_more : (token : TokenName) (short long : List TokenName) → Fill short (token ∷ long) → Fill short long
  fill_more token short long fill = record {
    shared = λ other number c. fill.shared other number (contains_later token other long c);
    idle = λ other c. fill.idle other (contains_later token other long c);
  }

  fill_both : (token : TokenName) (short long : List TokenName) → AllPairs IsTokenBefore (token ∷ long) → Fill (token ∷ short) (token ∷ long) → Fill short long
  fill_both token short long p fill = record {
    shared = λ other number c. fill.shared other number (contains_later token other long c);
    idle = λ other c none. fill.idle other (contains_later token other long c) (λ there. elim (contains_cases token other short there) [
      | inl same ↦ token_order.irreflexive other (subst (λ (t : TokenName). IsTokenBefore t other) same (ordered_head IsTokenBefore token long p other c))
      | inr later ↦ none later
    ]);
  }

  pub filled : (long short : List TokenName) → AllPairs IsTokenBefore long → AllPairs IsTokenBefore short
      → ((token : TokenName) → Contains short token → Contains long token) → Fill short long
      → (numbers : List ℤ) → AllZip Short short numbers → Filled long (sum_of numbers)
  filled [] [] p q within fill [] zip = record { numbers = []; are = tt; same = refl }
  filled [] [] p q within fill (number ∷ numbers) zip = absurd zip
  filled [] (first ∷ short) p q within fill numbers zip = absurd (contains_none first (within first (contains_head first short)))
  filled (token ∷ long) [] p q within fill (number ∷ numbers) zip = absurd zip
  filled (token ∷ long) [] p q within fill [] zip =
      let rest = filled long [] (ordered_tail IsTokenBefore token long p) q (λ other c. absurd (contains_none other c)) (fill_more token [] long fill) [] tt in
      let same = rest.same in
      record {
        numbers = pos 0 ∷ rest.numbers;
        are = (fill.idle token (contains_head token long) (λ c. contains_none token c), rest.are);
        same = omega (arith, ints, same);
      }
  filled (token ∷ long) (first ∷ short) p q within fill [] zip = absurd zip
  filled (token ∷ long) (first ∷ short) p q within fill (number ∷ numbers) zip = elim (token_order.total token first) [
    | inl before ↦ (
        let none = not_there token first short q before in
        let rest = filled long (first ∷ short) (ordered_tail IsTokenBefore token long p) q (within_later token long (first ∷ short) within none)
        (fill_more token (first ∷ short) long fill) (number ∷ numbers) zip in
        let same = rest.same in
        record {
          numbers = pos 0 ∷ rest.numbers;
          are = (fill.idle token (contains_head token long) none, rest.are);
          same = omega (arith, ints, same);
        })
    | inr (inl same) ↦ (
        let q' : AllPairs IsTokenBefore (token ∷ short) = subst (λ (t : TokenName). AllPairs IsTokenBefore (t ∷ short)) (sym same) q in
        let within' = subst (λ (t : TokenName). (other : TokenName) → Contains (t ∷ short) other → Contains (token ∷ long) other) (sym same) within in
        let fill' = subst (λ (t : TokenName). Fill (t ∷ short) (token ∷ long)) (sym same) fill in
        let rest = filled long short (ordered_tail IsTokenBefore token long p) (ordered_tail IsTokenBefore token short q') (within_tail token long short q' within')
        (fill_both token short long p fill') numbers zip.1 in
        let sums = rest.same in
        record {
          numbers = number ∷ rest.numbers;
          are = (fill'.shared token number (contains_head token long) (subst (λ (t : TokenName). Short t number) (sym same) zip.0), rest.are);
          same = omega (arith, ints, sums);
        })
    | inr (inr after) ↦ absurd (elim (contains_cases token first long (within first (contains_head first short))) [
      | inl same ↦ token_order.irreflexive first (subst (λ (t : TokenName). IsTokenBefore first t) same after)
      | inr later ↦ token_order.irreflexive first (token_order.transitive first token first after (ordered_head IsTokenBefore token long p first later))
    ])
  ]

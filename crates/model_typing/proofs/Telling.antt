-- Answers that say exactly whether something is so.
use Rattle.std.proofs.Common.{◌≡◌, ℕ, ◌<◌, Bool, true, false, Option, Some, None, Result, Ok, Err, List, length, ◌↔◌, IsTrue, refl, subst, arith}
use Rattle.std.proofs.Common.{nat_lt}
use Rattle.std.specs.Prelude.{IfOk, slice_get}
use Rattle.std.proofs.lemmas.Bool.Decides.{Decides-ltb}
use Rattle.eu_name.proofs.Members.{get_below, get_within}
use Rattle.model_core.specs.declared.variable.ValueKind.{ValueKind}
use Rattle.model_typing.specs.Terms.{IsJust}

-- an answer that says whether the one is so says whether the other is
pub told_as : (answer : Bool) (P Q : Type 0) → (P → Q) → (Q → P) → IsTrue answer ↔ P → IsTrue answer ↔ Q
told_as answer P Q to from is = (λ yes. to (is.0 yes), λ q. is.1 (from q))

pub told_not : (P : Type 0) → (P → ⊥) → IsTrue false ↔ P
told_not P not = (λ yes. absurd (cc), λ p. absurd (not p))

pub told_so : (P : Type 0) → P → IsTrue true ↔ P
told_so P so = (λ yes. so, λ p. refl)

pub told_false : (answer : Bool) (P : Type 0) → answer ≡ false → IsTrue answer ↔ P → P → ⊥
told_false answer P is told p = let both : answer ≡ true = told.1 p in cc

pub never : (P : Type 0) → IsTrue false ↔ P → P → ⊥
never P told p = told_false false P refl told p

-- what is found, if it is the only one, is where it is so
pub found_one : {A : Type 0} (answer : Bool) (P Is : A → Type 0) (one : A) → Is one → ((other : A) → Is other → other ≡ one)
    → IsTrue answer ↔ P one → IsTrue answer ↔ ((a : A) × Is a × P a)
found_one answer P Is one is only told =
    told_as answer (P one) _ (λ p. (one, is, p)) (λ all. subst P (only all.0 all.1) all.2) told

pub found_none : {A : Type 0} (P Is : A → Type 0) → ((other : A) → Is other → ⊥) → IsTrue false ↔ ((a : A) × Is a × P a)
found_none P Is none = told_not _ (λ all. none all.0 all.1)

pub some_same : {A : Type 0} (one other : A) → Some one ≡ Some other → one ≡ other
some_same one other same = cc

-- a number below the count is that of something
below_is : (n m : ℕ) → nat_lt n m ≡ true → n < m
below_is n m told = (Decides-ltb n m).0 told

is_below : (n m : ℕ) → n < m → nat_lt n m ≡ true
is_below n m less = (Decides-ltb n m).1 less

pub below_told : {X : Type 0} (xs : List X) (n count : ℕ) → count ≡ length xs → IsTrue (nat_lt n count) ↔ ((x : X) × (slice_get xs n ≡ Some x))
below_told xs n count same = (
  λ told. get_within xs n (let less = below_is n count told in omega (arith, less, same)),
  λ at. is_below n count (let less = get_below xs n at.0 at.1 in omega (arith, less, same)),
)

-- the kind that is just found of the one thing
pub just_found : {A : Type 0} (answer : Option ValueKind) (Is : A → Type 0) (P : ValueKind → A → Type 0) (one : A) → Is one → ((other : A) → Is other → other ≡ one)
    → IsJust answer (λ kind. P kind one) → IsJust answer (λ kind. (a : A) × Is a × P kind a)
just_found answer Is P one is only just kind = (
  λ all. (just kind).0 (subst (P kind) (only all.0 all.1) all.2),
  λ same. (one, is, (just kind).1 same),
)

pub just_none : {A : Type 0} (Is : A → Type 0) (P : ValueKind → A → Type 0) → ((a : A) → Is a → ⊥) → IsJust None (λ kind. (a : A) × Is a × P kind a)
just_none Is P none kind = (λ all. absurd (none all.0 all.1), λ same. cc)

-- the same of an answer for which memory may be wanting
pub ok_as : {E : Type 0} (result : Result Bool E) (P Q : Type 0) → (P → Q) → (Q → P) → IfOk result (λ answer. IsTrue answer ↔ P) → IfOk result (λ answer. IsTrue answer ↔ Q)
ok_as (Ok answer) P Q to from told = told_as answer P Q to from told
ok_as (Err error) P Q to from told = told

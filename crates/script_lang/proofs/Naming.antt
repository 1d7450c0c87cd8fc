-- What names and values two words say.
use Rattle.std.proofs.Common.{◌≡◌, ◌↔◌, ℕ, Bool, false, IsTrue, List, [], ◌∷◌, Result, Ok, Err, refl, sym, ◌∙◌, subst}
use Rattle.std.specs.Prelude.{IfOk, IfErr}
use Rattle.std.proofs.lemmas.Bool.{false≢true}
use Rattle.script_lang.specs.declared.command.LineFault.{LineFault}
use Rattle.script_lang.specs.declared.command.LineFault.TheVariants.{TooLong, Syntax, Memory}
use Rattle.script_lang.specs.Line.{IsValueWord}
use Rattle.script_lang.specs.Operands.{Says, IsValueOf, AreTwo, joined}

-- where one is missing, both are
pub says_both : {A B : Type 0} (One : A → Type 0) (Other : B → Type 0) (one : Result A LineFault) (other : Result B LineFault) → Says One one → Says Other other
    → Says (λ found. One found.0 × Other found.1) (joined one other)
says_both One Other (Ok one) (Ok other) first second = (first, second)
says_both One Other (Ok one) (Err TooLong) first second = second
says_both One Other (Ok one) (Err Syntax) first second = λ found is. second found.1 is.1
says_both One Other (Ok one) (Err Memory) first second = ((one, second.0), (first, second.1))
says_both One Other (Err TooLong) other first second = first
says_both One Other (Err Syntax) other first second = λ found is. first found.0 is.0
says_both One Other (Err Memory) (Ok other) first second = ((first.0, other), (first.1, second))
says_both One Other (Err Memory) (Err TooLong) first second = second
says_both One Other (Err Memory) (Err Syntax) first second = λ found is. second found.1 is.1
says_both One Other (Err Memory) (Err Memory) first second = ((first.0, second.0), (first.1, second.1))

-- what is said of the two words
pub says_two : {A B : Type 0} (One : List ℕ → A → Type 0) (Other : List ℕ → B → Type 0) (words : List (List ℕ)) (first second : List ℕ) (r : Result (A × B) LineFault)
    → words ≡ first ∷ second ∷ [] → Says (λ found. One first found.0 × Other second found.1) r → Says (AreTwo One Other words) r
says_two One Other words first second (Ok found) are says = (first, (second, (are, says.0, says.1)))
says_two One Other words first second (Err TooLong) are says = says
says_two One Other words first second (Err Syntax) are says = λ found is.
    let both : first ∷ (second ∷ []) ≡ is.0 ∷ (is.1.0 ∷ []) = sym are ∙ is.1.1.0 in
    let front : is.0 ≡ first = cc in
    let back : is.1.0 ≡ second = cc in
    says found (subst (λ w. One w found.0) front is.1.1.1, subst (λ w. Other w found.1) back is.1.1.2)
says_two One Other words first second (Err Memory) are says = (says.0, (first, (second, (are, says.1.0, says.1.1))))

-- what is said of a value that is kept
pub says_kept : (word : List ℕ) (r : Result (List ℕ) LineFault) → IsValueWord word → IfOk r (λ text. text ≡ word) → IfErr r (λ fault. fault ≡ Memory) → Says (IsValueOf word) r
says_kept word (Ok text) is same memory = (sym same, subst IsValueWord (sym same) is)
says_kept word (Err fault) is same memory = subst (λ f. Says (IsValueOf word) (Err f)) (sym memory) (word, (refl, is))

-- what is said of each of the two words
pub says_pair : {A B : Type 0} (One : List ℕ → A → Type 0) (Other : List ℕ → B → Type 0) (words : List (List ℕ)) (first second : List ℕ) (one : Result A LineFault) (other : Result B LineFault) (r : Result (A × B) LineFault)
    → words ≡ first ∷ second ∷ [] → r ≡ joined one other → Says (One first) one → Says (Other second) other → Says (AreTwo One Other words) r
says_pair One Other words first second one other r are same says says' =
    says_two One Other words first second r are
    (subst (Says (λ found. One first found.0 × Other second found.1)) (sym same) (says_both (One first) (Other second) one other says says'))

-- a word that can be no value is said to be none
pub none_said : (word found : List ℕ) (answer : Bool) → IsTrue answer ↔ IsValueWord word → answer ≡ false → IsValueOf word found → ⊥
none_said word found answer told fails is = false≢true (sym fails ∙ told.1 (subst IsValueWord (sym is.0) is.1))

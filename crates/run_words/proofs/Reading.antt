-- The one division of words, as a function.
use Rattle.std.proofs.Common.{◌≡◌, ◌∙◌, ◌⊎◌, ℕ, Bool, cond, true, false, refl, sym, ap, subst, List, [], ◌∷◌, ◌++◌, Option, Some, None, inl, inr, codes}
use Rattle.std.specs.Prelude.{option_map, unwrap_or}
use Rattle.run_words.specs.Words.{Flag, Steps, Tokens, flag_word, IsPlain, Parts, no_parts, with_operand, Gives, Divides}
use Rattle.run_words.proofs.Classes.{Class, plain, ends, separate, attached, unknown, IsClass, class_of, class_sound, plain_is, separate_is, attached_is, ends_is}

abbrev pub given : Flag → Parts → Option (List ℕ)
given Steps parts = parts.steps
given Tokens parts = parts.tokens

abbrev pub with_value : Flag → List ℕ → Parts → Parts
with_value Steps value parts = record parts { steps = Some value }
with_value Tokens value parts = record parts { tokens = Some value }

abbrev pub if_free : Option (List ℕ) → Parts → Option Parts
if_free None parts = Some parts
if_free (Some other) parts = None

-- a value for an option that has none
abbrev pub add : Flag → List ℕ → Option Parts → Option Parts
add flag value None = None
add flag value (Some parts) = if_free (given flag parts) (with_value flag value parts)

abbrev pub turn : Class → List ℕ → List (List ℕ) → (Option Flag → Option Parts) → Option Parts
turn plain word rest more = option_map (with_operand word) (more None)
turn ends word rest more = Some (record no_parts { operands = rest })
turn (separate flag) word rest more = more (Some flag)
turn (attached flag value) word rest more = add flag value (more None)
turn unknown word rest more = None

abbrev pub take_value : Class → Flag → List ℕ → Option Parts → Option Parts
take_value plain flag value more = add flag value more
take_value _ flag value more = None

abbrev pub reading : Option Flag → List (List ℕ) → Option Parts
reading None [] = Some no_parts
reading (Some flag) [] = None
reading (Some flag) (value ∷ rest) = take_value (class_of value) flag value (reading None rest)
reading None (word ∷ rest) = turn (class_of word) word rest (λ waiting. reading waiting rest)

pub some_same : (a b : Parts) → Some a ≡ Some b → a ≡ b
some_same a b e = ap (λ (o : Option Parts). unwrap_or o no_parts) e

pub added : (flag : Flag) (value : List ℕ) (o : Option Parts) (parts : Parts) → add flag value o ≡ Some parts
    → (more : Parts) × (o ≡ Some more) × (given flag more ≡ None) × (parts ≡ with_value flag value more)
added flag value None parts e = cc
added flag value (Some more) parts e = go (given flag more) refl e
  where
    go : (o : Option (List ℕ)) → given flag more ≡ o → if_free o (with_value flag value more) ≡ Some parts
        → (rest : Parts) × (Some more ≡ Some rest) × (given flag rest ≡ None) × (parts ≡ with_value flag value rest)
    go None free h = (more, refl, free, sym (some_same (with_value flag value more) parts h))
    go (Some other) free h = cc

gives : (flag : Flag) (value : List ℕ) (parts more : Parts) (Rest : Parts → Type 0) → given flag more ≡ None → parts ≡ with_value flag value more → Rest more
    → Gives flag value parts Rest
gives Steps value parts more Rest free is rest = (more, free, is, rest)
gives Tokens value parts more Rest free is rest = (more, free, is, rest)

gave : (flag : Flag) (value : List ℕ) (parts : Parts) (Rest : Parts → Type 0) → Gives flag value parts Rest
    → (more : Parts) × (given flag more ≡ None) × (parts ≡ with_value flag value more) × Rest more
gave Steps value parts Rest g = g
gave Tokens value parts Rest g = g

as_class : (word : List ℕ) (class : Class) → class_of word ≡ class → IsClass word class
as_class word class e = subst (IsClass word) e (class_sound word)

pub mapped : (word : List ℕ) (o : Option Parts) (parts : Parts) → option_map (with_operand word) o ≡ Some parts
    → (more : Parts) × (o ≡ Some more) × (parts ≡ with_operand word more)
mapped word None parts e = cc
mapped word (Some more) parts e = (more, refl, sym (some_same (with_operand word more) parts e))

pub divides : (waiting : Option Flag) (words : List (List ℕ)) (parts : Parts) → reading waiting words ≡ Some parts → Divides waiting words parts
divides None [] parts e = sym (some_same no_parts parts e)
divides (Some flag) [] parts e = cc
divides (Some flag) (value ∷ rest) parts e = go (class_of value) refl e (λ more h. divides None rest more h)
  where
    go : (class : Class) → class_of value ≡ class → take_value class flag value (reading None rest) ≡ Some parts
        → ((more : Parts) → reading None rest ≡ Some more → Divides None rest more)
        → IsPlain value × Gives flag value parts (λ more. Divides None rest more)
    go plain is h rec =
        let found = added flag value (reading None rest) parts h in
        (as_class value plain is, gives flag value parts found.0 (λ more. Divides None rest more) found.2 found.3 (rec found.0 found.1))
    go ends is h rec = cc
    go (separate other) is h rec = cc
    go (attached other text) is h rec = cc
    go unknown is h rec = cc
divides None (word ∷ rest) parts e = go (class_of word) refl e (λ waiting more h. divides waiting rest more h)
  where
    go : (class : Class) → class_of word ≡ class → turn class word rest (λ waiting. reading waiting rest) ≡ Some parts
        → ((waiting : Option Flag) (more : Parts) → reading waiting rest ≡ Some more → Divides waiting rest more)
        → Divides None (word ∷ rest) parts
    go plain is h rec =
        let found = mapped word (reading None rest) parts h in
        inr (inl (as_class word plain is, (found.0, found.2, rec None found.0 found.1)))
    go ends is h rec = inl (as_class word ends is, sym (some_same _ parts h))
    go (separate flag) is h rec = inr (inr (inl (flag, as_class word (separate flag) is, rec (Some flag) parts h)))
    go (attached flag value) is h rec =
        let found = added flag value (reading None rest) parts h in
        inr (inr (inr (
          flag,
          value,
          as_class word (attached flag value) is,
          gives flag value parts found.0 (λ more. Divides None rest more) found.2 found.3 (rec None found.0 found.1),
        )))
    go unknown is h rec = cc

pub adding : (flag : Flag) (value : List ℕ) (parts more : Parts) (o : Option Parts) → o ≡ Some more → given flag more ≡ None → parts ≡ with_value flag value more
    → add flag value o ≡ Some parts
adding flag value parts more o is free whole = rw (is, free, whole) refl

pub reads : (waiting : Option Flag) (words : List (List ℕ)) (parts : Parts) → Divides waiting words parts → reading waiting words ≡ Some parts
reads None [] parts d = ap (λ (p : Parts). Some p) (sym d)
reads (Some flag) [] parts d = absurd d
reads (Some flag) (value ∷ rest) parts d =
    let found = gave flag value parts (λ more. Divides None rest more) d.1 in
    ap (λ (c : Class). take_value c flag value (reading None rest)) (plain_is value d.0)
    ∙ adding flag value parts found.0 (reading None rest) (reads None rest found.0 found.3) found.1 found.2
reads None (word ∷ rest) parts (inl d) =
    ap (λ (c : Class). turn c word rest (λ waiting. reading waiting rest)) (ap class_of d.0 ∙ ends_is) ∙ ap (λ (p : Parts). Some p) (sym d.1)
reads None (word ∷ rest) parts (inr (inl d)) =
    ap (λ (c : Class). turn c word rest (λ waiting. reading waiting rest)) (plain_is word d.0)
    ∙ ap (option_map (with_operand word)) (reads None rest d.1.0 d.1.2) ∙ ap (λ (p : Parts). Some p) (sym d.1.1)
reads None (word ∷ rest) parts (inr (inr (inl d))) =
    ap (λ (c : Class). turn c word rest (λ waiting. reading waiting rest)) (ap class_of d.1 ∙ separate_is d.0) ∙ reads (Some d.0) rest parts d.2
reads None (word ∷ rest) parts (inr (inr (inr d))) =
    let found = gave d.0 d.1 parts (λ more. Divides None rest more) d.3 in
    ap (λ (c : Class). turn c word rest (λ waiting. reading waiting rest)) (ap class_of d.2 ∙ attached_is d.0 d.1)
    ∙ adding d.0 d.1 parts found.0 (reading None rest) (reads None rest found.0 found.3) found.1 found.2

-- words divide in one way at most
pub divides_once : (words : List (List ℕ)) (one other : Parts) → Divides None words one → Divides None words other → one ≡ other
divides_once words one other a b = some_same one other (sym (reads None words one a) ∙ reads None words other b)

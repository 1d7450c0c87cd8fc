-- What sort of word each word is.
use Rattle.std.proofs.Common.{◌≡◌, ◌∙◌, ◌<◌, ◌≤◌, ◌+◌, ◌==◌, ◌||◌, ℕ, Bool, cond, true, false, zero, suc, refl, sym, ap, subst, arith, List, [], ◌∷◌, ◌++◌, length, take, drop, Option, Some, None, inl, inr, true≢false, codes}
use Rattle.std.specs.Prelude.{if◌then◌else◌, get_or}
use Rattle.std.specs.List.{list_any, position_or_len, before_first, after_first}
use Rattle.std.specs.Str.{bytes_eq}
use Rattle.std.proofs.lemmas.Slice.Eq.{bytes_eq-Decides}
use Rattle.std.proofs.lemmas.Bool.{eqb-true, eqb-false, eq-eqb, ne_eqb}
use Rattle.clap.specs.Lexer.{long_of, long_of_rest, short_of, name_and_value, has_byte}
use Rattle.run_words.specs.Words.{Flag, Steps, Tokens, flag_word, IsPlain}

pub data Class : Type 0 where
  plain : Class
  ends : Class
  separate : Flag → Class
  attached : Flag → List ℕ → Class
  unknown : Class

abbrev pub IsClass : List ℕ → Class → Type 0
IsClass word plain = IsPlain word
IsClass word ends = word ≡ codes "--"
IsClass word (separate flag) = word ≡ flag_word flag
IsClass word (attached flag value) = word ≡ flag_word flag ++ 61 ∷ value
IsClass word unknown = Unit {0}

abbrev pub flag_class : Flag → Option (List ℕ) → Class
flag_class flag None = separate flag
flag_class flag (Some value) = attached flag value

abbrev pub long_class : List ℕ → Option (List ℕ) → Class
long_class name value =
    cond (bytes_eq (codes "steps") name) (flag_class Steps value) (cond (bytes_eq (codes "tokens") name) (flag_class Tokens value) unknown)

abbrev pub other_class : Option (List ℕ × Option (List ℕ)) → Option (List ℕ) → Class
other_class (Some long) short = long_class long.0 long.1
other_class None (Some flags) = unknown
other_class None None = plain

abbrev pub class_of : List ℕ → Class
class_of word = cond (bytes_eq word (codes "--")) ends (other_class (long_of word) (short_of word))

-- ---- a name and its value

abbrev joined : List ℕ → Option (List ℕ) → List ℕ
joined name None = name
joined name (Some value) = name ++ 61 ∷ value

-- what is cut at the first `=` is the text again
more_joined : (x : ℕ) (xs name : List ℕ) (value : Option (List ℕ)) → joined name value ≡ xs → joined (x ∷ name) value ≡ x ∷ xs
more_joined x xs name None h = ap (λ (ys : List ℕ). x ∷ ys) h
more_joined x xs name (Some value) h = ap (λ (ys : List ℕ). x ∷ ys) h

pub split_joined : (text : List ℕ) → joined (name_and_value text).0 (name_and_value text).1 ≡ text
split_joined [] = refl
split_joined (x ∷ xs) = go (x == 61) refl (split_joined xs)
  where
    go : (b : Bool) → (x == 61) ≡ b → joined (name_and_value xs).0 (name_and_value xs).1 ≡ xs
        → joined (name_and_value (x ∷ xs)).0 (name_and_value (x ∷ xs)).1 ≡ x ∷ xs
    go true e h = let is : x ≡ 61 = eqb-true x 61 e in rw (is) refl
    go false e h =
        let n = position_or_len (λ b. b == 61) xs in
        let one : 1 + n ≡ suc n = omega arith in
        let two : 1 + n + 1 ≡ suc (n + 1) = omega arith in
        rw (e, two, one) (more_joined x xs (before_first (λ b. b == 61) xs) (name_and_value xs).1 h)

-- ---- the class of each word

pub class_plain : (word : List ℕ) → IsPlain word → (long_of word ≡ None) × (short_of word ≡ None) × (bytes_eq word (codes "--") ≡ false)
class_plain [] h = (refl, refl, refl)
class_plain (x ∷ xs) h = go (x == 45) refl
  where
    go : (b : Bool) → (x == 45) ≡ b → (long_of (x ∷ xs) ≡ None) × (short_of (x ∷ xs) ≡ None) × (bytes_eq (x ∷ xs) (codes "--") ≡ false)
    go true e = let is : x ≡ 45 = eqb-true x 45 e in rw (h is, is) (refl, refl, refl)
    go false e = rw (e) (refl, refl, refl)

pub plain_is : (word : List ℕ) → IsPlain word → class_of word ≡ plain
plain_is word h = let facts = class_plain word h in rw (facts.0, facts.1, facts.2) refl

pub separate_is : (flag : Flag) → class_of (flag_word flag) ≡ separate flag
separate_is Steps = refl
separate_is Tokens = refl

pub attached_is : (flag : Flag) (value : List ℕ) → class_of (flag_word flag ++ 61 ∷ value) ≡ attached flag value
attached_is Steps value = refl
attached_is Tokens value = refl

pub ends_is : class_of (codes "--") ≡ ends
ends_is = refl

both_text : (text name : List ℕ) (flag : Flag) (value : Option (List ℕ)) → 45 ∷ 45 ∷ name ≡ flag_word flag → joined name value ≡ text
    → IsClass (45 ∷ 45 ∷ text) (flag_class flag value)
both_text text name flag None is whole = ap (λ (t : List ℕ). 45 ∷ 45 ∷ t) (sym whole) ∙ is
both_text text name flag (Some value) is whole = ap (λ (t : List ℕ). 45 ∷ 45 ∷ t) (sym whole) ∙ ap (λ (t : List ℕ). t ++ 61 ∷ value) is

long_sound : (text name : List ℕ) (value : Option (List ℕ)) → joined name value ≡ text → IsClass (45 ∷ 45 ∷ text) (long_class name value)
long_sound text name value whole = steps (bytes_eq (codes "steps") name) refl
  where
    tokens : (b : Bool) → bytes_eq (codes "tokens") name ≡ b → IsClass (45 ∷ 45 ∷ text) (cond b (flag_class Tokens value) unknown)
    tokens true e = both_text text name Tokens value (ap (λ (t : List ℕ). 45 ∷ 45 ∷ t) (sym ((bytes_eq-Decides (codes "tokens") name).0 e))) whole
    tokens false e = tt

    steps : (b : Bool) → bytes_eq (codes "steps") name ≡ b
        → IsClass (45 ∷ 45 ∷ text) (cond b (flag_class Steps value) (cond (bytes_eq (codes "tokens") name) (flag_class Tokens value) unknown))
    steps true e = both_text text name Steps value (ap (λ (t : List ℕ). 45 ∷ 45 ∷ t) (sym ((bytes_eq-Decides (codes "steps") name).0 e))) whole
    steps false e = tokens (bytes_eq (codes "tokens") name) refl

dashes_sound : (ys : List ℕ) → (bytes_eq (45 ∷ 45 ∷ ys) (codes "--") ≡ false)
    → IsClass (45 ∷ 45 ∷ ys) (other_class (long_of (45 ∷ 45 ∷ ys)) (short_of (45 ∷ 45 ∷ ys)))
dashes_sound [] e = absurd (true≢false e)
dashes_sound (z ∷ zs) e = long_sound (z ∷ zs) (name_and_value (z ∷ zs)).0 (name_and_value (z ∷ zs)).1 (split_joined (z ∷ zs))

dash_sound : (xs : List ℕ) → (bytes_eq (45 ∷ xs) (codes "--") ≡ false)
    → IsClass (45 ∷ xs) (other_class (long_of (45 ∷ xs)) (short_of (45 ∷ xs)))
dash_sound [] e = λ _. refl
dash_sound (y ∷ ys) e = go (y == 45) refl
  where
    go : (b : Bool) → (y == 45) ≡ b → IsClass (45 ∷ y ∷ ys) (other_class (long_of (45 ∷ y ∷ ys)) (short_of (45 ∷ y ∷ ys)))
    go true t = let is : y ≡ 45 = eqb-true y 45 t in
        subst (λ (k : ℕ). IsClass (45 ∷ k ∷ ys) (other_class (long_of (45 ∷ k ∷ ys)) (short_of (45 ∷ k ∷ ys)))) (sym is)
        (dashes_sound ys (subst (λ (k : ℕ). bytes_eq (45 ∷ k ∷ ys) (codes "--") ≡ false) is e))
    go false t = rw (t) tt

other_sound : (word : List ℕ) → (bytes_eq word (codes "--") ≡ false) → IsClass word (other_class (long_of word) (short_of word))
other_sound [] e = tt
other_sound (x ∷ xs) e = go (x == 45) refl
  where
    go : (b : Bool) → (x == 45) ≡ b → IsClass (x ∷ xs) (other_class (long_of (x ∷ xs)) (short_of (x ∷ xs)))
    go true t = let is : x ≡ 45 = eqb-true x 45 t in
        subst (λ (k : ℕ). IsClass (k ∷ xs) (other_class (long_of (k ∷ xs)) (short_of (k ∷ xs)))) (sym is)
        (dash_sound xs (subst (λ (k : ℕ). bytes_eq (k ∷ xs) (codes "--") ≡ false) is e))
    go false t = let no : x ≡ 45 → xs ≡ [] = λ is. absurd (eqb-false x 45 t is) in rw (t) no

pub class_sound : (word : List ℕ) → IsClass word (class_of word)
class_sound word = go (bytes_eq word (codes "--")) refl
  where
    go : (b : Bool) → bytes_eq word (codes "--") ≡ b → IsClass word (cond b ends (other_class (long_of word) (short_of word)))
    go true e = (bytes_eq-Decides word (codes "--")).0 e
    go false e = other_sound word e

-- Names with points between them.
use Rattle.std.proofs.Common.{◌≡◌, ℕ, ◌<◌, ◌↔◌, Bool, true, false, not, List, [], ◌∷◌, ◌++◌, length, take, drop, All, IsTrue, length-append, refl, sym, ◌∙◌, ap, subst, arith}
use Rattle.std.specs.List.{prefix_len, slice_split, join_with_byte, AllByRecursion}
use Rattle.std.proofs.lemmas.Bool.Decides.{nat_tests}
use Rattle.std.proofs.lemmas.List.{take-append-drop, append-nil}
use Rattle.std.proofs.lemmas.List.Elements.{All-from_recursion, recursion_from_All, All-head, All-tail, All-cons, All-nil}
use Rattle.std.proofs.lemmas.List.Splits.{slice_split_none, slice_split_at, length-slice_split, join_with_byte-slice_split}
use Rattle.eu_name.proofs.Fronts.{Passes, Stops, prefix_passes, prefix_stops}
use Rattle.eu_name.specs.Word.{IsName, is_word_start, is_word_byte}
use Rattle.model_core.specs.Naming.{IsObjectName, is_point, IsPath}

abbrev pub goes_on : ℕ → Bool
goes_on byte = not (is_point byte)

was_false : (b : Bool) → not b ≡ true → b ≡ false
was_false true is = cc
was_false false is = refl

was_true : (b : Bool) → not b ≡ false → b ≡ true
was_true true is = refl
was_true false is = cc

pub no_point : (word : List ℕ) → Passes goes_on word → AllByRecursion (λ byte. is_point byte ≡ false) word
no_point [] passes = tt
no_point (byte ∷ word) passes = (was_false (is_point byte) passes.0, no_point word passes.1)

-- what stands before the first point has none
no_point_before : (word name : List ℕ) (at : ℕ) → at ≡ prefix_len goes_on word → name ≡ take at word → All (λ byte. is_point byte ≡ false) name
no_point_before word name at is front =
    subst (All (λ byte. is_point byte ≡ false)) (sym (front ∙ ap (λ n. take n word) is)) (All-from_recursion (λ byte. is_point byte ≡ false) (take (prefix_len goes_on word) word) (no_point (take (prefix_len goes_on word) word) (prefix_passes goes_on word)))

is_point_byte : (byte : ℕ) → is_point byte ≡ true → byte ≡ 46
is_point_byte byte is = grind (arith, nat_tests)

point_stops : (byte : ℕ) (after : List ℕ) → Stops goes_on (byte ∷ after) → byte ≡ 46
point_stops byte after stops = is_point_byte byte (was_true (is_point byte) stops)

-- the word is cut at its first point
pub cut_there : (word name back after : List ℕ) (at point : ℕ) → at ≡ prefix_len goes_on word → name ≡ take at word → back ≡ drop at word → back ≡ point ∷ after
    → All (λ byte. is_point byte ≡ false) name × (word ≡ name ++ (46 ∷ after))
cut_there word name back after at point is front behind first =
    let stops : Stops goes_on (point ∷ after) = subst (Stops goes_on) (ap (λ n. drop n word) (sym is) ∙ (sym behind ∙ first)) (prefix_stops goes_on word) in
    let whole : word ≡ name ++ (point ∷ after) = sym (take-append-drop at word) ∙ (ap (λ l. take at word ++ l) (sym behind ∙ first) ∙ ap (λ l. l ++ (point ∷ after)) (sym front)) in
    (no_point_before word name at is front, whole ∙ ap (λ b. name ++ (b ∷ after)) (point_stops point after stops))

is_empty : (word : List ℕ) → length word ≡ 0 → word ≡ []
is_empty [] none = refl
is_empty (byte ∷ word) none = absurd (omega arith)

-- there is no point where nothing is behind it
pub not_cut : (word name back : List ℕ) (at : ℕ) → at ≡ prefix_len goes_on word → name ≡ take at word → back ≡ drop at word → length back ≡ 0 → All (λ byte. is_point byte ≡ false) word
not_cut word name back at is front behind none =
    let whole : name ≡ word = front ∙ (sym (append-nil (take at word)) ∙ (ap (λ l. take at word ++ l) (sym (is_empty back none) ∙ behind) ∙ take-append-drop at word)) in
    subst (All (λ byte. is_point byte ≡ false)) whole (no_point_before word name at is front)

-- so the parts of the word are what stands before it and the parts of what is behind it
pub parts_there : (word name after : List ℕ) → All (λ byte. is_point byte ≡ false) name × (word ≡ name ++ (46 ∷ after)) → slice_split is_point word ≡ name ∷ slice_split is_point after
parts_there word name after (plain, is) = ap (slice_split is_point) is ∙ slice_split_at is_point name 46 after plain refl

pub shorter_there : (word name after : List ℕ) → All (λ byte. is_point byte ≡ false) name × (word ≡ name ++ (46 ∷ after)) → length after < length word
shorter_there word name after (plain, is) = omega (arith, ap length is, length-append name (46 ∷ after))

pub parts_whole : (word : List ℕ) → All (λ byte. is_point byte ≡ false) word → slice_split is_point word ≡ word ∷ []
parts_whole word plain = slice_split_none is_point word plain

-- all of the parts are so where the first is, and the others are
pub all_parts : (P : List ℕ → Type 0) (name : List ℕ) (whole rest : List (List ℕ)) → whole ≡ name ∷ rest → P name → All P whole ↔ All P rest
all_parts P name whole rest is holds =
    (λ all. All-tail P name rest (subst (All P) is all), λ all. subst (All P) (sym is) (All-cons P name rest holds all))

pub not_all_parts : (P : List ℕ → Type 0) (name : List ℕ) (whole rest : List (List ℕ)) → whole ≡ name ∷ rest → (P name → ⊥) → All P whole → ⊥
not_all_parts P name whole rest is holds all = holds (All-head P name rest (subst (All P) is all))

pub one_part : (P : List ℕ → Type 0) (name : List ℕ) (whole : List (List ℕ)) → whole ≡ name ∷ [] → All P whole ↔ P name
one_part P name whole is =
    (λ all. All-head P name [] (subst (All P) is all), λ holds. subst (All P) (sym is) (All-cons P name [] holds (All-nil P)))

pub both_ways : (A B C : Type 0) → A ↔ B → B ↔ C → A ↔ C
both_ways A B C one other = (λ a. other.0 (one.0 a), λ c. one.1 (other.1 c))

pub never : (P : Type 0) → IsTrue false ↔ P → P → ⊥
never P says holds = let both : false ≡ true = says.1 holds in cc

pub false_never : (P : Type 0) → (P → ⊥) → IsTrue false ↔ P
false_never P fails = (λ both. cc, λ holds. absurd (fails holds))

pub true_surely : (P : Type 0) → P → IsTrue true ↔ P
true_surely P holds = (λ same. holds, λ p. refl)

word_no_point : (byte : ℕ) → is_word_byte byte ≡ true → goes_on byte ≡ true
word_no_point byte is = grind (arith, nat_tests)

start_no_point : (byte : ℕ) → is_word_start byte ≡ true → goes_on byte ≡ true
start_no_point byte is = grind (arith, nat_tests)

rest_no_point : (rest : List ℕ) → AllByRecursion (λ byte. IsTrue (is_word_byte byte)) rest → Passes goes_on rest
rest_no_point [] are = tt
rest_no_point (byte ∷ rest) are = (word_no_point byte are.0, rest_no_point rest are.1)

-- a name has no point
pub name_no_point : (name : List ℕ) → IsName name → Passes goes_on name
name_no_point [] is = absurd is.0
name_no_point (first ∷ rest) is = (start_no_point first is.0.0, rest_no_point rest (recursion_from_All (λ byte. IsTrue (is_word_byte byte)) rest is.0.1))

name_path : (name : List ℕ) → IsName name → slice_split is_point name ≡ name ∷ []
name_path name is = slice_split_none is_point name (All-from_recursion (λ byte. is_point byte ≡ false) name (no_point name (name_no_point name is)))

joined_path : (names : List (List ℕ)) → 0 < length names → AllByRecursion IsName names → slice_split is_point (join_with_byte 46 names) ≡ names
joined_path [] some are = absurd (omega arith)
joined_path (name ∷ []) some are = name_path name are.0
joined_path (name ∷ (other ∷ more)) some are =
    slice_split_at is_point name 46 (join_with_byte 46 (other ∷ more)) (All-from_recursion (λ byte. is_point byte ≡ false) name (no_point name (name_no_point name are.0))) refl
    ∙ ap (λ l. name ∷ l) (joined_path (other ∷ more) (omega arith) are.1)

-- names with points between them are what an object may be called
pub path_names : (name : List ℕ) → IsPath name → IsObjectName name
path_names name are =
    (slice_split is_point name, omega (arith, length-slice_split is_point name), are, sym (join_with_byte-slice_split 46 name))

pub names_path : (name : List ℕ) → IsObjectName name → IsPath name
names_path name (names, some, are, is) =
    subst (All IsName) (sym (ap (slice_split is_point) is ∙ joined_path names some (recursion_from_All IsName names are))) are

-- Names that are noted stay so, and aren't noted a second time.
use Rattle.std.proofs.Common.{◌≡◌, ℕ, Bool, true, false, List, [], ◌∷◌, ◌++◌, map, refl, ◌∙◌, ap}
use Rattle.std.specs.Prelude.{Option, Some, None, is_some, if◌then◌else◌}
use Rattle.std.specs.List.{AllByRecursion}
use Rattle.std.specs.Option.{option_or}
use Rattle.std.specs.Str.{bytes_eq}
use Rattle.std.proofs.lemmas.Slice.Eq.{bytes_eq-Decides}
use Rattle.nddl_ast.specs.declared.name.Name.{Name}
use Rattle.eu_index.specs.Index.{Noted, noted_number, with_noted}
use Rattle.eu_index.proofs.Indexes.{noted_with}
use Rattle.nddl_hierarchy.specs.Inherited.{names_noted, words_noted}

abbrev pub IsNoted : Noted → List ℕ → Type 0
IsNoted noted name = is_some (noted_number noted name) ≡ true

-- a name more
pub stays_noted : (noted : Noted) (name other : List ℕ) → IsNoted noted other → IsNoted (with_noted noted name 0) other
stays_noted noted name other is = ap is_some (noted_with noted name other 0) ∙ by (noted_number noted other) is
  where
    by : (o : Option ℕ) → is_some o ≡ true → is_some (option_or o (if bytes_eq other name then Some 0 else None)) ≡ true
    by None is = absurd (let e : false ≡ true = is in cc)
    by (Some number) is = refl

pub newly_noted : (noted : Noted) (name : List ℕ) → IsNoted (with_noted noted name 0) name
newly_noted noted name = ap is_some (noted_with noted name name 0) ∙ by (noted_number noted name) (bytes_eq name name) ((bytes_eq-Decides name name).1 refl)
  where
    by : (o : Option ℕ) (b : Bool) → b ≡ true → is_some (option_or o (if b then Some 0 else None)) ≡ true
    by None true is = refl
    by None false is = absurd (let e : false ≡ true = is in cc)
    by (Some number) b is = refl

-- one that was noted before adds nothing
not_again : (noted : Noted) (name : List ℕ) → IsNoted noted name → with_noted noted name 0 ≡ noted
not_again noted name is = ap (λ b. if b then noted else noted ++ (name, 0) ∷ []) is

-- ---- names and words

pub names_stay : (noted : Noted) (some : List Name) (other : List ℕ) → IsNoted noted other → IsNoted (names_noted noted some) other
names_stay noted [] other is = is
names_stay noted (name ∷ more) other is = names_stay (with_noted noted name.text 0) more other (stays_noted noted name.text other is)

pub names_there : (noted : Noted) (some : List Name) → AllByRecursion (λ name. IsNoted (names_noted noted some) name.text) some
names_there noted [] = tt
names_there noted (name ∷ more) = (
  names_stay (with_noted noted name.text 0) more name.text (newly_noted noted name.text),
  names_there (with_noted noted name.text 0) more,
)

pub words_stay : (noted : Noted) (some : List (List ℕ)) (other : List ℕ) → IsNoted noted other → IsNoted (words_noted noted some) other
words_stay noted [] other is = is
words_stay noted (word ∷ more) other is = words_stay (with_noted noted word 0) more other (stays_noted noted word other is)

pub words_there : (noted : Noted) (some : List (List ℕ)) → AllByRecursion (λ word. IsNoted (words_noted noted some) word) some
words_there noted [] = tt
words_there noted (word ∷ more) = (
  words_stay (with_noted noted word 0) more word (newly_noted noted word),
  words_there (with_noted noted word 0) more,
)

-- words that were noted before add nothing
pub words_known : (noted : Noted) (some : List (List ℕ)) → AllByRecursion (IsNoted noted) some → words_noted noted some ≡ noted
words_known noted [] all = refl
words_known noted (word ∷ more) all =
    ap (λ other. words_noted other more) (not_again noted word all.0) ∙ words_known noted more all.1

-- those that are noted stay so
pub all_stay : (noted : Noted) (more some : List (List ℕ)) → AllByRecursion (IsNoted noted) some → AllByRecursion (IsNoted (words_noted noted more)) some
all_stay noted more [] all = tt
all_stay noted more (word ∷ some) all = (words_stay noted more word all.0, all_stay noted more some all.1)

pub words_append : (noted : Noted) (one other : List (List ℕ)) → words_noted noted (one ++ other) ≡ words_noted (words_noted noted one) other
words_append noted [] other = refl
words_append noted (word ∷ one) other = words_append (with_noted noted word 0) one other

-- names are noted as their words are
pub names_as_words : (noted : Noted) (some : List Name) → names_noted noted some ≡ words_noted noted (map (λ name. name.text) some)
names_as_words noted [] = refl
names_as_words noted (name ∷ more) = names_as_words (with_noted noted name.text 0) more

-- How names are spelled: with no mark before them, and with no point in them but for those of objects within others.
use Rattle.std.proofs.Common.{◌≡◌, ℕ, ◌<◌, ◌==◌, Bool, true, false, List, [], ◌∷◌, ◌++◌, length, refl, sym, ◌∙◌, ap, arith}
use Rattle.std.specs.Prelude.{◌||◌, All, IsTrue}
use Rattle.std.specs.List.{join_with_byte}
use Rattle.std.proofs.lemmas.Bool.Decides.{Decides-eqb}
use Rattle.std.proofs.lemmas.List.Elements.{All-head, All-tail}
use Rattle.eu_name.specs.Word.{IsName, is_word_byte, is_word_start}
use Rattle.model_core.specs.Naming.{full_name}

-- a mark stands before the name
abbrev pub is_marked : List ℕ → Bool
is_marked [] = false
is_marked (byte ∷ bytes) = byte == 33

-- a point stands in it
abbrev pub has_point : List ℕ → Bool
has_point [] = false
has_point (byte ∷ bytes) = (byte == 46) || has_point bytes

-- a byte that passes a test isn't one that fails it
not_byte : (test : ℕ → Bool) (byte other : ℕ) → test byte ≡ true → test other ≡ false → (byte == other) ≡ false
not_byte test byte other passes fails = by (byte == other) refl
  where
    by : (b : Bool) → (byte == other) ≡ b → (byte == other) ≡ false
    by false is = is
    by true is =
        let same : byte ≡ other = (Decides-eqb byte other).0 is in
        absurd (let never : true ≡ false = sym passes ∙ (ap test same ∙ fails) in cc)

neither_so : (one other : Bool) → one ≡ false → other ≡ false → (one || other) ≡ false
neither_so false other first second = second
neither_so true other first second = first

bytes_pointless : (bytes : List ℕ) → All (λ (byte : ℕ). IsTrue (is_word_byte byte)) bytes → has_point bytes ≡ false
bytes_pointless [] all = refl
bytes_pointless (byte ∷ bytes) all =
    neither_so (byte == 46) (has_point bytes)
    (not_byte is_word_byte byte 46 (All-head (λ (one : ℕ). IsTrue (is_word_byte one)) byte bytes all) refl)
    (bytes_pointless bytes (All-tail (λ (one : ℕ). IsTrue (is_word_byte one)) byte bytes all))

-- a name has neither
pub name_unmarked : (name : List ℕ) → IsName name → is_marked name ≡ false
name_unmarked [] is = refl
name_unmarked (first ∷ rest) is = not_byte is_word_start first 33 is.0.0 refl

pub name_pointless : (name : List ℕ) → IsName name → has_point name ≡ false
name_pointless [] is = refl
name_pointless (first ∷ rest) is =
    neither_so (first == 46) (has_point rest) (not_byte is_word_start first 46 is.0.0 refl) (bytes_pointless rest is.0.1)

-- names with points between them have no mark before them
begun_unmarked : (name rest : List ℕ) → IsName name → is_marked (name ++ rest) ≡ false
begun_unmarked [] rest is = absurd is.0
begun_unmarked (first ∷ more) rest is = not_byte is_word_start first 33 is.0.0 refl

pub path_unmarked : (names : List (List ℕ)) → 0 < length names → All IsName names → is_marked (join_with_byte 46 names) ≡ false
path_unmarked [] some all = absurd (omega arith)
path_unmarked (name ∷ []) some all = name_unmarked name (All-head IsName name [] all)
path_unmarked (name ∷ (next ∷ more)) some all =
    begun_unmarked name (46 ∷ join_with_byte 46 (next ∷ more)) (All-head IsName name (next ∷ more) all)

-- a name behind another has a point
pub full_point : (outer inner : List ℕ) → has_point (full_name outer inner) ≡ true
full_point [] inner = refl
full_point (byte ∷ outer) inner = by (byte == 46) (full_point outer inner)
  where
    by : (b : Bool) → has_point (full_name outer inner) ≡ true → (b || has_point (full_name outer inner)) ≡ true
    by true rest = refl
    by false rest = rest

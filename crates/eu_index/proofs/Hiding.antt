-- Names that come and go.
use Rattle.std.proofs.Common.{◌≡◌, ℕ, zero, suc, ◌+◌, ◌-◌, ◌<◌, ◌≤◌, Bool, true, false, if◌then◌else◌, List, [], ◌∷◌, ◌++◌, length, take, refl, sym, subst, ap, ◌∙◌, arith}
use Rattle.std.specs.Prelude.{Option, Some, None}
use Rattle.std.specs.Option.{option_or}
use Rattle.std.specs.Str.{bytes_eq}
use Rattle.std.proofs.lemmas.List.{append-nil, append_assoc, map-append}
use Rattle.std.proofs.lemmas.Slice.Eq.{bytes_eq-Decides}
use Rattle.eu_index.specs.declared.innermost.SeenName.{SeenName}
use Rattle.eu_index.specs.Hiding.{AreIndexed, KnowHidden, Meant, indexed_meaning, last_meaning, meaning_if, seen_pair, seen_pairs}

-- ---- names

same_back : (a b : List ℕ) → bytes_eq a b ≡ bytes_eq b a
same_back a b = by (bytes_eq a b) (bytes_eq b a) refl refl
  where
    by : (x y : Bool) → bytes_eq a b ≡ x → bytes_eq b a ≡ y → x ≡ y
    by true true one other = refl
    by false false one other = refl
    by true false one other =
        let e : a ≡ b = (bytes_eq-Decides a b).0 one in
        let back : bytes_eq b a ≡ true = (bytes_eq-Decides b a).1 (sym e) in absurd (cc)
    by false true one other =
        let e : b ≡ a = (bytes_eq-Decides b a).0 other in
        let back : bytes_eq a b ≡ true = (bytes_eq-Decides a b).1 (sym e) in absurd (cc)

-- ---- lists

taken : {X : Type 0} (some more : List X) → take (length some) (some ++ more) ≡ some
taken [] more = refl
taken (x ∷ some) more = ap (λ rest. x ∷ rest) (taken some more)

longer : {X : Type 0} (some : List X) (x : X) → length (some ++ x ∷ []) ≡ length some + 1
longer [] x = refl
longer (y ∷ some) x = let rest = longer some x in omega arith

before_last : {X : Type 0} (front : List X) (x : X) → take (length (front ++ x ∷ []) - 1) (front ++ x ∷ []) ≡ front
before_last front x =
    let long = longer front x in
    let same : length (front ++ x ∷ []) - 1 ≡ length front = omega arith in
    ap (λ n. take n (front ++ x ∷ [])) same ∙ taken front (x ∷ [])

module _ {T : Type 0} where
  -- ---- options

  or_none : (o : Option T) → o ≡ option_or o None
  or_none None = refl
  or_none (Some found) = refl

  or_behind : (a b c : Option T) → option_or a (option_or b c) ≡ option_or (option_or a b) c
  or_behind None b c = refl
  or_behind (Some x) b c = refl

  if_or : (b : Bool) (meaning : T) (o : Option T) → (if b then Some meaning else o) ≡ option_or (if b then Some meaning else None) o
  if_or true meaning o = refl
  if_or false meaning o = refl

  last_append : (name : List ℕ) (some : Meant T) (seen : List ℕ × T)
      → last_meaning name (some ++ seen ∷ []) ≡ option_or (meaning_if name seen) (last_meaning name some)
  last_append name [] seen = or_none (meaning_if name seen)
  last_append name (other ∷ some) seen =
      ap (λ o. option_or o (meaning_if name other)) (last_append name some seen)
      ∙ sym (or_behind (meaning_if name seen) (last_meaning name some) (meaning_if name other))

  -- ---- which meaning each hides

  know_more : (before : Meant T) (front : List (SeenName T)) (seen : SeenName T) → KnowHidden before front
      → seen.hidden ≡ last_meaning seen.name (before ++ seen_pairs front) → KnowHidden before (front ++ seen ∷ [])
  know_more before [] seen know is = (is ∙ ap (last_meaning seen.name) (append-nil before), tt)
  know_more before (other ∷ front) seen know is = (
    know.0,
    know_more (before ++ seen_pair other ∷ []) front seen know.1
        (is ∙ ap (last_meaning seen.name) (sym (append_assoc before (seen_pair other ∷ []) (seen_pairs front)))),
  )

  know_less : (before : Meant T) (front : List (SeenName T)) (seen : SeenName T) → KnowHidden before (front ++ seen ∷ [])
      → KnowHidden before front × (seen.hidden ≡ last_meaning seen.name (before ++ seen_pairs front))
  know_less before [] seen know = (tt, know.0 ∙ ap (last_meaning seen.name) (sym (append-nil before)))
  know_less before (other ∷ front) seen know =
      let rest = know_less (before ++ seen_pair other ∷ []) front seen know.1 in
      ((know.0, rest.0), rest.1 ∙ ap (last_meaning seen.name) (append_assoc before (seen_pair other ∷ []) (seen_pairs front)))

  -- ---- one more

  pairs_more : (seen : List (SeenName T)) (more : SeenName T) → seen_pairs (seen ++ more ∷ []) ≡ seen_pairs seen ++ seen_pair more ∷ []
  pairs_more seen more = map-append seen_pair seen (more ∷ [])

  indexed_more : (index after : List (List ℕ × Option T)) (seen : List (SeenName T)) (more : SeenName T)
      → AreIndexed index seen → more.hidden ≡ indexed_meaning index more.name
      → ((other : List ℕ) → indexed_meaning after other
      ≡ (if bytes_eq more.name other then Some more.meaning else indexed_meaning index other))
      → AreIndexed after (seen ++ more ∷ [])
  indexed_more index after seen more are hides noted = record {
    last = λ other.
        noted other
        ∙ (ap (λ b. if b then Some more.meaning else indexed_meaning index other) (same_back more.name other)
        ∙ (ap (λ o. if bytes_eq other more.name then Some more.meaning else o) (are.last other)
        ∙ (if_or (bytes_eq other more.name) more.meaning (last_meaning other (seen_pairs seen))
        ∙ (sym (last_append other (seen_pairs seen) (seen_pair more))
        ∙ ap (last_meaning other) (sym (pairs_more seen more))))));
    hidden = know_more [] seen more are.hidden (hides ∙ are.last more.name);
  }

  pub pushed : (index after : List (List ℕ × Option T)) (seen new : List (SeenName T)) (name copy : List ℕ) (meaning : T)
      (hidden : Option T)
      → AreIndexed index seen → hidden ≡ indexed_meaning index name → copy ≡ name
      → new ≡ seen ++ record { name = copy; meaning = meaning; hidden = hidden } ∷ []
      → ((other : List ℕ) → indexed_meaning after other ≡ (if bytes_eq name other then Some meaning else indexed_meaning index other))
      → AreIndexed after new
  pushed index after seen new name copy meaning hidden are hides same new_is noted =
      let more : SeenName T = record { name = name; meaning = meaning; hidden = hidden } in
      let new_same : new ≡ seen ++ more ∷ [] =
      new_is ∙ ap (λ (n : List ℕ). seen ++ record { name = n; meaning = meaning; hidden = hidden } ∷ []) same in
      subst (AreIndexed after) (sym new_same) (indexed_more index after seen more are hides noted)

  pub pushed_pairs : (seen new : List (SeenName T)) (name : List ℕ) (meaning : T) (hidden : Option T)
      → new ≡ seen ++ record { name = name; meaning = meaning; hidden = hidden } ∷ []
      → seen_pairs new ≡ seen_pairs seen ++ (name, meaning) ∷ []
  pushed_pairs seen new name meaning hidden new_is =
      let more : SeenName T = record { name = name; meaning = meaning; hidden = hidden } in
      ap seen_pairs new_is ∙ pairs_more seen more

  -- ---- one less

  indexed_less : (index after : List (List ℕ × Option T)) (front : List (SeenName T)) (gone : SeenName T)
      → AreIndexed index (front ++ gone ∷ [])
      → ((other : List ℕ) → indexed_meaning after other
      ≡ (if bytes_eq gone.name other then gone.hidden else indexed_meaning index other))
      → AreIndexed after front
  indexed_less index after front gone are noted = record {
    last = λ other. noted other ∙ by other (bytes_eq gone.name other) refl;
    hidden = know.0;
  }
    where
      know : KnowHidden [] front × (gone.hidden ≡ last_meaning gone.name (seen_pairs front))
      know = know_less [] front gone are.hidden

      by : (other : List ℕ) (b : Bool) → bytes_eq gone.name other ≡ b
          → (if b then gone.hidden else indexed_meaning index other) ≡ last_meaning other (seen_pairs front)
      by other true same = know.1 ∙ ap (λ n. last_meaning n (seen_pairs front)) ((bytes_eq-Decides gone.name other).0 same)
      by other false differ =
          are.last other
          ∙ (ap (last_meaning other) (pairs_more front gone)
          ∙ (last_append other (seen_pairs front) (seen_pair gone)
          ∙ ap (λ b. option_or (if b then Some gone.meaning else None) (last_meaning other (seen_pairs front)))
          (same_back other gone.name ∙ differ)))

  pub popped : (index after : List (List ℕ × Option T)) (seen new front : List (SeenName T)) (gone : SeenName T)
      → AreIndexed index seen → seen ≡ front ++ gone ∷ [] → new ≡ take (length seen - 1) seen
      → ((other : List ℕ) → indexed_meaning after other
      ≡ (if bytes_eq gone.name other then gone.hidden else indexed_meaning index other))
      → AreIndexed after new
  popped index after seen new front gone are seen_is new_is noted =
      let new_front : new ≡ front =
      new_is ∙ (ap (λ (some : List (SeenName T)). take (length some - 1) some) seen_is ∙ before_last front gone) in
      subst (AreIndexed after) (sym new_front) (indexed_less index after front gone (subst (AreIndexed index) seen_is are) noted)

  -- ---- the first so many

  taken_twice : (seen : List (SeenName T)) (count most : ℕ) → count ≤ most
      → take count (seen_pairs (take most seen)) ≡ take count (seen_pairs seen)
  taken_twice [] count zero fewer = refl
  taken_twice [] count (suc most) fewer = refl
  taken_twice (x ∷ seen) zero most fewer = refl
  taken_twice (x ∷ seen) (suc count) zero fewer = absurd (omega arith)
  taken_twice (x ∷ seen) (suc count) (suc most) fewer = ap (λ rest. seen_pair x ∷ rest) (taken_twice seen count most (omega arith))

  taken_all : (seen : List (SeenName T)) (count : ℕ) → length seen ≤ count → take count (seen_pairs seen) ≡ seen_pairs seen
  taken_all [] zero fewer = refl
  taken_all [] (suc count) fewer = refl
  taken_all (x ∷ seen) zero fewer = absurd (omega arith)
  taken_all (x ∷ seen) (suc count) fewer = ap (λ rest. seen_pair x ∷ rest) (taken_all seen count (omega arith))

  -- one fewer, of more than so many
  pub cut_on : (seen new begin : List (SeenName T)) (count : ℕ) → count < length seen → new ≡ take (length seen - 1) seen
      → take count (seen_pairs seen) ≡ take count (seen_pairs begin) → take count (seen_pairs new) ≡ take count (seen_pairs begin)
  cut_on seen new begin count more new_is so_far =
      ap (λ some. take count (seen_pairs some)) new_is ∙ (taken_twice seen count (length seen - 1) (omega arith) ∙ so_far)

  -- no more than so many are left
  pub cut_done : (seen begin : List (SeenName T)) (count : ℕ) → length seen ≤ count
      → take count (seen_pairs seen) ≡ take count (seen_pairs begin) → seen_pairs seen ≡ take count (seen_pairs begin)
  cut_done seen begin count fewer so_far = sym (taken_all seen count fewer) ∙ so_far

  -- fewer are left
  pub shorter : (seen new : List (SeenName T)) (count : ℕ) → count < length seen → new ≡ take (length seen - 1) seen
      → length new < length seen
  shorter [] new count more new_is = absurd (omega arith)
  shorter (x ∷ seen) new count more new_is =
      let less = short (length (x ∷ seen) - 1) (x ∷ seen) in
      let same : length new ≡ length (take (length (x ∷ seen) - 1) (x ∷ seen)) = ap length new_is in
      omega (arith, less, same)
    where
      short : (n : ℕ) (some : List (SeenName T)) → length (take n some) ≤ n
      short zero some = omega arith
      short (suc n) [] = omega arith
      short (suc n) (y ∷ some) = let rest = short n some in omega arith

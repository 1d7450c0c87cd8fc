-- The objects of each class, listed once.
use Rattle.std.proofs.Common.{◌≡◌, ℕ, zero, suc, ◌+◌, ◌-◌, ◌<◌, ◌==◌, ◌&&◌, ℤ, pos, Bool, true, false, List, [], ◌∷◌, ◌++◌, length, map, refl, sym, ◌∙◌, ap, subst, arith}
use Rattle.std.proofs.Common.{eqb-true, ltb-true}
use Rattle.std.specs.Prelude.{Option, Some, None, slice_get, if◌then◌else◌, nat_le, nat_lt}
use Rattle.std.specs.List.{range_with_len}
use Rattle.std.specs.Option.{option_map, option_map_or}
use Rattle.std.proofs.lemmas.Option.{same_Some, slice_get-map}
use Rattle.eu_forest.specs.Shortcuts.{Reaches, is_on_line}
use Rattle.eu_forest.proofs.Jumping.{line_tells, same_bool}
use Rattle.eu_forest.specs.Members.{AreMembers, has_member, list_at, is_marked, marks_at, numbers_marked, numbers_of}
use Rattle.eu_forest.proofs.Marked.{same_numbers}
use Rattle.nddl_symbols.specs.declared.declared.Declared.{Declared}
use Rattle.nddl_symbols.specs.declared.scope.Meaning.{Meaning}
use Rattle.nddl_symbols.specs.declared.scope.Meaning.TheVariants as meanings
use Rattle.nddl_hierarchy.specs.Facts.{Facts}
use Rattle.nddl_hierarchy.specs.Lines.{parents_of}
use Rattle.nddl_hierarchy.proofs.Extending.{entry_under}
use Rattle.nddl_types.specs.Classes.{class_entries, is_first_class}
use Rattle.nddl_constructors.specs.Creations.{is_of_class}
use Rattle.nddl_construction.specs.declared.made.MadeObject.{MadeObject}
use Rattle.nddl_env.specs.Listing.{HasKnownLine, HaveKnownLines, behind_builtin, builtin_populations, class_population, entry_population, is_numbered, owner_of, owners_of, populations, populations_with}
use Rattle.nddl_env.specs.Objects.{objects_of}

-- ---- objects of a class

-- the objects of a class are those that are marked as of it
objects_marked : (facts : Facts) (class : Meaning) (number : ℕ) (objects : List MadeObject)
    → objects_of facts class number objects ≡ numbers_marked number (map (λ object. is_of_class facts class object.class) objects)
objects_marked facts class number [] = refl
objects_marked facts class number (object ∷ objects) =
    ap (λ rest. (if is_of_class facts class object.class then number ∷ [] else []) ++ rest) (objects_marked facts class (number + 1) objects)

module _ (facts : Facts) (are : facts.parents ≡ parents_of facts.names facts.program) where
  -- a class whose line is known to end is of another one where it leads up to it
  of_class : (entry other : ℕ) → HasKnownLine facts (meanings.Entry entry)
      → (is_of_class facts (meanings.Entry other) (meanings.Entry entry) ≡ true → Reaches facts.parents entry other)
      × (Reaches facts.parents entry other → is_of_class facts (meanings.Entry other) (meanings.Entry entry) ≡ true)
  of_class entry other known =
      let same = entry_under facts.names facts.program facts.parents other entry (is_on_line facts.parents entry other) are known.0 (known.1, refl) in
      let tells = line_tells facts.parents other entry known.1.0 known.1.1 in (
        (λ is. tells.0 (same ∙ is)),
        (λ up. sym same ∙ tells.1 up),
      )

  module _ (objects : List MadeObject) (lines : HaveKnownLines facts objects) where
    owner_here : (number owner : ℕ) → slice_get (owners_of objects) number ≡ Some (Some owner)
        → (object : MadeObject) × (slice_get objects number ≡ Some object) × (object.class ≡ meanings.Entry owner)
    owner_here number owner at = by (slice_get objects number) refl (sym (slice_get-map (λ object. owner_of object.class) objects number) ∙ at)
      where
        own : (class : Meaning) → owner_of class ≡ Some owner → class ≡ meanings.Entry owner
        own (meanings.BuiltIn builtin) is = absurd (cc)
        own (meanings.Entry entry) is = ap meanings.Entry (same_Some entry owner is)

        by : (found : Option MadeObject) → slice_get objects number ≡ found → option_map (λ object. owner_of object.class) found ≡ Some (Some owner)
            → (object : MadeObject) × (slice_get objects number ≡ Some object) × (object.class ≡ meanings.Entry owner)
        by None there is = absurd (cc)
        by (Some object) there is = (object, there, own object.class (same_Some (owner_of object.class) (Some owner) is))

    -- the mark of an object that is there
    mark_at : (class : Meaning) (number : ℕ) (object : MadeObject) → slice_get objects number ≡ Some object
        → is_marked (map (λ one. is_of_class facts class one.class) objects) number ≡ is_of_class facts class object.class
    mark_at class number object at =
        ap (λ o. option_map_or (λ mark. mark) o false)
        (slice_get-map (λ one. is_of_class facts class one.class) objects number ∙ ap (option_map (λ one. is_of_class facts class one.class)) at)

    mark_there : (class : Meaning) (number : ℕ) → is_marked (map (λ one. is_of_class facts class one.class) objects) number ≡ true
        → (object : MadeObject) × (slice_get objects number ≡ Some object) × (is_of_class facts class object.class ≡ true)
    mark_there class number is = by (slice_get objects number) refl
        (sym (ap (λ o. option_map_or (λ mark. mark) o false) (slice_get-map (λ one. is_of_class facts class one.class) objects number)) ∙ is)
      where
        by : (found : Option MadeObject) → slice_get objects number ≡ found
            → option_map_or (λ mark. mark) (option_map (λ one. is_of_class facts class one.class) found) false ≡ true
            → (object : MadeObject) × (slice_get objects number ≡ Some object) × (is_of_class facts class object.class ≡ true)
        by None there e = absurd (let f : false ≡ true = e in cc)
        by (Some object) there e = (object, there, e)

    module _ (found : List (List Bool)) (members : AreMembers facts.parents (owners_of objects) found) where
      member_marked : (entry number : ℕ) → has_member found entry number ≡ true
          → is_marked (map (λ one. is_of_class facts (meanings.Entry entry) one.class) objects) number ≡ true
      member_marked entry number has =
          let is = members.sound entry number has in
          let here = owner_here number is.0 is.1 in
          let K : Meaning → Type 0 = λ class. HasKnownLine facts class in
          let known : HasKnownLine facts (meanings.Entry is.0) = subst K here.2 (lines number here.0 here.1) in
          mark_at (meanings.Entry entry) number here.0 here.1
          ∙ (ap (is_of_class facts (meanings.Entry entry)) here.2 ∙ (of_class is.0 entry known).1 is.2)

      marked_member : (entry number : ℕ) → entry < length facts.parents
          → is_marked (map (λ one. is_of_class facts (meanings.Entry entry) one.class) objects) number ≡ true → has_member found entry number ≡ true
      marked_member entry number within marked =
          let here = mark_there (meanings.Entry entry) number marked in
          by here.0 here.0.class refl here.1 here.2
        where
          owned : (object : MadeObject) (owner : ℕ) → slice_get objects number ≡ Some object → object.class ≡ meanings.Entry owner
              → slice_get (owners_of objects) number ≡ Some (Some owner)
          owned object owner at class =
              slice_get-map (λ one. owner_of one.class) objects number
              ∙ (ap (option_map (λ one. owner_of one.class)) at ∙ ap (λ c. Some (owner_of c)) class)

          by : (object : MadeObject) (class : Meaning) → object.class ≡ class → slice_get objects number ≡ Some object
              → is_of_class facts (meanings.Entry entry) object.class ≡ true → has_member found entry number ≡ true
          by object (meanings.BuiltIn builtin) class at is =
              absurd (let e : false ≡ true = sym (ap (is_of_class facts (meanings.Entry entry)) class) ∙ is in cc)
          by object (meanings.Entry owner) class at is =
              let K : Meaning → Type 0 = λ one. HasKnownLine facts one in
              let known : HasKnownLine facts (meanings.Entry owner) = subst K class (lines number object at) in
              members.whole entry number within
              (owner, owned object owner at class, (of_class owner entry known).0 (sym (ap (is_of_class facts (meanings.Entry entry)) class) ∙ is))

      -- what a name has are the objects of its class
      population_is : (entry : ℕ) → entry < length facts.parents → numbers_of found entry ≡ entry_population facts objects entry
      population_is entry within =
          ap (map pos) (same_numbers (marks_at found entry) (map (λ one. is_of_class facts (meanings.Entry entry) one.class) objects) 0
          (λ number. same_bool (has_member found entry number) (is_marked (map (λ one. is_of_class facts (meanings.Entry entry) one.class) objects) number)
          (member_marked entry number) (marked_member entry number within))
          ∙ sym (objects_marked facts (meanings.Entry entry) 0 objects))

      populations_are : (entries : List ℕ) → ((place entry : ℕ) → slice_get entries place ≡ Some entry → entry < length facts.parents)
          → map (λ thing. numbers_of found thing) entries ≡ map (entry_population facts objects) entries
      populations_are [] within = refl
      populations_are (entry ∷ entries) within =
          (λ i. population_is entry (within zero entry refl) i ∷ populations_are entries (λ place other at. within (suc place) other at) i)

-- ---- numbers of names

-- the names that are classes are among all names
entries_within : (names : List Declared) (number : ℕ) (some : List Declared) (place entry : ℕ)
    → slice_get (class_entries names number some) place ≡ Some entry → entry < number + length some
entries_within names number [] place entry at = absurd (cc)
entries_within names number (declared ∷ some) place entry at =
    by (is_first_class names number declared) place (λ other here. entries_within names (number + 1) some other entry here) at
  where
    by : (first : Bool) (place : ℕ) → ((other : ℕ) → slice_get (class_entries names (number + 1) some) other ≡ Some entry → entry < number + 1 + length some)
        → slice_get ((if first then number ∷ [] else []) ++ class_entries names (number + 1) some) place ≡ Some entry
        → entry < number + suc (length some)
    by true zero rest here = let same : number ≡ entry = same_Some number entry here in omega (arith, same)
    by true (suc place) rest here = let less : entry < number + 1 + length some = rest place here in omega (arith, less)
    by false place rest here = let less : entry < number + 1 + length some = rest place here in omega (arith, less)

more_parents : {A B : Type 0} (f : A → B) (some : List A) (last : B) → length (map f some ++ last ∷ []) ≡ length some + 1
more_parents f [] last = refl
more_parents f (one ∷ some) last = let rest = more_parents f some last in omega (arith, rest)

-- ---- all classes

pub shared_is : (facts : Facts) (objects : List MadeObject) (found : List (List Bool)) (entries : List ℕ) (made listed : List (List ℤ))
    → facts.parents ≡ parents_of facts.names facts.program → entries ≡ class_entries facts.names 0 facts.names → HaveKnownLines facts objects
    → AreMembers facts.parents (owners_of objects) found → listed ≡ map (λ thing. numbers_of found thing) entries
    → made ≡ builtin_populations facts objects ++ listed → made ≡ populations facts objects
shared_is facts objects found entries made listed are is lines members lists all =
    all
    ∙ (ap (λ rest. builtin_populations facts objects ++ rest) (lists ∙ populations_are facts are objects lines found members entries within)
    ∙ ap (λ some. builtin_populations facts objects ++ map (entry_population facts objects) some) is)
  where
    long : length facts.parents ≡ length facts.names + 1
    long = ap length are ∙ more_parents _ facts.names _

    within : (place entry : ℕ) → slice_get entries place ≡ Some entry → entry < length facts.parents
    within place entry at =
        let less : entry < 0 + length facts.names = entries_within facts.names 0 facts.names place entry (ap (λ some. slice_get some place) (sym is) ∙ at) in
        omega (arith, less, long)

-- ---- places

-- one number more is the next one
more_from : (from count : ℕ) → range_with_len from (suc count) ≡ range_with_len from count ++ (from + count) ∷ []
more_from from zero = let e : from ≡ from + 0 = omega arith in ap (λ n. n ∷ []) e
more_from from (suc count) =
    let e : from + 1 + count ≡ from + suc count = omega arith in
    ap (λ rest. from ∷ rest) (more_from (from + 1) count ∙ ap (λ n. range_with_len (from + 1) count ++ n ∷ []) e)

pub range_more : (count : ℕ) → range_with_len 0 (count + 1) ≡ range_with_len 0 count ++ count ∷ []
range_more count =
    let e : count + 1 ≡ suc count = omega arith in
    let last : 0 + count ≡ count = omega arith in
    ap (range_with_len 0) e ∙ (more_from 0 count ∙ ap (λ n. range_with_len 0 count ++ n ∷ []) last)

-- lists in their own places are these lists
in_place : (lists before : List (List ℤ)) → map (list_at (before ++ lists)) (range_with_len (length before) (length lists)) ≡ lists
in_place lists before = by lists before
  where
    at : (before : List (List ℤ)) (list : List ℤ) (more : List (List ℤ)) → list_at (before ++ list ∷ more) (length before) ≡ list
    at [] list more = refl
    at (one ∷ before) list more = at before list more

    joined : (before : List (List ℤ)) (list : List ℤ) (more : List (List ℤ)) → (before ++ list ∷ []) ++ more ≡ before ++ list ∷ more
    joined [] list more = refl
    joined (one ∷ before) list more = ap (λ rest. one ∷ rest) (joined before list more)

    longer : (before : List (List ℤ)) (list : List ℤ) → length (before ++ list ∷ []) ≡ length before + 1
    longer [] list = refl
    longer (one ∷ before) list = let rest = longer before list in omega (arith, rest)

    by : (lists before : List (List ℤ)) → map (list_at (before ++ lists)) (range_with_len (length before) (length lists)) ≡ lists
    by [] before = refl
    by (list ∷ lists) before =
        (λ i. at before list lists i
        ∷ ((λ j. map (list_at (sym (joined before list lists) j)) (range_with_len (sym (longer before list) j) (length lists))) ∙ by lists (before ++ list ∷ [])) i)

pub each_placed : (lists : List (List ℤ)) → map (list_at lists) (range_with_len 0 (length lists)) ≡ lists
each_placed lists = in_place lists []

pub behind_placed : (one two three four : List ℤ) (lists : List (List ℤ)) (places : List ℕ)
    → map (list_at (one ∷ two ∷ three ∷ four ∷ lists)) (behind_builtin places) ≡ one ∷ two ∷ three ∷ four ∷ map (list_at lists) places
behind_placed one two three four lists places = ap (λ rest. one ∷ two ∷ three ∷ four ∷ rest) (by places)
  where
    by : (some : List ℕ) → map (list_at (one ∷ two ∷ three ∷ four ∷ lists)) (map (λ place. 4 + place) some) ≡ map (list_at lists) some
    by [] = refl
    by (place ∷ some) =
        let e : 4 + place ≡ suc (suc (suc (suc place))) = omega arith in
        (λ i. ap (list_at (one ∷ two ∷ three ∷ four ∷ lists)) e i ∷ by some i)

-- ---- the number of a class

both_true : (one other : Bool) → (one && other) ≡ true → (one ≡ true) × (other ≡ true)
both_true true other is = (refl, is)
both_true false other is = absurd (cc)

pub numbered : (facts : Facts) (objects : List MadeObject) (entries : List ℕ) (number : ℕ) (class : Meaning) → is_numbered entries number class ≡ true
    → list_at (populations_with facts objects entries) number ≡ class_population facts objects class
numbered facts objects entries number (meanings.BuiltIn builtin) is =
    let both = both_true (nat_lt builtin 4) (builtin == number) is in
    ap (list_at (populations_with facts objects entries)) (sym (eqb-true builtin number both.1)) ∙ by builtin both.0
  where
    by : (some : ℕ) → nat_lt some 4 ≡ true → list_at (populations_with facts objects entries) some ≡ class_population facts objects (meanings.BuiltIn some)
    by zero less = refl
    by (suc zero) less = refl
    by (suc (suc zero)) less = refl
    by (suc (suc (suc zero))) less = refl
    by (suc (suc (suc (suc more)))) less =
        let low : suc (suc (suc (suc more))) < 4 = ltb-true (suc (suc (suc (suc more)))) 4 less in absurd (omega (arith, low))
numbered facts objects entries number (meanings.Entry entry) is =
    let both = both_true (nat_le 4 number) (option_map_or (λ other. other == entry) (slice_get entries (number - 4)) false) is in
    by number both.0 both.1
  where
    there : (found : Option ℕ) → option_map_or (λ other. other == entry) found false ≡ true → found ≡ Some entry
    there None e = absurd (let f : false ≡ true = e in cc)
    there (Some other) e = ap (λ n. Some n) (eqb-true other entry e)

    at : (some : List ℕ) (place : ℕ) → slice_get some place ≡ Some entry → list_at (map (entry_population facts objects) some) place ≡ entry_population facts objects entry
    at some place here =
        ap (λ o. option_map_or (λ list. list) o []) (slice_get-map (entry_population facts objects) some place ∙ ap (option_map (entry_population facts objects)) here)

    by : (some : ℕ) → nat_le 4 some ≡ true → option_map_or (λ other. other == entry) (slice_get entries (some - 4)) false ≡ true
        → list_at (populations_with facts objects entries) some ≡ class_population facts objects (meanings.Entry entry)
    by zero less e = absurd (let f : false ≡ true = less in cc)
    by (suc zero) less e = absurd (let f : false ≡ true = less in cc)
    by (suc (suc zero)) less e = absurd (let f : false ≡ true = less in cc)
    by (suc (suc (suc zero))) less e = absurd (let f : false ≡ true = less in cc)
    by (suc (suc (suc (suc place)))) less e =
        let same : place ≡ suc (suc (suc (suc place))) - 4 = omega arith in
        at entries place (there (slice_get entries place) (ap (λ n. option_map_or (λ other. other == entry) (slice_get entries n) false) same ∙ e))

-- ---- what is at hand

pub listed_is : (facts : Facts) (objects : List MadeObject) (entries : List ℕ) (by_class : List (List ℤ)) (number : ℕ) (class : Meaning) (values : List ℤ)
    → entries ≡ class_entries facts.names 0 facts.names → by_class ≡ populations facts objects → is_numbered entries number class ≡ true
    → values ≡ list_at by_class number → values ≡ class_population facts objects class
listed_is facts objects entries by_class number class values are listed numbered_so at =
    at ∙ (ap (λ (lists : List (List ℤ)). list_at lists number) (listed ∙ ap (populations_with facts objects) (sym are)) ∙ numbered facts objects entries number class numbered_so)

pub each_is : (lists made all : List (List ℤ)) (places : List ℕ) (count : ℕ) → count ≡ length lists → places ≡ range_with_len 0 count
    → made ≡ map (list_at lists) places → lists ≡ all → made ≡ all
each_is lists made all places count long are placed is =
    placed ∙ (ap (map (list_at lists)) (are ∙ ap (range_with_len 0) long) ∙ (each_placed lists ∙ is))

pub behind_is : (facts : Facts) (objects : List MadeObject) (lists more made : List (List ℤ)) (places some : List ℕ)
    → places ≡ behind_builtin some → lists ≡ builtin_populations facts objects ++ more → made ≡ map (list_at lists) places
    → made ≡ builtin_populations facts objects ++ map (list_at more) some
behind_is facts objects lists more made places some are is placed =
    placed
    ∙ ((λ i. map (list_at (is i)) (are i))
    ∙ behind_placed (class_population facts objects (meanings.BuiltIn 0)) (class_population facts objects (meanings.BuiltIn 1))
    (class_population facts objects (meanings.BuiltIn 2)) (class_population facts objects (meanings.BuiltIn 3)) more some)

-- How many objects are made, and where.
use Rattle.std.proofs.Common.{◌≡◌, ℕ, zero, suc, ◌+◌, ◌<◌, ◌≤◌, Bool, true, false, cond, List, [], ◌∷◌, ◌++◌, length, refl, sym, ◌∙◌, ap, subst, arith}
use Rattle.std.specs.Prelude.{Option, Some, None, ◌&&◌, filter, is_some, slice_get, slice_set, option_and_then, option_map, if◌then◌else◌}
use Rattle.std.specs.List.{cons_option}
use Rattle.std.specs.Option.{option_map_or}
use Rattle.std.proofs.lemmas.List.{append-nil, length-append, set_at}
use Rattle.std.proofs.lemmas.List.Elements.{filter_map-append}
use Rattle.nddl_symbols.specs.declared.scope.Meaning.{Meaning}
use Rattle.nddl_hierarchy.specs.Facts.{Facts}
use Rattle.nddl_construction.specs.declared.made.FieldValue.{FieldValue}
use Rattle.nddl_construction.specs.declared.made.MadeObject.{MadeObject}
use Rattle.nddl_objects.specs.Construction.{field_added, with_field}
use Rattle.nddl_object_laws.specs.Carried.{Assignment, Carried, Carries, New, Numbered, There, assignment_carried, carried_by, has_levels, has_place, is_made, made_count, makes_one, new_class, new_steps, numbered, numbered_carried}
use Rattle.nddl_object_laws.specs.Made.{carried_object, carried_objects, new_object}
use Rattle.nddl_object_laws.proofs.Reading.{Keep, head_of}

-- ---- lists

pub front_get : {X : Type 0} (front more : List X) (place : ℕ) → place < length front → slice_get (front ++ more) place ≡ slice_get front place
front_get [] more place less = absurd (omega (arith, less))
front_get (x ∷ front) more zero less = refl
front_get (x ∷ front) more (suc place) less = front_get front more place (omega (arith, less))

pub get_at : {X : Type 0} (front : List X) (x : X) (more : List X) → slice_get (front ++ x ∷ more) (length front) ≡ Some x
get_at [] x more = refl
get_at (first ∷ front) x more = get_at front x more

-- the object behind these has one field more
pub field_at : (front more : List MadeObject) (object : MadeObject) (field : FieldValue)
    → with_field (front ++ object ∷ more) (length front) field ≡ front ++ field_added object field ∷ more
field_at front more object field =
    ap (λ (found : Option MadeObject). option_map_or (λ (o : MadeObject). slice_set (front ++ object ∷ more) (length front) (field_added o field)) found (front ++ object ∷ more))
    (get_at front object more)
    ∙ set_at front object more (field_added object field) (length front) refl

-- more objects keep those that were there
pub keep_more : (front objects more : List MadeObject) → length front ≤ length objects → Keep front objects → Keep front (objects ++ more)
keep_more front objects more long keep = λ number less.
    let within : number < length objects = omega (arith, long, less) in
    front_get objects more number within ∙ keep number less

-- ---- classes and names of objects that are made

-- as far as the one list goes, both have objects of the same classes and names
abbrev pub Agree : List MadeObject → List MadeObject → Type 0
Agree objects all =
    (number : ℕ) → number < length objects → option_map head_of (slice_get objects number) ≡ option_map head_of (slice_get all number)

pub agree_front : (one more all : List MadeObject) → Agree (one ++ more) all → Agree one all
agree_front one more all agree = λ number less.
    let within : number < length (one ++ more) = omega (arith, length-append one more, less) in
    ap (option_map head_of) (sym (front_get one more number less)) ∙ agree number within

heads_alike : (front : List MadeObject) (one other : MadeObject) (some more : List MadeObject) → head_of one ≡ head_of other
    → (number : ℕ) → number < length (front ++ one ∷ some)
    → option_map head_of (slice_get (front ++ one ∷ some) number) ≡ option_map head_of (slice_get (front ++ other ∷ (some ++ more)) number)
heads_alike [] one other some more same zero less = ap (λ head. Some head) same
heads_alike [] one other some more same (suc number) less =
    ap (option_map head_of) (sym (front_get some more number (omega (arith, less))))
heads_alike (first ∷ front) one other some more same zero less = refl
heads_alike (first ∷ front) one other some more same (suc number) less =
    heads_alike front one other some more same number (omega (arith, less))

-- so it is before an object has more fields, and there are more behind it
pub agree_before : (front : List MadeObject) (one other : MadeObject) (some more all : List MadeObject) → head_of one ≡ head_of other
    → Agree (front ++ other ∷ (some ++ more)) all → Agree (front ++ one ∷ some) all
agree_before front one other some more all same agree = λ number less.
    let within : number < length (front ++ other ∷ (some ++ more)) =
    omega (arith, length-append front (one ∷ some), length-append front (other ∷ (some ++ more)), length-append some more, less) in
    heads_alike front one other some more same number less ∙ agree number within

-- ---- how many are made

module _ (facts : Facts) where
  pub count_append : (one other : List Carried) → made_count facts (one ++ other) ≡ made_count facts one + made_count facts other
  count_append [] other = omega arith
  count_append (carried ∷ one) other = by (is_made facts carried) (count_append one other)
    where
      by : (made : Bool) → made_count facts (one ++ other) ≡ made_count facts one + made_count facts other
          → length (cond made (carried ∷ filter (is_made facts) (one ++ other)) (filter (is_made facts) (one ++ other)))
          ≡ length (cond made (carried ∷ filter (is_made facts) one) (filter (is_made facts) one)) + made_count facts other
      by true rest = omega (arith, rest)
      by false rest = rest

  pub objects_append : (one other : List Carried) → carried_objects facts (one ++ other) ≡ carried_objects facts one ++ carried_objects facts other
  objects_append one other = filter_map-append (carried_object facts) one other

  both_some : (class : Option Meaning) (room : Bool) (object : Meaning → MadeObject)
      → is_some (option_and_then (λ class. if room then Some (object class) else None) class) ≡ (is_some class && room)
  both_some None room object = refl
  both_some (Some class) true object = refl
  both_some (Some class) false object = refl

  none_deep : (class : Option Meaning) (room : Bool) → false ≡ (is_some class && (false && room))
  none_deep None room = refl
  none_deep (Some class) room = refl

  -- an object is made where there is one
  object_made : (there : There) (levels number : ℕ) (new : New)
      → is_some (new_object facts there levels number new) ≡ (is_some (new_class facts new) && (has_levels levels && has_place number))
  object_made there zero number new = none_deep (new_class facts new) (has_place number)
  object_made there (suc levels) number new = both_some (new_class facts new) (has_place number) _

  pub counted : (some : List Carried) → length (carried_objects facts some) ≡ made_count facts some
  counted [] = refl
  counted (carried ∷ more) =
      by (carried_object facts carried) (is_made facts carried) (object_made carried.there carried.levels carried.number carried.new) (counted more)
    where
      by : (found : Option MadeObject) (made : Bool) → is_some found ≡ made → length (carried_objects facts more) ≡ made_count facts more
          → length (cons_option found (carried_objects facts more))
          ≡ length (cond made (carried ∷ filter (is_made facts) more) (filter (is_made facts) more))
      by None true is rest = absurd (let e : false ≡ true = is in cc)
      by None false is rest = rest
      by (Some object) true is rest = ap suc rest
      by (Some object) false is rest = absurd (let e : true ≡ false = is in cc)

  -- ---- fields in several lists

  module _ (carries : Carries) (name : List ℕ) where
    pub numbered_append : (number : ℕ) (one other : List Assignment)
        → numbered facts carries name number (one ++ other)
        ≡ numbered facts carries name number one
        ++ numbered facts carries name (number + made_count facts (numbered_carried carries name (numbered facts carries name number one))) other
    numbered_append number [] other =
        let none : number ≡ number + 0 = omega arith in ap (λ n. numbered facts carries name n other) none
    numbered_append number (assignment ∷ one) other =
        let here : List Carried = assignment_carried carries name number assignment in
        let next : ℕ = number + made_count facts here in
        let rest : List Carried = numbered_carried carries name (numbered facts carries name next one) in
        let step : Numbered = record { number = number; assignment = assignment } in
        let count = count_append here rest in
        let same : next + made_count facts rest ≡ number + made_count facts (here ++ rest) = omega (arith, count) in
        ap (λ steps. step ∷ steps)
        (numbered_append next one other
        ∙ ap (λ n. numbered facts carries name next one ++ numbered facts carries name n other) same)

-- ---- what is carried out

pub carried_none : (facts : Facts) (there : There) (number : ℕ) (new : New)
    → carried_by zero facts there number new ≡ record { there = there; levels = zero; number = number; new = new } ∷ []
unfolding carried_by
carried_none facts there number new = refl

pub carried_more : (levels : ℕ) (facts : Facts) (there : There) (number : ℕ) (new : New)
    → carried_by (suc levels) facts there number new
    ≡ record { there = there; levels = suc levels; number = number; new = new }
    ∷ numbered_carried (carried_by levels facts there) new.name (new_steps facts there (carried_by levels facts there) number new)
unfolding carried_by
carried_more levels facts there number new = refl

count_first : (facts : Facts) (one : Carried) (rest : List Carried) → is_made facts one ≡ true → 1 ≤ made_count facts (one ∷ rest)
count_first facts one rest is = by (is_made facts one) is
  where
    by : (made : Bool) → made ≡ true → 1 ≤ length (cond made (one ∷ filter (is_made facts) rest) (filter (is_made facts) rest))
    by true same = omega arith
    by false same = absurd (let e : false ≡ true = same in cc)

-- a `new` that makes an object makes one at least
pub made_first : (facts : Facts) (there : There) (levels number : ℕ) (new : New) → makes_one facts levels number new.creation ≡ true
    → 1 ≤ made_count facts (carried_by levels facts there number new)
made_first facts there zero number new is =
    let P : List Carried → Type 0 = λ some. 1 ≤ made_count facts some in
    subst P (sym (carried_none facts there number new))
    (count_first facts (record { there = there; levels = zero; number = number; new = new }) [] is)
made_first facts there (suc levels) number new is =
    let P : List Carried → Type 0 = λ some. 1 ≤ made_count facts some in
    subst P (sym (carried_more levels facts there number new))
    (count_first facts (record { there = there; levels = suc levels; number = number; new = new })
    (numbered_carried (carried_by levels facts there) new.name (new_steps facts there (carried_by levels facts there) number new)) is)

-- with other fields the objects agree, too
pub agree_fields : (front : List MadeObject) (one other : MadeObject) (some all : List MadeObject) → head_of one ≡ head_of other
    → Agree (front ++ other ∷ some) all → Agree (front ++ one ∷ some) all
agree_fields front one other some all same agree =
    let A : List MadeObject → Type 0 = λ rest. Agree (front ++ other ∷ rest) all in
    agree_before front one other some [] all same (subst A (sym (append-nil some)) agree)

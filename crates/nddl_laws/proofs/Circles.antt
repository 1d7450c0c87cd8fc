-- No class of a table is its own ancestor.
use Rattle.std.proofs.Common.{◌≡◌, ℕ, zero, suc, ◌+◌, ◌<◌, ◌≤◌, ◌&&◌, Bool, true, false, List, [], ◌∷◌, ◌++◌, length, map, refl, sym, ◌∙◌, ap, subst, arith}
use Rattle.std.specs.Prelude.{Option, Some, None, slice_get, if◌then◌else◌, codes}
use Rattle.std.specs.Option.{option_and_then, option_map, option_map_or}
use Rattle.std.proofs.lemmas.Option.{same_Some, slice_get-map, slice_get_within}
use Rattle.eu_forest.specs.declared.lineage.Rootedness.TheVariants as how
use Rattle.eu_forest.specs.declared.walk.Mark.{Mark}
use Rattle.eu_forest.specs.Lines.{IsLineageOf, IsOnCircle, LeadsUp, StandsUnder, rootedness_in}
use Rattle.model_core.specs.declared.class.Class.{Class}
use Rattle.model_core.specs.declared.class.Enum.{Enum}
use Rattle.model_core.specs.declared.model.Model.{Model}
use Rattle.model_core.specs.Kinds.{Climbs, IsParentClass, IsUnder}
use Rattle.nddl_ast.specs.declared.declaration.Decl.{Decl}
use Rattle.nddl_ast.specs.declared.declaration.FileDecls.{FileDecls}
use Rattle.nddl_ast.specs.declared.name.Name.{Name}
use Rattle.nddl_symbols.specs.declared.place.Place.{Place}
use Rattle.nddl_symbols.specs.declared.declared.Declared.{Declared}
use Rattle.nddl_symbols.specs.declared.declared.Sort.{Sort}
use Rattle.nddl_symbols.specs.declared.declared.Sort.TheVariants as sorts
use Rattle.nddl_symbols.specs.declared.scope.Meaning.{Meaning}
use Rattle.nddl_symbols.specs.declared.scope.Meaning.TheVariants as meanings
use Rattle.nddl_symbols.specs.Names.{is_class_sort}
use Rattle.nddl_symbols.specs.Scope.{is_class_at, meaning_of, named_number, second_name_faults}
use Rattle.nddl_hierarchy.specs.Ancestors.{above}
use Rattle.nddl_hierarchy.specs.Decls.{declaration_with_body, class_parent, decl_of_name}
use Rattle.nddl_hierarchy.specs.Facts.{Facts}
use Rattle.nddl_hierarchy.specs.Lines.{circle_fault, circle_faults, class_under, declared_place, is_circle, parents_of, sort_under, under_meaning}
use Rattle.nddl_declarations.specs.Faults.{all_faults, decls_faults}
use Rattle.nddl_types.specs.declared.table.TypeTable.{TypeTable}
use Rattle.nddl_types.specs.Classes.{builtin_class, class_entries, class_number, class_numbers, compiled_class, classes_of, is_first, is_first_class, parent_number}
use Rattle.nddl_types.specs.Table.{IsTable}
use Rattle.nddl_laws.proofs.Nothing.{decls_fine, none_first, none_second}
use Rattle.nddl_laws.proofs.Numbered.{entry_is, listed, numbered}
use Rattle.nddl_laws.proofs.Parents.{decl_fine, extends_class, few_builtin, meant_class}
use Rattle.nddl_laws.proofs.Rootedness.{one_rootedness}

-- ---- what a class extends

pub record Extends (names : List Declared) (program : List Decl) (entry : ℕ) (meaning : Meaning) : Type 0 where
  pub declared : Declared
  pub there : slice_get names entry ≡ Some declared
  pub decl : Decl
  pub body : declaration_with_body names program declared ≡ Some decl
  pub name : Name
  pub parent : class_parent decl ≡ Some name
  pub means : meaning_of names name.text ≡ Some meaning

pub extends_is : (names : List Declared) (program : List Decl) (entry : ℕ) (meaning : Meaning) → above names program entry ≡ Some meaning
    → Extends names program entry meaning
extends_is names program entry meaning is = by (slice_get names entry) refl is
  where
    last : (declared : Declared) → slice_get names entry ≡ Some declared → (decl : Decl) → declaration_with_body names program declared ≡ Some decl
        → (name : Option Name) → class_parent decl ≡ name → option_and_then (λ (name : Name). meaning_of names name.text) name ≡ Some meaning
        → Extends names program entry meaning
    last declared there decl body None parent is = absurd (cc)
    last declared there decl body (Some name) parent is =
        record { declared = declared; there = there; decl = decl; body = body; name = name; parent = parent; means = is }

    middle : (declared : Declared) → slice_get names entry ≡ Some declared → (decl : Option Decl) → declaration_with_body names program declared ≡ decl
        → option_and_then (λ (name : Name). meaning_of names name.text) (option_and_then class_parent decl) ≡ Some meaning
        → Extends names program entry meaning
    middle declared there None body is = absurd (cc)
    middle declared there (Some decl) body is = last declared there decl body (class_parent decl) refl is

    by : (o : Option Declared) → slice_get names entry ≡ o
        → option_and_then (λ (declared : Declared). option_and_then (λ (name : Name). meaning_of names name.text)
        (option_and_then class_parent (declaration_with_body names program declared))) o ≡ Some meaning
        → Extends names program entry meaning
    by None there is = absurd (cc)
    by (Some declared) there is = middle declared there (declaration_with_body names program declared) refl is

-- where the body of a class stands
pub record HasBody (names : List Declared) (program : List Decl) (declared : Declared) (decl : Decl) : Type 0 where
  pub number : ℕ
  pub other : Declared
  pub first : named_number true names declared.name ≡ Some number
  pub there : slice_get names number ≡ Some other
  pub at : slice_get program other.place.decl ≡ Some decl

pub body_is : (names : List Declared) (program : List Decl) (declared : Declared) (decl : Decl) → declaration_with_body names program declared ≡ Some decl
    → HasBody names program declared decl
body_is names program declared decl is = by (named_number true names declared.name) refl is
  where
    inside : (number : ℕ) → named_number true names declared.name ≡ Some number → (o : Option Declared) → slice_get names number ≡ o
        → option_and_then (decl_of_name program) o ≡ Some decl → HasBody names program declared decl
    inside number first None there is = absurd (cc)
    inside number first (Some other) there is = record { number = number; other = other; first = first; there = there; at = is }

    by : (o : Option ℕ) → named_number true names declared.name ≡ o
        → option_and_then (λ (number : ℕ). option_and_then (decl_of_name program) (slice_get names number)) o ≡ Some decl
        → HasBody names program declared decl
    by None first is = absurd (cc)
    by (Some number) first is = inside number first (slice_get names number) refl is

pub listed_at : (f : Declared → Option ℕ) (names : List Declared) (last : List (Option ℕ)) (entry : ℕ) (declared : Declared)
    → slice_get names entry ≡ Some declared → slice_get (map f names ++ last) entry ≡ Some (f declared)
listed_at f [] last entry declared is = absurd (cc)
listed_at f (x ∷ names) last zero declared is = ap (λ d. Some (f d)) (same_Some x declared is)
listed_at f (x ∷ names) last (suc entry) declared is = listed_at f names last entry declared is

pub class_sort_under : (names : List Declared) (program : List Decl) (declared : Declared) (sort : Sort) → is_class_sort sort ≡ true
    → sort_under names program declared sort
    ≡ option_and_then (class_under names) (option_and_then class_parent (declaration_with_body names program declared))
class_sort_under names program declared sorts.Forward is = refl
class_sort_under names program declared sorts.Body is = refl
class_sort_under names program declared sort is = absurd (cc)

-- such a class stands under the one that it extends
pub stands : (names : List Declared) (program : List Decl) (entry other : ℕ) (it : Extends names program entry (meanings.Entry other))
    → is_class_sort it.declared.sort ≡ true → is_class_at names other ≡ true → StandsUnder (parents_of names program) entry other
stands names program entry other it sort class =
    listed_at (λ declared. sort_under names program declared declared.sort) names (Some (length names) ∷ []) entry it.declared it.there
    ∙ ap (λ o. Some o)
    (class_sort_under names program it.declared it.declared.sort sort
    ∙ (ap (λ o. option_and_then (class_under names) (option_and_then class_parent o)) it.body
    ∙ (ap (λ o. option_and_then (class_under names) o) it.parent
    ∙ (ap (under_meaning names) it.means ∙ ap (λ b. if b then Some other else Some (length names)) class))))

-- ---- none is on a circle

pub circle_fine : (names : List Declared) (marked : List Mark) (number : ℕ) (some : List Declared) (place : ℕ) (declared : Declared)
    → circle_faults names marked number some ≡ [] → slice_get some place ≡ Some declared
    → circle_fault (declared_place names declared) (is_circle (rootedness_in marked (number + place))) ≡ []
circle_fine names marked number [] place declared fine is = absurd (cc)
circle_fine names marked number (here ∷ some) zero declared fine is =
    let first = none_first (circle_fault (declared_place names here) (is_circle (rootedness_in marked number))) (circle_faults names marked (number + 1) some) fine in
    let same : here ≡ declared = same_Some here declared is in
    let e : number ≡ number + 0 = omega arith in
    sym (λ i. circle_fault (declared_place names (same i)) (is_circle (rootedness_in marked (e i)))) ∙ first
circle_fine names marked number (here ∷ some) (suc place) declared fine is =
    let rest = none_second (circle_fault (declared_place names here) (is_circle (rootedness_in marked number))) (circle_faults names marked (number + 1) some) fine in
    let e : number + 1 + place ≡ number + suc place = omega arith in
    sym (ap (λ n. circle_fault (declared_place names declared) (is_circle (rootedness_in marked n))) e)
    ∙ circle_fine names marked (number + 1) some place declared rest is

pub no_circle : (place : Option Place) (circle : Bool) (at : Place) → place ≡ Some at → circle_fault place circle ≡ [] → circle ≡ false
no_circle place false at is none = refl
no_circle None true at is none = absurd (cc)
no_circle (Some there) true at is none = absurd (cc)

-- a class that has a body is on no circle
pub off_circle : (names : List Declared) (program : List Decl) (parents : List (Option ℕ)) (marked : List Mark) (order : List ℕ) (entry : ℕ)
    (declared : Declared) (decl : Decl) → IsLineageOf parents marked order → entry < length parents → circle_faults names marked 0 names ≡ []
    → slice_get names entry ≡ Some declared → is_class_sort declared.sort ≡ true → declaration_with_body names program declared ≡ Some decl
    → IsOnCircle parents entry → ⊥
off_circle names program parents marked order entry declared decl lineage within fine there sort body circle =
    let at = body_is names program declared decl body in
    let placed : declared_place names declared ≡ Some at.other.place =
    ap (λ b. if b then option_and_then (λ body. option_map (λ (other : Declared). other.place) (slice_get names body)) (named_number true names declared.name) else Some declared.place) sort
    ∙ (ap (option_and_then (λ body. option_map (λ (other : Declared). other.place) (slice_get names body))) at.first
    ∙ ap (option_map (λ (other : Declared). other.place)) at.there) in
    let none = circle_fine names marked 0 names entry declared fine there in
    let e : 0 + entry ≡ entry = omega arith in
    let off : is_circle (rootedness_in marked entry) ≡ false =
    sym (ap (λ n. is_circle (rootedness_in marked n)) e)
    ∙ no_circle (declared_place names declared) (is_circle (rootedness_in marked (0 + entry))) at.other.place placed none in
    let found = lineage.rootedness entry within in
    let same = one_rootedness parents entry found.0 how.OnCircle found.2 circle in
    let on : is_circle (rootedness_in marked entry) ≡ true = ap is_circle (found.1 ∙ ap (λ s. Some s) same) in
    let never : true ≡ false = sym on ∙ off in cc

pub circles_fine : (facts : Facts) → all_faults facts ≡ [] → circle_faults facts.names facts.marked 0 facts.names ≡ []
circles_fine facts fine =
    let names = second_name_faults facts.names 0 facts.names in
    let circles = circle_faults facts.names facts.marked 0 facts.names in
    none_first circles (decls_faults facts 0 facts.program) (none_second names (circles ++ decls_faults facts 0 facts.program) fine)

-- ---- the classes of a table

-- how a class extends another
data StepsTo (facts : Facts) (number parent : ℕ) : Type 0 where
  under_objects : 0 < number → number < 4 → parent ≡ 0 → StepsTo facts number parent
  to_builtin : 4 ≤ number → parent < 4 → StepsTo facts number parent
  to_class : (place entry at other : ℕ) → number ≡ 4 + place → slice_get (class_entries facts.names 0 facts.names) place ≡ Some entry
      → parent ≡ 4 + at → slice_get (class_entries facts.names 0 facts.names) at ≡ Some other → StandsUnder facts.parents entry other
      → (IsOnCircle facts.parents entry → ⊥) → StepsTo facts number parent

module _ (facts : Facts) (enums : List Enum) (model : Model) (are : facts.parents ≡ parents_of facts.names facts.program)
    (order : List ℕ) (lineage : IsLineageOf facts.parents facts.marked order) (fine : all_faults facts ≡ [])
    (classes : model.classes ≡ classes_of facts enums) where
  abbrev entries : List ℕ
  entries = class_entries facts.names 0 facts.names

  pub class_is : (entry : ℕ) (place : ℕ) → slice_get entries place ≡ Some entry → (declared : Declared) × (slice_get facts.names entry ≡ Some declared)
      × (is_class_sort declared.sort ≡ true)
  class_is entry place is =
      let found = entry_is facts.names 0 facts.names place entry is in
      let e : entry ≡ found.offset = (let sum : entry ≡ 0 + found.offset = found.is_entry in omega arith) in
      (found.declared, ap (slice_get facts.names) e ∙ found.there, and_first (is_class_sort found.declared.sort) (is_first facts.names entry found.declared) found.first)
    where
      and_first : (one other : Bool) → (one && other) ≡ true → one ≡ true
      and_first true other both = refl
      and_first false other both = cc

  -- the number of a class that is meant
  pub number_is : (entry : ℕ) (declared : Declared) → slice_get facts.names entry ≡ Some declared → is_first_class facts.names entry declared ≡ true
      → (at : ℕ) × (slice_get entries at ≡ Some entry) × (class_number facts.names (meanings.Entry entry) ≡ 4 + at)
  number_is entry declared there first =
      let e : 0 + entry ≡ entry = omega arith in
      let it = listed facts.names 0 facts.names entry declared there (ap (λ n. is_first_class facts.names n declared) e ∙ first) in
      let there = it.there ∙ ap (λ n. Some n) e in
      let found = numbered facts.names 4 0 facts.names it.place entry there in
      let same : entry ≡ found.offset = (let sum : entry ≡ 0 + found.offset = found.is_entry in omega arith) in (
        it.place,
        there,
        ap (λ o. option_map_or (λ (number : ℕ). number) o 0) (ap (slice_get (class_numbers facts.names 4 0 facts.names)) same ∙ found.has_number),
      )

  -- a class of the files extends a built-in one or one of the files
  own_step : (place entry parent : ℕ) → slice_get entries place ≡ Some entry
      → parent_number facts.names (above facts.names facts.program entry) ≡ parent → StepsTo facts (4 + place) parent
  own_step place entry parent at is = by (above facts.names facts.program entry) refl is
    where
      by : (o : Option Meaning) → above facts.names facts.program entry ≡ o → parent_number facts.names o ≡ parent → StepsTo facts (4 + place) parent
      by None up is = to_builtin (omega arith) (omega arith)
      by (Some (meanings.BuiltIn number)) up is =
          let it = extends_is facts.names facts.program entry (meanings.BuiltIn number) up in
          let few = few_builtin facts.names it.name.text number it.means in
          to_builtin (omega arith) (omega (arith, few, is))
      by (Some (meanings.Entry other)) up is =
          let it = extends_is facts.names facts.program entry (meanings.Entry other) up in
          let body = body_is facts.names facts.program it.declared it.decl it.body in
          let right = decl_fine facts 0 facts.program body.other.place.decl it.decl (decls_fine facts fine) body.at in
          let class = extends_class facts (0 + body.other.place.decl) it.decl it.name other right it.parent it.means in
          let meant = meant_class facts.names it.name.text other it.means class in
          let number = number_is other meant.0 meant.1 meant.2 in
          let own = class_is entry place at in
          let sort : is_class_sort it.declared.sort ≡ true =
          ap (λ (d : Declared). is_class_sort d.sort) (same_Some it.declared own.0 (sym it.there ∙ own.1)) ∙ own.2 in
          let P : List (Option ℕ) → Type 0 = λ parents. StandsUnder parents entry other in
          let under = subst P (sym are) (stands facts.names facts.program entry other it sort class) in
          to_class place entry number.0 other refl at (sym is ∙ number.2) number.1 under
          (off_circle facts.names facts.program facts.parents facts.marked order entry it.declared it.decl lineage
          (slice_get_within facts.parents entry (Some other) under) (circles_fine facts fine) it.there sort it.body)

  -- each step is one of these
  step : (number parent : ℕ) → IsParentClass model number parent → StepsTo facts number parent
  step number parent is = by number (sym (ap (λ some. slice_get some number) classes) ∙ is.1)
    where
      own : (place : ℕ) (o : Option ℕ) → slice_get entries place ≡ o → option_map (compiled_class facts enums) o ≡ Some is.0 → StepsTo facts (4 + place) parent
      own place None at found = absurd (cc)
      own place (Some entry) at found =
          let same : compiled_class facts enums entry ≡ is.0 = same_Some (compiled_class facts enums entry) is.0 found in
          own_step place entry parent at
          (same_Some (parent_number facts.names (above facts.names facts.program entry)) parent (ap (λ (c : Class). c.parent) same ∙ is.2))

      built : (class : Class) (number : ℕ) → class.parent ≡ Some 0 → class ≡ is.0 → 0 < number → number < 4 → StepsTo facts number parent
      built class number objects same some few =
          under_objects some few (sym (same_Some 0 parent (sym objects ∙ (ap (λ (c : Class). c.parent) same ∙ is.2))))

      by : (number : ℕ) → slice_get (classes_of facts enums) number ≡ Some is.0 → StepsTo facts number parent
      by zero found =
          let same : builtin_class (codes "Object") None 0 ≡ is.0 = same_Some (builtin_class (codes "Object") None 0) is.0 found in
          absurd (let e : ◌≡◌ {A = Option ℕ} None (Some parent) = ap (λ (c : Class). c.parent) same ∙ is.2 in cc)
      by (suc zero) found =
          let class = builtin_class (codes "Timeline") (Some 0) 1 in
          built class 1 refl (same_Some class is.0 found) (omega arith) (omega arith)
      by (suc (suc zero)) found =
          let class = builtin_class (codes "Reusable") (Some 0) 2 in
          built class 2 refl (same_Some class is.0 found) (omega arith) (omega arith)
      by (suc (suc (suc zero))) found =
          let class = builtin_class (codes "Reservoir") (Some 0) 3 in
          built class 3 refl (same_Some class is.0 found) (omega arith) (omega arith)
      by (suc (suc (suc (suc place)))) found =
          let e : 4 + place ≡ suc (suc (suc (suc place))) = omega arith in
          let P : ℕ → Type 0 = λ n. StepsTo facts n parent in
          subst P e (own place (slice_get entries place) refl (sym (slice_get-map (compiled_class facts enums) entries place) ∙ found))

  -- built-in classes lead up to such alone
  low : (number : ℕ) (path : List ℕ) (ancestor : ℕ) → number < 4 → Climbs model number path ancestor → ancestor < 4
  low number [] ancestor few up = (let e : ancestor ≡ number = up in omega arith)
  low number (parent ∷ path) ancestor few up = by (step number parent up.0) (λ less. low parent path ancestor less up.1)
    where
      by : StepsTo facts number parent → (parent < 4 → ancestor < 4) → ancestor < 4
      by (under_objects some less is) rest = rest (omega arith)
      by (to_builtin many less) rest = absurd (omega arith)
      by (to_class place entry at other is there goes up under off) rest = absurd (omega arith)

  -- classes of the files that lead up to such stand under them
  high : (number : ℕ) (path : List ℕ) (ancestor place entry apex top : ℕ) → number ≡ 4 + place → slice_get entries place ≡ Some entry
      → ancestor ≡ 4 + apex → slice_get entries apex ≡ Some top → Climbs model number path ancestor
      → (line : List ℕ) × LeadsUp facts.parents entry line top
  high number [] ancestor place entry apex top is there ends above up =
      let e : ancestor ≡ number = up in
      let same : apex ≡ place = omega arith in
      ([], same_Some top entry (sym above ∙ (ap (slice_get entries) same ∙ there)))
  high number (parent ∷ path) ancestor place entry apex top is there ends above up =
      by (step number parent up.0) (λ at other goes stands. high parent path ancestor at other apex top goes stands ends above up.1)
    where
      by : StepsTo facts number parent
          → ((at other : ℕ) → parent ≡ 4 + at → slice_get entries at ≡ Some other → (line : List ℕ) × LeadsUp facts.parents other line top)
          → (line : List ℕ) × LeadsUp facts.parents entry line top
      by (under_objects some less objects) rest = absurd (omega arith)
      by (to_builtin many less) rest = absurd (let few = low parent path ancestor less up.1 in omega arith)
      by (to_class here one at other numbered listed goes stands under off) rest =
          let same : here ≡ place = omega arith in
          let own : one ≡ entry = same_Some one entry (sym listed ∙ (ap (slice_get entries) same ∙ there)) in
          let P : ℕ → Type 0 = λ n. StandsUnder facts.parents n other in
          let more = rest at other goes stands in
          (other ∷ more.0, (subst P own under, more.1))

  -- none leads back
  no_return : (number parent : ℕ) → IsParentClass model number parent → IsUnder model parent number → ⊥
  no_return number parent extends back = by (step number parent extends)
    where
      objects : parent ≡ 0 → (path : List ℕ) → 0 < number → Climbs model parent path number → ⊥
      objects is [] some up = (let e : number ≡ parent = up in omega arith)
      objects is (next ∷ path) some up = elim (step parent next up.0) [
        | under_objects more less first ↦ omega arith
        | to_builtin many less ↦ omega arith
        | to_class place entry at other first there goes stands under off ↦ omega arith
      ]

      by : StepsTo facts number parent → ⊥
      by (under_objects some less is) = objects is back.0 some back.1
      by (to_builtin many less) = (let few = low parent back.0 number less back.1 in omega arith)
      by (to_class place entry at other is there goes stands under off) =
          let line = high parent back.0 number at other place entry goes stands is there back.1 in
          off (record { parent = other; path = line.0; under = under; back = line.1 })

  -- what a class extends is there
  parent_there : (number parent : ℕ) → IsParentClass model number parent → (above : Class) × (slice_get model.classes parent ≡ Some above)
  parent_there number parent extends =
      let found = by (step number parent extends) in (found.0, ap (λ some. slice_get some parent) classes ∙ found.1)
    where
      built : (few : ℕ) → few < 4 → (above : Class) × (slice_get (classes_of facts enums) few ≡ Some above)
      built zero less = (builtin_class (codes "Object") None 0, refl)
      built (suc zero) less = (builtin_class (codes "Timeline") (Some 0) 1, refl)
      built (suc (suc zero)) less = (builtin_class (codes "Reusable") (Some 0) 2, refl)
      built (suc (suc (suc zero))) less = (builtin_class (codes "Reservoir") (Some 0) 3, refl)
      built (suc (suc (suc (suc place)))) less = absurd (omega arith)

      own : (at other : ℕ) → slice_get entries at ≡ Some other → slice_get (classes_of facts enums) (4 + at) ≡ Some (compiled_class facts enums other)
      own at other there =
          let e : suc (suc (suc (suc at))) ≡ 4 + at = omega arith in
          let P : ℕ → Type 0 = λ n. slice_get (classes_of facts enums) n ≡ Some (compiled_class facts enums other) in
          subst P e (slice_get-map (compiled_class facts enums) entries at ∙ ap (option_map (compiled_class facts enums)) there)

      by : StepsTo facts number parent → (above : Class) × (slice_get (classes_of facts enums) parent ≡ Some above)
      by (under_objects some less is) = built parent (omega arith)
      by (to_builtin many less) = built parent less
      by (to_class place entry at other is there goes stands under off) =
          (compiled_class facts enums other, ap (slice_get (classes_of facts enums)) goes ∙ own at other stands)

-- no class of the table is its own ancestor
pub no_circles : (files : List FileDecls) (table : TypeTable) (model : Model) → IsTable files table → model.classes ≡ table.classes
    → (number parent : ℕ) → IsParentClass model number parent → IsUnder model parent number → ⊥
no_circles files table model is same number parent extends =
    let facts = is.facts in
    let parents : facts.parents ≡ parents_of facts.names facts.program =
    is.are.is_parents ∙ (λ i. parents_of (sym is.are.is_names i) (sym is.are.is_program i)) in
    no_return facts table.enums model parents is.are.order is.are.lineage is.fine (same ∙ is.entries.others.classes_are) number parent extends

-- what a class of the table extends is one of the table
pub parents_there : (files : List FileDecls) (table : TypeTable) (model : Model) → IsTable files table → model.classes ≡ table.classes
    → (number parent : ℕ) → IsParentClass model number parent → (above : Class) × (slice_get model.classes parent ≡ Some above)
parents_there files table model is same number parent extends =
    let facts = is.facts in
    let parents : facts.parents ≡ parents_of facts.names facts.program =
    is.are.is_parents ∙ (λ i. parents_of (sym is.are.is_names i) (sym is.are.is_program i)) in
    parent_there facts table.enums model parents is.are.order is.are.lineage is.fine (same ∙ is.entries.others.classes_are) number parent extends

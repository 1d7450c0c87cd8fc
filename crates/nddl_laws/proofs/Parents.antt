-- What a class of a program extends with which nothing is wrong.
use Rattle.std.proofs.Common.{◌≡◌, ℕ, zero, suc, ◌+◌, ◌<◌, ◌==◌, ◌&&◌, Bool, true, false, cond, List, [], ◌∷◌, ◌++◌, refl, sym, ◌∙◌, ap, subst, arith}
use Rattle.std.specs.Prelude.{Option, Some, None, slice_get, if◌then◌else◌, codes}
use Rattle.std.specs.List.{flat_map, position_from}
use Rattle.std.specs.Option.{option_map, option_map_or, option_or}
use Rattle.std.specs.Str.{bytes_eq}
use Rattle.std.proofs.lemmas.Option.{same_Some}
use Rattle.std.proofs.lemmas.Bool.Decides.{Decides-eqb}
use Rattle.std.proofs.lemmas.Slice.Eq.{bytes_eq-Decides}
use Rattle.nddl_ast.specs.declared.declaration.Decl.{Decl}
use Rattle.nddl_ast.specs.declared.declaration.Decl.TheVariants as decls
use Rattle.nddl_ast.specs.declared.kind.TextKind.TheVariants as faults
use Rattle.nddl_ast.specs.declared.name.Name.{Name}
use Rattle.nddl_symbols.specs.declared.declared.Declared.{Declared}
use Rattle.nddl_symbols.specs.declared.scope.Meaning.TheVariants as meanings
use Rattle.nddl_symbols.specs.Finding.{faults_here}
use Rattle.nddl_symbols.specs.Names.{is_class_sort}
use Rattle.nddl_symbols.specs.Repeats.{repeated_faults}
use Rattle.nddl_symbols.specs.Scope.{builtin_number, is_class_at, is_named, meaning_of, named_number}
use Rattle.nddl_hierarchy.specs.Decls.{class_parent}
use Rattle.nddl_hierarchy.specs.Facts.{Facts}
use Rattle.nddl_hierarchy.specs.Inherited.{inherited_noted, member_names}
use Rattle.nddl_declarations.specs.Classes.{class_meaning_fault, parent_faults}
use Rattle.nddl_declarations.specs.Members.{constructors_faults, member_faults}
use Rattle.nddl_declarations.specs.Faults.{decl_faults, decls_faults}
use Rattle.nddl_types.specs.Classes.{is_first, is_first_class}
use Rattle.nddl_laws.proofs.Nothing.{none_first, none_second}

-- nothing is wrong with a declaration, if it isn't with any
pub decl_fine : (facts : Facts) (number : ℕ) (program : List Decl) (place : ℕ) (decl : Decl) → decls_faults facts number program ≡ []
    → slice_get program place ≡ Some decl → decl_faults facts (number + place) decl ≡ []
decl_fine facts number [] place decl fine is = absurd (cc)
decl_fine facts number (here ∷ program) zero decl fine is =
    let first = none_first (decl_faults facts number here) (decls_faults facts (number + 1) program) fine in
    let same : here ≡ decl = same_Some here decl is in
    let e : number ≡ number + 0 = omega arith in
    sym (λ i. decl_faults facts (e i) (same i)) ∙ first
decl_fine facts number (here ∷ program) (suc place) decl fine is =
    let rest = none_second (decl_faults facts number here) (decls_faults facts (number + 1) program) fine in
    let e : number + 1 + place ≡ number + suc place = omega arith in
    sym (ap (λ n. decl_faults facts n decl) e) ∙ decl_fine facts (number + 1) program place decl rest is

class_or_fault : (names : List Declared) (number at entry : ℕ) (b : Bool) → is_class_at names entry ≡ b
    → faults_here number at (class_meaning_fault names (Some (meanings.Entry entry))) ≡ [] → is_class_at names entry ≡ true
class_or_fault names number at entry true is none = is
class_or_fault names number at entry false is none =
    let e : faults_here number at (Some faults.WrongType) ≡ [] =
    sym (ap (λ b. faults_here number at (if b then None else Some faults.WrongType)) is) ∙ none in absurd (cc)

-- what such a declaration of a class extends is a class
pub extends_class : (facts : Facts) (number : ℕ) (decl : Decl) (name : Name) (entry : ℕ) → decl_faults facts number decl ≡ []
    → class_parent decl ≡ Some name → meaning_of facts.names name.text ≡ Some (meanings.Entry entry) → is_class_at facts.names entry ≡ true
extends_class facts number (decls.Class at class parent members) name entry fine is means =
    let P : Option Name → Type 0 = λ parent. parent_faults facts.names number parent ≡ [] in
    let first : parent_faults facts.names number parent ≡ [] =
    none_first (parent_faults facts.names number parent)
    (repeated_faults number (inherited_noted facts parent) (member_names members)
    ++ (flat_map (member_faults facts number) members ++ constructors_faults number class false members)) fine in
    let told : faults_here number name.at (class_meaning_fault facts.names (meaning_of facts.names name.text)) ≡ [] = subst P is first in
    class_or_fault facts.names number name.at entry (is_class_at facts.names entry) refl
    (sym (ap (λ m. faults_here number name.at (class_meaning_fault facts.names m)) means) ∙ told)
extends_class facts number decl name entry fine is means = absurd (cc)

-- what a name means that is declared is declared first under it
pub found_at : (test : Declared → Bool) (names : List Declared) (number place : ℕ) → position_from test number names ≡ Some place
    → (offset : ℕ) × (place ≡ number + offset) × ((found : Declared) × (slice_get names offset ≡ Some found) × (test found ≡ true))
found_at test [] number place is = absurd (cc)
found_at test (declared ∷ names) number place is = by (test declared) refl is (λ rest. found_at test names (number + 1) place rest)
  where
    by : (b : Bool) → test declared ≡ b → cond b (Some number) (position_from test (number + 1) names) ≡ Some place
        → (position_from test (number + 1) names ≡ Some place
        → (offset : ℕ) × (place ≡ number + 1 + offset) × ((found : Declared) × (slice_get names offset ≡ Some found) × (test found ≡ true)))
        → (offset : ℕ) × (place ≡ number + offset) × ((found : Declared) × (slice_get (declared ∷ names) offset ≡ Some found) × (test found ≡ true))
    by true passes is rest = (0, (let e : number ≡ place = same_Some number place is in omega arith), (declared, refl, passes))
    by false fails is rest =
        let more = rest is in
        (suc more.0, (let e : place ≡ number + 1 + more.0 = more.1 in omega arith), more.2)

-- the first of its name is there, and is the first of its own name
pub record IsFound (names : List Declared) (entry : ℕ) : Type 0 where
  pub found : Declared
  pub there : slice_get names entry ≡ Some found
  pub first : is_first names entry found ≡ true

pub found_first : (names : List Declared) (name : List ℕ) (entry : ℕ) → named_number false names name ≡ Some entry → IsFound names entry
found_first names name entry is =
    let at = found_at (is_named false name) names 0 entry is in
    let e : at.0 ≡ entry = (let sum : entry ≡ 0 + at.0 = at.1 in omega arith) in
    let found : Declared = at.2.0 in
    let same : name ≡ found.name = (bytes_eq-Decides name found.name).0 at.2.2 in
    let own : named_number false names found.name ≡ Some entry = ap (named_number false names) (sym same) ∙ is in
    record {
      found = found;
      there = ap (slice_get names) (sym e) ∙ at.2.1;
      first = ap (λ o. option_map_or (λ first. first == entry) o false) own ∙ (Decides-eqb entry entry).1 refl;
    }

pub meant_first : (names : List Declared) (name : List ℕ) (entry : ℕ) → meaning_of names name ≡ Some (meanings.Entry entry) → IsFound names entry
meant_first names name entry is = by (builtin_number name) (named_number false names name) refl is
  where
    by : (built : Option ℕ) (o : Option ℕ) → named_number false names name ≡ o
        → option_or (option_map meanings.BuiltIn built) (option_map meanings.Entry o) ≡ Some (meanings.Entry entry) → IsFound names entry
    by (Some number) o found is = absurd (let e : meanings.BuiltIn number ≡ meanings.Entry entry = same_Some (meanings.BuiltIn number) (meanings.Entry entry) is in cc)
    by None None found is = absurd (cc)
    by None (Some number) found is =
        let e : meanings.Entry number ≡ meanings.Entry entry = same_Some (meanings.Entry number) (meanings.Entry entry) is in
        let same : number ≡ entry = cc in
        found_first names name entry (found ∙ ap (λ n. Some n) same)

-- a class that is meant is declared first as one
pub meant_class : (names : List Declared) (name : List ℕ) (entry : ℕ) → meaning_of names name ≡ Some (meanings.Entry entry) → is_class_at names entry ≡ true
    → (found : Declared) × (slice_get names entry ≡ Some found) × (is_first_class names entry found ≡ true)
meant_class names name entry is class =
    let it = meant_first names name entry is in
    let sort : is_class_sort it.found.sort ≡ true = sym (ap (λ o. option_map_or (λ other. is_class_sort other.sort) o false) it.there) ∙ class in
    (it.found, it.there, (λ i. sort i && it.first i))

-- there are four built-in classes
four : (one two three : Bool) (last : Bool) (number : ℕ)
    → cond one (Some 0) (cond two (Some (0 + 1)) (cond three (Some (0 + 1 + 1)) (cond last (Some (0 + 1 + 1 + 1)) None))) ≡ Some number → number < 4
four true two three last number is = (let e : 0 ≡ number = same_Some 0 number is in omega arith)
four false true three last number is = (let e : 0 + 1 ≡ number = same_Some (0 + 1) number is in omega arith)
four false false true last number is = (let e : 0 + 1 + 1 ≡ number = same_Some (0 + 1 + 1) number is in omega arith)
four false false false true number is = (let e : 0 + 1 + 1 + 1 ≡ number = same_Some (0 + 1 + 1 + 1) number is in omega arith)
four false false false false number is = absurd (cc)

pub few_builtin : (names : List Declared) (name : List ℕ) (number : ℕ) → meaning_of names name ≡ Some (meanings.BuiltIn number) → number < 4
few_builtin names name number is = by (builtin_number name) refl (named_number false names name) is
  where
    by : (built : Option ℕ) → builtin_number name ≡ built → (o : Option ℕ)
        → option_or (option_map meanings.BuiltIn built) (option_map meanings.Entry o) ≡ Some (meanings.BuiltIn number) → number < 4
    by (Some found) here o is =
        let e : meanings.BuiltIn found ≡ meanings.BuiltIn number = same_Some (meanings.BuiltIn found) (meanings.BuiltIn number) is in
        let same : found ≡ number = cc in
        four (bytes_eq name (codes "Object")) (bytes_eq name (codes "Timeline")) (bytes_eq name (codes "Reusable")) (bytes_eq name (codes "Reservoir")) number
        (here ∙ ap (λ n. Some n) same)
    by None here None is = absurd (cc)
    by None here (Some entry) is = absurd (let e : meanings.Entry entry ≡ meanings.BuiltIn number = same_Some (meanings.Entry entry) (meanings.BuiltIn number) is in cc)

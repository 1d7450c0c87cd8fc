-- The fields and the predicates that a class has, and that they differ.
use Rattle.std.proofs.Common.{◌≡◌, ◌≢◌, ℕ, zero, suc, ◌<◌, ◌==◌, Bool, true, false, List, [], ◌∷◌, ◌++◌, map, refl, sym, ◌∙◌, ap, subst, arith}
use Rattle.std.specs.Prelude.{Option, Some, None, All, slice_get, codes, is_some, if◌then◌else◌}
use Rattle.std.specs.List.{AllByRecursion, filter_map, flat_map}
use Rattle.std.specs.Option.{option_and_then, option_map_or}
use Rattle.std.proofs.lemmas.List.{append-nil}
use Rattle.std.proofs.lemmas.List.Concat.{flat_map-append}
use Rattle.std.proofs.lemmas.List.Elements.{All-nil, All-cons, All-from_recursion, recursion_from_All, All-weaker}
use Rattle.std.proofs.lemmas.Option.{same_Some, slice_get_within}
use Rattle.eu_forest.specs.declared.lineage.Rootedness.TheVariants as how
use Rattle.eu_forest.specs.Lines.{IsRooted, StandsSo, StandsUnder}
use Rattle.model_core.proofs.Items.{item_all}
use Rattle.model_core.proofs.Words.{differing}
use Rattle.nddl_ast.specs.declared.declaration.Decl.{Decl}
use Rattle.nddl_ast.specs.declared.declaration.Decl.TheVariants as decls
use Rattle.nddl_ast.specs.declared.declaration.Member.{Member}
use Rattle.nddl_ast.specs.declared.declaration.Member.TheVariants as members
use Rattle.nddl_ast.specs.declared.name.Name.{Name}
use Rattle.nddl_symbols.specs.declared.declared.Declared.{Declared}
use Rattle.nddl_symbols.specs.declared.scope.Meaning.{Meaning}
use Rattle.nddl_symbols.specs.declared.scope.Meaning.TheVariants as meanings
use Rattle.eu_index.specs.Index.{Noted, noted_number}
use Rattle.nddl_symbols.specs.Names.{is_class_sort, scope_names}
use Rattle.nddl_symbols.specs.Scope.{is_class_at, meaning_of}
use Rattle.nddl_hierarchy.specs.Ancestors.{above}
use Rattle.eu_forest.specs.Ancestors.{ancestry}
use Rattle.nddl_hierarchy.specs.Decls.{class_parent, decl_members, declaration_with_body, members_of}
use Rattle.nddl_hierarchy.specs.Facts.{Facts}
use Rattle.nddl_declarations.specs.Known.{AreFacts}
use Rattle.nddl_hierarchy.specs.Inherited.{builtin_members, builtin_noted, class_noted, inherited_noted, line_noted, meaning_noted, member_names, names_noted, words_noted}
use Rattle.nddl_hierarchy.proofs.Noting.{IsNoted, names_stay, names_there, words_stay, words_there}
use Rattle.nddl_declarations.specs.Faults.{all_faults}
use Rattle.nddl_types.specs.Classes.{line_down}
use Rattle.nddl_laws.proofs.Apart.{AreApart, AreOnce, Item, all_append, all_mapped, all_reverse, all_weaker, apart_append, once_apart, pairs_once}
use Rattle.nddl_laws.proofs.Declared.{IsRightDecl}
use Rattle.nddl_laws.proofs.Down.{line_alone, line_below}
use Rattle.nddl_laws.proofs.Lists.{all_flat}
use Rattle.nddl_laws.proofs.Noted.{AreNew, are_new}
use Rattle.nddl_laws.proofs.Standing.{IsClassEntry, class_rooted, class_stands, no_parent, under_builtin, under_class}
use Rattle.nddl_laws.proofs.WholeTypes.{class_right}
use Rattle.nddl_laws.proofs.Circles.{body_is}

-- ---- what a class has of its own

-- the built-in fields and predicates
abbrev pub builtin_items : ℕ → List Item
builtin_items number =
    if number == 2 then (true, codes "capacity") ∷ (false, codes "uses") ∷ []
    else (if number == 3
    then (true, codes "initial") ∷ (true, codes "low") ∷ (true, codes "high") ∷ (false, codes "produce") ∷ (false, codes "consume") ∷ []
    else [])

abbrev pub given_items : Option Meaning → List Item
given_items (Some (meanings.BuiltIn number)) = builtin_items number
given_items meaning = []

abbrev pub member_item : Member → Option Item
member_item (members.Field typed) = Some (true, typed.name.text)
member_item (members.Predicate at name parts) = Some (false, name.text)
member_item (members.Constructor name formals sets) = None

-- what the class of this number adds to a line
abbrev pub items_at : Facts → ℕ → List Item
items_at facts entry =
    given_items (above facts.names facts.program entry) ++ filter_map member_item (members_of facts.names facts.program entry)

-- all that a class has, the topmost class first
abbrev pub class_items : Facts → ℕ → List Item
class_items facts entry = flat_map (items_at facts) (line_down facts entry)

builtin_texts : (number : ℕ) → map (λ (item : Item). item.1) (builtin_items number) ≡ builtin_members number
builtin_texts number = by (number == 2) (number == 3)
  where
    by : (two three : Bool)
        → map (λ (item : Item). item.1) (if two then (true, codes "capacity") ∷ (false, codes "uses") ∷ []
        else (if three
        then (true, codes "initial") ∷ (true, codes "low") ∷ (true, codes "high") ∷ (false, codes "produce") ∷ (false, codes "consume") ∷ []
        else []))
        ≡ (if two then codes "capacity" ∷ codes "uses" ∷ []
        else (if three then codes "initial" ∷ codes "low" ∷ codes "high" ∷ codes "produce" ∷ codes "consume" ∷ [] else []))
    by true three = refl
    by false true = refl
    by false false = refl

member_texts : (some : List Member) → map (λ (item : Item). item.1) (filter_map member_item some) ≡ map (λ (name : Name). name.text) (member_names some)
member_texts [] = refl
member_texts (members.Field typed ∷ more) = ap (λ rest. typed.name.text ∷ rest) (member_texts more)
member_texts (members.Predicate at name parts ∷ more) = ap (λ rest. name.text ∷ rest) (member_texts more)
member_texts (members.Constructor name formals sets ∷ more) = member_texts more

-- ---- they are noted

abbrev ItemsNoted : Noted → List Item → Type 0
ItemsNoted noted some = AllByRecursion (λ (item : Item). IsNoted noted item.1) some

given_stay : (noted : Noted) (o : Option Meaning) (other : List ℕ) → IsNoted noted other → IsNoted (builtin_noted noted o) other
given_stay noted None other is = is
given_stay noted (Some (meanings.BuiltIn number)) other is = words_stay noted (builtin_members number) other is
given_stay noted (Some (meanings.Entry entry)) other is = is

given_there : (noted : Noted) (o : Option Meaning) → ItemsNoted (builtin_noted noted o) (given_items o)
given_there noted None = tt
given_there noted (Some (meanings.BuiltIn number)) =
    let P : List (List ℕ) → Type 0 = λ words. AllByRecursion (λ word. IsNoted (words_noted noted (builtin_members number)) word) words in
    all_mapped (λ word. IsNoted (words_noted noted (builtin_members number)) word) (λ (item : Item). item.1) (builtin_items number)
    (subst P (sym (builtin_texts number)) (words_there noted (builtin_members number)))
given_there noted (Some (meanings.Entry entry)) = tt

pub texts_of : {X : Type 0} (P : List ℕ → Type 0) (f : X → List ℕ) (xs : List X) → AllByRecursion (λ x. P (f x)) xs → AllByRecursion P (map f xs)
texts_of P f [] all = tt
texts_of P f (x ∷ xs) all = (all.0, texts_of P f xs all.1)

members_there : (noted : Noted) (some : List Member) → ItemsNoted (names_noted noted (member_names some)) (filter_map member_item some)
members_there noted some =
    let N : List ℕ → Type 0 = λ word. IsNoted (names_noted noted (member_names some)) word in
    let P : List (List ℕ) → Type 0 = λ words. AllByRecursion N words in
    all_mapped N (λ (item : Item). item.1) (filter_map member_item some)
    (subst P (sym (member_texts some)) (texts_of N (λ (name : Name). name.text) (member_names some) (names_there noted (member_names some))))

module _ (facts : Facts) where
  class_stays : (noted : Noted) (entry : ℕ) (other : List ℕ) → IsNoted noted other → IsNoted (class_noted facts.names facts.program noted entry) other
  class_stays noted entry other is =
      given_stay (names_noted noted (member_names (members_of facts.names facts.program entry))) (above facts.names facts.program entry) other
      (names_stay noted (member_names (members_of facts.names facts.program entry)) other is)

  line_stays : (noted : Noted) (line : List ℕ) (other : List ℕ) → IsNoted noted other → IsNoted (line_noted facts.names facts.program noted line) other
  line_stays noted [] other is = is
  line_stays noted (entry ∷ more) other is =
      line_stays (class_noted facts.names facts.program noted entry) more other (class_stays noted entry other is)

  class_there : (noted : Noted) (entry : ℕ) → ItemsNoted (class_noted facts.names facts.program noted entry) (items_at facts entry)
  class_there noted entry =
      let inside = names_noted noted (member_names (members_of facts.names facts.program entry)) in
      let whole = class_noted facts.names facts.program noted entry in
      all_append (λ (item : Item). IsNoted whole item.1) (given_items (above facts.names facts.program entry))
      (filter_map member_item (members_of facts.names facts.program entry))
      (given_there inside (above facts.names facts.program entry))
      (all_weaker (λ (item : Item). IsNoted inside item.1) (λ (item : Item). IsNoted whole item.1) (filter_map member_item (members_of facts.names facts.program entry))
      (λ item is. given_stay inside (above facts.names facts.program entry) item.1 is) (members_there noted (members_of facts.names facts.program entry)))

  line_there : (noted : Noted) (line : List ℕ) → All (λ entry. ItemsNoted (line_noted facts.names facts.program noted line) (items_at facts entry)) line
  line_there noted [] = All-nil (λ entry. ItemsNoted noted (items_at facts entry))
  line_there noted (entry ∷ more) =
      let next = class_noted facts.names facts.program noted entry in
      let whole = line_noted facts.names facts.program next more in
      All-cons (λ other. ItemsNoted whole (items_at facts other)) entry more
      (all_weaker (λ (item : Item). IsNoted next item.1) (λ (item : Item). IsNoted whole item.1) (items_at facts entry)
      (λ item is. line_stays next more item.1 is) (class_there noted entry))
      (line_there next more)

  -- all that a class has is noted where its line is
  items_there : (noted : Noted) (entry : ℕ) → ItemsNoted (line_noted facts.names facts.program noted (ancestry facts.parents entry)) (class_items facts entry)
  items_there noted entry =
      let whole = line_noted facts.names facts.program noted (ancestry facts.parents entry) in
      let P : Item → Type 0 = λ item. IsNoted whole item.1 in
      let down = all_reverse (λ other. ItemsNoted whole (items_at facts other)) (ancestry facts.parents entry) (line_there noted (ancestry facts.parents entry)) in
      recursion_from_All P (class_items facts entry)
      (all_flat P (items_at facts) (line_down facts entry)
      (All-weaker (λ other. ItemsNoted whole (items_at facts other)) (λ other. All P (items_at facts other))
      (λ other all. All-from_recursion P (items_at facts other) all) (line_down facts entry) down))

-- ---- they differ

builtin_apart : (number : ℕ) → AreApart (builtin_items number)
builtin_apart number = by (number == 2) (number == 3)
  where
    by : (two three : Bool)
        → AreApart (if two then (true, codes "capacity") ∷ (false, codes "uses") ∷ []
        else (if three
        then (true, codes "initial") ∷ (true, codes "low") ∷ (true, codes "high") ∷ (false, codes "produce") ∷ (false, codes "consume") ∷ []
        else []))
    by true three =
        once_apart ((true, codes "capacity") ∷ (false, codes "uses") ∷ [])
        (pairs_once (codes "capacity" ∷ codes "uses" ∷ []) (differing (codes "capacity" ∷ codes "uses" ∷ []) refl))
    by false true =
        let words = codes "initial" ∷ codes "low" ∷ codes "high" ∷ codes "produce" ∷ codes "consume" ∷ [] in
        once_apart
        ((true, codes "initial") ∷ (true, codes "low") ∷ (true, codes "high") ∷ (false, codes "produce") ∷ (false, codes "consume") ∷ [])
        (pairs_once words (differing words refl))
    by false false = tt

module _ (facts : Facts) (are : AreFacts (scope_names facts.program) facts.program facts) (fine : all_faults facts ≡ [])
    (right : All (IsRightDecl facts) facts.program) where
  -- the members of a class are new beside what it has from those that it extends
  abbrev Own : ℕ → List Member → Type 0
  Own entry some = AreNew (meaning_noted facts (above facts.names facts.program entry)) (member_names some)

  nothing_own : (noted : Noted) → AreNew noted (member_names [])
  nothing_own noted = record { new = tt; once = tt }

  inherited_is : (o : Option Name) → inherited_noted facts o ≡ meaning_noted facts (option_and_then (λ (name : Name). meaning_of facts.names name.text) o)
  inherited_is None = refl
  inherited_is (Some name) = refl

  own_of : (decl : Decl) → IsRightDecl facts decl
      → AreNew (meaning_noted facts (option_and_then (λ (name : Name). meaning_of facts.names name.text) (class_parent decl))) (member_names (decl_members decl))
  own_of (decls.Class at class parent some) is =
      let it = class_right facts at class parent some is in
      subst (λ noted. AreNew noted (member_names some)) (inherited_is parent)
      (are_new it.number (inherited_noted facts parent) (member_names some) it.repeated)
  own_of (decls.Include at file file_at) is = nothing_own []
  own_of (decls.Enum at name members_at some) is = nothing_own []
  own_of (decls.Typedef at declared name) is = nothing_own []
  own_of (decls.Forward at name) is = nothing_own []
  own_of (decls.Rule class predicate body) is = nothing_own []
  own_of (decls.Variable variable) is = nothing_own []
  own_of (decls.Call call) is = nothing_own []
  own_of (decls.Ask ask) is = nothing_own []

  own_new : (entry : ℕ) → IsClassEntry facts.names entry → Own entry (members_of facts.names facts.program entry)
  own_new entry is =
      let up = ap (option_and_then (λ (declared : Declared). option_and_then (λ (name : Name). meaning_of facts.names name.text)
      (option_and_then class_parent (declaration_with_body facts.names facts.program declared)))) is.there in
      let has = ap (λ o. option_map_or decl_members (option_and_then (declaration_with_body facts.names facts.program) o) []) is.there in
      let P : Option Meaning → List Member → Type 0 = λ m some. AreNew (meaning_noted facts m) (member_names some) in
      subst (λ some. P (above facts.names facts.program entry) some) (sym has)
      (subst (λ m. P m (option_map_or decl_members (declaration_with_body facts.names facts.program is.declared) [])) (sym up)
      (by (declaration_with_body facts.names facts.program is.declared) refl))
    where
      by : (o : Option Decl) → declaration_with_body facts.names facts.program is.declared ≡ o
          → AreNew (meaning_noted facts (option_and_then (λ (name : Name). meaning_of facts.names name.text) (option_and_then class_parent o)))
          (member_names (option_map_or decl_members o []))
      by None body = nothing_own []
      by (Some decl) body =
          let at = body_is facts.names facts.program is.declared decl body in
          own_of decl (item_all (IsRightDecl facts) facts.program at.other.place.decl decl right at.at)

  abbrev own_items : ℕ → List Item
  own_items entry = filter_map member_item (members_of facts.names facts.program entry)

  own_apart : (entry : ℕ) → IsClassEntry facts.names entry → AreApart (own_items entry)
  own_apart entry is =
      once_apart (filter_map member_item (members_of facts.names facts.program entry))
      (subst AreOnce (sym (member_texts (members_of facts.names facts.program entry))) (own_new entry is).once)

  -- none of them is noted
  own_unnoted : (entry : ℕ) → IsClassEntry facts.names entry
      → AllByRecursion (λ (item : Item). is_some (noted_number (meaning_noted facts (above facts.names facts.program entry)) item.1) ≡ false) (own_items entry)
  own_unnoted entry is =
      let U : List ℕ → Type 0 = λ word. is_some (noted_number (meaning_noted facts (above facts.names facts.program entry)) word) ≡ false in
      let P : List (List ℕ) → Type 0 = λ words. AllByRecursion U words in
      let some = members_of facts.names facts.program entry in
      all_mapped U (λ (item : Item). item.1) (filter_map member_item some)
      (subst P (sym (member_texts some)) (texts_of U (λ (name : Name). name.text) (member_names some) (own_new entry is).new))

  -- what is noted differs from what isn't
  differ : (noted : Noted) (old new : List Item) → ItemsNoted noted old
      → AllByRecursion (λ (item : Item). is_some (noted_number noted item.1) ≡ false) new
      → AllByRecursion (λ (y : Item). AllByRecursion (λ (x : Item). x.1 ≢ y.1) old) new
  differ noted old new there none =
      all_weaker (λ (item : Item). is_some (noted_number noted item.1) ≡ false) (λ (y : Item). AllByRecursion (λ (x : Item). x.1 ≢ y.1) old) new
      (λ y is. all_weaker (λ (item : Item). IsNoted noted item.1) (λ (x : Item). x.1 ≢ y.1) old
      (λ x has same. let told : is_some (noted_number noted y.1) ≡ true = subst (IsNoted noted) same has in let e : true ≡ false = sym told ∙ is in cc) there) none

  alone : (entry : ℕ) → slice_get facts.parents entry ≡ Some None → class_items facts entry ≡ items_at facts entry
  alone entry none = ap (flat_map (items_at facts)) (line_alone facts.parents entry none) ∙ append-nil (items_at facts entry)

  pub rooted_of : (entry : ℕ) → IsClassEntry facts.names entry → {other : ℕ} → StandsUnder facts.parents entry other → IsRooted facts.parents entry
  rooted_of entry is {other} under =
      let found = are.lineage.rootedness entry (slice_get_within facts.parents entry (Some other) under) in
      let same = same_Some found.0 how.Rooted (sym found.1 ∙ class_rooted facts are fine entry is) in
      subst (StandsSo facts.parents entry) same found.2

  pub items_below : (entry other : ℕ) → IsClassEntry facts.names entry → above facts.names facts.program entry ≡ Some (meanings.Entry other)
      → StandsUnder facts.parents entry other → class_items facts entry ≡ class_items facts other ++ own_items entry
  items_below entry other is up under =
      let rooted = rooted_of entry is under in
      let own : items_at facts entry ≡ own_items entry = ap (λ m. given_items m ++ own_items entry) up in
      ap (flat_map (items_at facts)) (line_below facts.parents entry other under rooted)
      ∙ (flat_map-append (items_at facts) (line_down facts other) (entry ∷ [])
      ∙ ap (λ rest. class_items facts other ++ rest) (append-nil (items_at facts entry) ∙ own))

  apart_top : (entry : ℕ) → IsClassEntry facts.names entry → above facts.names facts.program entry ≡ None → slice_get facts.parents entry ≡ Some None
      → AreApart (class_items facts entry)
  apart_top entry is up none =
      let e : items_at facts entry ≡ own_items entry = ap (λ m. given_items m ++ own_items entry) up in
      subst AreApart (sym (alone entry none ∙ e)) (own_apart entry is)

  apart_builtin : (entry number : ℕ) → IsClassEntry facts.names entry → above facts.names facts.program entry ≡ Some (meanings.BuiltIn number)
      → slice_get facts.parents entry ≡ Some None → AreApart (class_items facts entry)
  apart_builtin entry number is up none =
      let e : items_at facts entry ≡ builtin_items number ++ own_items entry = ap (λ m. given_items m ++ own_items entry) up in
      let U : Option Meaning → Type 0 = λ m. AllByRecursion (λ (item : Item). is_some (noted_number (meaning_noted facts m) item.1) ≡ false) (own_items entry) in
      let unnoted = subst U up (own_unnoted entry is) in
      subst AreApart (sym (alone entry none ∙ e))
      (apart_append (builtin_items number) (own_items entry) (builtin_apart number) (own_apart entry is)
      (differ (words_noted [] (builtin_members number)) (builtin_items number) (own_items entry) (given_there [] (Some (meanings.BuiltIn number))) unnoted))

  apart_below : (entry other : ℕ) → IsClassEntry facts.names entry → above facts.names facts.program entry ≡ Some (meanings.Entry other)
      → StandsUnder facts.parents entry other → IsClassEntry facts.names other → AreApart (class_items facts other) → AreApart (class_items facts entry)
  apart_below entry other is up under class rest =
      let U : Option Meaning → Type 0 = λ m. AllByRecursion (λ (item : Item). is_some (noted_number (meaning_noted facts m) item.1) ≡ false) (own_items entry) in
      let unnoted = subst U up (own_unnoted entry is) in
      let line = line_noted facts.names facts.program [] (ancestry facts.parents other) in
      let there : is_class_at facts.names other ≡ true =
      ap (λ o. option_map_or (λ (declared : Declared). is_class_sort declared.sort) o false) class.there ∙ class.sort in
      let noted : meaning_noted facts (Some (meanings.Entry other)) ≡ line = λ i. if there i then line else [] in
      let V : Noted → Type 0 = λ n. AllByRecursion (λ (item : Item). is_some (noted_number n item.1) ≡ false) (own_items entry) in
      subst AreApart (sym (items_below entry other is up under))
      (apart_append (class_items facts other) (own_items entry) rest (own_apart entry is)
      (differ line (class_items facts other) (own_items entry) (items_there facts [] other) (subst V noted unnoted)))

  apart_upto : (count place entry : ℕ) → place < count → slice_get are.order place ≡ Some entry → IsClassEntry facts.names entry → AreApart (class_items facts entry)
  apart_upto zero place entry below at is = absurd (omega arith)
  apart_upto (suc count) place entry below at is = elim (class_stands facts are fine entry is) [
    | no_parent up none ↦ apart_top entry is up none
    | under_builtin number few up none ↦ apart_builtin entry number is up none
    | under_class other up under class first decl declared there body ↦
        (let earlier = are.lineage.ordered place entry other at under in
        apart_below entry other is up under class
        (apart_upto count earlier.0 other (let less : earlier.0 < place = earlier.1 in omega arith) earlier.2 class))
  ]

  -- what a class has differs
  pub items_apart : (entry : ℕ) → IsClassEntry facts.names entry → AreApart (class_items facts entry)
  items_apart entry is =
      let place = are.lineage.whole entry (class_rooted facts are fine entry is) in
      apart_upto (suc place.0) place.0 entry (omega arith) place.1 is

-- What is seen in a block of a rule, as it grows.
use Rattle.std.proofs.Common.{◌≡◌, ℕ, ◌<◌, ◌≤◌, ◌==◌, ◌⊎◌, inl, inr, Bool, true, false, List, [], ◌∷◌, ◌++◌, length, map, refl, sym, ◌∙◌, ap, subst, append_assoc, append-nil, arith, eq-eqb, eqb-true}
use Rattle.std.specs.Prelude.{Option, Some, None, All, Contains, bytes_eq, slice_get, if◌then◌else◌}
use Rattle.std.specs.List.{AllByRecursion}
use Rattle.std.specs.Option.{option_and_then, option_or}
use Rattle.std.proofs.lemmas.List.Elements.{All-from_recursion, All-weaker, Contains-append_cases, Contains-append_left, Contains-append_right}
use Rattle.domain_core.specs.Constraints.{arity_of}
use Rattle.domain_core.specs.declared.kind.Kind.{Kind}
use Rattle.domain_core.specs.declared.kind.Kind.TheVariants as kinds
use Rattle.eu_index.specs.Hiding.{last_meaning, meaning_if}
use Rattle.eu_index.specs.Index.{Noted}
use Rattle.model_core.specs.declared.item.Item.{Item}
use Rattle.model_core.specs.declared.item.Item.TheVariants.{Constraint, Relation}
use Rattle.model_core.specs.declared.item.Term.{Term}
use Rattle.model_core.specs.declared.item.Term.TheVariants as terms
use Rattle.model_core.specs.declared.rule.Entry.{Entry}
use Rattle.model_core.specs.declared.rule.Entry.TheVariants as entries
use Rattle.model_core.specs.declared.rule.Guard.{Guard}
use Rattle.model_core.specs.Block.{plain_entries}
use Rattle.model_core.specs.Entries.{Entries, NoEntry, WithSlot, WithLocal, WithItem, WithBranch}
use Rattle.model_rules.specs.declared.names.Name as seen_name
use Rattle.model_rules.specs.declared.names.Name.TheVariants as names
use Rattle.model_rules.specs.Nested.{IsItemAmong, IsTermAmong, names_of}
use Rattle.nddl_rule_check.specs.Constraints.{takes}
use Rattle.nddl_terms.specs.declared.growth.Growth.{Growth}
use Rattle.nddl_terms.specs.declared.lexicon.Shape.{Shape}
use Rattle.nddl_terms.specs.declared.stands.Made.{Made}
use Rattle.nddl_terms.specs.declared.stands.Stand.{Stand}
use Rattle.nddl_terms.specs.declared.stands.Stand.TheVariants as stands
use Rattle.nddl_terms.specs.declared.stands.TextPlaces.{TextPlaces}
use Rattle.nddl_terms.specs.Growth.{unnamed, with_item, with_last_entry, with_next_local}
use Rattle.nddl_terms.specs.Stands.{declared_stand, latest_stand, stand_if_at, stand_or_nothing}
use Rattle.nddl_lower.specs.Arguments.{all_differ, constraint_items, differ, with_items}
use Rattle.nddl_unroll.specs.Blocks.{back_in, filled_block, in_block}
use Rattle.nddl_lowering_laws.specs.Scoped.{AreApart}
use Rattle.nddl_lowering_laws.specs.Seen.{HasArity, sides_of}

-- ---- names that are seen

abbrev pub SeenNames : Type 0
SeenNames = List seen_name.Name

-- the one list has each name of the other
abbrev pub HasMore : SeenNames → SeenNames → Type 0
HasMore seen more = (name : seen_name.Name) → Contains seen name → Contains more name

more_same : (seen : SeenNames) → HasMore seen seen
more_same seen name has = has

more_behind : (seen back : SeenNames) → HasMore seen (seen ++ back)
more_behind seen back name has = Contains-append_left seen back name has

more_front : (front seen more : SeenNames) → HasMore seen more → HasMore (front ++ seen) (front ++ more)
more_front front seen more grows name has = by (Contains-append_cases front seen name has)
  where
    by : Contains front name ⊎ Contains seen name → Contains (front ++ more) name
    by (inl here) = Contains-append_left front more name here
    by (inr there) = Contains-append_right front more name (grows name there)

more_back : (back seen more : SeenNames) → HasMore seen more → HasMore (seen ++ back) (more ++ back)
more_back back seen more grows name has = by (Contains-append_cases seen back name has)
  where
    by : Contains seen name ⊎ Contains back name → Contains (more ++ back) name
    by (inl here) = Contains-append_left more back name (grows name here)
    by (inr there) = Contains-append_right more back name there

-- ---- terms, items and guards

pub term_more : (seen more : SeenNames) → HasMore seen more → (term : Term) → IsTermAmong seen term → IsTermAmong more term
term_more seen more grows (terms.Slot number part) is = grows (names.Slot number) is
term_more seen more grows (terms.Local number) is = grows (names.Local number) is
term_more seen more grows (terms.Lit value) is = tt
term_more seen more grows (terms.Here part) is = tt
term_more seen more grows (terms.Global number) is = tt
term_more seen more grows (terms.Root number part) is = tt

terms_more : (seen more : SeenNames) → HasMore seen more → (some : List Term) → All (IsTermAmong seen) some → All (IsTermAmong more) some
terms_more seen more grows some are = All-weaker (IsTermAmong seen) (IsTermAmong more) (term_more seen more grows) some are

item_more : (seen more : SeenNames) → HasMore seen more → (item : Item) → IsItemAmong seen item → IsItemAmong more item
item_more seen more grows (Constraint kind some) are = terms_more seen more grows some are
item_more seen more grows (Relation relation slot) is = grows (names.Slot slot) is

-- an item has as many arguments as its kind takes, and names what is seen
abbrev pub IsFormed : SeenNames → Item → Type 0
IsFormed seen item = HasArity item × IsItemAmong seen item

formed_more : (seen more : SeenNames) → HasMore seen more → (item : Item) → IsFormed seen item → IsFormed more item
formed_more seen more grows item are = (are.0, item_more seen more grows item are.1)

-- ---- entries

-- what stands in the block, and in the blocks in it, is formed so: it names these or what stands in the blocks round it
abbrev pub AreAmong : SeenNames → Entries → Type 0
AreAmong seen NoEntry = Unit {0}
AreAmong seen (WithSlot slot more) = AreAmong seen more
AreAmong seen (WithLocal local more) = AreAmong seen more
AreAmong seen (WithItem item more) = IsFormed seen item × AreAmong seen more
AreAmong seen (WithBranch guard first second more) =
    All (IsTermAmong seen) (sides_of guard)
    × (AreAmong (seen ++ names_of first) first × (AreAmong (seen ++ names_of second) second × AreAmong seen more))

among_more : (block : Entries) (seen more : SeenNames) → HasMore seen more → AreAmong seen block → AreAmong more block
among_more NoEntry seen more grows are = tt
among_more (WithSlot slot rest) seen more grows are = among_more rest seen more grows are
among_more (WithLocal local rest) seen more grows are = among_more rest seen more grows are
among_more (WithItem item rest) seen more grows are = (formed_more seen more grows item are.0, among_more rest seen more grows are.1)
among_more (WithBranch guard first second rest) seen more grows are = (
  terms_more seen more grows (sides_of guard) are.0,
  (
    among_more first (seen ++ names_of first) (more ++ names_of first) (more_back (names_of first) seen more grows) are.1.0,
    (
      among_more second (seen ++ names_of second) (more ++ names_of second) (more_back (names_of second) seen more grows) are.1.1.0,
      among_more rest seen more grows are.1.1.1,
    ),
  ),
)

among_append : (seen : SeenNames) (one other : List Entry) → AreAmong seen (plain_entries one) → AreAmong seen (plain_entries other)
    → AreAmong seen (plain_entries (one ++ other))
among_append seen [] other first second = second
among_append seen (entries.Slot number ∷ more) other first second = among_append seen more other first second
among_append seen (entries.Local number ∷ more) other first second = among_append seen more other first second
among_append seen (entries.Item item ∷ more) other first second = (first.0, among_append seen more other first.1 second)
among_append seen (entries.Branch guard inside behind ∷ more) other first second =
    (first.0, (first.1.0, (first.1.1.0, among_append seen more other first.1.1.1 second)))

names_append : (one other : List Entry) → names_of (plain_entries (one ++ other)) ≡ names_of (plain_entries one) ++ names_of (plain_entries other)
names_append [] other = refl
names_append (entries.Slot number ∷ more) other = ap (λ (list : SeenNames). names.Slot number ∷ list) (names_append more other)
names_append (entries.Local number ∷ more) other = ap (λ (list : SeenNames). names.Local number ∷ list) (names_append more other)
names_append (entries.Item item ∷ more) other = names_append more other
names_append (entries.Branch guard inside behind ∷ more) other = names_append more other

-- ---- rules that grow

-- what is seen in the block that is being filled, where this is seen from the blocks round it
abbrev pub seen_in : SeenNames → Growth → SeenNames
seen_in outer growth = outer ++ names_of (filled_block growth)

-- what stands in that block names what is seen there
abbrev pub IsSeenIn : SeenNames → Growth → Type 0
IsSeenIn outer growth = AreAmong (seen_in outer growth) (filled_block growth)

-- these entries came
pub names_more : (outer : SeenNames) (old new : Growth) (added : List Entry) → new.entries ≡ old.entries ++ added
    → HasMore (seen_in outer old) (seen_in outer new)
names_more outer old new added come =
    let those : names_of (filled_block new) ≡ names_of (filled_block old) ++ names_of (plain_entries added) =
    ap (λ (some : List Entry). names_of (plain_entries some)) come ∙ names_append old.entries added in
    subst (λ (list : SeenNames). HasMore (seen_in outer old) (outer ++ list)) (sym those)
    (more_front outer (names_of (filled_block old)) (names_of (filled_block old) ++ names_of (plain_entries added))
    (more_behind (names_of (filled_block old)) (names_of (plain_entries added))))

-- what came is seen
pub added_seen : (outer : SeenNames) (old new : Growth) (added : List Entry) → new.entries ≡ old.entries ++ added → (name : seen_name.Name)
    → Contains (names_of (plain_entries added)) name → Contains (seen_in outer new) name
added_seen outer old new added come name has =
    let those : names_of (filled_block new) ≡ names_of (filled_block old) ++ names_of (plain_entries added) =
    ap (λ (some : List Entry). names_of (plain_entries some)) come ∙ names_append old.entries added in
    Contains-append_right outer (names_of (filled_block new)) name
    (subst (λ (list : SeenNames). Contains list name) (sym those)
    (Contains-append_right (names_of (filled_block old)) (names_of (plain_entries added)) name has))

pub entries_seen : (outer : SeenNames) (old new : Growth) (added : List Entry) → new.entries ≡ old.entries ++ added
    → AreAmong (seen_in outer new) (plain_entries added) → IsSeenIn outer old → IsSeenIn outer new
entries_seen outer old new added come are before =
    subst (λ (some : List Entry). AreAmong (seen_in outer new) (plain_entries some)) (sym come)
    (among_append (seen_in outer new) old.entries added
    (among_more (filled_block old) (seen_in outer old) (seen_in outer new) (names_more outer old new added come) before) are)

-- ---- steps without declarations

-- nothing is declared, and what comes names what is seen
pub record Reads (outer : SeenNames) (old new : Growth) : Type 0 where
  pub named : new.named ≡ old.named
  pub asked : new.asked ≡ old.asked
  pub seen : IsSeenIn outer old → IsSeenIn outer new
  pub more : HasMore (seen_in outer old) (seen_in outer new)

pub reads_same : (outer : SeenNames) (growth : Growth) → Reads outer growth growth
reads_same outer growth = record { named = refl; asked = refl; seen = λ are. are; more = more_same (seen_in outer growth) }

pub reads_join : (outer : SeenNames) (first second third : Growth) → Reads outer first second → Reads outer second third → Reads outer first third
reads_join outer first second third one other = record {
  named = other.named ∙ one.named;
  asked = other.asked ∙ one.asked;
  seen = λ are. other.seen (one.seen are);
  more = λ name has. other.more name (one.more name has);
}

entered : (outer : SeenNames) (old new : Growth) (added : List Entry) → new.named ≡ old.named → new.asked ≡ old.asked
    → new.entries ≡ old.entries ++ added → AreAmong (seen_in outer new) (plain_entries added) → Reads outer old new
entered outer old new added named asked come are = record {
  named = named;
  asked = asked;
  seen = entries_seen outer old new added come are;
  more = names_more outer old new added come;
}

pub reads_item : (outer : SeenNames) (item : Item) (growth : Growth) → IsFormed (seen_in outer growth) item → Reads outer growth (with_item item growth)
reads_item outer item growth among =
    let new = with_item item growth in
    let added = entries.Item item ∷ [] in
    entered outer growth new added refl refl refl
    (formed_more (seen_in outer growth) (seen_in outer new) (names_more outer growth new added refl) item among, tt)

-- each of these names what is seen
abbrev pub EachAmong : SeenNames → List Item → Type 0
EachAmong seen [] = Unit {0}
EachAmong seen (item ∷ more) = IsFormed seen item × EachAmong seen more

items_among : (seen more : SeenNames) → HasMore seen more → (some : List Item) → EachAmong seen some → AreAmong more (plain_entries (map entries.Item some))
items_among seen more grows [] are = tt
items_among seen more grows (item ∷ rest) are = (formed_more seen more grows item are.0, items_among seen more grows rest are.1)

pub reads_items : (outer : SeenNames) (some : List Item) (growth : Growth) → EachAmong (seen_in outer growth) some → Reads outer growth (with_items some growth)
reads_items outer some growth are =
    let new = with_items some growth in
    let added = map entries.Item some in
    entered outer growth new added refl refl refl
    (items_among (seen_in outer growth) (seen_in outer new) (names_more outer growth new added refl) some are)

pub reads_local : (outer : SeenNames) (shape : Shape) (growth : Growth) → Reads outer growth (with_next_local (unnamed shape) growth)
reads_local outer shape growth =
    entered outer growth (with_next_local (unnamed shape) growth) (entries.Local (length growth.locals) ∷ []) refl refl refl tt

pub local_seen : (outer : SeenNames) (shape : Shape) (growth : Growth)
    → Contains (seen_in outer (with_next_local (unnamed shape) growth)) (names.Local (length growth.locals))
local_seen outer shape growth =
    added_seen outer growth (with_next_local (unnamed shape) growth) (entries.Local (length growth.locals) ∷ []) refl
    (names.Local (length growth.locals)) (0, omega arith, refl)

-- ---- items of constraints

-- each term names what is seen
abbrev pub TermsAmong : SeenNames → List Term → Type 0
TermsAmong seen some = AllByRecursion (IsTermAmong seen) some

pub terms_all : (seen : SeenNames) (some : List Term) → TermsAmong seen some → All (IsTermAmong seen) some
terms_all seen some are = All-from_recursion (IsTermAmong seen) some are

pub terms_later : (seen more : SeenNames) → HasMore seen more → (some : List Term) → TermsAmong seen some → TermsAmong more some
terms_later seen more grows [] are = tt
terms_later seen more grows (term ∷ rest) are = (term_more seen more grows term are.0, terms_later seen more grows rest are.1)

pub two_among : (seen : SeenNames) (one other : Term) → IsTermAmong seen one → IsTermAmong seen other → All (IsTermAmong seen) (one ∷ other ∷ [])
two_among seen one other first second = terms_all seen (one ∷ other ∷ []) (first, (second, tt))

differ_among : (seen : SeenNames) (one : Term) (some : List Term) → IsTermAmong seen one → TermsAmong seen some → EachAmong seen (map (differ one) some)
differ_among seen one [] first are = tt
differ_among seen one (other ∷ more) first are = ((refl, two_among seen one other first are.0), differ_among seen one more first are.1)

each_append : (seen : SeenNames) (one other : List Item) → EachAmong seen one → EachAmong seen other → EachAmong seen (one ++ other)
each_append seen [] other first second = second
each_append seen (item ∷ more) other first second = (first.0, each_append seen more other first.1 second)

differing_among : (seen : SeenNames) (some : List Term) → TermsAmong seen some → EachAmong seen (all_differ some)
differing_among seen [] are = tt
differing_among seen (one ∷ more) are =
    each_append seen (map (differ one) more) (all_differ more) (differ_among seen one more are.0 are.1) (differing_among seen more are.1)

-- a constraint is one item, unless all its arguments differ
abbrev IsSingle : Kind → Type 0
IsSingle kinds.AllDiff = ⊥
IsSingle kind = Unit {0}

arity_is : (kind : Kind) (number : ℕ) → IsSingle kind → takes kind number ≡ true → number ≡ arity_of kind
arity_is kinds.Eq number single taken = eqb-true number 2 taken
arity_is kinds.Neq number single taken = eqb-true number 2 taken
arity_is kinds.Lt number single taken = eqb-true number 2 taken
arity_is kinds.Leq number single taken = eqb-true number 2 taken
arity_is kinds.AddEq number single taken = eqb-true number 3 taken
arity_is kinds.MulEq number single taken = eqb-true number 3 taken
arity_is kinds.TestEq number single taken = eqb-true number 3 taken
arity_is kinds.TestLeq number single taken = eqb-true number 3 taken
arity_is kinds.AllDiff number single taken = absurd single
arity_is (kinds.Field field) number single taken = absurd (let never : false ≡ true = taken in cc)

pub constraint_among : (seen : SeenNames) (kind : Kind) (some : List Term) → takes kind (length some) ≡ true → TermsAmong seen some
    → EachAmong seen (constraint_items kind some)
constraint_among seen kinds.AllDiff some taken are = differing_among seen some are
constraint_among seen kind some taken are = ((arity_is kind (length some) tt taken, terms_all seen some are), tt)

-- ---- what stands for declarations

-- what stands for a name is seen
abbrev pub IsStandAmong : SeenNames → Stand → Type 0
IsStandAmong seen (stands.Value term own class) = IsTermAmong seen term
IsStandAmong seen (stands.Slot number pred) = Contains seen (names.Slot number)
IsStandAmong seen stand = Unit {0}

pub stand_more : (seen more : SeenNames) → HasMore seen more → (stand : Stand) → IsStandAmong seen stand → IsStandAmong more stand
stand_more seen more grows (stands.Value term own class) is = term_more seen more grows term is
stand_more seen more grows (stands.Slot number pred) is = grows (names.Slot number) is
stand_more seen more grows (stands.Root number pred) is = tt
stand_more seen more grows (stands.Class class) is = tt
stand_more seen more grows stands.Nothing is = tt

-- the same, where something may be missing
abbrev pub IsFoundAmong : SeenNames → Option Stand → Type 0
IsFoundAmong seen None = Unit {0}
IsFoundAmong seen (Some stand) = IsStandAmong seen stand

pub found_stand : (seen : SeenNames) (found : Option Stand) → IsFoundAmong seen found → IsStandAmong seen (stand_or_nothing found)
found_stand seen None is = tt
found_stand seen (Some stand) is = is

pub found_more : (seen more : SeenNames) → HasMore seen more → (found : Option Stand) → IsFoundAmong seen found → IsFoundAmong more found
found_more seen more grows None is = tt
found_more seen more grows (Some stand) is = stand_more seen more grows stand is

found_or : (seen : SeenNames) (one other : Option Stand) → IsFoundAmong seen one → IsFoundAmong seen other → IsFoundAmong seen (option_or one other)
found_or seen None other first second = second
found_or seen (Some stand) other first second = first

-- the latest that was made of what is declared at a place, with something more at the end
or_assoc : (one two three : Option Stand) → option_or one (option_or two three) ≡ option_or (option_or one two) three
or_assoc None two three = refl
or_assoc (Some stand) two three = refl

latest_append : (at : ℕ) (one other : List Made) → latest_stand at (one ++ other) ≡ option_or (latest_stand at other) (latest_stand at one)
latest_append at [] other = sym (or_none (latest_stand at other))
  where
    or_none : (found : Option Stand) → option_or found None ≡ found
    or_none None = refl
    or_none (Some stand) = refl
latest_append at (made ∷ more) other =
    ap (λ (found : Option Stand). option_or found (stand_if_at at made)) (latest_append at more other)
    ∙ sym (or_assoc (latest_stand at other) (latest_stand at more) (stand_if_at at made))

-- these were made of what is declared at places of the list from this number on
abbrev pub EachAt : List ℕ → ℕ → List Made → Type 0
EachAt places from [] = Unit {0}
EachAt places from (made ∷ more) = ((number : ℕ) × (from ≤ number) × (slice_get places number ≡ Some made.at)) × EachAt places from more

pub record AddsAt (places : List ℕ) (from : ℕ) (old new : List Made) : Type 0 where
  pub more : List Made
  pub is : new ≡ old ++ more
  pub each : EachAt places from more

pub adds_same : (places : List ℕ) (from : ℕ) (old new : List Made) → new ≡ old → AddsAt places from old new
adds_same places from old new same = record { more = []; is = same ∙ sym (append-nil old); each = tt }

pub adds_one : (places : List ℕ) (from : ℕ) (old : List Made) (made : Made) → slice_get places from ≡ Some made.at → AddsAt places from old (old ++ made ∷ [])
adds_one places from old made at = record { more = made ∷ []; is = refl; each = ((from, omega arith, at), tt) }

each_from : (places : List ℕ) (from less : ℕ) (some : List Made) → less ≤ from → EachAt places from some → EachAt places less some
each_from places from less [] low each = tt
each_from places from less (made ∷ more) low each =
    let above : from ≤ each.0.0 = each.0.1 in
    ((each.0.0, omega (arith, low, above), each.0.2), each_from places from less more low each.1)

each_both : (places : List ℕ) (from : ℕ) (one other : List Made) → EachAt places from one → EachAt places from other → EachAt places from (one ++ other)
each_both places from [] other first second = second
each_both places from (made ∷ more) other first second = (first.0, each_both places from more other first.1 second)

pub adds_join : (places : List ℕ) (from later : ℕ) (first second third : List Made) → from ≤ later → AddsAt places from first second
    → AddsAt places later second third → AddsAt places from first third
adds_join places from later first second third low one other = record {
  more = one.more ++ other.more;
  is =
      other.is
      ∙ (ap (λ (list : List Made). list ++ other.more) one.is ∙ append_assoc first one.more other.more);
  each = each_both places from one.more other.more one.each (each_from places later from other.more low other.each);
}

-- of what is declared before, nothing new was made
none_later : (places : List ℕ) → AreApart places → (from number at : ℕ) → number < from → slice_get places number ≡ Some at → (some : List Made)
    → EachAt places from some → latest_stand at some ≡ None
none_later places apart from number at low is [] each = refl
none_later places apart from number at low is (made ∷ more) each =
    let above : from ≤ each.0.0 = each.0.1 in
    let rest = none_later places apart from number at low is more each.1 in
    let here : stand_if_at at made ≡ None = by (made.at == at) (λ same. (
    let equal : made.at ≡ at = eqb-true made.at at same in
    let both : number ≡ each.0.0 = apart number each.0.0 at is (each.0.2 ∙ ap (λ (n : ℕ). Some n) equal) in
    omega (arith, low, above, both))) in
    ap (λ (found : Option Stand). option_or found (stand_if_at at made)) rest ∙ here
  where
    by : (so : Bool) → (so ≡ true → ⊥) → (if so then Some made.stand else None) ≡ None
    by true never = absurd (never refl)
    by false never = refl

latest_kept : (places : List ℕ) → AreApart places → (from number : ℕ) (old new : List Made) → number < from → AddsAt places from old new
    → (found : Option ℕ) → slice_get places number ≡ found
    → option_and_then (λ at. latest_stand at new) found ≡ option_and_then (λ at. latest_stand at old) found
latest_kept places apart from number old new low adds None is = refl
latest_kept places apart from number old new low adds (Some at) is =
    let none = none_later places apart from number at low is adds.more adds.each in
    ap (λ (list : List Made). latest_stand at list) adds.is
    ∙ (latest_append at old adds.more ∙ ap (λ (found : Option Stand). option_or found (latest_stand at old)) none)

-- what stands for a declaration before these places stays
pub stand_kept : (places : List ℕ) → AreApart places → (from number : ℕ) (old new : List Made) → number < from → AddsAt places from old new
    → declared_stand places number new ≡ declared_stand places number old
stand_kept places apart from number old new low adds = latest_kept places apart from number old new low adds (slice_get places number) refl

-- what was made last at a place stands for what is declared there
pub stand_last : (places : List ℕ) (number : ℕ) (old : List Made) (made : Made) → slice_get places number ≡ Some made.at
    → declared_stand places number (old ++ made ∷ []) ≡ Some made.stand
stand_last places number old made at =
    ap (λ (found : Option ℕ). option_and_then (λ place. latest_stand place (old ++ made ∷ [])) found) at
    ∙ (latest_append made.at old (made ∷ [])
    ∙ ap (λ (so : Bool). option_or (option_or None (if so then Some made.stand else None)) (latest_stand made.at old))
    (eq-eqb made.at made.at refl))

-- ---- names in sight

-- it is so of each number
abbrev pub EachNumber : (ℕ → Type 0) → Noted → Type 0
EachNumber P [] = Unit {0}
EachNumber P (seen ∷ more) = P seen.1 × EachNumber P more

pub number_more : (P : ℕ → Type 0) (some : Noted) (name : List ℕ) (number : ℕ) → EachNumber P some → P number → EachNumber P (some ++ (name, number) ∷ [])
number_more P [] name number each is = (is, tt)
number_more P (first ∷ more) name number each is = (each.0, number_more P more name number each.1 is)

pub numbers_so : (P Q : ℕ → Type 0) → ((number : ℕ) → P number → Q number) → (some : Noted) → EachNumber P some → EachNumber Q some
numbers_so P Q to [] each = tt
numbers_so P Q to (first ∷ more) each = (to first.1 each.0, numbers_so P Q to more each.1)

-- the number that is found, if one is
abbrev pub OnFound : (ℕ → Type 0) → Option ℕ → Type 0
OnFound P None = Unit {0}
OnFound P (Some number) = P number

on_or : (P : ℕ → Type 0) (one other : Option ℕ) → OnFound P one → OnFound P other → OnFound P (option_or one other)
on_or P None other first second = second
on_or P (Some number) other first second = first

on_if : (P : ℕ → Type 0) (so : Bool) (number : ℕ) → P number → OnFound P (if so then Some number else None)
on_if P true number is = is
on_if P false number is = tt

pub last_on : (P : ℕ → Type 0) (name : List ℕ) (some : Noted) → EachNumber P some → OnFound P (last_meaning name some)
last_on P name [] each = tt
last_on P name (seen ∷ more) each =
    on_or P (last_meaning name more) (meaning_if name seen) (last_on P name more each.1) (on_if P (bytes_eq name seen.0) seen.1 each.0)

-- the local or slot of this number was declared before, and what stands for it is seen
abbrev pub IsViewed : SeenNames → List ℕ → ℕ → List Made → ℕ → Type 0
IsViewed seen places before made number = (number < before) × IsFoundAmong seen (declared_stand places number made)

-- so it is of all that are in sight, where so many are declared before
pub record Views (places : TextPlaces) (outer : SeenNames) (growth : Growth) (locals labels : Noted) (before asked_before : ℕ) : Type 0 where
  pub named : EachNumber (IsViewed (seen_in outer growth) places.locals before growth.named) locals
  pub asked : EachNumber (IsViewed (seen_in outer growth) places.slots asked_before growth.asked) labels

viewed_later : (places : List ℕ) → AreApart places → (seen more : SeenNames) → HasMore seen more → (before later : ℕ) (old new : List Made) → before ≤ later
    → AddsAt places before old new → (number : ℕ) → IsViewed seen places before old number → IsViewed more places later new number
viewed_later places apart seen more grows before later old new low adds number is = (
  (let less : number < before = is.0 in omega (arith, less, low)),
  subst (IsFoundAmong more) (sym (stand_kept places apart before number old new is.0 adds))
      (found_more seen more grows (declared_stand places number old) is.1),
)

-- ---- steps with declarations

-- what is declared comes from these numbers on, and what comes names what is seen
pub record Goes (places : TextPlaces) (outer : SeenNames) (from asked_from : ℕ) (old new : Growth) : Type 0 where
  pub named : AddsAt places.locals from old.named new.named
  pub asked : AddsAt places.slots asked_from old.asked new.asked
  pub seen : IsSeenIn outer old → IsSeenIn outer new
  pub more : HasMore (seen_in outer old) (seen_in outer new)

pub goes_reading : (places : TextPlaces) (outer : SeenNames) (from asked_from : ℕ) (old new : Growth) → Reads outer old new
    → Goes places outer from asked_from old new
goes_reading places outer from asked_from old new reads = record {
  named = adds_same places.locals from old.named new.named reads.named;
  asked = adds_same places.slots asked_from old.asked new.asked reads.asked;
  seen = reads.seen;
  more = reads.more;
}

pub goes_join : (places : TextPlaces) (outer : SeenNames) (from later asked_from asked_later : ℕ) (first second third : Growth) → from ≤ later
    → asked_from ≤ asked_later → Goes places outer from asked_from first second → Goes places outer later asked_later second third
    → Goes places outer from asked_from first third
goes_join places outer from later asked_from asked_later first second third low asked_low one other = record {
  named = adds_join places.locals from later first.named second.named third.named low one.named other.named;
  asked = adds_join places.slots asked_from asked_later first.asked second.asked third.asked asked_low one.asked other.asked;
  seen = λ are. other.seen (one.seen are);
  more = λ name has. other.more name (one.more name has);
}

-- what was in sight stays so
pub views_later : (places : TextPlaces) → AreApart places.locals → AreApart places.slots → (outer : SeenNames) (old new : Growth) (locals labels : Noted)
    (before asked_before later asked_later : ℕ) → before ≤ later → asked_before ≤ asked_later
    → Goes places outer before asked_before old new → Views places outer old locals labels before asked_before
    → Views places outer new locals labels later asked_later
views_later places apart slots_apart outer old new locals labels before asked_before later asked_later low asked_low goes views = record {
  named = numbers_so (IsViewed (seen_in outer old) places.locals before old.named) (IsViewed (seen_in outer new) places.locals later new.named)
      (viewed_later places.locals apart (seen_in outer old) (seen_in outer new) goes.more before later old.named new.named low goes.named)
      locals views.named;
  asked = numbers_so (IsViewed (seen_in outer old) places.slots asked_before old.asked) (IsViewed (seen_in outer new) places.slots asked_later new.asked)
      (viewed_later places.slots slots_apart (seen_in outer old) (seen_in outer new) goes.more asked_before asked_later old.asked new.asked asked_low goes.asked)
      labels views.asked;
}

-- in a block inside all that is seen outside is seen from round it
pub views_inside : (places : TextPlaces) (outer : SeenNames) (growth : Growth) (locals labels : Noted) (before asked_before : ℕ)
    → Views places outer growth locals labels before asked_before
    → Views places (seen_in outer growth) (in_block growth) locals labels before asked_before
views_inside places outer growth locals labels before asked_before views =
    let seen = seen_in outer growth in
    let inner = seen_in seen (in_block growth) in
    record {
      named = numbers_so (IsViewed seen places.locals before growth.named) (IsViewed inner places.locals before growth.named)
          (λ number is. (is.0, found_more seen inner (more_behind seen []) (declared_stand places.locals number growth.named) is.1))
          locals views.named;
      asked = numbers_so (IsViewed seen places.slots asked_before growth.asked) (IsViewed inner places.slots asked_before growth.asked)
          (λ number is. (is.0, found_more seen inner (more_behind seen []) (declared_stand places.slots number growth.asked) is.1))
          labels views.asked;
    }

-- and so it is in a second block beside it
pub views_beside : (places : TextPlaces) → AreApart places.locals → AreApart places.slots → (outer : SeenNames) (old new : Growth) (locals labels : Noted)
    (before asked_before later asked_later : ℕ) → before ≤ later → asked_before ≤ asked_later
    → AddsAt places.locals before old.named new.named → AddsAt places.slots asked_before old.asked new.asked
    → Views places outer (in_block old) locals labels before asked_before → Views places outer (in_block new) locals labels later asked_later
views_beside places apart slots_apart outer old new locals labels before asked_before later asked_later low asked_low named asked views =
    let seen = seen_in outer (in_block old) in
    record {
      named = numbers_so (IsViewed seen places.locals before old.named) (IsViewed seen places.locals later new.named)
          (viewed_later places.locals apart seen seen (more_same seen) before later old.named new.named low named) locals views.named;
      asked = numbers_so (IsViewed seen places.slots asked_before old.asked) (IsViewed seen places.slots asked_later new.asked)
          (viewed_later places.slots slots_apart seen seen (more_same seen) asked_before asked_later old.asked new.asked asked_low asked) labels views.asked;
    }

-- a branch whose sides and blocks name what is seen
pub goes_branch : (places : TextPlaces) (outer : SeenNames) (from later asked_from asked_later : ℕ) (guard : Guard) (old filled second : Growth)
    → from ≤ later → asked_from ≤ asked_later → All (IsTermAmong (seen_in outer old)) (sides_of guard)
    → Goes places (seen_in outer old) from asked_from (in_block old) filled
    → Goes places (seen_in outer old) later asked_later (in_block filled) second
    → Goes places outer from asked_from old
    (with_last_entry (entries.Branch guard (filled_block filled) (filled_block second)) (back_in old.entries second))
goes_branch places outer from later asked_from asked_later guard old filled second low asked_low sides one other =
    let branch = entries.Branch guard (filled_block filled) (filled_block second) in
    let new = with_last_entry branch (back_in old.entries second) in
    let seen = seen_in outer old in
    let grown = names_more outer old new (branch ∷ []) refl in
    let first = among_more (filled_block filled) (seen ++ names_of (filled_block filled)) (seen_in outer new ++ names_of (filled_block filled))
    (more_back (names_of (filled_block filled)) seen (seen_in outer new) grown) (one.seen tt) in
    let last = among_more (filled_block second) (seen ++ names_of (filled_block second)) (seen_in outer new ++ names_of (filled_block second))
    (more_back (names_of (filled_block second)) seen (seen_in outer new) grown) (other.seen tt) in
    record {
      named = adds_join places.locals from later old.named filled.named second.named low one.named other.named;
      asked = adds_join places.slots asked_from asked_later old.asked filled.asked second.asked asked_low one.asked other.asked;
      seen = entries_seen outer old new (branch ∷ []) refl (terms_more seen (seen_in outer new) grown (sides_of guard) sides, (first, (last, tt)));
      more = grown;
    }

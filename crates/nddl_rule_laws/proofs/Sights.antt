-- What is seen at a place of a rule stands for what it denotes there.
use Rattle.std.proofs.Common.{◌≡◌, ℕ, ◌<◌, Bool, true, false, not, ◌&&◌, ◌||◌, List, [], ◌∷◌, ◌++◌, ℤ, refl, sym, ◌∙◌, ap, subst, arith}
use Rattle.std.specs.Prelude.{Option, Some, None, All, is_some, slice_get, if◌then◌else◌}
use Rattle.std.specs.List.{AllByRecursion, AllZip}
use Rattle.std.specs.Option.{option_and_then, option_map, option_map_or, option_or}
use Rattle.std.specs.Str.{bytes_eq}
use Rattle.std.proofs.lemmas.Option.{same_Some, none-some}
use Rattle.eu_name.specs.declared.name.Part.{Part}
use Rattle.eu_index.specs.Hiding.{last_meaning, meaning_if}
use Rattle.nddl_ast.specs.declared.declaration.FileDecls.{FileDecls}
use Rattle.nddl_ast.specs.declared.expression.BaseType.{BaseType}
use Rattle.nddl_ast.specs.declared.kind.TextKind.TheVariants as faults
use Rattle.nddl_ast.specs.declared.name.Name.{Name}
use Rattle.nddl_symbols.specs.declared.declared.Declared.{Declared}
use Rattle.nddl_symbols.specs.declared.declared.Sort.{Sort}
use Rattle.nddl_symbols.specs.declared.declared.Sort.TheVariants as sorts
use Rattle.nddl_symbols.specs.declared.scope.Meaning.{Meaning}
use Rattle.nddl_symbols.specs.declared.scope.Meaning.TheVariants as meanings
use Rattle.nddl_symbols.specs.Names.{is_class_sort}
use Rattle.nddl_symbols.specs.Scope.{is_class_at, meaning_of}
use Rattle.nddl_typeexpr.specs.declared.kind.TypeKind.{TypeKind}
use Rattle.nddl_typeexpr.specs.Bases.{base_fault, base_kind, meaning_kind}
use Rattle.nddl_declarations.specs.Classes.{class_meaning_fault}
use Rattle.nddl_resolve.specs.declared.denoted.Denoted.{Denoted}
use Rattle.nddl_resolve.specs.declared.denoted.Denoted.TheVariants as denoted
use Rattle.nddl_resolve.specs.declared.denoted.Seen.{Seen}
use Rattle.nddl_resolve.specs.declared.denoted.TokenSort.{TokenSort}
use Rattle.nddl_resolve.specs.Files.{meaning_denoted, sort_denoted}
use Rattle.nddl_resolve.specs.Paths.{Surroundings, first_denoted, last_seen, named_seen, near_denoted, own_denoted}
use Rattle.nddl_resolve.specs.Predicates.{token_part}
use Rattle.nddl_resolve.specs.Seen.{seen_as}
use Rattle.nddl_rule_check.specs.Blocks.{turn_faults}
use Rattle.nddl_rule_check.specs.Seeing.{seeing_label, seeing_local, seeing_turn, token_alone}
use Rattle.nddl_rule_check.specs.Slots.{is_label, is_name_seen}
use Rattle.nddl_terms.specs.declared.growth.Growth.{Growth}
use Rattle.nddl_terms.specs.declared.stands.Made.{Made}
use Rattle.nddl_terms.specs.declared.stands.Stand.{Stand}
use Rattle.nddl_terms.specs.declared.stands.Stand.TheVariants as stands
use Rattle.nddl_terms.specs.declared.tree.Meaning as tree
use Rattle.nddl_terms.specs.declared.tree.Meaning.TheVariants as reads
use Rattle.nddl_terms.specs.declared.tree.ReadName.{ReadName}
use Rattle.nddl_terms.specs.Lexicon.{class_objects, part_called, pred_class}
use Rattle.nddl_terms.specs.Names.{name_read_at}
use Rattle.nddl_terms.specs.Readings.{Readings}
use Rattle.nddl_terms.specs.Stands.{declared_stand, first_stand, meaning_stand, own_stand, stand_or_nothing}
use Rattle.nddl_rules.specs.declared.sight.Tally.{Tally}
use Rattle.nddl_rules.specs.Reads.{front_meaning, front_read, own_part, read_at, scope_meaning, scope_read, sight_meaning}
use Rattle.nddl_rules.specs.Sight.{Sight, no_sight, with_label, with_rule_local, with_turn}
use Rattle.nddl_lower.specs.Locals.{meaning_shape}
use Rattle.nddl_unroll.specs.Meant.{IsSlotStand}
use Rattle.nddl_laws.specs.Scoping.{AreAlike, IsGround, RuleGround, file_read, none_numbered, part_denoted, sources_in}
use Rattle.nddl_laws.proofs.Scoping.{name_alike, seen_any}
use Rattle.nddl_laws.proofs.Values.{no_fault}
use Rattle.nddl_rule_laws.proofs.Fits.{Fits, ShapeFits, Serves}
use Rattle.nddl_rule_laws.proofs.Kept.{Keeps, Once, declared_last, declared_other}
use Rattle.nddl_rule_laws.proofs.Placing.{IsWithin}

-- ---- lists of what is seen

or_alike : {X Y : Type 0} (R : X → Y → Type 0) (a b : Option X) (x y : Option Y) → AreAlike R a x → AreAlike R b y
    → AreAlike R (option_or a b) (option_or x y)
or_alike R None b None y one other = other
or_alike R None b (Some read) y one other = absurd one
or_alike R (Some meant) b None y one other = absurd one
or_alike R (Some meant) b (Some read) y one other = one

-- the same name, of what is related
abbrev pub IsSame : (Denoted → ℕ → Type 0) → Seen → List ℕ × ℕ → Type 0
IsSame R seen read = (seen.name ≡ read.0) × R seen.denoted read.1

-- the last of a name is found among both
last_alike : (R : Denoted → ℕ → Type 0) (name : List ℕ) (seen : List Seen) (read : List (List ℕ × ℕ)) → AllZip (IsSame R) seen read
    → AreAlike R (last_seen name seen) (last_meaning name read)
last_alike R name [] [] all = tt
last_alike R name [] (here ∷ read) all = absurd all
last_alike R name (one ∷ seen) [] all = absurd all
last_alike R name (one ∷ seen) (here ∷ read) all =
    let P : List ℕ → Type 0 = λ word.
    AreAlike R (if bytes_eq name one.name then Some one.denoted else None) (if bytes_eq name word then Some here.1 else None) in
    or_alike R (last_seen name seen) (named_seen name one) (last_meaning name read) (meaning_if name here)
    (last_alike R name seen read all.1) (subst P all.0.0 (by (bytes_eq name one.name)))
  where
    by : (b : Bool) → AreAlike R (if b then Some one.denoted else None) (if b then Some here.1 else None)
    by true = all.0.1
    by false = tt

zip_weaker : {X Y : Type 0} (R Q : X → Y → Type 0) (xs : List X) (ys : List Y) → ((x : X) (y : Y) → R x y → Q x y) → AllZip R xs ys → AllZip Q xs ys
zip_weaker R Q [] [] each all = tt
zip_weaker R Q [] (y ∷ ys) each all = absurd all
zip_weaker R Q (x ∷ xs) [] each all = absurd all
zip_weaker R Q (x ∷ xs) (y ∷ ys) each all = (each x y all.0, zip_weaker R Q xs ys each all.1)

zip_last : {X Y : Type 0} (R : X → Y → Type 0) (xs : List X) (ys : List Y) (x : X) (y : Y) → AllZip R xs ys → R x y → AllZip R (xs ++ x ∷ []) (ys ++ y ∷ [])
zip_last R [] [] x y all one = (one, tt)
zip_last R [] (b ∷ ys) x y all one = absurd all
zip_last R (a ∷ xs) [] x y all one = absurd all
zip_last R (a ∷ xs) (b ∷ ys) x y all one = (all.0, zip_last R xs ys x y all.1 one)

pub all_first : {X : Type 0} (P : X → Type 0) (xs ys : List X) → AllByRecursion P (xs ++ ys) → AllByRecursion P xs
all_first P [] ys all = tt
all_first P (x ∷ xs) ys all = (all.0, all_first P xs ys all.1)

pub all_second : {X : Type 0} (P : X → Type 0) (xs ys : List X) → AllByRecursion P (xs ++ ys) → AllByRecursion P ys
all_second P [] ys all = all
all_second P (x ∷ xs) ys all = all_second P xs ys all.1

-- what is asked of all that stands for something is so of the names of the files, and of the parts of the token
pub record Holding (IsHeld : Stand → Type 0) (reading : Readings) : Type 0 where
  pub scope : All IsHeld reading.lexicon.scope
  pub class : (number : ℕ) → IsHeld (stands.Class number)
  pub own : (name : List ℕ) (part : Part) → part_called reading.lexicon reading.pred name ≡ Some part → IsHeld (own_stand reading part)

-- what is read in these names is so read among all names of the rule
abbrev pub InNames : List ReadName → List ReadName → Type 0
InNames names some = AllByRecursion (λ (read : ReadName). name_read_at read.at names ≡ Some read.meaning) some

module _ (IsFor : Meaning → ℕ → Type 0) (IsPredFor : TokenSort → ℕ → Type 0) (IsThing : ℕ → ℤ → Type 0)
    (IsHeld : Stand → Type 0) where
  -- what stands for something fits what it denotes, and has what is asked of all that stands for something
  abbrev pub Suits : Denoted → Stand → Type 0
  Suits meant stand = Fits IsFor IsPredFor IsThing meant stand × IsHeld stand

  -- ---- where a rule is unrolled

  -- What is known where the tree of a rule is unrolled on its ground: the lexicon serves for the files, the token's predicate for
  -- the token, and the names of the files stand for what they denote.
  pub record IsSetting (files : List FileDecls) (ground : RuleGround) (reading : Readings) : Type 0 where
    pub is_ground : IsGround files ground
    pub serves : Serves IsFor IsPredFor IsThing ground.facts reading.lexicon reading.objects
    pub own : IsPredFor ground.token reading.pred
    pub parts : (name : List ℕ) → own_part ground.params name ≡ part_called reading.lexicon reading.pred name
    pub parts_held : (name : List ℕ) (part : Part) → part_called reading.lexicon reading.pred name ≡ Some part → IsHeld (own_stand reading part)
    pub files_fit : (name : List ℕ) (read : tree.Meaning) (meaning : Meaning) (meant : Denoted) → meaning_of ground.facts.names name ≡ Some meaning
        → file_read ground.facts.names ground.scope read ≡ Some meaning
        → meaning_denoted ground.facts meaning ≡ Some meant
        → (stand : Stand) × ((turns : List Made) (growth : Growth) → meaning_stand reading turns growth read ≡ Some stand) × Suits meant stand
    pub own_class : IsFor ground.token.class (pred_class reading.lexicon reading.pred)
    pub bases_mean : (base : BaseType) → base_fault ground.facts.names base ≡ None
        → (kind : TypeKind) × (base_kind ground.facts.names ground.facts.known base ≡ Some kind)
    pub bases_fit : (name : List ℕ) (read : tree.Meaning) (meaning : Meaning) (kind : TypeKind) → meaning_of ground.facts.names name ≡ Some meaning
        → file_read ground.facts.names ground.scope read ≡ Some meaning
        → meaning_kind ground.facts.names ground.facts.known meaning ≡ Some kind
        → ShapeFits IsFor IsPredFor IsThing kind (meaning_shape reading.lexicon (Some read))
    pub things : (number : ℕ) → All (IsThing number) (class_objects reading.lexicon number)

  module _ (files : List FileDecls) (ground : RuleGround) (reading : Readings) (setting : IsSetting files ground reading) where
    -- what the number stands for among what is declared at these places fits
    abbrev pub Stands : ℕ → List ℕ → List Made → Denoted → ℕ → Type 0
    Stands count spots made meant number =
        (number < count) × ((stand : Stand) × (declared_stand spots number made ≡ Some stand) × Suits meant stand)

    -- and is a slot
    abbrev pub StandsAsSlot : ℕ → List ℕ → List Made → Denoted → ℕ → Type 0
    StandsAsSlot count spots made meant number =
        (number < count) × ((stand : Stand) × (declared_stand spots number made ≡ Some stand) × (Suits meant stand × IsSlotStand stand))

    -- what is seen is so, where so many things have a number
    pub record Sees (tally : Tally) (turns : List Made) (growth : Growth) (around : Surroundings) (sight : Sight) : Type 0 where
      pub formals : around.formals ≡ []
      pub token : around.token ≡ Some ground.token
      pub turns_are : AllZip (IsSame (Stands tally.turns reading.places.turns turns)) around.turns sight.turns
      pub locals_are : AllZip (IsSame (Stands tally.locals reading.places.locals growth.named)) around.locals sight.locals
      pub labels_are : AllZip (IsSame (StandsAsSlot tally.slots reading.places.slots growth.asked)) around.labels sight.labels

    pub none_seen : (growth : Growth) (tally : Tally) → Sees tally [] growth (token_alone ground.token) no_sight
    none_seen growth tally = record { formals = refl; token = refl; turns_are = tt; locals_are = tt; labels_are = tt }

    -- ---- names

    -- the name means something, and this is what stands for it
    pub record Means (turns : List Made) (growth : Growth) (meant : Denoted) (found : Option tree.Meaning) : Type 0 where
      pub read : tree.Meaning
      pub is : found ≡ Some read
      pub stand : Stand
      pub stands_so : meaning_stand reading turns growth read ≡ Some stand
      pub fits : Suits meant stand

    abbrev IsMeant : List Made → Growth → Denoted → tree.Meaning → Type 0
    IsMeant turns growth meant read = (stand : Stand) × (meaning_stand reading turns growth read ≡ Some stand) × Suits meant stand

    near_alike : (turns : List Made) (growth : Growth) (ends locals slots : ℕ) (a b c : Option Denoted) (x y z : Option ℕ)
        → AreAlike (Stands ends reading.places.turns turns) a x → AreAlike (Stands locals reading.places.locals growth.named) b y
        → AreAlike (StandsAsSlot slots reading.places.slots growth.asked) c z
        → AreAlike (IsMeant turns growth) (option_or (option_or (option_or None a) b) c)
        (option_or (option_map reads.Turn x) (option_or (option_map reads.Local y) (option_map reads.Slot z)))
    near_alike turns growth ends locals slots (Some meant) b c (Some number) y z one two three = (one.1.0, one.1.1, one.1.2)
    near_alike turns growth ends locals slots (Some meant) b c None y z one two three = absurd one
    near_alike turns growth ends locals slots None b c (Some number) y z one two three = absurd one
    near_alike turns growth ends locals slots None (Some meant) c None (Some number) z one two three = (two.1.0, two.1.1, two.1.2)
    near_alike turns growth ends locals slots None (Some meant) c None None z one two three = absurd two
    near_alike turns growth ends locals slots None None c None (Some number) z one two three = absurd two
    near_alike turns growth ends locals slots None None (Some meant) None None (Some number) one two three = (three.1.0, three.1.1, three.1.2.0)
    near_alike turns growth ends locals slots None None (Some meant) None None None one two three = absurd three
    near_alike turns growth ends locals slots None None None None None (Some number) one two three = absurd three
    near_alike turns growth ends locals slots None None None None None None one two three = tt

    -- a part of the token
    own_fits : (name : List ℕ) → AreAlike (λ meant part. Suits meant (own_stand reading part)) (token_part ground.facts name ground.token) (own_part ground.params name)
    own_fits name =
        by (token_part ground.facts name ground.token) refl
        (name_alike files ground (token_alone ground.token) no_sight none_numbered name setting.is_ground
        (record { formals = refl; own = refl; turns = tt; locals = tt; labels = tt })).own
      where
        none_behind : (o : Option Part) → AreAlike (λ meant part. part_denoted ground.facts ground.token part ≡ Some meant) None o
            → AreAlike (λ meant part. Suits meant (own_stand reading part)) None o
        none_behind None alike = tt
        none_behind (Some part) alike = absurd alike

        by : (o : Option Denoted) → token_part ground.facts name ground.token ≡ o
            → AreAlike (λ meant part. part_denoted ground.facts ground.token part ≡ Some meant) o (own_part ground.params name)
            → AreAlike (λ meant part. Suits meant (own_stand reading part)) o (own_part ground.params name)
        by None here alike = none_behind (own_part ground.params name) alike
        by (Some meant) here alike =
            let it = setting.serves.part ground.token reading.pred name meant setting.own here in
            subst (AreAlike (λ meant part. Suits meant (own_stand reading part)) (Some meant)) (sym (setting.parts name ∙ it.named))
            (subst (λ d. Suits d (own_stand reading it.part)) (sym it.is)
            ((it.is_kind, it.fits, tt), setting.parts_held name it.part it.named))

    -- the name of the files
    pub file_alike : (name : List ℕ) → AreAlike (λ meaning read. file_read ground.facts.names ground.scope read ≡ Some meaning)
        (meaning_of ground.facts.names name) (scope_meaning (sources_in ground).scope name)
    file_alike name =
        (name_alike files ground (token_alone ground.token) no_sight none_numbered name setting.is_ground
        (record { formals = refl; own = refl; turns = tt; locals = tt; labels = tt })).file

    front_means : (name : List ℕ) (turns : List Made) (growth : Growth) (meant : Denoted) (near own : Option Denoted) (file : Option Meaning)
        (sight : Option tree.Meaning) (part : Option Part) (scope : Option tree.Meaning) → meaning_of ground.facts.names name ≡ file → AreAlike (IsMeant turns growth) near sight
        → AreAlike (λ meant part. Suits meant (own_stand reading part)) own part
        → AreAlike (λ meaning read. file_read ground.facts.names ground.scope read ≡ Some meaning) file scope
        → option_or near (option_or own (option_and_then (meaning_denoted ground.facts) file)) ≡ Some meant
        → Means turns growth meant (option_or sight (option_or (option_map reads.Here part) scope))
    front_means name turns growth meant (Some found) own file (Some read) part scope told one two three is =
        record { read = read; is = refl; stand = one.0; stands_so = one.1; fits = subst (λ d. Suits d one.0) (same_Some found meant is) one.2 }
    front_means name turns growth meant (Some found) own file None part scope told one two three is = absurd one
    front_means name turns growth meant None own file (Some read) part scope told one two three is = absurd one
    front_means name turns growth meant None (Some found) file None (Some part) scope told one two three is =
        record {
          read = reads.Here part;
          is = refl;
          stand = own_stand reading part;
          stands_so = refl;
          fits = subst (λ d. Suits d (own_stand reading part)) (same_Some found meant is) two;
        }
    front_means name turns growth meant None (Some found) file None None scope told one two three is = absurd two
    front_means name turns growth meant None None file None (Some part) scope told one two three is = absurd two
    front_means name turns growth meant None None (Some meaning) None None (Some read) told one two three is =
        let it = setting.files_fit name read meaning meant told three is in
        record { read = read; is = refl; stand = it.0; stands_so = it.1 turns growth; fits = it.2 }
    front_means name turns growth meant None None (Some meaning) None None None told one two three is = absurd three
    front_means name turns growth meant None None None None None scope told one two three is = absurd (none-some meant is)

    -- ---- names that are read

    stand_is : (turns : List Made) (growth : Growth) (at : ℕ) (read : tree.Meaning) (stand : Stand) → name_read_at at reading.names ≡ Some read
        → meaning_stand reading turns growth read ≡ Some stand → first_stand reading turns growth at ≡ stand
    stand_is turns growth at read stand there so =
        ap (λ o. stand_or_nothing (option_and_then (meaning_stand reading turns growth) o)) there ∙ ap stand_or_nothing so

    -- ---- classes

    pub record ClassFits (turns : List Made) (growth : Growth) (class : Name) : Type 0 where
      pub meaning : Meaning
      pub means : meaning_of ground.facts.names class.text ≡ Some meaning
      pub right : class_meaning_fault ground.facts.names (Some meaning) ≡ None
      pub number : ℕ
      pub stands_so : first_stand reading turns growth class.at ≡ stands.Class number
      pub fits : IsFor meaning number

    class_denoted : (meaning : Meaning) → class_meaning_fault ground.facts.names (Some meaning) ≡ None
        → meaning_denoted ground.facts meaning ≡ Some (denoted.Class meaning)
    class_denoted (meanings.BuiltIn number) none = refl
    class_denoted (meanings.Entry entry) none = by (slice_get ground.facts.names entry) refl
      where
        sort_is : (declared : Declared) (sort : Sort) → is_class_sort sort ≡ true
            → sort_denoted ground.facts entry declared sort ≡ Some (denoted.Class (meanings.Entry entry))
        sort_is declared sorts.Forward class = refl
        sort_is declared sorts.Body class = refl
        sort_is declared (sorts.Enum number) class = absurd (cc)
        sort_is declared (sorts.Member of place) class = absurd (cc)
        sort_is declared sorts.Typedef class = absurd (cc)
        sort_is declared sorts.Global class = absurd (cc)
        sort_is declared sorts.Object class = absurd (cc)
        sort_is declared sorts.Root class = absurd (cc)
        sort_is declared sorts.Config class = absurd (cc)

        class_at : (b : Bool) → (if b then None else Some faults.WrongType) ≡ None → b ≡ true
        class_at true one = refl
        class_at false one = absurd (none-some faults.WrongType (sym one))

        by : (o : Option Declared) → slice_get ground.facts.names entry ≡ o
            → option_and_then (λ (declared : Declared). sort_denoted ground.facts entry declared declared.sort) o ≡ Some (denoted.Class (meanings.Entry entry))
        by None there =
            let e : is_class_at ground.facts.names entry ≡ false = ap (λ o. option_map_or (λ (other : Declared). is_class_sort other.sort) o false) there in
            let f : true ≡ false = sym (class_at (is_class_at ground.facts.names entry) none) ∙ e in absurd (cc)
        by (Some declared) there =
            sort_is declared declared.sort
            (sym (ap (λ o. option_map_or (λ (other : Declared). is_class_sort other.sort) o false) there)
            ∙ class_at (is_class_at ground.facts.names entry) none)

    pub class_fits : (turns : List Made) (growth : Growth) (decl : ℕ) (class : Name) → InNames reading.names (scope_read (sources_in ground).scope class) → turn_faults ground.facts decl class ≡ []
        → ClassFits turns growth class
    class_fits turns growth decl class names none =
        by (meaning_of ground.facts.names class.text) refl (scope_meaning (sources_in ground).scope class.text) refl (file_alike class.text)
        (no_fault decl class.at (class_meaning_fault ground.facts.names (meaning_of ground.facts.names class.text)) none)
      where
        made : (meaning : Meaning) (read : tree.Meaning) → meaning_of ground.facts.names class.text ≡ Some meaning
            → scope_meaning (sources_in ground).scope class.text ≡ Some read → class_meaning_fault ground.facts.names (Some meaning) ≡ None
            → (stand : Stand) → meaning_stand reading turns growth read ≡ Some stand → Suits (denoted.Class meaning) stand → ClassFits turns growth class
        made meaning read means there right (stands.Class number) so fits =
            let one = subst (λ o. InNames reading.names (read_at class.at o)) there names in
            record { meaning = meaning; means = means; right = right; number = number; stands_so = stand_is turns growth class.at read (stands.Class number) one.0 so; fits = fits.0 }
        made meaning read means there right (stands.Value term own number) so fits = absurd fits.0
        made meaning read means there right (stands.Slot number pred) so fits = absurd fits.0
        made meaning read means there right (stands.Root number pred) so fits = absurd fits.0
        made meaning read means there right stands.Nothing so fits = absurd fits.0

        by : (o : Option Meaning) → meaning_of ground.facts.names class.text ≡ o → (q : Option tree.Meaning) → scope_meaning (sources_in ground).scope class.text ≡ q
            → AreAlike (λ meaning read. file_read ground.facts.names ground.scope read ≡ Some meaning) o q
            → class_meaning_fault ground.facts.names o ≡ None → ClassFits turns growth class
        by None means q there alike right = absurd (none-some faults.Unknown (sym right))
        by (Some meaning) means None there alike right = absurd alike
        by (Some meaning) means (Some read) there alike right =
            let it = setting.files_fit class.text read meaning (denoted.Class meaning) means alike (class_denoted meaning right) in
            made meaning read means there right it.0 (it.1 turns growth) it.2

    module _ (tally : Tally) (turns : List Made) (growth : Growth) (around : Surroundings) (sight : Sight) (sees : Sees tally turns growth around sight) where
      turn_alike : (name : List ℕ) → AreAlike (Stands tally.turns reading.places.turns turns) (last_seen name around.turns) (last_meaning name sight.turns)
      turn_alike name = last_alike (Stands tally.turns reading.places.turns turns) name around.turns sight.turns sees.turns_are

      local_alike : (name : List ℕ)
          → AreAlike (Stands tally.locals reading.places.locals growth.named) (last_seen name around.locals) (last_meaning name sight.locals)
      local_alike name = last_alike (Stands tally.locals reading.places.locals growth.named) name around.locals sight.locals sees.locals_are

      label_alike : (name : List ℕ)
          → AreAlike (StandsAsSlot tally.slots reading.places.slots growth.asked) (last_seen name around.labels) (last_meaning name sight.labels)
      label_alike name = last_alike (StandsAsSlot tally.slots reading.places.slots growth.asked) name around.labels sight.labels sees.labels_are

      -- what a name denotes at the front of a path is what stands for it
      pub front_fits : (name : List ℕ) (meant : Denoted) → first_denoted ground.facts around name ≡ Some meant
          → Means turns growth meant (front_meaning (sources_in ground) sight name)
      front_fits name meant is =
          let N : List Seen → Type 0 = λ formals.
          AreAlike (IsMeant turns growth)
          (option_or (option_or (option_or (last_seen name formals) (last_seen name around.turns)) (last_seen name around.locals)) (last_seen name around.labels))
          (sight_meaning sight name) in
          let near : AreAlike (IsMeant turns growth) (near_denoted around name) (sight_meaning sight name) =
          subst N (sym sees.formals)
          (near_alike turns growth tally.turns tally.locals tally.slots (last_seen name around.turns) (last_seen name around.locals) (last_seen name around.labels)
          (last_meaning name sight.turns) (last_meaning name sight.locals) (last_meaning name sight.labels)
          (turn_alike name) (local_alike name) (label_alike name)) in
          let own_is : own_denoted ground.facts around name ≡ token_part ground.facts name ground.token = ap (option_and_then (token_part ground.facts name)) sees.token in
          let so = sym (ap (λ o. option_or (near_denoted around name) (option_or o (option_and_then (meaning_denoted ground.facts) (meaning_of ground.facts.names name)))) own_is) ∙ is in
          front_means name turns growth meant (near_denoted around name) (token_part ground.facts name ground.token) (meaning_of ground.facts.names name)
          (sight_meaning sight name) (own_part ground.params name) (scope_meaning (sources_in ground).scope name) refl near (own_fits name) (file_alike name) so

      -- ---- names that are read

      -- what stands for the first name of a path fits what it denotes
      pub name_fits : (name : Name) (meant : Denoted) → InNames reading.names (front_read (sources_in ground) sight name)
          → first_denoted ground.facts around name.text ≡ Some meant → Suits meant (first_stand reading turns growth name.at)
      name_fits name meant names is =
          let it = front_fits name.text meant is in
          let one = subst (λ o. InNames reading.names (read_at name.at o)) it.is names in
          subst (Suits meant) (sym (stand_is turns growth name.at it.read it.stand one.0 it.stands_so)) it.fits

      -- ---- labels

      label_means : (name : List ℕ) (a b c : Option Denoted) (x y z : Option ℕ)
          → AreAlike (Stands tally.turns reading.places.turns turns) a x → AreAlike (Stands tally.locals reading.places.locals growth.named) b y
          → AreAlike (StandsAsSlot tally.slots reading.places.slots growth.asked) c z → (not (false || (is_some a || is_some b)) && is_some c) ≡ true
          → (number : ℕ) × (option_or (option_map reads.Turn x) (option_or (option_map reads.Local y) (option_map reads.Slot z)) ≡ Some (reads.Slot number))
          × ((stand : Stand) × (declared_stand reading.places.slots number growth.asked ≡ Some stand) × IsSlotStand stand)
      label_means name (Some meant) b c x y z one two three is = absurd (cc)
      label_means name None (Some meant) c x y z one two three is = absurd (cc)
      label_means name None None None x y z one two three is = absurd (cc)
      label_means name None None (Some meant) (Some number) y z one two three is = absurd one
      label_means name None None (Some meant) None (Some number) z one two three is = absurd two
      label_means name None None (Some meant) None None None one two three is = absurd three
      label_means name None None (Some meant) None None (Some number) one two three is = (number, refl, (three.1.0, three.1.1, three.1.2.1))

      -- a label stands for a slot
      pub label_fits : (name : Name) → InNames reading.names (front_read (sources_in ground) sight name) → is_label around name.text ≡ true
          → IsSlotStand (first_stand reading turns growth name.at)
      label_fits name names is =
          let told = sym (λ i. not (is_name_seen name.text (sees.formals i) || (seen_any name.text around.turns i || seen_any name.text around.locals i)) && seen_any name.text around.labels i) ∙ is in
          let it = label_means name.text (last_seen name.text around.turns) (last_seen name.text around.locals) (last_seen name.text around.labels)
          (last_meaning name.text sight.turns) (last_meaning name.text sight.locals) (last_meaning name.text sight.labels)
          (turn_alike name.text) (local_alike name.text) (label_alike name.text) told in
          let front : front_meaning (sources_in ground) sight name.text ≡ Some (reads.Slot it.0) =
          ap (λ o. option_or o (option_or (option_map reads.Here (own_part ground.params name.text)) (scope_meaning (sources_in ground).scope name.text))) it.1 in
          let one = subst (λ o. InNames reading.names (read_at name.at o)) front names in
          subst IsSlotStand (sym (stand_is turns growth name.at (reads.Slot it.0) it.2.0 one.0 it.2.1)) it.2.2

    -- ---- what is seen further

    -- what the rule has further on leaves what is seen
    pub sees_kept : (once_locals : Once reading.places.locals) (once_slots : Once reading.places.slots) (few many : Tally) (turns : List Made) (old new : Growth)
        (around : Surroundings) (sight : Sight) → IsWithin few many → Keeps reading.places once_locals once_slots few old new → Sees few turns old around sight
        → Sees many turns new around sight
    sees_kept once_locals once_slots few many turns old new around sight within keeps sees = record {
      formals = sees.formals;
      token = sees.token;
      turns_are = zip_weaker (IsSame (Stands few.turns reading.places.turns turns)) (IsSame (Stands many.turns reading.places.turns turns)) around.turns sight.turns
          (λ seen read one. (one.0, (omega (arith, one.1.0, within.turns), one.1.1))) sees.turns_are;
      locals_are = zip_weaker (IsSame (Stands few.locals reading.places.locals old.named)) (IsSame (Stands many.locals reading.places.locals new.named)) around.locals sight.locals
          (λ seen read one. (one.0, (omega (arith, one.1.0, within.locals), (one.1.1.0, keeps.named read.1 one.1.0 ∙ one.1.1.1, one.1.1.2)))) sees.locals_are;
      labels_are = zip_weaker (IsSame (StandsAsSlot few.slots reading.places.slots old.asked)) (IsSame (StandsAsSlot many.slots reading.places.slots new.asked)) around.labels sight.labels
          (λ seen read one. (one.0, (omega (arith, one.1.0, within.slots), (one.1.1.0, keeps.asked read.1 one.1.0 ∙ one.1.1.1, one.1.1.2)))) sees.labels_are;
    }

    -- a local more is seen
    pub sees_local : (tally next : Tally) (turns : List Made) (growth : Growth) (around : Surroundings) (sight : Sight) (name : Name) (meant : Denoted) (stand : Stand)
        → tally.locals < next.locals → Sees next turns growth around sight → declared_stand reading.places.locals tally.locals growth.named ≡ Some stand → Suits meant stand
        → Sees next turns growth (seeing_local around name meant) (with_rule_local sight name.text tally.locals)
    sees_local tally next turns growth around sight name meant stand less sees there fits = record {
      formals = sees.formals;
      token = sees.token;
      turns_are = sees.turns_are;
      locals_are = zip_last (IsSame (Stands next.locals reading.places.locals growth.named)) around.locals sight.locals (seen_as name.text meant) (name.text, tally.locals)
          sees.locals_are (refl, (less, (stand, there, fits)));
      labels_are = sees.labels_are;
    }

    -- a label is
    pub sees_label : (tally next : Tally) (turns : List Made) (growth : Growth) (around : Surroundings) (sight : Sight) (name : Name) (meant : Denoted) (stand : Stand)
        → tally.slots < next.slots → Sees next turns growth around sight → declared_stand reading.places.slots tally.slots growth.asked ≡ Some stand
        → Suits meant stand → IsSlotStand stand → Sees next turns growth (seeing_label around name meant) (with_label sight name.text tally.slots)
    sees_label tally next turns growth around sight name meant stand less sees there fits slot = record {
      formals = sees.formals;
      token = sees.token;
      turns_are = sees.turns_are;
      locals_are = sees.locals_are;
      labels_are = zip_last (IsSame (StandsAsSlot next.slots reading.places.slots growth.asked)) around.labels sight.labels (seen_as name.text meant) (name.text, tally.slots)
          sees.labels_are (refl, (less, (stand, there, (fits, slot))));
    }

    -- and a turn
    pub sees_turn : (once_turns : Once reading.places.turns) (tally next : Tally) (turns : List Made) (growth : Growth) (around : Surroundings) (sight : Sight) (name : Name)
        (meant : Denoted) (stand : Stand) → IsWithin tally next → tally.turns < next.turns → Sees tally turns growth around sight
        → slice_get reading.places.turns tally.turns ≡ Some name.at → Suits meant stand
        → Sees next (turns ++ record { at = name.at; stand = stand } ∷ []) growth (seeing_turn around name meant) (with_turn sight name.text tally.turns)
    sees_turn once_turns tally next turns growth around sight name meant stand within less sees there fits =
        let more : List Made = turns ++ record { at = name.at; stand = stand } ∷ [] in
        record {
          formals = sees.formals;
          token = sees.token;
          turns_are = zip_last (IsSame (Stands next.turns reading.places.turns more)) around.turns sight.turns (seen_as name.text meant) (name.text, tally.turns)
              (zip_weaker (IsSame (Stands tally.turns reading.places.turns turns)) (IsSame (Stands next.turns reading.places.turns more)) around.turns sight.turns
              (λ seen read one. (
                one.0,
                (
                  omega (arith, one.1.0, within.turns),
                  (
                    one.1.1.0,
                    declared_other reading.places.turns read.1 tally.turns name.at turns stand once_turns (λ same. omega (arith, one.1.0, same)) there ∙ one.1.1.1,
                    one.1.1.2,
                  ),
                ),
              )) sees.turns_are)
              (refl, (less, (stand, declared_last reading.places.turns tally.turns name.at turns stand there, fits)));
          locals_are = zip_weaker (IsSame (Stands tally.locals reading.places.locals growth.named)) (IsSame (Stands next.locals reading.places.locals growth.named)) around.locals sight.locals
              (λ seen read one. (one.0, (omega (arith, one.1.0, within.locals), one.1.1))) sees.locals_are;
          labels_are = zip_weaker (IsSame (StandsAsSlot tally.slots reading.places.slots growth.asked)) (IsSame (StandsAsSlot next.slots reading.places.slots growth.asked)) around.labels sight.labels
              (λ seen read one. (one.0, (omega (arith, one.1.0, within.slots), one.1.1))) sees.labels_are;
        }

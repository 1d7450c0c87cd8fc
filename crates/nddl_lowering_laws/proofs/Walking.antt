-- What stands in a rule that is unrolled names what is seen there: one statement after another.
use Rattle.std.proofs.Common.{◌≡◌, ℕ, suc, ◌-◌, ◌==◌, ◌≤◌, List, [], ◌∷◌, ◌++◌, length, map, take, refl, sym, ◌∙◌, ap, subst, arith}
use Rattle.std.specs.Prelude.{ℤ, pos, Bool, Option, Some, None, true, false, All, Contains, IfSome, IsSome, is_some, slice_get, if◌then◌else◌}
use Rattle.std.specs.List.{AllByRecursion}
use Rattle.std.specs.Option.{option_and_then, option_map, option_map_or, option_or}
use Rattle.std.proofs.lemmas.List.{length-map}
use Rattle.domain_core.specs.declared.kind.Kind.{Kind}
use Rattle.domain_core.specs.declared.kind.Kind.TheVariants.{Eq, MulEq, TestEq, TestLeq}
use Rattle.eu_index.specs.Hiding.{last_meaning}
use Rattle.eu_index.specs.Index.{Noted, noted_number}
use Rattle.eu_name.specs.declared.name.Part.{Part}
use Rattle.eu_name.specs.declared.name.Part.TheVariants as parts
use Rattle.model_core.specs.declared.item.Item.TheVariants.{Constraint, Relation}
use Rattle.model_core.specs.declared.item.Rel.{Rel}
use Rattle.model_core.specs.declared.item.Term.{Term}
use Rattle.model_core.specs.declared.item.Term.TheVariants as terms
use Rattle.model_core.specs.declared.rule.Entry.TheVariants as entries
use Rattle.model_core.specs.declared.variable.ValueKind.{ValueKind}
use Rattle.model_core.specs.declared.variable.ValueKind.TheVariants as value_kinds
use Rattle.model_core.specs.Block.{plain_entries}
use Rattle.model_core.proofs.Items.{item_all}
use Rattle.model_rules.specs.declared.names.Name.TheVariants as names
use Rattle.model_rules.specs.Nested.{IsTermAmong}
use Rattle.nddl_ast.specs.declared.expression.Constant.{Constant}
use Rattle.nddl_ast.specs.declared.expression.Constant.TheVariants as constants
use Rattle.nddl_ast.specs.declared.expression.Expr.{Expr}
use Rattle.nddl_ast.specs.declared.expression.Expr.TheVariants as exprs
use Rattle.nddl_ast.specs.declared.expression.Init.{Init}
use Rattle.nddl_ast.specs.declared.expression.Init.TheVariants as inits
use Rattle.nddl_ast.specs.declared.name.Name.{Name}
use Rattle.nddl_ast.specs.declared.name.Path.{Path}
use Rattle.nddl_ast.specs.declared.statement.Ask.{Ask}
use Rattle.nddl_ast.specs.declared.statement.Call.{Call}
use Rattle.nddl_ast.specs.declared.statement.Condition.{Condition}
use Rattle.nddl_ast.specs.declared.statement.Condition.TheVariants as conditions
use Rattle.nddl_ast.specs.Tree.{Statements, Nothing, Declares, Calls, Asks, Tests, Chooses, Repeats}
use Rattle.nddl_rule_check.specs.Constraints.{constraint_named, relation_named, takes}
use Rattle.nddl_symbols.specs.Scope.{builtin_number}
use Rattle.nddl_rules.specs.declared.sight.Tally.{Tally}
use Rattle.nddl_rules.specs.Blocks.{call_tally, tallied}
use Rattle.nddl_rules.specs.Reads.{NameSources, front_meaning, own_part, scope_meaning, sight_meaning}
use Rattle.nddl_rules.specs.Sight.{Sight, with_label, with_rule_local, with_turn}
use Rattle.nddl_rules.specs.Tally.{local_more, slot_more, turn_more}
use Rattle.nddl_terms.specs.declared.growth.Growth.{Growth}
use Rattle.nddl_terms.specs.declared.lexicon.Attribute.{Attribute}
use Rattle.nddl_terms.specs.declared.lexicon.Lexicon.{Lexicon}
use Rattle.nddl_terms.specs.declared.lexicon.Shape.{Shape}
use Rattle.nddl_terms.specs.declared.stands.Made.{Made}
use Rattle.nddl_terms.specs.declared.stands.Stand.{Stand}
use Rattle.nddl_terms.specs.declared.stands.Stand.TheVariants as stands
use Rattle.nddl_terms.specs.declared.tree.Meaning.{Meaning}
use Rattle.nddl_terms.specs.declared.tree.Meaning.TheVariants as meanings
use Rattle.nddl_terms.specs.Growth.{access, unnamed, with_access, with_last_entry, with_next_local, with_slot}
use Rattle.nddl_terms.specs.Lexicon.{attribute_class, attribute_kind, attribute_number, class_objects, part_called, pred_class, pred_named, shape_fields}
use Rattle.nddl_terms.specs.Paths.{Reached, known_value, next_stand, numbered_field, part_stand, reached, rest_stand}
use Rattle.nddl_terms.specs.Readings.{Readings}
use Rattle.nddl_terms.specs.Stands.{declared_stand, file_stand, first_stand, latest_stand, meaning_stand, stand_if_at, stand_or_nothing}
use Rattle.nddl_lower.specs.Arguments.{AllReached, Tested, argument, condition_guard, constant_stand, constraint_items, given_arguments, with_constraint, with_items}
use Rattle.nddl_lower.specs.Compared.{compared_term, compared_terms, constraint_terms, decimal_term, has_decimal, stand_term}
use Rattle.nddl_lower.specs.Calls.{with_ask, with_call, with_constraint_named, with_related, with_relation_to}
use Rattle.nddl_lower.specs.Locals.{next_local, type_shape, with_begun, with_declared, with_text_local}
use Rattle.nddl_lower.specs.Slots.{AskedSlot, asked_labelled, asked_nothing, asked_of_owner, asked_path, object_items, pred_slot, wanted_of, with_asked, with_asked_at, with_relation, with_wanted_token}
use Rattle.nddl_unroll.specs.Blocks.{all_turns, back_in, filled_block, in_block, stand_turns, turn_of, turn_stands, unrolled}
use Rattle.nddl_unroll.specs.Meant.{AreMeant, InEachTurn}
use Rattle.nddl_unroll.specs.Places.{asked_place, call_place, place_if_more}
use Rattle.nddl_unroll.proofs.Extras.{EachMade, IsKnownStand, each_more}
use Rattle.nddl_lowering_laws.specs.Scoped.{AreApart, AreExprsRead, AreRead, HasFineCalls, IsAskedRead, IsConditionRead, IsExprRead, IsFirstRead, IsInitRead, local_places, slot_places}
use Rattle.nddl_lowering_laws.specs.Seen.{IsOfFiles, sides_of}
use Rattle.nddl_lowering_laws.proofs.Placing.{Placed, call_counts, call_locals, placed_first, placed_left, placed_right, tallied_locals, tallied_slots}
use Rattle.nddl_lowering_laws.proofs.Visible.{EachAmong, Goes, HasMore, IsFoundAmong, IsStandAmong, IsViewed, OnFound, Reads, SeenNames, TermsAmong, Views, added_seen, adds_one, adds_same, constraint_among, entries_seen, found_more, found_stand, goes_branch, goes_join, goes_reading, last_on, local_seen, names_more, number_more, reads_item, reads_items, reads_join, reads_local, reads_same, seen_in, stand_last, stand_more, term_more, two_among, views_beside, views_inside, views_later}

-- ---- what names stand for

known_among : (seen : SeenNames) (stand : Stand) → IsKnownStand stand → IsStandAmong seen stand
known_among seen (stands.Value (terms.Lit value) own class) is = tt
known_among seen stand is = absurd is

files_among : (seen : SeenNames) (stand : Stand) → IsOfFiles stand → IsStandAmong seen stand
files_among seen (stands.Value (terms.Slot number part) own class) is = absurd is
files_among seen (stands.Value (terms.Local number) own class) is = absurd is
files_among seen (stands.Value (terms.Lit value) own class) is = tt
files_among seen (stands.Value (terms.Here part) own class) is = tt
files_among seen (stands.Value (terms.Global number) own class) is = tt
files_among seen (stands.Value (terms.Root number part) own class) is = tt
files_among seen (stands.Slot number pred) is = absurd is
files_among seen (stands.Root number pred) is = tt
files_among seen (stands.Class class) is = tt
files_among seen stands.Nothing is = tt

either_among : (seen : SeenNames) (one other : Option Stand) → IsFoundAmong seen one → IsFoundAmong seen other → IsFoundAmong seen (option_or one other)
either_among seen None other first second = second
either_among seen (Some stand) other first second = first

-- whatever was made of known things is seen anywhere
latest_known : (seen : SeenNames) (at : ℕ) (some : List Made) → EachMade IsKnownStand some → IsFoundAmong seen (latest_stand at some)
latest_known seen at [] each = tt
latest_known seen at (made ∷ more) each =
    either_among seen (latest_stand at more) (stand_if_at at made) (latest_known seen at more each.1) (by (made.at == at))
  where
    by : (so : Bool) → IsFoundAmong seen (if so then Some made.stand else None)
    by true = known_among seen made.stand each.0
    by false = tt

placed_known : (seen : SeenNames) (place : Option ℕ) (some : List Made) → EachMade IsKnownStand some
    → IsFoundAmong seen (option_and_then (λ at. latest_stand at some) place)
placed_known seen None some each = tt
placed_known seen (Some at) some each = latest_known seen at some each

file_among : (seen : SeenNames) (scope : List Stand) → All IsOfFiles scope → (place : ℕ) (found : Option Stand) → slice_get scope place ≡ found
    → IsFoundAmong seen found
file_among seen scope all place None is = tt
file_among seen scope all place (Some stand) is = files_among seen stand (item_all IsOfFiles scope place stand all is)

-- each of them is known
abbrev EachKnown : List Stand → Type 0
EachKnown [] = Unit {0}
EachKnown (stand ∷ more) = IsKnownStand stand × EachKnown more

class_known : (class : ℕ) (objects : List ℤ) → EachKnown (turn_stands class objects)
class_known class [] = tt
class_known class (object ∷ more) = (tt, class_known class more)

stand_known : (lexicon : Lexicon) (stand : Stand) → EachKnown (stand_turns lexicon stand)
stand_known lexicon (stands.Class class) = class_known class (class_objects lexicon class)
stand_known lexicon stand = tt

module _ (reading : Readings) (files : All IsOfFiles reading.lexicon.scope) where
  -- ---- paths

  -- the names lead on: what is read names what is seen, and so does what they lead to
  record LeadsOn (outer : SeenNames) (growth : Growth) (next : Reached) : Type 0 where
    reads : Reads outer growth next.growth
    among : IsStandAmong (seen_in outer next.growth) next.stand

  nowhere : (outer : SeenNames) (growth : Growth) → LeadsOn outer growth (reached stands.Nothing growth)
  nowhere outer growth = record { reads = reads_same outer growth; among = tt }

  attribute_leads : (outer : SeenNames) (object : Term) (number : ℕ) (growth : Growth) (found : Option Attribute) → IsTermAmong (seen_in outer growth) object
      → LeadsOn outer growth (option_map_or (λ attribute. reached (stands.Value (terms.Local (length growth.locals)) attribute.shape.kind attribute.shape.class)
      (with_access object number attribute.shape growth)) found (reached stands.Nothing growth))
  attribute_leads outer object number growth None among = nowhere outer growth
  attribute_leads outer object number growth (Some attribute) among =
      let local = length growth.locals in
      let declared = with_next_local (unnamed attribute.shape) growth in
      let first = reads_local outer attribute.shape growth in
      let here = local_seen outer attribute.shape growth in
      let object_seen = term_more (seen_in outer growth) (seen_in outer declared) first.more object among in
      let second = reads_item outer (access object number growth) declared
      (refl, two_among (seen_in outer declared) object (terms.Local local) object_seen here) in
      record {
        reads = reads_join outer growth declared (with_access object number attribute.shape growth) first second;
        among = second.more (names.Local local) here;
      }

  known_leads : (outer : SeenNames) (growth : Growth) (found : Option ℤ) (kind : ValueKind) (class : ℕ)
      → LeadsOn outer growth (reached (option_map_or (λ content. stands.Value (terms.Lit content) kind class) found stands.Nothing) growth)
  known_leads outer growth None kind class = nowhere outer growth
  known_leads outer growth (Some content) kind class = record { reads = reads_same outer growth; among = tt }

  numbered_leads : (outer : SeenNames) (object : Term) (fields : List Attribute) (number : ℕ) (growth : Growth) → IsTermAmong (seen_in outer growth) object
      → LeadsOn outer growth (numbered_field reading.objects object fields number growth)
  numbered_leads outer (terms.Lit value) fields number growth among =
      known_leads outer growth (known_value reading.objects value number) (attribute_kind fields number) (attribute_class fields number)
  numbered_leads outer object fields number growth among = attribute_leads outer object number growth (slice_get fields number) among

  field_leads : (outer : SeenNames) (object : Term) (fields : List Attribute) (growth : Growth) (found : Option ℕ) → IsTermAmong (seen_in outer growth) object
      → LeadsOn outer growth (option_map_or (λ number. numbered_field reading.objects object fields number growth) found (reached stands.Nothing growth))
  field_leads outer object fields growth None among = nowhere outer growth
  field_leads outer object fields growth (Some number) among = numbered_leads outer object fields number growth among

  slot_leads : (outer : SeenNames) (number pred : ℕ) (growth : Growth) (found : Option Part) → IsStandAmong (seen_in outer growth) (stands.Slot number pred)
      → LeadsOn outer growth (reached (option_map_or (part_stand reading (stands.Slot number pred)) found stands.Nothing) growth)
  slot_leads outer number pred growth None among = nowhere outer growth
  slot_leads outer number pred growth (Some part) among = record { reads = reads_same outer growth; among = among }

  root_leads : (outer : SeenNames) (number pred : ℕ) (growth : Growth) (found : Option Part)
      → LeadsOn outer growth (reached (option_map_or (part_stand reading (stands.Root number pred)) found stands.Nothing) growth)
  root_leads outer number pred growth None = nowhere outer growth
  root_leads outer number pred growth (Some part) = record { reads = reads_same outer growth; among = tt }

  next_leads : (outer : SeenNames) (here : Stand) (name : Name) (growth : Growth) → IsStandAmong (seen_in outer growth) here
      → LeadsOn outer growth (next_stand reading here name growth)
  next_leads outer (stands.Value term own class) name growth among =
      field_leads outer term (shape_fields reading.lexicon class) growth (attribute_number name.text (shape_fields reading.lexicon class)) among
  next_leads outer (stands.Slot number pred) name growth among =
      slot_leads outer number pred growth (part_called reading.lexicon pred name.text) among
  next_leads outer (stands.Root number pred) name growth among = root_leads outer number pred growth (part_called reading.lexicon pred name.text)
  next_leads outer (stands.Class class) name growth among = nowhere outer growth
  next_leads outer stands.Nothing name growth among = nowhere outer growth

  rest_leads : (outer : SeenNames) (here : Stand) (names : List Name) (growth : Growth) → IsStandAmong (seen_in outer growth) here
      → LeadsOn outer growth (rest_stand reading here names growth)
  rest_leads outer here [] growth among = record { reads = reads_same outer growth; among = among }
  rest_leads outer here (name ∷ more) growth among =
      let next = next_stand reading here name growth in
      let first = next_leads outer here name growth among in
      let rest = rest_leads outer next.stand more next.growth first.among in
      record {
        reads = reads_join outer growth next.growth (rest_stand reading next.stand more next.growth).growth first.reads rest.reads;
        among = rest.among;
      }

  -- ---- first names

  module _ (outer : SeenNames) (turns : List Made) (known : EachMade IsKnownStand turns) (growth : Growth) (locals labels : Noted)
      (before asked_before : ℕ) (views : Views reading.places outer growth locals labels before asked_before) where
    -- what stands for what this means is seen
    abbrev IsMeantAmong : Option Meaning → Type 0
    IsMeantAmong found = IsStandAmong (seen_in outer growth) (stand_or_nothing (option_and_then (meaning_stand reading turns growth) found))

    meant_or : (one other : Option Meaning) → IsMeantAmong one → IsMeantAmong other → IsMeantAmong (option_or one other)
    meant_or None other first second = second
    meant_or (Some meaning) other first second = first

    turn_among : (found : Option ℕ) → IsMeantAmong (option_map meanings.Turn found)
    turn_among None = tt
    turn_among (Some number) =
        found_stand (seen_in outer growth) (declared_stand reading.places.turns number turns)
        (placed_known (seen_in outer growth) (slice_get reading.places.turns number) turns known)

    local_among : (found : Option ℕ) → OnFound (IsViewed (seen_in outer growth) reading.places.locals before growth.named) found
        → IsMeantAmong (option_map meanings.Local found)
    local_among None viewed = tt
    local_among (Some number) viewed = found_stand (seen_in outer growth) (declared_stand reading.places.locals number growth.named) viewed.1

    label_among : (found : Option ℕ) → OnFound (IsViewed (seen_in outer growth) reading.places.slots asked_before growth.asked) found
        → IsMeantAmong (option_map meanings.Slot found)
    label_among None viewed = tt
    label_among (Some number) viewed = found_stand (seen_in outer growth) (declared_stand reading.places.slots number growth.asked) viewed.1

    here_among : (found : Option Part) → IsMeantAmong (option_map meanings.Here found)
    here_among None = tt
    here_among (Some part) = tt

    builtin_among : (found : Option ℕ) → IsMeantAmong (option_map meanings.BuiltIn found)
    builtin_among None = tt
    builtin_among (Some class) = tt

    scope_among : (found : Option ℕ) → IsMeantAmong (option_map meanings.Scope found)
    scope_among None = tt
    scope_among (Some place) =
        found_stand (seen_in outer growth) (file_stand reading.lexicon place)
        (file_among (seen_in outer growth) reading.lexicon.scope files place (slice_get reading.lexicon.scope place) refl)

    -- what stands for a name at the front of a path is seen
    front_among : (sources : NameSources) (turn_names : Noted) (text : List ℕ)
        → IsMeantAmong (front_meaning sources (record { turns = turn_names; locals = locals; labels = labels }) text)
    front_among sources turn_names text =
        let sight : Sight = record { turns = turn_names; locals = locals; labels = labels } in
        let turned = option_map meanings.Turn (last_meaning text turn_names) in
        let local = option_map meanings.Local (last_meaning text locals) in
        let label = option_map meanings.Slot (last_meaning text labels) in
        let here = option_map meanings.Here (own_part sources.params text) in
        let given = option_map meanings.BuiltIn (builtin_number text) in
        let named = option_map meanings.Scope (noted_number sources.scope text) in
        meant_or (sight_meaning sight text) (option_or here (scope_meaning sources.scope text))
        (meant_or turned (option_or local label) (turn_among (last_meaning text turn_names))
        (meant_or local label
        (local_among (last_meaning text locals)
        (last_on (IsViewed (seen_in outer growth) reading.places.locals before growth.named) text locals views.named))
        (label_among (last_meaning text labels)
        (last_on (IsViewed (seen_in outer growth) reading.places.slots asked_before growth.asked) text labels views.asked))))
        (meant_or here (scope_meaning sources.scope text) (here_among (own_part sources.params text))
        (meant_or given named (builtin_among (builtin_number text)) (scope_among (noted_number sources.scope text))))

  -- where this is in sight, so many are declared before, and turns stand for what is known
  pub record Stays (outer : SeenNames) (turns : List Made) (growth : Growth) (sight : Sight) (tally : Tally) : Type 0 where
    pub known : EachMade IsKnownStand turns
    pub views : Views reading.places outer growth sight.locals sight.labels tally.locals tally.slots

  module _ (sources : NameSources) (apart : AreApart reading.places.locals) (slots_apart : AreApart reading.places.slots) where
    first_among : (outer : SeenNames) (turns : List Made) (growth : Growth) (sight : Sight) (tally : Tally) (name : Name)
        → Stays outer turns growth sight tally → IsFirstRead reading.names sources sight name
        → IsStandAmong (seen_in outer growth) (first_stand reading turns growth name.at)
    first_among outer turns growth sight tally name stays read =
        subst (λ (found : Option Meaning). IsStandAmong (seen_in outer growth) (stand_or_nothing (option_and_then (meaning_stand reading turns growth) found)))
        (sym read)
        (front_among outer turns stays.known growth sight.locals sight.labels tally.locals tally.slots stays.views sources sight.turns name.text)

    -- after reading, the same is in sight
    stays_reading : (outer : SeenNames) (turns : List Made) (old new : Growth) (sight : Sight) (tally : Tally) → Reads outer old new
        → Stays outer turns old sight tally → Stays outer turns new sight tally
    stays_reading outer turns old new sight tally reads stays = record {
      known = stays.known;
      views = views_later reading.places apart slots_apart outer old new sight.locals sight.labels tally.locals tally.slots tally.locals tally.slots
          (omega arith) (omega arith) (goes_reading reading.places outer tally.locals tally.slots old new reads) stays.views;
    }

    -- ---- arguments

    term_among : (seen : SeenNames) (stand : Stand) → IsStandAmong seen stand → IsTermAmong seen (stand_term stand)
    term_among seen (stands.Value term own class) among = among
    term_among seen (stands.Slot number pred) among = tt
    term_among seen (stands.Root number pred) among = tt
    term_among seen (stands.Class class) among = tt
    term_among seen stands.Nothing among = tt

    -- the term of what is compared names what is seen, as what stands for it does
    decimal_among : (seen : SeenNames) (stand : Stand) → IsStandAmong seen stand → IsTermAmong seen (decimal_term stand)
    decimal_among seen (stands.Value (terms.Lit number) value_kinds.Int class) among = tt
    decimal_among seen stand among = term_among seen stand among

    compared_among : (seen : SeenNames) (decimal : Bool) (stand : Stand) → IsStandAmong seen stand → IsTermAmong seen (compared_term decimal stand)
    compared_among seen true stand among = decimal_among seen stand among
    compared_among seen false stand among = term_among seen stand among

    abbrev StandsAmong : SeenNames → List Stand → Type 0
    StandsAmong seen some = AllByRecursion (IsStandAmong seen) some

    all_compared : (seen : SeenNames) (decimal : Bool) (some : List Stand) → StandsAmong seen some → TermsAmong seen (map (compared_term decimal) some)
    all_compared seen decimal [] among = tt
    all_compared seen decimal (stand ∷ more) among = (compared_among seen decimal stand among.0, all_compared seen decimal more among.1)

    terms_among : (seen : SeenNames) (kind : Kind) (some : List Stand) → StandsAmong seen some → TermsAmong seen (constraint_terms kind some)
    terms_among seen TestEq (truth ∷ compared) among =
        (term_among seen truth among.0, all_compared seen (has_decimal compared) compared among.1)
    terms_among seen TestLeq (truth ∷ compared) among =
        (term_among seen truth among.0, all_compared seen (has_decimal compared) compared among.1)
    terms_among seen MulEq (first ∷ factor ∷ product ∷ []) among = (
      compared_among seen (has_decimal (first ∷ product ∷ [])) first among.0,
      (term_among seen factor among.1.0, (compared_among seen (has_decimal (first ∷ product ∷ [])) product among.1.1.0, tt)),
    )
    terms_among seen kind some among = all_compared seen (has_decimal some) some among

    -- there are as many terms
    terms_length : (kind : Kind) (some : List Stand) → length (constraint_terms kind some) ≡ length some
    terms_length TestEq (truth ∷ compared) = ap suc (length-map compared (compared_term (has_decimal compared)))
    terms_length TestLeq (truth ∷ compared) = ap suc (length-map compared (compared_term (has_decimal compared)))
    terms_length MulEq (first ∷ factor ∷ product ∷ []) = refl
    terms_length kind some = length-map some (compared_term (has_decimal some))

    constant_among : (seen : SeenNames) (constant : Constant) → IsStandAmong seen (constant_stand constant)
    constant_among seen (constants.Number number) = tt
    constant_among seen (constants.Decimal thousandths) = tt
    constant_among seen (constants.Truth truth) = tt

    expr_argues : (outer : SeenNames) (turns : List Made) (growth : Growth) (sight : Sight) (tally : Tally) (expr : Expr)
        → Stays outer turns growth sight tally → IsExprRead reading.names sources sight expr → LeadsOn outer growth (argument reading turns expr growth)
    expr_argues outer turns growth sight tally (exprs.Path path) stays read =
        let here = first_stand reading turns growth path.first.at in
        rest_leads outer here path.rest growth (first_among outer turns growth sight tally path.first stays read)
    expr_argues outer turns growth sight tally (exprs.Literal literal) stays read =
        record { reads = reads_same outer growth; among = constant_among (seen_in outer growth) literal.constant }

    record AllArgue (outer : SeenNames) (growth : Growth) (given : AllReached) : Type 0 where
      reads : Reads outer growth given.growth
      among : StandsAmong (seen_in outer given.growth) given.stands

    exprs_argue : (outer : SeenNames) (turns : List Made) (growth : Growth) (sight : Sight) (tally : Tally) (some : List Expr)
        → Stays outer turns growth sight tally → AreExprsRead reading.names sources sight some → AllArgue outer growth (given_arguments reading turns some growth)
    exprs_argue outer turns growth sight tally [] stays read = record { reads = reads_same outer growth; among = tt }
    exprs_argue outer turns growth sight tally (expr ∷ more) stays read =
        let given = argument reading turns expr growth in
        let first = expr_argues outer turns growth sight tally expr stays read.0 in
        let rest = exprs_argue outer turns given.growth sight tally more
        (stays_reading outer turns growth given.growth sight tally first.reads stays) read.1 in
        let all = given_arguments reading turns more given.growth in
        record {
          reads = reads_join outer growth given.growth all.growth first.reads rest.reads;
          among = (stand_more (seen_in outer given.growth) (seen_in outer all.growth) rest.reads.more given.stand first.among, rest.among);
        }

    both_compared : (seen : SeenNames) (one other : Stand) → IsStandAmong seen one → IsStandAmong seen other
        → All (IsTermAmong seen) (compared_terms (one ∷ other ∷ []))
    both_compared seen one other first second =
        let decimal = has_decimal (one ∷ other ∷ []) in
        two_among seen (compared_term decimal one) (compared_term decimal other) (compared_among seen decimal one first)
        (compared_among seen decimal other second)

    record Guards (outer : SeenNames) (growth : Growth) (tested : Tested) : Type 0 where
      reads : Reads outer growth tested.growth
      sides : All (IsTermAmong (seen_in outer tested.growth)) (sides_of tested.guard)

    condition_guards : (outer : SeenNames) (turns : List Made) (growth : Growth) (sight : Sight) (tally : Tally) (condition : Condition)
        → Stays outer turns growth sight tally → IsConditionRead reading.names sources sight condition
        → Guards outer growth (condition_guard reading turns condition growth)
    condition_guards outer turns growth sight tally (conditions.Truth expr) stays read =
        let given = argument reading turns expr growth in
        let argues = expr_argues outer turns growth sight tally expr stays read in
        record {
          reads = argues.reads;
          sides = two_among (seen_in outer given.growth) (stand_term given.stand) (terms.Lit (pos 1))
              (term_among (seen_in outer given.growth) given.stand argues.among) tt;
        }
    condition_guards outer turns growth sight tally (conditions.Equal one other) stays read =
        let left = argument reading turns one growth in
        let right = argument reading turns other left.growth in
        let first = expr_argues outer turns growth sight tally one stays read.0 in
        let second = expr_argues outer turns left.growth sight tally other (stays_reading outer turns growth left.growth sight tally first.reads stays) read.1 in
        record {
          reads = reads_join outer growth left.growth right.growth first.reads second.reads;
          sides = both_compared (seen_in outer right.growth) left.stand right.stand
              (stand_more (seen_in outer left.growth) (seen_in outer right.growth) second.reads.more left.stand first.among) second.among;
        }
    condition_guards outer turns growth sight tally (conditions.NotEqual one other) stays read =
        let left = argument reading turns one growth in
        let right = argument reading turns other left.growth in
        let first = expr_argues outer turns growth sight tally one stays read.0 in
        let second = expr_argues outer turns left.growth sight tally other (stays_reading outer turns growth left.growth sight tally first.reads stays) read.1 in
        record {
          reads = reads_join outer growth left.growth right.growth first.reads second.reads;
          sides = both_compared (seen_in outer right.growth) left.stand right.stand
              (stand_more (seen_in outer left.growth) (seen_in outer right.growth) second.reads.more left.stand first.among) second.among;
        }

    given_length : (turns : List Made) (some : List Expr) (growth : Growth) → length (given_arguments reading turns some growth).stands ≡ length some
    given_length turns [] growth = refl
    given_length turns (expr ∷ more) growth = ap suc (given_length turns more (argument reading turns expr growth).growth)

    constraint_reads : (outer : SeenNames) (turns : List Made) (growth : Growth) (sight : Sight) (tally : Tally) (kind : Kind) (some : List Expr)
        → takes kind (length some) ≡ true → Stays outer turns growth sight tally → AreExprsRead reading.names sources sight some
        → Reads outer growth (with_constraint reading turns kind some growth)
    constraint_reads outer turns growth sight tally kind some taken stays read =
        let given = given_arguments reading turns some growth in
        let all = exprs_argue outer turns growth sight tally some stays read in
        let those = constraint_terms kind given.stands in
        let counted : takes kind (length those) ≡ true =
        ap (takes kind) (terms_length kind given.stands ∙ given_length turns some growth) ∙ taken in
        reads_join outer growth given.growth (with_constraint reading turns kind some growth) all.reads
        (reads_items outer (constraint_items kind those) given.growth
        (constraint_among (seen_in outer given.growth) kind those counted (terms_among (seen_in outer given.growth) kind given.stands all.among)))

    -- ---- slots

    -- what the object of a slot equals names what is seen, if there is anything
    abbrev IsObjectAmong : SeenNames → Option Term → Type 0
    IsObjectAmong seen None = Unit {0}
    IsObjectAmong seen (Some term) = IsTermAmong seen term

    -- a slot is asked for, if there is the predicate; then what stands for it is seen
    record Wants (outer : SeenNames) (from asked_from : ℕ) (pred : Option ℕ) (old new : Growth) : Type 0 where
      goes : Goes reading.places outer from asked_from old new
      latest : IsSome pred → IsFoundAmong (seen_in outer new) (declared_stand reading.places.slots asked_from new.asked)

    objects_among : (seen : SeenNames) (number : ℕ) (object : Option Term) → Contains seen (names.Slot number) → IsObjectAmong seen object
        → EachAmong seen (object_items number object)
    objects_among seen number None here among = tt
    objects_among seen number (Some term) here among = ((refl, two_among seen (terms.Slot number parts.Object) term here among), tt)

    object_more : (seen more : SeenNames) → HasMore seen more → (object : Option Term) → IsObjectAmong seen object → IsObjectAmong more object
    object_more seen more grows None among = tt
    object_more seen more grows (Some term) among = term_more seen more grows term among

    token_wants : (outer : SeenNames) (from asked_from at : ℕ) (relation : Rel) (pred : ℕ) (object : Option Term) (growth : Growth)
        → slice_get reading.places.slots asked_from ≡ Some at → IsObjectAmong (seen_in outer growth) object
        → Wants outer from asked_from (Some pred) growth (with_wanted_token reading.lexicon at relation pred object growth)
    token_wants outer from asked_from at relation pred object growth there among =
        let number = length growth.slots in
        let made : Made = record { at = at; stand = stands.Slot number pred } in
        let noted = with_asked_at at (stands.Slot number pred) growth in
        let slotted = with_slot (pred_slot reading.lexicon pred) noted in
        let added = entries.Slot number ∷ [] in
        let equal = with_items (object_items number object) slotted in
        let whole = with_wanted_token reading.lexicon at relation pred object growth in
        let grown = names_more outer growth slotted added refl in
        let here = added_seen outer growth slotted added refl (names.Slot number) (0, omega arith, refl) in
        let object_here = object_more (seen_in outer growth) (seen_in outer slotted) grown object among in
        let first : Goes reading.places outer from asked_from growth slotted = record {
          named = adds_same reading.places.locals from growth.named slotted.named refl;
          asked = adds_one reading.places.slots asked_from growth.asked made there;
          seen = entries_seen outer growth slotted added refl tt;
          more = grown;
        } in
        let second = reads_items outer (object_items number object) slotted (objects_among (seen_in outer slotted) number object here object_here) in
        let third = reads_item outer (Relation relation number) equal (tt, second.more (names.Slot number) here) in
        let behind = reads_join outer slotted equal whole second third in
        record {
          goes = goes_join reading.places outer from from asked_from asked_from growth slotted whole (omega arith) (omega arith) first
              (goes_reading reading.places outer from asked_from slotted whole behind);
          latest = λ some. subst (IsFoundAmong (seen_in outer whole)) (sym (stand_last reading.places.slots asked_from growth.asked made there))
              (behind.more (names.Slot number) here);
        }

    pred_wants : (outer : SeenNames) (from asked_from at : ℕ) (relation : Rel) (pred : Option ℕ) (object : Option Term) (old growth : Growth)
        → slice_get reading.places.slots asked_from ≡ Some at → Reads outer old growth → IsObjectAmong (seen_in outer growth) object
        → Wants outer from asked_from pred old (option_map_or (λ found. with_wanted_token reading.lexicon at relation found object growth) pred growth)
    pred_wants outer from asked_from at relation None object old growth there reads among = record {
      goes = goes_reading reading.places outer from asked_from old growth reads;
      latest = λ some. absurd (let never : false ≡ true = some in cc);
    }
    pred_wants outer from asked_from at relation (Some pred) object old growth there reads among =
        let whole = with_wanted_token reading.lexicon at relation pred object growth in
        let wants = token_wants outer from asked_from at relation pred object growth there among in
        record {
          goes = goes_join reading.places outer from from asked_from asked_from old growth whole (omega arith) (omega arith)
              (goes_reading reading.places outer from asked_from old growth reads) wants.goes;
          latest = wants.latest;
        }

    wanted_among : (seen : SeenNames) (stand : Stand) (name : List ℕ) → IsStandAmong seen stand
        → IsObjectAmong seen (wanted_of reading.lexicon stand name).object
    wanted_among seen (stands.Value term own class) name among = among
    wanted_among seen (stands.Class class) name among = tt
    wanted_among seen (stands.Slot number pred) name among = tt
    wanted_among seen (stands.Root number pred) name among = tt
    wanted_among seen stands.Nothing name among = tt

    -- what is asked for, with the names before it
    abbrev asked_last : List Made → Path → Growth → Option Name → AskedSlot
    asked_last turns path growth last =
        option_map_or
        (λ name. asked_of_owner reading.lexicon (rest_stand reading (first_stand reading turns growth path.first.at)
        (take (length path.rest - 1) path.rest) growth) name.text) last (asked_nothing growth)

    last_wants : (outer : SeenNames) (turns : List Made) (growth : Growth) (sight : Sight) (tally : Tally) (from asked_from at : ℕ) (relation : Rel) (path : Path)
        (last : Option Name) → Stays outer turns growth sight tally → IsFirstRead reading.names sources sight path.first
        → slice_get reading.places.slots asked_from ≡ Some at
        → Wants outer from asked_from (asked_last turns path growth last).wanted.pred growth
        (with_asked reading.lexicon at relation (asked_last turns path growth last))
    last_wants outer turns growth sight tally from asked_from at relation path None stays read there = record {
      goes = goes_reading reading.places outer from asked_from growth growth (reads_same outer growth);
      latest = λ some. absurd (let never : false ≡ true = some in cc);
    }
    last_wants outer turns growth sight tally from asked_from at relation path (Some name) stays read there =
        let here = first_stand reading turns growth path.first.at in
        let front = take (length path.rest - 1) path.rest in
        let owner = rest_stand reading here front growth in
        let leads = rest_leads outer here front growth (first_among outer turns growth sight tally path.first stays read) in
        let wanted = wanted_of reading.lexicon owner.stand name.text in
        pred_wants outer from asked_from at relation wanted.pred wanted.object growth owner.growth there leads.reads
        (wanted_among (seen_in outer owner.growth) owner.stand name.text leads.among)

    path_wants : (outer : SeenNames) (turns : List Made) (growth : Growth) (sight : Sight) (tally : Tally) (from asked_from at : ℕ) (relation : Rel) (path : Path)
        → Stays outer turns growth sight tally → IsFirstRead reading.names sources sight path.first
        → slice_get reading.places.slots asked_from ≡ Some at
        → Wants outer from asked_from (asked_path reading turns path growth).wanted.pred growth
        (with_asked reading.lexicon at relation (asked_path reading turns path growth))
    path_wants outer turns growth sight tally from asked_from at relation path stays read there =
        last_wants outer turns growth sight tally from asked_from at relation path (slice_get path.rest (length path.rest - 1)) stays read there

    labelled_wants : (outer : SeenNames) (turns : List Made) (growth : Growth) (sight : Sight) (tally : Tally) (from asked_from at : ℕ) (relation : Rel) (path : Path)
        (names : List Name) → Stays outer turns growth sight tally → IsAskedRead reading.names sources sight path.first names
        → slice_get reading.places.slots asked_from ≡ Some at
        → Wants outer from asked_from (asked_labelled reading turns path names growth).wanted.pred growth
        (with_asked reading.lexicon at relation (asked_labelled reading turns path names growth))
    labelled_wants outer turns growth sight tally from asked_from at relation path [] stays read there =
        pred_wants outer from asked_from at relation (pred_named reading.lexicon (pred_class reading.lexicon reading.pred) path.first.text) None growth growth
        there (reads_same outer growth) tt
    labelled_wants outer turns growth sight tally from asked_from at relation path (name ∷ more) stays read there =
        path_wants outer turns growth sight tally from asked_from at relation path stays read there

    -- ---- calls

    relation_reads : (outer : SeenNames) (relation : Rel) (stand : Stand) (growth : Growth) → IsStandAmong (seen_in outer growth) stand
        → Reads outer growth (with_relation relation stand growth)
    relation_reads outer relation (stands.Slot number pred) growth among = reads_item outer (Relation relation number) growth (tt, among)
    relation_reads outer relation (stands.Value term own class) growth among = reads_same outer growth
    relation_reads outer relation (stands.Root number pred) growth among = reads_same outer growth
    relation_reads outer relation (stands.Class class) growth among = reads_same outer growth
    relation_reads outer relation stands.Nothing growth among = reads_same outer growth

    -- where a slot is asked for, it has its place
    abbrev HasPlace : ℕ → List ℕ → Type 0
    HasPlace from own = (at : ℕ) (more : List ℕ) → own ≡ at ∷ more → slice_get reading.places.slots from ≡ Some at

    related_goes : (outer : SeenNames) (turns : List Made) (growth : Growth) (sight : Sight) (tally : Tally) (at : ℕ) (relation : Rel) (path : Path)
        (names : List Name) → Stays outer turns growth sight tally → IsFirstRead reading.names sources sight path.first
        → HasPlace tally.slots (place_if_more at names)
        → Goes reading.places outer tally.locals tally.slots growth (with_related reading turns at relation path names growth)
    related_goes outer turns growth sight tally at relation path [] stays read there =
        let stand = first_stand reading turns growth path.first.at in
        goes_reading reading.places outer tally.locals tally.slots growth (with_relation relation stand growth)
        (relation_reads outer relation stand growth (first_among outer turns growth sight tally path.first stays read))
    related_goes outer turns growth sight tally at relation path (name ∷ more) stays read there =
        (path_wants outer turns growth sight tally tally.locals tally.slots at relation path stays read (there at [] refl)).goes

    none_goes : (outer : SeenNames) (growth : Growth) (tally : Tally) → Goes reading.places outer tally.locals tally.slots growth growth
    none_goes outer growth tally = goes_reading reading.places outer tally.locals tally.slots growth growth (reads_same outer growth)

    relation_goes : (outer : SeenNames) (turns : List Made) (growth : Growth) (sight : Sight) (tally : Tally) (at : ℕ) (relation : Rel) (some : List Expr)
        → Stays outer turns growth sight tally → AreExprsRead reading.names sources sight some → HasPlace tally.slots (asked_place at some)
        → Goes reading.places outer tally.locals tally.slots growth (with_relation_to reading turns at relation some growth)
    relation_goes outer turns growth sight tally at relation [] stays read there = none_goes outer growth tally
    relation_goes outer turns growth sight tally at relation (exprs.Path path ∷ []) stays read there =
        related_goes outer turns growth sight tally at relation path path.rest stays read.0 there
    relation_goes outer turns growth sight tally at relation (exprs.Path path ∷ (next ∷ more)) stays read there = none_goes outer growth tally
    relation_goes outer turns growth sight tally at relation (exprs.Literal literal ∷ more) stays read there = none_goes outer growth tally

    named_goes : (outer : SeenNames) (turns : List Made) (growth : Growth) (sight : Sight) (tally : Tally) (some : List Expr) (found : Option Kind)
        → ((kind : Kind) → found ≡ Some kind → takes kind (length some) ≡ true)
        → Stays outer turns growth sight tally → AreExprsRead reading.names sources sight some
        → Goes reading.places outer tally.locals tally.slots growth (option_map_or (λ kind. with_constraint reading turns kind some growth) found growth)
    named_goes outer turns growth sight tally some None taken stays read = none_goes outer growth tally
    named_goes outer turns growth sight tally some (Some kind) taken stays read =
        goes_reading reading.places outer tally.locals tally.slots growth (with_constraint reading turns kind some growth)
        (constraint_reads outer turns growth sight tally kind some (taken kind refl) stays read)

    call_goes : (outer : SeenNames) (turns : List Made) (growth : Growth) (sight : Sight) (tally : Tally) (call : Call) (found : Option Rel)
        → ((kind : Kind) → found ≡ None → constraint_named call.path.first.text ≡ Some kind → takes kind (length call.arguments) ≡ true)
        → Stays outer turns growth sight tally → AreExprsRead reading.names sources sight call.arguments
        → HasPlace tally.slots (if is_some found then asked_place call.path.first.at call.arguments else [])
        → Goes reading.places outer tally.locals tally.slots growth
        (option_map_or (λ relation. with_relation_to reading turns call.path.first.at relation call.arguments growth) found
        (with_constraint_named reading turns call.path.first call.arguments growth))
    call_goes outer turns growth sight tally call None taken stays read there =
        named_goes outer turns growth sight tally call.arguments (constraint_named call.path.first.text) (λ kind is. taken kind refl is) stays read
    call_goes outer turns growth sight tally call (Some relation) taken stays read there =
        relation_goes outer turns growth sight tally call.path.first.at relation call.arguments stays read there

    -- ---- locals

    -- a local is declared, and what stands for it is seen
    record Begins (outer : SeenNames) (from asked_from : ℕ) (old new : Growth) : Type 0 where
      goes : Goes reading.places outer from asked_from old new
      latest : IsFoundAmong (seen_in outer new) (declared_stand reading.places.locals from new.named)

    declared_begins : (outer : SeenNames) (from asked_from at : ℕ) (shape : Shape) (growth : Growth) → slice_get reading.places.locals from ≡ Some at
        → Begins outer from asked_from growth (with_declared at shape growth)
    declared_begins outer from asked_from at shape growth there =
        let number = length growth.locals in
        let made : Made = record { at = at; stand = next_local shape growth } in
        let new = with_declared at shape growth in
        let added = entries.Local number ∷ [] in
        let here = added_seen outer growth new added refl (names.Local number) (0, omega arith, refl) in
        record {
          goes = record {
            named = adds_one reading.places.locals from growth.named made there;
            asked = adds_same reading.places.slots asked_from growth.asked new.asked refl;
            seen = entries_seen outer growth new added refl tt;
            more = names_more outer growth new added refl;
          };
          latest = subst (IsFoundAmong (seen_in outer new)) (sym (stand_last reading.places.locals from growth.named made there)) here;
        }

    begun_begins : (outer : SeenNames) (turns : List Made) (growth : Growth) (sight : Sight) (tally : Tally) (at : ℕ) (shape : Shape) (init : Option Init)
        → Stays outer turns growth sight tally → IsInitRead reading.names sources sight init → slice_get reading.places.locals tally.locals ≡ Some at
        → Begins outer tally.locals tally.slots growth (with_begun reading turns at shape init growth)
    begun_begins outer turns growth sight tally at shape None stays read there = declared_begins outer tally.locals tally.slots at shape growth there
    begun_begins outer turns growth sight tally at shape (Some (inits.New creation)) stays read there =
        declared_begins outer tally.locals tally.slots at shape growth there
    begun_begins outer turns growth sight tally at shape (Some (inits.Expr expr)) stays read there =
        let given = argument reading turns expr growth in
        let argues = expr_argues outer turns growth sight tally expr stays read in
        let declared = with_declared at shape given.growth in
        let begins = declared_begins outer tally.locals tally.slots at shape given.growth there in
        let whole = with_begun reading turns at shape (Some (inits.Expr expr)) growth in
        let number = length given.growth.locals in
        let added = entries.Local number ∷ [] in
        let here = added_seen outer given.growth declared added refl (names.Local number) (0, omega arith, refl) in
        let other = stand_more (seen_in outer given.growth) (seen_in outer declared) begins.goes.more given.stand argues.among in
        let local = next_local shape given.growth in
        let last = reads_item outer (Constraint Eq (compared_terms (local ∷ given.stand ∷ []))) declared
        (refl, both_compared (seen_in outer declared) local given.stand here other) in
        let from = tally.locals in
        let asked_from = tally.slots in
        record {
          goes = goes_join reading.places outer from from asked_from asked_from growth given.growth whole (omega arith) (omega arith)
              (goes_reading reading.places outer from asked_from growth given.growth argues.reads)
              (goes_join reading.places outer from from asked_from asked_from given.growth declared whole (omega arith) (omega arith) begins.goes
              (goes_reading reading.places outer from asked_from declared whole last));
          latest = found_more (seen_in outer declared) (seen_in outer whole) last.more
              (declared_stand reading.places.locals from declared.named) begins.latest;
        }

    -- ---- statements

    -- after more statements the same is in sight, and perhaps more was declared
    stays_later : (outer : SeenNames) (turns : List Made) (old new : Growth) (sight : Sight) (tally later : Tally) → tally.locals ≤ later.locals
        → tally.slots ≤ later.slots → Goes reading.places outer tally.locals tally.slots old new → Stays outer turns old sight tally
        → Stays outer turns new sight later
    stays_later outer turns old new sight tally later low asked_low goes stays = record {
      known = stays.known;
      views = views_later reading.places apart slots_apart outer old new sight.locals sight.labels tally.locals tally.slots later.locals later.slots
          low asked_low goes stays.views;
    }

    -- each turn goes on from what is in sight
    turns_go : (outer : SeenNames) (turns : List Made) (sight : Sight) (tally : Tally) (turn : Stand → Growth → Growth)
        (Inside : Stand → Growth → Type 0)
        → ((object : Stand) → IsKnownStand object → (growth : Growth) → Stays outer turns growth sight tally → Inside object growth
        → Goes reading.places outer tally.locals tally.slots growth (turn object growth))
        → (objects : List Stand) → EachKnown objects → (growth : Growth) → Stays outer turns growth sight tally → InEachTurn Inside turn objects growth
        → Goes reading.places outer tally.locals tally.slots growth (all_turns turn objects growth)
    turns_go outer turns sight tally turn Inside each [] known growth stays inside = none_goes outer growth tally
    turns_go outer turns sight tally turn Inside each (object ∷ more) known growth stays inside =
        let next = turn object growth in
        let from = tally.locals in
        let asked_from = tally.slots in
        let first = each object known.0 growth stays inside.0 in
        let later = stays_later outer turns growth next sight tally tally (omega arith) (omega arith) first stays in
        goes_join reading.places outer from from asked_from asked_from growth next (all_turns turn more next) (omega arith) (omega arith) first
        (turns_go outer turns sight tally turn Inside each more known.1 next later inside.1)

    -- a slot gets a label, and what stands for it is seen
    record Labels (outer : SeenNames) (from asked_from : ℕ) (old new : Growth) : Type 0 where
      goes : Goes reading.places outer from asked_from old new
      latest : IsFoundAmong (seen_in outer new) (declared_stand reading.places.slots asked_from new.asked)

    ask_labels : (outer : SeenNames) (turns : List Made) (growth : Growth) (sight : Sight) (tally : Tally) (ask : Ask) (found : Option Rel)
        → is_some found ≡ true
        → IfSome found (λ relation. IsSome (asked_labelled reading turns ask.path ask.path.rest growth).wanted.pred)
        → Stays outer turns growth sight tally → IsAskedRead reading.names sources sight ask.path.first ask.path.rest
        → slice_get reading.places.slots tally.slots ≡ Some ask.label.at
        → Labels outer tally.locals tally.slots growth
        (option_map_or (λ relation. with_asked reading.lexicon ask.label.at relation (asked_labelled reading turns ask.path ask.path.rest growth)) found growth)
    ask_labels outer turns growth sight tally ask None some meant stays read there = absurd (let never : false ≡ true = some in cc)
    ask_labels outer turns growth sight tally ask (Some relation) some meant stays read there =
        let wants = labelled_wants outer turns growth sight tally tally.locals tally.slots ask.label.at relation ask.path ask.path.rest stays read there in
        record { goes = wants.goes; latest = wants.latest meant }

    pub go_through : (stmts : Statements) (outer : SeenNames) (turns : List Made) (growth : Growth) (sight : Sight) (tally : Tally)
        → Stays outer turns growth sight tally → Placed reading.places.locals tally.locals (local_places stmts)
        → Placed reading.places.slots tally.slots (slot_places stmts) → AreRead reading.names sources sight tally stmts → HasFineCalls stmts
        → AreMeant reading turns stmts growth
        → Goes reading.places outer tally.locals tally.slots growth (unrolled reading turns stmts growth)
    go_through Nothing outer turns growth sight tally stays placed slots_placed read fine meant = none_goes outer growth tally
    go_through (Declares variable more) outer turns growth sight tally stays placed slots_placed read fine meant =
        let at = variable.name.at in
        let shape = type_shape reading turns growth variable.declared in
        let there = placed_first reading.places.locals tally.locals at (local_places more) placed in
        let next = with_text_local reading turns variable growth in
        let begins = begun_begins outer turns growth sight tally at shape variable.init stays read.0 there in
        let later = local_more tally in
        let base = stays_later outer turns growth next sight tally later (omega arith) (omega arith) begins.goes stays in
        let further = with_rule_local sight variable.name.text tally.locals in
        let last : Stays outer turns next further later = record {
          known = stays.known;
          views = record {
            named = number_more (IsViewed (seen_in outer next) reading.places.locals later.locals next.named) sight.locals variable.name.text tally.locals
                base.views.named (omega arith, begins.latest);
            asked = base.views.asked;
          };
        } in
        let rest = go_through more outer turns next further later last
        (placed_right reading.places.locals tally.locals later.locals (at ∷ []) (local_places more) placed (omega arith)) slots_placed read.1 fine meant.1 in
        goes_join reading.places outer tally.locals later.locals tally.slots later.slots growth next (unrolled reading turns more next)
        (omega arith) (omega arith) begins.goes rest
    go_through (Calls call more) outer turns growth sight tally stays placed slots_placed read fine meant =
        let next = with_call reading turns call growth in
        let later = call_tally tally call in
        let same = call_locals call tally in
        let counts = call_counts call tally fine.0 in
        let there : HasPlace tally.slots (call_place call) = λ at behind is.
        placed_first reading.places.slots tally.slots at (behind ++ slot_places more)
        (subst (λ (own : List ℕ). Placed reading.places.slots tally.slots (own ++ slot_places more)) is slots_placed) in
        let goes = call_goes outer turns growth sight tally call (relation_named call.path.first.text) fine.0.constraint stays read.0 there in
        let low : tally.locals ≤ later.locals = omega (arith, same) in
        let asked_low : tally.slots ≤ later.slots = omega (arith, counts) in
        let last = stays_later outer turns growth next sight tally later low asked_low goes stays in
        let rest = go_through more outer turns next sight later last
        (subst (λ (n : ℕ). Placed reading.places.locals n (local_places more)) (sym same) placed)
        (placed_right reading.places.slots tally.slots later.slots (call_place call) (slot_places more) slots_placed counts) read.1 fine.1 meant.1 in
        goes_join reading.places outer tally.locals later.locals tally.slots later.slots growth next (unrolled reading turns more next)
        low asked_low goes rest
    go_through (Asks ask more) outer turns growth sight tally stays placed slots_placed read fine meant =
        let at = ask.label.at in
        let there = placed_first reading.places.slots tally.slots at (slot_places more) slots_placed in
        let next = with_ask reading turns ask growth in
        let labels = ask_labels outer turns growth sight tally ask (relation_named ask.word.text) fine.0 meant.0 stays read.0 there in
        let later = slot_more tally in
        let base = stays_later outer turns growth next sight tally later (omega arith) (omega arith) labels.goes stays in
        let further = with_label sight ask.label.text tally.slots in
        let last : Stays outer turns next further later = record {
          known = stays.known;
          views = record {
            named = base.views.named;
            asked = number_more (IsViewed (seen_in outer next) reading.places.slots later.slots next.asked) sight.labels ask.label.text tally.slots
                base.views.asked (omega arith, labels.latest);
          };
        } in
        let rest = go_through more outer turns next further later last placed
        (placed_right reading.places.slots tally.slots later.slots (at ∷ []) (slot_places more) slots_placed (omega arith)) read.1 fine.1 meant.1 in
        goes_join reading.places outer tally.locals later.locals tally.slots later.slots growth next (unrolled reading turns more next)
        (omega arith) (omega arith) labels.goes rest
    go_through (Tests test_at condition then_at inside more) outer turns growth sight tally stays placed slots_placed read fine meant =
        let from = tally.locals in
        let asked_from = tally.slots in
        let tested = condition_guard reading turns condition growth in
        let filled = unrolled reading turns inside (in_block tested.growth) in
        let branched = with_last_entry (entries.Branch tested.guard (filled_block filled) (plain_entries [])) (back_in tested.growth.entries filled) in
        let guards = condition_guards outer turns growth sight tally condition stays read.0 in
        let known = stays_reading outer turns growth tested.growth sight tally guards.reads stays in
        let around = seen_in outer tested.growth in
        let begun : Stays around turns (in_block tested.growth) sight tally = record {
          known = stays.known;
          views = views_inside reading.places outer tested.growth sight.locals sight.labels from asked_from known.views;
        } in
        let block = go_through inside around turns (in_block tested.growth) sight tally begun
        (placed_left reading.places.locals from (local_places inside) (local_places more) placed)
        (placed_left reading.places.slots asked_from (slot_places inside) (slot_places more) slots_placed) read.1.0 fine.0 meant.1.0 in
        let branch = goes_branch reading.places outer from from asked_from asked_from tested.guard tested.growth filled (in_block filled)
        (omega arith) (omega arith) guards.sides block (none_goes around (in_block filled) tally) in
        let step = goes_join reading.places outer from from asked_from asked_from growth tested.growth branched (omega arith) (omega arith)
        (goes_reading reading.places outer from asked_from growth tested.growth guards.reads) branch in
        let later = tallied tally inside in
        let counts = tallied_locals inside tally in
        let asked_counts = tallied_slots inside tally fine.0 in
        let low : from ≤ later.locals = omega (arith, counts) in
        let asked_low : asked_from ≤ later.slots = omega (arith, asked_counts) in
        let last = stays_later outer turns growth branched sight tally later low asked_low step stays in
        let rest = go_through more outer turns branched sight later last
        (placed_right reading.places.locals from later.locals (local_places inside) (local_places more) placed counts)
        (placed_right reading.places.slots asked_from later.slots (slot_places inside) (slot_places more) slots_placed asked_counts)
        read.1.1 fine.1 meant.1.1 in
        goes_join reading.places outer from later.locals asked_from later.slots growth branched (unrolled reading turns more branched)
        low asked_low step rest
    go_through (Chooses test_at condition then_at inside else_at other more) outer turns growth sight tally stays placed slots_placed read fine meant =
        let from = tally.locals in
        let asked_from = tally.slots in
        let tested = condition_guard reading turns condition growth in
        let filled = unrolled reading turns inside (in_block tested.growth) in
        let second = unrolled reading turns other (in_block filled) in
        let branched = with_last_entry (entries.Branch tested.guard (filled_block filled) (filled_block second)) (back_in tested.growth.entries second) in
        let guards = condition_guards outer turns growth sight tally condition stays read.0 in
        let known = stays_reading outer turns growth tested.growth sight tally guards.reads stays in
        let around = seen_in outer tested.growth in
        let begun : Stays around turns (in_block tested.growth) sight tally = record {
          known = stays.known;
          views = views_inside reading.places outer tested.growth sight.locals sight.labels from asked_from known.views;
        } in
        let block = go_through inside around turns (in_block tested.growth) sight tally begun
        (placed_left reading.places.locals from (local_places inside) (local_places other ++ local_places more) placed)
        (placed_left reading.places.slots asked_from (slot_places inside) (slot_places other ++ slot_places more) slots_placed)
        read.1.0 fine.0 meant.1.0 in
        let middle = tallied tally inside in
        let counts = tallied_locals inside tally in
        let asked_counts = tallied_slots inside tally fine.0 in
        let low : from ≤ middle.locals = omega (arith, counts) in
        let asked_low : asked_from ≤ middle.slots = omega (arith, asked_counts) in
        let behind = placed_right reading.places.locals from middle.locals (local_places inside) (local_places other ++ local_places more) placed counts in
        let slots_behind = placed_right reading.places.slots asked_from middle.slots (slot_places inside) (slot_places other ++ slot_places more)
        slots_placed asked_counts in
        let beside : Stays around turns (in_block filled) sight middle = record {
          known = stays.known;
          views = views_beside reading.places apart slots_apart around tested.growth filled sight.locals sight.labels from asked_from
              middle.locals middle.slots low asked_low block.named block.asked begun.views;
        } in
        let second_block = go_through other around turns (in_block filled) sight middle beside
        (placed_left reading.places.locals middle.locals (local_places other) (local_places more) behind)
        (placed_left reading.places.slots middle.slots (slot_places other) (slot_places more) slots_behind) read.1.1.0 fine.1.0 meant.1.1.0 in
        let branch = goes_branch reading.places outer from middle.locals asked_from middle.slots tested.guard tested.growth filled second
        low asked_low guards.sides block second_block in
        let step = goes_join reading.places outer from from asked_from asked_from growth tested.growth branched (omega arith) (omega arith)
        (goes_reading reading.places outer from asked_from growth tested.growth guards.reads) branch in
        let later = tallied middle other in
        let more_counts = tallied_locals other middle in
        let more_asked = tallied_slots other middle fine.1.0 in
        let whole_low : from ≤ later.locals = omega (arith, counts, more_counts) in
        let whole_asked : asked_from ≤ later.slots = omega (arith, asked_counts, more_asked) in
        let last = stays_later outer turns growth branched sight tally later whole_low whole_asked step stays in
        let rest = go_through more outer turns branched sight later last
        (placed_right reading.places.locals middle.locals later.locals (local_places other) (local_places more) behind more_counts)
        (placed_right reading.places.slots middle.slots later.slots (slot_places other) (slot_places more) slots_behind more_asked)
        read.1.1.1 fine.1.1 meant.1.1.1 in
        goes_join reading.places outer from later.locals asked_from later.slots growth branched (unrolled reading turns more branched)
        whole_low whole_asked step rest
    go_through (Repeats repeat_at name class body_at body more) outer turns growth sight tally stays placed slots_placed read fine meant =
        let from = tally.locals in
        let asked_from = tally.slots in
        let turn : Stand → Growth → Growth = λ object inner. unrolled reading (turns ++ turn_of name object ∷ []) body inner in
        let objects = stand_turns reading.lexicon (first_stand reading turns growth class.at) in
        let next = all_turns turn objects growth in
        let first_placed = placed_left reading.places.locals from (local_places body) (local_places more) placed in
        let first_slots = placed_left reading.places.slots asked_from (slot_places body) (slot_places more) slots_placed in
        let step = turns_go outer turns sight tally turn (λ object inner. AreMeant reading (turns ++ turn_of name object ∷ []) body inner)
        (λ object known inner stays_so meant_so.
        go_through body outer (turns ++ turn_of name object ∷ []) inner (with_turn sight name.text tally.turns) (turn_more tally)
        (record { known = each_more IsKnownStand turns (turn_of name object) stays_so.known known; views = stays_so.views })
        first_placed first_slots read.0 fine.0 meant_so)
        objects (stand_known reading.lexicon (first_stand reading turns growth class.at)) growth stays meant.0 in
        let later = tallied (turn_more tally) body in
        let counts = tallied_locals body (turn_more tally) in
        let asked_counts = tallied_slots body (turn_more tally) fine.0 in
        let low : from ≤ later.locals = omega (arith, counts) in
        let asked_low : asked_from ≤ later.slots = omega (arith, asked_counts) in
        let last = stays_later outer turns growth next sight tally later low asked_low step stays in
        let rest = go_through more outer turns next sight later last
        (placed_right reading.places.locals from later.locals (local_places body) (local_places more) placed counts)
        (placed_right reading.places.slots asked_from later.slots (slot_places body) (slot_places more) slots_placed asked_counts)
        read.1 fine.1 meant.1 in
        goes_join reading.places outer from later.locals asked_from later.slots growth next (unrolled reading turns more next) low asked_low step rest

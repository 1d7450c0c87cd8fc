-- Statements with which nothing is wrong mean something where a rule is unrolled.
use Rattle.std.proofs.Common.{◌≡◌, ℕ, Bool, true, false, cond, ◌&&◌, List, [], ◌∷◌, ◌++◌, length, ℤ, refl, sym, ◌∙◌, ap, subst, inl, inr, arith}
use Rattle.std.specs.Prelude.{Option, Some, None, Ok, Err, All, IfSome, IsSome, MatchOption, is_some, slice_get, if◌then◌else◌}
use Rattle.std.specs.List.{AllByRecursion, flat_map}
use Rattle.std.specs.Map.{lookup}
use Rattle.std.specs.Option.{option_and_then, option_map_or}
use Rattle.std.specs.Str.{bytes_eq}
use Rattle.std.proofs.lemmas.List.Elements.{All-head, All-tail}
use Rattle.std.proofs.lemmas.Option.{same_Some, none-some}
use Rattle.std.proofs.lemmas.Slice.Eq.{bytes_eq-Decides}
use Rattle.eu_index.specs.Index.{Noted, with_noted}
use Rattle.domain_core.specs.declared.kind.Kind.{Kind}
use Rattle.model_core.specs.declared.item.Rel.{Rel}
use Rattle.model_core.specs.declared.item.Term.TheVariants as terms
use Rattle.model_core.specs.declared.rule.Entry.TheVariants as entries
use Rattle.model_core.specs.declared.rule.Slot.{Slot}
use Rattle.model_core.specs.declared.variable.Base.{Base}
use Rattle.model_core.specs.declared.variable.ValueKind.TheVariants as value_kinds
use Rattle.model_core.specs.Block.{plain_entries}
use Rattle.nddl_ast.specs.declared.declaration.FileDecls.{FileDecls}
use Rattle.nddl_ast.specs.declared.declaration.PredicatePart.{PredicatePart}
use Rattle.nddl_ast.specs.declared.declaration.PredicatePart.TheVariants as parts
use Rattle.nddl_ast.specs.declared.expression.BaseType.{BaseType}
use Rattle.nddl_ast.specs.declared.expression.BaseType.TheVariants as bases
use Rattle.nddl_ast.specs.declared.expression.Expr.{Expr}
use Rattle.nddl_ast.specs.declared.expression.Expr.TheVariants as exprs
use Rattle.nddl_ast.specs.declared.kind.TextKind.TheVariants as faults
use Rattle.nddl_ast.specs.declared.name.Name.{Name}
use Rattle.nddl_ast.specs.declared.name.Path.{Path}
use Rattle.nddl_ast.specs.declared.statement.Ask.{Ask}
use Rattle.nddl_ast.specs.declared.statement.Call.{Call}
use Rattle.nddl_ast.specs.declared.statement.Condition.{Condition}
use Rattle.nddl_ast.specs.declared.statement.Variable.{Variable}
use Rattle.nddl_ast.specs.Block.{statements_of}
use Rattle.nddl_ast.specs.Path.{last_name, path_before}
use Rattle.nddl_ast.specs.Tree.{Statements, Nothing, Declares, Calls, Asks, Tests, Chooses, Repeats}
use Rattle.nddl_symbols.specs.declared.scope.Meaning.{Meaning}
use Rattle.nddl_symbols.specs.Finding.{faults_here}
use Rattle.nddl_symbols.specs.Repeats.{repeated_fault}
use Rattle.nddl_symbols.specs.Scope.{meaning_of}
use Rattle.nddl_typeexpr.specs.declared.kind.TypeKind.{TypeKind}
use Rattle.nddl_typeexpr.specs.declared.kind.TypeKind.TheVariants as kinds
use Rattle.nddl_typeexpr.specs.Bases.{base_extent, base_fault, base_kind, meaning_kind}
use Rattle.nddl_hierarchy.specs.Facts.{Facts}
use Rattle.nddl_declarations.specs.Classes.{class_meaning_fault}
use Rattle.nddl_resolve.specs.declared.denoted.Denoted.{Denoted}
use Rattle.nddl_resolve.specs.declared.denoted.Denoted.TheVariants as denoted
use Rattle.nddl_resolve.specs.declared.denoted.TokenSort.{TokenSort}
use Rattle.nddl_resolve.specs.Following.{Understood, named_token, or_faulty, understood_faults, unknown_at}
use Rattle.nddl_resolve.specs.Paths.{Surroundings, asked_token, path_denoted}
use Rattle.nddl_rule_check.specs.declared.asked.Asked.{Asked}
use Rattle.nddl_rule_check.specs.Arguments.{are_decimals, arguments_faults, condition_faults, constraint_faults, init_faults}
use Rattle.nddl_rule_check.specs.Blocks.{block_faults, local_faults, local_value, object_unless, slot_faults, slot_value, turn_faults, turn_value}
use Rattle.nddl_rule_check.specs.Calls.{body_call_faults, constraint_call_faults, named_call_faults, no_act_faults, rule_call_faults}
use Rattle.nddl_rule_check.specs.Constraints.{asked_among, constraint_named, constraint_words, relation_named, takes}
use Rattle.nddl_rule_check.specs.Rules.{part_rule_faults}
use Rattle.nddl_rule_check.specs.Seeing.{seeing_label, seeing_local, seeing_turn}
use Rattle.nddl_rule_check.specs.Slots.{ask_faults, is_label, labelled_slot, related_names, relation_faults, slot_names, unwanted_faults}
use Rattle.nddl_rule_check.specs.Types.{local_bounds_faults, local_type_faults}
use Rattle.nddl_terms.specs.declared.growth.Growth.{Growth}
use Rattle.nddl_terms.specs.declared.lexicon.Shape.{Shape}
use Rattle.nddl_terms.specs.declared.stands.Made.{Made}
use Rattle.nddl_terms.specs.declared.stands.Stand.{Stand}
use Rattle.nddl_terms.specs.declared.stands.Stand.TheVariants as stands
use Rattle.nddl_terms.specs.declared.tree.Meaning as tree
use Rattle.nddl_terms.specs.declared.tree.ReadName.{ReadName}
use Rattle.nddl_terms.specs.Growth.{with_last_entry}
use Rattle.nddl_terms.specs.Lexicon.{class_objects, pred_class}
use Rattle.nddl_terms.specs.Names.{name_read_at}
use Rattle.nddl_terms.specs.Readings.{Readings}
use Rattle.nddl_terms.specs.Stands.{declared_stand, first_stand}
use Rattle.nddl_lower.specs.Arguments.{condition_guard}
use Rattle.nddl_lower.specs.Calls.{with_ask, with_call}
use Rattle.nddl_lower.specs.Locals.{base_shape, bounds_base, meaning_shape, type_shape, with_base, with_text_local}
use Rattle.nddl_lower.specs.Slots.{asked_labelled, asked_path}
use Rattle.nddl_rules.specs.declared.sight.Tally.{Tally}
use Rattle.nddl_rules.specs.Blocks.{asks_slot, block_names, call_tally, has_long_path, tallied}
use Rattle.nddl_rules.specs.Collected.{part_statements}
use Rattle.nddl_rules.specs.Reads.{asked_read, base_read, bounds_read, condition_read, exprs_read, front_read, init_read, local_read, read_at, scope_meaning, scope_read, type_read}
use Rattle.nddl_rules.specs.Sight.{Sight, with_label, with_rule_local, with_turn}
use Rattle.nddl_rules.specs.Tally.{local_more, slot_more, turn_more}
use Rattle.nddl_unroll.specs.Blocks.{all_turns, back_in, filled_block, in_block, stand_turns, turn_of, turn_stands, unrolled}
use Rattle.nddl_unroll.specs.Meant.{AreExprsMeant, AreMeant, InEachTurn, IsAskMeant, IsCallMeant, IsConstraintMeant, IsRelatedMeant, IsRelationMeant}
use Rattle.nddl_laws.specs.Scoping.{AreAlike, RuleGround, file_read, sources_in}
use Rattle.nddl_laws.proofs.Nothing.{none_first, none_second}
use Rattle.nddl_laws.proofs.Values.{no_fault}
use Rattle.nddl_rule_laws.proofs.Arguments.{condition_meant, exprs_meant, init_meant, token_meant, understood}
use Rattle.nddl_rule_laws.proofs.Fits.{Fits, ShapeFits, TokenFits, named_fits, token_there}
use Rattle.nddl_rule_laws.proofs.Kept.{AsksIf, Keeps, SameMade, ask_made, call_made, condition_made, declared_last, keeps_fewer, keeps_if, keeps_local, keeps_same, keeps_slot, keeps_then, ask_asks, local_made, makes_nothing, makes_slot}
use Rattle.nddl_rule_laws.proofs.Placing.{AreAt, AreSingle, IsSingle, IsWithin, call_within, local_within, slot_within, tallied_within, turn_within, within_both, within_itself}
use Rattle.nddl_rule_laws.proofs.Rising.{AreOnce}
use Rattle.nddl_rule_laws.proofs.Sights.{InNames, IsSetting, Sees, Suits, all_first, all_second, class_fits, file_alike, label_fits, sees_kept, sees_label, sees_local, sees_turn}

-- ---- calls

-- no constraint is called like a relation
constraints_differ : AllByRecursion (λ (word : List ℕ × Kind). relation_named word.0 ≡ None) constraint_words
unfolding relation_named
constraints_differ = (refl, (refl, (refl, (refl, (refl, (refl, (refl, (refl, (refl, tt)))))))))

among : (name : List ℕ) (kind : Kind) (words : List (List ℕ × Kind)) → AllByRecursion (λ (word : List ℕ × Kind). relation_named word.0 ≡ None) words
    → lookup (λ word. bytes_eq name word) words ≡ Some kind → relation_named name ≡ None
among name kind [] all is = absurd (none-some kind is)
among name kind (word ∷ more) all is = by (bytes_eq name word.0) refl is (λ rest. among name kind more all.1 rest)
  where
    by : (b : Bool) → bytes_eq name word.0 ≡ b → cond b (Some word.1) (lookup (λ word. bytes_eq name word) more) ≡ Some kind
        → (lookup (λ word. bytes_eq name word) more ≡ Some kind → relation_named name ≡ None) → relation_named name ≡ None
    by true same found rest = ap relation_named ((bytes_eq-Decides name word.0).0 same) ∙ all.0
    by false differ found rest = rest found

pub no_relation : (name : List ℕ) (kind : Kind) → constraint_named name ≡ Some kind → relation_named name ≡ None
unfolding constraint_named
no_relation name kind is = among name kind constraint_words constraints_differ is

-- so the name of a constraint with which nothing is wrong is none of a relation
pub constraint_free : (facts : Facts) (around : Surroundings) (decl : ℕ) (word : Name) (some : List Expr)
    → constraint_call_faults facts around decl word some ≡ [] → relation_named word.text ≡ None
constraint_free facts around decl word some none = by (constraint_named word.text) refl none
  where
    by : (o : Option Kind) → constraint_named word.text ≡ o
        → option_map_or (λ kind. constraint_faults facts around decl kind word.at some) o (faults_here decl word.at (Some faults.Unknown)) ≡ []
        → relation_named word.text ≡ None
    by None is one = absurd (cc)
    by (Some kind) is one = no_relation word.text kind is

-- a call with which nothing is wrong is no act
act_wrong : (decl : ℕ) (act : Name) (u : Understood) → no_act_faults decl act u ≡ [] → ⊥
act_wrong decl act (Ok meant) none = cc
act_wrong decl act (Err fault) none = cc

pub named_fine : (facts : Facts) (around : Surroundings) (decl : ℕ) (call : Call) → rule_call_faults facts around decl call ≡ []
    → named_call_faults facts around decl call.path.first call.arguments ≡ []
named_fine facts around decl call none = by (path_before call.path) none
  where
    by : (o : Option Path)
        → option_map_or (λ front. no_act_faults decl (last_name call.path) (path_denoted facts around front)) o
        (named_call_faults facts around decl call.path.first call.arguments) ≡ []
        → named_call_faults facts around decl call.path.first call.arguments ≡ []
    by None one = one
    by (Some front) one = absurd (act_wrong decl (last_name call.path) (path_denoted facts around front) one)

pub body_fine : (facts : Facts) (around : Surroundings) (decl : ℕ) (call : Call) → body_call_faults facts around decl call ≡ []
    → constraint_call_faults facts around decl call.path.first call.arguments ≡ []
body_fine facts around decl call none = by (path_before call.path) none
  where
    by : (o : Option Path)
        → option_map_or (λ front. no_act_faults decl (last_name call.path) (path_denoted facts around front)) o
        (constraint_call_faults facts around decl call.path.first call.arguments) ≡ []
        → constraint_call_faults facts around decl call.path.first call.arguments ≡ []
    by None one = one
    by (Some front) one = absurd (act_wrong decl (last_name call.path) (path_denoted facts around front) one)

-- a relation with which nothing is wrong has one argument
single_call : (facts : Facts) (around : Surroundings) (decl : ℕ) (call : Call) → rule_call_faults facts around decl call ≡ [] → IsSingle call
single_call facts around decl call none is = by call.arguments refl told
  where
    told : relation_faults facts around decl call.path.first.at call.arguments ≡ []
    told =
        sym (ap (λ b. if b then relation_faults facts around decl call.path.first.at call.arguments
        else constraint_call_faults facts around decl call.path.first call.arguments) is) ∙ named_fine facts around decl call none

    by : (some : List Expr) → call.arguments ≡ some → relation_faults facts around decl call.path.first.at some ≡ []
        → (expr : Expr) × (call.arguments ≡ expr ∷ [])
    by [] same one = absurd (cc)
    by (expr ∷ []) same one = (expr, same)
    by (expr ∷ other ∷ more) same one = absurd (cc)

-- so does each in a block
pub all_single : (facts : Facts) (decl : ℕ) (around : Surroundings) (own : Noted) (statements : Statements) → block_faults facts decl around own statements ≡ []
    → AreSingle statements
all_single facts decl around own Nothing none = tt
all_single facts decl around own (Declares variable more) none =
    all_single facts decl (seeing_local around variable.name (local_value facts variable)) (with_noted own variable.name.text 0) more
    (none_second (local_faults facts around decl own variable)
    (block_faults facts decl (seeing_local around variable.name (local_value facts variable)) (with_noted own variable.name.text 0) more) none)
all_single facts decl around own (Calls call more) none =
    let first = rule_call_faults facts around decl call in
    let second = block_faults facts decl around own more in
    (single_call facts around decl call (none_first first second none), all_single facts decl around own more (none_second first second none))
all_single facts decl around own (Asks ask more) none =
    all_single facts decl (seeing_label around ask.label (slot_value facts around ask)) (with_noted own ask.label.text 0) more
    (none_second (slot_faults facts around decl own ask)
    (block_faults facts decl (seeing_label around ask.label (slot_value facts around ask)) (with_noted own ask.label.text 0) more) none)
all_single facts decl around own (Tests at condition then_at chosen more) none =
    let first = condition_faults facts around decl condition in
    let second = block_faults facts decl around [] chosen in
    let third = block_faults facts decl around own more in
    let rest : second ++ third ≡ [] = none_second first (second ++ third) none in
    (all_single facts decl around [] chosen (none_first second third rest), all_single facts decl around own more (none_second second third rest))
all_single facts decl around own (Chooses at condition then_at chosen else_at left more) none =
    let first = condition_faults facts around decl condition in
    let second = block_faults facts decl around [] chosen in
    let third = block_faults facts decl around [] left in
    let fourth = block_faults facts decl around own more in
    let rest : second ++ (third ++ fourth) ≡ [] = none_second first (second ++ (third ++ fourth)) none in
    let last : third ++ fourth ≡ [] = none_second second (third ++ fourth) rest in (
      all_single facts decl around [] chosen (none_first second (third ++ fourth) rest),
      (all_single facts decl around [] left (none_first third fourth last), all_single facts decl around own more (none_second third fourth last)),
    )
all_single facts decl around own (Repeats at name class body_at body more) none =
    let first = turn_faults facts decl class in
    let second = block_faults facts decl (seeing_turn around name (turn_value facts class)) [] body in
    let third = block_faults facts decl around own more in
    let rest : second ++ third ≡ [] = none_second first (second ++ third) none in (
      all_single facts decl (seeing_turn around name (turn_value facts class)) [] body (none_first second third rest),
      all_single facts decl around own more (none_second second third rest),
    )

module _ (IsFor : Meaning → ℕ → Type 0) (IsPredFor : TokenSort → ℕ → Type 0) (IsThing : ℕ → ℤ → Type 0)
    (IsHeld : Stand → Type 0) (files : List FileDecls) (ground : RuleGround)
    (reading : Readings) (setting : IsSetting IsFor IsPredFor IsThing IsHeld files ground reading) (once : AreOnce reading.places) where
  abbrev pub Sights : Tally → List Made → Growth → Surroundings → Sight → Type 0
  Sights = Sees IsFor IsPredFor IsThing IsHeld files ground reading setting

  abbrev pub Fitting : Denoted → Stand → Type 0
  Fitting = Suits IsFor IsPredFor IsThing IsHeld

  abbrev pub Stays : Tally → Growth → Growth → Type 0
  Stays = Keeps reading.places once.locals once.slots

  abbrev pub Named : ReadName → Type 0
  Named read = name_read_at read.at reading.names ≡ Some read.meaning

  abbrev pub IsToken : Denoted → Option ℕ → Type 0
  IsToken = TokenFits IsFor IsPredFor IsThing ground.facts reading setting.serves

  -- what the rule has further on leaves what is seen
  pub further : (few many : Tally) (turns : List Made) (old new : Growth) (around : Surroundings) (sight : Sight) → IsWithin few many → Stays few old new
      → Sights few turns old around sight → Sights many turns new around sight
  further few many turns old new around sight within stays sees =
      sees_kept IsFor IsPredFor IsThing IsHeld files ground reading setting once.locals once.slots few many turns old new around sight within stays sees

  pub stays_fewer : (few many : Tally) (old new : Growth) → IsWithin few many → Stays many old new → Stays few old new
  stays_fewer few many old new within stays = keeps_fewer reading.places once.locals once.slots few many old new within.locals within.slots stays

  pub stays_then : (tally : Tally) (old between new : Growth) → Stays tally old between → Stays tally between new → Stays tally old new
  stays_then tally old between new first second = keeps_then reading.places once.locals once.slots tally old between new first second

  pub stays_same : (tally : Tally) (old new : Growth) → SameMade old new → Stays tally old new
  stays_same tally old new same = keeps_same reading.places once.locals once.slots tally old new same

  -- ---- what the rule has further on

  pub call_stays : (tally : Tally) (turns : List Made) (call : Call) (growth : Growth)
      → (asks_slot call ≡ true → slice_get reading.places.slots tally.slots ≡ Some call.path.first.at) → Stays tally growth (with_call reading turns call growth)
  call_stays tally turns call growth at = elim (call_made reading turns call growth) [
    | makes_nothing same ↦ stays_same tally growth (with_call reading turns call growth) same
    | makes_slot pred asks slot ↦
        keeps_slot reading.places once.locals once.slots tally call.path.first.at pred growth (with_call reading turns call growth) (at asks) slot
  ]

  pub ask_stays : (tally : Tally) (turns : List Made) (ask : Ask) (growth : Growth) → slice_get reading.places.slots tally.slots ≡ Some ask.label.at
      → Stays tally growth (with_ask reading turns ask growth)
  ask_stays tally turns ask growth at = elim (ask_made reading turns ask growth) [
    | inl same ↦ stays_same tally growth (with_ask reading turns ask growth) same
    | inr made ↦
        keeps_if reading.places once.locals once.slots tally ask.label.at (asked_labelled reading turns ask.path ask.path.rest growth).wanted.pred growth
        (with_ask reading turns ask growth) at made
  ]

  pub turns_stay : (tally : Tally) (turn : Stand → Growth → Growth) (objects : List Stand) (growth : Growth)
      → ((object : Stand) (inner : Growth) → Stays tally inner (turn object inner)) → Stays tally growth (all_turns turn objects growth)
  turns_stay tally turn [] growth each = stays_same tally growth growth (record { named = refl; asked = refl })
  turns_stay tally turn (object ∷ more) growth each =
      stays_then tally growth (turn object growth) (all_turns turn more (turn object growth)) (each object growth)
      (turns_stay tally turn more (turn object growth) each)

  -- behind a block nothing has come but what is declared in it
  pub block_stays : (tally : Tally) (growth filled : Growth) (turns : List Made) (condition : Condition) → Stays tally (in_block (condition_guard reading turns condition growth).growth) filled
      → Stays tally growth filled
  block_stays tally growth filled turns condition inside =
      let tested = condition_guard reading turns condition growth in
      let same = condition_made reading turns condition growth in
      stays_then tally growth (in_block tested.growth) filled
      (stays_same tally growth (in_block tested.growth) (record { named = same.named; asked = same.asked })) inside

  pub unrolled_stays : (statements : Statements) (tally : Tally) (turns : List Made) (growth : Growth) → AreAt reading.places tally statements
      → Stays tally growth (unrolled reading turns statements growth)
  unrolled_stays Nothing tally turns growth at = stays_same tally growth growth (record { named = refl; asked = refl })
  unrolled_stays (Declares variable more) tally turns growth at =
      let next = with_text_local reading turns variable growth in
      let shape = type_shape reading turns growth variable.declared in
      stays_then tally growth next (unrolled reading turns more next)
      (keeps_local reading.places once.locals once.slots tally variable.name.at shape growth next at.0 (local_made reading turns variable growth))
      (stays_fewer tally (local_more tally) next (unrolled reading turns more next) (local_within tally) (unrolled_stays more (local_more tally) turns next at.1))
  unrolled_stays (Calls call more) tally turns growth at =
      let next = with_call reading turns call growth in
      stays_then tally growth next (unrolled reading turns more next) (call_stays tally turns call growth at.0)
      (stays_fewer tally (call_tally tally call) next (unrolled reading turns more next) (call_within tally call)
      (unrolled_stays more (call_tally tally call) turns next at.1))
  unrolled_stays (Asks ask more) tally turns growth at =
      let next = with_ask reading turns ask growth in
      stays_then tally growth next (unrolled reading turns more next) (ask_stays tally turns ask growth at.0)
      (stays_fewer tally (slot_more tally) next (unrolled reading turns more next) (slot_within tally) (unrolled_stays more (slot_more tally) turns next at.1))
  unrolled_stays (Tests at_if condition then_at chosen more) tally turns growth at =
      let tested = condition_guard reading turns condition growth in
      let filled = unrolled reading turns chosen (in_block tested.growth) in
      let next = with_last_entry (entries.Branch tested.guard (filled_block filled) (plain_entries [])) (back_in tested.growth.entries filled) in
      let behind = tallied tally chosen in
      stays_then tally growth filled (unrolled reading turns more next)
      (block_stays tally growth filled turns condition (unrolled_stays chosen tally turns (in_block tested.growth) at.0))
      (stays_then tally filled next (unrolled reading turns more next) (stays_same tally filled next (record { named = refl; asked = refl }))
      (stays_fewer tally behind next (unrolled reading turns more next) (tallied_within tally chosen) (unrolled_stays more behind turns next at.1)))
  unrolled_stays (Chooses at_if condition then_at chosen else_at left more) tally turns growth at =
      let tested = condition_guard reading turns condition growth in
      let filled = unrolled reading turns chosen (in_block tested.growth) in
      let other = unrolled reading turns left (in_block filled) in
      let next = with_last_entry (entries.Branch tested.guard (filled_block filled) (filled_block other)) (back_in tested.growth.entries other) in
      let behind = tallied tally chosen in
      let last = tallied behind left in
      stays_then tally growth filled (unrolled reading turns more next)
      (block_stays tally growth filled turns condition (unrolled_stays chosen tally turns (in_block tested.growth) at.0))
      (stays_then tally filled other (unrolled reading turns more next)
      (stays_then tally filled (in_block filled) other (stays_same tally filled (in_block filled) (record { named = refl; asked = refl }))
      (stays_fewer tally behind (in_block filled) other (tallied_within tally chosen) (unrolled_stays left behind turns (in_block filled) at.1.0)))
      (stays_then tally other next (unrolled reading turns more next) (stays_same tally other next (record { named = refl; asked = refl }))
      (stays_fewer tally last next (unrolled reading turns more next)
      (within_both tally behind last (tallied_within tally chosen) (tallied_within behind left)) (unrolled_stays more last turns next at.1.1))))
  unrolled_stays (Repeats at_each name class body_at body more) tally turns growth at =
      let turn : Stand → Growth → Growth = λ object inner. unrolled reading (turns ++ turn_of name object ∷ []) body inner in
      let objects = stand_turns reading.lexicon (first_stand reading turns growth class.at) in
      let next = all_turns turn objects growth in
      let inside = turn_more tally in
      let behind = tallied inside body in
      stays_then tally growth next (unrolled reading turns more next)
      (turns_stay tally turn objects growth (λ object inner.
      stays_fewer tally inside inner (turn object inner) (turn_within tally) (unrolled_stays body inside (turns ++ turn_of name object ∷ []) inner at.1.0)))
      (stays_fewer tally behind next (unrolled reading turns more next)
      (within_both tally inside behind (turn_within tally) (tallied_within inside body)) (unrolled_stays more behind turns next at.1.1))

  -- ---- types of locals

  abbrev pub Shaped : TypeKind → Shape → Type 0
  Shaped = ShapeFits IsFor IsPredFor IsThing

  based_fits : (kind : TypeKind) (shape : Shape) (o : Option Base) → Shaped kind shape → Shaped kind (with_base shape o)
  based_fits kind shape None fits = fits
  based_fits kind shape (Some base) fits = fits

  base_fits : (base : BaseType) (kind : TypeKind) → InNames reading.names (base_read (sources_in ground).scope base)
      → base_kind ground.facts.names ground.facts.known base ≡ Some kind → Shaped kind (base_shape reading base)
  base_fits bases.Int kind names is = subst (λ k. Shaped k (base_shape reading bases.Int)) (same_Some kinds.Int kind is) (refl, tt)
  base_fits bases.Bool kind names is = subst (λ k. Shaped k (base_shape reading bases.Bool)) (same_Some kinds.Bool kind is) (refl, tt)
  base_fits bases.Float kind names is = subst (λ k. Shaped k (base_shape reading bases.Float)) (same_Some kinds.Float kind is) (refl, tt)
  base_fits bases.Str kind names is = absurd (none-some kind is)
  base_fits (bases.Named name) kind names is =
      by (meaning_of ground.facts.names name.text) refl (scope_meaning (sources_in ground).scope name.text) refl
      (file_alike IsFor IsPredFor IsThing IsHeld files ground reading setting name.text) is
    where
      by : (o : Option Meaning) → meaning_of ground.facts.names name.text ≡ o → (q : Option tree.Meaning) → scope_meaning (sources_in ground).scope name.text ≡ q
          → AreAlike (λ meaning read. file_read ground.facts.names ground.scope read ≡ Some meaning) o q
          → option_and_then (meaning_kind ground.facts.names ground.facts.known) o ≡ Some kind
          → Shaped kind (base_shape reading (bases.Named name))
      by None means q there alike found = absurd (none-some kind found)
      by (Some meaning) means None there alike found = absurd alike
      by (Some meaning) means (Some read) there alike found =
          let one = subst (λ o. InNames reading.names (read_at name.at o)) there names in
          subst (λ o. Shaped kind (meaning_shape reading.lexicon o)) (sym one.0)
          (setting.bases_fit name.text read meaning kind means alike found)

  pub local_fits : (turns : List Made) (growth : Growth) (around : Surroundings) (sight : Sight) (decl number : ℕ) (variable : Variable)
      → InNames reading.names (type_read (sources_in ground) sight variable.declared) → local_type_faults ground.facts around decl variable.declared ≡ []
      → Fits IsFor IsPredFor IsThing (local_value ground.facts variable)
      (stands.Value (terms.Local number) (type_shape reading turns growth variable.declared).kind (type_shape reading turns growth variable.declared).class)
  unfolding local_type_faults
  local_fits turns growth around sight decl number variable names none =
      let of = variable.declared in
      let extent = base_extent ground.facts.names ground.facts.known of.base in
      let first = faults_here decl of.at (base_fault ground.facts.names of.base) in
      let second = option_map_or (λ (kind : TypeKind). local_bounds_faults ground.facts around kind extent decl of.bounds)
      (base_kind ground.facts.names ground.facts.known of.base) [] in
      let right = no_fault decl of.at (base_fault ground.facts.names of.base) (none_first first second none) in
      let kind = setting.bases_mean of.base right in
      let own = all_first Named (base_read (sources_in ground).scope of.base) (bounds_read (sources_in ground) sight of.bounds) names in
      let shape = base_shape reading of.base in
      let fits = based_fits kind.0 shape (bounds_base reading turns growth shape.kind of.bounds) (base_fits of.base kind.0 own kind.1) in
      subst (λ (o : Option TypeKind). Fits IsFor IsPredFor IsThing (option_map_or (λ (k : TypeKind). denoted.Value k false) o denoted.Faulty)
      (stands.Value (terms.Local number) (type_shape reading turns growth of).kind (type_shape reading turns growth of).class)) (sym kind.1)
      (fits.0, fits.1, tt)

  -- ---- calls

  constraint_meant : (tally : Tally) (turns : List Made) (growth : Growth) (around : Surroundings) (sight : Sight) (decl : ℕ) (word : Name) (some : List Expr)
      → Sights tally turns growth around sight → InNames reading.names (exprs_read (sources_in ground) sight some)
      → constraint_call_faults ground.facts around decl word some ≡ [] → IsConstraintMeant reading turns word some growth
  constraint_meant tally turns growth around sight decl word some sees names none = by (constraint_named word.text) none
    where
      counted : (asks : ℕ → Asked) (b : Bool)
          → (if b then arguments_faults ground.facts around decl asks 0 None some else faults_here decl word.at (Some faults.WrongCount)) ≡ []
          → AreExprsMeant reading turns some growth
      counted asks true one =
          exprs_meant IsFor IsPredFor IsThing IsHeld files ground reading setting once.locals once.slots tally turns growth around sight decl asks 0 None some sees names one
      counted asks false one = absurd (cc)

      by : (o : Option Kind)
          → option_map_or (λ kind. constraint_faults ground.facts around decl kind word.at some) o (faults_here decl word.at (Some faults.Unknown)) ≡ []
          → IfSome o (λ kind. AreExprsMeant reading turns some growth)
      by None one = absurd (cc)
      by (Some kind) one = counted (asked_among (are_decimals ground.facts around kind 0 some) kind) (takes kind (length some)) one

  related_meant : (tally : Tally) (turns : List Made) (growth : Growth) (around : Surroundings) (sight : Sight) (decl : ℕ) (path : Path) (rest : List Name)
      → Sights tally turns growth around sight → InNames reading.names (front_read (sources_in ground) sight path.first)
      → related_names ground.facts around decl path rest ≡ [] → IsRelatedMeant reading turns path rest growth
  related_meant tally turns growth around sight decl path [] sees names none = by (is_label around path.first.text) refl none
    where
      unwanted : (u : Understood) → unwanted_faults decl path.first.at u ≡ [] → ⊥
      unwanted (Ok meant) one = cc
      unwanted (Err fault) one = cc

      by : (b : Bool) → is_label around path.first.text ≡ b
          → (if b then [] else unwanted_faults decl path.first.at (path_denoted ground.facts around path)) ≡ [] → IsRelatedMeant reading turns path [] growth
      by true label one = label_fits IsFor IsPredFor IsThing IsHeld files ground reading setting tally turns growth around sight sees path.first names label
      by false label one = absurd (unwanted (path_denoted ground.facts around path) one)
  related_meant tally turns growth around sight decl path (name ∷ more) sees names none =
      let it = understood decl (asked_token ground.facts around path) none in
      token_there IsFor IsPredFor IsThing ground.facts reading setting.serves it.0 (asked_path reading turns path growth).wanted.pred
      (token_meant IsFor IsPredFor IsThing IsHeld files ground reading setting once.locals once.slots tally turns growth around sight path it.0 sees names it.1)

  relation_meant : (tally : Tally) (turns : List Made) (growth : Growth) (around : Surroundings) (sight : Sight) (decl at : ℕ) (some : List Expr)
      → Sights tally turns growth around sight → InNames reading.names (exprs_read (sources_in ground) sight some)
      → relation_faults ground.facts around decl at some ≡ [] → IsRelationMeant reading turns some growth
  relation_meant tally turns growth around sight decl at [] sees names none = tt
  relation_meant tally turns growth around sight decl at (exprs.Path path ∷ []) sees names none =
      related_meant tally turns growth around sight decl path path.rest sees (all_first Named (front_read (sources_in ground) sight path.first) [] names) none
  relation_meant tally turns growth around sight decl at (exprs.Literal literal ∷ []) sees names none = tt
  relation_meant tally turns growth around sight decl at (exprs.Path path ∷ other ∷ more) sees names none = tt
  relation_meant tally turns growth around sight decl at (exprs.Literal literal ∷ other ∷ more) sees names none = tt

  call_meant : (tally : Tally) (turns : List Made) (growth : Growth) (around : Surroundings) (sight : Sight) (decl : ℕ) (call : Call)
      → Sights tally turns growth around sight → InNames reading.names (exprs_read (sources_in ground) sight call.arguments)
      → named_call_faults ground.facts around decl call.path.first call.arguments ≡ [] → IsCallMeant reading turns call growth
  call_meant tally turns growth around sight decl call sees names none = by (relation_named call.path.first.text) none
    where
      by : (o : Option Rel)
          → (if is_some o then relation_faults ground.facts around decl call.path.first.at call.arguments
          else constraint_call_faults ground.facts around decl call.path.first call.arguments) ≡ []
          → MatchOption o (IsConstraintMeant reading turns call.path.first call.arguments growth) (λ relation. IsRelationMeant reading turns call.arguments growth)
      by None one = constraint_meant tally turns growth around sight decl call.path.first call.arguments sees names one
      by (Some relation) one = relation_meant tally turns growth around sight decl call.path.first.at call.arguments sees names one

  -- ---- relations with a label

  -- the token that is asked for is of a predicate that there is
  pub record LabelFits (turns : List Made) (growth : Growth) (around : Surroundings) (ask : Ask) : Type 0 where
    pub relation : Rel
    pub named : relation_named ask.word.text ≡ Some relation
    pub end : Denoted
    pub is : labelled_slot ground.facts around ask.path ≡ Ok end
    pub fits : IsToken end (asked_labelled reading turns ask.path ask.path.rest growth).wanted.pred

  pub label_there : (tally : Tally) (turns : List Made) (growth : Growth) (around : Surroundings) (sight : Sight) (decl : ℕ) (ask : Ask)
      → Sights tally turns growth around sight → InNames reading.names (asked_read (sources_in ground) sight ask.path.first ask.path.rest)
      → ask_faults ground.facts around decl ask ≡ [] → LabelFits turns growth around ask
  label_there tally turns growth around sight decl ask sees names none = by (relation_named ask.word.text) refl none
    where
      own : (end : Denoted) → option_map_or (λ (token : TokenSort). named_token ground.facts token.class ask.path.first) around.token (unknown_at ask.path.first.at) ≡ Ok end
          → named_token ground.facts ground.token.class ask.path.first ≡ Ok end
      own end one =
          sym (ap (λ (o : Option TokenSort). option_map_or (λ (token : TokenSort). named_token ground.facts token.class ask.path.first) o (unknown_at ask.path.first.at)) sees.token) ∙ one

      ends : (rest : List Name) (end : Denoted) → slot_names ground.facts around ask.path rest ≡ Ok end
          → InNames reading.names (asked_read (sources_in ground) sight ask.path.first rest)
          → IsToken end (asked_labelled reading turns ask.path rest growth).wanted.pred
      ends [] end one named =
          named_fits IsFor IsPredFor IsThing ground.facts reading setting.serves ground.token.class (pred_class reading.lexicon reading.pred) ask.path.first end
          setting.own_class (own end one)
      ends (name ∷ more) end one named =
          token_meant IsFor IsPredFor IsThing IsHeld files ground reading setting once.locals once.slots tally turns growth around sight ask.path end sees named one

      by : (o : Option Rel) → relation_named ask.word.text ≡ o
          → (if is_some o then understood_faults decl (labelled_slot ground.facts around ask.path) else faults_here decl ask.word.at (Some faults.Unknown)) ≡ []
          → LabelFits turns growth around ask
      by (Some relation) named one =
          let it = understood decl (labelled_slot ground.facts around ask.path) one in
          record { relation = relation; named = named; end = it.0; is = it.1; fits = ends ask.path.rest it.0 it.1 names }
      by None named one = absurd (cc)

  ask_meant : (turns : List Made) (growth : Growth) (around : Surroundings) (ask : Ask) → LabelFits turns growth around ask → IsAskMeant reading turns ask growth
  ask_meant turns growth around ask it = by (relation_named ask.word.text)
    where
      by : (o : Option Rel) → IfSome o (λ relation. IsSome (asked_labelled reading turns ask.path ask.path.rest growth).wanted.pred)
      by None = tt
      by (Some relation) =
          token_there IsFor IsPredFor IsThing ground.facts reading setting.serves it.end (asked_labelled reading turns ask.path ask.path.rest growth).wanted.pred it.fits

  -- ---- statements

  -- what stands for a label that is seen from here on
  pub record SlotFits (at : ℕ) (old new : Growth) (end : Denoted) : Type 0 where
    pub number : ℕ
    pub pred : ℕ
    pub asked : new.asked ≡ old.asked ++ record { at = at; stand = stands.Slot number pred } ∷ []
    pub fits : Fits IsFor IsPredFor IsThing end (stands.Slot number pred)
    pub there : (slot : Slot) × (slice_get new.slots number ≡ Some slot) × (slot.pred ≡ pred)

  pub slot_fits : (at : ℕ) (old new : Growth) (end : Denoted) (found : Option ℕ) → IsToken end found → AsksIf at old new found → SlotFits at old new end
  slot_fits at old new (denoted.Token token) (Some pred) is made = record { number = made.number; pred = pred; asked = made.asked; fits = is; there = made.there }
  slot_fits at old new (denoted.Token token) None is made = absurd is
  slot_fits at old new (denoted.Value kind constant) (Some pred) is made = absurd is
  slot_fits at old new (denoted.Value kind constant) None is made = absurd is
  slot_fits at old new (denoted.Class class) (Some pred) is made = absurd is
  slot_fits at old new (denoted.Class class) None is made = absurd is
  slot_fits at old new denoted.Faulty (Some pred) is made = absurd is
  slot_fits at old new denoted.Faulty None is made = absurd is

  -- a block in these turns, with what the rule has as it begins
  abbrev IsBlockMeant : Tally → Surroundings → Sight → Statements → Type 0
  IsBlockMeant tally around sight statements =
      (turns : List Made) (growth : Growth) → Sights tally turns growth around sight → AreMeant reading turns statements growth

  -- the block of a `foreach` in each of its turns
  turns_meant : (tally : Tally) (around : Surroundings) (sight : Sight) (name : Name) (meant : Denoted) (number : ℕ) (body : Statements)
      → slice_get reading.places.turns tally.turns ≡ Some name.at → AreAt reading.places (turn_more tally) body
      → ((value : ℤ) → IsThing number value → Fitting meant (stands.Value (terms.Lit value) value_kinds.Object number))
      → IsBlockMeant (turn_more tally) (seeing_turn around name meant) (with_turn sight name.text tally.turns) body
      → (turns : List Made) (values : List ℤ) (growth : Growth) → All (IsThing number) values → Sights tally turns growth around sight
      → InEachTurn (λ object inner. AreMeant reading (turns ++ turn_of name object ∷ []) body inner)
      (λ object inner. unrolled reading (turns ++ turn_of name object ∷ []) body inner) (turn_stands number values) growth
  turns_meant tally around sight name meant number body there at fits block turns [] growth things sees = tt
  turns_meant tally around sight name meant number body there at fits block turns (value ∷ more) growth things sees =
      let stand : Stand = stands.Value (terms.Lit value) value_kinds.Object number in
      let inside : List Made = turns ++ turn_of name stand ∷ [] in
      let next = unrolled reading inside body growth in
      let stays = stays_fewer tally (turn_more tally) growth next (turn_within tally) (unrolled_stays body (turn_more tally) inside growth at) in (
        block inside growth
            (sees_turn IsFor IsPredFor IsThing IsHeld files ground reading setting once.turns tally (turn_more tally) turns growth around sight name meant stand
            (turn_within tally) (omega arith) sees there (fits value (All-head (IsThing number) value more things))),
        turns_meant tally around sight name meant number body there at fits block turns more next (All-tail (IsThing number) value more things)
            (further tally tally turns growth next around sight (within_itself tally) stays sees),
      )

  -- what the variable of a `foreach` denotes
  pub turn_value_is : (class : Name) (meaning : Meaning) → meaning_of ground.facts.names class.text ≡ Some meaning
      → class_meaning_fault ground.facts.names (Some meaning) ≡ None → turn_value ground.facts class ≡ denoted.Value (kinds.Object meaning) true
  turn_value_is class meaning means right =
      ap (λ o. object_unless o (is_some (class_meaning_fault ground.facts.names o))) means ∙ ap (λ o. object_unless (Some meaning) (is_some o)) right

  pub block_meant : (all : (stand : Stand) → IsHeld stand) (decl : ℕ) (statements : Statements) (tally : Tally) (around : Surroundings) (sight : Sight) (own : Noted)
      → block_faults ground.facts decl around own statements ≡ [] → AreAt reading.places tally statements
      → InNames reading.names (block_names (sources_in ground) sight tally statements) → IsBlockMeant tally around sight statements
  block_meant all decl Nothing tally around sight own none at names turns growth sees = tt
  block_meant all decl (Declares variable more) tally around sight own none at names turns growth sees =
      let of = variable.declared in
      let meant = local_value ground.facts variable in
      let one = local_faults ground.facts around decl own variable in
      let two = block_faults ground.facts decl (seeing_local around variable.name meant) (with_noted own variable.name.text 0) more in
      let here : one ≡ [] = none_first one two none in
      let first = local_type_faults ground.facts around decl of in
      let second = repeated_fault decl own variable.name in
      let third = init_faults ground.facts around decl of variable.init in
      let typed = type_read (sources_in ground) sight of in
      let begun = init_read (sources_in ground) sight variable.init in
      let next_sight = with_rule_local sight variable.name.text tally.locals in
      let rest = block_names (sources_in ground) next_sight (local_more tally) more in
      let own_names = all_first Named (local_read (sources_in ground) sight variable) rest names in
      let next = with_text_local reading turns variable growth in
      let made = local_made reading turns variable growth in
      let shape = type_shape reading turns growth of in
      let stand : Stand = stands.Value (terms.Local made.number) shape.kind shape.class in
      let stays = keeps_local reading.places once.locals once.slots tally variable.name.at shape growth next at.0 made in
      let there : declared_stand reading.places.locals tally.locals next.named ≡ Some stand =
      ap (declared_stand reading.places.locals tally.locals) made.named ∙ declared_last reading.places.locals tally.locals variable.name.at growth.named stand at.0 in
      let fits = local_fits turns growth around sight decl made.number variable (all_first Named typed begun own_names) (none_first first (second ++ third) here) in (
        init_meant IsFor IsPredFor IsThing IsHeld files ground reading setting once.locals once.slots tally turns growth around sight decl of variable.init sees
            (all_second Named typed begun own_names) (none_second second third (none_second first (second ++ third) here)),
        block_meant all decl more (local_more tally) (seeing_local around variable.name meant) next_sight (with_noted own variable.name.text 0)
            (none_second one two none) at.1 (all_second Named (local_read (sources_in ground) sight variable) rest names) turns next
            (sees_local IsFor IsPredFor IsThing IsHeld files ground reading setting tally (local_more tally) turns next around sight variable.name meant stand (omega arith)
            (further tally (local_more tally) turns growth next around sight (local_within tally) stays sees) there (fits, all stand)),
      )
  block_meant all decl (Calls call more) tally around sight own none at names turns growth sees =
      let one = rule_call_faults ground.facts around decl call in
      let two = block_faults ground.facts decl around own more in
      let read = exprs_read (sources_in ground) sight call.arguments in
      let rest = block_names (sources_in ground) sight (call_tally tally call) more in
      let next = with_call reading turns call growth in (
        call_meant tally turns growth around sight decl call sees (all_first Named read rest names)
            (named_fine ground.facts around decl call (none_first one two none)),
        block_meant all decl more (call_tally tally call) around sight own (none_second one two none) at.1 (all_second Named read rest names) turns next
            (further tally (call_tally tally call) turns growth next around sight (call_within tally call) (call_stays tally turns call growth at.0) sees),
      )
  block_meant all decl (Asks ask more) tally around sight own none at names turns growth sees =
      let meant = slot_value ground.facts around ask in
      let one = slot_faults ground.facts around decl own ask in
      let two = block_faults ground.facts decl (seeing_label around ask.label meant) (with_noted own ask.label.text 0) more in
      let asking = none_first (ask_faults ground.facts around decl ask) (repeated_fault decl own ask.label) (none_first one two none) in
      let read = asked_read (sources_in ground) sight ask.path.first ask.path.rest in
      let next_sight = with_label sight ask.label.text tally.slots in
      let rest = block_names (sources_in ground) next_sight (slot_more tally) more in
      let next = with_ask reading turns ask growth in
      let it = label_there tally turns growth around sight decl ask sees (all_first Named read rest names) asking in
      let slot = slot_fits ask.label.at growth next it.end (asked_labelled reading turns ask.path ask.path.rest growth).wanted.pred it.fits
      (ask_asks reading turns ask growth it.relation it.named) in
      let stand : Stand = stands.Slot slot.number slot.pred in
      let there : declared_stand reading.places.slots tally.slots next.asked ≡ Some stand =
      ap (declared_stand reading.places.slots tally.slots) slot.asked ∙ declared_last reading.places.slots tally.slots ask.label.at growth.asked stand at.0 in
      let fits : Fits IsFor IsPredFor IsThing meant stand = subst (λ d. Fits IsFor IsPredFor IsThing d stand) (sym (ap or_faulty it.is)) slot.fits in (
        ask_meant turns growth around ask it,
        block_meant all decl more (slot_more tally) (seeing_label around ask.label meant) next_sight (with_noted own ask.label.text 0)
            (none_second one two none) at.1 (all_second Named read rest names) turns next
            (sees_label IsFor IsPredFor IsThing IsHeld files ground reading setting tally (slot_more tally) turns next around sight ask.label meant stand (omega arith)
            (further tally (slot_more tally) turns growth next around sight (slot_within tally) (ask_stays tally turns ask growth at.0) sees) there (fits, all stand) tt),
      )
  block_meant all decl (Tests at_if condition then_at chosen more) tally around sight own none at names turns growth sees =
      let one = condition_faults ground.facts around decl condition in
      let two = block_faults ground.facts decl around [] chosen in
      let three = block_faults ground.facts decl around own more in
      let left_faults : two ++ three ≡ [] = none_second one (two ++ three) none in
      let read = condition_read (sources_in ground) sight condition in
      let inside = block_names (sources_in ground) sight tally chosen in
      let behind = tallied tally chosen in
      let rest = block_names (sources_in ground) sight behind more in
      let left_names = all_second Named read (inside ++ rest) names in
      let tested = condition_guard reading turns condition growth in
      let filled = unrolled reading turns chosen (in_block tested.growth) in
      let next = with_last_entry (entries.Branch tested.guard (filled_block filled) (plain_entries [])) (back_in tested.growth.entries filled) in
      let same = condition_made reading turns condition growth in
      let begins = further tally tally turns growth (in_block tested.growth) around sight (within_itself tally)
      (stays_same tally growth (in_block tested.growth) (record { named = same.named; asked = same.asked })) sees in
      let stays = stays_then tally growth filled next
      (block_stays tally growth filled turns condition (unrolled_stays chosen tally turns (in_block tested.growth) at.0))
      (stays_same tally filled next (record { named = refl; asked = refl })) in (
        condition_meant IsFor IsPredFor IsThing IsHeld files ground reading setting once.locals once.slots tally turns growth around sight decl condition sees
            (all_first Named read (inside ++ rest) names) (none_first one (two ++ three) none),
        (
          block_meant all decl chosen tally around sight [] (none_first two three left_faults) at.0 (all_first Named inside rest left_names) turns (in_block tested.growth) begins,
          block_meant all decl more behind around sight own (none_second two three left_faults) at.1 (all_second Named inside rest left_names) turns next
              (further tally behind turns growth next around sight (tallied_within tally chosen) stays sees),
        ),
      )
  block_meant all decl (Chooses at_if condition then_at chosen else_at left more) tally around sight own none at names turns growth sees =
      let one = condition_faults ground.facts around decl condition in
      let two = block_faults ground.facts decl around [] chosen in
      let three = block_faults ground.facts decl around [] left in
      let four = block_faults ground.facts decl around own more in
      let left_faults : two ++ (three ++ four) ≡ [] = none_second one (two ++ (three ++ four)) none in
      let last_faults : three ++ four ≡ [] = none_second two (three ++ four) left_faults in
      let read = condition_read (sources_in ground) sight condition in
      let inside = block_names (sources_in ground) sight tally chosen in
      let behind = tallied tally chosen in
      let outside = block_names (sources_in ground) sight behind left in
      let last = tallied behind left in
      let rest = block_names (sources_in ground) sight last more in
      let left_names = all_second Named read (inside ++ (outside ++ rest)) names in
      let last_names = all_second Named inside (outside ++ rest) left_names in
      let tested = condition_guard reading turns condition growth in
      let filled = unrolled reading turns chosen (in_block tested.growth) in
      let other = unrolled reading turns left (in_block filled) in
      let next = with_last_entry (entries.Branch tested.guard (filled_block filled) (filled_block other)) (back_in tested.growth.entries other) in
      let same = condition_made reading turns condition growth in
      let begins = further tally tally turns growth (in_block tested.growth) around sight (within_itself tally)
      (stays_same tally growth (in_block tested.growth) (record { named = same.named; asked = same.asked })) sees in
      let first = stays_then tally growth filled (in_block filled)
      (block_stays tally growth filled turns condition (unrolled_stays chosen tally turns (in_block tested.growth) at.0))
      (stays_same tally filled (in_block filled) (record { named = refl; asked = refl })) in
      let second = stays_then tally growth (in_block filled) other first
      (stays_fewer tally behind (in_block filled) other (tallied_within tally chosen) (unrolled_stays left behind turns (in_block filled) at.1.0)) in
      let stays = stays_then tally growth other next second (stays_same tally other next (record { named = refl; asked = refl })) in (
        condition_meant IsFor IsPredFor IsThing IsHeld files ground reading setting once.locals once.slots tally turns growth around sight decl condition sees
            (all_first Named read (inside ++ (outside ++ rest)) names) (none_first one (two ++ (three ++ four)) none),
        (
          block_meant all decl chosen tally around sight [] (none_first two (three ++ four) left_faults) at.0 (all_first Named inside (outside ++ rest) left_names) turns
              (in_block tested.growth) begins,
          (
            block_meant all decl left behind around sight [] (none_first three four last_faults) at.1.0 (all_first Named outside rest last_names) turns (in_block filled)
                (further tally behind turns growth (in_block filled) around sight (tallied_within tally chosen) first sees),
            block_meant all decl more last around sight own (none_second three four last_faults) at.1.1 (all_second Named outside rest last_names) turns next
                (further tally last turns growth next around sight (within_both tally behind last (tallied_within tally chosen) (tallied_within behind left)) stays sees),
          ),
        ),
      )
  block_meant all decl (Repeats at_each name class body_at body more) tally around sight own none at names turns growth sees =
      let value = turn_value ground.facts class in
      let inside_tally = turn_more tally in
      let behind = tallied inside_tally body in
      let next_sight = with_turn sight name.text tally.turns in
      let one = turn_faults ground.facts decl class in
      let two = block_faults ground.facts decl (seeing_turn around name value) [] body in
      let three = block_faults ground.facts decl around own more in
      let left_faults : two ++ three ≡ [] = none_second one (two ++ three) none in
      let read = scope_read (sources_in ground).scope class in
      let inside = block_names (sources_in ground) next_sight inside_tally body in
      let rest = block_names (sources_in ground) sight behind more in
      let left_names = all_second Named read (inside ++ rest) names in
      let it = class_fits IsFor IsPredFor IsThing IsHeld files ground reading setting turns growth decl class (all_first Named read (inside ++ rest) names)
      (none_first one (two ++ three) none) in
      let turn : Stand → Growth → Growth = λ object inner. unrolled reading (turns ++ turn_of name object ∷ []) body inner in
      let meant : Denoted = denoted.Value (kinds.Object it.meaning) true in
      let value_is : value ≡ meant = turn_value_is class it.meaning it.means it.right in
      let fits : (one : ℤ) → IsThing it.number one → Fitting value (stands.Value (terms.Lit one) value_kinds.Object it.number) = λ one thing. (
        subst (λ d. Fits IsFor IsPredFor IsThing d (stands.Value (terms.Lit one) value_kinds.Object it.number)) (sym value_is) (refl, it.fits, thing),
        all (stands.Value (terms.Lit one) value_kinds.Object it.number),
      ) in
      let values = class_objects reading.lexicon it.number in
      let P : Stand → Type 0 = λ stand.
      InEachTurn (λ object inner. AreMeant reading (turns ++ turn_of name object ∷ []) body inner) turn (stand_turns reading.lexicon stand) growth
      × AreMeant reading turns more (all_turns turn (stand_turns reading.lexicon stand) growth) in
      let objects = turn_stands it.number values in
      let next = all_turns turn objects growth in
      let stays = turns_stay tally turn objects growth (λ object inner.
      stays_fewer tally inside_tally inner (turn object inner) (turn_within tally)
      (unrolled_stays body inside_tally (turns ++ turn_of name object ∷ []) inner at.1.0)) in
      subst P (sym it.stands_so) (
        turns_meant tally around sight name value it.number body at.0 at.1.0 fits
            (block_meant all decl body inside_tally (seeing_turn around name value) next_sight [] (none_first two three left_faults) at.1.0
            (all_first Named inside rest left_names))
            turns values growth (setting.things it.number) sees,
        block_meant all decl more behind around sight own (none_second two three left_faults) at.1.1 (all_second Named inside rest left_names) turns next
            (further tally behind turns growth next around sight (within_both tally inside_tally behind (turn_within tally) (tallied_within inside_tally body)) stays sees),
      )

  -- ---- constraints in the body of a predicate

  -- a constraint declares nothing
  pub constraint_stays : (turns : List Made) (growth : Growth) (call : Call) → relation_named call.path.first.text ≡ None
      → SameMade growth (with_call reading turns call growth)
  constraint_stays turns growth call none = elim (call_made reading turns call growth) [
    | makes_nothing same ↦ same
    | makes_slot pred asks slot ↦
        absurd (let e : false ≡ true = sym (ap (λ (o : Option Rel). is_some o && has_long_path call.arguments) none) ∙ asks in cc)
  ]

  body_call_meant : (tally : Tally) (turns : List Made) (growth : Growth) (around : Surroundings) (sight : Sight) (decl : ℕ) (call : Call)
      → Sights tally turns growth around sight → InNames reading.names (exprs_read (sources_in ground) sight call.arguments)
      → constraint_call_faults ground.facts around decl call.path.first call.arguments ≡ []
      → (relation_named call.path.first.text ≡ None) × IsCallMeant reading turns call growth
  body_call_meant tally turns growth around sight decl call sees names none =
      let free = constraint_free ground.facts around decl call.path.first call.arguments none in
      let meant = constraint_meant tally turns growth around sight decl call.path.first call.arguments sees names none in (
        free,
        subst (λ (o : Option Rel). MatchOption o (IsConstraintMeant reading turns call.path.first call.arguments growth)
            (λ relation. IsRelationMeant reading turns call.arguments growth)) (sym free) meant,
      )

  pub body_meant : (decl : ℕ) (some : List PredicatePart) (tally : Tally) (around : Surroundings) (sight : Sight)
      → flat_map (part_rule_faults ground.facts decl around) some ≡ []
      → InNames reading.names (block_names (sources_in ground) sight tally (statements_of (part_statements some)))
      → (turns : List Made) (growth : Growth) → Sights tally turns growth around sight → AreMeant reading turns (statements_of (part_statements some)) growth
  body_meant decl [] tally around sight none names turns growth sees = tt
  body_meant decl (parts.Parameter typed ∷ more) tally around sight none names turns growth sees =
      body_meant decl more tally around sight none names turns growth sees
  body_meant decl (parts.Constraint call ∷ more) tally around sight none names turns growth sees =
      let one = body_call_faults ground.facts around decl call in
      let two = flat_map (part_rule_faults ground.facts decl around) more in
      let read = exprs_read (sources_in ground) sight call.arguments in
      let rest = block_names (sources_in ground) sight (call_tally tally call) (statements_of (part_statements more)) in
      let it = body_call_meant tally turns growth around sight decl call sees (all_first Named read rest names)
      (body_fine ground.facts around decl call (none_first one two none)) in
      let next = with_call reading turns call growth in (
        it.1,
        body_meant decl more (call_tally tally call) around sight (none_second one two none) (all_second Named read rest names) turns next
            (further tally (call_tally tally call) turns growth next around sight (call_within tally call)
            (stays_same tally growth next (constraint_stays turns growth call it.0)) sees),
      )

-- What the statements of a rule stand for has lawful arguments, if nothing is wrong with them: one statement after another.
use Rattle.std.proofs.Common.{◌≡◌, ℕ, true, List, [], ◌∷◌, ◌++◌, ℤ, refl, sym, ◌∙◌, ap, subst, arith}
use Rattle.std.specs.Prelude.{Option, Some, None, All, slice_get}
use Rattle.std.specs.List.{flat_map}
use Rattle.std.specs.Option.{option_map_or}
use Rattle.std.proofs.lemmas.List.Elements.{All-head, All-tail}
use Rattle.eu_index.specs.Index.{Noted, with_noted}
use Rattle.model_core.specs.declared.item.Rel.{Rel}
use Rattle.model_core.specs.declared.item.Term.TheVariants as terms
use Rattle.model_core.specs.declared.model.Model.{Model}
use Rattle.model_core.specs.declared.rule.Entry.TheVariants as entries
use Rattle.model_core.specs.declared.rule.Rule.{Rule}
use Rattle.model_core.specs.declared.variable.ValueKind.TheVariants as value_kinds
use Rattle.model_core.specs.Block.{plain_entries}
use Rattle.nddl_ast.specs.declared.declaration.FileDecls.{FileDecls}
use Rattle.nddl_ast.specs.declared.declaration.PredicatePart.{PredicatePart}
use Rattle.nddl_ast.specs.declared.declaration.PredicatePart.TheVariants as pieces
use Rattle.nddl_ast.specs.declared.name.Name.{Name}
use Rattle.nddl_ast.specs.declared.statement.Call.{Call}
use Rattle.nddl_ast.specs.Block.{statements_of}
use Rattle.nddl_ast.specs.Tree.{Statements, Nothing, Declares, Calls, Asks, Tests, Chooses, Repeats}
use Rattle.nddl_symbols.specs.declared.scope.Meaning.{Meaning}
use Rattle.nddl_symbols.specs.Repeats.{repeated_fault}
use Rattle.nddl_typeexpr.specs.declared.kind.TypeKind.TheVariants as kinds
use Rattle.nddl_resolve.specs.declared.denoted.Denoted.{Denoted}
use Rattle.nddl_resolve.specs.declared.denoted.Denoted.TheVariants as denoted
use Rattle.nddl_resolve.specs.declared.denoted.TokenSort.{TokenSort}
use Rattle.nddl_resolve.specs.Following.{or_faulty}
use Rattle.nddl_resolve.specs.Paths.{Surroundings}
use Rattle.nddl_rule_check.specs.Arguments.{condition_faults, init_faults}
use Rattle.nddl_rule_check.specs.Blocks.{block_faults, local_faults, local_value, slot_faults, slot_value, turn_faults, turn_value}
use Rattle.nddl_rule_check.specs.Calls.{body_call_faults, constraint_call_faults, rule_call_faults}
use Rattle.nddl_rule_check.specs.Constraints.{relation_named}
use Rattle.nddl_rule_check.specs.Rules.{part_rule_faults}
use Rattle.nddl_rule_check.specs.Seeing.{seeing_label, seeing_local, seeing_turn}
use Rattle.nddl_rule_check.specs.Slots.{ask_faults}
use Rattle.nddl_rule_check.specs.Types.{local_type_faults}
use Rattle.nddl_terms.specs.declared.growth.Growth.{Growth}
use Rattle.nddl_terms.specs.declared.stands.Made.{Made}
use Rattle.nddl_terms.specs.declared.stands.Stand.{Stand}
use Rattle.nddl_terms.specs.declared.stands.Stand.TheVariants as stands
use Rattle.nddl_terms.specs.declared.tree.ReadName.{ReadName}
use Rattle.nddl_terms.specs.Growth.{unnamed, with_last_entry}
use Rattle.nddl_terms.specs.Lexicon.{class_objects}
use Rattle.nddl_terms.specs.Names.{name_read_at}
use Rattle.nddl_terms.specs.Readings.{Readings}
use Rattle.nddl_terms.specs.Stands.{declared_stand}
use Rattle.nddl_lower.specs.Arguments.{condition_guard}
use Rattle.nddl_lower.specs.Calls.{with_ask, with_call, with_constraint_named, with_relation_to}
use Rattle.nddl_lower.specs.Locals.{type_shape, with_text_local}
use Rattle.nddl_lower.specs.Slots.{asked_labelled}
use Rattle.nddl_rules.specs.declared.sight.Tally.{Tally}
use Rattle.nddl_rules.specs.Blocks.{block_names, call_tally, tallied}
use Rattle.nddl_rules.specs.Collected.{part_statements}
use Rattle.nddl_rules.specs.Reads.{asked_read, condition_read, exprs_read, init_read, local_read, scope_read, type_read}
use Rattle.nddl_rules.specs.Sight.{Sight, with_label, with_rule_local, with_turn}
use Rattle.nddl_rules.specs.Tally.{local_more, slot_more, turn_more}
use Rattle.nddl_unroll.specs.Blocks.{all_turns, back_in, filled_block, in_block, stand_turns, turn_of, turn_stands, unrolled}
use Rattle.nddl_laws.specs.Fine.{AreFineStatements, IsFineExpr}
use Rattle.nddl_laws.specs.Scoping.{RuleGround, sources_in}
use Rattle.nddl_laws.proofs.Nothing.{none_first, none_second}
use Rattle.nddl_rule_laws.proofs.Fits.{Fits}
use Rattle.nddl_rule_laws.proofs.Kept.{ask_asks, condition_made, declared_last, keeps_local, local_made}
use Rattle.nddl_rule_laws.proofs.Placing.{AreAt, IsWithin, call_within, local_within, slot_within, tallied_within, turn_within, within_both, within_itself}
use Rattle.nddl_rule_laws.proofs.Rising.{AreOnce}
use Rattle.nddl_rule_laws.proofs.Sights.{InNames, IsSetting, Sees, Suits, all_first, all_second, class_fits, sees_label, sees_local, sees_turn}
use Rattle.nddl_rule_laws.proofs.Statements.{Stays, ask_stays, block_stays, body_fine, call_stays, constraint_free, constraint_stays, further, label_there, local_fits, named_fine, slot_fits, stays_fewer, stays_same, stays_then, turn_value_is, turns_stay, unrolled_stays}
use Rattle.nddl_lowering_laws.specs.Fitting.{HasThings}
use Rattle.nddl_lowering_laws.proofs.Fitted.{StaysFit, ask_fitted, call_fitted, condition_fits, fit_both, local_fitted, named_fitted, reads_fit}
use Rattle.nddl_lowering_laws.proofs.Growing.{IsKeptByBranches, condition_kept, turns_kept, unrolled_kept}
use Rattle.nddl_lowering_laws.proofs.Held.{Grows, IsHeld, IsThingIn, LeadsTo, all_grow, leads_back}

branches_grow : IsKeptByBranches Grows
branches_grow guard outer filled second first last = record {
  locals = λ number local is. last.locals number local (first.locals number local is);
  slots = λ number slot is. last.slots number slot (first.slots number slot is);
}

module _ (IsFor : Meaning → ℕ → Type 0) (IsPredFor : TokenSort → ℕ → Type 0) (files : List FileDecls) (ground : RuleGround)
    (reading : Readings) (model : Model) (things : HasThings model reading.lexicon reading.objects) (rule : Rule)
    (setting : IsSetting IsFor IsPredFor (IsThingIn reading.lexicon) (IsHeld model reading.pred rule) files ground reading)
    (once : AreOnce reading.places) where
  abbrev Thing : ℕ → ℤ → Type 0
  Thing = IsThingIn reading.lexicon

  abbrev Held : Stand → Type 0
  Held = IsHeld model reading.pred rule

  abbrev Seen : Tally → List Made → Growth → Surroundings → Sight → Type 0
  Seen = Sees IsFor IsPredFor Thing Held files ground reading setting

  abbrev Leads : Growth → Type 0
  Leads = LeadsTo rule

  abbrev StayLawful : Growth → Growth → Type 0
  StayLawful = StaysFit model reading.pred rule

  abbrev IsNamed : ReadName → Type 0
  IsNamed read = name_read_at read.at reading.names ≡ Some read.meaning

  abbrev Keeping : Tally → Growth → Growth → Type 0
  Keeping = Stays IsFor IsPredFor Thing Held files ground reading setting once

  -- what the rule has behind these statements it has before them
  leads_before : (turns : List Made) (statements : Statements) (growth : Growth)
      → Leads (unrolled reading turns statements growth) → Leads growth
  leads_before turns statements growth leads =
      leads_back rule growth (unrolled reading turns statements growth)
      (unrolled_kept reading Grows (all_grow reading.lexicon) branches_grow turns statements growth) leads

  -- what is seen stays so
  seen_on : (few many : Tally) (turns : List Made) (old new : Growth) (around : Surroundings) (sight : Sight) → IsWithin few many
      → Keeping few old new → Seen few turns old around sight → Seen many turns new around sight
  seen_on = further IsFor IsPredFor Thing Held files ground reading setting once

  -- ---- turns

  -- the block with what the rule has as it begins
  abbrev IsBlockFit : Tally → Surroundings → Sight → Statements → Type 0
  IsBlockFit tally around sight statements =
      (turns : List Made) (growth : Growth) → Seen tally turns growth around sight
      → Leads (unrolled reading turns statements growth) → StayLawful growth (unrolled reading turns statements growth)

  -- the block of a `foreach` in each of its turns
  turns_fit : (tally : Tally) (around : Surroundings) (sight : Sight) (name : Name) (meant : Denoted) (number : ℕ)
      (body : Statements) → slice_get reading.places.turns tally.turns ≡ Some name.at → AreAt reading.places (turn_more tally)
      body → ((value : ℤ) → Thing number value → Suits IsFor IsPredFor Thing Held meant
      (stands.Value (terms.Lit value) value_kinds.Object number)) → IsBlockFit (turn_more tally) (seeing_turn around name meant)
      (with_turn sight name.text tally.turns) body → (turns : List Made) (values : List ℤ) (growth : Growth)
      → All (Thing number) values → Seen tally turns growth around sight
      → Leads (all_turns (λ object inner. unrolled reading (turns ++ turn_of name object ∷ []) body inner)
      (turn_stands number values) growth) → StayLawful growth
      (all_turns (λ object inner. unrolled reading (turns ++ turn_of name object ∷ []) body inner) (turn_stands number values)
      growth)
  turns_fit tally around sight name meant number body there at fits block turns [] growth each sees leads fit = fit
  turns_fit tally around sight name meant number body there at fits block turns (value ∷ more) growth each sees leads fit =
      let stand : Stand = stands.Value (terms.Lit value) value_kinds.Object number in
      let turn : Stand → Growth → Growth = λ object inner. unrolled reading (turns ++ turn_of name object ∷ []) body inner in
      let inside : List Made = turns ++ turn_of name stand ∷ [] in
      let next = unrolled reading inside body growth in
      let last = all_turns turn (turn_stands number more) next in
      let stays = stays_fewer IsFor IsPredFor Thing Held files ground reading setting once tally (turn_more tally) growth next
      (turn_within tally) (unrolled_stays IsFor IsPredFor Thing Held files ground reading setting once body (turn_more tally)
      inside growth at) in
      let begins : Leads next =
      leads_back rule next last
      (turns_kept reading Grows (all_grow reading.lexicon) branches_grow turn
      (λ object inner. unrolled_kept reading Grows (all_grow reading.lexicon) branches_grow (turns ++ turn_of name object ∷ [])
      body inner) (turn_stands number more) next) leads in
      turns_fit tally around sight name meant number body there at fits block turns more next
      (All-tail (Thing number) value more each) (seen_on tally tally turns growth next around sight (within_itself tally)
      stays sees) leads (block inside growth (sees_turn IsFor IsPredFor Thing Held files ground reading setting once.turns
      tally (turn_more tally) turns growth around sight name meant stand (turn_within tally) (omega arith) sees there
      (fits value (All-head (Thing number) value more each))) begins fit)

  -- ---- statements

  pub block_fits : (decl : ℕ) (statements : Statements) (tally : Tally) (around : Surroundings) (sight : Sight) (own : Noted)
      → block_faults ground.facts decl around own statements ≡ [] → AreAt reading.places tally statements
      → InNames reading.names (block_names (sources_in ground) sight tally statements) → AreFineStatements statements
      → IsBlockFit tally around sight statements
  block_fits decl Nothing tally around sight own none at names fine turns growth sees leads fit = fit
  block_fits decl (Declares variable more) tally around sight own none at names fine turns growth sees leads fit =
      let of = variable.declared in
      let meant = local_value ground.facts variable in
      let one = local_faults ground.facts around decl own variable in
      let two = block_faults ground.facts decl (seeing_local around variable.name meant) (with_noted own variable.name.text 0)
      more in
      let here : one ≡ [] = none_first one two none in
      let first = local_type_faults ground.facts around decl of in
      let second = repeated_fault decl own variable.name in
      let third = init_faults ground.facts around decl of variable.init in
      let typed = type_read (sources_in ground) sight of in
      let begun = init_read (sources_in ground) sight variable.init in
      let next_sight = with_rule_local sight variable.name.text tally.locals in
      let rest = block_names (sources_in ground) next_sight (local_more tally) more in
      let own_names = all_first IsNamed (local_read (sources_in ground) sight variable) rest names in
      let next = with_text_local reading turns variable growth in
      let begins : Leads next = leads_before turns more next leads in
      let made = local_made reading turns variable growth in
      let shape = type_shape reading turns growth of in
      let stand : Stand = stands.Value (terms.Local made.number) shape.kind shape.class in
      let stays = keeps_local reading.places once.locals once.slots tally variable.name.at shape growth next at.0 made in
      let there : declared_stand reading.places.locals tally.locals next.named ≡ Some stand =
      ap (declared_stand reading.places.locals tally.locals) made.named ∙ declared_last reading.places.locals tally.locals
      variable.name.at growth.named stand at.0 in
      let fits = local_fits IsFor IsPredFor Thing Held files ground reading setting once turns growth around sight decl
      made.number variable (all_first IsNamed typed begun own_names) (none_first first (second ++ third) here) in
      let held : Held stand = (unnamed shape, begins.locals made.number (unnamed shape) made.there, refl) in
      block_fits decl more (local_more tally) (seeing_local around variable.name meant) next_sight
      (with_noted own variable.name.text 0) (none_second one two none) at.1
      (all_second IsNamed (local_read (sources_in ground) sight variable) rest names) fine.1 turns next
      (sees_local IsFor IsPredFor Thing Held files ground reading setting tally (local_more tally) turns next around sight
      variable.name meant stand (omega arith) (seen_on tally (local_more tally) turns growth next around sight
      (local_within tally) stays sees) there (fits, held)) leads (local_fitted IsFor IsPredFor files ground reading model
      things rule setting once tally turns growth around sight decl variable sees own_names fine.0
      (none_first first (second ++ third) here) (none_second second third (none_second first (second ++ third) here)) begins fit)
  block_fits decl (Calls call more) tally around sight own none at names fine turns growth sees leads fit =
      let one = rule_call_faults ground.facts around decl call in
      let two = block_faults ground.facts decl around own more in
      let read = exprs_read (sources_in ground) sight call.arguments in
      let rest = block_names (sources_in ground) sight (call_tally tally call) more in
      let next = with_call reading turns call growth in
      block_fits decl more (call_tally tally call) around sight own (none_second one two none) at.1
      (all_second IsNamed read rest names) fine.1 turns next (seen_on tally (call_tally tally call) turns growth next around
      sight (call_within tally call) (call_stays IsFor IsPredFor Thing Held files ground reading setting once tally turns
      call growth at.0) sees) leads (call_fitted IsFor IsPredFor files ground reading model things rule setting once tally
      turns growth around sight decl call sees (all_first IsNamed read rest names) fine.0.1
      (named_fine ground.facts around decl call (none_first one two none)) (leads_before turns more next leads) fit)
  block_fits decl (Asks ask more) tally around sight own none at names fine turns growth sees leads fit =
      let meant = slot_value ground.facts around ask in
      let one = slot_faults ground.facts around decl own ask in
      let two = block_faults ground.facts decl (seeing_label around ask.label meant) (with_noted own ask.label.text 0) more in
      let asking = none_first (ask_faults ground.facts around decl ask) (repeated_fault decl own ask.label)
      (none_first one two none) in
      let read = asked_read (sources_in ground) sight ask.path.first ask.path.rest in
      let next_sight = with_label sight ask.label.text tally.slots in
      let rest = block_names (sources_in ground) next_sight (slot_more tally) more in
      let next = with_ask reading turns ask growth in
      let begins : Leads next = leads_before turns more next leads in
      let it = label_there IsFor IsPredFor Thing Held files ground reading setting once tally turns growth around sight decl ask
      sees (all_first IsNamed read rest names) asking in
      let slot = slot_fits IsFor IsPredFor Thing Held files ground reading setting once ask.label.at growth next it.end
      (asked_labelled reading turns ask.path ask.path.rest growth).wanted.pred it.fits
      (ask_asks reading turns ask growth it.relation it.named) in
      let stand : Stand = stands.Slot slot.number slot.pred in
      let there : declared_stand reading.places.slots tally.slots next.asked ≡ Some stand =
      ap (declared_stand reading.places.slots tally.slots) slot.asked ∙ declared_last reading.places.slots tally.slots
      ask.label.at growth.asked stand at.0 in
      let fits : Fits IsFor IsPredFor Thing meant stand = subst (λ d. Fits IsFor IsPredFor Thing d stand)
      (sym (ap or_faulty it.is)) slot.fits in
      let held : Held stand = (slot.there.0, begins.slots slot.number slot.there.0 slot.there.1, slot.there.2) in
      block_fits decl more (slot_more tally) (seeing_label around ask.label meant) next_sight (with_noted own ask.label.text 0)
      (none_second one two none) at.1 (all_second IsNamed read rest names) fine.1 turns next
      (sees_label IsFor IsPredFor Thing Held files ground reading setting tally (slot_more tally) turns next around sight
      ask.label meant stand (omega arith) (seen_on tally (slot_more tally) turns growth next around sight (slot_within tally)
      (ask_stays IsFor IsPredFor Thing Held files ground reading setting once tally turns ask growth at.0) sees) there
      (fits, held) tt) leads (ask_fitted IsFor IsPredFor files ground reading model things rule setting once tally turns
      growth around sight decl ask sees (all_first IsNamed read rest names) asking begins fit)
  block_fits decl (Tests at_if condition then_at chosen more) tally around sight own none at names fine turns growth sees leads
      fit =
      let one = condition_faults ground.facts around decl condition in
      let two = block_faults ground.facts decl around [] chosen in
      let three = block_faults ground.facts decl around own more in
      let left_faults : two ++ three ≡ [] = none_second one (two ++ three) none in
      let read = condition_read (sources_in ground) sight condition in
      let inside = block_names (sources_in ground) sight tally chosen in
      let behind = tallied tally chosen in
      let rest = block_names (sources_in ground) sight behind more in
      let left_names = all_second IsNamed read (inside ++ rest) names in
      let tested = condition_guard reading turns condition growth in
      let filled = unrolled reading turns chosen (in_block tested.growth) in
      let branch = entries.Branch tested.guard (filled_block filled) (plain_entries []) in
      let next = with_last_entry branch (back_in tested.growth.entries filled) in
      let next_leads : Leads next = leads_before turns more next leads in
      let filled_leads : Leads filled = record { locals = next_leads.locals; slots = next_leads.slots } in
      let begun_leads : Leads (in_block tested.growth) = leads_before turns chosen (in_block tested.growth) filled_leads in
      let tested_leads : Leads tested.growth = record { locals = begun_leads.locals; slots = begun_leads.slots } in
      let same = condition_made reading turns condition growth in
      let begins = seen_on tally tally turns growth (in_block tested.growth) around sight (within_itself tally)
      (stays_same IsFor IsPredFor Thing Held files ground reading setting once tally growth (in_block tested.growth)
      (record { named = same.named; asked = same.asked })) sees in
      let stays = stays_then IsFor IsPredFor Thing Held files ground reading setting once tally growth filled next
      (block_stays IsFor IsPredFor Thing Held files ground reading setting once tally growth filled turns condition
      (unrolled_stays IsFor IsPredFor Thing Held files ground reading setting once chosen tally turns (in_block tested.growth)
      at.0)) (stays_same IsFor IsPredFor Thing Held files ground reading setting once tally filled next
      (record { named = refl; asked = refl })) in
      let guard = condition_fits IsFor IsPredFor files ground reading model things rule setting once tally turns growth around
      sight decl condition sees (all_first IsNamed read (inside ++ rest) names) fine.0.0 (none_first one (two ++ three) none)
      tested_leads in
      let block = block_fits decl chosen tally around sight [] (none_first two three left_faults) at.0
      (all_first IsNamed inside rest left_names) fine.0.1 turns (in_block tested.growth) begins filled_leads tt in
      let before = condition_kept reading StayLawful (reads_fit model reading.pred rule) turns condition growth fit in
      block_fits decl more behind around sight own (none_second two three left_faults) at.1
      (all_second IsNamed inside rest left_names) fine.1 turns next (seen_on tally behind turns growth next around sight
      (tallied_within tally chosen) stays sees) leads (fit_both model reading.pred rule tested.growth.entries (branch ∷ [])
      before (guard, (block, (tt, tt))))
  block_fits decl (Chooses at_if condition then_at chosen else_at left more) tally around sight own none at names fine turns
      growth sees leads fit =
      let one = condition_faults ground.facts around decl condition in
      let two = block_faults ground.facts decl around [] chosen in
      let three = block_faults ground.facts decl around [] left in
      let four = block_faults ground.facts decl around own more in
      let left_faults : two ++ (three ++ four) ≡ [] = none_second one (two ++ (three ++ four)) none in
      let last_faults : three ++ four ≡ [] = none_second two (three ++ four) left_faults in
      let read = condition_read (sources_in ground) sight condition in
      let inside = block_names (sources_in ground) sight tally chosen in
      let behind = tallied tally chosen in
      let outside = block_names (sources_in ground) sight behind left in
      let last = tallied behind left in
      let rest = block_names (sources_in ground) sight last more in
      let left_names = all_second IsNamed read (inside ++ (outside ++ rest)) names in
      let last_names = all_second IsNamed inside (outside ++ rest) left_names in
      let tested = condition_guard reading turns condition growth in
      let filled = unrolled reading turns chosen (in_block tested.growth) in
      let other = unrolled reading turns left (in_block filled) in
      let branch = entries.Branch tested.guard (filled_block filled) (filled_block other) in
      let next = with_last_entry branch (back_in tested.growth.entries other) in
      let next_leads : Leads next = leads_before turns more next leads in
      let other_leads : Leads other = record { locals = next_leads.locals; slots = next_leads.slots } in
      let second_leads : Leads (in_block filled) = leads_before turns left (in_block filled) other_leads in
      let filled_leads : Leads filled = record { locals = second_leads.locals; slots = second_leads.slots } in
      let begun_leads : Leads (in_block tested.growth) = leads_before turns chosen (in_block tested.growth) filled_leads in
      let tested_leads : Leads tested.growth = record { locals = begun_leads.locals; slots = begun_leads.slots } in
      let same = condition_made reading turns condition growth in
      let begins = seen_on tally tally turns growth (in_block tested.growth) around sight (within_itself tally)
      (stays_same IsFor IsPredFor Thing Held files ground reading setting once tally growth (in_block tested.growth)
      (record { named = same.named; asked = same.asked })) sees in
      let first = stays_then IsFor IsPredFor Thing Held files ground reading setting once tally growth filled (in_block filled)
      (block_stays IsFor IsPredFor Thing Held files ground reading setting once tally growth filled turns condition
      (unrolled_stays IsFor IsPredFor Thing Held files ground reading setting once chosen tally turns (in_block tested.growth)
      at.0)) (stays_same IsFor IsPredFor Thing Held files ground reading setting once tally filled (in_block filled)
      (record { named = refl; asked = refl })) in
      let second = stays_then IsFor IsPredFor Thing Held files ground reading setting once tally growth (in_block filled) other
      first (stays_fewer IsFor IsPredFor Thing Held files ground reading setting once tally behind (in_block filled) other
      (tallied_within tally chosen) (unrolled_stays IsFor IsPredFor Thing Held files ground reading setting once left behind
      turns (in_block filled) at.1.0)) in
      let stays = stays_then IsFor IsPredFor Thing Held files ground reading setting once tally growth other next second
      (stays_same IsFor IsPredFor Thing Held files ground reading setting once tally other next
      (record { named = refl; asked = refl })) in
      let guard = condition_fits IsFor IsPredFor files ground reading model things rule setting once tally turns growth around
      sight decl condition sees (all_first IsNamed read (inside ++ (outside ++ rest)) names) fine.0.0
      (none_first one (two ++ (three ++ four)) none) tested_leads in
      let block = block_fits decl chosen tally around sight [] (none_first two (three ++ four) left_faults) at.0
      (all_first IsNamed inside (outside ++ rest) left_names) fine.0.1.0 turns (in_block tested.growth) begins filled_leads tt in
      let other_block = block_fits decl left behind around sight [] (none_first three four last_faults) at.1.0
      (all_first IsNamed outside rest last_names) fine.0.1.1 turns (in_block filled) (seen_on tally behind turns growth
      (in_block filled) around sight (tallied_within tally chosen) first sees) other_leads tt in
      let before = condition_kept reading StayLawful (reads_fit model reading.pred rule) turns condition growth fit in
      block_fits decl more last around sight own (none_second three four last_faults) at.1.1
      (all_second IsNamed outside rest last_names) fine.1 turns next (seen_on tally last turns growth next around sight
      (within_both tally behind last (tallied_within tally chosen) (tallied_within behind left)) stays sees)
      leads (fit_both model reading.pred rule tested.growth.entries (branch ∷ []) before (guard, (block, (other_block, tt))))
  block_fits decl (Repeats at_each name class body_at body more) tally around sight own none at names fine turns growth sees
      leads fit =
      let value = turn_value ground.facts class in
      let inside_tally = turn_more tally in
      let behind = tallied inside_tally body in
      let next_sight = with_turn sight name.text tally.turns in
      let one = turn_faults ground.facts decl class in
      let two = block_faults ground.facts decl (seeing_turn around name value) [] body in
      let three = block_faults ground.facts decl around own more in
      let left_faults : two ++ three ≡ [] = none_second one (two ++ three) none in
      let read = scope_read (sources_in ground).scope class in
      let inside = block_names (sources_in ground) next_sight inside_tally body in
      let rest = block_names (sources_in ground) sight behind more in
      let left_names = all_second IsNamed read (inside ++ rest) names in
      let it = class_fits IsFor IsPredFor Thing Held files ground reading setting turns growth decl class
      (all_first IsNamed read (inside ++ rest) names) (none_first one (two ++ three) none) in
      let turn : Stand → Growth → Growth = λ object inner. unrolled reading (turns ++ turn_of name object ∷ []) body inner in
      let meant : Denoted = denoted.Value (kinds.Object it.meaning) true in
      let value_is : value ≡ meant =
      turn_value_is IsFor IsPredFor Thing Held files ground reading setting once class it.meaning it.means it.right in
      let fits : (one : ℤ) → Thing it.number one → Suits IsFor IsPredFor Thing Held value
      (stands.Value (terms.Lit one) value_kinds.Object it.number) =
      λ one thing. (
        subst (λ d. Fits IsFor IsPredFor Thing d (stands.Value (terms.Lit one) value_kinds.Object it.number)) (sym value_is)
            (refl, it.fits, thing),
        things.values it.number one thing,
      ) in
      let values = class_objects reading.lexicon it.number in
      let P : Stand → Type 0 = λ stand.
      Leads (unrolled reading turns more (all_turns turn (stand_turns reading.lexicon stand) growth))
      → StayLawful growth (unrolled reading turns more (all_turns turn (stand_turns reading.lexicon stand) growth)) in
      let objects = turn_stands it.number values in
      let next = all_turns turn objects growth in
      let stays = turns_stay IsFor IsPredFor Thing Held files ground reading setting once tally turn objects growth
      (λ object inner.
      stays_fewer IsFor IsPredFor Thing Held files ground reading setting once tally inside_tally inner (turn object inner)
      (turn_within tally) (unrolled_stays IsFor IsPredFor Thing Held files ground reading setting once body inside_tally
      (turns ++ turn_of name object ∷ []) inner at.1.0)) in
      subst P (sym it.stands_so) (λ so fit_before.
      block_fits decl more behind around sight own (none_second two three left_faults) at.1.1
      (all_second IsNamed inside rest left_names) fine.1 turns next (seen_on tally behind turns growth next around sight
      (within_both tally inside_tally behind (turn_within tally) (tallied_within inside_tally body)) stays sees)
      so
      (turns_fit tally around sight name value it.number body at.0 at.1.0 fits
      (block_fits decl body inside_tally (seeing_turn around name value) next_sight [] (none_first two three left_faults) at.1.0
      (all_first IsNamed inside rest left_names) fine.0.1.1)
      turns values growth (setting.things it.number) sees (leads_before turns more next so) fit_before))
      leads fit

  -- ---- constraints in the body of a predicate

  body_call_fitted : (tally : Tally) (turns : List Made) (growth : Growth) (around : Surroundings) (sight : Sight) (decl : ℕ)
      (call : Call) → Seen tally turns growth around sight → InNames reading.names (exprs_read (sources_in ground) sight
      call.arguments) → All IsFineExpr call.arguments → constraint_call_faults ground.facts around decl call.path.first
      call.arguments ≡ [] → relation_named call.path.first.text ≡ None → Leads (with_call reading turns call growth)
      → StayLawful growth (with_call reading turns call growth)
  body_call_fitted tally turns growth around sight decl call sees names fine none free leads =
      let P : Option Rel → Type 0 = λ o.
      Leads (option_map_or (λ relation. with_relation_to reading turns call.path.first.at relation call.arguments growth) o
      (with_constraint_named reading turns call.path.first call.arguments growth))
      → StayLawful growth (option_map_or (λ relation. with_relation_to reading turns call.path.first.at relation call.arguments
      growth) o (with_constraint_named reading turns call.path.first call.arguments growth)) in
      subst P (sym free)
      (named_fitted IsFor IsPredFor files ground reading model things rule setting once tally turns growth around sight decl
      call.path.first call.arguments sees names fine none) leads

  pub body_fits : (decl : ℕ) (some : List PredicatePart) (tally : Tally) (around : Surroundings) (sight : Sight)
      → flat_map (part_rule_faults ground.facts decl around) some ≡ []
      → InNames reading.names (block_names (sources_in ground) sight tally (statements_of (part_statements some)))
      → AreFineStatements (statements_of (part_statements some)) → IsBlockFit tally around sight
      (statements_of (part_statements some))
  body_fits decl [] tally around sight none names fine turns growth sees leads fit = fit
  body_fits decl (pieces.Parameter typed ∷ more) tally around sight none names fine turns growth sees leads fit =
      body_fits decl more tally around sight none names fine turns growth sees leads fit
  body_fits decl (pieces.Constraint call ∷ more) tally around sight none names fine turns growth sees leads fit =
      let one = body_call_faults ground.facts around decl call in
      let two = flat_map (part_rule_faults ground.facts decl around) more in
      let read = exprs_read (sources_in ground) sight call.arguments in
      let statements = statements_of (part_statements more) in
      let rest = block_names (sources_in ground) sight (call_tally tally call) statements in
      let right = body_fine ground.facts around decl call (none_first one two none) in
      let free = constraint_free ground.facts around decl call.path.first call.arguments right in
      let next = with_call reading turns call growth in
      body_fits decl more (call_tally tally call) around sight (none_second one two none) (all_second IsNamed read rest names)
      fine.1 turns next (seen_on tally (call_tally tally call) turns growth next around sight (call_within tally call)
      (stays_same IsFor IsPredFor Thing Held files ground reading setting once tally growth next
      (constraint_stays IsFor IsPredFor Thing Held files ground reading setting once turns growth call free)) sees) leads
      (body_call_fitted tally turns growth around sight decl call sees (all_first IsNamed read rest names) fine.0.1 right free
      (leads_before turns statements next leads) fit)

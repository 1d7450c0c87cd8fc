-- What one statement of a rule stands for has lawful arguments, if nothing is wrong with it.
use Rattle.std.proofs.Common.{◌≡◌, ℕ, Bool, true, false, ◌||◌, List, [], ◌∷◌, ◌++◌, length, map, refl, sym, ◌∙◌, ap, subst}
use Rattle.std.specs.Prelude.{⊤, Option, Some, None, Ok, Err, All, is_some, slice_get, if◌then◌else◌}
use Rattle.std.specs.List.{AllByRecursion}
use Rattle.std.specs.Option.{option_map_or}
use Rattle.std.proofs.lemmas.List.Elements.{All-from_recursion, All-head, All-tail}
use Rattle.domain_core.specs.declared.kind.Kind.{Kind}
use Rattle.domain_core.specs.declared.kind.Kind.TheVariants.{Eq}
use Rattle.eu_forest.proofs.Lists.{get-append_last}
use Rattle.eu_name.specs.declared.name.Part.TheVariants as parts
use Rattle.model_core.specs.declared.item.Item.{Item}
use Rattle.model_core.specs.declared.item.Item.TheVariants.{Constraint, Relation}
use Rattle.model_core.specs.declared.item.Rel.{Rel}
use Rattle.model_core.specs.declared.item.Term.{Term}
use Rattle.model_core.specs.declared.item.Term.TheVariants as terms
use Rattle.model_core.specs.declared.model.Model.{Model}
use Rattle.model_core.specs.declared.rule.Entry.{Entry}
use Rattle.model_core.specs.declared.rule.Entry.TheVariants as entries
use Rattle.model_core.specs.declared.rule.Rule.{Rule}
use Rattle.model_core.specs.declared.rule.Slot.{Slot}
use Rattle.model_core.specs.declared.variable.ValueKind.{ValueKind}
use Rattle.model_core.specs.declared.variable.ValueKind.TheVariants as value_kinds
use Rattle.model_core.specs.Block.{plain_entries}
use Rattle.model_core.specs.Entries.{Entries, NoEntry, WithSlot, WithLocal, WithItem, WithBranch}
use Rattle.model_core.specs.Kinds.{AreComparable, IsOfKind, OfRule}
use Rattle.nddl_ast.specs.declared.declaration.FileDecls.{FileDecls}
use Rattle.nddl_ast.specs.declared.expression.Expr.{Expr}
use Rattle.nddl_ast.specs.declared.expression.Expr.TheVariants as exprs
use Rattle.nddl_ast.specs.declared.expression.Init.{Init}
use Rattle.nddl_ast.specs.declared.expression.Init.TheVariants as inits
use Rattle.nddl_ast.specs.declared.expression.Type as types
use Rattle.nddl_ast.specs.declared.kind.TextKind.TheVariants as faults
use Rattle.nddl_ast.specs.declared.name.Name.{Name}
use Rattle.nddl_ast.specs.declared.name.Path.{Path}
use Rattle.nddl_ast.specs.declared.statement.Ask.{Ask}
use Rattle.nddl_ast.specs.declared.statement.Call.{Call}
use Rattle.nddl_ast.specs.declared.statement.Condition.{Condition}
use Rattle.nddl_ast.specs.declared.statement.Condition.TheVariants as conditions
use Rattle.nddl_ast.specs.declared.statement.Variable.{Variable}
use Rattle.nddl_symbols.specs.declared.scope.Meaning.{Meaning}
use Rattle.nddl_symbols.specs.Finding.{faults_here}
use Rattle.nddl_typeexpr.specs.declared.kind.TypeKind.{TypeKind}
use Rattle.nddl_typeexpr.specs.declared.kind.TypeKind.TheVariants as kinds
use Rattle.nddl_typeexpr.specs.Bases.{base_fault, base_extent, base_kind}
use Rattle.nddl_declarations.specs.Domains.{value_kind}
use Rattle.nddl_resolve.specs.declared.denoted.Denoted.{Denoted}
use Rattle.nddl_resolve.specs.declared.denoted.Denoted.TheVariants as denoted
use Rattle.nddl_resolve.specs.declared.denoted.TokenSort.{TokenSort}
use Rattle.nddl_resolve.specs.Following.{Understood, asked_by, asked_names, asked_rest, found_next, next_denoted, token_denoted, understood_faults, unknown_at}
use Rattle.nddl_resolve.specs.Paths.{Surroundings, asked_token, first_denoted}
use Rattle.nddl_rule_check.specs.declared.asked.Asked.TheVariants as asked
use Rattle.nddl_rule_check.specs.Arguments.{argument_faults, are_decimals, arguments_faults, asked_of_both, compared_faults, condition_faults, constraint_faults, init_faults, meant_by}
use Rattle.nddl_rule_check.specs.Calls.{constraint_call_faults, named_call_faults}
use Rattle.nddl_rule_check.specs.Constraints.{asked_among, constraint_named, relation_named, takes}
use Rattle.nddl_rule_check.specs.Slots.{ask_faults, labelled_slot, related_names, relation_faults, slot_names}
use Rattle.nddl_rule_check.specs.Types.{local_bounds_faults, local_type_faults}
use Rattle.nddl_rule_check.specs.Values.{compared_with, is_decimal, unfit_value_fault}
use Rattle.nddl_terms.specs.declared.growth.Growth.{Growth}
use Rattle.nddl_terms.specs.declared.lexicon.Shape.{Shape}
use Rattle.nddl_terms.specs.declared.stands.Made.{Made}
use Rattle.nddl_terms.specs.declared.stands.Stand.{Stand}
use Rattle.nddl_terms.specs.declared.stands.Stand.TheVariants as stands
use Rattle.nddl_terms.specs.declared.tree.ReadName.{ReadName}
use Rattle.nddl_terms.specs.Growth.{access, unnamed, with_item, with_next_local, with_slot}
use Rattle.nddl_terms.specs.Names.{name_read_at}
use Rattle.nddl_terms.specs.Paths.{next_stand}
use Rattle.nddl_terms.specs.Readings.{Readings}
use Rattle.nddl_terms.specs.Stands.{first_stand}
use Rattle.nddl_lower.specs.Arguments.{argument, condition_guard, constraint_items, given_arguments, with_constraint, with_items}
use Rattle.nddl_lower.specs.Calls.{with_ask, with_call, with_constraint_named, with_related, with_relation_to}
use Rattle.nddl_lower.specs.Compared.{compared_term, compared_terms, constraint_terms, has_decimal, is_decimal_stand}
use Rattle.nddl_lower.specs.Locals.{next_local, type_shape, with_begun, with_declared, with_named_at, with_text_local}
use Rattle.nddl_lower.specs.Slots.{AskedSlot, asked_behind, asked_labelled, asked_path, object_items, pred_slot, wanted_of, with_asked, with_asked_at, with_relation, with_wanted_token}
use Rattle.nddl_rules.specs.declared.sight.Tally.{Tally}
use Rattle.nddl_rules.specs.Reads.{asked_read, condition_read, expr_read, exprs_read, front_read, init_read, local_read, type_read}
use Rattle.nddl_rules.specs.Sight.{Sight}
use Rattle.nddl_unroll.specs.Blocks.{filled_block}
use Rattle.nddl_laws.specs.Fine.{IsFineCondition, IsFineExpr, IsFineStart, IsFineVariable}
use Rattle.nddl_laws.specs.Scoping.{RuleGround, sources_in}
use Rattle.nddl_laws.proofs.Nothing.{none_first, none_second}
use Rattle.nddl_laws.proofs.Values.{no_fault}
use Rattle.nddl_rule_laws.proofs.Arguments.{seeing_same, understood}
use Rattle.nddl_rule_laws.proofs.Fits.{Fits, behind_more, next_fits}
use Rattle.nddl_rule_laws.proofs.Kept.{argument_made}
use Rattle.nddl_rule_laws.proofs.Rising.{AreOnce}
use Rattle.nddl_rule_laws.proofs.Sights.{InNames, IsSetting, Sees, all_first, all_second, name_fits}
use Rattle.nddl_rule_laws.proofs.Statements.{local_fits}
use Rattle.nddl_lowering_laws.specs.Fitting.{HasThings}
use Rattle.nddl_lowering_laws.specs.Seen.{sides_of}
use Rattle.nddl_lowering_laws.proofs.Comparing.{EachFit, IsFitItem, both_fit, constraint_fits, truth_fits}
use Rattle.nddl_lowering_laws.proofs.Growing.{IsReadKept, expr_kept, exprs_kept, wanted_kept}
use Rattle.nddl_lowering_laws.proofs.Held.{Grows, IsHeld, IsThingIn, LeadsTo, grows_wanted, leads_back, next_held, reads_grow, still_there}
use Rattle.nddl_lowering_laws.proofs.Suited.{Suited, all_answered, expr_suited, exprs_suited, is_float, one_answered, wanted_decimal, wanted_kind}

-- ---- blocks

-- what stands in the block, and in the blocks in it, has lawful arguments in the rule of the predicate
abbrev pub AreFit : Model → ℕ → Rule → Entries → Type 0
AreFit model pred rule NoEntry = ⊤
AreFit model pred rule (WithSlot slot more) = AreFit model pred rule more
AreFit model pred rule (WithLocal local more) = AreFit model pred rule more
AreFit model pred rule (WithItem item more) = IsFitItem model pred rule item × AreFit model pred rule more
AreFit model pred rule (WithBranch guard first second more) =
    AreComparable model (OfRule pred rule) (sides_of guard)
    × (AreFit model pred rule first × (AreFit model pred rule second × AreFit model pred rule more))

module _ (model : Model) (pred : ℕ) (rule : Rule) where
  abbrev Fit : List Entry → Type 0
  Fit some = AreFit model pred rule (plain_entries some)

  pub fit_both : (one other : List Entry) → Fit one → Fit other → Fit (one ++ other)
  fit_both [] other first second = second
  fit_both (entries.Slot number ∷ more) other first second = fit_both more other first second
  fit_both (entries.Local number ∷ more) other first second = fit_both more other first second
  fit_both (entries.Item item ∷ more) other first second = (first.0, fit_both more other first.1 second)
  fit_both (entries.Branch guard inside behind ∷ more) other first second =
      (first.0, (first.1.0, (first.1.1.0, fit_both more other first.1.1.1 second)))

  -- so it is after a step, if it was so before it
  abbrev pub StaysFit : Growth → Growth → Type 0
  StaysFit old new = AreFit model pred rule (filled_block old) → AreFit model pred rule (filled_block new)

  pub fit_item : (item : Item) (growth : Growth) → IsFitItem model pred rule item → StaysFit growth (with_item item growth)
  fit_item item growth is fit = fit_both growth.entries (entries.Item item ∷ []) fit (is, tt)

  each_entry : (some : List Item) → EachFit model pred rule some → Fit (map entries.Item some)
  each_entry [] are = tt
  each_entry (item ∷ more) are = (are.0, each_entry more are.1)

  pub fit_items : (some : List Item) (growth : Growth) → EachFit model pred rule some → StaysFit growth (with_items some growth)
  fit_items some growth are fit = fit_both growth.entries (map entries.Item some) fit (each_entry some are)

  pub fit_local : (shape : Shape) (growth : Growth) → StaysFit growth (with_next_local (unnamed shape) growth)
  fit_local shape growth fit = fit_both growth.entries (entries.Local (length growth.locals) ∷ []) fit tt

  pub fit_slot : (slot : Slot) (growth : Growth) → StaysFit growth (with_slot slot growth)
  fit_slot slot growth fit = fit_both growth.entries (entries.Slot (length growth.slots) ∷ []) fit tt

  -- of what is read from a field nothing is told
  pub reads_fit : IsReadKept StaysFit
  reads_fit = record {
    same = λ growth fit. fit;
    join = λ first second third one other fit. other (one fit);
    access = λ object field shape growth fit.
        fit_item (access object field growth) (with_next_local (unnamed shape) growth) (λ plain. absurd plain)
        (fit_local shape growth fit);
  }

fine_each : (some : List Expr) → All IsFineExpr some → AllByRecursion IsFineExpr some
fine_each [] all = tt
fine_each (expr ∷ more) all = (All-head IsFineExpr expr more all, fine_each more (All-tail IsFineExpr expr more all))

module _ (IsFor : Meaning → ℕ → Type 0) (IsPredFor : TokenSort → ℕ → Type 0) (files : List FileDecls) (ground : RuleGround)
    (reading : Readings) (model : Model) (things : HasThings model reading.lexicon reading.objects) (rule : Rule)
    (setting : IsSetting IsFor IsPredFor (IsThingIn reading.lexicon) (IsHeld model reading.pred rule) files ground reading)
    (once : AreOnce reading.places) where
  abbrev Held : Stand → Type 0
  Held = IsHeld model reading.pred rule

  abbrev Seen : Tally → List Made → Growth → Surroundings → Sight → Type 0
  Seen = Sees IsFor IsPredFor (IsThingIn reading.lexicon) Held files ground reading setting

  abbrev Fitting : Denoted → Stand → Type 0
  Fitting = Fits IsFor IsPredFor (IsThingIn reading.lexicon)

  abbrev Leads : Growth → Type 0
  Leads = LeadsTo rule

  abbrev Stays : Growth → Growth → Type 0
  Stays = StaysFit model reading.pred rule

  abbrev IsNamed : ReadName → Type 0
  IsNamed read = name_read_at read.at reading.names ≡ Some read.meaning

  abbrev Comparable : List Term → Type 0
  Comparable some = AreComparable model (OfRule reading.pred rule) some

  reads : IsReadKept Stays
  reads = reads_fit model reading.pred rule

  -- ---- constraints

  constraint_fitted : (tally : Tally) (turns : List Made) (growth : Growth) (around : Surroundings) (sight : Sight) (decl : ℕ)
      (kind : Kind) (at : ℕ) (some : List Expr) → Seen tally turns growth around sight → InNames reading.names
      (exprs_read (sources_in ground) sight some) → All IsFineExpr some → constraint_faults ground.facts around decl kind at
      some ≡ [] → Leads (with_constraint reading turns kind some growth) → Stays growth (with_constraint reading turns kind some
      growth)
  constraint_fitted tally turns growth around sight decl kind at some sees names fine none leads =
      by (takes kind (length some)) refl none
    where
      by : (b : Bool) → takes kind (length some) ≡ b
          → (if b then arguments_faults ground.facts around decl (asked_among (are_decimals ground.facts around kind 0 some)
          kind) 0 None some else faults_here decl at (Some faults.WrongCount)) ≡ []
          → Stays growth (with_constraint reading turns kind some growth)
      by true taken one fit =
          let given = given_arguments reading turns some growth in
          let it = all_answered IsFor IsPredFor files ground reading model things rule setting once around decl
          (asked_among (are_decimals ground.facts around kind 0 some) kind) 0 None some one in
          let begins : Leads given.growth = record { locals = leads.locals; slots = leads.slots } in
          let suited = exprs_suited IsFor IsPredFor files ground reading model things rule setting once tally turns growth around
          sight decl some sees names (fine_each some fine) it.0 begins in
          fit_items model reading.pred rule (constraint_items kind (constraint_terms kind given.stands)) given.growth
          (constraint_fits IsFor IsPredFor files ground reading model things rule setting once around kind some given.stands
          taken it.1 suited) (exprs_kept reading Stays reads turns some growth fit)
      by false taken one fit = absurd (cc)

  pub named_fitted : (tally : Tally) (turns : List Made) (growth : Growth) (around : Surroundings) (sight : Sight) (decl : ℕ)
      (word : Name) (some : List Expr) → Seen tally turns growth around sight → InNames reading.names
      (exprs_read (sources_in ground) sight some) → All IsFineExpr some → constraint_call_faults ground.facts around decl word
      some ≡ [] → Leads (with_constraint_named reading turns word some growth)
      → Stays growth (with_constraint_named reading turns word some growth)
  named_fitted tally turns growth around sight decl word some sees names fine none leads =
      by (constraint_named word.text) none leads
    where
      by : (o : Option Kind)
          → option_map_or (λ kind. constraint_faults ground.facts around decl kind word.at some) o
          (faults_here decl word.at (Some faults.Unknown)) ≡ []
          → Leads (option_map_or (λ kind. with_constraint reading turns kind some growth) o growth)
          → Stays growth (option_map_or (λ kind. with_constraint reading turns kind some growth) o growth)
      by None one further = absurd (cc)
      by (Some kind) one further =
          constraint_fitted tally turns growth around sight decl kind word.at some sees names fine one further

  -- ---- tokens

  -- what a token is asked of is of the kind of objects
  abbrev IsObjectTerm : Option Term → Type 0
  IsObjectTerm None = ⊤
  IsObjectTerm (Some term) = IsOfKind model (OfRule reading.pred rule) value_kinds.Object term

  token_fitted : (at : ℕ) (relation : Rel) (pred : ℕ) (object : Option Term) (growth : Growth) → IsObjectTerm object
      → Leads (with_wanted_token reading.lexicon at relation pred object growth)
      → Stays growth (with_wanted_token reading.lexicon at relation pred object growth)
  token_fitted at relation pred object growth is leads fit =
      let number = length growth.slots in
      let noted = with_asked_at at (stands.Slot number pred) growth in
      let slotted = with_slot (pred_slot reading.lexicon pred) noted in
      let equal = with_items (object_items number object) slotted in
      fit_item model reading.pred rule (Relation relation number) equal tt
      (fit_items model reading.pred rule (object_items number object) slotted (equal_fit object is)
      (fit_slot model reading.pred rule (pred_slot reading.lexicon pred) noted fit))
    where
      there : slice_get rule.slots (length growth.slots) ≡ Some (pred_slot reading.lexicon pred)
      there =
          leads.slots (length growth.slots) (pred_slot reading.lexicon pred)
          (get-append_last growth.slots (pred_slot reading.lexicon pred))

      equal_fit : (object : Option Term) → IsObjectTerm object → EachFit model reading.pred rule
          (object_items (length growth.slots) object)
      equal_fit None object_is = tt
      equal_fit (Some term) object_is = (
        λ plain. (
          value_kinds.Object,
          All-from_recursion (IsOfKind model (OfRule reading.pred rule) value_kinds.Object)
              (terms.Slot (length growth.slots) parts.Object ∷ term ∷ []) (
                (pred_slot reading.lexicon pred, there, refl),
                (object_is, tt),
              ),
        ),
        tt,
      )

  asked_fitted : (at : ℕ) (relation : Rel) (asks : AskedSlot) → IsObjectTerm asks.wanted.object
      → Leads (with_asked reading.lexicon at relation asks) → Stays asks.growth (with_asked reading.lexicon at relation asks)
  asked_fitted at relation asks is leads = by asks.wanted.pred leads
    where
      by : (o : Option ℕ)
          → Leads (option_map_or (λ pred. with_wanted_token reading.lexicon at relation pred asks.wanted.object asks.growth) o
          asks.growth) → Stays asks.growth (option_map_or (λ pred. with_wanted_token reading.lexicon at relation pred
          asks.wanted.object asks.growth) o asks.growth)
      by None further fit = fit
      by (Some pred) further fit = token_fitted at relation pred asks.wanted.object asks.growth is further fit

  asked_leads : (at : ℕ) (relation : Rel) (asks : AskedSlot) → Leads (with_asked reading.lexicon at relation asks)
      → Leads asks.growth
  asked_leads at relation asks leads = by asks.wanted.pred leads
    where
      by : (o : Option ℕ)
          → Leads (option_map_or (λ pred. with_wanted_token reading.lexicon at relation pred asks.wanted.object asks.growth) o
          asks.growth) → Leads asks.growth
      by None further = further
      by (Some pred) further =
          leads_back rule asks.growth (with_wanted_token reading.lexicon at relation pred asks.wanted.object asks.growth)
          (grows_wanted reading.lexicon at relation pred asks.wanted.object asks.growth) further

  -- ---- what a token is asked of

  owner_object : (first : ℕ) (meant : Denoted) (stand : Stand) (name : Name) (end : Denoted) → Fitting meant stand → Held stand
      → token_denoted ground.facts first meant name ≡ Ok end → IsObjectTerm (wanted_of reading.lexicon stand name.text).object
  owner_object first (denoted.Value (kinds.Object of) constant) (stands.Value term own class) name end fits held is =
      subst (λ (kind : ValueKind). IsOfKind model (OfRule reading.pred rule) kind term) fits.0 held
  owner_object first (denoted.Value kinds.Int constant) (stands.Value term own class) name end fits held is = absurd (cc)
  owner_object first (denoted.Value kinds.Float constant) (stands.Value term own class) name end fits held is = absurd (cc)
  owner_object first (denoted.Value kinds.Bool constant) (stands.Value term own class) name end fits held is = absurd (cc)
  owner_object first (denoted.Value (kinds.Enum of) constant) (stands.Value term own class) name end fits held is = absurd (cc)
  owner_object first (denoted.Token token) (stands.Value term own class) name end fits held is = absurd fits
  owner_object first (denoted.Class of) (stands.Value term own class) name end fits held is = absurd fits
  owner_object first denoted.Faulty (stands.Value term own class) name end fits held is = absurd fits
  owner_object first meant (stands.Slot number pred) name end fits held is = tt
  owner_object first meant (stands.Root number pred) name end fits held is = tt
  owner_object first meant (stands.Class class) name end fits held is = tt
  owner_object first meant stands.Nothing name end fits held is = tt

  names_object : (first : ℕ) (meant : Denoted) (stand : Stand) (name : Name) (more : List Name) (growth : Growth) (end : Denoted)
      → Fitting meant stand → Held stand → asked_names ground.facts first meant name more ≡ Ok end
      → Leads (asked_behind reading stand (name ∷ more) growth).growth → IsObjectTerm (asked_behind reading stand (name ∷ more)
      growth).wanted.object
  names_object first meant stand name [] growth end fits held is leads = owner_object first meant stand name end fits held is
  names_object first meant stand name (next ∷ more) growth end fits held is leads =
      let step = next_stand reading stand name growth in
      let behind = asked_behind reading step.stand (next ∷ more) step.growth in
      let same = behind_more IsFor IsPredFor (IsThingIn reading.lexicon) ground.facts reading setting.serves stand name next more
      growth in
      let further : Leads behind.growth = subst (λ (asks : AskedSlot). Leads asks.growth) same leads in
      let begins : Leads step.growth =
      leads_back rule step.growth behind.growth (wanted_kept reading Grows (reads_grow reading.lexicon) step.stand (next ∷ more)
      step.growth) further in
      subst (λ (asks : AskedSlot). IsObjectTerm asks.wanted.object) (sym same)
      (by (next_denoted ground.facts first meant name) refl is begins
      (λ so fit hold rest. names_object first so step.stand next more step.growth end fit hold rest further))
    where
      by : (u : Understood) → next_denoted ground.facts first meant name ≡ u
          → found_next (λ further. asked_names ground.facts first further next more) u ≡ Ok end
          → Leads (next_stand reading stand name growth).growth
          → ((so : Denoted) → Fitting so (next_stand reading stand name growth).stand
          → Held (next_stand reading stand name growth).stand → asked_names ground.facts first so next more ≡ Ok end
          → IsObjectTerm (asked_behind reading (next_stand reading stand name growth).stand (next ∷ more)
          (next_stand reading stand name growth).growth).wanted.object)
          → IsObjectTerm (asked_behind reading (next_stand reading stand name growth).stand (next ∷ more)
          (next_stand reading stand name growth).growth).wanted.object
      by (Ok so) here rest begins behind =
          behind so (next_fits IsFor IsPredFor (IsThingIn reading.lexicon) ground.facts reading setting.serves first meant stand
          name growth so fits here) (next_held model reading things rule IsFor IsPredFor ground.facts setting.serves first
          meant stand name growth so fits held here begins) rest
      by (Err fault) here rest begins behind = absurd (cc)

  path_object : (tally : Tally) (turns : List Made) (growth : Growth) (around : Surroundings) (sight : Sight) (path : Path)
      (end : Denoted) → Seen tally turns growth around sight → InNames reading.names (front_read (sources_in ground) sight
      path.first) → asked_token ground.facts around path ≡ Ok end → Leads (asked_path reading turns path growth).growth
      → IsObjectTerm (asked_path reading turns path growth).wanted.object
  path_object tally turns growth around sight path end sees names is leads =
      by (first_denoted ground.facts around path.first.text) refl is
    where
      behind : (begin : Denoted) → first_denoted ground.facts around path.first.text ≡ Some begin → (rest : List Name)
          → path.rest ≡ rest → asked_rest ground.facts path.first.at begin rest ≡ Ok end
          → IsObjectTerm (asked_path reading turns path growth).wanted.object
      behind begin first [] same none = absurd (cc)
      behind begin first (name ∷ more) same some =
          let stand = first_stand reading turns growth path.first.at in
          let suits = name_fits IsFor IsPredFor (IsThingIn reading.lexicon) Held files ground reading setting tally turns growth
          around sight sees path.first begin names first in
          let P : List Name → Type 0 = λ rest. Leads (asked_behind reading stand rest growth).growth
          → IsObjectTerm (asked_behind reading stand rest growth).wanted.object in
          subst P (sym same) (names_object path.first.at begin stand name more growth end suits.0 suits.1 some) leads

      by : (o : Option Denoted) → first_denoted ground.facts around path.first.text ≡ o
          → option_map_or (λ owner. asked_by ground.facts owner path) o (unknown_at path.first.at) ≡ Ok end
          → IsObjectTerm (asked_path reading turns path growth).wanted.object
      by None first none = absurd (cc)
      by (Some begin) first some = behind begin first path.rest refl some

  path_fitted : (tally : Tally) (turns : List Made) (growth : Growth) (around : Surroundings) (sight : Sight) (at : ℕ)
      (relation : Rel) (path : Path) (end : Denoted) → Seen tally turns growth around sight → InNames reading.names
      (front_read (sources_in ground) sight path.first) → asked_token ground.facts around path ≡ Ok end
      → Leads (with_asked reading.lexicon at relation (asked_path reading turns path growth))
      → Stays growth (with_asked reading.lexicon at relation (asked_path reading turns path growth))
  path_fitted tally turns growth around sight at relation path end sees names is leads fit =
      let asks = asked_path reading turns path growth in
      let object = path_object tally turns growth around sight path end sees names is (asked_leads at relation asks leads) in
      asked_fitted at relation asks object leads
      (wanted_kept reading Stays reads (first_stand reading turns growth path.first.at) path.rest growth fit)

  -- ---- calls

  related_fitted : (tally : Tally) (turns : List Made) (growth : Growth) (around : Surroundings) (sight : Sight) (decl at : ℕ)
      (relation : Rel) (path : Path) (rest : List Name) → Seen tally turns growth around sight → InNames reading.names
      (front_read (sources_in ground) sight path.first) → related_names ground.facts around decl path rest ≡ []
      → Leads (with_related reading turns at relation path rest growth) → Stays growth (with_related reading turns at relation
      path rest growth)
  related_fitted tally turns growth around sight decl at relation path [] sees names none leads =
      by (first_stand reading turns growth path.first.at)
    where
      by : (stand : Stand) → Stays growth (with_relation relation stand growth)
      by (stands.Slot number pred) fit = fit_item model reading.pred rule (Relation relation number) growth tt fit
      by (stands.Value term own class) fit = fit
      by (stands.Root number pred) fit = fit
      by (stands.Class class) fit = fit
      by stands.Nothing fit = fit
  related_fitted tally turns growth around sight decl at relation path (name ∷ more) sees names none leads =
      let it = understood decl (asked_token ground.facts around path) none in
      path_fitted tally turns growth around sight at relation path it.0 sees names it.1 leads

  relation_fitted : (tally : Tally) (turns : List Made) (growth : Growth) (around : Surroundings) (sight : Sight) (decl at : ℕ)
      (relation : Rel) (some : List Expr) → Seen tally turns growth around sight → InNames reading.names
      (exprs_read (sources_in ground) sight some) → relation_faults ground.facts around decl at some ≡ []
      → Leads (with_relation_to reading turns at relation some growth) → Stays growth (with_relation_to reading turns at relation
      some growth)
  relation_fitted tally turns growth around sight decl at relation [] sees names none leads fit = fit
  relation_fitted tally turns growth around sight decl at relation (exprs.Path path ∷ []) sees names none leads fit =
      related_fitted tally turns growth around sight decl at relation path path.rest sees
      (all_first IsNamed (front_read (sources_in ground) sight path.first) [] names) none leads fit
  relation_fitted tally turns growth around sight decl at relation (exprs.Literal literal ∷ []) sees names none leads fit = fit
  relation_fitted tally turns growth around sight decl at relation (exprs.Path path ∷ other ∷ more) sees names none leads fit =
      fit
  relation_fitted tally turns growth around sight decl at relation (exprs.Literal literal ∷ other ∷ more) sees names none leads
      fit = fit

  pub call_fitted : (tally : Tally) (turns : List Made) (growth : Growth) (around : Surroundings) (sight : Sight) (decl : ℕ)
      (call : Call) → Seen tally turns growth around sight → InNames reading.names (exprs_read (sources_in ground) sight
      call.arguments) → All IsFineExpr call.arguments → named_call_faults ground.facts around decl call.path.first
      call.arguments ≡ [] → Leads (with_call reading turns call growth) → Stays growth (with_call reading turns call growth)
  call_fitted tally turns growth around sight decl call sees names fine none leads =
      by (relation_named call.path.first.text) none leads
    where
      by : (o : Option Rel)
          → (if is_some o then relation_faults ground.facts around decl call.path.first.at call.arguments
          else constraint_call_faults ground.facts around decl call.path.first call.arguments) ≡ []
          → Leads (option_map_or (λ relation. with_relation_to reading turns call.path.first.at relation call.arguments growth) o
          (with_constraint_named reading turns call.path.first call.arguments growth))
          → Stays growth (option_map_or (λ relation. with_relation_to reading turns call.path.first.at relation call.arguments
          growth) o (with_constraint_named reading turns call.path.first call.arguments growth))
      by None one further =
          named_fitted tally turns growth around sight decl call.path.first call.arguments sees names fine one further
      by (Some relation) one further =
          relation_fitted tally turns growth around sight decl call.path.first.at relation call.arguments sees names one further

  labelled_fitted : (tally : Tally) (turns : List Made) (growth : Growth) (around : Surroundings) (sight : Sight) (at : ℕ)
      (relation : Rel) (path : Path) (rest : List Name) (end : Denoted) → Seen tally turns growth around sight
      → InNames reading.names (asked_read (sources_in ground) sight path.first rest) → slot_names ground.facts around path
      rest ≡ Ok end → Leads (with_asked reading.lexicon at relation (asked_labelled reading turns path rest growth))
      → Stays growth (with_asked reading.lexicon at relation (asked_labelled reading turns path rest growth))
  labelled_fitted tally turns growth around sight at relation path [] end sees names is leads =
      asked_fitted at relation (asked_labelled reading turns path [] growth) tt leads
  labelled_fitted tally turns growth around sight at relation path (name ∷ more) end sees names is leads =
      path_fitted tally turns growth around sight at relation path end sees names is leads

  pub ask_fitted : (tally : Tally) (turns : List Made) (growth : Growth) (around : Surroundings) (sight : Sight) (decl : ℕ)
      (ask : Ask) → Seen tally turns growth around sight → InNames reading.names (asked_read (sources_in ground) sight
      ask.path.first ask.path.rest) → ask_faults ground.facts around decl ask ≡ [] → Leads (with_ask reading turns ask growth)
      → Stays growth (with_ask reading turns ask growth)
  ask_fitted tally turns growth around sight decl ask sees names none leads = by (relation_named ask.word.text) none leads
    where
      by : (o : Option Rel)
          → (if is_some o then understood_faults decl (labelled_slot ground.facts around ask.path) else faults_here decl
          ask.word.at (Some faults.Unknown)) ≡ []
          → Leads (option_map_or (λ relation. with_asked reading.lexicon ask.label.at relation
          (asked_labelled reading turns ask.path ask.path.rest growth)) o growth) → Stays growth
          (option_map_or (λ relation. with_asked reading.lexicon ask.label.at relation (asked_labelled reading turns ask.path
          ask.path.rest growth)) o growth)
      by None one further = absurd (cc)
      by (Some relation) one further =
          let it = understood decl (labelled_slot ground.facts around ask.path) one in
          labelled_fitted tally turns growth around sight ask.label.at relation ask.path ask.path.rest it.0 sees names it.1
          further

  -- ---- guards

  both_suited : (tally : Tally) (turns : List Made) (growth : Growth) (around : Surroundings) (sight : Sight) (decl : ℕ)
      (one other : Expr) → Seen tally turns growth around sight → InNames reading.names
      (expr_read (sources_in ground) sight one ++ expr_read (sources_in ground) sight other) → IsFineExpr one × IsFineExpr other
      → compared_faults ground.facts around decl one other ≡ []
      → Leads (argument reading turns other (argument reading turns one growth).growth).growth
      → Comparable (compared_terms ((argument reading turns one growth).stand ∷ (argument reading turns other
      (argument reading turns one growth).growth).stand ∷ []))
  both_suited tally turns growth around sight decl one other sees names fine none leads =
      let left_read = expr_read (sources_in ground) sight one in
      let right_read = expr_read (sources_in ground) sight other in
      let decimal = is_decimal (meant_by ground.facts around one) || is_decimal (meant_by ground.facts around other) in
      let asks = asked_of_both (meant_by ground.facts around one) (meant_by ground.facts around other) in
      let next = compared_with asks None (meant_by ground.facts around one) in
      let first_faults = argument_faults ground.facts around decl asks None one in
      let second_faults = argument_faults ground.facts around decl asks next other in
      let first = one_answered IsFor IsPredFor files ground reading model things rule setting once around decl asks None one
      (none_first first_faults second_faults none) in
      let second = one_answered IsFor IsPredFor files ground reading model things rule setting once around decl asks next other
      (none_second first_faults second_faults none) in
      let left = argument reading turns one growth in
      let right = argument reading turns other left.growth in
      let begins : Leads left.growth =
      leads_back rule left.growth right.growth (expr_kept reading Grows (reads_grow reading.lexicon) turns other left.growth)
      leads in
      let further = seeing_same IsFor IsPredFor (IsThingIn reading.lexicon) Held files ground reading setting once.locals
      once.slots tally turns growth left.growth around sight (argument_made reading turns one growth) sees in
      let x = expr_suited IsFor IsPredFor files ground reading model things rule setting once tally turns growth around sight
      decl one sees (all_first IsNamed left_read right_read names) fine.0 first.0 begins in
      let y = expr_suited IsFor IsPredFor files ground reading model things rule setting once tally turns left.growth around
      sight decl other further (all_second IsNamed left_read right_read names) fine.1 second.0 leads in
      both_fit IsFor IsPredFor files ground reading model things rule setting once around one other left.stand right.stand
      decimal refl (first.1, (second.1, tt)) x y

  pub condition_fits : (tally : Tally) (turns : List Made) (growth : Growth) (around : Surroundings) (sight : Sight) (decl : ℕ)
      (condition : Condition) → Seen tally turns growth around sight → InNames reading.names
      (condition_read (sources_in ground) sight condition) → IsFineCondition condition → condition_faults ground.facts around
      decl condition ≡ [] → Leads (condition_guard reading turns condition growth).growth
      → Comparable (sides_of (condition_guard reading turns condition growth).guard)
  condition_fits tally turns growth around sight decl (conditions.Truth expr) sees names fine none leads =
      let it = one_answered IsFor IsPredFor files ground reading model things rule setting once around decl (asked.Of kinds.Bool)
      None expr none in
      truth_fits IsFor IsPredFor files ground reading model things rule setting once around expr
      (argument reading turns expr growth).stand (expr_suited IsFor IsPredFor files ground reading model things rule setting
      once tally turns growth around sight decl expr sees names fine it.0 leads) it.1
  condition_fits tally turns growth around sight decl (conditions.Equal one other) sees names fine none leads =
      both_suited tally turns growth around sight decl one other sees names fine none leads
  condition_fits tally turns growth around sight decl (conditions.NotEqual one other) sees names fine none leads =
      both_suited tally turns growth around sight decl one other sees names fine none leads

  -- ---- locals

  local_term : (decimal : Bool) (number : ℕ) (kind : ValueKind) (class : ℕ)
      → compared_term decimal (stands.Value (terms.Local number) kind class) ≡ terms.Local number
  local_term true number kind class = refl
  local_term false number kind class = refl

  decimal_kind : (kind : TypeKind) (term : Term) (class : ℕ) → is_decimal_stand
      (stands.Value term (value_kind kind) class) ≡ is_float kind
  decimal_kind kinds.Int term class = refl
  decimal_kind kinds.Float term class = refl
  decimal_kind kinds.Bool term class = refl
  decimal_kind (kinds.Enum of) term class = refl
  decimal_kind (kinds.Object of) term class = refl

  -- a local can be compared with what it begins as
  begins_fit : (around : Surroundings) (kind : TypeKind) (number : ℕ) (own : ValueKind) (class : ℕ) (expr : Expr) (stand : Stand)
      → own ≡ value_kind kind → Held (stands.Value (terms.Local number) own class)
      → Suited IsFor IsPredFor files ground reading model things rule setting once around expr stand
      → unfit_value_fault (Some kind) expr (meant_by ground.facts around expr) ≡ None
      → Comparable (compared_terms (stands.Value (terms.Local number) own class ∷ stand ∷ []))
  begins_fit around kind number own class expr stand same held suited none =
      let local : Stand = stands.Value (terms.Local number) own class in
      let first : is_decimal_stand local ≡ is_float kind =
      ap (λ (k : ValueKind). is_decimal_stand (stands.Value (terms.Local number) k class)) same ∙ decimal_kind kind
      (terms.Local number) class in
      let has : has_decimal (local ∷ stand ∷ []) ≡ is_float kind =
      ap (λ (b : Bool). b || (is_decimal_stand stand || false)) first
      ∙ either (is_float kind) (is_decimal_stand stand)
      (wanted_decimal IsFor IsPredFor files ground reading model things rule setting once kind around expr stand suited none) in
      let K : Term → Type 0 = IsOfKind model (OfRule reading.pred rule) (value_kind kind) in
      let one : K (compared_term (is_float kind) local) =
      subst K (sym (local_term (is_float kind) number own class))
      (subst (λ (k : ValueKind). IsOfKind model (OfRule reading.pred rule) k (terms.Local number)) same held) in
      let other : K (compared_term (is_float kind) stand) =
      wanted_kind IsFor IsPredFor files ground reading model things rule setting once kind around expr stand suited none in
      subst (λ (d : Bool). Comparable (map (compared_term d) (local ∷ stand ∷ []))) (sym has) (
        value_kind kind,
        All-from_recursion K (compared_term (is_float kind) local ∷ compared_term (is_float kind) stand ∷ [])
            (one, (other, tt)),
      )
    where
      either : (float decimal : Bool) → (float ≡ false → decimal ≡ false) → (float || (decimal || false)) ≡ float
      either true decimal plain = refl
      either false true plain = plain refl
      either false false plain = refl

  begun_fitted : (tally : Tally) (turns : List Made) (growth : Growth) (around : Surroundings) (sight : Sight) (decl at : ℕ)
      (kind : TypeKind) (shape : Shape) (expr : Expr) → Seen tally turns growth around sight → InNames reading.names
      (expr_read (sources_in ground) sight expr) → IsFineExpr expr → shape.kind ≡ value_kind kind → argument_faults ground.facts
      around decl (asked.Of kind) None expr ≡ [] → Leads (with_begun reading turns at shape (Some (inits.Expr expr)) growth)
      → Stays growth (with_begun reading turns at shape (Some (inits.Expr expr)) growth)
  begun_fitted tally turns growth around sight decl at kind shape expr sees names fine same none leads fit =
      let given = argument reading turns expr growth in
      let noted = with_named_at at (next_local shape given.growth) given.growth in
      let number = length given.growth.locals in
      let there = leads.locals number (unnamed shape) (get-append_last given.growth.locals (unnamed shape)) in
      let begins : Leads given.growth = record {
        locals = λ place local is. leads.locals place local (still_there given.growth.locals (unnamed shape ∷ []) place local is);
        slots = leads.slots;
      } in
      let it = one_answered IsFor IsPredFor files ground reading model things rule setting once around decl (asked.Of kind) None
      expr none in
      let suited = expr_suited IsFor IsPredFor files ground reading model things rule setting once tally turns growth around
      sight decl expr sees names fine it.0 begins in
      fit_item model reading.pred rule (Constraint Eq (compared_terms (next_local shape given.growth ∷ given.stand ∷ [])))
      (with_declared at shape given.growth) (λ plain. begins_fit around kind number shape.kind shape.class expr given.stand
      same (unnamed shape, there, refl) suited it.1) (fit_local model reading.pred rule shape noted
      (expr_kept reading Stays reads turns expr growth fit))

  -- the type of a local with which nothing is wrong is of a kind
  local_kind : (around : Surroundings) (decl : ℕ) (of : types.Type) → local_type_faults ground.facts around decl of ≡ []
      → (kind : TypeKind) × (base_kind ground.facts.names ground.facts.known of.base ≡ Some kind)
  unfolding local_type_faults
  local_kind around decl of typed =
      let wrong = base_fault ground.facts.names of.base in
      let extent = base_extent ground.facts.names ground.facts.known of.base in
      let bounds = option_map_or (λ (kind : TypeKind). local_bounds_faults ground.facts around kind extent decl of.bounds)
      (base_kind ground.facts.names ground.facts.known of.base) [] in
      setting.bases_mean of.base (no_fault decl of.at wrong (none_first (faults_here decl of.at wrong) bounds typed))

  pub local_fitted : (tally : Tally) (turns : List Made) (growth : Growth) (around : Surroundings) (sight : Sight) (decl : ℕ)
      (variable : Variable) → Seen tally turns growth around sight → InNames reading.names (local_read (sources_in ground) sight
      variable) → IsFineVariable variable → local_type_faults ground.facts around decl variable.declared ≡ []
      → init_faults ground.facts around decl variable.declared variable.init ≡ []
      → Leads (with_text_local reading turns variable growth) → Stays growth (with_text_local reading turns variable growth)
  local_fitted tally turns growth around sight decl variable sees names fine typed none leads = by variable.init refl none leads
    where
      by : (init : Option Init) → variable.init ≡ init → init_faults ground.facts around decl variable.declared init ≡ []
          → Leads (with_begun reading turns variable.name.at (type_shape reading turns growth variable.declared) init growth)
          → Stays growth (with_begun reading turns variable.name.at (type_shape reading turns growth variable.declared) init
          growth)
      by None is begun further = fit_local model reading.pred rule (type_shape reading turns growth variable.declared)
          (with_named_at variable.name.at (next_local (type_shape reading turns growth variable.declared) growth) growth)
      by (Some (inits.New creation)) is begun further = absurd (cc)
      by (Some (inits.Expr expr)) is begun further =
          let of = variable.declared in
          let kind = local_kind around decl of typed in
          let own = all_first IsNamed (type_read (sources_in ground) sight of)
          (init_read (sources_in ground) sight variable.init) names in
          let behind = all_second IsNamed (type_read (sources_in ground) sight of)
          (init_read (sources_in ground) sight variable.init) names in
          let typed_so : Fitting (denoted.Value kind.0 false) (next_local (type_shape reading turns growth of) growth) =
          subst (λ (o : Option TypeKind). Fitting (option_map_or (λ (k : TypeKind). denoted.Value k false) o denoted.Faulty)
          (next_local (type_shape reading turns growth of) growth)) kind.1
          (local_fits IsFor IsPredFor (IsThingIn reading.lexicon) Held files ground reading setting once turns growth around
          sight decl (length growth.locals) variable own typed) in
          begun_fitted tally turns growth around sight decl variable.name.at kind.0 (type_shape reading turns growth of) expr sees
          (subst (λ (init : Option Init). InNames reading.names (init_read (sources_in ground) sight init)) is behind)
          (subst IsFineStart is fine.1.1) typed_so.0
          (subst (λ (o : Option TypeKind). argument_faults ground.facts around decl (option_map_or asked.Of o asked.Compared)
          None expr ≡ []) kind.1 begun) further

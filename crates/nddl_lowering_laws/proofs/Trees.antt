-- The rules of faultless files have lawful arguments, where the model has what the files name.
use Rattle.std.proofs.Common.{◌≡◌, ℕ, zero, suc, List, [], ◌∷◌, get_or, sym, subst}
use Rattle.std.specs.Prelude.{⊤, Some, All, slice_get}
use Rattle.std.proofs.lemmas.List.Elements.{All-weaker}
use Rattle.model_core.specs.declared.class.Object.{Object}
use Rattle.model_core.specs.declared.item.Item.TheVariants.{Constraint}
use Rattle.model_core.specs.declared.model.Model.{Model}
use Rattle.model_core.specs.declared.rule.Guard.{Guard}
use Rattle.model_core.specs.declared.rule.Rule.{Rule}
use Rattle.model_core.specs.declared.rule.Side.{Side}
use Rattle.model_core.specs.declared.rule.Side.TheVariants.{Then, Otherwise}
use Rattle.model_core.specs.declared.rule.Turn.{Turn}
use Rattle.model_core.specs.Blocks.{Direct, OfBranch, OfItem, OfLocal, OfSlot, chosen, direct}
use Rattle.model_core.specs.Entries.{Entries, NoEntry, WithSlot, WithLocal, WithItem, WithBranch}
use Rattle.model_core.specs.Kinds.{AreComparable, OfRule}
use Rattle.model_core.specs.Standing.{LeadsToBlock}
use Rattle.nddl_ast.specs.declared.declaration.FileDecls.{FileDecls}
use Rattle.nddl_ast.specs.Tree.{Statements}
use Rattle.nddl_symbols.specs.declared.scope.Meaning.{Meaning}
use Rattle.nddl_symbols.specs.Joined.{joined_decls}
use Rattle.nddl_symbols.specs.Names.{scope_names}
use Rattle.nddl_types.specs.declared.table.TypeTable.{TypeTable}
use Rattle.nddl_types.specs.Table.{IsTable}
use Rattle.nddl_resolve.specs.declared.denoted.TokenSort.{TokenSort}
use Rattle.nddl_rule_check.specs.Seeing.{token_alone}
use Rattle.nddl_terms.specs.declared.lexicon.Lexicon.{Lexicon}
use Rattle.nddl_terms.specs.declared.stands.Stand.{Stand}
use Rattle.nddl_terms.specs.Growth.{no_growth}
use Rattle.nddl_terms.specs.Names.{AreReadInOrder}
use Rattle.nddl_terms.specs.PlainTree.{PlainTree}
use Rattle.nddl_terms.specs.Readings.{Readings}
use Rattle.nddl_construction.specs.declared.made.MadeObject.{MadeObject}
use Rattle.nddl_construction.specs.declared.made.NamedObject.{NamedObject}
use Rattle.nddl_env.specs.Lexicons.{lexicon_of}
use Rattle.nddl_env.specs.Shapes.{World}
use Rattle.nddl_rules.specs.Blocks.{block_names}
use Rattle.nddl_rules.specs.Sight.{no_sight}
use Rattle.nddl_rules.specs.Tally.{no_tally}
use Rattle.nddl_rules.specs.Told.{AreFileTrees}
use Rattle.nddl_unroll.specs.Blocks.{filled_block, unrolled}
use Rattle.nddl_unroll.specs.Rules.{tree_readings, tree_rule}
use Rattle.nddl_laws.specs.Fine.{AreFineStatements}
use Rattle.nddl_laws.specs.Given.{AreGiven}
use Rattle.nddl_laws.specs.Scoping.{RuleGround, sources_in}
use Rattle.nddl_laws.proofs.Knowledge.{one_facts}
use Rattle.nddl_laws.proofs.Ordered.{trees_ordered}
use Rattle.nddl_rule_laws.specs.Grounds.{HasFineText, of_body, of_rule}
use Rattle.nddl_rule_laws.specs.Meanings.{AreMade}
use Rattle.nddl_rule_laws.proofs.Grounds.{IsGrounded, all_grounded, ground_of}
use Rattle.nddl_rule_laws.proofs.Meanings.{IsFor, IsPredFor, names_read, setting_of}
use Rattle.nddl_rule_laws.proofs.Placing.{rule_at}
use Rattle.nddl_rule_laws.proofs.Rising.{text_once}
use Rattle.nddl_rule_laws.proofs.Sights.{Holding, InNames, IsSetting, none_seen}
use Rattle.nddl_rule_laws.proofs.Statements.{all_single}
use Rattle.nddl_lowering_laws.specs.Fitting.{ArgumentsFit, HasFittingArguments, HasThings, IsInModel}
use Rattle.nddl_lowering_laws.specs.Seen.{sides_of}
use Rattle.nddl_lowering_laws.proofs.Blocks.{block_fits, body_fits}
use Rattle.nddl_lowering_laws.proofs.Comparing.{IsFitItem}
use Rattle.nddl_lowering_laws.proofs.Fitted.{AreFit}
use Rattle.nddl_lowering_laws.proofs.Held.{IsHeld, IsThingIn, LeadsTo, name_held}

-- ---- ways

some_same : (one other : Direct) → Some one ≡ Some other → one ≡ other
some_same one other is = cc

module _ (model : Model) (pred : ℕ) (rule : Rule) where
  abbrev IsFit : Entries → Type 0
  IsFit = AreFit model pred rule

  abbrev IsFitEntry : Direct → Type 0
  IsFitEntry (OfItem item) = IsFitItem model pred rule item
  IsFitEntry (OfBranch guard first second) = AreComparable model (OfRule pred rule) (sides_of guard)
  IsFitEntry (OfSlot number) = ⊤
  IsFitEntry (OfLocal number) = ⊤

  entry_fit : (block : Entries) → IsFit block → (place : ℕ) (what : Direct) → slice_get (direct block) place ≡ Some what
      → IsFitEntry what
  entry_fit NoEntry are place what at = absurd (cc)
  entry_fit (WithSlot slot more) are zero what at = subst IsFitEntry (some_same (OfSlot slot) what at) tt
  entry_fit (WithSlot slot more) are (suc place) what at = entry_fit more are place what at
  entry_fit (WithLocal local more) are zero what at = subst IsFitEntry (some_same (OfLocal local) what at) tt
  entry_fit (WithLocal local more) are (suc place) what at = entry_fit more are place what at
  entry_fit (WithItem item more) are zero what at = subst IsFitEntry (some_same (OfItem item) what at) are.0
  entry_fit (WithItem item more) are (suc place) what at = entry_fit more are.1 place what at
  entry_fit (WithBranch guard first second more) are zero what at =
      subst IsFitEntry (some_same (OfBranch guard first second) what at) are.0
  entry_fit (WithBranch guard first second more) are (suc place) what at = entry_fit more are.1.1.1 place what at

  -- and so is what stands in the blocks of a branch
  side_fit : (block : Entries) → IsFit block → (place : ℕ) (guard : Guard) (first second : Entries)
      → slice_get (direct block) place ≡ Some (OfBranch guard first second) → (side : Side) → IsFit (chosen side first second)
  side_fit NoEntry are place guard first second at side = absurd (cc)
  side_fit (WithSlot slot more) are zero guard first second at side = absurd (cc)
  side_fit (WithSlot slot more) are (suc place) guard first second at side = side_fit more are place guard first second at side
  side_fit (WithLocal local more) are zero guard first second at side = absurd (cc)
  side_fit (WithLocal local more) are (suc place) guard first second at side = side_fit more are place guard first second at side
  side_fit (WithItem item more) are zero guard first second at side = absurd (cc)
  side_fit (WithItem item more) are (suc place) guard first second at side = side_fit more are.1 place guard first second at side
  side_fit (WithBranch other one two more) are zero guard first second at Then =
      let same : one ≡ first = cc in subst IsFit same are.1.0
  side_fit (WithBranch other one two more) are zero guard first second at Otherwise =
      let same : two ≡ second = cc in subst IsFit same are.1.1.0
  side_fit (WithBranch other one two more) are (suc place) guard first second at side =
      side_fit more are.1.1.1 place guard first second at side

  fit_on_way : (block : Entries) → IsFit block → (path : List Turn) (inside : Entries) → LeadsToBlock block path inside
      → (place : ℕ) (what : Direct) → slice_get (direct inside) place ≡ Some what → IsFitEntry what
  fit_on_way block are [] inside here place what at =
      entry_fit block are place what (subst (λ (b : Entries). slice_get (direct b) place ≡ Some what) here at)
  fit_on_way block are (turn ∷ path) inside there place what at =
      fit_on_way (chosen turn.side there.1.0 there.1.1) (side_fit block are turn.entry there.0 there.1.0 there.1.1 there.1.2.0
      turn.side) path inside there.1.2.1.1 place what at

  fitting : IsFit rule.top → HasFittingArguments model pred rule
  fitting are = record {
    arguments =
        λ path place kind some plain stands. fit_on_way rule.top are path stands.block stands.way place
        (OfItem (Constraint kind some)) stands.stands plain;
    guards = λ path place guard first second stands.
        fit_on_way rule.top are path stands.block stands.way place (OfBranch guard first second) stands.stands;
  }

-- ---- trees

module _ (files : List FileDecls) (table : TypeTable) (given : AreGiven files) (is : IsTable files table)
    (named_objects : List NamedObject) (made_objects : List MadeObject) (objects : List Object)
    (made : AreMade (record { facts = is.facts; enums = table.enums; named_objects = named_objects; objects = made_objects })
    objects) (model : Model) where
  abbrev world : World
  world = record { facts = is.facts; enums = table.enums; named_objects = named_objects; objects = made_objects }

  abbrev lexicon : Lexicon
  lexicon = lexicon_of world

  module _ (things : HasThings model lexicon objects) (tree : PlainTree) where
    abbrev reading : Readings
    reading = tree_readings lexicon objects tree

    abbrev rule : Rule
    rule = tree_rule lexicon objects tree

    abbrev Held : Stand → Type 0
    Held = IsHeld model tree.pred rule

    holds : Holding Held reading
    holds = record {
      scope = All-weaker (IsInModel model) Held (name_held model tree.pred rule) lexicon.scope things.names;
      class = λ number. tt;
      own = λ name part named. things.parts tree.pred name part named;
    }

    leads : LeadsTo rule (unrolled reading [] tree.body no_growth)
    leads = record { locals = λ number local there. there; slots = λ number slot there. there }

    module _ (it : IsGrounded files table given is tree) where
      abbrev ground : RuleGround
      ground = ground_of files table given is tree it

      abbrev For : Meaning → ℕ → Type 0
      For = IsFor files table given is named_objects made_objects objects made

      abbrev PredFor : TokenSort → ℕ → Type 0
      PredFor = IsPredFor files table given is named_objects made_objects objects made

      setting : IsSetting For PredFor (IsThingIn lexicon) Held files ground reading
      setting = setting_of files table given is named_objects made_objects objects made Held tree it holds

      text_fits : InNames tree.names (block_names (sources_in ground) no_sight no_tally tree.body) → HasFineText is.facts
          it.token tree.body → AreFit model tree.pred rule (filled_block (unrolled reading [] tree.body no_growth))
      text_fits named (of_rule decl none) =
          block_fits For PredFor files ground reading model things rule setting (text_once tree.body it.rising) decl tree.body
          no_tally (token_alone it.token) no_sight [] none
          (rule_at tree.body (all_single is.facts decl (token_alone it.token) [] tree.body none)) named it.written []
          no_growth (none_seen For PredFor (IsThingIn lexicon) Held files ground reading setting no_growth no_tally) leads tt
      text_fits named (of_body decl some same none) =
          subst (λ (body : Statements). LeadsTo rule (unrolled reading [] body no_growth)
          → AreFit model tree.pred rule (filled_block (unrolled reading [] body no_growth))) (sym same)
          (λ so. body_fits For PredFor files ground reading model things rule setting (text_once tree.body it.rising) decl some
          no_tally (token_alone it.token) no_sight none
          (subst (λ (body : Statements). InNames tree.names (block_names (sources_in ground) no_sight no_tally body)) same
          named) (subst AreFineStatements same it.written) [] no_growth (none_seen For PredFor (IsThingIn lexicon) Held files
          ground reading setting no_growth no_tally) so tt) leads

      tree_fits : AreReadInOrder tree.names → AreFit model tree.pred rule rule.top
      tree_fits ordered = text_fits (subst (InNames tree.names) it.names (names_read tree.names ordered)) it.text

  all_fit : HasThings model lexicon objects → (trees : List PlainTree) → AreFileTrees table files trees
      → All (λ tree. HasFittingArguments model tree.pred (tree_rule lexicon objects tree)) trees
  all_fit things trees are = λ k d within.
      let tree = get_or trees k d in
      fitting model tree.pred (tree_rule lexicon objects tree)
      (tree_fits things tree (all_grounded files table given is trees are k d within) (trees_ordered table files trees given are
      k d within))

-- ---- laws

pub arguments_fit : ArgumentsFit
arguments_fit model files table trees world objects are things =
    let is = are.is_table in
    let same : world.facts ≡ is.facts = one_facts (scope_names (joined_decls files)) (joined_decls files) world.facts is.facts
    are.facts is.are in
    let plain : World = record {
      facts = is.facts;
      enums = table.enums;
      named_objects = world.named_objects;
      objects = world.objects;
    } in
    let world_is : world ≡ plain =
    λ i. record { facts = same i; enums = are.enums i; named_objects = world.named_objects; objects = world.objects } in
    let made : AreMade plain objects = subst (λ (w : World). AreMade w objects) world_is are.made in
    subst (λ (w : World). HasThings model (lexicon_of w) objects
    → All (λ tree. HasFittingArguments model tree.pred (tree_rule (lexicon_of w) objects tree)) trees) (sym world_is)
    (λ so. all_fit files table are.given is world.named_objects world.objects objects made model so trees are.are_trees) things

-- The rules of faultless files.
use Rattle.std.proofs.Common.{ℕ, ◌+◌, Bool, true, false, List, [], ◌∷◌, get_or, subst, sym}
use Rattle.std.specs.Prelude.{Option, Some, None, All, slice_get, if◌then◌else◌}
use Rattle.std.specs.Option.{option_and_then, option_map_or}
use Rattle.std.proofs.lemmas.List.Elements.{All-append, All-cons, All-nil}
use Rattle.domain_core.specs.declared.kind.Kind.{Kind}
use Rattle.domain_core.specs.declared.kind.Kind.TheVariants as constraints
use Rattle.eu_name.proofs.Members.{get_within}
use Rattle.model_core.specs.declared.class.Object.{Object}
use Rattle.model_core.specs.declared.item.Item.{Item}
use Rattle.model_core.specs.declared.item.Item.TheVariants.{Constraint, Relation}
use Rattle.model_core.specs.declared.item.Term.{Term}
use Rattle.model_core.specs.declared.item.Term.TheVariants as terms
use Rattle.model_core.specs.declared.model.Model.{Model}
use Rattle.model_core.specs.declared.rule.Guard.{Guard}
use Rattle.model_core.specs.declared.rule.Guard.TheVariants.{Equal, Differ}
use Rattle.model_core.specs.declared.rule.Rule.{Rule}
use Rattle.model_core.specs.declared.rule.Turn.{Turn}
use Rattle.model_core.specs.declared.variable.ValueKind.TheVariants as value_kinds
use Rattle.model_core.specs.Blocks.{OfBranch, OfItem}
use Rattle.model_core.specs.Kinds.{AreArguments, AreComparable, OfRule}
use Rattle.model_core.specs.Lawful.{IsLawfulGuard, IsLawfulItem}
use Rattle.model_core.specs.Standing.{IsTermSeen, StandsAt}
use Rattle.nddl_ast.specs.declared.declaration.FileDecls.{FileDecls}
use Rattle.nddl_ast.specs.Tree.{Statements}
use Rattle.nddl_symbols.specs.declared.declared.Declared.{Declared}
use Rattle.nddl_symbols.specs.declared.declared.Sort.{Sort}
use Rattle.nddl_symbols.specs.declared.declared.Sort.TheVariants as sorts
use Rattle.nddl_symbols.specs.Names.{is_global_sort, is_root_sort}
use Rattle.nddl_hierarchy.specs.Decls.{decl_of_name}
use Rattle.nddl_hierarchy.specs.Facts.{Facts}
use Rattle.nddl_types.specs.declared.table.TypeTable.{TypeTable}
use Rattle.nddl_types.specs.Classes.{class_number, is_first}
use Rattle.nddl_resolve.specs.declared.denoted.Denoted.{Denoted}
use Rattle.nddl_resolve.specs.declared.denoted.TokenSort.{TokenSort}
use Rattle.nddl_resolve.specs.Files.{file_denoted}
use Rattle.nddl_rule_check.specs.Seeing.{token_alone}
use Rattle.nddl_terms.specs.PlainTree.{PlainTree}
use Rattle.nddl_terms.specs.declared.tree.ReadName.{ReadName}
use Rattle.nddl_terms.specs.Preds.{class_named}
use Rattle.nddl_terms.specs.declared.stands.Stand.{Stand}
use Rattle.nddl_terms.specs.declared.stands.Stand.TheVariants as stands
use Rattle.nddl_rules.specs.Sight.{no_sight}
use Rattle.nddl_rules.specs.Tally.{no_tally}
use Rattle.nddl_env.specs.Lexicons.{asked_name, denoted_class, lexicon_of, name_stand, pred_shapes, root_of_class, root_stand, scope_stands, sort_stand, stand_if_first, token_class}
use Rattle.nddl_env.specs.Objects.{made_object}
use Rattle.nddl_env.specs.Shapes.{World}
use Rattle.nddl_unroll.specs.Meant.{IsTreeMeant}
use Rattle.nddl_unroll.specs.Rules.{tree_rule}
use Rattle.nddl_laws.specs.Lookups.{IsReadFor, rule_lookups, rule_numbered}
use Rattle.nddl_laws.specs.Scoping.{sources_in}
use Rattle.nddl_laws.proofs.Ordered.{trees_ordered}
use Rattle.nddl_terms.specs.Names.{AreReadInOrder}
use Rattle.std.specs.List.{AllZip}
use Rattle.nddl_rule_laws.specs.Grounds.{HasFineText, HasGround, of_body, of_rule}
use Rattle.nddl_rule_laws.proofs.Grounds.{trees_have_grounds}
use Rattle.nddl_rule_laws.proofs.Meanings.{trees_meant}
use Rattle.nddl_lowering_laws.specs.Faultless.{FaultlessRulesAreLawful, HasFittingFields, NamesWhatIsSeen, RulesNameWhatIsSeen, TreesAreScoped}
use Rattle.nddl_lowering_laws.specs.Fitting.{HasFittingArguments}
use Rattle.nddl_lowering_laws.specs.Scoped.{AreApart, AreRead, HasFineCalls, local_places, slot_places}
use Rattle.nddl_lowering_laws.specs.Seen.{IsOfFiles, IsScoped, sides_of}
use Rattle.nddl_lowering_laws.specs.Whole.{HasLawfulKinds}
use Rattle.nddl_lowering_laws.proofs.Apart.{places_apart}
use Rattle.nddl_lowering_laws.proofs.Joining.{rules_lawful}
use Rattle.nddl_lowering_laws.proofs.Reading.{names_found}
use Rattle.nddl_lowering_laws.proofs.Relating.{blocks_fine, bodies_fine}
use Rattle.nddl_lowering_laws.proofs.Sighted.{items_have_arities, relations_have_slots, terms_are_seen}
use Rattle.nddl_lowering_laws.proofs.Trees.{arguments_fit}

-- ---- names of the files

found_of_files : {A : Type 0} (stand_of : A → Stand) (found : Option A) → ((some : A) → IsOfFiles (stand_of some))
    → IsOfFiles (option_map_or stand_of found stands.Nothing)
found_of_files stand_of None each = tt
found_of_files stand_of (Some some) each = each some

root_of_files : (world : World) (number : ℕ) (declared : Declared) (meant : Option Denoted) → IsOfFiles (root_stand world number declared meant)
root_of_files world number declared meant =
    found_of_files
    (λ name. option_map_or (root_of_class world number name.text) (token_class meant) stands.Nothing)
    (option_and_then asked_name (decl_of_name world.facts.program declared))
    (λ name. found_of_files (root_of_class world number name.text) (token_class meant)
    (λ class. found_of_files (stands.Root number) (class_named (class_number world.facts.names class) name.text (pred_shapes world)) (λ pred. tt)))

sort_of_files : (world : World) (entry globals roots : ℕ) (declared : Declared) (meant : Option Denoted) (sort : Sort)
    → IsOfFiles (sort_stand world entry globals roots declared meant sort)
sort_of_files world entry globals roots declared meant (sorts.Member of place) = tt
sort_of_files world entry globals roots declared meant sorts.Global = tt
sort_of_files world entry globals roots declared meant sorts.Object =
    found_of_files (λ value. stands.Value (terms.Lit value) value_kinds.Object (denoted_class world meant)) (made_object (slice_get world.named_objects entry)) (λ value. tt)
sort_of_files world entry globals roots declared meant sorts.Root = root_of_files world roots declared meant
sort_of_files world entry globals roots declared meant sorts.Forward = tt
sort_of_files world entry globals roots declared meant sorts.Body = tt
sort_of_files world entry globals roots declared meant sort = tt

either_of_files : (first : Bool) (stand : Stand) → IsOfFiles stand → All IsOfFiles (if first then stand ∷ [] else [])
either_of_files true stand is = All-cons IsOfFiles stand [] is (All-nil IsOfFiles)
either_of_files false stand is = All-nil IsOfFiles

scope_of_files : (world : World) (entry globals roots : ℕ) (names : List Declared) → All IsOfFiles (scope_stands world entry globals roots names)
scope_of_files world entry globals roots [] = All-nil IsOfFiles
scope_of_files world entry globals roots (declared ∷ more) =
    let next_global = if is_global_sort declared.sort then globals + 1 else globals in
    let next_root = if is_root_sort declared.sort then roots + 1 else roots in
    All-append IsOfFiles (stand_if_first world entry globals roots declared) (scope_stands world (entry + 1) next_global next_root more)
    (either_of_files (is_first world.facts.names entry declared) (name_stand world entry globals roots declared)
    (sort_of_files world entry globals roots declared (file_denoted world.facts declared.name) declared.sort))
    (scope_of_files world (entry + 1) next_global next_root more)

-- ---- trees

text_fine : (facts : Facts) (token : TokenSort) (statements : Statements) → HasFineText facts token statements → HasFineCalls statements
text_fine facts token statements (of_rule decl none) = blocks_fine facts decl (token_alone token) [] statements none
text_fine facts token statements (of_body decl some are none) =
    subst HasFineCalls (sym are) (bodies_fine facts decl (token_alone token) some none)

module _ (files : List FileDecls) (table : TypeTable) (world : World) (objects : List Object) (tree : PlainTree) where
  abbrev HasPlacesApart : Type 0
  HasPlacesApart = AreApart (local_places tree.body) × AreApart (slot_places tree.body)

  tree_scoped : HasGround files table tree → AreReadInOrder tree.names → HasPlacesApart → IsTreeMeant (lexicon_of world) objects tree
      → IsScoped (lexicon_of world) objects tree
  tree_scoped has order apart meant =
      let ground = has.0 in
      let stands_on = has.1 in
      let named = subst (λ (names : List ReadName). AllZip (IsReadFor ground (rule_numbered ground tree.body)) names (rule_lookups ground tree.body))
      stands_on.names stands_on.read in
      let found = names_found files ground tree.body stands_on.is_ground (subst AreReadInOrder stands_on.names order) named in
      record {
        sources = sources_in ground;
        read = subst (λ (names : List ReadName). AreRead names (sources_in ground) no_sight no_tally tree.body) (sym stands_on.names) found;
        calls = text_fine ground.facts ground.token tree.body stands_on.text;
        locals = apart.0;
        slots = apart.1;
        files = scope_of_files world 0 0 0 world.facts.names;
        meant = meant;
      }

pub trees_scoped : TreesAreScoped
trees_scoped files table trees world objects faultless k d below =
    tree_scoped files table world objects (get_or trees k d)
    (trees_have_grounds files table trees faultless.given faultless.is_table faultless.are_trees k d below)
    (trees_ordered table files trees faultless.given faultless.are_trees k d below)
    (places_apart table files trees faultless.given faultless.are_trees k d below)
    (trees_meant files table trees world objects faultless k d below)

-- ---- rules

pub rules_seen : RulesNameWhatIsSeen
rules_seen files table trees world objects faultless k d below =
    let lexicon = lexicon_of world in
    let tree = get_or trees k d in
    let scoped = trees_scoped files table trees world objects faultless k d below in
    record {
      seen = terms_are_seen lexicon objects tree scoped;
      arities = items_have_arities lexicon objects tree scoped;
      related = relations_have_slots lexicon objects tree scoped;
    }

guard_lawful : (model : Model) (pred : ℕ) (rule : Rule) (path : List Turn) (guard : Guard) → AreComparable model (OfRule pred rule) (sides_of guard)
    → All (IsTermSeen rule.top path) (sides_of guard) → IsLawfulGuard model pred rule path guard
guard_lawful model pred rule path (Equal left right) same seen = (same, seen)
guard_lawful model pred rule path (Differ left right) same seen = (same, seen)

module _ (model : Model) (pred : ℕ) (rule : Rule) (names : NamesWhatIsSeen rule) (fits : HasFittingArguments model pred rule)
    (fields : HasFittingFields model pred rule) where
  arguments_lawful : (path : List Turn) (place : ℕ) (kind : Kind) (some : List Term) → StandsAt rule.top path place (OfItem (Constraint kind some))
      → AreArguments model (OfRule pred rule) kind some
  arguments_lawful path place (constraints.Field number) some stands_there = fields.fields path place number some stands_there
  arguments_lawful path place kind some stands_there = fits.arguments path place kind some tt stands_there

  item_lawful : (path : List Turn) (place : ℕ) (item : Item) → StandsAt rule.top path place (OfItem item) → IsLawfulItem model (OfRule pred rule) item
  item_lawful path place (Constraint kind some) stands_there =
      (names.arities path place (Constraint kind some) stands_there, arguments_lawful path place kind some stands_there)
  item_lawful path place (Relation relation number) stands_there = get_within rule.slots number (names.related path place relation number stands_there)

  kinds_lawful : HasLawfulKinds model pred rule
  kinds_lawful = record {
    locals = fields.locals;
    items = λ path place item stands_there. (item_lawful path place item stands_there, names.seen path place (OfItem item) stands_there);
    guards = λ path place guard first second stands_there.
        guard_lawful model pred rule path guard (fits.guards path place guard first second stands_there)
        (names.seen path place (OfBranch guard first second) stands_there);
  }

pub faultless_lawful : FaultlessRulesAreLawful
faultless_lawful model files table trees world objects has =
    let lexicon = lexicon_of world in
    let seen = rules_seen files table trees world objects has.faultless in
    let fits = arguments_fit model files table trees world objects has.faultless has.things in
    rules_lawful model table files trees lexicon objects (
    record {
      given = has.faultless.given;
      are_trees = has.faultless.are_trees;
      no_limit = has.no_limit;
      rules = has.rules;
      preds = has.preds;
      kinds = λ k d below.
          let tree = get_or trees k d in
          kinds_lawful model tree.pred (tree_rule lexicon objects tree) (seen k d below) (fits k d below) (has.fields k d below);
    }
    )

-- That what stands in rules names what is seen there.
use Rattle.std.specs.Prelude.{◌≡◌, ◌<◌, ℕ, ⊤, List, [], ◌∷◌, length, All}
use Rattle.domain_core.specs.Constraints.{arity_of}
use Rattle.model_core.specs.declared.class.Object.{Object}
use Rattle.model_core.specs.declared.item.Item.{Item}
use Rattle.model_core.specs.declared.item.Item.TheVariants.{Constraint, Relation}
use Rattle.model_core.specs.declared.item.Rel.{Rel}
use Rattle.model_core.specs.declared.item.Term.{Term}
use Rattle.model_core.specs.declared.item.Term.TheVariants as terms
use Rattle.model_core.specs.declared.rule.Guard.{Guard}
use Rattle.model_core.specs.declared.rule.Guard.TheVariants.{Equal, Differ}
use Rattle.model_core.specs.declared.rule.Turn.{Turn}
use Rattle.model_core.specs.Blocks.{Direct, OfBranch, OfItem}
use Rattle.model_core.specs.Entries.{Entries}
use Rattle.model_core.specs.Standing.{IsItemSeen, IsTermSeen, StandsAt}
use Rattle.nddl_ast.specs.declared.declaration.FileDecls.{FileDecls}
use Rattle.nddl_laws.specs.Given.{AreGiven}
use Rattle.nddl_types.specs.declared.table.TypeTable.{TypeTable}
use Rattle.nddl_terms.specs.PlainTree.{PlainTree}
use Rattle.nddl_terms.specs.declared.lexicon.Lexicon.{Lexicon}
use Rattle.nddl_terms.specs.declared.stands.Stand.{Stand}
use Rattle.nddl_terms.specs.declared.stands.Stand.TheVariants as stands
use Rattle.nddl_rules.specs.Reads.{NameSources}
use Rattle.nddl_rules.specs.Sight.{no_sight}
use Rattle.nddl_rules.specs.Tally.{no_tally}
use Rattle.nddl_rules.specs.Told.{AreFileTrees}
use Rattle.nddl_unroll.specs.Meant.{IsTreeMeant}
use Rattle.nddl_unroll.specs.Rules.{tree_rule}
use Rattle.nddl_lowering_laws.specs.Scoped.{AreApart, AreRead, HasFineCalls, local_places, slot_places}

-- the two sides of a guard
abbrev pub sides_of : Guard → List Term
sides_of (Equal left right) = left ∷ right ∷ []
sides_of (Differ left right) = left ∷ right ∷ []

-- what an item or a guard names is seen from its block
abbrev pub IsSeenEntry : Entries → List Turn → Direct → Type 0
IsSeenEntry top path (OfItem item) = IsItemSeen top path item
IsSeenEntry top path (OfBranch guard then otherwise) = All (IsTermSeen top path) (sides_of guard)
IsSeenEntry top path what = ⊤

-- so it is of all that stands in the blocks
abbrev pub HasSeenTerms : Entries → Type 0
HasSeenTerms top = (path : List Turn) (place : ℕ) (what : Direct) → StandsAt top path place what → IsSeenEntry top path what

-- a constraint has as many arguments as its kind takes
abbrev pub HasArity : Item → Type 0
HasArity (Constraint kind arguments) = length arguments ≡ arity_of kind
HasArity (Relation relation slot) = ⊤

-- so has each that stands in the blocks
abbrev pub HasArities : Entries → Type 0
HasArities top = (path : List Turn) (place : ℕ) (item : Item) → StandsAt top path place (OfItem item) → HasArity item

-- a name of the files stands for no slot or local of a rule
abbrev pub IsOfFiles : Stand → Type 0
IsOfFiles (stands.Value (terms.Slot number part) own class) = ⊥
IsOfFiles (stands.Value (terms.Local number) own class) = ⊥
IsOfFiles (stands.Slot number pred) = ⊥
IsOfFiles stand = ⊤

-- Names in the text are read as they are seen, no two of its locals or slots are declared at one place, its calls have the
-- arguments that they may have, and all that is read means something.
pub record IsScoped (lexicon : Lexicon) (objects : List Object) (tree : PlainTree) : Type 0 where
  pub sources : NameSources
  pub read : AreRead tree.names sources no_sight no_tally tree.body
  pub calls : HasFineCalls tree.body
  pub locals : AreApart (local_places tree.body)
  pub slots : AreApart (slot_places tree.body)
  pub files : All IsOfFiles lexicon.scope
  pub meant : IsTreeMeant lexicon objects tree

-- then what stands in the rule names what is seen
abbrev pub TermsAreSeen : Type 0
TermsAreSeen =
    (lexicon : Lexicon) (objects : List Object) (tree : PlainTree) → IsScoped lexicon objects tree
    → HasSeenTerms (tree_rule lexicon objects tree).top

-- and its constraints have as many arguments as their kinds take
abbrev pub ItemsHaveArities : Type 0
ItemsHaveArities =
    (lexicon : Lexicon) (objects : List Object) (tree : PlainTree) → IsScoped lexicon objects tree
    → HasArities (tree_rule lexicon objects tree).top

-- a relation is one with a slot of the rule
abbrev pub RelationsHaveSlots : Type 0
RelationsHaveSlots =
    (lexicon : Lexicon) (objects : List Object) (tree : PlainTree) → IsScoped lexicon objects tree
    → (path : List Turn) (place : ℕ) (relation : Rel) (number : ℕ)
    → StandsAt (tree_rule lexicon objects tree).top path place (OfItem (Relation relation number))
    → number < length (tree_rule lexicon objects tree).slots

-- no two locals or slots of a text are declared at one place, if some shelf gives the files
abbrev pub PlacesAreApart : Type 0
PlacesAreApart =
    (table : TypeTable) (files : List FileDecls) (trees : List PlainTree) → AreGiven files → AreFileTrees table files trees
    → All (λ tree. AreApart (local_places tree.body) × AreApart (slot_places tree.body)) trees

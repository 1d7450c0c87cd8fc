-- The names that are looked up in a rule, and what is seen there: both its faults and its tree come of these.
use Rattle.std.specs.Prelude.{◌≡◌, ℕ, List, [], ◌∷◌, ◌++◌, Option, Some, None, Bool, true, false, length}
use Rattle.std.specs.List.{AllByRecursion, AllZip, flat_map}
use Rattle.nddl_ast.specs.declared.declaration.FileDecls.{FileDecls}
use Rattle.nddl_ast.specs.declared.declaration.PredicatePart.{PredicatePart}
use Rattle.nddl_ast.specs.declared.expression.BaseType.{BaseType}
use Rattle.nddl_ast.specs.declared.expression.BaseType.TheVariants as bases
use Rattle.nddl_ast.specs.declared.expression.Bounds.{Bounds}
use Rattle.nddl_ast.specs.declared.expression.Bounds.TheVariants as bounds
use Rattle.nddl_ast.specs.declared.expression.Expr.{Expr}
use Rattle.nddl_ast.specs.declared.expression.Expr.TheVariants as exprs
use Rattle.nddl_ast.specs.declared.expression.Init.{Init}
use Rattle.nddl_ast.specs.declared.expression.Init.TheVariants as inits
use Rattle.nddl_ast.specs.declared.expression.Type as types
use Rattle.nddl_ast.specs.declared.expression.Value.{Value}
use Rattle.nddl_ast.specs.declared.expression.Value.TheVariants as values
use Rattle.nddl_ast.specs.declared.name.Name.{Name}
use Rattle.nddl_ast.specs.declared.statement.Condition.{Condition}
use Rattle.nddl_ast.specs.declared.statement.Condition.TheVariants as conditions
use Rattle.nddl_ast.specs.declared.statement.Variable.{Variable}
use Rattle.nddl_ast.specs.Block.{statements_of}
use Rattle.nddl_ast.specs.Tree.{Statements, Nothing, Declares, Calls, Asks, Tests, Chooses, Repeats}
use Rattle.nddl_symbols.specs.declared.scope.Meaning.{Meaning}
use Rattle.nddl_symbols.specs.Scope.{meaning_of}
use Rattle.nddl_hierarchy.specs.Facts.{Facts}
use Rattle.nddl_declarations.specs.Faults.{all_faults}
use Rattle.nddl_resolve.specs.declared.denoted.Denoted.{Denoted}
use Rattle.nddl_resolve.specs.declared.denoted.Denoted.TheVariants as denoted
use Rattle.nddl_resolve.specs.declared.denoted.TokenSort.{TokenSort}
use Rattle.nddl_resolve.specs.Paths.{Surroundings, first_denoted}
use Rattle.nddl_rule_check.specs.Blocks.{block_faults, local_value, slot_value, turn_value}
use Rattle.nddl_rule_check.specs.Rules.{part_rule_faults}
use Rattle.nddl_rule_check.specs.Seeing.{seeing_label, seeing_local, seeing_turn, token_alone}
use Rattle.nddl_terms.specs.declared.tree.Meaning as tree
use Rattle.nddl_terms.specs.declared.tree.ReadName.{ReadName}
use Rattle.nddl_rules.specs.Blocks.{asks_slot, block_names}
use Rattle.nddl_rules.specs.Collected.{part_statements}
use Rattle.nddl_rules.specs.Reads.{NameSources, front_read, scope_read}
use Rattle.nddl_rules.specs.Sight.{Sight, no_sight, with_label, with_rule_local, with_turn}
use Rattle.nddl_rules.specs.Tally.{no_tally}
use Rattle.nddl_laws.specs.Given.{AreGiven}
use Rattle.nddl_laws.specs.Scoping.{IsGround, Numbered, ReadsAlike, RuleGround, file_read, local_numbered, none_numbered, read_denoted, slot_numbered, sources_in, turn_numbered}

-- ---- names where they stand

-- what is seen at one place, by those who look for faults and by those who make the tree
pub record Outlook : Type 0 where
  pub around : Surroundings
  pub sight : Sight

-- a name that is looked up, in the files alone or in all that is seen
pub record Lookup : Type 0 where
  pub name : Name
  pub alone : Bool
  pub outlook : Outlook

abbrev pub in_files : Outlook → Name → Lookup
in_files outlook name = record { name = name; alone = true; outlook = outlook }

abbrev pub in_front : Outlook → Name → Lookup
in_front outlook name = record { name = name; alone = false; outlook = outlook }

-- ---- parts of statements

abbrev pub expr_lookups : Outlook → Expr → List Lookup
expr_lookups outlook (exprs.Path path) = in_front outlook path.first ∷ []
expr_lookups outlook (exprs.Literal literal) = []

abbrev pub exprs_lookups : Outlook → List Expr → List Lookup
exprs_lookups outlook some = flat_map (expr_lookups outlook) some

abbrev pub base_lookups : Outlook → BaseType → List Lookup
base_lookups outlook (bases.Named name) = in_files outlook name ∷ []
base_lookups outlook base = []

abbrev pub value_lookups : Outlook → Value → List Lookup
value_lookups outlook (values.Name name) = in_front outlook name ∷ []
value_lookups outlook (values.Literal literal) = []

abbrev pub values_lookups : Outlook → List Value → List Lookup
values_lookups outlook some = flat_map (value_lookups outlook) some

abbrev pub bounds_lookups : Outlook → Bounds → List Lookup
bounds_lookups outlook bounds.All = []
bounds_lookups outlook (bounds.Range at least greatest) = value_lookups outlook least ++ value_lookups outlook greatest
bounds_lookups outlook (bounds.Set at some) = values_lookups outlook some

abbrev pub type_lookups : Outlook → types.Type → List Lookup
type_lookups outlook type = base_lookups outlook type.base ++ bounds_lookups outlook type.bounds

-- what a local begins as
abbrev pub init_lookups : Outlook → Option Init → List Lookup
init_lookups outlook None = []
init_lookups outlook (Some (inits.Expr expr)) = expr_lookups outlook expr
init_lookups outlook (Some (inits.New creation)) = []

abbrev pub local_lookups : Outlook → Variable → List Lookup
local_lookups outlook variable = type_lookups outlook variable.declared ++ init_lookups outlook variable.init

-- the path of a relation with a label; a predicate alone isn't looked up
abbrev pub asked_lookups : Outlook → Name → List Name → List Lookup
asked_lookups outlook first [] = []
asked_lookups outlook first (name ∷ more) = in_front outlook first ∷ []

abbrev pub condition_lookups : Outlook → Condition → List Lookup
condition_lookups outlook (conditions.Truth expr) = expr_lookups outlook expr
condition_lookups outlook (conditions.Equal one other) = expr_lookups outlook one ++ expr_lookups outlook other
condition_lookups outlook (conditions.NotEqual one other) = expr_lookups outlook one ++ expr_lookups outlook other

-- ---- what is declared

-- a slot more without a label, which no name denotes, if there is one
abbrev pub unlabelled_if : Bool → Numbered → Numbered
unlabelled_if true numbered = slot_numbered numbered denoted.Faulty
unlabelled_if false numbered = numbered

-- a variable of `foreach` is seen, whose number comes next
abbrev pub sees_turn : Outlook → Numbered → Name → Denoted → Outlook
sees_turn outlook numbered name meant = record {
  around = seeing_turn outlook.around name meant;
  sight = with_turn outlook.sight name.text (length numbered.turns);
}

-- a local is
abbrev pub sees_local : Outlook → Numbered → Name → Denoted → Outlook
sees_local outlook numbered name meant = record {
  around = seeing_local outlook.around name meant;
  sight = with_rule_local outlook.sight name.text (length numbered.locals);
}

-- the label of a slot is
abbrev pub sees_label : Outlook → Numbered → Name → Denoted → Outlook
sees_label outlook numbered name meant = record {
  around = seeing_label outlook.around name meant;
  sight = with_label outlook.sight name.text (length numbered.slots);
}

-- What the turns, locals and slots denote that have a number behind the statements of a block, those in inner blocks too, where
-- those before it denote this.
abbrev pub block_numbered : Facts → Surroundings → Numbered → Statements → Numbered
block_numbered facts around numbered Nothing = numbered
block_numbered facts around numbered (Declares variable more) =
    let meant = local_value facts variable in
    block_numbered facts (seeing_local around variable.name meant) (local_numbered numbered meant) more
block_numbered facts around numbered (Calls call more) =
    block_numbered facts around (unlabelled_if (asks_slot call) numbered) more
block_numbered facts around numbered (Asks ask more) =
    let meant = slot_value facts around ask in
    block_numbered facts (seeing_label around ask.label meant) (slot_numbered numbered meant) more
block_numbered facts around numbered (Tests at condition then_at then more) =
    block_numbered facts around (block_numbered facts around numbered then) more
block_numbered facts around numbered (Chooses at condition then_at then else_at else more) =
    block_numbered facts around (block_numbered facts around (block_numbered facts around numbered then) else) more
block_numbered facts around numbered (Repeats at name class body_at body more) =
    let meant = turn_value facts class in
    block_numbered facts around (block_numbered facts (seeing_turn around name meant) (turn_numbered numbered meant) body) more

-- ---- blocks

-- The names that are looked up in the statements of a block, in order, where this is seen and what has a number denotes this.
abbrev pub block_lookups : Facts → Outlook → Numbered → Statements → List Lookup
block_lookups facts outlook numbered Nothing = []
block_lookups facts outlook numbered (Declares variable more) =
    let meant = local_value facts variable in
    local_lookups outlook variable
    ++ block_lookups facts (sees_local outlook numbered variable.name meant) (local_numbered numbered meant) more
block_lookups facts outlook numbered (Calls call more) =
    exprs_lookups outlook call.arguments ++ block_lookups facts outlook (unlabelled_if (asks_slot call) numbered) more
block_lookups facts outlook numbered (Asks ask more) =
    let meant = slot_value facts outlook.around ask in
    asked_lookups outlook ask.path.first ask.path.rest
    ++ block_lookups facts (sees_label outlook numbered ask.label meant) (slot_numbered numbered meant) more
block_lookups facts outlook numbered (Tests at condition then_at then more) =
    condition_lookups outlook condition
    ++ (block_lookups facts outlook numbered then
    ++ block_lookups facts outlook (block_numbered facts outlook.around numbered then) more)
block_lookups facts outlook numbered (Chooses at condition then_at then else_at else more) =
    let behind = block_numbered facts outlook.around numbered then in
    condition_lookups outlook condition
    ++ (block_lookups facts outlook numbered then
    ++ (block_lookups facts outlook behind else
    ++ block_lookups facts outlook (block_numbered facts outlook.around behind else) more))
block_lookups facts outlook numbered (Repeats at name class body_at body more) =
    let meant = turn_value facts class in
    let inside = turn_numbered numbered meant in
    (in_files outlook class ∷ [])
    ++ (block_lookups facts (sees_turn outlook numbered name meant) inside body
    ++ block_lookups facts outlook (block_numbered facts (seeing_turn outlook.around name meant) inside body) more)

-- ---- rules

-- the token of a rule alone
abbrev pub own_outlook : TokenSort → Outlook
own_outlook token = record { around = token_alone token; sight = no_sight }

-- the names that are looked up in a rule with these statements
abbrev pub rule_lookups : RuleGround → Statements → List Lookup
rule_lookups ground statements = block_lookups ground.facts (own_outlook ground.token) none_numbered statements

-- what its turns, locals and slots denote
abbrev pub rule_numbered : RuleGround → Statements → Numbered
rule_numbered ground statements = block_numbered ground.facts (token_alone ground.token) none_numbered statements

-- the names of its tree
abbrev pub rule_names : RuleGround → Statements → List ReadName
rule_names ground statements = block_names (sources_in ground) no_sight no_tally statements

-- what the tree has of a name that is looked up in the files alone, or in all that is seen
abbrev pub name_read : NameSources → Sight → Name → Bool → List ReadName
name_read sources sight name true = scope_read sources.scope name
name_read sources sight name false = front_read sources sight name

abbrev pub lookup_read : NameSources → Lookup → List ReadName
lookup_read sources lookup = name_read sources lookup.outlook.sight lookup.name lookup.alone

-- a name that is looked up is read as what it denotes
abbrev pub IsReadAlike : RuleGround → Numbered → Lookup → Type 0
IsReadAlike ground numbered lookup =
    ReadsAlike ground lookup.outlook.around lookup.outlook.sight numbered lookup.name.text

-- the tree of a rule has just the names that are looked up, each read as what it denotes
pub record IsRuleReadAlike (ground : RuleGround) (statements : Statements) : Type 0 where
  pub names : rule_names ground statements ≡ flat_map (lookup_read (sources_in ground)) (rule_lookups ground statements)
  pub alike : AllByRecursion (IsReadAlike ground (rule_numbered ground statements)) (rule_lookups ground statements)

-- it is so of each rule
abbrev pub ReadRulesAlike : Type 0
ReadRulesAlike =
    (files : List FileDecls) (ground : RuleGround) (statements : Statements) → IsGround files ground → IsRuleReadAlike ground statements

-- ---- rules with which nothing is wrong

-- a name that is looked up in the files means something there, which is what is read
pub record IsReadInFiles (ground : RuleGround) (read : tree.Meaning) (name : List ℕ) : Type 0 where
  pub meaning : Meaning
  pub means : meaning_of ground.facts.names name ≡ Some meaning
  pub is : file_read ground.facts.names ground.scope read ≡ Some meaning

-- one that is looked up in all that is seen denotes something there, which is what is read
pub record IsReadInFront (ground : RuleGround) (numbered : Numbered) (read : tree.Meaning) (around : Surroundings) (name : List ℕ) : Type 0 where
  pub meant : Denoted
  pub denotes : first_denoted ground.facts around name ≡ Some meant
  pub is : read_denoted ground numbered read ≡ Some meant

-- the one or the other
abbrev pub IsReadSo : RuleGround → Numbered → tree.Meaning → Surroundings → List ℕ → Bool → Type 0
IsReadSo ground numbered read around name true = IsReadInFiles ground read name
IsReadSo ground numbered read around name false = IsReadInFront ground numbered read around name

-- what is read where a name is looked up is the thing that it denotes
pub record IsReadFor (ground : RuleGround) (numbered : Numbered) (read : ReadName) (lookup : Lookup) : Type 0 where
  pub at : read.at ≡ lookup.name.at
  pub thing : IsReadSo ground numbered read.meaning lookup.outlook.around lookup.name.text lookup.alone

-- each name that is looked up in a rule with which nothing is wrong is read, as the thing that it denotes
abbrev pub ReadFineRules : Type 0
ReadFineRules =
    (files : List FileDecls) (ground : RuleGround) (decl : ℕ) (statements : Statements) → AreGiven files → IsGround files ground
    → all_faults ground.facts ≡ [] → block_faults ground.facts decl (token_alone ground.token) [] statements ≡ []
    → AllZip (IsReadFor ground (rule_numbered ground statements)) (rule_names ground statements) (rule_lookups ground statements)

-- and each in a body of a predicate with whose constraints nothing is wrong
abbrev pub ReadFineBodies : Type 0
ReadFineBodies =
    (files : List FileDecls) (ground : RuleGround) (decl : ℕ) (some : List PredicatePart) → IsGround files ground
    → flat_map (part_rule_faults ground.facts decl (token_alone ground.token)) some ≡ []
    → AllZip (IsReadFor ground (rule_numbered ground (statements_of (part_statements some))))
    (rule_names ground (statements_of (part_statements some))) (rule_lookups ground (statements_of (part_statements some)))

-- That a name in a rule is read as what it denotes for those who look for faults: how the two correspond.
use Rattle.std.specs.Prelude.{◌≡◌, ℕ, List, [], ◌∷◌, ◌++◌, Option, Some, None, Bool, true, false, ⊤, codes, length, map, slice_get}
use Rattle.std.specs.List.{AllZip}
use Rattle.std.specs.Option.{option_and_then, option_map}
use Rattle.eu_name.specs.declared.name.Part.{Part}
use Rattle.eu_name.specs.declared.name.Part.TheVariants as parts
use Rattle.eu_index.specs.Hiding.{last_meaning}
use Rattle.model_core.specs.declared.variable.VarDecl.{VarDecl}
use Rattle.model_core.specs.Naming.{names_of}
use Rattle.nddl_ast.specs.declared.declaration.FileDecls.{FileDecls}
use Rattle.nddl_symbols.specs.declared.declared.Declared.{Declared}
use Rattle.nddl_symbols.specs.declared.scope.Meaning.{Meaning}
use Rattle.nddl_symbols.specs.declared.scope.Meaning.TheVariants as meanings
use Rattle.nddl_symbols.specs.Joined.{joined_decls, joined_sites}
use Rattle.nddl_symbols.specs.Names.{scope_names}
use Rattle.nddl_symbols.specs.Scope.{meaning_of, named_number}
use Rattle.nddl_typeexpr.specs.declared.kind.TypeKind.TheVariants as kinds
use Rattle.nddl_hierarchy.specs.Facts.{Facts}
use Rattle.nddl_declarations.specs.Known.{AreFacts}
use Rattle.nddl_declarations.specs.Members.{parameters_of}
use Rattle.nddl_types.specs.declared.table.Named.{Named}
use Rattle.nddl_types.specs.Scoped.{named_from}
use Rattle.nddl_resolve.specs.declared.denoted.Denoted.{Denoted}
use Rattle.nddl_resolve.specs.declared.denoted.Predicate.{Predicate}
use Rattle.nddl_resolve.specs.declared.denoted.Predicate.TheVariants as predicates
use Rattle.nddl_resolve.specs.declared.denoted.Seen.{Seen}
use Rattle.nddl_resolve.specs.declared.denoted.TokenSort.{TokenSort}
use Rattle.nddl_resolve.specs.Fields.{type_value}
use Rattle.nddl_resolve.specs.Files.{meaning_denoted}
use Rattle.nddl_resolve.specs.Paths.{Surroundings, first_denoted, last_seen, near_denoted, own_denoted}
use Rattle.nddl_resolve.specs.Predicates.{changing_value, declared_parts}
use Rattle.nddl_resolve.specs.Seen.{seen_as}
use Rattle.nddl_rule_check.specs.Slots.{is_label}
use Rattle.nddl_terms.specs.declared.tree.Meaning as tree
use Rattle.nddl_terms.specs.declared.tree.Meaning.TheVariants as reads
use Rattle.nddl_rules.specs.declared.sight.Tally.{Tally}
use Rattle.nddl_rules.specs.Reads.{NameSources, front_meaning, own_part, scope_meaning, sight_meaning}
use Rattle.nddl_rules.specs.Sight.{Sight}
use Rattle.nddl_rules.specs.Told.{scope_places}

-- ---- where a rule stands

-- what is known of its files, and the names of their table; the token whose rule it is, and the parameters of the predicate
-- for which its tree is made
pub record RuleGround : Type 0 where
  pub facts : Facts
  pub scope : List Named
  pub token : TokenSort
  pub params : List VarDecl

-- where the tree has the names from that the rule doesn't declare
abbrev pub sources_in : RuleGround → NameSources
sources_in ground = record { scope = scope_places [] 0 ground.scope; params = ground.params }

-- the parameters of a predicate, each with what it denotes
abbrev pub parameters_denoted : Facts → Predicate → List Seen
parameters_denoted facts predicates.BuiltIn = seen_as (codes "quantity") (changing_value kinds.Int) ∷ []
parameters_denoted facts (predicates.Declared entry member) =
    map (λ typed. seen_as typed.name.text (type_value facts.names facts.known false typed.declared))
    (parameters_of (declared_parts facts.names facts.program entry member))

-- the facts and the names are those of the files, and the parameters have the names of those of the token's predicate
pub record IsGround (files : List FileDecls) (ground : RuleGround) : Type 0 where
  pub are : AreFacts (scope_names (joined_decls files)) (joined_decls files) ground.facts
  pub scope_is : ground.scope ≡ named_from files (joined_sites files) ground.facts.names 0 ground.facts.names
  pub params_are : map (λ (seen : Seen). seen.name) (parameters_denoted ground.facts ground.token.predicate) ≡ names_of ground.params

-- ---- what is declared in a rule

-- what the turns, the locals and the slots of a rule denote that have a number so far
pub record Numbered : Type 0 where
  pub turns : List Denoted
  pub locals : List Denoted
  pub slots : List Denoted

abbrev pub none_numbered : Numbered
none_numbered = record { turns = []; locals = []; slots = [] }

-- with one turn more
abbrev pub turn_numbered : Numbered → Denoted → Numbered
turn_numbered numbered meant =
    record { turns = numbered.turns ++ meant ∷ []; locals = numbered.locals; slots = numbered.slots }

-- with one local more
abbrev pub local_numbered : Numbered → Denoted → Numbered
local_numbered numbered meant =
    record { turns = numbered.turns; locals = numbered.locals ++ meant ∷ []; slots = numbered.slots }

-- with one slot more
abbrev pub slot_numbered : Numbered → Denoted → Numbered
slot_numbered numbered meant =
    record { turns = numbered.turns; locals = numbered.locals; slots = numbered.slots ++ meant ∷ [] }

-- how many there are
abbrev pub tally_of : Numbered → Tally
tally_of numbered =
    record { turns = length numbered.turns; locals = length numbered.locals; slots = length numbered.slots }

-- ---- what a name denotes by how it is read

-- a part of a token
abbrev pub part_denoted : Facts → TokenSort → Part → Option Denoted
part_denoted facts token parts.Start = Some (changing_value kinds.Int)
part_denoted facts token parts.End = Some (changing_value kinds.Int)
part_denoted facts token parts.Duration = Some (changing_value kinds.Int)
part_denoted facts token parts.Object = Some (changing_value (kinds.Object token.class))
part_denoted facts token (parts.Param number) =
    option_map (λ (seen : Seen). seen.denoted) (slice_get (parameters_denoted facts token.predicate) number)

-- the name at this place of a table's names, by the number under which it is declared first
abbrev pub scope_entry : List Declared → List Named → ℕ → Option Meaning
scope_entry names scope place =
    option_and_then (λ (named : Named). option_map meanings.Entry (named_number false names named.name)) (slice_get scope place)

-- a name of the files, or of the language's own classes
abbrev pub file_read : List Declared → List Named → tree.Meaning → Option Meaning
file_read names scope (reads.BuiltIn number) = Some (meanings.BuiltIn number)
file_read names scope (reads.Scope place) = scope_entry names scope place
file_read names scope read = None

-- any name, where the turns, locals and slots of the rule denote this
abbrev pub read_denoted : RuleGround → Numbered → tree.Meaning → Option Denoted
read_denoted ground numbered (reads.Turn number) = slice_get numbered.turns number
read_denoted ground numbered (reads.Local number) = slice_get numbered.locals number
read_denoted ground numbered (reads.Slot number) = slice_get numbered.slots number
read_denoted ground numbered (reads.Here part) = part_denoted ground.facts ground.token part
read_denoted ground numbered (reads.Scope place) =
    option_and_then (meaning_denoted ground.facts) (scope_entry ground.facts.names ground.scope place)
read_denoted ground numbered (reads.BuiltIn number) = meaning_denoted ground.facts (meanings.BuiltIn number)

-- ---- what is seen in both ways

-- the same name, which denotes what its number stands for among these
abbrev pub IsSeenAs : List Denoted → Seen → List ℕ × ℕ → Type 0
IsSeenAs numbered seen read = (seen.name ≡ read.0) × (slice_get numbered read.1 ≡ Some seen.denoted)

-- the same variables of `foreach`, locals and labels are seen, of each sort in the same order
pub record SeeAlike (token : TokenSort) (around : Surroundings) (sight : Sight) (numbered : Numbered) : Type 0 where
  pub formals : around.formals ≡ []
  pub own : around.token ≡ Some token
  pub turns : AllZip (IsSeenAs numbered.turns) around.turns sight.turns
  pub locals : AllZip (IsSeenAs numbered.locals) around.locals sight.locals
  pub labels : AllZip (IsSeenAs numbered.slots) around.labels sight.labels

-- ---- one name

-- both are nothing, or both are something and correspond
abbrev pub AreAlike : {X Y : Type 0} → (X → Y → Type 0) → Option X → Option Y → Type 0
AreAlike R None None = ⊤
AreAlike R None (Some y) = ⊥
AreAlike R (Some x) None = ⊥
AreAlike R (Some x) (Some y) = R x y

-- the number stands for that
abbrev pub IsNumbered : List Denoted → Denoted → ℕ → Type 0
IsNumbered numbered meant number = slice_get numbered number ≡ Some meant

-- it is the label of a slot
abbrev pub is_slot_read : Option tree.Meaning → Bool
is_slot_read (Some (reads.Slot number)) = true
is_slot_read read = false

-- At each step of the order in which names hide one another the name is found in both ways or in neither, as the same thing.
-- So it denotes at the front of a path what it is read as, if that may stand there, and it is a label if it is read as a slot.
pub record ReadsAlike (ground : RuleGround) (around : Surroundings) (sight : Sight) (numbered : Numbered) (name : List ℕ) : Type 0 where
  pub turn : AreAlike (IsNumbered numbered.turns) (last_seen name around.turns) (last_meaning name sight.turns)
  pub local : AreAlike (IsNumbered numbered.locals) (last_seen name around.locals) (last_meaning name sight.locals)
  pub slot : AreAlike (IsNumbered numbered.slots) (last_seen name around.labels) (last_meaning name sight.labels)
  pub near : AreAlike (λ meant read. read_denoted ground numbered read ≡ Some meant) (near_denoted around name) (sight_meaning sight name)
  pub own : AreAlike (λ meant part. part_denoted ground.facts ground.token part ≡ Some meant)
      (own_denoted ground.facts around name) (own_part ground.params name)
  pub file : AreAlike (λ meaning read. file_read ground.facts.names ground.scope read ≡ Some meaning)
      (meaning_of ground.facts.names name) (scope_meaning (sources_in ground).scope name)
  pub front : first_denoted ground.facts around name
      ≡ option_and_then (read_denoted ground numbered) (front_meaning (sources_in ground) sight name)
  pub label : is_label around name ≡ is_slot_read (front_meaning (sources_in ground) sight name)

-- where the same is seen, each name is read as what it denotes
abbrev pub ReadNamesAlike : Type 0
ReadNamesAlike =
    (files : List FileDecls) (ground : RuleGround) (around : Surroundings) (sight : Sight) (numbered : Numbered) (name : List ℕ)
    → IsGround files ground → SeeAlike ground.token around sight numbered → ReadsAlike ground around sight numbered name

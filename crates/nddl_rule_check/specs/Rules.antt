-- What is wrong with the rules of a program.
use Rattle.std.specs.Prelude.{ℕ, ◌+◌, List, [], ◌∷◌, ◌++◌, Option, Some, None, Ok, Err}
use Rattle.std.specs.List.{flat_map}
use Rattle.nddl_ast.specs.declared.declaration.Decl.{Decl}
use Rattle.nddl_ast.specs.declared.declaration.Decl.TheVariants as decls
use Rattle.nddl_ast.specs.declared.declaration.Member.{Member}
use Rattle.nddl_ast.specs.declared.declaration.Member.TheVariants as members
use Rattle.nddl_ast.specs.declared.declaration.PredicatePart.{PredicatePart}
use Rattle.nddl_ast.specs.declared.declaration.PredicatePart.TheVariants as parts
use Rattle.nddl_ast.specs.declared.kind.TextKind.{TextKind}
use Rattle.nddl_ast.specs.declared.name.Name.{Name}
use Rattle.nddl_ast.specs.Tree.{Braces}
use Rattle.nddl_symbols.specs.declared.fault.Fault.{Fault}
use Rattle.nddl_symbols.specs.declared.scope.Meaning.{Meaning}
use Rattle.nddl_symbols.specs.declared.scope.Meaning.TheVariants as meanings
use Rattle.nddl_symbols.specs.Finding.{faults_here}
use Rattle.nddl_symbols.specs.Scope.{meaning_of}
use Rattle.nddl_hierarchy.specs.Facts.{Facts}
use Rattle.nddl_declarations.specs.Classes.{class_meaning_fault}
use Rattle.nddl_resolve.specs.declared.denoted.Denoted.TheVariants as denoted
use Rattle.nddl_resolve.specs.declared.denoted.Predicate.TheVariants as predicates
use Rattle.nddl_resolve.specs.declared.denoted.TokenSort.{TokenSort}
use Rattle.nddl_resolve.specs.Paths.{Surroundings}
use Rattle.nddl_resolve.specs.Following.{Understood, named_token}
use Rattle.nddl_rule_check.specs.Calls.{body_call_faults}
use Rattle.nddl_rule_check.specs.Blocks.{block_faults}
use Rattle.nddl_rule_check.specs.Seeing.{token_alone}

-- ---- rules of their own

-- a token of the predicate of this name of the class that this means
abbrev pub token_named : Facts → Name → Option Meaning → Understood
token_named facts predicate (Some class) = named_token facts class predicate
token_named facts predicate None = Ok denoted.Faulty

-- the same, unless this is wrong with the class
abbrev pub token_unless : Facts → Name → Name → Option Meaning → Option TextKind → Understood
token_unless facts class predicate meaning (Some kind) = Err (record { kind = kind; at = class.at })
token_unless facts class predicate meaning None = token_named facts predicate meaning

-- the token whose rule it is, or what is wrong with the names before the block
abbrev pub rule_token : Facts → Name → Name → Understood
rule_token facts class predicate =
    let meaning = meaning_of facts.names class.text in
    token_unless facts class predicate meaning (class_meaning_fault facts.names meaning)

-- what is wrong with a rule of what is understood as its token: with the block, if the names before it mean something
abbrev pub token_rule_faults : Facts → ℕ → Braces → Understood → List Fault
token_rule_faults facts decl body (Err fault) = faults_here decl fault.at (Some fault.kind)
token_rule_faults facts decl body (Ok (denoted.Token token)) = block_faults facts decl (token_alone token) [] body.statements
token_rule_faults facts decl body (Ok other) = []

abbrev pub rule_faults : Facts → ℕ → Name → Name → Braces → List Fault
rule_faults facts decl class predicate body = token_rule_faults facts decl body (rule_token facts class predicate)

-- ---- rules in the bodies of predicates

-- what is wrong with a part of the body of a predicate, but for its parameters
abbrev pub part_rule_faults : Facts → ℕ → Surroundings → PredicatePart → List Fault
part_rule_faults facts decl around (parts.Parameter typed) = []
part_rule_faults facts decl around (parts.Constraint call) = body_call_faults facts around decl call

-- the token of the predicate that the class declares as its member of this place
abbrev pub member_token : ℕ → ℕ → TokenSort
member_token entry member = record { class = meanings.Entry entry; predicate = predicates.Declared entry member }

-- what is wrong with the constraints in the member of this place of a class
abbrev pub member_rule_faults : Facts → ℕ → ℕ → ℕ → Member → List Fault
member_rule_faults facts decl entry place (members.Predicate at name some) =
    flat_map (part_rule_faults facts decl (token_alone (member_token entry place))) some
member_rule_faults facts decl entry place member = []

abbrev pub members_rule_faults : Facts → ℕ → ℕ → ℕ → List Member → List Fault
members_rule_faults facts decl entry place [] = []
members_rule_faults facts decl entry place (member ∷ more) =
    member_rule_faults facts decl entry place member ++ members_rule_faults facts decl entry (place + 1) more

-- the same of a class by what its name means
abbrev pub class_rule_faults : Facts → ℕ → List Member → Option Meaning → List Fault
class_rule_faults facts decl some (Some (meanings.Entry entry)) = members_rule_faults facts decl entry 0 some
class_rule_faults facts decl some meaning = []

-- ---- all rules

-- what is wrong with the rules in the declaration of this number
abbrev pub decl_rule_faults : Facts → ℕ → Decl → List Fault
decl_rule_faults facts number (decls.Rule class predicate body) = rule_faults facts number class predicate body
decl_rule_faults facts number (decls.Class at name parent members) =
    class_rule_faults facts number members (meaning_of facts.names name.text)
decl_rule_faults facts number decl = []

-- All that is wrong with the rules of declarations, of which the first has this number. Each rule is looked at once, for the
-- predicate for which it is written.
abbrev pub all_rule_faults : Facts → ℕ → List Decl → List Fault
all_rule_faults facts number [] = []
all_rule_faults facts number (decl ∷ more) = decl_rule_faults facts number decl ++ all_rule_faults facts (number + 1) more

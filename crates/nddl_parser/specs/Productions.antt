-- What the functions that read declarations find at the front of a list of symbols. That they find exactly what the
-- grammar has is proved of them.
use Rattle.std.specs.Prelude.{ℕ, Bool, true, false, Option, Some, None, List}
use Rattle.nddl_grammar.specs.declared.sort.Sort.{Sort}
use Rattle.eu_name.specs.declared.word.Reserved.TheVariants as keywords
use Rattle.nddl_grammar.specs.declared.sort.Sort.TheVariants as sorts
use Rattle.nddl_grammar.specs.Readers.{Reader, and_then, is, symbol_of, mark_place, mark, may_mark}
use Rattle.nddl_grammar.specs.Readers.{nothing, mapped, sequence, choice, many, after, separated, listed}
use Rattle.nddl_ast.specs.declared.name.Name.{Name}
use Rattle.nddl_ast.specs.Tree.{Braces}
use Rattle.nddl_ast.specs.declared.declaration.Typed.{Typed}
use Rattle.nddl_ast.specs.declared.declaration.PredicatePart.{PredicatePart}
use Rattle.nddl_ast.specs.declared.declaration.PredicatePart.TheVariants as parts
use Rattle.nddl_ast.specs.declared.declaration.Set.{Set}
use Rattle.nddl_ast.specs.declared.declaration.Set.TheVariants as sets
use Rattle.nddl_ast.specs.declared.declaration.Member.{Member}
use Rattle.nddl_ast.specs.declared.declaration.Member.TheVariants as members
use Rattle.nddl_ast.specs.declared.declaration.Decl.{Decl}
use Rattle.nddl_ast.specs.declared.declaration.Decl.TheVariants as decls
use Rattle.nddl_grammar.specs.declared.statements.SimpleStmt.{SimpleStmt}
use Rattle.nddl_grammar.specs.declared.statements.SimpleStmt.TheVariants as plains
use Rattle.nddl_grammar.specs.Productions.{name, init, begins_type, type_of, typed, field, variable, field_after}
use Rattle.nddl_grammar.specs.Productions.{call_end, dotted_after, call_after, plain_after, block}

unfoldable pub part_after : Name → Reader PredicatePart
part_after first =
    choice (is sorts.ParenOpen) (mapped parts.Constraint (call_after first))
    (choice (is sorts.Point) (mapped parts.Constraint (dotted_after first))
    (mapped parts.Parameter (field_after first)))

unfoldable pub part_named : Reader PredicatePart
part_named symbols = and_then (name symbols) part_after

unfoldable pub part : Reader PredicatePart
part = choice (is sorts.Name) part_named (mapped parts.Parameter field)

unfoldable pub field_set : Reader Set
field_set = mapped (λ p. sets.Field p.0 p.1.1.0)
    (sequence name (sequence (mark sorts.Assign) (sequence init (mark sorts.Semicolon))))

unfoldable pub super_set : Reader Set
super_set = mapped (λ p. sets.Super p.0 p.1) (sequence (mark_place (sorts.Word keywords.Super)) call_end)

unfoldable pub set_item : Reader Set
set_item = choice (is (sorts.Word keywords.Super)) super_set field_set

abbrev pub begins_set : Sort → Bool
begins_set sorts.Name = true
begins_set (sorts.Word keywords.Super) = true
begins_set other = false

-- what ends a body: a brace, and perhaps a semicolon
abbrev pub body_end : Reader (Unit {0} × Unit {0})
body_end = sequence (mark sorts.BraceClose) (may_mark sorts.Semicolon)

-- the same behind a brace and what the reader finds
abbrev pub body_of : {X : Type 0} → Reader X → Reader (Unit {0} × (X × (Unit {0} × Unit {0})))
body_of items = sequence (mark sorts.BraceOpen) (sequence items body_end)

unfoldable pub predicate : Reader Member
predicate = mapped (λ p. members.Predicate p.0 p.1.0 p.1.1.1.0)
    (sequence (mark_place (sorts.Word keywords.Predicate)) (sequence name (body_of (many begins_type part))))

-- what stands behind the formals of a constructor
abbrev pub sets_behind : Reader (Unit {0} × (Unit {0} × (List Set × Unit {0})))
sets_behind =
    sequence (mark sorts.ParenClose)
    (sequence (mark sorts.BraceOpen) (sequence (many begins_set set_item) (mark sorts.BraceClose)))

-- what stands behind its name
abbrev pub constructor_parts : Reader (Unit {0} × (List Typed × (Unit {0} × (Unit {0} × (List Set × Unit {0})))))
constructor_parts = sequence (mark sorts.ParenOpen) (sequence (listed begins_type sorts.Comma typed) sets_behind)

unfoldable pub constructor_after : Name → Reader Member
constructor_after first = mapped (λ p. members.Constructor first p.1.0 p.1.1.1.1.0) constructor_parts

unfoldable pub member_after : Name → Reader Member
member_after first = choice (is sorts.ParenOpen) (constructor_after first) (mapped members.Field (field_after first))

unfoldable pub member_named : Reader Member
member_named symbols = and_then (name symbols) member_after

unfoldable pub member : Reader Member
member = choice (is (sorts.Word keywords.Predicate)) predicate
    (choice (is sorts.Name) member_named (mapped members.Field field))

abbrev pub begins_member : Sort → Bool
begins_member (sorts.Word keywords.Predicate) = true
begins_member other = begins_type other

unfoldable pub file : Reader (List ℕ × ℕ)
file = mapped (λ symbol. (symbol.bytes, symbol.at)) (symbol_of sorts.Quoted)

unfoldable pub include : Reader Decl
include = mapped (λ p. decls.Include p.0 p.1.0.0 p.1.0.1)
    (sequence (mark_place sorts.Include) (sequence file (may_mark sorts.Semicolon)))

-- what stands behind the name of an enum
abbrev pub enum_members : Reader (ℕ × (List Name × (Unit {0} × Unit {0})))
enum_members = sequence (mark_place sorts.BraceOpen) (sequence (separated sorts.Comma name) body_end)

unfoldable pub enumeration : Reader Decl
enumeration = mapped (λ p. decls.Enum p.0 p.1.0 p.1.1.0 p.1.1.1.0)
    (sequence (mark_place (sorts.Word keywords.Enum)) (sequence name enum_members))

unfoldable pub typedef : Reader Decl
typedef = mapped (λ p. decls.Typedef p.0 p.1.0 p.1.1.0)
    (sequence (mark_place (sorts.Word keywords.Typedef)) (sequence type_of (sequence name (mark sorts.Semicolon))))

unfoldable pub parent : Reader (Option Name)
parent = choice (is (sorts.Word keywords.Extends)) (mapped Some (after (sorts.Word keywords.Extends) name))
    (nothing None)

-- what stands behind the name of a class that has a body
abbrev pub class_parts : Reader (Option Name × (Unit {0} × (List Member × (Unit {0} × Unit {0}))))
class_parts = sequence parent (body_of (many begins_member member))

unfoldable pub class_body : ℕ → Name → Reader Decl
class_body at name = mapped (λ p. decls.Class at name p.0 p.1.1.0) class_parts

unfoldable pub class_after : ℕ → Name → Reader Decl
class_after at name =
    choice (is sorts.Semicolon) (mapped (λ nil. decls.Forward at name) (mark sorts.Semicolon)) (class_body at name)

unfoldable pub class : Reader Decl
class symbols =
    and_then (mark_place (sorts.Word keywords.Class) symbols) (λ at rest. and_then (name rest) (class_after at))

-- a rule in which so many blocks may be nested
abbrev pub rule_parts : ℕ → Reader (Unit {0} × (Name × Braces))
rule_parts left = sequence (mark sorts.DoubleColon) (sequence name (block left))

unfoldable pub rule_after : ℕ → Name → Reader Decl
rule_after left first = mapped (λ p. decls.Rule first p.1.0 p.1.1) (rule_parts left)

abbrev pub decl_of : SimpleStmt → Decl
decl_of (plains.Variable variable) = decls.Variable variable
decl_of (plains.Call call) = decls.Call call
decl_of (plains.Ask ask) = decls.Ask ask

unfoldable pub decl_after : ℕ → Name → Reader Decl
decl_after left first = choice (is sorts.DoubleColon) (rule_after left first) (mapped decl_of (plain_after first))

unfoldable pub decl_named : ℕ → Reader Decl
decl_named left symbols = and_then (name symbols) (decl_after left)

unfoldable pub decl : ℕ → Reader Decl
decl left =
    choice (is sorts.Include) include
    (choice (is (sorts.Word keywords.Enum)) enumeration
    (choice (is (sorts.Word keywords.Typedef)) typedef
    (choice (is (sorts.Word keywords.Class)) class
    (choice (is sorts.Name) (decl_named left) (mapped decls.Variable variable)))))

abbrev pub begins_decl : Sort → Bool
begins_decl sorts.Include = true
begins_decl (sorts.Word keywords.Enum) = true
begins_decl (sorts.Word keywords.Typedef) = true
begins_decl (sorts.Word keywords.Class) = true
begins_decl other = begins_type other

unfoldable pub text : ℕ → Reader (List Decl)
text left = many begins_decl (decl left)

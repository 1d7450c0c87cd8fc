-- The trees of the rules of a program.
use Rattle.std.specs.Prelude.{ℕ, ◌+◌, List, [], ◌∷◌, ◌++◌, Option, Some, None, map, slice_get}
use Rattle.std.specs.List.{filter_map, flat_map}
use Rattle.std.specs.Option.{option_map_or}
use Rattle.model_core.specs.declared.class.Class.{Class}
use Rattle.model_core.specs.declared.class.Pred.{Pred}
use Rattle.nddl_ast.specs.declared.declaration.Decl.{Decl}
use Rattle.nddl_ast.specs.declared.declaration.Decl.TheVariants as decls
use Rattle.nddl_ast.specs.declared.declaration.FileDecls.{FileDecls}
use Rattle.nddl_ast.specs.declared.declaration.Member.{Member}
use Rattle.nddl_ast.specs.declared.declaration.Member.TheVariants as members
use Rattle.nddl_ast.specs.declared.declaration.PredicatePart.{PredicatePart}
use Rattle.nddl_ast.specs.declared.declaration.PredicatePart.TheVariants as parts
use Rattle.nddl_ast.specs.declared.statement.Stmt.{Stmt}
use Rattle.nddl_ast.specs.declared.statement.Stmt.TheVariants as stmts
use Rattle.nddl_ast.specs.Block.{statements_of}
use Rattle.nddl_ast.specs.Tree.{Statements, Nothing}
use Rattle.nddl_symbols.specs.declared.place.Place.{Place}
use Rattle.nddl_symbols.specs.declared.site.Site.{Site}
use Rattle.nddl_symbols.specs.Place.{file_of_place}
use Rattle.eu_index.specs.Index.{Noted}
use Rattle.nddl_terms.specs.PlainTree.{PlainTree}
use Rattle.nddl_rules.specs.Sight.{no_sight}
use Rattle.nddl_rules.specs.Tally.{no_tally}
use Rattle.nddl_rules.specs.Blocks.{block_names}
use Rattle.nddl_rules.specs.declared.places.TextPlace.{TextPlace}
use Rattle.nddl_rules.specs.Written.{noted_preds, places_of, preds_above, texts_written}
use Rattle.nddl_rules.specs.declared.texts.RuleTexts as code

-- where rules are read: files, the sites of their joined declarations, those, and the names of their scope, each with its
-- place there
pub record RuleTexts : Type 0 where
  pub files : List FileDecls
  pub sites : List Site
  pub program : List Decl
  pub scope : Noted

-- those that the code keeps
abbrev pub texts_of : code.RuleTexts → RuleTexts
texts_of texts = record {
  files = texts.files.now;
  sites = texts.sites.now;
  program = map (λ decl. decl.now) texts.decls.now;
  scope = texts.scope.now;
}

-- ---- the text of a rule

-- a constraint in the body of a predicate as a statement
abbrev pub part_statement : PredicatePart → Option Stmt
part_statement (parts.Parameter typed) = None
part_statement (parts.Constraint call) = Some (stmts.Call call)

abbrev pub part_statements : List PredicatePart → List Stmt
part_statements some = filter_map part_statement some

abbrev pub member_statements : Member → Statements
member_statements (members.Predicate at name some) = statements_of (part_statements some)
member_statements member = Nothing

-- the statements of the rule that the member of this place has
abbrev pub class_statements : ℕ → Decl → Statements
class_statements place (decls.Class at name parent some) = option_map_or member_statements (slice_get some place) Nothing
class_statements place decl = Nothing

-- the statements of a rule that is a declaration of its own
abbrev pub rule_statements : Decl → Statements
rule_statements (decls.Rule class predicate body) = body.statements
rule_statements decl = Nothing

abbrev pub decl_statements : Option ℕ → Decl → Statements
decl_statements None decl = rule_statements decl
decl_statements (Some place) decl = class_statements place decl

-- the statements of the rule at this place
abbrev pub text_statements : List Decl → TextPlace → Statements
text_statements program place = option_map_or (decl_statements place.member) (slice_get program place.decl) Nothing

-- ---- where a rule is

-- the byte of a predicate's name
abbrev pub member_head : Member → ℕ
member_head (members.Predicate at name some) = name.at
member_head member = 0

-- the byte of the name of the predicate that is the member of this place
abbrev pub class_head : ℕ → Decl → ℕ
class_head place (decls.Class at name parent some) = option_map_or member_head (slice_get some place) 0
class_head place decl = 0

-- the byte of the first name of a rule that is a declaration of its own
abbrev pub rule_head : Decl → ℕ
rule_head (decls.Rule class predicate body) = class.at
rule_head decl = 0

abbrev pub decl_head : Option ℕ → Decl → ℕ
decl_head None decl = rule_head decl
decl_head (Some place) decl = class_head place decl

-- where the rule at this place is: at its first name, or at that of the predicate in whose body it stands
abbrev pub text_head : List Decl → TextPlace → Place
text_head program place =
    record { decl = place.decl; at = option_map_or (decl_head place.member) (slice_get program place.decl) 0 }

-- ---- trees

-- the tree of these statements of a file, with the rule at this place, for the predicate of this number
abbrev pub tree_with : Noted → ℕ → Pred → List ℕ → Place → Statements → PlainTree
tree_with scope number pred file place statements = record {
  pred = number;
  file = file;
  place = place;
  body = statements;
  names = block_names (record { scope = scope; params = pred.params }) no_sight no_tally statements;
}

-- the tree of the rule at this place, for the predicate of this number, where its file is there
abbrev pub tree_at : RuleTexts → ℕ → Pred → TextPlace → List PlainTree
tree_at texts number pred place =
    let head = text_head texts.program place in
    option_map_or (λ file. tree_with texts.scope number pred file.name head (text_statements texts.program place) ∷ [])
    (file_of_place texts.files texts.sites head) []

-- the trees of these predicates, of which the first has this number, one predicate after another: a predicate has those of
-- its ancestors' rules first
abbrev pub trees_from : RuleTexts → List (Option ℕ) → List (List TextPlace) → ℕ → List Pred → List PlainTree
trees_from texts above written number [] = []
trees_from texts above written number (pred ∷ more) =
    flat_map (tree_at texts number pred) (places_of above written number)
    ++ trees_from texts above written (number + 1) more

-- the trees of all rules, for each predicate that has them
abbrev pub all_trees : RuleTexts → List Class → List Pred → List PlainTree
all_trees texts classes preds =
    let noted = noted_preds classes [] 0 preds in
    trees_from texts (preds_above classes noted preds) (texts_written noted preds texts.program) 0 preds

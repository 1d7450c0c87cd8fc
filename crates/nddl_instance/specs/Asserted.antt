-- What the text of a problem says has to hold, and what it decides.
use Rattle.std.specs.Prelude.{ℕ, ◌+◌, List, [], ◌∷◌, ◌++◌}
use Rattle.std.specs.Option.{option_map_or}
use Rattle.nddl_ast.specs.declared.declaration.Decl.{Decl}
use Rattle.nddl_ast.specs.declared.declaration.Decl.TheVariants as decls
use Rattle.nddl_ast.specs.declared.declaration.FileDecls.{FileDecls}
use Rattle.nddl_ast.specs.declared.expression.Expr.{Expr}
use Rattle.nddl_ast.specs.declared.name.Path.{Path}
use Rattle.nddl_ast.specs.declared.statement.Call.{Call}
use Rattle.nddl_ast.specs.Path.{last_name, path_before}
use Rattle.nddl_symbols.specs.declared.site.Site.{Site}
use Rattle.nddl_symbols.specs.Place.{file_of_place}
use Rattle.nddl_terms.specs.declared.growth.Growth.{Growth}
use Rattle.nddl_terms.specs.declared.stands.Stand.TheVariants.{Nothing}
use Rattle.nddl_terms.specs.Growth.{no_growth}
use Rattle.nddl_terms.specs.Paths.{Reached, reached}
use Rattle.nddl_instance.specs.Outside.{Outsides, outer_path, outsides_of}
use Rattle.nddl_instance.specs.declared.assertions.Assertions.{Assertions}
use Rattle.nddl_instance.specs.declared.assertions.ProblemText as code
use Rattle.nddl_instance.specs.Constraints.{outer_argument, with_outer_word}
use Rattle.nddl_instance.specs.Decisions.{act_decision, placed_decision}

-- What is known where the text of a problem is read: what is known outside of rules; files, and where their joined
-- declarations stand; and how many globals are declared.
pub record ProblemText : Type 0 where
  pub outside : Outsides
  pub files : List FileDecls
  pub sites : List Site
  pub globals : ℕ

-- that which the code keeps
abbrev pub text_of_problem : code.ProblemText → ProblemText
text_of_problem text = record {
  outside = outsides_of text.outside;
  files = text.files.now;
  sites = text.sites.now;
  globals = text.globals;
}

-- what stands for the argument of an act, if it has one
abbrev pub act_argument : Outsides → List Expr → Growth → Reached
act_argument outside [] growth = reached Nothing growth
act_argument outside (expr ∷ more) growth = outer_argument outside expr growth

-- the name of the file in which the declaration of this number stands
abbrev pub name_of_file : ProblemText → ℕ → List ℕ
name_of_file text number =
    option_map_or (λ file. file.name) (file_of_place text.files text.sites (record { decl = number; at = 0 })) []

-- what is asserted with the decision that an act makes behind this path
abbrev pub with_act : ProblemText → ℕ → Call → Path → Assertions → Assertions
with_act text number call before asserted =
    let owner = outer_path text.outside before asserted.growth in
    let given = act_argument text.outside call.arguments owner.growth in
    record {
      growth = given.growth;
      decisions = asserted.decisions
          ++ placed_decision (name_of_file text number) call.path.first.at
          (act_decision text.globals (last_name call.path).text owner.stand given.stand);
    }

-- the same with the constraint that a word states
abbrev pub with_stated : Outsides → Call → Assertions → Assertions
with_stated outside call asserted = record {
  growth = with_outer_word outside call.path.first.text call.arguments asserted.growth;
  decisions = asserted.decisions;
}

-- the same with what a call says: one name alone is a word, and more are an act behind a path
abbrev pub with_outer_call : ProblemText → ℕ → Call → Assertions → Assertions
with_outer_call text number call asserted =
    option_map_or (λ before. with_act text number call before asserted) (path_before call.path)
    (with_stated text.outside call asserted)

-- the same with the declaration of this number
abbrev pub with_declaration : ProblemText → ℕ → Decl → Assertions → Assertions
with_declaration text number (decls.Call call) asserted = with_outer_call text number call asserted
with_declaration text number decl asserted = asserted

-- the same with these declarations, of which the first has this number
abbrev pub with_declarations : ProblemText → ℕ → List Decl → Assertions → Assertions
with_declarations text number [] asserted = asserted
with_declarations text number (decl ∷ more) asserted =
    with_declarations text (number + 1) more (with_declaration text number decl asserted)

-- nothing is asserted yet
abbrev pub no_assertions : Assertions
no_assertions = record { growth = no_growth; decisions = [] }

-- What the declarations of a program assert, in order of text. The constraints and the locals for the fields that are read
-- in them and in decisions are what a rule would have that consists of these.
abbrev pub assertions_of : ProblemText → List Decl → Assertions
assertions_of text program = with_declarations text 0 program no_assertions

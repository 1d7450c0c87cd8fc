-- What paths mean, and what can be an argument.
use Rattle.std.specs.Prelude.{ℕ, true, List, [], ◌∷◌, Option, Some, None, Ok, if◌then◌else◌}
use Rattle.std.specs.Option.{option_and_then, option_map_or, option_or}
use Rattle.std.specs.Str.{bytes_eq}
use Rattle.nddl_ast.specs.declared.expression.Constant.{Constant}
use Rattle.nddl_ast.specs.declared.expression.Constant.TheVariants as constants
use Rattle.nddl_ast.specs.declared.expression.Expr.{Expr}
use Rattle.nddl_ast.specs.declared.expression.Expr.TheVariants as exprs
use Rattle.nddl_ast.specs.declared.name.Path.{Path}
use Rattle.nddl_typeexpr.specs.declared.kind.TypeKind.{TypeKind}
use Rattle.nddl_typeexpr.specs.declared.kind.TypeKind.TheVariants as kinds
use Rattle.nddl_hierarchy.specs.Facts.{Facts}
use Rattle.nddl_resolve.specs.declared.denoted.Around as code
use Rattle.nddl_resolve.specs.declared.denoted.Denoted.{Denoted}
use Rattle.nddl_resolve.specs.declared.denoted.Denoted.TheVariants as denoted
use Rattle.nddl_resolve.specs.declared.denoted.Seen.{Seen}
use Rattle.nddl_resolve.specs.declared.denoted.TokenSort.{TokenSort}
use Rattle.nddl_resolve.specs.Files.{file_denoted}
use Rattle.nddl_resolve.specs.Predicates.{token_part}
use Rattle.nddl_resolve.specs.Seen.{seen_in}
use Rattle.nddl_resolve.specs.Following.{Understood, asked_by, rest_denoted, unknown_at}

-- What names mean where a path stands, beside those of the files: the formals of a constructor, the variables of `foreach`,
-- locals and labels of slots, of each the innermost last, and the token whose rule it is.
pub record Surroundings : Type 0 where
  pub formals : List Seen
  pub turns : List Seen
  pub locals : List Seen
  pub labels : List Seen
  pub token : Option TokenSort

-- those that the code keeps
abbrev pub around_of : code.Around → Surroundings
around_of around = record {
  formals = seen_in around.formals;
  turns = seen_in around.turns;
  locals = seen_in around.locals;
  labels = seen_in around.labels;
  token = around.token;
}

-- ---- the first name

-- what it means, if this is its name
abbrev pub named_seen : List ℕ → Seen → Option Denoted
named_seen name seen = if bytes_eq name seen.name then Some seen.denoted else None

-- what the last of these of this name means
abbrev pub last_seen : List ℕ → List Seen → Option Denoted
last_seen name [] = None
last_seen name (seen ∷ more) = option_or (last_seen name more) (named_seen name seen)

-- what the name means by what stands around: a formal, then a variable of `foreach`, then a local, then a label
abbrev pub near_denoted : Surroundings → List ℕ → Option Denoted
near_denoted around name =
    option_or (option_or (option_or (last_seen name around.formals) (last_seen name around.turns))
    (last_seen name around.locals)) (last_seen name around.labels)

-- what it means as a part of the token whose rule it is
abbrev pub own_denoted : Facts → Surroundings → List ℕ → Option Denoted
own_denoted facts around name = option_and_then (token_part facts name) around.token

-- what the name means at the front of a path: by what stands around, then as a part of the token, then as one of the files
abbrev pub first_denoted : Facts → Surroundings → List ℕ → Option Denoted
first_denoted facts around name =
    option_or (near_denoted around name) (option_or (own_denoted facts around name) (file_denoted facts name))

-- ---- paths and arguments

-- what the path means, or what is wrong with it
abbrev pub path_denoted : Facts → Surroundings → Path → Understood
path_denoted facts around path =
    option_map_or (λ begin. rest_denoted facts path.first.at begin path.rest)
    (first_denoted facts around path.first.text) (unknown_at path.first.at)

-- the token for which the path asks, whose last name is a predicate, or what is wrong with it
abbrev pub asked_token : Facts → Surroundings → Path → Understood
asked_token facts around path =
    option_map_or (λ owner. asked_by facts owner path) (first_denoted facts around path.first.text)
    (unknown_at path.first.at)

-- a constant of this kind
abbrev pub constant_of : TypeKind → Denoted
constant_of kind = denoted.Value kind true

-- what is written out
abbrev pub literal_denoted : Constant → Denoted
literal_denoted (constants.Number number) = constant_of kinds.Int
literal_denoted (constants.Decimal thousandths) = constant_of kinds.Float
literal_denoted (constants.Truth truth) = constant_of kinds.Bool

-- what an argument means, or what is wrong with it by itself
abbrev pub expr_denoted : Facts → Surroundings → Expr → Understood
expr_denoted facts around (exprs.Path path) = path_denoted facts around path
expr_denoted facts around (exprs.Literal literal) = Ok (literal_denoted literal.constant)

-- What is found of constructors is so in one way.
use Rattle.std.proofs.Common.{ℕ, List, Option, Some, None}
use Rattle.std.proofs.Props.{props}
use Rattle.nddl_ast.specs.declared.declaration.Member.{Member}
use Rattle.nddl_typeexpr.specs.declared.kind.TypeKind.{TypeKind}
use Rattle.nddl_hierarchy.specs.Facts.{Facts}
use Rattle.nddl_construction.specs.declared.builders.Builder.{Builder}
use Rattle.nddl_construction.specs.declared.builders.Builders as code
use Rattle.nddl_construction.specs.Builders.{AreBuilders, IsBuilder, IsBuilderAt, builder_at}

builder_prop : (facts : Facts) (decl : ℕ) (wants : List (Option TypeKind)) (constructor : Option Member) (found : Option Builder)
    → IsProp (IsBuilder facts decl wants constructor found)
builder_prop facts decl wants constructor None = hlevel props
builder_prop facts decl wants constructor (Some builder) = hlevel props

builder_at_prop : (facts : Facts) (entry : ℕ) (found : Option Builder) → IsProp (IsBuilderAt facts entry found)
builder_at_prop facts entry None = hlevel props
builder_at_prop facts entry (Some builder) = hlevel props

pub builders_prop : (facts : Facts) (builders : code.Builders) → IsProp (AreBuilders facts builders)
builders_prop facts builders =
    let each : (entry : ℕ) → IsProp (IsBuilderAt facts entry (builder_at builders entry))
    = λ entry. builder_at_prop facts entry (builder_at builders entry) in
    hlevel (props, each)

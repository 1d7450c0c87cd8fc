-- In which declarations the names of a program stand.
use Rattle.std.proofs.Common.{◌≡◌, ℕ, suc, ◌+◌, Bool, true, false, ◌&&◌, List, [], ◌∷◌, refl, ◌∙◌, ap, arith}
use Rattle.std.specs.Prelude.{Option, Some, None, All, slice_get, if◌then◌else◌}
use Rattle.std.proofs.lemmas.List.Elements.{All-nil, All-cons, All-append, All-head, All-tail, All-weaker}
use Rattle.eu_name.specs.Word.{IsName}
use Rattle.model_core.proofs.Items.{item_all}
use Rattle.nddl_ast.specs.declared.declaration.Decl.{Decl}
use Rattle.nddl_ast.specs.declared.declaration.Decl.TheVariants as decls
use Rattle.nddl_ast.specs.declared.expression.Init.{Init}
use Rattle.nddl_ast.specs.declared.expression.Init.TheVariants as inits
use Rattle.nddl_ast.specs.declared.expression.Type as types
use Rattle.nddl_ast.specs.declared.name.Name.{Name}
use Rattle.nddl_symbols.specs.declared.declared.Declared.{Declared}
use Rattle.nddl_symbols.specs.declared.declared.Sort.{Sort}
use Rattle.nddl_symbols.specs.declared.declared.Sort.TheVariants as sorts
use Rattle.nddl_symbols.specs.Builtin.{is_config_name}
use Rattle.nddl_symbols.specs.Names.{declared_as, declared_members, enums_in_decl, is_config_type, is_posting_word, names_from, names_in_decl, scope_names, sort_of_init, sort_of_variable}
use Rattle.nddl_hierarchy.specs.Decls.{decl_of_name, typedef_type}
use Rattle.nddl_laws.specs.Fine.{IsFineDecl, IsFineName}

-- the name is one of the declaration
record IsNameOf (decl : Decl) (declared : Declared) : Type 0 where
  fine : IsFineDecl decl → IsName declared.name
  typed : declared.sort ≡ sorts.Typedef → (type : types.Type) × (typedef_type decl ≡ Some type)

-- the name stands in one of these declarations, of which the first has this number
record StandsIn (number : ℕ) (program : List Decl) (declared : Declared) : Type 0 where
  offset : ℕ
  is_place : declared.place.decl ≡ number + offset
  decl : Decl
  there : slice_get program offset ≡ Some decl
  own : IsNameOf decl declared

abbrev IsOfDecl : ℕ → Decl → Declared → Type 0
IsOfDecl number decl declared = (declared.place.decl ≡ number) × IsNameOf decl declared

members_of_decl : (number before place at members_at : ℕ) (name : Name) (all some : List Name)
    → (IsFineDecl (decls.Enum at name members_at all) → All IsFineName some)
    → All (IsOfDecl number (decls.Enum at name members_at all)) (declared_members number before place some)
members_of_decl number before place at members_at name all [] fine = All-nil (IsOfDecl number (decls.Enum at name members_at all))
members_of_decl number before place at members_at name all (member ∷ some) fine =
    All-cons (IsOfDecl number (decls.Enum at name members_at all)) (declared_as number member (sorts.Member before place))
    (declared_members number before (place + 1) some) (
      refl,
      record {
        fine = λ right. All-head IsFineName member some (fine right);
        typed = λ is. absurd (let e : sorts.Member before place ≡ sorts.Typedef = is in cc);
      },
    )
    (members_of_decl number before (place + 1) at members_at name all some (λ right. All-tail IsFineName member some (fine right)))

init_no_typedef : (type : types.Type) (init : Option Init) → sort_of_init type init ≡ sorts.Typedef → ⊥
init_no_typedef type None is = (let e : sorts.Global ≡ sorts.Typedef = is in cc)
init_no_typedef type (Some (inits.Expr expr)) is = (let e : sorts.Global ≡ sorts.Typedef = is in cc)
init_no_typedef type (Some (inits.New creation)) is = by (is_config_name creation.class.text && is_config_type type.base type.bounds) is
  where
    by : (b : Bool) → (if b then sorts.Config else sorts.Object) ≡ sorts.Typedef → ⊥
    by true is = (let e : sorts.Config ≡ sorts.Typedef = is in cc)
    by false is = (let e : sorts.Object ≡ sorts.Typedef = is in cc)

one_name : (number : ℕ) (decl : Decl) (name : Name) (sort : Sort) → (IsFineDecl decl → IsFineName name)
    → (sort ≡ sorts.Typedef → (type : types.Type) × (typedef_type decl ≡ Some type))
    → All (IsOfDecl number decl) (declared_as number name sort ∷ [])
one_name number decl name sort fine typed =
    All-cons (IsOfDecl number decl) (declared_as number name sort) [] (refl, record { fine = fine; typed = typed }) (All-nil (IsOfDecl number decl))

of_decl : (number before : ℕ) (decl : Decl) → All (IsOfDecl number decl) (names_in_decl number before decl)
of_decl number before (decls.Enum at name members_at members) =
    All-cons (IsOfDecl number (decls.Enum at name members_at members)) (declared_as number name (sorts.Enum before)) (declared_members number before 0 members)
    (refl, record { fine = λ right. right.0; typed = λ is. absurd (let e : sorts.Enum before ≡ sorts.Typedef = is in cc) })
    (members_of_decl number before 0 at members_at name members members (λ right. right.1.1))
of_decl number before (decls.Typedef at declared name) =
    one_name number (decls.Typedef at declared name) name sorts.Typedef (λ right. right.1) (λ is. (declared, refl))
of_decl number before (decls.Forward at name) =
    one_name number (decls.Forward at name) name sorts.Forward (λ right. right) (λ is. absurd (let e : sorts.Forward ≡ sorts.Typedef = is in cc))
of_decl number before (decls.Class at name parent members) =
    one_name number (decls.Class at name parent members) name sorts.Body (λ right. right.0) (λ is. absurd (let e : sorts.Body ≡ sorts.Typedef = is in cc))
of_decl number before (decls.Variable variable) =
    one_name number (decls.Variable variable) variable.name (sort_of_variable variable) (λ right. right.1.0)
    (λ is. absurd (init_no_typedef variable.declared variable.init is))
of_decl number before (decls.Ask ask) = by (is_posting_word ask.word.text)
  where
    by : (b : Bool) → All (IsOfDecl number (decls.Ask ask)) (if b then declared_as number ask.label sorts.Root ∷ [] else [])
    by true =
        one_name number (decls.Ask ask) ask.label sorts.Root (λ right. right.1.1) (λ is. absurd (let e : sorts.Root ≡ sorts.Typedef = is in cc))
    by false = All-nil (IsOfDecl number (decls.Ask ask))
of_decl number before (decls.Include at file file_at) = All-nil (IsOfDecl number (decls.Include at file file_at))
of_decl number before (decls.Rule class predicate body) = All-nil (IsOfDecl number (decls.Rule class predicate body))
of_decl number before (decls.Call call) = All-nil (IsOfDecl number (decls.Call call))

all_stand : (number before : ℕ) (program : List Decl) → All (StandsIn number program) (names_from number before program)
all_stand number before [] = All-nil (StandsIn number [])
all_stand number before (decl ∷ more) =
    All-append (StandsIn number (decl ∷ more)) (names_in_decl number before decl) (names_from (number + 1) (before + enums_in_decl decl) more)
    (All-weaker (IsOfDecl number decl) (StandsIn number (decl ∷ more)) (λ declared is. record {
      offset = 0;
      is_place = (let e : declared.place.decl ≡ number = is.0 in omega arith);
      decl = decl;
      there = refl;
      own = is.1;
    }) (names_in_decl number before decl) (of_decl number before decl))
    (All-weaker (StandsIn (number + 1) more) (StandsIn number (decl ∷ more)) (λ declared is. record {
      offset = suc is.offset;
      is_place = (let e : declared.place.decl ≡ number + 1 + is.offset = is.is_place in omega arith);
      decl = is.decl;
      there = is.there;
      own = is.own;
    }) (names_from (number + 1) (before + enums_in_decl decl) more) (all_stand (number + 1) (before + enums_in_decl decl) more))

-- where a name of a program is declared
pub record IsDeclaredIn (program : List Decl) (declared : Declared) : Type 0 where
  pub decl : Decl
  pub there : decl_of_name program declared ≡ Some decl
  pub fine : IsFineDecl decl → IsName declared.name
  pub typed : declared.sort ≡ sorts.Typedef → (type : types.Type) × (typedef_type decl ≡ Some type)

pub declared_in : (program : List Decl) (entry : ℕ) (declared : Declared) → slice_get (scope_names program) entry ≡ Some declared → IsDeclaredIn program declared
declared_in program entry declared at =
    let is = item_all (StandsIn 0 program) (scope_names program) entry declared (all_stand 0 0 program) at in
    let e : declared.place.decl ≡ is.offset = (let sum : declared.place.decl ≡ 0 + is.offset = is.is_place in omega arith) in
    record { decl = is.decl; there = ap (slice_get program) e ∙ is.there; fine = is.own.fine; typed = is.own.typed }

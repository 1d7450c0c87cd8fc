-- Which enums and members the names of a program stand for.
use Rattle.std.proofs.Common.{◌≡◌, ℕ, zero, suc, ◌+◌, Bool, true, false, ◌&&◌, List, [], ◌∷◌, ◌++◌, map, refl, sym, ◌∙◌, ap, subst, arith}
use Rattle.std.specs.Prelude.{Option, Some, None, All, slice_get, ⊤, if◌then◌else◌}
use Rattle.std.proofs.lemmas.List.Elements.{All-nil, All-cons, All-append, All-weaker}
use Rattle.std.proofs.lemmas.Option.{same_Some}
use Rattle.model_core.specs.declared.class.Enum.{Enum}
use Rattle.model_core.proofs.Items.{item_all}
use Rattle.nddl_ast.specs.declared.declaration.Decl.{Decl}
use Rattle.nddl_ast.specs.declared.declaration.Decl.TheVariants as decls
use Rattle.nddl_ast.specs.declared.expression.Init.{Init}
use Rattle.nddl_ast.specs.declared.expression.Init.TheVariants as inits
use Rattle.nddl_ast.specs.declared.expression.Type as types
use Rattle.nddl_ast.specs.declared.name.Name.{Name}
use Rattle.nddl_symbols.specs.declared.declared.Declared.{Declared}
use Rattle.nddl_symbols.specs.declared.declared.Sort.{Sort}
use Rattle.nddl_symbols.specs.declared.declared.Sort.TheVariants as sorts
use Rattle.nddl_symbols.specs.Names.{declared_as, declared_members, is_posting_word, names_from, scope_names, sort_of_init, sort_of_variable, is_config_type}
use Rattle.nddl_symbols.specs.Builtin.{is_config_name}
use Rattle.nddl_types.specs.Classes.{enums_of}

-- the enum of this number is there
pub record HasEnum (enums : List Enum) (number : ℕ) : Type 0 where
  pub found : Enum
  pub there : slice_get enums number ≡ Some found

-- and has a member at this place
pub record HasMember (enums : List Enum) (number place : ℕ) : Type 0 where
  pub found : Enum
  pub there : slice_get enums number ≡ Some found
  pub member : List ℕ
  pub is_member : slice_get found.members place ≡ Some member

-- the sort's numbers are those of enums, of which so many stand before these
abbrev IsRight : ℕ → List Enum → Sort → Type 0
IsRight before enums (sorts.Enum number) = (offset : ℕ) × (number ≡ before + offset) × HasEnum enums offset
IsRight before enums (sorts.Member of place) = (offset : ℕ) × (of ≡ before + offset) × HasMember enums offset place
IsRight before enums sort = ⊤

-- one enum more stands before
behind : (before : ℕ) (enums : List Enum) (first : Enum) (sort : Sort) → IsRight (before + 1) enums sort → IsRight before (first ∷ enums) sort
behind before enums first (sorts.Enum number) right = (
  suc right.0,
  (let e : number ≡ before + 1 + right.0 = right.1 in omega arith),
  record { found = right.2.found; there = right.2.there },
)
behind before enums first (sorts.Member of place) right = (
  suc right.0,
  (let e : of ≡ before + 1 + right.0 = right.1 in omega arith),
  record { found = right.2.found; there = right.2.there; member = right.2.member; is_member = right.2.is_member },
)
behind before enums first sorts.Typedef right = tt
behind before enums first sorts.Forward right = tt
behind before enums first sorts.Body right = tt
behind before enums first sorts.Global right = tt
behind before enums first sorts.Object right = tt
behind before enums first sorts.Root right = tt
behind before enums first sorts.Config right = tt

-- members from this place on
members_right : (number before place : ℕ) (first : Enum) (enums : List Enum) (some : List Name)
    → ((offset : ℕ) (name : Name) → slice_get some offset ≡ Some name → slice_get first.members (place + offset) ≡ Some name.text)
    → All (λ declared. IsRight before (first ∷ enums) declared.sort) (declared_members number before place some)
members_right number before place first enums [] each = All-nil (λ declared. IsRight before (first ∷ enums) declared.sort)
members_right number before place first enums (name ∷ some) each =
    let e : place + 0 ≡ place = omega arith in
    All-cons (λ declared. IsRight before (first ∷ enums) declared.sort)
    (record { name = name.text; place = record { decl = number; at = name.at }; sort = sorts.Member before place })
    (declared_members number before (place + 1) some) (
      0,
      (omega arith),
      record {
        found = first;
        there = refl;
        member = name.text;
        is_member = ap (slice_get first.members) (sym e) ∙ each 0 name refl;
      },
    )
    (members_right number before (place + 1) first enums some (λ offset other is.
    let sum : place + 1 + offset ≡ place + suc offset = omega arith in
    ap (slice_get first.members) sum ∙ each (suc offset) other is))

text_at : (some : List Name) (offset : ℕ) (name : Name) → slice_get some offset ≡ Some name → slice_get (map (λ member. member.text) some) offset ≡ Some name.text
text_at [] offset name is = absurd (cc)
text_at (other ∷ some) zero name is = ap (λ (n : Name). Some n.text) (same_Some other name is)
text_at (other ∷ some) (suc offset) name is = text_at some offset name is

-- what a variable is has no number
init_right : (before : ℕ) (enums : List Enum) (type : types.Type) (init : Option Init) → IsRight before enums (sort_of_init type init)
init_right before enums type None = tt
init_right before enums type (Some (inits.Expr expr)) = tt
init_right before enums type (Some (inits.New creation)) = by (is_config_name creation.class.text && is_config_type type.base type.bounds)
  where
    by : (b : Bool) → IsRight before enums (if b then sorts.Config else sorts.Object)
    by true = tt
    by false = tt

module _ (more : List Decl) (number before : ℕ) where
  abbrev Right : List Enum → Declared → Type 0
  Right enums declared = IsRight before enums declared.sort

  one_right : (enums : List Enum) (declared : Declared) → Right enums declared → All (Right enums) (declared ∷ [])
  one_right enums declared is = All-cons (Right enums) declared [] is (All-nil (Right enums))

  -- behind a declaration that is no enum
  plain_right : (here : List Declared) → All (Right (enums_of more)) here
      → All (Right (enums_of more)) (names_from (number + 1) before more)
      → All (Right (enums_of more)) (here ++ names_from (number + 1) (before + 0) more)
  plain_right here are rest =
      let e : before ≡ before + 0 = omega arith in
      let P : ℕ → Type 0 = λ n. All (Right (enums_of more)) (names_from (number + 1) n more) in
      All-append (Right (enums_of more)) here (names_from (number + 1) (before + 0) more) are (subst P e rest)

  -- behind an enum
  enum_right : (name : Name) (members : List Name)
      → All (λ declared. IsRight (before + 1) (enums_of more) declared.sort) (names_from (number + 1) (before + 1) more)
      → All (Right ((record { name = name.text; members = map (λ member. member.text) members }) ∷ enums_of more))
      ((record { name = name.text; place = record { decl = number; at = name.at }; sort = sorts.Enum before }
      ∷ declared_members number before 0 members) ++ names_from (number + 1) (before + 1) more)
  enum_right name members rest =
      let first : Enum = record { name = name.text; members = map (λ member. member.text) members } in
      let enums = first ∷ enums_of more in
      let own : Declared = record { name = name.text; place = record { decl = number; at = name.at }; sort = sorts.Enum before } in
      let listed = members_right number before 0 first (enums_of more) members (λ offset member is.
      let e : offset ≡ 0 + offset = omega arith in ap (slice_get first.members) (sym e) ∙ text_at members offset member is) in
      All-append (Right enums) (own ∷ declared_members number before 0 members) (names_from (number + 1) (before + 1) more)
      (All-cons (Right enums) own (declared_members number before 0 members) (0, (omega arith), record { found = first; there = refl }) listed)
      (All-weaker (λ declared. IsRight (before + 1) (enums_of more) declared.sort) (Right enums)
      (λ declared right. behind before (enums_of more) first declared.sort right) (names_from (number + 1) (before + 1) more) rest)

  ask_right : (b : Bool) (declared : Declared) → Right (enums_of more) declared → All (Right (enums_of more)) (if b then declared ∷ [] else [])
  ask_right true declared is = one_right (enums_of more) declared is
  ask_right false declared is = All-nil (Right (enums_of more))

all_right : (number before : ℕ) (program : List Decl) → All (λ declared. IsRight before (enums_of program) declared.sort) (names_from number before program)
all_right number before [] = All-nil (λ declared. IsRight before [] declared.sort)
all_right number before (decls.Enum at name members_at members ∷ more) =
    enum_right more number before name members (all_right (number + 1) (before + 1) more)
all_right number before (decls.Typedef at declared name ∷ more) =
    plain_right more number before (declared_as number name sorts.Typedef ∷ [])
    (one_right more number before (enums_of more) (declared_as number name sorts.Typedef) tt) (all_right (number + 1) before more)
all_right number before (decls.Forward at name ∷ more) =
    plain_right more number before (declared_as number name sorts.Forward ∷ [])
    (one_right more number before (enums_of more) (declared_as number name sorts.Forward) tt) (all_right (number + 1) before more)
all_right number before (decls.Class at name parent members ∷ more) =
    plain_right more number before (declared_as number name sorts.Body ∷ [])
    (one_right more number before (enums_of more) (declared_as number name sorts.Body) tt) (all_right (number + 1) before more)
all_right number before (decls.Variable variable ∷ more) =
    plain_right more number before (declared_as number variable.name (sort_of_variable variable) ∷ [])
    (one_right more number before (enums_of more) (declared_as number variable.name (sort_of_variable variable))
    (init_right before (enums_of more) variable.declared variable.init)) (all_right (number + 1) before more)
all_right number before (decls.Ask ask ∷ more) =
    plain_right more number before (if is_posting_word ask.word.text then declared_as number ask.label sorts.Root ∷ [] else [])
    (ask_right more number before (is_posting_word ask.word.text) (declared_as number ask.label sorts.Root) tt) (all_right (number + 1) before more)
all_right number before (decls.Include at file file_at ∷ more) =
    plain_right more number before [] (All-nil (λ declared. IsRight before (enums_of more) declared.sort)) (all_right (number + 1) before more)
all_right number before (decls.Rule class predicate body ∷ more) =
    plain_right more number before [] (All-nil (λ declared. IsRight before (enums_of more) declared.sort)) (all_right (number + 1) before more)
all_right number before (decls.Call call ∷ more) =
    plain_right more number before [] (All-nil (λ declared. IsRight before (enums_of more) declared.sort)) (all_right (number + 1) before more)

-- where a name of the program is an enum, its number is that of one
pub enum_there : (program : List Decl) (entry number : ℕ) (declared : Declared) → slice_get (scope_names program) entry ≡ Some declared
    → declared.sort ≡ sorts.Enum number → HasEnum (enums_of program) number
enum_there program entry number declared there is =
    let right = subst (IsRight 0 (enums_of program)) is
    (item_all (λ declared. IsRight 0 (enums_of program) declared.sort) (scope_names program) entry declared (all_right 0 0 program) there) in
    let e : right.0 ≡ number = (let sum : number ≡ 0 + right.0 = right.1 in omega arith) in
    subst (HasEnum (enums_of program)) e right.2

-- and where it is a member, it is one of that enum at that place
pub member_there : (program : List Decl) (entry number place : ℕ) (declared : Declared) → slice_get (scope_names program) entry ≡ Some declared
    → declared.sort ≡ sorts.Member number place → HasMember (enums_of program) number place
member_there program entry number place declared there is =
    let right = subst (IsRight 0 (enums_of program)) is
    (item_all (λ declared. IsRight 0 (enums_of program) declared.sort) (scope_names program) entry declared (all_right 0 0 program) there) in
    let e : right.0 ≡ number = (let sum : number ≡ 0 + right.0 = right.1 in omega arith) in
    subst (λ n. HasMember (enums_of program) n place) e right.2

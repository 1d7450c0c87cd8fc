-- Declarations with which nothing is wrong.
use Rattle.std.proofs.Common.{◌≡◌, ℕ, ◌+◌, List, [], ◌∷◌, length, map, sym, ◌∙◌, subst, arith}
use Rattle.std.specs.Prelude.{Some, All, nat_lt}
use Rattle.std.proofs.lemmas.Option.{same_Some, none-some}
use Rattle.std.proofs.lemmas.List.{length-map}
use Rattle.std.proofs.lemmas.List.Elements.{All-nil, All-cons, All-head, All-tail, All-weaker, All-map}
use Rattle.eu_name.specs.Word.{IsName}
use Rattle.model_core.specs.declared.class.Enum.{Enum}
use Rattle.model_core.specs.declared.model.Model.{Model}
use Rattle.model_core.specs.Lawful.{IsLawfulEnum}
use Rattle.nddl_ast.specs.declared.declaration.Decl.{Decl}
use Rattle.nddl_ast.specs.declared.declaration.Decl.TheVariants as decls
use Rattle.nddl_ast.specs.declared.declaration.FileDecls.{FileDecls}
use Rattle.nddl_ast.specs.declared.kind.TextKind.TheVariants as faults
use Rattle.nddl_ast.specs.declared.name.Name.{Name}
use Rattle.nddl_symbols.specs.Joined.{joined_decls}
use Rattle.nddl_symbols.specs.Scope.{fault_if}
use Rattle.nddl_hierarchy.specs.Facts.{Facts}
use Rattle.nddl_declarations.specs.Faults.{all_faults, decl_faults, decls_faults}
use Rattle.nddl_types.specs.Classes.{enum_of, enums_of}
use Rattle.nddl_laws.specs.Fine.{IsFineDecl}
use Rattle.nddl_laws.specs.Given.{AreGiven}
use Rattle.nddl_laws.specs.Trees.{IsJoinedDecl}
use Rattle.nddl_laws.proofs.Each.{each_joined}
use Rattle.nddl_types.specs.declared.table.TypeTable.{TypeTable}
use Rattle.nddl_types.specs.Table.{IsTable}
use Rattle.nddl_laws.specs.Tables.{HasTable}
use Rattle.nddl_laws.proofs.Fitting.{few}
use Rattle.nddl_laws.proofs.Lists.{all_kept}
use Rattle.nddl_laws.proofs.Values.{no_fault, not_so}
use Rattle.nddl_laws.proofs.Nothing.{decls_fine, none_first, none_second}

-- the declaration stands in a program with which nothing is wrong, and its names, literals, sets and enums are fine
pub record IsRightDecl (facts : Facts) (decl : Decl) : Type 0 where
  pub fine : IsFineDecl decl
  pub number : ℕ
  pub none : decl_faults facts number decl ≡ []

right_from : (facts : Facts) (number : ℕ) (program : List Decl) → All IsFineDecl program → decls_faults facts number program ≡ []
    → All (IsRightDecl facts) program
right_from facts number [] fine none = All-nil (IsRightDecl facts)
right_from facts number (decl ∷ more) fine none =
    All-cons (IsRightDecl facts) decl more
    (record {
      fine = All-head IsFineDecl decl more fine;
      number = number;
      none = none_first (decl_faults facts number decl) (decls_faults facts (number + 1) more) none;
    })
    (right_from facts (number + 1) more (All-tail IsFineDecl decl more fine)
    (none_second (decl_faults facts number decl) (decls_faults facts (number + 1) more) none))

-- all declarations of a program with which nothing is wrong are so
pub right_program : (files : List FileDecls) (facts : Facts) → facts.program ≡ joined_decls files → all_faults facts ≡ [] → AreGiven files
    → All (IsRightDecl facts) facts.program
right_program files facts is_program fine given =
    let joined = All-weaker IsJoinedDecl IsFineDecl (λ decl one. one.fine) (joined_decls files) (each_joined files given) in
    right_from facts 0 facts.program (subst (All IsFineDecl) (sym is_program) joined) (decls_fine facts fine)

-- so those of a program of which there is a table
pub right_decls : (files : List FileDecls) (table : TypeTable) (is : IsTable files table) → AreGiven files → All (IsRightDecl is.facts) is.facts.program
right_decls files table is given = right_program files is.facts is.are.is_program is.fine given

-- ---- enums

enum_right : (facts : Facts) (decl : Decl) (one : Enum) → IsRightDecl facts decl → enum_of decl ≡ Some one → IsLawfulEnum one
enum_right facts (decls.Enum at name members_at members) one right is =
    let made : Enum = record { name = name.text; members = map (λ member. member.text) members } in
    let limited = no_fault right.number members_at (fault_if (nat_lt 4096 (length members)) faults.LimitMembers) right.none in
    let most = few (length members) (not_so (nat_lt 4096 (length members)) faults.LimitMembers limited) in
    let long = length-map members (λ (member : Name). member.text) in
    let some = right.fine.1.0 in
    let lawful : IsLawfulEnum made = record {
      name = right.fine.0;
      members = All-map IsName (λ (member : Name). member.text) members right.fine.1.1;
      some = omega arith;
      few = omega arith;
    } in
    subst IsLawfulEnum (same_Some made one is) lawful
enum_right facts decl one right is = absurd (none-some one is)

pub enums_right : (facts : Facts) (program : List Decl) → All (IsRightDecl facts) program → All IsLawfulEnum (enums_of program)
enums_right facts program right =
    all_kept IsLawfulEnum enum_of program
    (All-weaker (IsRightDecl facts) (λ decl. (one : Enum) → enum_of decl ≡ Some one → IsLawfulEnum one)
    (λ decl is one there. enum_right facts decl one is there) program right)

-- the enums of a table are lawful
pub lawful_enums : (files : List FileDecls) (table : TypeTable) (model : Model) → HasTable files table model → All IsLawfulEnum model.enums
lawful_enums files table model has =
    let is = has.is_table in
    subst (All IsLawfulEnum) (sym (has.enums ∙ is.entries.enums_are))
    (enums_right is.facts is.facts.program (right_decls files table is has.given))

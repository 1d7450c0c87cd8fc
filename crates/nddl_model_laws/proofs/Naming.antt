-- The names of globals and roots.
use Rattle.std.proofs.Common.{◌≡◌, ℕ, zero, suc, ◌+◌, ◌⊎◌, inl, inr, Bool, true, false, List, [], ◌∷◌, ◌++◌, length, sym, ◌∙◌, ap, subst, arith}
use Rattle.std.specs.Prelude.{Option, Some, None, All, slice_get, codes, decimal, if◌then◌else◌}
use Rattle.std.specs.Option.{option_and_then, option_map}
use Rattle.std.proofs.lemmas.List.Elements.{All-weaker}
use Rattle.std.proofs.lemmas.Option.{same_Some, none-some}
use Rattle.eu_name.specs.Word.{IsName}
use Rattle.model_core.specs.declared.model.Root.{Root}
use Rattle.model_core.specs.declared.variable.Base.{Base}
use Rattle.model_core.specs.declared.variable.Base.TheVariants.{Given, Void}
use Rattle.model_core.specs.declared.variable.VarDecl.{VarDecl}
use Rattle.model_core.specs.Naming.{IsGlobalName}
use Rattle.model_core.proofs.Items.{item_all}
use Rattle.nddl_ast.specs.declared.declaration.Decl.{Decl}
use Rattle.nddl_ast.specs.declared.declaration.Decl.TheVariants as decls
use Rattle.nddl_symbols.specs.Names.{is_global_sort, is_posting_word, sort_of_variable}
use Rattle.nddl_typeexpr.specs.declared.kind.TypeMeaning.{TypeMeaning}
use Rattle.nddl_declarations.specs.Known.{fine_meaning}
use Rattle.nddl_env.specs.Shapes.{World}
use Rattle.nddl_lower.specs.declared.slots.Wanted.{Wanted}
use Rattle.nddl_instance.specs.Asserted.{assertions_of}
use Rattle.nddl_instance.specs.Globals.{declared_global, declared_globals, global_with, typed_global}
use Rattle.nddl_instance.specs.Outside.{Outsides}
use Rattle.nddl_instance.specs.Posed.{outside_rules, text_beside}
use Rattle.nddl_instance.specs.Renumbered.{field_global, field_globals}
use Rattle.nddl_instance.specs.Roots.{posted_root, posted_roots, root_base, root_kind, root_of_wanted, root_wanted, root_with_base}
use Rattle.nddl_laws.specs.Fine.{IsFineDecl}
use Rattle.nddl_laws.proofs.Lists.{all_kept}
use Rattle.nddl_problem.specs.Compiled.{compiled_model, posing_known}
use Rattle.nddl_problem.specs.Known.{Known, world_known}
use Rattle.nddl_model_laws.specs.Faultless.{IsFaultless}
use Rattle.nddl_model_laws.proofs.Grounds.{known_decls}

-- ---- globals

global_named : (world : World) (decl : Decl) (variable : VarDecl) → IsFineDecl decl → declared_global world decl ≡ Some variable → IsName variable.name
global_named world (decls.Variable one) variable fine is = outer (is_global_sort (sort_of_variable one)) is
  where
    inner : (o : Option TypeMeaning) → option_map (global_with world one) o ≡ Some variable → IsName variable.name
    inner None is = absurd (none-some variable is)
    inner (Some meaning) is =
        subst (λ (v : VarDecl). IsName v.name) (same_Some (global_with world one meaning) variable is) fine.1.0

    outer : (b : Bool) → (if b then typed_global world one else None) ≡ Some variable → IsName variable.name
    outer true is = inner (fine_meaning world.facts one.declared) is
    outer false is = absurd (none-some variable is)
global_named world decl variable fine is = absurd (none-some variable is)

globals_named : (world : World) (program : List Decl) → All IsFineDecl program → All (λ (variable : VarDecl). IsName variable.name) (declared_globals world program)
globals_named world program fine =
    all_kept (λ (variable : VarDecl). IsName variable.name) (declared_global world) program
    (All-weaker IsFineDecl (λ decl. (variable : VarDecl) → declared_global world decl ≡ Some variable → IsName variable.name)
    (λ decl one variable is. global_named world decl variable one is) program fine)

-- the global at a place of those for fields is called after its number
field_named : (number place : ℕ) (locals : List VarDecl) (variable : VarDecl) → slice_get (field_globals number locals) place ≡ Some variable
    → variable.name ≡ codes "!" ++ decimal (number + place)
field_named number place [] variable at = absurd (none-some variable at)
field_named number zero (local ∷ more) variable at =
    let e : number ≡ number + 0 = omega arith in
    ap (λ (v : VarDecl). v.name) (sym (same_Some (field_global number local) variable at)) ∙ ap (λ (n : ℕ). codes "!" ++ decimal n) e
field_named number (suc place) (local ∷ more) variable at =
    let e : number + 1 + place ≡ number + suc place = omega arith in
    field_named (number + 1) place more variable at ∙ ap (λ (n : ℕ). codes "!" ++ decimal n) e

-- what stands in two lists stands in the first, or so far behind it in the second
in_either : {X : Type 0} (xs ys : List X) (place : ℕ) (x : X) → slice_get (xs ++ ys) place ≡ Some x
    → (slice_get xs place ≡ Some x) ⊎ ((offset : ℕ) × (place ≡ length xs + offset) × (slice_get ys offset ≡ Some x))
in_either [] ys place x at = inr (place, omega arith, at)
in_either (y ∷ xs) ys zero x at = inl at
in_either (y ∷ xs) ys (suc place) x at = elim (in_either xs ys place x at) [
  | inl first ↦ inl first
  | inr later ↦ inr (later.0, (let e : place ≡ length xs + later.0 = later.1 in omega arith), later.2)
]

names_right : (globals locals : List VarDecl) → All (λ (variable : VarDecl). IsName variable.name) globals → (number : ℕ) (variable : VarDecl)
    → slice_get (globals ++ field_globals (length globals) locals) number ≡ Some variable → IsGlobalName number variable.name
names_right globals locals named number variable at = elim (in_either globals (field_globals (length globals) locals) number variable at) [
  | inl first ↦ inl (item_all (λ (one : VarDecl). IsName one.name) globals number variable named first)
  | inr later ↦
      inr (field_named (length globals) later.0 locals variable later.2 ∙ ap (λ (n : ℕ). codes "!" ++ decimal n) (sym later.1))
]

-- ---- labels

root_labelled : (outside : Outsides) (decl : Decl) (root : Root) → IsFineDecl decl → posted_root outside decl ≡ Some root → IsName root.label
root_labelled outside (decls.Ask ask) root fine is = outer (is_posting_word ask.word.text) is
  where
    last : (pred : ℕ) (base : Base) → root_with_base ask pred base ≡ Some root → IsName root.label
    last pred Void is = absurd (none-some root is)
    last pred (Given domain) is =
        subst (λ (r : Root). IsName r.label)
        (same_Some (record { label = ask.label.text; kind = root_kind ask.word.text; pred = pred; object = domain }) root is) fine.1.1

    inner : (wanted : Wanted) (o : Option ℕ)
        → option_and_then (λ (pred : ℕ). root_with_base ask pred (root_base outside.reading.lexicon pred wanted.object)) o ≡ Some root → IsName root.label
    inner wanted None is = absurd (none-some root is)
    inner wanted (Some pred) is = last pred (root_base outside.reading.lexicon pred wanted.object) is

    outer : (b : Bool) → (if b then root_of_wanted outside.reading.lexicon ask (root_wanted outside ask.path) else None) ≡ Some root → IsName root.label
    outer true is = inner (root_wanted outside ask.path) (root_wanted outside ask.path).pred is
    outer false is = absurd (none-some root is)
root_labelled outside decl root fine is = absurd (none-some root is)

roots_labelled : (outside : Outsides) (program : List Decl) → All IsFineDecl program → All (λ (root : Root). IsName root.label) (posted_roots outside program)
roots_labelled outside program fine =
    all_kept (λ (root : Root). IsName root.label) (posted_root outside) program
    (All-weaker IsFineDecl (λ decl. (root : Root) → posted_root outside decl ≡ Some root → IsName root.label)
    (λ decl one root is. root_labelled outside decl root one is) program fine)

-- ---- the model

pub global_names : (known : Known) → IsFaultless known → (number : ℕ) (variable : VarDecl)
    → slice_get (compiled_model known).problem.globals number ≡ Some variable → IsGlobalName number variable.name
global_names known is =
    let globals = declared_globals (world_known known) known.facts.program in
    names_right globals (assertions_of (text_beside (posing_known known) (length globals)) known.facts.program).growth.locals
    (globals_named (world_known known) known.facts.program (known_decls known is))

pub labels_named : (known : Known) → IsFaultless known → All (λ (root : Root). IsName root.label) (compiled_model known).problem.roots
labels_named known is = roots_labelled (outside_rules (posing_known known)) known.facts.program (known_decls known is)

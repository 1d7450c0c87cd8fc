-- The tokens that a problem posts.
use Rattle.std.specs.Prelude.{ℕ, List, [], ◌∷◌, Option, Some, None, codes, if◌then◌else◌}
use Rattle.std.specs.List.{filter_map}
use Rattle.std.specs.Option.{option_and_then}
use Rattle.std.specs.Str.{bytes_eq}
use Rattle.domain_core.specs.Domain.{Set}
use Rattle.model_core.specs.declared.item.Term.{Term}
use Rattle.model_core.specs.declared.item.Term.TheVariants as terms
use Rattle.model_core.specs.declared.model.Root.{Root}
use Rattle.model_core.specs.declared.model.RootKind.{RootKind}
use Rattle.model_core.specs.declared.model.RootKind.TheVariants.{Goal, Rejectable, Fact}
use Rattle.model_core.specs.declared.variable.Base.{Base}
use Rattle.model_core.specs.declared.variable.Base.TheVariants.{Given, Void}
use Rattle.nddl_ast.specs.declared.declaration.Decl.{Decl}
use Rattle.nddl_ast.specs.declared.declaration.Decl.TheVariants as decls
use Rattle.nddl_ast.specs.declared.name.Path.{Path}
use Rattle.nddl_ast.specs.declared.statement.Ask.{Ask}
use Rattle.nddl_symbols.specs.Names.{is_posting_word}
use Rattle.nddl_terms.specs.declared.lexicon.Lexicon.{Lexicon}
use Rattle.nddl_terms.specs.Growth.{no_growth}
use Rattle.nddl_terms.specs.Lexicon.{pred_class}
use Rattle.nddl_lower.specs.declared.slots.Wanted.{Wanted}
use Rattle.nddl_lower.specs.Slots.{asked_behind, class_base}
use Rattle.nddl_instance.specs.Outside.{Outsides, front_stand}

-- what has to become of a token that the word posts
abbrev pub root_kind : List ℕ → RootKind
root_kind word =
    if bytes_eq word (codes "fact") then Fact else (if bytes_eq word (codes "rejectable") then Rejectable else Goal)

-- the objects on which a token of the predicate may be: the one of which it is asked, or all of its class
abbrev pub root_base : Lexicon → ℕ → Option Term → Base
root_base lexicon pred None = class_base lexicon (pred_class lexicon pred)
root_base lexicon pred (Some (terms.Lit value)) = Given (Set (value ∷ []))
root_base lexicon pred (Some variable) = Void

-- the root of the predicate on these objects; none, where there are no objects
abbrev pub root_with_base : Ask → ℕ → Base → Option Root
root_with_base ask pred (Given domain) =
    Some (record { label = ask.label.text; kind = root_kind ask.word.text; pred = pred; object = domain })
root_with_base ask pred Void = None

-- what the path asks for: its last name is a predicate of the class or of the object before it
abbrev pub root_wanted : Outsides → Path → Wanted
root_wanted outside path = (asked_behind outside.reading (front_stand outside path.first.text) path.rest no_growth).wanted

-- the root that is wanted
abbrev pub root_of_wanted : Lexicon → Ask → Wanted → Option Root
root_of_wanted lexicon ask wanted = option_and_then (λ pred. root_with_base ask pred (root_base lexicon pred wanted.object)) wanted.pred

-- the root that a word with a path and a label posts
abbrev pub asked_root : Outsides → Ask → Option Root
asked_root outside ask =
    if is_posting_word ask.word.text
    then root_of_wanted outside.reading.lexicon ask (root_wanted outside ask.path) else None

-- the root that a declaration posts
abbrev pub posted_root : Outsides → Decl → Option Root
posted_root outside (decls.Ask ask) = asked_root outside ask
posted_root outside decl = None

-- The roots, in order of posting.
abbrev pub posted_roots : Outsides → List Decl → List Root
posted_roots outside program = filter_map (posted_root outside) program

-- What is wrong with the tokens that the files post.
use Rattle.std.specs.Prelude.{ℕ, Bool, true, false, List, Option, Some, None, slice_get, if◌then◌else◌}
use Rattle.std.specs.Option.{option_map_or}
use Rattle.nddl_ast.specs.declared.kind.TextKind.TheVariants as faults
use Rattle.nddl_ast.specs.declared.name.Path.{Path}
use Rattle.nddl_ast.specs.declared.statement.Ask.{Ask}
use Rattle.nddl_symbols.specs.declared.declared.Declared.{Declared}
use Rattle.nddl_symbols.specs.declared.declared.Sort.{Sort}
use Rattle.nddl_symbols.specs.declared.declared.Sort.TheVariants as sorts
use Rattle.nddl_symbols.specs.declared.fault.Fault.{Fault}
use Rattle.nddl_symbols.specs.declared.scope.Meaning.{Meaning}
use Rattle.nddl_symbols.specs.declared.scope.Meaning.TheVariants as meanings
use Rattle.nddl_symbols.specs.Finding.{faults_here}
use Rattle.nddl_symbols.specs.Names.{is_posting_word}
use Rattle.nddl_symbols.specs.Scope.{meaning_of}
use Rattle.nddl_hierarchy.specs.Facts.{Facts}
use Rattle.nddl_resolve.specs.declared.denoted.Denoted.{Denoted}
use Rattle.nddl_resolve.specs.Files.{file_denoted}
use Rattle.nddl_resolve.specs.Following.{Understood, asked_by, unknown_at, wrong_at, understood_faults}

-- it is an object or a class, of which tokens can be posted
abbrev pub is_owner_sort : Sort → Bool
is_owner_sort sorts.Object = true
is_owner_sort sorts.Forward = true
is_owner_sort sorts.Body = true
is_owner_sort sort = false

-- the same of what a name means
abbrev pub is_owner : List Declared → Option Meaning → Bool
is_owner names None = false
is_owner names (Some (meanings.BuiltIn number)) = true
is_owner names (Some (meanings.Entry entry)) =
    option_map_or (λ declared. is_owner_sort declared.sort) (slice_get names entry) false

-- the token that is posted by a path whose first name means this, if that is an object or a class
abbrev pub token_of_owner : Facts → Path → Denoted → Understood
token_of_owner facts path owner =
    if is_owner facts.names (meaning_of facts.names path.first.text) then asked_by facts owner path
    else wrong_at path.first.at

-- the token that is posted by a path, or what is wrong with it
abbrev pub posted_token : Facts → Path → Understood
posted_token facts path =
    option_map_or (token_of_owner facts path) (file_denoted facts path.first.text) (unknown_at path.first.at)

-- what is wrong with a posted token, or with the word before it: no relation stands outside of rules
abbrev pub posting_faults : Facts → ℕ → Ask → List Fault
posting_faults facts decl ask =
    if is_posting_word ask.word.text then understood_faults decl (posted_token facts ask.path)
    else faults_here decl ask.word.at (Some faults.Unknown)

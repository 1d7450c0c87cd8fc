-- The rules of a built command, and what one use of an argument does.
use Rattle.std.proofs.Common.{◌≡◌, ◌∙◌, ℕ, ◌+◌, Bool, cond, ◌&&◌, ◌||◌, not, true, false, refl, sym, ap, ap₂, subst, List, [], ◌∷◌, ◌++◌, length, Option, Some, None, is_some, inl, inr, codes, append-nil}
use Rattle.std.specs.Prelude.{option_map, find, slice_get}
use Rattle.std.specs.Option.{option_or}
use Rattle.std.specs.List.{list_any}
use Rattle.std.specs.Str.{bytes_eq}
use Rattle.std.proofs.lemmas.List.Folds.{find-append}
use Rattle.clap.specs.Walk.{Rule, Row, Text, at_row, has_row, more_values, used, with_values, without}
use Rattle.clap.specs.Simple.{Shape, built}
use Rattle.clap.specs.Values.{reading_of}
use Rattle.clap.specs.Faults.{use_fault}
use Rattle.clap.specs.Kinds.{Kinds}
use Rattle.clap.specs.declared.builder.action.ArgAction.TheVariants.{Set}
use Rattle.clap.specs.declared.builder.value_parser.ValueParser.TheVariants as vp
use Rattle.clap.specs.declared.error.kind.ErrorKind.TheVariants as kind
use Rattle.clap.specs.declared.parser.matches.ValueSource.TheVariants.{CommandLine}
use Rattle.run_words.specs.Commands.{Form, Single, Double, Planned, app_for}
use Rattle.run_words.specs.Words.{Flag, Steps, Tokens, Parts}

-- an argument with one value, as building leaves it
abbrev pub held_rule : Text → Option Text → Option ℕ → Bool → Rule
held_rule id long index required = record {
  id = id;
  long = long;
  aliases = [];
  short = None;
  short_aliases = [];
  index = index;
  action = Some Set;
  range = Some (record { start_inclusive = 1; end_inclusive = 1 });
  value_names = 0;
  defaults = [];
  missing = [];
  trailing_var_arg = false;
  parser = Some vp.String;
  ignore_case = false;
  required = required;
  is_simple = true;
  is_free = true;
}

abbrev pub operand_at : Text → ℕ → Rule
operand_at id place = held_rule id None (Some place) true

abbrev pub flag_name : Flag → Text
flag_name Steps = codes "steps"
flag_name Tokens = codes "tokens"

abbrev pub flag_rule : Flag → Rule
flag_rule flag = held_rule (flag_name flag) (Some (flag_name flag)) None false

abbrev pub first_rule : Rule
first_rule = operand_at (codes "first") 1

abbrev pub second_rule : Rule
second_rule = operand_at (codes "second") 2

abbrev pub rules : Form → List Rule
rules Single = first_rule ∷ []
rules Double = first_rule ∷ second_rule ∷ []
rules Planned = flag_rule Steps ∷ flag_rule Tokens ∷ first_rule ∷ []

abbrev pub shape : Form → Text → Shape
shape form name = record {
  name = name;
  aliases = [];
  rules = rules form;
  is_plain = true;
  is_leaf = true;
  no_binary_name = true;
  disable_help_flag = true;
  disable_help_subcommand = true;
  disable_version_flag = false;
  propagate_version = false;
  has_version = false;
  has_long_version = false;
  args_override_self = false;
  arg_required_else_help = false;
  subcommand_required = false;
  subcommand_negates_reqs = false;
  is_built = true;
}

pub built_is : (form : Form) (name : Text) → built (app_for form name) ≡ record { top = shape form name; subs = [] }
built_is Single name = refl
built_is Double name = refl
built_is Planned name = refl

-- ---- rows

abbrev pub row : Text → Text → Row
row id value = record { id = id; values = value ∷ []; count = None; source = Some CommandLine; reading = reading_of vp.String }

abbrev pub seen : Text → List Row → Option Row
seen id rows = find (λ r. bytes_eq r.id id) rows

has_seen : (id : Text) (rows : List Row) → has_row id rows ≡ is_some (seen id rows)
has_seen id [] = refl
has_seen id (r ∷ rs) = go (bytes_eq r.id id) (has_seen id rs)
  where
    go : (b : Bool) → has_row id rs ≡ is_some (seen id rs) → (b || has_row id rs) ≡ is_some (cond b (Some r) (seen id rs))
    go true h = refl
    go false h = h

not_there : (id : Text) (rows : List Row) → seen id rows ≡ None → has_row id rows ≡ false
not_there id rows none = has_seen id rows ∙ ap is_some none

at_end : (id : Text) (change : Row → List Row) (missing : List Row) (rows : List Row) → has_row id rows ≡ false → at_row id change missing rows ≡ rows ++ missing
at_end id change missing [] none = refl
at_end id change missing (r ∷ rs) none = go (bytes_eq r.id id) none (at_end id change missing rs)
  where
    go : (b : Bool) → (b || has_row id rs) ≡ false → (has_row id rs ≡ false → at_row id change missing rs ≡ rs ++ missing)
        → cond b (change r ++ rs) (r ∷ at_row id change missing rs) ≡ r ∷ (rs ++ missing)
    go true h rec = cc
    go false h rec = ap (λ (xs : List Row). r ∷ xs) (rec h)

pub used_once : (id : Text) (long : Option Text) (index : Option ℕ) (required : Bool) (value : Text) (rows : List Row) → seen id rows ≡ None
    → used (held_rule id long index required) (value ∷ []) rows ≡ rows ++ row id value ∷ []
used_once id long index required value rows none =
    let free = not_there id rows none in
    let cut : without id rows ≡ rows = at_end id (λ _. []) [] rows free ∙ append-nil rows in
    ap (λ (rs : List Row). with_values id (reading_of vp.String) CommandLine (value ∷ []) rs) cut ∙ at_end id (more_values CommandLine (value ∷ [])) (row id value ∷ []) rows free

pub use_clean : (id : Text) (long : Option Text) (index : Option ℕ) (required : Bool) (value : Text) (rows : List Row) → seen id rows ≡ None
    → use_fault false (held_rule id long index required) (value ∷ []) rows ≡ []
use_clean id long index required value rows none = rw (not_there id rows none) refl

pub use_twice : (id : Text) (long : Option Text) (index : Option ℕ) (required : Bool) (value : Text) (rows : List Row) (r : Row) → seen id rows ≡ Some r
    → use_fault false (held_rule id long index required) (value ∷ []) rows ≡ kind.ArgumentConflict ∷ []
use_twice id long index required value rows r some = rw (has_seen id rows ∙ ap is_some some) refl

pub same_seen : (id value : Text) (rows : List Row) → bytes_eq id id ≡ true → seen id rows ≡ None → seen id (rows ++ row id value ∷ []) ≡ Some (row id value)
same_seen id value rows same none = find-append (λ r. bytes_eq r.id id) rows (row id value ∷ []) ∙ rw (none, same) refl

pub other_seen : (id other value : Text) (rows : List Row) → bytes_eq other id ≡ false → seen id (rows ++ row other value ∷ []) ≡ seen id rows
other_seen id other value rows differs = find-append (λ r. bytes_eq r.id id) rows (row other value ∷ []) ∙ rw (differs) (or_none (seen id rows))
  where
    or_none : (o : Option Row) → option_or o None ≡ o
    or_none None = refl
    or_none (Some r) = refl

-- what the rows say of the arguments
pub record Holds (rows : List Row) (operands : List Text) (steps tokens : Option Text) : Type 0 where
  pub steps_row : seen (codes "steps") rows ≡ option_map (row (codes "steps")) steps
  pub tokens_row : seen (codes "tokens") rows ≡ option_map (row (codes "tokens")) tokens
  pub first_row : seen (codes "first") rows ≡ option_map (row (codes "first")) (slice_get operands 0)
  pub second_row : seen (codes "second") rows ≡ option_map (row (codes "second")) (slice_get operands 1)

pub holds_first : (rows : List Row) (value : Text) (steps tokens : Option Text) → Holds rows [] steps tokens
    → Holds (rows ++ row (codes "first") value ∷ []) (value ∷ []) steps tokens
holds_first rows value steps tokens h = record {
  steps_row = other_seen (codes "steps") (codes "first") value rows refl ∙ h.steps_row;
  tokens_row = other_seen (codes "tokens") (codes "first") value rows refl ∙ h.tokens_row;
  first_row = same_seen (codes "first") value rows refl h.first_row;
  second_row = other_seen (codes "second") (codes "first") value rows refl ∙ h.second_row;
}

pub holds_second : (rows : List Row) (one value : Text) (steps tokens : Option Text) → Holds rows (one ∷ []) steps tokens
    → Holds (rows ++ row (codes "second") value ∷ []) (one ∷ value ∷ []) steps tokens
holds_second rows one value steps tokens h = record {
  steps_row = other_seen (codes "steps") (codes "second") value rows refl ∙ h.steps_row;
  tokens_row = other_seen (codes "tokens") (codes "second") value rows refl ∙ h.tokens_row;
  first_row = other_seen (codes "first") (codes "second") value rows refl ∙ h.first_row;
  second_row = same_seen (codes "second") value rows refl h.second_row;
}

pub holds_steps : (rows : List Row) (operands : List Text) (value : Text) (tokens : Option Text) → Holds rows operands None tokens
    → Holds (rows ++ row (codes "steps") value ∷ []) operands (Some value) tokens
holds_steps rows operands value tokens h = record {
  steps_row = same_seen (codes "steps") value rows refl h.steps_row;
  tokens_row = other_seen (codes "tokens") (codes "steps") value rows refl ∙ h.tokens_row;
  first_row = other_seen (codes "first") (codes "steps") value rows refl ∙ h.first_row;
  second_row = other_seen (codes "second") (codes "steps") value rows refl ∙ h.second_row;
}

pub holds_tokens : (rows : List Row) (operands : List Text) (value : Text) (steps : Option Text) → Holds rows operands steps None
    → Holds (rows ++ row (codes "tokens") value ∷ []) operands steps (Some value)
holds_tokens rows operands value steps h = record {
  steps_row = other_seen (codes "steps") (codes "tokens") value rows refl ∙ h.steps_row;
  tokens_row = same_seen (codes "tokens") value rows refl h.tokens_row;
  first_row = other_seen (codes "first") (codes "tokens") value rows refl ∙ h.first_row;
  second_row = other_seen (codes "second") (codes "tokens") value rows refl ∙ h.second_row;
}

-- A command takes just the words that divide into its arguments.
use Rattle.std.proofs.Common.{◌≡◌, ◌∙◌, ◌<◌, ◌≤◌, ◌+◌, ℕ, Bool, cond, ◌&&◌, ◌||◌, not, true, false, zero, suc, refl, sym, ap, ap₂, subst, arith, List, [], ◌∷◌, ◌++◌, length, Option, Some, None, inl, inr, true≢false, codes, append_assoc, append-nil, min}
use Rattle.std.specs.Prelude.{option_map, slice_get, fold}
use Rattle.std.specs.Str.{bytes_eq}
use Rattle.std.proofs.lemmas.List.{length-append}
use Rattle.std.specs.Option.{option_map_or, option_or}
use Rattle.clap.specs.Lexer.{long_of, short_of, usize_max}
use Rattle.clap.specs.Walk.{Held, Walk, Waiting, idle, option, Row, Rule, Text, arg_by_id, arg_by_index, arg_by_long, finished, has_row, settled, settled_rows, used, used_by_id, value as operand_step, walked, with_default, word_met}
use Rattle.clap.specs.Faults.{check_fault, default_fault, defaults_fault, long_fault, settle_fault, turn_fault, use_fault, walk_fault, word_fault}
use Rattle.clap.specs.Kinds.{Kinds, or_else}
use Rattle.clap.specs.declared.error.kind.ErrorKind.TheVariants as kind
use Rattle.run_words.specs.Commands.{Form, Single, Double, Planned}
use Rattle.run_words.specs.Words.{Flag, Steps, Tokens, Parts, no_parts, with_operand}
use Rattle.run_words.proofs.Classes.{Class, plain, ends, separate, attached, unknown, class_of, other_class, long_class, flag_class}
use Rattle.run_words.proofs.Reading.{add, added, adding, given, mapped, reading, some_same, take_value, turn, with_value}
use Rattle.run_words.proofs.Rules.{Holds, first_rule, second_rule, flag_name, flag_rule, held_rule, holds_first, holds_second, holds_steps, holds_tokens, operand_at, row, rules, seen, shape, use_clean, use_twice, used_once}
use Rattle.run_words.proofs.Turns.{AreSpelled, IsPlainWord, IsSpelled, Look, look, look_ends, look_long, look_plain, look_short, at, by_flag, by_long, count, end_fault, fault_ends, fault_plain, fault_value, flag_found, goes, held, long_is, met_plain, or_empty, or_first, or_second, operand_fault, rows_end, attached_fault, separate_fault, something_wrong, stops, stray, takes_flags, to_attached, to_ends, to_operand, to_separate, to_value, unknown_long, unknown_short, whole}

abbrev pub Once : Form → Option Text → Option Text → Type 0
Once form old None = Unit {0}
Once form old (Some value) = (takes_flags form ≡ true) × (old ≡ None)

-- these parts can come behind those that there are
pub record Fits (form : Form) (operands : List Text) (steps tokens : Option Text) (more : Parts) : Type 0 where
  pub number : length operands + length more.operands ≡ count form
  pub steps_once : Once form steps more.steps
  pub tokens_once : Once form tokens more.tokens

-- what comes of the words from here on, where they read so
pub record Ends (form : Form) (name : Text) (w : Walk) (words : List Text) (operands : List Text) (steps tokens : Option Text) (r : Option Parts) : Type 0 where
  pub sound : whole form name w words ≡ [] → (more : Parts) × (r ≡ Some more) × Fits form operands steps tokens more
      × Holds (rows_end form w words) (operands ++ more.operands) (option_or steps more.steps) (option_or tokens more.tokens)
  pub complete : (more : Parts) → r ≡ Some more → Fits form operands steps tokens more → whole form name w words ≡ []

-- what stands before a word, where no option waits
pub record Ready (form : Form) (rows : List Row) (pending : Option (Text × List Text)) (operands : List Text) (steps tokens : Option Text) : Type 0 where
  pub clean : settle_fault (rules form) false (held rows pending) ≡ []
  pub holds : Holds (settled_rows (rules form) pending rows) operands steps tokens
  pub few : length operands ≤ count form

stopped : (form : Form) (name : Text) (w : Walk) (words : List Text) (operands : List Text) (steps tokens : Option Text) (r : Option Parts)
    → (whole form name w words ≡ [] → ⊥) → ((more : Parts) → r ≡ Some more → Fits form operands steps tokens more → ⊥)
    → Ends form name w words operands steps tokens r
stopped form name w words operands steps tokens r wrong other = record {
  sound = λ none. absurd (wrong none);
  complete = λ more is fits. absurd (other more is fits);
}

moved : (form : Form) (name : Text) (w next : Walk) (words rest : List Text) (operands : List Text) (steps tokens : Option Text) (r : Option Parts)
    → (whole form name w words ≡ whole form name next rest) × (rows_end form w words ≡ rows_end form next rest)
    → Ends form name next rest operands steps tokens r → Ends form name w words operands steps tokens r
moved form name w next words rest operands steps tokens r same e = record {
  sound = λ none. let found = e.sound (sym same.0 ∙ none) in (
    found.0,
    found.1,
    found.2,
    subst (λ (rows : List Row). Holds rows (operands ++ found.0.operands) (option_or steps found.0.steps) (option_or tokens found.0.tokens)) (sym same.1) found.3,
  );
  complete = λ more is fits. same.0 ∙ e.complete more is fits;
}

-- ---- one more operand, one more option

operand_more : (form : Form) (name : Text) (w : Walk) (words : List Text) (word : Text) (operands : List Text) (steps tokens : Option Text) (r : Option Parts)
    → Ends form name w words (operands ++ word ∷ []) steps tokens r → Ends form name w words operands steps tokens (option_map (with_operand word) r)
operand_more form name w words word operands steps tokens r e = record {
  sound = λ none. let found = e.sound none in (
    with_operand word found.0,
    ap (option_map (with_operand word)) found.1,
    record {
      number = let n = length-append operands (word ∷ []) in let m = found.2.number in omega (arith, n, m);
      steps_once = found.2.steps_once;
      tokens_once = found.2.tokens_once;
    },
    subst (λ (all : List Text). Holds (rows_end form w words) all (option_or steps found.0.steps) (option_or tokens found.0.tokens))
        (append_assoc operands (word ∷ []) found.0.operands) found.3,
  );
  complete = λ more is fits. let found = mapped word r more is in
      let same = subst (λ (p : Parts). Fits form operands steps tokens p) found.2 fits in
      e.complete found.0 found.1 (record {
        number = let n = length-append operands (word ∷ []) in let m = same.number in omega (arith, n, m);
        steps_once = same.steps_once;
        tokens_once = same.tokens_once;
      });
}

once_none : (form : Form) (value : Text) (o : Option Text) → Once form (Some value) o → o ≡ None
once_none form value None h = refl
once_none form value (Some other) h = let no = h.1 in cc

none_once : (form : Form) (value : Text) (o : Option Text) → o ≡ None → Once form (Some value) o
none_once form value o none = subst (λ (p : Option Text). Once form (Some value) p) (sym none) tt

steps_more : (form : Form) (name : Text) (w : Walk) (words : List Text) (value : Text) (operands : List Text) (tokens : Option Text) (r : Option Parts)
    → takes_flags form ≡ true → Ends form name w words operands (Some value) tokens r → Ends form name w words operands None tokens (add Steps value r)
steps_more form name w words value operands tokens r takes e = record {
  sound = λ none. let found = e.sound none in (
    record found.0 { steps = Some value },
    adding Steps value (record found.0 { steps = Some value }) found.0 r found.1 (once_none form value found.0.steps found.2.steps_once) refl,
    record { number = found.2.number; steps_once = (takes, refl); tokens_once = found.2.tokens_once },
    found.3,
  );
  complete = λ more is fits. let found = added Steps value r more is in
      let same = subst (λ (p : Parts). Fits form operands None tokens p) found.3 fits in
      e.complete found.0 found.1 (record {
        number = same.number;
        steps_once = none_once form value found.0.steps found.2;
        tokens_once = same.tokens_once;
      });
}

tokens_more : (form : Form) (name : Text) (w : Walk) (words : List Text) (value : Text) (operands : List Text) (steps : Option Text) (r : Option Parts)
    → takes_flags form ≡ true → Ends form name w words operands steps (Some value) r → Ends form name w words operands steps None (add Tokens value r)
tokens_more form name w words value operands steps r takes e = record {
  sound = λ none. let found = e.sound none in (
    record found.0 { tokens = Some value },
    adding Tokens value (record found.0 { tokens = Some value }) found.0 r found.1 (once_none form value found.0.tokens found.2.tokens_once) refl,
    record { number = found.2.number; steps_once = found.2.steps_once; tokens_once = (takes, refl) },
    found.3,
  );
  complete = λ more is fits. let found = added Tokens value r more is in
      let same = subst (λ (p : Parts). Fits form operands steps None p) found.3 fits in
      e.complete found.0 found.1 (record {
        number = same.number;
        steps_once = same.steps_once;
        tokens_once = none_once form value found.0.tokens found.2;
      });
}

-- ---- either option

abbrev given_of : Flag → Option Text → Option Text → Option Text
given_of Steps steps tokens = steps
given_of Tokens steps tokens = tokens

abbrev steps_with : Flag → Text → Option Text → Option Text
steps_with Steps value steps = Some value
steps_with Tokens value steps = steps

abbrev tokens_with : Flag → Text → Option Text → Option Text
tokens_with Steps value tokens = tokens
tokens_with Tokens value tokens = Some value

flag_more : (flag : Flag) (form : Form) (name : Text) (w : Walk) (words : List Text) (value : Text) (operands : List Text) (steps tokens : Option Text) (r : Option Parts)
    → takes_flags form ≡ true → given_of flag steps tokens ≡ None
    → Ends form name w words operands (steps_with flag value steps) (tokens_with flag value tokens) r → Ends form name w words operands steps tokens (add flag value r)
flag_more Steps form name w words value operands None tokens r takes free e = steps_more form name w words value operands tokens r takes e
flag_more Steps form name w words value operands (Some old) tokens r takes free e = cc
flag_more Tokens form name w words value operands steps None r takes free e = tokens_more form name w words value operands steps r takes e
flag_more Tokens form name w words value operands steps (Some old) r takes free e = cc

holds_flag : (flag : Flag) (rows : List Row) (value : Text) (operands : List Text) (steps tokens : Option Text) → given_of flag steps tokens ≡ None → Holds rows operands steps tokens
    → Holds (rows ++ row (flag_name flag) value ∷ []) operands (steps_with flag value steps) (tokens_with flag value tokens)
holds_flag Steps rows value operands None tokens free h = holds_steps rows operands value tokens h
holds_flag Steps rows value operands (Some old) tokens free h = cc
holds_flag Tokens rows value operands steps None free h = holds_tokens rows operands value steps h
holds_flag Tokens rows value operands steps (Some old) free h = cc

seen_flag : (flag : Flag) (rows : List Row) (operands : List Text) (steps tokens : Option Text) → Holds rows operands steps tokens
    → seen (flag_name flag) rows ≡ option_map (row (flag_name flag)) (given_of flag steps tokens)
seen_flag Steps rows operands steps tokens h = h.steps_row
seen_flag Tokens rows operands steps tokens h = h.tokens_row

fits_flag : (flag : Flag) (form : Form) (operands : List Text) (steps tokens : Option Text) (more : Parts) (value : Text) → Fits form operands steps tokens more
    → given flag more ≡ Some value → (takes_flags form ≡ true) × (given_of flag steps tokens ≡ None)
fits_flag Steps form operands steps tokens more value fits is = subst (λ (o : Option Text). Once form steps o) is fits.steps_once
fits_flag Tokens form operands steps tokens more value fits is = subst (λ (o : Option Text). Once form tokens o) is fits.tokens_once

given_with : (flag : Flag) (value : Text) (parts : Parts) → given flag (with_value flag value parts) ≡ Some value
given_with Steps value parts = refl
given_with Tokens value parts = refl

added_value : (flag : Flag) (value : Text) (r : Option Parts) (more : Parts) → add flag value r ≡ Some more → given flag more ≡ Some value
added_value flag value r more is = let found = added flag value r more is in ap (given flag) found.3 ∙ given_with flag value found.0

value_read : (flag : Flag) (words : List Text) (more : Parts) → reading (Some flag) words ≡ Some more → (value : Text) × (given flag more ≡ Some value)
value_read flag [] more e = cc
value_read flag (value ∷ rest) more e = go (class_of value) e
  where
    go : (c : Class) → take_value c flag value (reading None rest) ≡ Some more → (other : Text) × (given flag more ≡ Some other)
    go plain h = (value, added_value flag value (reading None rest) more h)
    go ends h = cc
    go (separate other) h = cc
    go (attached other text) h = cc
    go unknown h = cc

-- ---- the end of the words

or_true : (b : Bool) → (b || true) ≡ true
or_true true = refl
or_true false = refl

same_if : {X : Type 0} (b : Bool) (x : X) → cond b x x ≡ x
same_if true x = refl
same_if false x = refl

default_none : (rows : List Row) (id : Text) (long : Option Text) (index : Option ℕ) (required : Bool) → default_fault rows (held_rule id long index required) ≡ []
default_none rows id long index required = rw (or_true (has_row id rows)) refl

kept : (rows : List Row) (id : Text) (long : Option Text) (index : Option ℕ) (required : Bool) → with_default rows (held_rule id long index required) ≡ rows
kept rows id long index required = same_if (has_row id rows) rows

no_defaults : (form : Form) (rows : List Row) → defaults_fault rows (rules form) ≡ []
unfolding defaults_fault
no_defaults Single rows = or_empty _ _ (default_none rows (codes "first") None (Some 1) true)
no_defaults Double rows = or_empty _ _ (default_none rows (codes "first") None (Some 1) true)
    ∙ or_empty _ _ (default_none (with_default rows first_rule) (codes "second") None (Some 2) true)
no_defaults Planned rows = or_empty _ _ (default_none rows (codes "steps") (Some (codes "steps")) None false)
    ∙ or_empty _ _ (default_none (with_default rows (flag_rule Steps)) (codes "tokens") (Some (codes "tokens")) None false)
    ∙ or_empty _ _ (default_none (with_default (with_default rows (flag_rule Steps)) (flag_rule Tokens)) (codes "first") None (Some 1) true)

all_kept : (form : Form) (rows : List Row) → fold with_default rows (rules form) ≡ rows
all_kept Single rows = kept rows (codes "first") None (Some 1) true
all_kept Double rows = kept (with_default rows first_rule) (codes "second") None (Some 2) true ∙ kept rows (codes "first") None (Some 1) true
all_kept Planned rows = kept (with_default (with_default rows (flag_rule Steps)) (flag_rule Tokens)) (codes "first") None (Some 1) true
    ∙ kept (with_default rows (flag_rule Steps)) (codes "tokens") (Some (codes "tokens")) None false
    ∙ kept rows (codes "steps") (Some (codes "steps")) None false

-- what is required is there just where there are as many operands as are wanted
all_given : (form : Form) (name : Text) (rows : List Row) (operands : List Text) (steps tokens : Option Text) → Holds rows operands steps tokens
    → length operands ≤ count form
    → (length operands ≡ count form → check_fault (shape form name) rows false ≡ []) × (check_fault (shape form name) rows false ≡ [] → length operands ≡ count form)
all_given Single name rows [] steps tokens h few =
    let wrong : check_fault (shape Single name) rows false ≡ kind.MissingRequiredArgument ∷ [] = rw (h.first_row) refl in
    (λ e. absurd (omega arith), λ e. cc)
all_given Single name rows (x ∷ []) steps tokens h few = (λ e. rw (h.first_row) refl, λ e. refl)
all_given Single name rows (x ∷ y ∷ more) steps tokens h few = absurd (omega arith)
all_given Planned name rows [] steps tokens h few =
    let wrong : check_fault (shape Planned name) rows false ≡ kind.MissingRequiredArgument ∷ [] = rw (h.first_row) refl in
    (λ e. absurd (omega arith), λ e. cc)
all_given Planned name rows (x ∷ []) steps tokens h few = (λ e. rw (h.first_row) refl, λ e. refl)
all_given Planned name rows (x ∷ y ∷ more) steps tokens h few = absurd (omega arith)
all_given Double name rows [] steps tokens h few =
    let wrong : check_fault (shape Double name) rows false ≡ kind.MissingRequiredArgument ∷ [] = rw (h.first_row) refl in
    (λ e. absurd (omega arith), λ e. cc)
all_given Double name rows (x ∷ []) steps tokens h few =
    let wrong : check_fault (shape Double name) rows false ≡ kind.MissingRequiredArgument ∷ [] = rw (h.first_row, h.second_row) refl in
    (λ e. absurd (omega arith), λ e. cc)
all_given Double name rows (x ∷ y ∷ []) steps tokens h few = (λ e. rw (h.first_row, h.second_row) refl, λ e. refl)
all_given Double name rows (x ∷ y ∷ z ∷ more) steps tokens h few = absurd (omega arith)

or_none : (o : Option Text) → o ≡ option_or o None
or_none None = refl
or_none (Some x) = refl

nothing_more : (rows : List Row) (operands : List Text) (steps tokens : Option Text) → Holds rows operands steps tokens
    → Holds rows (operands ++ []) (option_or steps None) (option_or tokens None)
nothing_more rows operands steps tokens h =
    subst (λ (o : Option Text). Holds rows (operands ++ []) (option_or steps None) o) (or_none tokens)
    (subst (λ (o : Option Text). Holds rows (operands ++ []) o tokens) (or_none steps)
    (subst (λ (all : List Text). Holds rows all steps tokens) (sym (append-nil operands)) h))

ends_here : (form : Form) (name : Text) (waiting : Waiting) (position : ℕ) (trailing : Bool) (rows : List Row) (pending : Option (Text × List Text))
    (operands : List Text) (steps tokens : Option Text) → Ready form rows pending operands steps tokens
    → Ends form name (at waiting position trailing (held rows pending)) [] operands steps tokens (Some no_parts)
unfolding walk_fault
ends_here form name waiting position trailing rows pending operands steps tokens ready =
    let now = settled_rows (rules form) pending rows in
    let stays : finished (rules form) (held rows pending) ≡ now = all_kept form now in
    let is : whole form name (at waiting position trailing (held rows pending)) [] ≡ check_fault (shape form name) now false =
    or_empty _ _ ready.clean ∙ or_empty _ _ (no_defaults form now) ∙ ap (λ (rs : List Row). check_fault (shape form name) rs false) stays in
    let check = all_given form name now operands steps tokens ready.holds ready.few in
    record {
      sound = λ none. let full = check.1 (sym is ∙ none) in (
        no_parts,
        refl,
        record { number = omega (arith, full); steps_once = tt; tokens_once = tt },
        subst (λ (rs : List Row). Holds rs (operands ++ []) (option_or steps None) (option_or tokens None)) (sym stays)
            (nothing_more now operands steps tokens ready.holds),
      );
      complete = λ more same fits. is ∙ check.0 (
          let number = (subst (λ (p : Parts). Fits form operands steps tokens p) (sym (some_same no_parts more same)) fits).number in omega (arith, number));
    }

-- ---- what is read stays ready

ready_used : (form : Form) (id : Text) (long : Option Text) (index : Option ℕ) (required : Bool) (value : Text) (rows : List Row)
    (operands : List Text) (steps tokens : Option Text) → arg_by_id (rules form) id ≡ Some (held_rule id long index required) → seen id rows ≡ None
    → Holds (rows ++ row id value ∷ []) operands steps tokens → length operands ≤ count form
    → Ready form rows (Some (id, value ∷ [])) operands steps tokens
ready_used form id long index required value rows operands steps tokens by_id none h few = record {
  clean = ap (λ (o : Option Rule). option_map_or (λ a. use_fault false a (value ∷ []) rows) o []) by_id ∙ use_clean id long index required value rows none;
  holds = subst (λ (rs : List Row). Holds rs operands steps tokens)
      (sym (ap (λ (o : Option Rule). used_by_id o (value ∷ []) rows) by_id ∙ used_once id long index required value rows none)) h;
  few = few;
}

-- one more operand has its place, or there are as many as are wanted
data Put (form : Form) (rows : List Row) (operands : List Text) (steps tokens : Option Text) (word : Text) : Type 0 where
  put : (id : Text) (place : ℕ) → arg_by_index (rules form) (1 + length operands) ≡ Some (operand_at id place)
      → min (1 + length operands + 1) usize_max ≡ 1 + length (operands ++ word ∷ [])
      → Ready form rows (Some (id, word ∷ [])) (operands ++ word ∷ []) steps tokens → Put form rows operands steps tokens word
  full : arg_by_index (rules form) (1 + length operands) ≡ None → length operands ≡ count form → Put form rows operands steps tokens word

put_first : (form : Form) (rows : List Row) (steps tokens : Option Text) (word : Text) → Holds rows [] steps tokens
    → arg_by_index (rules form) 1 ≡ Some first_rule → arg_by_id (rules form) (codes "first") ≡ Some first_rule → 1 ≤ count form
    → Put form rows [] steps tokens word
put_first form rows steps tokens word h found by_id few = put (codes "first") 1 found refl
    (ready_used form (codes "first") None (Some 1) true word rows (word ∷ []) steps tokens by_id h.first_row (holds_first rows word steps tokens h) few)

putting : (form : Form) (rows : List Row) (operands : List Text) (steps tokens : Option Text) (word : Text) → Holds rows operands steps tokens
    → length operands ≤ count form → Put form rows operands steps tokens word
putting Single rows [] steps tokens word h few = put_first Single rows steps tokens word h refl refl (omega arith)
putting Planned rows [] steps tokens word h few = put_first Planned rows steps tokens word h refl refl (omega arith)
putting Double rows [] steps tokens word h few = put_first Double rows steps tokens word h refl refl (omega arith)
putting Single rows (x ∷ []) steps tokens word h few = full refl refl
putting Planned rows (x ∷ []) steps tokens word h few = full refl refl
putting Double rows (x ∷ []) steps tokens word h few = put (codes "second") 2 refl refl
    (ready_used Double (codes "second") None (Some 2) true word rows (x ∷ word ∷ []) steps tokens refl h.second_row (holds_second rows x word steps tokens h) (omega arith))
putting Double rows (x ∷ y ∷ []) steps tokens word h few = full refl refl
putting Single rows (x ∷ y ∷ more) steps tokens word h few = absurd (omega arith)
putting Planned rows (x ∷ y ∷ more) steps tokens word h few = absurd (omega arith)
putting Double rows (x ∷ y ∷ z ∷ more) steps tokens word h few = absurd (omega arith)

-- ---- after something is wrong that has yet to show

stuck_end : (form : Form) (name : Text) (w : Walk) → (settle_fault (rules form) false w.held ≡ [] → ⊥) → whole form name w [] ≡ [] → ⊥
unfolding walk_fault
stuck_end form name w wrong none = wrong (or_first _ _ none)

data Place (form : Form) (operands : List Text) : Type 0 where
  place_at : (id : Text) (place : ℕ) → arg_by_index (rules form) (1 + length operands) ≡ Some (operand_at id place) → Place form operands
  no_place : arg_by_index (rules form) (1 + length operands) ≡ None → Place form operands

place_of : (form : Form) (operands : List Text) → length operands ≤ count form → Place form operands
place_of Single [] few = place_at (codes "first") 1 refl
place_of Planned [] few = place_at (codes "first") 1 refl
place_of Double [] few = place_at (codes "first") 1 refl
place_of Single (x ∷ []) few = no_place refl
place_of Planned (x ∷ []) few = no_place refl
place_of Double (x ∷ []) few = place_at (codes "second") 2 refl
place_of Double (x ∷ y ∷ []) few = no_place refl
place_of Single (x ∷ y ∷ more) few = absurd (omega arith)
place_of Planned (x ∷ y ∷ more) few = absurd (omega arith)
place_of Double (x ∷ y ∷ z ∷ more) few = absurd (omega arith)

-- a word for an operand shows it
stuck_operand : (form : Form) (name : Text) (waiting : Waiting) (trailing : Bool) (word : Text) (rest : List Text) (rows : List Row) (pending : Option (Text × List Text))
    (operands : List Text) → length operands ≤ count form
    → word_met (rules form) [] trailing waiting (1 + length operands) word (held rows pending) ≡ (held rows pending, operand_step)
    → word_fault (shape form name) [] trailing waiting word (held rows pending) ≡ []
    → (settle_fault (rules form) false (held rows pending) ≡ [] → ⊥)
    → whole form name (at waiting (1 + length operands) trailing (held rows pending)) (word ∷ rest) ≡ [] → ⊥
stuck_operand form name waiting trailing word rest rows pending operands few met fine wrong =
    stops form name (at waiting (1 + length operands) trailing (held rows pending)) word rest (λ none. go (place_of form operands few) none)
  where
    go : Place form operands → turn_fault (shape form name) [] (at waiting (1 + length operands) trailing (held rows pending)) word ≡ [] → ⊥
    go (place_at id place found) none =
        wrong (sym (operand_fault form name waiting (1 + length operands) trailing word rows pending met fine id place found) ∙ none)
    go (no_place found) none =
        let is = stray form name waiting (1 + length operands) trailing word rows pending met fine found in cc

found_settles : (form : Form) (long : Text) (value : Option Text) (h : Held) → long_fault (rules form) false (flag_found form long) value h ≡ []
    → settle_fault (rules form) false h ≡ []
found_settles Single long value h none = cc
found_settles Double long value h none = cc
found_settles Planned long value h none = go (bytes_eq (codes "steps") long) (bytes_eq (codes "tokens") long) value none
  where
    go : (a b : Bool) (v : Option Text)
        → long_fault (rules Planned) false (cond a (Some (flag_rule Steps)) (cond b (Some (flag_rule Tokens)) None)) v h ≡ []
        → settle_fault (rules Planned) false h ≡ []
    go true b None e = e
    go true b (Some v) e = or_first _ _ e
    go false true None e = e
    go false true (Some v) e = or_first _ _ e
    go false false v e = cc

-- a long word shows it
stuck_long : (form : Form) (name : Text) (waiting : Waiting) (position : ℕ) (word long : Text) (value : Option Text) (rest : List Text) (rows : List Row) (pending : Option (Text × List Text))
    → long_of word ≡ Some (long, value) → bytes_eq word (codes "--") ≡ false → (settle_fault (rules form) false (held rows pending) ≡ [] → ⊥)
    → whole form name (at waiting position false (held rows pending)) (word ∷ rest) ≡ [] → ⊥
stuck_long form name waiting position word long value rest rows pending is double wrong =
    stops form name (at waiting position false (held rows pending)) word rest (λ none.
    wrong (found_settles form long value (held rows pending)
    (sym (long_is form name waiting position word rows pending long double value is
    ∙ ap (λ (o : Option Rule). long_fault (rules form) false o value (held rows pending)) (by_long form long))
    ∙ or_first (word_fault (shape form name) [] false waiting word (held rows pending)) _ none)))

stuck_trailing : (form : Form) (name : Text) (waiting : Waiting) (words : List Text) (rows : List Row) (pending : Option (Text × List Text)) (operands : List Text)
    → length operands ≤ count form → (settle_fault (rules form) false (held rows pending) ≡ [] → ⊥)
    → whole form name (at waiting (1 + length operands) true (held rows pending)) words ≡ [] → ⊥
stuck_trailing form name waiting [] rows pending operands few wrong = stuck_end form name (at waiting (1 + length operands) true (held rows pending)) wrong
stuck_trailing form name waiting (word ∷ rest) rows pending operands few wrong =
    stuck_operand form name waiting true word rest rows pending operands few refl refl wrong

stuck_ends : (form : Form) (name : Text) (waiting : Waiting) (word : Text) (rest : List Text) (rows : List Row) (pending : Option (Text × List Text)) (operands : List Text)
    → length operands ≤ count form → bytes_eq word (codes "--") ≡ true → (settle_fault (rules form) false (held rows pending) ≡ [] → ⊥)
    → whole form name (at waiting (1 + length operands) false (held rows pending)) (word ∷ rest) ≡ [] → ⊥
stuck_ends form name waiting word rest rows pending operands few e wrong none =
    stuck_trailing form name waiting rest rows pending operands few wrong
    (sym (goes form name _ _ word rest (fault_ends form name waiting (1 + length operands) word (held rows pending) e)
    (to_ends form waiting (1 + length operands) word (held rows pending) e)).0 ∙ none)

stuck_idle : (form : Form) (name : Text) (words : List Text) → AreSpelled words → (rows : List Row) (pending : Option (Text × List Text)) (operands : List Text)
    → length operands ≤ count form → (settle_fault (rules form) false (held rows pending) ≡ [] → ⊥)
    → whole form name (at idle (1 + length operands) false (held rows pending)) words ≡ [] → ⊥
stuck_idle form name [] spelled rows pending operands few wrong = stuck_end form name (at idle (1 + length operands) false (held rows pending)) wrong
stuck_idle form name (word ∷ rest) spelled rows pending operands few wrong = go (look word)
  where
    go : Look word → whole form name (at idle (1 + length operands) false (held rows pending)) (word ∷ rest) ≡ [] → ⊥
    go (look_ends e) = stuck_ends form name idle word rest rows pending operands few e wrong
    go (look_plain e) = stuck_operand form name idle false word rest rows pending operands few
        (met_plain form (1 + length operands) word (held rows pending) e) (fault_plain form name idle word (held rows pending) e) wrong
    go (look_short flags l s e) = stops form name (at idle (1 + length operands) false (held rows pending)) word rest
        (unknown_short form name idle (1 + length operands) word flags rows pending spelled.0 l s e)
    go (look_long long value l e) = stuck_long form name idle (1 + length operands) word long value rest rows pending l e wrong

-- ---- all words

as_read : (form : Form) (name : Text) (w : Walk) (words : List Text) (operands : List Text) (steps tokens : Option Text) (r s : Option Parts) → r ≡ s
    → Ends form name w words operands steps tokens s → Ends form name w words operands steps tokens r
as_read form name w words operands steps tokens r s is e = subst (λ (o : Option Parts). Ends form name w words operands steps tokens o) (sym is) e

-- an operand at its place, or one too many
operand_read : (form : Form) (name : Text) (trailing : Bool) (word : Text) (rest : List Text) (rows : List Row) (pending : Option (Text × List Text))
    (operands : List Text) (steps tokens : Option Text) (r : Option Parts) → (trailing || false) ≡ trailing
    → Ready form rows pending operands steps tokens
    → word_met (rules form) [] trailing idle (1 + length operands) word (held rows pending) ≡ (held rows pending, operand_step)
    → word_fault (shape form name) [] trailing idle word (held rows pending) ≡ []
    → ((now : List Row) (then : Option (Text × List Text)) → Ready form now then (operands ++ word ∷ []) steps tokens
    → Ends form name (at idle (1 + length (operands ++ word ∷ [])) trailing (held now then)) rest (operands ++ word ∷ []) steps tokens r)
    → Ends form name (at idle (1 + length operands) trailing (held rows pending)) (word ∷ rest) operands steps tokens (option_map (with_operand word) r)
operand_read form name trailing word rest rows pending operands steps tokens r same ready met fine rec =
    go (putting form now operands steps tokens word ready.holds ready.few)
  where
    now : List Row
    now = settled_rows (rules form) pending rows

    go : Put form now operands steps tokens word
        → Ends form name (at idle (1 + length operands) trailing (held rows pending)) (word ∷ rest) operands steps tokens (option_map (with_operand word) r)
    go (put id place found next after) =
        moved form name _ _ (word ∷ rest) rest operands steps tokens (option_map (with_operand word) r)
        (goes form name (at idle (1 + length operands) trailing (held rows pending)) (at idle (1 + length (operands ++ word ∷ [])) trailing (held now (Some (id, word ∷ [])))) word rest
        (operand_fault form name idle (1 + length operands) trailing word rows pending met fine id place found ∙ ready.clean)
        (to_operand form name idle (1 + length operands) trailing word rows pending met fine id place found
        ∙ ap₂ (λ k t. at idle k t (held now (Some (id, word ∷ [])))) next same))
        (operand_more form name (at idle (1 + length (operands ++ word ∷ [])) trailing (held now (Some (id, word ∷ [])))) rest word operands steps tokens r
        (rec now (Some (id, word ∷ [])) after))
    go (full found all) = stopped form name (at idle (1 + length operands) trailing (held rows pending)) (word ∷ rest) operands steps tokens (option_map (with_operand word) r)
        (stops form name (at idle (1 + length operands) trailing (held rows pending)) word rest (λ none.
        let is = stray form name idle (1 + length operands) trailing word rows pending met fine found in cc))
        (λ more is fits.
        let number = (subst (λ (p : Parts). Fits form operands steps tokens p) (mapped word r more is).2 fits).number in absurd (omega (arith, number, all)))

trail : (form : Form) (name : Text) (words : List Text) (rows : List Row) (pending : Option (Text × List Text)) (operands : List Text) (steps tokens : Option Text)
    → Ready form rows pending operands steps tokens
    → Ends form name (at idle (1 + length operands) true (held rows pending)) words operands steps tokens (Some (record no_parts { operands = words }))
trail form name [] rows pending operands steps tokens ready = ends_here form name idle (1 + length operands) true rows pending operands steps tokens ready
trail form name (word ∷ rest) rows pending operands steps tokens ready =
    operand_read form name true word rest rows pending operands steps tokens (Some (record no_parts { operands = rest })) refl ready refl refl
    (λ now then after. trail form name rest now then (operands ++ word ∷ []) steps tokens after)

-- the option that a long word names, if it names one
data Names (form : Form) (long : Text) : Type 0 where
  names : (flag : Flag) → ((value : Option Text) → long_class long value ≡ flag_class flag value)
      → (takes_flags form ≡ true → arg_by_long (rules form) long ≡ Some (flag_rule flag))
      → (takes_flags form ≡ false → arg_by_long (rules form) long ≡ None) → Names form long
  names_none : ((value : Option Text) → long_class long value ≡ unknown) → arg_by_long (rules form) long ≡ None → Names form long

not_taken : (form : Form) (long : Text) → takes_flags form ≡ false → arg_by_long (rules form) long ≡ None
not_taken Single long e = refl
not_taken Double long e = refl
not_taken Planned long e = absurd (true≢false e)

naming : (form : Form) (long : Text) → Names form long
naming form long = go (bytes_eq (codes "steps") long) (bytes_eq (codes "tokens") long) refl refl
  where
    taken : (f : Form) (a b : Bool) (flag : Flag) → bytes_eq (codes "steps") long ≡ a → bytes_eq (codes "tokens") long ≡ b
        → cond a (Some (flag_rule Steps)) (cond b (Some (flag_rule Tokens)) None) ≡ Some (flag_rule flag)
        → takes_flags f ≡ true → arg_by_long (rules f) long ≡ Some (flag_rule flag)
    taken Single a b flag s t is e = absurd (true≢false (sym e))
    taken Double a b flag s t is e = absurd (true≢false (sym e))
    taken Planned a b flag s t is e = by_long Planned long ∙ ap₂ (λ x y. cond x (Some (flag_rule Steps)) (cond y (Some (flag_rule Tokens)) None)) s t ∙ is

    none : (f : Form) → bytes_eq (codes "steps") long ≡ false → bytes_eq (codes "tokens") long ≡ false → arg_by_long (rules f) long ≡ None
    none Single s t = refl
    none Double s t = refl
    none Planned s t = by_long Planned long ∙ ap₂ (λ x y. cond x (Some (flag_rule Steps)) (cond y (Some (flag_rule Tokens)) None)) s t

    go : (a b : Bool) → bytes_eq (codes "steps") long ≡ a → bytes_eq (codes "tokens") long ≡ b → Names form long
    go true b s t = names Steps (λ v. rw (s) refl) (taken form true b Steps s t refl) (not_taken form long)
    go false true s t = names Tokens (λ v. rw (s, t) refl) (taken form false true Tokens s t refl) (not_taken form long)
    go false false s t = names_none (λ v. rw (s, t) refl) (none form s t)

long_is_class : (word long : Text) (value : Option Text) → long_of word ≡ Some (long, value) → bytes_eq word (codes "--") ≡ false → class_of word ≡ long_class long value
long_is_class word long value l e = rw (e, l) refl

abbrev ReadsOn : Form → Text → List Text → Type 0
ReadsOn form name words = (operands : List Text) (steps tokens : Option Text) (rows : List Row) (pending : Option (Text × List Text)) → Ready form rows pending operands steps tokens
    → Ends form name (at idle (1 + length operands) false (held rows pending)) words operands steps tokens (reading None words)

abbrev ReadsValue : Form → Text → List Text → Type 0
ReadsValue form name words = (flag : Flag) (operands : List Text) (steps tokens : Option Text) (rows : List Row) → takes_flags form ≡ true → Holds rows operands steps tokens
    → length operands ≤ count form
    → Ends form name (at (option (flag_name flag)) (1 + length operands) false (held rows (Some (flag_name flag, [])))) words operands steps tokens (reading (Some flag) words)

-- an option twice, or where none is taken
not_again : (flag : Flag) (form : Form) (operands : List Text) (steps tokens : Option Text) (value old : Text) (r : Option Parts) → given_of flag steps tokens ≡ Some old
    → (more : Parts) → add flag value r ≡ Some more → Fits form operands steps tokens more → ⊥
not_again flag form operands steps tokens value old r again more is fits =
    let free = (fits_flag flag form operands steps tokens more value fits (added_value flag value r more is)).1 in cc

module _ (form : Form) (name : Text) (flag : Flag) (operands : List Text) (steps tokens : Option Text) (rows : List Row) (takes : takes_flags form ≡ true)
    (holds : Holds rows operands steps tokens) (few : length operands ≤ count form) where
  -- an option that waits in vain
  unmet : settle_fault (rules form) false (held rows (Some (flag_name flag, []))) ≡ [] → ⊥
  unmet none =
      let is : settle_fault (rules form) false (held rows (Some (flag_name flag, []))) ≡ kind.InvalidValue ∷ [] =
      ap (λ (o : Option Rule). option_map_or (λ a. use_fault false a [] rows) o []) (by_flag form flag takes) in cc

  twice : (value old : Text) → given_of flag steps tokens ≡ Some old → settle_fault (rules form) false (held rows (Some (flag_name flag, value ∷ []))) ≡ [] → ⊥
  twice value old again none =
      let is : settle_fault (rules form) false (held rows (Some (flag_name flag, value ∷ []))) ≡ kind.ArgumentConflict ∷ [] =
      ap (λ (o : Option Rule). option_map_or (λ a. use_fault false a (value ∷ []) rows) o []) (by_flag form flag takes)
      ∙ use_twice (flag_name flag) (Some (flag_name flag)) None false value rows (row (flag_name flag) old)
      (seen_flag flag rows operands steps tokens holds ∙ ap (option_map (row (flag_name flag))) again) in cc

  value_ready : (value : Text) → given_of flag steps tokens ≡ None
      → Ready form rows (Some (flag_name flag, value ∷ [])) operands (steps_with flag value steps) (tokens_with flag value tokens)
  value_ready value free = ready_used form (flag_name flag) (Some (flag_name flag)) None false value rows operands (steps_with flag value steps) (tokens_with flag value tokens)
      (by_flag form flag takes) (seen_flag flag rows operands steps tokens holds ∙ ap (option_map (row (flag_name flag))) free)
      (holds_flag flag rows value operands steps tokens free holds) few

  -- the word behind an option
  value_read_on : (word : Text) (rest : List Text) → AreSpelled (word ∷ rest) → ReadsOn form name rest
      → Ends form name (at (option (flag_name flag)) (1 + length operands) false (held rows (Some (flag_name flag, [])))) (word ∷ rest) operands steps tokens (reading (Some flag) (word ∷ rest))
  value_read_on word rest spelled rec = go (look word)
    where
      wrong : (class : Class) → class_of word ≡ class → take_value class flag word (reading None rest) ≡ None
          → (whole form name (at (option (flag_name flag)) (1 + length operands) false (held rows (Some (flag_name flag, [])))) (word ∷ rest) ≡ [] → ⊥)
          → Ends form name (at (option (flag_name flag)) (1 + length operands) false (held rows (Some (flag_name flag, [])))) (word ∷ rest) operands steps tokens (reading (Some flag) (word ∷ rest))
      wrong class is none bad = stopped form name _ (word ∷ rest) operands steps tokens (reading (Some flag) (word ∷ rest)) bad
          (λ more e fits. let no : reading (Some flag) (word ∷ rest) ≡ None = ap (λ (c : Class). take_value c flag word (reading None rest)) is ∙ none in cc)

      flag_value : (long : Text) (value : Option Text) → Names form long → take_value (long_class long value) flag word (reading None rest) ≡ None
      flag_value long None (names other is taken free) = ap (λ (c : Class). take_value c flag word (reading None rest)) (is None)
      flag_value long (Some v) (names other is taken free) = ap (λ (c : Class). take_value c flag word (reading None rest)) (is (Some v))
      flag_value long value (names_none is free) = ap (λ (c : Class). take_value c flag word (reading None rest)) (is value)

      plain_value : IsPlainWord word → class_of word ≡ plain → (o : Option Text) → given_of flag steps tokens ≡ o
          → Ends form name (at (option (flag_name flag)) (1 + length operands) false (held rows (Some (flag_name flag, [])))) (word ∷ rest) operands steps tokens (reading (Some flag) (word ∷ rest))
      plain_value e is o free =
          as_read form name _ (word ∷ rest) operands steps tokens (reading (Some flag) (word ∷ rest)) (add flag word (reading None rest))
          (ap (λ (c : Class). take_value c flag word (reading None rest)) is)
          (moved form name _ _ (word ∷ rest) rest operands steps tokens (add flag word (reading None rest))
          (goes form name (at (option (flag_name flag)) (1 + length operands) false (held rows (Some (flag_name flag, [])))) (at idle (1 + length operands) false (held rows (Some (flag_name flag, word ∷ [])))) word rest
          (fault_value form name flag (1 + length operands) word (held rows (Some (flag_name flag, []))) e)
          (to_value form flag (1 + length operands) word rows takes e))
          (behind o free))
        where
          behind : (p : Option Text) → given_of flag steps tokens ≡ p
              → Ends form name (at idle (1 + length operands) false (held rows (Some (flag_name flag, word ∷ [])))) rest operands steps tokens (add flag word (reading None rest))
          behind None free2 = flag_more flag form name _ rest word operands steps tokens (reading None rest) takes free2
              (rec operands (steps_with flag word steps) (tokens_with flag word tokens) rows (Some (flag_name flag, word ∷ [])) (value_ready word free2))
          behind (Some old) again = stopped form name _ rest operands steps tokens (add flag word (reading None rest))
              (stuck_idle form name rest spelled.1 rows (Some (flag_name flag, word ∷ [])) operands few (twice word old again))
              (not_again flag form operands steps tokens word old (reading None rest) again)

      go : Look word → Ends form name (at (option (flag_name flag)) (1 + length operands) false (held rows (Some (flag_name flag, [])))) (word ∷ rest) operands steps tokens (reading (Some flag) (word ∷ rest))
      go (look_ends e) = wrong ends (rw (e) refl) refl (stuck_ends form name (option (flag_name flag)) word rest rows (Some (flag_name flag, [])) operands few e unmet)
      go (look_plain e) = plain_value e (rw (e.2, e.0, e.1) refl) (given_of flag steps tokens) refl
      go (look_short flags l s e) = wrong unknown (rw (e, l, s) refl) refl
          (stops form name (at (option (flag_name flag)) (1 + length operands) false (held rows (Some (flag_name flag, [])))) word rest
          (unknown_short form name (option (flag_name flag)) (1 + length operands) word flags rows (Some (flag_name flag, [])) spelled.0 l s e))
      go (look_long long value l e) = wrong (long_class long value) (long_is_class word long value l e) (flag_value long value (naming form long))
          (stuck_long form name (option (flag_name flag)) (1 + length operands) word long value rest rows (Some (flag_name flag, [])) l e unmet)

-- ---- a word, and the words behind it

module _ (form : Form) (name : Text) (word : Text) (rest : List Text) (spelled : AreSpelled (word ∷ rest)) (on : ReadsOn form name rest) (of_value : ReadsValue form name rest)
    (operands : List Text) (steps tokens : Option Text) (rows : List Row) (pending : Option (Text × List Text)) (ready : Ready form rows pending operands steps tokens) where
  abbrev here : Walk
  here = at idle (1 + length operands) false (held rows pending)

  abbrev now : List Row
  now = settled_rows (rules form) pending rows

  -- the word shows that something is wrong, and the words read as nothing that fits
  refused : (class : Class) → class_of word ≡ class → (turn_fault (shape form name) [] here word ≡ [] → ⊥)
      → ((more : Parts) → turn class word rest (λ waiting. reading waiting rest) ≡ Some more → Fits form operands steps tokens more → ⊥)
      → Ends form name here (word ∷ rest) operands steps tokens (reading None (word ∷ rest))
  refused class is wrong other = as_read form name here (word ∷ rest) operands steps tokens (reading None (word ∷ rest)) (turn class word rest (λ waiting. reading waiting rest))
      (ap (λ (c : Class). turn c word rest (λ waiting. reading waiting rest)) is)
      (stopped form name here (word ∷ rest) operands steps tokens (turn class word rest (λ waiting. reading waiting rest)) (stops form name here word rest wrong) other)

  -- an option that the command hasn't
  none_taken : (long : Text) (value : Option Text) (flag : Flag) → long_of word ≡ Some (long, value) → bytes_eq word (codes "--") ≡ false
      → class_of word ≡ flag_class flag value → takes_flags form ≡ false → arg_by_long (rules form) long ≡ None
      → Ends form name here (word ∷ rest) operands steps tokens (reading None (word ∷ rest))
  none_taken long None flag l e is takes found = refused (separate flag) is (unknown_long form name idle (1 + length operands) word rows pending long e None l found)
      (λ more read fits. let got = value_read flag rest more read in let bad = (fits_flag flag form operands steps tokens more got.0 fits got.1).0 in absurd (true≢false (sym bad ∙ takes)))
  none_taken long (Some v) flag l e is takes found = refused (attached flag v) is (unknown_long form name idle (1 + length operands) word rows pending long e (Some v) l found)
      (λ more read fits. let bad = (fits_flag flag form operands steps tokens more v fits (added_value flag v (reading None rest) more read)).0 in absurd (true≢false (sym bad ∙ takes)))

  -- an option with its value
  with_attached : (long value : Text) (flag : Flag) → long_of word ≡ Some (long, Some value) → bytes_eq word (codes "--") ≡ false
      → class_of word ≡ attached flag value → takes_flags form ≡ true → arg_by_long (rules form) long ≡ Some (flag_rule flag)
      → (o : Option Text) → given_of flag steps tokens ≡ o
      → Ends form name here (word ∷ rest) operands steps tokens (reading None (word ∷ rest))
  with_attached long value flag l e is takes found None free =
      let none_seen : seen (flag_name flag) now ≡ None = seen_flag flag now operands steps tokens ready.holds ∙ ap (option_map (row (flag_name flag))) free in
      let after = now ++ row (flag_name flag) value ∷ [] in
      let turned = attached_fault form name idle (1 + length operands) word rows pending long e flag value l found in
      let walks = to_attached form name idle (1 + length operands) word rows pending long e flag value l found in
      as_read form name here (word ∷ rest) operands steps tokens (reading None (word ∷ rest)) (add flag value (reading None rest))
      (ap (λ (c : Class). turn c word rest (λ waiting. reading waiting rest)) is)
      (moved form name here (at idle (1 + length operands) false (held after None)) (word ∷ rest) rest operands steps tokens (add flag value (reading None rest))
      (goes form name here (at idle (1 + length operands) false (held after None)) word rest
      (turned ∙ or_empty _ _ ready.clean ∙ use_clean (flag_name flag) (Some (flag_name flag)) None false value now none_seen)
      (walks ∙ ap (λ (rs : List Row). at idle (1 + length operands) false (held rs None)) (used_once (flag_name flag) (Some (flag_name flag)) None false value now none_seen)))
      (flag_more flag form name (at idle (1 + length operands) false (held after None)) rest value operands steps tokens (reading None rest) takes free
      (on operands (steps_with flag value steps) (tokens_with flag value tokens) after None (record {
        clean = refl;
        holds = holds_flag flag now value operands steps tokens free ready.holds;
        few = ready.few;
      }))))
  with_attached long value flag l e is takes found (Some old) again =
      refused (attached flag value) is
      (λ none. let twice_used = use_twice (flag_name flag) (Some (flag_name flag)) None false value now (row (flag_name flag) old)
      (seen_flag flag now operands steps tokens ready.holds ∙ ap (option_map (row (flag_name flag))) again) in
      let second = or_second (settle_fault (rules form) false (held rows pending)) (use_fault false (flag_rule flag) (value ∷ []) now)
      (sym (attached_fault form name idle (1 + length operands) word rows pending long e flag value l found) ∙ none) in
      something_wrong (use_fault false (flag_rule flag) (value ∷ []) now) kind.ArgumentConflict twice_used second)
      (not_again flag form operands steps tokens value old (reading None rest) again)

  with_separate : (long : Text) (flag : Flag) → long_of word ≡ Some (long, None) → bytes_eq word (codes "--") ≡ false
      → class_of word ≡ separate flag → takes_flags form ≡ true → arg_by_long (rules form) long ≡ Some (flag_rule flag)
      → Ends form name here (word ∷ rest) operands steps tokens (reading None (word ∷ rest))
  with_separate long flag l e is takes found =
      as_read form name here (word ∷ rest) operands steps tokens (reading None (word ∷ rest)) (reading (Some flag) rest)
      (ap (λ (c : Class). turn c word rest (λ waiting. reading waiting rest)) is)
      (moved form name here (at (option (flag_name flag)) (1 + length operands) false (held now (Some (flag_name flag, [])))) (word ∷ rest) rest operands steps tokens (reading (Some flag) rest)
      (goes form name here (at (option (flag_name flag)) (1 + length operands) false (held now (Some (flag_name flag, [])))) word rest
      (separate_fault form name idle (1 + length operands) word rows pending long e flag l found ∙ ready.clean)
      (to_separate form name idle (1 + length operands) word rows pending long e flag l found))
      (of_value flag operands steps tokens now takes ready.holds ready.few))

  named : (long : Text) (value : Option Text) → long_of word ≡ Some (long, value) → bytes_eq word (codes "--") ≡ false → Names form long
      → (b : Bool) → takes_flags form ≡ b → Ends form name here (word ∷ rest) operands steps tokens (reading None (word ∷ rest))
  named long value l e (names_none is found) b takes = refused unknown (long_is_class word long value l e ∙ is value)
      (unknown_long form name idle (1 + length operands) word rows pending long e value l found) (λ more read fits. cc)
  named long value l e (names flag is found free) false takes =
      none_taken long value flag l e (long_is_class word long value l e ∙ is value) takes (free takes)
  named long None l e (names flag is found free) true takes =
      with_separate long flag l e (long_is_class word long None l e ∙ is None) takes (found takes)
  named long (Some value) l e (names flag is found free) true takes =
      with_attached long value flag l e (long_is_class word long (Some value) l e ∙ is (Some value)) takes (found takes) (given_of flag steps tokens) refl

  read_word : Look word → Ends form name here (word ∷ rest) operands steps tokens (reading None (word ∷ rest))
  read_word (look_ends e) =
      let is : class_of word ≡ ends = rw (e) refl in
      as_read form name here (word ∷ rest) operands steps tokens (reading None (word ∷ rest)) (Some (record no_parts { operands = rest }))
      (ap (λ (c : Class). turn c word rest (λ waiting. reading waiting rest)) is)
      (moved form name here (at idle (1 + length operands) true (held rows pending)) (word ∷ rest) rest operands steps tokens (Some (record no_parts { operands = rest }))
      (goes form name here (at idle (1 + length operands) true (held rows pending)) word rest
      (fault_ends form name idle (1 + length operands) word (held rows pending) e) (to_ends form idle (1 + length operands) word (held rows pending) e))
      (trail form name rest rows pending operands steps tokens ready))
  read_word (look_plain e) =
      let is : class_of word ≡ plain = rw (e.2, e.0, e.1) refl in
      as_read form name here (word ∷ rest) operands steps tokens (reading None (word ∷ rest)) (option_map (with_operand word) (reading None rest))
      (ap (λ (c : Class). turn c word rest (λ waiting. reading waiting rest)) is)
      (operand_read form name false word rest rows pending operands steps tokens (reading None rest) refl ready
      (met_plain form (1 + length operands) word (held rows pending) e) (fault_plain form name idle word (held rows pending) e)
      (λ next then after. on (operands ++ word ∷ []) steps tokens next then after))
  read_word (look_short flags l s e) =
      let is : class_of word ≡ unknown = rw (e, l, s) refl in
      refused unknown is (unknown_short form name idle (1 + length operands) word flags rows pending spelled.0 l s e) (λ more read fits. cc)
  read_word (look_long long value l e) = named long value l e (naming form long) (takes_flags form) refl

pub reads_all : (form : Form) (name : Text) (words : List Text) → AreSpelled words → ReadsOn form name words × ReadsValue form name words
reads_all form name [] spelled = (
  λ operands steps tokens rows pending ready. ends_here form name idle (1 + length operands) false rows pending operands steps tokens ready,
  λ flag operands steps tokens rows takes holds few.
      stopped form name (at (option (flag_name flag)) (1 + length operands) false (held rows (Some (flag_name flag, [])))) [] operands steps tokens None
      (stuck_end form name (at (option (flag_name flag)) (1 + length operands) false (held rows (Some (flag_name flag, []))))
      (unmet form name flag operands steps tokens rows takes holds few)) (λ more e fits. cc),
)
reads_all form name (word ∷ rest) spelled =
    let rec = reads_all form name rest spelled.1 in (
      λ operands steps tokens rows pending ready. read_word form name word rest spelled rec.0 rec.1 operands steps tokens rows pending ready (look word),
      λ flag operands steps tokens rows takes holds few. value_read_on form name flag operands steps tokens rows takes holds few word rest spelled rec.0,
    )

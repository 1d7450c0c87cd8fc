-- What one word does to a walk over the words.
use Rattle.std.proofs.Common.{◌≡◌, ◌∙◌, ◌<◌, ◌≤◌, ◌+◌, ℕ, Bool, cond, ◌&&◌, ◌||◌, not, true, false, zero, suc, refl, sym, ap, ap₂, subst, arith, List, [], ◌∷◌, ◌++◌, length, min, Option, Some, None, inl, inr, true≢false, codes}
use Rattle.std.specs.Prelude.{slice_get, find, fold}
use Rattle.std.specs.Str.{bytes_eq, chars}
use Rattle.clap.specs.Lexer.{long_of, short_of, usize_max}
use Rattle.clap.specs.Walk.{Held, Walk, Waiting, idle, option, positional, Row, Rule, Step, Text, arg_by_id, arg_by_index, arg_by_long, arg_by_short, finished, is_pending, pushed, settled, settled_rows, subcommand_met, used, value as operand_step, walked, word_met}
use Rattle.clap.specs.Simple.{Shape}
use Rattle.clap.specs.Faults.{bundle_fault, check_fault, defaults_fault, flags_fault, long_fault, settle_fault, turn_fault, use_fault, walk_fault, word_fault}
use Rattle.clap.specs.Kinds.{Kinds, or_else}
use Rattle.clap.specs.declared.error.kind.ErrorKind.{ErrorKind}
use Rattle.clap.specs.declared.error.kind.ErrorKind.TheVariants as kind
use Rattle.run_words.specs.Commands.{Form, Single, Double, Planned}
use Rattle.run_words.specs.Words.{Flag, Steps, Tokens}
use Rattle.run_words.proofs.Rules.{flag_name, flag_rule, held_rule, operand_at, rules, shape, first_rule, second_rule}

-- ---- lists of kinds

pub or_first : (a b : Kinds) → or_else a b ≡ [] → a ≡ []
or_first [] b h = refl
or_first (k ∷ ks) b h = cc

pub or_second : (a b : Kinds) → or_else a b ≡ [] → b ≡ []
or_second [] b h = h
or_second (k ∷ ks) b h = cc

pub something_wrong : (a : Kinds) (k : ErrorKind) → a ≡ k ∷ [] → a ≡ [] → ⊥
something_wrong a k is none = cc

or_assoc : (a b c : Kinds) → or_else (or_else a b) c ≡ or_else a (or_else b c)
or_assoc [] b c = refl
or_assoc (k ∷ ks) b c = refl

or_nil : (a : Kinds) → or_else a [] ≡ a
or_nil [] = refl
or_nil (k ∷ ks) = refl

pub or_empty : (a b : Kinds) → a ≡ [] → or_else a b ≡ b
or_empty a b e = ap (λ (k : Kinds). or_else k b) e

-- ---- a walk and its end

abbrev pub held : List Row → Option (Text × List Text) → Held
held rows pending = record { rows = rows; pending = pending; skip = 0 }

abbrev pub at : Waiting → ℕ → Bool → Held → Walk
at waiting position trailing h = record { held = h; waiting = waiting; position = position; is_trailing = trailing; stopped = None }

abbrev pub end_fault : Form → Text → Held → Kinds
end_fault form name h = or_else (settle_fault (rules form) false h)
    (or_else (defaults_fault (settled (rules form) h).rows (rules form)) (check_fault (shape form name) (finished (rules form) h) false))

-- what is wrong with the words from here on
abbrev pub whole : Form → Text → Walk → List Text → Kinds
whole form name w words = or_else (walk_fault (shape form name) [] w words) (end_fault form name (fold (walked (rules form) []) w words).held)

abbrev pub rows_end : Form → Walk → List Text → List Row
rows_end form w words = finished (rules form) (fold (walked (rules form) []) w words).held

whole_step : (form : Form) (name : Text) (w : Walk) (word : Text) (rest : List Text)
    → whole form name w (word ∷ rest) ≡ or_else (turn_fault (shape form name) [] w word) (whole form name (walked (rules form) [] w word) rest)
unfolding walk_fault
whole_step form name w word rest = or_assoc (turn_fault (shape form name) [] w word) (walk_fault (shape form name) [] (walked (rules form) [] w word) rest)
    (end_fault form name (fold (walked (rules form) []) (walked (rules form) [] w word) rest).held)

pub goes : (form : Form) (name : Text) (w next : Walk) (word : Text) (rest : List Text) → turn_fault (shape form name) [] w word ≡ []
    → walked (rules form) [] w word ≡ next → (whole form name w (word ∷ rest) ≡ whole form name next rest) × (rows_end form w (word ∷ rest) ≡ rows_end form next rest)
goes form name w next word rest none is = (
  whole_step form name w word rest ∙ or_empty _ _ none ∙ ap (λ (v : Walk). whole form name v rest) is,
  ap (λ (v : Walk). rows_end form v rest) is,
)

pub stops : (form : Form) (name : Text) (w : Walk) (word : Text) (rest : List Text) → (turn_fault (shape form name) [] w word ≡ [] → ⊥)
    → whole form name w (word ∷ rest) ≡ [] → ⊥
stops form name w word rest wrong none = wrong (or_first _ _ (sym (whole_step form name w word rest) ∙ none))

-- ---- how a word looks

abbrev pub IsPlainWord : Text → Type 0
IsPlainWord word = (long_of word ≡ None) × (short_of word ≡ None) × (bytes_eq word (codes "--") ≡ false)

pub data Look (word : Text) : Type 0 where
  look_ends : bytes_eq word (codes "--") ≡ true → Look word
  look_plain : IsPlainWord word → Look word
  look_short : (flags : Text) → long_of word ≡ None → short_of word ≡ Some flags → bytes_eq word (codes "--") ≡ false → Look word
  look_long : (name : Text) (given : Option Text) → long_of word ≡ Some (name, given) → bytes_eq word (codes "--") ≡ false → Look word

pub look : (word : Text) → Look word
look word = go (bytes_eq word (codes "--")) (long_of word) (short_of word) refl refl refl
  where
    go : (b : Bool) (long : Option (Text × Option Text)) (short : Option Text) → bytes_eq word (codes "--") ≡ b → long_of word ≡ long → short_of word ≡ short → Look word
    go true long short e l s = look_ends e
    go false (Some p) short e l s = look_long p.0 p.1 l e
    go false None (Some flags) e l s = look_short flags l s e
    go false None None e l s = look_plain (l, s, e)

-- what a short word has behind its hyphen is some characters
abbrev pub IsSpelled : Text → Type 0
IsSpelled word = (flags : Text) → short_of word ≡ Some flags → (k x : ℕ) × (length flags ≡ suc k) × (slice_get (chars flags) 0 ≡ Some x)

abbrev pub AreSpelled : List Text → Type 0
AreSpelled [] = Unit {0}
AreSpelled (word ∷ rest) = IsSpelled word × AreSpelled rest

-- ---- the rules

abbrev pub takes_flags : Form → Bool
takes_flags Single = false
takes_flags Double = false
takes_flags Planned = true

abbrev pub count : Form → ℕ
count Single = 1
count Double = 2
count Planned = 1

abbrev pub flag_found : Form → Text → Option Rule
flag_found Single name = None
flag_found Double name = None
flag_found Planned name = cond (bytes_eq (codes "steps") name) (Some (flag_rule Steps)) (cond (bytes_eq (codes "tokens") name) (Some (flag_rule Tokens)) None)

pub by_long : (form : Form) (name : Text) → arg_by_long (rules form) name ≡ flag_found form name
by_long Single name = refl
by_long Double name = refl
by_long Planned name = go (bytes_eq (codes "steps") name) (bytes_eq (codes "tokens") name)
  where
    go : (a b : Bool) → cond (true && (a || false)) (Some (flag_rule Steps)) (cond (true && (b || false)) (Some (flag_rule Tokens)) None)
        ≡ cond a (Some (flag_rule Steps)) (cond b (Some (flag_rule Tokens)) None)
    go true b = refl
    go false true = refl
    go false false = refl

pub by_short : (form : Form) (x : ℕ) → arg_by_short (rules form) x ≡ None
by_short Single x = refl
by_short Double x = refl
by_short Planned x = refl

pub by_flag : (form : Form) (flag : Flag) → takes_flags form ≡ true → arg_by_id (rules form) (flag_name flag) ≡ Some (flag_rule flag)
by_flag Single flag e = absurd (true≢false (sym e))
by_flag Double flag e = absurd (true≢false (sym e))
by_flag Planned Steps e = refl
by_flag Planned Tokens e = refl

-- ---- words that go to an operand

no_sub : (waiting : Waiting) (word : Text) → subcommand_met [] waiting word ≡ None
no_sub idle word = refl
no_sub (option id) word = refl
no_sub positional word = refl

never : {X : Type 0} (b : Bool) (x y : X) → cond (b && false) x y ≡ y
never true x y = refl
never false x y = refl

pub met_plain : (form : Form) (position : ℕ) (word : Text) (h : Held) → IsPlainWord word → word_met (rules form) [] false idle position word h ≡ (h, operand_step)
met_plain form position word h e = rw (e.2, e.0, e.1) refl

pub fault_plain : (form : Form) (name : Text) (waiting : Waiting) (word : Text) (h : Held) → IsPlainWord word → word_fault (shape form name) [] false waiting word h ≡ []
fault_plain form name waiting word h e = rw (no_sub waiting word, e.2, e.0, e.1) refl

module _ (form : Form) (name : Text) (waiting : Waiting) (position : ℕ) (trailing : Bool) (word : Text) (rows : List Row) (pending : Option (Text × List Text))
    (met : word_met (rules form) [] trailing waiting position word (held rows pending) ≡ (held rows pending, operand_step))
    (fine : word_fault (shape form name) [] trailing waiting word (held rows pending) ≡ []) where
  pub operand_fault : (id : Text) (place : ℕ) → arg_by_index (rules form) position ≡ Some (operand_at id place)
      → turn_fault (shape form name) [] (at waiting position trailing (held rows pending)) word ≡ settle_fault (rules form) false (held rows pending)
  operand_fault id place found = rw (met, fine, found) (never (is_pending (operand_at id place) pending) [] (settle_fault (rules form) false (held rows pending)))

  pub stray : arg_by_index (rules form) position ≡ None
      → turn_fault (shape form name) [] (at waiting position trailing (held rows pending)) word ≡ kind.UnknownArgument ∷ []
  stray found = rw (met, fine, found) refl

  pub to_operand : (id : Text) (place : ℕ) → arg_by_index (rules form) position ≡ Some (operand_at id place)
      → walked (rules form) [] (at waiting position trailing (held rows pending)) word
      ≡ at idle (min (position + 1) usize_max) (trailing || false) (held (settled_rows (rules form) pending rows) (Some (id, word ∷ [])))
  unfolding walked
  to_operand id place found = rw (met, found)
      (ap (λ (h : Held). at idle (min (position + 1) usize_max) (trailing || false) (pushed id word h))
      (never (is_pending (operand_at id place) pending) (held rows pending) (settled (rules form) (held rows pending))))

-- ---- words with two hyphens

module _ (form : Form) (name : Text) (waiting : Waiting) (position : ℕ) (word : Text) (rows : List Row) (pending : Option (Text × List Text))
    (long : Text) (double : bytes_eq word (codes "--") ≡ false) where
  pub long_is : (given : Option Text) → long_of word ≡ Some (long, given)
      → word_fault (shape form name) [] false waiting word (held rows pending) ≡ long_fault (rules form) false (arg_by_long (rules form) long) given (held rows pending)
  long_is given is = rw (no_sub waiting word, double, is) refl

  pub attached_fault : (flag : Flag) (value : Text) → long_of word ≡ Some (long, Some value) → arg_by_long (rules form) long ≡ Some (flag_rule flag)
      → turn_fault (shape form name) [] (at waiting position false (held rows pending)) word
      ≡ or_else (settle_fault (rules form) false (held rows pending)) (use_fault false (flag_rule flag) (value ∷ []) (settled_rows (rules form) pending rows))
  attached_fault flag value is found = rw (no_sub waiting word, double, is, found) (or_nil _)

  pub to_attached : (flag : Flag) (value : Text) → long_of word ≡ Some (long, Some value) → arg_by_long (rules form) long ≡ Some (flag_rule flag)
      → walked (rules form) [] (at waiting position false (held rows pending)) word
      ≡ at idle position false (held (used (flag_rule flag) (value ∷ []) (settled_rows (rules form) pending rows)) None)
  unfolding walked
  to_attached flag value is found = rw (no_sub waiting word, double, is, found) refl

  pub separate_fault : (flag : Flag) → long_of word ≡ Some (long, None) → arg_by_long (rules form) long ≡ Some (flag_rule flag)
      → turn_fault (shape form name) [] (at waiting position false (held rows pending)) word ≡ settle_fault (rules form) false (held rows pending)
  separate_fault flag is found = rw (no_sub waiting word, double, is, found) (or_nil _)

  pub to_separate : (flag : Flag) → long_of word ≡ Some (long, None) → arg_by_long (rules form) long ≡ Some (flag_rule flag)
      → walked (rules form) [] (at waiting position false (held rows pending)) word
      ≡ at (option (flag_name flag)) position false (held (settled_rows (rules form) pending rows) (Some (flag_name flag, [])))
  unfolding walked
  to_separate flag is found = rw (no_sub waiting word, double, is, found) refl

  pub unknown_long : (given : Option Text) → long_of word ≡ Some (long, given) → arg_by_long (rules form) long ≡ None
      → turn_fault (shape form name) [] (at waiting position false (held rows pending)) word ≡ [] → ⊥
  unknown_long given is found none =
      let wrong : word_fault (shape form name) [] false waiting word (held rows pending) ≡ kind.UnknownArgument ∷ [] =
      long_is given is ∙ ap (λ (o : Option Rule). long_fault (rules form) false o given (held rows pending)) found in
      let first = or_first (word_fault (shape form name) [] false waiting word (held rows pending)) _ none in
      cc

-- a bundle of short options, of which there are none
pub unknown_short : (form : Form) (name : Text) (waiting : Waiting) (position : ℕ) (word flags : Text) (rows : List Row) (pending : Option (Text × List Text))
    → IsSpelled word → long_of word ≡ None → short_of word ≡ Some flags → bytes_eq word (codes "--") ≡ false
    → turn_fault (shape form name) [] (at waiting position false (held rows pending)) word ≡ [] → ⊥
unfolding flags_fault
unknown_short form name waiting position word flags rows pending spelled no_long short double none =
    let begun = spelled flags short in
    let bundle : word_fault (shape form name) [] false waiting word (held rows pending) ≡ bundle_fault (rules form) false flags (held rows pending) =
    rw (no_sub waiting word, double, no_long, short) refl in
    let wrong : bundle_fault (rules form) false flags (held rows pending) ≡ kind.UnknownArgument ∷ [] =
    rw (begun.2, begun.3, by_short form begun.1) refl in
    let first = or_first (word_fault (shape form name) [] false waiting word (held rows pending)) _ none in
    cc

-- the value of an option that waits for it
pub fault_value : (form : Form) (name : Text) (flag : Flag) (position : ℕ) (word : Text) (h : Held) → IsPlainWord word
    → turn_fault (shape form name) [] (at (option (flag_name flag)) position false h) word ≡ []
fault_value form name flag position word h e = rw (e.2, e.0, e.1) refl

pub to_value : (form : Form) (flag : Flag) (position : ℕ) (word : Text) (rows : List Row) → takes_flags form ≡ true → IsPlainWord word
    → walked (rules form) [] (at (option (flag_name flag)) position false (held rows (Some (flag_name flag, [])))) word
    ≡ at idle position false (held rows (Some (flag_name flag, word ∷ [])))
unfolding walked
to_value Planned Steps position word rows takes e = rw (e.2, e.0, e.1) refl
to_value Planned Tokens position word rows takes e = rw (e.2, e.0, e.1) refl
to_value Single flag position word rows takes e = absurd (true≢false (sym takes))
to_value Double flag position word rows takes e = absurd (true≢false (sym takes))

-- `--`
pub fault_ends : (form : Form) (name : Text) (waiting : Waiting) (position : ℕ) (word : Text) (h : Held) → bytes_eq word (codes "--") ≡ true
    → turn_fault (shape form name) [] (at waiting position false h) word ≡ []
fault_ends form name waiting position word h e = rw (no_sub waiting word, e) refl

pub to_ends : (form : Form) (waiting : Waiting) (position : ℕ) (word : Text) (h : Held) → bytes_eq word (codes "--") ≡ true
    → walked (rules form) [] (at waiting position false h) word ≡ at waiting position true h
unfolding walked
to_ends form waiting position word h e = rw (no_sub waiting word, e) refl

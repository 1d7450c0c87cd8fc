-- What the commands take, from the fault that `clap` finds.
use Rattle.std.proofs.Common.{◌≡◌, ◌∙◌, ◌<◌, ◌≤◌, ◌+◌, ◌==◌, ℕ, Bool, cond, true, false, zero, suc, refl, sym, ap, subst, arith, List, [], ◌∷◌, ◌++◌, map, length, drop, Option, Some, None, true≢false, codes}
use Rattle.std.specs.Prelude.{slice_get, option_and_then, option_map}
use Rattle.std.specs.Borrow.{Bor}
use Rattle.std.specs.List.{All}
use Rattle.std.specs.Str.{IsUtf8, chars}
use Rattle.std.proofs.lemmas.Bool.{eqb-true}
use Rattle.std.proofs.lemmas.List.Elements.{All-get_or, All-drop}
use Rattle.std.proofs.lemmas.Str.{IsUtf8-drop, IsCharBoundary-after_ascii, encodes-chars}
use lib.Utf8.{encodes}
use Rattle.clap.specs.Lexer.{short_of, short_of_rest}
use Rattle.clap.specs.Walk.{Row, Text, first_of, idle, nothing_held, rows_after}
use Rattle.clap.specs.Simple.{App, built, matches_of, names_of}
use Rattle.clap.specs.Faults.{built_fault, fault_of}
use Rattle.clap.proofs.FaultLemmas.{leaf_fault}
use Rattle.run_words.specs.Commands.{Form, Single, Double, Planned, app_for}
use Rattle.run_words.specs.Words.{Parts, no_parts, Divides, HasOperands, HasPlanWords}
use Rattle.run_words.proofs.Reading.{divides, reads, reading}
use Rattle.run_words.proofs.Rules.{Holds, built_is, row, rules, seen, shape}
use Rattle.run_words.proofs.Turns.{AreSpelled, IsSpelled, at, count, held, rows_end, takes_flags, whole}
use Rattle.run_words.proofs.Taking.{Fits, Once, Ready, reads_all}

-- ---- words are spelled

chars_begin : (x : ℕ) (xs : Text) → IsUtf8 (x ∷ xs) → (first : ℕ) × (slice_get (chars (x ∷ xs)) 0 ≡ Some first)
chars_begin x xs u = go (chars (x ∷ xs)) refl
  where
    go : (cs : List ℕ) → chars (x ∷ xs) ≡ cs → (first : ℕ) × (slice_get (chars (x ∷ xs)) 0 ≡ Some first)
    go [] e = let empty : [] ≡ x ∷ xs = ap encodes (sym e) ∙ encodes-chars (x ∷ xs) u in cc
    go (c ∷ cs) e = (c, ap (λ (l : List ℕ). slice_get l 0) e)

pub spelled : (word : Text) → IsUtf8 word → IsSpelled word
spelled [] u = λ flags e. cc
spelled (x ∷ xs) u = λ flags e. go (x == 45) refl xs refl flags e
  where
    behind : (ys : Text) → x ≡ 45 → xs ≡ ys → IsUtf8 ys
    behind ys is same = subst IsUtf8 same (IsUtf8-drop (x ∷ xs) 1 u (IsCharBoundary-after_ascii (x ∷ xs) 0 u (omega arith) (omega (arith, is))))

    short : (ys : Text) → x ≡ 45 → xs ≡ ys → (flags : Text) → short_of_rest ys ≡ Some flags → (k first : ℕ) × (length flags ≡ suc k) × (slice_get (chars flags) 0 ≡ Some first)
    short [] is same flags e = cc
    short (y ∷ ys) is same flags e = dashed (y == 45) e
      where
        dashed : (b : Bool) → cond b None (Some (y ∷ ys)) ≡ Some flags → (k first : ℕ) × (length flags ≡ suc k) × (slice_get (chars flags) 0 ≡ Some first)
        dashed true h = cc
        dashed false h =
            let first = chars_begin y ys (behind (y ∷ ys) is same) in
            let whole : y ∷ ys ≡ flags = ap (λ (o : Option Text). option_and_get o) h in
            (length ys, first.0, ap length (sym whole), ap (λ (l : Text). slice_get (chars l) 0) (sym whole) ∙ first.1)
          where
            option_and_get : Option Text → Text
            option_and_get None = []
            option_and_get (Some t) = t

    go : (b : Bool) → (x == 45) ≡ b → (ys : Text) → xs ≡ ys → (flags : Text) → short_of (x ∷ xs) ≡ Some flags
        → (k first : ℕ) × (length flags ≡ suc k) × (slice_get (chars flags) 0 ≡ Some first)
    go true e ys same flags s =
        let is : x ≡ 45 = eqb-true x 45 e in
        let begins : short_of (x ∷ xs) ≡ short_of_rest xs = rw (e) refl in
        short xs is refl flags (sym begins ∙ s)
    go false e ys same flags s = let none : short_of (x ∷ xs) ≡ None = rw (e) refl in cc

pub all_spelled : (words : List (Bor Text)) → All (λ word. IsUtf8 word.now) words → AreSpelled (map (λ word. word.now) words)
all_spelled [] all = tt
all_spelled (word ∷ rest) all =
    (spelled word.now (All-get_or (λ w. IsUtf8 w.now) (word ∷ rest) 0 word (omega arith) all), all_spelled rest (All-drop (λ w. IsUtf8 w.now) 1 (word ∷ rest) all))

-- ---- the whole parse

fault_is : (form : Form) (name : Text) (words : List Text) → fault_of (app_for form name) words ≡ whole form name (at idle 1 false (held [] None)) words
fault_is form name words = ap (λ (a : App). built_fault a nothing_held words) (built_is form name)
    ∙ leaf_fault (record { top = shape form name; subs = [] }) nothing_held words refl

rows_are : (form : Form) (name : Text) (words : List Text) → matches_of (app_for form name) words ≡ rows_end form (at idle 1 false (held [] None)) words
rows_are form name words = ap (λ (a : App). rows_after a.top.rules (names_of a) words) (built_is form name)

few_none : (form : Form) → 0 ≤ count form
few_none form = omega arith

begun : (form : Form) → Ready form [] None [] None None
begun form = record {
  clean = refl;
  holds = record { steps_row = refl; tokens_row = refl; first_row = refl; second_row = refl };
  few = few_none form;
}

pub taken_parts : (form : Form) (name : Text) (words : List Text) → AreSpelled words → fault_of (app_for form name) words ≡ []
    → (parts : Parts) × Divides None words parts × Fits form [] None None parts × Holds (matches_of (app_for form name) words) parts.operands parts.steps parts.tokens
taken_parts form name words all none =
    let ends = (reads_all form name words all).0 [] None None [] None (begun form) in
    let found = ends.sound (sym (fault_is form name words) ∙ none) in (
      found.0,
      divides None words found.0 found.1,
      found.2,
      subst (λ (rows : List Row). Holds rows found.0.operands found.0.steps found.0.tokens) (sym (rows_are form name words)) found.3,
    )

pub takes_parts : (form : Form) (name : Text) (words : List Text) → AreSpelled words → (parts : Parts) → Divides None words parts → Fits form [] None None parts
    → fault_of (app_for form name) words ≡ []
takes_parts form name words all parts d fits =
    let ends = (reads_all form name words all).0 [] None None [] None (begun form) in
    fault_is form name words ∙ ends.complete parts (reads None words parts d) fits

-- ---- one operand, two operands, a plan's words

no_flag : (form : Form) (o : Option Text) → takes_flags form ≡ false → Once form None o → o ≡ None
no_flag form None not_taken once = refl
no_flag form (Some v) not_taken once = absurd (true≢false (sym once.0 ∙ not_taken))

first_is : (rows : List Row) (operands : List Text) (steps tokens : Option Text) (value : Text) → Holds rows operands steps tokens → slice_get operands 0 ≡ Some value
    → first_of (codes "first") rows ≡ Some value
first_is rows operands steps tokens value h is =
    ap (option_and_then (λ (r : Row). slice_get r.values 0)) (h.first_row ∙ ap (option_map (row (codes "first"))) is)

second_is : (rows : List Row) (operands : List Text) (steps tokens : Option Text) (value : Text) → Holds rows operands steps tokens → slice_get operands 1 ≡ Some value
    → first_of (codes "second") rows ≡ Some value
second_is rows operands steps tokens value h is =
    ap (option_and_then (λ (r : Row). slice_get r.values 0)) (h.second_row ∙ ap (option_map (row (codes "second"))) is)

of_row : (id : Text) (o : Option Text) → option_and_then (λ (r : Row). slice_get r.values 0) (option_map (row id) o) ≡ o
of_row id None = refl
of_row id (Some v) = refl

one_of : (operands : List Text) → length operands ≡ 1 → (value : Text) × (operands ≡ value ∷ [])
one_of [] e = absurd (omega (arith, e))
one_of (x ∷ []) e = (x, refl)
one_of (x ∷ y ∷ more) e = absurd (omega (arith, e))

two_of : (operands : List Text) → length operands ≡ 2 → (one other : Text) × (operands ≡ one ∷ other ∷ [])
two_of [] e = absurd (omega (arith, e))
two_of (x ∷ []) e = absurd (omega (arith, e))
two_of (x ∷ y ∷ []) e = (x, y, refl)
two_of (x ∷ y ∷ z ∷ more) e = absurd (omega (arith, e))

as_parts : (words : List Text) (parts : Parts) (operands : List Text) (steps tokens : Option Text) → parts.operands ≡ operands → parts.steps ≡ steps → parts.tokens ≡ tokens
    → Divides None words parts → Divides None words (record { operands = operands; steps = steps; tokens = tokens })
as_parts words parts operands steps tokens o s t d =
    subst (λ (x : Option Text). Divides None words (record { operands = operands; steps = steps; tokens = x })) t
    (subst (λ (x : Option Text). Divides None words (record { operands = operands; steps = x; tokens = parts.tokens })) s
    (subst (λ (x : List Text). Divides None words (record { operands = x; steps = parts.steps; tokens = parts.tokens })) o d))

pub single_taken : (name : Text) (words : List Text) → AreSpelled words → fault_of (app_for Single name) words ≡ []
    → (value : Text) × HasOperands words (value ∷ []) × (first_of (codes "first") (matches_of (app_for Single name) words) ≡ Some value)
single_taken name words all none =
    let found = taken_parts Single name words all none in
    let parts = found.0 in
    let fits = found.2 in
    let number = fits.number in
    let one = one_of parts.operands (omega (arith, number)) in (
      one.0,
      as_parts words parts (one.0 ∷ []) None None one.1 (no_flag Single parts.steps refl fits.steps_once) (no_flag Single parts.tokens refl fits.tokens_once) found.1,
      first_is (matches_of (app_for Single name) words) parts.operands parts.steps parts.tokens one.0 found.3 (ap (λ (l : List Text). slice_get l 0) one.1),
    )

pub takes_single : (name : Text) (words : List Text) → AreSpelled words → (value : Text) → HasOperands words (value ∷ []) → fault_of (app_for Single name) words ≡ []
takes_single name words all value d =
    takes_parts Single name words all (record { operands = value ∷ []; steps = None; tokens = None }) d (record { number = refl; steps_once = tt; tokens_once = tt })

pub double_taken : (name : Text) (words : List Text) → AreSpelled words → fault_of (app_for Double name) words ≡ []
    → (one other : Text) × HasOperands words (one ∷ other ∷ []) × (first_of (codes "first") (matches_of (app_for Double name) words) ≡ Some one)
    × (first_of (codes "second") (matches_of (app_for Double name) words) ≡ Some other)
double_taken name words all none =
    let found = taken_parts Double name words all none in
    let parts = found.0 in
    let fits = found.2 in
    let number = fits.number in
    let two = two_of parts.operands (omega (arith, number)) in (
      two.0,
      two.1,
      as_parts words parts (two.0 ∷ two.1 ∷ []) None None two.2 (no_flag Double parts.steps refl fits.steps_once) (no_flag Double parts.tokens refl fits.tokens_once) found.1,
      first_is (matches_of (app_for Double name) words) parts.operands parts.steps parts.tokens two.0 found.3 (ap (λ (l : List Text). slice_get l 0) two.2),
      second_is (matches_of (app_for Double name) words) parts.operands parts.steps parts.tokens two.1 found.3 (ap (λ (l : List Text). slice_get l 1) two.2),
    )

pub takes_double : (name : Text) (words : List Text) → AreSpelled words → (one other : Text) → HasOperands words (one ∷ other ∷ []) → fault_of (app_for Double name) words ≡ []
takes_double name words all one other d =
    takes_parts Double name words all (record { operands = one ∷ other ∷ []; steps = None; tokens = None }) d (record { number = refl; steps_once = tt; tokens_once = tt })

pub plan_taken : (name : Text) (words : List Text) → AreSpelled words → fault_of (app_for Planned name) words ≡ []
    → (value : Text) × (steps : Option Text) × (tokens : Option Text) × HasPlanWords words value steps tokens × (first_of (codes "first") (matches_of (app_for Planned name) words) ≡ Some value)
    × (first_of (codes "steps") (matches_of (app_for Planned name) words) ≡ steps) × (first_of (codes "tokens") (matches_of (app_for Planned name) words) ≡ tokens)
plan_taken name words all none =
    let found = taken_parts Planned name words all none in
    let parts = found.0 in
    let fits = found.2 in
    let number = fits.number in
    let one = one_of parts.operands (omega (arith, number)) in
    let rows = matches_of (app_for Planned name) words in (
      one.0,
      parts.steps,
      parts.tokens,
      as_parts words parts (one.0 ∷ []) parts.steps parts.tokens one.1 refl refl found.1,
      first_is rows parts.operands parts.steps parts.tokens one.0 found.3 (ap (λ (l : List Text). slice_get l 0) one.1),
      ap (option_and_then (λ (r : Row). slice_get r.values 0)) found.3.steps_row ∙ of_row (codes "steps") parts.steps,
      ap (option_and_then (λ (r : Row). slice_get r.values 0)) found.3.tokens_row ∙ of_row (codes "tokens") parts.tokens,
    )

once_free : (o : Option Text) → Once Planned None o
once_free None = tt
once_free (Some v) = (refl, refl)

pub takes_plan : (name : Text) (words : List Text) → AreSpelled words → (value : Text) (steps tokens : Option Text) → HasPlanWords words value steps tokens
    → fault_of (app_for Planned name) words ≡ []
takes_plan name words all value steps tokens d =
    takes_parts Planned name words all (record { operands = value ∷ []; steps = steps; tokens = tokens }) d
    (record { number = refl; steps_once = once_free steps; tokens_once = once_free tokens })

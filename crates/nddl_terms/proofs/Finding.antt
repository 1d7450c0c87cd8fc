-- What is read at a place, found by halves.
use Rattle.std.proofs.Common.{◌≡◌, ℕ, ◌-◌, ◌<◌, List, [], ◌∷◌, ◌++◌, length, get_or, take, drop, sym, ◌∙◌, ap, subst, arith}
use Rattle.std.specs.Prelude.{Some, None, slice_get}
use Rattle.std.proofs.Math.Seq.{get_or-append_seam}
use Rattle.std.proofs.lemmas.List.{length-append, length-drop, take_all, take-append-drop}
use Rattle.model_core.proofs.Distinct.{pairs_back}
use Rattle.nddl_terms.specs.declared.tree.ReadName.{ReadName}
use Rattle.nddl_terms.specs.Names.{AreReadInOrder, name_read_at}

later : (read : ReadName) (more : List ReadName) → AreReadInOrder (read ∷ more) → AreReadInOrder more
later read more ordered = pairs_back (λ one other. one.at < other.at) (read ∷ []) more ordered

-- the first comes before one that stands behind others
first_before : (first : ReadName) (front : List ReadName) (read : ReadName) (rest : List ReadName)
    → AreReadInOrder (first ∷ (front ++ read ∷ rest)) → first.at < read.at
first_before first front read rest ordered =
    let seam : get_or ((first ∷ front) ++ read ∷ rest) (length (first ∷ front)) first ≡ read =
    get_or-append_seam (first ∷ front) read rest first in
    let below : 0 < length (first ∷ front) = omega arith in
    let within : length (first ∷ front) < length ((first ∷ front) ++ read ∷ rest) =
    omega (arith, length-append (first ∷ front) (read ∷ rest)) in
    rw seam at (ordered 0 (length (first ∷ front)) first below within)

-- what isn't read there is passed over
passed_over : (at : ℕ) (read : ReadName) (more : List ReadName) → (read.at ≡ at → ⊥) → name_read_at at (read ∷ more) ≡ name_read_at at more
passed_over at read more other = grind arith

-- what is read there is found
found_there : (at : ℕ) (read : ReadName) (more : List ReadName) → read.at ≡ at → name_read_at at (read ∷ more) ≡ Some read.meaning
found_there at read more is = grind arith

-- nothing is read there, if that is before all of these
none_before : (at : ℕ) (read : ReadName) (more : List ReadName) → AreReadInOrder (read ∷ more) → at < read.at → name_read_at at (read ∷ more) ≡ None
none_before at read [] ordered before = passed_over at read [] (λ same. omega (arith, same, before))
none_before at read (next ∷ more) ordered before =
    let onward = first_before read [] next more ordered in
    passed_over at read (next ∷ more) (λ same. omega (arith, same, before))
    ∙ none_before at next more (later read (next ∷ more) ordered) (omega (arith, onward, before))

pub at_middle : (at : ℕ) (front : List ReadName) (read : ReadName) (rest : List ReadName) → AreReadInOrder (front ++ read ∷ rest)
    → read.at ≡ at → name_read_at at (front ++ read ∷ rest) ≡ Some read.meaning
at_middle at [] read rest ordered is = found_there at read rest is
at_middle at (first ∷ front) read rest ordered is =
    let before = first_before first front read rest ordered in
    passed_over at first (front ++ read ∷ rest) (λ same. omega (arith, same, is, before))
    ∙ at_middle at front read rest (later first (front ++ read ∷ rest) ordered) is

pub in_front : (at : ℕ) (front : List ReadName) (read : ReadName) (rest : List ReadName) → AreReadInOrder (front ++ read ∷ rest)
    → at < read.at → name_read_at at (front ++ read ∷ rest) ≡ name_read_at at front
in_front at [] read rest ordered before = none_before at read rest ordered before
in_front at (first ∷ front) read rest ordered before =
    let onward = in_front at front read rest (later first (front ++ read ∷ rest) ordered) before in grind (arith, onward)

pub behind : (at : ℕ) (front : List ReadName) (read : ReadName) (rest : List ReadName) → AreReadInOrder (front ++ read ∷ rest)
    → read.at < at → name_read_at at (front ++ read ∷ rest) ≡ name_read_at at rest
behind at [] read rest ordered after = passed_over at read rest (λ same. omega (arith, same, after))
behind at (first ∷ front) read rest ordered after =
    let before = first_before first front read rest ordered in
    passed_over at first (front ++ read ∷ rest) (λ same. omega (arith, same, before, after))
    ∙ behind at front read rest (later first (front ++ read ∷ rest) ordered) after

-- ---- halves

-- the first of a list, and what is behind it
first_and_rest : (names : List ReadName) (read : ReadName) → Some read ≡ slice_get names 0 → names ≡ read ∷ drop 1 names
first_and_rest [] read is = absurd (cc)
first_and_rest (first ∷ more) read is = grind (arith, is)

-- a list is its first part, then the first of the rest, and what is behind it
halves : (names front back : List ReadName) (middle : ℕ) (read : ReadName) → front ≡ take middle names → back ≡ drop middle names
    → Some read ≡ slice_get back 0 → names ≡ front ++ read ∷ drop 1 back
halves names front back middle read front_is back_is first =
    sym (take-append-drop middle names)
    ∙ (ap (λ part. part ++ drop middle names) (sym front_is)
    ∙ ap (λ part. front ++ part) (sym back_is ∙ first_and_rest back read first))

pub found_here : (names front back : List ReadName) (middle at : ℕ) (read : ReadName) → AreReadInOrder names
    → front ≡ take middle names → back ≡ drop middle names → Some read ≡ slice_get back 0
    → read.at ≡ at → Some read.meaning ≡ name_read_at at names
found_here names front back middle at read ordered front_is back_is first here =
    let whole = halves names front back middle read front_is back_is first in
    sym (ap (name_read_at at) whole ∙ at_middle at front read (drop 1 back) (subst AreReadInOrder whole ordered) here)

pub found_in_front : (names front back : List ReadName) (middle at : ℕ) (read : ReadName) → AreReadInOrder names
    → front ≡ take middle names → back ≡ drop middle names → Some read ≡ slice_get back 0
    → at < read.at → name_read_at at front ≡ name_read_at at names
found_in_front names front back middle at read ordered front_is back_is first before =
    let whole = halves names front back middle read front_is back_is first in
    sym (ap (name_read_at at) whole ∙ in_front at front read (drop 1 back) (subst AreReadInOrder whole ordered) before)

-- a slice from its second item on
from_second : (back : List ReadName) → take (length back - 1) (drop 1 back) ≡ drop 1 back
from_second back = take_all (length back - 1) (drop 1 back) (omega (arith, length-drop 1 back))

pub found_behind : (names front back : List ReadName) (middle at : ℕ) (read : ReadName) → AreReadInOrder names
    → front ≡ take middle names → back ≡ drop middle names → Some read ≡ slice_get back 0
    → read.at < at → name_read_at at (take (length back - 1) (drop 1 back)) ≡ name_read_at at names
found_behind names front back middle at read ordered front_is back_is first after =
    let whole = halves names front back middle read front_is back_is first in
    ap (name_read_at at) (from_second back)
    ∙ sym (ap (name_read_at at) whole ∙ behind at front read (drop 1 back) (subst AreReadInOrder whole ordered) after)

-- Names from their labels to their ends.
use Rattle.std.proofs.Common.{◌≡◌, ℕ, ◌<◌, true, List, [], ◌∷◌, ◌++◌, take, drop, Ok, Err, All, IsTrue, refl, sym, ◌∙◌, ap, subst, inl, inr, arith}
use Rattle.std.specs.Char.{is_ascii_digit}
use Rattle.std.specs.Fmt.{decimal}
use Rattle.std.specs.List.{prefix_len}
use Rattle.std.proofs.lemmas.Bool.Decides.{nat_tests}
use Rattle.std.proofs.lemmas.List.{append-nil, take-append-drop}
use Rattle.std.proofs.lemmas.List.Elements.{All-cons, All-from_recursion, recursion_from_All}
use Rattle.eu_name.specs.declared.name.Step.{Step}
use Rattle.eu_name.specs.declared.name_text.NameText.{NameText}
use Rattle.eu_name.specs.declared.name_text.Tail.{Tail}
use Rattle.eu_name.specs.declared.name_text.NameFault.{NameFault}
use Rattle.eu_name.specs.declared.name_text.NameFault.TheVariants.{Syntax, Memory}
use Rattle.eu_name.specs.Word.{is_word_start, is_word_byte, IsName}
use Rattle.eu_name.specs.Spelling.{ending_text, name_spelling, IsStep, IsTail, IsNumbered, Spells, Reads}
use Rattle.eu_name.specs.Readers.{IsEnding, ReadsEnding}
use Rattle.eu_name.specs.Laws.{SpellsOneName, IsNameReadBack}
use Rattle.eu_name.proofs.Fronts.{Passes, Stops, is_prefix}
use Rattle.eu_name.proofs.Numbers.{number_passes}
use Rattle.eu_name.proofs.Endings.{same_endings}

-- ---- bytes of words and numbers

abbrev IsLow : ℕ → Type 0
IsLow byte = byte < 128

digit_is_low : (byte : ℕ) → IsTrue (is_ascii_digit byte) → byte < 128
digit_is_low byte is = grind (arith, nat_tests)

start_is_byte : (byte : ℕ) → IsTrue (is_word_start byte) → IsTrue (is_word_byte byte)
start_is_byte byte is = rw is refl

low_number : (n : ℕ) → n < 65536 → All (λ byte. byte < 128) (decimal n)
low_number n small = let digits = All-from_recursion (λ byte. IsTrue (is_ascii_digit byte)) (decimal n) (number_passes n small) in λ k d in_digits. digit_is_low _ (digits k d in_digits)

-- and so are `!` and a number
pub numbered_is_low : (text : List ℕ) → IsNumbered text → All (λ byte. byte < 128) text
numbered_is_low text is = rw is.2 (All-cons IsLow 33 (decimal is.0) (omega arith) (low_number is.0 is.1))

name_passes : (name : List ℕ) → IsName name → Passes is_word_byte name
name_passes [] is = absurd is.0
name_passes (first ∷ rest) is = (start_is_byte first is.0.0, recursion_from_All (λ byte. IsTrue (is_word_byte byte)) rest is.0.1)

-- no ending goes on a word
ending_stops : (steps : List Step) (tail : Tail) → Stops is_word_byte (ending_text steps tail)
ending_stops [] Tail.None = tt
ending_stops [] (Tail.Part part) = refl
ending_stops [] (Tail.Local rule number) = refl
ending_stops (step ∷ steps) tail = refl

-- ---- a label and an ending

-- what a text is that spells a name with a label that is a name
record IsLabelled (text : List ℕ) (name : NameText) : Type 0 where
  named : IsName name.label
  front : take (prefix_len is_word_byte text) text ≡ name.label
  ending : IsEnding (drop (prefix_len is_word_byte text) text) name.steps name.tail

labelled : (text : List ℕ) (name : NameText) → IsName name.label → All IsStep name.steps → IsTail name.tail → text ≡ name_spelling name → IsLabelled text name
labelled text name named steps tail whole =
    let parts = is_prefix is_word_byte text name.label (ending_text name.steps name.tail) (name_passes name.label named) (ending_stops name.steps name.tail) whole in
    record { named = named; front = parts.0; ending = record { small = steps; tailed = tail; whole = parts.1 } }

-- and one that is `!` and a number
bare : (text : List ℕ) (name : NameText) → name.steps ≡ [] → name.tail ≡ Tail.None → text ≡ name_spelling name → text ≡ name.label
bare text name steps tail whole = whole ∙ rw (steps, tail) (append-nil name.label)

-- what a text is that spells a name, and is no number after `!`
spelled : (text : List ℕ) (name : NameText) → (IsNumbered text → ⊥) → Spells text name → IsLabelled text name
spelled text name other (inl named, whole) = labelled text name named.0 named.1 named.2 whole
spelled text name other (inr numbered, whole) = absurd (other (subst IsNumbered (sym (bare text name numbered.1 numbered.2 whole)) numbered.0))

-- ---- what is read

-- no name is at the front
pub no_label : (text front : List ℕ) (len : ℕ) → len ≡ prefix_len is_word_byte text → front ≡ take len text → (IsNumbered text → ⊥) → (IsName front → ⊥) → (name : NameText) → Spells text name → ⊥
no_label text front len is cut other none name spells =
    let found = spelled text name other spells in
    none (subst IsName (sym (cut ∙ (ap (λ n. take n text) is ∙ found.front))) found.named)

pub name_spells : (text front ending : List ℕ) (len : ℕ) (name : NameText) → front ≡ take len text → ending ≡ drop len text → IsName front → name.label ≡ front → IsEnding ending name.steps name.tail → Spells text name
name_spells text front ending len name cut rest named label is = (
  inl (subst IsName (sym label) named, is.small, is.tailed),
  sym (take-append-drop len text) ∙ rw (← cut, ← rest, label, is.whole) refl,
)

-- a name and an ending are the spelling of some name
pub found_name : (text front ending : List ℕ) (len : ℕ) → front ≡ take len text → ending ≡ drop len text → IsName front → (steps : List Step) (tail : Tail) → IsEnding ending steps tail → (name : NameText) × Spells text name
found_name text front ending len cut rest named steps tail is =
    let name : NameText = record { label = front; steps = steps; tail = tail } in
    (name, name_spells text front ending len name cut rest named refl is)

-- the fault of an ending is that of the name
pub name_fault : (text front ending : List ℕ) (len : ℕ) → len ≡ prefix_len is_word_byte text → front ≡ take len text → ending ≡ drop len text → (IsNumbered text → ⊥) → IsName front → (fault : NameFault) → ReadsEnding ending (Err fault) → Reads text (Err fault)
name_fault text front ending len is cut rest other named Syntax none = λ name spells.
    let found = spelled text name other spells in
    none name.steps name.tail (subst (λ (bytes : List ℕ). IsEnding bytes name.steps name.tail) (sym (rest ∙ ap (λ n. drop n text) is)) found.ending)
name_fault text front ending len is cut rest other named Memory found =
    found_name text front ending len cut rest named found.0 found.1.0 found.1.1

-- `!` and a number are a name
pub numbered_spells : (text : List ℕ) → IsNumbered text → (name : NameText) × Spells text name
numbered_spells text is = (record { label = text; steps = []; tail = Tail.None }, (inr (is, refl, refl), sym (append-nil text)))

-- ---- one text, one name

starts_apart : (name : List ℕ) (rest : List ℕ) (number : List ℕ) → IsName name → IsNumbered number → name ++ rest ≡ number → ⊥
starts_apart [] rest number named numbered whole = named.0
starts_apart (first ∷ name) rest number named numbered whole =
    let same : first ∷ (name ++ rest) ≡ 33 ∷ decimal numbered.0 = whole ∙ numbered.2 in
    let firsts : first ≡ 33 = cc in
    let start : true ≡ is_word_start 33 = sym named.0.0 ∙ ap is_word_start firsts in
    cc

pub spells_one_name : SpellsOneName
spells_one_name text one other (inl p, whole) (inl q, whole') =
    let found = labelled text one p.0 p.1 p.2 whole in
    let found' = labelled text other q.0 q.1 q.2 whole' in
    let labels : one.label ≡ other.label = sym found.front ∙ found'.front in
    let endings = same_endings (drop (prefix_len is_word_byte text) text) one.steps other.steps one.tail other.tail found.ending found'.ending in
    λ i. record { label = labels i; steps = endings.0 i; tail = endings.1 i }
spells_one_name text one other (inl p, whole) (inr q, whole') =
    absurd (starts_apart one.label (ending_text one.steps one.tail) other.label p.0 q.0 (sym whole ∙ bare text other q.1 q.2 whole'))
spells_one_name text one other (inr p, whole) (inl q, whole') =
    absurd (starts_apart other.label (ending_text other.steps other.tail) one.label q.0 p.0 (sym whole' ∙ bare text one p.1 p.2 whole))
spells_one_name text one other (inr p, whole) (inr q, whole') =
    let labels : one.label ≡ other.label = sym (bare text one p.1 p.2 whole) ∙ bare text other q.1 q.2 whole' in
    let steps : one.steps ≡ other.steps = p.1 ∙ sym q.1 in
    let tails : one.tail ≡ other.tail = p.2 ∙ sym q.2 in
    λ i. record { label = labels i; steps = steps i; tail = tails i }

pub is_read_back : IsNameReadBack
is_read_back name (Ok other) is reads safe = ap Ok (spells_one_name (name_spelling name) other name reads (is, refl))
is_read_back name (Err Syntax) is reads safe = absurd (reads name (is, refl))
is_read_back name (Err Memory) is reads safe = absurd (safe refl)

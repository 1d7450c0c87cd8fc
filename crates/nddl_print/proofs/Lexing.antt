-- Words with a blank behind each are lexemes, and their symbols are the words.
use Rattle.std.proofs.Common.{◌≡◌, ℕ, ◌+◌, ◌-◌, true, Some, None, List, [], ◌∷◌, ◌++◌, length, take, drop, map, refl, sym, ap, subst, ◌∙◌, append_assoc, length-append, arith}
use Rattle.std.specs.Prelude.{slice_range, codes}
use Rattle.std.specs.List.{flat_map, join_by}
use Rattle.std.proofs.lemmas.List.{append-nil, take_at, drop_at}
use Rattle.nddl_lexer.specs.declared.kinds.Lexeme.{Lexeme}
use Rattle.nddl_lexer.specs.Bytes.{is_blank}
use Rattle.nddl_lexer.specs.Reading.{Piece, piece_of, Starts, Leads, lexemes_of, bytes_of}
use Rattle.nddl_lexer.proofs.Laws.{blanks_separate}
use Rattle.nddl_grammar.specs.Symbols.{PlainSymbol}
use Rattle.nddl_parser.specs.Symbols.{sort_of, KeepsBytes, HasValue, AreSymbols}
use Rattle.nddl_ast.specs.declared.declaration.Decl.{Decl}
use Rattle.nddl_print.specs.Words.{Word, text_of, line_of}
use Rattle.nddl_print.specs.Canonical.{◌⌢◌, many_words, decl_words, spelling_of}
use Rattle.nddl_print.proofs.Saying.{AreSound, Say}
use Rattle.nddl_print.proofs.Spelling.{word_spells}
use Rattle.nddl_print.proofs.Spaced.{line_is}
use Rattle.nddl_print.proofs.Some.{decl_some}

-- the text is the words, each with a blank behind it
abbrev pub IsSpread : List Word → List ℕ → Type 0
IsSpread [] text = text ≡ []
IsSpread (word ∷ words) text = (blank : ℕ) × (rest : List ℕ) × (is_blank blank ≡ true) × (text ≡ text_of word ++ blank ∷ rest) × IsSpread words rest

-- what is read of the text from the place on, within the whole
pub record IsReadAs (whole : List ℕ) (at : ℕ) (words : List Word) (text : List ℕ) : Type 0 where
  pub pieces : List Piece
  pub leads : Leads text pieces []
  pub symbols : List PlainSymbol
  pub read : AreSymbols whole (lexemes_of at pieces) symbols
  pub say : Say words symbols
  pub spelled : map (bytes_of whole) (lexemes_of at pieces) ≡ map text_of words

-- the bytes of a piece in what is before and after it
bytes_at : (before bytes after : List ℕ) (at : ℕ) → at ≡ length before → slice_range (before ++ (bytes ++ after)) at (at + length bytes) ≡ bytes
bytes_at before bytes after at place =
    let size : (at + length bytes) - at ≡ length bytes = omega arith in
    ap (λ (n : ℕ). take n (drop at (before ++ (bytes ++ after)))) size
    ∙ (ap (take (length bytes)) (drop_at before (bytes ++ after) at (sym place)) ∙ take_at bytes after (length bytes) refl)

pub reads : (whole before text : List ℕ) (at : ℕ) (words : List Word) → whole ≡ before ++ text → at ≡ length before → AreSound words → IsSpread words text → IsReadAs whole at words text
reads whole before text at [] is place sound none = record { pieces = []; leads = none; symbols = []; read = tt; say = refl; spelled = refl }
reads whole before text at (word ∷ words) is place sound (blank, rest, separates, split, spread) =
    let spells = word_spells word sound.0 in
    let bytes = text_of word in
    let kind = spells.kind in
    let lexeme : Lexeme = record { kind = kind; at = at; len = length bytes } in
    let symbol : PlainSymbol = record { sort = sort_of kind bytes; bytes = spells.kept; value = spells.value; at = at } in
    let behind = before ++ (bytes ++ blank ∷ []) in
    let there : whole ≡ before ++ (bytes ++ blank ∷ rest) = is ∙ ap (λ back. before ++ back) split in
    let more = reads whole behind rest ((at + length bytes) + length (blank ∷ [])) words
    (there ∙ (ap (λ back. before ++ back) (sym (append_assoc bytes (blank ∷ []) rest)) ∙ sym (append_assoc before (bytes ++ blank ∷ []) rest)))
    (omega (arith, length-append before (bytes ++ blank ∷ []), length-append bytes (blank ∷ []))) sound.1 spread in
    let own : bytes_of whole lexeme ≡ bytes = ap (λ text. slice_range text at (at + length bytes)) there ∙ bytes_at before bytes (blank ∷ rest) at place in
    record {
      pieces = piece_of (Some kind) bytes ∷ (piece_of None (blank ∷ []) ∷ more.pieces);
      leads = (
        blank ∷ rest,
        subst (λ text. Starts text (piece_of (Some kind) bytes) (blank ∷ rest)) (sym split) (blanks_separate.lexeme kind bytes blank rest spells.spelled separates),
        spells.in_range,
        (rest, blanks_separate.blank blank rest separates, tt, more.leads),
      );
      symbols = symbol ∷ more.symbols;
      read = (
        record {
          sort = ap (sort_of kind) (sym own);
          bytes = subst (λ text. KeepsBytes kind text spells.kept) (sym own) spells.keeps;
          value = subst (λ text. HasValue kind text spells.value) (sym own) spells.valued;
          at = refl;
        },
        more.read,
      );
      say = (symbol, more.symbols, refl, spells.says at, more.say);
      spelled = λ i. own i ∷ more.spelled i;
    }

-- ---- the canonical spelling

spread-append : (words more : List Word) (text rest : List ℕ) → IsSpread words text → IsSpread more rest → IsSpread (words ++ more) (text ++ rest)
spread-append [] more text rest none spread = subst (λ front. IsSpread more (front ++ rest)) (sym none) spread
spread-append (word ∷ words) more text rest (blank, left, separates, split, first) spread =
    (blank, left ++ rest, separates, ap (λ front. front ++ rest) split ∙ append_assoc (text_of word) (blank ∷ left) rest, spread-append words more left rest first spread)

spread_then : (words more : List Word) (text rest : List ℕ) → IsSpread words text → IsSpread more rest → IsSpread (words ⌢ more) (text ++ rest)
unfolding ◌⌢◌
spread_then words more text rest first spread = spread-append words more text rest first spread

joined_spread : (word : Word) (words : List Word) → IsSpread (word ∷ words) (join_by text_of (codes " ") (word ∷ words) ++ codes "\n")
joined_spread word [] = (10, [], refl, ap (λ front. front ++ codes "\n") (append-nil (text_of word)), refl)
joined_spread word (next ∷ words) = (
  32,
  join_by text_of (codes " ") (next ∷ words) ++ codes "\n",
  refl,
  append_assoc (text_of word) (flat_map (λ word. codes " " ++ text_of word) (next ∷ words)) (codes "\n"),
  joined_spread next words,
)

line_spread : (words : List Word) → (words ≡ [] → ⊥) → IsSpread words (line_of words)
line_spread [] some = absurd (some refl)
line_spread (word ∷ words) some = subst (IsSpread (word ∷ words)) (sym (line_is (word ∷ words))) (joined_spread word words)

pub spelling_spread : (tree : List Decl) → IsSpread (many_words decl_words tree) (spelling_of tree)
spelling_spread [] = refl
spelling_spread (decl ∷ tree) = spread_then (decl_words decl) (many_words decl_words tree) (line_of (decl_words decl)) (spelling_of tree) (line_spread (decl_words decl) (decl_some decl)) (spelling_spread tree)

-- The spelling of a tree is read back as the same tree.
use Rattle.std.proofs.Common.{◌≡◌, Ok, List, [], refl, sym, ap, subst, ◌∙◌}
use Rattle.nddl_lexer.specs.Reading.{lexemes_of}
use Rattle.nddl_lexer.proofs.Laws.{lie_in_order}
use Rattle.nddl_lexer.proofs.Outcomes.{one_reading}
use Rattle.nddl_ast.specs.declared.declaration.Decl.{Decl}
use Rattle.nddl_parser.specs.Derives.{Parses}
use Rattle.nddl_parser.specs.Grammar.{most_nested}
use Rattle.nddl_parser.proofs.OneTree.{one_outcome}
use Rattle.nddl_print.specs.Canonical.{many_words, decl_words, spelling_of}
use Rattle.nddl_print.specs.Laws.{IsReadable, PrintsAreReadBack, PrintsAreReadAsNoOther, SameTreesAreSpelledAlike, PrintsAreLasting}
use Rattle.nddl_print.proofs.Saying.{AreSound}
use Rattle.nddl_print.proofs.ReprintText.{text_reprints}
use Rattle.nddl_print.proofs.Fine.{symbols_fine}
use Rattle.nddl_print.proofs.Lexing.{reads, spelling_spread}
use Rattle.nddl_print.proofs.Shallow.{shallow_text}
use Rattle.nddl_print.proofs.Alike.{spelled_alike}

words_sound : (tree : List Decl) → IsReadable tree → AreSound (many_words decl_words tree)
words_sound tree readable =
    let symbols = readable.parses.symbols in
    (text_reprints tree).sound symbols (symbols_fine readable.text 0 readable.lexemes symbols (lie_in_order readable.text readable.lexemes readable.lexes) readable.parses.read) readable.parses.ends.0

pub read_back : PrintsAreReadBack
read_back tree readable =
    let text = spelling_of tree in
    let read = reads text [] text 0 (many_words decl_words tree) refl refl (words_sound tree readable) (spelling_spread tree) in
    let (other, derived, same) = (text_reprints tree).again readable.parses.symbols read.symbols readable.parses.ends.0 read.say in
    record {
      lexemes = lexemes_of 0 read.pieces;
      lexes = (read.pieces, read.leads, refl);
      spelled = read.spelled;
      other = other;
      parses = record { symbols = read.symbols; read = read.read; ends = (derived, shallow_text most_nested tree other same readable.parses.ends.1) };
      same = same;
    }

pub read_as_no_other : PrintsAreReadAsNoOther
read_as_no_other tree lexemes outcome readable lexes parses =
    let back = read_back tree readable in
    let text = spelling_of tree in
    let one : back.lexemes ≡ lexemes = one_reading text back.lexemes lexemes back.lexes lexes in
    (back.other, one_outcome text lexemes outcome (Ok back.other) lexes parses (subst (λ lexemes. Parses text lexemes (Ok back.other)) one back.parses), back.same)

pub spelled_as_same : SameTreesAreSpelledAlike
spelled_as_same = spelled_alike

pub lasting : PrintsAreLasting
lasting tree lexemes other readable lexes parses =
    let (found, is, same) = read_as_no_other tree lexemes (Ok other) readable lexes parses in
    let one : other ≡ found = cc in
    ap spelling_of one ∙ sym (spelled_alike tree found same)

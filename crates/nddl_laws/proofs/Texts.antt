-- What is so of texts that are read, and that files that a shelf gives have texts.
use Rattle.std.proofs.Common.{◌≡◌, ℕ, zero, suc, ◌+◌, ◌<◌, ◌≤◌, Bool, true, false, List, [], ◌∷◌, length, sym, subst, inl, inr, arith}
use Rattle.std.specs.Prelude.{Option, Ok, Err, MatchResult, MatchBool, All}
use Rattle.std.specs.List.{AllByRecursion}
use Rattle.std.proofs.lemmas.List.Elements.{All-nil, All-cons, All-append, All-from_recursion}
use Rattle.eu_io.specs.declared.shelf.FileEntry.{FileEntry}
use Rattle.nddl_ast.specs.declared.declaration.Decl.{Decl}
use Rattle.nddl_ast.specs.declared.declaration.FileDecls.{FileDecls}
use Rattle.nddl_lexer.proofs.Laws.{lie_in_order}
use Rattle.nddl_parser.specs.declared.include.Ask.{Ask}
use Rattle.nddl_parser.specs.declared.include.Include.{Include}
use Rattle.nddl_parser.specs.Includes.{includes_of, is_skipped, ask_in}
use Rattle.nddl_parser.specs.Limits.{deepest}
use Rattle.nddl_parser.specs.Outcomes.{FilesOutcome}
use Rattle.nddl_parser.specs.Visits.{Visit, Enters, FollowsIncludes, VisitsBy, Visits, first_ask, with_file}
use Rattle.nddl_parser.specs.Language.{ReadsAs}
use Rattle.nddl_laws.specs.Given.{AreGiven}
use Rattle.nddl_laws.specs.Nodes.{text_nodes}
use Rattle.nddl_laws.specs.Trees.{ReadsTrees, HasText}
use Rattle.nddl_symbols.proofs.Fills.{Pairs, pairs_all}
use Rattle.nddl_laws.proofs.Symbols.{fine_symbols, rising_symbols, Rise, places_of}
use Rattle.nddl_laws.proofs.Shows.{picks_rise, rise_few}
use Rattle.nddl_laws.proofs.Trees.{text_shows}

-- ---- texts

above : (from end : ℕ) (nodes : List ℕ) (least : ℕ) → least < from → Rise from end nodes → AllByRecursion (λ node. least < node) nodes
above from end [] least less rise = tt
above from end (node ∷ nodes) least less rise =
    let low : from ≤ node = rise.0 in (omega arith, above (node + 1) end nodes least (omega arith) rise.2)

pub rise_pairs : (from end : ℕ) (nodes : List ℕ) → Rise from end nodes → Pairs (λ one other. one < other) nodes
rise_pairs from end [] rise = tt
rise_pairs from end (node ∷ nodes) rise = (above (node + 1) end nodes node (omega arith) rise.2, rise_pairs (node + 1) end nodes rise.2)

pub rise_inside : (from end : ℕ) (nodes : List ℕ) → Rise from end nodes → AllByRecursion (λ node. node < end) nodes
rise_inside from end [] rise = tt
rise_inside from end (node ∷ nodes) rise = (rise.1, rise_inside (node + 1) end nodes rise.2)

pub text_rises : (text : List ℕ) (decls : List Decl) → ReadsAs text (Ok decls) → Rise 0 (length text) (text_nodes decls)
text_rises text decls reads =
    let parses = reads.2 in
    picks_rise 0 (length text) (text_nodes decls) (places_of parses.symbols) ((text_shows decls).shown parses.symbols parses.ends.0).1
    (rising_symbols text 0 reads.0 parses.symbols (lie_in_order text reads.0 reads.1) parses.read)

pub reads_trees : ReadsTrees
reads_trees = λ text decls reads.
    let parses = reads.2 in
    let nodes = text_nodes decls in
    let rise = text_rises text decls reads in
    record {
      fine = ((text_shows decls).shown parses.symbols parses.ends.0).0 (fine_symbols text 0 reads.0 parses.symbols (lie_in_order text reads.0 reads.1) parses.read);
      rising = pairs_all (λ one other. one < other) nodes (rise_pairs 0 (length text) nodes rise);
      inside = All-from_recursion (λ node. node < length text) nodes (rise_inside 0 (length text) nodes rise);
      few = let n = rise_few 0 (length text) nodes (omega arith) rise in omega arith;
    }

-- ---- files

abbrev HaveTexts : List FileDecls → Type 0
HaveTexts files = All (λ file. HasText file.decls) files

abbrev IsTexting : Visit → Type 0
IsTexting visit = (ask : Ask) (read out : List FileDecls) → HaveTexts read → visit ask read (Ok out) → HaveTexts out

entered_texts : (visit : Visit) → IsTexting visit → IsTexting (Enters visit)
entered_texts visit texts ask read out have (inl p) = texts ask read out have p.1
entered_texts visit texts ask read out have (inr p) = absurd (let never = p.1 in cc)

met_texts : (visit : Visit) → IsTexting visit → (file : List ℕ) (includes : List Include) (ask : Ask) (read out : List FileDecls) → HaveTexts read
    → ((between : List FileDecls) → HaveTexts between → FollowsIncludes visit file includes between (Ok out) → HaveTexts out)
    → (met : FilesOutcome) → Enters visit ask read met
    → MatchResult met (λ between. FollowsIncludes visit file includes between (Ok out)) (λ fault. Ok out ≡ Err fault) → HaveTexts out
met_texts visit texts file includes ask read out have rest (Ok between) enters follows = rest between (entered_texts visit texts ask read between have enters) follows
met_texts visit texts file includes ask read out have rest (Err fault) enters never = absurd (let never' : ⊥ = cc in never')

step_texts : (visit : Visit) → IsTexting visit → (file : List ℕ) (includes : List Include) (ask : Ask) (read out : List FileDecls) → HaveTexts read
    → ((between : List FileDecls) → HaveTexts between → FollowsIncludes visit file includes between (Ok out) → HaveTexts out)
    → (skipped : Bool) → MatchBool skipped (FollowsIncludes visit file includes read (Ok out)) ((met : FilesOutcome) × Enters visit ask read met
    × MatchResult met (λ between. FollowsIncludes visit file includes between (Ok out)) (λ fault. Ok out ≡ Err fault)) → HaveTexts out
step_texts visit texts file includes ask read out have rest true follows = rest read have follows
step_texts visit texts file includes ask read out have rest false step = met_texts visit texts file includes ask read out have rest step.0 step.1 step.2

follows_texts : (visit : Visit) → IsTexting visit → (file : List ℕ) (includes : List Include) (read out : List FileDecls) → HaveTexts read
    → FollowsIncludes visit file includes read (Ok out) → HaveTexts out
follows_texts visit texts file [] read out have is = let same : out ≡ read = cc in subst HaveTexts (sym same) have
follows_texts visit texts file (include ∷ includes) read out have follows =
    step_texts visit texts file includes (ask_in file include) read out have (λ between. follows_texts visit texts file includes between out)
    (is_skipped include.name read) follows

by_texts : (inner : Visit) → IsTexting inner → (shelf : Option (List FileEntry)) (levels : ℕ) → IsTexting (VisitsBy inner ReadsAs shelf levels)
by_texts inner texts shelf levels ask read out have (inl p) = absurd (let never = p.2 in cc)
by_texts inner texts shelf levels ask read out have (inr p) =
    let file : FileDecls = record { name = ask.name; decls = p.0 } in
    let text : HasText p.0 = record { text = p.1.0; short = p.1.1.1; read = p.1.2 } in
    follows_texts inner texts ask.name (includes_of p.0) (with_file read ask p.0) out
    (All-append (λ f. HasText f.decls) read (file ∷ []) have (All-cons (λ f. HasText f.decls) file [] text (All-nil (λ f. HasText f.decls)))) p.2

visit_texts : (shelf : Option (List FileEntry)) (levels : ℕ) → IsTexting (Visits ReadsAs shelf levels)
unfolding Visits
visit_texts shelf zero = by_texts (λ _ _ _. ⊥) (λ ask read out have never. absurd never) shelf zero
visit_texts shelf (suc levels) = by_texts (Visits ReadsAs shelf levels) (visit_texts shelf levels) shelf (suc levels)

pub given_texts : (files : List FileDecls) → AreGiven files → All (λ file. HasText file.decls) files
given_texts files given =
    visit_texts given.shelf (deepest + 1) (first_ask given.name) [] files (All-nil (λ f. HasText f.decls)) given.read

-- What a visit adds to the files that were read.
use Rattle.std.proofs.Common.{◌≡◌, ℕ, zero, suc, ◌+◌, ◌<◌, ◌≤◌, Bool, true, false, List, [], ◌∷◌, ◌++◌, length, get_or, refl, sym, ◌∙◌, ap, subst, inl, inr, arith, append_assoc, length-append}
use Rattle.std.specs.Prelude.{◌≢◌, ◌||◌, Option, Ok, Err, MatchResult, MatchBool, All, AllPairs, bytes_eq}
use Rattle.std.proofs.Math.Bool.{true-or}
use Rattle.std.proofs.lemmas.List.{append-nil}
use Rattle.std.proofs.lemmas.List.Elements.{All-nil, All-cons, All-append, All-weaker}
use Rattle.std.proofs.lemmas.List.Folds.{list_any-append, list_any_at}
use Rattle.std.proofs.lemmas.List.Quantifiers.{all_pairs_push}
use Rattle.std.proofs.lemmas.Slice.Eq.{bytes_eq-Decides}
use Rattle.eu_io.specs.declared.shelf.FileEntry.{FileEntry}
use Rattle.nddl_ast.specs.declared.declaration.Decl.{Decl}
use Rattle.nddl_ast.specs.declared.declaration.FileDecls.{FileDecls}
use Rattle.nddl_parser.specs.declared.include.Ask.{Ask}
use Rattle.nddl_parser.specs.declared.include.Include.{Include}
use Rattle.nddl_parser.specs.Includes.{includes_of, is_built_in, is_taken, is_skipped, ask_in}
use Rattle.nddl_parser.specs.Laws.{ReadsFiles}
use Rattle.nddl_parser.specs.Limits.{most_files, deepest}
use Rattle.nddl_parser.specs.Outcomes.{Reading, FilesOutcome}
use Rattle.nddl_parser.specs.Visits.{Visit, Enters, FollowsIncludes, VisitsBy, Visits, first_ask, with_file}

-- no two files have one name
abbrev pub AreDistinct : List FileDecls → Type 0
AreDistinct files = AllPairs (λ one other. one.name ≢ other.name) files

-- each of these includes names one of the files, or what is built in
abbrev pub AreSkipped : List FileDecls → List Include → Type 0
AreSkipped files includes = All (λ include. is_skipped include.name files ≡ true) includes

-- so does each include in these files
abbrev pub AreClosed : List FileDecls → List FileDecls → Type 0
AreClosed files some = All (λ file. AreSkipped files (includes_of file.decls)) some

-- files were added to those that were read
pub record Extends (read out : List FileDecls) : Type 0 where
  pub more : List FileDecls
  pub added : out ≡ read ++ more
  pub distinct : AreDistinct read → AreDistinct out
  pub few : length read ≤ most_files → length out ≤ most_files
  pub closed : AreClosed out more

-- a name is skipped if it was taken, and stays so
or_left : (a b c : Bool) → (a || b) ≡ true → (a || (b || c)) ≡ true
or_left true b c h = true-or (b || c)
or_left false true c h = refl
or_left false false c h = absurd (let never : ⊥ = cc in never)

or_right : (a b : Bool) → b ≡ true → (a || b) ≡ true
or_right true b h = refl
or_right false b h = h

skipped_more : (name : List ℕ) (read more out : List FileDecls) → out ≡ read ++ more → is_skipped name read ≡ true → is_skipped name out ≡ true
skipped_more name read more out is skipped =
    let taken : is_taken name out ≡ (is_taken name read || is_taken name more) =
    ap (is_taken name) is ∙ list_any-append (λ file. bytes_eq file.name name) read more in
    ap (λ b. is_built_in name || b) taken ∙ or_left (is_built_in name) (is_taken name read) (is_taken name more) skipped

skipped_all : (read more out : List FileDecls) (includes : List Include) → out ≡ read ++ more → AreSkipped read includes → AreSkipped out includes
skipped_all read more out includes is skipped =
    All-weaker (λ include. is_skipped include.name read ≡ true) (λ include. is_skipped include.name out ≡ true)
    (λ include. skipped_more include.name read more out is) includes skipped

closed_more : (read more out some : List FileDecls) → out ≡ read ++ more → AreClosed read some → AreClosed out some
closed_more read more out some is closed =
    All-weaker (λ file. AreSkipped read (includes_of file.decls)) (λ file. AreSkipped out (includes_of file.decls))
    (λ file. skipped_all read more out (includes_of file.decls) is) some closed

extends_none : (read out : List FileDecls) → out ≡ read → Extends read out
extends_none read out same = record {
  more = [];
  added = same ∙ sym (append-nil read);
  distinct = λ distinct. let P : List FileDecls → Type 0 = λ files. AreDistinct files in subst P (sym same) distinct;
  few = λ few. let n = ap length same in omega arith;
  closed = All-nil (λ file. AreSkipped out (includes_of file.decls));
}

extends_both : (read between out : List FileDecls) → Extends read between → Extends between out → Extends read out
extends_both read between out one other = record {
  more = one.more ++ other.more;
  added = other.added ∙ (ap (λ files. files ++ other.more) one.added ∙ append_assoc read one.more other.more);
  distinct = λ distinct. other.distinct (one.distinct distinct);
  few = λ few. other.few (one.few few);
  closed = All-append (λ file. AreSkipped out (includes_of file.decls)) one.more other.more
      (closed_more between other.more out one.more other.added one.closed) other.closed;
}

-- the name isn't that of a file before
other_name : (name : List ℕ) (read : List FileDecls) → is_taken name read ≡ false → (k : ℕ) (d : FileDecls) → k < length read → (get_or read k d).name ≢ name
other_name name read free k d within same =
    let found = list_any_at (λ file. bytes_eq file.name name) read k d within ((bytes_eq-Decides (get_or read k d).name name).1 same) in
    let never : true ≡ false = sym found ∙ free in
    cc

itself : (name : List ℕ) (read : List FileDecls) (decls : List Decl) (out more : List FileDecls) → out ≡ (read ++ record { name = name; decls = decls } ∷ []) ++ more → is_skipped name out ≡ true
itself name read decls out more is =
    let file : FileDecls = record { name = name; decls = decls } in
    let here : bytes_eq name name ≡ true = (bytes_eq-Decides name name).1 refl in
    let last : is_taken name (file ∷ []) ≡ true = ap (λ b. b || false) here in
    let taken : is_taken name (read ++ file ∷ []) ≡ true = list_any-append (λ one. bytes_eq one.name name) read (file ∷ []) ∙ or_right (is_taken name read) (is_taken name (file ∷ [])) last in
    skipped_more name (read ++ file ∷ []) more out is (or_right (is_built_in name) (is_taken name (read ++ file ∷ [])) taken)

-- a visit of a file of a new name adds files, and then its name is taken
abbrev pub IsAdding : Visit → Type 0
IsAdding visit = (ask : Ask) (read out : List FileDecls) → is_taken ask.name read ≡ false → visit ask read (Ok out) → Extends read out × (is_skipped ask.name out ≡ true)

second : (a b : Bool) → (a || b) ≡ false → b ≡ false
second true b free = absurd (let never : ⊥ = cc in never)
second false b is = is

free_name : (name : List ℕ) (read : List FileDecls) → is_skipped name read ≡ false → is_taken name read ≡ false
free_name name read free = second (is_built_in name) (is_taken name read) free

enters_adding : (visit : Visit) → IsAdding visit → IsAdding (Enters visit)
enters_adding visit adds ask read out free (inl p) = adds ask read out free p.1
enters_adding visit adds ask read out free (inr p) = absurd (let never = p.1 in cc)

and_skipped : (include : Include) (includes : List Include) (read out : List FileDecls) → is_skipped include.name read ≡ true
    → Extends read out × AreSkipped out includes → Extends read out × AreSkipped out (include ∷ includes)
and_skipped include includes read out skipped rest =
    (rest.0, All-cons (λ one. is_skipped one.name out ≡ true) include includes (skipped_more include.name read rest.0.more out rest.0.added skipped) rest.1)

met_adding : (visit : Visit) → IsAdding visit → (file : List ℕ) (includes : List Include) (include : Include) (read out : List FileDecls)
    → ((between : List FileDecls) → FollowsIncludes visit file includes between (Ok out) → Extends between out × AreSkipped out includes)
    → is_skipped include.name read ≡ false → (met : FilesOutcome) → Enters visit (ask_in file include) read met
    → MatchResult met (λ between. FollowsIncludes visit file includes between (Ok out)) (λ fault. Ok out ≡ Err fault)
    → Extends read out × AreSkipped out (include ∷ includes)
met_adding visit adds file includes include read out rest followed (Ok between) entered follows =
    let one = enters_adding visit adds (ask_in file include) read between (free_name include.name read followed) entered in
    let all = and_skipped include includes between out one.1 (rest between follows) in
    (extends_both read between out one.0 all.0, all.1)
met_adding visit adds file includes include read out rest followed (Err fault) entered never = absurd (let never : ⊥ = cc in never)

step_adding : (visit : Visit) → IsAdding visit → (file : List ℕ) (includes : List Include) (include : Include) (read out : List FileDecls)
    → ((between : List FileDecls) → FollowsIncludes visit file includes between (Ok out) → Extends between out × AreSkipped out includes)
    → (skipped : Bool) → is_skipped include.name read ≡ skipped
    → MatchBool skipped (FollowsIncludes visit file includes read (Ok out)) ((met : FilesOutcome) × Enters visit (ask_in file include) read met
    × MatchResult met (λ between. FollowsIncludes visit file includes between (Ok out)) (λ fault. Ok out ≡ Err fault))
    → Extends read out × AreSkipped out (include ∷ includes)
step_adding visit adds file includes include read out rest true is follows = and_skipped include includes read out is (rest read follows)
step_adding visit adds file includes include read out rest false is step =
    met_adding visit adds file includes include read out rest is step.0 step.1 step.2

follows_adding : (visit : Visit) → IsAdding visit → (file : List ℕ) (includes : List Include) (read out : List FileDecls)
    → FollowsIncludes visit file includes read (Ok out) → Extends read out × AreSkipped out includes
follows_adding visit adds file [] read out is =
    let same : out ≡ read = cc in (extends_none read out same, All-nil (λ include. is_skipped include.name out ≡ true))
follows_adding visit adds file (include ∷ includes) read out follows =
    step_adding visit adds file includes include read out (λ between. follows_adding visit adds file includes between out)
    (is_skipped include.name read) refl follows

-- the files from the one that was taken on
taken_extends : (ask : Ask) (read out : List FileDecls) (decls : List Decl) → is_taken ask.name read ≡ false → length read < most_files
    → Extends (with_file read ask decls) out → AreSkipped out (includes_of decls) → Extends read out
taken_extends ask read out decls free few rest skipped =
    let file : FileDecls = record { name = ask.name; decls = decls } in
    record {
      more = file ∷ rest.more;
      added = rest.added ∙ append_assoc read (file ∷ []) rest.more;
      distinct = λ distinct. rest.distinct (all_pairs_push (λ one other. one.name ≢ other.name) read file distinct (other_name ask.name read free));
      few = λ before. rest.few (let n = length-append read (file ∷ []) in omega arith);
      closed = All-cons (λ one. AreSkipped out (includes_of one.decls)) file rest.more skipped rest.closed;
    }

visits_by_adding : (inner : Visit) → IsAdding inner → (reads : Reading) (shelf : Option (List FileEntry)) (levels : ℕ) → IsAdding (VisitsBy inner reads shelf levels)
visits_by_adding inner adds reads shelf levels ask read out free (inl p) = absurd (let never = p.2 in cc)
visits_by_adding inner adds reads shelf levels ask read out free (inr p) =
    let all = follows_adding inner adds ask.name (includes_of p.0) (with_file read ask p.0) out p.2 in
    (taken_extends ask read out p.0 free p.1.1.2 all.0 all.1, itself ask.name read p.0 out all.0.more all.0.added)

visits_adding : (reads : Reading) (shelf : Option (List FileEntry)) (levels : ℕ) → IsAdding (Visits reads shelf levels)
unfolding Visits
visits_adding reads shelf zero = visits_by_adding (λ _ _ _. ⊥) (λ ask read out free never. absurd never) reads shelf zero
visits_adding reads shelf (suc levels) = visits_by_adding (Visits reads shelf levels) (visits_adding reads shelf levels) reads shelf (suc levels)

-- the file that is asked for comes first
begins_with : (inner : Visit) → IsAdding inner → (reads : Reading) (shelf : Option (List FileEntry)) (levels : ℕ) (name : List ℕ) (out : List FileDecls)
    → VisitsBy inner reads shelf levels (first_ask name) [] (Ok out)
    → (decls : List Decl) × (more : List FileDecls) × (out ≡ record { name = name; decls = decls } ∷ more)
begins_with inner adds reads shelf levels name out (inl p) = absurd (let never = p.2 in cc)
begins_with inner adds reads shelf levels name out (inr p) =
    let all = follows_adding inner adds name (includes_of p.0) (with_file [] (first_ask name) p.0) out p.2 in
    (p.0, all.0.more, all.0.added)

visit_begins : (reads : Reading) (shelf : Option (List FileEntry)) (levels : ℕ) (name : List ℕ) (out : List FileDecls)
    → Visits reads shelf levels (first_ask name) [] (Ok out)
    → (decls : List Decl) × (more : List FileDecls) × (out ≡ record { name = name; decls = decls } ∷ more)
unfolding Visits
visit_begins reads shelf zero name out visit = begins_with (λ _ _ _. ⊥) (λ ask read out free never. absurd never) reads shelf zero name out visit
visit_begins reads shelf (suc levels) name out visit =
    begins_with (Visits reads shelf levels) (visits_adding reads shelf levels) reads shelf (suc levels) name out visit

pub reads_files : (reads : Reading) → ReadsFiles reads
reads_files reads = λ shelf name files visit.
    let all = (visits_adding reads shelf (deepest + 1) (first_ask name) [] files refl visit).0 in
    let P : List FileDecls → Type 0 = λ some. AreClosed files some in
    record {
      first = visit_begins reads shelf (deepest + 1) name files visit;
      distinct = all.distinct (λ i j d below within. absurd (omega arith));
      few = all.few (omega arith);
      closed = subst P (sym all.added) all.closed;
    }

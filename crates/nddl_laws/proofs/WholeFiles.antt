-- The joined declarations of files that were read together go on to the end of the files.
use Rattle.std.proofs.Common.{◌≡◌, ℕ, zero, suc, ◌+◌, ◌≤◌, Bool, true, false, List, [], ◌∷◌, ◌++◌, length, refl, sym, ◌∙◌, ap, subst, inl, inr, arith, append_assoc, length-append}
use Rattle.std.specs.Prelude.{Option, Some, None, Ok, Err, MatchResult, MatchBool, bytes_eq}
use Rattle.std.specs.List.{slice_get}
use Rattle.std.specs.Option.{option_map_or}
use Rattle.std.proofs.lemmas.List.{append-nil}
use Rattle.std.proofs.lemmas.Slice.Eq.{bytes_eq-Decides}
use Rattle.eu_io.specs.declared.shelf.FileEntry.{FileEntry}
use Rattle.nddl_ast.specs.declared.declaration.Decl.{Decl}
use Rattle.nddl_ast.specs.declared.declaration.Decl.TheVariants as decls
use Rattle.nddl_ast.specs.declared.declaration.FileDecls.{FileDecls}
use Rattle.nddl_parser.specs.declared.include.Ask.{Ask}
use Rattle.nddl_parser.specs.declared.include.Include.{Include}
use Rattle.nddl_parser.specs.Includes.{includes_of, is_skipped, ask_in}
use Rattle.nddl_parser.specs.Limits.{deepest}
use Rattle.nddl_parser.specs.Outcomes.{Reading, FilesOutcome}
use Rattle.nddl_parser.specs.Visits.{Visit, Enters, FollowsIncludes, VisitsBy, Visits, ReadsAll, first_ask, with_file}
use Rattle.nddl_symbols.specs.Joined.{Stretch, include_stretch, is_file_named, decls_stretch, decls_in, file_stretch}

-- ---- what is read has names that weren't skipped

-- of the files, which stand behind these, each has a name that isn't skipped there
abbrev pub AreFresh : List FileDecls → List FileDecls → Type 0
AreFresh read [] = Unit {0}
AreFresh read (file ∷ more) = (is_skipped file.name read ≡ false) × AreFresh (read ++ file ∷ []) more

fresh_append : (read one other : List FileDecls) → AreFresh read one → AreFresh (read ++ one) other → AreFresh read (one ++ other)
fresh_append read [] other first second =
    let P : List FileDecls → Type 0 = λ r. AreFresh r other in subst P (append-nil read) second
fresh_append read (file ∷ one) other first second =
    let P : List FileDecls → Type 0 = λ r. AreFresh r other in
    (first.0, fresh_append (read ++ file ∷ []) one other first.1 (subst P (sym (append_assoc read (file ∷ []) one)) second))

-- of fresh files the later ones are fresh behind the earlier ones
pub fresh_later : (read one other : List FileDecls) → AreFresh read (one ++ other) → AreFresh (read ++ one) other
fresh_later read [] other fresh =
    let P : List FileDecls → Type 0 = λ r. AreFresh r other in subst P (sym (append-nil read)) fresh
fresh_later read (file ∷ one) other fresh =
    let P : List FileDecls → Type 0 = λ r. AreFresh r other in
    subst P (append_assoc read (file ∷ []) one) (fresh_later (read ++ file ∷ []) one other fresh.1)

-- fresh files were added
pub record Grows (read out : List FileDecls) : Type 0 where
  pub more : List FileDecls
  pub added : out ≡ read ++ more
  pub fresh : AreFresh read more

-- the file that was asked for was added, with these declarations, and then fresh ones
pub record Begins (ask : Ask) (read out : List FileDecls) : Type 0 where
  pub decls : List Decl
  pub more : List FileDecls
  pub added : out ≡ with_file read ask decls ++ more
  pub fresh : AreFresh (with_file read ask decls) more

abbrev pub IsBeginning : Visit → Type 0
IsBeginning visit = (ask : Ask) (read out : List FileDecls) → visit ask read (Ok out) → Begins ask read out

begins_grows : (ask : Ask) (read out : List FileDecls) → is_skipped ask.name read ≡ false → Begins ask read out → Grows read out
begins_grows ask read out free is =
    let file : FileDecls = record { name = ask.name; decls = is.decls } in
    record { more = file ∷ is.more; added = is.added ∙ append_assoc read (file ∷ []) is.more; fresh = (free, is.fresh) }

grows_none : (read out : List FileDecls) → out ≡ read → Grows read out
grows_none read out same = record { more = []; added = same ∙ sym (append-nil read); fresh = tt }

grows_both : (read between out : List FileDecls) → Grows read between → Grows between out → Grows read out
grows_both read between out one other =
    let P : List FileDecls → Type 0 = λ r. AreFresh r other.more in
    record {
      more = one.more ++ other.more;
      added = other.added ∙ (ap (λ files. files ++ other.more) one.added ∙ append_assoc read one.more other.more);
      fresh = fresh_append read one.more other.more one.fresh (subst P one.added other.fresh);
    }

entered : (visit : Visit) → IsBeginning visit → (ask : Ask) (read out : List FileDecls) → Enters visit ask read (Ok out) → Begins ask read out
entered visit begins ask read out (inl p) = begins ask read out p.1
entered visit begins ask read out (inr p) = absurd (let never = p.1 in cc)

met_grows : (visit : Visit) → IsBeginning visit → (file : List ℕ) (includes : List Include) (include : Include) (read out : List FileDecls)
    → ((between : List FileDecls) → FollowsIncludes visit file includes between (Ok out) → Grows between out)
    → is_skipped include.name read ≡ false → (met : FilesOutcome) → Enters visit (ask_in file include) read met
    → MatchResult met (λ between. FollowsIncludes visit file includes between (Ok out)) (λ fault. Ok out ≡ Err fault)
    → Grows read out
met_grows visit begins file includes include read out rest free (Ok between) enters follows =
    grows_both read between out
    (begins_grows (ask_in file include) read between free (entered visit begins (ask_in file include) read between enters))
    (rest between follows)
met_grows visit begins file includes include read out rest free (Err fault) enters never = absurd (let never' : ⊥ = cc in never')

step_grows : (visit : Visit) → IsBeginning visit → (file : List ℕ) (includes : List Include) (include : Include) (read out : List FileDecls)
    → ((between : List FileDecls) → FollowsIncludes visit file includes between (Ok out) → Grows between out)
    → (skipped : Bool) → is_skipped include.name read ≡ skipped
    → MatchBool skipped (FollowsIncludes visit file includes read (Ok out)) ((met : FilesOutcome) × Enters visit (ask_in file include) read met
    × MatchResult met (λ between. FollowsIncludes visit file includes between (Ok out)) (λ fault. Ok out ≡ Err fault))
    → Grows read out
step_grows visit begins file includes include read out rest true is follows = rest read follows
step_grows visit begins file includes include read out rest false is step =
    met_grows visit begins file includes include read out rest is step.0 step.1 step.2

pub follows_grows : (visit : Visit) → IsBeginning visit → (file : List ℕ) (includes : List Include) (read out : List FileDecls)
    → FollowsIncludes visit file includes read (Ok out) → Grows read out
follows_grows visit begins file [] read out is = grows_none read out (let same : out ≡ read = cc in same)
follows_grows visit begins file (include ∷ includes) read out follows =
    step_grows visit begins file includes include read out (λ between. follows_grows visit begins file includes between out)
    (is_skipped include.name read) refl follows

by_begins : (inner : Visit) → IsBeginning inner → (reads : Reading) (shelf : Option (List FileEntry)) (levels : ℕ) → IsBeginning (VisitsBy inner reads shelf levels)
by_begins inner begins reads shelf levels ask read out (inl p) = absurd (let never = p.2 in cc)
by_begins inner begins reads shelf levels ask read out (inr p) =
    let grows = follows_grows inner begins ask.name (includes_of p.0) (with_file read ask p.0) out p.2 in
    record { decls = p.0; more = grows.more; added = grows.added; fresh = grows.fresh }

pub visit_begins : (reads : Reading) (shelf : Option (List FileEntry)) (levels : ℕ) → IsBeginning (Visits reads shelf levels)
unfolding Visits
visit_begins reads shelf zero = by_begins (λ _ _ _. ⊥) (λ ask read out never. absurd never) reads shelf zero
visit_begins reads shelf (suc levels) = by_begins (Visits reads shelf levels) (visit_begins reads shelf levels) reads shelf (suc levels)

-- ---- so the joining goes where the reading went

get_past : (read more : List FileDecls) (file : FileDecls) → slice_get (read ++ file ∷ more) (length read) ≡ Some file
get_past [] more file = refl
get_past (one ∷ read) more file = get_past read more file

get_none : (read : List FileDecls) → slice_get (read ++ []) (length read) ≡ None
get_none [] = refl
get_none (one ∷ read) = get_none read

not_both : (b : Bool) → b ≡ true → b ≡ false → ⊥
not_both b yes' no' = let same : true ≡ false = sym yes' ∙ no' in cc

false_from : (b : Bool) → (b ≡ true → ⊥) → b ≡ false
false_from true never = absurd (never refl)
false_from false never = refl

-- a name that is skipped isn't that of the next file
skipped_past : (read rest : List FileDecls) (name : List ℕ) → AreFresh read rest → is_skipped name read ≡ true → is_file_named (read ++ rest) (length read) name ≡ false
skipped_past read [] name fresh skipped = ap (λ o. option_map_or (λ file. bytes_eq file.name name) o false) (get_none read)
skipped_past read (file ∷ rest) name fresh skipped =
    ap (λ o. option_map_or (λ one. bytes_eq one.name name) o false) (get_past read rest file)
    ∙ false_from (bytes_eq file.name name) (λ named.
    let same : file.name ≡ name = (bytes_eq-Decides file.name name).0 named in
    not_both (is_skipped name read) skipped (sym (ap (λ n. is_skipped n read) same) ∙ fresh.0))

-- that of the next file is
named_next : (read rest : List FileDecls) (file : FileDecls) (name : List ℕ) → file.name ≡ name → is_file_named (read ++ file ∷ rest) (length read) name ≡ true
named_next read rest file name same =
    ap (λ o. option_map_or (λ one. bytes_eq one.name name) o false) (get_past read rest file) ∙ (bytes_eq-Decides file.name name).1 same

decls_next : (read rest : List FileDecls) (file : FileDecls) → decls_in (read ++ file ∷ rest) (length read) ≡ file.decls
decls_next read rest file = ap (λ o. option_map_or (λ one. one.decls) o []) (get_past read rest file)

-- these files are the front of those, and fresh ones follow
pub record Leaves (files read : List FileDecls) : Type 0 where
  pub rest : List FileDecls
  pub is : files ≡ read ++ rest
  pub fresh : AreFresh read rest

leaves_all : (files : List FileDecls) → Leaves files files
leaves_all files = record { rest = []; is = sym (append-nil files); fresh = tt }

leaves_more : (files read out : List FileDecls) → Grows read out → Leaves files out → Leaves files read
leaves_more files read out grows leaves =
    let P : List FileDecls → Type 0 = λ r. AreFresh r leaves.rest in
    record {
      rest = grows.more ++ leaves.rest;
      is = leaves.is ∙ (ap (λ r. r ++ leaves.rest) grows.added ∙ append_assoc read grows.more leaves.rest);
      fresh = fresh_append read grows.more leaves.rest grows.fresh (subst P grows.added leaves.fresh);
    }

longer : (read out : List FileDecls) → Grows read out → length read ≤ length out
longer read out grows = let n = ap length grows.added ∙ length-append read grows.more in omega arith

same_out : (out read : List FileDecls) → ◌≡◌ {A = FilesOutcome} (Ok out) (Ok read) → out ≡ read
same_out out read same = cc

-- a file that was asked for is the next one
asked : (files read out : List FileDecls) (ask : Ask) (begins : Begins ask read out) → Leaves files out
    → (rest : List FileDecls) × (files ≡ read ++ record { name = ask.name; decls = begins.decls } ∷ rest)
asked files read out ask begins leaves =
    let file : FileDecls = record { name = ask.name; decls = begins.decls } in (
      begins.more ++ leaves.rest,
      leaves.is ∙ (ap (λ r. r ++ leaves.rest) begins.added
          ∙ (append_assoc (read ++ file ∷ []) begins.more leaves.rest ∙ append_assoc read (file ∷ []) (begins.more ++ leaves.rest))),
    )

module _ (files : List FileDecls) (file_from : ℕ → Stretch) (most : ℕ) (visit : Visit) (begins : IsBeginning visit)
    (goes : (ask : Ask) (read out : List FileDecls) → visit ask read (Ok out) → Leaves files out → length out ≤ length read + most
    → (file_from (length read)).next ≡ length out) where
  -- an include that is passed over
  over : (name : List ℕ) (read : List FileDecls) → Leaves files read → is_skipped name read ≡ true
      → (include_stretch file_from (is_file_named files (length read) name) (length read)).next ≡ length read
  over name read leaves skipped =
      let past : is_file_named files (length read) name ≡ false =
      ap (λ f. is_file_named f (length read) name) leaves.is ∙ skipped_past read leaves.rest name leaves.fresh skipped in
      ap (λ b. (include_stretch file_from b (length read)).next) past

  -- an include that is followed
  into : (ask : Ask) (read between : List FileDecls) → visit ask read (Ok between) → Leaves files between → length between ≤ length read + most
      → (include_stretch file_from (is_file_named files (length read) ask.name) (length read)).next ≡ length between
  into ask read between visited leaves few =
      let is = begins ask read between visited in
      let next = asked files read between ask is leaves in
      let named : is_file_named files (length read) ask.name ≡ true =
      ap (λ f. is_file_named f (length read) ask.name) next.1 ∙ named_next read next.0 (record { name = ask.name; decls = is.decls }) ask.name refl in
      ap (λ b. (include_stretch file_from b (length read)).next) named ∙ goes ask read between visited leaves few

  entered_into : (ask : Ask) (read between : List FileDecls) → Enters visit ask read (Ok between) → Leaves files between → length between ≤ length read + most
      → (include_stretch file_from (is_file_named files (length read) ask.name) (length read)).next ≡ length between
  entered_into ask read between (inl p) leaves few = into ask read between p.1 leaves few
  entered_into ask read between (inr p) leaves few = absurd (let never = p.1 in cc)

  met_right : (asker : List ℕ) (include : Include) (file number : ℕ) (more : List Decl) (read out : List FileDecls)
      → ((between : List FileDecls) → FollowsIncludes visit asker (includes_of more) between (Ok out) → length out ≤ length between + most
      → (decls_stretch file_from files file (number + 1) more (length between)).next ≡ length out)
      → Leaves files out → length out ≤ length read + most → is_skipped include.name read ≡ false
      → (met : FilesOutcome) → Enters visit (ask_in asker include) read met
      → MatchResult met (λ between. FollowsIncludes visit asker (includes_of more) between (Ok out)) (λ fault. Ok out ≡ Err fault)
      → (decls_stretch file_from files file (number + 1) more (include_stretch file_from (is_file_named files (length read) include.name) (length read)).next).next ≡ length out
  met_right asker include file number more read out rest leaves few free (Ok between) enters follows =
      let grows = follows_grows visit begins asker (includes_of more) between out follows in
      let step = begins_grows (ask_in asker include) read between free (entered visit begins (ask_in asker include) read between enters) in
      let less = longer between out grows in
      let least = longer read between step in
      let first = entered_into (ask_in asker include) read between enters (leaves_more files between out grows leaves) (omega arith) in
      ap (λ n. (decls_stretch file_from files file (number + 1) more n).next) first ∙ rest between follows (omega arith)
  met_right asker include file number more read out rest leaves few free (Err fault) enters never = absurd (let never' : ⊥ = cc in never')

  step_right : (asker : List ℕ) (include : Include) (file number : ℕ) (more : List Decl) (read out : List FileDecls)
      → ((between : List FileDecls) → FollowsIncludes visit asker (includes_of more) between (Ok out) → length out ≤ length between + most
      → (decls_stretch file_from files file (number + 1) more (length between)).next ≡ length out)
      → Leaves files out → length out ≤ length read + most → (skipped : Bool) → is_skipped include.name read ≡ skipped
      → MatchBool skipped (FollowsIncludes visit asker (includes_of more) read (Ok out)) ((met : FilesOutcome) × Enters visit (ask_in asker include) read met
      × MatchResult met (λ between. FollowsIncludes visit asker (includes_of more) between (Ok out)) (λ fault. Ok out ≡ Err fault))
      → (decls_stretch file_from files file (number + 1) more (include_stretch file_from (is_file_named files (length read) include.name) (length read)).next).next ≡ length out
  step_right asker include file number more read out rest leaves few true is follows =
      let grows = follows_grows visit begins asker (includes_of more) read out follows in
      ap (λ n. (decls_stretch file_from files file (number + 1) more n).next) (over include.name read (leaves_more files read out grows leaves) is) ∙ rest read follows few
  step_right asker include file number more read out rest leaves few false is step =
      met_right asker include file number more read out rest leaves few is step.0 step.1 step.2

  follows_right : (asker : List ℕ) (file number : ℕ) (some : List Decl) (read out : List FileDecls)
      → FollowsIncludes visit asker (includes_of some) read (Ok out) → Leaves files out → length out ≤ length read + most
      → (decls_stretch file_from files file number some (length read)).next ≡ length out
  follows_right asker file number [] read out follows leaves few = sym (ap length (same_out out read follows))
  follows_right asker file number (decls.Include at name name_at ∷ more) read out follows leaves few =
      step_right asker (record { name = name; at = at }) file number more read out
      (λ between follows less. follows_right asker file (number + 1) more between out follows leaves less)
      leaves few (is_skipped name read) refl follows
  follows_right asker file number (decl ∷ more) read out follows leaves few =
      follows_right asker file (number + 1) more read out follows leaves few

by_goes : (files : List FileDecls) (inner : Visit) → IsBeginning inner
    → ((ask : Ask) (read out : List FileDecls) (most : ℕ) → inner ask read (Ok out) → Leaves files out → length out ≤ length read + most → (file_stretch most files (length read)).next ≡ length out)
    → (reads : Reading) (shelf : Option (List FileEntry)) (levels : ℕ) (ask : Ask) (read out : List FileDecls) (most : ℕ)
    → VisitsBy inner reads shelf levels ask read (Ok out) → Leaves files out → length out ≤ length read + most
    → (file_stretch most files (length read)).next ≡ length out
by_goes files inner begins goes reads shelf levels ask read out most (inl p) leaves few = absurd (let never = p.2 in cc)
by_goes files inner begins goes reads shelf levels ask read out zero (inr p) leaves few =
    let grows = follows_grows inner begins ask.name (includes_of p.0) (with_file read ask p.0) out p.2 in
    let more = longer (with_file read ask p.0) out grows in
    let file : FileDecls = record { name = ask.name; decls = p.0 } in
    let count = length-append read (file ∷ []) in
    absurd (omega arith)
by_goes files inner begins goes reads shelf levels ask read out (suc most) (inr p) leaves few =
    let grows = follows_grows inner begins ask.name (includes_of p.0) (with_file read ask p.0) out p.2 in
    let file : FileDecls = record { name = ask.name; decls = p.0 } in
    let count = length-append read (file ∷ []) in
    let begun : Begins ask read out = record { decls = p.0; more = grows.more; added = grows.added; fresh = grows.fresh } in
    let next = asked files read out ask begun leaves in
    let same : decls_in files (length read) ≡ p.0 = ap (λ f. decls_in f (length read)) next.1 ∙ decls_next read next.0 file in
    let placed : length read + 1 ≡ length (with_file read ask p.0) = omega arith in
    let ends = follows_right files (file_stretch most files) most inner begins (λ a r o v l few'. goes a r o most v l few')
    ask.name (length read) 0 p.0 (with_file read ask p.0) out p.2 leaves (omega arith) in
    ap (λ some. (decls_stretch (file_stretch most files) files (length read) 0 some (length read + 1)).next) same
    ∙ (ap (λ n. (decls_stretch (file_stretch most files) files (length read) 0 p.0 n).next) placed ∙ ends)

visit_goes : (files : List FileDecls) (reads : Reading) (shelf : Option (List FileEntry)) (levels : ℕ)
    (ask : Ask) (read out : List FileDecls) (most : ℕ) → Visits reads shelf levels ask read (Ok out) → Leaves files out → length out ≤ length read + most
    → (file_stretch most files (length read)).next ≡ length out
unfolding Visits
visit_goes files reads shelf zero ask read out most visited =
    by_goes files (λ _ _ _. ⊥) (λ ask read out never. absurd never) (λ ask read out most never leaves few. absurd never) reads shelf zero ask read out most visited
visit_goes files reads shelf (suc levels) ask read out most visited =
    by_goes files (Visits reads shelf levels) (visit_begins reads shelf levels) (visit_goes files reads shelf levels) reads shelf (suc levels) ask read out most visited

pub goes_whole : (reads : Reading) (shelf : Option (List FileEntry)) (name : List ℕ) (files : List FileDecls)
    → ReadsAll reads shelf name (Ok files) → (file_stretch (length files) files 0).next ≡ length files
goes_whole reads shelf name files read =
    visit_goes files reads shelf (deepest + 1) (first_ask name) [] files (length files) read (leaves_all files) (omega arith)

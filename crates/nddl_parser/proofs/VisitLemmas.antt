-- How visits begin and go on, over plain variables.
use Rattle.std.proofs.Common.{◌≡◌, ℕ, zero, suc, ◌+◌, ◌-◌, ◌<◌, Bool, true, false, List, ◌∷◌, length, drop, get_or, Option, refl, sym, ◌∙◌, ap, subst, inl, inr, arith}
use Rattle.std.proofs.lemmas.List.{drop_more}
use Rattle.std.specs.Prelude.{Ok, Err, MatchResult, MatchBool}
use Rattle.eu_io.specs.declared.shelf.FileEntry.{FileEntry}
use Rattle.nddl_ast.specs.declared.declaration.FileDecls.{FileDecls}
use Rattle.nddl_parser.specs.declared.include.Ask.{Ask}
use Rattle.nddl_parser.specs.declared.include.Include.{Include}
use Rattle.nddl_parser.specs.declared.fault.ReadAllFault.{ReadAllFault}
use Rattle.nddl_parser.specs.declared.fault.ReadAllFault.TheVariants as all
use Rattle.nddl_parser.specs.Includes.{includes_of, is_skipped, ask_in, NamesText}
use Rattle.nddl_parser.specs.Outcomes.{Reading, FilesOutcome, TellsOutcome}
use Rattle.nddl_parser.specs.Taking.{HasDecls, TakesFile}
use Rattle.nddl_parser.specs.Visits.{Stops, Visit, Enters, ComesOf, FollowsIncludes, Visits}

-- what follows from what an answer says is said by the answer
pub says_more : (P Q : FilesOutcome → Type 0) (outcome : FilesOutcome) → (P outcome → Q outcome) → TellsOutcome P outcome → TellsOutcome Q outcome
says_more P Q (Ok files) more said = more said
says_more P Q (Err (all.Absent file at)) more said = more said
says_more P Q (Err (all.TooLong file at)) more said = more said
says_more P Q (Err (all.TooManyFiles file at)) more said = more said
says_more P Q (Err (all.TooDeep file at)) more said = more said
says_more P Q (Err (all.Lex file wrong)) more said = more said
says_more P Q (Err (all.Parse file wrong)) more said = more said
says_more P Q (Err all.ReadFault) more said = tt
says_more P Q (Err all.Memory) more said = tt

-- a file that is read is visited by what its includes come to
pub takes_on : (reads : Reading) (files : Option (List FileEntry)) (levels : ℕ) (ask : Ask) (before new : List FileDecls) (includes : List Include) (outcome : FilesOutcome)
    → TakesFile reads files levels ask before new (Ok includes)
    → FollowsIncludes (Visits reads files (levels - 1)) ask.name includes new outcome
    → Visits reads files levels ask before outcome
unfolding Visits
takes_on reads files zero ask before new includes outcome taken follows =
    let none : 0 < 0 = taken.1.1.3 in absurd (omega arith)
takes_on reads files (suc levels) ask before new includes outcome taken follows =
    let P : ℕ → Type 0 = λ n. FollowsIncludes (Visits reads files n) ask.name includes new outcome in
    let Q : List Include → Type 0 = λ l. FollowsIncludes (Visits reads files levels) ask.name l new outcome in
    let R : List FileDecls → Type 0 = λ r. FollowsIncludes (Visits reads files levels) ask.name (includes_of taken.0) r outcome in
    let less : suc levels - 1 ≡ levels = omega arith in
    inr (taken.0, taken.1, subst R taken.3 (subst Q taken.2 (subst P less follows)))

-- a fault that stops a file ends its visit
pub stops_visit : (reads : Reading) (files : Option (List FileEntry)) (levels : ℕ) (ask : Ask) (before : List FileDecls) (fault : ReadAllFault)
    → Stops reads files (length before) levels ask fault → Visits reads files levels ask before (Err fault)
unfolding Visits
stops_visit reads files zero ask before fault stops = inl (fault, stops, refl)
stops_visit reads files (suc levels) ask before fault stops = inl (fault, stops, refl)

pub taken_fault : (reads : Reading) (files : Option (List FileEntry)) (levels : ℕ) (ask : Ask) (before new : List FileDecls) (fault : ReadAllFault)
    → TakesFile reads files levels ask before new (Err fault) → TellsOutcome (Visits reads files levels ask before) (Err fault)
taken_fault reads files levels ask before new (all.Absent file at) stops = stops_visit reads files levels ask before (all.Absent file at) stops
taken_fault reads files levels ask before new (all.TooLong file at) stops = stops_visit reads files levels ask before (all.TooLong file at) stops
taken_fault reads files levels ask before new (all.TooManyFiles file at) stops = stops_visit reads files levels ask before (all.TooManyFiles file at) stops
taken_fault reads files levels ask before new (all.TooDeep file at) stops = stops_visit reads files levels ask before (all.TooDeep file at) stops
taken_fault reads files levels ask before new (all.Lex file wrong) stops = stops_visit reads files levels ask before (all.Lex file wrong) stops
taken_fault reads files levels ask before new (all.Parse file wrong) stops = stops_visit reads files levels ask before (all.Parse file wrong) stops
taken_fault reads files levels ask before new all.ReadFault stops = tt
taken_fault reads files levels ask before new all.Memory stops = tt

-- what the file's declarations weren't read for, it isn't taken for
pub declared_fault : (reads : Reading) (files : Option (List FileEntry)) (levels : ℕ) (ask : Ask) (old new : List FileDecls) (fault : ReadAllFault)
    → HasDecls reads files (length old) levels ask (Err fault) → TakesFile reads files levels ask old new (Err fault)
declared_fault reads files levels ask old new (all.Absent file at) stops = stops
declared_fault reads files levels ask old new (all.TooLong file at) stops = stops
declared_fault reads files levels ask old new (all.TooManyFiles file at) stops = stops
declared_fault reads files levels ask old new (all.TooDeep file at) stops = stops
declared_fault reads files levels ask old new (all.Lex file wrong) stops = stops
declared_fault reads files levels ask old new (all.Parse file wrong) stops = stops
declared_fault reads files levels ask old new all.ReadFault stops = tt
declared_fault reads files levels ask old new all.Memory stops = tt

-- an include that is passed over
pub passes_over : (visit : Visit) (file : List ℕ) (include : Include) (read : List FileDecls) → is_skipped include.name read ≡ true → ComesOf visit file include read (Ok read)
passes_over visit file include read skipped =
    let met : FilesOutcome = Ok read in
    let same : met ≡ met = refl in
    let P : Bool → Type 0 = λ b. MatchBool b (met ≡ met) (Enters visit (ask_in file include) read met) in
    subst P (sym skipped) same

-- an include that is followed
pub passes_in : (visit : Visit) (file : List ℕ) (include : Include) (read : List FileDecls) (met : FilesOutcome)
    → is_skipped include.name read ≡ false → Enters visit (ask_in file include) read met → ComesOf visit file include read met
passes_in visit file include read met followed inner =
    let P : Bool → Type 0 = λ b. MatchBool b (met ≡ Ok read) (Enters visit (ask_in file include) read met) in
    subst P (sym followed) inner

-- an include whose name isn't text
pub unnamed : (visit : Visit) (file : List ℕ) (include : Include) (read : List FileDecls) (fault : ReadAllFault)
    → is_skipped include.name read ≡ false → NamesText file include (Err fault) → TellsOutcome (ComesOf visit file include read) (Err fault)
unnamed visit file include read (all.Absent at_file at) followed names =
    let same : all.Absent at_file at ≡ all.Absent file include.at = λ i. all.Absent (names.0 i) (names.1 i) in
    passes_in visit file include read (Err (all.Absent at_file at)) followed (inr (names.2, ap Err same))
unnamed visit file include read (all.TooLong at_file at) followed names = absurd names
unnamed visit file include read (all.TooManyFiles at_file at) followed names = absurd names
unnamed visit file include read (all.TooDeep at_file at) followed names = absurd names
unnamed visit file include read (all.Lex at_file wrong) followed names = absurd names
unnamed visit file include read (all.Parse at_file wrong) followed names = absurd names
unnamed visit file include read all.ReadFault followed names = absurd names
unnamed visit file include read all.Memory followed names = tt

-- what comes of one include, and then of the others
pub passed : (visit : Visit) (file : List ℕ) (include : Include) (includes : List Include) (read : List FileDecls) (outcome met : FilesOutcome)
    → ComesOf visit file include read met → MatchResult met (λ between. FollowsIncludes visit file includes between outcome) (λ fault. outcome ≡ Err fault)
    → FollowsIncludes visit file (include ∷ includes) read outcome
passed visit file include includes read outcome met pass ends = chosen (is_skipped include.name read) pass where
  chosen : (skipped : Bool) → MatchBool skipped (met ≡ Ok read) (Enters visit (ask_in file include) read met)
      → MatchBool skipped (FollowsIncludes visit file includes read outcome) ((other : FilesOutcome) × Enters visit (ask_in file include) read other
      × MatchResult other (λ between. FollowsIncludes visit file includes between outcome) (λ fault. outcome ≡ Err fault))
  chosen true same = subst (λ (m : FilesOutcome). MatchResult m (λ between. FollowsIncludes visit file includes between outcome) (λ fault. outcome ≡ Err fault)) same ends
  chosen false inner = (met, inner, ends)

-- the file that the include asks for was visited
pub visited : (visit : Visit) (file : List ℕ) (include : Include) (ask : Ask) (read : List FileDecls) (met : FilesOutcome)
    → NamesText file include (Ok ask) → visit ask read met → Enters visit (ask_in file include) read met
visited visit file include ask read met names inner =
    let P : Ask → Type 0 = λ a. visit a read met in
    inl (names.1, subst P names.0 inner)

-- where what is left begins with this include, its first place tells so
pub begins : (includes : List Include) (i : ℕ) (include : Include) → i < length includes → include ≡ get_or includes i include
    → include ∷ drop (i + 1) includes ≡ drop i includes
begins includes i include within is = ap (λ x. x ∷ drop (i + 1) includes) is ∙ sym (drop_more includes i include within)

pub follows_left : (visit : Visit) (file : List ℕ) (includes : List Include) (i : ℕ) (include : Include) (read : List FileDecls) (outcome : FilesOutcome)
    → i < length includes → include ≡ get_or includes i include
    → FollowsIncludes visit file (include ∷ drop (i + 1) includes) read outcome → FollowsIncludes visit file (drop i includes) read outcome
follows_left visit file includes i include read outcome within is follows =
    let P : List Include → Type 0 = λ l. FollowsIncludes visit file l read outcome in
    subst P (begins includes i include within is) follows

-- whether an include is passed over, by equal names and files
pub same_skip : (name other : List ℕ) (read files : List FileDecls) (skipped answer : Bool)
    → skipped ≡ is_skipped name read → name ≡ other → read ≡ files → skipped ≡ answer → is_skipped other files ≡ answer
same_skip name other read files skipped answer is names reads answered =
    let same : is_skipped name read ≡ is_skipped other files = λ i. is_skipped (names i) (reads i) in
    sym same ∙ (sym is ∙ answered)

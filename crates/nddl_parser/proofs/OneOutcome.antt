-- Where each text is read in one way, each file is with those that it includes.
use Rattle.std.proofs.Common.{◌≡◌, ℕ, zero, suc, ◌+◌, ◌<◌, ◌≤◌, Bool, true, false, List, [], ◌∷◌, length, refl, sym, ◌∙◌, ap, subst, inl, inr, arith}
use Rattle.std.specs.Prelude.{◌⊎◌, Option, Some, None, Result, Ok, Err, MatchResult, MatchBool, IfErr, IsSome}
use Rattle.std.specs.Str.{is_utf8}
use Rattle.std.proofs.lemmas.Bool.{cases_lt}
use Rattle.std.proofs.lemmas.Str.{IsUtf8-from_is_utf8, is_utf8-from_IsUtf8}
use Rattle.eu_io.specs.Files.{file_named}
use Rattle.eu_io.specs.declared.shelf.FileEntry.{FileEntry}
use Rattle.nddl_ast.specs.declared.declaration.Decl.{Decl}
use Rattle.nddl_ast.specs.declared.declaration.FileDecls.{FileDecls}
use Rattle.nddl_parser.specs.declared.include.Ask.{Ask}
use Rattle.nddl_parser.specs.declared.include.Include.{Include}
use Rattle.nddl_parser.specs.declared.fault.Refusal.{Refusal}
use Rattle.nddl_parser.specs.declared.fault.Refusal.TheVariants as refused
use Rattle.nddl_parser.specs.declared.fault.TextFail.{TextFail}
use Rattle.nddl_parser.specs.declared.fault.ReadAllFault.{ReadAllFault}
use Rattle.nddl_parser.specs.declared.fault.ReadAllFault.TheVariants as all
use Rattle.nddl_parser.specs.Faults.{fail_kind, faulty, fault_at}
use Rattle.nddl_parser.specs.Includes.{includes_of, is_skipped, ask_in}
use Rattle.nddl_parser.specs.Laws.{TextsHaveOneReading, FilesHaveOneOutcome}
use Rattle.nddl_parser.specs.Limits.{most_bytes, most_files, deepest}
use Rattle.nddl_parser.specs.Outcomes.{Reading, FilesOutcome}
use Rattle.nddl_parser.specs.Visits.{Loads, Stops, Takes, Visit, Enters, FollowsIncludes, VisitsBy, Visits, first_ask, with_file}

-- no visit has two outcomes
abbrev pub IsSingle : Visit → Type 0
IsSingle visit = (ask : Ask) (read : List FileDecls) (one other : FilesOutcome) → visit ask read one → visit ask read other → other ≡ one

there_is : (held : Option (List ℕ)) (text : List ℕ) → None ≡ held → Some text ≡ held → ⊥
there_is held text none some = cc

same_text : (held : Option (List ℕ)) (text other : List ℕ) → Some text ≡ held → Some other ≡ held → other ≡ text
same_text held text other one two = cc

same_len : (held : Option (List ℕ)) (text other : List ℕ) → Some text ≡ held → Some other ≡ held → length other ≡ length text
same_len held text other one two = ap length (same_text held text other one two)

-- what a file's name leads to is one
pub one_load : (files : List FileEntry) (count levels : ℕ) (name : List ℕ) (one other : Result (List ℕ) Refusal)
    → Loads (Some files) count levels name one → Loads (Some files) count levels name other → other ≡ one
one_load files count levels name (Err refused.Absent) (Err refused.Absent) p q = refl
one_load files count levels name (Err refused.Absent) (Err refused.TooLong) p q = absurd (there_is (file_named name files) q.0 p q.1)
one_load files count levels name (Err refused.Absent) (Err refused.TooManyFiles) p q = absurd (there_is (file_named name files) q.0 p q.1)
one_load files count levels name (Err refused.Absent) (Err refused.TooDeep) p q = absurd (there_is (file_named name files) q.0 p q.1)
one_load files count levels name (Err refused.Absent) (Ok more) p q = absurd (there_is (file_named name files) more p q.0)
one_load files count levels name (Err refused.TooLong) (Err refused.Absent) p q = absurd (there_is (file_named name files) p.0 q p.1)
one_load files count levels name (Err refused.TooLong) (Err refused.TooLong) p q = refl
one_load files count levels name (Err refused.TooLong) (Err refused.TooManyFiles) p q = let same = same_len (file_named name files) p.0 q.0 p.1 q.1 in absurd (omega (arith, same))
one_load files count levels name (Err refused.TooLong) (Err refused.TooDeep) p q = let same = same_len (file_named name files) p.0 q.0 p.1 q.1 in absurd (omega (arith, same))
one_load files count levels name (Err refused.TooLong) (Ok more) p q = let same = same_len (file_named name files) p.0 more p.1 q.0 in absurd (omega (arith, same))
one_load files count levels name (Err refused.TooManyFiles) (Err refused.Absent) p q = absurd (there_is (file_named name files) p.0 q p.1)
one_load files count levels name (Err refused.TooManyFiles) (Err refused.TooLong) p q = let same = same_len (file_named name files) p.0 q.0 p.1 q.1 in absurd (omega (arith, same))
one_load files count levels name (Err refused.TooManyFiles) (Err refused.TooManyFiles) p q = refl
one_load files count levels name (Err refused.TooManyFiles) (Err refused.TooDeep) p q = let same = same_len (file_named name files) p.0 q.0 p.1 q.1 in absurd (omega (arith, same))
one_load files count levels name (Err refused.TooManyFiles) (Ok more) p q = let same = same_len (file_named name files) p.0 more p.1 q.0 in absurd (omega (arith, same))
one_load files count levels name (Err refused.TooDeep) (Err refused.Absent) p q = absurd (there_is (file_named name files) p.0 q p.1)
one_load files count levels name (Err refused.TooDeep) (Err refused.TooLong) p q = let same = same_len (file_named name files) p.0 q.0 p.1 q.1 in absurd (omega (arith, same))
one_load files count levels name (Err refused.TooDeep) (Err refused.TooManyFiles) p q = let same = same_len (file_named name files) p.0 q.0 p.1 q.1 in absurd (omega (arith, same))
one_load files count levels name (Err refused.TooDeep) (Err refused.TooDeep) p q = refl
one_load files count levels name (Err refused.TooDeep) (Ok more) p q = let same = same_len (file_named name files) p.0 more p.1 q.0 in absurd (omega (arith, same))
one_load files count levels name (Ok text) (Err refused.Absent) p q = absurd (there_is (file_named name files) text q p.0)
one_load files count levels name (Ok text) (Err refused.TooLong) p q = let same = same_len (file_named name files) text q.0 p.0 q.1 in absurd (omega (arith, same))
one_load files count levels name (Ok text) (Err refused.TooManyFiles) p q = let same = same_len (file_named name files) text q.0 p.0 q.1 in absurd (omega (arith, same))
one_load files count levels name (Ok text) (Err refused.TooDeep) p q = let same = same_len (file_named name files) text q.0 p.0 q.1 in absurd (omega (arith, same))
one_load files count levels name (Ok text) (Ok more) p q = ap Ok (same_text (file_named name files) text more p.0 q.0)

module _ (reads : Reading) (has_one : TextsHaveOneReading reads) (files : List FileEntry) where
  single : (text : List ℕ) → length text ≤ most_bytes → (one other : Result (List Decl) TextFail) → reads text one → reads text other → other ≡ one
  single text short one other p q = (has_one text short).1.only other q ∙ sym ((has_one text short).1.only one p)

  one_stop : (count levels : ℕ) (ask : Ask) (one other : ReadAllFault) → Stops reads (Some files) count levels ask one → Stops reads (Some files) count levels ask other → other ≡ one
  one_stop count levels ask one other (inl p) (inl q) =
      let same = one_load files count levels ask.name (Err p.0) (Err q.0) p.1 q.1 in
      let refusal : q.0 ≡ p.0 = cc in
      q.2 ∙ (ap (λ r. fault_at r ask) refusal ∙ sym p.2)
  one_stop count levels ask one other (inl p) (inr q) =
      let same = one_load files count levels ask.name (Err p.0) (Ok q.0) p.1 q.1 in
      absurd (let no : ⊥ = cc in no)
  one_stop count levels ask one other (inr p) (inl q) =
      let same = one_load files count levels ask.name (Ok p.0) (Err q.0) p.1 q.1 in
      absurd (let no : ⊥ = cc in no)
  one_stop count levels ask one other (inr p) (inr q) =
      let same = one_load files count levels ask.name (Ok p.0) (Ok q.0) p.1 q.1 in
      let text : q.0 ≡ p.0 = cc in
      let P : List ℕ → Type 0 = λ t. reads t (Err q.2.0) in
      let read = single p.0 p.1.1 (Err p.2.0) (Err q.2.0) p.2.1 (subst P text q.2.1) in
      let wrong : q.2.0 ≡ p.2.0 = cc in
      q.2.3 ∙ (ap (λ w. faulty ask.name w) wrong ∙ sym p.2.3)

  one_take : (count levels : ℕ) (ask : Ask) (one other : List Decl) → Takes reads (Some files) count levels ask one → Takes reads (Some files) count levels ask other → other ≡ one
  one_take count levels ask one other p q =
      let same = one_load files count levels ask.name (Ok p.0) (Ok q.0) p.1 q.1 in
      let text : q.0 ≡ p.0 = cc in
      let P : List ℕ → Type 0 = λ t. reads t (Ok other) in
      let read = single p.0 p.1.1 (Ok one) (Ok other) p.2 (subst P text q.2) in
      cc

  stop_or_take : (count levels : ℕ) (ask : Ask) (fault : ReadAllFault) (decls : List Decl) → Stops reads (Some files) count levels ask fault → Takes reads (Some files) count levels ask decls → ⊥
  stop_or_take count levels ask fault decls (inl p) q =
      let same = one_load files count levels ask.name (Err p.0) (Ok q.0) p.1 q.1 in
      cc
  stop_or_take count levels ask fault decls (inr p) q =
      let same = one_load files count levels ask.name (Ok p.0) (Ok q.0) p.1 q.1 in
      let text : q.0 ≡ p.0 = cc in
      let P : List ℕ → Type 0 = λ t. reads t (Ok decls) in
      let read = single p.0 p.1.1 (Err p.2.0) (Ok decls) p.2.1 (subst P text q.2) in
      cc

  one_enter : (visit : Visit) → IsSingle visit → IsSingle (Enters visit)
  one_enter visit only ask read one other (inl p) (inl q) = only ask read one other p.1 q.1
  one_enter visit only ask read one other (inl p) (inr q) = absurd (q.0 p.0)
  one_enter visit only ask read one other (inr p) (inl q) = absurd (p.0 q.0)
  one_enter visit only ask read one other (inr p) (inr q) = q.1 ∙ sym p.1

  one_end : (go_on : List FileDecls → FilesOutcome → Type 0) → ((read : List FileDecls) (one other : FilesOutcome) → go_on read one → go_on read other → other ≡ one)
      → (met one other : FilesOutcome) → MatchResult met (λ between. go_on between one) (λ fault. one ≡ Err fault)
      → MatchResult met (λ between. go_on between other) (λ fault. other ≡ Err fault) → other ≡ one
  one_end go_on only (Ok between) one other p q = only between one other p q
  one_end go_on only (Err fault) one other p q = q ∙ sym p

  one_step : (visit : Visit) → IsSingle visit → (go_on : List FileDecls → FilesOutcome → Type 0) → ((read : List FileDecls) (one other : FilesOutcome) → go_on read one → go_on read other → other ≡ one)
      → (skipped : Bool) (ask : Ask) (read : List FileDecls) (one other : FilesOutcome)
      → MatchBool skipped (go_on read one) ((met : FilesOutcome) × Enters visit ask read met × MatchResult met (λ between. go_on between one) (λ fault. one ≡ Err fault))
      → MatchBool skipped (go_on read other) ((met : FilesOutcome) × Enters visit ask read met × MatchResult met (λ between. go_on between other) (λ fault. other ≡ Err fault))
      → other ≡ one
  one_step visit only go_on goes true ask read one other p q = goes read one other p q
  one_step visit only go_on goes false ask read one other p q =
      let P : FilesOutcome → Type 0 = λ met. MatchResult met (λ between. go_on between other) (λ fault. other ≡ Err fault) in
      one_end go_on goes p.0 one other p.2 (subst P (one_enter visit only ask read p.0 q.0 p.1 q.1) q.2)

  one_following : (visit : Visit) → IsSingle visit → (file : List ℕ) (includes : List Include) (read : List FileDecls) (one other : FilesOutcome)
      → FollowsIncludes visit file includes read one → FollowsIncludes visit file includes read other → other ≡ one
  one_following visit only file [] read one other p q = q ∙ sym p
  one_following visit only file (include ∷ includes) read one other p q =
      one_step visit only (FollowsIncludes visit file includes) (one_following visit only file includes) (is_skipped include.name read) (ask_in file include) read one other p q

  one_by : (visit : Visit) → IsSingle visit → (levels : ℕ) → IsSingle (VisitsBy visit reads (Some files) levels)
  one_by visit only levels ask read one other (inl p) (inl q) =
      q.2 ∙ (ap Err (one_stop (length read) levels ask p.0 q.0 p.1 q.1) ∙ sym p.2)
  one_by visit only levels ask read one other (inl p) (inr q) = absurd (stop_or_take (length read) levels ask p.0 q.0 p.1 q.1)
  one_by visit only levels ask read one other (inr p) (inl q) = absurd (stop_or_take (length read) levels ask q.0 p.0 q.1 p.1)
  one_by visit only levels ask read one other (inr p) (inr q) =
      let P : List Decl → Type 0 = λ decls. FollowsIncludes visit ask.name (includes_of decls) (with_file read ask decls) other in
      one_following visit only ask.name (includes_of p.0) (with_file read ask p.0) one other p.2
      (subst P (one_take (length read) levels ask p.0 q.0 p.1 q.1) q.2)

  one_visit : (levels : ℕ) → IsSingle (Visits reads (Some files) levels)
  unfolding Visits
  one_visit zero = one_by (λ _ _ _. ⊥) (λ ask read one other p q. absurd p) zero
  one_visit (suc levels) = one_by (Visits reads (Some files) levels) (one_visit levels) (suc levels)

  -- a text by its length, the files before it and the levels left
  some_text : (count levels : ℕ) (name text : List ℕ) → Some text ≡ file_named name files
      → (most_bytes < length text) ⊎ (length text ≤ most_bytes) → (count < most_files) ⊎ (most_files ≤ count) → (0 < levels) ⊎ (levels ≤ 0)
      → (loaded : Result (List ℕ) Refusal) × Loads (Some files) count levels name loaded
  some_text count levels name text is (inl long) many deep = (Err refused.TooLong, (text, is, long))
  some_text count levels name text is (inr short) (inr many) deep = (Err refused.TooManyFiles, (text, is, short, many))
  some_text count levels name text is (inr short) (inl few) (inr deep) = (Err refused.TooDeep, (text, is, short, few, omega arith))
  some_text count levels name text is (inr short) (inl few) (inl left) = (Ok text, (is, short, few, left))

  -- the answer to each name
  some_load : (count levels : ℕ) (name : List ℕ) (held : Option (List ℕ)) → held ≡ file_named name files
      → (loaded : Result (List ℕ) Refusal) × Loads (Some files) count levels name loaded
  some_load count levels name None is = (Err refused.Absent, is)
  some_load count levels name (Some text) is =
      some_text count levels name text is (cases_lt most_bytes (length text)) (cases_lt count most_files) (cases_lt 0 levels)

  some_enter : (visit : Visit) → ((ask : Ask) (read : List FileDecls) → (outcome : FilesOutcome) × visit ask read outcome)
      → (ask : Ask) (read : List FileDecls) (text : Bool) → is_utf8 ask.name ≡ text → (outcome : FilesOutcome) × Enters visit ask read outcome
  some_enter visit has ask read true is = ((has ask read).0, inl (IsUtf8-from_is_utf8 ask.name is, (has ask read).1))
  some_enter visit has ask read false is =
      (Err (all.Absent ask.file ask.at), inr ((λ utf8. let yes = is_utf8-from_IsUtf8 ask.name utf8 in cc), refl))

  some_end : (go_on : List FileDecls → FilesOutcome → Type 0) → ((read : List FileDecls) → (outcome : FilesOutcome) × go_on read outcome)
      → (met : FilesOutcome) → (outcome : FilesOutcome) × MatchResult met (λ between. go_on between outcome) (λ fault. outcome ≡ Err fault)
  some_end go_on goes (Ok between) = goes between
  some_end go_on goes (Err fault) = (Err fault, refl)

  some_step : (visit : Visit) → ((ask : Ask) (read : List FileDecls) → (outcome : FilesOutcome) × visit ask read outcome)
      → (go_on : List FileDecls → FilesOutcome → Type 0) → ((read : List FileDecls) → (outcome : FilesOutcome) × go_on read outcome)
      → (skipped : Bool) (ask : Ask) (read : List FileDecls) → (outcome : FilesOutcome)
      × MatchBool skipped (go_on read outcome) ((met : FilesOutcome) × Enters visit ask read met × MatchResult met (λ between. go_on between outcome) (λ fault. outcome ≡ Err fault))
  some_step visit has go_on goes true ask read = goes read
  some_step visit has go_on goes false ask read =
      let entered = some_enter visit has ask read (is_utf8 ask.name) refl in
      let ended = some_end go_on goes entered.0 in
      (ended.0, (entered.0, entered.1, ended.1))

  some_following : (visit : Visit) → ((ask : Ask) (read : List FileDecls) → (outcome : FilesOutcome) × visit ask read outcome)
      → (file : List ℕ) (includes : List Include) (read : List FileDecls) → (outcome : FilesOutcome) × FollowsIncludes visit file includes read outcome
  some_following visit has file [] read = (Ok read, refl)
  some_following visit has file (include ∷ includes) read =
      some_step visit has (FollowsIncludes visit file includes) (some_following visit has file includes) (is_skipped include.name read) (ask_in file include) read

  some_read : (inner : Visit) → ((ask : Ask) (read : List FileDecls) → (outcome : FilesOutcome) × inner ask read outcome)
      → (levels : ℕ) (ask : Ask) (read : List FileDecls) (text : List ℕ) → Loads (Some files) (length read) levels ask.name (Ok text)
      → (result : Result (List Decl) TextFail) → reads text result → IfErr result (λ fail. IsSome (fail_kind fail))
      → (outcome : FilesOutcome) × VisitsBy inner reads (Some files) levels ask read outcome
  some_read inner has levels ask read text loaded (Ok decls) is told =
      let followed = some_following inner has ask.name (includes_of decls) (with_file read ask decls) in
      (followed.0, inr (decls, (text, loaded, is), followed.1))
  some_read inner has levels ask read text loaded (Err wrong) is told =
      (Err (faulty ask.name wrong), inl (faulty ask.name wrong, inr (text, loaded, (wrong, is, told, refl)), refl))

  some_by : (inner : Visit) → ((ask : Ask) (read : List FileDecls) → (outcome : FilesOutcome) × inner ask read outcome)
      → (levels : ℕ) (ask : Ask) (read : List FileDecls) (loaded : Result (List ℕ) Refusal) → Loads (Some files) (length read) levels ask.name loaded
      → (outcome : FilesOutcome) × VisitsBy inner reads (Some files) levels ask read outcome
  some_by inner has levels ask read (Ok text) loads =
      let one = has_one text loads.1 in some_read inner has levels ask read text loads one.0 one.1.is one.2
  some_by inner has levels ask read (Err refusal) loads =
      (Err (fault_at refusal ask), inl (fault_at refusal ask, inl (refusal, loads, refl), refl))

  -- with no level left the file isn't read
  some_last : (ask : Ask) (read : List FileDecls) (loaded : Result (List ℕ) Refusal) → Loads (Some files) (length read) 0 ask.name loaded
      → (outcome : FilesOutcome) × VisitsBy (λ _ _ _. ⊥) reads (Some files) 0 ask read outcome
  some_last ask read (Ok text) loads = absurd (let none : 0 < 0 = loads.3 in omega arith)
  some_last ask read (Err refusal) loads =
      (Err (fault_at refusal ask), inl (fault_at refusal ask, inl (refusal, loads, refl), refl))

  some_visit : (levels : ℕ) (ask : Ask) (read : List FileDecls) → (outcome : FilesOutcome) × Visits reads (Some files) levels ask read outcome
  unfolding Visits
  some_visit zero ask read =
      let loaded = some_load (length read) 0 ask.name (file_named ask.name files) refl in some_last ask read loaded.0 loaded.1
  some_visit (suc levels) ask read =
      let loaded = some_load (length read) (suc levels) ask.name (file_named ask.name files) refl in
      some_by (Visits reads (Some files) levels) (some_visit levels) (suc levels) ask read loaded.0 loaded.1

pub one_outcome : (reads : Reading) → FilesHaveOneOutcome reads
one_outcome reads = λ has_one files name.
    let some = some_visit reads has_one files (deepest + 1) (first_ask name) [] in
    (some.0, record { is = some.1; only = λ other q. one_visit reads has_one files (deepest + 1) (first_ask name) [] some.0 other some.1 q })

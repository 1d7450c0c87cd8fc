-- A file is read with those that it includes, or has a first fault, which has a kind, a file and a place.
use Rattle.std.proofs.Common.{◌≡◌, ℕ, zero, suc, Bool, true, false, List, [], ◌∷◌, length, refl, sym, subst, inl, inr}
use Rattle.std.specs.Prelude.{Option, Some, None, Ok, Err, MatchResult, MatchBool, IsSome}
use Rattle.eu_io.specs.declared.shelf.FileEntry.{FileEntry}
use Rattle.nddl_ast.specs.declared.declaration.FileDecls.{FileDecls}
use Rattle.nddl_ast.specs.declared.kind.TextKind.{TextKind}
use Rattle.nddl_ast.specs.declared.kind.TextKind.TheVariants as kinds
use Rattle.nddl_lexer.specs.declared.kinds.LexFault.{LexFault}
use Rattle.nddl_lexer.specs.declared.kinds.LexFault.TheVariants as lexer
use Rattle.nddl_lexer.specs.Faults.{lex_kind}
use Rattle.nddl_parser.specs.GrammarFaults.{parse_kind}
use Rattle.nddl_parser.specs.declared.parsing.ParseFault.{ParseFault}
use Rattle.nddl_parser.specs.declared.parsing.ParseFault.TheVariants as parser
use Rattle.nddl_parser.specs.declared.include.Ask.{Ask}
use Rattle.nddl_parser.specs.declared.include.Include.{Include}
use Rattle.nddl_parser.specs.declared.fault.Refusal.{Refusal}
use Rattle.nddl_parser.specs.declared.fault.Refusal.TheVariants as refused
use Rattle.nddl_parser.specs.declared.fault.TextFail.{TextFail}
use Rattle.nddl_parser.specs.declared.fault.TextFail.TheVariants as text
use Rattle.nddl_parser.specs.declared.fault.ReadAllFault.{ReadAllFault}
use Rattle.nddl_parser.specs.declared.fault.ReadAllFault.TheVariants as all
use Rattle.nddl_parser.specs.Faults.{fail_kind, fail_place, faulty, fault_at, fault_kind, fault_file, fault_place}
use Rattle.nddl_parser.specs.Includes.{includes_of, is_skipped, ask_in}
use Rattle.nddl_parser.specs.Language.{ReadsAs}
use Rattle.nddl_parser.specs.Outcomes.{FilesOutcome}
use Rattle.nddl_parser.specs.Visits.{Stops, Visit, Enters, FollowsIncludes, with_file, VisitsBy, Visits}
use Rattle.run_load.specs.Posing.{PosedFault}

-- ---- faults have kinds

refused_kind : (refusal : Refusal) (ask : Ask) → IsSome (fault_kind (fault_at refusal ask))
refused_kind refused.Absent ask = refl
refused_kind refused.TooLong ask = refl
refused_kind refused.TooManyFiles ask = refl
refused_kind refused.TooDeep ask = refl

failed_kind : (name : List ℕ) (wrong : TextFail) → IsSome (fail_kind wrong) → IsSome (fault_kind (faulty name wrong))
failed_kind name (text.Lex fault) is = is
failed_kind name (text.Parse fault) is = is

same_fault : (one other : ReadAllFault) (outcome : FilesOutcome) → outcome ≡ Err one → outcome ≡ Err other → other ≡ one
same_fault one other outcome p q = cc

not_read : (wrong : ReadAllFault) (read : List FileDecls) (outcome : FilesOutcome) → outcome ≡ Err wrong → outcome ≡ Ok read → ⊥
not_read wrong read outcome p q = cc

stopped_kind : (files : Option (List FileEntry)) (count levels : ℕ) (ask : Ask) (fault : ReadAllFault) → Stops ReadsAs files count levels ask fault
    → IsSome (fault_kind fault)
stopped_kind files count levels ask fault (inl p) = subst (λ (f : ReadAllFault). IsSome (fault_kind f)) (sym p.2) (refused_kind p.0 ask)
stopped_kind files count levels ask fault (inr p) = subst (λ (f : ReadAllFault). IsSome (fault_kind f)) (sym p.2.3) (failed_kind ask.name p.2.0 p.2.2)

-- each fault of such visits has a kind
abbrev TellsKinds : Visit → Type 0
TellsKinds visit = (ask : Ask) (read : List FileDecls) (wrong : ReadAllFault) → visit ask read (Err wrong) → IsSome (fault_kind wrong)

kind_of : (one other : ReadAllFault) → other ≡ one → IsSome (fault_kind other) → IsSome (fault_kind one)
kind_of one other same is = subst (λ (f : ReadAllFault). IsSome (fault_kind f)) same is

entered_kind : (visit : Visit) → TellsKinds visit → TellsKinds (Enters visit)
entered_kind visit tells ask read wrong (inl p) = tells ask read wrong p.1
entered_kind visit tells ask read wrong (inr p) = kind_of wrong (all.Absent ask.file ask.at) (same_fault wrong (all.Absent ask.file ask.at) (Err wrong) refl p.1) refl

module _ (visit : Visit) (tells : TellsKinds visit) where
  module _ (go_on : List FileDecls → FilesOutcome → Type 0) (goes : (read : List FileDecls) (wrong : ReadAllFault) → go_on read (Err wrong) → IsSome (fault_kind wrong))
      (ask : Ask) (read : List FileDecls) (wrong : ReadAllFault) where
    met_kind : (met : FilesOutcome) → Enters visit ask read met
        → MatchResult met (λ between. go_on between (Err wrong)) (λ fault. ◌≡◌ {A = FilesOutcome} (Err wrong) (Err fault)) → IsSome (fault_kind wrong)
    met_kind (Ok between) entered p = goes between wrong p
    met_kind (Err fault) entered p = kind_of wrong fault (same_fault wrong fault (Err wrong) refl p) (entered_kind visit tells ask read fault entered)

    step_kind : (skipped : Bool)
        → MatchBool skipped (go_on read (Err wrong)) ((met : FilesOutcome) × Enters visit ask read met
        × MatchResult met (λ between. go_on between (Err wrong)) (λ fault. ◌≡◌ {A = FilesOutcome} (Err wrong) (Err fault)))
        → IsSome (fault_kind wrong)
    step_kind true p = goes read wrong p
    step_kind false p = met_kind p.0 p.1 p.2

  follows_kind : (file : List ℕ) (includes : List Include) (read : List FileDecls) (wrong : ReadAllFault) → FollowsIncludes visit file includes read (Err wrong)
      → IsSome (fault_kind wrong)
  follows_kind file [] read wrong p = absurd (not_read wrong read (Err wrong) refl p)
  follows_kind file (include ∷ includes) read wrong p =
      step_kind (FollowsIncludes visit file includes) (follows_kind file includes) (ask_in file include) read wrong (is_skipped include.name read) p

  by_kind : (files : Option (List FileEntry)) (levels : ℕ) → TellsKinds (VisitsBy visit ReadsAs files levels)
  by_kind files levels ask read wrong (inl p) =
      kind_of wrong p.0 (same_fault wrong p.0 (Err wrong) refl p.2) (stopped_kind files (length read) levels ask p.0 p.1)
  by_kind files levels ask read wrong (inr p) = follows_kind ask.name (includes_of p.0) (with_file read ask p.0) wrong p.2

pub visits_kind : (files : Option (List FileEntry)) (levels : ℕ) → TellsKinds (Visits ReadsAs files levels)
unfolding Visits
visits_kind files zero = by_kind (λ _ _ _. ⊥) (λ ask read wrong p. absurd p) files zero
visits_kind files (suc levels) = by_kind (Visits ReadsAs files levels) (visits_kind files levels) files (suc levels)

-- ---- and files and places

abbrev pub posed_fault : TextKind → List ℕ → ℕ → PosedFault
posed_fault kind file at = record { kind = kind; file = file; at = at }

-- the fault as it is told
abbrev pub IsToldAs : ReadAllFault → PosedFault → Type 0
IsToldAs wrong fault =
    (fault_kind wrong ≡ Some fault.kind) × (fault_file wrong ≡ Some fault.file) × (fault_place wrong ≡ Some fault.at)

no_kind : IsSome {T = TextKind} None → ⊥
no_kind is = let e : false ≡ true = is in cc

lex_told : (file : List ℕ) (fault : LexFault) → IsSome (lex_kind fault) → (told : PosedFault) × IsToldAs (all.Lex file fault) told
lex_told file (lexer.BadByte at) is = (posed_fault kinds.BadByte file at, (refl, refl, refl))
lex_told file (lexer.OpenComment at) is = (posed_fault kinds.OpenComment file at, (refl, refl, refl))
lex_told file (lexer.OutOfRange at) is = (posed_fault kinds.OutOfRange file at, (refl, refl, refl))
lex_told file lexer.Memory is = absurd (no_kind is)

parse_told : (file : List ℕ) (fault : ParseFault) → IsSome (parse_kind fault) → (told : PosedFault) × IsToldAs (all.Parse file fault) told
parse_told file (parser.Syntax at) is = (posed_fault kinds.Syntax file at, (refl, refl, refl))
parse_told file (parser.TooDeep at) is = (posed_fault kinds.LimitNesting file at, (refl, refl, refl))
parse_told file parser.Memory is = absurd (no_kind is)

pub told_fault : (wrong : ReadAllFault) → IsSome (fault_kind wrong) → (told : PosedFault) × IsToldAs wrong told
told_fault (all.Absent file at) is = (posed_fault kinds.Absent file at, (refl, refl, refl))
told_fault (all.TooLong file at) is = (posed_fault kinds.LimitBytes file at, (refl, refl, refl))
told_fault (all.TooManyFiles file at) is = (posed_fault kinds.LimitFiles file at, (refl, refl, refl))
told_fault (all.TooDeep file at) is = (posed_fault kinds.LimitDepth file at, (refl, refl, refl))
told_fault (all.Lex file fault) is = lex_told file fault is
told_fault (all.Parse file fault) is = parse_told file fault is
told_fault all.ReadFault is = absurd (no_kind is)
told_fault all.Memory is = absurd (no_kind is)

-- ---- what is wrong in one text

-- the kind and the place of what is wrong in a text
abbrev pub IsPlacedFail : TextFail → Type 0
IsPlacedFail wrong = (kind : TextKind) × ((place : ℕ) × ((fail_kind wrong ≡ Some kind) × (fail_place wrong ≡ Some place)))

pub placed_fail : (wrong : TextFail) → IsSome (fail_kind wrong) → IsPlacedFail wrong
placed_fail (text.Lex (lexer.BadByte at)) is = (kinds.BadByte, (at, (refl, refl)))
placed_fail (text.Lex (lexer.OpenComment at)) is = (kinds.OpenComment, (at, (refl, refl)))
placed_fail (text.Lex (lexer.OutOfRange at)) is = (kinds.OutOfRange, (at, (refl, refl)))
placed_fail (text.Lex lexer.Memory) is = absurd (no_kind is)
placed_fail (text.Parse (parser.Syntax at)) is = (kinds.Syntax, (at, (refl, refl)))
placed_fail (text.Parse (parser.TooDeep at)) is = (kinds.LimitNesting, (at, (refl, refl)))
placed_fail (text.Parse parser.Memory) is = absurd (no_kind is)

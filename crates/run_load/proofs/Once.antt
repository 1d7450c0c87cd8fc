-- What a file poses is one, and is sound.
use Rattle.std.proofs.Common.{◌≡◌, ℕ, List, [], ◌∷◌, ◌++◌, Some, Result, Ok, Err, ◌⊎◌, inl, inr, refl, sym, ap, ◌∙◌, subst}
use Rattle.eu_io.specs.declared.shelf.FileEntry.{FileEntry}
use Rattle.model_core.specs.declared.decision.Decision.{Decision}
use Rattle.model_core.specs.declared.model.Model.{Model}
use Rattle.model_core.specs.declared.model.Placed.{Placed}
use Rattle.model_core.specs.History.{standing}
use Rattle.model_core.specs.State.{State}
use Rattle.nddl_ast.specs.declared.declaration.FileDecls.{FileDecls}
use Rattle.nddl_ast.specs.declared.fault.TextFault.{TextFault}
use Rattle.nddl_ast.specs.declared.fault.TextFault.TheVariants as texts
use Rattle.nddl_ast.specs.declared.kind.TextKind.{TextKind}
use Rattle.nddl_ast.specs.declared.kind.TextKind.TheVariants as kinds
use Rattle.nddl_parser.specs.declared.fault.ReadAllFault.{ReadAllFault}
use Rattle.nddl_parser.specs.Faults.{fault_kind, fault_file, fault_place}
use Rattle.nddl_parser.specs.Outcomes.{FilesOutcome}
use Rattle.nddl_parser.specs.Visits.{ReadsAll}
use Rattle.nddl_parser.proofs.OneOutcome.{one_outcome}
use Rattle.nddl_parser.specs.Language.{ReadsAs}
use Rattle.nddl_parser.proofs.OneReading.{one_reading}
use Rattle.nddl_problem.specs.Told.{IsCompiled, IsFirstFault}
use Rattle.nddl_problem.proofs.OneAnswer.{one_answer}
use Rattle.plan_defs.specs.Refusals.{Hinders, IsRefused, IsAdmissible}
use Rattle.model_core.specs.declared.refusal.Refusal.{Refusal}
use Rattle.plan_defs.proofs.Settling.{least_same, least_not_collapsed}
use Rattle.plan_defs.proofs.Histories.{accepted_is}
use Rattle.plan_db.specs.Database.{Database, IsSound}
use Rattle.run_load.specs.Laws.{IsPosedOnce, PosedIsSound}
use Rattle.run_load.specs.Posing.{undecided, with_step, TakesText, MayNotTake, IsTextDecisionFault, PosedFault, IsPosed, IsReadFault, IsModelFault, IsDecisionFault}

-- ---- decisions

not_refused : (model : Model) (decisions : List Decision) (decision : Decision) (reason : Refusal) → IsAdmissible model decisions decision
    → IsRefused model decisions decision reason → ⊥
not_refused model decisions decision reason may refused =
    may.free reason
    (subst (λ (s : State). Hinders model decisions s reason decision)
    (least_same model decisions refused.state may.state refused.least may.least) refused.refusal.hinders)

-- a decision that may be taken isn't one that may not
not_both : (there : Database) (decision : Decision) (kind : TextKind) → IsAdmissible there.model (standing there.history) decision
    → MayNotTake there decision kind → ⊥
not_both there decision kinds.NotAdmissible may wrong = not_refused there.model (standing there.history) decision wrong.0 may wrong.1
not_both there decision kinds.AfterConflict may wrong =
    least_not_collapsed there.model (standing there.history) may.state may.least wrong
not_both there decision kind may wrong = wrong

-- it may not be taken for one kind
one_kind : (there : Database) (decision : Decision) (one other : TextKind) → MayNotTake there decision one
    → MayNotTake there decision other → one ≡ other
one_kind there decision kinds.NotAdmissible kinds.NotAdmissible p q = refl
one_kind there decision kinds.AfterConflict kinds.AfterConflict p q = refl
one_kind there decision kinds.NotAdmissible kinds.AfterConflict p q =
    absurd (least_not_collapsed there.model (standing there.history) p.1.state p.1.least q)
one_kind there decision kinds.AfterConflict kinds.NotAdmissible p q =
    absurd (least_not_collapsed there.model (standing there.history) q.1.state q.1.least p)
one_kind there decision kinds.NotAdmissible other p q = absurd q
one_kind there decision kinds.AfterConflict other p q = absurd q
one_kind there decision one other p q = absurd p

text_once : (start one other : Database) (decisions : List Placed) → TakesText start decisions one → TakesText start decisions other
    → one ≡ other
text_once start one other [] p q = p ∙ sym q
text_once start one other (placed ∷ more) p q = text_once (with_step start placed.decision) one other more p.1 q.1

-- not all are taken where one may not be
not_whole : (start end there : Database) (before behind : List Placed) (placed : Placed) (kind : TextKind) → TakesText start before there
    → MayNotTake there placed.decision kind → TakesText start (before ++ placed ∷ behind) end → ⊥
not_whole start end there [] behind placed kind same wrong all =
    not_both start placed.decision kind all.0 (subst (λ (d : Database). MayNotTake d placed.decision kind) same wrong)
not_whole start end there (first ∷ before) behind placed kind takes wrong all =
    not_whole (with_step start first.decision) end there before behind placed kind takes.1 wrong all.1

-- the first that may not be taken is one
first_same : (start there that : Database) (before front behind rest : List Placed) (placed other : Placed) (kind name : TextKind)
    → before ++ placed ∷ behind ≡ front ++ other ∷ rest → TakesText start before there → TakesText start front that
    → MayNotTake there placed.decision kind → MayNotTake that other.decision name → (placed ≡ other) × (kind ≡ name)
first_same start there that [] [] behind rest placed other kind name is one two p q =
    let same : placed ≡ other = cc in
    let here : MayNotTake start placed.decision kind = subst (λ (d : Database). MayNotTake d placed.decision kind) one p in
    let now : MayNotTake start other.decision name = subst (λ (d : Database). MayNotTake d other.decision name) two q in
    let back : MayNotTake start placed.decision name = subst (λ (x : Placed). MayNotTake start x.decision name) (sym same) now in
    (same, one_kind start placed.decision kind name here back)
first_same start there that [] (second ∷ front) behind rest placed other kind name is one two p q =
    let same : second ≡ placed = cc in
    let here : MayNotTake start placed.decision kind = subst (λ (d : Database). MayNotTake d placed.decision kind) one p in
    let may : IsAdmissible start.model (standing start.history) placed.decision =
    subst (λ (x : Placed). IsAdmissible start.model (standing start.history) x.decision) same two.0 in
    absurd (not_both start placed.decision kind may here)
first_same start there that (first ∷ before) [] behind rest placed other kind name is one two p q =
    let same : first ≡ other = cc in
    let now : MayNotTake start other.decision name = subst (λ (d : Database). MayNotTake d other.decision name) two q in
    let may : IsAdmissible start.model (standing start.history) other.decision =
    subst (λ (x : Placed). IsAdmissible start.model (standing start.history) x.decision) same one.0 in
    absurd (not_both start other.decision name may now)
first_same start there that (first ∷ before) (second ∷ front) behind rest placed other kind name is one two p q =
    let same : second ≡ first = cc in
    let tail : before ++ placed ∷ behind ≡ front ++ other ∷ rest = cc in
    let later : TakesText (with_step start first.decision) front that =
    subst (λ (x : Placed). TakesText (with_step start x.decision) front that) same two.1 in
    first_same (with_step start first.decision) there that before front behind rest placed other kind name tail one.1 later p q

-- ---- files

one_read : (files : List FileEntry) (name : List ℕ) (one other : FilesOutcome) → ReadsAll ReadsAs (Some files) name one
    → ReadsAll ReadsAs (Some files) name other → one ≡ other
one_read files name one other p q =
    let only = (one_outcome ReadsAs one_reading files name).1 in
    only.only one p ∙ sym (only.only other q)

same_read : (files : List FileEntry) (name : List ℕ) (one other : List FileDecls) → ReadsAll ReadsAs (Some files) name (Ok one)
    → ReadsAll ReadsAs (Some files) name (Ok other) → one ≡ other
same_read files name one other p q = let same = one_read files name (Ok one) (Ok other) p q in let e : one ≡ other = cc in e

same_wrong : (files : List FileEntry) (name : List ℕ) (one other : ReadAllFault) → ReadsAll ReadsAs (Some files) name (Err one)
    → ReadsAll ReadsAs (Some files) name (Err other) → one ≡ other
same_wrong files name one other p q = let same = one_read files name (Err one) (Err other) p q in let e : one ≡ other = cc in e

not_both_read : (files : List FileEntry) (name : List ℕ) (read : List FileDecls) (wrong : ReadAllFault)
    → ReadsAll ReadsAs (Some files) name (Ok read) → ReadsAll ReadsAs (Some files) name (Err wrong) → ⊥
not_both_read files name read wrong p q =
    let same = one_read files name (Ok read) (Err wrong) p q in let no : ⊥ = cc in no

same_models : (one other : List FileDecls) (model second : Model) → one ≡ other → IsCompiled one model → IsCompiled other second
    → model ≡ second
same_models one other model second read p q =
    let here : IsCompiled one second = subst (λ (l : List FileDecls). IsCompiled l second) (sym read) q in
    let same : Ok model ≡ Ok second = one_answer one (Ok model) (Ok second) p here (λ e. cc) (λ e. cc) in
    let e : model ≡ second = cc in e

not_both_compiled : (one other : List FileDecls) (model : Model) (kind : TextKind) (file : List ℕ) (at : ℕ) → one ≡ other
    → IsCompiled one model → IsFirstFault other (texts.At kind file at) → ⊥
not_both_compiled one other model kind file at read p q =
    let here : IsFirstFault one (texts.At kind file at) =
    subst (λ (l : List FileDecls). IsFirstFault l (texts.At kind file at)) (sym read) q in
    let same : Ok model ≡ Err (texts.At kind file at) =
    one_answer one (Ok model) (Err (texts.At kind file at)) p here (λ e. cc) (λ e. cc) in
    let no : ⊥ = cc in no

abbrev fault_of : TextKind → List ℕ → ℕ → PosedFault
fault_of kind file at = record { kind = kind; file = file; at = at }

same_faults : (kind name : TextKind) (file other : List ℕ) (at place : ℕ) → kind ≡ name → file ≡ other → at ≡ place
    → fault_of kind file at ≡ fault_of name other place
same_faults kind name file other at place kinds files places =
    ap (λ k. fault_of k file at) kinds ∙ (ap (λ f. fault_of name f at) files ∙ ap (fault_of name other) places)

same_first : (one other : List FileDecls) (kind name : TextKind) (file second : List ℕ) (at place : ℕ) → one ≡ other
    → IsFirstFault one (texts.At kind file at) → IsFirstFault other (texts.At name second place)
    → fault_of kind file at ≡ fault_of name second place
same_first one other kind name file second at place read p q =
    let here : IsFirstFault one (texts.At name second place) =
    subst (λ (l : List FileDecls). IsFirstFault l (texts.At name second place)) (sym read) q in
    let first : Result Model TextFault = Err (texts.At kind file at) in
    let last : Result Model TextFault = Err (texts.At name second place) in
    let same : first ≡ last = one_answer one first last p here (λ e. cc) (λ e. cc) in
    let kinds : kind ≡ name = cc in
    let files : file ≡ second = cc in
    let places : at ≡ place = cc in
    same_faults kind name file second at place kinds files places

-- ---- what is posed

one_database : (files : List FileEntry) (name : List ℕ) (one other : Database) → IsPosed files name one → IsPosed files name other
    → one ≡ other
one_database files name one other p q =
    let read = same_read files name p.read q.read p.reads q.reads in
    let model = same_models p.read q.read p.model q.model read p.compiled q.compiled in
    let here : TakesText (undecided p.model) p.model.problem.decisions other =
    subst (λ (m : Model). TakesText (undecided m) m.problem.decisions other) (sym model) q.takes in
    text_once (undecided p.model) one other p.model.problem.decisions p.takes here

not_posed : (files : List FileEntry) (name : List ℕ) (database : Database) (fault : PosedFault) → IsPosed files name database
    → IsReadFault files name fault ⊎ (IsModelFault files name fault ⊎ IsDecisionFault files name fault) → ⊥
not_posed files name database fault p (inl q) = not_both_read files name p.read q.wrong p.reads q.stops
not_posed files name database fault p (inr (inl q)) =
    not_both_compiled p.read q.read p.model fault.kind fault.file fault.at (same_read files name p.read q.read p.reads q.reads)
    p.compiled q.first
not_posed files name database fault p (inr (inr q)) =
    let read = same_read files name p.read q.read p.reads q.reads in
    let model = same_models p.read q.read p.model q.model read p.compiled q.compiled in
    let here : TakesText (undecided q.model) q.model.problem.decisions database =
    subst (λ (m : Model). TakesText (undecided m) m.problem.decisions database) model p.takes in
    not_whole (undecided q.model) database q.first.there q.first.before q.first.behind q.placed fault.kind q.first.takes q.first.may_not
    (subst (λ (l : List Placed). TakesText (undecided q.model) l database) q.first.parts here)

one_read_fault : (files : List FileEntry) (name : List ℕ) (one other : PosedFault) → IsReadFault files name one
    → IsReadFault files name other → one ≡ other
one_read_fault files name one other p q =
    let wrong = same_wrong files name p.wrong q.wrong p.stops q.stops in
    let kind : Some one.kind ≡ Some other.kind = sym p.kind ∙ (ap fault_kind wrong ∙ q.kind) in
    let file : Some one.file ≡ Some other.file = sym p.file ∙ (ap fault_file wrong ∙ q.file) in
    let at : Some one.at ≡ Some other.at = sym p.at ∙ (ap fault_place wrong ∙ q.at) in
    let kinds : one.kind ≡ other.kind = cc in
    let names : one.file ≡ other.file = cc in
    let places : one.at ≡ other.at = cc in
    same_faults one.kind other.kind one.file other.file one.at other.at kinds names places

one_decision_fault : (files : List FileEntry) (name : List ℕ) (one other : PosedFault) → IsDecisionFault files name one
    → IsDecisionFault files name other → one ≡ other
one_decision_fault files name one other p q =
    let read = same_read files name p.read q.read p.reads q.reads in
    let model = same_models p.read q.read p.model q.model read p.compiled q.compiled in
    let here : IsTextDecisionFault (undecided p.model) p.model.problem.decisions other.kind q.placed =
    subst (λ (m : Model). IsTextDecisionFault (undecided m) m.problem.decisions other.kind q.placed) (sym model) q.first in
    let same = first_same (undecided p.model) p.first.there here.there p.first.before here.before p.first.behind here.behind
    p.placed q.placed one.kind other.kind (sym p.first.parts ∙ here.parts) p.first.takes here.takes p.first.may_not here.may_not in
    same_faults one.kind other.kind one.file other.file one.at other.at same.1
    (p.file ∙ (ap (λ (x : Placed). x.file) same.0 ∙ sym q.file)) (p.at ∙ (ap (λ (x : Placed). x.at) same.0 ∙ sym q.at))

-- a fault of compiling and one of a decision don't go together
not_model_and_decision : (files : List FileEntry) (name : List ℕ) (one other : PosedFault) → IsModelFault files name one
    → IsDecisionFault files name other → ⊥
not_model_and_decision files name one other p q =
    not_both_compiled q.read p.read q.model one.kind one.file one.at (same_read files name q.read p.read q.reads p.reads)
    q.compiled p.first

one_fault : (files : List FileEntry) (name : List ℕ) (one other : PosedFault)
    → IsReadFault files name one ⊎ (IsModelFault files name one ⊎ IsDecisionFault files name one)
    → IsReadFault files name other ⊎ (IsModelFault files name other ⊎ IsDecisionFault files name other) → one ≡ other
one_fault files name one other (inl p) (inl q) = one_read_fault files name one other p q
one_fault files name one other (inl p) (inr (inl q)) = absurd (not_both_read files name q.read p.wrong q.reads p.stops)
one_fault files name one other (inl p) (inr (inr q)) = absurd (not_both_read files name q.read p.wrong q.reads p.stops)
one_fault files name one other (inr (inl p)) (inl q) = absurd (not_both_read files name p.read q.wrong p.reads q.stops)
one_fault files name one other (inr (inr p)) (inl q) = absurd (not_both_read files name p.read q.wrong p.reads q.stops)
one_fault files name one other (inr (inl p)) (inr (inl q)) =
    same_first p.read q.read one.kind other.kind one.file other.file one.at other.at
    (same_read files name p.read q.read p.reads q.reads) p.first q.first
one_fault files name one other (inr (inl p)) (inr (inr q)) = absurd (not_model_and_decision files name one other p q)
one_fault files name one other (inr (inr p)) (inr (inl q)) = absurd (not_model_and_decision files name other one q p)
one_fault files name one other (inr (inr p)) (inr (inr q)) = one_decision_fault files name one other p q

pub one_posed : IsPosedOnce
one_posed files name (Ok one) (Ok other) p q = ap Ok (one_database files name one other p q)
one_posed files name (Ok one) (Err fault) p q = absurd (not_posed files name one fault p q)
one_posed files name (Err fault) (Ok other) p q = absurd (not_posed files name other fault q p)
one_posed files name (Err one) (Err other) p q = ap Err (one_fault files name one other p q)

-- ---- what is posed is sound

text_sound : (start end : Database) (decisions : List Placed) → IsSound start → TakesText start decisions end → IsSound end
text_sound start end [] sound takes = subst IsSound (sym takes) sound
text_sound start end (placed ∷ more) sound takes =
    let next : IsSound (with_step start placed.decision) = record {
      lawful = sound.lawful;
      history = accepted_is start.model start.history placed.decision sound.history takes.0;
    } in
    text_sound (with_step start placed.decision) end more next takes.1

pub posed_sound : PosedIsSound
posed_sound files name database posed =
    text_sound (undecided posed.model) database posed.model.problem.decisions
    (record { lawful = posed.compiled.has.lawful; history = refl }) posed.takes

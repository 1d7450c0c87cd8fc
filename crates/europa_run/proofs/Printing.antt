-- What is printed of files is one.
use Rattle.std.proofs.Common.{◌≡◌, ℕ, List, length, Option, Some, None, Result, Ok, Err, inl, inr, refl, sym, ap, ◌∙◌, subst, arith}
use Rattle.eu_io.specs.declared.shelf.FileEntry.{FileEntry}
use Rattle.model_core.specs.declared.model.Model.{Model}
use Rattle.model_core.specs.Lawful.{IsLawful}
use Rattle.nddl_ast.specs.declared.declaration.Decl.{Decl}
use Rattle.nddl_ast.specs.declared.kind.TextKind.{TextKind}
use Rattle.nddl_parser.specs.declared.fault.TextFail.{TextFail}
use Rattle.nddl_parser.proofs.OneReading.{read_once}
use Rattle.plan_db.specs.Database.{Database}
use Rattle.plan_report.specs.Laws.{TextsAreCheckedOnce}
use Rattle.run_load.specs.Laws.{IsPosedOnce}
use Rattle.run_load.specs.Posing.{PosedFault, IsPosed}
use Rattle.run_commands.specs.Checking.{CheckedOutput, checked_end}
use Rattle.run_commands.specs.Contents.{IsFaulty, HasBytes, ContentOutput}
use Rattle.run_commands.specs.Posing.{PosedOutput}
use Rattle.run_commands.specs.Showing.{ReadingOutput, TextOutput, ShowOutput}
use Rattle.run_commands.specs.declared.status.RunEnd.{RunEnd}
use Rattle.run_commands.specs.Printed.{FaultOutput, fault_line}

-- one text is printed, and the run ends in one way
abbrev pub IsOne : (List ℕ → RunEnd → Type 0) → Type 0
IsOne Prints = (out other : List ℕ) (end last : RunEnd) → Prints out end → Prints other last → (other ≡ out) × (last ≡ end)

fault_one : (kind : TextKind) (file : List ℕ) (place : ℕ) → IsOne (FaultOutput kind file place)
fault_one kind file place out other end last p q = (q.0 ∙ sym p.0, q.1 ∙ sym p.1)

-- ---- single files

some_one : {X : Type 0} (found : Option X) (one other : X) → found ≡ Some one → found ≡ Some other → one ≡ other
some_one found one other p q = let same = sym p ∙ q in cc

none_some : {X : Type 0} (found : Option X) (one : X) → found ≡ None → found ≡ Some one → ⊥
none_some found one p q = cc

module _ (file : List ℕ) (content : Option (List ℕ)) where
  faulty_one : IsOne (IsFaulty file content)
  faulty_one out other end last (inl p) (inl q) = (q.1.0 ∙ sym p.1.0, q.1.1 ∙ sym p.1.1)
  faulty_one out other end last (inl p) (inr q) = absurd (none_some content q.0 p.0 q.1.0)
  faulty_one out other end last (inr p) (inl q) = absurd (none_some content p.0 q.0 p.1.0)
  faulty_one out other end last (inr p) (inr q) = (q.1.2.0 ∙ sym p.1.2.0, q.1.2.1 ∙ sym p.1.2.1)

  faulty_no_bytes : (bytes out : List ℕ) (end : RunEnd) → IsFaulty file content out end → HasBytes content bytes → ⊥
  faulty_no_bytes bytes out end (inl p) q = none_some content bytes p.0 q.0
  faulty_no_bytes bytes out end (inr p) q = let same = ap length (some_one content p.0 bytes p.1.0 q.0) in omega (arith, same, p.1.1, q.1)

  content_one : (BytesOutput : List ℕ → List ℕ → RunEnd → Type 0) → ((bytes : List ℕ) → IsOne (BytesOutput bytes)) → IsOne (ContentOutput file content BytesOutput)
  content_one BytesOutput once out other end last (inl p) (inl q) = faulty_one out other end last p q
  content_one BytesOutput once out other end last (inl p) (inr q) = absurd (faulty_no_bytes q.0 out end p q.1.0)
  content_one BytesOutput once out other end last (inr p) (inl q) = absurd (faulty_no_bytes p.0 other last q p.1.0)
  content_one BytesOutput once out other end last (inr p) (inr q) =
      let same = some_one content q.0 p.0 q.1.0.0 p.1.0.0 in
      once p.0 out other end last p.1.1 (subst (λ (bytes : List ℕ). BytesOutput bytes other last) same q.1.1)

-- ---- what files pose

ok_err : (posed : Result Database PosedFault) (database : Database) (fault : PosedFault) → posed ≡ Ok database → posed ≡ Err fault → ⊥
ok_err posed database fault p q = cc

ok_one : (posed : Result Database PosedFault) (one other : Database) → posed ≡ Ok one → posed ≡ Ok other → one ≡ other
ok_one posed one other p q = let same = sym p ∙ q in cc

err_one : (posed : Result Database PosedFault) (one other : PosedFault) → posed ≡ Err one → posed ≡ Err other → one ≡ other
err_one posed one other p q = let same = sym p ∙ q in cc

module _ (posed_once : IsPosedOnce) (files : List FileEntry) (file : List ℕ) where
  pub database_one : (one other : Database) → IsPosed files file one → IsPosed files file other → one ≡ other
  database_one one other p q = ok_one (Ok one) one other refl (posed_once files file (Ok one) (Ok other) p q)

  -- what is printed of the database is printed, where the files pose one
  pub posed_output : (DatabaseOutput : Database → List ℕ → RunEnd → Type 0) (database : Database) (out : List ℕ) (end : RunEnd) → IsPosed files file database
      → PosedOutput files file DatabaseOutput out end → DatabaseOutput database out end
  posed_output DatabaseOutput database out end posed (inl p) = absurd (ok_err (Ok database) database p.0 refl (posed_once files file (Ok database) (Err p.0) posed p.1.0))
  posed_output DatabaseOutput database out end posed (inr p) = subst (λ (d : Database). DatabaseOutput d out end) (database_one p.0 database p.1.0 posed) p.1.1

  pub posed_one : (DatabaseOutput : Database → List ℕ → RunEnd → Type 0) → ((database : Database) → IsPosed files file database → IsOne (DatabaseOutput database))
      → IsOne (PosedOutput files file DatabaseOutput)
  posed_one DatabaseOutput once out other end last (inl p) (inl q) =
      let same = err_one (Err q.0) q.0 p.0 refl (posed_once files file (Err q.0) (Err p.0) q.1.0 p.1.0) in
      fault_one p.0.kind p.0.file p.0.at out other end last p.1.1 (subst (λ (f : PosedFault). FaultOutput f.kind f.file f.at other last) same q.1.1)
  posed_one DatabaseOutput once out other end last (inl p) (inr q) =
      absurd (ok_err (Ok q.0) q.0 p.0 refl (posed_once files file (Ok q.0) (Err p.0) q.1.0 p.1.0))
  posed_one DatabaseOutput once out other end last (inr p) q =
      once p.0 p.1.0 out other end last p.1.1 (posed_output DatabaseOutput p.0 other last p.1.0 q)

-- ---- what is shown and what is checked

reading_one : (file : List ℕ) (reading : Result (List Decl) TextFail) → IsOne (ReadingOutput file reading)
reading_one file (Ok tree) out other end last p q = (q.0 ∙ sym p.0, q.1 ∙ sym p.1)
reading_one file (Err fail) out other end last p q =
    let kinds : q.0 ≡ p.0 = some_one _ _ _ q.1.1.0 p.1.1.0 in
    let places : q.1.0 ≡ p.1.0 = some_one _ _ _ q.1.1.1 p.1.1.1 in
    (q.1.1.2.0 ∙ ((λ i. fault_line (kinds i) file (places i)) ∙ sym p.1.1.2.0), q.1.1.2.1 ∙ sym p.1.1.2.1)

text_one : (file bytes : List ℕ) → IsOne (TextOutput file bytes)
text_one file bytes out other end last p q =
    reading_one file p.0 out other end last p.1.1
    (subst (λ (reading : Result (List Decl) TextFail). ReadingOutput file reading other last) (read_once bytes p.0 q.0 p.1.0 q.1.0) q.1.1)

pub show_one : (file : List ℕ) (content : Option (List ℕ)) → IsOne (ShowOutput file content)
show_one file content = content_one file content (TextOutput file) (text_one file)

checked_one : TextsAreCheckedOnce → (model : Model) → IsLawful model → (text : List ℕ) → IsOne (CheckedOutput model text)
checked_one once model lawful text out other end last p q =
    let both = once model text other out q.0 p.0 lawful q.1.0 p.1.0 in
    (both.0, q.1.1 ∙ (ap checked_end both.1 ∙ sym p.1.1))

pub plan_file_one : TextsAreCheckedOnce → (model : Model) → IsLawful model → (plan : List ℕ) (content : Option (List ℕ)) → IsOne (ContentOutput plan content (CheckedOutput model))
plan_file_one once model lawful plan content = content_one plan content (CheckedOutput model) (checked_one once model lawful)

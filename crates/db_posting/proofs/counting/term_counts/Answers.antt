use Rattle.std.proofs.Common.{sym, subst}
use Rattle.std.specs.Prelude.{◌↔◌, IsTrue}
use Rattle.model_core.specs.Decided.{IsTaken}
use Rattle.db_posting.specs.Counting.{TermCounts}
use Rattle.db_posting.specs.Origins.{content_now, origin_context}
use Rattle.db_posting.proofs.Taking.{here_counts, local_counts, root_counts, iff_trans}
use Rattle.db_posting.proofs.counting.term_counts.Goals as goal

pub returns-in-Here : goal.returns-in-Here
returns-in-Here c = λ decisions states.
    let context = origin_context (content_now c.args.store.now).tokens c.args.origin in
    let model = c.args.model.now in
    subst (λ term. IsTrue c.origin_counts.result ↔ TermCounts model (IsTaken decisions) context term) (sym c.in-Here.is)
    (iff_trans (c.origin_counts.ensures decisions states) (here_counts model (IsTaken decisions) context _))

pub returns-in-Local : goal.returns-in-Local
returns-in-Local c = λ decisions states.
    let context = origin_context (content_now c.args.store.now).tokens c.args.origin in
    let model = c.args.model.now in
    subst (λ term. IsTrue c.origin_counts-in-Local.result ↔ TermCounts model (IsTaken decisions) context term) (sym c.in-Local.is)
    (iff_trans (c.origin_counts-in-Local.ensures decisions states) (local_counts model (IsTaken decisions) context _))

pub returns-in-Root : goal.returns-in-Root
returns-in-Root c = λ decisions states.
    let context = origin_context (content_now c.args.store.now).tokens c.args.origin in
    let model = c.args.model.now in
    subst (λ term. IsTrue c.root_counts.result ↔ TermCounts model (IsTaken decisions) context term) (sym c.in-Root.is)
    (iff_trans (c.root_counts.ensures decisions states) (root_counts model (IsTaken decisions) context _ _))

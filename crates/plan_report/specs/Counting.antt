-- What is counted of a plan.
use Rattle.std.specs.Prelude.{◌≡◌, Bool, true, false, List, ◌++◌, ℕ, codes, count_by}
use Rattle.std.specs.Fmt.{decimal}
use Rattle.plan_defs.specs.declared.plan.Line.{Line}
use Rattle.plan_defs.specs.declared.plan.Line.TheVariants as lines
use Rattle.plan_defs.specs.declared.plan.Plan.{Plan}
use Rattle.plan_report.specs.declared.counting.Counts.{Counts}

-- the line says that its token takes place, as a fact or not
abbrev pub is_active : Line → Bool
is_active (lines.Token name fact values) = true
is_active (lines.Merged name target) = false
is_active (lines.Rejected name) = false
is_active (lines.Local name value) = false

-- the line says that its token is another one
abbrev pub is_merged : Line → Bool
is_merged (lines.Token name fact values) = false
is_merged (lines.Merged name target) = true
is_merged (lines.Rejected name) = false
is_merged (lines.Local name value) = false

-- how many lines of either sort the plan has
abbrev pub AreCounts : Plan → Counts → Type 0
AreCounts plan counts = (counts.active ≡ count_by is_active plan.lines) × (counts.merged ≡ count_by is_merged plan.lines)

-- the two lines that say so
abbrev pub counts_text : Counts → List ℕ
counts_text counts = codes "active " ++ (decimal counts.active ++ (codes "\nmerged " ++ (decimal counts.merged ++ codes "\n")))

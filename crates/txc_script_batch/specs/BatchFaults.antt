-- The fault of the words of a malformed line of a batch's script.
use Rattle.std.specs.Prelude.{◌≡◌, ◌≢◌, ◌⊎◌, ◌<◌, ◌≤◌, ℕ, List, [], ◌∷◌, codes, length}
use Rattle.txc_script.specs.Excerpts.{excerpt_of}
use Rattle.txc_script.specs.LineFaults.{IsKindsFault}
use Rattle.txc_script.specs.declared.line_fault.CommandFault.TheVariants.{Own, Unknown}
use Rattle.txc_script_lines.specs.declared.fault.OwnFault.TheVariants.{Few, Misplaced}
use Rattle.txc_script_lines.specs.declared.name.LineName.{LineName}
use Rattle.txc_script_lines.specs.Names.{name_text}
use Rattle.txc_script_lines.specs.Faults.{IsFaultAfter, WordsFault}
use Rattle.txc_work.specs.declared.job.Job.{Job}
use Rattle.txc_script_batch.specs.Orders.{IsPreparing, job_kinds}
use Rattle.txc_script_batch.specs.declared.reading.TheConstants.{LEAST_WORDS}

-- the fault of the words after `job`: there are too few; else one is not of its kind
abbrev pub IsJobFault : List (List ℕ) → WordsFault → Type 0
IsJobFault words fault =
    ((length words < LEAST_WORDS) × (fault ≡ Own (Few LEAST_WORDS (length words))))
    ⊎ ((LEAST_WORDS ≤ length words) × IsKindsFault (job_kinds words) words fault)

-- the error text states the place of changes and pins
abbrev pub IsMisplaced : WordsFault → Type 0
IsMisplaced (Own (Misplaced text)) = text.now ≡ codes "changes and pins stand before the first job"
IsMisplaced fault = ⊥

-- the fault of a change or a pin: before the first job, that of its words; after one, its place
abbrev pub IsPreparingFault : List Job → LineName → List (List ℕ) → WordsFault → Type 0
IsPreparingFault [] name words fault = IsFaultAfter name words fault
IsPreparingFault (job ∷ jobs) name words fault = IsMisplaced fault

-- The fault of a line's words after lines that requested these jobs: the first is no line's name; else it is in
-- the words after that name, or in the place of the line.
abbrev pub IsBatchFault : List Job → List (List ℕ) → WordsFault → Type 0
IsBatchFault jobs all fault =
    ((word : List ℕ) × (words : List (List ℕ)) × (all ≡ word ∷ words) × (word ≢ codes "job")
    × ((name : LineName) → IsPreparing name → word ≡ name_text name → ⊥) × (fault ≡ Unknown (excerpt_of word)))
    ⊎ (((words : List (List ℕ)) × (all ≡ codes "job" ∷ words) × IsJobFault words fault)
    ⊎ ((name : LineName) × (words : List (List ℕ)) × IsPreparing name × (all ≡ name_text name ∷ words)
    × IsPreparingFault jobs name words fault))

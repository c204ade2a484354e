use Rattle.std.proofs.Common.{◌≡◌, ◌≤◌, length, take}
use Rattle.txc_work.specs.Batches.{result_numbers}
use Rattle.txc_work.proofs.numbering.find_fault.Given as goal

abbrev pub invariant-loop-place : goal.invariant-loop-place
invariant-loop-place l =
    (l.place ≤ length l.results) × (result_numbers (take l.place l.results) ≡ take l.place l.numbers)

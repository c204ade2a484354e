-- The uniqueness of the faults of a batch's lines.
use Rattle.std.specs.Prelude.{ℕ, List}
use Rattle.txc_script.specs.Words.{words_of}
use Rattle.txc_script_lines.specs.Faults.{WordsFault}
use Rattle.txc_work.specs.declared.job.Job.{Job}
use Rattle.txc_script_batch.specs.BatchFaults.{IsBatchFault}
use Rattle.txc_script_batch.specs.Orders.{AsksFor}
use Rattle.txc_script_batch.specs.declared.order.Order.{Order}

-- nothing is wrong with the words of a line that asks for something
abbrev pub NothingIsWrongWithOrders : Type 0
NothingIsWrongWithOrders =
    (jobs : List Job) (line : List ℕ) (order : Order) (fault : WordsFault) → AsksFor jobs line order
    → IsBatchFault jobs (words_of line) fault → ⊥

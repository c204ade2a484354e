use Rattle.txc_script_world.proofs.WrittenOneWay.{written_by_pin_set, written_by_records, written_by_replies}
use Rattle.txc_script_world.proofs.laws.a_line_of_a_world_is_written_one_way.Goals as goal

pub returns : goal.returns
returns c = record { by_replies = written_by_replies; by_pin_set = written_by_pin_set; by_records = written_by_records }

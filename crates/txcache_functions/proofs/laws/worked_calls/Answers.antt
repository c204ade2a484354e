use Rattle.std.proofs.Common.{refl}
use Rattle.std.specs.Fmt.{digits}
use Rattle.txc_app.specs.Eval.{activation, call_below}
use Rattle.txcache_functions.proofs.laws.worked_calls.Goals as goal

pub returns : goal.returns
unfolding activation call_below digits
returns c = record {
  calls = record {
    body = refl;
    no_body = refl;
    bodies = refl;
    more_bodies = refl;
    nested = refl;
    count = refl;
    ids = refl;
    last_id = refl;
    no_ids = refl;
    one_query = refl;
    nested_queries = refl;
    range_query = refl;
    longest = refl;
    longest_length = refl;
  };
  refusals = record { arguments = refl; one_end = refl; itself = refl; endless = refl; too_long = refl; no_function = refl };
}

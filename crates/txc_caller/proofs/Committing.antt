-- What a commit leaves of the ports.
use Rattle.std.proofs.Common.{◌≡◌, ◌∙◌, List, [], ◌∷◌, refl, ap, sym}
use Rattle.txc_rows.specs.declared.query.Change.{Change}
use Rattle.txc_db.specs.DatabaseValue.{DatabaseValue, after_commit, after_event_of, newest_net, newest_state, where_some}
use Rattle.txc_db.specs.History.{commit_event}
use Rattle.txc_caller.specs.Ports.{CallerPorts, AreCallerPorts}

some_events : (d : DatabaseValue) (net : List Change) (other : DatabaseValue) → other.events ≡ d.events → (where_some net d other).events ≡ d.events
some_events d [] other same = refl
some_events d (c ∷ cs) other same = same

-- a commit leaves the row
pub commit_events : (d new : DatabaseValue) (changes : List Change) → new ≡ after_commit d changes → new.events ≡ d.events
commit_events d new changes is = ap (λ (v : DatabaseValue). v.events) is
    ∙ some_events d (newest_net d changes) (after_event_of d (commit_event (newest_state d) changes) (newest_net d changes)) refl

pub ports_with_database : (p : CallerPorts) (d : DatabaseValue) → d.events ≡ p.database.events → AreCallerPorts p → AreCallerPorts (record p { database = d })
ports_with_database p d same are = record {
  cushion = are.cushion ∙ sym same;
  node = are.node ∙ sym same;
  pass = are.pass;
  unstored = are.unstored;
  whole = are.whole;
  within = are.within;
}

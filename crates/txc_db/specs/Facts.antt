-- Events as contracts see them.
use Rattle.std.specs.Prelude.{ℕ, List, []}
use Rattle.txc_tags.specs.declared.tag.Tag.{Tag}
use Rattle.txc_rows.specs.declared.query.Change.{Change}
use Rattle.txc_db.specs.declared.event.What.{What}
use Rattle.txc_db.specs.declared.event.What.TheVariants as whats

-- the net changes of a commit, or the moment of a pin
pub data Fact : Type 0 where
  commit : List Change → Fact
  pin : ℕ → Fact

-- the fact, and its tags
pub record EventValue : Type 0 where
  pub fact : Fact
  pub tags : List Tag

-- the fact as a value
abbrev pub fact_of : What → Fact
fact_of (whats.Commit net) = commit net.items
fact_of (whats.Pin moment) = pin moment

-- the changes that it made
abbrev pub net_of : Fact → List Change
net_of (commit net) = net
net_of (pin moment) = []

use Rattle.std.proofs.Common.{◌≡◌, List, sym, ap, subst, arith, ◌∙◌}
use Rattle.txc_tags.specs.declared.tag.Tag.{Tag}
use Rattle.txc_tags.specs.Tags.{with_tag}
use Rattle.txc_rows.specs.declared.query.Query.{Query}
use Rattle.txc_rows.specs.RowTags.{query_tag}
use Rattle.txc_txn_rw.specs.RwCore.{tags_of}
use Rattle.txc_txn_rw.proofs.rw_core.RwCore.ask.Goals as goal

pub invariant_of-self-2 : goal.invariant_of-self-2
invariant_of-self-2 c = record {
  exact = subst (λ (qs : List Query). c.self.inside.tags ≡ tags_of qs) (sym c.reserve.ensures.items) c.self.invariant.exact;
  few = c.self.invariant.few;
  ready = (
    c.in_ok-add.ensures.after ∙ ap (λ (t : Tag). with_tag t c.in_ok-tags.tags) c.tag.ensures ∙ ap (λ (set : List Tag). with_tag (query_tag c.args.query.now) set) c.in_ok-tags.ensures,
    let room = c.in_ok-reserve.ensures.ok in omega (arith, room),
  );
}

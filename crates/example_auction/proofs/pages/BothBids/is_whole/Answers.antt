use Rattle.std.proofs.lemmas.Bool.{false≢true}
use Rattle.std.proofs.lemmas.Bool.Decides.{Decides-eqb}
use Rattle.std.proofs.lemmas.Slice.Eq.{strip_suffix_is}
use Rattle.example_auction.proofs.Shown.{left, none_left, whole_if, whole_only_if}
use Rattle.example_auction.proofs.pages.BothBids.is_whole.Goals as goal

pub returns-in-Some : goal.returns-in-Some
returns-in-Some c =
    let page = c.args.self.now.page in
    let bid = c.args.self.now.highest in
    let before = c.in-Some.before.now in
    let cut = strip_suffix_is Decides-eqb c.bytes.result.now c.bytes-2.result.now c.strip_suffix.result c.strip_suffix.ensures.cases in
    let stripped = left page bid _ _ c.strip_suffix.result cut c.bytes.ensures.answer c.bytes-2.ensures.answer c.in-Some.before c.in-Some.is in
    let tested = c.ends_with.ensures.value in (
      whole_if page bid before stripped c.ends_with.result tested,
      λ whole. whole_only_if page bid before stripped c.ends_with.result tested whole.0 whole.1,
    )

pub returns-in-None : goal.returns-in-None
returns-in-None c =
    let page = c.args.self.now.page in
    let bid = c.args.self.now.highest in
    let cut = strip_suffix_is Decides-eqb c.bytes.result.now c.bytes-2.result.now c.strip_suffix.result c.strip_suffix.ensures.cases in (
      λ no. absurd (false≢true no),
      λ whole. absurd (none_left page bid _ _ c.strip_suffix.result cut c.bytes.ensures.answer c.bytes-2.ensures.answer c.in-None.is whole.0 whole.1),
    )

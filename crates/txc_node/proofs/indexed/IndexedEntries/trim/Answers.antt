use Rattle.std.proofs.Common.{◌≡◌, ◌≤◌, List, length, take, sym, ap, subst, ◌∙◌, arith}
use Rattle.txc_node.specs.declared.entry.Entry.{Entry}
use Rattle.txc_node.specs.Cache.{bytes_of, staying_count}
use Rattle.txc_node.proofs.Trims.{staying_is}
use Rattle.txc_node.proofs.indexed.IndexedEntries.trim.Goals as goal

pub returns-clause-entries : goal.returns-clause-entries
returns-clause-entries c =
    let es = c.args.self.now.entries in
    let left = c.loop-self.self.entries in
    let h = c.loop-self.invariant in
    let fit : bytes_of left ≤ c.args.most = omega (arith, c.loop-self-test.false, c.bytes.ensures) in
    let within : bytes_of (take (length left) es) ≤ c.args.most = subst (λ (xs : List Entry). bytes_of xs ≤ c.args.most) h.rest fit in
    let stay : staying_count c.args.most es ≡ length left = staying_is c.args.most es (length left) h.few within h.over in
    h.rest ∙ ap (λ n. take n es) (sym stay)

pub returns-clause-count : goal.returns-clause-count
returns-clause-count c =
    let es = c.args.self.now.entries in
    let left = c.loop-self.self.entries in
    let h = c.loop-self.invariant in
    let fit : bytes_of left ≤ c.args.most = omega (arith, c.loop-self-test.false, c.bytes.ensures) in
    let within : bytes_of (take (length left) es) ≤ c.args.most = subst (λ (xs : List Entry). bytes_of xs ≤ c.args.most) h.rest fit in
    let stay : staying_count c.args.most es ≡ length left = staying_is c.args.most es (length left) h.few within h.over in
    omega (arith, stay, c.len-held.ensures, c.len.ensures)

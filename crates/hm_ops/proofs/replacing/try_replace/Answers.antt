use Rattle.std.proofs.Common.{◌≡◌, sym, ◌∙◌, rules}
use Rattle.hm_ops.proofs.ConditionalStores.{copy_ends, copy_goes, copy_may, copy_whole}
use Rattle.hm_ops.proofs.replacing.try_replace.Goals as goal

pub link-requires-clause-whole : goal.link-requires-clause-whole
link-requires-clause-whole g c =
    let r = c.read_stamp-found in
    let same : r.result ≡ c.args.stamp = search rules in
    copy_whole g.U.Usage.lawful g.U.Usage.allowed c.args.cells.now c.args.pass.now r.new.pass
    c.rewrite.new.pass c.args.v c.args.stamp c.args.refs c.args.numbers r.ensures.reads
    c.rewrite.ensures.copies (c.args.at.0, c.requires.place) (sym same ∙ r.ensures.value)

pub link-requires-clause-allowed : goal.link-requires-clause-allowed
link-requires-clause-allowed g c =
    let r = c.read_stamp-found in
    copy_may g.U.Usage.lawful g.U.Usage.allowed c.args.cells.now c.args.pass.now r.new.pass
    c.rewrite.new.pass c.args.v c.args.stamp c.args.refs c.args.numbers r.ensures.reads
    c.rewrite.ensures.copies (c.args.at.0, c.requires.place) c.requires.allowed

pub returns-in-None-link : goal.returns-in-None-link
returns-in-None-link g c =
    let r = c.read_stamp-found in
    copy_ends g.U.Usage.lawful g.U.Usage.allowed c.args.cells.now c.args.pass.now r.new.pass
    c.rewrite.new.pass c.args.v c.args.stamp c.args.refs c.args.numbers r.ensures.reads
    c.rewrite.ensures.copies (c.args.at.0, c.requires.place) c.link.new.pass c.in-None-link.ensures

pub returns-in-Some-link : goal.returns-in-Some-link
returns-in-Some-link g c =
    let r = c.read_stamp-found in
    copy_goes g.U.Usage.lawful g.U.Usage.allowed c.args.cells.now c.args.pass.now r.new.pass
    c.rewrite.new.pass c.args.v c.args.stamp c.args.refs c.args.numbers r.ensures.reads
    c.rewrite.ensures.copies (c.args.at.0, c.requires.place) c.link.new.pass c.args.at c.in-Some-link.next
    c.in-Some-link.ensures

-- What a word names is known by the word's number, less one.
use Rattle.std.proofs.Common.{◌-◌, List, Option, ap, ◌∙◌}
use Rattle.std.specs.Option.{option_flatten}
use Rattle.hm_core.proofs.Words.{Known, Moment, index_of}
use Rattle.hm_core.proofs.Moments.{got, flat, looked}
use Rattle.hm_core.proofs.machine.Machine.named.Goals as goal

pub returns-clause-named : goal.returns-clause-named
returns-clause-named c =
    let m = c.args.self.now in
    let look = c.get.ensures.lookup in
    let v = c.args.word - 1 in
    looked (index_of m.known) c.args.word c.flatten.result c.if-word-eq0.false
    (c.flatten.ensures
    ∙ ap option_flatten
    (c.copied.ensures ∙ got c.as_slice-known.result.now v c.get.result look.0 look.1)
    ∙ flat c.as_slice-known.result.now v
    ∙ ap (λ (l : List (Option Known)). index_of l v) c.as_slice-known.ensures.value
    ∙ ap (λ (z : Moment). index_of z.known v) c.self.view_is)

use Rattle.std.proofs.Common.{◌≡◌, ◌+◌, ◌∷◌, ◌++◌, List, [], drop, length, zero, refl, sym, ap, ◌∙◌, arith, Contains, subst, rules}
use Rattle.std.proofs.lemmas.List.{append_cancel_right}
use Rattle.std.proofs.lemmas.List.Elements.{Contains-append_right}
use Rattle.hm_shape.specs.declared.version.Version.{Version}
use Rattle.hm_cells.specs.Facts.{with_hand, without_first}
use Rattle.hm_ops.specs.Copying.{given, put_last, reordered}
use Rattle.hm_ops.proofs.Hands.{given_none, given_some, without_behind}
use Rattle.hm_ops.proofs.copying.release_all.Goals as goal
use Rattle.hm_ops.proofs.copying.release_all.Goals.{in-Some, in_default}

pub loop-named-init : goal.loop-named-init
loop-named-init g c = record {
  front = c.requires.0;
  pass = ap (with_hand c.args.pass.now) c.requires.1;
  order = λ hand e. ap (reordered (given c.args.references))
      (append_cancel_right hand c.requires.0 (given c.args.references) (sym e ∙ c.requires.1));
}

pub release-requires : goal.release-requires
release-requires g c =
    let k = c.loop-named.invariant in
    let next : given (drop c.loop-named.named-index c.args.references)
    ≡ c.in-Some.v ∷ given (drop (c.loop-named.named-index + 1) c.args.references) =
    given_some c.args.references c.loop-named.named-index c.in-Some.v (omega arith) c.in-Some.is in
    subst (λ (l : List Version). Contains l c.in-Some.v)
    (sym (ap (λ (f : _). f.hand) k.pass ∙ ap (λ (l : List Version). k.front ++ l) next))
    (Contains-append_right k.front (c.in-Some.v ∷ given (drop (c.loop-named.named-index + 1) c.args.references))
    c.in-Some.v (zero, omega arith, refl))

pub loop-named-preserved : goal.loop-named-preserved
loop-named-preserved g c =
    let k = c.loop-named.invariant in
    let refs = c.args.references in
    let i = c.loop-named.named-index in
    elim c.match-named.branch [
      | in-Some w ↦
          let v = w.in-Some.v in
          let next = given_some refs i v (omega arith) w.in-Some.is in
          let left : c.loop-named.pass.hand ≡ k.front ++ v ∷ given (drop (i + 1) refs) =
          ap (λ (f : _). f.hand) k.pass ∙ ap (λ (l : List Version). k.front ++ l) next in
          record {
            front = put_last v k.front;
            pass = w.pass-is ∙ (w.release.ensures
                ∙ (λ j. with_hand (k.pass j) (without_first v (left j)))
                ∙ ap (with_hand c.args.pass.now) (without_behind v k.front (given (drop (i + 1) refs))));
            order = λ hand e. k.order hand e ∙ ap (λ (l : List Version). reordered l k.front) next;
          }
      | in_default w ↦
          let next = given_none refs i (omega arith) w.in_default.is in
          record {
            front = k.front;
            pass = w.pass-is ∙ (k.pass ∙ ap (λ (l : List Version). with_hand c.args.pass.now (k.front ++ l)) next);
            order = λ hand e. k.order hand e ∙ ap (λ (l : List Version). reordered l k.front) next;
          }
    ]

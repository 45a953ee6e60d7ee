use Rattle.std.proofs.Common.{rules, ◌<◌, length, sym, ap, ◌∙◌, subst}
use Rattle.hm_core.proofs.Words.{core_of, IsSound}
use Rattle.hm_core.proofs.FieldsRead.{hand_below}
use Rattle.hm_core.proofs.LetGo.{core_met, sound_met, met_is}
use Rattle.hm_core.proofs.machine.Machine.meet.Goals as goal

pub index_mut-requires-3 : goal.index_mut-requires-3
index_mut-requires-3 c =
    let m = c.args.self.now in
    let sound : IsSound m = subst IsSound c.self.view_is c.self.invariant.sound in
    let below : c.args.caller < length c.self.inside.hands.items =
    hand_below _ m c.self.view_is sound c.args.caller c.requires.awake in search rules

pub invariant_of-self-2 : goal.invariant_of-self-2
invariant_of-self-2 c =
    let m = c.args.self.now in
    let sound : IsSound m = subst IsSound c.self.view_is c.self.invariant.sound in
    let is = met_is _ m c.self.view_is sound c.args.caller c.requires.awake
    c.args.let_go c.args.other
    c.requires.there c.index_mut-3.ensures.value (c.release.ensures c.args.caller)
    c.index_mut.ensures.value c.index-2.ensures
    c.index.ensures c.seen-seen.ensures (c.as_slice.ensures.value ∙ c.in_ok-parts.ensures)
    c.in_ok-carry.ensures.carried c.spend.ensures in
    record {
      sound = subst IsSound (sym is)
          (sound_met m c.args.caller c.args.let_go sound c.requires.awake c.args.other
          c.requires.other c.requires.there);
      makers = c.self.invariant.makers;
    }

pub returns-clause-joined : goal.returns-clause-joined
returns-clause-joined c =
    let m = c.args.self.now in
    let sound : IsSound m = subst IsSound c.self.view_is c.self.invariant.sound in
    let is = met_is _ m c.self.view_is sound c.args.caller c.requires.awake
    c.args.let_go c.args.other
    c.requires.there c.index_mut-3.ensures.value (c.release.ensures c.args.caller)
    c.index_mut.ensures.value c.index-2.ensures
    c.index.ensures c.seen-seen.ensures (c.as_slice.ensures.value ∙ c.in_ok-parts.ensures)
    c.in_ok-carry.ensures.carried c.spend.ensures in
    ap core_of is
    ∙ core_met m c.args.caller c.args.let_go sound c.requires.awake c.args.other c.requires.other
    c.requires.there

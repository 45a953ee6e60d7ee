use Rattle.std.proofs.Common.{rules, ◌<◌, length, sym, ap, ◌∙◌, subst}
use Rattle.hm_core.proofs.Words.{core_of, IsSound}
use Rattle.hm_core.proofs.FieldsRead.{hand_below}
use Rattle.hm_core.proofs.LetGo.{core_noted, sound_noted, noted_is}
use Rattle.hm_core.proofs.machine.Machine.split.Goals as goal

pub index_mut-requires : goal.index_mut-requires
index_mut-requires c =
    let m = c.args.self.now in
    let sound : IsSound m = subst IsSound c.self.view_is c.self.invariant.sound in
    let below : c.args.caller < length c.self.inside.hands.items =
    hand_below _ m c.self.view_is sound c.args.caller c.requires.awake in search rules

pub invariant_of-self-2 : goal.invariant_of-self-2
invariant_of-self-2 c =
    let m = c.args.self.now in
    let sound : IsSound m = subst IsSound c.self.view_is c.self.invariant.sound in
    let is = noted_is _ m c.self.view_is sound c.args.caller c.requires.awake c.args.let_go
    c.index_mut.ensures.value (c.release.ensures c.args.caller) c.index.ensures c.seen-seen.ensures
    c.note.ensures c.in_ok-push.ensures.items in
    record {
      sound = subst IsSound (sym is)
          (sound_noted m c.args.caller c.args.let_go sound c.requires.awake);
      makers = c.self.invariant.makers;
    }

pub returns-clause-split : goal.returns-clause-split
returns-clause-split c =
    let m = c.args.self.now in
    let sound : IsSound m = subst IsSound c.self.view_is c.self.invariant.sound in
    let is = noted_is _ m c.self.view_is sound c.args.caller c.requires.awake c.args.let_go
    c.index_mut.ensures.value (c.release.ensures c.args.caller) c.index.ensures c.seen-seen.ensures
    c.note.ensures c.in_ok-push.ensures.items in
    ap core_of is ∙ core_noted m c.args.caller c.args.let_go sound c.requires.awake

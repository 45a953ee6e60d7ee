use Rattle.std.proofs.Common.{rules, false, replicate, ◌≡◌, ◌∙◌, ◌<◌, List, length, ap, refl, arith}
use Rattle.hm_cells.proofs.Words.{Me, site_of, Facts, Knowledge}
use Rattle.hm_cells.specs.Closing.{Ended}
use Rattle.hm_cells.proofs.TakenIn.{carries_all, first_there, held_now, left_behind, next_fits, next_small, passes_carried, passes_end, took_first, took_next}
use Rattle.hm_cells.proofs.table.Cells.close.Goals as goal

pub loop-other-init : goal.loop-other-init
loop-other-init g c =
    let all : List (Facts g.row.U.Denot) = c.args.all.items in
    let any : 0 < length all = let count = c.requires.all.count in let fit = c.args.self.site.shape.callers_fit in omega arith in
    took_first c.args.self all c.remove-first.new.self.items c.remove-first.result c.into_seat-seat.result
    (replicate 8 record { used = 0; free = 0; joined = false }) c.requires.all
    (first_there all c.remove-first.result c.remove-first.ensures.value any) (search rules)
    (left_behind all c.remove-first.new.self.items c.remove-first.ensures.items) c.into_seat-seat.ensures.cells
    c.into_seat-seat.ensures.carries c.into_seat-seat.ensures.seen c.into_seat-seat.ensures.none refl
    c.counts.result c.counts.ensures

pub gather-requires-clause-other : goal.gather-requires-clause-other
gather-requires-clause-other g c =
    c.into_seat.ensures.cells
    ∙ (next_fits c.args.self c.args.all.items c.loop-other.all.items c.pop.new.self.items c.in-Some.other
    c.loop-other.seat c.loop-other.counts c.requires.all c.in-Some.ensures.items c.loop-other.invariant).cells

pub loop-other-preserved : goal.loop-other-preserved
loop-other-preserved g c =
    let all = c.args.all.items in
    let small = next_small c.args.self all c.loop-other.all.items c.pop.new.self.items c.in-Some.other
    c.loop-other.seat c.loop-other.counts c.requires.all c.in-Some.ensures.items c.loop-other.invariant
    c.args.self.site.shape.callers_fit.1 in
    took_next c.args.self all c.loop-other.all.items c.pop.new.self.items c.in-Some.other c.loop-other.seat
    c.into_seat.result c.gather.new.seat c.loop-other.counts c.requires.all c.in-Some.ensures.items
    c.loop-other.invariant small c.into_seat.ensures.carries c.into_seat.ensures.seen c.gather.ensures.own
    c.gather.ensures.slots c.gather.ensures.gathers c.number.result c.counts-in-Some.result c.number.ensures
    c.counts-in-Some.ensures

pub finish-note-requires-clause-all : goal.finish-note-requires-clause-all
finish-note-requires-clause-all g c =
    carries_all c.args.self c.args.all.items c.loop-other.all.items c.loop-other.seat c.loop-other.counts
    c.requires.all c.loop-other.invariant (search rules)

pub invariant_of-result : goal.invariant_of-result
invariant_of-result g c = (
  c.loop-other.invariant.wide,
  held_now c.args.self c.args.all.items c.loop-other.all.items c.loop-other.seat c.loop-other.counts
      c.requires.all c.loop-other.invariant (search rules) g.U.Usage.lawful g.U.Usage.allowed _
      c.finish-note.result.2 c.finish-note.ensures.agreed
      (ap (λ (m : Me (Unit {0}) (Knowledge g.row.U.Denot)). m.0.view.seen) c.finish-note.ensures.note) refl
      c.in-Some-unpack.ensures.packs c.finish-note.ensures.ends,
)

pub returns-clause-passes : goal.returns-clause-passes
returns-clause-passes g c =
    passes_end c.args.self c.args.all.items c.loop-other.all.items c.loop-other.seat c.loop-other.counts
    c.requires.all c.loop-other.invariant (search rules) g.U.Usage.lawful g.U.Usage.allowed _
    c.finish-note.result.2 c.finish-note.ensures.agreed
    (ap (λ (m : Me (Unit {0}) (Knowledge g.row.U.Denot)). m.0.view.seen) c.finish-note.ensures.note) refl
    c.in-Some-unpack.ensures.packs c.finish-note.ensures.ends

pub returns-clause-held : goal.returns-clause-held
returns-clause-held g c =
    let e : Ended g.row.U.Denot = record {
      site = site_of c.finish-note.result.1.shared.key;
      history = c.finish-note.result.0.me.0.view.seen;
      stage = c.in-Some-unpack.stage;
      counts = c.loop-other.counts;
    } in
    let seen : e.history ≡ c.loop-other.seat.me.0.view.seen =
    ap (λ (m : Me (Unit {0}) (Knowledge g.row.U.Denot)). m.0.view.seen) c.finish-note.ensures.note in (
      held_now c.args.self c.args.all.items c.loop-other.all.items c.loop-other.seat c.loop-other.counts
          c.requires.all c.loop-other.invariant (search rules) g.U.Usage.lawful g.U.Usage.allowed e
          c.finish-note.result.2 c.finish-note.ensures.agreed seen refl c.in-Some-unpack.ensures.packs
          c.finish-note.ensures.ends,
      passes_carried c.args.self c.args.all.items c.loop-other.all.items c.loop-other.seat
          c.loop-other.counts c.requires.all c.loop-other.invariant (search rules) g.U.Usage.lawful
          g.U.Usage.allowed e c.finish-note.result.2 c.finish-note.ensures.agreed seen refl
          c.in-Some-unpack.ensures.packs c.finish-note.ensures.ends,
    )

-- How the callers of a good machine stand in a cycle.
use Rattle.std.proofs.Common.{◌≡◌, ◌⊎◌, ℕ, true, sym, ap, ◌∙◌}
use Rattle.hm_shape.specs.declared.shape.Shape.{Shape}
use Rattle.hm_moves.specs.Collecting.{stage_of, reply_of, is_round, KeepsJoins, KeepsClean, IsWarned, KeepsWarned, KeepsTime, ScansRight, KeepsCycle}
use Rattle.hm_moves.specs.Cycles.{is_scanning}
use Rattle.hm_moves.specs.Good.{Collects}
use Rattle.hm_moves.proofs.Words.{Heap, ArePlaced, Site, Part, View, PlainStore, Entry, Core, Good, Carries}
use Rattle.hm_rounds.specs.State.{State}
use Rattle.hm_rounds.specs.Rounds as laws
use Rattle.hm_rounds.specs.Rule as rules
use Rattle.hm_rounds.proofs.Running.{scan_right}
use Rattle.hm_moves.proofs.Standing.{bare_now, below_back, below_shown, clean_now, clean_shown, count_there, ends_now, from_now, joined_now, joined_there, mask_now, not_ahead, number_counted, passed_now, replied_late, reply_shows, seen_there, warned_now}

module _ {U : Type 0} (lawful : U → PlainStore → Type 0) (allowed : U → PlainStore → Entry → Type 0)
    (g : Site U) (c : Core U) (good : Good lawful allowed g c) where
  abbrev s : Shape
  s = g.shape

  abbrev col : Collects g c
  col = good.collects

  abbrev x : State
  x = good.collects.state

  abbrev h : Heap
  h = c.heap

  abbrev placed : ArePlaced s c.heap.index c.heap.places.dead c.heap.places.used
  placed = good.heap.placed

  -- in a round all have joined, with masks of now
  joins_good : KeepsJoins s c
  joins_good = record {
    joined = λ j k v p at round.
        sym (col.parts j k v p at).ties.done
        ∙ joined_now s h col.moves x col.heap col.rule placed p.number
        (good.parts j k v p at).number round;
    masks = λ j k v p q region roles at round small in_row e.
        let mine = good.parts j k v p at in
        mask_now s h col.moves x col.heap col.rule placed p (col.parts j k v p at) mine.hands
        mine.number q region roles round small in_row e;
  }

  -- a Clean reply in First says so
  clean_good : KeepsClean s c
  clean_good = record {
    clean = λ j k v p w at first reply mark has.
        let mine = good.parts j k v p at in
        clean_now s h col.moves x col.heap col.rule placed p (col.parts j k v p at) mine.hands
        mine.number w first reply mark has;
  }

  -- who is warned in the state is warned
  warned_back : rules.Warned x → IsWarned s c
  warned_back warned = record {
    caller = warned.caller;
    below = below_back s h col.moves x col.heap col.rule placed warned.caller warned.below;
    marked = λ j k v p at same.
        sym (col.parts j k v p at).scan.mark ∙ (ap x.scan.mark same ∙ warned.marked);
    not_clean = λ e.
        let low = below_back s h col.moves x col.heap col.rule placed warned.caller warned.below in
        let clean = clean_shown (reply_of h warned.caller) (stage_of h).number
        (x.clock.replied warned.caller)
        (x.clock.reply warned.caller)
        (reply_shows s h col.moves x col.heap col.rule placed warned.caller low) e in
        warned.not_clean (clean.0 ∙ sym col.heap.stage.number_is) clean.1;
  }

  -- in Second what is left warns
  warned_good : KeepsWarned s c
  warned_good = record {
    warned = λ j k v p w at second has from.
        let mine = good.parts j k v p at in
        warned_back (warned_now s h col.moves x col.heap col.rule placed p (col.parts j k v p at)
        mine.hands
        mine.number w second has from);
  }

  -- replies keep up with the stage
  time_good : KeepsTime s c
  time_good = record {
    ahead = λ q r low e. not_ahead s h col.moves x col.heap col.rule placed q r low e;
    recent = λ q low round. replied_late s h col.moves x col.heap col.rule placed q low round;
    number = number_counted s h col.moves x col.heap col.rule placed;
    moves = col.moves;
    moved = λ j k v p at. (col.parts j k v p at).clock.moved;
    sum = col.heap.moved;
  }

  -- scans tell the truth
  scan_good : (j k : ℕ) (v : View U) (p : Part U) → Carries c.views j k v p
      → (is_round (stage_of c.heap).phase ≡ true) ⊎ (is_scanning p ≡ true) → ScansRight s c p
  scan_good j k v p at why =
      let mine = good.parts j k v p at in
      let shown = col.parts j k v p at in
      let count = count_there s h col.moves x col.heap col.rule placed p shown mine.hands
      mine.number why in
      let low = below_shown s h col.moves x col.heap col.rule placed p.number mine.number in
      let right : laws.ScansRight x p.number = scan_right x p.number col.rule low count in
      record {
        seen = seen_there s h col.moves x col.heap col.rule placed p shown mine.hands mine.number
            right;
        joined = λ m n w q there. sym (col.parts m n w q there).ties.done
            ∙ joined_there s h col.moves x col.heap col.rule placed p shown mine.hands mine.number
            right
            q.number (good.parts m n w q there).number;
        from = λ m there known.
            from_now s h col.moves x col.heap col.rule placed p shown mine.hands mine.number right m
            there known;
        passed = λ i f w m there small behind names.
            passed_now s h col.moves x col.heap col.rule placed p shown mine.hands mine.number right
            i f w
            m there small behind names;
        ends = λ e m found there same later.
            ends_now s h col.moves x col.heap col.rule placed p shown mine.hands mine.number right e
            m
            found there same later;
        bare = λ w bare has.
            bare_now s h col.moves x col.heap col.rule placed p shown mine.hands mine.number right w
            bare has;
      }

  -- the cycle rule holds of a good machine
  pub cycle_good : KeepsCycle g.shape c
  cycle_good = record {
    joins = joins_good;
    clean = clean_good;
    warned = warned_good;
    time = time_good;
    scans = record { right = scan_good };
  }

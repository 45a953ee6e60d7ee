-- A step that builds leaves a machine that shows a state of the rules of use again.
use Rattle.std.proofs.Common.{◌≡◌, ◌≢◌, ℕ, zero, suc, Bool, true, false, List, Option, Some, None, slice_index, refl, ◌∙◌, ⊎_elim}
use Rattle.std.proofs.lemmas.Bool.{cases_Bool}
use Rattle.hm_moves.proofs.Words.{Shape, Known, Part, is_naming, Heap, PartIsGood, Entry, PlainStore, HeapIsGood, Move, Builds, part_after, Name, IsThere, store_of}
use Rattle.hm_moves.specs.Acts.{built_version, build_finds, build_word}
use Rattle.hm_moves.specs.After.{written_with, heap_after}
use Rattle.hm_moves.specs.Allowed.{IsLaterThan, MayBuild}
use Rattle.hm_moves.proofs.Words.{View, Core, Carries, Good, applied, IsLawfulMove, Stands, seen_after, entry_of}
use Rattle.hm_moves.specs.Allowed.{HoldsClean}
use Rattle.hm_moves.specs.Good.{Collects}
use Rattle.hm_moves.proofs.Replaced.{by_part}
use Rattle.hm_moves.proofs.ShownElse.{shown_else}
use Rattle.hm_rounds.proofs.Parting.{part_else}
use Rattle.hm_moves.specs.Places.{row_of}
use Rattle.hm_moves.specs.Cycles.{field_count}
use Rattle.hm_moves.specs.Showing.{ShowsPart}
use Rattle.hm_rounds.specs.State.{State}
use Rattle.hm_rounds.specs.Steps as steps
use Rattle.hm_rounds.specs.After as turned
use Rattle.hm_moves.specs.declared.moving.Build.{Build}
use Rattle.hm_moves.specs.declared.moving.Build.TheVariants.{StoreOwn, Publish, LinkStore, Shorten}
use Rattle.hm_moves.proofs.Fields.{naming_field}
use Rattle.hm_moves.proofs.Gone.{gone, stays, above, good_gone, heap_gone, part_gone}
use Rattle.hm_moves.proofs.Building.{Ready, Turned, AreLow}
use Rattle.hm_moves.proofs.Storing.{store_plain, store_field, shorten}
use Rattle.hm_moves.proofs.Missing.{miss}
use Rattle.hm_moves.proofs.Publishing.{publish, hang}

module _ {U : Type 0} {h : Heap} {seen : List Entry} {p : Part U} {moves : ℕ → ℕ} {x : State}
    (ready : Ready h seen p moves x) (by_scan : Bool) (o : Option Known) where
  abbrev its : Shape
  its = p.site.shape

  abbrev me : ℕ
  me = p.number

  -- each step that builds has a state after it
  pub build_turned : (names : Name → Type 0) (make : Entry → Type 0) (clean : Type 0) (b : Build)
      (w : ℕ)
      → w ≡ slice_index h.words (build_word p b) → MayBuild names make clean (IsLaterThan its h) p b
      → AreLow ready by_scan o b w
      → Turned ready by_scan o b w
  build_turned names make clean (StoreOwn i word) w is may low = ⊎_elim
      (λ (t : is_naming i ≡ true). let r = naming_field i t in (store_field ready by_scan o) i word
      w r.0 may
      r.1 low)
      (λ (t : is_naming i ≡ false). store_plain ready by_scan o i word w may t)
      (cases_Bool (is_naming i))
  build_turned names make clean (Publish k) w is may low = publish ready by_scan o names make clean
      (IsLaterThan its h) k w may low
  build_turned names make clean (LinkStore at k None) zero is may low =
      (hang ready by_scan o) names make clean (IsLaterThan its h) at k None true may is
      (λ e. may.turns) low
  build_turned names make clean (LinkStore at k (Some e)) zero is may low =
      (hang ready by_scan o) names make clean (IsLaterThan its h) at k (Some e) false may is
      (λ z. absurd (cc)) low
  build_turned names make clean (LinkStore at k entry) (suc n) is may low = miss ready by_scan o at
      k entry n
      may.look is low
  build_turned names make clean (Shorten at i target) w is may low =
      let r = naming_field i may.word in
      (shorten ready by_scan o) at i target w r.0 may.own r.1 may.held may.kept may.later low

-- a machine after a caller's step that builds
module _ {U : Type 0} (lawful : U → PlainStore → Type 0) (allowed : U → PlainStore → Entry → Type 0)
    (c : Core U)
    (id place : ℕ) (v : View U) (p : Part U) (b : Build) (by_scan : Bool) (o : Option Known)
    (good : Good lawful allowed p.site c) (at : Carries c.views id place v p)
    (may : IsLawfulMove lawful allowed c.heap p
    (record { act = Builds b; scan = by_scan; let_go = o })) where
  abbrev moved : Move
  moved = record { act = Builds b; scan = by_scan; let_go = o }

  abbrev word : ℕ
  word = slice_index c.heap.words (build_word p b)

  abbrev found_by : Option Known
  found_by = build_finds c.heap.index b word

  abbrev new_part : Part U
  new_part = part_after p moved word found_by

  abbrev new_heap : Heap
  new_heap = heap_after c.heap p (Builds b) word

  module _ (seen : List Entry) (kept : HeapIsGood lawful allowed p.site new_heap)
      (own : PartIsGood p.site new_heap seen new_part) where
    abbrev shown_before : State
    shown_before = good.collects.state

    ready_before : Ready c.heap v.seen p good.collects.moves shown_before
    ready_before = record {
      wide = good.heap.wide;
      placed = good.heap.placed;
      contents = good.heap.contents;
      chained = good.heap.chained;
      legal = good.heap.history.legal;
      mine = good.parts id place v p at;
      rules = good.collects.rule;
      shows = good.collects.heap;
      part = good.collects.parts id place v p at;
    }

    built : Turned ready_before by_scan o b word
    built = build_turned ready_before by_scan o
        (IsThere (store_of c.heap.history))
        (λ e. Stands (store_of c.heap.history) e → allowed p.site.usage (store_of c.heap.history) e)
        (HoldsClean c.heap.words p) b word refl may.act (λ k there. kept.placed.fits k
        (own.hands.held k there))

    abbrev gone_step : steps.Step
    gone_step = steps.Looks (steps.LetGo
        (gone o (above (built.now.versions.word (built.now.hands.next p.number)) field_count))
        (stays o found_by (built_version b word)))

    abbrev shown_now : State
    shown_now = turned.after built.now p.number new_part.cycle.scan.bare gone_step

    shown_other : (j k : ℕ) (u : View U) (q : Part U) → Carries c.views j k u q → q.number
        ≢ p.number
        → ShowsPart p.site.shape good.collects.moves shown_now q
    shown_other j k u q was ne =
        shown_else p.site.shape good.collects.moves shown_before shown_now q
        (part_else built.now p.number new_part.cycle.scan.bare gone_step q.number ne
        ∙ built.others q.number ne)
        (λ region low. built.roles (row_of p.site.shape q.number region))
        (good.collects.parts j k u q was)

    -- it shows a state that keeps the rules of use again
    pub collects_built : Collects p.site (applied c id place v p moved)
    collects_built = record {
      state = shown_now;
      moves = good.collects.moves;
      rule = good_gone new_part new_heap good.collects.moves built.now p.hands.held found_by
          (built_version b word) o
          (written_with p.draft.written (Builds b) (built_version b word)) p.cycle.scan.bare
          built.acted
          kept.placed
          seen own;
      heap = heap_gone new_part new_heap good.collects.moves built.now p.hands.held found_by
          (built_version b word) o
          (written_with p.draft.written (Builds b) (built_version b word)) p.cycle.scan.bare
          built.acted
          kept.placed
          seen own;
      parts = by_part c.views id place v p new_part
          (seen_after v.seen c.heap.history (entry_of p.number (Builds b) word)) at refl
          (λ l q. ShowsPart p.site.shape good.collects.moves shown_now q)
          (part_gone new_part new_heap good.collects.moves built.now p.hands.held found_by
          (built_version b word) o
          (written_with p.draft.written (Builds b) (built_version b word)) p.cycle.scan.bare
          built.acted
          kept.placed
          seen own)
          (λ k q ne there.
          let was : Carries c.views id k v q = record { seat = at.seat; place = there } in
          shown_other id k v q was (λ e. ne (good.apart id k id place v v q p was at e).1))
          (λ j k u q ne was. shown_other j k u q was
          (λ e. ne (good.apart j k id place u v q p was at e).0));
    }

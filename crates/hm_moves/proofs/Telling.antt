-- What a move tells its caller, where it leaves a good machine.
use Rattle.std.proofs.Common.{◌≡◌, ◌+◌, ◌≤◌, ◌*◌, ◌^◌, ◌<◌, ℕ, Bool, List, slice_index, Option, Some, None, IfSome, refl, sym, ap, subst, arith, inl, inr}
use Rattle.std.proofs.Math.Nat.{mul-le-mul_left}
use Rattle.hm_shape.specs.declared.reply.Reply.{Reply}
use Rattle.hm_shape.specs.Words.{reply_at}
use Rattle.hm_shape.specs.Versions.{version_count}
use Rattle.hm_moves.specs.declared.moving.Tick.{Tick}
use Rattle.hm_moves.specs.declared.moving.Tick.TheVariants.{LoadStage, MoveStage, LoadReply, StoreReply}
use Rattle.hm_moves.specs.declared.moving.Shift.{Shift}
use Rattle.hm_moves.specs.declared.moving.Shift.TheVariants.{LoadRoles, Join, Turn, Reuse}
use Rattle.hm_moves.specs.Showing.{word_of_reply}
use Rattle.hm_moves.specs.Told.{IsReplyWord}
use Rattle.hm_moves.specs.Places.{Places}
use Rattle.hm_moves.proofs.Words.{Entry, PlainStore, IsThere, Stands, store_of, UsageLaws, Known, Part, View, Act, Looks, Builds, Ticks, Shifts, Move, Heap, IsFit, IsPublished, places_with, word_of, finds, publishes, heap_after, part_after, view_after, IsLawfulMove, HoldsClean, IsLaterThan, MayTake, done_limit, Begins, HeapIsGood, PartIsGood, Core, Good, Carries, applied, Told, Found}
use Rattle.hm_moves.specs.After.{row_of_part}
use Rattle.hm_moves.proofs.Histories.{others_only, lawful_before}
use Rattle.hm_moves.proofs.Placed.{rank_small, published_once}
use Rattle.hm_moves.proofs.Finding.{new_now}
use Rattle.hm_moves.proofs.Held.{some_more}
use Rattle.hm_moves.proofs.Places.{set_here}
use Rattle.hm_moves.proofs.Decoded.{roles_low}
use Rattle.hm_moves.proofs.Worked.{worked_found}

-- a word that says what a reply is shown as is one of a reply
reply_word_told : (w : ℕ) (o : Option Reply) → w ≡ word_of_reply o → IsReplyWord w
reply_word_told w None e = inl e
reply_word_told w (Some r) e = inr (r, e)

-- a version that is published ends no cycle
done_same : (places : Places) (row : ℕ) (o : Option Known) → (places_with places row o).done
    ≡ places.done
done_same places row None = refl
done_same places row (Some k) = refl

module _ {U : Type 0} (lawful : U → PlainStore → Type 0) (allowed : U → PlainStore → Entry → Type 0)
    (laws : (u : U) → UsageLaws (lawful u) (allowed u)) (c : Core U) (id place : ℕ) (v : View U)
    (p : Part U)
    (good : Good lawful allowed p.site c) (at : Carries c.views id place v p) where
  mine : PartIsGood p.site c.heap v.seen p
  mine = good.parts id place v p at

  begins : Begins v.seen c.heap.history
  begins = good.seen id v at.seat

  -- no more cycles are done than the caller's limit
  done_low : c.heap.places.done ≤ done_limit p
  done_low =
      let old = good.collects in
      let low : p.number < old.state.shape.callers =
      subst (λ (n : ℕ). p.number < n) (ap (λ z. z.callers) (sym old.heap.shape)) mine.number in
      let behind = old.rule.freed.behind p.number low in
      let done = old.heap.done in
      let seen = (old.parts id place v p at).clock.seen.done_is in omega arith

  fits : (h : Heap) → HeapIsGood lawful allowed p.site h → h.places.done ≤ done_limit p
      → (o : Option Known)
      → IfSome o (IsPublished h.index) → IfSome o (IsFit p.site.shape (done_limit p))
  fits h kept low o is = some_more (IsPublished h.index) (IsFit p.site.shape (done_limit p))
      (λ k there. record {
        version = kept.placed.fits k there;
        rank =
            let a = rank_small p.site.shape h.index h.places kept.placed kept.ranked k there in
            let b : version_count p.site.shape * (h.places.done + 1)
            ≤ version_count p.site.shape * (done_limit p + 1) =
            mul-le-mul_left (version_count p.site.shape) (omega (arith, low)) in
            omega (arith, a, b);
        sized = kept.placed.sized k there;
      }) o is

  -- what is found by an act
  module _ (act : Act) (scan : Bool) (o : Option Known) where
    abbrev m : Move
    m = record { act = act; scan = scan; let_go = o }

  tick_found : (t : Tick) (may : MayTake (IsThere (store_of c.heap.history))
      (λ e. Stands (store_of c.heap.history) e → allowed p.site.usage (store_of c.heap.history) e)
      (HoldsClean c.heap.words p) (IsLaterThan p.site.shape c.heap) p (Ticks t))
      → Found (Ticks t) (slice_index c.heap.words (word_of p (Ticks t))) None
  tick_found LoadStage may = refl
  tick_found (MoveStage from to) may = refl
  tick_found (LoadReply of) may =
      let r = good.collects.heap.replies of may in
      (refl, reply_word_told (slice_index c.heap.words (reply_at of)) r.reply r.word_is)
  tick_found (StoreReply reply) may = refl

  shift_found : (f : Shift) (may : MayTake (IsThere (store_of c.heap.history))
      (λ e. Stands (store_of c.heap.history) e → allowed p.site.usage (store_of c.heap.history) e)
      (HoldsClean c.heap.words p) (IsLaterThan p.site.shape c.heap) p (Shifts f))
      → Found (Shifts f) (slice_index c.heap.words (word_of p (Shifts f))) None
  shift_found (LoadRoles of) may =
      let r = good.collects.heap.roles of may in
      (refl, subst (λ (w : ℕ). w < 2 ^ 16) (sym r.word_is) (roles_low r.roles r.wide))
  shift_found (Join region roles) may = refl
  shift_found (Turn region roles) may = refl
  shift_found (Reuse roles) may = refl

  found_act : (act : Act) (scan : Bool) (o : Option Known)
      → IsLawfulMove lawful allowed c.heap p record { act = act; scan = scan; let_go = o }
      → Found act (slice_index c.heap.words (word_of p act))
      (finds c.heap.index act (slice_index c.heap.words (word_of p act)))
      × IfSome (finds c.heap.index act (slice_index c.heap.words (word_of p act)))
      (IsPublished c.heap.index)
  found_act (Looks l) scan o may =
      worked_found lawful allowed laws c id place v p
      record { act = Looks l; scan = scan; let_go = o } good at may tt
  found_act (Builds b) scan o may =
      worked_found lawful allowed laws c id place v p
      record { act = Builds b; scan = scan; let_go = o } good at may tt
  found_act (Ticks t) scan o may = (tick_found t may.act, tt)
  found_act (Shifts f) scan o may = (shift_found f may.act, tt)

  -- a version that an act publishes fits
  fit_act : (act : Act) → HeapIsGood lawful allowed p.site
      (heap_after c.heap p act (slice_index c.heap.words (word_of p act)))
      → IfSome (publishes act (slice_index c.heap.words (word_of p act)))
      (IsFit p.site.shape (done_limit p))
  fit_act (Looks l) kept = tt
  fit_act (Ticks t) kept = tt
  fit_act (Shifts f) kept = tt
  fit_act (Builds b) kept =
      let x : ℕ = slice_index c.heap.words (word_of p (Builds b)) in
      fits (heap_after c.heap p (Builds b) x) kept
      (subst (λ (n : ℕ). n ≤ done_limit p)
      (sym (done_same c.heap.places (row_of_part p) (publishes (Builds b) x))) done_low)
      (publishes (Builds b) x) (new_now c.heap.index (publishes (Builds b) x))

  module _ (m : Move) (may : IsLawfulMove lawful allowed c.heap p m)
      (after : Good lawful allowed p.site (applied c id place v p m)) where
    abbrev x : ℕ
    x = slice_index c.heap.words (word_of p m.act)

    abbrev new : Part U
    new = part_after p m x (finds c.heap.index m.act x)

    abbrev w : View U
    w = view_after v place c.heap.history p m x (finds c.heap.index m.act x)

    there : Carries (applied c id place v p m).views id place w new
    there = record {
      seat = set_here c.views id v w at.seat;
      place = set_here v.parts place p new at.place;
    }

    own_after : PartIsGood p.site (applied c id place v p m).heap w.seen new
    own_after = after.parts id place w new there

    -- what a move tells is so
    pub told_own : Told lawful allowed p.site m v place p x w
    told_own =
        let found = found_act m.act m.scan m.let_go may in
        record {
          between = begins.rest;
          found = finds c.heap.index m.act x;
          others = others_only p.number v.seen c.heap.history p.calls.mine begins.rest begins.is
              mine.calls.all
              mine.calls.seen;
          what = found.0;
          fit = fits c.heap good.heap done_low (finds c.heap.index m.act x) found.1;
          fit_new = fit_act m.act after.heap;
          once = λ k n here hence. published_once (applied c id place v p m).heap.index k n
              (own_after.hands.held k here) (own_after.hands.held n hence);
          is = ap (λ (l : List Entry). view_after v place l p m x (finds c.heap.index m.act x))
              begins.is;
          history = lawful_before (lawful p.site.usage) (allowed p.site.usage) p.site.start w.seen
              (applied c id place v p m).heap.history own_after.calls.opened
              (after.seen id w there.seat)
              after.heap.history;
        }

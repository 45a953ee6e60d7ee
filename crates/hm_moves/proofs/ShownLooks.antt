-- A load of a word of a version: what it finds, what its caller shows afterwards, and the machine.
use Rattle.std.proofs.Common.{◌≡◌, ◌<◌, ◌+◌, ℕ, suc, Bool, List, [], ◌++◌, slice_index, slice_set, Option, Contains, refl, sym, ap, ◌∙◌, arith, ⊎_elim}
use Rattle.std.proofs.lemmas.List.{set-get_or}
use Rattle.hm_shape.specs.Words.{word_at}
use Rattle.hm_shape.specs.declared.shape.Shape.{Shape}
use Rattle.hm_model.specs.declared.entry.Entry.{Entry}
use Rattle.hm_model.specs.Store.{PlainStore}
use Rattle.hm_moves.specs.declared.moving.Act.TheVariants.{Looks}
use Rattle.hm_moves.specs.declared.moving.Look.{Look}
use Rattle.hm_moves.specs.declared.moving.Look.TheVariants.{LoadStamp, LoadReference, LoadNumber, LoadLink}
use Rattle.hm_moves.specs.declared.moving.Move.{Move}
use Rattle.hm_moves.specs.declared.part.Known.{Known}
use Rattle.hm_moves.specs.declared.part.Part.{Part}
use Rattle.hm_moves.specs.declared.part.View.{View}
use Rattle.hm_moves.specs.Acts.{entry_of, finds, listed, look_finds, looked_at, word_of}
use Rattle.hm_moves.specs.After.{heap_after, part_after, seen_after}
use Rattle.hm_moves.specs.Allowed.{IsLawfulMove, IsWordOf, MayLookInto}
use Rattle.hm_moves.specs.Chain.{lookup}
use Rattle.hm_moves.specs.Cycles.{cursor_after, found_end, met_after}
use Rattle.hm_moves.specs.Good.{AreIndexed, Carries, Collects, Core, Good, IsDrafting, PartIsGood, applied}
use Rattle.hm_moves.specs.Places.{Heap, ArePlaced}
use Rattle.hm_moves.specs.Showing.{ShowsHeap, ShowsPart}
use Rattle.hm_moves.proofs.ShownLetting.{let_number, let_stamp}
use Rattle.hm_moves.proofs.Taking.{Stepped, collects_now}
use Rattle.hm_rounds.specs.State.{State}
use Rattle.hm_rounds.specs.Rule as rules
use Rattle.hm_moves.proofs.Looking.{heap_entered, link_ended, moved_by}
use Rattle.hm_moves.proofs.Loading.{told_step}

module _ {U : Type 0} (h : Heap) (moves : ℕ → ℕ) (x : State) (p : Part U)
    (shows : ShowsHeap p.site.shape h moves x) (rule : rules.Good x)
    (mine : ShowsPart p.site.shape moves x p)
    (placed : ArePlaced p.site.shape h.index h.places.dead h.places.used)
    (hands : AreIndexed p.site.shape p.number h.index h.places p.hands)
    (low : p.number < p.site.shape.callers)
    (kept : List Known) (drafting : IsDrafting p.site.shape p.number p.draft kept h) (b : Bool)
    (o : Option Known) where
  abbrev s_own : Shape
  s_own = p.site.shape

  -- what a load finds in the Table
  abbrev there : Look → ℕ
  there l = slice_index h.words (word_of p (Looks l))

  -- the steps of a load by a caller, which then lets go of a version or of none
  pub look_step : (l : Look) → MayLookInto p (looked_at l) → IsWordOf l
      → Stepped p.site.shape h moves moves x
      (part_after p (record { act = Looks l; scan = b; let_go = o }) (there l)
      (look_finds h.index l (there l)))
  look_step (LoadStamp at) look is =
      let_stamp s_own h moves x p shows rule mine placed low hands kept drafting at b o
      (there (LoadStamp at))
  look_step (LoadNumber at i) look is =
      let_number s_own h moves x p shows rule mine placed low hands kept drafting at i b o
      (there (LoadNumber at i))
  look_step (LoadReference at i) look is =
      let l : Look = LoadReference at i in
      let w : ℕ = there l in
      let m : Move = record { act = Looks l; scan = b; let_go = o } in
      let number : i + 2 ≡ 2 + i = omega arith in
      let small = placed.fits at (⊎_elim (λ (t : Contains p.hands.held at). hands.held at t)
      (λ (t : Contains p.hands.own at). (hands.own at t).published) look) in
      told_step s_own h moves x p shows rule mine placed hands low at (suc i) b look
      (omega (arith, is)) w
      (shows.words at.version (suc i) small (omega (arith, is))
      ∙ ap (λ (j : ℕ). slice_index h.words (word_at s_own at.version j)) number)
      (cursor_after p m (lookup h.index w)) [] (met_after p m (lookup h.index w))
      (p.calls.mine ++ listed (entry_of p.number (Looks l) w))
      (moved_by p l b o (lookup h.index w) (suc i) (sym number))
      (λ e c. let none = c.1 in absurd (omega arith)) kept drafting o
  look_step (LoadLink at want) look is =
      let l : Look = LoadLink at want in
      let w : ℕ = there l in
      let m : Move = record { act = Looks l; scan = b; let_go = o } in
      let small = placed.fits at (⊎_elim (λ (t : Contains p.hands.held at). hands.held at t)
      (λ (t : Contains p.hands.own at). (hands.own at t).published) look) in
      told_step s_own h moves x p shows rule mine placed hands low at 0 b look (omega arith) w
      (shows.words at.version 0 small (omega arith))
      (cursor_after p m (lookup h.index w)) (found_end (Looks l) w)
      (met_after p m (lookup h.index w)) (p.calls.mine ++ listed (entry_of p.number (Looks l) w))
      (moved_by p l b o (lookup h.index w) 0 refl) (link_ended 0 refl at want w) kept drafting o

module _ {U : Type 0} (lawful : U → PlainStore → Type 0) (allowed : U → PlainStore → Entry → Type 0)
    (c : Core U) (id place : ℕ) (v : View U) (p : Part U) (l : Look) (b : Bool) (o : Option Known)
    (good : Good lawful allowed p.site c) (at : Carries c.views id place v p)
    (may : IsLawfulMove lawful allowed c.heap p
    (record { act = Looks l; scan = b; let_go = o })) where
  abbrev m : Move
  m = record { act = Looks l; scan = b; let_go = o }

  abbrev w : ℕ
  w = slice_index c.heap.words (word_of p (Looks l))

  abbrev new : Part U
  new = part_after p m w (finds c.heap.index (Looks l) w)

  mine : PartIsGood p.site c.heap v.seen p
  mine = good.parts id place v p at

  old : Collects p.site c
  old = good.collects

  steps : Stepped p.site.shape c.heap old.moves old.moves old.state new
  steps = look_step c.heap old.moves old.state p old.heap old.rule (old.parts id place v p at)
      good.heap.placed
      mine.hands mine.number p.hands.held mine.draft b o l may.act.look may.act.word

  steps_now : Stepped p.site.shape (heap_after c.heap p (Looks l) w) old.moves old.moves old.state
      new
  steps_now = record {
    state = steps.state;
    rule = steps.rule;
    heap = heap_entered p.site.shape c.heap old.moves steps.state
        (slice_set c.heap.words (word_of p (Looks l)) w) (entry_of p.number (Looks l) w)
        (set-get_or c.heap.words (word_of p (Looks l)) 0) steps.heap;
    own = steps.own;
    others = steps.others;
  }

  -- a machine collects after a load
  pub collects_looked : Collects p.site
      (applied c id place v p (record { act = Looks l; scan = b; let_go = o }))
  collects_looked = collects_now p.site c id place v p new
      (seen_after v.seen c.heap.history (entry_of p.number (Looks l) w))
      (heap_after c.heap p (Looks l) w) old.moves at refl
      (λ j k u r is e. good.apart j k id place u v r p is at e) old steps_now

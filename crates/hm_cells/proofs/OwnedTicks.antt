-- What a caller knows of itself in running words after a step on the stage or on a reply.
use Rattle.std.proofs.Common.{◌≡◌, ◌+◌, ◌&&◌, ◌||◌, ℕ, Bool, true, false, not, Option, Some, None, refl, ap, ◌∙◌, arith}
use Rattle.hm_shape.specs.declared.reply.Reply.{Reply}
use Rattle.hm_moves.specs.declared.part.Known.{Known}
use Rattle.hm_moves.specs.declared.part.Part.{Part}
use Rattle.hm_moves.specs.declared.part.Seen.{Seen}
use Rattle.hm_moves.specs.declared.moving.Act.TheVariants.{Ticks}
use Rattle.hm_moves.specs.declared.moving.Move.{Move}
use Rattle.hm_moves.specs.declared.moving.Tick.{Tick}
use Rattle.hm_moves.specs.declared.moving.Tick.TheVariants.{LoadStage, MoveStage, LoadReply, StoreReply}
use Rattle.hm_moves.specs.Acts.{moved_stage}
use Rattle.hm_moves.specs.After.{part_after}
use Rattle.hm_moves.specs.Cycles.{is_first, meets}
use Rattle.hm_moves.specs.Decoding.{stage_in}
use Rattle.hm_cells.specs.declared.own.Own.{Own}
use Rattle.hm_cells.specs.Facts.{scanned_after}
use Rattle.hm_cells.specs.Owns.{own_of}

-- a caller sees a stage
abbrev pub seeing : Own → Seen → Own
seeing o stage = record o { watch = record o.watch { stage = stage } }

-- it has replied, and its mark is this
abbrev pub replied : Own → Reply → Bool → Own
replied o reply mark =
    record o { watch = record o.watch { reply = Some reply; mark = mark } }

-- so a tick that found x changes what it knows
abbrev pub ticking : Own → Tick → ℕ → Own
ticking o LoadStage x = seeing o (stage_in x)
ticking o (MoveStage from to) x = seeing o (stage_in (moved_stage from to x))
ticking o (LoadReply of) x = o
ticking o (StoreReply reply) x =
    replied o reply (o.watch.mark && not (is_first o.watch.stage.phase))

-- these used places and this mark are those that were
abbrev pub own_marked : Own → ℕ → Bool → Own
own_marked o used mark = record o { used = used; watch = record o.watch { mark = mark } }

pub marked_same : (o : Own) (used used' : ℕ) (mark mark' : Bool) → used ≡ used' → mark ≡ mark'
    → own_marked o used mark ≡ own_marked o used' mark'
marked_same o used used' mark mark' a b = λ i. own_marked o (a i) (b i)

-- what is not found marks nobody
pub unmarked : {U : Type 0} (p : Part U) (mark : Bool) (found : Option Known) → found ≡ None
    → mark || meets p found ≡ mark
unmarked p mark found none = ap (λ (o : Option Known). mark || meets p o) none ∙ still mark
  where
    still : (t : Bool) → t || false ≡ t
    still true = refl
    still false = refl

module _ {U : Type 0} (p : Part U) (old : Option ℕ) (scan : Bool) (let_go : Option Known) where
  abbrev m : Tick → Move
  m t = record { act = Ticks t; scan = scan; let_go = let_go }

  -- no tick ends what a scan has cleared
  pub scanned_ticked : (t : Tick) (found : Option Known) (scanned : Option ℕ)
      → scanned ≡ scanned_after p (m t) found scanned
  scanned_ticked t found None = refl
  scanned_ticked t found (Some n) = refl

  pub ticked_own : (t : Tick) (x : ℕ) (found : Option Known) → found ≡ None
      → own_of (part_after p (m t) x found) old ≡ ticking (own_of p old) t x
  ticked_own LoadStage x found none =
      marked_same (ticking (own_of p old) LoadStage x) (p.draft.used + 0) p.draft.used
      (p.cycle.scan.mark || meets p found) p.cycle.scan.mark (omega arith)
      (unmarked p p.cycle.scan.mark found none)
  ticked_own (MoveStage from to) x found none =
      marked_same (ticking (own_of p old) (MoveStage from to) x) (p.draft.used + 0) p.draft.used
      (p.cycle.scan.mark || meets p found) p.cycle.scan.mark (omega arith)
      (unmarked p p.cycle.scan.mark found none)
  ticked_own (LoadReply of) x found none =
      marked_same (own_of p old) (p.draft.used + 0) p.draft.used
      (p.cycle.scan.mark || meets p found) p.cycle.scan.mark (omega arith)
      (unmarked p p.cycle.scan.mark found none)
  ticked_own (StoreReply reply) x found none =
      marked_same (ticking (own_of p old) (StoreReply reply) x) (p.draft.used + 0) p.draft.used
      (p.cycle.scan.mark && not (is_first p.cycle.clock.stage.phase) || meets p found)
      (p.cycle.scan.mark && not (is_first p.cycle.clock.stage.phase)) (omega arith)
      (unmarked p (p.cycle.scan.mark && not (is_first p.cycle.clock.stage.phase)) found none)

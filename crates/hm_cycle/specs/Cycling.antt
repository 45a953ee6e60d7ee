-- What looks at the stage, moves it on, and replies to it.
use Rattle.std.specs.Prelude.{◌≡◌, ◌≢◌, ◌⊎◌, ℕ, zero, suc, ◌+◌, ◌<◌, ◌==◌, ◌||◌, Bool, true, false, Option, Some, None, if◌then◌else◌}
use Rattle.hm_shape.specs.declared.reply.Reply.{Reply}
use Rattle.hm_shape.specs.declared.reply.ReplyKind.{ReplyKind}
use Rattle.hm_shape.specs.declared.reply.ReplyKind.TheVariants.{Joined, Clean, Dirty}
use Rattle.hm_shape.specs.declared.stage.Phase.{Phase}
use Rattle.hm_shape.specs.declared.stage.Phase.TheVariants.{Idle, Join, First, Second}
use Rattle.hm_shape.specs.declared.stage.Stage.{Stage}
use Rattle.hm_shape.specs.Words.{stage_word}
use Rattle.hm_model.specs.declared.entry.Entry.{Entry}
use Rattle.hm_model.specs.Store.{PlainStore}
use Rattle.hm_moves.specs.declared.moving.Act.TheVariants.{Ticks}
use Rattle.hm_moves.specs.declared.moving.Tick.TheVariants.{LoadStage, MoveStage, LoadReply}
use Rattle.hm_moves.specs.declared.part.Part.{Part}
use Rattle.hm_moves.specs.declared.part.Seen.{Seen}
use Rattle.hm_moves.specs.Cycles.{is_open}
use Rattle.hm_moves.specs.CycleSteps.{HasReplied, MayGo, done_in}
use Rattle.hm_moves.specs.Decoding.{seen_of, seen_word, stage_in}
use Rattle.hm_moves.specs.Showing.{word_of_reply}
use Rattle.hm_cells.specs.Facts.{Facts}
use Rattle.hm_cells.specs.Calls.{Takes}
use Rattle.hm_cycle.specs.declared.stage.Begun.{Begun}
use Rattle.hm_cycle.specs.declared.stage.Begun.TheVariants as begun
use Rattle.hm_cycle.specs.declared.stage.Moved.{Moved}
use Rattle.hm_cycle.specs.declared.stage.Moved.TheVariants as moved

-- the last number of a stage
abbrev pub last_number : ℕ
last_number = 4294967295

-- the last count of cycles done
abbrev pub last_done : ℕ
last_done = 1073741823

-- no cycle begins any more from a stage with the last number or the last count
abbrev pub is_spent : Seen → Bool
is_spent stage = (stage.number == last_number) || (stage.done == last_done)

-- a cycle begins with this Join
abbrev pub next_join : Seen → Seen
next_join stage = record { number = stage.number + 1; done = stage.done; phase = Join }

-- after a phase comes this one, where no reply was Dirty, or where some was; after Idle a Join
abbrev pub phase_after : Phase → Bool → Phase
phase_after Idle marked = Join
phase_after Join marked = First
phase_after First marked = Second
phase_after Second false = Idle
phase_after Second true = First

-- and so after a stage
abbrev pub onward : Seen → Bool → Seen
onward stage marked = record {
  number = stage.number + 1;
  done = done_in stage.done (phase_after stage.phase marked);
  phase = phase_after stage.phase marked;
}

-- a reply is Clean, or Dirty
abbrev pub kind_by : Bool → ReplyKind
kind_by true = Clean
kind_by false = Dirty

-- a reply is Dirty
abbrev pub is_dirty : ReplyKind → Bool
is_dirty Joined = false
is_dirty Clean = false
is_dirty Dirty = true

-- a stage is moved on once where a cycle is begun
abbrev pub begun_moves : Begun → ℕ → ℕ
begun_moves begun.Begun moves = moves + 1
begun_moves (begun.Running stage) moves = moves
begun_moves begun.Spent moves = moves

-- and where it is advanced
abbrev pub advanced_moves : Moved → ℕ → ℕ
advanced_moves moved.Advanced moves = moves + 1
advanced_moves (moved.NotYet caller) moves = moves
advanced_moves (moved.Overtaken stage) moves = moves
advanced_moves moved.Spent moves = moves

-- a reply is not to the stage of a number, or there is none
abbrev pub IsElse : Option Reply → ℕ → Type 0
IsElse None number = Unit {0}
IsElse (Some reply) number = reply.number ≢ number

module _ {U : Type 0} where
  -- the stage that a pass saw last
  abbrev pub stage_seen : Facts U → Seen
  stage_seen s = s.part.cycle.clock.stage

  -- a pass may reply to a First where its scan has ended clean in it and its mark is unset, and to
  -- every Second
  abbrev pub MayAnswerIn : Facts U → Phase → Type 0
  MayAnswerIn s Idle = ⊥
  MayAnswerIn s Join = ⊥
  MayAnswerIn s First = (s.scanned ≡ Some (stage_seen s).number) × (s.part.cycle.scan.mark ≡ false)
  MayAnswerIn s Second = Unit {0}

  -- and once to a stage
  pub record MayAnswer (s : Facts U) : Type 0 where
    pub open_yet : is_open s.part ≡ true
    pub phase : MayAnswerIn s (stage_seen s).phase

  -- of the replies to the stage seen that a pass knows, the first n are there, and whether one of
  -- them is Dirty is known
  pub record Knows (p : Part U) (n : ℕ) (marked : Bool) : Type 0 where
    pub all : (q : ℕ) → q < n → HasReplied p q
    pub clean : marked ≡ false → (q : ℕ) (low : q < n) → (all q low).kind ≢ Dirty
    pub dirty : marked ≡ true → (q : ℕ) × (low : q < n) × ((all q low).kind ≡ Dirty)

  module _ (lawful : U → PlainStore → Type 0) (allowed : U → PlainStore → Entry → Type 0) where
    -- a load of a caller's reply found one of this kind to the stage that was seen, or one that is
    -- not to it, or none
    abbrev pub HearsOf : Facts U → ℕ → Option ReplyKind → Facts U → Type 0
    HearsOf s q (Some kind) t = Takes lawful allowed s (Ticks (LoadReply q))
        (word_of_reply (Some record { number = (stage_seen s).number; kind = kind })) t
    HearsOf s q None t = (reply : Option Reply) × IsElse reply (stage_seen s).number
        × Takes lawful allowed s (Ticks (LoadReply q)) (word_of_reply reply) t

    -- loads of the replies of the first n callers, in order, found replies to the stage seen alone
    abbrev pub Hears : Facts U → ℕ → Facts U → Type 0
    Hears s zero t = t ≡ s
    Hears s (suc n) t =
        (m : Facts U) × (kind : ReplyKind) × Hears s n m × HearsOf m n (Some kind) t

    -- a cycle is begun from the stage that was loaded, and that is Idle and not spent, by an
    -- exchange that found this word
    pub record Exchanged (before : Facts U) (loaded : Stage) (found : ℕ) (t : Facts U) : Type 0 where
      pub idle : loaded.phase ≡ Idle
      pub left : is_spent (seen_of loaded) ≡ false
      pub took : Takes lawful allowed before
          (Ticks (MoveStage (seen_of loaded) (next_join (seen_of loaded)))) found t

    -- it is begun where the exchange found that stage; one runs where the load found another than
    -- an Idle, or the exchange another stage; the numbers are spent where the Idle that was loaded
    -- has the last number or the last count
    abbrev pub BeginsFrom : Facts U → Stage → Begun → Facts U → Type 0
    BeginsFrom before loaded begun.Begun t = Exchanged before loaded (stage_word loaded) t
    BeginsFrom before loaded (begun.Running stage) t =
        ((loaded.phase ≢ Idle) × (stage ≡ stage_word loaded) × (t ≡ before))
        ⊎ ((stage ≢ stage_word loaded) × Exchanged before loaded stage t)
    BeginsFrom before loaded begun.Spent t =
        (loaded.phase ≡ Idle) × (is_spent (seen_of loaded) ≡ true) × (t ≡ before)

    -- the stage seen afterwards is the Join, the one of the word that is answered, or the one that
    -- was loaded
    abbrev pub stage_begun : Stage → Begun → Seen
    stage_begun loaded begun.Begun = next_join (seen_of loaded)
    stage_begun loaded (begun.Running stage) = stage_in stage
    stage_begun loaded begun.Spent = seen_of loaded

    -- a pass loads the stage, and exchanges an Idle that is not spent for the next Join
    pub record Begins (s : Facts U) (answer : Begun) (t : Facts U) : Type 0 where
      pub loaded : Stage
      pub before : Facts U
      pub load : Takes lawful allowed s (Ticks LoadStage) (stage_word loaded) before
      pub ends : BeginsFrom before loaded answer t
      pub stage : stage_seen t ≡ stage_begun loaded answer

    -- all callers have replied to the stage that a pass has seen, whose number is not the last, and
    -- it exchanges that for the one that comes next by these replies; the exchange found this word
    pub record Onward (s : Facts U) (found : ℕ) (t : Facts U) : Type 0 where
      pub before : Facts U
      pub heard : Hears s s.part.site.shape.callers before
      pub marked : Bool
      pub goes : MayGo before.part (stage_seen s).phase (phase_after (stage_seen s).phase marked)
      pub left : (stage_seen s).number ≢ last_number
      pub took : Takes lawful allowed before
          (Ticks (MoveStage (stage_seen s) (onward (stage_seen s) marked))) found t
      pub stage : stage_seen t ≡ (if found == seen_word (stage_seen s) then onward (stage_seen s) marked
          else stage_in found)

    -- the callers before this one have replied to the stage that a pass has seen, and it has not
    pub record HearsUpTo (s : Facts U) (caller : ℕ) (t : Facts U) : Type 0 where
      pub below : caller < s.part.site.shape.callers
      pub before : Facts U
      pub heard : Hears s caller before
      pub other : HearsOf before caller None t

    -- the stage is moved on where the exchange found the one that was seen, and another caller has
    -- moved it on where it found another; before, all replies have to be heard, and then the number
    -- must not be the last
    abbrev pub Advances : Facts U → Moved → Facts U → Type 0
    Advances s moved.Advanced t = Onward s (seen_word (stage_seen s)) t
    Advances s (moved.NotYet caller) t = HearsUpTo s caller t
    Advances s (moved.Overtaken stage) t = (stage ≢ seen_word (stage_seen s)) × Onward s stage t
    Advances s moved.Spent t =
        ((stage_seen s).number ≡ last_number) × Hears s s.part.site.shape.callers t

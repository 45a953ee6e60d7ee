-- What every moment keeps of the stage, of joins and of masks.
use Rattle.std.specs.Prelude.{◌≡◌, ◌⊎◌, ℕ, ◌+◌, ◌*◌, ◌<◌, ◌≤◌, true, false}
use Rattle.hm_rounds.specs.Phases.{Join, First, Role, From, Joined, Clean, is_answer, is_from, is_round, phase_place}
use Rattle.hm_rounds.specs.State.{Shape, Clock, Ties, Masks}
use Rattle.hm_rounds.specs.Views.{is_scanning, masks_count, AllMasks}

-- the stage has moved at least four times for each cycle that is done, and once more for each phase
-- since then
pub record IsCounted (clock : Clock) : Type 0 where
  pub number : 4 * clock.done + phase_place clock.phase < clock.number

-- what a caller has seen, replied and loaded of replies is not ahead of the stage
pub record KeepsTime (shape : Shape) (clock : Clock) (caller : ℕ) : Type 0 where
  pub seen : clock.seen caller ≤ clock.number
  pub seen_done : clock.seen_done caller ≤ clock.done
  pub present : clock.seen caller ≡ clock.number
      → (clock.seen_done caller ≡ clock.done) × (clock.seen_phase caller ≡ clock.phase)
  pub replied : clock.replied caller ≤ clock.seen caller
  -- in a round it has replied to the present stage or to the one before
  pub recent : caller < shape.callers → is_round clock.phase ≡ true
      → clock.number ≤ clock.replied caller + 1
  -- its reply to a Join is Joined, and that to a First is Clean
  pub joined : clock.phase ≡ Join → clock.replied caller ≡ clock.number
      → clock.reply caller ≡ Joined
  pub clean : clock.phase ≡ First → clock.replied caller ≡ clock.number
      → clock.reply caller ≡ Clean
  pub known : (other : ℕ) → clock.known caller other ≤ clock.number
  -- a reply to the present stage that it knows is the other's last one
  pub stands : (other : ℕ) → clock.known caller other ≡ clock.number
      → (clock.replied other ≡ clock.number)
      × (clock.reply other ≡ clock.known_reply caller other)

-- what is known of the stage that a caller has seen: whoever has seen it saw its phase, and replies
-- to it, those that the caller has loaded too, are of the kinds that answer that
pub record AreAnswers (clock : Clock) (caller : ℕ) : Type 0 where
  pub phase : (other : ℕ) → clock.seen other ≡ clock.seen caller
      → clock.seen_phase other ≡ clock.seen_phase caller
  pub answer : (other : ℕ) → 0 < clock.replied other → clock.replied other ≡ clock.seen caller
      → is_answer (clock.seen_phase caller) (clock.reply other) ≡ true
  pub known : (other : ℕ) → 0 < clock.known caller other
      → clock.known caller other ≡ clock.seen caller
      → is_answer (clock.seen_phase caller) (clock.known_reply caller other) ≡ true

-- when a caller last joined
pub record AreTied (shape : Shape) (clock : Clock) (ties : Ties) (masks : Masks) (caller : ℕ)
    : Type 0 where
  pub last : ties.last caller ≤ clock.seen caller
  -- while it sees the Join that it joined in, it has no masks
  pub inside : ties.last caller ≡ clock.seen caller → (clock.seen_phase caller ≡ Join)
      × (ties.done caller ≡ clock.seen_done caller)
      × ((owner : ℕ) → masks.loaded caller owner ≡ false)
  -- a Join that it has seen and not replied to is still going on, or was begun anew
  pub open_yet : caller < shape.callers → clock.seen_phase caller ≡ Join
      → clock.replied caller < clock.seen caller
      → (clock.phase ≡ Join) × (clock.seen_done caller ≡ clock.done)
  -- it has replied to the present Join after its join
  pub replied : clock.phase ≡ Join → clock.replied caller ≡ clock.number
      → (ties.done caller ≡ clock.done) × ((owner : ℕ) → masks.loaded caller owner ≡ false)
  -- in a round all have joined in this cycle
  pub in_round : caller < shape.callers → is_round clock.phase ≡ true
      → ties.done caller ≡ clock.done

-- while a caller scans, no cycle ends and nothing is freed
pub record IsAwaited (shape : Shape) (clock : Clock) (ties : Ties) (caller : ℕ) : Type 0 where
  pub phase : caller < shape.callers → is_scanning clock caller ≡ true
      → (clock.phase ≡ First) ⊎ (clock.phase ≡ Join)
  pub done : caller < shape.callers → is_scanning clock caller ≡ true
      → clock.seen_done caller ≡ clock.done
  pub all_joined : caller < shape.callers → is_scanning clock caller ≡ true
      → (owner : ℕ) → owner < shape.callers → ties.done owner ≡ clock.done

-- what the masks of a caller say
pub record AreMasks (shape : Shape) (clock : Clock) (masks : Masks) (roles : ℕ → Role) (caller : ℕ)
    : Type 0 where
  -- in a round they are the roles of now
  pub present : caller < shape.callers → is_round clock.phase ≡ true → (region : ℕ)
      → masks.loaded caller (shape.owner region) ≡ true
      → masks.from caller region ≡ is_from (roles region)
  -- a region that they give as From is From, also where the caller still scans after a restart
  pub still : caller < shape.callers → masks_count clock caller ≡ true → (region : ℕ)
      → masks.loaded caller (shape.owner region) ≡ true → masks.from caller region ≡ true
      → roles region ≡ From
  -- who has replied to a First has all of them
  pub whole : caller < shape.callers → is_round clock.phase ≡ true
      → clock.seen_phase caller ≡ First → clock.replied caller ≡ clock.seen caller
      → AllMasks shape masks caller

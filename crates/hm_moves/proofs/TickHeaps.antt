-- A heap after a tick shows what the step leaves.
use Rattle.std.proofs.Common.{◌≡◌, ◌≢◌, ℕ, ◌+◌, ◌/◌, ◌==◌, ◌&&◌, ◌||◌, ◌<◌, ◌≤◌, ◌^◌, nat_lt, Bool, true, false, length, slice_index, slice_set, Some, None, if◌then◌else◌, refl, sym, ap, ◌∙◌, subst, arith, ⊎_elim, eq-eqb, get_or-set_same, get_or-set_other, append-nil}
use Rattle.hm_shape.specs.declared.reply.Reply.{Reply}
use Rattle.hm_shape.specs.declared.stage.Phase.{Phase}
use Rattle.hm_shape.specs.declared.stage.Phase.TheVariants.{Idle, Join, First, Second}
use Rattle.hm_shape.specs.Words.{stage_at, reply_word}
use Rattle.hm_moves.proofs.Words.{Shape, Version, word_at, reply_at, roles_at, word_count, Known, Part, Heap, IsPublished, row_count, total, raised, eqb_tells, heap_after}
use Rattle.hm_moves.specs.declared.part.Seen.{Seen}
use Rattle.hm_moves.specs.declared.moving.Tick.TheVariants.{MoveStage, StoreReply}
use Rattle.hm_moves.specs.declared.moving.Act.TheVariants.{Ticks}
use Rattle.hm_moves.specs.Acts.{moved_stage}
use Rattle.hm_moves.specs.After.{ends_cycle}
use Rattle.hm_moves.specs.Allowed.{MayGo, MayMoveStage}
use Rattle.hm_moves.specs.Cycles.{is_from, is_idle, field_word}
use Rattle.hm_moves.specs.Decoding.{stage_in, seen_word}
use Rattle.hm_moves.specs.Showing.{phase_shown, reply_shown, owner_shown, IsStage, IsReplyWordOf, AreRolesOf, ShowsHeap}
use Rattle.hm_moves.proofs.Decoded.{stage_back}
use Rattle.hm_moves.proofs.Placed.{total_more}
use Rattle.hm_rounds.specs.State as state
use Rattle.hm_rounds.specs.State.{State}
use Rattle.hm_rounds.specs.Phases as phases
use Rattle.hm_rounds.specs.Steps as steps
use Rattle.hm_rounds.specs.Clocks.{moved_done}
use Rattle.hm_rounds.specs.After.{after}
use Rattle.hm_rounds.specs.Rule as rounds
use Rattle.hm_moves.proofs.TickFacts.{ShowsStore, dead_then, done_shown, from_second, or_no}

module _ (s : Shape) (h : Heap) (moves : ℕ → ℕ) (x : State) (shows : ShowsHeap s h moves x) (q : ℕ)
    (b : Bool) where
  -- a heap that stays shows what a load of the stage leaves
  pub heap_seen : ShowsHeap s h moves (after x q b (steps.Ticks steps.LoadStage))
  heap_seen = record {
    shape = shows.shape;
    stage = shows.stage;
    moved = shows.moved;
    replies = shows.replies;
    roles = shows.roles;
    role = shows.role;
    done = shows.done;
    dead = shows.dead;
    filled = shows.filled;
    freed = shows.freed;
    used = shows.used;
    beyond = shows.beyond;
    none = shows.none;
    words = shows.words;
    object = shows.object;
    rank = shows.rank;
    store = shows.store;
  }

  -- and what a load of a reply leaves
  pub heap_heard : (of : ℕ) → ShowsHeap s h moves (after x q b (steps.Ticks (steps.LoadReply of)))
  heap_heard of = record {
    shape = shows.shape;
    stage = shows.stage;
    moved = shows.moved;
    replies = shows.replies;
    roles = shows.roles;
    role = shows.role;
    done = shows.done;
    dead = shows.dead;
    filled = shows.filled;
    freed = shows.freed;
    used = shows.used;
    beyond = shows.beyond;
    none = shows.none;
    words = shows.words;
    object = shows.object;
    rank = shows.rank;
    store = shows.store;
  }

module _ (h : Heap) {U : Type 0} (moves : ℕ → ℕ) (x : State) (p : Part U)
    (shows : ShowsHeap p.site.shape h moves x)
    (low : p.number < p.site.shape.callers) (wide : length h.words ≡ word_count p.site.shape)
    (b : Bool) where
  abbrev s : Shape
  s = p.site.shape

  abbrev q : ℕ
  q = p.number

  -- a word that is stored leaves the words of versions and roles, where it is in front of these
  roles_still : (i y r : ℕ) → i ≤ s.callers → slice_index (slice_set h.words i y) (roles_at s r)
      ≡ slice_index h.words (roles_at s r)
  roles_still i y r le = get_or-set_other h.words i (roles_at s r) y 0 (λ e. omega arith)

  words_still : (i y : ℕ) (v : Version) (j : ℕ) → i ≤ s.callers
      → slice_index (slice_set h.words i y) (word_at s v j) ≡ slice_index h.words (word_at s v j)
  words_still i y v j le = get_or-set_other h.words i (word_at s v j) y 0 (λ e. omega arith)

  stage_still : (i y : ℕ) → i ≢ 0 → slice_index (slice_set h.words i y) stage_at
      ≡ slice_index h.words stage_at
  stage_still i y ne = get_or-set_other h.words i stage_at y 0 (λ e. ne (sym e))

  reply_still : (i y r : ℕ) → i ≢ reply_at r → slice_index (slice_set h.words i y) (reply_at r)
      ≡ slice_index h.words (reply_at r)
  reply_still i y r ne = get_or-set_other h.words i (reply_at r) y 0 (λ e. ne (sym e))

  -- a reply that is stored is shown
  pub heap_replied : (reply : Reply) → x.clock.seen q ≡ reply.number + 1
      → ShowsHeap s (heap_after h p (Ticks (StoreReply reply)) (slice_index h.words (reply_at q)))
      moves
      (after x q b (steps.Ticks (steps.StoreReply (reply_shown reply.kind))))
  heap_replied reply seen = record {
    shape = shows.shape;
    stage = subst (λ w. IsStage (stage_in w) x.clock.number x.clock.done x.clock.phase)
        (sym (stage_still (reply_at q) (reply_word reply) (λ e. omega arith))) shows.stage;
    moved = ap (λ w. (stage_in w).number)
        (stage_still (reply_at q) (reply_word reply) (λ e. omega arith))
        ∙ shows.moved;
    replies = λ r little. ⊎_elim
        (λ (e : ((r == q) ≡ true) × (r ≡ q)). replies_own r e.1 e.0)
        (λ (e : ((r == q) ≡ false) × (r ≢ q)). replies_else r little e.1 e.0)
        (eqb_tells r q);
    roles = λ r little. subst (λ w. AreRolesOf s h.places.role r w)
        (sym (roles_still (reply_at q) (reply_word reply) r (omega arith))) (shows.roles r little);
    role = shows.role;
    done = shows.done;
    dead = λ row little. or_no (h.places.dead row) ∙ shows.dead row little;
    filled = shows.filled;
    freed = shows.freed;
    used = shows.used;
    beyond = shows.beyond;
    none = shows.none;
    words = λ v f little narrow. shows.words v f little narrow
        ∙ sym (words_still (reply_at q) (reply_word reply) v _ (omega arith));
    object = shows.object;
    rank = shows.rank;
    store = subst (ShowsStore x) (sym (append-nil h.history)) shows.store;
  }
    where
      replies_own : (r : ℕ) → r ≡ q → (r == q) ≡ true → IsReplyWordOf
          (slice_index (slice_set h.words (reply_at q) (reply_word reply)) (reply_at r))
          (if r == q then x.clock.seen q else x.clock.replied r)
          (if r == q then reply_shown reply.kind else x.clock.reply r)
      replies_own r is test = record {
        reply = Some reply;
        word_is =
            ap (λ i. slice_index (slice_set h.words (reply_at q) (reply_word reply)) (reply_at i))
            is
            ∙ get_or-set_same h.words (reply_at q) (reply_word reply) 0 (omega arith);
        shown = (
          ap (λ e. if e then x.clock.seen q else x.clock.replied r) test ∙ seen,
          ap (λ e. if e then reply_shown reply.kind else x.clock.reply r) test,
        );
      }

      replies_else : (r : ℕ) → r < s.callers → r ≢ q → (r == q) ≡ false → IsReplyWordOf
          (slice_index (slice_set h.words (reply_at q) (reply_word reply)) (reply_at r))
          (if r == q then x.clock.seen q else x.clock.replied r)
          (if r == q then reply_shown reply.kind else x.clock.reply r)
      replies_else r little ne test = rw (test)
          (rw (reply_still (reply_at q) (reply_word reply) r (λ e. ne (omega arith)))
          (shows.replies r little))

  -- the stage that the heap has is the one that its mover has seen
  pub stage_met : (from : Seen) → from ≡ p.cycle.clock.stage → from.done < 2 ^ 30
      → IsStage p.cycle.clock.stage (x.clock.seen q) (x.clock.seen_done q) (x.clock.seen_phase q)
      → slice_index h.words stage_at ≡ seen_word from
      → (x.clock.seen q ≡ x.clock.number) × (x.clock.done ≡ from.done)
      × (x.clock.phase ≡ phase_shown from.phase)
      × (from.number ≡ total moves s.callers)
  stage_met from is fits seen at =
      let back : stage_in (slice_index h.words stage_at) ≡ from = ap stage_in at ∙ stage_back from
      fits in
      let there : IsStage from x.clock.number x.clock.done x.clock.phase =
      subst (λ z. IsStage z x.clock.number x.clock.done x.clock.phase) back shows.stage in
      let mine : IsStage from (x.clock.seen q) (x.clock.seen_done q) (x.clock.seen_phase q) =
      subst (λ z. IsStage z (x.clock.seen q) (x.clock.seen_done q) (x.clock.seen_phase q))
      (sym is) seen in (
        mine.number_is ∙ sym there.number_is,
        there.done_is,
        there.phase_is,
        ap (λ (z : Seen). z.number) (sym back) ∙ shows.moved,
      )

  module _ (from to : Seen) (go : MayMoveStage p from to)
      (at : slice_index h.words stage_at ≡ seen_word from) where
    abbrev new : ℕ
    new = moved_stage from to (slice_index h.words stage_at)

    abbrev ends : Bool
    ends = ends_cycle (MoveStage from to) (slice_index h.words stage_at)

    hit : (slice_index h.words stage_at == seen_word from) ≡ true
    hit = eq-eqb (slice_index h.words stage_at) (seen_word from) at

    ends_is : ends ≡ is_idle to.phase
    ends_is = ap (λ e. e && is_idle to.phase) hit

    now : stage_in (slice_index (slice_set h.words 0 new) stage_at) ≡ to
    now = ap stage_in (get_or-set_same h.words 0 new 0 (omega arith)
        ∙ ap (λ e. if e then seen_word to else slice_index h.words stage_at) hit)
        ∙ stage_back to go.fits

    was_published : (gone : Bool) (k : Known) → (if gone then None else h.index k.version.0)
        ≡ Some k
        → IsPublished h.index k
    was_published true k there = cc
    was_published false k there = there

    done_now : x.clock.done ≡ from.done → (if ends then h.places.done + 1 else h.places.done)
        ≡ moved_done x.clock.done (phase_shown to.phase)
    done_now done =
        rw (ends_is) (done_by to.phase)
      where
        done_by : (f : Phase) → (if is_idle f then h.places.done + 1 else h.places.done)
            ≡ moved_done x.clock.done (phase_shown f)
        done_by Idle = ap (λ n. n + 1) shows.done
        done_by Join = shows.done
        done_by First = shows.done
        done_by Second = shows.done

    dead_now : x.clock.phase ≡ phase_shown from.phase → rounds.Good x → (row : ℕ) → row < row_count
        s
        → (h.places.dead row || (ends && is_from (h.places.role row)))
        ≡ (is_from (h.places.role row) && nat_lt (x.ties.done (owner_shown s row))
        (moved_done x.clock.done (phase_shown to.phase)))
    dead_now phase rule row little = rw (ends_is) (dead_by to.phase (go.goes))
      where
        still : (h.places.dead row || false)
            ≡ (is_from (h.places.role row) && nat_lt (x.ties.done (owner_shown s row)) x.clock.done)
        still = or_no (h.places.dead row) ∙ shows.dead row little

        dead_by : (f : Phase) → MayGo p from.phase f
            → (h.places.dead row || (is_idle f && is_from (h.places.role row)))
            ≡ (is_from (h.places.role row) && nat_lt (x.ties.done (owner_shown s row))
            (moved_done x.clock.done (phase_shown f)))
        dead_by Idle may =
            let second : x.clock.phase ≡ phases.Second = phase
            ∙ ap phase_shown (from_second p from.phase may) in
            let below : owner_shown s row < x.shape.callers =
            subst (λ (z : state.Shape). z.owner row < x.shape.callers) shows.shape
            (rule.safe.owners row) in
            let tied = (rule.tied (owner_shown s row)).in_round below (ap phases.is_round second) in
            dead_then (h.places.dead row) (is_from (h.places.role row))
            (x.ties.done (owner_shown s row))
            x.clock.done (shows.dead row little) tied
        dead_by Join may = still
        dead_by First may = still
        dead_by Second may = still

    -- a stage that is moved is shown
    pub heap_moved : x.clock.number ≡ from.number + 1 → x.clock.done ≡ from.done
        → x.clock.phase ≡ phase_shown from.phase
        → from.number ≡ total moves s.callers
        → rounds.Good x
        → ShowsHeap s (heap_after h p (Ticks (MoveStage from to)) (slice_index h.words stage_at))
        (raised moves q)
        (after x q b (steps.Ticks (steps.MoveStage (phase_shown to.phase))))
    heap_moved number done phase count rule = record {
      shape = shows.shape;
      stage = subst
          (λ z. IsStage z (x.clock.number + 1) (moved_done x.clock.done (phase_shown to.phase))
          (phase_shown to.phase)) (sym now)
          record {
            number_is = let a = go.number in omega arith;
            done_is = ap (λ n. moved_done n (phase_shown to.phase)) done
                ∙ (done_shown from.done to.phase ∙ sym go.done);
            phase_is = refl;
          };
      moved = ap (λ (z : Seen). z.number) now
          ∙ (let a = go.number in let c = total_more moves q s.callers low in omega arith);
      replies = λ r little. subst (λ w. IsReplyWordOf w (x.clock.replied r) (x.clock.reply r))
          (sym (reply_still 0 new r (λ e. omega arith))) (shows.replies r little);
      roles = λ r little. subst (λ w. AreRolesOf s h.places.role r w)
          (sym (roles_still 0 new r (omega arith))) (shows.roles r little);
      role = shows.role;
      done = done_now done;
      dead = dead_now phase rule;
      filled = shows.filled;
      freed = shows.freed;
      used = shows.used;
      beyond = shows.beyond;
      none = shows.none;
      words = λ v f little narrow. shows.words v f little narrow
          ∙ sym (words_still 0 new v (field_word f) (omega arith));
      object = λ k there. shows.object k
          (was_published (ends && is_from (h.places.role (k.version.0 / s.versions))) k there);
      rank = λ k there. shows.rank k
          (was_published (ends && is_from (h.places.role (k.version.0 / s.versions))) k there);
      store = subst (ShowsStore x) (sym (append-nil h.history)) shows.store;
    }

-- What is kept of a caller after its tick shows what the step leaves.
use Rattle.std.proofs.Common.{◌≡◌, ◌≢◌, ℕ, ◌+◌, ◌==◌, ◌&&◌, ◌<◌, ◌^◌, not, Bool, true, false, slice_index_or, slice_set, Option, Some, None, if◌then◌else◌, sym, ap, ◌∙◌, subst, arith, ⊎_elim, length-set, get_or-set_same, get_or-set_other}
use Rattle.hm_shape.specs.declared.reply.Reply.{Reply}
use Rattle.hm_shape.specs.declared.reply.ReplyKind.{ReplyKind}
use Rattle.hm_shape.specs.declared.reply.ReplyKind.TheVariants.{Joined, Clean}
use Rattle.hm_shape.specs.declared.stage.Phase.{Phase}
use Rattle.hm_shape.specs.declared.stage.Phase.TheVariants.{Idle, Join, First, Second}
use Rattle.hm_moves.proofs.Words.{Part, raised, eqb_tells}
use Rattle.hm_moves.specs.declared.part.Seen.{Seen}
use Rattle.hm_moves.specs.declared.moving.Tick.{Tick}
use Rattle.hm_moves.specs.declared.moving.Tick.TheVariants.{LoadStage, MoveStage, LoadReply, StoreReply}
use Rattle.hm_moves.specs.declared.moving.Act.TheVariants.{Ticks}
use Rattle.hm_moves.specs.Acts.{moved_stage}
use Rattle.hm_moves.specs.Allowed.{MayGo, HaveReplied}
use Rattle.hm_moves.specs.Decoding.{stage_in, seen_word, reply_in}
use Rattle.hm_moves.specs.Shifts.{readied}
use Rattle.hm_moves.specs.Showing.{phase_shown, reply_shown, IsStage, IsReplyOf, IsKnownReply, IsReplyWordOf, ShowsClock, ShowsTies, ShowsScan, ShowsHands, ShowsPart}
use Rattle.hm_moves.proofs.Decoded.{stage_back}
use Rattle.hm_moves.proofs.Placed.{raised_here}
use Rattle.hm_rounds.specs.State.{State, put, put_row}
use Rattle.hm_rounds.specs.Phases as phases
use Rattle.hm_rounds.specs.Steps as steps
use Rattle.hm_rounds.specs.Clocks.{moved_done}
use Rattle.hm_rounds.specs.After.{after}
use Rattle.hm_rounds.specs.Allowed as may
use Rattle.hm_moves.proofs.TickFacts.{first_shown, known_after, put_else, put_here, put_row_here, reply_known, wide_after}

module _ {U : Type 0} (moves : ℕ → ℕ) (x : State) (p : Part U)
    (mine : ShowsPart p.site.shape moves x p)
  where
    abbrev bare : Bool
    bare = p.cycle.scan.bare

    -- after a tick by this caller its regions, scan and hands are shown but for its mark
    pub ties_ticked : (t : steps.Tick) (u : Tick) (w : ℕ)
        → ShowsTies (readied p (Ticks u) w) (after x p.number bare (steps.Ticks t))
    ties_ticked t u w = record {
      wide = mine.ties.wide;
      roles = mine.ties.roles;
      single = mine.ties.single;
      join = mine.ties.join;
      done = mine.ties.done;
    }

    pub hands_ticked : (t : steps.Tick) (u : Tick) (w : ℕ)
        → ShowsHands (readied p (Ticks u) w) (after x p.number bare (steps.Ticks t))
    hands_ticked t u w = record {
      held = mine.hands.held;
      next = mine.hands.next;
      written = mine.hands.written;
    }

    bare_here : p.cycle.scan.bare ≡ true → put x.bare p.number bare p.number ≡ true
    bare_here is = put_here x.bare p.number bare ∙ is

    -- a load of the stage leaves the scan
    pub scan_seen : (w : ℕ) → ShowsScan (readied p (Ticks LoadStage) w)
        (after x p.number bare (steps.Ticks steps.LoadStage))
    scan_seen w = record {
      wide = mine.scan.wide;
      loaded = mine.scan.loaded;
      from = mine.scan.from;
      mark = mine.scan.mark;
      passed = mine.scan.passed;
      short = mine.scan.short;
      ends = mine.scan.ends;
      bare = bare_here;
      holds = mine.scan.holds;
    }

    -- so does a move of the stage
    pub scan_moved : (from to : Seen) (w : ℕ)
        → ShowsScan (readied p (Ticks (MoveStage from to)) w)
        (after x p.number bare (steps.Ticks (steps.MoveStage (phase_shown to.phase))))
    scan_moved from to w = record {
      wide = mine.scan.wide;
      loaded = mine.scan.loaded;
      from = mine.scan.from;
      mark = mine.scan.mark;
      passed = mine.scan.passed;
      short = mine.scan.short;
      ends = mine.scan.ends;
      bare = bare_here;
      holds = mine.scan.holds;
    }

    -- and one that fails
    pub scan_missed : (from to : Seen) (w : ℕ)
        → ShowsScan (readied p (Ticks (MoveStage from to)) w)
        (after x p.number bare (steps.Ticks steps.LoadStage))
    scan_missed from to w = record {
      wide = mine.scan.wide;
      loaded = mine.scan.loaded;
      from = mine.scan.from;
      mark = mine.scan.mark;
      passed = mine.scan.passed;
      short = mine.scan.short;
      ends = mine.scan.ends;
      bare = bare_here;
      holds = mine.scan.holds;
    }

    -- and a load of a reply
    pub scan_heard : (of w : ℕ)
        → ShowsScan (readied p (Ticks (LoadReply of)) w)
        (after x p.number bare (steps.Ticks (steps.LoadReply of)))
    scan_heard of w = record {
      wide = mine.scan.wide;
      loaded = mine.scan.loaded;
      from = mine.scan.from;
      mark = mine.scan.mark;
      passed = mine.scan.passed;
      short = mine.scan.short;
      ends = mine.scan.ends;
      bare = bare_here;
      holds = mine.scan.holds;
    }

    -- a reply may take the mark away
    pub scan_replied : (reply : Reply) (w : ℕ)
        → ShowsScan (readied p (Ticks (StoreReply reply)) w)
        (after x p.number bare (steps.Ticks (steps.StoreReply (reply_shown reply.kind))))
    scan_replied reply w = record {
      wide = mine.scan.wide;
      loaded = mine.scan.loaded;
      from = mine.scan.from;
      mark = put_here x.scan.mark p.number
          (x.scan.mark p.number && not (phases.is_first (x.clock.seen_phase p.number)))
          ∙ (ap (λ m. m && not (phases.is_first (x.clock.seen_phase p.number))) mine.scan.mark
          ∙ ap (λ f. p.cycle.scan.mark && not f)
          (ap phases.is_first mine.clock.seen.phase_is ∙ first_shown p.cycle.clock.stage.phase));
      passed = mine.scan.passed;
      short = mine.scan.short;
      ends = mine.scan.ends;
      bare = bare_here;
      holds = mine.scan.holds;
    }

    -- a stage that the caller sees is shown
    stage_here : (stage : Seen) (n d : ℕ) (f : phases.Phase) → IsStage stage n d f
        → IsStage stage (put x.clock.seen p.number n p.number)
        (put x.clock.seen_done p.number d p.number)
        (put x.clock.seen_phase p.number f p.number)
    stage_here stage n d f is = record {
      number_is = put_here x.clock.seen p.number n ∙ is.number_is;
      done_is = put_here x.clock.seen_done p.number d ∙ is.done_is;
      phase_is = put_here x.clock.seen_phase p.number f ∙ is.phase_is;
    }

    -- a load of the stage shows it to the caller
    pub clock_seen : (w : ℕ) → IsStage (stage_in w) x.clock.number x.clock.done x.clock.phase
        → ShowsClock (readied p (Ticks LoadStage) w) moves
        (after x p.number bare (steps.Ticks steps.LoadStage))
    clock_seen w is = record {
      seen = stage_here (stage_in w) x.clock.number x.clock.done x.clock.phase is;
      reply = mine.clock.reply;
      wide = wide_after p.cycle.clock.stage (stage_in w) p.cycle.clock.replies ∙ mine.clock.wide;
      replies = λ r little. known_after p.cycle.clock.stage (stage_in w) p.cycle.clock.replies r
          (x.clock.known p.number r)
          (x.clock.known_reply p.number r) (mine.clock.replies r little);
      moved = mine.clock.moved;
    }

    -- so does a move of the stage that fails
    pub clock_missed : (from to : Seen) (w : ℕ) → (w == seen_word from) ≡ false
        → IsStage (stage_in w) x.clock.number x.clock.done x.clock.phase
        → ShowsClock (readied p (Ticks (MoveStage from to)) w) moves
        (after x p.number bare (steps.Ticks steps.LoadStage))
    clock_missed from to w miss is =
        let same : moved_stage from to w ≡ w = ap (λ e. if e then seen_word to else w) miss in
        record {
          seen = stage_here (stage_in (moved_stage from to w)) x.clock.number x.clock.done
              x.clock.phase
              (subst (λ v. IsStage (stage_in v) x.clock.number x.clock.done x.clock.phase)
              (sym same) is);
          reply = mine.clock.reply;
          wide = wide_after p.cycle.clock.stage (stage_in (moved_stage from to w))
              p.cycle.clock.replies
              ∙ mine.clock.wide;
          replies = λ r little. known_after p.cycle.clock.stage (stage_in (moved_stage from to w))
              p.cycle.clock.replies r
              (x.clock.known p.number r) (x.clock.known_reply p.number r)
              (mine.clock.replies r little);
          moved = ap (λ e. if e then p.cycle.clock.moves + 1 else p.cycle.clock.moves) miss
              ∙ mine.clock.moved;
        }

    -- a move that succeeds shows the new stage, and counts
    pub clock_moved : (from to : Seen) (w : ℕ) → (w == seen_word from) ≡ true → to.done < 2 ^ 30
        → IsStage to (x.clock.number + 1) (moved_done x.clock.done (phase_shown to.phase))
        (phase_shown to.phase)
        → ShowsClock (readied p (Ticks (MoveStage from to)) w) (raised moves p.number)
        (after x p.number bare (steps.Ticks (steps.MoveStage (phase_shown to.phase))))
    clock_moved from to w hit fits is =
        let same : stage_in (moved_stage from to w) ≡ to =
        ap (λ e. stage_in (if e then seen_word to else w)) hit ∙ stage_back to fits in record {
          seen = stage_here (stage_in (moved_stage from to w)) (x.clock.number + 1)
              (moved_done x.clock.done (phase_shown to.phase)) (phase_shown to.phase)
              (subst (λ z. IsStage z (x.clock.number + 1)
              (moved_done x.clock.done (phase_shown to.phase))
              (phase_shown to.phase)) (sym same) is);
          reply = mine.clock.reply;
          wide = wide_after p.cycle.clock.stage (stage_in (moved_stage from to w))
              p.cycle.clock.replies
              ∙ mine.clock.wide;
          replies = λ r little. known_after p.cycle.clock.stage (stage_in (moved_stage from to w))
              p.cycle.clock.replies r
              (x.clock.known p.number r) (x.clock.known_reply p.number r)
              (mine.clock.replies r little);
          moved = ap (λ e. if e then p.cycle.clock.moves + 1 else p.cycle.clock.moves) hit
              ∙ (ap (λ n. n + 1) mine.clock.moved ∙ sym (raised_here moves p.number));
        }

    -- a load of a reply shows it
    pub clock_heard : (of w : ℕ) → IsReplyWordOf w (x.clock.replied of) (x.clock.reply of)
        → of < p.site.shape.callers
        → ShowsClock (readied p (Ticks (LoadReply of)) w) moves
        (after x p.number bare (steps.Ticks (steps.LoadReply of)))
    clock_heard of w is low = record {
      seen = mine.clock.seen;
      reply = mine.clock.reply;
      wide = length-set p.cycle.clock.replies of (reply_in w) ∙ mine.clock.wide;
      replies = λ r little. ⊎_elim
          (λ (e : ((r == of) ≡ true) × (r ≡ of)). heard_here r e.1)
          (λ (e : ((r == of) ≡ false) × (r ≢ of)). heard_else r little e.1)
          (eqb_tells r of);
      moved = mine.clock.moved;
    }
      where
        heard_at : (r : ℕ) (o : Option Reply) (n : ℕ) (k : phases.Reply)
            → slice_index_or (slice_set p.cycle.clock.replies of (reply_in w)) r None ≡ o
            → put (x.clock.known p.number) of (x.clock.replied of) r ≡ n
            → put (x.clock.known_reply p.number) of (x.clock.reply of) r ≡ k
            → IsKnownReply o n k → IsKnownReply
            (slice_index_or (slice_set p.cycle.clock.replies of (reply_in w)) r None)
            (put_row x.clock.known p.number (put (x.clock.known p.number) of (x.clock.replied of))
            p.number r)
            (put_row x.clock.known_reply p.number
            (put (x.clock.known_reply p.number) of (x.clock.reply of))
            p.number r)
        heard_at r o n k e f g is =
            rw (e) (rw (put_row_here x.clock.known p.number
            (put (x.clock.known p.number) of (x.clock.replied of)) r ∙ f)
            (rw (put_row_here x.clock.known_reply p.number
            (put (x.clock.known_reply p.number) of (x.clock.reply of)) r ∙ g) is))

        heard_here : (r : ℕ) → r ≡ of
            → IsKnownReply (slice_index_or (slice_set p.cycle.clock.replies of (reply_in w)) r None)
            (put_row x.clock.known p.number (put (x.clock.known p.number) of (x.clock.replied of))
            p.number r)
            (put_row x.clock.known_reply p.number
            (put (x.clock.known_reply p.number) of (x.clock.reply of))
            p.number r)
        heard_here r e = heard_at r (reply_in w) (x.clock.replied of) (x.clock.reply of)
            (ap (λ i. slice_index_or (slice_set p.cycle.clock.replies of (reply_in w)) i None) e
            ∙ get_or-set_same p.cycle.clock.replies of (reply_in w) None (let a = mine.clock.wide in
            omega arith))
            (ap (put (x.clock.known p.number) of (x.clock.replied of)) e
            ∙ put_here (x.clock.known p.number) of (x.clock.replied of))
            (ap (put (x.clock.known_reply p.number) of (x.clock.reply of)) e
            ∙ put_here (x.clock.known_reply p.number) of (x.clock.reply of))
            (reply_known w (x.clock.replied of) (x.clock.reply of) is)

        heard_else : (r : ℕ) → r < p.site.shape.callers → r ≢ of
            → IsKnownReply (slice_index_or (slice_set p.cycle.clock.replies of (reply_in w)) r None)
            (put_row x.clock.known p.number (put (x.clock.known p.number) of (x.clock.replied of))
            p.number r)
            (put_row x.clock.known_reply p.number
            (put (x.clock.known_reply p.number) of (x.clock.reply of))
            p.number r)
        heard_else r little ne = heard_at r (slice_index_or p.cycle.clock.replies r None)
            (x.clock.known p.number r) (x.clock.known_reply p.number r)
            (get_or-set_other p.cycle.clock.replies of r (reply_in w) None ne)
            (put_else (x.clock.known p.number) of r (x.clock.replied of) ne)
            (put_else (x.clock.known_reply p.number) of r (x.clock.reply of) ne)
            (mine.clock.replies r little)

    -- a reply is the caller's own
    pub clock_replied : (reply : Reply) (w : ℕ) → reply.number ≡ p.cycle.clock.stage.number
        → ShowsClock (readied p (Ticks (StoreReply reply)) w) moves
        (after x p.number bare (steps.Ticks (steps.StoreReply (reply_shown reply.kind))))
    clock_replied reply w number = record {
      seen = mine.clock.seen;
      reply = (
        put_here x.clock.replied p.number (x.clock.seen p.number)
            ∙ (mine.clock.seen.number_is ∙ ap (λ n. n + 1) (sym number)),
        put_here x.clock.reply p.number (reply_shown reply.kind),
      );
      wide = mine.clock.wide;
      replies = mine.clock.replies;
      moved = mine.clock.moved;
    }

    -- a reply that the caller knows to be of the stage that it has seen is so in the state
    known_shown : (r : ℕ) → r < p.site.shape.callers → (kind : ReplyKind)
        → slice_index_or p.cycle.clock.replies r None
        ≡ Some record { number = p.cycle.clock.stage.number; kind = kind }
        → (x.clock.known p.number r ≡ x.clock.seen p.number)
        × (x.clock.known_reply p.number r ≡ reply_shown kind)
    known_shown r little kind is =
        let both : IsReplyOf (Some record { number = p.cycle.clock.stage.number; kind = kind })
        (x.clock.known p.number r)
        (x.clock.known_reply p.number r) =
        subst (λ o. IsKnownReply o (x.clock.known p.number r) (x.clock.known_reply p.number r)) is
        (mine.clock.replies r little) in
        (both.0 ∙ sym mine.clock.seen.number_is, both.1)

    module _ (callers : x.shape.callers ≡ p.site.shape.callers) where
      all_replied : (kind : ReplyKind) → HaveReplied p kind → may.AllReplied x p.number
      all_replied kind have r little = (known_shown r (omega arith) kind (have r (omega arith))).0

      -- the stage may move in the state where its mover may move it
      pub go_shown : (f g : Phase) → MayGo p f g → may.MayMove x p.number (phase_shown f)
          (phase_shown g)
      go_shown Idle Idle go = absurd go
      go_shown Idle Join go = tt
      go_shown Idle First go = absurd go
      go_shown Idle Second go = absurd go
      go_shown Join Idle go = absurd go
      go_shown Join Join go = tt
      go_shown Join First go = all_replied Joined go
      go_shown Join Second go = absurd go
      go_shown First Idle go = absurd go
      go_shown First Join go = tt
      go_shown First First go = absurd go
      go_shown First Second go = all_replied Clean go
      go_shown Second Idle go = (
        all_replied Clean go,
        λ r little.
            (known_shown r (omega arith) Clean (go r (omega arith))).1,
      )
      go_shown Second Join go = tt
      go_shown Second First go = λ r little. let is = go.all r (omega arith) in
          (known_shown r (omega arith) is.kind is.is).0
      go_shown Second Second go = absurd go

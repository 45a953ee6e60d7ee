-- In a good machine each caller is sure of itself, also after it lets go of a version.
use Rattle.std.proofs.Common.{Some, inr, subst, sym, ◌∙◌, ◌+◌, ◌*◌, ◌/◌, ◌%◌, ◌^◌, ◌<◌, ◌≤◌, ◌&&◌, ◌||◌, not, nat_le, Bool, true, false, true≢false, ◌≡◌, refl, ℕ, ap, List, length, slice_index, Option, Contains, inl, ⊎_elim, arith}
use Rattle.hm_moves.specs.Cycles.{field_count, has_masks, holds_from, is_kept, is_scanning, known_from}
use Rattle.hm_cells.specs.Facts.{is_answer, most_cycles}
use Rattle.hm_shape.specs.declared.reply.Reply.{Reply}
use Rattle.hm_shape.specs.declared.reply.ReplyKind.{ReplyKind}
use Rattle.hm_shape.specs.declared.reply.ReplyKind.TheVariants.{Joined, Clean, Dirty}
use Rattle.hm_shape.specs.declared.stage.Phase.{Phase}
use Rattle.hm_shape.specs.declared.stage.Phase.TheVariants as phases
use Rattle.hm_moves.specs.Showing.{IsKnownReply, IsReplyOf, phase_shown, reply_shown}
use Rattle.hm_rounds.specs.Phases.{is_answer as answers_shown}
use Rattle.hm_cells.proofs.Words.{version_count, done_limit, Entry, PlainStore, Known, Site, Part, View, IsPublished, row_of, letting, without, MayLookInto, Core, Good, Carries, names_without, unnamed_was, unnamed_wide, without_held, lawful_before, published_once, rank_small, IsSure}
use Rattle.std.proofs.Math.Nat.{mul-le-mul_left}
use Rattle.hm_moves.proofs.Cycled.{cycle_good}
use Rattle.hm_moves.proofs.Heaps.{look_published}

-- who is bare, or stays so, holds nothing of from-space
pub bare_holds : (masks passed was from : Bool)
    → ((masks && passed && not from) || (was && not from)) ≡ true → from ≡ false
bare_holds masks passed was false e = refl
bare_holds true true true true e = sym e
bare_holds true true false true e = sym e
bare_holds true false true true e = sym e
bare_holds true false false true e = sym e
bare_holds false true true true e = sym e
bare_holds false true false true e = sym e
bare_holds false false true true e = sym e
bare_holds false false false true e = sym e

-- kinds of reply that answer a stage are shown so
answer_shown : (phase : Phase) (kind : ReplyKind)
    → is_answer phase kind ≡ answers_shown (phase_shown phase) (reply_shown kind)
answer_shown phases.Idle kind = refl
answer_shown phases.Join Joined = refl
answer_shown phases.Join Clean = refl
answer_shown phases.Join Dirty = refl
answer_shown phases.First Joined = refl
answer_shown phases.First Clean = refl
answer_shown phases.First Dirty = refl
answer_shown phases.Second Joined = refl
answer_shown phases.Second Clean = refl
answer_shown phases.Second Dirty = refl

cycles_counted : (w : ℕ) → w % 2 ^ 32 / 4 < most_cycles
cycles_counted w = omega arith

module _ {U : Type 0} (lawful : U → PlainStore → Type 0) (allowed : U → PlainStore → Entry → Type 0) where
  -- the stage's word counts all cycles that are done, so a caller has seen no more
  cycles_few : (c : Core U) (id place : ℕ) (v : View U) (p : Part U) → Good lawful allowed p.site c
      → Carries c.views id place v p → p.cycle.clock.stage.done < most_cycles
  cycles_few c id place v p good at =
      let old = good.collects in
      let word = cycles_counted (slice_index c.heap.words 0) in
      let done = old.heap.stage.done_is in
      let behind = (old.rule.timely p.number).seen_done in
      let seen = (old.parts id place v p at).clock.seen.done_is in omega arith

  -- no more cycles are done than by the limit that a caller knows
  done_low : (c : Core U) (id place : ℕ) (v : View U) (p : Part U) → Good lawful allowed p.site c
      → Carries c.views id place v p → c.heap.places.done ≤ done_limit p
  done_low c id place v p good at =
      let mine = good.parts id place v p at in
      let old = good.collects in
      let low : p.number < old.state.shape.callers =
      subst (λ (n : ℕ). p.number < n) (ap (λ z. z.callers) (sym old.heap.shape)) mine.number in
      let behind = old.rule.freed.behind p.number low in
      let done = old.heap.done in
      let seen = (old.parts id place v p at).clock.seen.done_is in omega arith

  -- while a caller scans, none of its own versions lies in a From region
  own_kept : (c : Core U) (id place : ℕ) (v : View U) (p : Part U) → Good lawful allowed p.site c
      → Carries c.views id place v p → (k : Known) → is_scanning p ≡ true → Contains p.hands.own k
      → (t : Bool) → known_from p k.version ≡ t → known_from p k.version ≡ false
  own_kept c id place v p good at k scans there true e =
      let mine = good.parts id place v p at in
      let from = ((cycle_good lawful allowed p.site c good).scans.right id place v p at (inr scans)).from
      k (look_published c.heap v.seen p mine k (inr there)) e in
      absurd (true≢false (sym (mine.hands.kept k there) ∙ ap is_kept from))
  own_kept c id place v p good at k scans there false e = e

  own_sure : (c : Core U) (id place : ℕ) (v : View U) (p : Part U) → Good lawful allowed p.site c
      → Carries c.views id place v p → IsSure lawful allowed v.seen p
  own_sure c id place v p good at =
      let mine = good.parts id place v p at in
      let heap = good.heap in
      let shows = good.collects.parts id place v p at in
      let looks : (k : Known) → MayLookInto p k → IsPublished c.heap.index k =
      look_published c.heap v.seen p mine in
      record {
        number = mine.number;
        region = mine.draft.region;
        room = let a = mine.draft.used in
            let b = heap.placed.filled (row_of p.site.shape p.number p.draft.region) in omega arith;
        wide = mine.draft.wide;
        named = λ j w n is. mine.draft.named j w n is;
        cycles = cycles_few c id place v p good at;
        roles = shows.ties.wide;
        masks = shows.scan.wide;
        heard = shows.clock.wide;
        short = shows.scan.short;
        bare = shows.scan.holds;
        replies = λ q r low is same.
            let known : IsReplyOf (Some r) (good.collects.state.clock.known p.number q)
            (good.collects.state.clock.known_reply p.number q) =
            subst (λ (o : Option Reply). IsKnownReply o (good.collects.state.clock.known p.number q)
            (good.collects.state.clock.known_reply p.number q)) is (shows.clock.replies q low) in
            let seen = shows.clock.seen in
            let number = seen.number_is in
            let one = known.0 in
            let answers = (good.collects.rule.answered p.number).known q (omega (arith, one))
            (omega (arith, one, same, number)) in
            answer_shown p.cycle.clock.stage.phase r.kind
            ∙ (sym (λ i. answers_shown (seen.phase_is i) (known.1 i)) ∙ answers);
        kept = λ k scans there. own_kept c id place v p good at k scans there (known_from p k.version) refl;
        ended = λ e k scans there look. ((cycle_good lawful allowed p.site c good).scans.right id place v p
            at (inr scans)).ends e k there (looks k look);
        fit = λ k look. record {
          version = heap.placed.fits k (looks k look);
          rank =
              let low = done_low c id place v p good at in
              let a = rank_small p.site.shape c.heap.index c.heap.places heap.placed heap.ranked k
              (looks k look) in
              let b : version_count p.site.shape * (c.heap.places.done + 1)
              ≤ version_count p.site.shape * (done_limit p + 1) =
              mul-le-mul_left (version_count p.site.shape) (omega (arith, low)) in
              omega (arith, a, b);
          sized = heap.placed.sized k (looks k look);
        };
        once = λ k m a b. published_once c.heap.index k m (looks k a) (looks m b);
        calls = mine.calls.seen;
        opened = mine.calls.opened;
        history = lawful_before (lawful p.site.usage) (allowed p.site.usage) p.site.start v.seen
            c.heap.history
            mine.calls.opened (good.seen id v at.seat) heap.history;
      }

  -- a caller of a good machine is sure
  pub sure_of : (g : Site U) (c : Core U) (id place : ℕ) (v : View U) (p : Part U) → Good lawful allowed g c
      → Carries c.views id place v p → IsSure lawful allowed v.seen p
  sure_of g c id place v p good at = own_sure c id place v p
      (subst (λ (z : Site U). Good lawful allowed z c) (sym (good.parts id place v p at).site) good) at

  -- it is sure still where it lets go of a version
  pub sure_let : (seen : List Entry) (p : Part U) (o : Option Known) → IsSure lawful allowed seen p
      → IsSure lawful allowed seen (letting p o)
  sure_let seen p o sure =
      let was : (k : Known) → MayLookInto (letting p o) k → MayLookInto p k = λ k look. ⊎_elim
      (λ (t : Contains (without p.hands.held o) k). inl (without_held p.hands.held o k t))
      (λ (t : Contains p.hands.own k). inr t) look in
      record {
        number = sure.number;
        region = sure.region;
        room = sure.room;
        wide = unnamed_wide o p.draft.written ∙ sure.wide;
        named = λ j w n is. names_without p.hands.held o p.draft.written j w is n
            (sure.named j w n (unnamed_was o p.draft.written j w is));
        cycles = sure.cycles;
        roles = sure.roles;
        masks = sure.masks;
        heard = sure.heard;
        short = sure.short;
        replies = sure.replies;
        bare = bare_holds (has_masks p) (nat_le (field_count * length p.hands.own) p.cycle.scan.cursor)
            p.cycle.scan.bare (holds_from (letting p o));
        kept = sure.kept;
        ended = λ e k scans there look. sure.ended e k scans there (was k look);
        fit = λ k look. sure.fit k (was k look);
        once = λ k m a b. sure.once k m (was k a) (was m b);
        calls = sure.calls;
        opened = sure.opened;
        history = sure.history;
      }

  -- and is so in a good machine
  pub sure_letting : (g : Site U) (c : Core U) (id place : ℕ) (v : View U) (p : Part U) (o : Option Known)
      → Good lawful allowed g c → Carries c.views id place v p → IsSure lawful allowed v.seen (letting p o)
  sure_letting g c id place v p o good at = sure_let v.seen p o (sure_of g c id place v p good at)

-- A caller that takes no step: its part is shown as before.
use Rattle.std.proofs.Common.{◌≡◌, ◌<◌, ℕ, refl, sym, ap, ◌∙◌, subst}
use Rattle.hm_shape.specs.declared.shape.Shape.{Shape}
use Rattle.hm_moves.specs.declared.part.Part.{Part}
use Rattle.hm_moves.specs.Places.{row_of}
use Rattle.hm_moves.specs.Showing.{IsStage, IsReplyOf, IsKnownReply, ShowsPart, name_shown, version_shown}
use Rattle.std.proofs.Common.{slice_index_or, None}
use Rattle.hm_rounds.specs.State.{State}
use Rattle.hm_rounds.specs.Parts as rounds

module _ {U : Type 0} (s : Shape) (moves now : ℕ → ℕ) (x y : State) (p : Part U)
    (e : rounds.part_of y p.number ≡ rounds.part_of x p.number)
    (roles : (g : ℕ) → g < s.regions → y.roles (row_of s p.number g)
    ≡ x.roles (row_of s p.number g))
    (same : now p.number ≡ moves p.number) (h : ShowsPart s moves x p) where
  roles_of_part : (g : ℕ) → g < p.site.shape.regions
      → y.roles (row_of p.site.shape p.number g) ≡ x.roles (row_of p.site.shape p.number g)
  roles_of_part = subst (λ (z : Shape). (g : ℕ) → g < z.regions
      → y.roles (row_of z p.number g) ≡ x.roles (row_of z p.number g)) (sym h.shape) roles

  -- the part is shown as before, where callers may have moved the stage, but not this one
  pub shown_else_moved : ShowsPart s now y p
  shown_else_moved = record {
    shape = h.shape;
    clock = record {
      seen = subst (λ (z : rounds.Part). IsStage p.cycle.clock.stage z.seen z.seen_done
          z.seen_phase) (sym e)
          h.clock.seen;
      reply = subst (λ (z : rounds.Part). IsReplyOf p.cycle.clock.reply z.replied z.reply) (sym e)
          h.clock.reply;
      wide = h.clock.wide;
      replies = subst (λ (z : rounds.Part). (q : ℕ) → q < p.site.shape.callers
          → IsKnownReply (slice_index_or p.cycle.clock.replies q None) (z.known q)
          (z.known_reply q)) (sym e)
          h.clock.replies;
      moved = h.clock.moved ∙ sym same;
    };
    ties = record {
      wide = h.ties.wide;
      roles = λ g low. roles_of_part g low ∙ h.ties.roles g low;
      single = h.ties.single;
      join = ap (λ (z : rounds.Part). z.last) e ∙ h.ties.join;
      done = ap (λ (z : rounds.Part). z.joined) e ∙ h.ties.done;
    };
    scan = record {
      wide = h.scan.wide;
      loaded = λ q low. ap (λ (z : rounds.Part). z.loaded q) e ∙ h.scan.loaded q low;
      from = λ q g a b is. ap (λ (z : rounds.Part). z.from (row_of p.site.shape q g)) e
          ∙ h.scan.from q g a b (ap (λ (z : rounds.Part). z.loaded q) (sym e) ∙ is);
      mark = ap (λ (z : rounds.Part). z.mark) e ∙ h.scan.mark;
      passed = λ i f k a b c. ap (λ (z : rounds.Part). z.passed (version_shown k.version) f) e
          ∙ h.scan.passed i f k a b c;
      short = h.scan.short;
      ends = λ n there. ap (λ (z : rounds.Part). z.ends (name_shown n.name) n.rank) e
          ∙ h.scan.ends n there;
      bare = λ is. ap (λ (z : rounds.Part). z.bare) e ∙ h.scan.bare is;
      holds = h.scan.holds;
    };
    hands = record {
      held = λ v. ap (λ (z : rounds.Part). z.held v) e ∙ h.hands.held v;
      next = ap (λ (z : rounds.Part). z.next) e ∙ h.hands.next;
      written = λ f a b c. ap (λ (z : rounds.Part). z.written f) e ∙ h.hands.written f a b c;
    };
  }

-- the part is shown as before
pub shown_else : {U : Type 0} (s : Shape) (moves : ℕ → ℕ) (x y : State) (p : Part U)
    → rounds.part_of y p.number ≡ rounds.part_of x p.number
    → ((g : ℕ) → g < s.regions → y.roles (row_of s p.number g) ≡ x.roles (row_of s p.number g))
    → ShowsPart s moves x p → ShowsPart s moves y p
shown_else s moves x y p e roles h = shown_else_moved s moves moves x y p e roles refl h

-- What ticks find and leave, on plain variables.
use Rattle.std.proofs.Common.{◌≡◌, ◌≢◌, ℕ, zero, suc, ◌+◌, ◌==◌, ◌&&◌, ◌||◌, ◌≤◌, nat_lt, Bool, true, false, List, [], ◌∷◌, length, map, slice_index, slice_index_or, slice_set, Option, Some, None, if◌then◌else◌, refl, sym, ap, ◌∙◌, subst, arith, eq-eqb, ne_eqb, append-nil}
use Rattle.hm_shape.specs.declared.reply.Reply.{Reply}
use Rattle.hm_shape.specs.declared.stage.Phase.{Phase}
use Rattle.hm_shape.specs.declared.stage.Phase.TheVariants.{Idle, Join, First, Second}
use Rattle.hm_moves.proofs.Words.{Part, Heap, Entry, Name, IsThere, store_of, nat_tests, set-get_or, length-map, heap_after}
use Rattle.hm_moves.specs.declared.part.Seen.{Seen}
use Rattle.hm_moves.specs.declared.moving.Tick.{Tick}
use Rattle.hm_moves.specs.declared.moving.Act.TheVariants.{Ticks}
use Rattle.hm_moves.specs.Acts.{tick_word, ticked_word}
use Rattle.hm_moves.specs.After.{ends_cycle, without_from}
use Rattle.hm_moves.specs.Allowed.{MayGo, done_in}
use Rattle.hm_moves.specs.Cycles.{is_from, is_first, is_before}
use Rattle.hm_moves.specs.Decoding.{seen_word, reply_in}
use Rattle.hm_moves.specs.Shifts.{replies_after}
use Rattle.hm_moves.specs.Showing.{phase_shown, IsReplyOf, IsKnownReply, word_of_reply, IsReplyWordOf, name_shown}
use Rattle.hm_moves.proofs.Decoded.{reply_back}
use Rattle.hm_rounds.specs.State.{State, put, put_row}
use Rattle.hm_rounds.specs.Phases as phases
use Rattle.hm_rounds.specs.Clocks.{moved_done}

pub or_no : (a : Bool) → (a || false) ≡ a
or_no true = refl
or_no false = refl

module _ {U : Type 0} (h : Heap) (p : Part U) (t : Tick) (w : ℕ) where
  -- a tick that leaves its word, and ends no cycle, leaves the heap
  pub heap_still : w ≡ slice_index h.words (tick_word p.number t) → ticked_word t w ≡ w
      → ends_cycle t w ≡ false → heap_after h p (Ticks t) w ≡ h
  heap_still is same goes =
      let words : slice_set h.words (tick_word p.number t) (ticked_word t w) ≡ h.words =
      ap (slice_set h.words (tick_word p.number t)) (same ∙ is)
      ∙ set-get_or h.words (tick_word p.number t) 0 in
      λ i. record {
        words = words i;
        index = λ v. ap (λ e. without_from e p.site.shape h.places h.index v) goes i;
        places = record (h.places) {
          dead = λ row. (ap (λ e. h.places.dead row || (e && is_from (h.places.role row))) goes
              ∙ or_no (h.places.dead row)) i;
          done = ap (λ e. if e then h.places.done + 1 else h.places.done) goes i;
        };
        history = append-nil h.history i;
      }

-- a phase adds as much to the done count in both
pub done_shown : (n : ℕ) (f : Phase) → moved_done n (phase_shown f) ≡ done_in n f
done_shown n Idle = refl
done_shown n Join = refl
done_shown n First = refl
done_shown n Second = refl

-- callers scan in First
pub first_shown : (f : Phase) → phases.is_first (phase_shown f) ≡ is_first f
first_shown Idle = refl
first_shown Join = refl
first_shown First = refl
first_shown Second = refl

-- a stage that was seen gives no more cycles than the one after it
pub done_less : (n : ℕ) (f : Phase) → n ≤ done_in n f
done_less n Idle = omega arith
done_less n Join = omega arith
done_less n First = omega arith
done_less n Second = omega arith

-- the word of a reply, or of none, says it
pub reply_word_in : (r : Option Reply) → reply_in (word_of_reply r) ≡ r
reply_word_in None = refl
reply_word_in (Some r) = reply_back r

-- a word of a reply shows it as known
pub reply_known : (w n : ℕ) (k : phases.Reply) → IsReplyWordOf w n k → IsKnownReply (reply_in w) n k
reply_known w n k says =
    subst (λ o. IsKnownReply o n k) (sym (ap reply_in says.word_is ∙ reply_word_in says.reply))
    (known_of says.reply says.shown)
  where
    known_of : (o : Option Reply) → IsReplyOf o n k → IsKnownReply o n k
    known_of None is = tt
    known_of (Some r) is = is

-- a caller that has not replied to what it saw is open
pub open_shown : (r : Option Reply) (n replied seen : ℕ) (k : phases.Reply) → IsReplyOf r replied k
    → seen ≡ n + 1 → nat_lt replied seen ≡ is_before r n
open_shown None n replied seen k is at = grind (arith, nat_tests)
open_shown (Some r) n replied seen k is at = grind (arith, nat_tests)

abbrev no_reply : Option Reply → Option Reply
no_reply r = None

-- no reply is known of another stage
pub none_replied : (l : List (Option Reply)) (q : ℕ) → slice_index_or (map no_reply l) q None
    ≡ no_reply None
none_replied [] q = refl
none_replied (r ∷ l) zero = refl
none_replied (r ∷ l) (suc q) = none_replied l q

-- replies that are known stay so, or none is
pub known_after : (old new : Seen) (l : List (Option Reply)) (q n : ℕ) (k : phases.Reply)
    → IsKnownReply (slice_index_or l q None) n k
    → IsKnownReply (slice_index_or (replies_after old new l) q None) n k
known_after old new l q n k is =
    elim (seen_word new == seen_word old) as
    (λ e. IsKnownReply (slice_index_or (if e then l else map no_reply l) q None) n k)
    [ true ↦ is | false ↦ subst (λ o. IsKnownReply o n k) (sym (none_replied l q)) tt ]

pub wide_after : (old new : Seen) (l : List (Option Reply)) → length (replies_after old new l)
    ≡ length l
wide_after old new l =
    elim (seen_word new == seen_word old) as (λ e. length (if e then l else map no_reply l)
    ≡ length l)
    [ true ↦ refl | false ↦ length-map l no_reply ]

-- only names that are there are in the store
abbrev pub ShowsStore : State → List Entry → Type 0
ShowsStore x es = (o : ℕ) → x.store.has o ≡ true → (n : Name) × IsThere (store_of es) n
    × (o ≡ name_shown n)

-- nothing is dead where all joined in this cycle, and afterwards what was given up is
pub dead_then : (dead from : Bool) (joined now : ℕ) → dead ≡ (from && nat_lt joined now) → joined
    ≡ now
    → (dead || from) ≡ (from && nat_lt joined (now + 1))
dead_then dead from joined now is tied = grind (arith, nat_tests)

-- a phase of a round is Second where the stage may go to Idle from it
pub from_second : {U : Type 0} (p : Part U) (f : Phase) → MayGo p f Idle → f ≡ Second
from_second p Idle go = absurd go
from_second p Join go = absurd go
from_second p First go = absurd go
from_second p Second go = refl

module _ {A : Type 0} where
  -- a fact that is changed is the new one, and others stay
  pub put_here : (facts : ℕ → A) (at : ℕ) (a : A) → put facts at a at ≡ a
  put_here facts at a = rw (eq-eqb at at refl) refl

  pub put_else : (facts : ℕ → A) (at other : ℕ) (a : A) → other ≢ at → put facts at a other
      ≡ facts other
  put_else facts at other a ne = rw (ne_eqb other at ne) refl

  pub put_row_here : (facts : ℕ → ℕ → A) (at : ℕ) (row : ℕ → A) (item : ℕ) → put_row facts at row at
      item
      ≡ row item
  put_row_here facts at row item = rw (eq-eqb at at refl) refl

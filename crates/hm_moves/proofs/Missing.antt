-- An exchange of a link fails.
use Rattle.std.proofs.Common.{◌≡◌, ◌&&◌, ◌||◌, ◌==◌, not, ℕ, suc, Bool, true, false, List, ◌++◌, Option, Some, None, slice_index, slice_set, refl, sym, ap, ◌∙◌, subst, arith, ne_eqb}
use Rattle.hm_moves.proofs.Words.{Shape, word_at, Known, Part, Heap, Entry, Builds, Name, IsThere, store_of}
use Rattle.hm_moves.specs.Acts.{listed}
use Rattle.hm_moves.specs.After.{heap_after}
use Rattle.hm_moves.proofs.Words.{where_zero, MayLookInto, link_of}
use Rattle.hm_moves.proofs.Words.{Follows, IsLinked}
use Rattle.hm_moves.proofs.Heaps.{same_word}
use Rattle.hm_rounds.specs.Marks.{meets_from}
use Rattle.hm_rounds.proofs.Parting.{part_else}
use Rattle.hm_moves.specs.Places.{row_of}
use Rattle.hm_moves.specs.Cycles.{meets, field_word}
use Rattle.hm_moves.specs.Showing.{version_shown}
use Rattle.hm_moves.proofs.Live.{from_shown}
use Rattle.hm_rounds.specs.State.{State}
use Rattle.hm_rounds.specs.Views as rounds
use Rattle.hm_rounds.specs.Steps as steps
use Rattle.hm_rounds.specs.After as turned
use Rattle.hm_moves.specs.declared.moving.Build.TheVariants.{LinkStore}
use Rattle.hm_rounds.specs.Runs.{MayTake}
use Rattle.hm_rounds.proofs.Steps.{good_step}
use Rattle.hm_moves.proofs.Fields.{shown_as, any_shown, eq_turn, put_same, row_same}
use Rattle.hm_moves.proofs.ShownHeaps.{head_else, heap_rewritten}
use Rattle.hm_moves.proofs.Building.{Ready, later, bare_then, me_below, passed_before, short_before, bare_then_is, no_more, next_stays, room_stays, written_stays, look_there, look_into, low_there, acted_of, may_be_bare_then, Turned, AreLow}

module _ {U : Type 0} {h : Heap} {seen : List Entry} {p : Part U} {moves : ℕ → ℕ} {x : State}
    (ready : Ready h seen p moves x) (by_scan : Bool) (o : Option Known) where
  abbrev its : Shape
  its = p.site.shape

  abbrev me : ℕ
  me = p.number

  abbrev its_row : ℕ
  its_row = row_of p.site.shape p.number p.draft.region

  entry_missed : (e : Option Entry) (n : ℕ) (name : Name) → IsThere (store_of h.history) name
      → IsThere (store_of (h.history ++ listed (where_zero e (suc n)))) name
  entry_missed None n name there = no_more ready name there
  entry_missed (Some e) n name there = no_more ready name there

  -- an exchange that fails finds a version
  module _ (at k : Known) (entry : Option Entry) (n : ℕ) (look : MayLookInto p at)
      (link : suc n ≡ link_of its h.words at)
      (low : AreLow ready by_scan o (LinkStore at k entry) (suc n))
    where
      missed_words : slice_set h.words (word_at its at.version 0) (suc n) ≡ h.words
      missed_words = same_word h.words (word_at its at.version 0) (suc n) link

      abbrev linked : (m : Known) × (m.version.0 ≡ n) × Follows h.index at m
      linked = subst (IsLinked h.index (store_of h.history) at) (sym link)
          (ready.chained.link at (look_there ready at look))

      abbrev missed : Known
      missed = linked.0

      missed_is : h.index n ≡ Some missed
      missed_is = ap h.index (sym linked.1) ∙ linked.2.published

      missed_word : x.versions.word (version_shown at.version) 0 ≡ suc n
      missed_word = ready.shows.words at.version 0 (low_there ready at (look_there ready at look))
          (omega arith) ∙ sym link

      abbrev P_missed : Part U
      P_missed = later p by_scan o (LinkStore at k entry) (suc n) (h.index n)

      abbrev b_missed : Bool
      b_missed = bare_then p P_missed

      abbrev miss_step : steps.Step
      miss_step = steps.Looks (steps.Miss (version_shown at.version))

      miss_shown : (v : ℕ) → shown_as (h.index n) v ≡ (v == suc n)
      miss_shown v = ap (λ (z : Option Known). shown_as z v) missed_is
          ∙ (ap (λ (z : ℕ). suc z == v) linked.1 ∙ eq_turn (suc n) v)

      miss_held : (v : ℕ) → (turned.after x me b_missed miss_step).hands.held me v
          ≡ ((any_shown p.hands.held v || shown_as (h.index n) v) || false)
      miss_held v = row_same x.hands.held me
          (λ other. x.hands.held me other
          || ((other == x.versions.word (version_shown at.version) 0)
          && not (x.versions.word (version_shown at.version) 0 == 0))) v
          ∙ (ap (λ (z : ℕ). x.hands.held me v || ((v == z) && not (z == 0))) missed_word
          ∙ (ap (λ (t : Bool). x.hands.held me v || ((v == suc n) && not t))
          (ne_eqb (suc n) 0 (λ e. omega (arith, e)))
          ∙ (ap (λ (t : Bool). t || ((v == suc n) && true)) (ready.part.hands.held v)
          ∙ (ap (λ (t : Bool). any_shown p.hands.held v || (t && true)) (sym (miss_shown v))
          ∙ held_more (any_shown p.hands.held v) (shown_as (h.index n) v)))))
        where
          held_more : (a b : Bool) → (a || (b && true)) ≡ ((a || b) || false)
          held_more true b = refl
          held_more false true = refl
          held_more false false = refl

      miss_meets : meets_from x me (x.versions.word (version_shown at.version) 0)
          ≡ meets p (h.index n)
      miss_meets =
          let small = low_there ready missed linked.2.published in
          ap (meets_from x me) missed_word
          ∙ (ap (λ (t : Bool). not t && rounds.known_from x.shape x.masks me (suc n))
          (ne_eqb (suc n) 0 (λ e. omega (arith, e)))
          ∙ (ap (λ (z : ℕ). rounds.known_from x.shape x.masks me (suc z)) (sym linked.1)
          ∙ (from_shown its h moves x ready.shows p ready.part missed.version small
          ∙ ap (meets p) (sym missed_is))))

      -- the state after it
      pub miss : Turned ready by_scan o (LinkStore at k entry) (suc n)
      miss = record {
        now = turned.after x me b_missed miss_step;
        acted = acted_of ready by_scan o (LinkStore at k entry) (suc n) (h.index n)
            (heap_after h p (Builds (LinkStore at k entry)) (suc n))
            x.uses x.versions x.store (turned.after x me b_missed miss_step).scan
            (turned.after x me b_missed miss_step).hands (turned.after x me b_missed miss_step).bare
            (good_step x me b_missed miss_step take ready.rules)
            (heap_rewritten its h moves x ready.shows
            (slice_set h.words (word_at its at.version 0) (suc n))
            (h.history ++ listed (where_zero entry (suc n)))
            (head_else its h.words at.version 0 (suc n))
            x.versions.word
            (λ v f small few. ready.shows.words v f small few
            ∙ ap (λ (l : List ℕ). slice_index l (word_at its v (field_word f))) (sym missed_words))
            (turned.after x me b_missed miss_step).scan (turned.after x me b_missed miss_step).hands
            (turned.after x me b_missed miss_step).bare (entry_missed entry n))
            (put_same x.scan.mark me
            (x.scan.mark me || meets_from x me (x.versions.word (version_shown at.version) 0))
            ∙ (ap (λ (t : Bool). t || meets_from x me
            (x.versions.word (version_shown at.version) 0))
            ready.part.scan.mark
            ∙ ap (λ (t : Bool). p.cycle.scan.mark || t) miss_meets))
            (passed_before ready None) (short_before ready None) refl miss_held (next_stays ready)
            (λ f few room some. written_stays ready f few (room_stays ready room) some)
            (bare_then_is ready P_missed);
        others = λ r ne. part_else x me b_missed miss_step r ne;
        roles = λ row. refl;
      }
        where
          take : MayTake x me b_missed miss_step
          take = record {
            below = me_below ready;
            allowed = (
              look_into ready at look,
              λ e. (let all = sym missed_word ∙ e in omega (arith, all)),
            );
            truly = may_be_bare_then ready by_scan o (LinkStore at k entry) (suc n) (h.index n) low
                miss_step
                refl miss_held refl;
          }

-- What one step leaves of a pass.
use Rattle.std.proofs.Common.{◌≡◌, ◌<◌, ◌≤◌, ◌+◌, ◌*◌, ◌-◌, ℕ, Bool, true, if◌then◌else◌, List, [], ◌++◌, filter, get_or, length, map, take, append-nil, Option, None, refl, sym, ap, ◌∙◌, subst, arith, Contains}
use Rattle.std.proofs.lemmas.List.Elements.{All-contains_itself}
use Rattle.hm_shape.specs.declared.version.Version.{Version}
use Rattle.hm_model.specs.declared.entry.Entry.{Entry}
use Rattle.hm_model.specs.Store.{PlainStore}
use Rattle.hm_model.specs.Sight.{IsUntended}
use Rattle.hm_moves.specs.declared.part.Known.{Known}
use Rattle.hm_moves.specs.declared.part.Part.{Part}
use Rattle.hm_moves.specs.declared.moving.Act.{Act}
use Rattle.hm_moves.specs.After.{count_of, seen_after}
use Rattle.hm_moves.specs.Acts.{entry_of, listed, publishes}
use Rattle.hm_moves.specs.Allowed.{free_count, kept_free}
use Rattle.hm_moves.specs.Cycles.{has_masks, is_free}
use Rattle.hm_cells.specs.Facts.{Facts, HasSpare, IsHeldAt, Made, Fits, IsSound, heap_of, room_of, sight_of, with_hand}
use Rattle.hm_cells.specs.Calls.{Steps}
use Rattle.hm_moves.proofs.Heaps.{IsWork}
use Rattle.hm_cells.proofs.Stepped.{held_few}
use Rattle.hm_cells.proofs.Working.{still_readied}
use Rattle.hm_ops.specs.Resting.{Keeps, Works, most_working}

-- one place less is left, beside those of Free regions
one_less : (versions used rest : ℕ) → used < versions
    → (versions - (used + 1)) + rest + 1 ≡ (versions - used) + rest
one_less versions used rest less = omega (arith, less)

module _ {U : Type 0} (lawful : U → PlainStore → Type 0) (allowed : U → PlainStore → Entry → Type 0) where
  -- a pass at rest may begin to work
  pub rest_works : (s : Facts U) (m : Made U) → Keeps lawful allowed s m → Works lawful allowed s m
  rest_works s m k = record {
    fits = k.resting.fits;
    hand = let e : length s.hand ≡ 0 = ap (λ (l : List Version). length l) k.resting.rest.hand in omega arith;
    few = k.resting.rest.few;
    spare = k.resting.rest.spare;
    sound = k.sound;
  }

  -- it works where other held versions are in hand, of which there are few
  pub handed_works : (s : Facts U) (m : Made U) (hand : List Version) → Works lawful allowed s m
      → ((v : Version) → Contains hand v → IsHeldAt s v) → length hand ≤ most_working
      → Works lawful allowed (with_hand s hand) m
  handed_works s m hand k held few =
      let sound = k.sound in
      record {
        fits = record { cells = k.fits.cells; site = k.fits.site };
        hand = few;
        few = k.few;
        spare = k.spare;
        sound = record {
          sure = sound.sure;
          old = sound.old;
          listed = sound.listed;
          counted = sound.counted;
          cleared = sound.cleared;
          scanned = sound.scanned;
          apart = sound.apart;
          wide = sound.wide;
          rooted = sound.rooted;
          handed = λ i d low. held (get_or hand i d) (All-contains_itself hand i d low);
        };
      }

  -- it rests again where nothing is in hand
  pub work_rests : (s : Facts U) (m : Made U) → Works lawful allowed s m → s.hand ≡ []
      → Keeps lawful allowed s m
  work_rests s m k empty = record {
    resting = record { fits = k.fits; rest = record { hand = empty; few = k.few; spare = k.spare } };
    sound = k.sound;
  }

  module _ {scan : Bool} (s t : Facts U) (act : Act) (x : ℕ)
      (took : Steps lawful allowed s scan act x t) where
    -- it is of the same heap
    pub site_kept : t.part.site ≡ s.part.site
    site_kept = ap (λ (f : Facts U). f.part.site) took.is

    -- the same caller
    number_kept : t.part.number ≡ s.part.number
    number_kept = ap (λ (f : Facts U). f.part.number) took.is

    -- and its root places name what they named
    pub roots_kept : t.roots ≡ s.roots
    roots_kept = ap (λ (f : Facts U). f.roots) took.is

    -- it is still a pass of the cells
    fits_kept : (m : Made U) → Fits s m → Fits t m
    fits_kept m f = record {
      cells = ap (λ (f : Facts U). f.cells) took.is ∙ f.cells;
      site = site_kept ∙ f.site;
    }

    -- what is in hand
    pub hand_taken : (found new : Option Known) → s.hand ≡ [] → took.found ≡ found → publishes act x ≡ new
        → t.hand ≡ map (λ k. k.version) (listed found ++ listed new)
    hand_taken found new empty is is' =
        ap (λ (f : Facts U). f.hand) took.is
        ∙ (λ i. empty i ++ map (λ k. k.version) (listed (is i) ++ listed (is' i)))

    -- a move that takes nothing into the hand leaves what is there
    pub hand_kept : took.found ≡ None → publishes act x ≡ None → t.hand ≡ s.hand
    hand_kept none nothing =
        ap (λ (f : Facts U). f.hand) took.is
        ∙ ((λ i. s.hand ++ map (λ k. k.version) (listed (none i) ++ listed (nothing i)))
        ∙ append-nil s.hand)

    -- by a look or a build a caller's regions stay
    ties_kept : IsWork act → t.part.cycle.ties ≡ s.part.cycle.ties
    ties_kept work = ap (λ (f : Facts U). f.part.cycle.ties) took.is
        ∙ ap (λ (q : Part U). q.cycle.ties) (still_readied s.part act work x)

    frees_kept : IsWork act → free_count t.part ≡ free_count s.part
    frees_kept work = λ i.
        length (filter is_free (take (site_kept i).shape.regions (ties_kept work i).roles.0))

    keeps_kept : IsWork act → kept_free t.part ≡ kept_free s.part
    keeps_kept work = λ i. if (ties_kept work i).joined then 1 else 2

    masks_kept : IsWork act → has_masks t.part ≡ has_masks s.part
    masks_kept work = ap (λ (f : Facts U). has_masks f.part) took.is
        ∙ ap (λ (q : Part U). has_masks q) (still_readied s.part act work x)

    -- and with them the one that it has to turn to
    spare_kept : IsWork act → HasSpare s.part → HasSpare t.part
    spare_kept work spare = λ joined.
        let kept : free_count t.part ≡ free_count s.part = frees_kept work in
        let had = spare (sym (λ i. (ties_kept work i).joined) ∙ joined) in
        omega (arith, kept, had)

    -- a move that takes one version there keeps the pass at work, where the hand has place
    pub works_one : (m : Made U) → IsWork act → Works lawful allowed s m → IsSound lawful allowed t
        → length t.hand ≤ most_working → Works lawful allowed t m
    works_one m work k after hand = record {
      fits = fits_kept m k.fits;
      hand = hand;
      few = let few = k.hand in
          held_few lawful allowed s t act x k.sound after took 400 k.few (omega arith);
      spare = spare_kept work k.spare;
      sound = after;
    }

    -- so does one that takes nothing
    pub works_none : (m : Made U) → IsWork act → Works lawful allowed s m → IsSound lawful allowed t
        → took.found ≡ None → publishes act x ≡ None → Works lawful allowed t m
    works_none m work k after none nothing =
        works_one m work k after
        (subst (λ (l : List Version). length l ≤ most_working) (sym (hand_kept none nothing)) k.hand)

    -- and that keeps the pass at rest
    pub keeps_none : (m : Made U) → IsWork act → Keeps lawful allowed s m → IsSound lawful allowed t
        → took.found ≡ None → publishes act x ≡ None → Keeps lawful allowed t m
    keeps_none m work k after none nothing =
        work_rests t m (works_none m work (rest_works s m k) after none nothing)
        (hand_kept none nothing ∙ k.resting.rest.hand)

    -- one that publishes nothing leaves the room
    used_kept : IsWork act → publishes act x ≡ None → t.part.draft.used ≡ s.part.draft.used
    used_kept work nothing =
        let same : t.part.draft.used ≡ s.part.draft.used + count_of (publishes act x) =
        ap (λ (f : Facts U). f.part.draft.used) took.is
        ∙ ap (λ (q : Part U). q.draft.used + count_of (publishes act x)) (still_readied s.part act work x) in
        let zero : count_of (publishes act x) ≡ 0 = ap count_of nothing in
        omega arith

    -- so its room stays
    pub room_kept : IsWork act → publishes act x ≡ None → room_of t.part ≡ room_of s.part
    room_kept work nothing = λ i. ((site_kept i).shape.versions - used_kept work nothing i)
        + (site_kept i).shape.versions * (frees_kept work i - keeps_kept work i)

    -- and one that publishes a version takes one
    pub room_taken : IsWork act → t.part.draft.used ≡ s.part.draft.used + 1
        → s.part.draft.used < s.part.site.shape.versions
        → room_of t.part + 1 ≡ room_of s.part
    room_taken work more less =
        (λ i. ((site_kept i).shape.versions - more i)
        + (site_kept i).shape.versions * (frees_kept work i - keeps_kept work i) + 1)
        ∙ one_less s.part.site.shape.versions s.part.draft.used
        (s.part.site.shape.versions * (free_count s.part - kept_free s.part)) less

    -- by a look or a build the stage is not moved
    moves_kept : IsWork act → t.part.cycle.clock.moves ≡ s.part.cycle.clock.moves
    moves_kept work = ap (λ (f : Facts U). f.part.cycle.clock.moves) took.is
        ∙ ap (λ (q : Part U). q.cycle.clock.moves) (still_readied s.part act work x)

    -- nor does it tend
    pub untended_kept : IsWork act → IsUntended (sight_of s) (sight_of t)
    untended_kept work = record {
      copying = masks_kept work;
      kept = keeps_kept work;
      moves = moves_kept work;
      tends = ap (λ (f : Facts U). f.tends) took.is;
    }

    -- and one that makes no entry either is not seen
    pub same_sight : IsWork act → entry_of s.part.number act x ≡ None → publishes act x ≡ None
        → sight_of t ≡ sight_of s
    same_sight work no_entry nothing =
        let seen : t.seen ≡ s.seen = ap (λ (f : Facts U). f.seen) took.is
        ∙ ap (seen_after s.seen (s.seen ++ took.between)) no_entry in
        let mine : t.part.calls.mine ≡ s.part.calls.mine = ap (λ (f : Facts U). f.part.calls.mine) took.is
        ∙ (ap (λ (e : Option Entry). s.part.calls.mine ++ listed e) no_entry ∙ append-nil s.part.calls.mine) in
        λ i. record (sight_of s) {
          heap = heap_of (took.is i).cells (site_kept i).shape;
          usage = (site_kept i).usage;
          start = (site_kept i).start;
          number = number_kept i;
          seen = seen i;
          mine = mine i;
          roots = took.names i;
          room = room_kept work nothing i;
          copying = masks_kept work i;
          used = used_kept work nothing i;
          span = (site_kept i).shape.versions;
          free = frees_kept work i;
          kept = keeps_kept work i;
          moves = moves_kept work i;
          tends = (took.is i).tends;
        }

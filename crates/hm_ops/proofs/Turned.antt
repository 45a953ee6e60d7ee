-- A turn to the lowest Free region, from its step.
use Rattle.std.proofs.Common.{◌≡◌, ◌<◌, ◌≤◌, ◌+◌, ◌*◌, ◌-◌, ◌||◌, ◌++◌, ℕ, suc, Bool, true, false, List, [], length, map, filter, take, append-nil, Option, Some, None, refl, sym, ap, ◌∙◌, subst, arith, if◌then◌else◌}
use Rattle.std.specs.List.{position_or_len}
use Rattle.std.proofs.lemmas.List.Sums.{passes_at_first, fails_before_first}
use Rattle.hm_shape.specs.declared.version.Version.{Version}
use Rattle.hm_shape.specs.declared.roles.Role.TheVariants.{Free}
use Rattle.hm_shape.specs.declared.roles.Roles.{Roles}
use Rattle.hm_model.specs.declared.entry.Entry.{Entry}
use Rattle.hm_model.specs.Store.{PlainStore}
use Rattle.hm_moves.specs.declared.part.Known.{Known}
use Rattle.hm_moves.specs.declared.part.Part.{Part}
use Rattle.hm_moves.specs.declared.moving.Act.{Act}
use Rattle.hm_moves.specs.declared.moving.Act.TheVariants.{Shifts}
use Rattle.hm_moves.specs.declared.moving.Shift.{Shift}
use Rattle.hm_moves.specs.declared.moving.Shift.TheVariants.{Turn}
use Rattle.hm_moves.specs.Allowed.{IsLowest, MayShift, MayTurn, free_count, kept_free}
use Rattle.hm_moves.specs.Cycles.{has_masks, is_free}
use Rattle.hm_moves.specs.Shifts.{taking, turned_role, turned_roles}
use Rattle.hm_cells.specs.Facts.{Facts, HasSpare, IsSound, Made, heap_of, room_of, scanned_after, sight_of}
use Rattle.hm_cells.specs.Calls.{Takes, move_by}
use Rattle.hm_cells.specs.Owns.{shift_to}
use Rattle.hm_cells.proofs.Deciding.{shift_is}
use Rattle.hm_cells.proofs.Stepped.{held_few, kept_stays}
use Rattle.hm_ops.specs.Resting.{Works, most_working}
use Rattle.hm_ops.specs.Turning.{MakesPlace, Turns}
use Rattle.hm_ops.proofs.TurnedRoles.{first_below, one_taken}

-- what is left of the room once one Free region has become To
room_again : (versions used free kept after : ℕ) → used ≡ versions → kept < free → after + 1 ≡ free
    → (versions - 0) + versions * (after - kept) ≡ (versions - used) + versions * (free - kept)
room_again versions used free kept after full more one =
    let e : free - kept ≡ suc (after - kept) = omega (arith, more, one) in
    let m : versions * (free - kept) ≡ versions * suc (after - kept) = ap (λ (n : ℕ). versions * n) e in
    grind (arith, m, full)

-- a place is marked or not, as before
or_false : (b : Bool) → (b || false) ≡ b
or_false true = refl
or_false false = refl

module _ {U : Type 0} where
  -- the first region that is Free
  abbrev pub lowest_free : Part U → ℕ
  lowest_free p = position_or_len is_free p.cycle.ties.roles.0

  -- the roles after a turn to that
  abbrev pub roles_after : Part U → Roles
  roles_after p = taking p.cycle.ties.roles turned_role (lowest_free p)

module _ {U : Type 0} (lawful : U → PlainStore → Type 0) (allowed : U → PlainStore → Entry → Type 0)
    (s : Facts U) (sound : IsSound lawful allowed s)
    (full : s.part.draft.used ≡ s.part.site.shape.versions)
    (reserve : kept_free s.part < free_count s.part) where
  -- it is one of the caller's
  low : lowest_free s.part < s.part.site.shape.regions
  low = first_below s.part.cycle.ties.roles.0 s.part.site.shape.regions (omega (arith, reserve))

  pub few : lowest_free s.part < 8
  few = omega (arith, low, s.part.site.shape.regions_fit)

  there : lowest_free s.part < length s.part.cycle.ties.roles.0
  there = let wide = sound.sure.roles in omega (arith, few, wide)

  takes : IsLowest s.part is_free (lowest_free s.part)
  takes = record {
    below = low;
    passes = passes_at_first is_free s.part.cycle.ties.roles.0 Free there;
    lowest = λ g h. fails_before_first is_free s.part.cycle.ties.roles.0 g Free h;
  }

  may : MayTurn s.part (lowest_free s.part) (roles_after s.part)
  may = record { full = full; reserve = reserve; takes = takes; is = refl }

  told : shift_to s.part (roles_after s.part) ≡ Turn (lowest_free s.part) (roles_after s.part)
  told = shift_is s.part sound.sure.roles sound.sure.region sound.listed.to
      (Turn (lowest_free s.part) (roles_after s.part)) may

  -- so the step may be taken
  pub may_shift : MayShift s.part (shift_to s.part (roles_after s.part))
  may_shift = subst (MayShift s.part) (sym told) may

  -- and once it was
  module _ (t : Facts U) (after : IsSound lawful allowed t) (x : ℕ)
      (shifted : Takes lawful allowed s (Shifts (shift_to s.part (roles_after s.part))) x t) where
    abbrev act : Act
    act = Shifts (Turn (lowest_free s.part) (roles_after s.part))

    took : Takes lawful allowed s act x t
    took = subst (λ (f : Shift). Takes lawful allowed s (Shifts f) x t) told shifted

    site_kept : t.part.site ≡ s.part.site
    site_kept = ap (λ (f : Facts U). f.part.site) took.is

    roles_are : t.part.cycle.ties.roles ≡ roles_after s.part
    roles_are = ap (λ (f : Facts U). f.part.cycle.ties.roles) took.is

    joined_kept : t.part.cycle.ties.joined ≡ s.part.cycle.ties.joined
    joined_kept = ap (λ (f : Facts U). f.part.cycle.ties.joined) took.is

    used_none : t.part.draft.used ≡ 0
    used_none = ap (λ (f : Facts U). f.part.draft.used) took.is

    masks_kept : t.part.cycle.scan.masks ≡ s.part.cycle.scan.masks
    masks_kept = ap (λ (f : Facts U). f.part.cycle.scan.masks) took.is

    kept_same : kept_free t.part ≡ kept_free s.part
    kept_same = ap (λ (b : Bool). if b then 1 else 2) joined_kept

    free_less : free_count t.part + 1 ≡ free_count s.part
    free_less =
        let count : free_count t.part ≡ length (filter is_free (take s.part.site.shape.regions
        (roles_after s.part).0)) =
        λ i. length (filter is_free (take (site_kept i).shape.regions (roles_are i).0)) in
        let one = one_taken s.part.cycle.ties.roles.0 s.part.site.shape.regions (lowest_free s.part)
        low there takes.passes in
        omega (arith, count, one)

    room_same : room_of t.part ≡ room_of s.part
    room_same =
        (λ i. ((site_kept i).shape.versions - used_none i)
        + (site_kept i).shape.versions * (free_count t.part - kept_same i))
        ∙ room_again s.part.site.shape.versions s.part.draft.used (free_count s.part) (kept_free s.part)
        (free_count t.part) full reserve free_less

    found_none : took.found ≡ None
    found_none = took.what

    hand_same : t.hand ≡ s.hand
    hand_same = ap (λ (f : Facts U). f.hand) took.is
        ∙ ((λ i. s.hand ++ map (λ k. k.version) (Rattle.hm_moves.specs.Acts.listed (found_none i) ++ []))
        ∙ append-nil s.hand)

    scanned_same : t.scanned ≡ s.scanned
    scanned_same = ap (λ (f : Facts U). f.scanned) took.is ∙ same s.scanned
      where
        same : (n : Option ℕ) → scanned_after s.part (move_by s act) took.found n ≡ n
        same None = refl
        same (Some n) = refl

    mine_same : t.part.calls.mine ≡ s.part.calls.mine
    mine_same = ap (λ (f : Facts U). f.part.calls.mine) took.is ∙ append-nil s.part.calls.mine

    makes : MakesPlace s t
    makes = record {
      sight = λ i. record (sight_of s) {
        heap = heap_of (took.is i).cells (site_kept i).shape;
        usage = (site_kept i).usage;
        start = (site_kept i).start;
        number = (took.is i).part.number;
        seen = (took.is i).seen;
        mine = mine_same i;
        roots = took.names i;
        room = room_same i;
        copying = has_masks_same i;
        used = t.part.draft.used;
        span = (site_kept i).shape.versions;
        free = free_count t.part;
        kept = kept_same i;
        moves = (took.is i).part.cycle.clock.moves;
        tends = (took.is i).tends;
      };
      roots = ap (λ (f : Facts U). f.roots) took.is;
      hand = hand_same;
      known = kept_stays lawful allowed s t act x sound after took;
      own = ap (λ (f : Facts U). f.part.hands.own) took.is ∙ append-nil s.part.hands.own;
      cycle = record {
        site = site_kept;
        number = ap (λ (f : Facts U). f.part.number) took.is;
        clock = ap (λ (f : Facts U). f.part.cycle.clock) took.is;
        masks = masks_kept;
        joined = joined_kept;
        join = ap (λ (f : Facts U). f.part.cycle.ties.join) took.is;
        done = ap (λ (f : Facts U). f.part.cycle.ties.done) took.is;
      };
      mark = ap (λ (f : Facts U). f.part.cycle.scan.mark) took.is ∙ mark_same took.found found_none;
      cursor = ap (λ (f : Facts U). f.part.cycle.scan.cursor) took.is;
      met = ap (λ (f : Facts U). f.part.cycle.scan.met) took.is;
      ends = ap (λ (f : Facts U). f.part.cycle.scan.ends) took.is ∙ append-nil s.part.cycle.scan.ends;
      scanned = scanned_same;
    }
      where
        has_masks_same : has_masks t.part ≡ has_masks s.part
        has_masks_same = ap (λ (f : Facts U). has_masks f.part) took.is

        mark_same : (found : Option Known) → found ≡ None
            → Rattle.hm_moves.specs.Cycles.mark_after
            (Rattle.hm_moves.specs.Shifts.readied s.part act x) (move_by s act) found
            ≡ s.part.cycle.scan.mark
        mark_same None e = or_false s.part.cycle.scan.mark
        mark_same (Some k) e = absurd (cc)

    pub turns : Turns s t
    turns = record {
      region = lowest_free s.part;
      takes = takes;
      roles = roles_are;
      to = ap (λ (f : Facts U). f.part.draft.region) took.is;
      used = used_none;
      free = free_less;
      room = room_same;
      makes = makes;
    }

    spare : HasSpare t.part
    spare joined =
        let kept : kept_free t.part ≡ 1 = ap (λ (b : Bool). if b then 1 else 2) joined in
        omega (arith, kept, kept_same, free_less, reserve)

    -- and the pass is still at work
    pub works_turned : (m : Made U) → Works lawful allowed s m → Works lawful allowed t m
    works_turned m k = record {
      fits = record {
        cells = ap (λ (f : Facts U). f.cells) took.is ∙ k.fits.cells;
        site = site_kept ∙ k.fits.site;
      };
      hand = subst (λ (l : List Version). length l ≤ most_working) (sym hand_same) k.hand;
      few = let few = k.hand in
          held_few lawful allowed s t act x sound after took 400 k.few (omega (arith, few));
      spare = spare;
      sound = after;
    }

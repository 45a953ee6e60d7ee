-- What one step of a scan leaves of a pass.
use Rattle.std.proofs.Common.{◌≡◌, ◌<◌, ◌≤◌, ◌+◌, ◌*◌, ◌-◌, ◌⊎◌, ℕ, zero, List, [], ◌∷◌, ◌++◌, append-nil, ◌&&◌, ◌||◌, not, Bool, true, false, filter, length, map, take, get_or, if◌then◌else◌, Option, Some, None, IfSome, Contains, is_some, refl, sym, ap, ◌∙◌, subst, arith, inl, inr, ⊎_elim}
use Rattle.hm_shape.specs.declared.version.Version.{Version}
use Rattle.hm_model.specs.declared.entry.Entry.{Entry}
use Rattle.hm_model.specs.Store.{PlainStore}
use Rattle.hm_model.specs.Sight.{IsSameCaller}
use Rattle.hm_moves.specs.declared.part.Known.{Known}
use Rattle.hm_moves.specs.declared.part.Part.{Part}
use Rattle.hm_moves.specs.declared.moving.Act.{Act}
use Rattle.hm_moves.specs.declared.moving.Act.TheVariants.{Looks, Builds, Ticks, Shifts}
use Rattle.hm_moves.specs.declared.moving.Look.TheVariants.{LoadLink, LoadReference}
use Rattle.hm_moves.specs.declared.moving.Build.TheVariants.{Shorten}
use Rattle.hm_moves.specs.declared.moving.Tick.TheVariants.{LoadReply}
use Rattle.hm_moves.specs.declared.moving.Shift.TheVariants.{LoadRoles}
use Rattle.hm_moves.specs.Acts.{entry_of, listed, publishes}
use Rattle.hm_moves.specs.After.{count_of, seen_after, with_held, without}
use Rattle.hm_moves.specs.Allowed.{free_count, kept_free}
use Rattle.hm_moves.specs.Cycles.{is_free, is_scan, meets}
use Rattle.hm_moves.specs.Shifts.{readied}
use Rattle.hm_cells.specs.Facts.{Facts, Made, Fits, HasSpare, IsHeldAt, IsSound, find_version, first_idle, heap_of, known_at, room_of}
use Rattle.hm_cells.specs.Calls.{Steps, move_in}
use Rattle.hm_cells.proofs.Few.{few_after, not_both}
use Rattle.hm_cells.proofs.Found.{IsNamed, among, at_place, found_first, held_after, named_stays}
use Rattle.hm_cells.proofs.Stepped.{held_known, kept_held}
use Rattle.hm_ops.specs.Resting.{IsKept, Keeps, Works, most_working}
use Rattle.hm_scan.specs.Scanning.{Scans, ScansOn}
use Rattle.hm_ops.proofs.OneStep.{rest_works, work_rests}
use Rattle.hm_scan.proofs.Going.{AreFewer, fewer_go}

module _ {U : Type 0} where
  -- an act of a scan makes no entry and publishes nothing, and by it a caller learns nothing of the
  -- stage, and of its own regions
  pub record IsMild (p : Part U) (act : Act) (x : ℕ) : Type 0 where
    pub entry : entry_of p.number act x ≡ None
    pub nothing : publishes act x ≡ None
    pub draft : (readied p act x).draft ≡ p.draft
    pub own : (readied p act x).hands.own ≡ p.hands.own
    pub stage : (readied p act x).cycle.clock.stage ≡ p.cycle.clock.stage
    pub reply : (readied p act x).cycle.clock.reply ≡ p.cycle.clock.reply
    pub moves : (readied p act x).cycle.clock.moves ≡ p.cycle.clock.moves
    pub ties : (readied p act x).cycle.ties ≡ p.cycle.ties

  module _ (p : Part U) (x : ℕ) where
    pub mild_link : (k : Known) → IsMild p (Looks (LoadLink k None)) x
    mild_link k = record {
      entry = refl;
      nothing = refl;
      draft = refl;
      own = refl;
      stage = refl;
      reply = refl;
      moves = refl;
      ties = refl;
    }

    pub mild_reference : (k : Known) (i : ℕ) → IsMild p (Looks (LoadReference k i)) x
    mild_reference k i = record {
      entry = refl;
      nothing = refl;
      draft = refl;
      own = refl;
      stage = refl;
      reply = refl;
      moves = refl;
      ties = refl;
    }

    pub mild_shorten : (k : Known) (i : ℕ) (u : Known) → IsMild p (Builds (Shorten k i u)) x
    mild_shorten k i u = record {
      entry = refl;
      nothing = refl;
      draft = refl;
      own = refl;
      stage = refl;
      reply = refl;
      moves = refl;
      ties = refl;
    }

    pub mild_reply : (of : ℕ) → IsMild p (Ticks (LoadReply of)) x
    mild_reply of = record {
      entry = refl;
      nothing = refl;
      draft = refl;
      own = refl;
      stage = refl;
      reply = refl;
      moves = refl;
      ties = refl;
    }

    pub mild_roles : (of : ℕ) → IsMild p (Shifts (LoadRoles of)) x
    mild_roles of = record {
      entry = refl;
      nothing = refl;
      draft = refl;
      own = refl;
      stage = refl;
      reply = refl;
      moves = refl;
      ties = refl;
    }

module _ {U : Type 0} (lawful : U → PlainStore → Type 0) (allowed : U → PlainStore → Entry → Type 0)
    (s t : Facts U) (scan : Bool) (act : Act) (x : ℕ) (took : Steps lawful allowed s scan act x t) where
  cells_kept : t.cells ≡ s.cells
  cells_kept = ap (λ (f : Facts U). f.cells) took.is

  pub site_kept : t.part.site ≡ s.part.site
  site_kept = ap (λ (f : Facts U). f.part.site) took.is

  pub number_kept : t.part.number ≡ s.part.number
  number_kept = ap (λ (f : Facts U). f.part.number) took.is

  pub roots_kept : t.roots ≡ s.roots
  roots_kept = ap (λ (f : Facts U). f.roots) took.is

  fits_kept : (m : Made U) → Fits s m → Fits t m
  fits_kept m f = record { cells = cells_kept ∙ f.cells; site = site_kept ∙ f.site }

  -- a step of a scan leaves these
  module _ (mild : IsMild s.part act x) where
    pub own_kept : t.part.hands.own ≡ s.part.hands.own
    own_kept = ap (λ (f : Facts U). f.part.hands.own) took.is
        ∙ ((λ i. mild.own i ++ listed (mild.nothing i)) ∙ append-nil s.part.hands.own)

    used_kept : t.part.draft.used ≡ s.part.draft.used
    used_kept =
        let same : t.part.draft.used ≡ s.part.draft.used + 0 = ap (λ (f : Facts U). f.part.draft.used) took.is
        ∙ (λ i. (mild.draft i).used + count_of (mild.nothing i)) in
        omega (arith, same)

    ties_kept : t.part.cycle.ties ≡ s.part.cycle.ties
    ties_kept = ap (λ (f : Facts U). f.part.cycle.ties) took.is ∙ mild.ties

    frees_kept : free_count t.part ≡ free_count s.part
    frees_kept = λ i. length (filter is_free (take (site_kept i).shape.regions (ties_kept i).roles.0))

    keeps_kept : kept_free t.part ≡ kept_free s.part
    keeps_kept = λ i. if (ties_kept i).joined then 1 else 2

    spare_kept : HasSpare s.part → HasSpare t.part
    spare_kept spare = λ joined.
        let kept : free_count t.part ≡ free_count s.part = frees_kept in
        let had = spare (sym (λ i. (ties_kept i).joined) ∙ joined) in
        omega (arith, kept, had)

    room_kept : room_of t.part ≡ room_of s.part
    room_kept = λ i. ((site_kept i).shape.versions - used_kept i)
        + (site_kept i).shape.versions * (frees_kept i - keeps_kept i)

    pub scans_step : Scans s t
    scans_step = record {
      caller = record {
        heap = λ i. heap_of (cells_kept i) (site_kept i).shape;
        usage = λ i. (site_kept i).usage;
        start = λ i. (site_kept i).start;
        number = number_kept;
        span = λ i. (site_kept i).shape.versions;
      };
      seen = ap (λ (f : Facts U). f.seen) took.is
          ∙ ap (seen_after s.seen (s.seen ++ took.between)) mild.entry;
      mine = ap (λ (f : Facts U). f.part.calls.mine) took.is
          ∙ (ap (λ (e : Option Entry). s.part.calls.mine ++ listed e) mild.entry ∙ append-nil s.part.calls.mine);
      names = took.names;
      tends = ap (λ (f : Facts U). f.tends) took.is;
      site = site_kept;
      number = number_kept;
      stage = ap (λ (f : Facts U). f.part.cycle.clock.stage) took.is ∙ mild.stage;
      reply = ap (λ (f : Facts U). f.part.cycle.clock.reply) took.is ∙ mild.reply;
      moves = ap (λ (f : Facts U). f.part.cycle.clock.moves) took.is ∙ mild.moves;
      joined = λ i. (ties_kept i).joined;
      join = λ i. (ties_kept i).join;
      done = λ i. (ties_kept i).done;
      fewer = let same : room_of t.part ≡ room_of s.part = room_kept in omega (arith, same);
      takes = λ i. length (own_kept i) + room_kept i;
    }

    -- what is in hand then
    pub hand_step : t.hand ≡ s.hand ++ map (λ k. k.version) (listed took.found)
    hand_step = ap (λ (f : Facts U). f.hand) took.is
        ∙ ((λ i. s.hand ++ map (λ k. k.version) (listed took.found ++ listed (mild.nothing i)))
        ∙ ap (λ (l : List Known). s.hand ++ map (λ k. k.version) l) (append-nil (listed took.found)))

    module _ (m : Made U) (k : Works lawful allowed s m) (after : IsSound lawful allowed t) where
      held_is : t.part.hands.held
          ≡ held_after s.roots s.hand s.part.hands.held took.found (publishes act x)
      held_is = ap (λ (f : Facts U). f.part.hands.held) took.is

      few : length t.part.hands.held ≤ 400
      few =
          let less = k.hand in
          let room : length s.roots + length s.hand + 1 ≤ 400 = omega (arith, k.sound.wide, less) in
          subst (λ (l : List Known). length l ≤ 400) (sym held_is)
          (few_after s.roots s.hand s.part.hands.held took.found (publishes act x) k.sound.apart
          (not_both act x took.found took.what) 400 k.few room)

      -- a pass at work stays so
      pub works_step : length t.hand ≤ most_working → Works lawful allowed t m
      works_step hand = record {
        fits = fits_kept m k.fits;
        hand = hand;
        few = few;
        spare = spare_kept k.spare;
        sound = after;
      }

      kept_named : (v : Version) → IsKept s v → IsNamed s.roots s.hand v
      kept_named v (inl (i, at)) = inl (at_place s.roots i (Some v) None at (λ e. cc))
      kept_named v (inr c) = inr c

      held_first : (f : Facts U) (v : Version) (n : Known) → find_version f.part.hands.held v ≡ Some n
          → known_at f v ≡ n
      held_first f v n e = ap (λ (o : Option Known). Rattle.std.proofs.Common.unwrap_or o
          Rattle.hm_cells.specs.Facts.nothing_known)
          (found_first f.part.hands.held f.part.hands.own v n e)

      -- what a root place or the hand names stays held, and is known as before
      pub kept_step : (v : Version) → IsKept s v → IsHeldAt t v × (known_at t v ≡ known_at s v)
      kept_step v kept =
          let n = among s.part.hands.held v (kept_held lawful allowed s v k.sound kept) in
          let e : find_version t.part.hands.held v ≡ Some n.0 =
          ap (λ (l : List Known). find_version l v) held_is
          ∙ named_stays s.roots s.hand s.part.hands.held took.found (publishes act x) v n.0
          (kept_named v kept) n.1 in
          (ap is_some e, held_first t v n.0 e ∙ sym (held_first s v n.0 n.1))

      -- what was found is held
      pub found_step : (n : Known) → took.found ≡ Some n
          → IsHeldAt t n.version × (known_at t n.version ≡ n)
      found_step n is =
          held_known lawful allowed t n after
          (subst (λ (o : Option Known). IfSome o (Contains t.part.hands.held)) is took.holds)

    -- a step that finds nothing is at rest where the pass was, and takes no mark
    module _ (none : took.found ≡ None) where
      pub hand_none : t.hand ≡ s.hand
      hand_none = hand_step
          ∙ ((λ i. s.hand ++ map (λ k. k.version) (listed (none i))) ∙ append-nil s.hand)

      pub keeps_step : (m : Made U) → Keeps lawful allowed s m → IsSound lawful allowed t → Keeps lawful allowed t m
      keeps_step m k after =
          work_rests lawful allowed t m
          (works_step m (rest_works lawful allowed s m k) after
          (subst (λ (l : List Version). length l ≤ most_working) (sym hand_none)
          (rest_works lawful allowed s m k).hand))
          (hand_none ∙ k.resting.rest.hand)

      pub mark_none : t.part.cycle.scan.mark ≡ (readied s.part act x).cycle.scan.mark
      mark_none = ap (λ (f : Facts U). f.part.cycle.scan.mark) took.is
          ∙ ((λ i. (readied s.part act x).cycle.scan.mark
          || (not (is_scan (readied s.part act x) (move_in s scan act) act)
          && meets (readied s.part act x) (none i)))
          ∙ or_none (readied s.part act x).cycle.scan.mark
          (is_scan (readied s.part act x) (move_in s scan act) act))
        where
          or_none : (a b : Bool) → (a || (not b && false)) ≡ a
          or_none true true = refl
          or_none true false = refl
          or_none false true = refl
          or_none false false = refl

      -- it lets go of one more
      pub fewer_step : (n : ℕ) → AreFewer s.roots s.hand s.part.hands.held n
          → AreFewer t.roots t.hand t.part.hands.held (n + 1)
      fewer_step n was =
          let held : t.part.hands.held
          ≡ without s.part.hands.held (first_idle s.roots s.hand s.part.hands.held) =
          ap (λ (f : Facts U). f.part.hands.held) took.is
          ∙ (λ i. with_held (with_held (without s.part.hands.held
          (first_idle s.roots s.hand s.part.hands.held)) (none i)) (mild.nothing i)) in
          subst (λ (roots : List (Option Version)). AreFewer roots t.hand t.part.hands.held (n + 1)) (sym roots_kept)
          (subst (λ (hand : List Version). AreFewer s.roots hand t.part.hands.held (n + 1)) (sym hand_none)
          (subst (λ (l : List Known). AreFewer s.roots s.hand l (n + 1)) (sym held)
          (fewer_go s.roots s.hand s.part.hands.held n was)))

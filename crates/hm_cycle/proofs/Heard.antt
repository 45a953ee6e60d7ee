-- What a step on the stage or on replies leaves of a pass.
use Rattle.std.proofs.Common.{◌≡◌, ◌+◌, ◌*◌, ◌-◌, ◌≤◌, ◌||◌, ℕ, Bool, true, false, List, filter, length, take, Option, Some, None, refl, sym, ap, ◌∙◌, arith, append-nil, if◌then◌else◌}
use Rattle.std.specs.List.{list_all}
use Rattle.std.specs.Prelude.{is_some}
use Rattle.std.proofs.lemmas.List.Sums.{length-filter}
use Rattle.hm_model.specs.declared.entry.Entry.{Entry}
use Rattle.hm_model.specs.Store.{PlainStore}
use Rattle.hm_moves.specs.declared.part.Clock.{Clock}
use Rattle.hm_moves.specs.declared.part.Known.{Known}
use Rattle.hm_moves.specs.declared.part.Part.{Part}
use Rattle.hm_moves.specs.declared.part.Scan.{Scan}
use Rattle.hm_moves.specs.declared.moving.Act.TheVariants.{Ticks}
use Rattle.hm_moves.specs.declared.moving.Move.{Move}
use Rattle.hm_moves.specs.declared.moving.Tick.{Tick}
use Rattle.hm_moves.specs.declared.moving.Tick.TheVariants.{LoadStage, MoveStage, LoadReply, StoreReply}
use Rattle.hm_moves.specs.After.{without}
use Rattle.hm_moves.specs.Allowed.{free_count}
use Rattle.hm_moves.specs.Cycles.{is_free}
use Rattle.hm_moves.specs.Shifts.{clock_after, scan_ticked}
use Rattle.hm_moves.specs.Told.{TickFound}
use Rattle.hm_cells.specs.Facts.{Facts, Fits, IsAtRest, IsSound, Made, first_idle, heap_of, scanned_after, sight_of}
use Rattle.hm_cells.specs.Calls.{Takes, after_in, move_by}
use Rattle.hm_cycle.specs.Standing.{Keeps, Stays, standing_of}

-- a tick finds no version
tick_none : (t : Tick) (x : ℕ) (found : Option Known) → TickFound t x found → found ≡ None
tick_none LoadStage x found is = is
tick_none (MoveStage from to) x found is = is
tick_none (LoadReply of) x found is = is.0
tick_none (StoreReply reply) x found is = is

-- where none is found, a mark is set by nothing
pub unmarked : (mark : Bool) → (mark || false) ≡ mark
unmarked true = refl
unmarked false = refl

-- letting go leaves no more
pub without_fewer : (l : List Known) (o : Option Known) → length (without l o) ≤ length l
without_fewer l None = omega arith
without_fewer l (Some k) = grind (arith, length-filter, Rattle.std.proofs.lemmas.Grind.common_steps)

-- a step of that kind leaves masks and cursor
masks_ticked : (scan : Scan) (clock : Clock) (t : Tick) → (scan_ticked scan clock t).masks ≡ scan.masks
masks_ticked scan clock LoadStage = refl
masks_ticked scan clock (MoveStage from to) = refl
masks_ticked scan clock (LoadReply of) = refl
masks_ticked scan clock (StoreReply reply) = refl

cursor_ticked : (scan : Scan) (clock : Clock) (t : Tick) → (scan_ticked scan clock t).cursor ≡ scan.cursor
cursor_ticked scan clock LoadStage = refl
cursor_ticked scan clock (MoveStage from to) = refl
cursor_ticked scan clock (LoadReply of) = refl
cursor_ticked scan clock (StoreReply reply) = refl

module _ {U : Type 0} where
  -- a pass of the same caller of the same cells fits them still
  pub stays_fits : (s t : Facts U) (m : Made U) → Stays s t → Fits s m → Fits t m
  stays_fits s t m stays fits = record { cells = stays.cells ∙ fits.cells; site = stays.site ∙ fits.site }

  -- nothing changes
  pub stays_same : (s : Facts U) → Stays s s
  stays_same s = record {
    cells = refl;
    site = refl;
    number = refl;
    seen = refl;
    calls = refl;
    roots = refl;
    names = refl;
    hand = refl;
    tends = refl;
    few = λ e l. l;
  }

  -- one change after another
  pub stays_then : (s t u : Facts U) → Stays s t → Stays t u → Stays s u
  stays_then s t u a b = record {
    cells = b.cells ∙ a.cells;
    site = b.site ∙ a.site;
    number = b.number ∙ a.number;
    seen = b.seen ∙ a.seen;
    calls = b.calls ∙ a.calls;
    roots = b.roots ∙ a.roots;
    names = b.names ∙ a.names;
    hand = b.hand ∙ a.hand;
    tends = b.tends ∙ a.tends;
    few = λ e l. b.few (a.hand ∙ e) (a.few e l);
  }

  scan_last : (p : Part U) (move : Move) (t : Tick) (o : Option ℕ) → move.act ≡ Ticks t
      → scanned_after p move None o ≡ o
  scan_last p move t None is = refl
  scan_last p move t (Some n) is = rw is refl

module _ {U : Type 0} (lawful : U → PlainStore → Type 0) (allowed : U → PlainStore → Entry → Type 0)
    (s t : Facts U) (tick : Tick) (x : ℕ) (took : Takes lawful allowed s (Ticks tick) x t) where
  none : took.found ≡ None
  none = tick_none tick x took.found took.what

  -- the pass after it, where nothing was found
  is : t ≡ after_in s false (Ticks tick) took.between x None
  is = took.is ∙ (λ i. after_in s false (Ticks tick) took.between x (none i))

  site_same : t.part.site ≡ s.part.site
  site_same = ap (λ (f : Facts U). f.part.site) is

  ties_same : t.part.cycle.ties ≡ s.part.cycle.ties
  ties_same = ap (λ (f : Facts U). f.part.cycle.ties) is

  masks_same : t.part.cycle.scan.masks ≡ s.part.cycle.scan.masks
  masks_same = ap (λ (f : Facts U). f.part.cycle.scan.masks) is
      ∙ masks_ticked s.part.cycle.scan s.part.cycle.clock tick

  used_same : t.part.draft.used ≡ s.part.draft.used
  used_same =
      let e : t.part.draft.used ≡ s.part.draft.used + 0 = ap (λ (f : Facts U). f.part.draft.used) is in
      omega (arith, e)

  pub tick_stays : Stays s t
  tick_stays = record {
    cells = ap (λ (f : Facts U). f.cells) is;
    site = site_same;
    number = ap (λ (f : Facts U). f.part.number) is;
    seen = ap (λ (f : Facts U). f.seen) is;
    calls = ap (λ (f : Facts U). f.part.calls) is ∙ (λ i. record { mine = append-nil s.part.calls.mine i });
    roots = ap (λ (f : Facts U). f.roots) is;
    names = took.names;
    hand = ap (λ (f : Facts U). f.hand) is ∙ append-nil s.hand;
    tends = ap (λ (f : Facts U). f.tends) is;
    few = λ e l.
        let held : length t.part.hands.held ≡ length (without s.part.hands.held (first_idle s.roots s.hand s.part.hands.held)) =
        ap (λ (f : Facts U). length f.part.hands.held) is in
        let less = without_fewer s.part.hands.held (first_idle s.roots s.hand s.part.hands.held) in
        omega (arith, held, less, l);
  }

  -- what it knows of stage and replies
  pub tick_clock : t.part.cycle.clock ≡ clock_after s.part.cycle.clock tick x
  tick_clock = ap (λ (f : Facts U). f.part.cycle.clock) is

  -- where it stands
  pub tick_standing : standing_of t ≡ record (standing_of s) {
    stage = (clock_after s.part.cycle.clock tick x).stage;
    reply = (clock_after s.part.cycle.clock tick x).reply;
    moves = (clock_after s.part.cycle.clock tick x).moves;
    mark = (scan_ticked s.part.cycle.scan s.part.cycle.clock tick).mark;
  }
  tick_standing =
      let own = ap (λ (f : Facts U). f.part.hands.own) is ∙ append-nil s.part.hands.own in
      let region = ap (λ (f : Facts U). f.part.draft.region) is in
      let mark = ap (λ (f : Facts U). f.part.cycle.scan.mark) is
      ∙ unmarked (scan_ticked s.part.cycle.scan s.part.cycle.clock tick).mark in
      let cursor = ap (λ (f : Facts U). f.part.cycle.scan.cursor) is
      ∙ cursor_ticked s.part.cycle.scan s.part.cycle.clock tick in
      let scanned = ap (λ (f : Facts U). f.scanned) is
      ∙ scan_last s.part (move_by s (Ticks tick)) tick s.scanned refl in
      λ i. record {
        stage = (tick_clock i).stage;
        reply = (tick_clock i).reply;
        moves = (tick_clock i).moves;
        roles = (ties_same i).roles;
        region = region i;
        used = used_same i;
        own = own i;
        joined = (ties_same i).joined;
        done = (ties_same i).done;
        masks = masks_same i;
        mark = mark i;
        cursor = cursor i;
        scanned = scanned i;
      }

  -- and what the trait of callers sees of it
  pub tick_sight : sight_of t
      ≡ record (sight_of s) { moves = (clock_after s.part.cycle.clock tick x).moves }
  tick_sight =
      let cells = ap (λ (f : Facts U). f.cells) is in
      let number = ap (λ (f : Facts U). f.part.number) is in
      let seen = ap (λ (f : Facts U). f.seen) is in
      let mine = ap (λ (f : Facts U). f.part.calls.mine) is ∙ append-nil s.part.calls.mine in
      let tends = ap (λ (f : Facts U). f.tends) is in
      λ i. record (sight_of s) {
        heap = heap_of (cells i) (site_same i).shape;
        usage = (site_same i).usage;
        start = (site_same i).start;
        number = number i;
        seen = seen i;
        mine = mine i;
        roots = took.names i;
        room = ((site_same i).shape.versions - used_same i)
            + (site_same i).shape.versions
            * (length (filter is_free (take (site_same i).shape.regions (ties_same i).roles.0))
            - (if (ties_same i).joined then 1 else 2));
        copying = list_all is_some (masks_same i);
        used = used_same i;
        span = (site_same i).shape.versions;
        free = length (filter is_free (take (site_same i).shape.regions (ties_same i).roles.0));
        kept = if (ties_same i).joined then 1 else 2;
        moves = (tick_clock i).moves;
        tends = tends i;
      }

  -- and it rests, where it did
  pub tick_rests : IsAtRest s → IsAtRest t
  tick_rests rest = record {
    hand = tick_stays.hand ∙ rest.hand;
    few = tick_stays.few rest.hand rest.few;
    spare = λ joined.
        let had = rest.spare (sym (λ i. (ties_same i).joined) ∙ joined) in
        let free : free_count t.part ≡ free_count s.part =
        λ i. length (filter is_free (take (site_same i).shape.regions (ties_same i).roles.0)) in
        omega (arith, had, free);
  }

  pub tick_keeps : IsSound lawful allowed t → Keeps lawful allowed s t
  tick_keeps sound = record { stays = tick_stays; rest = tick_rests; sound = sound }

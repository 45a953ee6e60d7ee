-- What a step on a caller's own roles leaves of a pass.
use Rattle.std.proofs.Common.{◌≡◌, ◌+◌, ◌*◌, ◌-◌, ℕ, false, length, filter, take, None, ap, ◌∙◌, arith, append-nil, if◌then◌else◌}
use Rattle.std.specs.List.{list_all}
use Rattle.std.specs.Prelude.{is_some}
use Rattle.hm_model.specs.declared.entry.Entry.{Entry}
use Rattle.hm_model.specs.Store.{PlainStore}
use Rattle.hm_moves.specs.declared.moving.Act.TheVariants.{Shifts}
use Rattle.hm_moves.specs.declared.moving.Shift.{Shift}
use Rattle.hm_moves.specs.After.{without}
use Rattle.hm_moves.specs.Allowed.{free_count}
use Rattle.hm_moves.specs.Cycles.{is_free}
use Rattle.hm_moves.specs.Shifts.{draft_shifted, own_shifted, scan_shifted, ties_shifted}
use Rattle.hm_cells.specs.Facts.{Facts, first_idle, heap_of, scanned_after, sight_of}
use Rattle.hm_cells.specs.Calls.{Takes, after_in, move_by}
use Rattle.hm_cycle.specs.Standing.{Standing, Stays, standing_of}
use Rattle.hm_cycle.proofs.Heard.{unmarked, without_fewer}

module _ {U : Type 0} where
  -- what the trait of callers sees of a pass that stays is told by where it stands
  pub sight_by : (s t : Facts U) → Stays s t → (z : Standing) → standing_of t ≡ z
      → sight_of t ≡ record (sight_of s) {
        room = (s.part.site.shape.versions - z.used) + s.part.site.shape.versions
            * (length (filter is_free (take s.part.site.shape.regions z.roles.0))
            - (if z.joined then 1 else 2));
        copying = list_all is_some z.masks;
        used = z.used;
        free = length (filter is_free (take s.part.site.shape.regions z.roles.0));
        kept = if z.joined then 1 else 2;
        moves = z.moves;
      }
  sight_by s t stays z is = λ i. record (sight_of s) {
    heap = heap_of (stays.cells i) (stays.site i).shape;
    usage = (stays.site i).usage;
    start = (stays.site i).start;
    number = stays.number i;
    seen = stays.seen i;
    mine = (stays.calls i).mine;
    roots = stays.names i;
    room = ((stays.site i).shape.versions - (is i).used) + (stays.site i).shape.versions
        * (length (filter is_free (take (stays.site i).shape.regions (is i).roles.0))
        - (if (is i).joined then 1 else 2));
    copying = list_all is_some (is i).masks;
    used = (is i).used;
    span = (stays.site i).shape.versions;
    free = length (filter is_free (take (stays.site i).shape.regions (is i).roles.0));
    kept = if (is i).joined then 1 else 2;
    moves = (is i).moves;
    tends = stays.tends i;
  }

  -- so are its Free regions
  pub free_by : (s t : Facts U) → Stays s t → (z : Standing) → standing_of t ≡ z
      → free_count t.part ≡ length (filter is_free (take s.part.site.shape.regions z.roles.0))
  free_by s t stays z is =
      λ i. length (filter is_free (take (stays.site i).shape.regions (is i).roles.0))

module _ {U : Type 0} (lawful : U → PlainStore → Type 0) (allowed : U → PlainStore → Entry → Type 0)
    (s t : Facts U) (f : Shift) (x : ℕ) (took : Takes lawful allowed s (Shifts f) x t)
    (none : took.found ≡ None) where
  -- the pass after it, where nothing was found
  is : t ≡ after_in s false (Shifts f) took.between x None
  is = took.is ∙ (λ i. after_in s false (Shifts f) took.between x (none i))

  pub shift_stays : Stays s t
  shift_stays = record {
    cells = ap (λ (f : Facts U). f.cells) is;
    site = ap (λ (f : Facts U). f.part.site) is;
    number = ap (λ (f : Facts U). f.part.number) is;
    seen = ap (λ (f : Facts U). f.seen) is;
    calls = ap (λ (f : Facts U). f.part.calls) is ∙ (λ i. record { mine = append-nil s.part.calls.mine i });
    roots = ap (λ (f : Facts U). f.roots) is;
    names = took.names;
    hand = ap (λ (f : Facts U). f.hand) is ∙ append-nil s.hand;
    tends = ap (λ (f : Facts U). f.tends) is;
    few = λ e l.
        let held : length t.part.hands.held ≡ length (without s.part.hands.held (first_idle s.roots s.hand s.part.hands.held)) =
        ap (λ (f : Facts U). length f.part.hands.held) is in
        let less = without_fewer s.part.hands.held (first_idle s.roots s.hand s.part.hands.held) in
        omega (arith, held, less, l);
  }

  -- what it knows of stage and replies
  pub shift_clock : t.part.cycle.clock ≡ s.part.cycle.clock
  shift_clock = ap (λ (f : Facts U). f.part.cycle.clock) is

  -- its regions
  pub shift_ties : t.part.cycle.ties ≡ ties_shifted s.part f
  shift_ties = ap (λ (f : Facts U). f.part.cycle.ties) is

  -- and where it stands
  pub shift_standing : standing_of t ≡ record (standing_of s) {
    roles = (ties_shifted s.part f).roles;
    region = (draft_shifted s.part f).region;
    used = (draft_shifted s.part f).used;
    own = own_shifted s.part f;
    joined = (ties_shifted s.part f).joined;
    done = (ties_shifted s.part f).done;
    masks = (scan_shifted s.part f x).masks;
    mark = (scan_shifted s.part f x).mark;
    cursor = (scan_shifted s.part f x).cursor;
    scanned = scanned_after s.part (move_by s (Shifts f)) None s.scanned;
  }
  shift_standing =
      let used : t.part.draft.used ≡ (draft_shifted s.part f).used =
      (let e : t.part.draft.used ≡ (draft_shifted s.part f).used + 0 =
      ap (λ (f : Facts U). f.part.draft.used) is in omega (arith, e)) in
      let own = ap (λ (f : Facts U). f.part.hands.own) is ∙ append-nil (own_shifted s.part f) in
      let mark = ap (λ (f : Facts U). f.part.cycle.scan.mark) is
      ∙ unmarked (scan_shifted s.part f x).mark in
      λ i. record {
        stage = (shift_clock i).stage;
        reply = (shift_clock i).reply;
        moves = (shift_clock i).moves;
        roles = (shift_ties i).roles;
        region = (is i).part.draft.region;
        used = used i;
        own = own i;
        joined = (shift_ties i).joined;
        done = (shift_ties i).done;
        masks = (is i).part.cycle.scan.masks;
        mark = mark i;
        cursor = (is i).part.cycle.scan.cursor;
        scanned = (is i).scanned;
      }

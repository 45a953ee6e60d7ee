-- The plain data after a move: they tell the state after it, and are sound.
use Rattle.std.proofs.Common.{◌≡◌, ◌≢◌, ◌<◌, ◌≤◌, ◌+◌, ◌*◌, map, ℕ, zero, suc, List, [], ◌∷◌, ◌++◌, length, take, set, Option, Some, None, IfSome, if◌then◌else◌, eq-eqb, ne_eqb, refl, sym, ap, ◌∙◌, subst, arith, length-set, length-append, get_or-set_other, get_or-set_same, slice_index_or}
use Rattle.std.specs.Prelude.{slice_index, slice_index_or, slice_set}
use Rattle.hm_core.proofs.Words.{fun_ext, take-append-le, take_all, set-get_or, ℕ_discrete, dite, Version, Entry, AnyUsage, calls_of, Known, Part, Move, Index, becomes, entry_of, finds, listed, next_version, publishes, word_of, row_of_part, HasRoom, IsLawfulMove, Core, Good, PartIsGood, IsBy, some_more, Row, HandState, hand_after, no_hand, SeatState, no_seat, IsAwake, Moment, any_store, any_entry, core_of, hand_at, index_of, known_with, no_row, own_part, own_view, places_of, row_at, row_with, seat_at, seat_with, site_of, IsSound, IsSoundHand, get_or-set_at, index_with, part_after, seen_after, applied, calls_after}
use Rattle.hm_model.specs.Lawful.{UsageLaws}
use Rattle.hm_shape.specs.declared.roles.Role.{Role}
use Rattle.hm_moves.specs.declared.moving.Act.{Act}
use Rattle.hm_moves.specs.declared.moving.Act.TheVariants.{Looks, Builds, Ticks, Shifts}
use Rattle.hm_moves.specs.After.{heap_after, index_readied, places_readied, view_after}
use Rattle.hm_moves.proofs.Places.{set_here}
use Rattle.hm_core.proofs.Listed.{listed_few}
use Rattle.hm_moves.specs.Shifts.{own_readied}
use Rattle.hm_core.specs.Running.{role_in, seat_view}
use Rattle.hm_moves.specs.After.{view}
use Rattle.hm_core.specs.Rows.{ends_by}
use Rattle.hm_core.proofs.RowsReadied.{AreReadied, index_readied_is, places_readied_are}
use Rattle.hm_moves.specs.Places.{Places, places_with, raised}
use Rattle.hm_moves.proofs.Heaps.{next_small, row_below}
use Rattle.hm_moves.proofs.Finding.{entry_by, next_now}
use Rattle.hm_moves.proofs.Steps.{good_step}
use Rattle.hm_core.proofs.Moments.{part_good, awake_below}
use Rattle.hm_core.proofs.CallerChanged.{own_there, seen_low, views_set}

-- the machine's usage keeps the laws
pub any_laws : (u : AnyUsage) → UsageLaws (any_store u) (any_entry u)
any_laws u = record {
  leaves = λ _ _ _. tt;
  fetch = λ _ _ _ _ _ _. tt;
  changed = λ _ _ _ _ _ _ _ _ _. tt;
}

-- what is known after one version more
index_is : (known : List (Option Known)) (o : Option Known)
    → IfSome o (λ k. k.version.0 < length known)
    → index_of (known_with known o) ≡ index_with (index_of known) o
index_is known None low = refl
index_is known (Some k) low = fun_ext (λ v. dite (ℕ_discrete v k.version.0)
    (λ e. rw (eq-eqb v k.version.0 e) (get_or-set_at known k.version.0 v (Some k) None e low))
    (λ ne. rw (ne_eqb v k.version.0 ne) (get_or-set_other known k.version.0 v (Some k) None ne)))

known_long : (known : List (Option Known)) (o : Option Known)
    → length (known_with known o) ≡ length known
known_long known None = refl
known_long known (Some k) = length-set known k.version.0 (Some k)

-- what is counted, where rows have such roles
abbrev places_in : (ℕ → Role) → ℕ → List Row → Places
places_in role done rows = record {
  used = λ r. (row_at rows r).used;
  made = λ r. (row_at rows r).made;
  freed = λ r. (row_at rows r).freed;
  role = role;
  dead = λ r. (row_at rows r).dead;
  done = done;
}

-- after one version more in a row
places_is : (role : ℕ → Role) (done : ℕ) (rows : List Row) (row : ℕ) (o : Option Known)
    → row < length rows
    → places_in role done (set rows row (row_with (row_at rows row) o))
    ≡ places_with (places_in role done rows) row o
places_is role done rows row None low =
    let old = row_at rows row in
    let u : old.used + 0 ≡ old.used = omega arith in
    let v : old.made + 0 ≡ old.made = omega arith in
    let one : row_with old None ≡ old =
    λ i. record { used = u i; made = v i; freed = old.freed; dead = old.dead } in
    let same = set-get_or rows row no_row in cc
places_is role done rows row (Some k) low =
    let new = row_with (row_at rows row) (Some k) in
    let here = λ (r : ℕ) (e : r ≡ row). get_or-set_at rows row r new no_row e low in
    let there = λ (r : ℕ) (ne : r ≢ row). get_or-set_other rows row r new no_row ne in
    let was = places_in role done rows in
    let now = places_in role done (set rows row new) in
    let used : now.used ≡ raised was.used row = fun_ext (λ r. dite (ℕ_discrete r row)
    (λ e. rw (eq-eqb r row e) (let h = here r e in cc))
    (λ ne. rw (ne_eqb r row ne) (let h = there r ne in cc))) in
    let made : now.made ≡ raised was.made row = fun_ext (λ r. dite (ℕ_discrete r row)
    (λ e. rw (eq-eqb r row e) (let h = here r e in cc))
    (λ ne. rw (ne_eqb r row ne) (let h = there r ne in cc))) in
    let freed : now.freed ≡ was.freed = fun_ext (λ r. dite (ℕ_discrete r row)
    (λ e. let h = here r e in cc) (λ ne. let h = there r ne in cc)) in
    let dead : now.dead ≡ was.dead = fun_ext (λ r. dite (ℕ_discrete r row)
    (λ e. let h = here r e in cc) (λ ne. let h = there r ne in cc)) in
    λ i. record {
      used = used i;
      made = made i;
      freed = freed i;
      role = role;
      dead = dead i;
      done = done;
    }

-- a version is published by an act that leaves its caller's versions as they are
publish_own : (p : Part AnyUsage) (a : Act) (y : ℕ) (k : Known) → publishes a y ≡ Some k
    → own_readied p a ≡ p.hands.own
publish_own p (Looks l) y k is = refl
publish_own p (Builds b) y k is = refl
publish_own p (Ticks t) y k is = absurd (cc)
publish_own p (Shifts f) y k is = absurd (cc)

-- no seat has seen more than so much
abbrev pub HasSeen : ℕ → List SeatState → Type 0
HasSeen top seats = (j : ℕ) → (slice_index_or seats j no_seat).seen ≤ top

pub seen_set : (top : ℕ) (seats : List SeatState) (i : ℕ) (s : SeatState) → HasSeen top seats
    → s.seen ≤ top
    → HasSeen top (set seats i s)
seen_set top [] i s all low j = all j
seen_set top (x ∷ xs) zero s all low zero = low
seen_set top (x ∷ xs) zero s all low (suc j) = all (suc j)
seen_set top (x ∷ xs) (suc i) s all low zero = all 0
seen_set top (x ∷ xs) (suc i) s all low (suc j) = seen_set top xs i s (λ k. all (suc k)) low j

module _ (m : Moment) (q : ℕ) (mv : Move) where
  abbrev p : Part AnyUsage
  p = own_part m q

  abbrev ix : Index
  ix = index_of m.known

  abbrev x : ℕ
  x = slice_index m.words (word_of p mv.act)

  abbrev found : Option Known
  found = finds ix mv.act x

  abbrev fresh : Option Known
  fresh = publishes mv.act x

  abbrev e : Option Entry
  e = entry_of q mv.act x

  abbrev row : ℕ
  row = row_of_part p

  abbrev hand : HandState
  hand = hand_after m.shape q (hand_at m q) mv x found

  abbrev seat : SeatState
  seat = seat_with (seat_at m q) (length m.history) e

  -- what the act does to rows and versions before a version is published
  abbrev pub Readied : List Row → List Row → List (Option Known) → Type 0
  Readied freed now known = AreReadied m.shape m.hands q mv.act x m.rows freed now m.known known

  -- the plain data after the move, from what that leaves
  abbrev pub after : List Row → List (Option Known) → Moment
  after now known = record m {
    words = slice_set m.words (word_of p mv.act) (becomes mv.act x);
    known = known_with known fresh;
    rows = slice_set now row (row_with (row_at now row) fresh);
    done = if ends_by mv.act x then m.done + 1 else m.done;
    history = m.history ++ listed e;
    hands = slice_set m.hands q hand;
    seats = slice_set m.seats q seat;
  }

  module _ (sound : IsSound m) (awake : IsAwake (core_of m) q (own_view m q) (own_part m q))
      (may : IsLawfulMove any_store any_entry (core_of m).heap (own_part m q) mv) where
    mine : PartIsGood (site_of m) (core_of m).heap (own_view m q).seen p
    mine = part_good m sound q awake

    low : q < m.shape.callers
    low = awake_below m sound q awake

    below : q < length m.hands
    below = omega (arith, sound.hands_size, low)

    pub fresh_next : IfSome fresh (λ k. (k.version ≡ next_version p) × HasRoom p)
    fresh_next = next_now any_store any_entry (core_of m).heap (own_view m q).seen p
        (sound.good tt).heap mine _ _ _ _ mv.act may.act x

    pub entry_own : IsBy q e
    entry_own = entry_by any_store any_entry (core_of m).heap (own_view m q).seen p
        (sound.good tt).heap mine _ _ _ _ mv.act may.act x

    -- the state after the move is good
    pub good_applied : Good any_store any_entry (site_of m)
        (applied (core_of m) q 0 (own_view m q) p mv)
    good_applied =
        good_step any_store any_entry any_laws (site_of m) (core_of m) q 0 (own_view m q) p mv
        (sound.good tt) awake.carries may

    -- what is kept of the caller after the move is good
    part_applied : PartIsGood (site_of m) (heap_after (core_of m).heap p mv.act x)
        (view_after (own_view m q) 0 m.history p mv x found).seen (part_after p mv x found)
    part_applied = good_applied.parts q 0 (view_after (own_view m q) 0 m.history p mv x found)
        (part_after p mv x found) record {
          seat = set_here (core_of m).views q (own_view m q)
              (view_after (own_view m q) 0 m.history p mv x found) awake.carries.seat;
          place = set_here (own_view m q).parts 0 p (part_after p mv x found) awake.carries.place;
        }

    -- so what it has published since has a place among what it lists
    pub own_room : (k : Known) → fresh ≡ Some k
        → length (hand_at m q).hands.own + 1 ≤ m.shape.regions * m.shape.versions
    own_room k is =
        let few = listed_few m.shape q _ _ _ part_applied.hands in
        let own = ap (λ (l : List Known). length (l ++ listed fresh)) (publish_own p mv.act x k is)
        ∙ ap (λ (o : Option Known). length (p.hands.own ++ listed o)) is
        ∙ length-append p.hands.own (k ∷ []) in
        omega (arith, few, own)

    module _ (freed now : List Row) (known : List (Option Known))
        (are : Readied freed now known) where
      pub fresh_below : IfSome fresh (λ k. k.version.0 < length known)
      fresh_below = some_more (λ (k : Known). (k.version ≡ next_version p) × HasRoom p) _
          (λ k h.
          let small = next_small any_store any_entry (core_of m).heap (own_view m q).seen p
          (sound.good tt).heap mine
          h.1 in omega (
            arith,
            small,
            ap (λ (v : Version). v.0) h.0,
            sound.known_size,
            are.known_long,
          )) _ fresh_next

      pub row_low : row < length now
      row_low = omega (
        arith,
        sound.rows_size,
        are.rows_long,
        row_below (core_of m).heap (own_view m q).seen p mine,
      )

      hand_is : hand_at (after now known) q ≡ hand
      hand_is = get_or-set_same m.hands q hand no_hand below

      -- the caller's own part is that after the move
      own_part_after : own_part (after now known) q ≡ part_after p mv x found
      own_part_after =
          let calls = calls_after q m.history (calls_of q m.history) e entry_own refl in
          let there = hand_is in
          λ i. record {
            site = site_of m;
            number = q;
            draft = (there i).draft;
            hands = (there i).hands;
            calls = record { mine = calls i };
            cycle = (there i).cycle;
          }

      own_seen : (o : Option Entry)
          → take (seat_with (seat_at m q) (length m.history) o).seen (m.history ++ listed o)
          ≡ seen_after (take (seat_at m q).seen m.history) m.history o
      own_seen None = take-append-le (seat_at m q).seen m.history []
          (seen_low m sound q awake q (seat_at m q) (own_there m sound q awake))
      own_seen (Some f) = take_all (length m.history + 1) (m.history ++ f ∷ [])
          (omega (arith, length-append m.history (f ∷ [])))

      own_with : (o : Option Entry)
          → (seat_with (seat_at m q) (length m.history) o).parts ≡ (seat_at m q).parts
      own_with None = refl
      own_with (Some f) = refl

      index_now : index_of (known_with known fresh)
          ≡ index_with (index_readied m.shape (places_of m) ix mv.act x) fresh
      index_now = index_is known fresh fresh_below
          ∙ ap (λ (z : Index). index_with z fresh)
          (index_readied_is m.shape m.hands q below mv.act x m.rows freed now m.known
          known are m.done)

      places_now : places_of (after now known)
          ≡ places_with (places_readied p (places_of m) mv.act x) row fresh
      places_now =
          let done = if ends_by mv.act x then m.done + 1 else m.done in
          places_is (role_in m.shape (after now known).hands) done now row fresh row_low
          ∙ ap (λ (z : Places). places_with z row fresh)
          (places_readied_are m.shape m.hands q below mv.act x m.rows freed now m.known known are
          m.done hand refl)

      -- the plain data after the move tell the state after it
      pub core_after : core_of (after now known) ≡ applied (core_of m) q 0 (own_view m q) p mv
      core_after =
          let views = views_set m sound q awake (after now known) e entry_own refl refl
          (λ r ne. get_or-set_other m.hands q r hand no_hand ne) (part_after p mv x found)
          own_part_after seat (own_with e)
          ∙ ap (λ (l : List Entry). set (map (seat_view m) m.seats) q
          (view l (slice_set (own_view m q).parts 0 (part_after p mv x found)))) (own_seen e) in
          let places = places_now in
          let index = index_now in
          λ i. record {
            heap = record {
              words = slice_set m.words (word_of p mv.act) (becomes mv.act x);
              index = index i;
              places = places i;
              history = m.history ++ listed e;
            };
            views = views i;
          }

      good_after : Good any_store any_entry (site_of m) (core_of (after now known))
      good_after = subst (λ (c : Core AnyUsage). Good any_store any_entry (site_of m) c)
          (sym core_after) good_applied

      hands_sound : (r : ℕ) → r < m.shape.callers
          → IsSoundHand (after now known) (hand_at (after now known) r)
      hands_sound r small = dite (ℕ_discrete r q)
          (λ same. let old = sound.hands q low in rw (same, hand_is)
          record { region = part_applied.draft.region; room = old.room })
          (λ ne. let old = sound.hands r small in rw (get_or-set_other m.hands q r hand no_hand ne)
          record { region = old.region; room = old.room })

      seats_seen : HasSeen (length (after now known).history) (after now known).seats
      seats_seen = seen_set (length (after now known).history) m.seats q seat
          (λ j. let old = sound.seen j in omega (arith, length-append m.history (listed e)))
          (own_low e)
        where
          own_low : (o : Option Entry) → (seat_with (seat_at m q) (length m.history) o).seen
              ≤ length (m.history ++ listed o)
          own_low None = omega (arith, sound.seen q, length-append m.history (listed None))
          own_low (Some f) = omega (arith, length-append m.history (listed (Some f)))

      -- and are sound again
      pub sound_after : IsSound (after now known)
      sound_after = record {
        good = λ u. good_after;
        wide = good_after.heap.wide;
        known_size = known_long known fresh ∙ (are.known_long ∙ sound.known_size);
        rows_size = length-set now row (row_with (row_at now row) fresh)
            ∙ (are.rows_long ∙ sound.rows_size);
        hands_size = length-set m.hands q hand ∙ sound.hands_size;
        seats_size = let size = sound.seats_size in
            let same = length-set m.seats q seat in omega arith;
        numbered = good_after.heap.placed.numbered;
        hands = hands_sound;
        seen = seats_seen;
      }

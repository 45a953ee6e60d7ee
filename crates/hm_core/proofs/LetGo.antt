-- The plain data after a caller let go of a version, and its seat was then split or met another.
use Rattle.std.proofs.Common.{◌≡◌, ◌≢◌, ◌<◌, ◌≤◌, ℕ, zero, suc, true, false, List, [], ◌∷◌, ◌++◌, length, take, set, get_or, nat_lt, if◌then◌else◌, Option, None, refl, sym, ap, ◌∙◌, subst, arith, append-nil, length-set, length-append, get_or-set_other, get_or-set_same}
use Rattle.std.specs.Prelude.{slice_set}
use Rattle.hm_core.proofs.Words.{Shape, set-get_or, map-append, map-set, slice_get-get_or, ℕ_discrete, dite, some, some-injective, get_elem?, Entry, AnyUsage, Known, Part, view, Core, Good, Leads, here, let_go, cut, met, HandState, no_hand, SeatState, no_seat, IsAwake, Moment, any_store, any_entry, core_of, hand_at, own_part, own_view, seat_at, seat_view, site_of, IsSound, IsSoundHand, length-take-le, letting, longer, hand_letting}
use Rattle.hm_moves.proofs.Places.{set_here, set_else}
use Rattle.hm_moves.proofs.Safe.{good_always}
use Rattle.hm_core.specs.Taking.{core_letting, seat_letting, split_off, joined_to}
use Rattle.hm_core.proofs.Moments.{awake_below, view_at}
use Rattle.hm_core.proofs.FieldsRead.{hand_read, seat_read, other_read}
use Rattle.hm_core.proofs.CallerChanged.{other_view, own_parts, roles_same, views_set}
use Rattle.hm_core.proofs.AfterMove.{any_laws, HasSeen, seen_set}

-- no seat has seen more, with another one
seen_push : (top : ℕ) (seats : List SeatState) (n : SeatState) → HasSeen top seats → n.seen ≤ top
    → HasSeen top (seats ++ n ∷ [])
seen_push top [] n all low zero = low
seen_push top [] n all low (suc j) = omega arith
seen_push top (s ∷ ss) n all low zero = all 0
seen_push top (s ∷ ss) n all low (suc j) = seen_push top ss n (λ i. all (suc i)) low j

-- of two counts the greater, the first where they are the same
abbrev later : ℕ → ℕ → ℕ
later a b = if nat_lt a b then b else a

later_low : (top a b : ℕ) → a ≤ top → b ≤ top → later a b ≤ top
later_low top a b x y =
    elim (nat_lt a b) as (λ t. (if t then b else a) ≤ top) [ true ↦ y | false ↦ x ]

longer_is : (h : List Entry) (a b : ℕ) → a ≤ length h → b ≤ length h
    → take (later a b) h ≡ longer (take a h) (take b h)
longer_is h a b la lb =
    rw (length-take-le a h la, length-take-le b h lb) (grind arith)

module _ (m : Moment) (q : ℕ) (o : Option Known) where
  -- the plain data after the caller let go
  abbrev letting_go : Moment
  letting_go = record m { hands = slice_set m.hands q (hand_letting m.shape q (hand_at m q) o) }

  -- and with a note behind all seats
  abbrev pub noted : Moment
  noted = record letting_go
      { seats = m.seats ++ record { seen = (seat_at m q).seen; parts = [] } ∷ [] }

  -- or with another seat's callers in its own, and that one spent
  abbrev both : ℕ → SeatState
  both other = record {
    seen = later (seat_at m q).seen (seat_at m other).seen;
    parts = (seat_at m q).parts ++ (seat_at m other).parts;
  }

  abbrev pub met_with : ℕ → Moment
  met_with other =
      record letting_go { seats = slice_set (slice_set m.seats q (both other)) other no_seat }

  module _ (sound : IsSound m) (awake : IsAwake (core_of m) q (own_view m q) (own_part m q)) where
    low : q < m.shape.callers
    low = awake_below m sound q awake

    below : q < length m.hands
    below = omega (arith, sound.hands_size, low)

    hand_is : hand_at letting_go q ≡ hand_letting m.shape q (hand_at m q) o
    hand_is = get_or-set_same m.hands q (hand_letting m.shape q (hand_at m q) o) no_hand below

    hand_else : (r : ℕ) → r ≢ q → hand_at letting_go r ≡ hand_at m r
    hand_else r ne =
        get_or-set_other m.hands q r (hand_letting m.shape q (hand_at m q) o) no_hand ne

    part_is : own_part letting_go q ≡ letting (own_part m q) o
    part_is = let h = hand_is in cc

    view_is : own_view letting_go q ≡ seat_letting m q o
    view_is = ap (λ (l : List (Part AnyUsage)). view (own_view m q).seen l)
        (own_parts m sound q awake letting_go None tt refl (sym (append-nil m.history)) hand_else
        (letting (own_part m q) o) part_is)

    view_else : (j : ℕ) → j ≢ q → j < length m.seats → own_view letting_go j ≡ own_view m j
    view_else j ne there =
        other_view m sound q awake letting_go None tt refl (sym (append-nil m.history))
        hand_else j (seat_at m j) (slice_get-get_or m.seats j no_seat there) ne

    core_is : core_of letting_go ≡ core_letting m q o
    core_is =
        let roles = roles_same m.shape m.hands q
        (hand_letting m.shape q (hand_at m q) o) below refl in
        let same : set m.seats q (seat_at m q) ≡ m.seats = set-get_or m.seats q no_seat in
        let views = views_set m sound q awake letting_go None tt refl
        (sym (append-nil m.history)) hand_else
        (letting (own_part m q) o) part_is (seat_at m q) refl in cc

    -- the state that lets go is led to
    lets_go : Leads any_store any_entry (core_of m) (core_letting m q o)
    lets_go = let_go (core_of m) q 0 (own_view m q) (own_part m q) o here awake.carries

    there : get_elem? (core_letting m q o).views q ≡ some (seat_letting m q o)
    there = set_here (core_of m).views q (own_view m q) (seat_letting m q o) awake.carries.seat

    -- and so are a split and a meeting
    pub split_leads : Leads any_store any_entry (core_of m) (split_off m q o)
    split_leads = cut (core_letting m q o) q (seat_letting m q o) (seat_letting m q o).parts
        [] lets_go there (sym (append-nil (seat_letting m q o).parts))

    pub meet_leads : (other : ℕ) → other ≢ q → other < length m.seats
        → Leads any_store any_entry (core_of m) (joined_to m q o other)
    meet_leads other ne inside =
        met (core_letting m q o) q other (seat_letting m q o) (own_view m other) lets_go there ne
        (set_else (core_of m).views q other (seat_letting m q o) ne
        ∙ view_at m other (seat_at m other) (slice_get-get_or m.seats other no_seat inside))

    -- the plain data tell these states
    pub core_noted : core_of noted ≡ split_off m q o
    core_noted =
        let note : SeatState = record { seen = (seat_at m q).seen; parts = [] } in
        let views = map-append (seat_view letting_go) m.seats (note ∷ []) in
        let c = core_is in let t = twice in cc
      where
        set_same : {A : Type 0} (l : List A) (i : ℕ) (a : A) → get_elem? l i ≡ some a
            → set l i a ≡ l
        set_same [] i a e = refl
        set_same {A} (x ∷ xs) zero a e = ap (λ (z : A). z ∷ xs) (sym (some-injective x a e))
        set_same {A} (x ∷ xs) (suc i) a e = ap (λ (l : List A). x ∷ l) (set_same xs i a e)

        twice : (core_letting m q o).views ≡ set (core_letting m q o).views q (seat_letting m q o)
        twice = sym (set_same (core_letting m q o).views q (seat_letting m q o) there)

    pub core_met : (other : ℕ) → other ≢ q → other < length m.seats
        → core_of (met_with other) ≡ joined_to m q o other
    core_met other ne inside =
        let f = seat_view letting_go in
        let s = seat_at m q in
        let t = seat_at m other in
        let one : f (both other)
        ≡ view (longer (own_view letting_go q).seen (own_view letting_go other).seen)
        ((own_view letting_go q).parts ++ (own_view letting_go other).parts) =
        λ i. view (longer_is m.history s.seen t.seen (sound.seen q) (sound.seen other) i)
        (map-append (own_part letting_go) s.parts t.parts i) in
        let second = map-set f (set m.seats q (both other)) other no_seat in
        let first = map-set f m.seats q (both other) in
        let c = core_is in
        let v = view_is in
        let w = view_else other ne inside in cc

    hands_sound : (seats : List SeatState) (r : ℕ) → r < m.shape.callers
        → IsSoundHand (record letting_go { seats = seats }) (hand_at letting_go r)
    hands_sound seats r small =
        let old = sound.hands r small in dite (ℕ_discrete r q)
        (λ same. rw (same, hand_is)
        (let old = sound.hands q low in record { region = old.region; room = old.room }))
        (λ ne. rw (hand_else r ne) record { region = old.region; room = old.room })

    -- and are sound with such seats, where the state is good
    sound_seats : (seats : List SeatState) (d : Core AnyUsage)
        → core_of (record letting_go { seats = seats }) ≡ d
        → Leads any_store any_entry (core_of m) d
        → m.shape.callers ≤ length seats → HasSeen (length m.history) seats
        → IsSound (record letting_go { seats = seats })
    sound_seats seats d is leads size seen = record {
      good = λ u. subst (λ (c : Core AnyUsage). Good any_store any_entry (site_of m) c) (sym is)
          (good_always any_store any_entry (site_of m) any_laws (core_of m) d
          (sound.good tt) leads);
      wide = sound.wide;
      known_size = sound.known_size;
      rows_size = sound.rows_size;
      hands_size = length-set m.hands q (hand_letting m.shape q (hand_at m q) o) ∙ sound.hands_size;
      seats_size = size;
      numbered = sound.numbered;
      hands = hands_sound seats;
      seen = seen;
    }

    pub sound_noted : IsSound noted
    sound_noted =
        let note : SeatState = record { seen = (seat_at m q).seen; parts = [] } in
        sound_seats (m.seats ++ note ∷ []) (split_off m q o) core_noted split_leads
        (omega (arith, sound.seats_size, length-append m.seats (note ∷ [])))
        (seen_push (length m.history) m.seats note sound.seen (sound.seen q))

    pub sound_met : (other : ℕ) → other ≢ q → other < length m.seats → IsSound (met_with other)
    sound_met other ne inside =
        let size = sound.seats_size in let a = length-set m.seats q (both other) in
        let b = length-set (set m.seats q (both other)) other no_seat in
        sound_seats (set (set m.seats q (both other)) other no_seat) (joined_to m q o other)
        (core_met other ne inside) (meet_leads other ne inside) (omega arith)
        (seen_set (length m.history) (set m.seats q (both other)) other no_seat
        (seen_set (length m.history) m.seats q (both other) sound.seen
        (later_low (length m.history) (seat_at m q).seen (seat_at m other).seen (sound.seen q)
        (sound.seen other))) (omega arith))

module _ (a m : Moment) (same : a ≡ m) (sound : IsSound m) (q : ℕ)
    (awake : IsAwake (core_of m) q (own_view m q) (own_part m q)) (o : Option Known) where
  -- the plain data that the code leaves are those after the split
  pub noted_is : {h h' : HandState} {s note : SeatState} {seen : ℕ} {seats : List SeatState}
      → h ≡ get_or a.hands q h → h' ≡ hand_letting a.shape q h o → s ≡ get_or a.seats q s
      → seen ≡ s.seen
      → note ≡ record { seen = seen; parts = [] } → seats ≡ a.seats ++ note ∷ []
      → record a { hands = set a.hands q h'; seats = seats } ≡ noted m q o
  noted_is {h} {h'} {s} {note} {seen} {seats} eh eh' es ec en more =
      let h_is = hand_read a m same sound q awake h eh in
      let s_is = seat_read a m same sound q awake s es in
      let let_is = subst (λ (z : Shape). h' ≡ hand_letting z q h o)
      (ap (λ (z : Moment). z.shape) same) eh' in
      cc

  -- and after the meeting
  pub met_is : (other : ℕ) {h h' : HandState} {s t u n spent : SeatState}
      {parts : List ℕ} {seen : ℕ}
      → other < length m.seats → h ≡ get_or a.hands q h → h' ≡ hand_letting a.shape q h o
      → s ≡ get_or a.seats q s
      → t ≡ get_or a.seats other t → u ≡ get_or a.seats other u → seen ≡ t.seen → parts ≡ u.parts
      → n ≡ record { seen = later s.seen seen; parts = s.parts ++ parts } → spent ≡ no_seat
      → record a { hands = set a.hands q h'; seats = set (set a.seats q n) other spent }
      ≡ met_with m q o other
  met_is other {h} {h'} {s} {t} {u} {n} {spent} {parts} {seen} inside eh eh' es et eu ec ep en ez =
      let h_is = hand_read a m same sound q awake h eh in
      let s_is = seat_read a m same sound q awake s es in
      let let_is = subst (λ (z : Shape). h' ≡ hand_letting z q h o)
      (ap (λ (z : Moment). z.shape) same) eh' in
      let t_is = other_read a m same sound q awake other t inside et in
      let u_is = other_read a m same sound q awake other u inside eu in cc

-- The moment that a fresh machine tells: it is fresh, and sound.
use Rattle.std.proofs.Common.{◌≡◌, ◌≢◌, ◌<◌, ◌≤◌, ◌-◌, ◌/◌, ◌%◌, ◌==◌, ℕ, zero, suc, ne_eqb, false, if◌then◌else◌, List, [], ◌∷◌, ◌++◌, length, map, get_or, replicate, Option, Some, None, refl, sym, ap, ◌∙◌, subst, arith}
use Rattle.std.specs.Prelude.{slice_get}
use Rattle.hm_core.proofs.Words.{fun_ext, length-append, length-map, length-replicate, length-set, map-append, get_or-set_same, get_or-set_other, take_all, ℕ_discrete, dite, some, get_elem?, Shape, version_count, Start, Entry, AnyUsage, opening_of, Known, Part, View, Index, IsPublished, link_of, Carries, common_known, all_known, many, Row, SeatState, no_seat, HandState, fresh_hand, no_hand, Moment, any_store, any_entry, core_of, hand_at, index_of, no_row, own_part, places_of, row_at, seat_view, site_of, IsSound, IsSoundHand, creates_of, first_seats, get_or-replicate, starting_count, AreTrue, fresh_index, fresh_part, fresh_places, fresh_used, IsFreshHeap, IsFreshCore, numbered, numbered_at, used_first, used_other, good_fresh, first_hands, first_rows}
use Rattle.std.proofs.lemmas.Nat.{mul-lt}
use Rattle.hm_shape.specs.declared.roles.Role.{Role}
use Rattle.hm_shape.specs.declared.roles.Role.TheVariants.{Free, To}
use Rattle.hm_shape.specs.declared.roles.Roles.{Roles}
use Rattle.hm_moves.specs.Cycles.{role_at}
use Rattle.hm_moves.specs.Fresh.{fresh_roles}
use Rattle.hm_moves.specs.Places.{row_count}
use Rattle.hm_moves.specs.FirstWords.{AreFirst}
use Rattle.hm_moves.proofs.Places.{at_end, at_below}
use Rattle.hm_core.proofs.FirstVersions.{opening_created}
use Rattle.hm_moves.proofs.Placed.{versions_some}

-- what the fields of a fresh machine tell
abbrev pub first_moment : Shape → Start → List ℕ → Moment
first_moment s start words = record {
  shape = s;
  start = start;
  words = words;
  known = map Some (all_known start) ++ replicate (version_count s - length (all_known start)) None;
  rows = first_rows s (length (all_known start));
  done = 0;
  history = opening_of start;
  hands = first_hands s (common_known start) (all_known start);
  seats = first_seats (length (opening_of start)) s.callers;
}

seats_long : (seen n : ℕ) → length (first_seats seen n) ≡ n
seats_long seen zero = refl
seats_long seen (suc n) =
    let a = length-append (first_seats seen n) (record { seen = seen; parts = n ∷ [] } ∷ []) in
    let b = seats_long seen n in omega arith

-- the seat at a place is that caller's
seat_of : {B : Type 0} (f : SeatState → B) (seen n j : ℕ) (v : B)
    → get_elem? (map f (first_seats seen n)) j ≡ some v
    → (j < n) × (f (record { seen = seen; parts = j ∷ [] }) ≡ v)
seat_of f seen zero j v e =
    absurd (let low = at_below (map f (first_seats seen zero)) j v e in omega arith)
seat_of f seen (suc n) j v e =
    let last : SeatState = record { seen = seen; parts = n ∷ [] } in
    let cut = map-append f (first_seats seen n) (last ∷ []) in
    let long = length-map (first_seats seen n) f in
    let count = seats_long seen n in
    let here = at_end (map f (first_seats seen n)) (f last) v j
    (ap (λ l. get_elem? l j) (sym cut) ∙ e) in
    grind (arith, seat_of f seen n j v, here)

-- no seat has seen more
bound_push : (xs : List SeatState) (x d : SeatState) (top : ℕ)
    → ((j : ℕ) → (get_or xs j d).seen ≤ top)
    → x.seen ≤ top → d.seen ≤ top → (j : ℕ) → (get_or (xs ++ x ∷ []) j d).seen ≤ top
bound_push [] x d top h low zero' zero = low
bound_push [] x d top h low zero' (suc j) = zero'
bound_push (y ∷ xs) x d top h low zero' zero = h 0
bound_push (y ∷ xs) x d top h low zero' (suc j) = bound_push xs x d top (λ k. h (suc k)) low zero' j

seats_bound : (seen n : ℕ) (d : SeatState) → d.seen ≤ seen → (j : ℕ)
    → (get_or (first_seats seen n) j d).seen ≤ seen
seats_bound seen zero d low j = low
seats_bound seen (suc n) d low j =
    bound_push (first_seats seen n) _ d seen (seats_bound seen n d low) (omega arith) low j

one_at : {A : Type 0} (x y : A) (k : ℕ) → get_elem? (x ∷ []) k ≡ some y → (k ≡ 0) × (x ≡ y)
one_at x y zero e = (refl, cc)
one_at x y (suc k) e = absurd (let low = at_below (x ∷ []) (suc k) y e in omega arith)

-- what is told of what is repeated is told, if it is told of what stands for nothing
repeated : {A B : Type 0} (f : A → B) (n v : ℕ) (a d : A) → f a ≡ f d
    → f (get_or (replicate n a) v d) ≡ f d
repeated f zero v a d e = refl
repeated f (suc n) zero a d e = e
repeated f (suc n) (suc v) a d e = repeated f n v a d e

-- the index is told by the list of versions
index_get : (xs : List Known) (n v : ℕ)
    → get_or (map Some xs ++ replicate n None) v None ≡ slice_get xs v
index_get [] n v = repeated (λ (o : Option Known). o) n v None None refl
index_get (x ∷ xs) n zero = refl
index_get (x ∷ xs) n (suc v) = index_get xs n v

-- of a fresh caller the first region is To, and every other Free
first_role : (g : ℕ) → role_at fresh_roles g ≡ (if g == 0 then To else Free)
first_role zero = refl
first_role (suc g) =
    let other : role_at fresh_roles (suc g) ≡ Free =
    repeated (λ (r : Role). r) 7 g Free Free refl in
    rw (ne_eqb (suc g) 0 (λ z. omega arith)) other

-- and so where no caller is
roles_first : (s : Shape) (common : Known) (own : List Known) (q : ℕ)
    → (get_or (first_hands s common own) q no_hand).cycle.ties.roles ≡ fresh_roles
roles_first s common own zero = refl
roles_first s common own (suc q) =
    repeated (λ (h : HandState). h.cycle.ties.roles) (s.callers - 1) q _ no_hand refl

module _ (s : Shape) (start : Start) (words : List ℕ) (first : AreFirst s start words)
    (room : starting_count start ≤ s.versions) where
  abbrev m : Moment
  m = first_moment s start words

  index_is : index_of m.known ≡ fresh_index start
  index_is = fun_ext (λ v.
      index_get (all_known start) (version_count s - length (all_known start)) v)

  some_rows : 0 < row_count s
  some_rows = mul-lt 0 0 s.callers s.regions (omega (arith, s.callers_fit))
      (omega (arith, s.regions_fit))

  few : length (all_known start) ≤ version_count s
  few =
      let long = many start first.sized in
      let more = versions_some (row_count s) s.versions some_rows in omega arith

  abbrev full : Row
  full = record {
    used = length (all_known start);
    made = length (all_known start);
    freed = 0;
    dead = false;
  }

  row_first : row_at m.rows 0 ≡ full
  row_first =
      let some = some_rows in let long = length-replicate {A = Row} (row_count s) no_row in
      get_or-set_same (replicate (row_count s) no_row) 0 full no_row (omega arith)

  row_other : (row : ℕ) → row ≢ 0 → row_at m.rows row ≡ no_row
  row_other row ne = get_or-set_other (replicate (row_count s) no_row) 0 row full no_row ne
      ∙ repeated (λ (r : Row). r) (row_count s) row no_row no_row refl

  -- a count that a row has as many as there are starting objects, and another none
  counted : (f : Row → ℕ) → f full ≡ length (all_known start) → f no_row ≡ 0 → (row : ℕ)
      → f (row_at m.rows row) ≡ fresh_used start row
  counted f one none row = dite (ℕ_discrete row 0)
      (λ (e : row ≡ 0). ap (λ (r : ℕ). f (row_at m.rows r)) e ∙ (ap f row_first
      ∙ (one ∙ (many start first.sized ∙ sym (used_first start first.sized row e)))))
      (λ ne. ap f (row_other row ne) ∙ (none ∙ sym (used_other start first.sized row ne)))

  never_freed : (row : ℕ) → (row_at m.rows row).freed ≡ 0
  never_freed row = dite (ℕ_discrete row 0)
      (λ e. rw e (ap (λ (r : Row). r.freed) row_first))
      (λ ne. ap (λ (r : Row). r.freed) (row_other row ne))

  never_dead : (row : ℕ) → (row_at m.rows row).dead ≡ false
  never_dead row = dite (ℕ_discrete row 0)
      (λ e. rw e (ap (λ (r : Row). r.dead) row_first))
      (λ ne. ap (λ (r : Row). r.dead) (row_other row ne))

  places_are : places_of m ≡ fresh_places s start
  places_are = λ i. record {
    used = λ row. counted (λ r. r.used) refl refl row i;
    made = λ row. counted (λ r. r.made) refl refl row i;
    freed = λ row. never_freed row i;
    role = λ row. (ap (λ (r : Roles). role_at r (row % s.regions))
        (roles_first s (common_known start) (all_known start) (row / s.regions))
        ∙ first_role (row % s.regions)) i;
    dead = λ row. never_dead row i;
    done = 0;
  }

  fresh_heap : IsFreshHeap (site_of m) (core_of m).heap
  fresh_heap = record {
    wide = first.wide;
    index = index_is;
    places = places_are;
    head = first.head;
    history = refl;
    contents = subst (AreTrue s words) (sym index_is) first.contents;
    links = subst (λ (x : Index). (k : Known) → IsPublished x k → link_of s words k ≡ 0)
        (sym index_is) first.links;
  }

  hand_own : (q : ℕ) → suc q < s.callers → hand_at m (suc q) ≡ fresh_hand s (common_known start) []
  hand_own q low = get_or-replicate (s.callers - 1) q (fresh_hand s (common_known start) []) no_hand
      (omega arith)

  part_is : (q : ℕ) → q < s.callers → own_part m q ≡ fresh_part (site_of m) q
  part_is zero low = λ i. record (own_part m 0) {
    draft = record (own_part m 0).draft { used = many start first.sized i };
  }
  part_is (suc q) low =
      let is : own_part m (suc q) ≡ record (own_part m (suc q)) {
        draft = (fresh_hand s (common_known start) []).draft;
        hands = (fresh_hand s (common_known start) []).hands;
        cycle = (fresh_hand s (common_known start) []).cycle;
      } = λ i. record (own_part m (suc q)) {
        draft = (hand_own q low i).draft;
        hands = (hand_own q low i).hands;
        cycle = (hand_own q low i).cycle;
      } in
      is ∙ rw (ne_eqb (suc q) 0 (λ z. omega arith)) refl

  -- a view is of one caller, with its fresh part
  own : (j k : ℕ) (v : View AnyUsage) (p : Part AnyUsage) → Carries (core_of m).views j k v p
      → (j < s.callers) × (k ≡ 0) × (own_part m j ≡ p)
  own j k v p at =
      let a = seat_of (seat_view m) (length (opening_of start)) s.callers j v at.seat in
      let b = one_at (own_part m j) p k
      (ap (λ (w : View AnyUsage). get_elem? w.parts k) a.1 ∙ at.place) in
      (a.0, b.0, b.1)

  pub first_fresh : IsFreshCore (site_of m) (core_of m)
  first_fresh = record {
    heap = fresh_heap;
    seen = λ j v at. let a = seat_of (seat_view m) (length (opening_of start)) s.callers j v at in
        ap (λ (w : View AnyUsage). w.seen) (sym a.1)
        ∙ take_all (length (opening_of start)) (opening_of start) (omega arith);
    parts = λ j k v p at.
        let o = own j k v p at in
        let number : j ≡ p.number = ap (λ (q : Part AnyUsage). q.number) o.2 in (
          let low = o.0 in omega arith,
          sym o.2 ∙ (part_is j o.0 ∙ ap (fresh_part (site_of m)) number),
        );
    apart = λ j k i n v w p q a b same.
        let x = own j k v p a in
        let y = own i n w q b in
        let one : j ≡ p.number = ap (λ (z : Part AnyUsage). z.number) x.2 in
        let two : i ≡ q.number = ap (λ (z : Part AnyUsage). z.number) y.2 in
        (grind arith, x.1 ∙ sym y.1);
  }

  hands_sound : (q : ℕ) → q < s.callers → IsSoundHand m (hand_at m q)
  hands_sound zero low = record { region = omega (arith, s.regions_fit); room = refl }
  hands_sound (suc q) low = subst (IsSoundHand m) (sym (hand_own q low))
      (record { region = omega (arith, s.regions_fit); room = refl })

  pub first_sound : IsSound m
  first_sound = record {
    good = λ u. good_fresh any_store any_entry (site_of m) first.sized room (core_of m)
        first_fresh tt;
    wide = first_fresh.heap.wide;
    known_size =
        let a = length-append (map Some (all_known start))
        (replicate {A = Option Known} (version_count s - length (all_known start)) None) in
        let b = length-map (all_known start) (λ (k : Known). Some k) in
        let c = length-replicate {A = Option Known}
        (version_count s - length (all_known start)) None in
        let d = few in omega arith;
    rows_size = length-set (replicate {A = Row} (row_count s) no_row) 0 full
        ∙ length-replicate (row_count s) no_row;
    hands_size =
        let some = s.callers_fit in
        let long = length-replicate (s.callers - 1)
        (fresh_hand s (common_known start) []) in omega arith;
    seats_size = let long = seats_long (length (opening_of start)) s.callers in omega arith;
    numbered = λ v k is.
        let here = sym (ap (λ (f : Index). f v) index_is) ∙ is in
        ap (λ (z : Known). z.version.0)
        (numbered_at 0 (all_known start) v k (numbered start first.sized) here).is
        ∙ omega arith;
    hands = hands_sound;
    seen = λ j. seats_bound (length (opening_of start)) s.callers no_seat (omega arith) j;
  }

-- the fields of a fresh machine tell it
pub moment_is : (s : Shape) (start : Start) (firsts : List Known) (common : Known)
    (words : List ℕ) (rows : List Row) (known : List (Option Known)) (history : List Entry)
    (hands : List HandState) (seats : List SeatState) (count seen : ℕ)
    → firsts ≡ all_known start
    → known ≡ map Some firsts ++ replicate (version_count s - length firsts) None
    → history ≡ creates_of firsts → count ≡ length firsts → rows ≡ first_rows s count
    → common ≡ common_known start → hands ≡ first_hands s common firsts
    → seats ≡ first_seats seen s.callers → seen ≡ length history
    → record {
      shape = s;
      start = start;
      words = words;
      known = known;
      rows = rows;
      done = 0;
      history = history;
      hands = hands;
      seats = seats;
    } ≡ first_moment s start words
moment_is s start firsts common words rows known history hands seats count seen a k h n
    r last l t e =
    rw (k, r, n, l, t, e, h, last, a, opening_created start) refl

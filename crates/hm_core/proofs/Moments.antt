-- Seats and callers of the running machine, as the state has them.
use Rattle.std.proofs.Common.{true, false, Bool, Bor, Contains, IsTrue, nat_lt, length, get_or, inr, ⊎_elim, ◌-◌, ◌≡◌, ◌<◌, ◌+◌, ◌*◌, ◌^◌, ℕ, zero, suc, List, [], ◌∷◌, map, Option, Some, None, IfSome, refl, sym, ap, ◌∙◌, subst, arith, ◌↔◌, IsNone, ◌≤◌}
use Rattle.std.specs.Prelude.{slice_get}
use Rattle.std.proofs.Math.Nat.{mul-le-mul_right}
use Rattle.hm_core.specs.Running.{IsSmall}
use Rattle.hm_moves.specs.After.{is_naming}
use Rattle.hm_core.proofs.Words.{nat_tests, Shape, version_count, no_seat, slice_get_past, slice_get-get_or, get_or_from_slice_get, some, some-injective, get_elem?, AnyUsage, Known, Part, View, IsPublished, PartIsGood, Version, made_count, store_of, MayLookInto, next_name, IsAwake, IsLookable, SeatState, Moment, core_of, index_of, own_part, own_view, places_of, seat_view, site_of, IsSound, dec_le, some-ne-none, word_count, made_count-legal}
use Rattle.hm_moves.specs.Places.{IsFit}
use Rattle.hm_moves.proofs.Placed.{rank_small}
use Rattle.hm_moves.proofs.Heaps.{look_published, next_small}
use Rattle.std.proofs.lemmas.Bool.{ltb-true}
use Rattle.std.specs.Prelude.{option_copied, slice_index_or, is_some}
use Rattle.std.specs.Option.{option_flatten}
use Rattle.hm_core.proofs.Words.{any_store, any_entry, HasRoom, next_version, IsVersionOf, HasVersion, Index, lookup, dite}

module _ {A B : Type 0} (f : A → B) where
  -- what a list has at a place, its image has there
  pub map_at : (xs : List A) (j : ℕ) (x : A) → slice_get xs j ≡ Some x
      → get_elem? (map f xs) j ≡ some (f x)
  map_at [] j x e = absurd (cc)
  map_at (y ∷ ys) zero x e = let is : y ≡ x = cc in ap (λ (z : A). some (f z)) is
  map_at (y ∷ ys) (suc j) x e = map_at ys j x e

  -- and only that
  pub map_from : (xs : List A) (j : ℕ) (b : B) → get_elem? (map f xs) j ≡ some b
      → (x : A) × (slice_get xs j ≡ Some x) × (f x ≡ b)
  map_from [] j b e = absurd (some-ne-none b (sym e))
  map_from (y ∷ ys) zero b e = (y, refl, some-injective (f y) b e)
  map_from (y ∷ ys) (suc j) b e = map_from ys j b e

-- a heap has few versions
pub few_versions : (s : Shape) → version_count s ≤ 2097152
few_versions s =
    let a = s.callers_fit in
    let rows : s.callers * s.regions ≤ 32 = rw s.regions_fit (omega arith) in
    omega (arith, mul-le-mul_right s.versions rows, s.versions_fit)

-- a word that names a version is one of the first six
pub naming_low : (i : ℕ) → is_naming i ≡ true → i < 16
naming_low i e = grind (arith, nat_tests)

-- what was got of a list is what it has there
pub got : {A : Type 0} (xs : List A) (j : ℕ) (o : Option (Bor A)) → is_some o ≡ nat_lt j (length xs)
    → IfSome o (λ x. x.now ≡ get_or xs j x.now) → option_copied o ≡ slice_get xs j
got xs j None a b =
    let far : length xs ≤ j = grind (arith, nat_tests) in sym (slice_get_past xs j far)
got xs j (Some x) a b =
    let low : j < length xs = ltb-true j (length xs) (sym a) in
    ap Some b ∙ sym (slice_get-get_or xs j x.now low)

-- of a list of options
pub flat : {A : Type 0} (xs : List (Option A)) (j : ℕ)
    → option_flatten (slice_get xs j) ≡ slice_index_or xs j None
flat [] j = refl
flat (x ∷ xs) zero = refl
flat (x ∷ xs) (suc j) = flat xs j

-- a word that is not 0 is looked up by its number, less one
pub looked : (ix : Index) (w : ℕ) (o : Option Known) → (w ≡ 0 → ⊥) → o ≡ ix (w - 1)
    → o ≡ lookup ix w
looked ix zero o ne is = absurd (ne refl)
looked ix (suc v) o ne is = is ∙ ap ix (omega arith)

-- a version that is not held is looked into where it is an own one
pub look_owns : (p : Part AnyUsage) (v : Version) (held owned : Bool) → held ≡ false
    → (IsTrue held ↔ HasVersion p.hands.held v) → (IsTrue owned ↔ HasVersion p.hands.own v)
    → IsTrue owned ↔ IsLookable p v
look_owns p v held owned none h o = (
  λ t. let x = o.0 t in (x.0, inr x.1, x.2),
  λ (k, look, is). ⊎_elim
      (λ (c : Contains p.hands.held k). let t = h.1 (k, c, is) in absurd (cc))
      (λ (c : Contains p.hands.own k). o.1 (k, c, is)) look,
)

-- one element at most
pub only_one : {A : Type 0} (x y : A) (o : Option A) → o ≡ Some x → o ≡ Some y → x ≡ y
only_one x y o a b = let both : Some x ≡ Some y = sym a ∙ b in cc

-- a caller has a seat, and is the first there
pub record IsSeated (m : Moment) (q : ℕ) (s : SeatState) : Type 0 where
  pub seat : slice_get m.seats q ≡ Some s
  pub first : slice_get s.parts 0 ≡ Some q

module _ (m : Moment) where
  pub own_seat : (q : ℕ) (s : SeatState) → slice_get m.seats q ≡ Some s
      → seat_view m s ≡ own_view m q
  own_seat q s e = ap (seat_view m) (sym (get_or_from_slice_get m.seats q s no_seat e))

  pub view_at : (q : ℕ) (s : SeatState) → slice_get m.seats q ≡ Some s
      → get_elem? (core_of m).views q ≡ some (own_view m q)
  view_at q s e = map_at (seat_view m) m.seats q s e
      ∙ ap (λ (v : View AnyUsage). some v) (own_seat q s e)

  -- a view that the state has is that of a seat
  pub view_from : (q : ℕ) (v : View AnyUsage) → get_elem? (core_of m).views q ≡ some v
      → (s : SeatState) × (slice_get m.seats q ≡ Some s) × (v ≡ own_view m q)
  view_from q v e =
      let t = map_from (seat_view m) m.seats q v e in
      (t.0, t.1, sym t.2 ∙ own_seat q t.0 t.1)

  pub awake_seated : (q : ℕ) (s : SeatState) → IsSeated m q s
      → IsAwake (core_of m) q (own_view m q) (own_part m q)
  awake_seated q s h = record {
    carries = record {
      seat = view_at q s h.seat;
      place = subst (λ (v : View AnyUsage). get_elem? v.parts 0 ≡ some (own_part m q))
          (own_seat q s h.seat) (map_at (own_part m) s.parts 0 q h.first);
    };
    number = refl;
  }

  -- a caller that is awake is seated, with its own view and part
  pub record Awakes (q : ℕ) (v : View AnyUsage) (p : Part AnyUsage) : Type 0 where
    pub state : SeatState
    pub seated : IsSeated m q state
    pub view_is : v ≡ own_view m q
    pub part_is : p ≡ own_part m q

  pub seated_awake : (q : ℕ) (v : View AnyUsage) (p : Part AnyUsage)
      → IsAwake (core_of m) q v p → Awakes q v p
  seated_awake q v p h =
      let t = view_from q v h.carries.seat in
      let there : get_elem? (map (own_part m) t.0.parts) 0 ≡ some p =
      subst (λ (w : View AnyUsage). get_elem? w.parts 0 ≡ some p) (t.2 ∙ sym (own_seat q t.0 t.1))
      h.carries.place in
      let u = map_from (own_part m) t.0.parts 0 p there in
      let same : u.0 ≡ q = ap (λ (r : Part AnyUsage). r.number) u.2 ∙ h.number in
      record {
        state = t.0;
        seated = record { seat = t.1; first = u.1 ∙ ap (λ (x : ℕ). Some x) same };
        view_is = t.2;
        part_is = sym u.2 ∙ ap (own_part m) same;
      }

  module _ (sound : IsSound m) where
    pub part_good : (q : ℕ) → IsAwake (core_of m) q (own_view m q) (own_part m q)
        → PartIsGood (site_of m) (core_of m).heap (own_view m q).seen (own_part m q)
    part_good q h = (sound.good tt).parts q 0 (own_view m q) (own_part m q) h.carries

    pub awake_below : (q : ℕ) → IsAwake (core_of m) q (own_view m q) (own_part m q)
        → q < m.shape.callers
    awake_below q h = (part_good q h).number

    -- a caller's next version lies in the Table, where it has room
    pub next_fits : (q : ℕ) → IsAwake (core_of m) q (own_view m q) (own_part m q)
        → HasRoom (own_part m q)
        → IsVersionOf m.shape (next_version (own_part m q))
    next_fits q awake room =
        next_small any_store any_entry (core_of m).heap (own_view m q).seen (own_part m q)
        (sound.good tt).heap (part_good q awake) room

    -- a version that is known at a number is published
    pub known_published : (v : ℕ) (k : Known) → index_of m.known v ≡ Some k
        → IsPublished (index_of m.known) k
    known_published v k e = let at = sound.numbered v k e in cc

    -- and fits
    pub known_fit : (v : ℕ) (k : Known) → index_of m.known v ≡ Some k → IsFit m.shape m.done k
    known_fit v k e =
        let placed = (sound.good tt).heap.placed in
        let is = known_published v k e in
        record {
          version = placed.fits k is;
          rank = rank_small m.shape (index_of m.known) (places_of m) placed
              (sound.good tt).heap.ranked k is;
          sized = placed.sized k is;
        }

    -- few cycles are done: the word of the stage says how many
    pub done_few : m.done < 2 ^ 30
    done_few =
        let shown = (sound.good tt).collects.heap in
        let is = shown.done ∙ shown.stage.done_is in
        omega (arith, is)

    -- and its stamp and rank can be raised
    pub known_small : (v : ℕ) (k : Known) → index_of m.known v ≡ Some k → IsSmall k
    known_small v k e =
        let fit = known_fit v k e in
        let few = few_versions m.shape in
        let done = done_few in
        let most = mul-le-mul_right (m.done + 1) few in
        let stamp = fit.sized.stamp in let rank = fit.rank in
        record { stamp = omega arith; rank = omega arith }

    pub known_smalls : (v : ℕ) (o : Option Known) → o ≡ index_of m.known v → IfSome o IsSmall
    known_smalls v None e = tt
    known_smalls v (Some k) e = known_small v k (sym e)

    -- what a caller may look into is known at its number
    pub look_index : (q : ℕ) → IsAwake (core_of m) q (own_view m q) (own_part m q) → (k : Known)
        → MayLookInto (own_part m q) k → index_of m.known k.version.0 ≡ Some k
    look_index q awake k look =
        look_published (core_of m).heap (own_view m q).seen (own_part m q)
        (part_good q awake) k look

    -- a version that may be looked into by its number may be, as it is known
    pub lookable_known : (q : ℕ) → IsAwake (core_of m) q (own_view m q) (own_part m q)
        → (v : Version)
        → IsLookable (own_part m q) v → (k : Known) × (index_of m.known v.0 ≡ Some k)
        × MayLookInto (own_part m q) k
    lookable_known q awake v (k, look, is) = (
      k,
      subst (λ (x : Version). index_of m.known x.0 ≡ Some k) is
          (look_index q awake k look),
      look,
    )

    -- the next object's count is that of the objects made
    pub next_count : (q n : ℕ) → n ≡ made_count q (store_of m.history)
        → (next_name (own_part m q)).count ≡ n
    next_count q n e =
        sym (made_count-legal q m.start m.history (sound.good tt).heap.history.legal) ∙ sym e

-- a word is missing exactly where it is past the Table
pub word_past : (m : Moment) → IsSound m → (i : ℕ) (o : Option ℕ) → o ≡ slice_get m.words i
    → IsNone o ↔ (word_count m.shape ≤ i)
word_past m sound i o is = (
  λ none. dite (dec_le (word_count m.shape) i) (λ past. past)
      (λ low. let wide = (sound.good tt).heap.wide in
      let there = slice_get-get_or m.words i 0 (omega arith) in absurd (cc)),
  λ past. rw (is ∙ slice_get_past m.words i (omega (arith, (sound.good tt).heap.wide))) refl,
)

-- What the code that takes a move needs: an entry that stands, stamps that fit, and room.
use Rattle.std.proofs.Common.{◌≡◌, ◌<◌, ◌≤◌, ◌+◌, ◌*◌, ◌^◌, ℕ, zero, suc, [], ◌∷◌, ◌++◌, length, Option, Some, None, IfSome, refl, sym, ap, ◌∙◌, subst, arith}
use Rattle.std.specs.Prelude.{slice_index}
use Rattle.std.proofs.Math.Nat.{mul-le-mul_right, mul-le-mul_left}
use Rattle.hm_core.proofs.Words.{AnyUsage, dite, ℕ_discrete, from_some, Name, Contents, Stored, Changed, Entry, Fetch, Store, StoreIf, contents_of, IsThere, Stands, store_of, AllStand, all_stand_parts, Known, Part, LoadReference, Act, Looks, Builds, Move, Index, link_of, entry_of, finds, listed, next_version, publishes, word_of, HasHand, HasRoom, MayHold, MayLookInto, Reads, Turns, MayTake, IsLawfulMove, some_more, HasNextStamp, IsAwake, Moment, any_store, any_entry, core_of, hand_at, index_of, own_part, own_view, row_at, IsSound, caller_of, LoadLink, lookup, where_zero, name_of, CanPublish, CanFollow, IsOwnWord}
use Rattle.hm_moves.specs.declared.moving.Build.TheVariants.{StoreOwn, Publish, LinkStore}
use Rattle.hm_moves.specs.declared.moving.Act.TheVariants.{Ticks, Shifts}
use Rattle.hm_moves.specs.declared.moving.Tick.TheVariants.{LoadStage, MoveStage, LoadReply, StoreReply}
use Rattle.hm_shape.specs.Words.{stage_at}
use Rattle.hm_core.proofs.FoundWords.{found_word}
use Rattle.hm_moves.specs.Allowed.{HoldsClean, IsLaterThan}
use Rattle.hm_moves.specs.Places.{total}
use Rattle.hm_core.specs.Hands.{FindsWord, IsLookWord}
use Rattle.hm_core.specs.Stepping.{IsPackable}
use Rattle.hm_core.proofs.Listed.{listed_few}
use Rattle.hm_moves.proofs.Heaps.{present_at}
use Rattle.hm_core.proofs.Moments.{part_good, awake_below, known_small, look_index, done_few}
use Rattle.hm_core.proofs.AfterMove.{fresh_next, entry_own, good_applied, own_room}

certain : {A : Type 0} (P : Type 0) (o : Option A) → P → IfSome o (λ a. P)
certain P None h = tt
certain P (Some a) h = h

module _ {U : Type 0} (known : Name → Type 0) (p : Part U) (k : Known) where
  reads_name : (e : Entry) → Reads known p k e → name_of e ≡ k.name
  reads_name (Fetch q n answer) h = h.0.object
  reads_name (StoreIf q n stamp refs numbers (Changed now)) h = h.0.object
  reads_name e h = absurd h

  turns_name : (x : Contents) (e : Entry) → Turns known p k x e → name_of e ≡ k.name
  turns_name x (Store q n field) h = h.0.object
  turns_name x (StoreIf q n stamp refs numbers Stored) h = h.0.object
  turns_name x e h = absurd h

module _ {U : Type 0} (ix : Index) (p : Part U) where
  -- what may be found or published may be held
  room_left : (a : Act) (x : ℕ) → MayHold p a
      → IfSome (finds ix a x) (λ k. HasHand p) × IfSome (publishes a x) (λ k. HasHand p)
  room_left (Looks (LoadReference at i)) x h = (certain (HasHand p) (lookup ix x) h, tt)
  room_left (Looks (LoadLink at want)) x h = (certain (HasHand p) (lookup ix x) h, tt)
  room_left (Builds (Publish fresh)) x h = (tt, h)
  room_left (Builds (LinkStore at fresh entry)) x h =
      (certain (HasHand p) (lookup ix x) h, certain (HasHand p) (where_zero (Some fresh) x) h)
  room_left a x h = (tt, tt)

  -- an act that finds a version publishes none
  one_at_most : (a : Act) (x : ℕ) → IfSome (finds ix a x) (λ k. publishes a x ≡ None)
  one_at_most (Looks l) x = certain (None ≡ None) (finds ix (Looks l) x) refl
  one_at_most (Builds (LinkStore at fresh entry)) (suc v) = certain (None ≡ None) (ix v) refl
  one_at_most a x = tt

-- a count is at most the sum of counts
total_least : (count : ℕ → ℕ) (n q : ℕ) → q < n → count q ≤ total count n
total_least count zero q low = absurd (omega arith)
total_least count (suc n) q low = dite (ℕ_discrete q n)
    (λ (e : q ≡ n). let same = ap count e in omega arith)
    (λ ne. let less = total_least count n q (omega arith) in omega arith)

module _ (m : Moment) (sound : IsSound m) (q : ℕ)
    (awake : IsAwake (core_of m) q (own_view m q) (own_part m q)) where
  abbrev own : Part AnyUsage
  own = own_part m q

  -- what the caller lists fits into its hand
  own_listed : length own.hands.left + length own.hands.own ≤ (hand_at m q).room
  own_listed =
      let few = listed_few m.shape q _ _ _ (part_good m sound q awake).hands in
      let room = (sound.hands q (awake_below m sound q awake)).room in omega arith

  -- it has moved the stage at most as often as the stage's number says
  moves_few : slice_index m.words 0 < 2 ^ 64 → own.cycle.clock.moves + 1 < 2 ^ 64
  moves_few small =
      let c = (sound.good tt).collects in
      let shown = c.parts q 0 (own_view m q) own awake.carries in
      let is = shown.clock.moved in
      let all = c.heap.moved in
      let least = total_least c.moves m.shape.callers q (awake_below m sound q awake) in
      omega (arith, is, all, least, small)

  -- and its cursor is at most at the end of its own versions
  cursor_few : own.cycle.scan.cursor + 1 < 2 ^ 64
  cursor_few =
      let shown = (sound.good tt).collects.parts q 0 (own_view m q) own awake.carries in
      let short = shown.scan.short in
      let few = listed_few m.shape q _ _ _ (part_good m sound q awake).hands in
      let most = m.shape.versions_fit in
      let rows = m.shape.regions_fit in
      let size : m.shape.regions * m.shape.versions ≡ 4 * m.shape.versions =
      ap (λ (n : ℕ). n * m.shape.versions) rows in
      omega (arith, short, few, most, size)

module _ (m : Moment) (sound : IsSound m) (q : ℕ)
    (awake : IsAwake (core_of m) q (own_view m q) (own_part m q)) (mv : Move)
    (may : IsLawfulMove any_store any_entry (core_of m).heap (own_part m q) mv) where
  abbrev x : ℕ
  x = slice_index m.words (word_of (own_part m q) mv.act)

  -- the entry that is made stands
  pub entry_stands : IfSome (entry_of q mv.act x) (Stands (store_of m.history))
  entry_stands =
      go (entry_of q mv.act x) (good_applied m q mv sound awake may).heap.history.legal.stand
    where
      go : (o : Option Entry) → AllStand [] (m.history ++ listed o)
          → IfSome o (Stands (store_of m.history))
      go None h = tt
      go (Some e) h = (all_stand_parts [] m.history (e ∷ []) h).1.0

  -- where a version's link is 0, its object's stamp can be raised
  present_stamp : (e : Entry) (at : Known) → name_of e ≡ at.name → MayLookInto (own_part m q) at
      → 0 ≡ link_of m.shape m.words at → HasNextStamp (store_of m.history) e (2 ^ 64)
  present_stamp e at name look zero_link =
      let small = known_small m sound at.version.0 at (look_index m sound q awake at look) in
      let stamp = small.stamp in
      subst (λ (o : Option Contents). IfSome o (λ c. c.stamp + 1 < 2 ^ 64))
      (sym (ap (contents_of (store_of m.history)) name
      ∙ present_at any_store any_entry (core_of m).heap (own_view m q).seen (own_part m q)
      (sound.good tt).heap (part_good m sound q awake) at look zero_link)) (omega arith)

  abbrev May : Act → Type 0
  May = MayTake (IsThere (store_of m.history))
      (λ e. Stands (store_of m.history) e → any_entry record {} (store_of m.history) e)
      (HoldsClean m.words (own_part m q)) (IsLaterThan m.shape (core_of m).heap) (own_part m q)

  stamp_fits : (a : Act) → May a
      → (y : ℕ) → y ≡ slice_index m.words (word_of (own_part m q) a)
      → IfSome (entry_of q a y) (Stands (store_of m.history))
      → IfSome (entry_of q a y) (λ e. HasNextStamp (store_of m.history) e (2 ^ 64))
  stamp_fits (Looks (LoadLink at (Some e))) h zero is stands =
      present_stamp e at (reads_name _ (own_part m q) at e h.reads) h.look is
  stamp_fits (Builds (Publish k)) h y is stands =
      subst (λ (o : Option Contents). IfSome o (λ c. c.stamp + 1 < 2 ^ 64)) (sym stands.fresh) tt
  stamp_fits (Builds (LinkStore at k (Some e))) h zero is stands =
      present_stamp e at (turns_name _ (own_part m q) at k.contents e h.turns) h.look is
  stamp_fits (Looks (LoadLink at (Some e))) h (suc n) is stands = tt
  stamp_fits (Builds (LinkStore at k (Some e))) h (suc n) is stands = tt
  stamp_fits a h y is stands = tt

  -- and its object's stamp can be raised
  pub entry_stamp : IfSome (entry_of q mv.act x) (λ e. HasNextStamp (store_of m.history) e (2 ^ 64))
  entry_stamp = stamp_fits mv.act may.act x refl entry_stands

  -- it is by one of the callers
  pub entry_below : IfSome (entry_of q mv.act x) (λ e. caller_of e < m.shape.callers)
  entry_below = some_more (λ (e : Entry). caller_of e ≡ q) _
      (λ e by. omega (arith, awake_below m sound q awake)) _ (entry_own m q mv sound awake may)

  own_word : (a : Act) → May a → IsOwnWord a
  own_word (Builds (StoreOwn i word)) h = h.below
  own_word a h = tt

  look_word : (a : Act) → May a → IsLookWord a
  look_word (Looks l) h = h.word
  look_word (Builds b) h = tt
  look_word (Ticks t) h = tt
  look_word (Shifts f) h = tt

  -- what is found is a word of the act's
  pub word_is : slice_index m.words stage_at < 2 ^ 64 → FindsWord mv.act x
  word_is small =
      let c = (sound.good tt).collects in
      found_word (core_of m).heap c.moves c.state (own_part m q) c.rule c.heap small _ _ _ _
      mv.act may.act

  pub packs : (a : Act) (y : ℕ) → FindsWord a y → IsPackable a
  packs (Looks l) y h = tt
  packs (Builds b) y h = tt
  packs (Ticks LoadStage) y h = tt
  packs (Ticks (MoveStage from to)) y h = h
  packs (Ticks (LoadReply of)) y h = tt
  packs (Ticks (StoreReply reply)) y h = tt
  packs (Shifts f) y h = tt

  -- what is published has a place among what its caller lists
  publish_room : (o : Option Known) → publishes mv.act x ≡ o → IfSome o (CanPublish (hand_at m q))
  publish_room None is = tt
  publish_room (Some k) is =
      let mine = sound.hands q (awake_below m sound q awake) in
      let size = mine.room in
      let room = (from_some
      (λ (n : Known). (n.version ≡ next_version (own_part m q)) × HasRoom (own_part m q))
      (publishes mv.act x) k is (fresh_next m q mv sound awake may)).1 in
      let most = m.shape.versions_fit in
      let more = own_room m q mv sound awake may k is in (omega arith, omega arith)

  -- the caller's hand can follow the move
  pub can_follow : slice_index m.words 0 < 2 ^ 64
      → CanFollow (hand_at m q) mv x (finds (index_of m.known) mv.act x)
  can_follow small =
      let room = room_left (index_of m.known) (own_part m q) mv.act x may.holds in
      let mine = sound.hands q (awake_below m sound q awake) in
      record {
        ready = record {
          word = word_is small;
          listed = own_listed m sound q awake;
          moves = moves_few m sound q awake small;
        };
        work = record {
          found = room.0;
          fresh = room.1;
          room = publish_room (publishes mv.act x) refl;
          one = one_at_most (index_of m.known) (own_part m q) mv.act x;
          word = own_word mv.act may.act;
        };
        look = look_word mv.act may.act;
        cursor = cursor_few m sound q awake;
      }

-- what is counted of a row is small
pub row_small : (m : Moment) (sound : IsSound m) (row : ℕ)
    → ((row_at m.rows row).used + 1 < 2 ^ 32) × ((row_at m.rows row).made + 1 < 2 ^ 64)
    × ((row_at m.rows row).freed + 1 < 2 ^ 32)
row_small m sound row =
    let r = row_at m.rows row in
    let filled : r.used ≤ m.shape.versions = (sound.good tt).heap.placed.filled row in
    let made : r.made ≤ m.shape.versions * r.freed + r.used =
    (sound.good tt).heap.ranked.made row in
    let freed : r.freed ≤ m.done = (sound.good tt).heap.ranked.freed row in
    let none : m.shape.versions * r.freed ≤ m.shape.versions * m.done =
    mul-le-mul_left m.shape.versions ((sound.good tt).heap.ranked.freed row) in
    let few = m.shape.versions_fit in
    let small : m.shape.versions ≤ 65536 = omega arith in
    let most : m.shape.versions * m.done ≤ 65536 * m.done = mul-le-mul_right m.done small in
    let done = done_few m sound in (omega arith, omega arith, omega arith)

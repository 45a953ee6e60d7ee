-- What a move of a good machine tells the caller that makes it.
use Rattle.std.proofs.Common.{◌≡◌, ◌⊎◌, ◌<◌, ◌^◌, ℕ, Bool, true, false, List, [], ◌∷◌, ◌++◌, slice_index, Option, Some, None, IfSome, Contains, if◌then◌else◌, eqb-true, refl, sym, ap, subst, ◌+◌, inl, inr, ⊎_elim}
use Rattle.hm_cells.proofs.Words.{each_some, from_some, list_any, Any-from_list_any, Contains-push, Name, Entry, PlainStore, IsThere, Stands, store_of, UsageLaws, Known, Site, Part, View, Move, Index, IsPublished, word_of, publishes, finds, next_version, index_with, is_version, without}
use Rattle.hm_cells.proofs.Words.{Shape, Act, Looks, Builds, Ticks, Shifts, with_held, part_after, view_after, Enabled, HasRoom, IsLawfulMove, Begins, PartIsGood, Core, Good, Carries, applied, Found, others_only, published_once, held_stays, set_here, good_step, enabled_lawful, Knowledge, Learnt}
use Rattle.hm_moves.specs.After.{index_readied}
use Rattle.hm_moves.specs.Allowed.{HoldsClean, IsLaterThan}
use Rattle.hm_moves.specs.Places.{Places}
use Rattle.hm_moves.proofs.Finding.{entry_by, found_now, fresh_now, next_now, index_more, index_here}
use Rattle.hm_moves.proofs.Heaps.{IsWork}
use Rattle.hm_moves.proofs.Telling.{told_own}
use Rattle.hm_moves.specs.declared.moving.Shift.{Shift}
use Rattle.hm_moves.specs.declared.moving.Shift.TheVariants.{LoadRoles, Join, Turn, Reuse}
use Rattle.hm_moves.specs.declared.moving.Tick.{Tick}
use Rattle.hm_moves.specs.declared.moving.Tick.TheVariants.{LoadStage, MoveStage, LoadReply, StoreReply}
use Rattle.hm_moves.specs.Told.{ShiftFound, TickFound, Told}
use Rattle.hm_cells.proofs.Scanned.{scanned_still}
use Rattle.hm_shape.specs.Words.{stage_at}
use Rattle.hm_cells.proofs.Short.{short_found}
use Rattle.hm_cells.proofs.Sure.{sure_of}
use Rattle.hm_cells.proofs.Stages.{stage_counts, stage_later}

-- a tick finds no version, nor does a step on roles
tick_here : (t : Tick) (x : ℕ) (o : Option Known) → TickFound t x o → TickFound t x None
tick_here LoadStage x o h = refl
tick_here (MoveStage from to) x o h = refl
tick_here (LoadReply of) x o h = (refl, h.1)
tick_here (StoreReply reply) x o h = refl

shift_here : (f : Shift) (x : ℕ) (o : Option Known) → ShiftFound f x o → ShiftFound f x None
shift_here (LoadRoles of) x o h = (refl, h.1)
shift_here (Join region roles) x o h = refl
shift_here (Turn region roles) x o h = refl
shift_here (Reuse roles) x o h = refl

-- by a look or a build no version leaves the index
index_still : (s : Shape) (places : Places) (index : Index) (act : Act) → IsWork act → (x : ℕ)
    → index_readied s places index act x ≡ index
index_still s places index (Looks l) work x = refl
index_still s places index (Builds b) work x = refl
index_still s places index (Ticks t) work x = absurd work
index_still s places index (Shifts f) work x = absurd work

-- any other act finds and publishes nothing
works_or_none : (index : Index) (act : Act) (x : ℕ)
    → IsWork act ⊎ ((finds index act x ≡ None) × (publishes act x ≡ None))
works_or_none index (Looks l) x = inl tt
works_or_none index (Builds b) x = inl tt
works_or_none index (Ticks t) x = inr (refl, refl)
works_or_none index (Shifts f) x = inr (refl, refl)

-- a list with a version has one of its number
has_number : (l : List Known) (k : Known)
    → (m : Known) × Contains (with_held l (Some k)) m × (m.version.0 ≡ k.version.0)
has_number l k = go (list_any (is_version k) l) refl
  where
    go : (t : Bool) → list_any (is_version k) l ≡ t
        → (m : Known) × Contains (if t then l else l ++ k ∷ []) m × (m.version.0 ≡ k.version.0)
    go true is =
        let a = Any-from_list_any (is_version k) l is in
        (a.1, (a.0, a.2, a.3), eqb-true a.1.version.0 k.version.0 a.4)
    go false is = (k, Contains-push l k, refl)

-- where all of a list are published, it has each version that was added
module _ (index : Index) (l : List Known) (n : Option Known)
    (all : (k : Known) → Contains (with_held l n) k → IsPublished index k) where
  added : (k : Known) → n ≡ Some k → IsPublished index k → Contains (with_held l n) k
  added k is there =
      let a = has_number l k in
      let here : Contains (with_held l n) a.0 = subst (λ (o : Option Known). Contains (with_held l o) a.0)
      (sym is) a.1 in
      subst (Contains (with_held l n)) (published_once index k a.0 there (all a.0 here) a.2) here

  added_before : (old : List Known) (o : Option Known) → l ≡ with_held old o → IfSome o (IsPublished index)
      → IfSome o (Contains (with_held l n))
  added_before old None is there = tt
  added_before old (Some k) is there =
      let a = has_number old k in
      let here : Contains (with_held l n) a.0 =
      held_stays l n a.0 (subst (λ (x : List Known). Contains x a.0) (sym is) a.1) in
      subst (Contains (with_held l n)) (published_once index k a.0 there (all a.0 here) a.2) here

map_some : {A : Type 0} (P Q : A → Type 0) (o : Option A) → ((a : A) → o ≡ Some a → P a → Q a) → IfSome o P
    → IfSome o Q
map_some P Q o f h = each_some Q o (λ a e. f a e (from_some P o a e h))

module _ {U : Type 0} (lawful : U → PlainStore → Type 0) (allowed : U → PlainStore → Entry → Type 0)
    (laws : (u : U) → UsageLaws (lawful u) (allowed u)) where
  module _ (c : Core U) (id place : ℕ) (k : Knowledge U) (p : Part U) (m : Move)
      (good : Good lawful allowed p.site c)
      (at : Carries c.views id place k.view p)
      (may : IsLawfulMove lawful allowed c.heap p m)
      (low : slice_index c.heap.words stage_at < 2 ^ 64) where
    abbrev v : View U
    v = k.view

    mine : PartIsGood p.site c.heap v.seen p
    mine = good.parts id place v p at

    begins : Begins v.seen c.heap.history
    begins = good.seen id v at.seat

    abbrev x : ℕ
    x = slice_index c.heap.words (word_of p m.act)

    abbrev found : Option Known
    found = finds c.heap.index m.act x

    abbrev new : Part U
    new = part_after p m x found

    abbrev w : View U
    w = view_after v place c.heap.history p m x found

    abbrev names : Name → Type 0
    names = IsThere (store_of c.heap.history)

    abbrev make : Entry → Type 0
    make e = Stands (store_of c.heap.history) e → allowed p.site.usage (store_of c.heap.history) e

    abbrev clean : Type 0
    clean = HoldsClean c.heap.words p

    abbrev later : Known → ℕ → Known → Type 0
    later = IsLaterThan p.site.shape c.heap

    after : Good lawful allowed p.site (applied c id place v p m)
    after = good_step lawful allowed laws p.site c id place v p m good at may

    at_after : Carries (applied c id place v p m).views id place w new
    at_after = record {
      seat = set_here c.views id v w at.seat;
      place = set_here v.parts place p new at.place;
    }

    abbrev index : Index
    index = index_with c.heap.index (publishes m.act x)

    held : IsWork m.act → (n : Known) → Contains new.hands.held n → IsPublished index n
    held work n there = subst (λ (i : Index). IsPublished (index_with i (publishes m.act x)) n)
        (index_still p.site.shape c.heap.places c.heap.index m.act work x)
        ((after.parts id place w new at_after).hands.held n there)

    was_found : Found m.act x found × IfSome found (IsPublished c.heap.index)
    was_found = was m.act told.what (λ work. found_now lawful allowed c.heap v.seen p good.heap
        mine names make clean later m.act work may.act x refl)
      where
        told : Told lawful allowed p.site m v place p x w
        told = told_own lawful allowed laws c id place v p good at m may after

        was : (act : Act) → Found act x told.found
            → (IsWork act → Found act x (finds c.heap.index act x)
            × IfSome (finds c.heap.index act x) (IsPublished c.heap.index))
            → Found act x (finds c.heap.index act x)
            × IfSome (finds c.heap.index act x) (IsPublished c.heap.index)
        was (Looks l) h f = f tt
        was (Builds b) h f = f tt
        was (Ticks t) h f = (tick_here t x told.found h, tt)
        was (Shifts s) h f = (shift_here s x told.found h, tt)

    worked : IsWork m.act ⊎ ((found ≡ None) × (publishes m.act x ≡ None))
    worked = works_or_none c.heap.index m.act x

    there : IfSome found (IsPublished index)
    there = map_some (IsPublished c.heap.index) (IsPublished index) found
        (λ n is here. index_more c.heap.index (publishes m.act x) n
        (fresh_now lawful allowed c.heap v.seen p good.heap mine names make clean later m.act may.act x) here)
        was_found.1

    abbrev left : List Known
    left = with_held (without p.hands.held m.let_go) found

    -- what the seat knows afterwards, where `all` is the whole history before
    abbrev learnt_now : List Entry → Knowledge U
    learnt_now all = record k {
      view = view_after v place all p m x found;
      steps = k.steps + 1;
      before = [];
    }

    own_learnt : Learnt lawful allowed m k place p x (learnt_now c.heap.history)
    own_learnt = record {
      between = begins.rest;
      found = found;
      others = others_only p.number v.seen c.heap.history p.calls.mine begins.rest begins.is mine.calls.all
          mine.calls.seen;
      what = was_found.0;
      short = short_found lawful allowed p.site c good low p names make clean later refl m.act may.act
          found was_found.0;
      by = entry_by lawful allowed c.heap v.seen p good.heap mine names make clean later m.act may.act x;
      is = ap learnt_now begins.is;
      sure = sure_of lawful allowed p.site (applied c id place v p m) id place w new after at_after;
      later = stage_later lawful allowed c id place v p m found good at names make clean later m.act may.act;
      counted = stage_counts lawful allowed c id place v p m found good at names make clean later m.act may.act;
      holds = ⊎_elim
          (λ (work : IsWork m.act).
          added_before index left (publishes m.act x) (held work) (without p.hands.held m.let_go) found refl
          there)
          (λ (none : (found ≡ None) × (publishes m.act x ≡ None)).
          subst (λ (o : Option Known). IfSome o (Contains new.hands.held)) (sym none.0) tt) worked;
      next = ⊎_elim
          (λ (work : IsWork m.act).
          map_some (λ n. (n.version ≡ next_version p) × HasRoom p)
          (λ n. (n.version ≡ next_version p) × Contains new.hands.held n) (publishes m.act x)
          (λ n is both. (
            both.0,
            added index left (publishes m.act x) (held work) n is (index_here c.heap.index
                (publishes m.act x) n is),
          ))
          (next_now lawful allowed c.heap v.seen p good.heap mine names make clean later m.act may.act x))
          (λ (none : (found ≡ None) × (publishes m.act x ≡ None)).
          subst (λ (o : Option Known). IfSome o (λ n. (n.version ≡ next_version p)
          × Contains new.hands.held n)) (sym none.1) tt) worked;
      scanned = scanned_still lawful allowed c id place v p m good at may after;
    }

  -- every enabled move of a good machine tells this
  pub learnt_of : (g : Site U) (c : Core U) (id place : ℕ) (k : Knowledge U) (p : Part U) (m : Move)
      → (good : Good lawful allowed g c) → (at : Carries c.views id place k.view p)
      → Enabled lawful allowed k.view.seen p m → slice_index c.heap.words stage_at < 2 ^ 64
      → Learnt lawful allowed m k place p (slice_index c.heap.words (word_of p m.act))
      (record k {
        view = view_after k.view place c.heap.history p m (slice_index c.heap.words (word_of p m.act))
            (finds c.heap.index m.act (slice_index c.heap.words (word_of p m.act)));
        steps = k.steps + 1;
        before = [];
      })
  learnt_of g c id place k p m good at may low =
      own_learnt c id place k p m
      (subst (λ (z : Site U). Good lawful allowed z c) (sym (good.parts id place k.view p at).site) good) at
      (enabled_lawful lawful allowed g c id place k.view p m good at may) low

-- A caller's own versions after a move: those of its Old region, if it has one, and of its To region.
use Rattle.std.proofs.Common.{◌≡◌, ◌≢◌, ◌<◌, ◌≤◌, ◌+◌, ◌-◌, ℕ, zero, suc, Bool, true, false, nat_lt, List, [], ◌∷◌, ◌++◌, length, filter, take, slice_index_or, slice_get, slice_set, map, Option, Some, None, IfSome, if◌then◌else◌, refl, sym, ap, ◌∙◌, subst, arith, inl, inr, ⊎_elim, append-nil, length-append, length-set, true≢false, ◌⊎◌}
use Rattle.std.proofs.Math.Logic.{dite}
use Rattle.std.proofs.Math.Decide.{ℕ_discrete}
use Rattle.std.proofs.lemmas.List.{get_or-map, get_or-set_other, get_or-set_same, get_or-take, length-map, length-take-le}
use Rattle.std.proofs.lemmas.Bool.Decides.{nat_tests}
use Rattle.hm_shape.specs.declared.roles.Role.{Role}
use Rattle.hm_shape.specs.declared.roles.Role.TheVariants.{Free, To, Old, From}
use Rattle.hm_shape.specs.declared.roles.Roles.{Roles}
use Rattle.hm_shape.specs.declared.version.Version.{Version}
use Rattle.hm_shape.specs.Words.{IsRoles}
use Rattle.hm_moves.specs.declared.moving.Shift.{Shift}
use Rattle.hm_moves.specs.declared.moving.Shift.TheVariants.{LoadRoles, Join, Turn, Reuse}
use Rattle.hm_moves.specs.declared.moving.Tick.{Tick}
use Rattle.hm_moves.specs.Acts.{listed, publishes}
use Rattle.hm_moves.specs.After.{count_of}
use Rattle.hm_moves.specs.Allowed.{MayShift, free_count, kept_free}
use Rattle.hm_moves.specs.Cycles.{is_free, is_kept, role_at}
use Rattle.hm_moves.specs.Shifts.{frees, joined_role, reused_role, turned_role}
use Rattle.hm_cells.proofs.Words.{Known, Part, Act, Looks, Builds, Ticks, Shifts, IsListed, own_place, old_count, next_version, part_after, version_at}
use Rattle.hm_moves.proofs.Heaps.{IsWork}
use Rattle.std.proofs.lemmas.Option.{slice_get_within}

-- an element of a list that is longer by one
more_places : {A : Type 0} (l : List A) (a b : A) (i : ℕ) → slice_get (l ++ a ∷ []) i ≡ Some b
    → (slice_get l i ≡ Some b) ⊎ ((i ≡ length l) × (a ≡ b))
more_places [] a b zero e = inr (refl, cc)
more_places [] a b (suc i) e = absurd (cc)
more_places (x ∷ xs) a b zero e = inl e
more_places (x ∷ xs) a b (suc i) e = ⊎_elim
    (λ (t : slice_get xs i ≡ Some b). inl t)
    (λ (t : (i ≡ length xs) × (a ≡ b)). inr (ap suc t.0, t.1))
    (more_places xs a b i e)

-- published versions are counted, and lie one behind another
count_more : (l : List Known) (before used : ℕ) (o : Option Known) → length l ≡ before + used
    → length (l ++ listed o) ≡ before + (used + count_of o)
count_more l before used None e = ap length (append-nil l) ∙ (e ∙ omega arith)
count_more l before used (Some k) e =
    length-append l (k ∷ []) ∙ (let h = e in omega arith)

places_more : (f : ℕ → Version) (l : List Known) (n : ℕ) (o : Option Known) → length l ≡ n
    → IfSome o (λ k. k.version ≡ f n)
    → ((i : ℕ) (k : Known) → slice_get l i ≡ Some k → k.version ≡ f i)
    → (i : ℕ) (k : Known) → slice_get (l ++ listed o) i ≡ Some k → k.version ≡ f i
places_more f l n None count new old i k e =
    old i k (ap (λ (m : List Known). slice_get m i) (sym (append-nil l)) ∙ e)
places_more f l n (Some m) count new old i k e = ⊎_elim
    (λ (t : slice_get l i ≡ Some k). old i k t)
    (λ (t : (i ≡ length l) × (m ≡ k)).
    ap (λ (z : Known). z.version) (sym t.1) ∙ (new ∙ ap f (sym (t.0 ∙ count))))
    (more_places l m k i e)

-- a region that takes another role, where another becomes To
taken_role : (roles : List Role) (change : Role → Role) (region g : ℕ) → g ≢ region
    → g < length roles
    → slice_index_or (slice_set (map change roles) region To) g Free
    ≡ change (slice_index_or roles g Free)
taken_role roles change region g other low =
    get_or-set_other (map change roles) region g To Free other
    ∙ get_or-map change roles g Free Free low

-- the one that becomes To
taken_here : (roles : List Role) (change : Role → Role) (region : ℕ) → region < length roles
    → slice_index_or (slice_set (map change roles) region To) region Free ≡ To
taken_here roles change region low =
    get_or-set_same (map change roles) region To Free
    (subst (λ (n : ℕ). region < n) (sym (length-map roles change)) low)

-- by a turn no region becomes From, and after a reuse none is
to_not_from : To ≢ From
to_not_from e = cc

turned_back : (r : Role) → turned_role r ≡ From → r ≡ From
turned_back Free e = absurd (cc)
turned_back To e = absurd (cc)
turned_back Old e = absurd (cc)
turned_back From e = refl

reused_not : (r : Role) → reused_role r ≢ From
reused_not Free e = cc
reused_not To e = cc
reused_not Old e = cc
reused_not From e = cc

-- no region is kept by a join, and a turn and a reuse keep none but those that were
joined_none : (frees : Bool) (r : Role) → is_kept (joined_role frees r) ≡ true → ⊥
joined_none frees Free e = true≢false (sym e)
joined_none frees To e = true≢false (sym e)
joined_none frees Old e = true≢false (sym e)
joined_none true From e = true≢false (sym e)
joined_none false From e = true≢false (sym e)

turned_kept : (r : Role) → is_kept (turned_role r) ≡ true → is_kept r ≡ true
turned_kept Free e = e
turned_kept To e = refl
turned_kept Old e = refl
turned_kept From e = e

reused_kept : (r : Role) → is_kept (reused_role r) ≡ true → is_kept r ≡ true
reused_kept Free e = e
reused_kept To e = refl
reused_kept Old e = refl
reused_kept From e = absurd (true≢false (sym e))

-- nothing is got from an empty list
nothing_got : (i : ℕ) (k : Known) → slice_get [] i ≡ Some k → ⊥
nothing_got i k e = cc

-- one number is below another
below_is : (i n : ℕ) → i < n → nat_lt i n ≡ true
below_is i n low = grind (arith, nat_tests)

-- so many roles are Free
abbrev free_in : List Role → ℕ
free_in roles = length (filter is_free roles)

-- one more is Free, where one that was not is
free_set : (roles : List Role) (i : ℕ) → i < length roles
    → is_free (slice_index_or roles i Free) ≡ false
    → free_in (slice_set roles i Free) ≡ free_in roles + 1
free_set [] i low none = absurd (omega (arith, low))
free_set (Free ∷ rs) zero low none = absurd (true≢false none)
free_set (To ∷ rs) zero low none = omega arith
free_set (Old ∷ rs) zero low none = omega arith
free_set (From ∷ rs) zero low none = omega arith
free_set (Free ∷ rs) (suc i) low none =
    let h = free_set rs i (omega (arith, low)) none in omega (arith, h)
free_set (To ∷ rs) (suc i) low none = free_set rs i (omega (arith, low)) none
free_set (Old ∷ rs) (suc i) low none = free_set rs i (omega (arith, low)) none
free_set (From ∷ rs) (suc i) low none = free_set rs i (omega (arith, low)) none

free_all : (roles : List Role) → free_in roles ≤ length roles
free_all [] = omega arith
free_all (Free ∷ rs) = let h = free_all rs in omega (arith, h)
free_all (To ∷ rs) = let h = free_all rs in omega (arith, h)
free_all (Old ∷ rs) = let h = free_all rs in omega (arith, h)
free_all (From ∷ rs) = let h = free_all rs in omega (arith, h)

-- two that are not Free leave so many
free_but_two : (roles : List Role) (i j : ℕ) → i < length roles → j < length roles → j ≢ i
    → is_free (slice_index_or roles i Free) ≡ false
    → is_free (slice_index_or roles j Free) ≡ false → free_in roles + 2 ≤ length roles
free_but_two roles i j il jl ij x y =
    let one : List Role = slice_set roles i Free in
    let l1 : length one ≡ length roles = length-set roles i Free in
    let a = free_set roles i il x in
    let b = free_set one j (omega (arith, l1, jl))
    (ap is_free (get_or-set_other roles i j Free Free ij) ∙ y) in
    let c = free_all (slice_set one j Free) in
    let l2 : length (slice_set one j Free) ≡ length one = length-set one j Free in
    omega (arith, a, b, c, l1, l2)

-- and three so many
free_but_three : (roles : List Role) (i j k : ℕ) → i < length roles → j < length roles
    → k < length roles → j ≢ i → k ≢ i → k ≢ j
    → is_free (slice_index_or roles i Free) ≡ false
    → is_free (slice_index_or roles j Free) ≡ false
    → is_free (slice_index_or roles k Free) ≡ false → free_in roles + 3 ≤ length roles
free_but_three roles i j k il jl kl ij ik jk x y z =
    let one : List Role = slice_set roles i Free in
    let l1 : length one ≡ length roles = length-set roles i Free in
    let a = free_set roles i il x in
    let b = free_but_two one j k (omega (arith, l1, jl)) (omega (arith, l1, kl)) jk
    (ap is_free (get_or-set_other roles i j Free Free ij) ∙ y)
    (ap is_free (get_or-set_other roles i k Free Free ik) ∙ z) in
    omega (arith, a, b, l1)

-- two regions of two roles are two
apart_roles : (roles : List Role) (i j : ℕ) (a b : Role) → slice_index_or roles i Free ≡ a
    → slice_index_or roles j Free ≡ b → a ≢ b → j ≢ i
apart_roles roles i j a b x y ne e =
    ne (sym x ∙ (ap (λ (n : ℕ). slice_index_or roles n Free) (sym e) ∙ y))

module _ {U : Type 0} where
  -- the Old region of a caller after a step on roles
  abbrev pub old_after : Part U → Shift → Option ℕ → Option ℕ
  old_after p (LoadRoles of) old = old
  old_after p (Join region roles) old = None
  old_after p (Turn region roles) old = Some p.draft.region
  old_after p (Reuse roles) old = old

  -- a caller with an Old region has no place for another turn
  no_turn : (p : Part U) (old : ℕ) → IsRoles p.cycle.ties.roles
      → p.draft.region < p.site.shape.regions → IsListed p (Some old)
      → kept_free p < free_count p → ⊥
  no_turn p old wide below was more = go p.cycle.ties.joined refl
    where
      roles : List Role
      roles = take p.site.shape.regions p.cycle.ties.roles.0

      four : length roles ≡ 4
      four = length-take-le p.site.shape.regions p.cycle.ties.roles.0
          (omega (arith, wide, p.site.shape.regions_fit)) ∙ p.site.shape.regions_fit

      read : (g : ℕ) (role : Role) → g < p.site.shape.regions
          → role_at p.cycle.ties.roles g ≡ role → slice_index_or roles g Free ≡ role
      read g role low e =
          get_or-take p.site.shape.regions p.cycle.ties.roles.0 g Free low ∙ e

      low_in : (g : ℕ) → g < p.site.shape.regions → g < length roles
      low_in g low = omega (arith, four, low, p.site.shape.regions_fit)

      to_is : slice_index_or roles p.draft.region Free ≡ To
      to_is = read p.draft.region To below was.to

      old_role : slice_index_or roles old Free ≡ Old
      old_role = read old Old was.old_is.0 was.old_is.1

      other : old ≢ p.draft.region
      other = apart_roles roles p.draft.region old To Old to_is old_role (λ e. cc)

      go : (t : Bool) → p.cycle.ties.joined ≡ t → ⊥
      go true e =
          let from = was.from e in
          let from_is = read from.region From from.below from.from in
          let few = free_but_three roles p.draft.region old from.region
          (low_in p.draft.region below) (low_in old was.old_is.0) (low_in from.region from.below)
          other (apart_roles roles p.draft.region from.region To From to_is from_is (λ d. cc))
          (apart_roles roles old from.region Old From old_role from_is (λ d. cc))
          (ap is_free to_is) (ap is_free old_role) (ap is_free from_is) in
          let kept : kept_free p ≡ 1 = ap (λ (b : Bool). if b then 1 else 2) e in
          absurd (omega (arith, few, four, kept, more))
      go false e =
          let few = free_but_two roles p.draft.region old
          (low_in p.draft.region below) (low_in old was.old_is.0) other
          (ap is_free to_is) (ap is_free old_role) in
          let kept : kept_free p ≡ 2 = ap (λ (b : Bool). if b then 1 else 2) e in
          absurd (omega (arith, few, four, kept, more))

  -- the next version comes behind the caller's own
  next_place : (p : Part U) (old : Option ℕ) → next_version p
      ≡ own_place p old (old_count p.site.shape old + p.draft.used)
  next_place p None =
      ap (version_at p.site.shape p.number p.draft.region) (omega arith)
  next_place p (Some g) = go (nat_lt (p.site.shape.versions + p.draft.used) p.site.shape.versions)
      refl
    where
      go : (t : Bool) → nat_lt (p.site.shape.versions + p.draft.used) p.site.shape.versions ≡ t
          → next_version p ≡ (if t
          then version_at p.site.shape p.number g (p.site.shape.versions + p.draft.used)
          else version_at p.site.shape p.number p.draft.region
          (p.site.shape.versions + p.draft.used - p.site.shape.versions))
      go true e = absurd (grind (arith, nat_tests))
      go false e = ap (version_at p.site.shape p.number p.draft.region) (omega arith)

  module _ (p : Part U) (scan : Bool) (o : Option Known) (x : ℕ) (found : Option Known)
      (old : Option ℕ) where
    -- a look or a build leaves them in order, and what it publishes comes behind them
    pub listed_work : (act : Act) → IsWork act
        → IfSome (publishes act x) (λ k. k.version ≡ next_version p)
        → IsListed p old
        → IsListed (part_after p record { act = act; scan = scan; let_go = o } x found) old
    listed_work (Looks l) work next was = record {
      count = count_more p.hands.own (old_count p.site.shape old) p.draft.used None was.count;
      places = places_more (own_place p old) p.hands.own
          (old_count p.site.shape old + p.draft.used) None was.count tt was.places;
      to = was.to;
      old_is = was.old_is;
      only = was.only;
      from = λ e. let h = was.from e in record { region = h.region; below = h.below; from = h.from };
      none = λ e h. was.none e record { region = h.region; below = h.below; from = h.from };
    }
    listed_work (Builds b) work next was = record {
      count = count_more p.hands.own (old_count p.site.shape old) p.draft.used
          (publishes (Builds b) x) was.count;
      places = places_more (own_place p old) p.hands.own
          (old_count p.site.shape old + p.draft.used) (publishes (Builds b) x) was.count
          (next_there (publishes (Builds b) x) next) was.places;
      to = was.to;
      old_is = was.old_is;
      only = was.only;
      from = λ e. let h = was.from e in record { region = h.region; below = h.below; from = h.from };
      none = λ e h. was.none e record { region = h.region; below = h.below; from = h.from };
    }
      where
        next_there : (n : Option Known) → IfSome n (λ k. k.version ≡ next_version p)
            → IfSome n (λ k. k.version
            ≡ own_place p old (old_count p.site.shape old + p.draft.used))
        next_there None h = tt
        next_there (Some k) h = h ∙ next_place p old
    listed_work (Ticks t) work next was = absurd work
    listed_work (Shifts f) work next was = absurd work

    -- a tick leaves them
    pub listed_tick : (t : Tick) → IsListed p old
        → IsListed (part_after p record { act = Ticks t; scan = scan; let_go = o } x found) old
    listed_tick t was = record {
      count = count_more p.hands.own (old_count p.site.shape old) p.draft.used None was.count;
      places = places_more (own_place p old) p.hands.own
          (old_count p.site.shape old + p.draft.used) None was.count tt was.places;
      to = was.to;
      old_is = was.old_is;
      only = was.only;
      from = λ e. let h = was.from e in record { region = h.region; below = h.below; from = h.from };
      none = λ e h. was.none e record { region = h.region; below = h.below; from = h.from };
    }

    -- and a step on roles has them in another region, or leaves them
    pub listed_shift : (f : Shift) → IsRoles p.cycle.ties.roles
        → p.draft.region < p.site.shape.regions → MayShift p f → IsListed p old
        → IsListed (part_after p record { act = Shifts f; scan = scan; let_go = o } x found)
        (old_after p f old)
    listed_shift (LoadRoles of) wide below may was = record {
      count = count_more p.hands.own (old_count p.site.shape old) p.draft.used None was.count;
      places = places_more (own_place p old) p.hands.own
          (old_count p.site.shape old + p.draft.used) None was.count tt was.places;
      to = was.to;
      old_is = was.old_is;
      only = was.only;
      from = λ e. let h = was.from e in record { region = h.region; below = h.below; from = h.from };
      none = λ e h. was.none e record { region = h.region; below = h.below; from = h.from };
    }
    listed_shift (Join region roles) wide below may was =
        let all : List Role = p.cycle.ties.roles.0 in
        let change : Role → Role = joined_role (frees p) in
        let few = p.site.shape.regions_fit in
        let low : region < length all = omega (arith, wide, may.takes.below, few) in
        let here : p.draft.region < length all = omega (arith, wide, below, few) in
        let other : p.draft.region ≢ region = λ e.
        true≢false (sym may.takes.passes ∙ (ap (λ (g : ℕ). is_free (change (slice_index_or all g
        Free))) (sym e) ∙ ap (λ (r : Role). is_free (change r)) was.to)) in
        record {
          count = omega arith;
          places = λ i k e. absurd (nothing_got i k e);
          to = ap (λ (r : Roles). role_at r region) may.is ∙ taken_here all change region low;
          old_is = tt;
          only = λ g small kept. dite (ℕ_discrete g region)
              (λ (e : g ≡ region). inl e)
              (λ (e : g ≢ region). absurd (joined_none (frees p) (role_at p.cycle.ties.roles g)
              (ap is_kept (sym (taken_role all change region g e (omega (arith, wide, small, few))))
              ∙ (ap (λ (r : Roles). is_kept (role_at r g)) (sym may.is) ∙ kept))));
          from = λ e. record {
            region = p.draft.region;
            below = below;
            from = ap (λ (r : Roles). role_at r p.draft.region) may.is
                ∙ (taken_role all change region p.draft.region other here ∙ ap change was.to);
          };
          none = λ e h. true≢false e;
        }
    listed_shift (Turn region roles) wide below may was = turned old was
      where
        all : List Role
        all = p.cycle.ties.roles.0

        low : (g : ℕ) → g < p.site.shape.regions → g < length all
        low g h = omega (arith, wide, h, p.site.shape.regions_fit)

        -- a region of another role than Free is not the one that is taken
        other : (g : ℕ) (role : Role) → role_at p.cycle.ties.roles g ≡ role
            → is_free role ≡ false → g ≢ region
        other g role is none e = true≢false (sym may.takes.passes
            ∙ (ap (λ (n : ℕ). is_free (slice_index_or all n Free)) (sym e) ∙ (ap is_free is ∙ none)))

        turns : (g : ℕ) (role : Role) → g < p.site.shape.regions
            → role_at p.cycle.ties.roles g ≡ role → is_free role ≡ false
            → role_at roles g ≡ turned_role role
        turns g role small is none = ap (λ (r : Roles). role_at r g) may.is
            ∙ (taken_role all turned_role region g (other g role is none) (low g small)
            ∙ ap turned_role is)

        turned : (was_old : Option ℕ) → IsListed p was_old
            → IsListed (part_after p record {
              act = Shifts (Turn region roles);
              scan = scan;
              let_go = o;
            } x found) (Some p.draft.region)
        turned None l = record {
          count = ap length (append-nil p.hands.own) ∙ (l.count ∙ omega (arith, may.full));
          places = λ i k e.
              let there : slice_get p.hands.own i ≡ Some k =
              ap (λ (m : List Known). slice_get m i) (sym (append-nil p.hands.own)) ∙ e in
              let within = slice_get_within p.hands.own i k there in
              let small : i < p.site.shape.versions =
              omega (arith, within, l.count, may.full) in
              l.places i k there ∙ sym (ap (λ (t : Bool). if t
              then version_at p.site.shape p.number p.draft.region i
              else version_at p.site.shape p.number region (i - p.site.shape.versions))
              (below_is i p.site.shape.versions small));
          to = ap (λ (r : Roles). role_at r region) may.is
              ∙ taken_here all turned_role region (low region may.takes.below);
          old_is = (below, turns p.draft.region To below l.to refl);
          only = λ g small kept. dite (ℕ_discrete g region)
              (λ (e : g ≡ region). inl e)
              (λ (e : g ≢ region). inr (ap Some (sym (one_kept g small
              (turned_kept (role_at p.cycle.ties.roles g)
              (ap is_kept (sym (taken_role all turned_role region g e (low g small)))
              ∙ (ap (λ (r : Roles). is_kept (role_at r g)) (sym may.is) ∙ kept)))))));
          from = λ e. let h = l.from e in record {
            region = h.region;
            below = h.below;
            from = turns h.region From h.below h.from refl;
          };
          none = λ e h. l.none e record {
            region = h.region;
            below = h.below;
            from = turned_back (role_at p.cycle.ties.roles h.region)
                (sym (taken_role all turned_role region h.region (λ e. taken_not h.region e h.from)
                (low h.region h.below)) ∙ (ap (λ (r : Roles). role_at r h.region) (sym may.is) ∙ h.from));
          };
        }
          where
            one_kept : (g : ℕ) → g < p.site.shape.regions → is_kept (role_at p.cycle.ties.roles g) ≡ true
                → g ≡ p.draft.region
            one_kept g small kept = ⊎_elim
                (λ (e : g ≡ p.draft.region). e)
                (λ (e : None ≡ Some g). absurd (cc)) (l.only g small kept)

            taken_not : (g : ℕ) → g ≡ region → role_at roles g ≡ From → ⊥
            taken_not g e from = to_not_from (sym (ap (λ (r : Roles). role_at r region) may.is
                ∙ taken_here all turned_role region (low region may.takes.below))
                ∙ (ap (λ (n : ℕ). role_at roles n) (sym e) ∙ from))
        turned (Some g) l = absurd (no_turn p g wide below l may.reserve)
    listed_shift (Reuse roles) wide below may was =
        let all : List Role = p.cycle.ties.roles.0 in
        let few = p.site.shape.regions_fit in
        let turns : (g : ℕ) (role : Role) → g < p.site.shape.regions
        → role_at p.cycle.ties.roles g ≡ role → role_at roles g ≡ reused_role role =
        λ g role small is. ap (λ (r : Roles). role_at r g) may.is
        ∙ (get_or-map reused_role all g Free Free (omega (arith, wide, small, few))
        ∙ ap reused_role is) in
        record {
          count = count_more p.hands.own (old_count p.site.shape old) p.draft.used None was.count;
          places = places_more (own_place p old) p.hands.own
              (old_count p.site.shape old + p.draft.used) None was.count tt was.places;
          to = turns p.draft.region To below was.to;
          old_is = old_still old turns was.old_is;
          only = λ g small kept. was.only g small (reused_kept (role_at p.cycle.ties.roles g)
              (ap is_kept (sym (turns g (role_at p.cycle.ties.roles g) small refl)) ∙ kept));
          from = λ e. absurd (true≢false (sym e));
          none = λ e h. reused_not (role_at p.cycle.ties.roles h.region)
              (sym (turns h.region (role_at p.cycle.ties.roles h.region) h.below refl) ∙ h.from);
        }
      where
        old_still : (g : Option ℕ) → ((n : ℕ) (role : Role) → n < p.site.shape.regions
            → role_at p.cycle.ties.roles n ≡ role → role_at roles n ≡ reused_role role)
            → IfSome g (λ n. (n < p.site.shape.regions) × (role_at p.cycle.ties.roles n ≡ Old))
            → IfSome g (λ n. (n < p.site.shape.regions) × (role_at roles n ≡ Old))
        old_still None turns h = tt
        old_still (Some n) turns h = (h.0, turns n Old h.0 h.1)

-- Jobs, by their places: before the callers have worked, and after.
use Rattle.std.proofs.Common.{◌≡◌, ℕ, ◌<◌, List, [], ◌∷◌, ◌++◌, length, map, Some, All, Vec, Global, take, drop, append-nil, get_or, refl, sym, ap, ◌∙◌, subst, arith}
use Rattle.std.specs.List.{slice_get}
use Rattle.std.specs.Option.{option_map}
use Rattle.std.proofs.lemmas.List.{drop_all, length-append, length-map, take_all}
use Rattle.std.proofs.lemmas.Option.{get_or_from_slice_get, slice_get_within, slice_get-map, slice_get-get_or}
use Rattle.hm_orders.specs.declared.order.Order.{Order}
use Rattle.hm_model.specs.Sight.{IsSameCaller}
use Rattle.hm_book.specs.declared.limits.Limits.{Limits}
use Rattle.hm_cellbook.specs.declared.usage.BookUsage.{BookUsage}
use Rattle.hm_cells.specs.Closing.{AreAll}
use Rattle.hm_cells.specs.Facts.{Facts, IsAtRest, Made}
use Rattle.hm_heap.specs.Tending.{working_sight}
use Rattle.hm_ops.specs.Resting.{IsResting}
use Rattle.hm_heap.specs.Mutators.{AreSameCallers}
use Rattle.hm_replay.specs.declared.conclusion.Came.{Came}
use Rattle.hm_replay.specs.Working.{AreJobs, AreReady, HaveWorked, IsAtWork, IsReady, IsUnder, Working, Works}
use Rattle.hm_replay.proofs.Pushed.{at_value, item_here, placed}

-- what stands behind a front stands at its length
at_seam : {A : Type 0} (xs : List A) (y : A) (ys : List A) → slice_get (xs ++ y ∷ ys) (length xs) ≡ Some y
at_seam [] y ys = refl
at_seam (x ∷ xs) y ys = at_seam xs y ys

-- of a list with one function on each item
at_mapped : {A B : Type 0} (f : A → B) (xs : List A) (k : ℕ) (x : A) (y : B) → slice_get xs k ≡ Some x
    → slice_get (map f xs) k ≡ Some y → f x ≡ y
at_mapped f xs k x y here shown =
    let same : Some (f x) ≡ Some y = sym (ap (option_map f) here) ∙ (sym (slice_get-map f xs k) ∙ shown) in cc

-- the next pass is ready for the orders of the next file
pub next_ready : (limits : Limits) (passes : List (Facts BookUsage)) (files : List (List Order))
    → AreReady limits passes files
    → (before : List (Facts BookUsage)) (s : Facts BookUsage) (rest : List (Facts BookUsage))
    → passes ≡ before ++ s ∷ rest → (orders : List Order) → slice_get files (length before) ≡ Some orders
    → IsReady s orders
next_ready limits passes files ready before s rest all orders is =
    ready.each (length before) s orders
    (ap (λ (l : List (Facts BookUsage)). slice_get l (length before)) all ∙ at_seam before s rest) is

-- and at rest, of that heap
pub next_rests : (m : Made BookUsage) (passes : List (Facts BookUsage)) → AreAll m passes
    → All IsAtRest passes → (before : List (Facts BookUsage)) (s : Facts BookUsage)
    → (rest : List (Facts BookUsage)) → passes ≡ before ++ s ∷ rest → IsResting s m
next_rests m passes all rests before s rest is =
    let there : slice_get passes (length before) ≡ Some s =
    ap (λ (l : List (Facts BookUsage)). slice_get l (length before)) is ∙ at_seam before s rest in record {
      fits = all.fits (length before) s there;
      rest = subst IsAtRest (get_or_from_slice_get passes (length before) s s there)
          (rests (length before) s (slice_get_within passes (length before) s there));
    }

-- with the job of the next pass, jobs have each a pass and the orders of its file
pub jobs_more : (passes : List (Facts BookUsage)) (files : List (List Order)) (jobs : List Working)
    → AreJobs passes files jobs → (before : List (Facts BookUsage)) → length jobs ≡ length before
    → (s : Facts BookUsage) (rest : List (Facts BookUsage)) → passes ≡ before ++ s ∷ rest
    → (job : Working) → job.pass ≡ s → slice_get files (length before) ≡ Some job.orders
    → AreJobs passes files (jobs ++ job ∷ [])
jobs_more passes files jobs are before count s rest all job pass orders =
    placed (λ k j. (slice_get passes k ≡ Some j.pass) × (slice_get files k ≡ Some j.orders)) jobs job are
    (subst (λ n. (slice_get passes n ≡ Some job.pass) × (slice_get files n ≡ Some job.orders)) (sym count) (
      ap (λ (l : List (Facts BookUsage)). slice_get l (length before)) all
          ∙ (at_seam before s rest ∙ ap (λ (t : Facts BookUsage). Some t) (sym pass)),
      orders,
    ))

-- jobs of such passes are under these limits
pub jobs_under : (limits : Limits) (passes : List (Facts BookUsage)) (files : List (List Order))
    → AreReady limits passes files → (jobs : List Working) → AreJobs passes files jobs → All (IsUnder limits) jobs
jobs_under limits passes files ready jobs are = λ k d low.
    let job : Working = get_or jobs k d in
    let here : slice_get jobs k ≡ Some job = slice_get-get_or jobs k d low in
    let its = at_value (λ j. (slice_get passes k ≡ Some j.pass) × (slice_get files k ≡ Some j.orders))
    (slice_get jobs k) job here (are k) in
    ready.limits_are k job.pass its.0

module _ (limits : Limits) (passes : List (Facts BookUsage)) (files : List (List Order)) (ready : AreReady limits passes files)
    (old new : List Working) (are : AreJobs passes files old) (count : length old ≡ length passes)
    (wide : length new ≡ length old)
    (works : (i : ℕ) (d : Working) → i < length old → Works (get_or old i d) (get_or new i d)) where
  record IsJob (k : ℕ) (s : Facts BookUsage) : Type 0 where
    pub was : Working
    pub now : Working
    pub was_here : slice_get old k ≡ Some was
    pub now_here : slice_get new k ≡ Some now
    pub work : Works was now

  job_at : (k : ℕ) (s : Facts BookUsage) (d : Working) → slice_get passes k ≡ Some s → IsJob k s
  job_at k s d is =
      let long = slice_get_within passes k s is in
      let low : k < length old = omega (arith, long, count) in
      record {
        was = get_or old k d;
        now = get_or new k d;
        was_here = slice_get-get_or old k d low;
        now_here = slice_get-get_or new k d (omega (arith, low, wide));
        work = works k d low;
      }

  -- the callers are the same
  pub same_callers : (d : Working) → AreSameCallers passes (map (λ j. j.pass) new)
  same_callers d = record {
    count = length-map new (λ (j : Working). j.pass) ∙ (wide ∙ count);
    same = λ k s t was is.
        let j = job_at k s d was in
        let from : Some s ≡ Some j.was.pass =
        sym was ∙ (at_value (λ j. (slice_get passes k ≡ Some j.pass) × (slice_get files k ≡ Some j.orders))
        (slice_get old k) j.was j.was_here (are k)).0 in
        let first : s ≡ j.was.pass = cc in
        let then : j.now.pass ≡ t = at_mapped (λ (j : Working). j.pass) new k j.now t j.now_here is in
        subst (λ (x : Facts BookUsage). IsSameCaller (working_sight x) (working_sight t)) (sym first)
        (subst (λ (x : Facts BookUsage). IsSameCaller (working_sight j.was.pass) (working_sight x)) then j.work.caller);
  }

  -- and each has come to something with the orders of its file
  pub have_worked : (d : Working) → All IsAtWork new
      → HaveWorked passes (map (λ j. j.pass) new) files (map (λ j. j.came) new)
  have_worked d at_work = record {
    count = length-map new (λ (j : Working). j.came) ∙ (wide ∙ (count ∙ ready.count));
    callers = same_callers d;
    each = λ k s orders c is file came. each_worked k s orders c is file came;
  }
    where
      each_worked : (k : ℕ) (s : Facts BookUsage) (orders : List Order) (c : Came)
          → slice_get (map (λ j. j.pass) new) k ≡ Some s → slice_get files k ≡ Some orders
          → slice_get (map (λ j. j.came) new) k ≡ Some c
          → IsAtWork record { pass = s; orders = orders; came = c }
      each_worked k s orders c is file came =
          let long = slice_get_within files k orders file in
          let low : k < length old = omega (arith, long, count, ready.count) in
          let was : Working = get_or old k d in
          let now : Working = get_or new k d in
          let was_here : slice_get old k ≡ Some was = slice_get-get_or old k d low in
          let now_here : slice_get new k ≡ Some now = slice_get-get_or new k d (omega (arith, low, wide)) in
          let work : Works was now = works k d low in
          let own = (at_value (λ j. (slice_get passes k ≡ Some j.pass) × (slice_get files k ≡ Some j.orders))
          (slice_get old k) was was_here (are k)).1 in
          let same : Some was.orders ≡ Some orders = sym own ∙ file in
          let orders_are : now.orders ≡ orders = work.orders ∙ (cc) in
          let pass_is : now.pass ≡ s = at_mapped (λ (j : Working). j.pass) new k now s now_here is in
          let came_is : now.came ≡ c = at_mapped (λ (j : Working). j.came) new k now c now_here came in
          let whole : now ≡ record { pass = s; orders = orders; came = c } =
          λ i. record { pass = pass_is i; orders = orders_are i; came = came_is i } in
          subst IsAtWork whole (at_work k d (omega (arith, low, wide)))

-- the orders that a loop comes to are those of the file at its place
pub own_orders : (files : List (Vec Order Global)) (n place : ℕ) (v : Vec Order Global) (orders : List Order)
    → n ≡ place → place < length files → v ≡ get_or files place v → orders ≡ v.items
    → slice_get (map (λ orders. orders.items) files) n ≡ Some orders
own_orders files n place v orders counted within is shown =
    slice_get-map (λ (orders : Vec Order Global). orders.items) files n
    ∙ (ap (option_map (λ (orders : Vec Order Global). orders.items)) (item_here files n place v counted within is)
    ∙ ap (λ (l : List Order). Some l) (sym shown))

-- of a vector whose slice was changed the items are the slice's
pub changed : {A : Type 0} (len : ℕ) (new old : List A) → length new ≡ length old → len ≡ length old
    → take len (new ++ drop (length new) old) ≡ new
changed len new old same long =
    ap (λ (l : List _). take len (new ++ l)) (drop_all (length new) old (omega (arith, same)))
    ∙ (ap (take len) (append-nil new) ∙ take_all len new (omega (arith, same, long)))

-- the next of as many passes as files has a file
pub next_within : (passes before : List (Facts BookUsage)) (s : Facts BookUsage) (rest : List (Facts BookUsage))
    (files : List (Vec Order Global)) → passes ≡ before ++ s ∷ rest
    → length passes ≡ length (map (λ orders. orders.items) files) → length before < length files
next_within passes before s rest files all count =
    let long = ap length all ∙ length-append before (s ∷ rest) in
    let same = length-map files (λ (orders : Vec Order Global). orders.items) in omega (arith, long, same, count)

-- two lists with one item more each are as long
pub count_more : {A B : Type 0} (new xs : List A) (x : A) (ys : List B) (y : B) → new ≡ xs ++ x ∷ []
    → length xs ≡ length ys → length new ≡ length (ys ++ y ∷ [])
count_more new xs x ys y is same =
    let long = ap length is ∙ length-append xs (x ∷ []) in
    let other = length-append ys (y ∷ []) in omega (arith, long, other, same)

-- a list that is not empty has an item
pub some_item : {A : Type 0} (xs : List A) → 0 < length xs → A
some_item [] h = absurd (omega (arith, h))
some_item (x ∷ xs) h = x

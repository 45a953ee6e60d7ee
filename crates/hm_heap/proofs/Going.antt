-- What each act leaves: nothing of it shows but the moves, and less tending is left.
use Rattle.std.proofs.Common.{◌≡◌, ◌≢◌, ◌⊎◌, ◌<◌, ◌≤◌, ◌+◌, ◌*◌, ◌==◌, ◌&&◌, nat_lt, ℕ, zero, suc, Bool, true, false, true≢false, List, [], ◌∷◌, filter, length, take, get_or, if◌then◌else◌, refl, sym, ap, ◌∙◌, subst, arith, ⊎_elim}
use Rattle.std.proofs.lemmas.Bool.Decides.{nat_tests}
use Rattle.std.proofs.lemmas.List.{get_or-take, length-take-le}
use Rattle.hm_shape.specs.declared.roles.Role.{Role}
use Rattle.hm_shape.specs.declared.roles.Role.TheVariants.{Free, To, Old, From}
use Rattle.hm_shape.specs.declared.roles.Roles.{Roles}
use Rattle.hm_shape.specs.declared.stage.Phase.{Phase}
use Rattle.hm_shape.specs.declared.stage.Phase.TheVariants as phases
use Rattle.hm_shape.specs.Words.{IsRoles, stage_word}
use Rattle.hm_model.specs.declared.entry.Entry.{Entry}
use Rattle.hm_model.specs.declared.worker.Tended.{Tended}
use Rattle.hm_model.specs.declared.worker.Tended.TheVariants as tended
use Rattle.hm_model.specs.Store.{PlainStore}
use Rattle.hm_model.specs.Tending.{ComesNearer, KeepsNames, moves_after}
use Rattle.hm_moves.specs.declared.part.Calls.{Calls}
use Rattle.hm_moves.specs.declared.part.Seen.{Seen}
use Rattle.hm_moves.specs.Cycles.{is_from, is_open}
use Rattle.hm_moves.specs.Decoding.{seen_of, seen_word, stage_in}
use Rattle.hm_moves.specs.Shifts.{frees}
use Rattle.hm_moves.proofs.Decoded.{stage_back, stage_word_back}
use Rattle.hm_cells.specs.Facts.{Facts, HasFrom, IsAtRest, IsNext, IsSound, Made, heap_of, sight_of}
use Rattle.hm_ops.specs.Resting.{Keeps}
use Rattle.hm_cycle.specs.Standing.{Standing, Stays, standing_of, Keeps as KeepsOn}
use Rattle.hm_heap.specs.Acting.{Answers, GoesOn, Sees, told_begun, told_moved, told_scanned}
use Rattle.hm_cycle.specs.Cycling.{Advances, Begins, Exchanged, advanced_moves, begun_moves, kind_by, onward, stage_seen}
use Rattle.hm_cycle.specs.declared.stage.Begun.{Begun}
use Rattle.hm_cycle.specs.declared.stage.Begun.TheVariants as begun
use Rattle.hm_cycle.specs.declared.stage.Moved.{Moved}
use Rattle.hm_cycle.specs.declared.stage.Moved.TheVariants as moved
use Rattle.hm_scan.specs.declared.scanning.Scanned.{Scanned}
use Rattle.hm_scan.specs.declared.scanning.Scanned.TheVariants as scanned
use Rattle.hm_scan.specs.Scanning.{Scans, ScansTo}
use Rattle.hm_cycle.specs.Roles.{Joins, Reuses, freed_count, from_count, standing_joined, standing_reused}
use Rattle.hm_heap.specs.Tending.{is_scanned, may_free, to_go_of}
use Rattle.hm_heap.proofs.Nearer.{joined_less, later_less, other_later, replied_less, reused_less, scanned_less, seen_most, to_go_at}

-- a region that was given up counts
some_from : (l : List Role) (g : ℕ) → g < length l → get_or l g Free ≡ From → 0 < length (filter is_from l)
some_from [] g low e = absurd (omega (arith, low))
some_from (Free ∷ l) zero low e = absurd (cc)
some_from (To ∷ l) zero low e = absurd (cc)
some_from (Old ∷ l) zero low e = absurd (cc)
some_from (From ∷ l) g low e = omega arith
some_from (Free ∷ l) (suc g) low e = some_from l g (omega (arith, low)) e
some_from (To ∷ l) (suc g) low e = some_from l g (omega (arith, low)) e
some_from (Old ∷ l) (suc g) low e = some_from l g (omega (arith, low)) e

-- both of two tests pass
both_first : (a b : Bool) → (a && b) ≡ true → a ≡ true
both_first true b e = refl
both_first false b e = absurd (true≢false (sym e))

both_second : (a b : Bool) → (a && b) ≡ true → b ≡ true
both_second true b e = e
both_second false b e = absurd (true≢false (sym e))

-- so many times as many versions are some
times_some : (n v : ℕ) → 0 < n → 0 < v → 0 < n * v
times_some zero v low some = absurd (omega (arith, low))
times_some (suc n) zero low some = absurd (omega (arith, some))
times_some (suc n) (suc v) low some = grind arith

-- a word is itself, and no other
same_word : (w : ℕ) → (w == w) ≡ true
same_word w = grind (arith, nat_tests)

other_word : (a b : ℕ) → a ≢ b → (a == b) ≡ false
other_word a b other = grind (arith, nat_tests, other)

-- what comes nearer from less comes nearer from more
nearer_from : (answer : Tended) (a b c : ℕ) → b ≤ a → ComesNearer answer b c → ComesNearer answer a c
nearer_from tended.Nothing a b c less h = omega (arith, less, h)
nearer_from tended.Joined a b c less h = omega (arith, less, h)
nearer_from (tended.Scanned n) a b c less h = omega (arith, less, h)
nearer_from tended.Looked a b c less h = omega (arith, less, h)
nearer_from (tended.Replied n) a b c less h = omega (arith, less, h)
nearer_from tended.Advanced a b c less h = omega (arith, less, h)
nearer_from (tended.Overtaken n) a b c less h = omega (arith, less, h)
nearer_from (tended.Freed n) a b c less h = omega (arith, less, h)
nearer_from (tended.Waits n) a b c less h = omega (arith, less, h)
nearer_from tended.NoRoom a b c less h = tt
nearer_from tended.Spent a b c less h = omega (arith, less, h)

module _ {U : Type 0} where
  -- the caller is the same, has seen the same, and names the same
  pub stays_names : (s t : Facts U) → Stays s t → KeepsNames (sight_of s) (sight_of t)
  stays_names s t stays = record {
    caller = record {
      heap = λ i. heap_of (stays.cells i) (stays.site i).shape;
      usage = λ i. (stays.site i).usage;
      start = λ i. (stays.site i).start;
      number = stays.number;
      span = λ i. (stays.site i).shape.versions;
    };
    seen = stays.seen;
    mine = ap (λ (c : Calls). c.mine) stays.calls;
    roots = stays.names;
  }

  pub same_names : (s : Facts U) → KeepsNames (sight_of s) (sight_of s)
  same_names s = record {
    caller = record { heap = refl; usage = refl; start = refl; number = refl; span = refl };
    seen = refl;
    mine = refl;
    roots = refl;
  }

  pub names_then : (s t u : Facts U) → KeepsNames (sight_of s) (sight_of t) → KeepsNames (sight_of t) (sight_of u)
      → KeepsNames (sight_of s) (sight_of u)
  names_then s t u a b = record {
    caller = record {
      heap = b.caller.heap ∙ a.caller.heap;
      usage = b.caller.usage ∙ a.caller.usage;
      start = b.caller.start ∙ a.caller.start;
      number = b.caller.number ∙ a.caller.number;
      span = b.caller.span ∙ a.caller.span;
    };
    seen = b.seen ∙ a.seen;
    mine = b.mine ∙ a.mine;
    roots = b.roots ∙ a.roots;
  }

  -- how much is left is told by where it stands
  pub to_go_is : (t : Facts U) (x : Standing) → standing_of t ≡ x → to_go_of t ≡ to_go_at x
  to_go_is t x is = ap to_go_at is

  -- a caller that has given up a region in a cycle that is done by now frees it
  pub some_freed : (s : Facts U) → HasFrom s.part → IsRoles s.part.cycle.ties.roles
      → may_free s.part ≡ true → 0 < freed_count s.part
  some_freed s from wide frees_it =
      let done : frees s.part ≡ true =
      both_second s.part.cycle.ties.joined (nat_lt s.part.cycle.ties.done s.part.cycle.clock.stage.done) frees_it in
      let fit = s.part.site.shape.regions_fit in
      let long = length-take-le s.part.site.shape.regions s.part.cycle.ties.roles.0 (omega (arith, wide, fit)) in
      let some = some_from (take s.part.site.shape.regions s.part.cycle.ties.roles.0) from.region
      (let b = from.below in omega (arith, b, long))
      (get_or-take s.part.site.shape.regions s.part.cycle.ties.roles.0 from.region Free from.below ∙ from.from) in
      let is : freed_count s.part ≡ from_count s.part =
      ap (λ (b : Bool). if b then from_count s.part else 0) done in
      omega (arith, some, is)

module _ {U : Type 0} (lawful : U → PlainStore → Type 0) (allowed : U → PlainStore → Entry → Type 0) (m : Made U)
    (s t : Facts U) (keeps : Keeps lawful allowed s m) where
  -- the pass rests still
  pub still_keeps : Stays s t → IsAtRest t → IsSound lawful allowed t → Keeps lawful allowed t m
  still_keeps stays rest sound = record {
    resting = record {
      fits = record {
        cells = stays.cells ∙ keeps.resting.fits.cells;
        site = stays.site ∙ keeps.resting.fits.site;
      };
      rest = rest;
    };
    sound = sound;
  }

  on_keeps : KeepsOn lawful allowed s t → Keeps lawful allowed t m
  on_keeps k = still_keeps k.stays (k.rest keeps.resting.rest) k.sound

  -- where nothing is done
  pub rest_goes : t ≡ s → GoesOn lawful allowed m s tended.Nothing t
  rest_goes is = subst (λ (u : Facts U). GoesOn lawful allowed m s tended.Nothing u) (sym is)
      record { names = same_names s; moves = refl; nearer = omega arith; tends = refl; keeps = keeps }

  pub lack_goes : t ≡ s → GoesOn lawful allowed m s tended.NoRoom t
  lack_goes is = subst (λ (u : Facts U). GoesOn lawful allowed m s tended.NoRoom u) (sym is)
      record { names = same_names s; moves = refl; nearer = tt; tends = refl; keeps = keeps }

  -- regions are freed
  pub reuse_goes : (n : ℕ) → may_free s.part ≡ true → n ≡ freed_count s.part * s.part.site.shape.versions
      → Reuses s n t → KeepsOn lawful allowed s t → GoesOn lawful allowed m s (tended.Freed n) t
  reuse_goes n frees_it count reuses k = go n count reuses
    where
      from : HasFrom s.part
      from = keeps.sound.listed.from (both_first s.part.cycle.ties.joined
          (nat_lt s.part.cycle.ties.done s.part.cycle.clock.stage.done) frees_it)

      some : 0 < freed_count s.part * s.part.site.shape.versions
      some = times_some (freed_count s.part) s.part.site.shape.versions
          (some_freed s from keeps.sound.sure.roles frees_it)
          (let fit = s.part.site.shape.versions_fit in omega (arith, fit))

      go : (n : ℕ) → n ≡ freed_count s.part * s.part.site.shape.versions → Reuses s n t
          → GoesOn lawful allowed m s (tended.Freed n) t
      go zero is reuses = absurd (omega (arith, is, some))
      go (suc n) is stands = record {
        names = stays_names s t k.stays;
        moves = ap (λ (x : Standing). x.moves) stands;
        nearer =
            let less = reused_less (standing_of s) (standing_reused s).roles (standing_reused s).masks 0 frees_it in
            let eq = to_go_is t (standing_reused s) stands in omega (arith, eq, less);
        tends = k.stays.tends;
        keeps = on_keeps k;
      }

  -- a reply is told
  pub reply_goes : (clean : Bool) → is_open s.part ≡ true → Answers s clean t → KeepsOn lawful allowed s t
      → GoesOn lawful allowed m s (tended.Replied clean) t
  reply_goes clean yet a k = record {
    names = stays_names s t k.stays;
    moves = ap (λ (x : Standing). x.moves) a.stands;
    nearer =
        let less = replied_less (standing_of s) (kind_by clean) yet in
        let eq = ap to_go_at a.stands in omega (arith, eq, less);
    tends = k.stays.tends;
    keeps = on_keeps k;
  }

  -- a join
  pub join_goes : is_open s.part ≡ true → Joins s t → Stays s t → Keeps lawful allowed t m
      → GoesOn lawful allowed m s tended.Joined t
  join_goes yet joins stays k = record {
    names = stays_names s t stays;
    moves = ap (λ (x : Standing). x.moves) joins.stands;
    nearer =
        let less = joined_less (standing_of s) (standing_joined s joins.region) yet refl refl refl in
        let eq = ap to_go_at joins.stands in omega (arith, eq, less);
    tends = stays.tends;
    keeps = k;
  }

  -- a cycle is begun, or runs, or none can begin
  pub begin_goes : (b : Begun) → s.part.cycle.clock.stage.phase ≡ phases.Idle → Begins lawful allowed s b t
      → standing_of t ≡ record (standing_of s) {
        stage = stage_seen t;
        moves = begun_moves b s.part.cycle.clock.moves;
      }
      → IsNext (stage_seen s) (stage_seen t) → (stage_seen s).number < 4294967296
      → KeepsOn lawful allowed s t → GoesOn lawful allowed m s (told_begun b) t
  begin_goes b idle begins stands next low k = go b begins stands
    where
      loaded_is : Begins lawful allowed s b t → Type 0
      loaded_is x = stage_seen x.before ≡ seen_of x.loaded

      loads : (x : Begins lawful allowed s b t) → loaded_is x
      loads x = ap (λ (f : Facts U). f.part.cycle.clock.stage) x.load.is
          ∙ stage_back (seen_of x.loaded) x.loaded.done_fits

      later : (moves : ℕ) → (stage_seen s).number < (stage_seen t).number
          → standing_of t ≡ record (standing_of s) { stage = stage_seen t; moves = moves } → to_go_of t < to_go_of s
      later moves less is =
          let y : Standing = record (standing_of s) { stage = stage_seen t; moves = moves } in
          let h = later_less (standing_of s) y less low in
          let eq = to_go_is t y is in omega (arith, h, eq)

      go : (c : Begun) → Begins lawful allowed s c t
          → standing_of t ≡ record (standing_of s) {
            stage = stage_seen t;
            moves = begun_moves c s.part.cycle.clock.moves;
          } → GoesOn lawful allowed m s (told_begun c) t
      go begun.Begun x is = record {
        names = stays_names s t k.stays;
        moves = ap (λ (z : Standing). z.moves) is;
        nearer =
            let before : stage_seen x.before ≡ seen_of x.loaded =
            ap (λ (f : Facts U). f.part.cycle.clock.stage) x.load.is
            ∙ stage_back (seen_of x.loaded) x.loaded.done_fits in
            let a = x.load.later.number in
            let b = ap (λ (z : Seen). z.number) before in
            let c = ap (λ (z : Seen). z.number) x.stage in
            later (s.part.cycle.clock.moves + 1) (omega (arith, a, b, c)) is;
        tends = k.stays.tends;
        keeps = on_keeps k;
      }
      go (begun.Running word) x is = record {
        names = stays_names s t k.stays;
        moves = ap (λ (z : Standing). z.moves) is;
        nearer = later s.part.cycle.clock.moves (⊎_elim
            (λ h. other_later (stage_seen s) (stage_seen t) next
            (λ same. h.0 (sym (ap (λ (z : Seen). z.phase) (now h.1)) ∙ (ap (λ (z : Seen). z.phase) same ∙ idle))))
            (λ h. exchanged h.0 h.1) x.ends) is;
        tends = k.stays.tends;
        keeps = on_keeps k;
      }
        where
          now : word ≡ stage_word x.loaded → stage_seen t ≡ seen_of x.loaded
          now e = x.stage ∙ (ap stage_in e ∙ stage_back (seen_of x.loaded) x.loaded.done_fits)

          exchanged : word ≢ stage_word x.loaded → Exchanged lawful allowed x.before x.loaded word t
              → (stage_seen s).number < (stage_seen t).number
          exchanged other y =
              let before : stage_seen x.before ≡ seen_of x.loaded =
              ap (λ (f : Facts U). f.part.cycle.clock.stage) x.load.is
              ∙ stage_back (seen_of x.loaded) x.loaded.done_fits in
              let a = x.load.later.number in
              let more = other_later (stage_seen x.before) (stage_seen t) y.took.later
              (λ same. other (sym (stage_word_back word) ∙ (ap seen_word (sym x.stage) ∙ (ap seen_word same
              ∙ ap seen_word before)))) in
              omega (arith, a, more)
      go begun.Spent x is = record {
        names = stays_names s t k.stays;
        moves = ap (λ (z : Standing). z.moves) is;
        nearer =
            let h = seen_most (standing_of s) (stage_seen t) s.part.cycle.clock.moves next low in
            let eq = to_go_is t (record (standing_of s) { stage = stage_seen t; moves = s.part.cycle.clock.moves }) is in
            omega (arith, h, eq);
        tends = k.stays.tends;
        keeps = on_keeps k;
      }

  -- the stage is moved on, or cannot be yet
  pub advance_goes : (e : Moved) → Advances lawful allowed s e t
      → standing_of t ≡ record (standing_of s) {
        stage = stage_seen t;
        moves = advanced_moves e s.part.cycle.clock.moves;
      }
      → IsNext (stage_seen s) (stage_seen t) → (stage_seen s).number < 4294967296
      → KeepsOn lawful allowed s t → GoesOn lawful allowed m s (told_moved e) t
  advance_goes e advances stands next low k = go e advances stands
    where
      later : (moves : ℕ) → (stage_seen s).number < (stage_seen t).number
          → standing_of t ≡ record (standing_of s) { stage = stage_seen t; moves = moves } → to_go_of t < to_go_of s
      later moves less is =
          let y : Standing = record (standing_of s) { stage = stage_seen t; moves = moves } in
          let h = later_less (standing_of s) y less low in
          let eq = to_go_is t y is in omega (arith, h, eq)

      most : standing_of t ≡ record (standing_of s) { stage = stage_seen t; moves = s.part.cycle.clock.moves }
          → to_go_of t ≤ to_go_of s
      most is =
          let h = seen_most (standing_of s) (stage_seen t) s.part.cycle.clock.moves next low in
          let eq = to_go_is t (record (standing_of s) { stage = stage_seen t; moves = s.part.cycle.clock.moves }) is in
          omega (arith, h, eq)

      go : (c : Moved) → Advances lawful allowed s c t
          → standing_of t ≡ record (standing_of s) {
            stage = stage_seen t;
            moves = advanced_moves c s.part.cycle.clock.moves;
          } → GoesOn lawful allowed m s (told_moved c) t
      go moved.Advanced x is = record {
        names = stays_names s t k.stays;
        moves = ap (λ (z : Standing). z.moves) is;
        nearer =
            let on : (stage_seen t).number ≡ (stage_seen s).number + 1 =
            ap (λ (z : Seen). z.number) (x.stage ∙ ap (λ (b : Bool). if b then onward (stage_seen s) x.marked
            else stage_in (seen_word (stage_seen s))) (same_word (seen_word (stage_seen s)))) in
            later (s.part.cycle.clock.moves + 1) (omega (arith, on)) is;
        tends = k.stays.tends;
        keeps = on_keeps k;
      }
      go (moved.NotYet caller) x is = record {
        names = stays_names s t k.stays;
        moves = ap (λ (z : Standing). z.moves) is;
        nearer = most is;
        tends = k.stays.tends;
        keeps = on_keeps k;
      }
      go (moved.Overtaken word) x is = record {
        names = stays_names s t k.stays;
        moves = ap (λ (z : Standing). z.moves) is;
        nearer =
            let now : stage_seen t ≡ stage_in word =
            x.1.stage ∙ ap (λ (b : Bool). if b then onward (stage_seen s) x.1.marked else stage_in word)
            (other_word word (seen_word (stage_seen s)) x.0) in
            later s.part.cycle.clock.moves (other_later (stage_seen s) (stage_seen t) next
            (λ same. x.0 (sym (stage_word_back word) ∙ (ap seen_word (sym now) ∙ ap seen_word same)))) is;
        tends = k.stays.tends;
        keeps = on_keeps k;
      }
      go moved.Spent x is = record {
        names = stays_names s t k.stays;
        moves = ap (λ (z : Standing). z.moves) is;
        nearer = most is;
        tends = k.stays.tends;
        keeps = on_keeps k;
      }

  -- a scan
  scan_names : Scans s t → KeepsNames (sight_of s) (sight_of t)
  scan_names scans = record { caller = scans.caller; seen = scans.seen; mine = scans.mine; roots = scans.names }

  pub scan_goes : (e : Scanned) → is_open s.part ≡ true → is_scanned s ≡ false → ScansTo s e t
      → Keeps lawful allowed t m → GoesOn lawful allowed m s (told_scanned e) t
  scan_goes (scanned.Clean copied) yet clean x k = record {
    names = scan_names x.scans;
    moves = x.scans.moves;
    nearer = scanned_less (standing_of s) (standing_of t) yet clean x.scans.stage x.scans.reply x.scans.joined
        x.scans.done x.scanned x.way.unmarked;
    tends = x.scans.tends;
    keeps = k;
  }
  scan_goes scanned.NoRoom yet clean x k = record {
    names = scan_names x.scans;
    moves = x.scans.moves;
    nearer = tt;
    tends = x.scans.tends;
    keeps = k;
  }

module _ {U : Type 0} (lawful : U → PlainStore → Type 0) (allowed : U → PlainStore → Entry → Type 0) (m : Made U)
    (s t : Facts U) where
  -- what is done once the stage is seen
  pub tend_goes : (u : Facts U) (answer : Tended) → Sees s t → (stage_seen t).number < 4294967296
      → GoesOn lawful allowed m t answer u → GoesOn lawful allowed m s answer u
  tend_goes u answer sees low x = record {
    names = names_then s t u (stays_names s t sees.stays) x.names;
    moves = x.moves ∙ ap (moves_after answer) (ap (λ (z : Standing). z.moves) sees.stands);
    nearer =
        let stage = seen_of sees.stage in
        let now : (stage_seen t).number ≡ stage.number = ap (λ (z : Standing). z.stage.number) sees.stands in
        let a = sees.later.number in
        let h = seen_most (standing_of s) stage s.part.cycle.clock.moves sees.later (omega (arith, a, low, now)) in
        let eq = to_go_is t (record (standing_of s) { stage = stage }) sees.stands in
        nearer_from answer (to_go_of s) (to_go_of t) (to_go_of u) (omega (arith, h, eq)) x.nearer;
    tends = x.tends ∙ sees.stays.tends;
    keeps = x.keeps;
  }

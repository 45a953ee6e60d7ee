-- Lists and rows of a caller whose regions change.
use Rattle.std.proofs.Common.{◌≡◌, ◌≢◌, ◌⊎◌, ◌<◌, ◌≤◌, ◌-◌, ◌*◌, ℕ, Bool, true, false, not, ◌&&◌, List, [], ◌∷◌, ◌++◌, map, length, slice_index, Contains, refl, sym, ap, ◌∙◌, subst, arith, inl, inr, ⊎_elim, get_or-set_same, get_or-set_other, if◌then◌else◌}
use Rattle.std.proofs.lemmas.Bool.{cases_Bool}
use Rattle.std.proofs.lemmas.List.Elements.{Contains-append_cases}
use Rattle.hm_moves.proofs.Words.{nat_tests, common_steps, get_or-map, length-map, Shape, Version, word_at, version_at, Entry, Index, Heap, row_of, Places, AreRanked, IsOwn, Known, AreIndexed, AreApart}
use Rattle.hm_shape.specs.declared.roles.Role.{Role}
use Rattle.hm_shape.specs.declared.roles.Role.TheVariants.{Free, To, Old, From}
use Rattle.hm_shape.specs.declared.roles.Roles.{Roles}
use Rattle.hm_moves.specs.declared.part.Draft.{Draft}
use Rattle.hm_moves.specs.declared.part.Hands.{Hands}
use Rattle.hm_moves.specs.After.{is_row_of, with_roles}
use Rattle.hm_moves.specs.Cycles.{is_free, is_kept, role_at}
use Rattle.hm_moves.specs.Good.{IsDrafting, row_in}
use Rattle.hm_moves.specs.Places.{LiesIn}
use Rattle.hm_moves.specs.Shifts.{frees, joined_role, reused_role, taking, turned_role}
use Rattle.hm_moves.specs.Showing.{role_shown}
use Rattle.hm_rounds.specs.Phases as phases
use Rattle.hm_moves.proofs.Placed.{same_row}
use Rattle.hm_moves.proofs.Dying.{freed_once, row_of_at}

-- a region is a row of its caller
pub row_is : (s : Shape) (q g : ℕ) → g < s.regions → is_row_of s q (row_of s q g) ≡ true
row_is s q g low = grind (arith, nat_tests)

-- a row of a caller is one of its regions
pub row_split : (s : Shape) (q row : ℕ) → is_row_of s q row ≡ true
    → (row - q * s.regions < s.regions) × (row ≡ row_of s q (row - q * s.regions))
row_split s q row is = grind (arith, nat_tests)

-- and none of another caller
pub row_else : (s : Shape) (q r g : ℕ) → q ≢ r → g < s.regions → is_row_of s r (row_of s q g)
    ≡ false
row_else s q r g apart low = ⊎_elim
    (λ (e : is_row_of s r (row_of s q g) ≡ true). let at = row_split s r (row_of s q g) e in
    absurd (apart (same_row q r s.regions g (row_of s q g - r * s.regions) low at.0 at.1)))
    (λ (e : is_row_of s r (row_of s q g) ≡ false). e)
    (cases_Bool (is_row_of s r (row_of s q g)))

-- the role that a caller's roles give a region is that of its row
pub row_role : (s : Shape) (q : ℕ) (roles : Roles) (freed : ℕ → Bool) (places : Places) (g : ℕ)
    → g < s.regions
    → (with_roles s q roles freed places).role (row_of s q g) ≡ role_at roles g
row_role s q roles freed places g low =
    let back : row_of s q g - q * s.regions ≡ g = omega arith in
    rw (row_is s q g low) (ap (role_at roles) back)

-- a role that is shown is one
abbrev role_back : phases.Role → Role
role_back phases.Free = Free
role_back phases.To = To
role_back phases.Old = Old
role_back phases.From = From

role_again : (r : Role) → role_back (role_shown r) ≡ r
role_again Free = refl
role_again To = refl
role_again Old = refl
role_again From = refl

pub role_once : (a b : Role) → role_shown a ≡ role_shown b → a ≡ b
role_once a b e = sym (role_again a) ∙ (ap role_back e ∙ role_again b)

-- a free region is Free
pub free_is : (r : Role) → is_free r ≡ true → r ≡ Free
free_is Free e = refl
free_is To e = cc
free_is Old e = cc
free_is From e = cc

-- a region that is free after a join was Free, or was From and is freed
pub joined_free : (b : Bool) (r : Role) → is_free (joined_role b r) ≡ true
    → (r ≡ Free) ⊎ ((r ≡ From) × (b ≡ true))
joined_free b Free e = inl refl
joined_free b To e = cc
joined_free b Old e = cc
joined_free true From e = inr (refl, refl)
joined_free false From e = cc

-- a join gives up what was kept
pub joined_kept : (b : Bool) (r : Role) → is_kept r ≡ true → joined_role b r ≡ From
joined_kept b Free e = cc
joined_kept b To e = refl
joined_kept b Old e = refl
joined_kept b From e = cc

-- a turn and a reuse keep it
pub turned_kept : (r : Role) → is_kept r ≡ true → is_kept (turned_role r) ≡ true
turned_kept Free e = cc
turned_kept To e = refl
turned_kept Old e = refl
turned_kept From e = cc

pub reused_kept : (r : Role) → is_kept r ≡ true → is_kept (reused_role r) ≡ true
reused_kept Free e = cc
reused_kept To e = refl
reused_kept Old e = refl
reused_kept From e = cc

-- the region that is taken is To
pub taken_to : (roles : Roles) (change : Role → Role) (region : ℕ) → region < length roles.0
    → role_at (taking roles change region) region ≡ To
taken_to roles change region low =
    get_or-set_same (map change roles.0) region To Free
    (subst (λ n. region < n) (sym (length-map roles.0 change)) low)

-- and the others change
pub taken_else : (roles : Roles) (change : Role → Role) (region g : ℕ) → g ≢ region
    → g < length roles.0
    → role_at (taking roles change region) g ≡ change (role_at roles g)
taken_else roles change region g ne low =
    get_or-set_other (map change roles.0) region g To Free ne ∙ get_or-map change roles.0 g Free
    Free low

-- what lists as left behind still
pub left_cases : (b : Bool) (left own : List Known) (k : Known)
    → Contains ((if b then [] else left) ++ own) k → ((b ≡ false) × Contains left k)
    ⊎ Contains own k
left_cases true left own k there = inr there
left_cases false left own k there = ⊎_elim (λ (c : Contains left k). inl (refl, c))
    (λ (c : Contains own k). inr c) (Contains-append_cases left own k there)

pub left_still : (b : Bool) (left own : List Known) (k : Known) → (b ≡ true → Contains left k → ⊥)
    → Contains (left ++ own) k → Contains ((if b then [] else left) ++ own) k
left_still true left own k gone there = ⊎_elim (λ (c : Contains left k). absurd (gone refl c))
    (λ (c : Contains own k). c) (Contains-append_cases left own k there)
left_still false left own k gone there = there

-- what is apart is so without the first ones
pub apart_behind : (left own : List Known) → AreApart (left ++ own) → AreApart own
apart_behind [] own h = h
apart_behind (k ∷ ks) own h = apart_behind ks own h.1

pub left_apart : (b : Bool) (left own : List Known) → AreApart (left ++ own)
    → AreApart ((if b then [] else left) ++ own)
left_apart true left own h = apart_behind left own h
left_apart false left own h = h

pub nothing_there : (k : Known) → Contains [] k → ⊥
nothing_there k there = let low = there.1 in omega arith

-- three tests that hold together each hold
pub three_parts : (a b c : Bool) → (a && b && c) ≡ true → (a ≡ true) × (b ≡ true) × (c ≡ true)
three_parts a b c e = grind arith

pub three_whole : (a b c : Bool) → a ≡ true → b ≡ true → c ≡ true → (a && b && c) ≡ true
three_whole a b c d e f = grind arith

pub not_from : (a b c : Bool) → b ≡ false → (a && b && c) ≡ false
not_from a b c e = grind arith

-- a row that was not dead, or is freed, is not dead
pub not_both_left : (dead freed : Bool) → dead ≡ false → (dead && not freed) ≡ false
not_both_left dead freed e = grind arith

pub not_both_right : (dead freed : Bool) → freed ≡ true → (dead && not freed) ≡ false
not_both_right dead freed e = grind arith

-- one that is not dead and not freed was not
pub not_freed : (dead freed frees : Bool) → (dead && not freed) ≡ false
    → (freed ≡ true → frees ≡ true)
    → frees ≡ false → dead ≡ false
not_freed dead freed frees e f g = grind arith

-- a row of no used places has none afterwards
pub zero_left : (freed : Bool) (used : ℕ) → used ≡ 0 → (if freed then 0 else used) ≡ 0
zero_left freed used e = grind arith

-- what is From is not Free
pub no_free : (r : Role) → r ≡ From → is_free r ≡ true → ⊥
no_free Free e f = cc
no_free To e f = cc
no_free Old e f = cc
no_free From e f = cc

-- dead rows that are freed once more may be filled once more
pub ranked_freed : (s : Shape) (index : Index) (q : ℕ) (roles : Roles) (freed : ℕ → Bool)
    (places : Places)
    → ((row : ℕ) → places.used row ≤ s.versions)
    → ((row : ℕ) → freed row ≡ true → places.freed row < places.done) → AreRanked s index places
    → AreRanked s index (with_roles s q roles freed places)
ranked_freed s index q roles freed places filled few h = record {
  ranks = h.ranks;
  made = λ row.
      let low = h.made row in
      let more = freed_once s.versions (places.made row) (places.freed row) (places.used row)
      (filled row) low in
      grind (arith, common_steps);
  freed = λ row. let low = h.freed row in grind (arith, common_steps, few row);
}

-- a row is the same in two places
pub record SameRow (a b : Places) (row : ℕ) : Type 0 where
  pub used : b.used row ≡ a.used row
  pub role : b.role row ≡ a.role row
  pub dead : b.dead row ≡ a.dead row

-- the rows of another caller are
pub same_else : (s : Shape) (q r : ℕ) (roles : Roles) (freed : ℕ → Bool) (places : Places) (g : ℕ)
    → r ≢ q
    → g < s.regions → freed (row_of s r g) ≡ false
    → SameRow places (with_roles s q roles freed places) (row_of s r g)
same_else s q r roles freed places g apart low stays =
    let else_where = row_else s r q g apart low in record {
      used = rw stays refl;
      role = rw else_where refl;
      dead = grind arith;
    }

module _ (s : Shape) (q : ℕ) (a b : Places)
    (same : (g : ℕ) → g < s.regions → SameRow a b (row_of s q g)) where
  role_same : (k : Known) → LiesIn s q k → b.role (row_in s k.version) ≡ a.role (row_in s k.version)
  role_same k lies =
      let at = row_of_at s k.version q lies.region lies.place lies.at in
      ap b.role at ∙ ((same lies.region lies.at.region_fits).role ∙ ap a.role (sym at))

  dead_same : (k : Known) → LiesIn s q k → b.dead (row_in s k.version) ≡ a.dead (row_in s k.version)
  dead_same k lies =
      let at = row_of_at s k.version q lies.region lies.place lies.at in
      ap b.dead at ∙ ((same lies.region lies.at.region_fits).dead ∙ ap a.dead (sym at))

  lies_own : (index : Index) (k : Known) → IsOwn s q index k → LiesIn s q k
  lies_own index k own = record { region = own.region; place = own.place; at = own.at }

  -- so hands stay where its rows are the same
  pub hands_same : (index : Index) (hands : Hands) → AreIndexed s q index a hands
      → AreIndexed s q index b hands
  hands_same index hands h = record {
    held = h.held;
    own = h.own;
    kept = λ k there. ap is_kept (role_same k (lies_own index k (h.own k there))) ∙ h.kept k there;
    left = h.left;
    given = λ k there. role_same k (h.left k there) ∙ h.given k there;
    alive = λ k there lives. h.alive k there (sym (dead_same k (h.left k there)) ∙ lives);
    all = h.all;
    once = h.once;
  }

  -- and a draft
  pub drafting_same : (d : Draft) (held : List Known) (h : Heap) (words : List ℕ)
      (history : List Entry)
      → h.places ≡ a
      → ((v : Version) (i : ℕ) → slice_index words (word_at s v i) ≡ slice_index h.words
      (word_at s v i))
      → IsDrafting s q d held h
      → IsDrafting s q d held
      record { words = words; index = h.index; places = b; history = history }
  drafting_same d held h words history is beside was =
      let row = same d.region was.region in record {
        region = was.region;
        to = row.role ∙ (ap (λ z. z.role (row_of s q d.region)) (sym is) ∙ was.to);
        live = row.dead ∙ (ap (λ z. z.dead (row_of s q d.region)) (sym is) ∙ was.live);
        used = was.used ∙ (ap (λ z. z.used (row_of s q d.region)) is ∙ sym row.used);
        wide = was.wide;
        written = λ room j w e. beside (version_at s q d.region d.used) j ∙ was.written room j w e;
        named = was.named;
      }

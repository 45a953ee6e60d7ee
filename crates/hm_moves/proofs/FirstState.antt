-- The state of a fresh heap, which is an opening of the rules of use again.
use Rattle.std.proofs.Common.{◌≡◌, ◌≢◌, ◌⊎◌, ◌↔◌, ◌<◌, ◌≤◌, ◌+◌, ◌-◌, ◌*◌, ◌/◌, ◌%◌, ◌==◌, nat_lt, ℕ, zero, suc, Bool, true, false, not, ◌||◌, List, slice_index, if◌then◌else◌, refl, sym, ap, ⊎_elim, ◌∙◌, subst, arith, ne_eqb}
use Rattle.hm_moves.proofs.Words.{nat_tests, common_steps, eqb_tells, Shape, Version, word_at, Name, starting_name, fresh_roles, total}
use Rattle.std.proofs.Math.Nat.{div-eq_of_lt, div-lt_iff_lt-mul}
use Rattle.hm_shape.specs.declared.roles.Role.{Role}
use Rattle.hm_shape.specs.declared.roles.Role.TheVariants.{Free, To}
use Rattle.hm_moves.specs.Cycles.{field_count, field_word, is_from, role_at}
use Rattle.hm_moves.specs.Showing.{name_shown, version_shown, role_shown, owner_shown, shape_shown}
use Rattle.hm_rounds.specs.Phases as rounds
use Rattle.hm_rounds.specs.State.{State}
use Rattle.hm_rounds.specs.Views.{title}
use Rattle.hm_rounds.specs.Runs.{IsOpening}
use Rattle.hm_moves.proofs.Named.{name_once}

-- the objects that a heap starts with have these numbers
abbrev pub object_at : ℕ → ℕ
object_at v = name_shown (starting_name v)

object_once : (v w : ℕ) → object_at v ≡ object_at w → v ≡ w
object_once v w e = ap (λ (n : Name). n.count) (name_once (starting_name v) (starting_name w) e)

-- an object's one version, of the first n, or 0 where it is none of theirs
abbrev pub found_of : ℕ → ℕ → ℕ
found_of zero o = 0
found_of (suc n) o = if o == object_at n then suc n else found_of n o

found_here : (n v : ℕ) → v < n → found_of n (object_at v) ≡ suc v
found_here zero v low = absurd (omega arith)
found_here (suc n) v low =
    grind (arith, nat_tests, eqb_tells (object_at v) (object_at n), object_once v n, found_here n v)

-- what is found is of one of them
pub found_back : (n o v : ℕ) → found_of n o ≡ suc v → (v < n) × (o ≡ object_at v)
found_back zero o v e = absurd (omega (arith, e))
found_back (suc n) o v e = grind (arith, nat_tests, eqb_tells o (object_at n), found_back n o v)

-- a caller's first region is To, and its others are Free
abbrev pub first_role : ℕ → ℕ → Role
first_role regions row = if row % regions == 0 then To else Free

-- so the roles of each caller say
pub row_roles : (regions q g : ℕ) → regions ≡ 4 → g < regions
    → role_at fresh_roles g ≡ first_role regions (q * regions + g)
row_roles regions q g four low =
    subst (λ (n : ℕ). role_at fresh_roles g ≡ first_role n (q * n + g)) (sym four)
    (by_four q g (omega (arith, four, low)))
  where
    by_four : (q g : ℕ) → g < 4 → role_at fresh_roles g ≡ first_role 4 (q * 4 + g)
    by_four q zero low = let e : (q * 4 + 0) % 4 ≡ 0 = omega arith in rw (e) refl
    by_four q (suc zero) low = let e : (q * 4 + 1) % 4 ≡ 1 = omega arith in rw (e) refl
    by_four q (suc (suc zero)) low = let e : (q * 4 + 2) % 4 ≡ 2 = omega arith in rw (e) refl
    by_four q (suc (suc (suc zero))) low = let e : (q * 4 + 3) % 4 ≡ 3 = omega arith in rw (e) refl
    by_four q (suc (suc (suc (suc g)))) low = absurd (omega arith)

-- no other region is To
pub only_first : (g : ℕ) → role_at fresh_roles g ≡ To → g ≡ 0
only_first zero e = refl
only_first (suc g) e = absurd (other g e)
  where
    other : (g : ℕ) → role_at fresh_roles (suc g) ≡ To → ⊥
    other zero e = cc
    other (suc zero) e = cc
    other (suc (suc zero)) e = cc
    other (suc (suc (suc zero))) e = cc
    other (suc (suc (suc (suc zero)))) e = cc
    other (suc (suc (suc (suc (suc zero))))) e = cc
    other (suc (suc (suc (suc (suc (suc zero)))))) e = cc
    other (suc (suc (suc (suc (suc (suc (suc g))))))) e = cc

-- none of these is From
pub not_from : (regions row : ℕ) → is_from (first_role regions row) ≡ false
not_from regions row = grind (arith, common_steps, nat_tests)

low_or_high : (f : ℕ) → (4 ≤ f) ⊎ (f < 4)
low_or_high f = grind (arith, nat_tests)

-- nobody has moved the stage
pub none_moved : (n : ℕ) → total (λ q. 0) n ≡ 0
none_moved zero = refl
none_moved (suc n) = let e = none_moved n in omega (arith, e)

row_zero : (versions v : ℕ) → v < versions → v / versions ≡ 0
row_zero versions v low = div-eq_of_lt low

owner_low : (s : Shape) (row : ℕ) → owner_shown s row < s.callers
owner_low s row =
    let some : 0 < s.regions = omega (arith, s.regions_fit) in
    let iff : (row / s.regions < s.callers) ↔ (row < s.callers * s.regions) = div-lt_iff_lt-mul
    some in
    let one : 0 < s.callers = omega (arith, s.callers_fit) in
    let back : row < s.callers * s.regions → row / s.regions < s.callers = iff.1 in
    grind (arith, nat_tests, common_steps, back, one)

module _ (s : Shape) (n : ℕ) (words : List ℕ) (common : Version) (next : ℕ → ℕ) where
  -- what the fields of versions name
  abbrev pub first_word : ℕ → ℕ → ℕ
  first_word zero f = 0
  first_word (suc v) f =
      if nat_lt f field_count then slice_index words (word_at s record { 0 = v } (field_word f))
      else 0

  -- what they are versions of, which of them are used, and how many of a row
  abbrev pub first_object : ℕ → ℕ
  first_object zero = 0
  first_object (suc v) = object_at v

  abbrev pub first_used : ℕ → Bool
  first_used zero = false
  first_used (suc v) = nat_lt v n

  abbrev pub first_filled : ℕ → ℕ
  first_filled row = if row == 0 then n else 0

  -- the state of a fresh heap
  abbrev pub first_state : State
  first_state = record {
    shape = shape_shown s;
    clock = record {
      number = 1;
      done = 0;
      phase = rounds.Idle;
      seen = λ q. 1;
      seen_done = λ q. 0;
      seen_phase = λ q. rounds.Idle;
      replied = λ q. 0;
      reply = λ q. rounds.Joined;
      known = λ q r. 0;
      known_reply = λ q r. rounds.Joined;
    };
    ties = record { last = λ q. 0; done = λ q. 0 };
    masks = record { loaded = λ q r. false; from = λ q r. false };
    roles = λ row. role_shown (first_role s.regions row);
    uses = record {
      used = first_used;
      filled = first_filled;
      made = first_filled;
      freed = λ row. 0;
      total = n;
    };
    versions = record { word = first_word; object = first_object; rank = λ v. 0 };
    store = record {
      has = λ o. not (found_of n o == 0);
      refs = λ o f. (title
          record { word = first_word; object = first_object; rank = λ v. 0 }
          (first_word (found_of n o) f));
    };
    scan = record { mark = λ q. false; passed = λ q v f. false; ends = λ q o r. false };
    hands = record {
      held = λ q v. (version_shown common == v) || false;
      next = next;
      written = λ q f.
          false;
    };
    bare = λ q. false;
  }

  module _ (room : n ≤ s.versions) (low : common.0 < n)
      (linked : (v : ℕ) → v < n → first_word (suc v) 0 ≡ 0)
      (refers : (v f : ℕ) → v < n → f < 4 → (first_word (suc v) (suc f) ≡ 0)
      ⊎ ((w : ℕ) × (w < n) × (first_word (suc v) (suc f) ≡ suc w))) where
    low_used : (v : ℕ) → first_used v ≡ true → (w : ℕ) × (w < n) × (v ≡ suc w)
    low_used zero e = absurd (cc)
    low_used (suc w) e = (w, grind (arith, nat_tests), refl)

    used_low : (w : ℕ) → w < n → first_used (suc w) ≡ true
    used_low w less = grind (arith, nat_tests)

    held_low : (v : ℕ) → ((version_shown common == v) || false) ≡ true → first_used v ≡ true
    held_low v e =
        grind (arith, nat_tests, eqb_tells (version_shown common) v, used_low common.0 low)

    first_row : (v : ℕ) → first_used v ≡ true → (shape_shown s).region v ≡ 0
    first_row zero e = absurd (cc)
    first_row (suc w) e =
        let same : suc w - 1 ≡ w = omega arith in
        rw (same) (row_zero s.versions w (grind (arith, nat_tests)))

    first_to : (v : ℕ) → first_used v ≡ true
        → role_shown (first_role s.regions ((shape_shown s).region v))
        ≡ rounds.To
    first_to v e =
        let four : s.regions ≡ 4 = s.regions_fit in
        let zero_mod : 0 % s.regions ≡ 0 = subst (λ (m : ℕ). 0 % m ≡ 0) (sym four) refl in
        rw (first_row v e) (rw (zero_mod) refl)

    -- a version has no more fields than five
    beyond_zero : (w f : ℕ) → 4 ≤ f → first_word (suc w) (suc f) ≡ 0
    beyond_zero w f high = grind (arith, nat_tests, common_steps)

    named_used : (v f : ℕ) → first_used v ≡ true → first_word v f ≢ 0 → first_used (first_word v f)
        ≡ true
    named_used zero f e some = absurd (cc)
    named_used (suc v) zero e some = absurd (some (linked v (grind (arith, nat_tests))))
    named_used (suc v) (suc f) e some = ⊎_elim
        (λ (high : 4 ≤ f). absurd (some (beyond_zero v f high)))
        (λ (less : f < 4). ⊎_elim
        (λ (z : first_word (suc v) (suc f) ≡ 0). absurd (some z))
        (λ (r : (w : ℕ) × (w < n) × (first_word (suc v) (suc f) ≡ suc w)).
        ap first_used r.2 ∙ used_low r.0 r.1)
        (refers v f (grind (arith, nat_tests)) less))
        (low_or_high f)

    link_zero : (v : ℕ) → first_used v ≡ true → first_word v 0 ≡ 0
    link_zero zero e = refl
    link_zero (suc v) e = linked v (grind (arith, nat_tests))

    single_object : (v w : ℕ) → first_used v ≡ true → first_used w ≡ true → first_object w
        ≡ first_object v
        → w ≡ v
    single_object zero w a b e = absurd (cc)
    single_object (suc v) zero a b e = absurd (cc)
    single_object (suc v) (suc w) a b e = ap suc (object_once w v e)

    found_object : (v : ℕ) → first_used v ≡ true → found_of n (first_object v) ≡ v
    found_object zero e = absurd (cc)
    found_object (suc v) e = found_here n v (grind (arith, nat_tests))

    some_object : (v : ℕ) → first_used v ≡ true → first_object v ≢ 0
    some_object zero a e = absurd (cc)
    some_object (suc v) a e = omega (arith, e)

    some_used : (v : ℕ) → first_used v ≡ true → v ≢ 0
    some_used zero a e = absurd (cc)
    some_used (suc v) a e = omega (arith, e)

    -- it is an opening
    pub opens : IsOpening first_state
    opens = record {
      wide = omega arith;
      owners = owner_low s;
      phase = refl;
      number = refl;
      done = refl;
      seen = λ q. refl;
      seen_done = λ q. refl;
      seen_phase = λ q. refl;
      replied = λ q. refl;
      known = λ q r. refl;
      last = λ q. refl;
      joined = λ q. refl;
      loaded = λ q r. refl;
      passed = λ q v f. refl;
      ends = λ q o r. refl;
      written = λ q f. refl;
      held = λ q v. held_low v;
      used = first_to;
      named = named_used;
      links = link_zero;
      ranks = λ v e. refl;
      single = single_object;
      objects = λ v e. (
        some_object v e,
        ap (λ (k : ℕ). not (k == 0)) (found_object v e) ∙ ap not (ne_eqb v 0 (some_used v e)),
      );
      refs = λ v f e some few. ap (λ (k : ℕ). title first_state.versions (first_word k f))
          (found_object v e);
      counts = λ row. (grind (arith, nat_tests, common_steps, room), refl, refl);
      total = λ v e. omega (arith, low);
    }

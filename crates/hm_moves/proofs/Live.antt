-- Which versions are live and whose they are: the same in a heap and in the state that it shows.
-- The lemmas take s, h, moves, x and shows; from live_at on also the rule of x, behind these; from
-- published_live on also placed; from own_mine to look_may also the part p, mine, hands and low. So
-- from_shown needs neither rule nor placed.
use Rattle.std.proofs.Common.{◌≡◌, ◌<◌, ◌≤◌, ◌+◌, ◌*◌, ◌/◌, ◌&&◌, ◌==◌, ℕ, zero, suc, Bool, true, false, nat_lt, List, [], ◌∷◌, Option, Some, None, IsSome, is_some, Contains, refl, sym, ap, ◌∙◌, subst, arith, inl, inr, ⊎_elim, lt-ltb, ltb-true, eq-eqb, eqb-true}
use Rattle.std.proofs.lemmas.Bool.Decides.{nat_tests}
use Rattle.std.proofs.lemmas.Bool.{and_parts, cases_Bool, cases_lt, both_ways}
use Rattle.std.proofs.lemmas.List.Elements.{Contains-append_cases}
use Rattle.std.specs.List.{list_any}
use Rattle.hm_shape.specs.Versions.{owner_of, region_of, version_count}
use Rattle.hm_shape.specs.declared.reply.Reply.{Reply}
use Rattle.hm_shape.specs.declared.stage.Phase.{Phase}
use Rattle.hm_shape.specs.declared.stage.Phase.TheVariants.{Idle, Join, First, Second}
use Rattle.hm_shape.specs.declared.roles.Role.{Role}
use Rattle.hm_shape.specs.declared.roles.Role.TheVariants.{Free, To, Old, From}
use Rattle.hm_shape.specs.declared.roles.Roles.{Roles}
use Rattle.hm_shape.specs.declared.shape.Shape.{Shape}
use Rattle.hm_shape.specs.declared.version.Version.{Version}
use Rattle.hm_moves.specs.declared.part.Known.{Known}
use Rattle.hm_moves.specs.declared.part.Part.{Part}
use Rattle.hm_moves.specs.Allowed.{MayLookInto}
use Rattle.hm_moves.specs.Chain.{IsPublished}
use Rattle.hm_moves.specs.Cycles.{gives_from, is_before, is_first, is_from, is_kept, is_open, is_scanning, known_from, mask_of}
use Rattle.hm_moves.specs.Good.{AreIndexed, row_in}
use Rattle.hm_moves.specs.Places.{Heap, ArePlaced, IsOwn, row_count, row_of}
use Rattle.hm_moves.specs.Showing.{IsReplyOf, ShowsClock, ShowsHeap, ShowsPart, ShowsScan, phase_shown, owner_shown, role_shown, shape_shown, version_shown}
use Rattle.hm_moves.proofs.Numbers.{row_below, owner_of_row, row_parts, version_parts, row_in_place, region_shown, region_of_shown, owner_of_version, region_of_version}
use Rattle.hm_rounds.specs.Phases as phases
use Rattle.hm_rounds.specs.State.{State}
use Rattle.hm_rounds.specs.Views as rounds
use Rattle.hm_rounds.specs.Allowed as allowed
use Rattle.hm_rounds.specs.Rule as rule

-- a role is From, or kept, where it is shown as that
pub from_back : (r : Role) → role_shown r ≡ phases.From → is_from r ≡ true
from_back Free e = grind arith
from_back To e = grind arith
from_back Old e = grind arith
from_back From e = refl

-- and is shown so where it is
pub from_on : (r : Role) → is_from r ≡ true → role_shown r ≡ phases.From
from_on Free e = grind arith
from_on To e = grind arith
from_on Old e = grind arith
from_on From e = refl

-- it is kept where it is shown as kept
pub kept_shown : (r : Role) → phases.is_kept (role_shown r) ≡ is_kept r
kept_shown Free = refl
kept_shown To = refl
kept_shown Old = refl
kept_shown From = refl

-- and From where it is shown as From
pub from_role_shown : (r : Role) → phases.is_from (role_shown r) ≡ is_from r
from_role_shown Free = refl
from_role_shown To = refl
from_role_shown Old = refl
from_role_shown From = refl

kept_not_from : (r : Role) → is_kept r ≡ true → is_from r ≡ false
kept_not_from Free e = refl
kept_not_from To e = refl
kept_not_from Old e = refl
kept_not_from From e = grind arith

-- what a list contains passes where one of it does
pub any_contains : {A : Type 0} (f : A → Bool) (l : List A) (a : A) → Contains l a → f a ≡ true
    → list_any f l
    ≡ true
any_contains f [] a h e = let low = h.1 in absurd (omega arith)
any_contains f (x ∷ xs) a (zero, low, is) e = grind arith
any_contains f (x ∷ xs) a (suc k, low, is) e =
    let rest : list_any f xs ≡ true = any_contains f xs a (k, (omega arith), is) e in grind arith

-- and one passes where one of a list does
pub any_found : {A : Type 0} (f : A → Bool) (l : List A) → list_any f l ≡ true → (a : A)
    × Contains l a
    × (f a ≡ true)
any_found f [] e = grind arith
any_found f (x ∷ xs) e = ⊎_elim
    (λ (t : f x ≡ true). (x, (zero, (omega arith), refl), t))
    (λ (t : f x ≡ false). let rest : list_any f xs ≡ true = grind arith in
    let r = any_found f xs rest in (r.0, (suc r.1.0, (let low = r.1.1 in omega arith), r.1.2), r.2))
    (cases_Bool (f x))

-- there is one, and it is so
pub some_there : {A : Type 0} (o : Option A) → IsSome o → (a : A) × (o ≡ Some a)
some_there None h = grind (arith, h)
some_there (Some a) h = (a, refl)

-- masks say the same
mask_from : (o : Option Roles) (g : ℕ) (loaded from : Bool) → loaded ≡ is_some o
    → (loaded ≡ true → from ≡ gives_from o g) → (loaded && from) ≡ gives_from o g
mask_from None g loaded from e f = grind (arith, e)
mask_from (Some r) g loaded from e f = let l : loaded ≡ true = e in let is = f l in
    grind (arith, l, is)

-- what the masks of a caller say of a version, they say in the state
pub from_scan : {U : Type 0} (x : State) (p : Part U) → x.shape ≡ shape_shown p.site.shape
    → ShowsScan p x
    → (v : Version) → v.0 < version_count p.site.shape
    → rounds.known_from x.shape x.masks p.number (version_shown v) ≡ known_from p v
from_scan x p shape scan v low =
    let s : Shape = p.site.shape in
    let b = version_parts s v.0 low in
    let r = row_parts s b.0 b.2 in
    let q : ℕ = r.0 in
    let g : ℕ = r.1 in
    let row : ℕ = row_of s q g in
    let number : v.0 ≡ row * s.versions + b.1 = b.4 ∙ ap (λ (n : ℕ). n * s.versions + b.1) r.4 in
    let at : x.shape.region (version_shown v) ≡ row = ap (λ z. z.region (suc v.0)) shape
    ∙ (ap (λ (n : ℕ). (shape_shown s).region (suc n)) number ∙ region_shown s row b.1 b.3) in
    let owner : x.shape.owner row ≡ q = ap (λ z. z.owner row) shape ∙ owner_of_row s q g r.2 r.3 in
    let owner_v : owner_of s v ≡ q = owner_of_version s v q g b.1 r.2 r.3 b.3 number in
    let region_v : region_of s v ≡ g = region_of_version s v q g b.1 r.2 r.3 b.3 number in
    let there : rounds.known_from x.shape x.masks p.number (version_shown v)
    ≡ (x.masks.loaded p.number q && x.masks.from p.number row) =
    ap (λ (n : ℕ). x.masks.loaded p.number (x.shape.owner n) && x.masks.from p.number n) at
    ∙ ap (λ (n : ℕ). x.masks.loaded p.number n && x.masks.from p.number row) owner in
    let here : known_from p v ≡ gives_from (mask_of p q) g =
    ap (λ (n : ℕ). gives_from (mask_of p n) (region_of s v)) owner_v
    ∙ ap (gives_from (mask_of p q)) region_v in
    there ∙ (mask_from (mask_of p q) g (x.masks.loaded p.number q) (x.masks.from p.number row)
    (scan.loaded q r.2) (scan.from q g r.2 r.3) ∙ sym here)

-- a number is before another where it is so one higher
before_shown : (r : Option Reply) (number replied : ℕ) (kind : phases.Reply) → IsReplyOf r replied
    kind
    → nat_lt replied (number + 1) ≡ is_before r number
before_shown None number replied kind e = lt-ltb replied (number + 1) (omega arith)
before_shown (Some r) number replied kind e = let is = e.0 in grind (arith, nat_tests, is)

first_shown : (f : Phase) → phases.is_first (phase_shown f) ≡ is_first f
first_shown Idle = refl
first_shown Join = refl
first_shown First = refl
first_shown Second = refl

-- a caller scans in the state where it scans in the heap
pub scanning_shown : {U : Type 0} (moves : ℕ → ℕ) (x : State) (p : Part U) → ShowsClock p moves x
    → rounds.is_scanning x.clock p.number ≡ is_scanning p
scanning_shown moves x p shown =
    let phase : phases.is_first (x.clock.seen_phase p.number) ≡ is_first p.cycle.clock.stage.phase =
    ap phases.is_first shown.seen.phase_is ∙ first_shown p.cycle.clock.stage.phase in
    let open_yet : nat_lt (x.clock.replied p.number) (x.clock.seen p.number) ≡ is_open p =
    ap (nat_lt (x.clock.replied p.number)) shown.seen.number_is
    ∙ before_shown p.cycle.clock.reply p.cycle.clock.stage.number (x.clock.replied p.number)
    (x.clock.reply p.number) shown.reply in
    ap (λ (b : Bool). b && nat_lt (x.clock.replied p.number) (x.clock.seen p.number)) phase
    ∙ ap (λ (b : Bool). is_first p.cycle.clock.stage.phase && b) open_yet

module _ (s : Shape) (h : Heap) (moves : ℕ → ℕ) (x : State) (shows : ShowsHeap s h moves x) where
  -- a version lies in the row of its number
  pub region_is : (v row i : ℕ) → i < s.versions → v ≡ row * s.versions + i → x.shape.region (suc v)
      ≡ row
  region_is v row i low is = ap (λ z. z.region (suc v)) shows.shape ∙ region_of_shown s v
      ∙ (ap (λ (n : ℕ). n / s.versions) is ∙ row_in_place s row i low)

  -- and that is its region in the state
  pub region_row : (v : Version) → x.shape.region (version_shown v) ≡ row_in s v
  region_row v = ap (λ z. z.region (suc v.0)) shows.shape ∙ region_of_shown s v.0

  -- and a row has its owner
  pub owner_is : (row : ℕ) → x.shape.owner row ≡ owner_shown s row
  owner_is row = ap (λ z. z.owner row) shows.shape

  -- a row of a caller has that owner
  pub owner_at : (q g : ℕ) → q < s.callers → g < s.regions → x.shape.owner (row_of s q g) ≡ q
  owner_at q g a b = owner_is (row_of s q g) ∙ owner_of_row s q g a b

  module _ (rule : rule.Good x) where
    -- a version at a used place of a row that is not dead is live
    pub live_at : (v row i : ℕ) → row < row_count s → i < s.versions → v ≡ row * s.versions + i
        → i < h.places.used row → h.places.dead row ≡ false → rounds.Live x (suc v)
    live_at v row i low small is place alive =
        let at = region_is v row i small is in
        let used : x.uses.used (suc v) ≡ true = ap (λ (n : ℕ). x.uses.used (suc n)) is
        ∙ (shows.used row i low small
        ∙ lt-ltb i (h.places.used row) place) in
        record {
          is_used = used;
          not_free = rule.safe.in_use (suc v) used;
          not_dead = λ dead.
              let role : x.roles row ≡ phases.From = ap x.roles (sym at) ∙ dead.is_from in
              let from : is_from (h.places.role row) ≡ true =
              from_back (h.places.role row) (sym (shows.role row low) ∙ role) in
              let ties : x.ties.done (x.shape.owner (x.shape.region (suc v)))
              ≡ x.ties.done (owner_shown s row) =
              ap (λ (n : ℕ). x.ties.done (x.shape.owner n)) at ∙ ap x.ties.done (owner_is row) in
              let before : x.ties.done (owner_shown s row) < x.clock.done =
              subst (λ (n : ℕ). n < x.clock.done) ties dead.before in
              let passed : nat_lt (x.ties.done (owner_shown s row)) x.clock.done ≡ true =
              lt-ltb (x.ties.done (owner_shown s row)) x.clock.done before in
              let is_dead = shows.dead row low in grind (arith, is_dead, from, passed, alive);
        }

    -- and each live version lies so
    pub at_live : (v : ℕ) → rounds.Live x (suc v) → (row : ℕ) × (i : ℕ) × (row < row_count s)
        × (i < s.versions)
        × (v ≡ row * s.versions + i) × (i < h.places.used row) × (h.places.dead row ≡ false)
    at_live v live = ⊎_elim
        (λ (low : v < version_count s).
        let b = version_parts s v low in
        let row : ℕ = b.0 in
        let i : ℕ = b.1 in
        let at = region_is v row i b.3 b.4 in
        let used : nat_lt i (h.places.used row) ≡ true = sym (shows.used row i b.2 b.3)
        ∙ (ap (λ (n : ℕ). x.uses.used (suc n)) (sym b.4) ∙ live.is_used) in (
          row,
          i,
          b.2,
          b.3,
          b.4,
          ltb-true i (h.places.used row) used,
          ⊎_elim
              (λ (t : h.places.dead row ≡ true).
              let both = and_parts (is_from (h.places.role row))
              (nat_lt (x.ties.done (owner_shown s row)) x.clock.done)
              (sym (shows.dead row b.2) ∙ t) in
              let before = ltb-true (x.ties.done (owner_shown s row)) x.clock.done both.1 in
              let ties : x.ties.done (x.shape.owner (x.shape.region (suc v)))
              ≡ x.ties.done (owner_shown s row) =
              ap (λ (n : ℕ). x.ties.done (x.shape.owner n)) at ∙ ap x.ties.done (owner_is row) in
              absurd (live.not_dead record {
                is_from = ap x.roles at ∙ (shows.role row b.2 ∙ from_on (h.places.role row) both.0);
                before = subst (λ (n : ℕ). n < x.clock.done) (sym ties) before;
              }))
              (λ (t : h.places.dead row ≡ false). t)
              (cases_Bool (h.places.dead row)),
        ))
        (λ (high : version_count s ≤ v).
        absurd (both_ways (x.uses.used (suc v)) (shows.beyond v high) live.is_used))
        (cases_lt v (version_count s))

    module _ (placed : ArePlaced s h.index h.places.dead h.places.used) where
      -- where a published version lies
      pub place_of_published : (k : Known) → IsPublished h.index k
          → (row : ℕ) × (i : ℕ) × (row < row_count s) × (i < s.versions)
          × (k.version.0 ≡ row * s.versions + i)
          × (i < h.places.used row) × (h.places.dead row ≡ false)
      place_of_published k there =
          let b = version_parts s k.version.0 (placed.fits k there) in
          let row : ℕ = b.0 in
          let i : ℕ = b.1 in
          let here : h.index (row * s.versions + i) ≡ Some k = ap h.index (sym b.4) ∙ there in (
            row,
            i,
            b.2,
            b.3,
            b.4,
            ⊎_elim (λ (t : i < h.places.used row). t)
                (λ (t : h.places.used row ≤ i). let none = placed.unused row i b.2 b.3 t in
                let both : None ≡ Some k = sym none ∙ here in cc)
                (cases_lt i (h.places.used row)),
            ⊎_elim
                (λ (t : h.places.dead row ≡ true). let none = placed.empty row i b.2 b.3 t in
                let both : None ≡ Some k = sym none ∙ here in cc)
                (λ (t : h.places.dead row ≡ false). t)
                (cases_Bool (h.places.dead row)),
          )

      -- a published version is live
      pub published_live : (k : Known) → IsPublished h.index k
          → rounds.Live x (version_shown k.version)
      published_live k there = let b = place_of_published k there in
          live_at k.version.0 b.0 b.1 b.2 b.3 b.4 b.5 b.6

      -- a live version is published
      pub live_published : (v : ℕ) → rounds.Live x (suc v) → (k : Known) × IsPublished h.index k
          × (k.version.0 ≡ v)
      live_published v live =
          let b = at_live v live in
          let k = some_there (h.index (b.0 * s.versions + b.1))
          (placed.taken b.0 b.1 b.2 b.6 b.5) in
          let here : h.index v ≡ Some k.0 = ap h.index b.4 ∙ k.1 in
          let number : k.0.version.0 ≡ v = placed.numbered v k.0 here in
          (k.0, ap h.index number ∙ here, number)

      -- a caller's own version is live
      pub mine_live : (q : ℕ) (v : ℕ) → rounds.Mine x q (suc v) → rounds.Live x (suc v)
      mine_live q v own = record {
        is_used = own.is_used;
        not_free = λ e. let both : phases.is_kept phases.Free ≡ true = ap phases.is_kept (sym e)
            ∙ own.is_kept in
            grind (arith, both);
        not_dead = λ e. let both : phases.is_kept phases.From ≡ true =
            ap phases.is_kept (sym e.is_from) ∙ own.is_kept in grind (arith, both);
      }

      module _ {U : Type 0} (p : Part U) (mine : ShowsPart s moves x p)
          (hands : AreIndexed s p.number h.index h.places p.hands)
          (low : p.number < s.callers) where
        -- a caller's own versions are so in the state
        pub own_mine : (k : Known) → Contains p.hands.own k → rounds.Mine x p.number
            (version_shown k.version)
        own_mine k own =
            let is = hands.own k own in
            let v : ℕ = k.version.0 in
            let row : ℕ = row_of s p.number is.region in
            let number : v ≡ row * s.versions + is.place = ap (λ (z : Version). z.0) is.at.number in
            let small = is.at.place_fits in
            let below = row_below s p.number is.region low is.at.region_fits in
            let at = region_is v row is.place small number in
            let same : row_in s k.version ≡ row = sym (region_row k.version) ∙ at in
            record {
              is_owner = ap x.shape.owner at ∙ owner_at p.number is.region low is.at.region_fits;
              is_used = (published_live k is.published).is_used;
              is_kept = ap (λ (n : ℕ). phases.is_kept (x.roles n)) at
                  ∙ (ap phases.is_kept (shows.role row below) ∙ (kept_shown (h.places.role row)
                  ∙ (ap (λ (n : ℕ). is_kept (h.places.role n)) (sym same) ∙ hands.kept k own)));
            }

        kept_back : (row : ℕ) → row < row_count s → phases.is_kept (x.roles row) ≡ true
            → is_kept (h.places.role row) ≡ true
        kept_back row low e = sym (kept_shown (h.places.role row))
            ∙ (ap phases.is_kept (sym (shows.role row low)) ∙ e)

        mine_in : (v row i : ℕ) → row < row_count s → i < s.versions → v ≡ row * s.versions + i
            → (k : Known)
            → IsPublished h.index k → k.version.0 ≡ v → rounds.Mine x p.number (suc v)
            → Contains p.hands.own k
        mine_in v row i below small is k there number own =
            let parts = row_parts s row below in
            let at = region_is v row i small is in
            let owner : parts.0 ≡ p.number =
            sym (ap x.shape.owner (at ∙ parts.4) ∙ owner_at parts.0 parts.1 parts.2 parts.3)
            ∙ own.is_owner in
            let row_is : row ≡ row_of s p.number parts.1 =
            parts.4 ∙ ap (λ (n : ℕ). row_of s n parts.1) owner in
            let place : k.version.0 ≡ row_of s p.number parts.1 * s.versions + i =
            number ∙ (is ∙ ap (λ (n : ℕ). n * s.versions + i) row_is) in
            let lies : IsOwn s p.number h.index k = record {
              published = there;
              region = parts.1;
              place = i;
              at = record {
                number = λ j. record { 0 = place j };
                owner_fits = low;
                region_fits = parts.3;
                place_fits = small;
              };
            } in
            let row_k : row_in s k.version ≡ row =
            sym (region_row k.version) ∙ (ap (λ (n : ℕ). x.shape.region (suc n)) number ∙ at) in
            let kept_row : is_kept (h.places.role row) ≡ true = kept_back row below
            (ap (λ (n : ℕ). phases.is_kept (x.roles n)) (sym at) ∙ own.is_kept) in
            let kept : is_kept (h.places.role (row_in s k.version)) ≡ true =
            subst (λ (n : ℕ). is_kept (h.places.role n) ≡ true) (sym row_k) kept_row in
            ⊎_elim
            (λ (t : Contains p.hands.left k). let from = hands.given k t in
            let both : is_kept From ≡ true = ap is_kept (sym from) ∙ kept in grind (arith, both))
            (λ (t : Contains p.hands.own k). t)
            (Contains-append_cases p.hands.left p.hands.own k (hands.all k lies))

        -- and no others
        pub mine_own : (v : ℕ) → rounds.Mine x p.number (suc v)
            → (k : Known) × Contains p.hands.own k × (k.version.0 ≡ v)
        mine_own v own =
            let live = mine_live p.number v own in
            let found = live_published v live in
            let b = at_live v live in
            (found.0, mine_in v b.0 b.1 b.2 b.3 b.4 found.0 found.1 found.2 own, found.2)

        -- what it holds it holds there
        pub held_shown : (k : Known) → Contains p.hands.held k
            → x.hands.held p.number (version_shown k.version) ≡ true
        held_shown k held = mine.hands.held (version_shown k.version)
            ∙ any_contains (λ m. version_shown m.version == version_shown k.version) p.hands.held k
            held
            (eq-eqb (version_shown k.version) (version_shown k.version) refl)

        -- and no others
        pub held_known : (v : ℕ) → x.hands.held p.number (suc v) ≡ true
            → (k : Known) × Contains p.hands.held k × (k.version.0 ≡ v)
        held_known v held =
            let r = any_found (λ m. version_shown m.version == suc v) p.hands.held
            (sym (mine.hands.held (suc v)) ∙ held) in
            (r.0, r.1, let e = eqb-true (version_shown r.0.version) (suc v) r.2 in omega arith)

        -- what it may look into it may there
        pub look_may : (k : Known) → MayLookInto p k → allowed.MayLook x p.number
            (version_shown k.version)
        look_may k may = ⊎_elim (λ (t : Contains p.hands.held k). inl (held_shown k t))
            (λ (t : Contains p.hands.own k). inr (own_mine k t)) may

  -- what a caller knows as from-space it knows so there
  pub from_shown : {U : Type 0} (p : Part U) → ShowsPart s moves x p → (v : Version)
      → v.0 < version_count s
      → rounds.known_from x.shape x.masks p.number (version_shown v) ≡ known_from p v
  from_shown p mine v low = from_scan x p
      (subst (λ (z : Shape). x.shape ≡ shape_shown z) (sym mine.shape) shows.shape) mine.scan v
      (subst (λ (z : Shape). v.0 < version_count z) (sym mine.shape) low)

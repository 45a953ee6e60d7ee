-- Root places and hands that change.
use Rattle.std.proofs.Common.{◌≡◌, ◌<◌, ◌&&◌, ℕ, zero, suc, Bool, true, false, List, [], ◌∷◌, length, get_or, map, set, Option, Some, None, IfSome, Contains, All, if◌then◌else◌, refl, sym, ap, ◌∙◌, subst, arith, inr, length-set, get_or-set_same, get_or-set_other}
use Rattle.std.proofs.lemmas.Grind.{common_steps}
use Rattle.hm_cells.proofs.Words.{◌==◌, map-set, length-map, All-contains, All-contains_itself, All-set, Seat, Version, Name, Root, SetsRoot, name_at, Entry, PlainStore, Known, Facts, place_name, sight_of, with_root, without_first}
use Rattle.hm_cells.proofs.Words.{Knowledge, Gripped, HasScanned, IsAmong, IsSeated, MayEnd, Own, facts_of}

-- the name at a root place is that of the version there
pub name_place : (held : List Known) (roots : List (Option Version)) (i : ℕ)
    → name_at (map (place_name held) roots) i ≡ place_name held (get_or roots i None)
name_place held [] i = refl
name_place held (r ∷ rs) zero = refl
name_place held (r ∷ rs) (suc i) = name_place held rs i

-- a root place that is set has the name of its version, and the others have theirs
pub sets_root : {U : Type 0} (s : Facts U) (r : Root) (v : Option Version) → r.0 < length s.roots
    → SetsRoot (sight_of s) (sight_of (with_root s r v)) r.0 (place_name s.part.hands.held v)
sets_root s r v low =
    let f : Option Version → Option Name = place_name s.part.hands.held in
    let names : List (Option Name) = map f s.roots in
    let is : map f (set s.roots r.0 v) ≡ set names r.0 (f v) = map-set f s.roots r.0 v in
    let wide : length names ≡ length s.roots = length-map s.roots f in
    record {
      here = ap (λ (l : List (Option Name)). get_or l r.0 None) is
          ∙ get_or-set_same names r.0 (f v) None (omega arith);
      others = λ k ne. ap (λ (l : List (Option Name)). get_or l k None) is
          ∙ get_or-set_other names r.0 k (f v) None ne;
    }

without_was : (v w : Version) (l : List Version) → Contains (without_first v l) w → Contains l w
without_was v w [] c = c
without_was v w (x ∷ xs) c = go (v.0 == x.0) (without_was v w xs) c
  where
    later : Contains xs w → Contains (x ∷ xs) w
    later (i, low, is) = (suc i, (omega arith), is)

    go : (t : Bool) → (Contains (without_first v xs) w → Contains xs w)
        → Contains (if t then xs else x ∷ without_first v xs) w → Contains (x ∷ xs) w
    go true f d = later d
    go false f (zero, low, is) = (zero, (omega arith), is)
    go false f (suc i, low, is) = later (f (i, (omega arith), is))

-- what holds of a hand holds of a smaller one
pub all_without : (P : Version → Type 0) (v : Version) (l : List Version) → All P l
    → All P (without_first v l)
all_without P v l all = λ i d low.
    All-contains P l (get_or (without_first v l) i d) all
    (without_was v (get_or (without_first v l) i d) l (All-contains_itself (without_first v l) i d low))

-- a pass whose grip changes is seated as it was, where what the grip names is held
module _ {U : Type 0} (lawful : U → PlainStore → Type 0)
    (allowed : U → PlainStore → Entry → Type 0) (seat : Seat (Unit {0}) (Knowledge U))
    (grip grip' : Gripped U) (own : Own)
    (seated : IsSeated lawful allowed seat (facts_of seat grip) own) where
  abbrev s : Facts U
  s = facts_of seat grip

  seated_with : (roots : List (Option Version)) (hand : List Version) (scanned : Option ℕ)
      (tends : ℕ) → grip' ≡ record {
        site = grip.site;
        roots = roots;
        hand = hand;
        scanned = scanned;
        tends = tends;
      }
      → length roots ≡ 256 → All (λ r. IfSome r (IsAmong s.part.hands.held)) roots
      → All (IsAmong s.part.hands.held) hand → IfSome scanned (HasScanned s.part)
      → IsSeated lawful allowed seat (facts_of seat grip') own
  seated_with roots hand scanned tends is wide rooted handed kept =
      let sound = seated.sound in
      subst (λ (x : Gripped U). IsSeated lawful allowed seat (facts_of seat x) own) (sym is) record {
        own = seated.own;
        none = seated.none;
        sound = record {
          sure = sound.sure;
          old = sound.old;
          listed = sound.listed;
          counted = sound.counted;
          cleared = sound.cleared;
          scanned = kept;
          apart = sound.apart;
          wide = wide;
          rooted = rooted;
          handed = handed;
        };
        is = seated.is;
      }

  -- what a place names is held
  pub place_held : (i : ℕ) → i < 256 → IfSome (get_or s.roots i None) (IsAmong s.part.hands.held)
  place_held i low = seated.sound.rooted i None (omega (arith, low, seated.sound.wide))

  -- a place names another held version, or none
  pub seated_root : (i : ℕ) (v : Option Version) → grip' ≡ record grip { roots = set grip.roots i v }
      → IfSome v (IsAmong s.part.hands.held) → IsSeated lawful allowed seat (facts_of seat grip') own
  seated_root i v is held = seated_with (set grip.roots i v) grip.hand grip.scanned grip.tends is
      (length-set grip.roots i v ∙ seated.sound.wide)
      (All-set (λ r. IfSome r (IsAmong s.part.hands.held)) grip.roots i v held seated.sound.rooted)
      seated.sound.handed seated.sound.scanned

  -- a version leaves the hand
  pub seated_without : (v : Version) → grip' ≡ record grip { hand = without_first v grip.hand }
      → IsSeated lawful allowed seat (facts_of seat grip') own
  seated_without v is = seated_with grip.roots (without_first v grip.hand) grip.scanned grip.tends is
      seated.sound.wide seated.sound.rooted
      (all_without (IsAmong s.part.hands.held) v grip.hand seated.sound.handed) seated.sound.scanned

  -- its caller tended once more
  pub seated_tended : (tends : ℕ) → grip' ≡ record grip { tends = tends }
      → IsSeated lawful allowed seat (facts_of seat grip') own
  seated_tended tends is = seated_with grip.roots grip.hand grip.scanned tends is seated.sound.wide
      seated.sound.rooted seated.sound.handed seated.sound.scanned

  -- its scan ended clean in the First that it has seen
  pub seated_ended : MayEnd s.part
      → grip' ≡ record grip { scanned = Some s.part.cycle.clock.stage.number }
      → IsSeated lawful allowed seat (facts_of seat grip') own
  seated_ended may is = seated_with grip.roots grip.hand (Some s.part.cycle.clock.stage.number)
      grip.tends is seated.sound.wide seated.sound.rooted seated.sound.handed
      (inr (
        refl,
        first_true _ _ may.scans,
        λ o unmarked.
            (seated.sound.cleared may.cleared, first_of_three _ _ _ may.cleared),
      ))
    where
      first_true : (a b : Bool) → (a && b) ≡ true → a ≡ true
      first_true a b e = grind (arith, common_steps, e)

      first_of_three : (a b c : Bool) → (a && b && c) ≡ true → a ≡ true
      first_of_three a b c e = grind (arith, common_steps, e)

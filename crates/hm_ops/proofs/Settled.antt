-- A version that a step took, and what stands once it is settled at a root place.
use Rattle.std.proofs.Common.{◌≡◌, ◌<◌, ℕ, zero, suc, List, [], ◌∷◌, length, length-set, get_or, eq-eqb, unwrap_or, Option, Some, None, IfSome, refl, sym, ap, ◌∙◌, arith, subst, Contains}
use Rattle.std.specs.Option.{option_map}
use Rattle.std.proofs.Math.Seq.{map-set_same}
use Rattle.std.proofs.lemmas.List.Elements.{All-set, All-contains}
use Rattle.hm_shape.specs.declared.version.Version.{Version}
use Rattle.hm_model.specs.declared.entry.Entry.{Entry}
use Rattle.hm_model.specs.declared.root.Root.{Root}
use Rattle.hm_model.specs.Store.{PlainStore}
use Rattle.hm_model.specs.Sight.{name_at}
use Rattle.hm_moves.specs.declared.part.Known.{Known}
use Rattle.hm_moves.specs.declared.moving.Act.{Act}
use Rattle.hm_moves.proofs.Heaps.{IsWork}
use Rattle.hm_cells.specs.Facts.{Facts, Made, IsSound, IsHeldAt, find_version, known_at, names_at, nothing_known, place_name, sight_of, with_root, without_first, with_hand}
use Rattle.hm_cells.proofs.Found.{among, found_first}
use Rattle.hm_cells.proofs.Rooted.{name_place}
use Rattle.hm_ops.specs.Resting.{IsAtPlace, Keeps, Works}
use Rattle.hm_cells.specs.Calls.{Takes}
use Rattle.hm_ops.specs.Placing.{IsInHand, settled, Settles}
use Rattle.hm_ops.proofs.OneStep.{works_one, rest_works, hand_taken}
use Rattle.hm_moves.specs.Acts.{publishes}
use Rattle.hm_cells.proofs.Stepped.{found_held, new_held}

-- a place that is set lies in the list
pub place_below : {A : Type 0} (l : List (Option A)) (i : ℕ) (a : A) → get_or l i None ≡ Some a → i < length l
place_below [] i a e = absurd (cc)
place_below (x ∷ xs) zero a e = omega arith
place_below (x ∷ xs) (suc i) a e = let h = place_below xs i a e in omega arith

-- a hand of one version is empty without it
pub alone_left : (v : Version) (hand : List Version) → hand ≡ v ∷ [] → without_first v hand ≡ []
alone_left v hand one = ap (without_first v) one ∙ rw (eq-eqb v.0 v.0 refl) refl

module _ {U : Type 0} where
  -- a held version is known by its number
  pub held_known : (s : Facts U) (v : Version) → IsHeldAt s v
      → find_version s.part.hands.held v ≡ Some (known_at s v)
  held_known s v h =
      let m = among s.part.hands.held v h in
      let same : known_at s v ≡ m.0 = ap (λ (o : Option Known). unwrap_or o nothing_known)
      (found_first s.part.hands.held s.part.hands.own v m.0 m.1) in
      m.1 ∙ ap Some (sym same)

  -- its name is found by that number
  pub held_name : (s : Facts U) (v : Version) → IsHeldAt s v
      → place_name s.part.hands.held (Some v) ≡ Some (known_at s v).name
  held_name s v h = ap (option_map (λ (k : Known). k.name)) (held_known s v h)

  -- and is the name at a place that names it
  pub root_named : (s : Facts U) (r : ℕ) (v : Version) → IsAtPlace s r v → IsHeldAt s v
      → name_at (names_at s) r ≡ Some (known_at s v).name
  root_named s r v at h =
      name_place s.part.hands.held s.roots r ∙ (ap (place_name s.part.hands.held) at ∙ held_name s v h)

  -- such a version leads to this, once it is settled at a root place
  pub record OnceSettled (t : Facts U) (r : Root) (v : Version) (P : Facts U → Type 0) : Type 0 where
    pub hand : IsInHand t v
    pub then : (u : Facts U) → Settles t r v u → P u

module _ {U : Type 0} (lawful : U → PlainStore → Type 0) (allowed : U → PlainStore → Entry → Type 0)
    (m : Made U) where
  -- a pass at work rests where a root place names a held version instead, or none, and its hand is empty
  pub placed_keeps : (s : Facts U) (r : Root) (v : Option Version) (hand : List Version) → Works lawful allowed s m
      → hand ≡ [] → IfSome v (IsHeldAt s) → Keeps lawful allowed (with_hand (with_root s r v) hand) m
  placed_keeps s r v hand works empty held =
      let sound = works.sound in
      let none : length hand ≡ 0 = ap (λ (l : List Version). length l) empty in
      record {
        resting = record {
          fits = record { cells = works.fits.cells; site = works.fits.site };
          rest = record { hand = empty; few = works.few; spare = works.spare };
        };
        sound = record {
          sure = sound.sure;
          old = sound.old;
          listed = sound.listed;
          counted = sound.counted;
          cleared = sound.cleared;
          scanned = sound.scanned;
          apart = sound.apart;
          wide = length-set s.roots r.0 v ∙ sound.wide;
          rooted = All-set (λ (o : Option Version). IfSome o (IsHeldAt s)) s.roots r.0 v held sound.rooted;
          handed = λ k d low. absurd (omega arith);
        };
      }

  -- a version that is alone in hand is held
  pub alone_in_hand : (t : Facts U) (v : Version) → IsSound lawful allowed t → t.hand ≡ v ∷ [] → IsInHand t v
  alone_in_hand t v sound one =
      let c : Contains t.hand v = subst (λ (l : List Version). Contains l v) (sym one) (zero, omega arith, refl) in
      (All-contains (IsHeldAt t) t.hand v sound.handed c, c)

  -- a step took one version, which is known, and alone in hand
  pub record HasTaken (t : Facts U) (v : Version) (n : Known) : Type 0 where
    pub works : Works lawful allowed t m
    pub known : known_at t v ≡ n
    pub hand : t.hand ≡ v ∷ []

  module _ (s t : Facts U) (act : Act) (x : ℕ) (k : Keeps lawful allowed s m) (after : IsSound lawful allowed t)
      (took : Takes lawful allowed s act x t) (v : Version) (n : Known) (is : n.version ≡ v)
      (work : IsWork act) where
    taken_by : known_at t n.version ≡ n → t.hand ≡ n.version ∷ [] → HasTaken t v n
    taken_by known hand = subst (λ (w : Version). HasTaken t w n) is record {
      works =
          let one : length t.hand ≡ 1 = ap (λ (l : List Version). length l) hand in
          works_one lawful allowed s t act x took m work (rest_works lawful allowed s m k) after (omega arith);
      known = known;
      hand = hand;
    }

    -- the version that it found
    pub found_taken : took.found ≡ Some n → publishes act x ≡ None → HasTaken t v n
    found_taken found nothing =
        taken_by (found_held lawful allowed s t act x k.sound after took n found).1
        (hand_taken lawful allowed s t act x took (Some n) None k.resting.rest.hand found nothing)

    -- or the one that it published
    pub new_taken : took.found ≡ None → publishes act x ≡ Some n → HasTaken t v n
    new_taken none new =
        taken_by (new_held lawful allowed s t act x k.sound after took n new).1
        (hand_taken lawful allowed s t act x took None (Some n) k.resting.rest.hand none new)

  module _ (t : Facts U) (r : Root) (v : Version) (n : Known) (has : HasTaken t v n) where
    -- it may be settled
    pub taken_hand : IsInHand t v
    taken_hand = alone_in_hand t v has.works.sound has.hand

    -- by its name
    pub taken_name : place_name t.part.hands.held (Some v) ≡ Some n.name
    taken_name = held_name t v taken_hand.0 ∙ ap (λ (k : Known). Some k.name) has.known

    -- others see nothing of that where the place had the name before
    pub settled_same : name_at (names_at t) r.0 ≡ Some n.name → sight_of (settled t r v) ≡ sight_of t
    settled_same was =
        let name = place_name t.part.hands.held in
        let same : name (Some v) ≡ name (get_or t.roots r.0 None) =
        taken_name ∙ (sym was ∙ name_place t.part.hands.held t.roots r.0) in
        λ i. record (sight_of t) { roots = map-set_same name t.roots r.0 (Some v) None same i }

    -- and the pass rests
    pub settled_keeps : Keeps lawful allowed (settled t r v) m
    settled_keeps = placed_keeps t r (Some v) (without_first v t.hand) has.works (alone_left v t.hand has.hand)
        taken_hand.0

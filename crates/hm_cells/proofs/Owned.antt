-- What a caller knows of itself in running words says what its part says.
use Rattle.std.proofs.Common.{◌≡◌, ◌<◌, ◌+◌, ◌-◌, ◌/◌, ◌%◌, ◌==◌, ◌&&◌, ℕ, zero, suc, Bool, true, false, List, [], ◌∷◌, ◌++◌, length, get_or, take, replicate, Option, Some, None, if◌then◌else◌, refl, sym, ap, ◌∙◌, arith, nat_lt}
use Rattle.std.proofs.lemmas.Bool.Decides.{nat_tests}
use Rattle.std.proofs.lemmas.Option.{none-some, slice_get_past, slice_get-get_or}
use Rattle.std.proofs.Math.Seq.{take-append_seam}
use Rattle.std.specs.Prelude.{slice_get, slice_index_or, is_some}
use Rattle.std.specs.List.{list_all}
use Rattle.std.specs.Option.{option_map}
use Rattle.hm_shape.specs.declared.roles.Roles.{Roles}
use Rattle.hm_shape.specs.declared.shape.Shape.{Shape}
use Rattle.hm_shape.specs.declared.version.Version.{Version}
use Rattle.hm_shape.specs.Versions.{owner_of, region_of, version_at}
use Rattle.hm_moves.specs.declared.part.Known.{Known}
use Rattle.hm_moves.specs.declared.part.Part.{Part}
use Rattle.hm_moves.specs.Cycles.{field_count, field_word, gives_from, has_masks, is_at_cursor, is_next, known_from}
use Rattle.hm_cells.specs.Facts.{IsListed, nothing_known, own_place}
use Rattle.hm_cells.specs.Owns.{cursor_at, first_of, has_all, is_that, knows_from, old_count, own_of, own_version, padded, placed_in}

-- behind the masks of the heap's callers there is none
abbrev nones : ℕ → List (Option Roles)
nones n = replicate n None

none_more : (n q : ℕ) → slice_index_or (nones n) q None ≡ None
none_more zero q = refl
none_more (suc n) zero = refl
none_more (suc n) (suc q) = none_more n q

more_none : (masks : List (Option Roles)) (n q : ℕ)
    → slice_index_or (masks ++ nones n) q None ≡ slice_index_or masks q None
more_none [] n q = none_more n q
more_none (m ∷ ms) n zero = refl
more_none (m ∷ ms) n (suc q) = more_none ms n q

pub padded_get : (masks : List (Option Roles)) (q : ℕ)
    → slice_index_or (padded masks) q None ≡ slice_index_or masks q None
padded_get masks q = more_none masks (8 - length masks) q

-- and so the masks of the heap's callers are all that there are
pub padded_take : (masks : List (Option Roles)) (n : ℕ) → length masks ≡ n
    → take n (padded masks) ≡ masks
padded_take masks n wide =
    ap (λ (k : ℕ). take k (padded masks)) (sym wide)
    ∙ take-append_seam masks (replicate (8 - length masks) None)

-- the Old region, if there is one, is counted by its number or by that of its first version
count_same : (s : Shape) (f : ℕ → ℕ) (old : Option ℕ)
    → old_count s (option_map f old) ≡ old_count s old
count_same s f None = refl
count_same s f (Some region) = refl

module _ {U : Type 0} (p : Part U) (old : Option ℕ) where
  -- a version is known as from-space
  pub known_is : (v : Version) → known_from p v ≡ knows_from (own_of p old) v
  known_is v = ap (λ (m : Option Roles). gives_from m (region_of p.site.shape v))
      (sym (padded_get p.cycle.scan.masks (owner_of p.site.shape v)))

  -- all masks are there
  pub has_is : length p.cycle.scan.masks ≡ p.site.shape.callers
      → has_masks p ≡ has_all (own_of p old)
  has_is wide = ap (λ (l : List (Option Roles)). list_all is_some l)
      (sym (padded_take p.cycle.scan.masks p.site.shape.callers wide))

  -- so many versions are there
  pub count_is : old_count p.site.shape (option_map (first_of p) old)
      ≡ old_count p.site.shape old
  count_is = count_same p.site.shape (first_of p) old

-- a version lies at its place of a region, counted from the first one
place_is : {U : Type 0} (p : Part U) (old : Option ℕ) (i : ℕ)
    → placed_in p.site.shape (option_map (first_of p) old) (first_of p p.draft.region) i
    ≡ own_place p old i
place_is p None i = ap (λ (n : ℕ). record { 0 = n }) (omega arith)
place_is p (Some region) i = go (nat_lt i p.site.shape.versions)
  where
    go : (t : Bool)
        → (if t then record { 0 = first_of p region + i }
        else record { 0 = first_of p p.draft.region + (i - p.site.shape.versions) })
        ≡ (if t then version_at p.site.shape p.number region i
        else version_at p.site.shape p.number p.draft.region (i - p.site.shape.versions))
    go true = ap (λ (n : ℕ). record { 0 = n }) (omega arith)
    go false = ap (λ (n : ℕ). record { 0 = n }) (omega arith)

module _ {U : Type 0} (p : Part U) (old : Option ℕ) (listed : IsListed p old) where
  -- the i-th version is that of the caller
  pub version_is : (i : ℕ) → option_map (λ k. k.version) (slice_get p.hands.own i)
      ≡ own_version (own_of p old) i
  version_is i =
      go (nat_lt i (old_count p.site.shape (option_map (first_of p) old) + p.draft.used)) refl
    where
      all : length p.hands.own
          ≡ old_count p.site.shape (option_map (first_of p) old) + p.draft.used
      all = listed.count ∙ ap (λ (n : ℕ). n + p.draft.used) (sym (count_is p old))

      here : (o : Option Known) → slice_get p.hands.own i ≡ o → i < length p.hands.own
          → option_map (λ k. k.version) o ≡ Some (own_place p old i)
      here None e low = absurd (none-some (get_or p.hands.own i nothing_known)
          (sym e ∙ slice_get-get_or p.hands.own i nothing_known low))
      here (Some k) e low = ap Some (listed.places i k e)

      go : (t : Bool)
          → nat_lt i (old_count p.site.shape (option_map (first_of p) old) + p.draft.used) ≡ t
          → option_map (λ k. k.version) (slice_get p.hands.own i)
          ≡ (if t then Some (placed_in p.site.shape (option_map (first_of p) old)
          (first_of p p.draft.region) i) else None)
      go true e = here (slice_get p.hands.own i) refl (grind (arith, nat_tests, all))
          ∙ ap Some (sym (place_is p old i))
      go false e = ap (option_map (λ (k : Known). k.version))
          (slice_get_past p.hands.own i (grind (arith, nat_tests, all)))

  -- the scan has come to a word
  pub cursor_is : (at : Known) (j : ℕ)
      → is_at_cursor p at j ≡ cursor_at (own_of p old) at.version j
  cursor_is at j = ap (λ (t : Bool). t && (j == field_word (p.cycle.scan.cursor % field_count)))
      (one (slice_get p.hands.own (p.cycle.scan.cursor / field_count))
      ∙ ap (λ (o : Option Version). is_that o at.version)
      (version_is (p.cycle.scan.cursor / field_count)))
    where
      one : (o : Option Known) → is_next o at ≡ is_that (option_map (λ k. k.version) o) at.version
      one None = refl
      one (Some k) = refl

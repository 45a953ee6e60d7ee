-- Numbers of rows, of versions in rows, and of their owners and regions.
use Rattle.std.proofs.Common.{◌≡◌, ◌<◌, ◌+◌, ◌-◌, ◌*◌, ◌/◌, ◌%◌, ℕ, suc, refl, sym, ap, ◌∙◌, arith, lt-ltb}
use Rattle.std.proofs.lemmas.Nat.{div-mul-add, div-add-mod', div_below, mod_below, mul-add-lt}
use Rattle.hm_shape.specs.Versions.{owner_of, region_of, version_count}
use Rattle.hm_shape.specs.declared.shape.Shape.{Shape}
use Rattle.hm_shape.specs.declared.version.Version.{Version}
use Rattle.hm_shape.proofs.Numbering.{owner_of-at, region_of-at}
use Rattle.hm_moves.specs.Places.{row_count, row_of}
use Rattle.hm_moves.specs.Showing.{owner_shown, shape_shown}

module _ (s : Shape) where
  some_regions : 0 < s.regions
  some_regions = omega (arith, s.regions_fit)

  some_versions : 0 < s.versions
  some_versions = omega (arith, s.versions_fit)

  -- a region of a caller is one of the rows
  pub row_below : (q g : ℕ) → q < s.callers → g < s.regions → row_of s q g < row_count s
  row_below q g a b = let h = mul-add-lt q s.regions g s.callers a b in omega (arith, h)

  owner_in : (row : ℕ) → row < row_count s → owner_shown s row ≡ row / s.regions
  owner_in row low = rw (lt-ltb row (row_count s) low) refl

  -- and its owner is that caller
  pub owner_of_row : (q g : ℕ) → q < s.callers → g < s.regions → owner_shown s (row_of s q g) ≡ q
  owner_of_row q g a b = owner_in (row_of s q g) (row_below q g a b) ∙ div-mul-add q s.regions g b

  -- each row is a region of a caller
  pub row_parts : (row : ℕ) → row < row_count s
      → (q : ℕ) × (g : ℕ) × (q < s.callers) × (g < s.regions) × (row ≡ row_of s q g)
  row_parts row low = (
    row / s.regions,
    row % s.regions,
    div_below row s.regions s.callers some_regions low,
    mod_below row s.regions some_regions,
    sym (div-add-mod' row s.regions),
  )

  -- each version lies at a place of a row
  pub version_parts : (v : ℕ) → v < version_count s
      → (row : ℕ) × (i : ℕ) × (row < row_count s) × (i < s.versions) × (v ≡ row * s.versions + i)
  version_parts v low = (
    v / s.versions,
    v % s.versions,
    div_below v s.versions (row_count s) some_versions low,
    mod_below v s.versions some_versions,
    sym (div-add-mod' v s.versions),
  )

  -- the row of a version at a place of it
  pub row_in_place : (row i : ℕ) → i < s.versions → (row * s.versions + i) / s.versions ≡ row
  row_in_place row i low = div-mul-add row s.versions i low

  -- its row in the state is the one of its number
  pub region_of_shown : (v : ℕ) → (shape_shown s).region (suc v) ≡ v / s.versions
  region_of_shown v = let same : suc v - 1 ≡ v = omega arith in ap (λ (n : ℕ). n / s.versions) same

  -- so for a place of a row
  pub region_shown : (row i : ℕ) → i < s.versions → (shape_shown s).region
      (suc (row * s.versions + i)) ≡ row
  region_shown row i low = region_of_shown (row * s.versions + i) ∙ row_in_place row i low

  -- and that it is below all versions
  pub version_below : (row i : ℕ) → row < row_count s → i < s.versions
      → row * s.versions + i < version_count s
  version_below row i a b = let h = mul-add-lt row s.versions i (row_count s) a b in
      omega (arith, h)

  -- a version at a place of a caller's region has that owner
  pub owner_of_version : (v : Version) (q g i : ℕ) → q < s.callers → g < s.regions → i < s.versions
      → v.0 ≡ row_of s q g * s.versions + i → owner_of s v ≡ q
  owner_of_version v q g i a b c is = owner_of-at s v q g i
      record { number = λ k. record { 0 = is k }; owner_fits = a; region_fits = b; place_fits = c }

  -- and lies in that region
  pub region_of_version : (v : Version) (q g i : ℕ) → q < s.callers → g < s.regions → i < s.versions
      → v.0 ≡ row_of s q g * s.versions + i → region_of s v ≡ g
  region_of_version v q g i a b c is = region_of-at s v q g i
      record { number = λ k. record { 0 = is k }; owner_fits = a; region_fits = b; place_fits = c }

-- How the versions of a heap are numbered: those of a region in a row, regions and callers too.
use Rattle.std.specs.Prelude.{◌≡◌, ℕ, ◌+◌, ◌*◌, ◌/◌, ◌%◌, ◌<◌}
use Rattle.hm_shape.specs.declared.shape.Shape.{Shape}
use Rattle.hm_shape.specs.declared.version.Version.{Version}

-- how many versions a heap has
abbrev pub version_count : Shape → ℕ
version_count shape = shape.callers * shape.regions * shape.versions

-- the heap has a version of this number
abbrev pub IsVersionOf : Shape → Version → Type 0
IsVersionOf shape version = version.0 < version_count shape

-- before the version at a place come those of earlier callers, earlier regions and earlier places
abbrev pub version_at : Shape → (owner region place : ℕ) → Version
version_at shape owner region place =
    record { 0 = (owner * shape.regions + region) * shape.versions + place }

-- the version is the one at this place, and the heap has such a caller, region and place
pub record IsAt (shape : Shape) (version : Version) (owner region place : ℕ) : Type 0 where
  pub number : version ≡ version_at shape owner region place
  pub owner_fits : owner < shape.callers
  pub region_fits : region < shape.regions
  pub place_fits : place < shape.versions

-- the caller whose region the version lies in
abbrev pub owner_of : Shape → Version → ℕ
owner_of shape version = version.0 / (shape.regions * shape.versions)

-- the region of its owner that the version lies in
abbrev pub region_of : Shape → Version → ℕ
region_of shape version = version.0 / shape.versions % shape.regions

-- the place of its region that the version lies at
abbrev pub place_of : Shape → Version → ℕ
place_of shape version = version.0 % shape.versions

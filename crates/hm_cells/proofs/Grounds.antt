-- Where a pass's versions lie, by its running words.
use Rattle.std.proofs.Common.{◌≡◌, ◌<◌, ◌≤◌, ◌+◌, ◌*◌, ℕ, Option, Some, None, IfSome, refl, arith}
use Rattle.std.proofs.Math.Nat.{mul-le-mul_right}
use Rattle.std.specs.Option.{option_map}
use Rattle.hm_shape.specs.declared.shape.Shape.{Shape}
use Rattle.hm_shape.specs.declared.roles.Role.TheVariants.{Old}
use Rattle.hm_shape.specs.Versions.{version_at, version_count}
use Rattle.hm_moves.specs.Cycles.{role_at}
use Rattle.hm_cells.proofs.Words.{Entry, PlainStore, Facts, IsSound, Part, IsGround, own_of, old_count, first_of}

-- so many versions from the first of a region on are the heap's
pub region_fits : (s : Shape) (q g : ℕ) → q < s.callers → g < s.regions
    → (version_at s q g 0).0 + s.versions ≤ version_count s
region_fits s q g low small =
    let more : q + 1 ≤ s.callers = omega (arith, low) in
    let all : (q + 1) * s.regions ≤ s.callers * s.regions = mul-le-mul_right s.regions more in
    let split : (q + 1) * s.regions ≡ q * s.regions + s.regions = grind arith in
    let rows : q * s.regions + g + 1 ≤ s.callers * s.regions =
    omega (arith, all, split, small) in
    let whole : (q * s.regions + g + 1) * s.versions ≤ s.callers * s.regions * s.versions =
    mul-le-mul_right s.versions rows in
    let parts : (q * s.regions + g + 1) * s.versions
    ≡ (q * s.regions + g) * s.versions + s.versions = grind arith in
    omega (arith, whole, parts)

module _ {U : Type 0} (lawful : U → PlainStore → Type 0)
    (allowed : U → PlainStore → Entry → Type 0) where
  old_fits : (p : Part U) (old : Option ℕ) → p.number < p.site.shape.callers
      → IfSome old (λ g. (g < p.site.shape.regions) × (role_at p.cycle.ties.roles g ≡ Old))
      → IfSome (option_map (first_of p) old)
      (λ first. first + p.site.shape.versions ≤ version_count p.site.shape)
  old_fits p None low h = tt
  old_fits p (Some g) low h = region_fits p.site.shape p.number g low h.0

  old_counts : (p : Part U) (old : Option ℕ)
      → old_count p.site.shape (option_map (first_of p) old) ≡ old_count p.site.shape old
  old_counts p None = refl
  old_counts p (Some g) = refl

  -- a sound pass's numbers are those of places of the heap
  pub ground_of : (s : Facts U) (sound : IsSound lawful allowed s)
      → IsGround (own_of s.part sound.old)
  ground_of s sound =
      let sure = sound.sure in
      let count = sound.listed.count in
      let short = sure.short in
      let same = old_counts s.part sound.old in record {
        number = sure.number;
        region = sure.region;
        to = refl;
        used = sure.room;
        full = old_fits s.part sound.old sure.number sound.listed.old_is;
        cursor = omega (arith, count, short, same);
      }
